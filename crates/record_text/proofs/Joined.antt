-- A text is its lines, with a line feed between each two: none is lost, and none has a line feed in it.
--   joined ls      == the lists ls, with a line feed between each two
--   text-joined    : the lines of a text, joined, are the text
--   lines-bare     : no line has a line feed
-- Assumes nothing.
use mathlib.Core.Path.{◌≡◌, refl, sym, ap, ◌∙◌}
use mathlib.Core.Bool.{false}
use mathlib.Core.List.{List, [], ◌∷◌, ◌++◌}
use Prim.Native.Nat.{ℕ}
use borrow.Author.Tests.{eqb-true}
use Rattle.mesh_text.specs.Rows.{All, none, both, first, rest, parts, is_end, lines}
use Rattle.mesh_text.proofs.Rows.{by-test, parts_at, parts-on, parts-two}

-- 10 is the line feed
abbrev pub joined : List (List ℕ) → List ℕ
joined [] = []
joined (l ∷ []) = l
joined (l ∷ m ∷ ls) = l ++ (10 ∷ joined (m ∷ ls))

joined-onto : (b : ℕ) (l : List ℕ) (ls : List (List ℕ)) → joined ((b ∷ l) ∷ ls) ≡ b ∷ joined (l ∷ ls)
joined-onto b l [] = refl
joined-onto b l (m ∷ ls) = refl

parts-joined : (t : List ℕ) → joined (parts is_end t) ≡ t
parts-joined [] = refl
parts-joined (b ∷ t) =
    let e = parts-two is_end t in
    let h : joined (first (parts is_end t) ∷ rest (parts is_end t)) ≡ t = ap joined (sym e) ∙ parts-joined t in
    by-test (is_end b) (joined (parts is_end (b ∷ t)) ≡ b ∷ t)
    (λ z. ap joined (parts_at is_end b t z) ∙ ap (λ ls. joined ([] ∷ ls)) e ∙ ap (λ l. 10 ∷ l) h ∙ ap (λ c. c ∷ t) (sym (eqb-true b 10 z)))
    (λ z. ap joined (parts-on is_end b t z) ∙ joined-onto b (first (parts is_end t)) (rest (parts is_end t)) ∙ ap (λ l. b ∷ l) h)

pub text-joined : (t : List ℕ) → joined (lines t) ≡ t
unfolding lines
text-joined t = parts-joined t

abbrev Bare : List ℕ → Type 0
Bare l = All (λ c. is_end c ≡ false) l

onto-bare : (b : ℕ) (l : List ℕ) (ls : List (List ℕ)) → is_end b ≡ false → All Bare (l ∷ ls) → All Bare ((b ∷ l) ∷ ls)
onto-bare b l ls z (both h k) = both (both z h) k

parts-bare : (t : List ℕ) → All Bare (parts is_end t)
parts-bare [] = both none none
parts-bare (b ∷ t) =
    by-test (is_end b) (All Bare (parts is_end (b ∷ t)))
    (λ z. rw (parts_at is_end b t z) (both none (parts-bare t)))
    (λ z. rw (parts-on is_end b t z) (onto-bare b (first (parts is_end t)) (rest (parts is_end t)) z (rw (parts-two is_end t) at (parts-bare t))))

pub lines-bare : (t : List ℕ) → All (λ l. All (λ c. is_end c ≡ false) l) (lines t)
unfolding lines
lines-bare t = parts-bare t
