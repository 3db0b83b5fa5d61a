-- A search from word to word and from line to line.
--   Ahead o p      == the faults of p are those of o that are left: none of o before them is there
--   ahead-start, ahead_past, ahead-then : at first; behind a fault, and behind an order, that is not there
--   finds-ahead    : what is found among those left is found
--   words-end, words-here, words-next : at the end of a line, at a word with the fault, and behind one without it
--   words-silent, silent-none, lacks-found, lacks-none : a line that counts for nothing; one with too few words; one with enough
--   last-form      : bytes behind the last line feed
--   lines-here, lines_next, lines_cut, lines-over : a line in which the fault is found; one without it; the last, with and without bytes
-- Assumes nothing.
use mathlib.Core.Path.{◌≡◌, refl, sym, ap, ◌∙◌, subst}
use mathlib.Core.Bool.{true, false, true≢false}
use mathlib.Core.List.{List, [], ◌∷◌}
use mathlib.Core.Logic.{inl, inr}
use Prim.Native.Nat.{ℕ, suc, ◌<◌}
use native.Mathlib.Omega.{arith}
use Rattle.element.proofs.Refusals.{refused-then, past-then, accepted-then}
use Rattle.element.specs.Refusals.{Codes, code, ◌then◌, Refused, Accepted}
use Rattle.mesh_text.specs.Rows.{first, rest, is_nil, lines, line, is_end}
use Rattle.mesh_text.proofs.Rows.{parts-two}
use Rattle.record_text.specs.declared.Test.{Test}
use Rattle.record_text.specs.declared.Test.TheVariants.{Form, Whole}
use Rattle.std.specs.Prelude.{Option, None, Some}
use Rattle.record_text.specs.declared.Place.{Place}
use Rattle.record_text.specs.Faults.{Spot, spot, Silent, Flawed, each_word, cut_line}
use Rattle.record_text.specs.Finds.{Finds, code_of, FlawBy, LacksBy, words_by, last_by, lines_by}

-- ---- what is left of an order
pub record Ahead (o p : Codes Spot) : Type 0 where
  pub refused : (a : Spot) → Refused p a → Refused o a
  pub accepted : Accepted p → Accepted o

pub ahead-start : {o : Codes Spot} → Ahead o o
ahead-start = record { refused = λ a r. r; accepted = λ a. a }

pub ahead_past : {o p : Codes Spot} {a : Spot} {F : Type 0} → ¬ F → Ahead o (code a F p) → Ahead o p
ahead_past n h = record { refused = λ a r. h.refused a (inr (n, r)); accepted = λ a. h.accepted (n, a) }

pub ahead-then : {o p : Codes Spot} (q : Codes Spot) → Accepted q → Ahead o (q then p) → Ahead o p
ahead-then {o} {p} q n h = record { refused = λ a r. h.refused a (past-then q p a n r); accepted = λ a. h.accepted (accepted-then q p n a) }

pub finds-ahead : {o p : Codes Spot} (c : ℕ) (r : Option Place) → Ahead o p → Finds p c r → Finds o c r
finds-ahead c None h f = h.accepted f
finds-ahead c (Some r) h f = (h.refused (spot c r.line r.word) f.0, f.1)

-- ---- the words of a line
module _ {o : Codes Spot} (c n : ℕ) (F : ℕ → List ℕ → Type 0) (k : ℕ) where
  pub words-end : (ws : List (List ℕ)) → is_nil ws ≡ true → Ahead o (each_word c n F k ws) → Accepted o
  words-end [] e h = h.accepted tt
  words-end (w ∷ ws) e h = absurd (true≢false (sym e))

  pub words-here : (ws : List (List ℕ)) → is_nil ws ≡ false → F k (first ws) → Ahead o (each_word c n F k ws) → Refused o (spot c n k)
  words-here [] e f h = absurd (true≢false e)
  words-here (w ∷ ws) e f h = h.refused (spot c n k) (inl (f, refl))

  pub words-next : (ws us : List (List ℕ)) → is_nil ws ≡ false → ¬ F k (first ws) → us ≡ rest ws → Ahead o (each_word c n F k ws)
      → Ahead o (each_word c n F (suc k) us)
  words-next [] us e f q h = absurd (true≢false e)
  words-next (w ∷ ws) us e f q h = rw q (ahead_past f h)

-- ---- one line
module _ (n : ℕ) (ws : List (List ℕ)) where
  pub words-silent : Silent ws → (c : ℕ) (F : ℕ → List ℕ → Type 0) (k : ℕ) (us : List (List ℕ)) → Accepted (each_word c n (Flawed F ws) k us)
  words-silent s c F k [] = tt
  words-silent s c F k (u ∷ us) = ((λ f. f.0 s), words-silent s c F (suc k) us)

  pub silent-none : (x : Test) → Silent ws → Accepted (words_by x n ws)
  silent-none Form s = ((λ f. f.0 s), words-silent s 13 (FlawBy Form) 1 ws)
  silent-none Whole s = words-silent s 14 (FlawBy Whole) 1 ws

  pub lacks-found : (x : Test) → ¬ Silent ws → LacksBy x ws → 0 < n → Finds (words_by x n ws) (code_of x) (Some (record { line = n; word = 0 }))
  lacks-found Form s l h = (inl ((s, l), refl), (λ z. absurd (omega arith)))
  lacks-found Whole s l h = absurd l

  pub lacks-none : (x : Test) (r : Option Place) → ¬ LacksBy x ws → Finds (each_word (code_of x) n (Flawed (FlawBy x) ws) 1 ws) (code_of x) r
      → Finds (words_by x n ws) (code_of x) r
  lacks-none Form None l f = ((λ q. l q.1), f)
  lacks-none Form (Some r) l f = (inr ((λ q. l q.1), f.0), f.1)
  lacks-none Whole r l f = f

-- ---- behind the last line feed
pub last-form : (n : ℕ) (l : List ℕ) → 0 < n → ¬ (l ≡ []) → Finds (cut_line n l) 13 (Some (record { line = n; word = 0 }))
last-form n l h f = (inl (f, refl), (λ z. absurd (omega arith)))

-- ---- from line to line
module _ {o : Codes Spot} (x : Test) (n : ℕ) (u v : List ℕ) where
  more-lines : lines u ≡ first (lines u) ∷ lines v → Ahead o (lines_by x n (lines u)) → Ahead o (words_by x n (line u) then lines_by x (suc n) (lines v))
  unfolding line lines
  more-lines e h =
      let q = parts-two is_end v in
      subst (λ ls. Ahead o (words_by x n (line u) then lines_by x (suc n) ls)) (sym q)
      (subst (λ ls. Ahead o (lines_by x n ls)) (e ∙ ap (λ ls. first (lines u) ∷ ls) q) h)

  pub lines-here : (r : Place) → lines u ≡ first (lines u) ∷ lines v → Ahead o (lines_by x n (lines u))
      → Finds (words_by x n (line u)) (code_of x) (Some r) → Finds o (code_of x) (Some r)
  lines-here r e h f =
      ((more-lines e h).refused (spot (code_of x) r.line r.word) (refused-then (words_by x n (line u)) (lines_by x (suc n) (lines v)) _ f.0), f.1)

  pub lines_next : lines u ≡ first (lines u) ∷ lines v → Ahead o (lines_by x n (lines u))
      → Accepted (words_by x n (line u)) → Ahead o (lines_by x (suc n) (lines v))
  lines_next e h f = ahead-then (words_by x n (line u)) f (more-lines e h)

pub lines_cut : {o : Codes Spot} (r : Option Place) (x : Test) (n : ℕ) (u : List ℕ) → lines u ≡ u ∷ [] → Ahead o (lines_by x n (lines u))
    → Finds (last_by x n u) (code_of x) r → Finds o (code_of x) r
lines_cut {o} r x n u e h f = finds-ahead (code_of x) r (subst (λ ls. Ahead o (lines_by x n ls)) e h) f

pub lines-over : {o : Codes Spot} (x : Test) (n : ℕ) (u : List ℕ) → u ≡ [] → Ahead o (lines_by x n (lines u)) → Accepted o
unfolding lines
lines-over {o} Form n u e h = (subst (λ l. Ahead o (lines_by Form n (lines l))) e h).accepted ((λ f. f refl), tt)
lines-over {o} Whole n u e h = (subst (λ l. Ahead o (lines_by Whole n (lines l))) e h).accepted tt
