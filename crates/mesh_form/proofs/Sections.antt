-- Rows are sections in one way (docs/GMSH.md, G4, G5).
--   parts-unique   : a list is parted at the first place of an element in one way
--   sections-unique : rows have no two lists of sections
-- Assumes nothing.
use mathlib.Core.Path.{◌≡◌, refl, sym, ap, ◌∙◌, subst}
use mathlib.Core.List.{List, [], ◌∷◌, ◌++◌, nil≢cons, Memᴰ}
use Prim.Native.Nat.{ℕ}
use lib.ListN.{drop}
use Rattle.mesh_text.specs.Rows.{first, rest}
use Rattle.mesh_form.specs.Mesh.{Row, ended, Section, Sections, no_sections, section}

parts-unique : (r : Row) (b c p q : List Row)
    → ¬ Memᴰ r b
    → ¬ Memᴰ r c
    → b ++ (r ∷ p) ≡ c ++ (r ∷ q)
    → (b ≡ c) × (p ≡ q)
parts-unique r [] [] p q m n e = (refl, ap rest e)
parts-unique r [] (x ∷ c) p q m n e = absurd (n (Memᴰ.head (ap first e)))
parts-unique r (x ∷ b) [] p q m n e = absurd (m (Memᴰ.head (sym (ap first e))))
parts-unique r (x ∷ b) (y ∷ c) p q m n e =
    let u = parts-unique r b c p q (λ k. m (Memᴰ.tail k)) (λ k. n (Memᴰ.tail k)) (ap rest e) in
    (ap (λ z. z ∷ b) (ap first e) ∙ ap (λ l. y ∷ l) u.0, u.1)

same-section : {x y : List ℕ} {b c : List Row} {ss tt : List Section}
    → x ≡ y
    → b ≡ c
    → ss ≡ tt
    → record { name = x; body = b } ∷ ss ≡ record { name = y; body = c } ∷ tt
same-section {y = y} {b = b} {c = c} {ss = ss} ex eb es =
    ap (λ z. record { name = z; body = b } ∷ ss) ex
    ∙ ap (λ z. record { name = y; body = z } ∷ ss) eb
    ∙ ap (λ l. record { name = y; body = c } ∷ l) es

-- the same of two lists of rows that are equal
sections-same : {q r : List Row} {ss tt : List Section} → Sections q ss → Sections r tt → q ≡ r → ss ≡ tt
sections-same no_sections no_sections e = refl
sections-same no_sections (section n v) e = absurd (nil≢cons e)
sections-same (section n v) no_sections e = absurd (nil≢cons (sym e))
sections-same (section {x} {b} {q} m v) (section {x = y} {b = c} {q = r} n w) e =
    let ex : x ≡ y = ap (λ l. drop 1 (first (first l))) e in
    let er : b ++ (ended x ∷ q) ≡ c ++ (ended x ∷ r) = ap rest e ∙ ap (λ z. c ++ (ended z ∷ r)) (sym ex) in
    let u = parts-unique (ended x) b c q r m (subst (λ z. ¬ Memᴰ (ended z) c) (sym ex) n) er in
    same-section ex u.0 (sections-same v w u.1)

pub sections-unique : {q : List Row} {ss tt : List Section} → Sections q ss → Sections q tt → ss ≡ tt
sections-unique v w = sections-same v w refl
