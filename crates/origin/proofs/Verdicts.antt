-- `verdict` and `floor_verdict` do not move with the origin (02, Ask 7).
--   verdict-moved  : the answer is the same, in every field, refused or not
--   margin-moved   : the margin above a floor stays, at every place
--   floor-moved    : and so does the answer under a floor
-- n is the number given as the kind, l the level limit, xs the coordinate list, (a, b) the vector taken from each node. Assumes nothing.
use mathlib.Core.Path.{◌≡◌, sym, ap₂, subst}
use mathlib.Core.List.{List}
use mathlib.Core.Logic.{inl, inr}
use Prim.Native.Nat.{ℕ}
use lib.IntN.{ℤ, pos, ◌-ℤ◌, ◌*ℤ◌}
use lib.ListN.{length}
use lib.Signed.{◌≤ℤ◌}
use Rattle.algebra.proofs.Truth.{not-not}
use Rattle.element.specs.Kinds.{six, kind_of}
use Rattle.element.specs.Places.{Place, weight_of}
use Rattle.element.specs.Jacobian.{jacobian}
use Rattle.element.specs.Control.{control_values}
use Rattle.element.specs.Origin.{moved_by}
use Rattle.element.specs.Refusals.{Codes, no_more, code, Refused, Accepted, verdict_codes}
use Rattle.element.proofs.Origin.{jacobian-moved}
use Rattle.verdict.specs.Calls.{VerdictOf}
use Rattle.verdict.specs.declared.Judged.{Judged}
use Rattle.verdict.proofs.Outcomes.{verdict-unique}
use Rattle.floor.specs.Floor.{margin, shifted}
use Rattle.floor.specs.Calls.{NoPercent, NotPositive, floor_codes, FloorOf}
use Rattle.floor.proofs.Still.{straight-moved, shifted-moved}
use Rattle.floor.proofs.Parts.{small}
use Rattle.floor.proofs.Outcomes.{floor-unique}
use Rattle.faults.proofs.Limits.{kind-long}
use Rattle.origin.specs.Lists.{Sound}
use Rattle.origin.proofs.Orders.{list-refused, list-accepted, verdict-refused, verdict-accepted}
use Rattle.origin.proofs.Subjects.{told_same}
use Rattle.origin.proofs.Values.{element-values}

module _ (n l : ℕ) (xs : List ℤ) (a b : ℤ) (s : Sound n xs) (t : Sound n (moved_by a b xs)) where
  abbrev ys : List ℤ
  ys = moved_by a b xs

  verdict-as : (r : Judged) → VerdictOf n l xs r → VerdictOf n l ys r
  verdict-as r (inl q) = inl (record { refused = verdict-refused n xs a b s t l r.code q.refused; zeros = q.zeros })
  verdict-as r (inr q) =
      let k = kind_of n in let f = q.accepted.0 in
      inr (told_same k (jacobian k xs) (jacobian k ys) (control_values k xs) (control_values k ys) (verdict_codes n l xs) (verdict_codes n l ys) l r
      (λ x. sym (jacobian-moved a b xs k (kind-long n xs f s.0) x)) (sym (element-values n xs a b s f)) (verdict-accepted n xs a b s t l q.accepted) q)

  pub verdict-moved : (r r' : Judged) → VerdictOf n l xs r → VerdictOf n l (moved_by a b xs) r' → r ≡ r'
  verdict-moved r r' q w = verdict-unique n l ys r r' (verdict-as r q) w

-- ---- under a floor
module _ (xs : List ℤ) (a b : ℤ) (long : length xs ≡ 12) where
  pub margin-moved : (p : ℕ) (x : Place six) → margin p (moved_by a b xs) x ≡ margin p xs x
  margin-moved p x =
      ap₂ (λ (j s : ℤ). pos 100 *ℤ j -ℤ pos (weight_of six x) *ℤ (pos p *ℤ s)) (jacobian-moved a b xs six long x) (straight-moved a b xs long)

module _ (n l : ℕ) (xs : List ℤ) (p : ℕ) (a b : ℤ) (s : Sound n xs) (t : Sound n (moved_by a b xs)) where
  abbrev zs : List ℤ
  zs = moved_by a b xs

  abbrev own : List ℤ → Codes ℕ
  own us = code 16 (NoPercent p) (code 17 (NotPositive us) no_more)

  module _ (e : n ≡ 6) where
    long-six : length xs ≡ 12
    long-six = (small n xs e s.0 s.1).long

    own-refused : (c : ℕ) → Refused (own xs) c → Refused (own zs) c
    own-refused c (inl r) = inl r
    own-refused c (inr (f, inl r)) = inr (f, inl (subst (λ z. z ≤ℤ pos 0) (sym (straight-moved a b xs long-six)) r.0, r.1))
    own-refused c (inr (f, inr (g, r))) = absurd r

    own-accepted : Accepted (own xs) → Accepted (own zs)
    own-accepted (f, (g, u)) = (f, ((λ h. g (subst (λ z. z ≤ℤ pos 0) (straight-moved a b xs long-six) h)), u))

  floor-refused : (c : ℕ) → Refused (floor_codes n l xs p) c → Refused (floor_codes n l zs p) c
  floor-refused c (inl r) = inl r
  floor-refused c (inr (f, inl r)) = inr (f, inl r)
  floor-refused c (inr (f, inr (g, r))) =
      let e = not-not n 6 f in
      inr (f, inr (g, list-refused n xs a b s t (λ k. k.0.0 e) (own xs) (own zs) c (own-refused e c) r))

  floor-accepted : Accepted (floor_codes n l xs p) → Accepted (floor_codes n l zs p)
  floor-accepted (f, (g, u)) =
      let e = not-not n 6 f in (f, (g, list-accepted n xs a b s t (λ k. k.0.0 e) (own xs) (own zs) (own-accepted e) u))

  floor-as : (r : Judged) → FloorOf n l xs p r → FloorOf n l zs p r
  floor-as r (inl q) = inl (record { refused = floor-refused r.code q.refused; zeros = q.zeros })
  floor-as r (inr q) =
      let long = long-six (not-not n 6 q.accepted.0) in
      inr (told_same six (margin p xs) (margin p zs) (shifted p xs) (shifted p zs) (floor_codes n l xs p) (floor_codes n l zs p) l r
      (λ x. sym (margin-moved xs a b long p x)) (sym (shifted-moved a b xs long p)) (floor-accepted q.accepted) q)

  pub floor-moved : (r r' : Judged) → FloorOf n l xs p r → FloorOf n l (moved_by a b xs) p r' → r ≡ r'
  floor-moved r r' q w = floor-unique n l zs p r r' (floor-as r q) w
