-- `straighten` does not move with the origin (02, Ask 7): the same nodes are replaced, and the triangle that comes back goes along.
--   gives_moved    : the same sets give valid
--   chosen-moved   : the same one is chosen
--   straighten-moved : code and replaced nodes are the same, and the new coordinates are moved as the triangle is
-- n is the number given as the kind, l the level limit, xs the coordinate list, (a, b) the vector taken from each node. Assumes nothing.
use mathlib.Core.Path.{◌≡◌, refl, sym, ◌∙◌, ap}
use mathlib.Core.List.{List}
use mathlib.Core.Logic.{inl, inr}
use Prim.Native.Nat.{ℕ}
use lib.IntN.{ℤ}
use lib.ListN.{length}
use Rattle.algebra.proofs.Truth.{not-not}
use Rattle.element.specs.Kinds.{six}
use Rattle.element.specs.Control.{control_values}
use Rattle.element.specs.Origin.{moved_by}
use Rattle.element.specs.Refusals.{Codes, no_more, code, Refused, Accepted}
use Rattle.element.proofs.Origin.{values_moved}
use Rattle.element.proofs.Refusals.{refused-some}
use Rattle.middles.specs.declared.Replaced.{Replaced}
use Rattle.middles.specs.Middles.{replacing}
use Rattle.middles.proofs.Triangles.{replaced-length}
use Rattle.middles.proofs.Moved.{replaced-moved}
use Rattle.straighten.specs.declared.Straightened.{Straightened}
use Rattle.straighten.specs.Calls.{GivesValid, NoneValid, Chosen, straighten_codes, given, refusal, NotStraightened, IsStraightened, StraightenOf, set_in}
use Rattle.straighten.proofs.Outcomes.{straighten-unique}
use Rattle.floor.proofs.Parts.{small}
use Rattle.origin.specs.Lists.{Sound}
use Rattle.origin.proofs.Orders.{list-refused, list-accepted}
use Rattle.origin.proofs.Sheets.{valid-as}

-- ---- which sets give valid
module _ (l : ℕ) (xs : List ℤ) (a b : ℤ) (long : length xs ≡ 12) where
  same : (s : Replaced) → control_values six (replacing xs s) ≡ control_values six (replacing (moved_by a b xs) s)
  same s = sym (values_moved a b (replacing xs s) six (replaced-length xs s)) ∙ ap (control_values six) (sym (replaced-moved a b xs long s))

  pub gives_moved : (s : Replaced) → GivesValid l xs s → GivesValid l (moved_by a b xs) s
  gives_moved s (x, v) = (x, valid-as six (replacing xs s) (replacing (moved_by a b xs) s) (same s) l x v)

  gives_back : (s : Replaced) → GivesValid l (moved_by a b xs) s → GivesValid l xs s
  gives_back s (x, v) = (x, valid-as six (replacing (moved_by a b xs) s) (replacing xs s) (sym (same s)) l x v)

  pub chosen-moved : (s : Replaced) → Chosen l xs s → Chosen l (moved_by a b xs) s
  chosen-moved s c = record { valid = gives_moved s c.valid; first = λ t v. c.first t (gives_back t v) }

-- ---- the call
module _ (n l : ℕ) (xs : List ℤ) (a b : ℤ) (s : Sound n xs) (t : Sound n (moved_by a b xs)) where
  abbrev ys : List ℤ
  ys = moved_by a b xs

  abbrev last : List ℤ → Codes ℕ
  last us = code 22 (NoneValid l us) no_more

  long-six : n ≡ 6 → length xs ≡ 12
  long-six e = (small n xs e s.0 s.1).long

  last-refused : n ≡ 6 → (c : ℕ) → Refused (last xs) c → Refused (last ys) c
  last-refused e c (inl (f, q)) = inl ((λ u v. f u (gives_back l xs a b (long-six e) u v)), q)
  last-refused e c (inr (f, q)) = absurd q

  last-accepted : n ≡ 6 → Accepted (last xs) → Accepted (last ys)
  last-accepted e (f, q) = ((λ g. f (λ u v. g u (gives_moved l xs a b (long-six e) u v))), q)

  codes-refused : (c : ℕ) → Refused (straighten_codes n l xs) c → Refused (straighten_codes n l ys) c
  codes-refused c (inl r) = inl r
  codes-refused c (inr (f, inl r)) = inr (f, inl r)
  codes-refused c (inr (f, inr (g, r))) =
      let e = not-not n 6 f in
      inr (f, inr (g, list-refused n xs a b s t (λ k. k.0.0 e) (last xs) (last ys) c (last-refused e c) r))

  codes-accepted : Accepted (straighten_codes n l xs) → Accepted (straighten_codes n l ys)
  codes-accepted (f, (g, u)) =
      let e = not-not n 6 f in (f, (g, list-accepted n xs a b s t (λ k. k.0.0 e) (last xs) (last ys) (last-accepted e) u))

  module _ (r q : Straightened) (w : StraightenOf n l (moved_by a b xs) q) where
    abbrev Alike : Type 0
    Alike = (q.code ≡ r.code) × (set_in q ≡ set_in r) × (r.code ≡ 0 → q.coords ≡ moved_by a b r.coords)

    refused-alike : NotStraightened n l xs r → Alike
    refused-alike p =
        let e = straighten-unique n l ys q (refusal r.code) w (inl (record { refused = codes-refused r.code p.refused; zeros = refl })) in (
          ap (λ (x : Straightened). x.code) e,
          ap set_in e ∙ sym (ap set_in p.zeros),
          λ z. absurd (refused-some (straighten_codes n l xs) r.code tt p.refused z),
        )

    told-alike : IsStraightened n l xs r → Alike
    told-alike p =
        let long = long-six (not-not n 6 p.accepted.0) in
        let e = straighten-unique n l ys q (given ys p.set) w
        (inr
        (record {
          accepted = codes-accepted p.accepted;
          set = p.set;
          chosen = chosen-moved l xs a b long p.set p.chosen;
          told = refl;
        })) in (
          ap (λ (x : Straightened). x.code) e ∙ sym (ap (λ (x : Straightened). x.code) p.told),
          ap set_in e ∙ sym (ap set_in p.told),
          λ z. ap (λ (x : Straightened). x.coords) e ∙ replaced-moved a b xs long p.set ∙ ap (λ (x : Straightened). moved_by a b x.coords) (sym p.told),
        )

    pub straighten-moved : StraightenOf n l xs r
        → (q.code ≡ r.code) × (set_in q ≡ set_in r) × (r.code ≡ 0 → q.coords ≡ moved_by a b r.coords)
    straighten-moved (inl p) = refused-alike p
    straighten-moved (inr p) = told-alike p
