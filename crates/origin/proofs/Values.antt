-- `control_values` and `solver_bounds` do not move with the origin (02, Ask 7).
--   element-values : the control values of a list without 3 and 4 stay
--   control-moved  : answer and buffer of `control_values` are the same, in every field and number, refused or not
--   bounds-moved   : the answer of `solver_bounds` is the same, in every field
-- n is the number given as the kind, xs the coordinate list, (a, b) the vector taken from each node. Assumes nothing.
use mathlib.Core.Path.{◌≡◌, sym, ◌∙◌, ap, subst}
use mathlib.Core.List.{List, ◌++◌}
use mathlib.Core.Logic.{inl, inr}
use Prim.Native.Nat.{ℕ}
use lib.IntN.{ℤ}
use lib.ListN.{length, drop}
use Rattle.element.specs.Kinds.{kind_of, NotKind, value_count}
use Rattle.element.specs.Control.{control_values}
use Rattle.element.specs.Origin.{moved_by}
use Rattle.element.specs.Refusals.{Codes, no_more, code, Refused, ShortRoom, control_codes, bounds_codes}
use Rattle.element.proofs.Origin.{values_moved}
use Rattle.faults.proofs.Limits.{kind-long}
use Rattle.control.specs.Calls.{Bounded, ControlValues, code_of, SolverBounds, BoundsOf, bounds_of}
use Rattle.control.specs.declared.Controlled.{Controlled}
use Rattle.control.proofs.Outcomes.{control-values-unique, solver-bounds-unique}
use Rattle.origin.specs.Lists.{Sound}
use Rattle.origin.proofs.Orders.{list-refused, list-accepted}

module _ (n : ℕ) (xs : List ℤ) (a b : ℤ) (s : Sound n xs) where
  pub element-values : ¬ NotKind n → control_values (kind_of n) (moved_by a b xs) ≡ control_values (kind_of n) xs
  element-values f = values_moved a b xs (kind_of n) (kind-long n xs f s.0)

  module _ (t : Sound n (moved_by a b xs)) where
    abbrev ys : List ℤ
    ys = moved_by a b xs

    abbrev short : ℕ → Codes ℕ
    short room = code 5 (ShortRoom (kind_of n) room) no_more

    control-refused : (room c : ℕ) → Refused (control_codes n xs room) c → Refused (control_codes n ys room) c
    control-refused room c (inl r) = inl r
    control-refused room c (inr (f, r)) = inr (f, list-refused n xs a b s t f (short room) (short room) c (λ q. q) r)

    control-as : (before : List ℤ) (r : Controlled) (o : List ℤ) → ControlValues n xs before r o → ControlValues n ys before r o
    control-as before r o (inl q) =
        inl (record { refused = control-refused (length before) r.code q.refused; zeros = q.zeros; untouched = q.untouched })
    control-as before r o (inr q) =
        let (f, u) = q.accepted in
        inr (record {
          accepted = (f, list-accepted n xs a b s t f (short (length before)) (short (length before)) (λ q. q) u);
          answer = q.answer;
          filled = q.filled ∙ ap (λ (c : List ℤ). c ++ drop (value_count (kind_of n)) before) (sym (element-values f));
        })

    pub control-moved : (before : List ℤ) (r r' : Controlled) (o o' : List ℤ) → ControlValues n xs before r o
        → ControlValues n (moved_by a b xs) before r' o'
        → (r ≡ r') × (o ≡ o')
    control-moved before r r' o o' q w = control-values-unique n ys before r r' o o' (control-as before r o q) w

    bounds-refused : (c : ℕ) → Refused (bounds_codes n xs) c → Refused (bounds_codes n ys) c
    bounds-refused c (inl r) = inl r
    bounds-refused c (inr (f, r)) = inr (f, list-refused n xs a b s t f no_more no_more c (λ q. q) r)

    bounds-as : (r : Bounded) → SolverBounds n xs r → SolverBounds n ys r
    bounds-as r (inl q) =
        inl (record { refused = bounds-refused (code_of r) q.refused; no_number = q.no_number; no_lo = q.no_lo; no_hi = q.no_hi })
    bounds-as r (inr q) =
        inr (record {
          accepted = (q.accepted.0, list-accepted n xs a b s t q.accepted.0 no_more no_more (λ u. u) q.accepted.1);
          told = q.told;
          no_code = q.no_code;
          no_number = q.no_number;
          bounds = subst (λ (c : List ℤ). BoundsOf c (bounds_of r)) (sym (element-values q.accepted.0)) q.bounds;
        })

    pub bounds-moved : (r r' : Bounded) → SolverBounds n xs r → SolverBounds n (moved_by a b xs) r' → r ≡ r'
    bounds-moved r r' q w = solver-bounds-unique n ys r r' (bounds-as r q) w
