-- Wrong programs that the contract of `control_values` shuts out, each by a law of the contract alone.
--   length-first    : code 3 comes before 4
--   refusal-keeps   : a refusal writes nothing
--   success-keeps   : a success leaves the rest of the buffer
--   right-accepted  : what has no fault is not refused
-- Assumes nothing.
use mathlib.Core.Path.{◌≡◌, sym, ◌∙◌, ap}
use mathlib.Core.List.{List}
use mathlib.Core.Logic.{inl, inr}
use Prim.Native.Nat.{ℕ}
use lib.IntN.{ℤ}
use lib.ListN.{length, drop}
use lib.Seq.{drop-append_seam}
use Rattle.element.specs.Kinds.{kind_of, value_count, NotKind}
use Rattle.element.specs.Control.{control_values}
use Rattle.element.specs.Refusals.{Refused, Accepted, WrongLength, control_codes}
use Rattle.element.proofs.Values.{values_length}
use Rattle.element.proofs.Refusals.{refused-accepted, refused-some}
use Rattle.control.specs.Calls.{ControlValues}
use Rattle.control.specs.declared.Controlled.{Controlled}

module _ (n : ℕ) (xs before : List ℤ) (r : Controlled) (after : List ℤ) where
  pub length-first : ControlValues n xs before r after → ¬ NotKind n → WrongLength n xs → r.code ≡ 3
  length-first (inl p) k w = go p.refused
    where
      go : Refused (control_codes n xs (length before)) r.code → r.code ≡ 3
      go (inl (f, e)) = absurd (k f)
      go (inr (f, inl (g, e))) = e
      go (inr (f, inr (g, h))) = absurd (g w)
  length-first (inr p) k w = absurd (p.accepted.1.0 w)

  pub refusal-keeps : ControlValues n xs before r after → ¬ (r.code ≡ 0) → after ≡ before
  refusal-keeps (inl p) h = p.untouched
  refusal-keeps (inr p) h = absurd (h (ap (λ (q : Controlled). q.code) p.answer))

  pub success-keeps : ControlValues n xs before r after → r.code ≡ 0 → drop r.count after ≡ drop r.count before
  success-keeps (inl p) h = absurd (refused-some (control_codes n xs (length before)) r.code tt p.refused h)
  success-keeps (inr p) h =
      let values = control_values (kind_of n) xs in
      let rest = drop (value_count (kind_of n)) before in
      let many : r.count ≡ value_count (kind_of n) = ap (λ (q : Controlled). q.count) p.answer in
      ap (λ (m : ℕ). drop m after) (many ∙ sym (values_length (kind_of n) xs))
      ∙ ap (drop (length values)) p.filled
      ∙ drop-append_seam values rest
      ∙ ap (λ (m : ℕ). drop m before) (sym many)

  pub right-accepted : Accepted (control_codes n xs (length before)) → ControlValues n xs before r after → r.code ≡ 0
  right-accepted a (inl p) = absurd (refused-accepted (control_codes n xs (length before)) r.code p.refused a)
  right-accepted a (inr p) = ap (λ (q : Controlled). q.code) p.answer
