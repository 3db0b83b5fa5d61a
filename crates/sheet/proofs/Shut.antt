-- Wrong programs that the contracts of the sheet's calls shut out, each by a law of the contracts alone.
--   nothing-behind   : a checker that accepts bytes behind a sheet
--   too-deep         : one that accepts a cutting deeper than the limit
--   kept-failing     : one that accepts a kept cell that does not pass
--   refuser-shut     : one that refuses everything: our own sheet is accepted
--   four-cells       : a writer that cuts every cell to the same level: G(3,4) under the limit 3 has the sheet of its four quarters
-- Assumes nothing.
use mathlib.Core.Path.{◌≡◌, refl, sym, ◌∙◌, ap, subst}
use mathlib.Core.List.{List, [], ◌∷◌, ◌++◌, append-nil}
use Prim.Native.Nat.{ℕ, ◌≤◌, ◌<◌}
use native.Mathlib.Nat as N
use lib.IntN.{ℤ}
use lib.ListN.{length, drop}
use Rattle.forms.specs.Rows.{weigh}
use Rattle.forms.specs.Cuttings.{Cutting, keep, cut, depth, greedy}
use Rattle.element.specs.Kinds.{kind_of}
use Rattle.element.specs.Kinds as K
use Rattle.element.specs.Control.{values6, control_values}
use Rattle.element.specs.Refusals.{Accepted, stored_codes}
use Rattle.element.proofs.Stored.{accepted-stored}
use Rattle.element.proofs.Tried.{accepted-kind}
use Rattle.judge.specs.Verdict.{Passing}
use Rattle.judge.specs.Elements.{subject}
use Rattle.judge.specs.Twelve.{F, G}
use Rattle.cuttings.specs.Bytes.{cutting_bytes, sheet_bytes}
use Rattle.cuttings.proofs.Bytes.{bytes-unique, sheet-unique, tail-is}
use Rattle.sheet.specs.Calls.{Shown, checked, ChecksSheet, written, WritesSheet}
use Rattle.sheet.specs.declared.CheckedSheet.{CheckedSheet}
use Rattle.sheet.specs.declared.WrittenSheet.{WrittenSheet}
use Rattle.sheet.proofs.Least.{greedy-cutting}
use Rattle.sheet.proofs.Checker.{accepted-shown, shown-accepted, not-shown}
use Rattle.sheet.proofs.Writer.{least-written}

module _ (n l : ℕ) (xs : List ℤ) where
  pub nothing-behind : (b : List ℕ) (r : CheckedSheet) → ChecksSheet n l xs b r
      → r.code ≡ 0
      → (x : ℕ) (m : List ℕ) (s : CheckedSheet)
      → ChecksSheet n l xs (b ++ (x ∷ m)) s
      → s ≡ checked 20
  nothing-behind b r v e x m s w =
      let p = accepted-shown n l xs b r v e in
      not-shown n l xs (b ++ (x ∷ m)) p.accepted (longer p.shown) s w
    where
      longer : Shown (kind_of n) l xs b → ¬ Shown (kind_of n) l xs (b ++ (x ∷ m))
      longer p q =
          let t = p.cutting in let u = q.cutting in
          let f : sheet_bytes t ++ (x ∷ m) ≡ sheet_bytes u = ap (λ (c : List ℕ). c ++ (x ∷ m)) (sym p.bytes) ∙ q.bytes in
          let g : cutting_bytes t ++ (x ∷ m) ≡ cutting_bytes u ++ [] = tail-is (tail-is (tail-is (tail-is (tail-is f)))) ∙ sym (append-nil (cutting_bytes u)) in
          let z : length (x ∷ m) ≡ 0 = ap length (bytes-unique t u (x ∷ m) [] g).1 in
          N.suc-ne-zero (length m) z

  module _ (a : Accepted (stored_codes n l xs)) (t : Cutting) (r : CheckedSheet) (v : ChecksSheet n l xs (sheet_bytes t) r) where
    pub too-deep : l < depth t → r ≡ checked 20
    too-deep h =
        not-shown n l xs (sheet_bytes t) a
        (λ p. N.not-le_of_lt h (subst (λ (u : Cutting). depth u ≤ l) (sym (sheet-unique t p.cutting p.bytes)) p.within)) r v

    pub kept-failing : ¬ Passing (subject (kind_of n) xs) t → r ≡ checked 20
    kept-failing f =
        not-shown n l xs (sheet_bytes t) a (λ p. f (subst (Passing (subject (kind_of n) xs)) (sym (sheet-unique t p.cutting p.bytes)) p.passing)) r v

-- ---- F(0) is valid at once: its sheet keeps the whole element
pub refuser-shut : ¬ ((n l : ℕ) (xs : List ℤ) (b : List ℕ) → (r : CheckedSheet) × ChecksSheet n l xs b r × ¬ (r.code ≡ 0))
unfolding control_values values6 depth
refuser-shut f =
    let (r, v, h) = f 6 0 (F 0) (sheet_bytes keep) in
    h (ap (λ (r : CheckedSheet). r.code)
    (shown-accepted 6 0 (F 0) (sheet_bytes keep) (accepted-stored 6 0 (F 0) (λ f. f.0 refl) (accepted-kind K.six 0 (F 0) tt))
    (record { cutting = keep; passing = tt; within = N.le_refl 0; bytes = refl }) r v))

-- ---- G(3,4) fails as a whole, and its quarters pass
pub four-cells : (before : List ℕ) → 10 ≤ length before
    → (r : WrittenSheet) (after : List ℕ)
    → WritesSheet 6 3 (G 3 4) before r after
    → (r ≡ written 0 10) × (after ≡ 67 ∷ 80 ∷ 83 ∷ 1 ∷ 0 ∷ 1 ∷ 0 ∷ 0 ∷ 0 ∷ 0 ∷ drop 10 before)
unfolding weigh control_values values6 greedy cutting_bytes
four-cells before h r after v =
    least-written 6 3 (G 3 4) before (cut keep keep keep keep) (accepted-stored 6 3 (G 3 4) (λ f. f.0 refl) (accepted-kind K.six 3 (G 3 4) tt))
    (greedy-cutting (subject K.six (G 3 4)) 3 (cut keep keep keep keep) refl) h r after v
