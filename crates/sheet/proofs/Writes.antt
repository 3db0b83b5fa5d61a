-- The answers of `write_sheet`, case by case of the code, from the verdict j.
--   wrote-sheet : the header, and the cutting of the cells that the code took, are the element's sheet
--   write-refused, write-not-valid, write-short, write_done : the four ways out
--   some-cells : a valid verdict counts at least one cell
-- Assumes nothing.
use mathlib.Core.Path.{◌≡◌, refl, sym, ◌∙◌, ap, subst}
use mathlib.Core.Bool.{true, false}
use mathlib.Core.List.{List, ◌++◌}
use mathlib.Core.Logic.{inl, inr}
use Prim.Native.Nat.{ℕ, ◌+◌, ◌≤◌, ◌<◌}
use native.Mathlib.Nat as N
use native.Mathlib.Omega.{arith}
use lib.Dec.{eqb}
use lib.IntN.{ℤ}
use lib.ListN.{length, drop}
use Rattle.forms.specs.Cuttings.{Cutting}
use Rattle.forms.specs.Shapes.{pass, cut_to}
use Rattle.forms.proofs.Cuttings.{leaves-positive}
use Rattle.element.specs.Kinds.{NotStored, kind_of}
use Rattle.element.specs.Control.{control_values}
use Rattle.element.specs.Refusals.{Codes, no_more, code, Refused, Accepted, stored_codes, verdict_codes}
use Rattle.element.proofs.Refusals.{refused-then, past-then, accepted-then}
use Rattle.element.proofs.Stored.{stored-accepted}
use Rattle.judge.specs.Elements.{subject}
use Rattle.verdict.specs.Calls.{says_valid, VerdictOf}
use Rattle.verdict.specs.declared.Judged.{Judged}
use Rattle.verdict.proofs.Judging.{accepted-answered}
use Rattle.text.specs.Writing.{Wrote}
use Rattle.text.proofs.Wrote.{wrote-more, wrote_as, take_none}
use Rattle.cuttings.specs.Bytes.{cutting_bytes, header, sheet_bytes, sheet_size, trimmed}
use Rattle.cuttings.proofs.Bytes.{sheet-size}
use Rattle.sheet_cells.specs.Either.{shape_by, values_by}
use Rattle.sheet.specs.Steps.{trimmed_bytes}
use Rattle.sheet.specs.Calls.{NotValid, Short, write_codes, written, WritesSheet}
use Rattle.sheet.specs.declared.WrittenSheet.{WrittenSheet}
use Rattle.sheet.proofs.Elements.{as-kind}
use Rattle.sheet.proofs.Least.{least-unique, Ready, valid-ready, not_valid}

pub wrote-sheet : (n l : ℕ) (xs r : List ℤ) {o m p : List ℕ} {a e : ℕ} → ¬ NotStored n
    → values_by (eqb n 6) r ≡ control_values (kind_of n) xs
    → Wrote o 0 header m a
    → Wrote m a (cutting_bytes (trimmed (pass (shape_by (eqb n 6))) (cut_to (shape_by (eqb n 6))) l (values_by (eqb n 6) r))) p e
    → Wrote o 0 (trimmed_bytes (kind_of n) l xs) p e
wrote-sheet n l xs r {o} {m} {p} {a} {e} s f g h =
    wrote-more g (as-kind n xs r s (λ S c. Wrote m a (cutting_bytes (trimmed (pass S) (cut_to S) l c)) p e) f h)

-- of a kind that has no sheet
pub write-other : (n l : ℕ) (xs : List ℤ) (before : List ℕ) {r : WrittenSheet} → NotStored n → r ≡ written 1 0 → WritesSheet n l xs before r before
write-other n l xs before f e =
    subst (λ (r : WrittenSheet). WritesSheet n l xs before r before) (sym e) (inl (record { refused = inl (f, refl); zeros = refl; untouched = refl }))

module _ (n l : ℕ) (xs : List ℤ) (before : List ℕ) where
  abbrev later : Codes ℕ
  later = code 20 (NotValid (kind_of n) l xs) (code 5 (Short (kind_of n) l xs (length before)) no_more)

  refuse : (c : ℕ) → Refused (write_codes n l xs (length before)) c → WritesSheet n l xs before (written c 0) before
  refuse c p = inl (record { refused = p; zeros = refl; untouched = refl })

  pub write-refused : (c : ℕ) → Refused (stored_codes n l xs) c → WritesSheet n l xs before (written c 0) before
  write-refused c r = refuse c (refused-then (stored_codes n l xs) later c r)

  module _ (a : Accepted (stored_codes n l xs)) (j : Judged) (v : VerdictOf n l xs j) where
    -- an element without a fault has a verdict
    answered : j.code ≡ 0
    answered =
        let p = accepted-answered (verdict_codes n l xs) (subject (kind_of n) xs) l j v (stored-accepted n l xs a) in
        ap (λ (q : Judged). q.code) p.told

    pub write-not-valid : says_valid j.word ≡ false → WritesSheet n l xs before (written 20 0) before
    write-not-valid h = refuse 20 (past-then (stored_codes n l xs) later 20 a (inl (not_valid n l xs j v answered h, refl)))

    -- the sheet of a valid element
    module _ (h : says_valid j.word ≡ true) where
      ready : Ready (kind_of n) l xs j.cells
      ready = valid-ready n l xs j v h

      pub some-cells : 0 < j.cells
      some-cells = let m = ready.many in omega (arith, leaves-positive ready.cutting)

      size_is : length (sheet_bytes ready.cutting) ≡ sheet_size j.cells
      size_is = sheet-size ready.cutting ∙ ap sheet_size (sym ready.many)

      is_valid : ¬ NotValid (kind_of n) l xs
      is_valid f = f (ready.answer, ready.valid)

      pub write-short : length before < sheet_size j.cells → WritesSheet n l xs before (written 5 0) before
      write-short k =
          refuse 5 (past-then (stored_codes n l xs) later 5 a (inr (is_valid, inl ((ready.cutting, ready.least, rw size_is k), refl))))

      not_short : sheet_size j.cells ≤ length before → ¬ Short (kind_of n) l xs (length before)
      not_short k (t, p, q) =
          let same = least-unique (subject (kind_of n) xs) l t ready.cutting p ready.least in
          let f : length (sheet_bytes t) ≡ sheet_size j.cells = ap (λ (t : Cutting). length (sheet_bytes t)) same ∙ size_is in
          N.not-le_of_lt q (rw f k)

      pub write_done : {o : List ℕ} (end : ℕ) → sheet_size j.cells ≤ length before
          → Wrote before 0 (trimmed_bytes (kind_of n) l xs) o end
          → WritesSheet n l xs before (written 0 end) o
      write_done {o} end k p =
          let b : List ℕ = sheet_bytes ready.cutting in
          let w : Wrote before 0 b o end = wrote_as p ready.sheet in
          let room : 0 + length b ≤ length before = rw (N.zero-add (length b), size_is) k in
          inr
          (record {
            accepted = accepted-then (stored_codes n l xs) later a (is_valid, (not_short k, tt));
            cutting = ready.cutting;
            least = ready.least;
            answer = ap (written 0) (w.place room ∙ N.zero-add (length b));
            filled = w.content room ∙ ap (λ (m : List ℕ). m ++ (b ++ drop (0 + length b) before)) (take_none before)
                ∙ ap (λ (i : ℕ). b ++ drop i before) (N.zero-add (length b));
          })
