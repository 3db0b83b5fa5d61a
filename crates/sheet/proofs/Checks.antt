-- The answers of `check_sheet`, case by case of the code.
--   headed-no, headed-yes : the header, by the test of the code
--   check-refused, check-headless, check-failed, check-before, check-end : the ways out
-- Assumes nothing.
use Rattle.std.specs.Prelude.{Some, None}
use mathlib.Core.Path.{◌≡◌, refl, sym, ◌∙◌, ap, subst}
use mathlib.Core.Bool.{Bool, true, false}
use mathlib.Core.List.{List, [], ◌∷◌, ◌++◌, append-nil}
use mathlib.Core.Logic.{inl, inr}
use Prim.Native.Nat.{ℕ, ◌-◌, ◌≤◌, ◌<◌}
use native.Mathlib.Nat as N
use native.Mathlib.Omega.{arith}
use lib.IntN.{ℤ}
use lib.ListN.{length, drop, length-drop}
use Rattle.element.specs.Kinds.{Kind, kind_of}
use Rattle.element.specs.Control.{control_values}
use Rattle.element.specs.Cells.{shape_of}
use Rattle.element.specs.Refusals.{Codes, no_more, code, Accepted, Coded, stored_codes}
use Rattle.element.proofs.Refusals.{refused-then, past-then, coded-some}
use Rattle.cuttings.specs.Bytes.{cutting_bytes, header}
use Rattle.cuttings.specs.Reads.{Reads, Checked}
use Rattle.cuttings.proofs.Reading.{reads-one}
use Rattle.sheet.specs.Steps.{Headed}
use Rattle.sheet.specs.Calls.{Shown, checked, ChecksSheet}

-- ---- by the tests of the code
pub headed-no : (c : Bool) (m : List ℕ) → c ≡ false → Headed m c → Headed m false
headed-no c m e p = subst (Headed m) e p

pub headed-yes : (c : Bool) (m : List ℕ) → c ≡ true → Headed m c → Headed m true
headed-yes c m e p = subst (Headed m) e p

-- ---- a sheet shows that an element is valid exactly when its cutting is read to the end
module _ (k : Kind) (l : ℕ) (xs : List ℤ) (b : List ℕ) where
  abbrev Body : List ℕ → Type 0
  Body rest = Reads (shape_of k) l (control_values k xs) (drop 5 b) rest

  read-shown : Headed b true → Body [] → Shown k l xs b
  read-shown h p =
      record {
        cutting = p.cutting;
        passing = p.fits;
        within = p.within;
        bytes = h ∙ ap (λ (m : List ℕ). header ++ m) (p.bytes ∙ append-nil (cutting_bytes p.cutting));
      }

  shown_read : Shown k l xs b → Body []
  shown_read s =
      record {
        cutting = s.cutting;
        fits = s.passing;
        within = s.within;
        bytes = ap (drop 5) s.bytes ∙ sym (append-nil (cutting_bytes s.cutting));
      }

  headless : Headed b false → ¬ Shown k l xs b
  headless h s = h (cutting_bytes s.cutting) s.bytes

  none-behind : (p : ℕ) → length b ≤ p → drop p b ≡ []
  none-behind p h = no_length (drop p b) (length-drop p b ∙ zero_rest)
    where
      no_length : (m : List ℕ) → length m ≡ 0 → m ≡ []
      no_length [] e = refl
      no_length (x ∷ m) e = absurd (N.suc-ne-zero (length m) e)

      zero_rest : length b - p ≡ 0
      zero_rest = omega arith

  some-behind : (p : ℕ) → p < length b → ¬ (drop p b ≡ [])
  some-behind p h e = let f = sym (length-drop p b) ∙ ap length e in omega arith

  -- by the place where reading ended
  read-end : (a : ℕ) → Headed b true → Checked Body b (Some a) → a ≡ length b → Shown k l xs b
  read-end a h (w, p) e = read-shown h (subst Body (none-behind a (omega arith)) p)

  read-before : (a : ℕ) → Checked Body b (Some a) → ¬ (a ≡ length b) → ¬ Shown k l xs b
  read-before a (w, p) f s = some-behind a (omega arith) (reads-one (shape_of k) p (shown_read s))

  read-failed : Checked Body b None → ¬ Shown k l xs b
  read-failed p s = p [] (shown_read s)

-- ---- the ways out
module _ (n l : ℕ) (xs : List ℤ) (b : List ℕ) where
  abbrev later : Codes ℕ
  later = code 20 (¬ Shown (kind_of n) l xs b) no_more

  pub check-refused : (c : ℕ) → Coded (stored_codes n l xs) c → ¬ (c ≡ 0) → ChecksSheet n l xs b (checked c)
  check-refused c p h = inl (record { refused = refused-then (stored_codes n l xs) later c (coded-some p h); zeros = refl })

  module _ (a : Accepted (stored_codes n l xs)) where
    check-not : ¬ Shown (kind_of n) l xs b → ChecksSheet n l xs b (checked 20)
    check-not f = inl (record { refused = past-then (stored_codes n l xs) later 20 a (inl (f, refl)); zeros = refl })

    pub check-headless : Headed b false → ChecksSheet n l xs b (checked 20)
    check-headless h = check-not (headless (kind_of n) l xs b h)

    pub check-failed : Checked (Body (kind_of n) l xs b) b None → ChecksSheet n l xs b (checked 20)
    check-failed p = check-not (read-failed (kind_of n) l xs b p)

    pub check-before : (e : ℕ) → Checked (Body (kind_of n) l xs b) b (Some e) → ¬ (e ≡ length b) → ChecksSheet n l xs b (checked 20)
    check-before e p f = check-not (read-before (kind_of n) l xs b e p f)

    pub check-end : (e : ℕ) → Headed b true → Checked (Body (kind_of n) l xs b) b (Some e) → e ≡ length b → ChecksSheet n l xs b (checked 0)
    check-end e h p f = inr (record { accepted = a; shown = read-end (kind_of n) l xs b e h p f; answer = refl })
