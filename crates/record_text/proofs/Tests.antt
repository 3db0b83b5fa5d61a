-- What the tests of words and lines say.
--   wrong-front, wrong-later, broken-front, broken-later : a word, by its place in the line
--   silent-none, silent-first : a line without a word; one by its first word
--   few-is         : a line with fewer than three words has none behind two
-- Assumes nothing.
use mathlib.Core.Path.{◌≡◌, refl, sym, ap, ◌∙◌, subst}
use mathlib.Core.Bool.{true, false, not, ◌&&◌, true≢false}
use mathlib.Core.List.{List, [], ◌∷◌}
use Prim.Native.Nat.{ℕ, ◌≤◌, ◌<◌}
use native.Mathlib.Omega.{arith}
use borrow.Author.Tests.{ltb-true, ltb-false, eqb-true, eq-eqb, not-true, not-false}
use lib.Dec.{eqb, ltb}
use lib.ListN.{length, get_or}
use Rattle.std.specs.Prelude.{nat_eq}
use Rattle.std.specs.List.{starts_with}
use Rattle.mesh_text.specs.Rows.{first, rest, is_nil}
use Rattle.mesh_text.specs.Words.{IsNumber}
use Rattle.mesh_text.specs.Tests.{number_b, whole_b, number_of}
use Rattle.mesh_text.proofs.Rows.{by-test}
use Rattle.mesh_text.proofs.Grammar.{and_both, and-of, number-of, number-true, is-number-of, is-number-true, whole_of, whole-true}
use Rattle.record_text.specs.Faults.{Silent, empty, comment, Wrong, no_natural, no_number, Broken}
use Rattle.record_text.specs.Finds.{Whether}

-- ---- words
module _ (k : ℕ) (w : List ℕ) where
  pub wrong-front : k ≤ 3 → Whether (Wrong k w) (ltb 4294967295 (number_of w))
  wrong-front h =
      record {
        yes = λ e. no_natural h (λ n. let f = number-of w n.0 n.1 in let s = n.1.small in let g = ltb-true 4294967295 (number_of w) e in absurd (omega (arith, f, s, g)));
        no = λ e. right (omega (arith, ltb-false 4294967295 (number_of w) e));
      }
    where
      right : number_of w < 4294967296 → ¬ Wrong k w
      right s (no_natural l n) = n (number_of w, number-true w s)
      right s (no_number l n) = absurd (omega arith)

  pub wrong-later : 3 < k → Whether (Wrong k w) (not (number_b w))
  wrong-later h =
      record {
        yes = λ e. no_number h (λ n. true≢false (sym (is-number-of n) ∙ not-true _ e));
        no = λ e. right (is-number-true w (not-false _ e));
      }
    where
      right : IsNumber w → ¬ Wrong k w
      right s (no_natural l n) = absurd (omega arith)
      right s (no_number l n) = n s

  pub broken-front : k ≤ 3 → Whether (Broken k w) false
  broken-front h = record { yes = λ e. absurd (true≢false (sym e)); no = λ e b. let c = b.coordinate in absurd (omega arith) }

  pub broken-later : 3 < k → Whether (Broken k w) (number_b w && not (whole_b w))
  broken-later h =
      record {
        yes = λ e. let b = and_both (number_b w) (not (whole_b w)) e in
            record { coordinate = h; number = is-number-true w b.0; not_whole = λ z. true≢false (sym (whole_of z.1).0 ∙ not-true _ b.1) };
        no = λ e b. by-test (whole_b w) ⊥
            (λ z. b.not_whole (_, whole-true w z))
            (λ z. true≢false (sym (and-of (number_b w) (not (whole_b w)) (is-number-of b.number) (ap not z)) ∙ e));
      }

-- ---- lines
pub silent-none : (ws : List (List ℕ)) → is_nil ws ≡ true → Whether (Silent ws) true
silent-none [] e = record { yes = λ z. empty; no = λ z. absurd (true≢false z) }
silent-none (w ∷ ws) e = absurd (true≢false (sym e))

silent-head : {ws : List (List ℕ)} → Silent ws → is_nil ws ≡ false → (0 < length (first ws)) × (get_or (first ws) 0 0 ≡ 35)
silent-head empty e = absurd (true≢false e)
silent-head comment e = (omega arith, refl)

pub silent-first : (ws : List (List ℕ)) → is_nil ws ≡ false → Whether (Silent ws) (starts_with nat_eq (first ws) (35 ∷ []))
silent-first [] e = absurd (true≢false e)
silent-first ([] ∷ ws) e = record { yes = λ z. absurd (true≢false (sym z)); no = λ z s. let q = silent-head s refl in absurd (omega (arith, q.0)) }
silent-first ((b ∷ w) ∷ ws) e =
    record {
      yes = λ z. subst (λ x. Silent ((x ∷ w) ∷ ws)) (eqb-true 35 b (and_both (eqb 35 b) true z).0) comment;
      no = λ z s. true≢false (sym (ap (λ x. x && true) (eq-eqb 35 b (sym (silent-head s e).1))) ∙ z);
    }

pub few-is : (ws : List (List ℕ)) → Whether (length ws < 3) (is_nil (rest (rest ws)))
few-is [] = record { yes = λ z. omega arith; no = λ z. absurd (true≢false z) }
few-is (w ∷ []) = record { yes = λ z. omega arith; no = λ z. absurd (true≢false z) }
few-is (w ∷ v ∷ []) = record { yes = λ z. omega arith; no = λ z. absurd (true≢false z) }
few-is (w ∷ v ∷ u ∷ ws) = record { yes = λ z. absurd (true≢false (sym z)); no = λ z h. absurd (omega arith) }
