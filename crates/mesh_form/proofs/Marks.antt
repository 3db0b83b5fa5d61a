-- The tests of marks, ends and format rows say what is stated of them (docs/GMSH.md, G4, G8).
--   end-refl, end-true, mark-true : the rows $Endx and $x
--   other-false, false-other : a name that is another
--   version-of, format-of, format-true : the row of a format
-- Assumes nothing.
use mathlib.Core.Path.{◌≡◌, refl, sym, ap, ◌∙◌, subst}
use mathlib.Core.Bool.{true, false, true≢false}
use mathlib.Core.List.{List, [], ◌∷◌, ◌++◌, nil≢cons}
use Prim.Native.Nat.{ℕ, ◌<◌}
use native.Mathlib.Omega.{arith}
use borrow.Author.Tests.{eqb-true, eq-eqb}
use lib.Dec.{eqb}
use lib.ListN.{length, take, drop, take-append-drop}
use Rattle.mesh_text.specs.declared.Class.TheVariants.{Zero}
use Rattle.mesh_text.specs.Rows.{All, first, rest, is_nil, run, in_class}
use Rattle.mesh_text.specs.Words.{Number}
use Rattle.mesh_text.specs.Tests.{same_b, digits_b, number_of}
use Rattle.mesh_text.proofs.Rows.{by-test}
use Rattle.mesh_text.proofs.Grammar.{and_both, and-of, same_refl, same_true, all_true, all_of, number-of, number-true}
use Rattle.mesh_form.specs.Mesh.{Row, mark, ended, FormatRow, format_row}
use Rattle.mesh_form.specs.Walk.{end_b, mark_b, name_of, version_b, format_b}

-- ---- marks and ends
pub end-refl : (x : List ℕ) → end_b x (ended x) ≡ true
unfolding end_b
end-refl x = same_refl x

-- a word of a known start
start_is : (n : ℕ) (w s x : List ℕ) → same_b (take n w) s ≡ true → same_b (drop n w) x ≡ true → w ≡ s ++ x
start_is n w s x e f =
    sym (take-append-drop n w) ∙ ap (λ l. l ++ drop n w) (same_true (take n w) s e) ∙ ap (λ l. s ++ l) (same_true (drop n w) x f)

pub end-true : (x : List ℕ) (r : Row) → end_b x r ≡ true → r ≡ ended x
unfolding end_b
end-true x [] e = absurd (true≢false (sym e))
end-true x (w ∷ []) e =
    let t = and_both (same_b (take 4 w) (36 ∷ 69 ∷ 110 ∷ 100 ∷ [])) (same_b (drop 4 w) x) e in
    ap (λ v. v ∷ []) (start_is 4 w (36 ∷ 69 ∷ 110 ∷ 100 ∷ []) x t.0 t.1)
end-true x (w ∷ v ∷ r) e = absurd (true≢false (sym e))

pub mark-true : (r : Row) → mark_b r ≡ true → r ≡ mark (name_of r)
unfolding mark_b
mark-true [] e = absurd (true≢false (sym e))
mark-true (w ∷ []) e = ap (λ v. v ∷ []) (start_is 1 w (36 ∷ []) (drop 1 w) e (same_refl (drop 1 w)))
mark-true (w ∷ v ∷ r) e = absurd (true≢false (sym e))

pub other-false : (v w : List ℕ) → ¬ (v ≡ w) → same_b v w ≡ false
other-false v w n = by-test (same_b v w) (same_b v w ≡ false) (λ e. absurd (n (same_true v w e))) (λ e. e)

pub false-other : (v w : List ℕ) → same_b v w ≡ false → ¬ (v ≡ w)
false-other v w e i = true≢false (sym (same_refl w) ∙ ap (λ z. same_b z w) (sym i) ∙ e)

-- ---- the row of a format
pub format-of : {r : Row} → FormatRow r → format_b r ≡ true
unfolding format_b version_b
format-of (format_row {z} {a} {b} h k l) =
    and-of (eqb (length (run (in_class Zero) z)) (length z)) _ (all_of (in_class Zero) h)
    (and-of (eqb (number_of a) 0) _ (eq-eqb _ _ (number-of a 0 k)) (and-of (eqb (number_of b) 8) true (eq-eqb _ _ (number-of b 8 l)) refl))

version-true : (w : List ℕ) → version_b w ≡ true → (w ≡ 50 ∷ 46 ∷ 50 ∷ drop 3 w) × All (λ c. in_class Zero c ≡ true) (drop 3 w)
unfolding version_b
version-true w e =
    let t = and_both (same_b (take 3 w) (50 ∷ 46 ∷ 50 ∷ [])) (eqb (length (run (in_class Zero) (drop 3 w))) (length (drop 3 w))) e in
    (start_is 3 w (50 ∷ 46 ∷ 50 ∷ []) (drop 3 w) t.0 (same_refl (drop 3 w)), all_true (in_class Zero) (drop 3 w) t.1)

-- a word that is missing is no number
pub none_is : number_of [] ≡ 4294967296
unfolding number_of digits_b
none_is = refl

no_number : {n : ℕ} → n < 4294967296 → number_of [] ≡ n → ⊥
no_number {n} h e = let k = none_is in omega arith

number_is : (w : List ℕ) (n : ℕ) → n < 4294967296 → number_of w ≡ n → Number w n
number_is w n h e = subst (Number w) e (number-true w (subst (λ m. m < 4294967296) (sym e) h))

pub format-true : (r : Row) → format_b r ≡ true → FormatRow r
unfolding format_b
format-true r e =
    let v = and_both (version_b (first r)) _ e in
    let a = and_both (eqb (number_of (first (rest r))) 0) _ v.1 in
    let b = and_both (eqb (number_of (first (rest (rest r)))) 8) (is_nil (rest (rest (rest r)))) a.1 in
    go r (version-true (first r) v.0) (eqb-true _ _ a.0) (eqb-true _ _ b.0) b.1
  where
    go : (r : Row) → (first r ≡ 50 ∷ 46 ∷ 50 ∷ drop 3 (first r)) × All (λ c. in_class Zero c ≡ true) (drop 3 (first r))
        → number_of (first (rest r)) ≡ 0 → number_of (first (rest (rest r))) ≡ 8 → is_nil (rest (rest (rest r))) ≡ true → FormatRow r
    go [] v a b e = absurd (nil≢cons v.0)
    go (w ∷ []) v a b e = absurd (no_number (omega arith) a)
    go (w ∷ x ∷ []) v a b e = absurd (no_number (omega arith) b)
    go (w ∷ x ∷ y ∷ []) v a b e =
        subst (λ u. FormatRow (u ∷ x ∷ y ∷ [])) (sym v.0)
        (format_row v.1 (number_is x 0 (omega arith) a) (number_is y 8 (omega arith) b))
    go (w ∷ x ∷ y ∷ z ∷ r) v a b e = absurd (true≢false (sym e))
