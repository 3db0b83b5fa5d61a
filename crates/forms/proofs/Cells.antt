-- Cells as stored values: quarters by tables, and the sign test.
--   every-at         : a test that holds of all indices holds of each
--   same-eq          : rows that pass the test of sameness are equal
--   value-stored     : the value at ws is the stored values times their coefficients there
--   entry-quarter    : a table that passes its test gives the form on the quarter
--   value-quarter    : so the value of a quarter is the value of the cell, at the same point
--   passes-positive  : a cell that passes has a positive value wherever the weights touch a corner
--   passes-quarter   : the quarters of a cell that passes pass
--   quarter-size     : a quarter's values grow at most by what the rows of its table add up to
-- Each once, for every number and size of slots. Assumes nothing.
use mathlib.Core.Path.{◌≡◌, refl, sym, ◌∙◌, ap, ap₂, fun_ext}
use mathlib.Core.Bool.{Bool, true, false, ◌&&◌, ◌||◌}
use mathlib.Core.List.{List, [], ◌∷◌, map}
use Prim.Native.Nat.{ℕ, zero, suc, ◌+◌, ◌*◌, ◌≤◌, ◌<◌}
use native.Mathlib.Nat as N
use native.Mathlib.Omega.{arith}
use lib.Dec.{T, ltb, eqb, ltb→lt, eqb→eq}
use lib.IntN.{ℤ, pos, ◌+ℤ◌, ◌*ℤ◌}
use lib.ListN.{get_or, length}
use lib.Signed.{◌≤ℤ◌, ◌<ℤ◌, lt_z, le_z, ≤ℤ_refl}
use Rattle.algebra.specs.Within.{Within, Each}
use Rattle.algebra.proofs.Truth.{T_and, and_T, T-or}
use Rattle.algebra.proofs.Within.{within-pos, within-+, within-*, within-≤}
use Rattle.forms.specs.Rows.{Row, mix, total, weigh}
use Rattle.forms.specs.Forms.{Form, slot, value, restrict, through, pick, Touch}
use Rattle.forms.specs.Cells.{stored, dot, coeffs, quarter, positives, non_negatives, passes, Inside, up_to, every, same, Tabled, weighs, heirs, rows_add}
use Rattle.forms.proofs.Rows.{weigh-mix, weigh-nonneg, weigh-positive, weigh-unit}
use Rattle.forms.proofs.Forms.{value-restrict, restrict-entry, value-positive, value-ext}

-- ---- tests over all indices
pub up_to-at : (n : ℕ) (f : ℕ → Bool) → T (up_to n f) → (k : ℕ) → k < n → T (f k)
up_to-at zero f t k h = absurd (N.not-suc-le-zero h)
up_to-at (suc n) f t zero h = (T_and (f 0) (up_to n (λ i. f (suc i))) t).0
up_to-at (suc n) f t (suc k) h = up_to-at n (λ i. f (suc i)) (T_and (f 0) (up_to n (λ i. f (suc i))) t).1 k (N.le_of_suc-le-suc h)

pub every-at : (ss : List ℕ) (f : List ℕ → Bool) → T (every ss f) → (ks : List ℕ) → Inside ss ks → T (f ks)
every-at [] f t [] r = t
every-at [] f t (k ∷ ks) r = absurd r
every-at (s ∷ ss) f t [] r = absurd r
every-at (s ∷ ss) f t (k ∷ ks) r =
    every-at ss (λ js. f (k ∷ js)) (up_to-at s (λ i. every ss (λ js. f (i ∷ js))) t k r.0) ks r.1

pub same-eq : (a b : List ℕ) → T (same a b) → a ≡ b
same-eq [] [] t = refl
same-eq [] (y ∷ b) t = absurd t
same-eq (x ∷ a) [] t = absurd t
same-eq (x ∷ a) (y ∷ b) t =
    let (u, v) = T_and (eqb x y) (same a b) t in ap₂ {B = List ℕ} ◌∷◌ (eqb→eq x y u) (same-eq a b v)

pub inside-length : (ss ks : List ℕ) → Inside ss ks → length ss ≡ length ks
inside-length [] [] r = refl
inside-length [] (k ∷ ks) r = absurd r
inside-length (s ∷ ss) [] r = absurd r
inside-length (s ∷ ss) (k ∷ ks) r = ap suc (inside-length ss ks r.1)

-- ---- stored values
pub value-stored : (ws : List Row) (p : List ℕ → ℕ) (c : List ℤ) → value ws (stored p c) ≡ dot (coeffs ws p) c
unfolding value
value-stored [] p c = sym (weigh-unit (p []) (λ i. get_or c i (pos 0)))
value-stored (w ∷ ws) p c =
    ap (weigh w) (fun_ext (λ i. value-stored ws (λ ks. p (i ∷ ks)) c))
    ∙ sym (weigh-mix w (λ i. coeffs ws (λ ks. p (i ∷ ks))) (λ i. get_or c i (pos 0)))

pub get_d-quarter : (Q : List Row) (c : List ℤ) (k : ℕ) → get_or (quarter Q c) k (pos 0) ≡ dot (get_or Q k []) c
unfolding weigh
get_d-quarter [] c k = refl
get_d-quarter (r ∷ Q) c zero = refl
get_d-quarter (r ∷ Q) c (suc k) = get_d-quarter Q c k

module _ (ss : List ℕ) (p : List ℕ → ℕ) (Ms : List (ℕ → Row)) (Q : List Row)
    (tabled : T (Tabled ss p Ms Q)) (slots : length Ms ≡ length ss) where
  row_is : (ks : List ℕ) → Inside ss ks → coeffs (pick Ms ks) p ≡ get_or Q (p ks) []
  row_is ks r =
      same-eq (coeffs (pick Ms ks) p) (get_or Q (p ks) [])
      (every-at ss (λ js. same (coeffs (pick Ms js) p) (get_or Q (p js) [])) tabled ks r)

  pub entry-quarter : (c : List ℤ) (ks : List ℕ) → Inside ss ks → stored p (quarter Q c) ks ≡ restrict Ms (stored p c) ks
  entry-quarter c ks r =
      get_d-quarter Q c (p ks)
      ∙ ap (λ (a : Row). dot a c) (sym (row_is ks r))
      ∙ sym (value-stored (pick Ms ks) p c)
      ∙ sym (restrict-entry Ms (stored p c) ks (slots ∙ inside-length ss ks r))

  pub value-quarter : (ys : List Row) → map length ys ≡ ss
      → (c : List ℤ)
      → value ys (stored p (quarter Q c)) ≡ value (through ys Ms) (stored p c)
  value-quarter ys e c =
      value-ext ys (stored p (quarter Q c)) (restrict Ms (stored p c)) (λ ks r. entry-quarter c ks (rw e at r))
      ∙ value-restrict ys Ms (stored p c)

-- ---- the sign test
pub non_negatives-at : (c : List ℤ) → T (non_negatives c) → (k : ℕ) → pos 0 ≤ℤ get_or c k (pos 0)
non_negatives-at [] t k = ≤ℤ_refl (pos 0)
non_negatives-at (z ∷ c) t zero = record { le = (T_and (le_z (pos 0) z) (non_negatives c) t).0 }
non_negatives-at (z ∷ c) t (suc k) = non_negatives-at c (T_and (le_z (pos 0) z) (non_negatives c) t).1 k

pub positives-at : (tips : List ℕ) (c : List ℤ) → T (positives tips c)
    → (i : ℕ)
    → i < length tips
    → pos 0 <ℤ get_or c (get_or tips i 0) (pos 0)
positives-at [] c t i h = absurd (N.not-suc-le-zero h)
positives-at (k ∷ tips) c t zero h = record { lt = (T_and (lt_z (pos 0) (get_or c k (pos 0))) (positives tips c) t).0 }
positives-at (k ∷ tips) c t (suc i) h =
    positives-at tips c (T_and (lt_z (pos 0) (get_or c k (pos 0))) (positives tips c) t).1 i (N.le_of_suc-le-suc h)

pub passes-positive : (tips : List ℕ) (p : List ℕ → ℕ) (c : List ℤ) → T (passes tips c)
    → (ws : List Row) (ks : List ℕ) → Touch ws ks → (i : ℕ) → i < length tips → p ks ≡ get_or tips i 0
    → pos 0 <ℤ value ws (stored p c)
passes-positive tips p c t ws ks touch i h e =
    let (u, v) = T_and (positives tips c) (non_negatives c) t in
    value-positive ws (stored p c) (λ js. non_negatives-at c v (p js)) ks touch (rw e (positives-at tips c u i h))

-- ---- it is inherited: new values weigh old ones, and a new corner weighs an old corner
weighs-positive : (tips : List ℕ) (r : Row) (c : List ℤ) → T (non_negatives c)
    → T (weighs tips r)
    → T (positives tips c)
    → pos 0 <ℤ dot r c
weighs-positive [] r c n w t = absurd w
weighs-positive (k ∷ tips) r c n w t =
    let (u, v) = T_and (lt_z (pos 0) (get_or c k (pos 0))) (positives tips c) t in
    T-or (ltb 0 (get_or r k 0)) (weighs tips r) (pos 0 <ℤ dot r c)
    (λ h. weigh-positive r (λ i. get_or c i (pos 0)) (non_negatives-at c n) k (ltb→lt 0 (get_or r k 0) h) (record { lt = u }))
    (λ h. weighs-positive tips r c n h v) w

heirs-positive : (ks tips : List ℕ) (Q : List Row) (c : List ℤ) → T (non_negatives c)
    → T (positives tips c)
    → T (heirs ks tips Q)
    → T (positives ks (quarter Q c))
heirs-positive [] tips Q c n t h = tt
heirs-positive (k ∷ ks) tips Q c n t h =
    let (u, v) = T_and (weighs tips (get_or Q k [])) (heirs ks tips Q) h in
    and_T (lt_z (pos 0) (get_or (quarter Q c) k (pos 0))) (positives ks (quarter Q c))
    (rw (get_d-quarter Q c k) (weighs-positive tips (get_or Q k []) c n u t).lt) (heirs-positive ks tips Q c n t v)

quarter-nonneg : (Q : List Row) (c : List ℤ) → T (non_negatives c) → T (non_negatives (quarter Q c))
quarter-nonneg [] c n = tt
quarter-nonneg (r ∷ Q) c n =
    and_T (le_z (pos 0) (dot r c)) (non_negatives (quarter Q c))
    (weigh-nonneg r (λ i. get_or c i (pos 0)) (non_negatives-at c n)).le (quarter-nonneg Q c n)

pub passes-quarter : (tips : List ℕ) (Q : List Row) → T (heirs tips tips Q)
    → (c : List ℤ)
    → T (passes tips c)
    → T (passes tips (quarter Q c))
passes-quarter tips Q h c t =
    let (u, v) = T_and (positives tips c) (non_negatives c) t in
    and_T (positives tips (quarter Q c)) (non_negatives (quarter Q c)) (heirs-positive tips tips Q c v u h) (quarter-nonneg Q c v)

-- ---- sizes
pub weigh-size : (n : ℕ) (r : Row) (f : ℕ → ℤ) → ((i : ℕ) → Within n (f i)) → Within (total r * n) (weigh r f)
unfolding weigh
weigh-size n [] f h = record { size = omega arith }
weigh-size n (x ∷ r) f h =
    within-≤ (within-+ (within-* (within-pos x) (h 0)) (weigh-size n r (λ i. f (suc i)) (λ i. h (suc i))))
    (N.le_of_eq (sym (N.add-mul x (total r) n)))

pub rows_add-at : (t : ℕ) (Q : List Row) → T (rows_add t Q) → (k : ℕ) → total (get_or Q k []) ≤ t
rows_add-at t [] a k = omega arith
rows_add-at t (r ∷ Q) a zero = N.le_of_eq (eqb→eq (total r) t (T_and (eqb (total r) t) (rows_add t Q) a).0)
rows_add-at t (r ∷ Q) a (suc k) = rows_add-at t Q (T_and (eqb (total r) t) (rows_add t Q) a).1 k

pub quarter-size : (t n : ℕ) (Q : List Row) → T (rows_add t Q) → (c : List ℤ) → Each n c → Each (t * n) (quarter Q c)
quarter-size t n Q a c h =
    record {
      at = λ k. rw (get_d-quarter Q c k)
          (within-≤ (weigh-size n (get_or Q k []) (λ i. get_or c i (pos 0)) h.at) (N.mul-le-mul (rows_add-at t Q a k) (N.le_refl n)));
    }
