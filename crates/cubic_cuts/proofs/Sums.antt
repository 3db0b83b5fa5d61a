-- Sums of the values of a cell as the code makes them, one line after the other: as expressions over these values, of which sizes and
-- values are computed.
--   word z     == what the machine holds of the number z
--   from k n   == the values k, k + 1, ..: n of them
--   rows k n   == lines of n, n - 1, .. values from value k on, each leaned
--   entry, across == value k of line j; the values k of the first n lines
--   crossed n j == the values j of the leaned lines of n, n - 1, .. values
--   columns n j k == those of j, j + 1, .., leaned: k of them
--   paired ps l == the sums of the values of l at the pairs of places ps
--   cut Q es   == what the sums es give by the rows Q of weights
--   sizes m ρ  == the size m for each value of ρ
--   fit bs B es == the test that the sums es of values of the sizes bs are within B, and that B is below 2^63
--   fits_all bs B ess == the same of lines of sums
--   multiple bs n e == the test that the sum e and n times it are below 2^63
--   two-fit    : the sum of two values fits
--   taken-each : values of a list of small values are small
--   sums-each  : sums that pass the test are within B
--   sums-words : and what the machine holds of them is they
--   sums-asked : the two together, as a call asks them
--   sums-leaned : what a call gives of a line of such sums
--   lines-words, times-fit : of lines of them, what the machine holds, and that a multiple of one fits
-- Assumes nothing.
use mathlib.Core.Path.{◌≡◌, refl, ◌∙◌, ap, ap₂}
use mathlib.Core.Bool.{Bool, true, ◌&&◌}
use mathlib.Core.List.{List, [], ◌∷◌, map}
use Prim.Native.Nat.{ℕ, zero, suc, ◌+◌, ◌-◌, ◌*◌, ◌^◌, ◌<◌}
use native.Mathlib.Omega.{arith}
use lib.Dec.{T, ltb, ltb→lt}
use lib.IntN.{ℤ, pos, ◌+ℤ◌, ◌*ℤ◌}
use lib.ListN.{get_or, take}
use mir.Syntax.{w64}
use mir.Val.{SFits, to_z, of_z}
use Rattle.algebra.specs.Expr.{Expr, var, con, ◌⊕◌, eval, evals}
use Rattle.algebra.specs.Within.{Each, Is}
use Rattle.algebra.specs.Bound.{Bounded, bound, all_within}
use Rattle.algebra.proofs.Truth.{T_and}
use Rattle.algebra.proofs.Bound.{bound-is, each-by}
use Rattle.algebra.proofs.Within.{rd, got, lit, st-at, fits, fits-at, i-add, i-mul, each_nil, each-cons, each-as}
use Rattle.forms.specs.Rows.{Row}
use Rattle.cells.proofs.Sums.{weighing}
use Rattle.cubic_cuts.specs.Lines.{beside, lean}
use Rattle.cubic_cuts.specs.Cells.{taken}

abbrev pub word : ℤ → ℤ
word z = to_z w64 (of_z w64 z)

abbrev pub from : ℕ → ℕ → List Expr
from k zero = []
from k (suc n) = var k ∷ from (suc k) n

abbrev pub rows : ℕ → ℕ → List (List Expr)
rows k zero = []
rows k (suc n) = lean ◌⊕◌ (suc n) (from k (suc n)) ∷ rows (k + suc n) n

abbrev pub entry : {A : Type 0} → A → List (List A) → ℕ → ℕ → A
entry d ls j k = get_or (get_or ls j []) k d

abbrev pub across : {A : Type 0} → A → ℕ → ℕ → List (List A) → List A
across d n k ls = map (λ l. get_or l k d) (take n ls)

abbrev pub crossed : ℕ → ℕ → List Expr
crossed n j = across (con (pos 0)) (n - j) j (rows 0 n)

abbrev pub columns : ℕ → ℕ → ℕ → List (List Expr)
columns n j zero = []
columns n j (suc k) = lean ◌⊕◌ (n - j) (crossed n j) ∷ columns n (suc j) k

abbrev pub paired : {A : Type 0} → (A → A → A) → A → List (ℕ × ℕ) → List A → List A
paired add d ps l = map (λ p. add (get_or l p.0 d) (get_or l p.1 d)) ps

abbrev pub cut : List Row → List Expr → List Expr
cut Q es = map (λ r. weighing r (λ i. get_or es i (con (pos 0)))) Q

rest : {m : ℕ} {x : ℤ} {l : List ℤ} → Each m (x ∷ l) → Each m l
rest h = record { at = λ k. h.at (suc k) }

abbrev pub sizes : ℕ → List ℤ → List ℕ
sizes m ρ = map (λ (z : ℤ). m) ρ

bounded : {m : ℕ} (ρ : List ℤ) → Each m ρ → Bounded ρ (sizes m ρ)
bounded [] h = tt
bounded (x ∷ ρ) h = ((h.at 0).size, bounded ρ (rest h))

words : {n : ℕ} (l : List ℤ) → T (ltb n (2 ^ 63)) → Each n l → map word l ≡ l
words [] t h = refl
words (x ∷ l) t h = ap₂ ◌∷◌ (rd (h.at 0) t).same (words l t (rest h))

pub two-fit : {m : ℕ} {l : List ℤ} → Each m l → T (ltb (m + m) (2 ^ 63)) → (i j : ℕ) → SFits w64 (word (get_or l i (pos 0)) +ℤ word (get_or l j (pos 0)))
two-fit {m} {l} h t i j = fits-at (i-add (at i) (at j)) both
  where
    both : m + m < 2 ^ 63
    both = ltb→lt (m + m) (2 ^ 63) t

    one : m < 2 ^ 63
    one = omega (arith, both)

    at : (k : ℕ) → Is m (get_or l k (pos 0)) (word (get_or l k (pos 0)))
    at k = st-at (record { same = refl; within = h.at k }) one

pub taken-each : {m : ℕ} (ks : List ℕ) {l : List ℤ} → Each m l → Each m (taken ks l)
taken-each [] h = each_nil
taken-each (k ∷ ks) h = each-cons (h.at k) (taken-each ks h)

-- ---- lines of expressions
beside-evals : (ρ : List ℤ) (es : List Expr) → beside ◌+ℤ◌ (evals ρ es) ≡ evals ρ (beside ◌⊕◌ es)
beside-evals ρ [] = refl
beside-evals ρ (d ∷ []) = refl
beside-evals ρ (d ∷ e ∷ es) = ap (λ (l : List ℤ). (eval ρ d +ℤ eval ρ e) ∷ l) (beside-evals ρ (e ∷ es))

lean-evals : (ρ : List ℤ) (n : ℕ) (es : List Expr) → lean ◌+ℤ◌ n (evals ρ es) ≡ evals ρ (lean ◌⊕◌ n es)
lean-evals ρ zero es = refl
lean-evals ρ (suc n) [] = refl
lean-evals ρ (suc n) (e ∷ es) =
    ap (λ (l : List ℤ). eval ρ e ∷ l) (ap (lean ◌+ℤ◌ n) (beside-evals ρ (e ∷ es)) ∙ lean-evals ρ n (beside ◌⊕◌ (e ∷ es)))

entry-is : (ρ : List ℤ) (ess : List (List Expr)) (j k : ℕ) → entry (pos 0) (map (evals ρ) ess) j k ≡ eval ρ (entry (con (pos 0)) ess j k)
entry-is ρ [] j k = refl
entry-is ρ ([] ∷ ess) zero k = refl
entry-is ρ ((e ∷ es) ∷ ess) zero zero = refl
entry-is ρ ((e ∷ es) ∷ ess) zero (suc k) = entry-is ρ (es ∷ ess) zero k
entry-is ρ (es ∷ ess) (suc j) k = entry-is ρ ess j k

-- ---- sizes
abbrev pub fit : List ℕ → ℕ → List Expr → Bool
fit bs B es = ltb B (2 ^ 63) && all_within bs B es

module _ {m : ℕ} {ρ : List ℤ} (h : Each m ρ) (B : ℕ) (es : List Expr) (t : T (fit (sizes m ρ) B es)) where
  pub sums-each : Each B (evals ρ es)
  sums-each =
      let (a, b) = T_and (ltb B (2 ^ 63)) (all_within (sizes m ρ) B es) t in
      each-by ρ (sizes m ρ) (bounded ρ h) B es b

  pub sums-words : {vs : List ℤ} → vs ≡ evals ρ es → map word vs ≡ evals ρ es
  sums-words e =
      let (a, b) = T_and (ltb B (2 ^ 63)) (all_within (sizes m ρ) B es) t in
      ap (map word) e ∙ words (evals ρ es) a sums-each

  pub sums-asked : {vs : List ℤ} → vs ≡ evals ρ es → Each B (map word vs)
  sums-asked e = each-as (sums-words e) sums-each

  pub sums-leaned : (n : ℕ) {vs rs : List ℤ} → vs ≡ evals ρ es → rs ≡ lean ◌+ℤ◌ n (map word vs) → rs ≡ evals ρ (lean ◌⊕◌ n es)
  sums-leaned n e f = f ∙ ap (lean ◌+ℤ◌ n) (sums-words e) ∙ lean-evals ρ n es

abbrev pub multiple : List ℕ → ℕ → Expr → Bool
multiple bs n e = ltb (bound bs e) (2 ^ 63) && ltb (n * bound bs e) (2 ^ 63)

abbrev pub fits_all : List ℕ → ℕ → List (List Expr) → Bool
fits_all bs B [] = true
fits_all bs B (es ∷ ess) = fit bs B es && fits_all bs B ess

module _ {m : ℕ} {ρ : List ℤ} (h : Each m ρ) where
  all_words : (B : ℕ) (ess : List (List Expr)) → T (fits_all (sizes m ρ) B ess) → map (map word) (map (evals ρ) ess) ≡ map (evals ρ) ess
  all_words B [] t = refl
  all_words B (es ∷ ess) t =
      let (a, b) = T_and (fit (sizes m ρ) B es) (fits_all (sizes m ρ) B ess) t in
      ap₂ ◌∷◌ (sums-words h B es a refl) (all_words B ess b)

  module _ (ess : List (List Expr)) {vss : List (List ℤ)} (e : vss ≡ map (evals ρ) ess) where
    pub lines-words : (B : ℕ) → T (fits_all (sizes m ρ) B ess) → map (map word) vss ≡ map (evals ρ) ess
    lines-words B t = ap (map (map word)) e ∙ all_words B ess t

    pub times-fit : (n j k : ℕ) → T (multiple (sizes m ρ) n (entry (con (pos 0)) ess j k)) → SFits w64 (pos n *ℤ word (entry (pos 0) vss j k))
    times-fit n j k t =
        let e₀ = entry (con (pos 0)) ess j k in
        let (a, b) = T_and (ltb (bound (sizes m ρ) e₀) (2 ^ 63)) (ltb (n * bound (sizes m ρ) e₀) (2 ^ 63)) t in
        fits
        (i-mul (lit n)
        (got (ap (λ (l : List (List ℤ)). entry (pos 0) l j k) e ∙ entry-is ρ ess j k) (record { size = bound-is ρ (sizes m ρ) (bounded ρ h) e₀ }) a))
        b
