-- Lists that answer to each other, number by number, and a buffer that a loop fills with such answers; over any two kinds of numbers
-- and any relation of them.
--   pairs-length, pairs-only, pairs-join, pairs-at : one length; one list, where the relation gives one answer; one behind the other; at a place
--   filled-start, filled_more, filled-end : before the loop, one turn, and after it
--   filled-front, filled-only : what the places hold, and that it is one
-- Assumes nothing.
use Rattle.std.proofs.Common.{◌≡◌, ℕ, zero, suc, ◌+◌, ◌<◌, List, [], ◌∷◌, ◌++◌, length, get_or, take, drop, set, sym, refl, ap, ◌∙◌, subst, ap₂, add-one, length-take, take_all, take_at}
use native.Mathlib.Nat as N
use Rattle.solver_grid.specs.Calls.{Pairs, Filled}

module _ {A B : Type 0} (R : A → B → Type 0) where
  pub pairs-length : (xs : List A) (ys : List B) → Pairs R xs ys → length ys ≡ length xs
  pairs-length [] [] p = refl
  pairs-length [] (y ∷ ys) p = absurd p
  pairs-length (x ∷ xs) [] p = absurd p
  pairs-length (x ∷ xs) (y ∷ ys) (r, p) = ap suc (pairs-length xs ys p)

  pub pairs-only : ((x : A) (y z : B) → R x y → R x z → y ≡ z) → (xs : List A) (ys zs : List B) → Pairs R xs ys → Pairs R xs zs → ys ≡ zs
  pairs-only one [] [] [] p q = refl
  pairs-only one [] [] (z ∷ zs) p q = absurd q
  pairs-only one [] (y ∷ ys) zs p q = absurd p
  pairs-only one (x ∷ xs) [] zs p q = absurd p
  pairs-only one (x ∷ xs) (y ∷ ys) [] p q = absurd q
  pairs-only one (x ∷ xs) (y ∷ ys) (z ∷ zs) (r, p) (s, q) = ap₂ (λ u us. u ∷ us) (one x y z r s) (pairs-only one xs ys zs p q)

  -- one turn: v stands behind the answers to the first k
  more : (k : ℕ) (xs : List A) (ys : List B) (a : A) (v : B)
      → Pairs R (take k xs) ys
      → k < length xs
      → R (get_or xs k a) v
      → Pairs R (take (suc k) xs) (ys ++ (v ∷ []))
  more zero (x ∷ xs) [] a v p h r = (r, tt)
  more zero (x ∷ xs) (y ∷ ys) a v p h r = absurd p
  more (suc k) (x ∷ xs) [] a v p h r = absurd p
  more (suc k) (x ∷ xs) (y ∷ ys) a v (q, p) h r = (q, more k xs ys a v p (N.le_of_suc-le-suc h) r)
  more k [] ys a v p h r = absurd (N.not-suc-le-zero h)

pub pairs-join : {A B C : Type 0} (R : A → B → Type 0) (S : B → C → Type 0) (Q : A → C → Type 0)
    → ((x : A) (y : B) (z : C) → R x y → S y z → Q x z)
    → (xs : List A) (ys : List B) (zs : List C)
    → Pairs R xs ys
    → Pairs S ys zs
    → Pairs Q xs zs
pairs-join R S Q f [] [] [] p q = tt
pairs-join R S Q f [] [] (z ∷ zs) p q = absurd q
pairs-join R S Q f [] (y ∷ ys) zs p q = absurd p
pairs-join R S Q f (x ∷ xs) [] zs p q = absurd p
pairs-join R S Q f (x ∷ xs) (y ∷ ys) [] p q = absurd q
pairs-join R S Q f (x ∷ xs) (y ∷ ys) (z ∷ zs) (r, p) (s, q) = (f x y z r s, pairs-join R S Q f xs ys zs p q)

-- ---- a buffer; d is what it held
seam : {B : Type 0} (ys d : List B) (v : B)
    → length ys < length d
    → set (ys ++ drop (length ys) d) (length ys) v ≡ (ys ++ (v ∷ [])) ++ drop (suc (length ys)) d
seam [] [] v h = absurd (N.not-suc-le-zero h)
seam [] (w ∷ d) v h = refl
seam (y ∷ ys) [] v h = absurd (N.not-suc-le-zero h)
seam (y ∷ ys) (w ∷ d) v h = ap (λ l. y ∷ l) (seam ys d v (N.le_of_suc-le-suc h))

module _ {A B : Type 0} (R : A → B → Type 0) where
  pub filled-start : (d : List B) → Filled R 0 [] d d
  filled-start d = record { numbers = []; each = tt; places = refl }

  pub filled_more : (a : A) (k : ℕ) (xs : List A) {d o : List B} {v : B}
      → Filled R k (take k xs) d o
      → k < length xs
      → k < length d
      → R (get_or xs k a) v
      → Filled R (k + 1) (take (k + 1) xs) d (set o k v)
  filled_more a k xs {d} {o} {v} f h l r =
      rw (add-one k)
      (record {
        numbers = f.numbers ++ (v ∷ []);
        each = more R k xs f.numbers a v f.each h r;
        places = ap (λ q. set q k v) f.places
            ∙ subst (λ m. set (f.numbers ++ drop m d) m v ≡ (f.numbers ++ (v ∷ [])) ++ drop (suc m) d) many (seam f.numbers d v (rw many l));
      })
    where
      many : length f.numbers ≡ k
      many = pairs-length R (take k xs) f.numbers f.each ∙ length-take k xs ∙ N.min-eq_left (N.le_of_lt h)

  pub filled-end : (k : ℕ) (xs : List A) {d o : List B} → k ≡ length xs → Filled R k (take k xs) d o → Filled R (length xs) xs d o
  filled-end k xs {d} {o} e f =
      record {
        numbers = f.numbers;
        each = subst (λ l. Pairs R l f.numbers) (take_all k xs (N.le_of_eq (sym e))) f.each;
        places = f.places ∙ ap (λ m. f.numbers ++ drop m d) e;
      }

  -- m is the number of answers
  pub filled-front : {m : ℕ} {xs : List A} {d o : List B} (f : Filled R m xs d o) → length xs ≡ m → take m o ≡ f.numbers
  filled-front {m} {xs} {d} {o} f e =
      ap (take m) f.places ∙ take_at f.numbers (drop m d) m (pairs-length R xs f.numbers f.each ∙ e)

  pub filled-only : ((x : A) (y z : B) → R x y → R x z → y ≡ z)
      → {m : ℕ} {xs : List A} {d o p : List B}
      → Filled R m xs d o
      → Filled R m xs d p
      → o ≡ p
  filled-only one {m} {xs} {d} f g =
      f.places ∙ ap (λ l. l ++ drop m d) (pairs-only R one xs f.numbers g.numbers f.each g.each) ∙ sym g.places
