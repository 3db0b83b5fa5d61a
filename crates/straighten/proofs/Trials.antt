-- The order of trial is the order of the sets.
--   trials-rise     : of two places the earlier has the set that comes before
--   stands, trials-all : every set has a place
--   trials-once     : and one only
--   last-place      : what is none of the places before is the last
--   first-chosen    : the first place whose set gives valid has the set that is chosen
--   first-none      : and where no place gives valid no set does
-- Assumes nothing.
use mathlib.Core.Path.{◌≡◌, refl, sym, subst}
use mathlib.Core.Bool.{Bool, true, false, ◌&&◌}
use mathlib.Core.List.{List, [], ◌∷◌, map}
use Prim.Native.Nat.{ℕ, zero, suc, ◌≤◌, ◌<◌, zero-le}
use native.Mathlib.Nat as N
use native.Mathlib.Decide.{dec_lt}
use native.Mathlib.Omega.{arith}
use lib.Dec.{T, ltb, lit<, ltb→lt}
use lib.IntN.{ℤ}
use lib.ListN.{length, get_or, get_or-map}
use Rattle.algebra.proofs.Truth.{T_and}
use Rattle.middles.specs.declared.Replaced.{Replaced}
use Rattle.middles.specs.Sets.{set_of, none, Sooner}
use Rattle.middles.proofs.Orders.{weight, not-lt, sooner-lighter, lighter-sooner, sooner-irrefl}
use Rattle.straighten.specs.Calls.{GivesValid, NoneValid, Chosen}
use Rattle.straighten.specs.Trials.{trials, set_at, First}

-- ---- the list rises
abbrev rising : List ℕ → Bool
rising [] = true
rising (x ∷ []) = true
rising (x ∷ y ∷ l) = ltb x y && rising (y ∷ l)

rising-next : (x y : ℕ) (l : List ℕ) → T (rising (x ∷ y ∷ l)) → (x < y) × T (rising (y ∷ l))
rising-next x y l t = let u = T_and (ltb x y) (rising (y ∷ l)) t in (ltb→lt x y u.0, u.1)

rising-first : (x : ℕ) (l : List ℕ) → T (rising (x ∷ l)) → (j : ℕ) → j < length l → x < get_or l j 0
rising-first x [] t j h = absurd (N.not-suc-le-zero h)
rising-first x (y ∷ l) t zero h = (rising-next x y l t).0
rising-first x (y ∷ l) t (suc j) h =
    let u = rising-next x y l t in N.lt_trans u.0 (rising-first y l u.1 j (N.le_of_suc-le-suc h))

rising-tail : (x : ℕ) (l : List ℕ) → T (rising (x ∷ l)) → T (rising l)
rising-tail x [] t = tt
rising-tail x (y ∷ l) t = (rising-next x y l t).1

rises : (l : List ℕ) → T (rising l) → (i j : ℕ) → i < j → j < length l → get_or l i 0 < get_or l j 0
rises [] t i j h k = absurd (N.not-suc-le-zero k)
rises (x ∷ l) t i zero h k = absurd (N.not-suc-le-zero h)
rises (x ∷ l) t zero (suc j) h k = rising-first x l t j (N.le_of_suc-le-suc k)
rises (x ∷ l) t (suc i) (suc j) h k = rises l (rising-tail x l t) i j (N.le_of_suc-le-suc h) (N.le_of_suc-le-suc k)

weight-rises : (i j : ℕ) → i < j → j < 8 → weight (set_at i) < weight (set_at j)
weight-rises i j h k =
    rw (← (get_or-map weight trials i none), ← (get_or-map weight trials j none)) (rises (map weight trials) tt i j h k)

pub trials-rise : (i j : ℕ) → i < j → j < 8 → Sooner (set_at i) (set_at j)
trials-rise i j h k = lighter-sooner (set_at i) (set_at j) (weight-rises i j h k)

-- ---- every set has its place
pub record Stands (s : Replaced) : Type 0 where
  pub at : ℕ
  pub inside : at < 8
  pub is : set_at at ≡ s

unfoldable pub stands : (a b c : Bool) → Stands (set_of a b c)
stands false false false = record { at = 0; inside = lit< tt; is = refl }
stands true false false = record { at = 1; inside = lit< tt; is = refl }
stands false true false = record { at = 2; inside = lit< tt; is = refl }
stands false false true = record { at = 3; inside = lit< tt; is = refl }
stands true true false = record { at = 4; inside = lit< tt; is = refl }
stands true false true = record { at = 5; inside = lit< tt; is = refl }
stands false true true = record { at = 6; inside = lit< tt; is = refl }
stands true true true = record { at = 7; inside = lit< tt; is = refl }

unfoldable pub trials-all : (s : Replaced) → Stands s
trials-all s = stands s.m01 s.m12 s.m02

pub trials-once : (i j : ℕ) → i < 8 → j < 8 → set_at i ≡ set_at j → i ≡ j
trials-once i j h k e = go (dec_lt i j) (dec_lt j i)
  where
    clash : (a b : ℕ) → a < b → b < 8 → set_at a ≡ set_at b → ⊥
    clash a b l m f = sooner-irrefl (set_at b) (subst (λ (s : Replaced). Sooner s (set_at b)) f (trials-rise a b l m))

    go : Dec (i < j) → Dec (j < i) → i ≡ j
    go (yes l) d = absurd (clash i j l k e)
    go (no l) (yes m) = absurd (clash j i m h (sym e))
    go (no l) (no m) = N.le_antisymm (not-lt m) (not-lt l)

past : {n t : ℕ} → n ≤ t → ¬ (t ≡ n) → suc n ≤ t
past h f = omega arith

pub last-place : (t : ℕ) → t < 8
    → ¬ (t ≡ 0) → ¬ (t ≡ 1) → ¬ (t ≡ 2) → ¬ (t ≡ 3) → ¬ (t ≡ 4) → ¬ (t ≡ 5) → ¬ (t ≡ 6)
    → t ≡ 7
last-place t h a b c d e f g = N.le_antisymm (N.le_of_suc-le-suc h) (past (past (past (past (past (past (past zero-le a) b) c) d) e) f) g)

-- ---- the first place
module _ (l : ℕ) (xs : List ℤ) (t : ℕ) (f : First l xs t) where
  -- the place of a set that gives valid is not before t
  late : (s : Replaced) → GivesValid l xs s → t ≤ (trials-all s).at
  late s v = go (dec_lt (trials-all s).at t)
    where
      go : Dec ((trials-all s).at < t) → t ≤ (trials-all s).at
      go (yes h) = absurd (f.none_before (trials-all s).at h (subst (GivesValid l xs) (sym (trials-all s).is) v))
      go (no h) = not-lt h

  none-sooner : t < 8 → (s : Replaced) → GivesValid l xs s → ¬ Sooner s (set_at t)
  none-sooner h s v p = go (dec_lt t (trials-all s).at)
    where
      light : weight (set_at (trials-all s).at) < weight (set_at t)
      light = subst (λ (r : Replaced). weight r < weight (set_at t)) (sym (trials-all s).is) (sooner-lighter s (set_at t) p)

      go : Dec (t < (trials-all s).at) → ⊥
      go (yes k) = N.lt_irrefl (weight (set_at t)) (N.lt_trans (weight-rises t (trials-all s).at k (trials-all s).inside) light)
      go (no k) =
          let e : (trials-all s).at ≡ t = N.le_antisymm (not-lt k) (late s v) in
          N.lt_irrefl (weight (set_at t)) (subst (λ (m : ℕ). weight (set_at m) < weight (set_at t)) e light)

  pub first-chosen : t < 8 → Chosen l xs (set_at t)
  first-chosen h = record { valid = f.found h; first = none-sooner h }

  pub first-none : t ≡ 8 → NoneValid l xs
  first-none e s v = N.not-le_of_lt (trials-all s).inside (subst (λ (m : ℕ). m ≤ (trials-all s).at) e (late s v))
