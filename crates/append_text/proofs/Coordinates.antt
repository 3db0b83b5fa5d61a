-- The words of a line that are read as coordinates, one a turn.
--   rests-three    : what is behind three words
--   read_next, drop-next : one more word is read
--   read-over      : where no word is left all are read
-- Assumes nothing.
use mathlib.Core.Path.{◌≡◌, refl, sym, ap, ap₂, ◌∙◌}
use mathlib.Core.Bool.{true, false, true≢false}
use mathlib.Core.List.{List, [], ◌∷◌, map}
use Prim.Native.Nat.{ℕ, zero, suc, ◌≤◌, ◌<◌}
use native.Mathlib.Omega.{arith}
use lib.IntN.{ℤ, pos}
use lib.ListN.{length, take, drop, set, get_or, length-drop}
use lib.Seq.{take_all}
use Rattle.mesh_text.specs.Rows.{first, rest, is_nil}

pub rests-three : (ws : List (List ℕ)) → rest (rest (rest ws)) ≡ drop 3 ws
rests-three [] = refl
rests-three (u ∷ []) = refl
rests-three (u ∷ v ∷ []) = refl
rests-three (u ∷ v ∷ w ∷ ws) = refl

pub drop-next : (i : ℕ) (ws : List (List ℕ)) → drop (suc i) ws ≡ rest (drop i ws)
drop-next zero [] = refl
drop-next zero (w ∷ ws) = refl
drop-next (suc i) [] = refl
drop-next (suc i) (w ∷ ws) = drop-next i ws

module _ (f : List ℕ → ℤ) where
  pub read_next : (i : ℕ) (ws : List (List ℕ)) (xs : List ℤ)
      → i < length xs
      → is_nil (drop i ws) ≡ false
      → take i xs ≡ map f (take i ws)
      → take (suc i) (set xs i (f (first (drop i ws)))) ≡ map f (take (suc i) ws)
  read_next i ws [] h e p = absurd (omega arith)
  read_next zero [] (x ∷ xs) h e p = absurd (true≢false e)
  read_next (suc i) [] (x ∷ xs) h e p = absurd (true≢false e)
  read_next zero (w ∷ ws) (x ∷ xs) h e p = refl
  read_next (suc i) (w ∷ ws) (x ∷ xs) h e p =
      ap₂ (λ (y : ℤ) (ys : List ℤ). y ∷ ys) (ap (λ l. get_or l 0 (pos 0)) p) (read_next i ws xs (omega arith) e (ap (drop 1) p))

  pub read-over : (i n : ℕ) (ws : List (List ℕ)) → is_nil (drop i ws) ≡ true → i ≤ n → map f (take i ws) ≡ map f (take n ws)
  read-over i n ws e h =
      let k : length ws ≤ i = omega (arith, length-drop i ws, none (drop i ws) e) in
      ap (map f) (take_all i ws k ∙ sym (take_all n ws (omega arith)))
    where
      none : (l : List (List ℕ)) → is_nil l ≡ true → length l ≡ 0
      none [] q = refl
      none (w ∷ l) q = absurd (true≢false (sym q))
