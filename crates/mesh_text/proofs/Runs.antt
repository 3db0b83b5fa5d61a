-- Runs of bytes of a class, by length and place.
--   run_past       : a run and what is past it make the list
--   run_take, run_drop : they are its first bytes and the others
--   run-few        : a run is not longer than the list
-- Assumes nothing.
use mathlib.Core.Path.{◌≡◌, refl, sym, ap, ◌∙◌}
use mathlib.Core.Bool.{Bool, true, false, cond}
use mathlib.Core.List.{List, [], ◌∷◌, ◌++◌}
use Prim.Native.Nat.{ℕ, ◌-◌, ◌≤◌}
use native.Mathlib.Omega.{arith}
use lib.ListN.{length, take, drop, length-append, length-drop}
use lib.Seq.{take-append_seam, drop-append_seam, take_all}
use Rattle.mesh_text.specs.Rows.{run, past}

module _ (p : ℕ → Bool) where
  pub run_past : (t : List ℕ) → run p t ++ past p t ≡ t
  run_past [] = refl
  run_past (b ∷ t) = go (p b) (run_past t)
    where
      go : (c : Bool) → run p t ++ past p t ≡ t → cond c (b ∷ run p t) [] ++ cond c (past p t) (b ∷ t) ≡ b ∷ t
      go true e = ap (λ (l : List ℕ). b ∷ l) e
      go false e = refl

  pub run_take : (t : List ℕ) → take (length (run p t)) t ≡ run p t
  run_take t = ap (λ l. take (length (run p t)) l) (sym (run_past t)) ∙ take-append_seam (run p t) (past p t)

  pub run_drop : (t : List ℕ) → drop (length (run p t)) t ≡ past p t
  run_drop t = ap (λ l. drop (length (run p t)) l) (sym (run_past t)) ∙ drop-append_seam (run p t) (past p t)

  pub run-few : (t : List ℕ) → length (run p t) ≤ length t
  run-few t = omega (arith, length-append (run p t) (past p t), ap length (run_past t))

-- a slice from a place to its end
pub from_place : (t : List ℕ) (n : ℕ) → take (length t - n) (drop n t) ≡ drop n t
from_place t n = take_all (length t - n) (drop n t) (omega (arith, length-drop n t))
