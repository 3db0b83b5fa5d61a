-- A triangle that passes behind every good block with room, so that no call that tries it may refuse it.
--   triangle id level == the triangle at (0,0) (8,0) (0,8), with the middles of its sides
--   triangle-passes : it passes, where its id may follow and its level limit is one of triangles
-- Assumes nothing.
use mathlib.Core.Path.{refl}
use mathlib.Core.List.{List, [], ◌∷◌}
use Prim.Native.Nat.{ℕ, ◌+◌, ◌-◌, ◌≤◌, ◌<◌}
use native.Mathlib.Omega.{arith}
use lib.IntN.{pos}
use lib.ListN.{length, take}
use Rattle.element.specs.Kinds.{six}
use Rattle.element.proofs.Tried.{list-accepted}
use Rattle.block.specs.Block.{count_of}
use Rattle.block.specs.Faults.{lowest}
use Rattle.append.specs.Series.{Given, Passes, empty, first}

abbrev pub triangle : ℕ → ℕ → Given
triangle id level =
    record {
      id = id;
      kind = 6;
      limit = level;
      coords = pos 0 ∷ pos 0 ∷ pos 8 ∷ pos 0 ∷ pos 0 ∷ pos 8 ∷ pos 4 ∷ pos 0 ∷ pos 4 ∷ pos 4 ∷ pos 0 ∷ pos 4 ∷ [];
    }

module _ (id level : ℕ) (b : List ℕ) (used : ℕ) (l : level ≤ 10)
    (low : lowest (take used b) (count_of (take used b)) ≤ id) (few : count_of (take used b) < 800) (room : used + 80 ≤ length b) where
  pub triangle-passes : Passes (lowest (take used b) (count_of (take used b))) (count_of (take used b)) (length b - used) (triangle id level ∷ [])
  triangle-passes =
      let level-ok : ¬ (10 < level) = λ k. absurd (omega arith) in
      let id-ok : ¬ (id < lowest (take used b) (count_of (take used b))) = λ k. absurd (omega arith) in
      let count-ok : ¬ (800 ≤ count_of (take used b)) = λ k. absurd (omega arith) in
      let room-ok : ¬ (length b - used < 80) = λ k. absurd (omega arith) in
      let (many, inside, corners) = list-accepted six (triangle id level).coords tt in
      first ((λ k. k.0 refl), (level-ok, (many, (inside, (corners, (id-ok, (count-ok, (room-ok, tt)))))))) empty
