-- The centre of an eight-node quad (02, Ask 2; George, Borouchaki and Barral, relations 28 and 31). The eight nodes are A; what A
-- has at 11 is not looked at. The centre may be a fraction, so four times it is kept.
--   corner_sum A, edge_sum A == the sum of the corners, and that of the edge nodes
--   Relation31 A n c       == relation 31 holds with the centre c/n
--   centre_node A           == four times the centre node
--   fourfold A c i j       == four times the node ij, the given one at the centre
--   share i j              == four times the part of the node ij in the centre: α for a corner, β for an edge node
--   reduced f i j          == four times the reduced function of the node ij, where f are the nine functions of the whole element
--   reduced_sum A f         == the eight nodes by these, four times the map; by their slopes, four times its slope
-- Definitions only.
use Rattle.std.specs.Prelude.{◌≡◌, cond, ◌&&◌, ℕ, eqb, ℤ, pos, neg_ℤ, ◌+ℤ◌, ◌*ℤ◌}
use Rattle.element.specs.Plane.{Vec, ◌+ᵥ◌, ◌-ᵥ◌, ◌*ᵥ◌, sumᵥ}

module _ (A : ℕ → ℕ → Vec) where
  abbrev pub corner_sum : Vec
  corner_sum = A 0 0 +ᵥ A 2 0 +ᵥ A 0 2 +ᵥ A 2 2

  abbrev pub edge_sum : Vec
  edge_sum = A 1 0 +ᵥ A 0 1 +ᵥ A 2 1 +ᵥ A 1 2

  -- "four times the centre plus the corners minus twice the edge nodes is zero", with the fraction cleared
  abbrev pub Relation31 : ℕ → Vec → Type 0
  Relation31 n c = pos 4 *ᵥ c +ᵥ pos n *ᵥ corner_sum -ᵥ pos 2 *ᵥ (pos n *ᵥ edge_sum) ≡ record { x = pos 0; y = pos 0 }

  abbrev pub centre_node : Vec
  centre_node = pos 2 *ᵥ edge_sum -ᵥ corner_sum

  abbrev pub fourfold : Vec → ℕ → ℕ → Vec
  fourfold c i j = cond (eqb i 1 && eqb j 1) c (pos 4 *ᵥ A i j)

-- relation 28: "p_ij + α·p_11" for a corner and "p_ij + β·p_11" for an edge node, α = -1/4 and β = 1/2; the centre has no function left
abbrev pub share : ℕ → ℕ → ℤ
share i j = cond (eqb i 1) (cond (eqb j 1) (neg_ℤ (pos 4)) (pos 2)) (cond (eqb j 1) (pos 2) (neg_ℤ (pos 1)))

abbrev pub reduced : (ℕ → ℕ → ℤ) → ℕ → ℕ → ℤ
reduced f i j = pos 4 *ℤ f i j +ℤ share i j *ℤ f 1 1

abbrev pub reduced_sum : (ℕ → ℕ → Vec) → (ℕ → ℕ → ℤ) → Vec
reduced_sum A f = sumᵥ 3 (λ i. sumᵥ 3 (λ j. reduced f i j *ᵥ A i j))
