-- The halves of a quad cell (01: "A quad cell is halved along u and each half along v. Along one direction, with factor 8").
--   weights h a   == the weights of the four old values of a line in the new value a of its half h
--   half_of b      == the upper half if b is true
--   line c i j k l == the four values of c at these places
--   new_value h l a == the new value a of the half h of the line l
--   Halved h l n  == n has the four new values of the half h of the line l
--   half_u h c, half_v h c == the half h of the sixteen values c along u, and along v
-- Definitions only.
use Rattle.std.specs.Prelude.{◌≡◌, Bool, true, false, List, [], ◌∷◌, ℕ, ◌+◌, ◌*◌, ℤ, pos, get_or}
use Rattle.forms.specs.Rows.{Row, weigh}
use Rattle.forms.specs.Quads.{Half, lower, upper, weight, sixteen}
use Rattle.quad_cuts.specs.declared.by_halves.Line.{Line}

abbrev pub weights : Half → ℕ → Row
weights h a = weight h a 0 ∷ weight h a 1 ∷ weight h a 2 ∷ weight h a 3 ∷ []

abbrev pub half_of : Bool → Half
half_of false = lower
half_of true = upper

abbrev pub line : List ℤ → ℕ → ℕ → ℕ → ℕ → List ℤ
line c i j k l = get_or c i (pos 0) ∷ get_or c j (pos 0) ∷ get_or c k (pos 0) ∷ get_or c l (pos 0) ∷ []

abbrev pub new_value : Half → List ℤ → ℕ → ℤ
new_value h l a = weigh (weights h a) (λ i. get_or l i (pos 0))

pub record Halved (h : Half) (l : List ℤ) (n : Line) : Type 0 where
  pub a : n.a ≡ new_value h l 0
  pub b : n.b ≡ new_value h l 1
  pub c : n.c ≡ new_value h l 2
  pub d : n.d ≡ new_value h l 3

abbrev pub half_u : Half → List ℤ → List ℤ
half_u h c = sixteen (λ a j. weigh (weights h a) (λ i. get_or c (i + 4 * j) (pos 0)))

abbrev pub half_v : Half → List ℤ → List ℤ
half_v h c = sixteen (λ i b. weigh (weights h b) (λ j. get_or c (i + 4 * j) (pos 0)))
