-- Quads of bidegree (3, 3): two directions, u then v, each with two weights, cut in half along each (01, "Cutting a cell").
--   Half              == the lower or the upper half along a direction
--   ends h            == the ends of a half, in doubled weights
--   along_u i, along_v i == the halves whose meeting is quarter i
--   quarter_of h k     == the quarter where half h along u meets half k along v
--   weight h a i      == the weight of the old value i in the new value a, along one direction, with factor 8
--   quad              == the shape: value (I, J) at place I + 4J
-- Definitions only.
use Rattle.std.specs.Prelude.{cond, List, [], ◌∷◌, ℕ, zero, suc, ◌+◌, ◌*◌, ◌-◌, ◌^◌, leb, get_or}
use Rattle.forms.specs.Binomials.{choose}
use Rattle.forms.specs.Rows.{Row}
use Rattle.forms.specs.Cuttings.{Four, first, second, third, fourth}
use Rattle.forms.specs.Shapes.{Shape}

pub data Half : Type 0 where
  lower upper : Half

abbrev pub ends : Half → ℕ → Row
ends lower k = get_or ((2 ∷ 0 ∷ []) ∷ (1 ∷ 1 ∷ []) ∷ []) k []
ends upper k = get_or ((1 ∷ 1 ∷ []) ∷ (0 ∷ 2 ∷ []) ∷ []) k []

-- "Quarters run lower-left, lower-right, upper-left, upper-right"
abbrev pub along_u : Four → Half
along_u first = lower
along_u second = upper
along_u third = lower
along_u fourth = upper

abbrev pub along_v : Four → Half
along_v first = lower
along_v second = lower
along_v third = upper
along_v fourth = upper

abbrev pub quarter_of : Half → Half → Four
quarter_of lower lower = first
quarter_of upper lower = second
quarter_of lower upper = third
quarter_of upper upper = fourth

-- "the lower half has weight C(a,i)·2^(3-a) for i ≤ a, the upper half C(3-a,i-a)·2^a for i ≥ a, zero otherwise"
abbrev pub weight : Half → ℕ → ℕ → ℕ
weight lower a i = cond (leb i a) (choose a i * 2 ^ (3 - a)) 0
weight upper a i = cond (leb a i) (choose (3 - a) (i - a) * 2 ^ a) 0

-- the sixteen of f, at place I + 4J
abbrev pub sixteen {ℓ} : {A : Type ℓ} → (ℕ → ℕ → A) → List A
sixteen f =
    f 0 0 ∷ f 1 0 ∷ f 2 0 ∷ f 3 0 ∷ f 0 1 ∷ f 1 1 ∷ f 2 1 ∷ f 3 1 ∷ f 0 2 ∷ f 1 2 ∷ f 2 2 ∷ f 3 2 ∷ f 0 3 ∷ f 1 3 ∷ f 2 3 ∷ f 3 3 ∷ []

-- "the two directions multiply"
abbrev pub table : Four → List Row
table i = sixteen (λ a b. sixteen (λ I J. weight (along_u i) a I * weight (along_v i) b J))

abbrev pub place : List ℕ → ℕ
place [] = 16
place (a ∷ []) = 16
place (a ∷ b ∷ []) = 16
place (a ∷ b ∷ c ∷ []) = 16
place (a ∷ b ∷ c ∷ d ∷ []) = 16
place (a ∷ b ∷ c ∷ d ∷ e ∷ []) = 16
place (a ∷ b ∷ c ∷ d ∷ e ∷ f ∷ ks) = (a + b + c) + 4 * (d + e + f)

abbrev pub quad : Shape
quad =
    record {
      counts = 3 ∷ 3 ∷ [];
      sizes = 2 ∷ 2 ∷ [];
      entries = sixteen (λ I J. ((3 - I) ∷ I ∷ []) ∷ ((3 - J) ∷ J ∷ []) ∷ []);
      place = place;
      corners = (0 ∷ 0 ∷ []) ∷ (1 ∷ 0 ∷ []) ∷ (0 ∷ 1 ∷ []) ∷ (1 ∷ 1 ∷ []) ∷ [];
      cuts = λ i. ends (along_u i) ∷ ends (along_v i) ∷ [];
      table = table;
      growth = 64;
      last = λ n j. n;
      rows = λ n i j. ((n - i) ∷ i ∷ []) ∷ ((n - j) ∷ j ∷ []) ∷ [];
      column = (0, 1);
      row = (1, 1);
    }
