-- The examples of the floor as answers of the call: it accepts each of them but the mirrored one, and answers what the list says.
--   mirrored-nodes  : the mirrored triangle is F(0) with A1 and A2, and M01 and M02, exchanged
--   examples-asked  : triangle, limit and percentage of each row are those of the request
--   examples-called : the claim, for the whole list
-- Assumes nothing.
use mathlib.Core.Path.{◌≡◌, refl, subst}
use mathlib.Core.Bool.{Bool, true, false, cond, ◌&&◌}
use mathlib.Core.List.{List, [], ◌∷◌, map}
use mathlib.Core.Logic.{inl, inr}
use Prim.Native.Nat.{ℕ}
use lib.Dec.{T, leb, leb→le}
use lib.IntN.{ℤ, pos}
use lib.Signed.{le_z, le_z_yes}
use Rattle.algebra.proofs.Truth.{true-T, T_false, T_and}
use Rattle.forms.specs.Rows.{weigh}
use Rattle.forms.specs.Forms.{value}
use Rattle.forms.specs.Shapes.{scaled}
use Rattle.forms.specs.Cuttings.{leaves, level, opens, greedy}
use Rattle.element.specs.Corners.{Collapsed}
use Rattle.element.specs.Refusals.{WrongLength, Outside}
use Rattle.element.specs.Kinds.{six}
use Rattle.element.specs.Nodes.{A0, A1, A2, M01, M12, M02}
use Rattle.element.specs.Control.{values6, control_values}
use Rattle.element.proofs.Tried.{sound, list-accepted}
use Rattle.judge.specs.Twelve.{F, G}
use Rattle.judge.proofs.Computed.{low, in_row, row_low, row_of_first, cells_of, least-count, in_row_told, from, verdict, verdict-is}
use Rattle.judge.proofs.Search.{least}
use Rattle.verdict.specs.Calls.{given, refusal}
use Rattle.verdict.specs.declared.Judged.{Judged}
use Rattle.floor.specs.Floor.{straight, floored}
use Rattle.floor.specs.Calls.{AboveSeven, NoPercent, FloorOf}
use Rattle.floor.specs.Examples.{mirrored, Row, examples, Called, AllCalled}
use Rattle.floor.proofs.Values.{floor-faithful}
use Rattle.floor.proofs.Parts.{not-above, percent}
use Rattle.floor.proofs.Outcomes.{floor-unique}

pub mirrored-nodes : (A0 mirrored ≡ A0 (F 0))
    × (A1 mirrored ≡ A2 (F 0))
    × (A2 mirrored ≡ A1 (F 0))
    × (M01 mirrored ≡ M02 (F 0))
    × (M12 mirrored ≡ M12 (F 0))
    × (M02 mirrored ≡ M01 (F 0))
mirrored-nodes = (refl, refl, refl, refl, refl, refl)

abbrev Asked : Type 0
Asked = List ℤ × ℕ × ℕ

abbrev asked : Row → Asked
asked r = (r.coords, r.limit, r.percent)

pub examples-asked : map asked examples
    ≡ (F 1, 3, 49) ∷ (F 1, 3, 50) ∷ (F 0, 3, 99) ∷ (G 7 4, 3, 12) ∷ (G 7 4, 3, 13) ∷ (G 7 4, 0, 12) ∷ (G 3 4, 3, 62) ∷ (G 3 4, 3, 63) ∷ (mirrored, 3, 99) ∷ []
examples-asked = refl

-- ---- the list, the limit and the percentage, as a test
abbrev measured : ℕ → ℕ → Bool
measured l p = leb l 7 && (leb 1 p && leb p 99)

abbrev tried : Row → Bool
tried r = sound six r.coords && measured r.limit r.percent

measured-accepted : (l p : ℕ) → T (measured l p) → ¬ AboveSeven l × ¬ NoPercent p
measured-accepted l p t =
    let (a, u) = T_and (leb l 7) (leb 1 p && leb p 99) t in let (b, c) = T_and (leb 1 p) (leb p 99) u in
    (not-above (leb→le l 7 a), percent p (not-above (leb→le 1 p b)) (not-above (leb→le p 99 c)))

-- ---- a row by what computes: 17 where S is not positive, and else the verdict
abbrev answer_if : Bool → Row → Judged
answer_if b r = cond b (refusal 17) (given (verdict (floored r.percent r.coords) r.limit))

abbrev computed : Row → Judged
computed r = answer_if (le_z (straight r.coords) (pos 0)) r

module _ (r : Row) (t : T (tried r)) where
  formed : ¬ WrongLength 6 r.coords × ¬ Outside six r.coords × ¬ Collapsed six r.coords
  formed = list-accepted six r.coords (T_and (sound six r.coords) (measured r.limit r.percent) t).0

  numbers : ¬ AboveSeven r.limit × ¬ NoPercent r.percent
  numbers = measured-accepted r.limit r.percent (T_and (sound six r.coords) (measured r.limit r.percent) t).1

  answers : (b : Bool) → le_z (straight r.coords) (pos 0) ≡ b → FloorOf 6 r.limit r.coords r.percent (answer_if b r)
  answers true e =
      let (many, inside, corners) = formed in let (h, q) = numbers in
      inl (record {
        refused = inr ((λ f. f refl), inr (h, inr (many, inr (inside, inr (corners, inr (q, inl (le_z_yes (true-T e), refl)))))));
        zeros = refl;
      })
  answers false e =
      let (many, inside, corners) = formed in let (h, q) = numbers in
      inr (record {
        accepted = ((λ f. f refl), (h, (many, (inside, (corners, (q, ((λ b. T_false (le_z (straight r.coords) (pos 0)) e b.le), tt)))))));
        answer = verdict (floored r.percent r.coords) r.limit;
        judges = verdict-is (floored r.percent r.coords) (floor-faithful r.percent r.coords) r.limit;
        told = refl;
      })

  called : computed r ≡ r.answer → Called r
  called e =
      let v = subst (FloorOf 6 r.limit r.coords r.percent) e (answers (le_z (straight r.coords) (pos 0)) refl) in
      record { allowed = v; no_other = λ s w. floor-unique 6 r.limit r.coords r.percent s r.answer w v }

-- ---- the list
abbrev all_tried : List Row → Bool
all_tried [] = true
all_tried (r ∷ rs) = tried r && all_tried rs

all-called : (rs : List Row) → T (all_tried rs) → map computed rs ≡ map (λ (r : Row). r.answer) rs → AllCalled rs
all-called [] t e = tt
all-called (r ∷ rs) t e =
    let (a, b) = T_and (tried r) (all_tried rs) t in
    (called r a cc, all-called rs b cc)

pub examples-called : AllCalled examples
unfolding verdict from in_row_told least-count cells_of row_of_first row_low in_row low least scaled value weigh leaves level greedy opens control_values values6 straight
examples-called = all-called examples tt refl
