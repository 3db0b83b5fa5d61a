-- Elements in two numberings, and one that looks mirrored and is not (02, Ask 10: "The point named may differ").
--   apart       == a nine-node quad of which two numberings name two points
--   bent        == an eight-node quad that folds at its right side
--   Row         == an element, a limit, its answer, and the answer for the element numbered from the next corner
--   examples    == the list
--   Called r    == both calls have the row's answers, and no others
--   AllCalled rs == that, of each row
--   crossed     == a valid triangle whose three corners stand clockwise
-- Definitions only.
use Rattle.std.specs.Prelude.{List, [], ◌∷◌, ℕ, ℤ, pos}
use Rattle.element.specs.Kinds.{Kind, six, eight, nine, node_count}
use Rattle.judge.specs.Verdict.{Answer, is_valid, is_invalid, is_undecided}
use Rattle.judge.specs.Twelve.{n, G, grid9}
use Rattle.verdict.specs.Calls.{given, VerdictOf, Only}
use Rattle.turns.specs.Numbering.{turned}

-- nodes (2i, 2j), but the centre (1, 4)
abbrev pub apart : List ℤ
apart = grid9 2 1 4

-- 00(0,1), 10(4,-2), 20(8,1), 01(2,4), 21(6,4), 02(0,6), 12(6,8), 22(8,8)
abbrev pub bent : List ℤ
bent =
    pos 0 ∷ pos 1 ∷ pos 4 ∷ n 2 ∷ pos 8 ∷ pos 1 ∷ pos 2 ∷ pos 4 ∷ pos 6 ∷ pos 4 ∷ pos 0 ∷ pos 6 ∷ pos 6 ∷ pos 8 ∷ pos 8 ∷ pos 8 ∷ []

pub record Row : Type 0 where
  pub kind : Kind
  pub coords : List ℤ
  pub limit : ℕ
  pub answer : Answer
  pub next : Answer

abbrev pub row : Kind → List ℤ → ℕ → Answer → Answer → Row
row k xs L a b = record { kind = k; coords = xs; limit = L; answer = a; next = b }

abbrev pub examples : List Row
examples =
    row six (G 7 4) 3 (is_valid 1 4) (is_valid 1 4)
    ∷ row six (G 8 4) 3 (is_invalid 1 1 0 (pos 0)) (is_invalid 1 0 1 (pos 0))
    ∷ row six (G 8 4) 0 (is_undecided 0 1) (is_undecided 0 1)
    ∷ row eight bent 2 (is_invalid 1 2 1 (pos 0)) (is_invalid 1 1 0 (pos 0))
    ∷ row nine (grid9 2 3 2) 2 (is_invalid 1 2 1 (pos 0)) (is_invalid 1 1 0 (pos 0))
    ∷ row nine apart 2 (is_invalid 1 0 1 (pos 0)) (is_invalid 1 2 1 (n 36864))
    ∷ []

pub record Called (r : Row) : Type 0 where
  pub first : Only (VerdictOf (node_count r.kind) r.limit r.coords) (given r.answer)
  pub second : Only (VerdictOf (node_count r.kind) r.limit (turned r.kind r.coords)) (given r.next)

abbrev pub AllCalled : List Row → Type 0
AllCalled [] = Unit {0}
AllCalled (r ∷ rs) = Called r × AllCalled rs

-- A0(-100,0), A1(100,0), A2(0,-10), M01(0,-100), M12(50,-40), M02(-50,-40)
abbrev pub crossed : List ℤ
crossed =
    n 100 ∷ pos 0 ∷ pos 100 ∷ pos 0 ∷ pos 0 ∷ n 10 ∷ pos 0 ∷ n 100 ∷ pos 50 ∷ n 40 ∷ n 50 ∷ n 40 ∷ []
