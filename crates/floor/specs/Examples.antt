-- Triangles of 01 under a floor (02, Ask 3): each with its limit, its percentage and what the call answers.
--   mirrored    == F(0) numbered the other way round
--   Row         == a triangle, a limit, a percentage and the answer
--   examples    == the list
--   Called r    == the call of the row r has the row's answer, and no other
--   AllCalled rs == that, of each row
-- Definitions only.
use Rattle.std.specs.Prelude.{List, [], ◌∷◌, ℕ, ℤ, pos}
use Rattle.judge.specs.Verdict.{is_valid, is_invalid, is_undecided}
use Rattle.judge.specs.Twelve.{n, F, G}
use Rattle.verdict.specs.Calls.{given, refusal, Only}
use Rattle.verdict.specs.declared.Judged.{Judged}
use Rattle.floor.specs.Calls.{FloorOf}

-- A0(0,0), A1(0,8), A2(8,0), M01(0,4), M12(4,4), M02(4,0)
abbrev pub mirrored : List ℤ
mirrored = pos 0 ∷ pos 0 ∷ pos 0 ∷ pos 8 ∷ pos 8 ∷ pos 0 ∷ pos 0 ∷ pos 4 ∷ pos 4 ∷ pos 4 ∷ pos 4 ∷ pos 0 ∷ []

pub record Row : Type 0 where
  pub coords : List ℤ
  pub limit : ℕ
  pub percent : ℕ
  pub answer : Judged

abbrev pub row : List ℤ → ℕ → ℕ → Judged → Row
row xs L p r = record { coords = xs; limit = L; percent = p; answer = r }

abbrev pub examples : List Row
examples =
    row (F 1) 3 49 (given (is_valid 0 1))
    ∷ row (F 1) 3 50 (given (is_invalid 0 1 0 (pos 0)))
    ∷ row (F 0) 3 99 (given (is_valid 0 1))
    ∷ row (G 7 4) 3 12 (given (is_valid 1 4))
    ∷ row (G 7 4) 3 13 (given (is_invalid 1 1 0 (n 1024)))
    ∷ row (G 7 4) 0 12 (given (is_undecided 0 1))
    ∷ row (G 3 4) 3 62 (given (is_valid 1 4))
    ∷ row (G 3 4) 3 63 (given (is_invalid 1 1 0 (n 1024)))
    ∷ row mirrored 3 99 (refusal 17)
    ∷ []

abbrev pub Called : Row → Type 0
Called r = Only (FloorOf 6 r.limit r.coords r.percent) r.answer

abbrev pub AllCalled : List Row → Type 0
AllCalled [] = Unit {0}
AllCalled (r ∷ rs) = Called r × AllCalled rs
