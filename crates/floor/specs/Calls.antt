-- What the call `floor_verdict` answers (02, Ask 3).
--   OtherKind, AboveSeven, NoPercent, NotPositive == the faults that are its own: 1, 2, 16, 17
--   floor_codes n l xs p == their order: 1, 2, 3, 4, 21, 16, 17
--   FloorOf n l xs p r  == what `floor_verdict` answers
--   ToldBy q n l xs r   == what is answered by the profile q: what `verdict` answers, or what `floor_verdict` does
-- n is the number given as the kind, l the level limit, xs the coordinate list, p the percentage.
-- Definitions only.
use Rattle.std.specs.Prelude.{List, ◌⊎◌, ℕ, ◌<◌, ℤ, pos, ◌≤ℤ◌}
use Rattle.element.specs.Kinds.{OtherKind}
use Rattle.element.specs.Refusals.{Codes, no_more, code, element_codes}
use Rattle.verdict.specs.Calls.{Told, VerdictOf}
use Rattle.verdict.specs.declared.Judged.{Judged}
use Rattle.floor.specs.declared.Profile.{Profile}
use Rattle.floor.specs.declared.Profile.TheVariants.{Plain, Floor}
use Rattle.floor.specs.Floor.{straight, floored}

-- "Kind 6 only (else code 1), greatest level 7"
abbrev pub AboveSeven : ℕ → Type 0
AboveSeven l = 7 < l

-- "16 p outside 1 to 99, then 17 S not positive"
abbrev pub NoPercent : ℕ → Type 0
NoPercent p = (p < 1) ⊎ (99 < p)

abbrev pub NotPositive : List ℤ → Type 0
NotPositive xs = straight xs ≤ℤ pos 0

abbrev pub floor_codes : ℕ → ℕ → List ℤ → ℕ → Codes ℕ
floor_codes n l xs p =
    code 1 (OtherKind n) (code 2 (AboveSeven l) (element_codes n xs (code 16 (NoPercent p) (code 17 (NotPositive xs) no_more))))

abbrev pub FloorOf : ℕ → ℕ → List ℤ → ℕ → Judged → Type 0
FloorOf n l xs p r = Told (floor_codes n l xs p) (floored p xs) l r

abbrev pub ToldBy : Profile → ℕ → ℕ → List ℤ → Judged → Type 0
ToldBy Plain n l xs r = VerdictOf n l xs r
ToldBy (Floor p) n l xs r = FloorOf n l xs p r
