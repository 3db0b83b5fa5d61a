-- Refusals as they are named in the code, and their numbers (01, "Codes and what they leave").
--   number_of e == the number of the refusal e
--   code_of r == the code that the answer r of a test stands for: 0 where nothing is refused
-- Definitions only.
use Rattle.std.specs.Prelude.{ℕ, Result, Ok, Err}
use Rattle.faults.specs.declared.refusal.Refusal.{Refusal}
use Rattle.faults.specs.declared.refusal.Refusal.TheVariants.{Kind, Level, Length, Outside, Room, Header, Version, Size, Unused, Order, Full, Absent, Form, Fraction, Unlisted, Percentage, Straight, Signed, Sign, NotValid, Collapsed, NoneValid, OffGrid, Undecided}

abbrev pub number_of : Refusal → ℕ
number_of Kind = 1
number_of Level = 2
number_of Length = 3
number_of Outside = 4
number_of Room = 5
number_of Header = 6
number_of Version = 7
number_of Size = 8
number_of Unused = 9
number_of Order = 10
number_of Full = 11
number_of Absent = 12
number_of Form = 13
number_of Fraction = 14
number_of Unlisted = 15
number_of Percentage = 16
number_of Straight = 17
number_of Signed = 18
number_of Sign = 19
number_of NotValid = 20
number_of Collapsed = 21
number_of NoneValid = 22
number_of OffGrid = 23
number_of Undecided = 24

abbrev pub code_of : {A : Type 0} → Result A Refusal → ℕ
code_of (Ok _) = 0
code_of (Err e) = number_of e
