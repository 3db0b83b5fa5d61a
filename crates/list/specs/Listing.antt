-- The list of a block (01, "The program `verdicts`": "First line: mark, version, count. Then id, kind, verdict, level, i, j, cells. A
-- refused block prints only `refused`, code, record number, on one line"; 02, Ask 4: "A signed record is judged with its signed level as
-- limit .., and `verdicts` prints its line with ` signed` at the end and 2 as the version in the first line"), and the list under a floor
-- on distortion (02, Ask 3), which shows no sign: what was signed is the plain verdict.
--   line_of r a s    == the line of the record r with the verdict a and the ending of the first byte s
--   Line r t        == t is the line of the record r: with the verdict of its element under its own limit or, signed, its signed level
--   FloorLine p r t == t is its line under a floor of p percent: with the verdict of its triangle under its own limit and the floor, or
--                      with the code by which the floor refuses it
--   LineBy q r t    == the one or the other, as the profile q says
--   Lines q rs t    == t is the lines of the records rs, one behind the other
--   Lists q l t     == t is the list of the bytes l
-- Definitions only.
use Rattle.std.specs.Prelude.{◌≡◌, List, [], ◌∷◌, ◌++◌, ℕ, length}
use Rattle.element.specs.Refusals.{Refused, Accepted}
use Rattle.judge.specs.Verdict.{Answer, Judges}
use Rattle.floor.specs.Floor as floor
use Rattle.floor.specs.Calls.{floor_codes}
use Rattle.record.specs.declared.Record.{Record}
use Rattle.record.specs.Record.{used}
use Rattle.signs.specs.Signs.{element, limit_of}
use Rattle.block.specs.Block.{Holds}
use Rattle.block.specs.Faults.{Fault, block_codes}
use Rattle.lines.specs.Words.{first_line, verdict_line, refused_line, refused_record}
use Rattle.lines.specs.Names.{name}
use Rattle.floor.specs.declared.Profile.{Profile}
use Rattle.floor.specs.declared.Profile.TheVariants.{Plain, Floor}

abbrev pub line_of : Record → Answer → ℕ → List ℕ
line_of r a s = verdict_line r.id r.kind (name a.word) a.level a.i a.j a.cells s

pub record Line (r : Record) (t : List ℕ) : Type 0 where
  pub verdict : Answer
  pub judged : Judges (element r) (limit_of r) verdict
  pub text : t ≡ line_of r verdict r.signed

pub data FloorLine (p : ℕ) (r : Record) : List ℕ → Type 0 where
  judged : (a : Answer) → Accepted (floor_codes r.kind r.limit (used r) p)
      → Judges (floor.floored p (used r)) r.limit a
      → FloorLine p r (line_of r a 0)
  refused : (c : ℕ) → Refused (floor_codes r.kind r.limit (used r) p) c → FloorLine p r (refused_record r.id r.kind c)

pub data LineBy : Profile → Record → List ℕ → Type 0 where
  plain : {r : Record} {t : List ℕ} → Line r t → LineBy Plain r t
  floored : {p : ℕ} {r : Record} {t : List ℕ} → FloorLine p r t → LineBy (Floor p) r t

infixr 20 ◌then◌
pub data Lines (q : Profile) : List Record → List ℕ → Type 0 where
  no_more : Lines q [] []
  ◌then◌ : {r : Record} {rs : List Record} {t u : List ℕ} → LineBy q r t → Lines q rs u → Lines q (r ∷ rs) (t ++ u)

pub data Lists (q : Profile) (l : List ℕ) : List ℕ → Type 0 where
  refused : {f : Fault} → Refused (block_codes l) f → Lists q l (refused_line f.code f.number)
  listed : {v : ℕ} {rs : List Record} {t : List ℕ} → Holds v l rs → Lines q rs t → Lists q l (first_line v (length rs) ++ t)
