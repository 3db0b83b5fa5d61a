-- What the functions under `write_list` and `write_floor_list` answer and leave, a step each.
--   sign_by q s == the first byte of a sign that is shown by the profile q: a floor shows none
--   limit_by q r == the limit under which the record r is judged by the profile q
--   LineWritten q r o at o' p   == of the buffer o, with the line of r written at the place `at`, o' is left and p is the place after it
--   LinesWritten q rs o at o' p == the same of the lines of the records rs
--   LineAt, LinesTo   == the same of record k, and of the first n records, of bytes that are a block
--   WholeList q l o o' p == the same of the list of the bytes l, at the buffer's start
-- Definitions only.
use Rattle.std.specs.Prelude.{cond, List, ℕ, ◌*◌, ◌≤◌, ◌<◌, eqb, length, take}
use Rattle.record.specs.declared.Record.{Record}
use Rattle.block.specs.Block.{Holds, record_of}
use Rattle.text.specs.Writing.{Wrote}
use Rattle.floor.specs.declared.Profile.{Profile}
use Rattle.floor.specs.declared.Profile.TheVariants.{Plain, Floor}
use Rattle.list.specs.Listing.{LineBy, Lines, Lists}

abbrev pub sign_by : Profile → ℕ → ℕ
sign_by Plain s = s
sign_by (Floor p) s = 0

abbrev pub limit_by : Profile → Record → ℕ
limit_by q r = cond (eqb (sign_by q r.signed) 0) r.limit r.level

-- a line has at most 88 characters
pub record LineWritten (q : Profile) (r : Record) (o : List ℕ) (at : ℕ) (o' : List ℕ) (p : ℕ) : Type 0 where
  pub text : List ℕ
  pub line : LineBy q r text
  pub short : length text ≤ 88
  pub wrote : Wrote o at text o' p

pub record LinesWritten (q : Profile) (rs : List Record) (o : List ℕ) (at : ℕ) (o' : List ℕ) (p : ℕ) : Type 0 where
  pub text : List ℕ
  pub lines : Lines q rs text
  pub short : length text ≤ 88 * length rs
  pub wrote : Wrote o at text o' p

abbrev pub LineAt : Profile → List ℕ → ℕ → List ℕ → ℕ → List ℕ → ℕ → Type 0
LineAt q l k o at o' p = (v : ℕ) (rs : List Record) → Holds v l rs → k < length rs → LineWritten q (record_of rs k) o at o' p

abbrev pub LinesTo : Profile → List ℕ → ℕ → List ℕ → ℕ → List ℕ → ℕ → Type 0
LinesTo q l n o at o' p = (v : ℕ) (rs : List Record) → Holds v l rs → n ≤ length rs → LinesWritten q (take n rs) o at o' p

pub record WholeList (q : Profile) (l o o' : List ℕ) (p : ℕ) : Type 0 where
  pub text : List ℕ
  pub lists : Lists q l text
  pub short : length text ≤ 71680
  pub wrote : Wrote o 0 text o' p
