-- Two lists that differ in the line of one record (01, "The program `verdicts`": "First line: mark, version, count. Then id, kind, verdict,
-- level, i, j, cells").
--   Relined rs k q t u  == t is the lines of the records rs, and u the same lines with one of the record q in the place of that of record k
--   Relisted v rs k q t u == so are the lists t and u, each behind the first line of a block of version v with the records rs
-- Definitions only.
use Rattle.std.specs.Prelude.{◌≡◌, List, ◌++◌, ℕ, suc, length, take, drop}
use Rattle.record.specs.declared.Record.{Record}
use Rattle.block.specs.Block.{record_of}
use Rattle.lines.specs.Words.{first_line}
use Rattle.floor.specs.declared.Profile.TheVariants.{Plain}
use Rattle.list.specs.Listing.{Line, Lines}

pub record Relined (rs : List Record) (k : ℕ) (q : Record) (t u : List ℕ) : Type 0 where
  pub front : List ℕ
  pub old : List ℕ
  pub new : List ℕ
  pub back : List ℕ
  pub before : Lines Plain (take k rs) front
  pub old_line : Line (record_of rs k) old
  pub new_line : Line q new
  pub behind : Lines Plain (drop (suc k) rs) back
  pub was : t ≡ front ++ (old ++ back)
  pub is : u ≡ front ++ (new ++ back)

pub record Relisted (v : ℕ) (rs : List Record) (k : ℕ) (q : Record) (t u : List ℕ) : Type 0 where
  pub lines : List ℕ
  pub relines : List ℕ
  pub relined : Relined rs k q lines relines
  pub was : t ≡ first_line v (length rs) ++ lines
  pub is : u ≡ first_line v (length rs) ++ relines
