-- What a record's sign says (02, Ask 4: "the first is 0 unsigned, 1 signed valid, 2 signed invalid; the second is the level of that
-- verdict"; "A signed record is judged with its signed level as limit"; "19 for the first signed record whose verdict or level differs").
--   element r      == the element of a record, as a subject of the verdict: bad points are read off its nodes
--   sign_of w       == the first byte that stands for a word; 0 for undecided, which is not signed
--   limit_of r      == the limit under which a record is judged: its signed level, or its own limit where it is unsigned
--   Agrees r a     == the verdict a is the signed one: the word, and exactly that level
--   Differs r      == code 19: r is signed, and its verdict with the signed level as limit is another
--   Open r         == code 24: the verdict of r is undecided
-- Definitions only.
use Rattle.std.specs.Prelude.{◌≡◌, cond, ℕ, eqb}
use Rattle.element.specs.Kinds.{kind_of}
use Rattle.judge.specs.Verdict.{Word, valid, invalid, undecided, Answer, Subject, Judges}
use Rattle.judge.specs.Elements.{subject}
use Rattle.record.specs.declared.Record.{Record}
use Rattle.record.specs.Record.{used}

abbrev pub element : Record → Subject
element r = subject (kind_of r.kind) (used r)

abbrev pub sign_of : Word → ℕ
sign_of valid = 1
sign_of invalid = 2
sign_of undecided = 0

abbrev pub limit_of : Record → ℕ
limit_of r = cond (eqb r.signed 0) r.limit r.level

pub record Agrees (r : Record) (a : Answer) : Type 0 where
  pub word : sign_of a.word ≡ r.signed
  pub level : a.level ≡ r.level

pub record Differs (r : Record) : Type 0 where
  pub signed : ¬ (r.signed ≡ 0)
  pub verdict : Answer
  pub judged : Judges (element r) r.level verdict
  pub other : ¬ Agrees r verdict

pub record Open (r : Record) : Type 0 where
  pub verdict : Answer
  pub judged : Judges (element r) (limit_of r) verdict
  pub undecides : verdict.word ≡ undecided
