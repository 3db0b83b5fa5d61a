-- The names of the verdicts, and the line of an answer of a call that judges (01: "id, kind, verdict, level, i, j, cells").
--   name w               == the word of a verdict as text
--   name_of w             == the same of the answer's word
--   judged_line id kind v s == the line of a record with the verdict of the answer v and the ending of the first byte s
--   record_line id kind v s == the line of a record with the answer v: its verdict, or the code by which it is refused
-- Definitions only.
use Rattle.std.specs.Prelude.{cond, List, [], ◌∷◌, ℕ, eqb}
use Rattle.judge.specs.Verdict.{valid, invalid, undecided}
use Rattle.judge.specs.Verdict as judge
use Rattle.verdict.specs.declared.Word.{Word}
use Rattle.verdict.specs.declared.Word.TheVariants.{Nothing, Valid, Invalid, Undecided}
use Rattle.verdict.specs.declared.Judged.{Judged}
use Rattle.lines.specs.Words.{verdict_line, refused_record}

-- the letters of `valid`, `invalid`, `undecided`
abbrev pub name : judge.Word → List ℕ
name valid = 118 ∷ 97 ∷ 108 ∷ 105 ∷ 100 ∷ []
name invalid = 105 ∷ 110 ∷ 118 ∷ 97 ∷ 108 ∷ 105 ∷ 100 ∷ []
name undecided = 117 ∷ 110 ∷ 100 ∷ 101 ∷ 99 ∷ 105 ∷ 100 ∷ 101 ∷ 100 ∷ []

-- 45 is `-`, which stands for no verdict
abbrev pub name_of : Word → List ℕ
name_of Nothing = 45 ∷ []
name_of Valid = name valid
name_of Invalid = name invalid
name_of Undecided = name undecided

abbrev pub judged_line : ℕ → ℕ → Judged → ℕ → List ℕ
judged_line id kind v s = verdict_line id kind (name_of v.word) v.level v.i v.j v.cells s

abbrev pub record_line : ℕ → ℕ → Judged → ℕ → List ℕ
record_line id kind v s = cond (eqb v.code 0) (judged_line id kind v s) (refused_record id kind v.code)
