-- The list, line by line.
--   line-by         : the line of the answer to a well-formed record is the record's line
--   line-written    : so it is where the line was written
--   lines_none, lines_more : no line; the line of one more record
--   whole-refused, whole-listed : the list of bytes that are refused, and of a block
--   take-over       : what stands at the start of a buffer that it was written into
--   list-within, list-short, list-fits : the list copied from a large buffer into the lent one, or not where it has no room
-- For every profile. Assumes nothing.
use mathlib.Core.Path.{◌≡◌, refl, sym, ◌∙◌, ap, subst}
use mathlib.Core.Bool.{Bool, cond}
use mathlib.Core.List.{List, [], ◌∷◌, ◌++◌}
use mathlib.Core.Logic.{inl, inr}
use Prim.Native.Nat.{ℕ, ◌+◌, ◌≤◌, ◌<◌}
use native.Mathlib.Numerals.{add-one}
use native.Mathlib.Omega.{arith}
use borrow.Author.Tests.{ne_eqb}
use lib.ListN.{length, take, drop, length-append}
use lib.Seq.{take-suc, take_all, take-append_seam, length-take-le}
use Rattle.element.specs.Refusals.{verdict_codes}
use Rattle.element.proofs.Refusals.{refused-some}
use Rattle.judge.specs.Verdict.{Answer}
use Rattle.judge.specs.Verdict as judge
use Rattle.verdict.specs.declared.Judged.{Judged}
use Rattle.verdict.specs.Calls.{VerdictOf, tell, given}
use Rattle.verdict.proofs.Judging.{accepted-answered}
use Rattle.floor.specs.Calls.{floor_codes, FloorOf, ToldBy}
use Rattle.record.specs.declared.Record.{Record}
use Rattle.record.specs.Record.{used, blank, WellFormed}
use Rattle.signs.specs.Signs.{element, limit_of}
use Rattle.signs.proofs.Verdicts.{formed-limit}
use Rattle.block.specs.Block.{Version, Holds, version_of, record_of, records_in}
use Rattle.block.specs.declared.Checked.{Checked}
use Rattle.block.specs.Calls.{Checks}
use Rattle.block.proofs.Answers.{checks-refused, checks-counted}
use Rattle.block.proofs.Blocks.{block-count}
use Rattle.block.proofs.Demands.{checked-only}
use Rattle.endian.specs.Numbers.{Bytes, over}
use Rattle.text.specs.Writing.{Wrote}
use Rattle.text.proofs.Wrote.{take_none, wrote_none, wrote-more}
use Rattle.lines.specs.Words.{first_line, verdict_line, refused_line, refused_record}
use Rattle.lines.specs.Names.{name, name_of, judged_line, record_line}
use Rattle.lines.proofs.Lengths.{first-line-short, refused-line-short}
use Rattle.floor.specs.declared.Profile.{Profile}
use Rattle.floor.specs.declared.Profile.TheVariants.{Plain, Floor}
use Rattle.list.specs.Listing.{Line, line_of, FloorLine, judged, refused, LineBy, plain, floored, Lines, no_more, ◌then◌, Lists, listed}
use Rattle.list.specs.Calls.{WritesBy}
use Rattle.list.specs.Steps.{sign_by, limit_by, LineWritten, LinesWritten, LinesTo, WholeList}

-- ---- one line
named : (w : judge.Word) → name_of (tell w) ≡ name w
named judge.valid = refl
named judge.invalid = refl
named judge.undecided = refl

-- the line of an answer that is a verdict
told_line : (r : Record) (v : Judged) (a : Answer) → (s : ℕ) → v ≡ given a → record_line r.id r.kind v s ≡ line_of r a s
told_line r v a s e =
    ap (λ (x : Judged). record_line r.id r.kind x s) e
    ∙ ap (λ (n : List ℕ). verdict_line r.id r.kind n a.level a.i a.j a.cells s) (named a.word)

line-judged : {m : ℕ} (r : Record) (v : Judged) → WellFormed m r → VerdictOf r.kind (limit_of r) (used r) v
    → Line r (record_line r.id r.kind v r.signed)
line-judged r v w t =
    let h = accepted-answered (verdict_codes r.kind (limit_of r) (used r)) (element r) (limit_of r) v t (formed-limit r w) in
    record { verdict = h.answer; judged = h.judges; text = told_line r v h.answer r.signed h.told }

floor-judged : (p : ℕ) (r : Record) (v : Judged) → FloorOf r.kind r.limit (used r) p v → FloorLine p r (record_line r.id r.kind v 0)
floor-judged p r v (inl h) =
    let codes = floor_codes r.kind r.limit (used r) p in
    subst (FloorLine p r) (sym (ap (λ (b : Bool). cond b (judged_line r.id r.kind v 0) (refused_record r.id r.kind v.code)) (ne_eqb v.code 0 (refused-some codes v.code tt h.refused))))
    (refused v.code h.refused)
floor-judged p r v (inr h) = subst (FloorLine p r) (sym (told_line r v h.answer 0 h.told)) (judged h.answer h.accepted h.judges)

pub line-by : {m : ℕ} (q : Profile) (r : Record) (v : Judged) → WellFormed m r → ToldBy q r.kind (limit_by q r) (used r) v
    → LineBy q r (record_line r.id r.kind v (sign_by q r.signed))
line-by Plain r v w t = plain (line-judged r v w t)
line-by (Floor p) r v w t = floored (floor-judged p r v t)

-- the text of a record's line
abbrev shown : Profile → Judged → Record → List ℕ
shown q v r = record_line r.id r.kind v (sign_by q r.signed)

pub line-written : {m : ℕ} (q : Profile) (r s : Record) (v : Judged) → r ≡ s
    → WellFormed m s
    → ToldBy q r.kind (limit_by q r) (used r) v
    → length (record_line r.id r.kind v (sign_by q r.signed)) ≤ 88
    → {o o' : List ℕ} {at p : ℕ}
    → Wrote o at (record_line r.id r.kind v (sign_by q r.signed)) o' p
    → LineWritten q s o at o' p
line-written q r s v e f j n {o} {o'} {at} {p} w =
    record {
      text = shown q v s;
      line = line-by q s v f (subst (λ (x : Record). ToldBy q x.kind (limit_by q x) (used x) v) e j);
      short = subst (λ (x : Record). length (shown q v x) ≤ 88) e n;
      wrote = subst (λ (x : Record). Wrote o at (shown q v x) o' p) e w;
    }

-- ---- line by line
append-none : (t : List ℕ) → t ++ [] ≡ t
append-none [] = refl
append-none (x ∷ t) = ap (λ (l : List ℕ). x ∷ l) (append-none t)

append_assoc : (t u v : List ℕ) → (t ++ u) ++ v ≡ t ++ (u ++ v)
append_assoc [] u v = refl
append_assoc (x ∷ t) u v = ap (λ (l : List ℕ). x ∷ l) (append_assoc t u v)

lines-append : (q : Profile) {rs : List Record} {t : List ℕ} → Lines q rs t → {r : Record} {u : List ℕ} → LineBy q r u → Lines q (rs ++ (r ∷ [])) (t ++ u)
lines-append q no_more {r} {u} l = subst (Lines q (r ∷ [])) (append-none u) (l then no_more)
lines-append q (◌then◌ {r = s} {rs = rs} {t = t} {u = v} p ps) {r} {u} l =
    subst (Lines q (s ∷ (rs ++ (r ∷ [])))) (sym (append_assoc t v u)) (p then lines-append q ps l)

pub lines_none : (q : Profile) (rs : List Record) (o : List ℕ) (at : ℕ) → LinesWritten q (take 0 rs) o at o at
lines_none q rs o at = record { text = []; lines = go rs; short = omega arith; wrote = wrote_none o at }
  where
    go : (rs : List Record) → Lines q (take 0 rs) []
    go [] = no_more
    go (r ∷ rs) = no_more

pub lines_more : (q : Profile) (rs : List Record) (k : ℕ) → k < length rs → {o o' o'' : List ℕ} {at p n : ℕ}
    → LinesWritten q (take k rs) o at o' p
    → LineWritten q (record_of rs k) o' p o'' n
    → LinesWritten q (take (k + 1) rs) o at o'' n
lines_more q rs k h v w =
    let e : take k rs ++ (record_of rs k ∷ []) ≡ take (k + 1) rs = sym (take-suc rs k blank h) ∙ ap (λ (n : ℕ). take n rs) (sym (add-one k)) in
    let a = length-take-le k rs (omega arith) in
    let b = length-take-le (k + 1) rs (omega arith) in
    let c = length-append v.text w.text in
    let s = v.short in
    let t = w.short in
    record {
      text = v.text ++ w.text;
      lines = subst (λ (l : List Record). Lines q l (v.text ++ w.text)) e (lines-append q v.lines w.line);
      short = omega arith;
      wrote = wrote-more v.wrote w.wrote;
    }

-- ---- the whole
module _ (q : Profile) {l : List ℕ} (r : Checked) (c : Checks l r) {o o' : List ℕ} {p : ℕ} where
  pub whole-refused : ¬ (r.code ≡ 0) → r.code < 4294967296 → r.number < 4294967296 → Wrote o 0 (refused_line r.code r.number) o' p → WholeList q l o o' p
  whole-refused h m n w =
      let s = refused-line-short r.code r.number m n in
      record { text = refused_line r.code r.number; lists = refused (checks-refused l r c h); short = omega arith; wrote = w }

  pub whole-listed : r.code ≡ 0 → Bytes l → Wrote o 0 (first_line (version_of l) r.count) o' p
      → {o'' : List ℕ} {z : ℕ}
      → LinesTo q l r.count o' p o'' z
      → WholeList q l o o'' z
  whole-listed e b f {o''} {z} lines =
      record {
        text = first_line (version_of l) n ++ w.text;
        lists = subst (λ (m : ℕ). Lists q l (first_line (version_of l) m ++ w.text)) (sym count) (listed h (subst (λ (xs : List Record). Lines q xs w.text) all w.lines));
        short = let few = h.few in let a = first-line-short (version_of l) n (small h.version) (omega (arith, count)) in let s = w.short in let k = length-append (first_line (version_of l) n) w.text in
            let i = ap (λ (xs : List Record). length xs) all in omega (arith, count);
        wrote = wrote-more f w.wrote;
      }
    where
      n : ℕ
      n = r.count

      rs : List Record
      rs = records_in l

      h : Holds (version_of l) l rs
      h = checked-only l r b c e

      count : n ≡ length rs
      count = ap (λ (x : Checked). x.count) (checks-counted l r c e).answer ∙ block-count h

      small : {v : ℕ} → Version v → v < 4294967296
      small (inl e) = omega arith
      small (inr e) = omega arith

      all : take n rs ≡ rs
      all = take_all n rs (omega (arith, count))

      w : LinesWritten q (take n rs) o' p o'' z
      w = lines (version_of l) rs h (omega (arith, count))

-- ---- the whole, copied
pub take-over : (o t : List ℕ) → take (length t) (over o 0 t) ≡ t
take-over o t = ap (λ (a : List ℕ). take (length t) (a ++ (t ++ drop (0 + length t) o))) (take_none o) ∙ take-append_seam t (drop (0 + length t) o)

module _ (q : Profile) {l s s' : List ℕ} {n : ℕ} (h : length s ≡ 71680) (w : WholeList q l s s' n) where
  list_length : n ≡ length w.text
  list_length = let k = w.short in let e = w.wrote.place (omega arith) in omega arith

  pub list-within : n ≤ length s'
  list-within = let k = w.short in let e = w.wrote.size in omega (arith, list_length)

  list-text : take n s' ≡ w.text
  list-text =
      let k = w.short in
      ap (λ (m : ℕ). take m s') list_length ∙ ap (take (length w.text)) (w.wrote.content (omega arith)) ∙ take-over s w.text

  pub list-short : (o : List ℕ) → length o < n → WritesBy q l o o (record { code = 5; number = 0; length = 0 })
  list-short o r = inr (record { text = w.text; lists = w.lists; within = w.short; room = omega (arith, list_length); answer = refl; content = refl })

  pub list-fits : (o o' : List ℕ) (p : ℕ) → n ≤ length o → Wrote o 0 (take n s') o' p → WritesBy q l o o' (record { code = 0; number = 0; length = n })
  list-fits o o' p r v =
      let e = ap length list-text in
      inl (record {
        text = w.text;
        lists = w.lists;
        room = omega (arith, list_length);
        answer = ap (λ (m : ℕ). record { code = 0; number = 0; length = m }) list_length;
        content = v.content (omega (arith, list_length)) ∙ ap (over o 0) list-text;
      })
