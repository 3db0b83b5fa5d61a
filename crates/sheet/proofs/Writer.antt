-- What the contract of `write_sheet` comes to.
--   write-unique     : one answer, and one content of the buffer
--   length-room      : the sheet lies within the buffer
--   written-accepted : the sheet is accepted, under its limit and every higher accepted one
--   written-valid    : where a sheet is written, the verdict is valid
--   written-size     : the sheet has 5 + (4·cells - 1) / 3 bytes, cells the verdict's count
--   written-cells    : and keeps as many cells
--   least-written    : where an element without fault has a least cutting, and there is room, its sheet is written
--   written-higher   : the same sheet is written under every higher accepted limit
--   not-valid-written, valid-short, valid-written : from the verdict: 20, 5 with the buffer as it was, or a sheet
-- For all kinds at once. Assumes nothing.
use mathlib.Core.Path.{◌≡◌, refl, sym, ◌∙◌, ap, subst}
use mathlib.Core.List.{List, ◌++◌}
use mathlib.Core.Logic.{◌⊎◌, inl, inr}
use Prim.Native.Nat.{ℕ, ◌+◌, ◌≤◌, ◌<◌, zero-le}
use native.Mathlib.Nat as N
use lib.IntN.{ℤ}
use lib.ListN.{length, take, drop, length-append}
use lib.Seq.{take_at}
use Rattle.forms.specs.Cuttings.{Cutting, leaves}
use Rattle.element.specs.Kinds.{Kind, NotStored, kind_of}
use Rattle.element.specs.Refusals.{Codes, no_more, code, Refused, Accepted, verdict_codes, stored_codes}
use Rattle.element.proofs.Refusals.{refused-unique, refused-accepted, refused-some, past-then, accepted-then, then-accepted, then-refused}
use Rattle.judge.specs.Verdict as judge
use Rattle.judge.specs.Verdict.{Answer, Subject, Valid}
use Rattle.judge.specs.Elements.{subject}
use Rattle.judge.proofs.Faithful.{element-faithful}
use Rattle.judge.proofs.Demands.{judges-some}
use Rattle.verdict.specs.Calls.{tell, VerdictOf}
use Rattle.verdict.specs.declared.Word.TheVariants as words
use Rattle.verdict.specs.declared.Judged.{Judged}
use Rattle.verdict.proofs.Judging as told
use Rattle.cuttings.specs.Bytes.{sheet_bytes, sheet_size}
use Rattle.cuttings.proofs.Bytes.{sheet-unique, sheet-size}
use Rattle.sheet.specs.Calls.{checked, ChecksSheet, LeastCutting, NotValid, Short, write_codes, written, HasSheet, WritesSheet}
use Rattle.sheet.specs.declared.CheckedSheet.{CheckedSheet}
use Rattle.sheet.specs.declared.WrittenSheet.{WrittenSheet}
use Rattle.sheet.proofs.Least.{least-unique, least-higher, passing-valid, Ready, ready-by-word}
use Rattle.sheet.proofs.Checker.{shown-accepted, accepted-valid}

module _ (n l : ℕ) (xs : List ℤ) (before : List ℕ) where
  abbrev later : Codes ℕ
  later = code 20 (NotValid (kind_of n) l xs) (code 5 (Short (kind_of n) l xs (length before)) no_more)

  pub write-unique : (r s : WrittenSheet) (o p : List ℕ) → WritesSheet n l xs before r o → WritesSheet n l xs before s p → (r ≡ s) × (o ≡ p)
  write-unique r s o p (inl v) (inl w) = (
    v.zeros ∙ ap (λ (c : ℕ). written c 0) (refused-unique (write_codes n l xs (length before)) r.code s.code v.refused w.refused) ∙ sym w.zeros,
    v.untouched ∙ sym w.untouched,
  )
  write-unique r s o p (inl v) (inr w) = absurd (refused-accepted (write_codes n l xs (length before)) r.code v.refused w.accepted)
  write-unique r s o p (inr v) (inl w) = absurd (refused-accepted (write_codes n l xs (length before)) s.code w.refused v.accepted)
  write-unique r s o p (inr v) (inr w) =
      let same = least-unique (subject (kind_of n) xs) l v.cutting w.cutting v.least w.least in (
        v.answer ∙ ap (λ (t : Cutting). written 0 (length (sheet_bytes t))) same ∙ sym w.answer,
        v.filled ∙ ap (λ (t : Cutting). sheet_bytes t ++ drop (length (sheet_bytes t)) before) same ∙ sym w.filled,
      )

  has-sheet : (r : WrittenSheet) (after : List ℕ) → WritesSheet n l xs before r after → r.code ≡ 0 → HasSheet n l xs before r after
  has-sheet r after (inl v) e = absurd (refused-some (write_codes n l xs (length before)) r.code tt v.refused e)
  has-sheet r after (inr v) e = v

  length-is : (r : WrittenSheet) (after : List ℕ) (w : HasSheet n l xs before r after) → r.length ≡ length (sheet_bytes w.cutting)
  length-is r after w = ap (λ (s : WrittenSheet). s.length) w.answer

  pub length-room : (r : WrittenSheet) (after : List ℕ) → WritesSheet n l xs before r after → r.length ≤ length after
  length-room r after (inl v) = subst (λ (s : WrittenSheet). s.length ≤ length after) (sym v.zeros) zero-le
  length-room r after (inr v) =
      let b : List ℕ = sheet_bytes v.cutting in
      let e : length after ≡ length b + length (drop (length b) before) = ap length v.filled ∙ length-append b (drop (length b) before) in
      rw (length-is r after v, e) (N.le-add_right (length b) (length (drop (length b) before)))

  -- the bytes at the buffer's start are the sheet
  sheet-is : (r : WrittenSheet) (after : List ℕ) (w : HasSheet n l xs before r after) → take r.length after ≡ sheet_bytes w.cutting
  sheet-is r after w =
      let b : List ℕ = sheet_bytes w.cutting in
      ap (λ (m : ℕ). take m after) (length-is r after w) ∙ ap (take (length b)) w.filled ∙ take_at b (drop (length b) before) (length b) refl

  accepted-verdict : (r : WrittenSheet) (after : List ℕ) → HasSheet n l xs before r after → Accepted (stored_codes n l xs)
  accepted-verdict r after w = (then-accepted (stored_codes n l xs) later w.accepted).0

  module _ (r : WrittenSheet) (after : List ℕ) (v : WritesSheet n l xs before r after) (e : r.code ≡ 0) where
    has : HasSheet n l xs before r after
    has = has-sheet r after v e

    pub written-accepted : (m : ℕ) → l ≤ m → Accepted (stored_codes n m xs) → (s : CheckedSheet) → ChecksSheet n m xs (take r.length after) s → s ≡ checked 0
    written-accepted m h a s c =
        shown-accepted n m xs (take r.length after) a
        (record {
          cutting = has.cutting;
          passing = has.least.passing;
          within = N.le_trans has.least.within h;
          bytes = sheet-is r after has;
        }) s c

    module _ (j : Judged) (q : VerdictOf n l xs j) where
      pub written-valid : j.word ≡ words.Valid
      written-valid =
          accepted-valid n l xs (take r.length after) (checked 0)
          (inr
          (record {
            accepted = accepted-verdict r after has;
            shown = record { cutting = has.cutting; passing = has.least.passing; within = has.least.within; bytes = sheet-is r after has };
            answer = refl;
          })) refl j q

      count_is : j.cells ≡ leaves has.cutting
      count_is =
          let y = ready-by-word n l xs j q written-valid in
          y.many ∙ ap leaves (least-unique (subject (kind_of n) xs) l y.cutting has.cutting y.least has.least)

      pub written-size : r.length ≡ sheet_size j.cells
      written-size = length-is r after has ∙ sheet-size has.cutting ∙ ap sheet_size (sym count_is)

      pub written-cells : (t : Cutting) → take r.length after ≡ sheet_bytes t → leaves t ≡ j.cells
      written-cells t f = ap leaves (sheet-unique t has.cutting (sym f ∙ sheet-is r after has)) ∙ sym count_is

-- ---- the least cutting is written
least-valid : (k : Kind) (l : ℕ) (xs : List ℤ) (t : Cutting) → LeastCutting (subject k xs) l t → ¬ NotValid k l xs
least-valid k l xs t p f =
    let s : Subject = subject k xs in let y = element-faithful k xs in
    let (a, j) = judges-some s y l in
    f (a, subst (λ (v : judge.Word). judge.Case s v l a) (passing-valid s y l t a p.passing p.within j) j)

pub least-written : (n l : ℕ) (xs : List ℤ) (before : List ℕ) (t : Cutting) → Accepted (stored_codes n l xs)
    → LeastCutting (subject (kind_of n) xs) l t
    → length (sheet_bytes t) ≤ length before
    → (r : WrittenSheet) (after : List ℕ)
    → WritesSheet n l xs before r after
    → (r ≡ written 0 (length (sheet_bytes t))) × (after ≡ sheet_bytes t ++ drop (length (sheet_bytes t)) before)
least-written n l xs before t a p h r after v =
    write-unique n l xs before r (written 0 (length (sheet_bytes t))) after (sheet_bytes t ++ drop (length (sheet_bytes t)) before) v
    (inr
    (record {
      accepted = accepted-then (stored_codes n l xs) (later n l xs before) a (least-valid (kind_of n) l xs t p, (enough, tt));
      cutting = t;
      least = p;
      answer = refl;
      filled = refl;
    }))
  where
    enough : ¬ Short (kind_of n) l xs (length before)
    enough (u, q, k) = N.not-le_of_lt k (rw (least-unique (subject (kind_of n) xs) l u t q p) h)

-- ---- another limit
pub written-higher : (n l m : ℕ) (xs : List ℤ) (before : List ℕ) (r s : WrittenSheet) (o p : List ℕ) → WritesSheet n l xs before r o
    → r.code ≡ 0
    → l ≤ m
    → Accepted (stored_codes n m xs)
    → WritesSheet n m xs before s p
    → (s ≡ r) × (p ≡ o)
written-higher n l m xs before r s o p v e h a w =
    let x = has-sheet n l xs before r o v e in let t = x.cutting in
    let none-short = (then-accepted (stored_codes n l xs) (later n l xs before) x.accepted).1.1.0 in
    let enough : length (sheet_bytes t) ≤ length before = N.le_of_suc-le-suc (N.lt_of_not-le (λ k. none-short (t, x.least, k))) in
    let y = least-written n m xs before t a (least-higher (subject (kind_of n) xs) l m t h x.least) enough s p w in
    (y.0 ∙ sym x.answer, y.1 ∙ sym x.filled)

-- ---- from the verdict, of the kinds that have sheets
module _ (n l : ℕ) (xs : List ℤ) (s : ¬ NotStored n) (j : Judged) (v : VerdictOf n l xs j) where
  pub not-valid-written : j.code ≡ 0 → ¬ (j.word ≡ words.Valid)
      → (before : List ℕ) (r : WrittenSheet) (after : List ℕ)
      → WritesSheet n l xs before r after
      → r ≡ written 20 0
  not-valid-written e f before r after (inl w) =
      let q = told.answered (verdict_codes n l xs) (subject (kind_of n) xs) l j tt v e in
      let none : NotValid (kind_of n) l xs = λ (a, p). f (by-valid a p) in
      w.zeros
      ∙ ap (λ (c : ℕ). written c 0)
      (refused-unique (write_codes n l xs (length before)) r.code 20 w.refused
      (past-then (stored_codes n l xs) (later n l xs before) 20 (s, q.accepted.1) (inl (none, refl))))
    where
      by-valid : (a : Answer) → Valid (subject (kind_of n) xs) l a → j.word ≡ words.Valid
      by-valid a p =
          let c = p.count.attained in
          let q = told.answered (verdict_codes n l xs) (subject (kind_of n) xs) l j tt v e in
          ap (λ (j : Judged). j.word) q.told
          ∙ ap tell (passing-valid (subject (kind_of n) xs) (element-faithful (kind_of n) xs) l c.cutting q.answer c.passing c.within q.judges)
  not-valid-written e f before r after (inr w) = absurd (f (written-valid n l xs before r after (inr w) (ap (λ (s : WrittenSheet). s.code) w.answer) j v))

  module _ (e : j.word ≡ words.Valid) where
    ready : Ready (kind_of n) l xs j.cells
    ready = ready-by-word n l xs j v e

    is-accepted : Accepted (stored_codes n l xs)
    is-accepted = (s, (told.word-answered (verdict_codes n l xs) (subject (kind_of n) xs) l judge.valid j v e).accepted.1)

    valid-size : length (sheet_bytes ready.cutting) ≡ sheet_size j.cells
    valid-size = sheet-size ready.cutting ∙ ap sheet_size (sym ready.many)

    -- an order without 20
    only-short : (before : List ℕ) (c : ℕ) → Refused (write_codes n l xs (length before)) c → (c ≡ 5) × Short (kind_of n) l xs (length before)
    only-short before c p = go (then-refused (stored_codes n l xs) (later n l xs before) c p)
      where
        go : Refused (stored_codes n l xs) c ⊎ Refused (later n l xs before) c → (c ≡ 5) × Short (kind_of n) l xs (length before)
        go (inl f) = absurd (refused-accepted (stored_codes n l xs) c f is-accepted)
        go (inr (inl (f, q))) = absurd (f (ready.answer, ready.valid))
        go (inr (inr (f, inl (g, q)))) = (q, g)
        go (inr (inr (f, inr (g, none)))) = absurd none

    pub valid-written : (before : List ℕ) → sheet_size j.cells ≤ length before
        → (r : WrittenSheet) (after : List ℕ)
        → WritesSheet n l xs before r after
        → r.code ≡ 0
    valid-written before h r after (inl w) =
        let (t, p, k) = (only-short before r.code w.refused).1 in
        let same = least-unique (subject (kind_of n) xs) l t ready.cutting p ready.least in
        let f : length (sheet_bytes t) ≡ sheet_size j.cells = ap (λ (t : Cutting). length (sheet_bytes t)) same ∙ valid-size in
        absurd (N.not-le_of_lt k (rw f h))
    valid-written before h r after (inr w) = ap (λ (s : WrittenSheet). s.code) w.answer

    pub valid-short : (before : List ℕ) → length before < sheet_size j.cells
        → (r : WrittenSheet) (after : List ℕ)
        → WritesSheet n l xs before r after
        → (r ≡ written 5 0) × (after ≡ before)
    valid-short before h r after (inl w) =
        (w.zeros ∙ ap (λ (c : ℕ). written c 0) (only-short before r.code w.refused).0, w.untouched)
    valid-short before h r after (inr w) =
        let f = (then-accepted (stored_codes n l xs) (later n l xs before) w.accepted).1.1.0 in
        absurd (f (ready.cutting, ready.least, rw valid-size h))
