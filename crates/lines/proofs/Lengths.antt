-- How long a line of the list is at most: numbers of 32 bits have at most ten digits, and no word is longer.
--   Short p          == the piece p has at most ten characters
--   short-number     : a number of 32 bits is short
--   short-line       : a line of short pieces has at most eleven characters for each
--   name-short       : and so is each name of a verdict
--   verdict-line-short, first-line-short, refused-line-short, refused-record-short : so at most 88, 33 or 44
-- Assumes nothing.
use mathlib.Core.Bool.{Bool, true, false, cond}
use mathlib.Core.List.{List, [], ◌∷◌}
use Prim.Native.Nat.{ℕ, ◌+◌, ◌*◌, ◌≤◌, ◌<◌}
use native.Mathlib.Omega.{arith}
use lib.Dec.{eqb}
use lib.ListN.{length, length-append}
use Rattle.text.proofs.Decimals.{decimal-few}
use Rattle.verdict.specs.declared.Word.{Word}
use Rattle.verdict.specs.declared.Word.TheVariants.{Nothing, Valid, Invalid, Undecided}
use Rattle.lines.specs.Names.{name_of}
use Rattle.lines.specs.Words.{Piece, word, number, spelt, after, line, first_line, signed_word, ending, verdict_line, refused_word, refused_line, refused_record}

pub record Short (p : Piece) : Type 0 where
  pub few : length (spelt p) ≤ 10

abbrev pub Shorts : List Piece → Type 0
Shorts [] = Unit {0}
Shorts (p ∷ ps) = Short p × Shorts ps

pub short-number : (n : ℕ) → n < 4294967296 → Short (number n)
short-number n h = record { few = decimal-few 9 n (omega arith) }

pub name-short : (w : Word) → length (name_of w) ≤ 10
name-short Nothing = omega arith
name-short Valid = omega arith
name-short Invalid = omega arith
name-short Undecided = omega arith

short-after : (ps : List Piece) → Shorts ps → length (after ps) ≤ 1 + 11 * length ps
short-after [] s = omega arith
short-after (p ∷ ps) (s, t) =
    let h = s.few in let k = short-after ps t in let e = length-append (spelt p) (after ps) in omega arith

pub short-line : (p : Piece) (ps : List Piece) → Short p → Shorts ps → length (line p ps) ≤ 11 + 11 * length ps
short-line p ps s t =
    let h = s.few in let k = short-after ps t in let e = length-append (spelt p) (after ps) in omega arith

-- ---- the four kinds of line
short-ending : (s : ℕ) → Shorts (ending s) × (length (ending s) ≤ 1)
short-ending s = go (eqb s 0)
  where
    go : (b : Bool) → Shorts (cond b [] (word signed_word ∷ [])) × (length (cond b [] (word signed_word ∷ [])) ≤ 1)
    go true = (tt, omega arith)
    go false = ((record { few = omega arith }, tt), omega arith)

pub verdict-line-short : (id kind : ℕ) (name : List ℕ) (level i j cells s : ℕ) → id < 4294967296 → kind < 4294967296 → length name ≤ 10
    → level < 4294967296 → i < 4294967296 → j < 4294967296 → cells < 4294967296 → length (verdict_line id kind name level i j cells s) ≤ 88
verdict-line-short id kind name level i j cells s a b c d e f g =
    let t = short-ending s in
    let h = short-line (number id) (number kind ∷ word name ∷ number level ∷ number i ∷ number j ∷ number cells ∷ ending s)
    (short-number id a)
    (short-number kind b, (record { few = c }, (short-number level d, (short-number i e, (short-number j f, (short-number cells g, t.0)))))) in
    omega (arith, h, t.1)

pub first-line-short : (v n : ℕ) → v < 4294967296 → n < 4294967296 → length (first_line v n) ≤ 33
first-line-short v n g h =
    short-line (word (67 ∷ 69 ∷ 76 ∷ [])) (number v ∷ number n ∷ []) (record { few = omega arith }) (short-number v g, (short-number n h, tt))

pub refused-line-short : (c k : ℕ) → c < 4294967296 → k < 4294967296 → length (refused_line c k) ≤ 33
refused-line-short c k g h = short-line (word refused_word) (number c ∷ number k ∷ []) (record { few = omega arith }) (short-number c g, (short-number k h, tt))

pub refused-record-short : (id kind c : ℕ) → id < 4294967296 → kind < 4294967296 → c < 4294967296 → length (refused_record id kind c) ≤ 44
refused-record-short id kind c a b d =
    short-line (number id) (number kind ∷ word refused_word ∷ number c ∷ []) (short-number id a)
    (short-number kind b, (record { few = omega arith }, (short-number c d, tt)))
