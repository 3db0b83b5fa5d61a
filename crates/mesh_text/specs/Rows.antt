-- Lines, words and rows of a text (docs/GMSH.md, G1 to G3).
--   is_blank b, is_end b == a space, a tab or a carriage return; a line feed
--   parts p t      == the parts of t between the bytes of which p is true: one more than there are such bytes
--   All P l, Heads P l == P of each of l; P of the first of l, if there is one
--   Pairs P l m    == P of each of l and each of m in turn
--   filled ls      == those of the lists that are not []
--   lines t        == the parts of t between the line feeds
--   words l        == the non-empty parts of l between blanks
--   rows t         == the words of each line that has one
--   line t, more t == the words of the first line of t, and the rows of the later lines
--   run p t, past p t == the longest start of t of which p is true at each byte, and what is left
--   in_class c b    == the byte b is of the class c
--   is_nil l        == l has no element
--   WordAfter t at r == r is the place behind the first word of the line at the place `at`
--   RowAt t at r, RowAfter t at r == r is the place of the first row from the place `at` on; r is the place behind the line at `at`
-- Definitions only.
use Rattle.std.specs.Prelude.{◌≡◌, Bool, true, false, not, ◌&&◌, ◌||◌, cond, List, [], ◌∷◌, map, ℕ, ◌≤◌, ◌<◌, eqb, leb, length, drop}
use Rattle.mesh_text.specs.declared.Class.{Class}
use Rattle.mesh_text.specs.declared.Class.TheVariants.{Blank, Word, White, Line, Digit, Zero}

-- ---- lists
pub data All {A : Type 0} (P : A → Type 0) : List A → Type 0 where
  none : All P []
  both : {a : A} {l : List A} → P a → All P l → All P (a ∷ l)

pub data Heads {A : Type 0} (P : A → Type 0) : List A → Type 0 where
  empty : Heads P []
  head : {a : A} {l : List A} → P a → Heads P (a ∷ l)

pub data Pairs {A B : Type 0} (P : A → B → Type 0) : List A → List B → Type 0 where
  no_pairs : Pairs P [] []
  pair : {a : A} {b : B} {l : List A} {m : List B} → P a b → Pairs P l m → Pairs P (a ∷ l) (b ∷ m)

abbrev pub first : {A : Type 0} → List (List A) → List A
first [] = []
first (l ∷ ls) = l

abbrev pub rest : {A : Type 0} → List (List A) → List (List A)
rest [] = []
rest (l ∷ ls) = ls

abbrev pub is_nil : {A : Type 0} → List A → Bool
is_nil [] = true
is_nil (a ∷ l) = false

abbrev pub filled : {A : Type 0} → List (List A) → List (List A)
filled [] = []
filled ([] ∷ ls) = filled ls
filled ((a ∷ l) ∷ ls) = (a ∷ l) ∷ filled ls

-- ---- parts
abbrev pub onto : ℕ → List (List ℕ) → List (List ℕ)
onto b ls = (b ∷ first ls) ∷ rest ls

abbrev pub parts : (ℕ → Bool) → List ℕ → List (List ℕ)
parts p [] = [] ∷ []
parts p (b ∷ t) = cond (p b) ([] ∷ parts p t) (onto b (parts p t))

-- ---- G1 to G3
abbrev pub is_blank : ℕ → Bool
is_blank b = eqb b 32 || (eqb b 9 || eqb b 13)

abbrev pub is_end : ℕ → Bool
is_end b = eqb b 10

unfoldable pub lines : List ℕ → List (List ℕ)
lines t = parts is_end t

unfoldable pub words : List ℕ → List (List ℕ)
words l = filled (parts is_blank l)

unfoldable pub rows : List ℕ → List (List (List ℕ))
rows t = filled (map words (lines t))

-- ---- a place in a row: the words left in it, and the rows behind it
unfoldable pub line : List ℕ → List (List ℕ)
line t = words (first (lines t))

unfoldable pub more : List ℕ → List (List (List ℕ))
more t = filled (map words (rest (lines t)))

-- ---- runs of bytes
abbrev pub run : (ℕ → Bool) → List ℕ → List ℕ
run p [] = []
run p (b ∷ t) = cond (p b) (b ∷ run p t) []

abbrev pub past : (ℕ → Bool) → List ℕ → List ℕ
past p [] = []
past p (b ∷ t) = cond (p b) (past p t) (b ∷ t)

-- 48 to 57 are the digits
unfoldable pub in_class : Class → ℕ → Bool
in_class Blank b = is_blank b
in_class White b = is_blank b || is_end b
in_class Word b = not (is_blank b || is_end b)
in_class Line b = not (is_end b)
in_class Digit b = leb 48 b && leb b 57
in_class Zero b = eqb b 48

-- ---- rows by their places
pub record RowAt (t : List ℕ) (at r : ℕ) : Type 0 where
  pub within : r ≤ length t
  pub onwards : at ≤ r
  pub same : rows (drop r t) ≡ rows (drop at t)
  pub starts : r < length t → rows (drop r t) ≡ line (drop r t) ∷ more (drop r t)

pub record RowAfter (t : List ℕ) (at r : ℕ) : Type 0 where
  pub within : r ≤ length t
  pub onwards : at < length t → at < r
  pub same : rows (drop r t) ≡ more (drop at t)

pub record WordAfter (t : List ℕ) (at r : ℕ) : Type 0 where
  pub within : r ≤ length t
  pub onwards : is_nil (line (drop at t)) ≡ false → at < r
  pub same : line (drop r t) ≡ rest (line (drop at t))
