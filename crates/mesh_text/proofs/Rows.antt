-- Reading a text by its bytes: a blank, a line feed, a word (docs/GMSH.md, G1 to G3).
--   all_map, heads-map, run-all, past-heads : of a run each byte is of the class, and the byte behind it is not
--   parts-run      : bytes that part nothing stand before the first part
--   line-blank, more-blank, line-end, more-end : a blank before a line changes nothing; at a line feed the line is over
--   line_word, more-word : a word, and what is behind it
--   rows-none, rows_row  : a text whose first line has no word, and one whose first line has
--   over-is        : a line without a word has no first word
--   row_at, row-after, row_last, word_after : the place of a row, behind a line, behind a word
-- Assumes nothing.
use mathlib.Core.Path.{◌≡◌, refl, sym, ap, ◌∙◌, subst}
use mathlib.Core.Bool.{Bool, true, false, not, cond, ◌||◌, true≢false, or-false}
use mathlib.Core.List.{List, [], ◌∷◌, ◌++◌, map, append-nil, nil≢cons}
use Prim.Native.Nat.{ℕ, suc, ◌+◌, ◌≤◌, ◌<◌}
use borrow.Author.Tests.{eqb-true, eqb-false, ne_eqb, not-true, not-false}
use Rattle.mesh_text.specs.declared.Class.TheVariants.{Blank, Word, White, Line}
use native.Mathlib.Omega.{arith}
use lib.Dec.{eqb}
use lib.ListN.{length, drop, length-drop, drop_of_length-le}
use lib.Seq.{drop-drop}
use Rattle.mesh_text.proofs.Runs.{run_past, run_drop, run-few}
use Rattle.mesh_text.specs.Rows.{All, none, both, Heads, empty, head, first, rest, filled, onto, parts, is_blank, is_end, lines, words, rows, line, more, run, past, in_class, is_nil, RowAt, RowAfter, WordAfter}

-- ---- all of a list, and its first
pub all_map : {A : Type 0} {P Q : A → Type 0} {l : List A} → ((a : A) → P a → Q a) → All P l → All Q l
all_map f none = none
all_map f (both {a} h k) = both (f a h) (all_map f k)

pub heads-map : {A : Type 0} {P Q : A → Type 0} {l : List A} → ((a : A) → P a → Q a) → Heads P l → Heads Q l
heads-map f empty = empty
heads-map f (head {a} h) = head (f a h)

-- a test, its two outcomes with what each tells
pub by-test {ℓ} : (b : Bool) (P : Type ℓ) → (b ≡ true → P) → (b ≡ false → P) → P
by-test true P f g = f refl
by-test false P f g = g refl

module _ (p : ℕ → Bool) where
  pub run_on : (b : ℕ) (t : List ℕ) → p b ≡ true → run p (b ∷ t) ≡ b ∷ run p t
  run_on b t e = ap (λ c. cond c (b ∷ run p t) []) e

  pub run-off : (b : ℕ) (t : List ℕ) → p b ≡ false → run p (b ∷ t) ≡ []
  run-off b t e = ap (λ c. cond c (b ∷ run p t) []) e

  pub past-on : (b : ℕ) (t : List ℕ) → p b ≡ true → past p (b ∷ t) ≡ past p t
  past-on b t e = ap (λ c. cond c (past p t) (b ∷ t)) e

  pub past_off : (b : ℕ) (t : List ℕ) → p b ≡ false → past p (b ∷ t) ≡ b ∷ t
  past_off b t e = ap (λ c. cond c (past p t) (b ∷ t)) e

  pub run-all : (t : List ℕ) → All (λ b. p b ≡ true) (run p t)
  run-all [] = none
  run-all (b ∷ t) =
      by-test (p b) (All (λ b. p b ≡ true) (run p (b ∷ t))) (λ e. rw (run_on b t e) (both e (run-all t))) (λ e. rw (run-off b t e) none)

  pub past-heads : (t : List ℕ) → Heads (λ b. p b ≡ false) (past p t)
  past-heads [] = empty
  past-heads (b ∷ t) =
      by-test (p b) (Heads (λ b. p b ≡ false) (past p (b ∷ t))) (λ e. rw (past-on b t e) (past-heads t)) (λ e. rw (past_off b t e) (head e))

  -- ---- parts
  pub parts_at : (b : ℕ) (t : List ℕ) → p b ≡ true → parts p (b ∷ t) ≡ [] ∷ parts p t
  parts_at b t e = ap (λ c. cond c ([] ∷ parts p t) (onto b (parts p t))) e

  pub parts-on : (b : ℕ) (t : List ℕ) → p b ≡ false → parts p (b ∷ t) ≡ onto b (parts p t)
  parts-on b t e = ap (λ c. cond c ([] ∷ parts p t) (onto b (parts p t))) e

  pub parts-two : (t : List ℕ) → parts p t ≡ first (parts p t) ∷ rest (parts p t)
  parts-two [] = refl
  parts-two (b ∷ t) =
      by-test (p b) (parts p (b ∷ t) ≡ first (parts p (b ∷ t)) ∷ rest (parts p (b ∷ t)))
      (λ e. rw (parts_at b t e) refl)
      (λ e. rw (parts-on b t e) refl)

  pub parts-run : {w : List ℕ} (t : List ℕ) → All (λ b. p b ≡ false) w → parts p (w ++ t) ≡ (w ++ first (parts p t)) ∷ rest (parts p t)
  parts-run t none = parts-two t
  parts-run t (both {a = b} {l = w} e h) = parts-on b (w ++ t) e ∙ ap (onto b) (parts-run t h)

  pub parts-stop : {t : List ℕ} → Heads (λ b. p b ≡ true) t → first (parts p t) ≡ []
  parts-stop empty = refl
  parts-stop (head {a = b} {l = t} e) = ap first (parts_at b t e)

-- ---- a blank before a line
blank-not-end : (b : ℕ) → is_blank b ≡ true → is_end b ≡ false
blank-not-end b h =
    by-test (is_end b) (is_end b ≡ false)
    (λ e. absurd (true≢false (sym h ∙ ap is_blank (eqb-true b 10 e))))
    (λ e. e)

pub line-blank : (b : ℕ) (t : List ℕ) → is_blank b ≡ true → line (b ∷ t) ≡ line t
unfolding line words lines
line-blank b t h =
    ap (λ ls. filled (parts is_blank (first ls))) (parts-on is_end b t (blank-not-end b h))
    ∙ ap filled (parts_at is_blank b (first (parts is_end t)) h)

pub more-blank : (b : ℕ) (t : List ℕ) → is_blank b ≡ true → more (b ∷ t) ≡ more t
unfolding more lines
more-blank b t h = ap (λ ls. filled (map words (rest ls))) (parts-on is_end b t (blank-not-end b h))

-- ---- the line's end
pub line-nil : line [] ≡ []
unfolding line words lines
line-nil = refl

pub more-nil : more [] ≡ []
unfolding more lines
more-nil = refl

pub line-end : (b : ℕ) (t : List ℕ) → is_end b ≡ true → line (b ∷ t) ≡ []
unfolding line words lines
line-end b t h = ap (λ ls. filled (parts is_blank (first ls))) (parts_at is_end b t h)

pub more-end : (b : ℕ) (t : List ℕ) → is_end b ≡ true → more (b ∷ t) ≡ rows t
unfolding more rows lines
more-end b t h = ap (λ ls. filled (map words (rest ls))) (parts_at is_end b t h)

-- ---- a word; behind it stands nothing, a blank or a line feed
no-blank : (b : ℕ) → not (is_blank b || is_end b) ≡ true → is_blank b ≡ false
no-blank b h =
    by-test (is_blank b) (is_blank b ≡ false) (λ e. absurd (true≢false (sym h ∙ ap (λ c. not (c || is_end b)) e))) (λ e. e)

no_end : (b : ℕ) → not (is_blank b || is_end b) ≡ true → is_end b ≡ false
no_end b h = not-true (is_end b) (sym (ap (λ c. not (c || is_end b)) (no-blank b h)) ∙ h)

-- where a word ends, the words of the first line of what follows start with none
stops-blank : {t : List ℕ} → Heads (λ b. in_class Word b ≡ false) t → Heads (λ b. is_blank b ≡ true) (first (lines t))
unfolding lines in_class
stops-blank empty = empty
stops-blank (head {a = b} {l = t} h) =
    by-test (is_end b) (Heads (λ b. is_blank b ≡ true) (first (parts is_end (b ∷ t))))
    (λ e. rw (parts_at is_end b t e) empty)
    (λ e. rw (parts-on is_end b t e) (head (sym (or-false (is_blank b)) ∙ ap (λ c. is_blank b || c) (sym e) ∙ not-false _ h)))

words-word : (b : ℕ) (w l : List ℕ)
    → All (λ c. is_blank c ≡ false) (b ∷ w)
    → Heads (λ c. is_blank c ≡ true) l
    → words ((b ∷ w) ++ l) ≡ (b ∷ w) ∷ words l
unfolding words
words-word b w l h k =
    ap filled (parts-run is_blank l h)
    ∙ ap (λ v. (b ∷ (w ++ v)) ∷ filled (rest (parts is_blank l))) (parts-stop is_blank k)
    ∙ ap (λ v. (b ∷ v) ∷ filled (rest (parts is_blank l))) (append-nil w)
    ∙ ap (λ ls. (b ∷ w) ∷ ls)
    (sym (ap filled (parts-two is_blank l) ∙ ap (λ v. filled (v ∷ rest (parts is_blank l))) (parts-stop is_blank k)))

pub line_word : (b : ℕ) (w t : List ℕ)
    → All (λ c. in_class Word c ≡ true) (b ∷ w)
    → Heads (λ c. in_class Word c ≡ false) t
    → line ((b ∷ w) ++ t) ≡ (b ∷ w) ∷ line t
unfolding line lines in_class
line_word b w t h k =
    ap (λ ls. words (first ls)) (parts-run is_end t (all_map no_end h))
    ∙ words-word b w (first (lines t)) (all_map no-blank h) (stops-blank k)

pub more-word : (w t : List ℕ) → All (λ c. in_class Word c ≡ true) w → more (w ++ t) ≡ more t
unfolding more lines in_class
more-word w t h = ap (λ ls. filled (map words (rest ls))) (parts-run is_end t (all_map no_end h))

-- ---- rows by their lines
pub rows-two : (t : List ℕ) → rows t ≡ filled (line t ∷ []) ++ more t
unfolding rows line more lines
rows-two t = ap (λ ls. filled (map words ls)) (parts-two is_end t) ∙ go (words (first (lines t)))
  where
    go : (ws : List (List ℕ)) → filled (ws ∷ map words (rest (lines t))) ≡ filled (ws ∷ []) ++ filled (map words (rest (lines t)))
    go [] = refl
    go (w ∷ ws) = refl

-- ---- the next word of a line
-- what is before a word
past-blank : (t : List ℕ) → (line (past (in_class Blank) t) ≡ line t) × (more (past (in_class Blank) t) ≡ more t)
unfolding in_class
past-blank [] = (refl, refl)
past-blank (b ∷ t) =
    by-test (is_blank b) ((line (past is_blank (b ∷ t)) ≡ line (b ∷ t)) × (more (past is_blank (b ∷ t)) ≡ more (b ∷ t)))
    (λ e. rw (past-on is_blank b t e) ((past-blank t).0 ∙ sym (line-blank b t e), (past-blank t).1 ∙ sym (more-blank b t e)))
    (λ e. rw (past_off is_blank b t e) (refl, refl))

-- neither a blank nor a byte of a word: the line is over
line-over : (t : List ℕ) → Heads (λ b. in_class Blank b ≡ false) t → Heads (λ b. in_class Word b ≡ false) t → line t ≡ []
unfolding in_class
line-over [] h k = line-nil
line-over (b ∷ t) (head h) (head k) = line-end b t (sym (ap (λ c. c || is_end b) h) ∙ not-false _ k)

Next : List ℕ → List ℕ → Type 0
Next t u =
    (first (line t) ≡ run (in_class Word) u)
    × (rest (line t) ≡ line (past (in_class Word) u))
    × (more t ≡ more (past (in_class Word) u))

next-is : (u w : List ℕ)
    → Heads (λ b. in_class Blank b ≡ false) u
    → w ≡ run (in_class Word) u
    → Next u u
unfolding Next
next-is u [] h e =
    let v = past (in_class Word) u in
    let same : v ≡ u = ap (λ l. l ++ v) e ∙ run_past (in_class Word) u in
    let over : line u ≡ [] = line-over u h (subst (λ l. Heads (λ b. in_class Word b ≡ false) l) same (past-heads (in_class Word) u)) in
    (ap first over ∙ e, ap rest over ∙ sym over ∙ ap line (sym same), ap more (sym same))
next-is u (b ∷ w) h e =
    let v = past (in_class Word) u in
    let whole : (b ∷ w) ++ v ≡ u = ap (λ l. l ++ v) e ∙ run_past (in_class Word) u in
    let all = subst (λ l. All (λ b. in_class Word b ≡ true) l) (sym e) (run-all (in_class Word) u) in
    let l : line u ≡ (b ∷ w) ∷ line v = ap line (sym whole) ∙ line_word b w v all (past-heads (in_class Word) u) in
    (ap first l ∙ e, ap rest l, ap more (sym whole) ∙ more-word (b ∷ w) v all)

-- the first word of a line, and the text behind it
module _ (t : List ℕ) where
  next : Next (past (in_class Blank) t) (past (in_class Blank) t)
  next = next-is (past (in_class Blank) t) (run (in_class Word) (past (in_class Blank) t)) (past-heads (in_class Blank) t) refl

  pub word_first : first (line t) ≡ run (in_class Word) (past (in_class Blank) t)
  unfolding Next
  word_first = ap first (sym (past-blank t).0) ∙ next.0

  pub word-rest : rest (line t) ≡ line (past (in_class Word) (past (in_class Blank) t))
  unfolding Next
  word-rest = ap rest (sym (past-blank t).0) ∙ next.1

  pub word_more : more t ≡ more (past (in_class Word) (past (in_class Blank) t))
  unfolding Next
  word_more = sym (past-blank t).1 ∙ next.2

-- ---- from row to row
rows-white : (b : ℕ) (t : List ℕ) → in_class White b ≡ true → rows (b ∷ t) ≡ rows t
unfolding in_class
rows-white b t h =
    by-test (is_blank b) (rows (b ∷ t) ≡ rows t)
    (λ e. rows-two (b ∷ t) ∙ ap (λ l. filled (l ∷ []) ++ more (b ∷ t)) (line-blank b t e) ∙ ap (λ m. filled (line t ∷ []) ++ m) (more-blank b t e) ∙ sym (rows-two t))
    (λ e. let z : is_end b ≡ true = sym (ap (λ c. c || is_end b) e) ∙ h in
    rows-two (b ∷ t) ∙ ap (λ l. filled (l ∷ []) ++ more (b ∷ t)) (line-end b t z) ∙ more-end b t z)

-- white space before a row
pub rows-past : (t : List ℕ) → rows (past (in_class White) t) ≡ rows t
rows-past [] = refl
rows-past (b ∷ t) =
    by-test (in_class White b) (rows (past (in_class White) (b ∷ t)) ≡ rows (b ∷ t))
    (λ e. rw (past-on (in_class White) b t e) (rows-past t ∙ sym (rows-white b t e)))
    (λ e. rw (past_off (in_class White) b t e) refl)

-- the lines behind the first
pub rows-nil : rows [] ≡ []
unfolding rows words lines
rows-nil = refl

more-on : (b : ℕ) (t : List ℕ) → is_end b ≡ false → more (b ∷ t) ≡ more t
unfolding more lines
more-on b t h = ap (λ ls. filled (map words (rest ls))) (parts-on is_end b t h)

pub more-line : (t : List ℕ) → more t ≡ rows (drop 1 (past (in_class Line) t))
unfolding in_class
more-line [] = more-nil ∙ sym rows-nil
more-line (b ∷ t) =
    by-test (is_end b) (more (b ∷ t) ≡ rows (drop 1 (past (λ c. not (is_end c)) (b ∷ t))))
    (λ e. rw (past_off (λ c. not (is_end c)) b t (ap not e)) (more-end b t e))
    (λ e. rw (past-on (λ c. not (is_end c)) b t (ap not e)) (more-on b t e ∙ more-line t))

-- a text that starts with a byte of a word starts with a row
pub rows_row : (b : ℕ) (t : List ℕ) → in_class White b ≡ false → rows (b ∷ t) ≡ line (b ∷ t) ∷ more (b ∷ t)
unfolding in_class Next
rows_row b t h =
    let z : in_class Word b ≡ true = ap not h in
    let n = next-is (b ∷ t) (run (in_class Word) (b ∷ t)) (head (no-blank b z)) refl in
    go (line (b ∷ t)) (run_on (in_class Word) b t z) n.0 refl
  where
    go : (ws : List (List ℕ)) → run (in_class Word) (b ∷ t) ≡ b ∷ run (in_class Word) t → first ws ≡ run (in_class Word) (b ∷ t) → line (b ∷ t) ≡ ws → rows (b ∷ t) ≡ ws ∷ more (b ∷ t)
    go [] e f g = absurd (nil≢cons (f ∙ e))
    go ([] ∷ ws) e f g = absurd (nil≢cons (f ∙ e))
    go ((c ∷ w) ∷ ws) e f g = rows-two (b ∷ t) ∙ ap (λ l. filled (l ∷ []) ++ more (b ∷ t)) g

-- ---- the last word
-- what a line is, by its first word
line-nil-of : (u : List ℕ) → Heads (λ b. in_class Blank b ≡ false) u → run (in_class Word) u ≡ [] → line u ≡ []
line-nil-of u h e =
    let same : past (in_class Word) u ≡ u = ap (λ l. l ++ past (in_class Word) u) (sym e) ∙ run_past (in_class Word) u in
    line-over u h (subst (λ l. Heads (λ b. in_class Word b ≡ false) l) same (past-heads (in_class Word) u))

over-go : (w : List ℕ) (ws : List (List ℕ)) → first ws ≡ w → (w ≡ [] → ws ≡ []) → eqb (length w) 0 ≡ is_nil ws
over-go [] ws e f = ap is_nil (sym (f refl))
over-go (b ∷ w) [] e f = absurd (nil≢cons e)
over-go (b ∷ w) (v ∷ ws) e f = ne_eqb (suc (length w)) 0 (λ k. omega arith)

pub over-is : (t : List ℕ) → eqb (length (run (in_class Word) (past (in_class Blank) t))) 0 ≡ is_nil (line t)
over-is t =
    over-go (run (in_class Word) (past (in_class Blank) t)) (line t) (word_first t)
    (λ e. sym (past-blank t).0 ∙ line-nil-of (past (in_class Blank) t) (past-heads (in_class Blank) t) e)

-- ---- places
-- a run from a place, and what is behind it
module _ (p : ℕ → Bool) (t : List ℕ) (at : ℕ) where
  place-past : drop (at + length (run p (drop at t))) t ≡ past p (drop at t)
  place-past = sym (drop-drop (length (run p (drop at t))) at t) ∙ run_drop p (drop at t)

pub row_at : (t : List ℕ) (at n : ℕ) → at ≤ length t → n ≡ length (run (in_class White) (drop at t)) → RowAt t at (at + n)
row_at t at n h e =
    let k : drop (at + n) t ≡ past (in_class White) (drop at t) = ap (λ m. drop (at + m) t) e ∙ place-past (in_class White) t at in
    record {
      within = omega (arith, run-few (in_class White) (drop at t), length-drop at t);
      onwards = omega arith;
      same = ap rows k ∙ rows-past (drop at t);
      starts = λ l. starts-go (drop (at + n) t) (subst (λ l. Heads (λ b. in_class White b ≡ false) l) (sym k) (past-heads (in_class White) (drop at t))) (omega (arith, length-drop (at + n) t));
    }
  where
    starts-go : (u : List ℕ) → Heads (λ b. in_class White b ≡ false) u → 0 < length u → rows u ≡ line u ∷ more u
    starts-go [] h l = absurd (omega arith)
    starts-go (b ∷ u) (head h) l = rows_row b u h

module _ (t : List ℕ) (at n : ℕ) (h : at ≤ length t) (e : n ≡ length (run (in_class Line) (drop at t))) where
  behind : drop (at + n) t ≡ past (in_class Line) (drop at t)
  behind = ap (λ m. drop (at + m) t) e ∙ place-past (in_class Line) t at

  pub row-after : at + n < length t → RowAfter t at (at + n + 1)
  row-after l = record {
    within = omega arith;
    onwards = λ k. omega arith;
    same = ap rows (sym (drop-drop 1 (at + n) t) ∙ ap (drop 1) behind) ∙ sym (more-line (drop at t));
  }

  pub row_last : length t ≤ at + n → RowAfter t at (at + n)
  row_last l = record {
    within = omega (arith, run-few (in_class Line) (drop at t), length-drop at t);
    onwards = λ k. omega arith;
    same =
        let z : drop (at + n) t ≡ [] = drop_of_length-le t l in
        ap rows z ∙ sym (more-line (drop at t) ∙ ap (λ l. rows (drop 1 l)) (sym behind ∙ z));
  }

pub word_after : (t : List ℕ) (at n m : ℕ)
    → at ≤ length t
    → n ≡ length (run (in_class Blank) (drop at t))
    → m ≡ length (run (in_class Word) (drop (at + n) t))
    → WordAfter t at (at + n + m)
word_after t at n m h e f =
    let k : drop (at + n) t ≡ past (in_class Blank) (drop at t) = ap (λ i. drop (at + i) t) e ∙ place-past (in_class Blank) t at in
    let l : drop (at + n + m) t ≡ past (in_class Word) (past (in_class Blank) (drop at t)) =
    ap (λ i. drop (at + n + i) t) f ∙ place-past (in_class Word) t (at + n) ∙ ap (past (in_class Word)) k in
    let g : m ≡ length (run (in_class Word) (past (in_class Blank) (drop at t))) = f ∙ ap (λ i. length (run (in_class Word) i)) k in
    record {
      within = omega (arith, run-few (in_class Blank) (drop at t), length-drop at t, run-few (in_class Word) (drop (at + n) t), length-drop (at + n) t);
      onwards = λ z. omega (arith, eqb-false m 0 (ap (λ i. eqb i 0) g ∙ over-is (drop at t) ∙ z));
      same = ap line l ∙ sym (word-rest (drop at t));
    }
