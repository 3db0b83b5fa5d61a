-- The tests of words say what is stated of them (docs/GMSH.md, G10, G14, G16, G17).
--   and_both, and-of : two tests that are true
--   same_refl, same_true : the test of two words
--   run-app, run_is  : a run in front of another byte; a run that is the whole list
--   digits-true, digits_of, number-true, number-of : digits, and whole numbers with their value
--   tag-true, tag_of, is-number-true, is-number-of : tags, and decimal numbers
--   whole-true, whole_of : whole coordinates with their value
--   zero-true, zero_of : those that are 0
--   whole-number   : a whole coordinate is a decimal number
-- Assumes nothing.
use mathlib.Core.Path.{◌≡◌, refl, sym, ap, ◌∙◌, subst}
use mathlib.Core.Bool.{Bool, true, false, ◌&&◌, ◌||◌, cond, true≢false, or-false}
use mathlib.Core.List.{List, [], ◌∷◌, ◌++◌, append-nil, append_assoc}
use Prim.Native.Nat.{ℕ, zero, suc, ◌<◌, min}
use native.Mathlib.Omega.{arith}
use borrow.Author.Tests.{eqb-true, eq-eqb, ltb-false, lt-ltb}
use lib.Dec.{eqb, ltb}
use lib.IntN.{ℤ, pos, neg_ℤ, nat_abs}
use lib.ListN.{length, length-append}
use Rattle.text.specs.Writing.{reads}
use Rattle.mesh_text.specs.declared.Class.TheVariants.{Digit, Zero}
use Rattle.mesh_text.specs.Rows.{All, none, both, Heads, empty, head, run, past, in_class}
use Rattle.mesh_text.specs.Words.{Digits, digits, Number, Sign, unsigned, plus, minus, IsTag, tag, Mantissa, whole, pointed, broken, started, Exponent, plain, small_e, large_e, IsNumber, is_number, Point, no_point, zeros, Plain, parted, WholeValue, as_is, with_plus, with_minus}
use Rattle.mesh_text.specs.Tests.{same_b, digits_b, number_of, tag_b, exponent_b, mantissa_b, number_b, point_b, whole_b, is_minus, size_of, signed_by, value_of, zero_b, unsigned as unsign}
use Rattle.mesh_text.proofs.Runs.{run_past}
use Rattle.mesh_text.proofs.Rows.{all_map, by-test, run_on, run-off, past-on, past_off, run-all}
use Rattle.mesh_text.proofs.Firsts.{nil-of}

-- ---- tests
pub and_both : (a b : Bool) → (a && b) ≡ true → (a ≡ true) × (b ≡ true)
and_both true b e = (refl, e)
and_both false b e = absurd (true≢false (sym e))

pub and-of : (a b : Bool) → a ≡ true → b ≡ true → (a && b) ≡ true
and-of a b e f = ap (λ c. c && b) e ∙ f

pub same_refl : (w : List ℕ) → same_b w w ≡ true
same_refl [] = refl
same_refl (b ∷ w) = and-of (eqb b b) (same_b w w) (eq-eqb b b refl) (same_refl w)

pub same_true : (v w : List ℕ) → same_b v w ≡ true → v ≡ w
same_true [] [] e = refl
same_true [] (b ∷ w) e = absurd (true≢false (sym e))
same_true (a ∷ v) [] e = absurd (true≢false (sym e))
same_true (a ∷ v) (b ∷ w) e =
    let t = and_both (eqb a b) (same_b v w) e in
    ap (λ x. x ∷ v) (eqb-true a b t.0) ∙ ap (λ l. b ∷ l) (same_true v w t.1)

-- ---- runs
module _ (p : ℕ → Bool) where
  pub run-app : {w t : List ℕ} → All (λ b. p b ≡ true) w → Heads (λ b. p b ≡ false) t → (run p (w ++ t) ≡ w) × (past p (w ++ t) ≡ t)
  run-app none empty = (refl, refl)
  run-app none (head {a = b} {l = t} e) = (run-off p b t e, past_off p b t e)
  run-app {t = t} (both {a = b} {l = w} e h) k =
      let r = run-app h k in (run_on p b (w ++ t) e ∙ ap (λ l. b ∷ l) r.0, past-on p b (w ++ t) e ∙ r.1)

  pub run_is : (w : List ℕ) → length (run p w) ≡ length w → run p w ≡ w
  run_is w e =
      let z : past p w ≡ [] = nil-of (past p w) (omega (arith, length-append (run p w) (past p w), ap length (run_past p w))) in
      sym (append-nil (run p w)) ∙ ap (λ l. run p w ++ l) (sym z) ∙ run_past p w

  pub all_true : (w : List ℕ) → eqb (length (run p w)) (length w) ≡ true → All (λ b. p b ≡ true) w
  all_true w e = subst (All (λ b. p b ≡ true)) (run_is w (eqb-true _ _ e)) (run-all p w)

  pub all_of : {w : List ℕ} → All (λ b. p b ≡ true) w → eqb (length (run p w)) (length w) ≡ true
  all_of {w} h = eq-eqb _ _ (ap length (ap (run p) (sym (append-nil w)) ∙ (run-app h empty).0))

-- ---- digits and whole numbers
pub digits-true : (w : List ℕ) → digits_b w ≡ true → Digits w
unfolding digits_b
digits-true [] e = absurd (true≢false (sym e))
digits-true (b ∷ w) e = digits (all_true (in_class Digit) (b ∷ w) (and_both (ltb 0 (suc (length w))) _ e).1)

pub digits_of : {w : List ℕ} → Digits w → digits_b w ≡ true
unfolding digits_b
digits_of (digits {b} {w} h) = and-of (ltb 0 (suc (length w))) _ (lt-ltb 0 (suc (length w)) (omega arith)) (all_of (in_class Digit) h)

pub number-of : (w : List ℕ) (n : ℕ) → Number w n → number_of w ≡ n
unfolding number_of
number-of w n h =
    ap (λ d. cond d (min 4294967296 (reads w)) 4294967296) (digits_of h.written) ∙ omega (arith, h.value, h.small)

pub number-true : (w : List ℕ) → number_of w < 4294967296 → Number w (number_of w)
unfolding number_of
number-true w h = by-test (digits_b w) (Number w (number_of w)) (λ e. yes e) (λ e. absurd (no e))
  where
    is : (b : Bool) → digits_b w ≡ b → number_of w ≡ cond b (min 4294967296 (reads w)) 4294967296
    is b e = ap (λ d. cond d (min 4294967296 (reads w)) 4294967296) e

    no : digits_b w ≡ false → ⊥
    no e = let k = is false e in omega arith

    yes : digits_b w ≡ true → Number w (number_of w)
    yes e = let k = is true e in record { written = digits-true w e; value = omega arith; small = h }

-- ---- tags
-- a byte that is a digit is neither a sign nor a point nor an e
digit_not : (b k : ℕ) → in_class Digit b ≡ true → in_class Digit k ≡ false → eqb b k ≡ false
digit_not b k h n = by-test (eqb b k) (eqb b k ≡ false) (λ e. absurd (true≢false (sym h ∙ ap (in_class Digit) (eqb-true b k e) ∙ n))) (λ e. e)

-- no sign stands first
Unsigned : List ℕ → Type 0
Unsigned t = Heads (λ b. (eqb b 43 || eqb b 45) ≡ false) t

unsigned-plain : {t : List ℕ} → Unsigned t → unsign t ≡ t
unfolding unsign Unsigned
unsigned-plain empty = refl
unsigned-plain (head {a = b} {l = t} e) = ap (λ c. cond c t (b ∷ t)) e

unsigned-sign : {s t : List ℕ} → Sign s → Unsigned t → unsign (s ++ t) ≡ t
unfolding unsign
unsigned-sign unsigned h = unsigned-plain h
unsigned-sign plus h = refl
unsigned-sign minus h = refl

digits-head : {w : List ℕ} (t : List ℕ) → Digits w → Unsigned (w ++ t)
unfolding Unsigned in_class
digits-head t (digits {b} (both h k)) = head (ap (λ c. c || eqb b 45) (digit_not b 43 h refl) ∙ digit_not b 45 h refl)

pub tag_of : {w : List ℕ} → IsTag w → tag_b w ≡ true
unfolding tag_b
tag_of (tag {s} {d} h k) =
    ap digits_b (unsigned-sign h (subst Unsigned (append-nil d) (digits-head [] k))) ∙ digits_of k

-- what a word is without its sign, and the sign
signed_is : (w : List ℕ) → (s : List ℕ) × (Sign s × (w ≡ s ++ unsign w))
unfolding unsign
signed_is [] = ([], (unsigned, refl))
signed_is (b ∷ w) =
    by-test (eqb b 43) ((s : List ℕ) × (Sign s × (b ∷ w ≡ s ++ cond (eqb b 43 || eqb b 45) w (b ∷ w))))
    (λ e. (43 ∷ [], (plus, ap (λ c. c ∷ w) (eqb-true b 43 e) ∙ ap (λ c. 43 ∷ cond (c || eqb b 45) w (b ∷ w)) (sym e))))
    (λ e. by-test (eqb b 45) ((s : List ℕ) × (Sign s × (b ∷ w ≡ s ++ cond (eqb b 43 || eqb b 45) w (b ∷ w))))
    (λ f. (45 ∷ [], (minus, ap (λ c. c ∷ w) (eqb-true b 45 f) ∙ ap (λ c. 45 ∷ cond (c || true) w (b ∷ w)) (sym e) ∙ ap (λ c. 45 ∷ cond (eqb b 43 || c) w (b ∷ w)) (sym f))))
    (λ f. ([], (unsigned, ap (λ c. cond (c || false) w (b ∷ w)) (sym e) ∙ ap (λ c. cond (eqb b 43 || c) w (b ∷ w)) (sym f)))))

pub tag-true : (w : List ℕ) → tag_b w ≡ true → IsTag w
unfolding tag_b
tag-true w e = let s = signed_is w in subst IsTag (sym s.1.1) (tag s.1.0 (digits-true (unsign w) e))

-- ---- exponents
pub exponent-of : {x : List ℕ} → Exponent x → exponent_b x ≡ true
unfolding exponent_b
exponent-of plain = refl
exponent-of (small_e h) = tag_of h
exponent-of (large_e h) = tag_of h

pub exponent-true : (x : List ℕ) → exponent_b x ≡ true → Exponent x
unfolding exponent_b
exponent-true [] e = plain
exponent-true (b ∷ w) e =
    let t = and_both (eqb b 101 || eqb b 69) (tag_b w) e in
    by-test (eqb b 101) (Exponent (b ∷ w))
    (λ f. subst (λ c. Exponent (c ∷ w)) (sym (eqb-true b 101 f)) (small_e (tag-true w t.1)))
    (λ f. subst (λ c. Exponent (c ∷ w)) (sym (eqb-true b 69 (ap (λ c. c || eqb b 69) (sym f) ∙ t.0))) (large_e (tag-true w t.1)))

-- no digit stands first
exponent-head : {x : List ℕ} → Exponent x → Heads (λ b. in_class Digit b ≡ false) x
unfolding in_class
exponent-head plain = empty
exponent-head (small_e h) = head refl
exponent-head (large_e h) = head refl

-- ---- numbers
-- what is behind the first digits of d ++ r
mantissa-app : {d r : List ℕ} → All (λ b. in_class Digit b ≡ true) d → Heads (λ b. in_class Digit b ≡ false) r
    → mantissa_b (length (run (in_class Digit) (d ++ r))) (past (in_class Digit) (d ++ r)) ≡ mantissa_b (length d) r
mantissa-app {d} {r} h k =
    let e = run-app (in_class Digit) h k in
    ap (λ l. mantissa_b (length l) (past (in_class Digit) (d ++ r))) e.0 ∙ ap (mantissa_b (length d)) e.1

digits-all : {w : List ℕ} → Digits w → All (λ b. in_class Digit b ≡ true) w
digits-all (digits h) = h

digits-some : {w : List ℕ} → Digits w → ltb 0 (length w) ≡ true
digits-some (digits {b} {w} h) = lt-ltb 0 (suc (length w)) (omega arith)

-- a point is no digit
point-head : (r : List ℕ) → Heads (λ b. in_class Digit b ≡ false) (46 ∷ r)
unfolding in_class
point-head r = head refl

-- the test of a word without its sign
unfoldable ahead : List ℕ → Bool
ahead u = mantissa_b (length (run (in_class Digit) u)) (past (in_class Digit) u)

-- a point, digits or none, and an exponent
point-app : {f x : List ℕ} → All (λ b. in_class Digit b ≡ true) f → Exponent x → (n : ℕ)
    → (ltb 0 n || ltb 0 (length f)) ≡ true
    → mantissa_b n (46 ∷ (f ++ x)) ≡ true
unfolding mantissa_b
point-app h k n o =
    let e = run-app (in_class Digit) h (exponent-head k) in
    and-of _ _ (ap (λ l. ltb 0 n || ltb 0 (length l)) e.0 ∙ o) (ap exponent_b e.1 ∙ exponent-of k)

mantissa-of : {m x : List ℕ} → Mantissa m → Exponent x → ahead (m ++ x) ≡ true
unfolding mantissa_b ahead
mantissa-of (whole {d} h) x = mantissa-app (digits-all h) (exponent-head x) ∙ go x
  where
    go : {x : List ℕ} → Exponent x → mantissa_b (length d) x ≡ true
    go plain = digits-some h
    go (small_e {w} k) = and-of (ltb 0 (length d)) _ (digits-some h) (exponent-of (small_e k))
    go (large_e {w} k) = and-of (ltb 0 (length d)) _ (digits-some h) (exponent-of (large_e k))
mantissa-of {x = x} (pointed {d} h) k =
    ap ahead (append_assoc d (46 ∷ []) x) ∙ mantissa-app (digits-all h) (point-head x)
    ∙ point-app {f = []} none k (length d) (ap (λ b. b || false) (digits-some h))
mantissa-of {x = x} (broken {d} {f} h i) k =
    ap ahead (append_assoc d (46 ∷ f) x) ∙ mantissa-app (digits-all h) (point-head (f ++ x))
    ∙ point-app (digits-all i) k (length d) (ap (λ b. b || ltb 0 (length f)) (digits-some h))
mantissa-of {x = x} (started {f} i) k = mantissa-app {d = []} none (point-head (f ++ x)) ∙ point-app (digits-all i) k 0 (digits-some i)

mantissa-head : {m : List ℕ} (x : List ℕ) → Mantissa m → Unsigned (m ++ x)
unfolding Unsigned
mantissa-head x (whole h) = digits-head x h
mantissa-head x (pointed {d} h) = subst Unsigned (sym (append_assoc d (46 ∷ []) x)) (digits-head (46 ∷ x) h)
mantissa-head x (broken {d} {f} h i) = subst Unsigned (sym (append_assoc d (46 ∷ f) x)) (digits-head (46 ∷ (f ++ x)) h)
mantissa-head x (started i) = head refl

pub is-number-of : {w : List ℕ} → IsNumber w → number_b w ≡ true
unfolding number_b ahead
is-number-of (is_number {s} {m} {x} h k l) = ap ahead (unsigned-sign h (mantissa-head x k)) ∙ mantissa-of k l

-- the other way round
Apart : List ℕ → Type 0
Apart u = (m : List ℕ) × ((x : List ℕ) × ((u ≡ m ++ x) × (Mantissa m × Exponent x)))

digits_from : (d : List ℕ) → All (λ b. in_class Digit b ≡ true) d → ltb 0 (length d) ≡ true → Digits d
digits_from [] h e = absurd (true≢false (sym e))
digits_from (b ∷ d) h e = digits h

none_from : (d : List ℕ) → ltb 0 (length d) ≡ false → d ≡ []
none_from d e = nil-of d (omega (arith, ltb-false 0 (length d) e))

apart-point : (d f : List ℕ) → All (λ b. in_class Digit b ≡ true) d
    → (ltb 0 (length d) || ltb 0 (length (run (in_class Digit) f))) ≡ true
    → Exponent (past (in_class Digit) f)
    → Apart (d ++ (46 ∷ f))
unfolding Apart
apart-point d f h e x =
    let g = run (in_class Digit) f in
    let y = past (in_class Digit) f in
    let gy : g ++ y ≡ f = run_past (in_class Digit) f in
    by-test (ltb 0 (length g)) (Apart (d ++ (46 ∷ f)))
    (λ i. by-test (ltb 0 (length d)) (Apart (d ++ (46 ∷ f)))
    (λ j. (d ++ (46 ∷ g), (y, (ap (λ l. d ++ (46 ∷ l)) (sym gy) ∙ sym (append_assoc d (46 ∷ g) y), (broken (digits_from d h j) (digits_from g (run-all (in_class Digit) f) i), x)))))
    (λ j. (46 ∷ g, (y, (ap (λ l. l ++ (46 ∷ f)) (none_from d j) ∙ ap (λ l. 46 ∷ l) (sym gy), (started (digits_from g (run-all (in_class Digit) f) i), x))))))
    (λ i. let j : ltb 0 (length d) ≡ true = sym (or-false (ltb 0 (length d))) ∙ ap (λ b. ltb 0 (length d) || b) (sym i) ∙ e in
    (d ++ (46 ∷ []), (y, (ap (λ l. d ++ (46 ∷ l)) (sym gy ∙ ap (λ l. l ++ y) (none_from g i)) ∙ sym (append_assoc d (46 ∷ []) y), (pointed (digits_from d h j), x)))))

apart : (d r : List ℕ) → All (λ b. in_class Digit b ≡ true) d → mantissa_b (length d) r ≡ true → Apart (d ++ r)
unfolding mantissa_b Apart
apart d [] h e = (d, ([], (refl, (whole (digits_from d h e), plain))))
apart d (b ∷ f) h e =
    by-test (eqb b 46) (Apart (d ++ (b ∷ f)))
    (λ i. let t = and_both (ltb 0 (length d) || ltb 0 (length (run (in_class Digit) f))) _ (sym (ap (λ c. cond c ((ltb 0 (length d) || ltb 0 (length (run (in_class Digit) f))) && exponent_b (past (in_class Digit) f)) (ltb 0 (length d) && exponent_b (b ∷ f))) i) ∙ e) in
    subst (λ c. Apart (d ++ (c ∷ f))) (sym (eqb-true b 46 i)) (apart-point d f h t.0 (exponent-true _ t.1)))
    (λ i. let t = and_both (ltb 0 (length d)) (exponent_b (b ∷ f)) (sym (ap (λ c. cond c ((ltb 0 (length d) || ltb 0 (length (run (in_class Digit) f))) && exponent_b (past (in_class Digit) f)) (ltb 0 (length d) && exponent_b (b ∷ f))) i) ∙ e) in
    (d, (b ∷ f, (refl, (whole (digits_from d h t.0), exponent-true (b ∷ f) t.1)))))

pub is-number-true : (w : List ℕ) → number_b w ≡ true → IsNumber w
unfolding number_b Apart
is-number-true w e =
    let u = unsign w in
    let s = signed_is w in
    let a = apart (run (in_class Digit) u) (past (in_class Digit) u) (run-all (in_class Digit) u) e in
    let f : w ≡ s.0 ++ (a.0 ++ a.1.0) = s.1.1 ∙ ap (λ l. s.0 ++ l) (sym (run_past (in_class Digit) u) ∙ a.1.1.0) in
    subst IsNumber (sym f) (is_number s.1.0 a.1.1.1.0 a.1.1.1.1)

-- ---- whole coordinates
point-of : {p : List ℕ} → Point p → point_b p ≡ true
unfolding point_b
point-of no_point = refl
point-of (zeros {b} {w} h) = and-of (ltb 0 (suc (length w))) _ (lt-ltb 0 (suc (length w)) (omega arith)) (all_of (in_class Zero) h)

zeros-from : (z : List ℕ) → (ltb 0 (length z) && eqb (length (run (in_class Zero) z)) (length z)) ≡ true → Point (46 ∷ z)
zeros-from [] e = absurd (true≢false (sym e))
zeros-from (b ∷ z) e = zeros (all_true (in_class Zero) (b ∷ z) (and_both (ltb 0 (suc (length z))) _ e).1)

point-true : (p : List ℕ) → point_b p ≡ true → Point p
unfolding point_b
point-true [] e = no_point
point-true (b ∷ z) e =
    let t = and_both (eqb b 46) _ e in subst (λ c. Point (c ∷ z)) (sym (eqb-true b 46 t.0)) (zeros-from z t.1)

points-head : {p : List ℕ} → Point p → Heads (λ b. in_class Digit b ≡ false) p
unfolding in_class
points-head no_point = empty
points-head (zeros h) = head refl

-- a word of digits and a point, whose sign has been taken off
Bare : List ℕ → ℕ → Type 0
Bare u n = ((ltb 0 (length (run (in_class Digit) u)) && point_b (past (in_class Digit) u)) ≡ true) × (reads (run (in_class Digit) u) ≡ n)

bare_of : {u : List ℕ} {n : ℕ} → Plain u n → Bare u n
unfolding Bare
bare_of (parted {d} {p} h k) =
    let e = run-app (in_class Digit) (digits-all h) (points-head k) in (
      and-of _ _ (ap (λ l. ltb 0 (length l)) e.0 ∙ digits-some h) (ap point_b e.1 ∙ point-of k),
      ap reads e.0,
    )

plain-head : {u : List ℕ} {n : ℕ} → Plain u n → Unsigned u
plain-head (parted {p = p} h k) = digits-head p h

plain-minus : {u : List ℕ} {n : ℕ} → Plain u n → is_minus u ≡ false
unfolding is_minus in_class
plain-minus (parted (digits {b} (both h j)) k) = digit_not b 45 h refl

pub whole_of : {w : List ℕ} {z : ℤ} → WholeValue w z → (whole_b w ≡ true) × (value_of w ≡ z)
unfolding whole_b value_of size_of unsign is_minus Bare
whole_of (as_is {w} {n} h) =
    let u = unsigned-plain (plain-head h) in
    let b = bare_of h in (
      ap (λ l. ltb 0 (length (run (in_class Digit) l)) && point_b (past (in_class Digit) l)) u ∙ b.0,
      ap (λ s. signed_by s (reads (run (in_class Digit) (unsign w)))) (plain-minus h)
          ∙ ap (λ l. pos (reads (run (in_class Digit) l))) u
          ∙ ap pos b.1,
    )
whole_of (with_plus h) = ((bare_of h).0, ap pos (bare_of h).1)
whole_of (with_minus h) = ((bare_of h).0, ap (λ n. neg_ℤ (pos n)) (bare_of h).1)

plain-from : (u : List ℕ) → (ltb 0 (length (run (in_class Digit) u)) && point_b (past (in_class Digit) u)) ≡ true
    → Plain u (reads (run (in_class Digit) u))
plain-from u e =
    let t = and_both (ltb 0 (length (run (in_class Digit) u))) _ e in
    subst (λ l. Plain l (reads (run (in_class Digit) u))) (run_past (in_class Digit) u)
    (parted (digits_from (run (in_class Digit) u) (run-all (in_class Digit) u) t.0) (point-true _ t.1))

pub whole-true : (w : List ℕ) → whole_b w ≡ true → WholeValue w (value_of w)
unfolding whole_b value_of size_of is_minus
whole-true w e = go (signed_is w).0 (signed_is w).1.0 (signed_is w).1.1 (plain-from (unsign w) e)
  where
    go : (s : List ℕ) → Sign s → w ≡ s ++ unsign w → Plain (unsign w) (size_of w) → WholeValue w (signed_by (is_minus w) (size_of w))
    go s unsigned f p =
        let m : is_minus w ≡ false = ap is_minus f ∙ plain-minus p in
        subst (λ b. WholeValue w (signed_by b (size_of w))) (sym m) (subst (λ l. WholeValue l (pos (size_of w))) (sym f) (as_is p))
    go s plus f p =
        subst (λ b. WholeValue w (signed_by b (size_of w))) (sym (ap is_minus f))
        (subst (λ l. WholeValue l (pos (size_of w))) (sym f) (with_plus p))
    go s minus f p =
        subst (λ b. WholeValue w (signed_by b (size_of w))) (sym (ap is_minus f))
        (subst (λ l. WholeValue l (neg_ℤ (pos (size_of w)))) (sym f) (with_minus p))

-- ---- zero, with any sign
signed-zero : (s : Bool) → signed_by s 0 ≡ pos 0
signed-zero true = refl
signed-zero false = refl

zero-signed : (s : Bool) (n : ℕ) → signed_by s n ≡ pos 0 → n ≡ 0
zero-signed true zero e = refl
zero-signed true (suc n) e = ap nat_abs e
zero-signed false n e = ap nat_abs e

pub zero-true : (w : List ℕ) → zero_b w ≡ true → WholeValue w (pos 0)
unfolding zero_b value_of
zero-true w e =
    let t = and_both (whole_b w) (eqb (size_of w) 0) e in
    subst (WholeValue w) (ap (signed_by (is_minus w)) (eqb-true (size_of w) 0 t.1) ∙ signed-zero (is_minus w)) (whole-true w t.0)

pub zero_of : (w : List ℕ) → WholeValue w (pos 0) → zero_b w ≡ true
unfolding zero_b value_of
zero_of w h =
    let t = whole_of h in and-of (whole_b w) _ t.0 (eq-eqb (size_of w) 0 (zero-signed (is_minus w) (size_of w) t.1))

-- ---- a whole coordinate is a decimal number
zero-digit : (c : ℕ) → in_class Zero c ≡ true → in_class Digit c ≡ true
unfolding in_class
zero-digit c e = rw (eqb-true c _ e) refl

plain-mantissa : {w : List ℕ} {n : ℕ} → Plain w n → Mantissa w
plain-mantissa (parted {d = d} h no_point) = rw (append-nil d) (whole h)
plain-mantissa (parted h (zeros k)) = broken h (digits (all_map zero-digit k))

pub whole-number : {w : List ℕ} {z : ℤ} → WholeValue w z → IsNumber w
whole-number (as_is {w = w} p) = subst IsNumber (append-nil w) (is_number unsigned (plain-mantissa p) plain)
whole-number (with_plus {w = w} p) = subst IsNumber (ap (λ v. 43 ∷ v) (append-nil w)) (is_number plus (plain-mantissa p) plain)
whole-number (with_minus {w = w} p) = subst IsNumber (ap (λ v. 45 ∷ v) (append-nil w)) (is_number minus (plain-mantissa p) plain)
