-- The first of a set of bad points, by level, then row, then column (01, Invalid).
--   Before x y      : the point x stands no later than y
--   Best P f        : f is the first of all points that P holds of, or there are none
--   best-same       : the first of a set is the first of the same set
--   best-more       : the first of two sets is the better of their firsts
-- Assumes nothing.
use mathlib.Core.Path.{◌≡◌, refl, sym, ◌∙◌, ap, subst}
use mathlib.Core.Bool.{Bool, true, false, cond, ◌&&◌, ◌||◌}
use Prim.Native.Nat.{ℕ, ◌≤◌, ◌<◌}
use native.Mathlib.Omega.{arith}
use lib.Dec.{T, ltb, eqb, ltb→lt, lt→ltb, eqb→eq, eqb_refl}
use Rattle.algebra.proofs.Truth.{T_and, and_T, T-or}
use Rattle.corners.specs.First.{sooner, better}
use Rattle.corners.specs.declared.First.{First}

pub record Before (x y : First) : Type 0 where
  pub up : x.level ≤ y.level
  pub row : x.level ≡ y.level → x.j ≤ y.j
  pub column : x.level ≡ y.level → x.j ≡ y.j → x.i ≤ y.i

before-trans : (x y z : First) → Before x y → Before y z → Before x z
before-trans x y z a b =
    let p = a.up in let q = b.up in
    record {
      up = omega arith;
      row = λ e. let f : x.level ≡ y.level = omega arith in let g : y.level ≡ z.level = omega arith in
          let s = a.row f in let t = b.row g in omega arith;
      column = λ e h. let f : x.level ≡ y.level = omega arith in let g : y.level ≡ z.level = omega arith in
          let s = a.row f in let t = b.row g in
          let k : x.j ≡ y.j = omega arith in let m : y.j ≡ z.j = omega arith in
          let u = a.column f k in let v = b.column g m in omega arith;
    }

pub before-up : (x y : First) → x.level < y.level → Before x y
before-up x y h = record { up = omega arith; row = λ e. absurd (omega arith); column = λ e f. absurd (omega arith) }

-- ---- the test of the order
or_left : (a b : Bool) → T a → T (a || b)
or_left true b t = tt
or_left false b t = absurd t

or_right : (a b : Bool) → T b → T (a || b)
or_right true b t = tt
or_right false b t = t

eqb_of : (a b : ℕ) → a ≡ b → T (eqb a b)
eqb_of a b e = rw e (eqb_refl b)

not-lt : (a b : ℕ) → ¬ (a < b) → b ≤ a
not-lt a b f = omega arith

module _ (x y : First) where
  abbrev column-first : Bool
  column-first = eqb x.j y.j && ltb x.i y.i

  abbrev row_first : Bool
  row_first = ltb x.j y.j || column-first

  sooner-yes : T (sooner x y) → Before x y
  sooner-yes t =
      T-or (ltb x.level y.level) (eqb x.level y.level && row_first) (Before x y) (λ a. before-up x y (ltb→lt _ _ a)) level t
    where
      level : T (eqb x.level y.level && row_first) → Before x y
      level a =
          let (u, v) = T_and (eqb x.level y.level) row_first a in
          let e : x.level ≡ y.level = eqb→eq _ _ u in
          T-or (ltb x.j y.j) column-first (Before x y)
          (λ b. let h = ltb→lt x.j y.j b in record { up = omega arith; row = λ k. omega arith; column = λ k m. absurd (omega arith) })
          (λ b. let (p, q) = T_and (eqb x.j y.j) (ltb x.i y.i) b in
          let f : x.j ≡ y.j = eqb→eq _ _ p in let h = ltb→lt x.i y.i q in
          record { up = omega arith; row = λ k. omega arith; column = λ k m. omega arith }) v

  sooner-no : ¬ T (sooner x y) → Before y x
  sooner-no f =
      record {
        up = not-lt _ _ (λ h. f (or_left (ltb x.level y.level) (eqb x.level y.level && row_first) (lt→ltb _ _ h)));
        row = λ e. not-lt _ _ (λ h. f (level (sym e) (or_left (ltb x.j y.j) column-first (lt→ltb _ _ h))));
        column = λ e g. not-lt _ _
            (λ h. f (level (sym e) (or_right (ltb x.j y.j) column-first
            (and_T (eqb x.j y.j) (ltb x.i y.i) (eqb_of _ _ (sym g)) (lt→ltb _ _ h)))));
      }
    where
      level : x.level ≡ y.level → T row_first → T (sooner x y)
      level e t =
          or_right (ltb x.level y.level) (eqb x.level y.level && row_first)
          (and_T (eqb x.level y.level) row_first (eqb_of _ _ e) t)

-- ---- the first of a set
abbrev pub FirstOf : (First → Type 0) → Bool → First → Type 0
FirstOf P true x = P x × ((y : First) → P y → Before x y)
FirstOf P false x = (y : First) → ¬ P y

abbrev pub Best : (First → Type 0) → First → Type 0
Best P x = FirstOf P x.bad x

pub best-some : (P : First → Type 0) (x : First) → x.bad ≡ true → Best P x → P x × ((y : First) → P y → Before x y)
best-some P x e b = subst (λ (t : Bool). FirstOf P t x) e b

pub best_none : (P : First → Type 0) (x : First) → x.bad ≡ false → Best P x → (y : First) → ¬ P y
best_none P x e b = subst (λ (t : Bool). FirstOf P t x) e b

pub some-best : (P : First → Type 0) (x : First) → x.bad ≡ true → P x → ((y : First) → P y → Before x y) → Best P x
some-best P x e p f = subst (λ (t : Bool). FirstOf P t x) (sym e) (p, f)

pub none-best : (P : First → Type 0) (x : First) → x.bad ≡ false → ((y : First) → ¬ P y) → Best P x
none-best P x e f = subst (λ (t : Bool). FirstOf P t x) (sym e) f

pub best-same : (P Q : First → Type 0) → ((x : First) → P x → Q x) → ((x : First) → Q x → P x) → (x : First) → Best P x → Best Q x
best-same P Q f g x b = go x.bad refl
  where
    go : (t : Bool) → x.bad ≡ t → Best Q x
    go true e = let (p, h) = best-some P x e b in some-best Q x e (f x p) (λ y q. h y (g y q))
    go false e = none-best Q x e (λ y q. best_none P x e b y (g y q))

-- what is in P, in Q, or after a
pub data Cover (P Q : First → Type 0) (a x : First) : Type 0 where
  left : P x → Cover P Q a x
  right : Q x → Cover P Q a x
  after : a.bad ≡ true → Before a x → Cover P Q a x

better-later : (a b : First) → a.bad ≡ true → b.bad ≡ true → sooner b a ≡ true → better a b ≡ b
unfolding better
better-later a b e f s = rw (e, f, s)

better-sooner : (a b : First) → a.bad ≡ true → sooner b a ≡ false → better a b ≡ a
unfolding better
better-sooner a b e s = go b.bad
  where
    go : (t : Bool) → cond ((a.bad && t) && sooner b a) b (cond a.bad a b) ≡ a
    go true = rw (e, s)
    go false = rw e

better-first : (a b : First) → a.bad ≡ true → b.bad ≡ false → better a b ≡ a
unfolding better
better-first a b e f = rw (e, f)

better-second : (a b : First) → a.bad ≡ false → better a b ≡ b
unfolding better
better-second a b e = rw e

pub better-none : (a b : First) → (better a b).bad ≡ false → (a.bad ≡ false) × (b.bad ≡ false)
better-none a b e = go a.bad refl b.bad refl (sooner b a) refl
  where
    clash : {X : Type 0} (x : First) → better a b ≡ x → x.bad ≡ true → X
    clash x p q = absurd (subst T (sym (sym e ∙ ap (λ (f : First). f.bad) p ∙ q)) tt)

    go : (s : Bool) → a.bad ≡ s → (t : Bool) → b.bad ≡ t → (u : Bool) → sooner b a ≡ u → (a.bad ≡ false) × (b.bad ≡ false)
    go false p false q u r = (p, q)
    go false p true q u r = clash b (better-second a b p) q
    go true p false q u r = clash a (better-first a b p q) p
    go true p true q true r = clash b (better-later a b p q r) q
    go true p true q false r = clash a (better-sooner a b p r) p

-- the first of P and the first of Q give the first of R, if R is what is in P, in Q, or after the first of P
module _ (P Q R : First → Type 0) (from-P : (x : First) → P x → R x) (from-Q : (x : First) → Q x → R x) where
  pub best-more : (a b : First) → Best P a → Best Q b → ((x : First) → R x → Cover P Q a x) → Best R (better a b)
  best-more a b A B c = go a.bad refl b.bad refl (sooner b a) refl
    where
      no-after : {X : Type 0} → a.bad ≡ false → a.bad ≡ true → X
      no-after e f = absurd (subst T (sym f ∙ e) tt)

      go : (s : Bool) → a.bad ≡ s → (t : Bool) → b.bad ≡ t → (u : Bool) → sooner b a ≡ u → Best R (better a b)
      go false p false q u r = rw (better-second a b p) (none-best R b q (λ x m. out x (c x m)))
        where
          out : (x : First) → Cover P Q a x → ⊥
          out x (left m) = best_none P a p A x m
          out x (right m) = best_none Q b q B x m
          out x (after e m) = no-after p e
      go false p true q u r = let (m, h) = best-some Q b q B in rw (better-second a b p) (some-best R b q (from-Q b m) (λ x n. out h x (c x n)))
        where
          out : ((y : First) → Q y → Before b y) → (x : First) → Cover P Q a x → Before b x
          out h x (left m) = absurd (best_none P a p A x m)
          out h x (right m) = h x m
          out h x (after e m) = no-after p e
      go true p false q u r = let (m, h) = best-some P a p A in rw (better-first a b p q) (some-best R a p (from-P a m) (λ x n. out h x (c x n)))
        where
          out : ((y : First) → P y → Before a y) → (x : First) → Cover P Q a x → Before a x
          out h x (left m) = h x m
          out h x (right m) = absurd (best_none Q b q B x m)
          out h x (after e m) = m
      go true p true q true r = rw (better-later a b p q r) (some-best R b q (from-Q b B'.0) (λ x n. out x (c x n)))
        where
          A' : P a × ((y : First) → P y → Before a y)
          A' = best-some P a p A

          B' : Q b × ((y : First) → Q y → Before b y)
          B' = best-some Q b q B

          h : Before b a
          h = sooner-yes b a (rw r tt)

          out : (x : First) → Cover P Q a x → Before b x
          out x (left m) = before-trans b a x h (A'.1 x m)
          out x (right m) = B'.1 x m
          out x (after e m) = before-trans b a x h m
      go true p true q false r = rw (better-sooner a b p r) (some-best R a p (from-P a A'.0) (λ x n. out x (c x n)))
        where
          A' : P a × ((y : First) → P y → Before a y)
          A' = best-some P a p A

          B' : Q b × ((y : First) → Q y → Before b y)
          B' = best-some Q b q B

          h : Before a b
          h = sooner-no b a (λ t. rw r at t)

          out : (x : First) → Cover P Q a x → Before a x
          out x (left m) = A'.1 x m
          out x (right m) = before-trans a b x h (B'.1 x m)
          out x (after e m) = m
