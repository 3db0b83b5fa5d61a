-- An element numbered the other way round, from whichever corner: what was valid is invalid at once.
--   positive-turned    : J that is positive everywhere is so in the turned numbering
--   mirrored-negative  : and negative everywhere in the mirrored one
--   first-corner       : where the point (0, 0) of level 0 is bad, the answer is invalid there
--   mirrored-verdict   : an element that is valid is, numbered the other way round and accepted, invalid at level 0, at (0, 0)
--   straight-mirrored  : S is negated
--   mirrored-floor     : so a triangle whose S is positive gets 17 under the floor, if nothing else is wrong
-- By the contracts alone. Assumes nothing.
use mathlib.Core.Path.{◌≡◌, refl, sym, ◌∙◌, ap, subst}
use mathlib.Core.List.{List}
use Prim.Native.Nat.{ℕ, zero, suc, ◌≤◌, ◌<◌, zero-le}
use native.Mathlib.Nat as N
use lib.IntN.{ℤ, pos, neg_ℤ, ◌-ℤ◌, ◌*ℤ◌, neg_ℤ-neg_ℤ, *ℤ_comm, +ℤ_idl, zero-*ℤ}
use lib.Signed.{◌<ℤ◌, clash_ℤ}
use Rattle.algebra.specs.Expr.{exprs, con, ◌⊖◌}
use Rattle.algebra.proofs.Order.{0<pos, <-≤, ≤-of-eq, sub-0<, *ℤ-mono-<, *ℤ-cancel-<}
use Rattle.algebra.proofs.Solve.{solve}
use Rattle.element.specs.Kinds.{Kind, six, eight, nine, ten, kind_of, scale}
use Rattle.element.specs.Places.{Place, OnGrid}
use Rattle.element.specs.Jacobian.{jacobian, factor, Shows}
use Rattle.element.specs.Refusals.{Codes, Accepted, Outside, verdict_codes}
use Rattle.element.proofs.Formulas as E
use Rattle.element.proofs.Sums.{node_e, numbers}
use Rattle.element.proofs.Places.{grid-place, factor-above, scale-above}
use Rattle.judge.specs.Verdict.{Word, valid, invalid, undecided, Answer, is_invalid, Subject, Case}
use Rattle.judge.specs.Faithful.{Faithful}
use Rattle.judge.specs.Elements.{subject}
use Rattle.judge.proofs.Faithful.{element-faithful}
use Rattle.judge.proofs.Demands.{valid-positive}
use Rattle.judge.proofs.Levels.{passes-no-bad}
use Rattle.judge.proofs.Unique.{answer-≡}
use Rattle.verdict.specs.Calls.{given, refusal, Told, VerdictOf}
use Rattle.verdict.specs.declared.Word.TheVariants.{Valid}
use Rattle.verdict.specs.declared.Judged.{Judged}
use Rattle.verdict.proofs.Judging.{accepted-answered, by_word}
use Rattle.floor.specs.Floor.{straight}
use Rattle.floor.specs.Calls.{NoPercent, FloorOf}
use Rattle.floor.proofs.Codes.{straight-last}
use Rattle.floor.proofs.Corners.{collapsed-straight}
use Rattle.turns.specs.Numbering.{turned_by, mirrored}
use Rattle.turns.specs.Kept.{Overturned}
use Rattle.turns.proofs.Jacobian.{turned-from, mirrored-from, jacobian-turned, jacobian-mirrored}
use Rattle.turns.proofs.Calls.{straight-turned}

-- ---- J
negative : (z : ℤ) → pos 0 <ℤ z → neg_ℤ z <ℤ pos 0
negative z h = sub-0< (neg_ℤ z) (pos 0) (subst (λ y. pos 0 <ℤ y) (sym (+ℤ_idl (neg_ℤ (neg_ℤ z)) ∙ neg_ℤ-neg_ℤ z)) h)

abbrev Positive : Kind → List ℤ → Type 0
Positive k xs = (x : Place k) → pos 0 <ℤ jacobian k xs x

module _ (k : Kind) where
  pub positive-turned : (m : ℕ) (xs : List ℤ) → Positive k xs → (x : Place k) → pos 0 <ℤ jacobian k (turned_by m k xs) x
  positive-turned zero xs h y = h y
  positive-turned (suc m) xs h y =
      let (x, t) = turned-from k y in
      subst (λ z. pos 0 <ℤ z) (sym (jacobian-turned k (turned_by m k xs) x y t)) (positive-turned m xs h x)

  pub mirrored-negative : (xs : List ℤ) → Positive k xs → (y : Place k) → jacobian k (mirrored k xs) y <ℤ pos 0
  mirrored-negative xs h y =
      let (x, t) = mirrored-from k y in
      subst (λ z. z <ℤ pos 0) (sym (jacobian-mirrored k xs x y t)) (negative (jacobian k xs x) (h x))

-- ---- the answer
corner-on : (k : Kind) → OnGrid k 0 0 0
corner-on six = zero-le
corner-on eight = (zero-le, zero-le)
corner-on nine = (zero-le, zero-le)
corner-on ten = zero-le

-- what is shown where J is negative is negative
shown-negative : (k : Kind) (xs : List ℤ) → ((x : Place k) → jacobian k xs x <ℤ pos 0) → (i j : ℕ) (z : ℤ) → Shows k xs 0 i j z → z <ℤ pos 0
shown-negative k xs h i j z s =
    let w : ℤ = pos (factor k s.place) in let J : ℤ = jacobian k xs s.place in
    *ℤ-cancel-< z (pos 0) w (<-≤ (0<pos (factor-above k s.place)))
    (subst (λ y. y <ℤ (pos 0 *ℤ w)) (*ℤ_comm J (pos (scale k 0)) ∙ sym s.shown ∙ *ℤ_comm w z)
    (subst (λ y. (J *ℤ pos (scale k 0)) <ℤ y) (zero-*ℤ (pos (scale k 0)) ∙ sym (zero-*ℤ w)) (*ℤ-mono-< (0<pos (scale-above k)) (h s.place))))

pub first-corner : (o : Codes ℕ) (s : Subject) → Faithful s
    → (l : ℕ) (r : Judged)
    → Told o s l r
    → Accepted o
    → s.Bad 0 0 0
    → (z : ℤ) × s.Shows 0 0 0 z × (r ≡ given (is_invalid 0 0 0 z))
first-corner o s f l r v a b =
    let p = accepted-answered o s l r v a in
    let (z, h, e) = go p.answer p.answer.word refl p.judges in
    (z, h, p.told ∙ ap given e)
  where
    none : {n : ℕ} → n ≤ 0 → n ≡ 0
    none h = N.le_antisymm h zero-le

    go : (x : Answer) (w : Word) → x.word ≡ w → Case s w l x → (z : ℤ) × s.Shows 0 0 0 z × (x ≡ is_invalid 0 0 0 z)
    go x valid e c = absurd (passes-no-bad s f x.level c.level.passing 0 0 0 b)
    go x invalid e c =
        let d : x.level ≡ 0 = none (c.first.least 0 0 0 b) in
        let j : x.j ≡ 0 = none (c.first.first_row 0 0 (subst (λ (y : ℕ). s.Bad y 0 0) (sym d) b)) in
        let i : x.i ≡ 0 = none (c.first.first_column 0 (rw (d, j) b)) in
        (x.value, rw (d, i, j) at c.shown, answer-≡ x (is_invalid 0 0 0 x.value) e d i j refl c.no_cells)
    go x undecided e c = absurd (c.none_bad 0 0 0 zero-le b)

-- n and l are the kind and the limit of the first call, l' the limit of the second
module _ (m n l l' : ℕ) (xs : List ℤ) where
  abbrev kind : Kind
  kind = kind_of n

  abbrev over : List ℤ
  over = mirrored kind (turned_by m kind xs)

  valid-negative : (r : Judged) → VerdictOf n l xs r → r.word ≡ Valid → (y : Place kind) → jacobian kind over y <ℤ pos 0
  valid-negative =
      by_word (verdict_codes n l xs) (subject kind xs) l valid (λ r. (y : Place kind) → jacobian kind over y <ℤ pos 0)
      (λ a v. mirrored-negative kind (turned_by m kind xs) (positive-turned kind m xs (valid-positive kind xs l a v)))

  pub mirrored-verdict : (r r' : Judged) → VerdictOf n l xs r
      → r.word ≡ Valid
      → Accepted (verdict_codes n l' (mirrored (kind_of n) (turned_by m (kind_of n) xs)))
      → VerdictOf n l' (mirrored (kind_of n) (turned_by m (kind_of n) xs)) r'
      → Overturned r'
  mirrored-verdict r r' v e a v' =
      let h = valid-negative r v e in
      let (x, at) = grid-place kind 0 0 0 (corner-on kind) in
      let (z, s, t) = first-corner (verdict_codes n l' over) (subject kind over) (element-faithful kind over) l' r' v' a
      (record { place = x; at_point = at; not_positive = <-≤ (h x) }) in
      record { value = z; below = shown-negative kind over h 0 0 z s; told = t }

-- ---- under the floor
straight-less : (xs : List ℤ) → straight (mirrored six xs) ≡ pos 0 -ℤ straight xs
unfolding straight
straight-less xs =
    solve (numbers xs 0 12) (E.det exprs (E.less exprs (node_e 0 2) (node_e 0 0)) (E.less exprs (node_e 0 1) (node_e 0 0)))
    (con (pos 0) ⊖ E.det exprs (E.less exprs (node_e 0 1) (node_e 0 0)) (E.less exprs (node_e 0 2) (node_e 0 0))) tt

pub straight-mirrored : (xs : List ℤ) → straight (mirrored six xs) ≡ neg_ℤ (straight xs)
straight-mirrored xs = straight-less xs ∙ +ℤ_idl (neg_ℤ (straight xs))

straight-many : (m : ℕ) (xs : List ℤ) → straight (turned_by m six xs) ≡ straight xs
straight-many zero xs = refl
straight-many (suc m) xs = straight-turned (turned_by m six xs) ∙ straight-many m xs

pub mirrored-floor : (m l : ℕ) (xs : List ℤ) (p : ℕ) (r : Judged) → pos 0 <ℤ straight xs
    → ¬ (7 < l)
    → ¬ Outside six (mirrored six (turned_by m six xs))
    → ¬ NoPercent p
    → FloorOf 6 l (mirrored six (turned_by m six xs)) p r
    → r ≡ refusal 17
mirrored-floor m l xs p r h a c d v =
    let below : straight (mirrored six (turned_by m six xs)) <ℤ pos 0 =
    subst (λ z. z <ℤ pos 0) (sym (straight-mirrored (turned_by m six xs) ∙ ap neg_ℤ (straight-many m xs))) (negative (straight xs) h) in
    straight-last l (mirrored six (turned_by m six xs)) p r v a refl c
    (λ e. clash_ℤ below (≤-of-eq (sym (collapsed-straight (mirrored six (turned_by m six xs)) e)))) d (<-≤ below)
