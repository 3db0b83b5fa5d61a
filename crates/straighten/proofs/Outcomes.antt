-- What the contract of `straighten` comes to: one outcome, and the sentences of the request as laws of the call (02, Ask 12).
--   chosen-only     : one set is chosen
--   chosen-moves    : each node of which is away from the middle of its edge
--   valid-chosen    : and it is none where the triangle is valid as it is
--   straighten-unique : the answer is determined by the arguments, in every field
--   straightened-is, straightened-accepts : an answer with the code 0, and one to a call without fault, is a success
--   straightened-valid : what comes back is valid at the limit, which the call `verdict` says too
--   straightened-positive : so J > 0, from the new nodes, at every rational point of the closed triangle
--   fewest          : no set with fewer nodes gives valid
--   first-differing : and of the sets with as many that do, in none is the first differing node replaced
--   corners-kept, told-old, told-new : corners stay, the old places are the triangle's, the new ones are those of the coordinates
--   kept-middle, replaced-middle : a kept node stays, and a replaced one stands at the middle of its edge
--   replaced-moves  : where it did not stand before
--   straightened-accepted : the new triangle is accepted, under its limit
--   valid-none      : a valid triangle comes back with none replaced
--   again-none      : and so does what comes back, so that nothing changes
--   none-22, refused-22 : 22 exactly when no set gives valid
--   own-refused, verdict-refused : before that the codes of the triangle: of kind 6 the verdict's own
--   other-kind      : and 1 for every other kind, kind 10 too
-- Over the contract alone. Assumes nothing.
use mathlib.Core.Path.{◌≡◌, refl, sym, ◌∙◌, ap, subst}
use mathlib.Core.Bool.{true, false, cond}
use mathlib.Core.List.{List}
use mathlib.Core.Logic.{inl, inr}
use Prim.Native.Nat.{ℕ, ◌<◌}
use native.Mathlib.Omega.{arith}
use lib.IntN.{ℤ, pos}
use lib.ListN.{length}
use lib.Signed.{◌<ℤ◌}
use Rattle.element.specs.Kinds.{six}
use Rattle.element.specs.Nodes.{node}
use Rattle.element.specs.Places.{Place}
use Rattle.element.specs.Jacobian.{jacobian}
use Rattle.element.specs.Refusals.{Codes, no_more, code, Refused, Accepted, level_codes, verdict_codes, six_codes}
use Rattle.element.proofs.Refusals.{refused-accepted, refused-some, refused-lacks, refused-then, past-then, then-past, then-accepted, accepted-then, one-outcome}
use Rattle.judge.specs.Verdict.{ValidUnder}
use Rattle.judge.specs.Elements.{subject}
use Rattle.judge.proofs.Faithful.{element-faithful}
use Rattle.judge.proofs.Unique.{valid-word}
use Rattle.judge.proofs.Demands as D
use Rattle.verdict.specs.declared.Judged.{Judged}
use Rattle.verdict.specs.declared.Word.TheVariants.{Valid}
use Rattle.verdict.specs.Calls.{tell, VerdictOf}
use Rattle.verdict.proofs.Judging.{accepted-answered}
use Rattle.middles.specs.declared.Replaced.{Replaced}
use Rattle.middles.specs.Middles.{Middle, M01, M12, M02, old_node, middle_of, has, replacing, spot, as_node}
use Rattle.middles.specs.Sets.{none, size, FirstReplaced}
use Rattle.middles.proofs.Orders.{least-only, none_first}
use Rattle.middles.proofs.Triangles as M
use Rattle.middles.proofs.Idle.{without, without_fewer, without-same}
use Rattle.straighten.specs.declared.Moved.{Moved}
use Rattle.straighten.specs.declared.Straightened.{Straightened}
use Rattle.straighten.specs.Calls.{GivesValid, NoneValid, Chosen, straighten_codes, moved, given, refusal, IsStraightened, StraightenOf, telling_of, set_in}
use Rattle.straighten.proofs.Answers.{six-accepted, accepted-six, twelve-numbers}

pub chosen-only : (l : ℕ) (xs : List ℤ) (s t : Replaced) → Chosen l xs s → Chosen l xs t → s ≡ t
chosen-only l xs s t p q = least-only (GivesValid l xs) s t p.valid q.valid p.first q.first

pub chosen-moves : (l : ℕ) (xs : List ℤ) (s : Replaced) → Chosen l xs s → (m : Middle) → has s m ≡ true → ¬ (middle_of xs m ≡ old_node xs m)
chosen-moves l xs s c m e f =
    c.first (without s m) (subst (λ (z : List ℤ). ValidUnder (subject six z) l) (sym (without-same xs s m e f)) c.valid) (inl (without_fewer s m e))

pub valid-chosen : (l : ℕ) (xs : List ℤ) → length xs ≡ 12 → ValidUnder (subject six xs) l → Chosen l xs none
valid-chosen l xs e v =
    record { valid = subst (λ (z : List ℤ). ValidUnder (subject six z) l) (sym (M.replaced-none xs e)) v; first = λ t w. none_first t }

module _ (n l : ℕ) (xs : List ℤ) where
  abbrev last : Codes ℕ
  last = code 22 (NoneValid l xs) no_more

  pub straighten-unique : (r s : Straightened) → StraightenOf n l xs r → StraightenOf n l xs s → r ≡ s
  straighten-unique =
      one-outcome (straighten_codes n l xs) refusal (λ r p. (r.code, p.refused, p.zeros)) (λ r p. p.accepted)
      (λ r s p q. p.told ∙ ap (given xs) (chosen-only l xs p.set q.set p.chosen q.chosen) ∙ sym q.told)

  pub straightened-is : (r : Straightened) → StraightenOf n l xs r → r.code ≡ 0 → IsStraightened n l xs r
  straightened-is r (inl p) e = absurd (refused-some (straighten_codes n l xs) r.code tt p.refused e)
  straightened-is r (inr p) e = p

  pub straightened-accepts : (r : Straightened) → StraightenOf n l xs r → Accepted (straighten_codes n l xs) → IsStraightened n l xs r
  straightened-accepts r (inl p) a = absurd (refused-accepted (straighten_codes n l xs) r.code p.refused a)
  straightened-accepts r (inr p) a = p

  -- ---- a success
  module _ (r : Straightened) (p : IsStraightened n l xs r) where
    set_is : set_in r ≡ p.set
    set_is = ap set_in p.told

    coords-are : r.coords ≡ replacing xs p.set
    coords-are = ap (λ (q : Straightened). q.coords) p.told

    was-accepted : Accepted (level_codes 6 l xs)
    was-accepted = (six-accepted n l xs (then-accepted (six_codes n l xs) last p.accepted).0).1

    -- "so the new element is accepted"
    pub straightened-accepted : Accepted (six_codes 6 l r.coords)
    straightened-accepted =
        ((λ f. f refl), subst (λ (c : List ℤ). Accepted (level_codes 6 l c)) (sym coords-are) (M.replaced-accepted xs p.set l was-accepted))

    pub straightened-valid : ValidUnder (subject six r.coords) l
        × ((v : Judged) → VerdictOf 6 l r.coords v → v.word ≡ Valid)
    straightened-valid = (is, says)
      where
        is : ValidUnder (subject six r.coords) l
        is = subst (λ (c : List ℤ). ValidUnder (subject six c) l) (sym coords-are) p.chosen.valid

        says : (v : Judged) → VerdictOf 6 l r.coords v → v.word ≡ Valid
        says v q =
            let s = subject six r.coords in
            let h = accepted-answered (verdict_codes 6 l r.coords) s l v q (accepted-six l r.coords straightened-accepted.1) in
            ap (λ (v : Judged). v.word) h.told ∙ ap tell (valid-word s (element-faithful six r.coords) l h.answer is h.judges)

    pub straightened-positive : (x : Place six) → pos 0 <ℤ jacobian six r.coords x
    straightened-positive = let (a, v) = straightened-valid.0 in D.valid-positive six r.coords l a v

    -- "the fewest replacements that make the element valid"
    pub fewest : (s : Replaced) → size s < size (set_in r) → ¬ GivesValid l xs s
    fewest s h v = p.chosen.first s v (inl (subst (λ (t : Replaced). size s < size t) set_is h))

    -- "of equal numbers the set whose first differing node .. is replaced"
    pub first-differing : (s : Replaced) → size s ≡ size (set_in r) → GivesValid l xs s → ¬ FirstReplaced s (set_in r)
    first-differing s e v f = p.chosen.first s v (inr (e ∙ ap size set_is, subst (FirstReplaced s) set_is f))

    -- ---- the nodes
    pub corners-kept : (k : ℕ) → k < 3 → node r.coords k ≡ node xs k
    corners-kept k h = ap (λ (c : List ℤ). node c k) coords-are ∙ M.replaced-corner xs p.set k h

    telling-is : (m : Middle) → telling_of r m ≡ moved xs p.set m
    telling-is M01 = ap (λ (q : Straightened). q.m01) p.told
    telling-is M12 = ap (λ (q : Straightened). q.m12) p.told
    telling-is M02 = ap (λ (q : Straightened). q.m02) p.told

    pub told-old : (m : Middle) → (telling_of r m).old ≡ as_node (old_node xs m)
    told-old m = ap (λ (w : Moved). w.old) (telling-is m)

    -- the new place is that of the node in the new coordinates
    pub told-new : (m : Middle) → (telling_of r m).new ≡ as_node (node r.coords (spot m))
    told-new m =
        ap (λ (w : Moved). w.new) (telling-is m)
        ∙ ap as_node (sym (M.replaced-middle xs p.set m) ∙ ap (λ (c : List ℤ). node c (spot m)) (sym coords-are))

    told-by : (m : Middle) → (telling_of r m).replaced ≡ has p.set m
    told-by m = ap (λ (w : Moved). w.replaced) (telling-is m)

    pub kept-middle : (m : Middle) → (telling_of r m).replaced ≡ false → node r.coords (spot m) ≡ old_node xs m
    kept-middle m e =
        ap (λ (c : List ℤ). node c (spot m)) coords-are ∙ M.replaced-middle xs p.set m
        ∙ ap (λ b. cond b (middle_of xs m) (old_node xs m)) (sym (told-by m) ∙ e)

    pub replaced-middle : (m : Middle) → (telling_of r m).replaced ≡ true → node r.coords (spot m) ≡ middle_of xs m
    replaced-middle m e =
        ap (λ (c : List ℤ). node c (spot m)) coords-are ∙ M.replaced-middle xs p.set m
        ∙ ap (λ b. cond b (middle_of xs m) (old_node xs m)) (sym (told-by m) ∙ e)

    -- with little change: no node is called replaced that stays
    pub replaced-moves : (m : Middle) → (telling_of r m).replaced ≡ true → ¬ (node r.coords (spot m) ≡ old_node xs m)
    replaced-moves m e f = chosen-moves l xs p.set p.chosen m (sym (told-by m) ∙ e) (sym (replaced-middle m e) ∙ f)

  -- ---- the codes
  module _ (r : Straightened) (v : StraightenOf n l xs r) where
    refused-with : (c : ℕ) → Refused (straighten_codes n l xs) c → r ≡ refusal c
    refused-with c q = straighten-unique r (refusal c) v (inl (record { refused = q; zeros = refl }))

    -- "the verdict's own, with 1 for other kinds", whatever the sets
    pub own-refused : (c : ℕ) → Refused (six_codes n l xs) c → r ≡ refusal c
    own-refused c q = refused-with c (refused-then (six_codes n l xs) last c q)

    pub other-kind : ¬ (n ≡ 6) → r ≡ refusal 1
    other-kind f = own-refused 1 (inl (f, refl))

    pub none-22 : Accepted (six_codes n l xs) → NoneValid l xs → r ≡ refusal 22
    none-22 a f = refused-with 22 (past-then (six_codes n l xs) last 22 a (inl (f, refl)))

    -- "A valid element .. comes back with none"
    pub valid-none : Accepted (six_codes n l xs) → ValidUnder (subject six xs) l → r ≡ given xs none
    valid-none a w =
        let c = valid-chosen l xs (twelve-numbers l xs (six-accepted n l xs a).1) w in
        straighten-unique r (given xs none) v
        (inr
        (record {
          accepted = accepted-then (six_codes n l xs) last a ((λ f. f none c.valid), tt);
          set = none;
          chosen = c;
          told = refl;
        }))

-- 22 is given for nothing else
pub refused-22 : (n l : ℕ) (xs : List ℤ) (r : Straightened) → StraightenOf n l xs r → r.code ≡ 22 → Accepted (six_codes n l xs) × NoneValid l xs
refused-22 n l xs r (inr p) e = absurd (let z : ◌≡◌ {A = ℕ} 0 22 = sym (ap (λ (q : Straightened). q.code) p.told) ∙ e in omega arith)
refused-22 n l xs r (inl p) e = go (then-past (six_codes n l xs) (last n l xs) 22 (refused-lacks (six_codes n l xs) 22 tt) (rw e at p.refused))
  where
    go : Accepted (six_codes n l xs) × Refused (last n l xs) 22 → Accepted (six_codes n l xs) × NoneValid l xs
    go (a, inl (f, q)) = (a, f)
    go (a, inr (f, q)) = absurd q

-- of kind 6 the codes before 22 are those of the call `verdict`
pub verdict-refused : (l : ℕ) (xs : List ℤ) (r : Straightened) → StraightenOf 6 l xs r → (c : ℕ) → Refused (verdict_codes 6 l xs) c → r ≡ refusal c
verdict-refused l xs r v c (inl (f, e)) = absurd (f.0.0 refl)
verdict-refused l xs r v c (inr (f, q)) = own-refused 6 l xs r v c (inr ((λ g. g refl), q))

-- ---- straightening again changes nothing
module _ (l : ℕ) (xs : List ℤ) (r q : Straightened) (p : IsStraightened 6 l xs r) (v : StraightenOf 6 l r.coords q) where
  again-given : q ≡ given r.coords none
  again-given = valid-none 6 l r.coords q v (straightened-accepted 6 l xs r p) (straightened-valid 6 l xs r p).0

  pub again-none : (q.coords ≡ r.coords) × (set_in q ≡ none)
  again-none =
      let long = twelve-numbers l r.coords (straightened-accepted 6 l xs r p).1 in
      (ap (λ (t : Straightened). t.coords) again-given ∙ M.replaced-none r.coords long, ap set_in again-given)
