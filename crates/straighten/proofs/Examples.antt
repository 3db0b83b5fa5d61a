-- Each of the eight sets is chosen for some triangle, and for some triangle none is.
--   bent-corners, bent-off, bent-straight : where the nodes of `bent s` stand
--   bent-chosen     : for it the set s is chosen, at limit 0
--   bent-called     : so the call replaces exactly the nodes of s
--   folded-nodes, clockwise-nodes : where the nodes of the other two stand
--   folded_two      : two sets of one node make `folded` valid
--   folded-called   : and the call replaces M01
--   clockwise-22    : no set makes `clockwise` valid
-- By a verdict that computes. Assumes nothing.
use mathlib.Core.Path.{◌≡◌, refl, ap, subst}
use mathlib.Core.Bool.{Bool, true, false, cond, not, ◌&&◌}
use mathlib.Core.List.{List, [], ◌∷◌}
use mathlib.Core.Logic.{inr}
use Prim.Native.Nat.{ℕ, zero, suc, ◌≤◌, ◌<◌, zero-le, suc-le-suc}
use native.Mathlib.Nat as N
use lib.Dec.{T, lit<}
use lib.IntN.{ℤ, pos, neg_ℤ}
use lib.ListN.{length, get_or}
use Rattle.algebra.proofs.Truth.{T_and}
use Rattle.forms.specs.Rows.{weigh}
use Rattle.forms.specs.Forms.{value}
use Rattle.forms.specs.Cuttings.{leaves, level, opens, greedy}
use Rattle.forms.specs.Shapes.{scaled}
use Rattle.element.specs.Kinds.{six}
use Rattle.element.specs.Plane.{Vec}
use Rattle.element.specs.Nodes.{A0, A1, A2}
use Rattle.element.specs.Control.{values6, control_values}
use Rattle.element.specs.Refusals.{no_more, code, Accepted, six_codes}
use Rattle.element.proofs.Refusals.{accepted-then}
use Rattle.element.proofs.Tried.{accepts, accepted-kind}
use Rattle.judge.specs.Verdict.{Word, valid, invalid, undecided, Subject, Case}
use Rattle.judge.specs.Elements.{subject}
use Rattle.judge.proofs.Faithful.{element-faithful}
use Rattle.judge.proofs.Unique.{valid-word}
use Rattle.judge.proofs.Search.{least}
use Rattle.judge.proofs.Computed.{low, in_row, row_low, row_of_first, cells_of, least-count, in_row_told, from, verdict, verdict-is}
use Rattle.middles.specs.declared.Replaced.{Replaced}
use Rattle.middles.specs.Middles.{Middle, M01, M12, M02, old_node, middle_of, has, replacing}
use Rattle.middles.specs.Sets.{set_of, none}
use Rattle.straighten.specs.declared.Straightened.{Straightened}
use Rattle.straighten.specs.Calls.{GivesValid, NoneValid, Chosen, given, refusal, StraightenOf}
use Rattle.straighten.specs.Trials.{trials, set_at, First}
use Rattle.straighten.specs.Examples.{bent, folded, clockwise}
use Rattle.straighten.proofs.Trials.{stands, trials-all, first-chosen, first-none}
use Rattle.straighten.proofs.Outcomes.{straighten-unique, none-22}

-- ---- by what computes
-- whether a word is valid
abbrev named : Word → Bool
named valid = true
named invalid = false
named undecided = false

module _ (l : ℕ) (xs : List ℤ) where
  abbrev of : Replaced → Subject
  of s = subject six (replacing xs s)

  abbrev gives : Replaced → Bool
  gives s = named (verdict (of s) l).word

  gives-yes : (s : Replaced) → T (gives s) → GivesValid l xs s
  gives-yes s t = go (verdict (of s) l).word t (verdict-is (of s) (element-faithful six (replacing xs s)) l)
    where
      go : (w : Word) → T (named w) → Case (of s) w l (verdict (of s) l) → GivesValid l xs s
      go valid t c = (verdict (of s) l, c)
      go invalid t c = absurd t
      go undecided t c = absurd t

  gives-no : (s : Replaced) → T (not (gives s)) → ¬ GivesValid l xs s
  gives-no s t v =
      let f = element-faithful six (replacing xs s) in
      subst (λ (w : Word). T (not (named w))) (valid-word (of s) f l (verdict (of s) l) v (verdict-is (of s) f l)) t

  -- the first t of these sets do not give valid, and the next one does
  abbrev passes : ℕ → List Replaced → Bool
  passes zero [] = true
  passes zero (s ∷ ss) = gives s
  passes (suc t) [] = false
  passes (suc t) (s ∷ ss) = not (gives s) && passes t ss

  within : (t : ℕ) (ss : List Replaced) → T (passes t ss) → t ≤ length ss
  within zero ss p = zero-le
  within (suc t) [] p = absurd p
  within (suc t) (s ∷ ss) p = suc-le-suc (within t ss (T_and (not (gives s)) (passes t ss) p).1)

  found : (t : ℕ) (ss : List Replaced) → T (passes t ss) → t < length ss → GivesValid l xs (get_or ss t none)
  found zero [] p h = absurd (N.not-suc-le-zero h)
  found zero (s ∷ ss) p h = gives-yes s p
  found (suc t) [] p h = absurd p
  found (suc t) (s ∷ ss) p h = found t ss (T_and (not (gives s)) (passes t ss) p).1 (N.le_of_suc-le-suc h)

  none_before : (t : ℕ) (ss : List Replaced) → T (passes t ss) → (k : ℕ) → k < t → ¬ GivesValid l xs (get_or ss k none)
  none_before zero ss p k h = absurd (N.not-suc-le-zero h)
  none_before (suc t) [] p k h = absurd p
  none_before (suc t) (s ∷ ss) p zero h = gives-no s (T_and (not (gives s)) (passes t ss) p).0
  none_before (suc t) (s ∷ ss) p (suc k) h = none_before t ss (T_and (not (gives s)) (passes t ss) p).1 k (N.le_of_suc-le-suc h)

  passes-first : (t : ℕ) → T (passes t trials) → First l xs t
  passes-first t p = record { within = within t trials p; found = found t trials p; none_before = none_before t trials p }

  chosen_at : (t : ℕ) → t < 8 → T (passes t trials) → Chosen l xs (set_at t)
  chosen_at t h p = first-chosen l xs t (passes-first t p) h

  -- what the call answers, where that set is chosen
  told-so : Accepted (six_codes 6 l xs) → (s : Replaced) → Chosen l xs s → (r : Straightened) → StraightenOf 6 l xs r → r ≡ given xs s
  told-so a s c r v =
      straighten-unique 6 l xs r (given xs s) v
      (inr
      (record {
        accepted = accepted-then (six_codes 6 l xs) (code 22 (NoneValid l xs) no_more) a ((λ f. f s c.valid), tt);
        set = s;
        chosen = c;
        told = refl;
      }))

  -- a triangle within the limits, as it stands
  taken : T (accepts six l xs) → Accepted (six_codes 6 l xs)
  taken t = ((λ f. f refl), (accepted-kind six l xs t).1)

-- ---- each set is chosen
abbrev at : ℤ → ℤ → Vec
at x y = record { x = x; y = y }

abbrev n : ℕ → ℤ
n k = neg_ℤ (pos k)

-- far off, or where the middle of the edge is
abbrev spot : Middle → Bool → Vec
spot M01 b = at (cond b (pos 9) (n 2)) (cond b (pos 9) (n 5))
spot M12 b = at (cond b (n 9) (n 2)) (cond b (n 9) (n 2))
spot M02 b = at (cond b (pos 9) (n 5)) (cond b (pos 9) (n 2))

pub bent-corners : (s : Replaced) → (A0 (bent s) ≡ at (n 5) (n 5)) × (A1 (bent s) ≡ at (pos 2) (n 5)) × (A2 (bent s) ≡ at (n 5) (pos 2))
bent-corners s = (refl, refl, refl)

pub bent-off : (s : Replaced) → (s.m01 ≡ true → old_node (bent s) M01 ≡ at (pos 9) (pos 9))
    × (s.m12 ≡ true → old_node (bent s) M12 ≡ at (n 9) (n 9))
    × (s.m02 ≡ true → old_node (bent s) M02 ≡ at (pos 9) (pos 9))
bent-off s = ((λ e. ap (spot M01) e), (λ e. ap (spot M12) e), λ e. ap (spot M02) e)

pub bent-straight : (s : Replaced) (m : Middle) → has s m ≡ false → old_node (bent s) m ≡ middle_of (bent s) m
bent-straight s M01 e = ap (spot M01) e
bent-straight s M12 e = ap (spot M12) e
bent-straight s M02 e = ap (spot M02) e

-- by what computes, set by set
bent-passes : (s : Replaced) → T (accepts six 0 (bent s) && passes 0 (bent s) (trials-all s).at trials)
unfolding stands trials-all replacing verdict from in_row_told least-count cells_of row_of_first row_low in_row low least scaled value weigh leaves level greedy opens control_values values6
bent-passes s = go s.m01 s.m12 s.m02
  where
    go : (a b c : Bool) → T (accepts six 0 (bent (set_of a b c)) && passes 0 (bent (set_of a b c)) (trials-all (set_of a b c)).at trials)
    go false false false = tt
    go true false false = tt
    go false true false = tt
    go false false true = tt
    go true true false = tt
    go true false true = tt
    go false true true = tt
    go true true true = tt

pub bent-chosen : (s : Replaced) → Chosen 0 (bent s) s
bent-chosen s =
    let p = (T_and (accepts six 0 (bent s)) (passes 0 (bent s) (trials-all s).at trials) (bent-passes s)).1 in
    subst (Chosen 0 (bent s)) (trials-all s).is (chosen_at 0 (bent s) (trials-all s).at (trials-all s).inside p)

pub bent-called : (s : Replaced) (r : Straightened) → StraightenOf 6 0 (bent s) r → r ≡ given (bent s) s
bent-called s =
    let t = (T_and (accepts six 0 (bent s)) (passes 0 (bent s) (trials-all s).at trials) (bent-passes s)).0 in
    told-so 0 (bent s) (taken 0 (bent s) t) s (bent-chosen s)

-- ---- the first of two
pub folded-nodes : (A0 folded ≡ at (n 8) (pos 0))
    × (A1 folded ≡ at (pos 8) (pos 0))
    × (A2 folded ≡ at (pos 0) (pos 16))
    × (old_node folded M01 ≡ at (pos 2) (pos 7))
    × (old_node folded M12 ≡ at (pos 5) (pos 8))
    × (old_node folded M02 ≡ at (n 8) (pos 8))
folded-nodes = (refl, refl, refl, refl, refl, refl)

pub folded_two : GivesValid 10 folded (set_of true false false) × GivesValid 10 folded (set_of false false true)
unfolding replacing verdict from in_row_told least-count cells_of row_of_first row_low in_row low least scaled value weigh leaves level greedy opens control_values values6
folded_two = (gives-yes 10 folded (set_of true false false) tt, gives-yes 10 folded (set_of false false true) tt)

pub folded-called : (r : Straightened) → StraightenOf 6 10 folded r → r ≡ given folded (set_of true false false)
unfolding replacing verdict from in_row_told least-count cells_of row_of_first row_low in_row low least scaled value weigh leaves level greedy opens control_values values6
folded-called = told-so 10 folded (taken 10 folded tt) (set_of true false false) (chosen_at 10 folded 1 (lit< tt) tt)

-- ---- none
pub clockwise-nodes : (A0 clockwise ≡ at (pos 0) (pos 0))
    × (A1 clockwise ≡ at (pos 0) (pos 8))
    × (A2 clockwise ≡ at (pos 8) (pos 0))
    × ((m : Middle) → old_node clockwise m ≡ middle_of clockwise m)
clockwise-nodes = (refl, refl, refl, straight)
  where
    straight : (m : Middle) → old_node clockwise m ≡ middle_of clockwise m
    straight M01 = refl
    straight M12 = refl
    straight M02 = refl

pub clockwise-22 : (r : Straightened) → StraightenOf 6 3 clockwise r → r ≡ refusal 22
unfolding replacing verdict from in_row_told least-count cells_of row_of_first row_low in_row low least scaled value weigh leaves level greedy opens control_values values6
clockwise-22 r v = none-22 6 3 clockwise r v (taken 3 clockwise tt) (first-none 3 clockwise 8 (passes-first 3 clockwise 8 tt) refl)
