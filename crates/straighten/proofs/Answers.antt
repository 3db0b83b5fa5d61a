-- The steps of `straighten`.
--   six-accepted    : what an accepted call tells: the kind is 6, and the triangle is accepted
--   twelve-numbers  : its list has twelve numbers
--   told-yes, told-no : what the verdict on the triangle with a set of nodes replaced tells of the set
--   refuses, refuses-22, succeeds : the ways out
-- Assumes nothing.
use mathlib.Core.Path.{◌≡◌, refl, sym, subst}
use mathlib.Core.Bool.{true, false}
use mathlib.Core.List.{List}
use mathlib.Core.Logic.{inl, inr}
use Prim.Native.Nat.{ℕ, ◌<◌}
use lib.IntN.{ℤ}
use lib.ListN.{length}
use Rattle.algebra.proofs.Truth.{not-not}
use Rattle.element.specs.Kinds.{six}
use Rattle.element.specs.Refusals.{Codes, no_more, code, Accepted, Coded, level_codes, verdict_codes, six_codes}
use Rattle.element.proofs.Refusals.{coded-some, refused-then, past-then, accepted-then}
use Rattle.judge.specs.Elements.{subject}
use Rattle.judge.proofs.Faithful.{element-faithful}
use Rattle.verdict.specs.declared.Judged.{Judged}
use Rattle.verdict.specs.Calls.{says_valid, VerdictOf}
use Rattle.verdict.proofs.Judging.{valid-under, not-valid-under}
use Rattle.middles.specs.declared.Replaced.{Replaced}
use Rattle.middles.specs.Middles.{replacing}
use Rattle.middles.proofs.Triangles.{replaced-accepted}
use Rattle.straighten.specs.declared.Straightened.{Straightened}
use Rattle.straighten.specs.Calls.{GivesValid, NoneValid, given, refusal, StraightenOf}
use Rattle.straighten.specs.Trials.{set_at, First}
use Rattle.straighten.proofs.Trials.{first-chosen, first-none}

-- ---- what acceptance tells
pub six-accepted : (n l : ℕ) (xs : List ℤ) → Accepted (six_codes n l xs) → (n ≡ 6) × Accepted (level_codes 6 l xs)
six-accepted n l xs (f, a) = let e = not-not n 6 f in (e, subst (λ (m : ℕ). Accepted (level_codes m l xs)) e a)

pub accepted-six : (l : ℕ) (xs : List ℤ) → Accepted (level_codes 6 l xs) → Accepted (verdict_codes 6 l xs)
accepted-six l xs a = ((λ f. f.0.0 refl), a)

pub twelve-numbers : (l : ℕ) (xs : List ℤ) → Accepted (level_codes 6 l xs) → length xs ≡ 12
twelve-numbers l xs a = not-not (length xs) 12 a.1.0

-- ---- one set; ys are the coordinates that were judged
module _ (l : ℕ) (xs ys : List ℤ) (s : Replaced) (v : Judged) (e : ys ≡ replacing xs s) (p : VerdictOf 6 l ys v) where
  told : VerdictOf 6 l (replacing xs s) v
  told = subst (λ (z : List ℤ). VerdictOf 6 l z v) e p

  pub told-yes : says_valid v.word ≡ true → GivesValid l xs s
  told-yes t = valid-under (verdict_codes 6 l (replacing xs s)) (subject six (replacing xs s)) l v told t

  pub told-no : Accepted (level_codes 6 l xs) → says_valid v.word ≡ false → ¬ GivesValid l xs s
  told-no a t =
      not-valid-under (verdict_codes 6 l (replacing xs s)) (subject six (replacing xs s)) (element-faithful six (replacing xs s)) l v told
      (accepted-six l (replacing xs s) (replaced-accepted xs s l a)) t

-- ---- the ways out
module _ (n l : ℕ) (xs : List ℤ) where
  abbrev last : Codes ℕ
  last = code 22 (NoneValid l xs) no_more

  pub refuses : {c : ℕ} {r : Straightened} → Coded (six_codes n l xs) c → ¬ (c ≡ 0) → r ≡ refusal c → StraightenOf n l xs r
  refuses {c} p h e =
      subst (StraightenOf n l xs) (sym e) (inl (record { refused = refused-then (six_codes n l xs) last c (coded-some p h); zeros = refl }))

  module _ (a : Accepted (six_codes n l xs)) (t : ℕ) (f : First l xs t) where
    pub refuses-22 : {r : Straightened} → t ≡ 8 → r ≡ refusal 22 → StraightenOf n l xs r
    refuses-22 e q =
        subst (StraightenOf n l xs) (sym q)
        (inl (record { refused = past-then (six_codes n l xs) last 22 a (inl (first-none l xs t f e, refl)); zeros = refl }))

    pub succeeds : {r : Straightened} → t < 8 → r ≡ given xs (set_at t) → StraightenOf n l xs r
    succeeds h q =
        let c = first-chosen l xs t f h in
        inr
        (record {
          accepted = accepted-then (six_codes n l xs) last a ((λ none. none (set_at t) c.valid), tt);
          set = set_at t;
          chosen = c;
          told = q;
        })
