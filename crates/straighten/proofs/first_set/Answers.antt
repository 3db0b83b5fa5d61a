-- `straighten::first_set` meets its contract: the loop keeps that no set before t gives valid. Assumes nothing.
use mathlib.Core.Path.{subst}
use native.Mathlib.Omega.{arith}
use borrow.Author.Count.{below_more}
use Rattle.middles.specs.declared.Replaced.{Replaced}
use Rattle.straighten.specs.Calls.{GivesValid}
use Rattle.straighten.proofs.first_set.Goals as goal

pub loop-t-preserved : goal.loop-t-preserved
loop-t-preserved c =
    let a = c.args in
    below_more _ _ c.loop-t.invariant
    (subst (λ (r : Replaced). ¬ GivesValid a.limit a.coords.now r) c.set_at-s.ensures (c.gives_valid.ensures.no c.if-gives_valid.false))

pub returns-then-gives_valid : goal.returns-then-gives_valid
returns-then-gives_valid c =
    let a = c.args in
    record {
      place = c.loop-t.t;
      first = record {
        within = omega arith;
        found = λ h. subst (λ (r : Replaced). GivesValid a.limit a.coords.now r) c.set_at-s.ensures (c.gives_valid.ensures.yes c.if-gives_valid.true);
        none_before = c.loop-t.invariant;
      };
      below = omega arith;
      set = c.set_at-s.ensures;
    }

pub returns : goal.returns
returns c =
    record {
      within = omega arith;
      found = λ h. absurd (omega arith);
      none_before = λ k h. c.loop-t.invariant k (omega arith);
    }
