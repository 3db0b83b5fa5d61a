-- The verdict of an eight-node quad where its edge sum and its corner sum are equal: it is what it was with the mean of the edge nodes for
-- a centre.
--   mean_subject xs == the element by that rule, which relation 31 has replaced
--   mean-subject   : there the two elements are one and the same subject
--   mean-verdict   : so an answer fits the one exactly when it fits the other
-- Assumes nothing.
use mathlib.Core.Path.{◌≡◌, sym, subst}
use mathlib.Core.List.{List}
use Prim.Native.Nat.{ℕ}
use lib.IntN.{ℤ}
use Rattle.forms.specs.Quads.{sixteen}
use Rattle.element.specs.Kinds.{eight}
use Rattle.element.specs.Nodes.{A8}
use Rattle.element.specs.Centre.{corner_sum, edge_sum}
use Rattle.element.specs.Jacobian.{JQ}
use Rattle.element.specs.Control.{value}
use Rattle.element.proofs.Mean.{mean_nodes, mean_points, mean-J, mean-values}
use Rattle.judge.specs.Verdict.{Subject, Answer, Judges}
use Rattle.judge.specs.Elements.{subject_by, subject}

abbrev pub mean_subject : List ℤ → Subject
mean_subject xs = subject_by eight (λ x. JQ (mean_nodes xs) x.p x.m x.q x.n) (sixteen (value (mean_points xs)))

module _ (xs : List ℤ) (e : edge_sum (A8 xs) ≡ corner_sum (A8 xs)) where
  pub mean-subject : subject eight xs ≡ mean_subject xs
  mean-subject = λ i. subject_by eight (λ x. mean-J xs e x i) (mean-values xs e i)

  pub mean-verdict : (L : ℕ) (a : Answer)
      → (Judges (subject eight xs) L a → Judges (mean_subject xs) L a)
      × (Judges (mean_subject xs) L a → Judges (subject eight xs) L a)
  mean-verdict L a = (subst (λ s. Judges s L a) mean-subject, subst (λ s. Judges s L a) (sym mean-subject))
