-- `mesh_form::items::Items::next` meets its contract: rows of another kind are passed over.
use mathlib.Core.Path.{◌≡◌, ap, ◌∙◌, subst}
use Prim.Native.Nat.{ℕ, ◌-◌, ◌<◌}
use mathlib.Core.List.{List}
use lib.ListN.{length}
use native.Mathlib.Omega.{arith}
use Rattle.mesh_form.specs.declared.Kind.{Kind}
use Rattle.mesh_form.specs.declared.Kind.TheVariants.{Node, Element}
use Rattle.mesh_form.specs.declared.Cursor.{Cursor}
use Rattle.mesh_form.specs.Walk.{Found, Reads, kind_number, row_number}
use Rattle.mesh_form.proofs.Reading.{reads_on-is, reads_two}
use Rattle.mesh_form.proofs.Passes.{kind-some}
use Rattle.mesh_form.proofs.items.ItemsIterator.next.Goals as goal

few : (k : Kind) → kind_number k ≡ 3 → ⊥
few Node e = absurd (omega arith)
few Element e = absurd (omega arith)

-- behind a row fewer bytes are left
fewer : (a b : List ℕ) (c : Cursor) (f : Found) → b ≡ a → (f.kind ≡ 0 → ⊥) → Reads 2 a c f → length b - f.next.at < length a - c.at
fewer a b c f e n r = omega (arith, ap length e, r.onwards n, r.inside)

pub returns-in-Some-kind-clause-steps : goal.returns-in-Some-kind-clause-steps
returns-in-Some-kind-clause-steps c =
    let s = c.in-Some in
    let k = c.in-Some-kind in
    let l = c.loop-row in
    record {
      same = s.ensures.same ∙ l.invariant.0;
      reads = l.invariant.1 2 _ (reads_two _ _ _ (few k.kind)
          (subst (λ n. Reads 3 l.self.t.now l.self.c (record { kind = n; at = s.row.at; next = c.row.new.self.c })) (ap row_number k.is) s.ensures.reads));
    }

pub returns-in-Some-kind-clause-goes : goal.returns-in-Some-kind-clause-goes
returns-in-Some-kind-clause-goes c =
    let g = returns-in-Some-kind-clause-steps c in
    record {
      on = λ f. (tt, tt, fewer c.args.self.now.t.now c.row.new.self.t.now c.args.self.now.c _ (ap (λ b. b.now) g.same) (kind-some c.in-Some-kind.kind) g.reads);
      keeps = tt;
      rests = λ f. tt;
    }

pub loop-row-preserved : goal.loop-row-preserved
loop-row-preserved c =
    let s = c.in-Some in
    let l = c.loop-row in (
      s.ensures.same ∙ l.invariant.0,
      λ m f r. l.invariant.1 m f (reads_on-is _ _ _ f m (ap row_number c.in_default-kind.is) s.ensures.reads
          (subst (λ t. Reads m t c.row.new.self.c f) (ap (λ b. b.now) s.ensures.same) r)),
    )

pub returns-clause-steps : goal.returns-clause-steps
returns-clause-steps c =
    let s = c.in_default in
    let l = c.loop-row in
    record {
      same = s.ensures.same ∙ l.invariant.0;
      reads = l.invariant.1 2 _ (reads_two _ _ _ (λ e. absurd (omega arith)) s.ensures.reads);
    }
