-- The elements of a good text, tried behind a good block.
--   not_taken, is-taken : what the call answers, by what the pass met
-- Assumes nothing.
use mathlib.Core.Path.{◌≡◌, refl, ap, ap₂, ◌∙◌}
use mathlib.Core.List.{List}
use Prim.Native.Nat.{ℕ, ◌+◌, ◌*◌}
use native.Mathlib.Omega.{arith}
use lib.ListN.{length, take}
use Rattle.element.specs.Refusals.{Accepted}
use Rattle.endian.specs.Numbers.{Bytes, bytes, over}
use Rattle.append.specs.Series.{IdsFit}
use Rattle.append.proofs.Series.{stops-some}
use Rattle.batch.specs.declared.Tally.{Tally}
use Rattle.batch.specs.Tallies.{opening, Moved, Halted}
use Rattle.batch.proofs.Runs.{batch-done, batch-stopped}
use Rattle.mesh_elements.proofs.Rows.{numbers-small}
use Rattle.mesh_elements.proofs.Takings.{takings-fit}
use Rattle.mesh.specs.declared.Meshed.{Meshed}
use Rattle.mesh.specs.Taken.{taken_in, passed_in}
use Rattle.mesh.specs.Calls.{mesh_codes, Said, refusal, NotTaken, IsTaken}
use Rattle.mesh.proofs.Readings.{said_of}
use Rattle.mesh.proofs.Opened.{text-accepted, buffer-accepted}

module _ (t : List ℕ) (level : ℕ) (b : List ℕ) (used : ℕ) (y : Bytes b) (a : Accepted (mesh_codes t b used)) where
  told : Said t level (taken_in level t) (passed_in t)
  told = said_of t (text-accepted t b used a) level

  fit : IdsFit (taken_in level t)
  fit = takings-fit told.takings (numbers-small told.mesh.form)

  pub not_taken : (d : ℕ) (o c : List ℕ)
      → Halted (taken_in level t) (opening b used) o d c
      → NotTaken t level b used (refusal d 0) b
  not_taken d o c h =
      let q = batch-stopped b used (buffer-accepted t b used a) y fit h in
      record {
        accepted = a;
        given = taken_in level t;
        passed = passed_in t;
        said = told;
        left = q.0;
        stopped = q.1;
        some = λ z. stops-some h.stops z;
        zeros = refl;
        untouched = refl;
      }

  pub is-taken : {s : Tally} {o c : List ℕ} (r : Meshed) (d : List ℕ)
      → Moved (taken_in level t) (passed_in t) (opening b used) o s c
      → d ≡ over (over b used (take (80 * s.taken) c)) 5 (bytes 4 s.count)
      → r ≡ record { code = 0; number = 0; used = used + 80 * s.taken; appended = s.taken; passed = s.passed }
      → IsTaken t level b used r d
  is-taken {s} r d m w e =
      let n : s.taken ≡ length (taken_in level t) = omega (arith, m.counted) in
      let p : s.passed ≡ passed_in t = omega (arith, m.left_out) in
      let f : r ≡ record { code = 0; number = 0; used = used + 80 * length (taken_in level t); appended = length (taken_in level t); passed = passed_in t } =
      e ∙ ap₂ (λ (i j : ℕ). record { code = 0; number = 0; used = used + 80 * i; appended = i; passed = j }) n p in
      record {
        accepted = a;
        given = taken_in level t;
        passed = passed_in t;
        said = told;
        answer = f;
        done = rw (ap (λ u. u.used) f) (batch-done b used (buffer-accepted t b used a) m y fit w);
      }
