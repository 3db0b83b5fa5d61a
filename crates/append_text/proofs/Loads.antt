-- The records of a good text, tried behind a good block.
--   not_taken, is-taken : what the call answers, by what the pass met
-- Assumes nothing.
use mathlib.Core.Path.{◌≡◌, refl, sym, ap, ap₂, ◌∙◌, subst}
use mathlib.Core.List.{List, [], ◌∷◌, ◌++◌, map-append}
use Prim.Native.Nat.{ℕ, ◌+◌, ◌*◌}
use native.Mathlib.Omega.{arith}
use lib.ListN.{length, take, length-map}
use Rattle.element.specs.Refusals.{Accepted}
use Rattle.faults.specs.Refusal.{number_of}
use Rattle.element.proofs.Refusals.{refused-some}
use Rattle.endian.specs.Numbers.{Bytes, bytes, over}
use Rattle.append.specs.Calls.{Appends}
use Rattle.append.specs.Series.{Given, Series, IdsFit, next_codes}
use Rattle.append.proofs.Splits.{series-split}
use Rattle.batch.specs.declared.Tally.{Tally}
use Rattle.batch.specs.Tallies.{opening, Moved}
use Rattle.batch.proofs.Runs.{batch-done}
use Rattle.mesh_text.specs.Rows.{lines}
use Rattle.record_text.specs.Faults.{spot}
use Rattle.record_text.specs.Says.{Line, Records, givens}
use Rattle.record_text.specs.Values.{said_in}
use Rattle.record_text.proofs.Readings.{said_of, records-fit}
use Rattle.append_text.specs.declared.RefusedLine.{RefusedLine}
use Rattle.append_text.specs.declared.Texted.{Texted}
use Rattle.append_text.specs.Calls.{text_codes, word_of, refusal, NotTaken, IsTaken}
use Rattle.append_text.specs.Passes.{Halts}
use Rattle.append_text.proofs.Opened.{form-good, whole-good, buffer-good}

front-fit : (gs hs : List Given) → IdsFit (gs ++ hs) → IdsFit gs
front-fit [] hs f = tt
front-fit (g ∷ gs) hs f = (f.0, front-fit gs hs f.1)

module _ (t b : List ℕ) (used : ℕ) (y : Bytes b) (a : Accepted (text_codes t b used)) where
  abbrev all : List Line
  all = said_in 1 (lines t)

  told : Records t all
  told = said_of t (form-good t b used a) (whole-good t b used a)

  pub not_taken : (p : RefusedLine) (r : Texted) (o c : List ℕ)
      → Halts all (opening b used) o p c
      → r ≡ refusal (spot (number_of p.refusal) p.line (word_of (number_of p.refusal)))
      → NotTaken t b used r b
  not_taken p r o c h e =
      let k : (number_of p.refusal) ≡ r.code = ap (λ m. m.code) (sym e) in
      let said = subst (Records t) h.whole told in
      let fit = front-fit (givens h.before) (givens (h.one ∷ h.after)) (subst IdsFit (map-append (λ g. g.given) h.before (h.one ∷ h.after)) (records-fit said)) in
      let q = series-split b used y (buffer-good t b used a) fit h.passes h.refused in
      record {
        accepted = a;
        before = h.before;
        one = h.one;
        after = h.after;
        said = said;
        left = q.0;
        up = q.1.0;
        ran = q.1.1.0;
        stopped = subst (λ n. Appends q.0 q.1.0 h.one.given.id h.one.given.kind h.one.given.limit h.one.given.coords (record { code = n; number = 0; used = 0 }) q.0) k q.1.1.1;
        some = λ z. refused-some (next_codes _ _ _ h.one.given) (number_of p.refusal) tt h.refused (k ∙ z);
        answer = e ∙ ap₂ (λ (n l : ℕ). refusal (spot n l (word_of n))) k h.named;
        untouched = refl;
      }

  pub is-taken : {s : Tally} {o c : List ℕ} (r : Texted) (d : List ℕ)
      → Moved (givens all) 0 (opening b used) o s c
      → d ≡ over (over b used (take (80 * s.taken) c)) 5 (bytes 4 s.count)
      → r ≡ record { code = 0; number = 0; line = 0; word = 0; used = used + 80 * s.taken; appended = s.taken }
      → IsTaken t b used r d
  is-taken {s} r d m w e =
      let n : s.taken ≡ length all = omega (arith, m.counted, length-map all (λ g. g.given)) in
      let f : r ≡ record { code = 0; number = 0; line = 0; word = 0; used = used + 80 * length all; appended = length all } =
      e ∙ ap (λ (i : ℕ). record { code = 0; number = 0; line = 0; word = 0; used = used + 80 * i; appended = i }) n in
      let q = batch-done b used (buffer-good t b used a) m y (records-fit told) w in
      record {
        accepted = a;
        lines = all;
        said = told;
        answer = f;
        done = rw (ap (λ u. u.used) f) (subst (λ k. Series b used (givens all) (record { code = 0; number = 0; used = used + 80 * k }) d) (length-map all (λ g. g.given)) q);
      }
