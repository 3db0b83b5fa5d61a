-- A pass over the lines of a text, line by line.
--   line-silent, line_taken : what a line does, by whether it counts
--   givens-by      : what a line gives
--   form-line, form-next, form-cut, ends-inside : the first line of a text whose form has no fault, and the lines behind it
--   Fresh z b      == nothing is taken yet, and there is room for what a block can hold
--   Keeps t z b s a at n == what the pass has kept up to the n-th line, which stands at a place: the tally z and the bytes b have become s and a
--   keeps-start, keeps-next, keeps-halted, keeps-end : the first line, the next, one whose record is refused, and the end
-- Assumes nothing.
use mathlib.Core.Path.{◌≡◌, refl, sym, ap, ◌∙◌, subst}
use mathlib.Core.Bool.{false, cond}
use mathlib.Core.List.{List, [], ◌∷◌, ◌++◌, append-nil, append_assoc, map-append}
use Prim.Native.Nat.{ℕ, suc, ◌+◌, ◌*◌, ◌≤◌, ◌<◌}
use native.Mathlib.Omega.{arith}
use borrow.Author.Tests.{ltb-true, ltb-false}
use lib.Dec.{ltb}
use lib.ListN.{length, drop, length-append, length-drop, drop_of_length-le}
use Rattle.std.specs.Prelude.{Result}
use Rattle.faults.specs.declared.refusal.Refusal.{Refusal}
use Rattle.faults.specs.Refusal.{number_of as refusal_number}
use Rattle.element.proofs.Refusals.{then-accepted}
use Rattle.element.specs.Refusals.{Accepted}
use Rattle.append.specs.Series.{Stops}
use Rattle.append.proofs.Fronts.{passes_append, passes-few}
use Rattle.batch.specs.declared.Tally.{Tally}
use Rattle.batch.specs.Tallies.{Moved, Halted, Moves}
use Rattle.batch.proofs.Tallies.{moved_none, moved_more, moved_length}
use Rattle.batch.proofs.Same.{one-stops, same-moves}
use Rattle.mesh_text.specs.Rows.{first, rest, is_end, lines, line}
use Rattle.mesh_text.specs.Tests.{number_of}
use Rattle.mesh_text.proofs.Rows.{by-test, parts-two}
use Rattle.record_text.specs.Faults.{Silent, empty, form_words, cut_line, each_line, form_codes}
use Rattle.record_text.specs.Says.{Line, givens}
use Rattle.record_text.specs.Finds.{LineEnd}
use Rattle.record_text.specs.Values.{silent_b, given_of, said_by, said_in}
use Rattle.record_text.proofs.Tests.{wrong-front}
use Rattle.record_text.proofs.Readings.{silent-true, silent-of}
use Rattle.append_text.specs.declared.RefusedLine.{RefusedLine}
use Rattle.append_text.specs.Passes.{handed, givens_by, Halts}
use Rattle.append_text.proofs.Handed.{handed-codes, handed-given}

-- ---- one line
not-silent : (ws : List (List ℕ)) → ¬ Silent ws → silent_b ws ≡ false
not-silent ws n = by-test (silent_b ws) (silent_b ws ≡ false) (λ e. absurd (n (silent-true ws e))) (λ e. e)

pub line-silent : (ws : List (List ℕ)) (s : Tally) (b : List ℕ) → Silent ws → Moved (givens_by ws) 0 s b s b
line-silent ws s b h = rw (silent-of h) (moved_none s b)

pub line_taken : (ws : List (List ℕ)) (s : Tally) (r : Result Tally Refusal) (b a : List ℕ) → ¬ Silent ws → Moves (handed ws ∷ []) 0 s b r a → Moves (givens_by ws) 0 s b r a
line_taken ws s r b a h m =
    rw (not-silent ws h)
    (same-moves 0 s b a r (handed-codes s.low s.count s.room ws) refl (handed-given s.low s.count s.room ws) m)

pub givens-by : (n : ℕ) (ws : List (List ℕ)) → givens (said_by n ws) ≡ givens_by ws
givens-by n ws =
    by-test (silent_b ws) (givens (said_by n ws) ≡ givens_by ws) (λ e. rw e refl) (λ e. rw e refl)

no-stops : {l n m d : ℕ} → Stops l n m [] d → ⊥
no-stops = elim [ ]

halted-counts : (ws : List (List ℕ)) {s : Tally} {d : ℕ} {a c : List ℕ} → Halted (givens_by ws) s a d c → ¬ Silent ws
halted-counts ws {s} {d} h e =
    no-stops (subst (λ gs. Stops s.low s.count s.room gs d) (ap (λ c. cond c [] (given_of ws ∷ [])) (silent-of e)) h.stops)

-- a line that counts
given-one : (ws : List (List ℕ)) → ¬ Silent ws → givens_by ws ≡ given_of ws ∷ []
given-one ws h = ap (λ c. cond c [] (given_of ws ∷ [])) (not-silent ws h)

said-one : (n : ℕ) (ws : List (List ℕ)) → ¬ Silent ws → said_by n ws ≡ record { line = n; given = given_of ws } ∷ []
said-one n ws h = ap (λ c. cond c [] (record { line = n; given = given_of ws } ∷ [])) (not-silent ws h)

-- ---- from line to line
module _ (n : ℕ) (u v : List ℕ) (e : lines u ≡ first (lines u) ∷ lines v) where
  two : lines u ≡ first (lines u) ∷ first (lines v) ∷ rest (lines v)
  unfolding lines
  two = e ∙ ap (λ ls. first (lines u) ∷ ls) (parts-two is_end v)

  said-next : said_in n (lines u) ≡ said_by n (line u) ++ said_in (suc n) (lines v)
  unfolding line lines
  said-next = ap (said_in n) two ∙ ap (λ ls. said_by n (line u) ++ said_in (suc n) ls) (sym (parts-two is_end v))

  pub form-next : Accepted (each_line form_words cut_line n (lines u)) → Accepted (form_words n (line u)) × Accepted (each_line form_words cut_line (suc n) (lines v))
  unfolding line lines
  form-next a =
      let b = subst (λ ls. Accepted (each_line form_words cut_line n ls)) two a in
      let c = then-accepted (form_words n (line u)) (each_line form_words cut_line (suc n) (first (lines v) ∷ rest (lines v))) b in
      (c.0, subst (λ ls. Accepted (each_line form_words cut_line (suc n) ls)) (sym (parts-two is_end v)) c.1)

pub form-cut : (n : ℕ) (u : List ℕ) → lines u ≡ u ∷ [] → 0 < length u → Accepted (each_line form_words cut_line n (lines u)) → ⊥
form-cut n u e h a = (subst (λ ls. Accepted (each_line form_words cut_line n ls)) e a).0 (λ z. absurd (omega (arith, ap length z)))

pub form-line : (n : ℕ) (ws : List (List ℕ)) → Accepted (form_words n ws) → ¬ Silent ws → number_of (first ws) < 4294967296
form-line n [] a c = absurd (c empty)
form-line n (w ∷ ws) a c =
    by-test (ltb 4294967295 (number_of w)) (number_of w < 4294967296)
    (λ e. absurd (a.1.0 (c, (wrong-front 1 w (omega arith)).yes e)))
    (λ e. omega (arith, ltb-false 4294967295 (number_of w) e))

pub ends-inside : {t : List ℕ} {at end : ℕ} (n : ℕ) → LineEnd t at end → at < length t → Accepted (each_line form_words cut_line n (lines (drop at t)))
    → end < length t
ends-inside {t} {at} {end} n l h a =
    by-test (ltb end (length t)) (end < length t) (ltb-true end (length t))
    (λ e. absurd (form-cut n (drop at t) (l.last (ltb-false end (length t) e)) (omega (arith, length-drop at t)) a))

-- ---- the pass
abbrev pub Fresh : Tally → List ℕ → Type 0
Fresh z b = (z.taken ≡ 0) × (z.count ≤ 800) × (64000 ≤ length b)

pub record Keeps (t : List ℕ) (z : Tally) (b : List ℕ) (s : Tally) (a : List ℕ) (at n : ℕ) : Type 0 where
  pub done : List Line
  pub moved : Moved (givens done) 0 z b s a
  pub all : said_in 1 (lines t) ≡ done ++ said_in n (lines (drop at t))
  pub good : Accepted (each_line form_words cut_line n (lines (drop at t)))
  pub inside : at ≤ length t
  pub few : n ≤ at + 1

module _ (t : List ℕ) (z : Tally) (b : List ℕ) where
  pub keeps-start : Accepted (form_codes t) → Keeps t z b z b 0 1
  keeps-start a = record { done = []; moved = moved_none z b; all = refl; good = a; inside = omega arith; few = omega arith }

  module _ (h : Fresh z b) {s : Tally} {a : List ℕ} {at n : ℕ} (k : Keeps t z b s a at n) where
    abbrev here : List ℕ
    here = drop at t

    pub keeps-room : 80 * (z.taken + length (givens k.done)) ≤ length b
    keeps-room = omega (arith, h.0, h.1, h.2, passes-few h.1 k.moved.passes)

    pub keeps-length : length a ≡ length b
    keeps-length = moved_length k.moved keeps-room

    module _ (end : ℕ) (e : lines here ≡ first (lines here) ∷ lines (drop (suc end) t)) where
      pub keeps-next : {u : Tally} {c : List ℕ} → at ≤ end → end < length t → Moved (givens_by (line here)) 0 s a u c → Keeps t z b u c (suc end) (suc n)
      keeps-next {u} {c} o l m =
          let d = said_by n (line here) in
          let w : Moved (givens d) 0 s a u c = subst (λ gs. Moved gs 0 s a u c) (sym (givens-by n (line here))) m in
          let p = passes_append k.moved.carried k.moved.passes w.passes in
          let room : 80 * (z.taken + length (givens k.done) + length (givens d)) ≤ length b =
          omega (arith, h.0, h.1, h.2, passes-few h.1 p, length-append (givens k.done) (givens d)) in
          record {
            done = k.done ++ d;
            moved = subst (λ gs. Moved gs 0 z b u c) (sym (map-append (λ g. g.given) k.done d)) (moved_more k.moved w room);
            all = k.all ∙ ap (λ l. k.done ++ l) (said-next n here (drop (suc end) t) e) ∙ sym (append_assoc k.done d (said_in (suc n) (lines (drop (suc end) t))));
            good = (form-next n here (drop (suc end) t) e k.good).1;
            inside = omega arith;
            few = omega (arith, k.few);
          }

      pub keeps-halted : (r : RefusedLine) {c : List ℕ} → r.line ≡ n → Halted (givens_by (line here)) s a (refusal_number r.refusal) c
          → Halts (said_in 1 (lines t)) z b r c
      keeps-halted r {c} f m =
          let ws = line here in
          let i = halted-counts ws m in
          let q = one-stops (subst (λ gs. Stops s.low s.count s.room gs (refusal_number r.refusal)) (given-one ws i) m.stops) in
          record {
            before = k.done;
            one = record { line = n; given = given_of ws };
            after = said_in (suc n) (lines (drop (suc end) t));
            whole = k.all ∙ ap (λ l. k.done ++ l) (said-next n here (drop (suc end) t) e ∙ ap (λ d. d ++ said_in (suc n) (lines (drop (suc end) t))) (said-one n ws i));
            passes = k.moved.passes;
            refused = rw (sym k.moved.carried.low_is) (rw (sym k.moved.carried.count_is) (rw (sym k.moved.carried.room_is) q));
            named = f;
            long = m.long ∙ keeps-length;
          }

    pub keeps-end : length t ≤ at → Moved (givens (said_in 1 (lines t))) 0 z b s a
    unfolding lines
    keeps-end l =
        let q : here ≡ [] = drop_of_length-le t l in
        let f : said_in 1 (lines t) ≡ k.done = k.all ∙ ap (λ u. k.done ++ said_in n (lines u)) q ∙ append-nil k.done in
        rw f k.moved
