-- Where a line ends.
--   line-end       : behind the bytes that are no line feed
-- Assumes nothing.
use mathlib.Core.Path.{◌≡◌, sym, ap, ◌∙◌, subst}
use mathlib.Core.Bool.{true, false}
use mathlib.Core.List.{List, [], ◌∷◌, ◌++◌, append-nil}
use Prim.Native.Nat.{ℕ, suc, ◌+◌, ◌≤◌, ◌<◌}
use native.Mathlib.Numerals.{add-one}
use native.Mathlib.Omega.{arith}
use borrow.Author.Tests.{not-true, not-false}
use lib.ListN.{length, drop, length-drop, drop_of_length-le}
use lib.Seq.{drop-drop}
use Rattle.mesh_text.specs.declared.Class.TheVariants.{Line}
use Rattle.mesh_text.specs.Rows.{All, Heads, head, first, rest, lines, is_end, run, past, in_class, parts}
use Rattle.mesh_text.proofs.Runs.{run_past, run_drop, run-few}
use Rattle.mesh_text.proofs.Rows.{all_map, run-all, past-heads, parts-run, parts_at}
use Rattle.record_text.specs.Finds.{LineEnd}

-- a text whose first line feed, if it has one, stands behind w
lines_more : (w : List ℕ) (v : List ℕ) → All (λ b. in_class Line b ≡ true) w → Heads (λ b. in_class Line b ≡ false) v → 0 < length v
    → lines (w ++ v) ≡ w ∷ lines (drop 1 v)
unfolding lines in_class
lines_more w [] h k l = absurd (omega arith)
lines_more w (b ∷ v) h (head k) l =
    let e = parts_at is_end b v (not-false (is_end b) k) in
    parts-run is_end (b ∷ v) (all_map (λ c z. not-true (is_end c) z) h)
    ∙ ap (λ q. (w ++ first q) ∷ rest q) e
    ∙ ap (λ q. q ∷ parts is_end v) (append-nil w)

lines-last : (w : List ℕ) → All (λ b. in_class Line b ≡ true) w → lines w ≡ w ∷ []
unfolding lines in_class
lines-last w h =
    ap (parts is_end) (sym (append-nil w))
    ∙ parts-run is_end [] (all_map (λ c z. not-true (is_end c) z) h)
    ∙ ap (λ q. q ∷ []) (append-nil w)

module _ (t : List ℕ) (at n : ℕ) (h : at ≤ length t) (e : n ≡ length (run (in_class Line) (drop at t))) where
  behind : drop (at + n) t ≡ past (in_class Line) (drop at t)
  behind = ap (λ m. drop (at + m) t) e ∙ sym (drop-drop (length (run (in_class Line) (drop at t))) at t) ∙ run_drop (in_class Line) (drop at t)

  whole : run (in_class Line) (drop at t) ++ drop (at + n) t ≡ drop at t
  whole = ap (λ v. run (in_class Line) (drop at t) ++ v) behind ∙ run_past (in_class Line) (drop at t)

  some-behind : at + n < length t → lines (drop at t) ≡ run (in_class Line) (drop at t) ∷ lines (drop (suc (at + n)) t)
  some-behind l =
      ap lines (sym whole)
      ∙ lines_more (run (in_class Line) (drop at t)) (drop (at + n) t) (run-all (in_class Line) (drop at t))
      (subst (Heads (λ b. in_class Line b ≡ false)) (sym behind) (past-heads (in_class Line) (drop at t))) (omega (arith, length-drop (at + n) t))
      ∙ ap (λ v. run (in_class Line) (drop at t) ∷ lines v) (drop-drop 1 (at + n) t ∙ ap (λ m. drop m t) (add-one (at + n)))

  none-behind : length t ≤ at + n → lines (drop at t) ≡ drop at t ∷ []
  none-behind l =
      let k : run (in_class Line) (drop at t) ≡ drop at t =
      sym (append-nil (run (in_class Line) (drop at t))) ∙ ap (λ v. run (in_class Line) (drop at t) ++ v) (sym (drop_of_length-le t l)) ∙ whole in
      lines-last (drop at t) (subst (All (λ b. in_class Line b ≡ true)) k (run-all (in_class Line) (drop at t)))

  pub line-end : LineEnd t at (at + n)
  line-end =
      record {
        within = omega (arith, run-few (in_class Line) (drop at t), length-drop at t);
        onwards = omega arith;
        more = λ l. let q = some-behind l in q ∙ ap (λ x. first x ∷ lines (drop (suc (at + n)) t)) (sym q);
        last = none-behind;
      }
