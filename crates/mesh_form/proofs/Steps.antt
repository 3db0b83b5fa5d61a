-- The walk, case by case.
--   opened-format, opened-nodes, opened-elements, opened-other : what a mark opens, by its name
--   left-over, left-on, left-off : the words of an element behind its number, type and count
-- Assumes nothing.
use mathlib.Core.Path.{◌≡◌, refl, sym, ap, ◌∙◌}
use mathlib.Core.Bool.{Bool, true, false, ◌&&◌, cond, true≢false}
use mathlib.Core.List.{List, [], ◌∷◌}
use Prim.Native.Nat.{ℕ, ◌+◌, ◌-◌}
use lib.Dec.{eqb}
use Rattle.mesh_text.specs.Rows.{first, rest, is_nil}
use Rattle.mesh_text.specs.Tests.{same_b}
use Rattle.mesh_form.specs.Mesh.{Row, format, nodes, elements}
use Rattle.mesh_form.specs.Walk.{State, before_format, before_count, passing, bad, opened, word_b, left_b, count_b}

module _ (s : Bool) (x : List ℕ) where
  then-elements : State
  then-elements = cond (same_b x elements) (cond s (before_count false) bad) (passing s x)

  then-nodes : State
  then-nodes = cond (same_b x nodes) (cond s (before_count true) bad) then-elements

  pub opened-format : same_b x format ≡ true → opened s x ≡ before_format
  unfolding opened then-nodes then-elements
  opened-format e = ap (λ b. cond b before_format then-nodes) e

  pub opened-nodes : same_b x format ≡ false → same_b x nodes ≡ true → opened s x ≡ cond s (before_count true) bad
  unfolding opened then-nodes then-elements
  opened-nodes e f = ap (λ b. cond b before_format then-nodes) e ∙ ap (λ b. cond b (cond s (before_count true) bad) then-elements) f

  pub opened-elements : same_b x format ≡ false → same_b x nodes ≡ false → same_b x elements ≡ true → opened s x ≡ cond s (before_count false) bad
  unfolding opened then-nodes then-elements
  opened-elements e f g =
      ap (λ b. cond b before_format then-nodes) e
      ∙ ap (λ b. cond b (cond s (before_count true) bad) then-elements) f
      ∙ ap (λ b. cond b (cond s (before_count false) bad) (passing s x)) g

  pub opened-other : same_b x format ≡ false → same_b x nodes ≡ false → same_b x elements ≡ false → opened s x ≡ passing s x
  unfolding opened then-nodes then-elements
  opened-other e f g =
      ap (λ b. cond b before_format then-nodes) e
      ∙ ap (λ b. cond b (cond s (before_count true) bad) then-elements) f
      ∙ ap (λ b. cond b (cond s (before_count false) bad) (passing s x)) g

-- ---- the words of an element
module _ (t n k : ℕ) where
  pub left_over : (ws : Row) → is_nil ws ≡ true → left_b t n k ws ≡ (eqb t 0 && count_b k n)
  unfolding left_b
  left_over [] e = refl
  left_over (w ∷ ws) e = absurd (true≢false (sym e))

  left_is : (ws : Row) → is_nil ws ≡ false → left_b t n k ws ≡ (word_b t (first ws) && left_b (t - 1) (n + cond (eqb t 0) 1 0) k (rest ws))
  unfolding left_b
  left_is [] e = absurd (true≢false e)
  left_is (w ∷ ws) e = refl

  pub left-on : (ws : Row) → is_nil ws ≡ false → word_b t (first ws) ≡ true → left_b t n k ws ≡ left_b (t - 1) (n + cond (eqb t 0) 1 0) k (rest ws)
  left-on ws e f = left_is ws e ∙ ap (λ b. b && left_b (t - 1) (n + cond (eqb t 0) 1 0) k (rest ws)) f

  pub left-off : (ws : Row) → is_nil ws ≡ false → word_b t (first ws) ≡ false → left_b t n k ws ≡ false
  left-off ws e f = left_is ws e ∙ ap (λ b. b && left_b (t - 1) (n + cond (eqb t 0) 1 0) k (rest ws)) f
