-- From row to row.
--   items_at-is       : a row of nodes or elements, by its kind
--   reads-row, reads_none : the next row; no row is left
--   reads_on-is       : a row that is of neither, and what is read behind it
-- Assumes nothing.
use mathlib.Core.Path.{◌≡◌, refl, sym, ap, ◌∙◌}
use mathlib.Core.Bool.{true, false}
use mathlib.Core.List.{List, ◌∷◌, ◌++◌}
use Prim.Native.Nat.{ℕ, zero, suc, ◌≤◌, ◌<◌}
use borrow.Author.Tests.{eqb-true, eqb-false}
use native.Mathlib.Omega.{arith}
use lib.Dec.{eqb}
use lib.ListN.{length, drop, drop_of_length-le}
use Rattle.mesh_text.proofs.Rows.{rows-nil, by-test}
use Rattle.mesh_text.specs.Rows.{rows, line, RowAt, RowAfter}
use Rattle.mesh_form.specs.declared.Part.{Part}
use Rattle.mesh_form.specs.declared.Cursor.{Cursor}
use Rattle.mesh_form.specs.Mesh.{Row}
use Rattle.mesh_form.specs.Walk.{Found, State, outside, before_format, behind_format, before_count, within, passing, bad, step, items_at, items, final, kind_of, items_of, items_from, meaning, Reads}

pub items_at-is : (s : State) (r : Row) → items_at s r ≡ items_of (kind_of s) r
unfolding items_at kind_of
items_at-is (outside b) r = refl
items_at-is before_format r = refl
items_at-is behind_format r = refl
items_at-is (before_count k) r = refl
items_at-is (within k zero) r = refl
items_at-is (within true (suc n)) r = refl
items_at-is (within false (suc n)) r = refl
items_at-is (passing b x) r = refl
items_at-is bad r = refl

pub kind-size : (s : State) → (kind_of s ≤ 3) × (0 < kind_of s)
unfolding kind_of
kind-size (outside b) = (omega arith, omega arith)
kind-size before_format = (omega arith, omega arith)
kind-size behind_format = (omega arith, omega arith)
kind-size (before_count k) = (omega arith, omega arith)
kind-size (within k zero) = (omega arith, omega arith)
kind-size (within true (suc n)) = (omega arith, omega arith)
kind-size (within false (suc n)) = (omega arith, omega arith)
kind-size (passing b x) = (omega arith, omega arith)
kind-size bad = (omega arith, omega arith)

module _ (t : List ℕ) (from : ℕ) (part : Part) (at : ℕ) (found : RowAt t from at) where
  -- the rows from the cursor on
  reads-rows : (end : ℕ) → at < length t → RowAfter t at end → rows (drop from t) ≡ line (drop at t) ∷ rows (drop end t)
  reads-rows end h a = sym found.same ∙ found.starts h ∙ ap (λ q. line (drop at t) ∷ q) (sym a.same)

  pub reads-row : (kind : ℕ) (behind : Part) (end : ℕ)
      → at < length t
      → kind ≡ kind_of (meaning t part)
      → meaning t behind ≡ step (meaning t part) (line (drop at t))
      → RowAfter t at end
      → Reads 3 t (record { at = from; part = part }) (record { kind = kind; at = at; next = record { at = end; part = behind } })
  unfolding items final
  reads-row kind behind end h k m a =
      let r = line (drop at t) in
      let q = rows (drop end t) in
      let e = reads-rows end h a in
      let z = kind-size (meaning t part) in
      record {
        kinds = omega (arith, z.0);
        inside = a.within;
        onwards = λ n. omega (arith, found.onwards, a.onwards h);
        not_back = omega (arith, found.onwards, a.onwards h);
        rest_items =
            ap (items (meaning t part)) e
            ∙ ap (λ l. l ++ items (step (meaning t part) r) q) (items_at-is (meaning t part) r)
            ∙ ap (λ n. items_of n r ++ items (step (meaning t part) r) q) (sym k)
            ∙ ap (λ s. items_of kind r ++ items s q) (sym m);
        rest_final = ap (final (meaning t part)) e ∙ ap (λ s. final s q) (sym m);
        none_left = λ n. absurd (omega (arith, z.1));
      }

  pub reads_none : length t ≤ at → Reads 3 t (record { at = from; part = part }) (record { kind = 0; at = at; next = record { at = at; part = part } })
  reads_none h =
      record {
        kinds = omega arith;
        inside = found.within;
        onwards = λ n. absurd (n refl);
        not_back = found.onwards;
        rest_items = ap (items (meaning t part)) (sym found.same);
        rest_final = ap (final (meaning t part)) (sym found.same);
        none_left = λ n. ap rows (drop_of_length-le t h) ∙ rows-nil;
      }

-- a row of another kind, and what is read behind it
pub reads_on-is : (t : List ℕ) (c : Cursor) (f g : Found) (m : ℕ) → f.kind ≡ 3 → Reads 3 t c f → Reads m t f.next g → Reads m t c g
reads_on-is t c f g m e a b =
    record {
      kinds = b.kinds;
      inside = b.inside;
      onwards = λ n. omega (arith, a.not_back, b.onwards n);
      not_back = omega (arith, a.not_back, b.not_back);
      rest_items = a.rest_items ∙ ap (λ k. items_of k (line (drop f.at t)) ++ items_from t f.next) e ∙ b.rest_items;
      rest_final = a.rest_final ∙ b.rest_final;
      none_left = b.none_left;
    }

-- where it is no other row, it is one of nodes or elements, or none
pub reads_two : (t : List ℕ) (c : Cursor) (f : Found) → (f.kind ≡ 3 → ⊥) → Reads 3 t c f → Reads 2 t c f
reads_two t c f n a =
    record {
      kinds = by-test (eqb f.kind 3) (f.kind ≤ 2) (λ z. absurd (n (eqb-true f.kind 3 z))) (λ z. let y = eqb-false f.kind 3 z in omega (arith, a.kinds));
      inside = a.inside;
      onwards = a.onwards;
      not_back = a.not_back;
      rest_items = a.rest_items;
      rest_final = a.rest_final;
      none_left = a.none_left;
    }
