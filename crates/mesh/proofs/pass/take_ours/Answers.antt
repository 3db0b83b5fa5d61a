-- `mesh::pass::take_ours` meets its contract: what is read of the row is tried, its coordinates clipped.
use mathlib.Core.Path.{◌≡◌, sym, ap, ◌∙◌}
use mathlib.Core.List.{List}
use Prim.Native.Nat.{ℕ, ◌*◌, ◌≤◌}
use native.Mathlib.Omega.{arith}
use lib.IntN.{ℤ}
use lib.ListN.{length, drop, take, length-take}
use Rattle.algebra.specs.Fill.{list_to}
use Rattle.algebra.proofs.Fill.{length-list_to}
use Rattle.append.specs.Series.{Given}
use Rattle.mesh_text.specs.Rows.{line}
use Rattle.mesh_text.specs.Tests.{clipped}
use Rattle.mesh_form.specs.Values.{type_of, size_of_type}
use Rattle.mesh_form.proofs.Said.{size_small}
use Rattle.mesh_nodes.specs.Nodes.{nodes_in}
use Rattle.mesh_elements.specs.Rows.{coord_of}
use Rattle.mesh.proofs.Takes.{row-moves}
use Rattle.mesh.proofs.pass.take_ours.Goals as goal

same-given : {i j k m l : ℕ} {xs ys : List ℤ} → i ≡ j → k ≡ m → xs ≡ ys
    → ◌≡◌ {A = Given} (record { id = i; kind = k; limit = l; coords = xs }) (record { id = j; kind = m; limit = l; coords = ys })
same-given {i} {j} {k} {m} {l} {xs} {ys} a b c =
    ap (λ n. record { id = n; kind = k; limit = l; coords = xs }) a
    ∙ ap (λ n. record { id = j; kind = n; limit = l; coords = xs }) b
    ∙ ap (λ z. record { id = j; kind = m; limit = l; coords = z }) c

-- the coordinates, by the size that was read
module _ (k m : ℕ) (f : ℕ → ℤ) (l : List ℤ) (s : m ≡ size_of_type k) (e : take (2 * size_of_type k) l ≡ list_to (2 * size_of_type k) f) where
  front-is : take (2 * m) l ≡ list_to (2 * size_of_type k) f
  front-is = ap (λ n. take (2 * n) l) s ∙ e

  front_length : length (take (2 * m) l) ≡ 2 * m
  front_length = ap length front-is ∙ length-list_to (2 * size_of_type k) f ∙ ap (λ n. 2 * n) (sym s)

  long : 2 * m ≤ length l
  long = omega (arith, front_length, length-take (2 * m) l)

pub overflow_mul-n : goal.overflow_mul-n
overflow_mul-n c = let h = size_small (type_of (line (drop c.args.at c.args.m.t.now))) in record { fits = omega (arith, c.requires.sized) }

pub overflow_cast-size : goal.overflow_cast-size
overflow_cast-size c = let h = size_small (type_of (line (drop c.args.at c.args.m.t.now))) in record { fits = omega (arith, c.requires.sized) }

pub slice_bounds-take-end : goal.slice_bounds-take-end
slice_bounds-take-end c = sym (front_length _ _ _ _ c.requires.sized c.coords_at-xs.ensures)

pub slice_bounds-xs-end : goal.slice_bounds-xs-end
slice_bounds-xs-end c = long _ _ _ _ c.requires.sized c.coords_at-xs.ensures

pub returns : goal.returns
returns c =
    let a = c.args in
    let rs = nodes_in a.m.t.now in
    let r = line (drop a.at a.m.t.now) in
    let n = a.size in
    let xs = c.coords_at-xs.result in
    let q : Given = record { id = c.id_at-id.result; kind = n; limit = a.m.limit; coords = take (2 * n) xs } in
    row-moves 0 a.s a.out.now _ c.take.result a.m.limit rs r q
    (same-given c.id_at-id.ensures c.requires.sized
    (front-is (type_of r) n (coord_of (clipped 4294967295) rs r) xs c.requires.sized c.coords_at-xs.ensures)) c.take.ensures
