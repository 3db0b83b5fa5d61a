-- A text that says a mesh, worked out: a point, which is passed over, and a triangle, which is taken.
--   example        == the text
--   example-form, example-flat : it is of the form, and its coordinates are whole
--   example-taken, example-passed : what is taken of it, and what is passed over
--   example-numbers, example-wanted : the numbers of its nodes, and those that the triangle has
--   example-accepted, example-said : it has no fault, and says just that
--   example-answer : so every call over a good block with room appends the triangle
-- Assumes nothing.
use mathlib.Core.Path.{◌≡◌, refl, sym, ap, ap₂, ◌∙◌, subst}
use mathlib.Core.Bool.{Bool, true, false, not, ◌&&◌, ◌||◌, true≢false, or-true}
use mathlib.Core.List.{List, [], ◌∷◌, map, Memᴰ}
use mathlib.Core.Logic.{inl, inr}
use Prim.Native.Nat.{ℕ, ◌+◌, ◌*◌, ◌≤◌, ◌<◌}
use native.Mathlib.Omega.{arith}
use borrow.Author.Tests.{eq-eqb}
use lib.Dec.{eqb}
use lib.IntN.{ℤ}
use lib.ListN.{length, take}
use Rattle.element.specs.Refusals.{Accepted}
use Rattle.element.proofs.Refusals.{coded_none, refused-accepted}
use Rattle.endian.specs.Numbers.{Bytes}
use Rattle.block.specs.Block.{count_of}
use Rattle.block.specs.Faults.{lowest}
use Rattle.append.specs.Append.{buffer_codes}
use Rattle.append.specs.Series.{Given, Series}
use Rattle.append.proofs.Series.{series-unique, series-passes}
use Rattle.batch.proofs.Example.{triangle, triangle-passes}
use Rattle.mesh_text.specs.Rows.{lines, words, rows, in_class}
use Rattle.mesh_text.specs.Tests.{digits_b, unsigned, is_minus, tag_b, exponent_b, mantissa_b, number_b, point_b, whole_b, number_of, size_of, value_of, zero_b}
use Rattle.mesh_text.proofs.Rows.{by-test}
use Rattle.mesh_text.proofs.Grammar.{and_both}
use Rattle.mesh_form.specs.Mesh.{Row, RepeatsIn, here, later}
use Rattle.mesh_form.specs.Walk.{positive_b, version_b, format_b, node_b, count_b, word_b, left_b, element_b, end_b, mark_b, opened, step, items_at, final, items, all_b, done_b, form_b, node_rows, element_rows}
use Rattle.mesh_form.specs.Values.{type_of, names_of, size_of_type, nine, wanted_of}
use Rattle.mesh_form.proofs.Formed.{form-true}
use Rattle.mesh_numbers.specs.Numbers.{gather, node_number, wanted_by, numbers, wanted, Repeated, Missing}
use Rattle.mesh_nodes.specs.Nodes.{flat_b, flats_b, row_of, nodes_in}
use Rattle.mesh_elements.specs.Orders.{order}
use Rattle.mesh_elements.specs.Rows.{name_of, coord_of, given_of, givens_of, passed_of, elements_in}
use Rattle.mesh.specs.Taken.{taken_in, passed_in}
use Rattle.mesh.specs.declared.Meshed.{Meshed}
use Rattle.mesh.specs.Calls.{HasMesh, text_codes, mesh_codes, Said, AppendsMesh}
use Rattle.mesh.proofs.Opened.{mesh-accepted}
use Rattle.mesh.proofs.Outcomes.{said-unique}
use Rattle.mesh.proofs.Readings.{has-mesh, text-good, said_of}

-- $MeshFormat, 2.2 0 8, $EndMeshFormat; $Nodes, six nodes, the last with the z -0, $EndNodes; $Elements, two elements, $EndElements
unfoldable pub example : List ℕ
example =
    36 ∷ 77 ∷ 101 ∷ 115 ∷ 104 ∷ 70 ∷ 111 ∷ 114 ∷ 109 ∷ 97 ∷ 116 ∷ 10 ∷
    50 ∷ 46 ∷ 50 ∷ 32 ∷ 48 ∷ 32 ∷ 56 ∷ 10 ∷
    36 ∷ 69 ∷ 110 ∷ 100 ∷ 77 ∷ 101 ∷ 115 ∷ 104 ∷ 70 ∷ 111 ∷ 114 ∷ 109 ∷ 97 ∷ 116 ∷ 10 ∷
    36 ∷ 78 ∷ 111 ∷ 100 ∷ 101 ∷ 115 ∷ 10 ∷
    54 ∷ 10 ∷
    49 ∷ 32 ∷ 48 ∷ 32 ∷ 48 ∷ 32 ∷ 48 ∷ 10 ∷
    50 ∷ 32 ∷ 56 ∷ 32 ∷ 48 ∷ 32 ∷ 48 ∷ 10 ∷
    51 ∷ 32 ∷ 48 ∷ 32 ∷ 56 ∷ 32 ∷ 48 ∷ 10 ∷
    52 ∷ 32 ∷ 52 ∷ 32 ∷ 48 ∷ 32 ∷ 48 ∷ 10 ∷
    53 ∷ 32 ∷ 52 ∷ 32 ∷ 52 ∷ 32 ∷ 48 ∷ 10 ∷
    54 ∷ 32 ∷ 48 ∷ 32 ∷ 52 ∷ 32 ∷ 45 ∷ 48 ∷ 10 ∷
    36 ∷ 69 ∷ 110 ∷ 100 ∷ 78 ∷ 111 ∷ 100 ∷ 101 ∷ 115 ∷ 10 ∷
    36 ∷ 69 ∷ 108 ∷ 101 ∷ 109 ∷ 101 ∷ 110 ∷ 116 ∷ 115 ∷ 10 ∷
    50 ∷ 10 ∷
    49 ∷ 32 ∷ 49 ∷ 53 ∷ 32 ∷ 48 ∷ 32 ∷ 49 ∷ 10 ∷
    50 ∷ 32 ∷ 57 ∷ 32 ∷ 50 ∷ 32 ∷ 55 ∷ 32 ∷ 55 ∷ 32 ∷ 49 ∷ 32 ∷ 50 ∷ 32 ∷ 51 ∷ 32 ∷ 52 ∷ 32 ∷ 53 ∷ 32 ∷ 54 ∷ 10 ∷
    36 ∷ 69 ∷ 110 ∷ 100 ∷ 69 ∷ 108 ∷ 101 ∷ 109 ∷ 101 ∷ 110 ∷ 116 ∷ 115 ∷ 10 ∷ []

pub example-form : form_b (rows example) ≡ true
unfolding lines words rows in_class digits_b unsigned is_minus tag_b exponent_b mantissa_b number_b point_b whole_b number_of size_of value_of zero_b positive_b version_b format_b node_b count_b word_b left_b element_b end_b mark_b opened step items_at final items all_b done_b node_rows element_rows names_of size_of_type nine flat_b flats_b row_of order name_of coord_of givens_of passed_of example
example-form = refl

pub example-flat : flats_b (nodes_in example) ≡ true
unfolding lines words rows in_class digits_b unsigned is_minus tag_b exponent_b mantissa_b number_b point_b whole_b number_of size_of value_of zero_b positive_b version_b format_b node_b count_b word_b left_b element_b end_b mark_b opened step items_at final items all_b done_b node_rows element_rows names_of size_of_type nine flat_b flats_b row_of order name_of coord_of givens_of passed_of example
example-flat = refl

-- what is taken under one level limit, from what is taken under 0: the computation has no free name
under : ℕ → Given → Given
under level g = record { id = g.id; kind = g.kind; limit = level; coords = g.coords }

givens-under : (level : ℕ) (v : List ℕ → ℤ) (rs qs : List Row) → givens_of level v rs qs ≡ map (under level) (givens_of 0 v rs qs)
unfolding givens_of under
givens-under level v rs [] = refl
givens-under level v rs (q ∷ qs) =
    let ih = givens-under level v rs qs in
    by-test (eqb (size_of_type (type_of q)) 0) (givens_of level v rs (q ∷ qs) ≡ map (under level) (givens_of 0 v rs (q ∷ qs)))
    (λ e. rw e ih)
    (λ e. rw e (ap (λ l. given_of level v rs q ∷ l) ih))

taken-zero : taken_in 0 example ≡ triangle 2 0 ∷ []
unfolding lines words rows in_class digits_b unsigned is_minus tag_b exponent_b mantissa_b number_b point_b whole_b number_of size_of value_of zero_b positive_b version_b format_b node_b count_b word_b left_b element_b end_b mark_b opened step items_at final items all_b done_b node_rows element_rows names_of size_of_type nine flat_b flats_b row_of order name_of coord_of givens_of passed_of example
taken-zero = refl

pub example-taken : (level : ℕ) → taken_in level example ≡ triangle 2 level ∷ []
unfolding under
example-taken level = givens-under level value_of (nodes_in example) (elements_in example) ∙ ap (map (under level)) taken-zero

pub example-passed : passed_in example ≡ 1
unfolding lines words rows in_class digits_b unsigned is_minus tag_b exponent_b mantissa_b number_b point_b whole_b number_of size_of value_of zero_b positive_b version_b format_b node_b count_b word_b left_b element_b end_b mark_b opened step items_at final items all_b done_b node_rows element_rows names_of size_of_type nine flat_b flats_b row_of order name_of coord_of givens_of passed_of example
example-passed = refl

pub example-numbers : numbers example ≡ 1 ∷ 2 ∷ 3 ∷ 4 ∷ 5 ∷ 6 ∷ []
unfolding lines words rows in_class digits_b unsigned is_minus tag_b exponent_b mantissa_b number_b point_b whole_b number_of size_of value_of zero_b positive_b version_b format_b node_b count_b word_b left_b element_b end_b mark_b opened step items_at final items all_b done_b node_rows element_rows names_of size_of_type nine flat_b flats_b row_of order name_of coord_of givens_of passed_of example gather node_number numbers
example-numbers = refl

pub example-wanted : wanted example ≡ 1 ∷ 2 ∷ 3 ∷ 4 ∷ 5 ∷ 6 ∷ []
unfolding lines words rows in_class digits_b unsigned is_minus tag_b exponent_b mantissa_b number_b point_b whole_b number_of size_of value_of zero_b positive_b version_b format_b node_b count_b word_b left_b element_b end_b mark_b opened step items_at final items all_b done_b node_rows element_rows names_of size_of_type nine flat_b flats_b row_of order name_of coord_of givens_of passed_of example gather wanted_by wanted_of wanted
example-wanted = refl

-- ---- no number stands twice, and each that is wanted is there
in_b : ℕ → List ℕ → Bool
in_b n [] = false
in_b n (m ∷ l) = eqb n m || in_b n l

in-of : (n : ℕ) {l : List ℕ} → Memᴰ n l → in_b n l ≡ true
unfolding in_b
in-of n (Memᴰ.head {x = m} {xs = l} e) = ap (λ b. b || in_b n l) (eq-eqb n m e)
in-of n (Memᴰ.tail {x = m} {xs = l} i) = ap (λ b. eqb n m || b) (in-of n i) ∙ or-true (eqb n m)

once_b : List ℕ → Bool
once_b [] = true
once_b (n ∷ l) = not (in_b n l) && once_b l

once-true : {P : ℕ → Type 0} {l : List ℕ} → RepeatsIn P l → once_b l ≡ true → ⊥
unfolding once_b
once-true (here {n = n} {l = l} p i) e = true≢false (sym (and_both (not (in_b n l)) (once_b l) e).0 ∙ ap not (in-of n i))
once-true (later {n = n} {l = l} r) e = once-true r (and_both (not (in_b n l)) (once_b l) e).1

example-once : Repeated (numbers example) false
unfolding in_b once_b
example-once = record { yes = λ e. absurd (true≢false (sym e)); no = λ e r. once-true (subst (RepeatsIn _) example-numbers r) refl }

example-listed : Missing (numbers example) (wanted example) false
example-listed =
    record {
      yes = λ e. absurd (true≢false (sym e));
      no = λ e n i h. subst (Memᴰ n) (example-wanted ∙ sym example-numbers) i;
    }

-- ---- no fault
example-mesh : HasMesh example
example-mesh = has-mesh example (form-true example example-form) example-once

pub example-accepted : Accepted (text_codes example)
example-accepted = coded_none (text-good example example-mesh example-flat example-listed) tt refl

pub example-said : (level : ℕ) → Said example level (triangle 2 level ∷ []) 1
example-said level =
    subst (λ gs. Said example level gs 1) (example-taken level)
    (subst (Said example level (taken_in level example)) example-passed (said_of example example-accepted level))

-- ---- so no call may refuse it, over a good block with room, where the limit is one of triangles
module _ (level : ℕ) (b : List ℕ) (used : ℕ) (y : Bytes b) (a : Accepted (buffer_codes b used)) (l : level ≤ 10)
    (low : lowest (take used b) (count_of (take used b)) ≤ 2) (few : count_of (take used b) < 800) (room : used + 80 ≤ length b) where
  pub example-answer : (r : Meshed) (c : List ℕ) → AppendsMesh example level b used r c
      → r ≡ record { code = 0; number = 0; used = used + 80; appended = 1; passed = 1 }
  example-answer r c (inl n) =
      absurd (refused-accepted (mesh_codes example b used) (record { code = r.code; number = r.number }) n.refused (mesh-accepted example b used example-accepted a))
  example-answer r c (inr (inl n)) =
      let e = (said-unique n.said (example-said level)).0 in
      let q = series-passes b used y a (omega arith, tt) (triangle-passes 2 level b used l low few room) in
      absurd (n.some (ap (λ x. x.code) (series-unique (subst (λ gs. Series b used gs (record { code = r.code; number = 0; used = 0 }) n.left) e n.stopped) q).0))
  example-answer r c (inr (inr n)) =
      let e = said-unique n.said (example-said level) in
      n.answer ∙ ap₂ (λ (gs : List Given) (p : ℕ). record { code = 0; number = 0; used = used + 80 * length gs; appended = length gs; passed = p }) e.0 e.1
