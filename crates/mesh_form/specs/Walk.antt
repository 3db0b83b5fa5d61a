-- A walk over rows: what the code does, row by row. That it tells of Form is proved in proofs/.
--   positive_b n    == n is a whole number above 0
--   version_b w, format_b r, node_b r, element_b r == tests of a word and of rows
--   left_b t n k ws == ws are t tags and then numbers, which make, with the n before, as many as the type k has
--   State          == where a walk stands: outside of sections (a format has been seen); before the row of a format, and behind it; before a
--                     count; before so many rows of nodes (true) or elements and an end; in a section that is passed over; a text that is not of the form
--   step s r, items_at s r == the state behind the row r, and the row where it is of nodes or elements
--   kind_of s       == 1 where the next row is of nodes, 2 where it is of elements, else 3
--   meaning t p, from t c == the state of the code's Part p; the items and the end of the walk from the Cursor c on
--   is_node k      == the code's Kind is that of nodes
--   kind_number k, row_number k == the number of the code's Kind; of its kind of any row, 3 where that is another
--   Found          == a row by the number of its kind, 0 for none, its place, and the cursor behind it
--   Reads m t c i  == i is what comes at c: a row of the kind i.kind, at most m, and the walk goes on from i.next; kind 0: no row is left
--   form_b rs       == the rows are of the form, but for double numbers
--   final s rs, items s rs == the state behind all rows, and the rows of nodes and elements among them
--   items_in t      == those of a text
--   node_rows is, element_rows is == the rows of nodes, and those of elements
-- Definitions only.
use Rattle.std.specs.Prelude.{◌≡◌, Bool, true, false, ◌&&◌, cond, List, [], ◌∷◌, ◌++◌, ℕ, zero, suc, ◌+◌, ◌-◌, ◌≤◌, ◌<◌, eqb, ltb, length, take, drop, Option, None, Some}
use Rattle.mesh_text.specs.declared.Class.TheVariants.{Zero}
use Rattle.mesh_text.specs.Rows.{first, rest, is_nil, run, in_class, line, rows}
use Rattle.mesh_text.specs.Tests.{tag_b, number_b, number_of, same_b}
use Rattle.mesh_form.specs.declared.Part.{Part}
use Rattle.mesh_form.specs.declared.Part.TheVariants.{Outside, BeforeFormat, BehindFormat, BeforeCount, Within, Passing, Bad}
use Rattle.mesh_form.specs.declared.Cursor.{Cursor}
use Rattle.mesh_form.specs.declared.Kind.{Kind}
use Rattle.mesh_form.specs.declared.Kind.TheVariants.{Node, Element}
use Rattle.mesh_form.specs.Mesh.{Row, format, nodes, elements}

unfoldable pub positive_b : ℕ → Bool
positive_b n = ltb 0 n && ltb n 4294967296

-- 50 46 50 is 2.2
unfoldable pub version_b : List ℕ → Bool
version_b w = same_b (take 3 w) (50 ∷ 46 ∷ 50 ∷ []) && eqb (length (run (in_class Zero) (drop 3 w))) (length (drop 3 w))

unfoldable pub format_b : Row → Bool
format_b r =
    version_b (first r)
    && (eqb (number_of (first (rest r))) 0 && (eqb (number_of (first (rest (rest r)))) 8 && is_nil (rest (rest (rest r)))))

unfoldable pub node_b : Row → Bool
node_b r =
    positive_b (number_of (first r))
    && (number_b (first (rest r))
    && (number_b (first (rest (rest r))) && (number_b (first (rest (rest (rest r)))) && is_nil (rest (rest (rest (rest r)))))))

-- how many numbers a type has
unfoldable pub count_b : ℕ → ℕ → Bool
count_b k n = cond (eqb k 9) (eqb n 6) (cond (eqb k 10) (eqb n 9) (cond (eqb k 16) (eqb n 8) (ltb 0 n)))

-- a word where t tags are left
unfoldable pub word_b : ℕ → List ℕ → Bool
word_b t w = cond (eqb t 0) (positive_b (number_of w)) (tag_b w)

unfoldable pub left_b : ℕ → ℕ → ℕ → Row → Bool
left_b t n k [] = eqb t 0 && count_b k n
left_b t n k (w ∷ ws) = word_b t w && left_b (t - 1) (n + cond (eqb t 0) 1 0) k ws

unfoldable pub element_b : Row → Bool
element_b r =
    positive_b (number_of (first r))
    && (positive_b (number_of (first (rest r)))
    && (ltb (number_of (first (rest (rest r)))) 4294967296
    && left_b (number_of (first (rest (rest r)))) 0 (number_of (first (rest r))) (rest (rest (rest r)))))

-- ---- the walk
pub data State : Type 0 where
  outside : Bool → State
  before_format : State
  behind_format : State
  before_count : Bool → State
  within : Bool → ℕ → State
  passing : Bool → List ℕ → State
  bad : State

-- the row of the one word $Endx
unfoldable pub end_b : List ℕ → Row → Bool
end_b x r = is_nil (rest r) && (same_b (take 4 (first r)) (36 ∷ 69 ∷ 110 ∷ 100 ∷ []) && same_b (drop 4 (first r)) x)

unfoldable pub mark_b : Row → Bool
mark_b r = is_nil (rest r) && same_b (take 1 (first r)) (36 ∷ [])

abbrev pub name_of : Row → List ℕ
name_of r = drop 1 (first r)

abbrev pub named : Bool → List ℕ
named true = nodes
named false = elements

-- a section of this name
unfoldable pub opened : Bool → List ℕ → State
opened s x =
    cond (same_b x format) before_format
    (cond (same_b x nodes) (cond s (before_count true) bad)
    (cond (same_b x elements) (cond s (before_count false) bad)
    (passing s x)))

unfoldable pub step : State → Row → State
step (outside s) r = cond (mark_b r) (opened s (name_of r)) bad
step before_format r = cond (format_b r) behind_format bad
step behind_format r = cond (end_b format r) (outside true) bad
step (before_count k) r = cond (is_nil (rest r) && ltb (number_of (first r)) 4294967296) (within k (number_of (first r))) bad
step (within k zero) r = cond (end_b (named k) r) (outside true) bad
step (within k (suc n)) r = within k n
step (passing s x) r = cond (end_b x r) (outside s) (passing s x)
step bad r = bad

-- true: a row of nodes
pub record Item : Type 0 where
  pub node : Bool
  pub row : Row

unfoldable pub items_at : State → Row → List Item
items_at (outside s) r = []
items_at before_format r = []
items_at behind_format r = []
items_at (before_count k) r = []
items_at (within k zero) r = []
items_at (within k (suc n)) r = record { node = k; row = r } ∷ []
items_at (passing s x) r = []
items_at bad r = []

unfoldable pub final : State → List Row → State
final s [] = s
final s (r ∷ rs) = final (step s r) rs

unfoldable pub items : State → List Row → List Item
items s [] = []
items s (r ∷ rs) = items_at s r ++ items (step s r) rs

-- all of a text, and the rows of the one and of the other among items
abbrev pub items_in : List ℕ → List Item
items_in t = items (outside false) (rows t)

unfoldable pub node_rows : List Item → List Row
node_rows [] = []
node_rows (i ∷ l) = cond i.node (i.row ∷ node_rows l) (node_rows l)

unfoldable pub element_rows : List Item → List Row
element_rows [] = []
element_rows (i ∷ l) = cond i.node (element_rows l) (i.row ∷ element_rows l)

abbrev pub item_b : Item → Bool
item_b i = cond i.node (node_b i.row) (element_b i.row)

-- ---- the code's cursors
abbrev pub is_node : Kind → Bool
is_node Node = true
is_node Element = false

unfoldable pub meaning : List ℕ → Part → State
meaning t (Outside s) = outside s
meaning t BeforeFormat = before_format
meaning t BehindFormat = behind_format
meaning t (BeforeCount k) = before_count (is_node k)
meaning t (Within k n) = within (is_node k) n
meaning t (Passing s p) = passing s (name_of (line (drop p t)))
meaning t Bad = bad

unfoldable pub kind_of : State → ℕ
kind_of (outside s) = 3
kind_of before_format = 3
kind_of behind_format = 3
kind_of (before_count k) = 3
kind_of (within k zero) = 3
kind_of (within k (suc n)) = cond k 1 2
kind_of (passing s x) = 3
kind_of bad = 3

abbrev pub items_of : ℕ → Row → List Item
items_of k r = cond (eqb k 1) (record { node = true; row = r } ∷ []) (cond (eqb k 2) (record { node = false; row = r } ∷ []) [])

abbrev pub items_from : List ℕ → Cursor → List Item
items_from t c = items (meaning t c.part) (rows (drop c.at t))

abbrev pub final_from : List ℕ → Cursor → State
final_from t c = final (meaning t c.part) (rows (drop c.at t))

-- ---- the code's rows
abbrev pub kind_number : Kind → ℕ
kind_number Node = 1
kind_number Element = 2

abbrev pub row_number : Option Kind → ℕ
row_number None = 3
row_number (Some k) = kind_number k

pub record Found : Type 0 where
  pub kind : ℕ
  pub at : ℕ
  pub next : Cursor

pub record Reads (most : ℕ) (t : List ℕ) (c : Cursor) (i : Found) : Type 0 where
  pub kinds : i.kind ≤ most
  pub inside : i.next.at ≤ length t
  pub onwards : (i.kind ≡ 0 → ⊥) → c.at < i.next.at
  pub not_back : c.at ≤ i.next.at
  pub rest_items : items_from t c ≡ items_of i.kind (line (drop i.at t)) ++ items_from t i.next
  pub rest_final : final_from t c ≡ final_from t i.next
  pub none_left : i.kind ≡ 0 → rows (drop i.next.at t) ≡ []

-- ---- the form
unfoldable pub all_b : List Item → Bool
all_b [] = true
all_b (i ∷ l) = item_b i && all_b l

unfoldable pub done_b : State → Bool
done_b (outside s) = s
done_b before_format = false
done_b behind_format = false
done_b (before_count k) = false
done_b (within k n) = false
done_b (passing s x) = false
done_b bad = false

abbrev pub form_b : List Row → Bool
form_b rs = all_b (items (outside false) rs) && done_b (final (outside false) rs)
