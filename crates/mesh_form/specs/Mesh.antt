-- What a Gmsh MSH 2.2 text says: its nodes and its elements (docs/GMSH.md, G4 to G18). Rows, words and numbers are those of mesh_text.
--   Row            == a list of words
--   mark x, ended x == the row of the one word $x, and of the one word $Endx
--   format, nodes, elements == the names of the three sections that are read
--   Node, Element  == what a row of the one and of the other says; coordinates as they are written
--   Counts w n     == the word w is the whole number n, above 0
--   FormatRow r, NodeRow r n, ElementRow r e == G8; G12; G13 to G15
--   Counted P b xs == b is a row of one number and then so many rows, P of each and each of xs in turn
--   Section        == a name and a body
--   Sections q ss  == the rows q are the sections ss, one after the other, and nothing else; a body ends at its first end row
--   Other x        == x is none of the three names
--   FormatFirst ss == one of the three is in ss, and the first of them is a format
--   FormatBody b, Formats ss == b is one row of a format; the body of each format in ss is
--   Gathered P x ss ys == the bodies of all sections of ss named x, each Counted P, make ys together, in order
--   Form t ns es   == the rows of t are such sections, and ns and es are the nodes and elements of them
--   HasForm t, Formed t r == t is of the form; r says whether it is
--   RepeatsIn P l, Repeats l == some number, of which P holds, stands twice in l; some number does
--   numbers_of ns   == the numbers of nodes
--   Mesh t ns es   == Form, and no number stands twice in ns
-- Definitions only.
use Rattle.std.specs.Prelude.{◌≡◌, Bool, true, false, ℕ, ◌<◌, length}
use mathlib.Core.List.{List, [], ◌∷◌, ◌++◌, map, Memᴰ}
use Rattle.mesh_text.specs.declared.Class.TheVariants.{Zero}
use Rattle.mesh_text.specs.Rows.{All, Pairs, in_class, rows}
use Rattle.mesh_text.specs.Words.{Number, IsTag, IsNumber}

abbrev pub Row : Type 0
Row = List (List ℕ)

-- ---- marks; 36 is the dollar sign, 69 110 100 are "End"
abbrev pub mark : List ℕ → Row
mark x = (36 ∷ x) ∷ []

abbrev pub ended : List ℕ → Row
ended x = (36 ∷ 69 ∷ 110 ∷ 100 ∷ x) ∷ []

-- "MeshFormat", "Nodes", "Elements"
abbrev pub format : List ℕ
format = 77 ∷ 101 ∷ 115 ∷ 104 ∷ 70 ∷ 111 ∷ 114 ∷ 109 ∷ 97 ∷ 116 ∷ []

abbrev pub nodes : List ℕ
nodes = 78 ∷ 111 ∷ 100 ∷ 101 ∷ 115 ∷ []

abbrev pub elements : List ℕ
elements = 69 ∷ 108 ∷ 101 ∷ 109 ∷ 101 ∷ 110 ∷ 116 ∷ 115 ∷ []

-- ---- nodes and elements
pub record Node : Type 0 where
  pub number : ℕ
  pub x : List ℕ
  pub y : List ℕ
  pub z : List ℕ

pub record Element : Type 0 where
  pub number : ℕ
  pub type : ℕ
  pub nodes : List ℕ

-- ---- what a row says
-- G11: a number above 0
pub record Counts (w : List ℕ) (n : ℕ) : Type 0 where
  pub number : Number w n
  pub positive : 0 < n

-- G8: 2.2 with zeros behind it or none, 0, 8; 50 46 50 is 2.2
pub data FormatRow : Row → Type 0 where
  format_row : {z a b : List ℕ}
      → All (λ c. in_class Zero c ≡ true) z
      → Number a 0
      → Number b 8
      → FormatRow ((50 ∷ 46 ∷ 50 ∷ z) ∷ a ∷ b ∷ [])

-- G12: a number and three coordinates
pub data NodeRow : Row → Node → Type 0 where
  node_row : {a x y z : List ℕ} {n : ℕ}
      → Counts a n
      → IsNumber x
      → IsNumber y
      → IsNumber z
      → NodeRow (a ∷ x ∷ y ∷ z ∷ []) (record { number = n; x = x; y = y; z = z })

-- G15: how many node numbers a type has
pub record NodeCount (k n : ℕ) : Type 0 where
  pub some : 0 < n
  pub six : k ≡ 9 → n ≡ 6
  pub nine : k ≡ 10 → n ≡ 9
  pub eight : k ≡ 16 → n ≡ 8

-- G13, G14: number, type, how many tags, the tags ts, the node numbers ws
pub data ElementRow : Row → Element → Type 0 where
  element_row : {a b c : List ℕ} {n k : ℕ} {ts ws : List (List ℕ)} {ms : List ℕ}
      → Counts a n
      → Counts b k
      → Number c (length ts)
      → All IsTag ts
      → Pairs Counts ws ms
      → NodeCount k (length ms)
      → ElementRow (a ∷ b ∷ c ∷ (ts ++ ws)) (record { number = n; type = k; nodes = ms })

-- G9: a count, and exactly so many rows
pub data Counted {A : Type 0} (P : Row → A → Type 0) : List Row → List A → Type 0 where
  counted : {c : List ℕ} {rs : List Row} {xs : List A} → Number c (length rs) → Pairs P rs xs → Counted P ((c ∷ []) ∷ rs) xs

-- ---- sections
pub record Section : Type 0 where
  pub name : List ℕ
  pub body : List Row

-- G4, G5: a mark, a body without its end row, the end row, and so on to the last row; any name, also an empty one
pub data Sections : List Row → List Section → Type 0 where
  no_sections : Sections [] []
  section : {x : List ℕ} {b q : List Row} {ss : List Section}
      → ¬ Memᴰ (ended x) b
      → Sections q ss
      → Sections (mark x ∷ (b ++ (ended x ∷ q))) (record { name = x; body = b } ∷ ss)

-- G6: a section of such a name is passed over, whatever its body holds
pub record Other (x : List ℕ) : Type 0 where
  pub not_format : ¬ (x ≡ format)
  pub not_nodes : ¬ (x ≡ nodes)
  pub not_elements : ¬ (x ≡ elements)

-- G7: one of the three is there, and the first of them is a format
pub data FormatFirst : List Section → Type 0 where
  at_once : {s : Section} {ss : List Section} → s.name ≡ format → FormatFirst (s ∷ ss)
  after_other : {s : Section} {ss : List Section} → Other s.name → FormatFirst ss → FormatFirst (s ∷ ss)

-- G8: one row, and no more
pub data FormatBody : List Row → Type 0 where
  format_body : {r : Row} → FormatRow r → FormatBody (r ∷ [])

-- G7: a second format must be good too
abbrev pub Formats : List Section → Type 0
Formats ss = All (λ s. s.name ≡ format → FormatBody s.body) ss

-- G7, G9: sections of one name, as many as there are and wherever they stand, each with its own count
pub data Gathered {A : Type 0} (P : Row → A → Type 0) (x : List ℕ) : List Section → List A → Type 0 where
  nothing : Gathered P x [] []
  this : {s : Section} {ss : List Section} {xs ys : List A}
      → s.name ≡ x
      → Counted P s.body xs
      → Gathered P x ss ys
      → Gathered P x (s ∷ ss) (xs ++ ys)
  that : {s : Section} {ss : List Section} {ys : List A}
      → ¬ (s.name ≡ x)
      → Gathered P x ss ys
      → Gathered P x (s ∷ ss) ys

-- ---- the form; double numbers apart
pub record Form (t : List ℕ) (ns : List Node) (es : List Element) : Type 0 where
  pub sections : List Section
  pub parted : Sections (rows t) sections
  pub first : FormatFirst sections
  pub formats : Formats sections
  pub nodes : Gathered NodeRow nodes sections ns
  pub elements : Gathered ElementRow elements sections es

-- 13 denies that there are such nodes and elements
abbrev pub HasForm : List ℕ → Type 0
HasForm t = (ns : List Node) × ((es : List Element) × Form t ns es)

pub record Formed (t : List ℕ) (r : Bool) : Type 0 where
  pub yes : r ≡ true → HasForm t
  pub no : r ≡ false → ¬ HasForm t

-- ---- G18: some number of which P holds stands twice in a list
pub data RepeatsIn (P : ℕ → Type 0) : List ℕ → Type 0 where
  here : {n : ℕ} {l : List ℕ} → P n → Memᴰ n l → RepeatsIn P (n ∷ l)
  later : {n : ℕ} {l : List ℕ} → RepeatsIn P l → RepeatsIn P (n ∷ l)

abbrev pub Repeats : List ℕ → Type 0
Repeats l = RepeatsIn (λ n. Unit {0}) l

abbrev pub numbers_of : List Node → List ℕ
numbers_of ns = map (λ n. n.number) ns

pub record Mesh (t : List ℕ) (ns : List Node) (es : List Element) : Type 0 where
  pub form : Form t ns es
  pub once : ¬ Repeats (numbers_of ns)
