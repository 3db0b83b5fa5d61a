-- What the call `append_mesh` answers, and what it leaves in the buffer lent to it (02, Ask 1; docs/GMSH.md, G20 to G23).
--   HasMesh t        == the text says some nodes and elements: it is of the form, and no node number stands twice
--   Unfit t, Lacking t == codes 14 and 15 of a text of the form, also where a number stands twice
--   text_codes t      == the order of the text: "13 over the whole text first, then 14, then 15"
--   mesh_codes t b used == "then append's for `used` and block, even with nothing to append"
--   Said t level gs p == gs are what is taken of the text, each with this level limit, and p of its elements are passed over
--   refusal c n      == the answer of a refusal
--   as_meshed d      == the answer that the call's result tells
--   NotOpened t b used r a == a refusal before any element is tried
--   NotTaken t level b used r a == a refusal of an element: the code of the first `append_record` of the run that is refused
--   IsTaken t level b used r a == a success: what the run of `append_record` over all of them answers and leaves
--   Tries t level b used r a == the one or the other of these two
--   AppendsMesh t level b used r a == one of the three
-- t is the text, b and a are the buffer's content before and after, r is the answer.
-- Definitions only.
use Rattle.std.specs.Prelude.{◌≡◌, List, ◌⊎◌, ℕ, ◌+◌, ◌*◌, length, Result, Ok, Err}
use Rattle.element.specs.Refusals.{Codes, no_more, code, ◌then◌, Refused, Accepted}
use Rattle.block.specs.Faults.{Fault, naming}
use Rattle.append.specs.Append.{buffer_codes}
use Rattle.append.specs.Series.{Given, Series}
use Rattle.mesh_form.specs.Mesh.{Node, Element, Form, Mesh}
use Rattle.mesh_numbers.specs.Numbers.{Unlisted}
use Rattle.mesh_elements.specs.Takings.{NotFlat, Takings}
use Rattle.faults.specs.Refusal.{number_of}
use Rattle.block.specs.declared.Refused.{Refused as RefusedAnswer}
use Rattle.mesh.specs.declared.Meshed.{Meshed}
use Rattle.mesh.specs.declared.Added.{Added}

-- ---- the text
-- 13: "text not of this form, a node number listed twice, a node or element number beyond u32"
abbrev pub HasMesh : List ℕ → Type 0
HasMesh t = (ns : List Node) × ((es : List Element) × Mesh t ns es)

-- 14: "a coordinate of any node not whole or z not 0"
pub record Unfit (t : List ℕ) : Type 0 where
  pub nodes : List Node
  pub elements : List Element
  pub form : Form t nodes elements
  pub not_flat : NotFlat nodes

-- 15: "a node number in the three types that isn't listed"
pub record Lacking (t : List ℕ) : Type 0 where
  pub nodes : List Node
  pub elements : List Element
  pub form : Form t nodes elements
  pub unlisted : Unlisted nodes elements

abbrev pub text_codes : List ℕ → Codes ℕ
text_codes t = code 13 (¬ HasMesh t) (code 14 (Unfit t) (code 15 (Lacking t) no_more))

abbrev pub mesh_codes : List ℕ → List ℕ → ℕ → Codes Fault
mesh_codes t b used = naming 0 (text_codes t) then buffer_codes b used

pub record Said (t : List ℕ) (level : ℕ) (gs : List Given) (p : ℕ) : Type 0 where
  pub nodes : List Node
  pub elements : List Element
  pub mesh : Mesh t nodes elements
  pub takings : Takings level nodes elements gs p

-- ---- the answer
-- "A refusal returns the code, the record number for faults in a stored record (else 0), zero in all other fields"
abbrev pub refusal : ℕ → ℕ → Meshed
refusal c n = record { code = c; number = n; used = 0; appended = 0; passed = 0 }

abbrev pub as_meshed : Result Added RefusedAnswer → Meshed
as_meshed (Ok d) = record { code = 0; number = 0; used = d.used; appended = d.appended; passed = d.passed }
as_meshed (Err e) = refusal (number_of e.refusal) e.number

pub record NotOpened (t b : List ℕ) (used : ℕ) (r : Meshed) (a : List ℕ) : Type 0 where
  pub refused : Refused (mesh_codes t b used) (record { code = r.code; number = r.number })
  pub zeros : r ≡ refusal r.code r.number
  pub untouched : a ≡ b

-- "then its others, element by element": 2, 4, 21, 10, 11, 5
pub record NotTaken (t : List ℕ) (level : ℕ) (b : List ℕ) (used : ℕ) (r : Meshed) (a : List ℕ) : Type 0 where
  pub accepted : Accepted (mesh_codes t b used)
  pub given : List Given
  pub passed : ℕ
  pub said : Said t level given passed
  pub left : List ℕ
  pub stopped : Series b used given (record { code = r.code; number = 0; used = 0 }) left
  pub some : ¬ (r.code ≡ 0)
  pub zeros : r ≡ refusal r.code 0
  pub untouched : a ≡ b

pub record IsTaken (t : List ℕ) (level : ℕ) (b : List ℕ) (used : ℕ) (r : Meshed) (a : List ℕ) : Type 0 where
  pub accepted : Accepted (mesh_codes t b used)
  pub given : List Given
  pub passed : ℕ
  pub said : Said t level given passed
  pub answer : r ≡ record { code = 0; number = 0; used = used + 80 * length given; appended = length given; passed = passed }
  pub done : Series b used given (record { code = 0; number = 0; used = r.used }) a

abbrev pub Tries : List ℕ → ℕ → List ℕ → ℕ → Meshed → List ℕ → Type 0
Tries t level b used r a = NotTaken t level b used r a ⊎ IsTaken t level b used r a

abbrev pub AppendsMesh : List ℕ → ℕ → List ℕ → ℕ → Meshed → List ℕ → Type 0
AppendsMesh t level b used r a = NotOpened t b used r a ⊎ Tries t level b used r a
