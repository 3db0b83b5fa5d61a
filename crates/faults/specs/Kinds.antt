-- The kinds as the code has them.
--   meant k   == the kind of 01 that k is
--   nodes_of k == how many nodes it has
--   Reads n r == r is the kind of n nodes, or the refusal 1 where there is none
-- Definitions only.
use Rattle.std.specs.Prelude.{◌≡◌, ℕ, Result, Ok, Err}
use Rattle.element.specs.Kinds.{six, eight, nine, ten, node_count, NotKind}
use Rattle.element.specs.Kinds as element
use Rattle.faults.specs.declared.kind.Kind.{Kind}
use Rattle.faults.specs.declared.kind.Kind.TheVariants.{Six, Eight, Nine, Ten}
use Rattle.faults.specs.declared.refusal.Refusal.{Refusal}
use Rattle.faults.specs.Refusal.{number_of}

abbrev pub meant : Kind → element.Kind
meant Six = six
meant Eight = eight
meant Nine = nine
meant Ten = ten

abbrev pub nodes_of : Kind → ℕ
nodes_of k = node_count (meant k)

abbrev pub Reads : ℕ → Result Kind Refusal → Type 0
Reads n (Ok k) = nodes_of k ≡ n
Reads n (Err e) = NotKind n × (number_of e ≡ 1)
