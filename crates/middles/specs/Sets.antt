-- Sets of middle nodes and the order in which they are chosen (02, Ask 12: "It chooses the fewest replacements that make the element valid at
-- its limit, and of equal numbers the set whose first differing node, in the order M01, M12, M02, is replaced").
--   none            == no node is replaced
--   set_of a b c     == M01, M12 and M02 are replaced where a, b and c say so
--   size s          == how many nodes are replaced
--   rank m          == the order of the nodes
--   FirstReplaced a b == the first node in which the sets a and b differ is replaced by a
--   Sooner a b      == a is chosen before b
-- Definitions only.
use Rattle.std.specs.Prelude.{◌≡◌, Bool, true, false, cond, ◌⊎◌, ℕ, ◌+◌, ◌<◌}
use Rattle.middles.specs.declared.Replaced.{Replaced}
use Rattle.middles.specs.Middles.{Middle, M01, M12, M02, has}

abbrev pub set_of : Bool → Bool → Bool → Replaced
set_of a b c = record { m01 = a; m12 = b; m02 = c }

abbrev pub none : Replaced
none = set_of false false false

abbrev pub one : Bool → ℕ
one b = cond b 1 0

abbrev pub size : Replaced → ℕ
size s = one s.m01 + one s.m12 + one s.m02

-- "in the order M01, M12, M02"
abbrev pub rank : Middle → ℕ
rank M01 = 0
rank M12 = 1
rank M02 = 2

pub record FirstReplaced (a b : Replaced) : Type 0 where
  pub node : Middle
  pub replaced : has a node ≡ true
  pub kept : has b node ≡ false
  pub same_before : (m : Middle) → rank m < rank node → has a m ≡ has b m

-- "the fewest replacements .., and of equal numbers .."
abbrev pub Sooner : Replaced → Replaced → Type 0
Sooner a b = (size a < size b) ⊎ ((size a ≡ size b) × FirstReplaced a b)
