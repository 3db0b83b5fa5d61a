-- `mesh_elements::order_of` meets its contract, type by type.
use native.Mathlib.Omega.{arith}
use Rattle.mesh_elements.specs.Orders.{order}
use Rattle.mesh_elements.proofs.Orders.{order-six, order-nine, order-eight, order_none}
use Rattle.mesh_elements.proofs.order_of.Goals as goal

pub returns-in-9 : goal.returns-in-9
unfolding order
returns-in-9 c = order-six c.args.kind c.in-9.is

pub returns-in-10 : goal.returns-in-10
unfolding order
returns-in-10 c = order-nine c.args.kind c.in-10.is

pub returns-in-16 : goal.returns-in-16
unfolding order
returns-in-16 c = order-eight c.args.kind c.in-16.is

pub returns-in_default : goal.returns-in_default
unfolding order
returns-in_default c = order_none c.args.kind (λ e. absurd (omega arith)) (λ e. absurd (omega arith)) (λ e. absurd (omega arith))
