use Rattle.std.proofs.Common.{refl}
use Rattle.mm_paths.proofs.Building.{virtual_declared, virtual_inherited}
use Rattle.mm_paths.proofs.build.is_new_polymorphic.Goals as goal

pub returns-then-any_virtual : goal.returns-then-any_virtual
returns-then-any_virtual c = ((λ e. virtual_declared c.args.graph.now c.args.bases.now c.args.members.now c.any_virtual.result c.any_virtual.ensures c.if-any_virtual.true), λ h. refl)

pub returns : goal.returns
returns c = virtual_inherited c.args.graph.now c.args.bases.now c.args.members.now c.any_virtual.result c.any_polymorphic.result c.any_virtual.ensures c.if-any_virtual.false c.any_polymorphic.ensures
