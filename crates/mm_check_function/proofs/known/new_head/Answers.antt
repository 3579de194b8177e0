use Rattle.mm_unit_typing.specs.Functions.{heading}
use Rattle.mm_check_function.proofs.Table.{head_is}
use Rattle.mm_check_function.proofs.known.new_head.Goals as goal

pub returns : goal.returns
returns c = rw (c.in_ok-from_str.ensures, c.as_str.ensures, c.in_ok-from_slice.ensures, c.in_ok-none_virtual.ensures) (head_is c.args.number c.args.name.now (heading c.args.ty c.args.params.now))
