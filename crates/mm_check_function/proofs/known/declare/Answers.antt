use Rattle.mm_unit_typing.specs.Functions.{heading}
use Rattle.mm_check_function.proofs.Table.{new_place, new_low}
use Rattle.mm_check_function.proofs.known.declare.Goals as goal

pub returns-in-None-clause-number : goal.returns-in-None-clause-number
returns-in-None-clause-number c = new_place c.args.fs.now c.push_function.new.fs c.args.name.now (heading c.args.ty c.args.params.now) c.push_function.result (rw (c.as_slice.ensures, c.as_str.ensures) at c.in-None.ensures) c.push_function.ensures.number c.push_function.ensures.functions

pub returns-in-None-clause-low : goal.returns-in-None-clause-low
returns-in-None-clause-low c = new_low c.args.fs.now c.push_function.new.fs c.args.name.now (heading c.args.ty c.args.params.now) c.push_function.result c.push_function.ensures.number c.push_function.ensures.functions
