use Rattle.mm_c_names.proofs.Defined.{global_given, global_item}
use Rattle.mm_c_names.proofs.globals.Globals.has.Goals as goal

pub returns-then-is_some : goal.returns-then-is_some
returns-then-is_some c = global_given c.args.self.now c.prelude_entry.result c.as_bytes.result.now c.args.name.now c.is_some.result c.if-is_some.true c.is_some.ensures c.prelude_entry.ensures c.as_bytes.ensures

pub returns-else-is_some : goal.returns-else-is_some
returns-else-is_some c =
    global_item c.self.inside.defined c.self.inside.items.now c.args.self.now c.prelude_entry.result c.as_bytes.result.now c.args.name.now c.as_str.result.now c.is_some.result c.contains_key.result
    c.self.invariant c.self.view_is c.if-is_some.false c.is_some.ensures c.prelude_entry.ensures c.as_bytes.ensures c.contains_key.ensures c.as_str.ensures
