use Rattle.std.proofs.Common.{sym}
use Rattle.mm_c_names.specs.Entries.{table_of}
use Rattle.mm_c_names.proofs.Named.{named_some, named_none}
use Rattle.mm_c_rules.proofs.items.is_declared.Goals as goal

pub returns-in-Some : goal.returns-in-Some
returns-in-Some c = sym (named_some (table_of c.args.declared.now) c.args.name.now _ c.in-Some.ensures)

pub returns-in-None : goal.returns-in-None
returns-in-None c = sym (named_none (table_of c.args.declared.now) c.args.name.now c.in-None.ensures)
