use Rattle.std.proofs.Common.{ap, ◌∙◌}
use Rattle.mm_c.specs.WellFormed.{entry_in, prelude}
use Rattle.mm_c_names.proofs.Entries.{found, missed}
use Rattle.mm_c_names.proofs.declared.Declared.entry_of.Goals as goal

pub returns-in-Some : goal.returns-in-Some
returns-in-Some c = found c.self.inside.entries c.self.inside.before.now c.args.self.now c.as_str.result.now c.args.name.now c.in-Some.entry.now c.self.invariant c.self.view_is c.as_str.ensures c.in-Some.ensures.value

pub returns-in-None : goal.returns-in-None
returns-in-None c =
    c.prelude_entry.ensures ∙ ap (entry_in prelude) c.as_bytes.ensures
    ∙ missed c.self.inside.entries c.self.inside.before.now c.args.self.now c.as_str.result.now c.args.name.now c.self.invariant c.self.view_is c.as_str.ensures c.in-None.ensures.value
