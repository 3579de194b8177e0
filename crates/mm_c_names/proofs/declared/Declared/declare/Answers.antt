use Rattle.std.proofs.Common.{ap, ◌∙◌, subst}
use Rattle.mm_c.specs.View.{item_view}
use Rattle.mm_c_names.specs.Entries.{entry_by, table_of}
use Rattle.mm_c_names.specs.Tables.{AreEntries}
use Rattle.mm_c_names.proofs.Entries.{entries_more}
use Rattle.mm_c_names.proofs.declared.Declared.declare.Goals as goal

pub invariant_of-self-2 : goal.invariant_of-self-2
invariant_of-self-2 c =
    entries_more c.self.inside.entries c.insert.new.self c.args.items.now c.args.i c.index-items-i.result c.item_entry-entry.result c.item_name.result.now
    c.requires.within c.index-items-i.is c.in_ok-insert.ensures.updates c.item_name.ensures
    (c.item_entry-entry.ensures ∙ ap (λ b. entry_by (table_of b) (item_view c.index-items-i.result)) c.requires.before)
    (subst (AreEntries c.self.inside.entries) (c.self.view_is ∙ c.requires.before) c.self.invariant)
