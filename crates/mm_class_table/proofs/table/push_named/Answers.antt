use Rattle.std.proofs.Common.{◌∷◌, [], ◌++◌, ap, ◌∙◌}
use Rattle.mm_class_table.proofs.Naming.{name_added}
use Rattle.mm_class_table.proofs.table.push_named.Goals as goal

pub returns-clause-names : goal.returns-clause-names
returns-clause-names c = name_added c.args.names.now.keys c.insert.new.self.keys c.in_ok-key.key c.args.name.now c.in_ok-key.ensures.ok c.requires c.in_ok-insert.ensures.keys

pub returns-clause-entries : goal.returns-clause-entries
returns-clause-entries c = (c.in_ok-entry.entry, c.push_reserved.ensures.items ∙ ap (λ z. z ++ c.in_ok-entry.entry ∷ []) c.in_ok-reserve.ensures.items, c.in_ok-entry.ensures)
