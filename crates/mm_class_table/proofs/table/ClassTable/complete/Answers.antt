use Rattle.std.proofs.Common.{◌≡◌, ℕ, get_or, set, refl, subst, sym, ap, ◌∙◌}
use Rattle.std.specs.Prelude.{true}
use Rattle.mm_classes.specs.Adding.{added}
use Rattle.mm_class_table.specs.declared.entry.Entry.{Entry}
use Rattle.mm_class_table.specs.Kept.{classes_in, IsKept}
use Rattle.mm_class_table.proofs.Completing.{completed}
use Rattle.mm_class_table.proofs.table.ClassTable.complete.Goals as goal

entry : (c : goal.After-drop-entry-2) → Entry
entry c = record { name = c.index_mut-entry.result.now.name; complete = true; bases = c.args.bases; members = c.args.members }

IsCompleted : (c : goal.After-drop-entry-2) → ℕ → Type 0
IsCompleted c i = IsKept c.self.inside.names.keys (set c.self.inside.entries.items i (entry c))
    × (classes_in (set c.self.inside.entries.items i (entry c)) ≡ added c.args.self.now c.args.class c.args.bases.items c.args.members.items)

facts : (c : goal.After-drop-entry-2) → IsCompleted c c.class.inside.number
unfolding entry IsCompleted
facts c = subst (IsCompleted c) (sym c.class.view_is) (completed c.self.inside.names.keys c.self.inside.entries.items c.args.self.now c.args.class c.args.bases.items c.args.members.items
    (entry c) c.index_mut-entry.result.now c.self.invariant c.self.view_is c.requires
    (c.index_mut-entry.ensures.value ∙ ap (λ i. get_or c.self.inside.entries.items i c.index_mut-entry.result.now) c.class.view_is) refl refl refl refl)

pub invariant_of-self : goal.invariant_of-self
unfolding entry IsCompleted
invariant_of-self c = (facts c).0

pub returns : goal.returns
unfolding entry IsCompleted
returns c = (facts c).1
