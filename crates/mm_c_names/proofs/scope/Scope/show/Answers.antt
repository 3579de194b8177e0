use Rattle.std.proofs.Common.{◌++◌, ◌∷◌, [], sym, ap, ◌∙◌}
use Rattle.mm_c.specs.WellFormed.{kind_in}
use Rattle.mm_c_names.proofs.Shown.{scope_more}
use Rattle.mm_c_names.proofs.scope.Scope.show.Goals as goal

pub invariant_of-self-2 : goal.invariant_of-self-2
invariant_of-self-2 c =
    scope_more c.self.inside.kinds c.insert.new.self (record { local = c.args.local; without = c.kind_in-without.result }) c.as_str.result.now c.as_str.ensures
    c.self.inside.shown.items c.push_reserved.new.self.items
    (c.push_reserved.ensures.items ∙ ap (λ xs. xs ++ record { local = c.args.local; without = c.kind_in-without.result } ∷ []) c.in_ok-reserve.ensures.items)
    (c.kind_in-without.ensures ∙ ap (λ ls. kind_in ls c.args.local.now.name) (sym c.self.view_is))
    c.in_ok-insert.ensures.updates c.self.invariant
