use Rattle.std.proofs.Common.{◌≡◌, length, take}
use Rattle.mm_scopes.specs.Tables.{Ties}
use Rattle.mm_scopes.proofs.vars.pop_to.Given as goal

abbrev pub invariant-loop-list : goal.invariant-loop-list
invariant-loop-list l = record {
  tied : Ties l.list.items l.hidden.items l.innermost;
  rest : take l.outer l.list.items ≡ take l.outer l.initial.list.items;
}

abbrev pub decreases-loop-list : goal.decreases-loop-list
decreases-loop-list l = length l.list.items
