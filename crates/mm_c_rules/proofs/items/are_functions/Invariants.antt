use Rattle.std.proofs.Common.{◌≡◌, drop}
use Rattle.mm_c.specs.WellFormed.{is_function_in, list_every}
use Rattle.mm_c_names.specs.Entries.{table_of}
use Rattle.mm_c_rules.proofs.items.are_functions.Given as goal

abbrev pub invariant-loop-element : goal.invariant-loop-element
invariant-loop-element l =
    list_every (is_function_in (table_of l.declared) l.typedef.result l.typedef.kinds) l.elements
    ≡ list_every (is_function_in (table_of l.declared) l.typedef.result l.typedef.kinds) (drop l.element-index l.elements)
