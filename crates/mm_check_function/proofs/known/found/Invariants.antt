use Rattle.std.proofs.Common.{◌≡◌, drop}
use Rattle.std.specs.Prelude.{find, option_map}
use Rattle.mm_scopes.specs.Names.{named}
use Rattle.mm_check_function.specs.Known.{found_in, has_params, number_in}
use Rattle.mm_check_function.proofs.known.found.Given as goal

abbrev pub invariant-loop-i : goal.invariant-loop-i
invariant-loop-i l = option_map number_in (find (has_params l.params) (drop l.i (named l.name l.env.functions))) ≡ found_in l.env.functions l.name l.params
