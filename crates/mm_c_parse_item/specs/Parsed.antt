-- What a program that was read is: the value of the grammar's rule. Own.
use Rattle.std.specs.Prelude.{Result}
use Rattle.std.specs.Result.{result_map_both}
use Rattle.mm_c.specs.Tree.{Program}
use Rattle.mm_c.specs.Grammar.{Placed}
use Rattle.mm_c.specs.View.{program_view}
use Rattle.mm_c_parse.specs.declared.step.Stop.{Stop}
use Rattle.mm_c_parse_item.specs.declared.program.Parsed.{Parsed}

abbrev pub placed_of : Parsed → Placed Program
placed_of p = record { tree = program_view p.program; places = p.places }

-- the same of an answer
abbrev pub placed_in : Result Parsed Stop → Result (Placed Program) Stop
placed_in r = result_map_both (λ p. placed_of p) (λ e. e) r
