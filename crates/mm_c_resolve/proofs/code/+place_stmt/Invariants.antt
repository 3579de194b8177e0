use Rattle.std.proofs.Common.{◌≡◌, take}
use Rattle.mm_c.specs.View as c
use Rattle.mm_c_placed.specs.View.{code_view}
use Rattle.mm_c_places.specs.Placed.{placed_code}
use Rattle.mm_c_resolve.specs.Named.{places_in, numbers_in}
use Rattle.mm_c_resolve.proofs.code.+place_stmt.Given as goal

abbrev pub invariant-place_code-loop-stmt : goal.invariant-place_code-loop-stmt
invariant-place_code-loop-stmt l = code_view l.all ≡ placed_code (numbers_in l.globals) (places_in l.locals) (c.code_view (take l.stmt-index l.stmts))
