use Rattle.std.proofs.Common.{◌≡◌, ◌+◌, ◌*◌, ◌++◌, List, map, length}
use Rattle.mm_grammar.specs.Grammar.{name}
use Rattle.mm_c.specs.Tree.{Stmt}
use Rattle.mm_c.specs.Grammar.{Placed, stmt}
use Rattle.mm_c.specs.View.{stmt_view}
use Rattle.mm_c_parse.proofs.Many.{ManySoFar}
use Rattle.mm_c_parse_stmt.proofs.Stmts.{trees, places}
use Rattle.mm_c_parse_stmt.proofs.stmt.+block.Given as goal

abbrev pub decreases-block : goal.decreases-block
decreases-block l = 4 * l.depth

abbrev pub decreases-if_end : goal.decreases-if_end
decreases-if_end l = 4 * l.depth + 1

abbrev pub decreases-stmt : goal.decreases-stmt
decreases-stmt l = 4 * l.depth + 2

abbrev pub decreases-stmts : goal.decreases-stmts
decreases-stmts l = 4 * l.depth + 3

abbrev pub decreases-while_end : goal.decreases-while_end
decreases-while_end l = 4 * l.depth + 1

abbrev pub invariant-stmts-loop-alloc : goal.invariant-stmts-loop-alloc
invariant-stmts-loop-alloc l = record {
  done : List (Placed Stmt);
  so_far : ManySoFar (name (stmt l.depth)) done l.fn.cursor l.cursor;
  trees : trees done ≡ map stmt_view l.list;
  places : l.places ≡ l.fn.places ++ places done;
}

abbrev pub decreases-stmts-loop-alloc : goal.decreases-stmts-loop-alloc
decreases-stmts-loop-alloc l = length l.cursor
