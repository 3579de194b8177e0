-- Which plain tree a tree in memory is.
use Rattle.std.specs.Prelude.{List, map}
use Rattle.mm_c_placed.specs.declared.tree.PlacedStmt.{PlacedStmt, fold-PlacedStmt}
use Rattle.mm_c_placed.specs.declared.tree.PlacedStmt.TheOpen.{PlacedStmt-F}
use Rattle.mm_c_placed.specs.declared.tree.PlacedFunction.{PlacedFunction}
use Rattle.mm_c_placed.specs.declared.tree.PlacedArray.{PlacedArray}
use Rattle.mm_c_placed.specs.declared.tree.PlacedProgram.{PlacedProgram}
use Rattle.mm_c_placed.specs.Tree as t

abbrev pub stmt_step : PlacedStmt-F t.Stmt → t.Stmt
stmt_step (PlacedStmt-F.Locals xs) = t.locals xs
stmt_step (PlacedStmt-F.Assign x r) = t.assign x r
stmt_step (PlacedStmt-F.Store c p a) = t.store c p a
stmt_step (PlacedStmt-F.Call x f as_) = t.run x f as_
stmt_step (PlacedStmt-F.If a b c) = t.if_else a (t.code_of b) (t.code_of c)
stmt_step (PlacedStmt-F.While b) = t.forever (t.code_of b)
stmt_step PlacedStmt-F.Break = t.break
stmt_step PlacedStmt-F.Continue = t.continue
stmt_step PlacedStmt-F.Return = t.leave
stmt_step (PlacedStmt-F.ReturnValue a) = t.return a

abbrev pub stmt_view : PlacedStmt → t.Stmt
stmt_view = fold-PlacedStmt t.Stmt stmt_step

abbrev pub code_view : List PlacedStmt → t.Code
code_view ss = t.code_of (map stmt_view ss)

abbrev pub function_view : PlacedFunction → t.Function
function_view f = record { is_inline = f.is_inline; result = f.result; params = f.params; slots = f.slots; body = code_view f.body }

abbrev pub program_view : PlacedProgram → t.Program
program_view p = record { functions = map function_view p.functions; arrays = map (λ (a : PlacedArray). a.elements) p.arrays; main = p.main }
