-- Which plain tree a tree in memory is.
use Rattle.std.specs.Prelude.{List, map}
use Rattle.mm_c.specs.declared.tree.CStmt.{CStmt, fold-CStmt}
use Rattle.mm_c.specs.declared.tree.CStmt.TheOpen.{CStmt-F, CBlock-F}
use Rattle.mm_c.specs.declared.tree.CBlock.{CBlock, fold-CBlock}
use Rattle.mm_c.specs.declared.tree.CFn.{CFn}
use Rattle.mm_c.specs.declared.tree.CItem.{CItem}
use Rattle.mm_c.specs.declared.tree.CItem.TheVariants as item
use Rattle.mm_c.specs.declared.tree.CProgram.{CProgram}
use Rattle.mm_c.specs.Tree as t

abbrev pub stmt_step : CStmt-F t.Stmt t.Block → t.Stmt
stmt_step (CStmt-F.Assign x r) = t.assign x r
stmt_step (CStmt-F.Store c p a) = t.store c p a
stmt_step (CStmt-F.Call c) = t.run c
stmt_step (CStmt-F.If a b) = t.if_only a b
stmt_step (CStmt-F.IfElse a b c) = t.if_else a b c
stmt_step (CStmt-F.While b) = t.forever b
stmt_step CStmt-F.Break = t.break
stmt_step CStmt-F.Continue = t.continue
stmt_step CStmt-F.Return = t.leave
stmt_step (CStmt-F.ReturnValue a) = t.return a

abbrev pub block_step : CBlock-F t.Stmt t.Block → t.Block
block_step b = t.block b.locals (t.code_of b.body)

abbrev pub stmt_view : CStmt → t.Stmt
stmt_view = fold-CStmt t.Stmt t.Block stmt_step block_step

abbrev pub block_view : CBlock → t.Block
block_view = fold-CBlock t.Stmt t.Block stmt_step block_step

abbrev pub code_view : List CStmt → t.Code
code_view ss = t.code_of (map stmt_view ss)

abbrev pub function_view : CFn → t.Function
function_view f = record { linkage = f.linkage; result = f.result; name = f.name; params = f.params; body = block_view f.body }

abbrev pub item_view : CItem → t.Item
item_view (item.Typedef d) = t.typedef d
item_view (item.Array a) = t.array a
item_view (item.Proto p) = t.proto p
item_view (item.Function f) = t.function (function_view f)

abbrev pub program_view : CProgram → t.Program
program_view p = record { items = map item_view p.items }
