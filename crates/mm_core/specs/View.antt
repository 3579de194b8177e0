-- Which plain tree a tree in memory is.
use Rattle.std.specs.Prelude.{Bool, true, false, List, [], ◌∷◌, map, Option, Some, None}
use Rattle.mm_classes.specs.Classes.{Class}
use Rattle.mm_core.specs.declared.tree.CoreExpr.{CoreExpr, fold-CoreExpr}
use Rattle.mm_core.specs.declared.tree.CoreExpr.TheOpen.{CoreExpr-F}
use Rattle.mm_core.specs.declared.tree.CoreStmt.{CoreStmt, fold-CoreStmt}
use Rattle.mm_core.specs.declared.tree.CoreStmt.TheOpen.{CoreStmt-F}
use Rattle.mm_core.specs.declared.tree.CoreFn.{CoreFn}
use Rattle.mm_core.specs.Tree as t

abbrev pub exprs_of : List t.Expr → t.Exprs
exprs_of [] = t.no_exprs
exprs_of (e ∷ es) = t.expr_and e (exprs_of es)

abbrev pub stmts_of : List t.Stmt → t.Stmts
stmts_of [] = t.no_stmts
stmts_of (s ∷ ss) = t.stmt_and s (stmts_of ss)

-- one level, with each tree inside already seen as its plain tree
abbrev pub expr_step : CoreExpr-F t.Expr → t.Expr
expr_step (CoreExpr-F.Int z) = t.int z
expr_step (CoreExpr-F.Unsigned n) = t.unsigned n
expr_step (CoreExpr-F.Bool b) = t.bool b
expr_step (CoreExpr-F.Null c) = t.null c
expr_step (CoreExpr-F.Local x) = t.local x
expr_step (CoreExpr-F.SetLocal x e) = t.set_local x e
expr_step (CoreExpr-F.Field f e) = t.field f e
expr_step (CoreExpr-F.SetField f e d) = t.set_field f e d
expr_step (CoreExpr-F.NotNull e) = t.not_null e
expr_step (CoreExpr-F.Move m e) = t.move m.class m.node e
expr_step (CoreExpr-F.Convert x e) = t.convert x e
expr_step (CoreExpr-F.Binary op d e) = t.binary op d e
expr_step (CoreExpr-F.Not e) = t.negation e
expr_step (CoreExpr-F.And d e) = t.both d e
expr_step (CoreExpr-F.Or d e) = t.either d e
expr_step (CoreExpr-F.Choose c d e) = t.choose c d e
expr_step (CoreExpr-F.Call f es) = t.call f (exprs_of es)
expr_step (CoreExpr-F.VirtualCall m e es) = t.virtual_call m e (exprs_of es)
expr_step (CoreExpr-F.OpenCall f es) = t.open_call f (exprs_of es)
expr_step (CoreExpr-F.Builtin b es) = t.builtin b (exprs_of es)
expr_step (CoreExpr-F.New c) = t.new c
expr_step (CoreExpr-F.StepLocal x c) = t.step_local x c
expr_step (CoreExpr-F.StepField f c e) = t.step_field f c e
expr_step (CoreExpr-F.Compound op f e d) = t.compound op f e d

abbrev pub expr_view : CoreExpr → t.Expr
expr_view = fold-CoreExpr t.Expr expr_step

abbrev pub exprs_view : List CoreExpr → t.Exprs
exprs_view es = exprs_of (map expr_view es)

abbrev pub returns : Option CoreExpr → t.Stmt
returns None = t.return_nothing
returns (Some e) = t.return (expr_view e)

abbrev pub stmt_step : CoreStmt-F t.Stmt → t.Stmt
stmt_step (CoreStmt-F.Block ss) = t.block (stmts_of ss)
stmt_step (CoreStmt-F.Do e) = t.run (expr_view e)
stmt_step (CoreStmt-F.If e ss ts) = t.if_else (expr_view e) (stmts_of ss) (stmts_of ts)
stmt_step (CoreStmt-F.While e ss) = t.while_do (expr_view e) (stmts_of ss)
stmt_step (CoreStmt-F.DoWhile ss e) = t.do_while (stmts_of ss) (expr_view e)
stmt_step (CoreStmt-F.For e s ss) = t.for_do (expr_view e) s (stmts_of ss)
stmt_step CoreStmt-F.Break = t.break
stmt_step CoreStmt-F.Continue = t.continue
stmt_step (CoreStmt-F.Return o) = returns o
stmt_step (CoreStmt-F.Make x) = t.make x

abbrev pub stmt_view : CoreStmt → t.Stmt
stmt_view = fold-CoreStmt t.Stmt stmt_step

abbrev pub stmts_view : List CoreStmt → t.Stmts
stmts_view ss = stmts_of (map stmt_view ss)

abbrev pub body_view : Option CoreStmt → Option t.Stmt
body_view None = None
body_view (Some s) = Some (stmt_view s)

abbrev pub function_view : CoreFn → t.Function
function_view f = record {
  name = f.name;
  defined = f.defined;
  in_class = f.in_class;
  member = f.member;
  place = f.place;
  result = f.result;
  params = f.params;
  locals = f.locals;
  body = body_view f.body;
}

abbrev pub program_view : List Class → List CoreFn → t.Program
program_view g fs = record { classes = g; functions = map function_view fs }

-- the statement makes a class variable
abbrev pub is_make : t.Stmt → Bool
is_make (t.make x) = true
is_make other = false
