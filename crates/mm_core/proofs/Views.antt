-- What the views of trees in memory give, variant by variant.
use Rattle.std.proofs.Common.{◌≡◌, ℕ, List, ◌∷◌, Option, refl, sym, ap, ◌∙◌}
use Rattle.std.specs.Prelude.{ℤ, Bool}
use Rattle.mm_base.specs.declared.world.Builtin.{Builtin}
use Rattle.mm_core.specs.declared.part.Operator.{Operator}
use Rattle.mm_core.specs.declared.part.Target.{Target}
use Rattle.mm_core.specs.declared.part.Change.{Change}
use Rattle.mm_core.specs.Tree as t
use Rattle.mm_core.specs.declared.tree.Move.{Move}
use Rattle.mm_core.specs.declared.tree.CoreExpr.{CoreExpr, fold-roll-CoreExpr}
use Rattle.mm_core.specs.declared.tree.CoreExpr.TheVariants as expr
use Rattle.mm_core.specs.declared.tree.CoreExpr.TheOpen as open_expr
use Rattle.mm_core.specs.declared.tree.CoreStmt.{CoreStmt, fold-roll-CoreStmt}
use Rattle.mm_core.specs.declared.tree.CoreStmt.TheVariants as stmt
use Rattle.mm_core.specs.declared.tree.CoreStmt.TheOpen as open_stmt
use Rattle.mm_core.specs.View.{expr_step, expr_view, exprs_view, returns, stmt_step, stmt_view, stmts_view}

pub expr-Int : (z : ℤ) → expr_view (expr.Int z) ≡ t.int z
expr-Int z = ap expr_view (sym (expr.rolls-Int z)) ∙ fold-roll-CoreExpr t.Expr expr_step (open_expr.Int z)

pub expr-Unsigned : (n : ℕ) → expr_view (expr.Unsigned n) ≡ t.unsigned n
expr-Unsigned n = ap expr_view (sym (expr.rolls-Unsigned n)) ∙ fold-roll-CoreExpr t.Expr expr_step (open_expr.Unsigned n)

pub expr-Bool : (b : Bool) → expr_view (expr.Bool b) ≡ t.bool b
expr-Bool b = ap expr_view (sym (expr.rolls-Bool b)) ∙ fold-roll-CoreExpr t.Expr expr_step (open_expr.Bool b)

pub expr-Null : (c : ℕ) → expr_view (expr.Null c) ≡ t.null c
expr-Null c = ap expr_view (sym (expr.rolls-Null c)) ∙ fold-roll-CoreExpr t.Expr expr_step (open_expr.Null c)

pub expr-Local : (x : ℕ) → expr_view (expr.Local x) ≡ t.local x
expr-Local x = ap expr_view (sym (expr.rolls-Local x)) ∙ fold-roll-CoreExpr t.Expr expr_step (open_expr.Local x)

pub expr-SetLocal : (x : ℕ) (e : CoreExpr) → expr_view (expr.SetLocal x e) ≡ t.set_local x (expr_view e)
expr-SetLocal x e = ap expr_view (sym (expr.rolls-SetLocal x e)) ∙ fold-roll-CoreExpr t.Expr expr_step (open_expr.SetLocal x e)

pub expr-Field : (f : ℕ) (e : CoreExpr) → expr_view (expr.Field f e) ≡ t.field f (expr_view e)
expr-Field f e = ap expr_view (sym (expr.rolls-Field f e)) ∙ fold-roll-CoreExpr t.Expr expr_step (open_expr.Field f e)

pub expr-SetField : (f : ℕ) (e d : CoreExpr) → expr_view (expr.SetField f e d) ≡ t.set_field f (expr_view e) (expr_view d)
expr-SetField f e d = ap expr_view (sym (expr.rolls-SetField f e d)) ∙ fold-roll-CoreExpr t.Expr expr_step (open_expr.SetField f e d)

pub expr-NotNull : (e : CoreExpr) → expr_view (expr.NotNull e) ≡ t.not_null (expr_view e)
expr-NotNull e = ap expr_view (sym (expr.rolls-NotNull e)) ∙ fold-roll-CoreExpr t.Expr expr_step (open_expr.NotNull e)

pub expr-Move : (m : Move) (e : CoreExpr) → expr_view (expr.Move m e) ≡ t.move m.class m.node (expr_view e)
expr-Move m e = ap expr_view (sym (expr.rolls-Move m e)) ∙ fold-roll-CoreExpr t.Expr expr_step (open_expr.Move m e)

pub expr-Convert : (x : Target) (e : CoreExpr) → expr_view (expr.Convert x e) ≡ t.convert x (expr_view e)
expr-Convert x e = ap expr_view (sym (expr.rolls-Convert x e)) ∙ fold-roll-CoreExpr t.Expr expr_step (open_expr.Convert x e)

pub expr-Binary : (op : Operator) (d e : CoreExpr) → expr_view (expr.Binary op d e) ≡ t.binary op (expr_view d) (expr_view e)
expr-Binary op d e = ap expr_view (sym (expr.rolls-Binary op d e)) ∙ fold-roll-CoreExpr t.Expr expr_step (open_expr.Binary op d e)

pub expr-Not : (e : CoreExpr) → expr_view (expr.Not e) ≡ t.negation (expr_view e)
expr-Not e = ap expr_view (sym (expr.rolls-Not e)) ∙ fold-roll-CoreExpr t.Expr expr_step (open_expr.Not e)

pub expr-And : (d e : CoreExpr) → expr_view (expr.And d e) ≡ t.both (expr_view d) (expr_view e)
expr-And d e = ap expr_view (sym (expr.rolls-And d e)) ∙ fold-roll-CoreExpr t.Expr expr_step (open_expr.And d e)

pub expr-Or : (d e : CoreExpr) → expr_view (expr.Or d e) ≡ t.either (expr_view d) (expr_view e)
expr-Or d e = ap expr_view (sym (expr.rolls-Or d e)) ∙ fold-roll-CoreExpr t.Expr expr_step (open_expr.Or d e)

pub expr-Choose : (c d e : CoreExpr) → expr_view (expr.Choose c d e) ≡ t.choose (expr_view c) (expr_view d) (expr_view e)
expr-Choose c d e = ap expr_view (sym (expr.rolls-Choose c d e)) ∙ fold-roll-CoreExpr t.Expr expr_step (open_expr.Choose c d e)

pub expr-Call : (f : ℕ) (es : List CoreExpr) → expr_view (expr.Call f es) ≡ t.call f (exprs_view es)
expr-Call f es = ap expr_view (sym (expr.rolls-Call f es)) ∙ fold-roll-CoreExpr t.Expr expr_step (open_expr.Call f es)

pub expr-VirtualCall : (m : ℕ) (e : CoreExpr) (es : List CoreExpr) → expr_view (expr.VirtualCall m e es) ≡ t.virtual_call m (expr_view e) (exprs_view es)
expr-VirtualCall m e es = ap expr_view (sym (expr.rolls-VirtualCall m e es)) ∙ fold-roll-CoreExpr t.Expr expr_step (open_expr.VirtualCall m e es)

pub expr-OpenCall : (f : ℕ) (es : List CoreExpr) → expr_view (expr.OpenCall f es) ≡ t.open_call f (exprs_view es)
expr-OpenCall f es = ap expr_view (sym (expr.rolls-OpenCall f es)) ∙ fold-roll-CoreExpr t.Expr expr_step (open_expr.OpenCall f es)

pub expr-Builtin : (b : Builtin) (es : List CoreExpr) → expr_view (expr.Builtin b es) ≡ t.builtin b (exprs_view es)
expr-Builtin b es = ap expr_view (sym (expr.rolls-Builtin b es)) ∙ fold-roll-CoreExpr t.Expr expr_step (open_expr.Builtin b es)

pub expr-New : (c : ℕ) → expr_view (expr.New c) ≡ t.new c
expr-New c = ap expr_view (sym (expr.rolls-New c)) ∙ fold-roll-CoreExpr t.Expr expr_step (open_expr.New c)

pub expr-StepLocal : (x : ℕ) (c : Change) → expr_view (expr.StepLocal x c) ≡ t.step_local x c
expr-StepLocal x c = ap expr_view (sym (expr.rolls-StepLocal x c)) ∙ fold-roll-CoreExpr t.Expr expr_step (open_expr.StepLocal x c)

pub expr-StepField : (f : ℕ) (c : Change) (e : CoreExpr) → expr_view (expr.StepField f c e) ≡ t.step_field f c (expr_view e)
expr-StepField f c e = ap expr_view (sym (expr.rolls-StepField f c e)) ∙ fold-roll-CoreExpr t.Expr expr_step (open_expr.StepField f c e)

pub expr-Compound : (op : Operator) (f : ℕ) (e d : CoreExpr) → expr_view (expr.Compound op f e d) ≡ t.compound op f (expr_view e) (expr_view d)
expr-Compound op f e d = ap expr_view (sym (expr.rolls-Compound op f e d)) ∙ fold-roll-CoreExpr t.Expr expr_step (open_expr.Compound op f e d)

pub stmt-Block : (ss : List CoreStmt) → stmt_view (stmt.Block ss) ≡ t.block (stmts_view ss)
stmt-Block ss = ap stmt_view (sym (stmt.rolls-Block ss)) ∙ fold-roll-CoreStmt t.Stmt stmt_step (open_stmt.Block ss)

pub stmt-Do : (e : CoreExpr) → stmt_view (stmt.Do e) ≡ t.run (expr_view e)
stmt-Do e = ap stmt_view (sym (stmt.rolls-Do e)) ∙ fold-roll-CoreStmt t.Stmt stmt_step (open_stmt.Do e)

pub stmt-If : (e : CoreExpr) (ss ts : List CoreStmt) → stmt_view (stmt.If e ss ts) ≡ t.if_else (expr_view e) (stmts_view ss) (stmts_view ts)
stmt-If e ss ts = ap stmt_view (sym (stmt.rolls-If e ss ts)) ∙ fold-roll-CoreStmt t.Stmt stmt_step (open_stmt.If e ss ts)

pub stmt-While : (e : CoreExpr) (ss : List CoreStmt) → stmt_view (stmt.While e ss) ≡ t.while_do (expr_view e) (stmts_view ss)
stmt-While e ss = ap stmt_view (sym (stmt.rolls-While e ss)) ∙ fold-roll-CoreStmt t.Stmt stmt_step (open_stmt.While e ss)

pub stmt-DoWhile : (ss : List CoreStmt) (e : CoreExpr) → stmt_view (stmt.DoWhile ss e) ≡ t.do_while (stmts_view ss) (expr_view e)
stmt-DoWhile ss e = ap stmt_view (sym (stmt.rolls-DoWhile ss e)) ∙ fold-roll-CoreStmt t.Stmt stmt_step (open_stmt.DoWhile ss e)

pub stmt-For : (e : CoreExpr) (s : CoreStmt) (ss : List CoreStmt) → stmt_view (stmt.For e s ss) ≡ t.for_do (expr_view e) (stmt_view s) (stmts_view ss)
stmt-For e s ss = ap stmt_view (sym (stmt.rolls-For e s ss)) ∙ fold-roll-CoreStmt t.Stmt stmt_step (open_stmt.For e s ss)

pub stmt-Break : stmt_view stmt.Break ≡ t.break
stmt-Break = ap stmt_view (sym stmt.rolls-Break) ∙ fold-roll-CoreStmt t.Stmt stmt_step open_stmt.Break

pub stmt-Continue : stmt_view stmt.Continue ≡ t.continue
stmt-Continue = ap stmt_view (sym stmt.rolls-Continue) ∙ fold-roll-CoreStmt t.Stmt stmt_step open_stmt.Continue

pub stmt-Return : (o : Option CoreExpr) → stmt_view (stmt.Return o) ≡ returns o
stmt-Return o = ap stmt_view (sym (stmt.rolls-Return o)) ∙ fold-roll-CoreStmt t.Stmt stmt_step (open_stmt.Return o)

pub stmt-Make : (x : ℕ) → stmt_view (stmt.Make x) ≡ t.make x
stmt-Make x = ap stmt_view (sym (stmt.rolls-Make x)) ∙ fold-roll-CoreStmt t.Stmt stmt_step (open_stmt.Make x)

exprs_view-first : (es : List CoreExpr) (e : CoreExpr) → exprs_view (e ∷ es) ≡ t.expr_and (expr_view e) (exprs_view es)
exprs_view-first es e = refl

pub ruleset core_rules = (expr-Int, expr-Unsigned, expr-Bool, expr-Null, expr-Local, expr-SetLocal, expr-Field, expr-SetField, expr-NotNull, expr-Move, expr-Convert, expr-Binary, expr-Not, expr-And, expr-Or, expr-Choose, expr-Call, expr-VirtualCall, expr-OpenCall, expr-Builtin, expr-New, expr-StepLocal, expr-StepField, expr-Compound, stmt-Block, stmt-Do, stmt-If, stmt-While, stmt-DoWhile, stmt-For, stmt-Break, stmt-Continue, stmt-Return, stmt-Make)
