-- What the views of trees in memory give, kind by kind.
use Rattle.std.proofs.Common.{◌≡◌, ℕ, true, false, List, Option, sym, ap, ◌∙◌}
use Rattle.mm_base.specs.declared.place.Place.{Place}
use Rattle.mm_syntax.specs.declared.name.Name.{Name}
use Rattle.mm_syntax.specs.declared.name.Number.{Number}
use Rattle.mm_syntax.specs.declared.name.UnaryOperator.{UnaryOperator}
use Rattle.mm_syntax.specs.declared.name.StepOperator.{StepOperator}
use Rattle.mm_syntax.specs.declared.name.BinaryOperator.{BinaryOperator}
use Rattle.mm_syntax.specs.declared.name.AssignOperator.{AssignOperator}
use Rattle.mm_syntax.specs.declared.name.MemberOperator.{MemberOperator}
use Rattle.mm_syntax.specs.declared.expr.Expr.{Expr, fold_out-Expr}
use Rattle.mm_syntax.specs.declared.expr.ExprKind.{fold-roll-ExprKind}
use Rattle.mm_syntax.specs.declared.expr.ExprKind.TheVariants as e
use Rattle.mm_syntax.specs.declared.expr.ExprKind.TheOpen as open_expr
use Rattle.mm_syntax.specs.declared.stmt.Variables.{Variables}
use Rattle.mm_syntax.specs.declared.stmt.ForStart.{ForStart}
use Rattle.mm_syntax.specs.declared.stmt.Stmt.{Stmt, fold_out-Stmt}
use Rattle.mm_syntax.specs.declared.stmt.StmtKind.{fold-roll-StmtKind}
use Rattle.mm_syntax.specs.declared.stmt.StmtKind.TheVariants as s
use Rattle.mm_syntax.specs.declared.stmt.StmtKind.TheOpen as open_stmt
use Rattle.mm_syntax.specs.Tree as t
use Rattle.mm_syntax.specs.View.{expr_step, kind_view, expr_view, exprs_view, maybe_view, variables_view, start_view, return_view, stmt_step, stmt_kind_view, stmt_view, stmts_view}

pub expr-parts : (x : Expr) → expr_view x ≡ kind_view x.kind x.place
expr-parts x = fold_out-Expr (Place → t.Expr) t.Expr expr_step (λ y. y.kind y.place) x

pub expr-Number : (n : Number) (p : Place) → kind_view (e.Number n) p ≡ t.number p n
expr-Number n p = ap (λ k. kind_view k p) (sym (e.rolls-Number n)) ∙ ap (λ g. g p) (fold-roll-ExprKind (Place → t.Expr) t.Expr expr_step (λ x. x.kind x.place) (open_expr.Number n))

pub expr-True : (p : Place) → kind_view e.True p ≡ t.boolean p true
expr-True p = ap (λ k. kind_view k p) (sym e.rolls-True) ∙ ap (λ g. g p) (fold-roll-ExprKind (Place → t.Expr) t.Expr expr_step (λ x. x.kind x.place) open_expr.True)

pub expr-False : (p : Place) → kind_view e.False p ≡ t.boolean p false
expr-False p = ap (λ k. kind_view k p) (sym e.rolls-False) ∙ ap (λ g. g p) (fold-roll-ExprKind (Place → t.Expr) t.Expr expr_step (λ x. x.kind x.place) open_expr.False)

pub expr-This : (p : Place) → kind_view e.This p ≡ t.this p
expr-This p = ap (λ k. kind_view k p) (sym e.rolls-This) ∙ ap (λ g. g p) (fold-roll-ExprKind (Place → t.Expr) t.Expr expr_step (λ x. x.kind x.place) open_expr.This)

pub expr-Name : (text : List ℕ) (p : Place) → kind_view (e.Name text) p ≡ t.name p text
expr-Name text p = ap (λ k. kind_view k p) (sym (e.rolls-Name text)) ∙ ap (λ g. g p) (fold-roll-ExprKind (Place → t.Expr) t.Expr expr_step (λ x. x.kind x.place) (open_expr.Name text))

pub expr-Scoped : (class : Name) (word : Name) (p : Place) → kind_view (e.Scoped class word) p ≡ t.scoped p class word
expr-Scoped class word p = ap (λ k. kind_view k p) (sym (e.rolls-Scoped class word)) ∙ ap (λ g. g p) (fold-roll-ExprKind (Place → t.Expr) t.Expr expr_step (λ x. x.kind x.place) (open_expr.Scoped class word))

pub expr-Cast : (class : Name) (x : Expr) (p : Place) → kind_view (e.Cast class x) p ≡ t.cast p class (expr_view x)
expr-Cast class x p = ap (λ k. kind_view k p) (sym (e.rolls-Cast class x)) ∙ ap (λ g. g p) (fold-roll-ExprKind (Place → t.Expr) t.Expr expr_step (λ x. x.kind x.place) (open_expr.Cast class x))

pub expr-Unary : (op : UnaryOperator) (x : Expr) (p : Place) → kind_view (e.Unary op x) p ≡ t.unary p op (expr_view x)
expr-Unary op x p = ap (λ k. kind_view k p) (sym (e.rolls-Unary op x)) ∙ ap (λ g. g p) (fold-roll-ExprKind (Place → t.Expr) t.Expr expr_step (λ x. x.kind x.place) (open_expr.Unary op x))

pub expr-Step : (x : Expr) (op : StepOperator) (at : Place) (p : Place) → kind_view (e.Step x op at) p ≡ t.step p (expr_view x) op at
expr-Step x op at p = ap (λ k. kind_view k p) (sym (e.rolls-Step x op at)) ∙ ap (λ g. g p) (fold-roll-ExprKind (Place → t.Expr) t.Expr expr_step (λ x. x.kind x.place) (open_expr.Step x op at))

pub expr-Binary : (a : Expr) (op : BinaryOperator) (at : Place) (b : Expr) (p : Place) → kind_view (e.Binary a op at b) p ≡ t.binary p (expr_view a) op at (expr_view b)
expr-Binary a op at b p = ap (λ k. kind_view k p) (sym (e.rolls-Binary a op at b)) ∙ ap (λ g. g p) (fold-roll-ExprKind (Place → t.Expr) t.Expr expr_step (λ x. x.kind x.place) (open_expr.Binary a op at b))

pub expr-Choose : (a : Expr) (at : Place) (b : Expr) (c : Expr) (p : Place) → kind_view (e.Choose a at b c) p ≡ t.choose p (expr_view a) at (expr_view b) (expr_view c)
expr-Choose a at b c p = ap (λ k. kind_view k p) (sym (e.rolls-Choose a at b c)) ∙ ap (λ g. g p) (fold-roll-ExprKind (Place → t.Expr) t.Expr expr_step (λ x. x.kind x.place) (open_expr.Choose a at b c))

pub expr-Assign : (a : Expr) (op : AssignOperator) (at : Place) (b : Expr) (p : Place) → kind_view (e.Assign a op at b) p ≡ t.assign p (expr_view a) op at (expr_view b)
expr-Assign a op at b p = ap (λ k. kind_view k p) (sym (e.rolls-Assign a op at b)) ∙ ap (λ g. g p) (fold-roll-ExprKind (Place → t.Expr) t.Expr expr_step (λ x. x.kind x.place) (open_expr.Assign a op at b))

pub expr-New : (class : Name) (p : Place) → kind_view (e.New class) p ≡ t.new p class
expr-New class p = ap (λ k. kind_view k p) (sym (e.rolls-New class)) ∙ ap (λ g. g p) (fold-roll-ExprKind (Place → t.Expr) t.Expr expr_step (λ x. x.kind x.place) (open_expr.New class))

pub expr-Make : (class : Name) (xs : List Expr) (p : Place) → kind_view (e.Make class xs) p ≡ t.make p class (exprs_view xs)
expr-Make class xs p = ap (λ k. kind_view k p) (sym (e.rolls-Make class xs)) ∙ ap (λ g. g p) (fold-roll-ExprKind (Place → t.Expr) t.Expr expr_step (λ x. x.kind x.place) (open_expr.Make class xs))

pub expr-Call : (x : Expr) (xs : List Expr) (p : Place) → kind_view (e.Call x xs) p ≡ t.call p (expr_view x) (exprs_view xs)
expr-Call x xs p = ap (λ k. kind_view k p) (sym (e.rolls-Call x xs)) ∙ ap (λ g. g p) (fold-roll-ExprKind (Place → t.Expr) t.Expr expr_step (λ x. x.kind x.place) (open_expr.Call x xs))

pub expr-Member : (x : Expr) (op : MemberOperator) (at : Place) (class : Option Name) (word : Name) (p : Place) → kind_view (e.Member x op at class word) p ≡ t.member p (expr_view x) op at class word
expr-Member x op at class word p = ap (λ k. kind_view k p) (sym (e.rolls-Member x op at class word)) ∙ ap (λ g. g p) (fold-roll-ExprKind (Place → t.Expr) t.Expr expr_step (λ x. x.kind x.place) (open_expr.Member x op at class word))

pub ruleset expr_rules = (expr-parts, expr-Number, expr-True, expr-False, expr-This, expr-Name, expr-Scoped, expr-Cast, expr-Unary, expr-Step, expr-Binary, expr-Choose, expr-Assign, expr-New, expr-Make, expr-Call, expr-Member)

pub stmt-parts : (x : Stmt) → stmt_view x ≡ stmt_kind_view x.kind x.place
stmt-parts x = fold_out-Stmt (Place → t.Stmt) t.Stmt stmt_step (λ y. y.kind y.place) x

pub stmt-Block : (ss : List Stmt) (p : Place) → stmt_kind_view (s.Block ss) p ≡ t.block p (stmts_view ss)
stmt-Block ss p = ap (λ k. stmt_kind_view k p) (sym (s.rolls-Block ss)) ∙ ap (λ g. g p) (fold-roll-StmtKind (Place → t.Stmt) t.Stmt stmt_step (λ x. x.kind x.place) (open_stmt.Block ss))

pub stmt-Empty : (p : Place) → stmt_kind_view s.Empty p ≡ t.empty p
stmt-Empty p = ap (λ k. stmt_kind_view k p) (sym s.rolls-Empty) ∙ ap (λ g. g p) (fold-roll-StmtKind (Place → t.Stmt) t.Stmt stmt_step (λ x. x.kind x.place) open_stmt.Empty)

pub stmt-Expr : (x : Expr) (p : Place) → stmt_kind_view (s.Expr x) p ≡ t.run p (expr_view x)
stmt-Expr x p = ap (λ k. stmt_kind_view k p) (sym (s.rolls-Expr x)) ∙ ap (λ g. g p) (fold-roll-StmtKind (Place → t.Stmt) t.Stmt stmt_step (λ x. x.kind x.place) (open_stmt.Expr x))

pub stmt-Variables : (v : Variables) (p : Place) → stmt_kind_view (s.Variables v) p ≡ t.declare p (variables_view v)
stmt-Variables v p = ap (λ k. stmt_kind_view k p) (sym (s.rolls-Variables v)) ∙ ap (λ g. g p) (fold-roll-StmtKind (Place → t.Stmt) t.Stmt stmt_step (λ x. x.kind x.place) (open_stmt.Variables v))

pub stmt-If : (x : Expr) (a : Stmt) (p : Place) → stmt_kind_view (s.If x a) p ≡ t.if_then p (expr_view x) (stmt_view a)
stmt-If x a p = ap (λ k. stmt_kind_view k p) (sym (s.rolls-If x a)) ∙ ap (λ g. g p) (fold-roll-StmtKind (Place → t.Stmt) t.Stmt stmt_step (λ x. x.kind x.place) (open_stmt.If x a))

pub stmt-Choose : (x : Expr) (a : Stmt) (b : Stmt) (p : Place) → stmt_kind_view (s.Choose x a b) p ≡ t.if_else p (expr_view x) (stmt_view a) (stmt_view b)
stmt-Choose x a b p = ap (λ k. stmt_kind_view k p) (sym (s.rolls-Choose x a b)) ∙ ap (λ g. g p) (fold-roll-StmtKind (Place → t.Stmt) t.Stmt stmt_step (λ x. x.kind x.place) (open_stmt.Choose x a b))

pub stmt-While : (x : Expr) (a : Stmt) (p : Place) → stmt_kind_view (s.While x a) p ≡ t.while_do p (expr_view x) (stmt_view a)
stmt-While x a p = ap (λ k. stmt_kind_view k p) (sym (s.rolls-While x a)) ∙ ap (λ g. g p) (fold-roll-StmtKind (Place → t.Stmt) t.Stmt stmt_step (λ x. x.kind x.place) (open_stmt.While x a))

pub stmt-Do : (a : Stmt) (x : Expr) (p : Place) → stmt_kind_view (s.Do a x) p ≡ t.do_while p (stmt_view a) (expr_view x)
stmt-Do a x p = ap (λ k. stmt_kind_view k p) (sym (s.rolls-Do a x)) ∙ ap (λ g. g p) (fold-roll-StmtKind (Place → t.Stmt) t.Stmt stmt_step (λ x. x.kind x.place) (open_stmt.Do a x))

pub stmt-For : (first : ForStart) (x : Option Expr) (y : Option Expr) (a : Stmt) (p : Place) → stmt_kind_view (s.For first x y a) p ≡ t.for_do p (start_view first) (maybe_view x) (maybe_view y) (stmt_view a)
stmt-For first x y a p = ap (λ k. stmt_kind_view k p) (sym (s.rolls-For first x y a)) ∙ ap (λ g. g p) (fold-roll-StmtKind (Place → t.Stmt) t.Stmt stmt_step (λ x. x.kind x.place) (open_stmt.For first x y a))

pub stmt-Break : (p : Place) → stmt_kind_view s.Break p ≡ t.break p
stmt-Break p = ap (λ k. stmt_kind_view k p) (sym s.rolls-Break) ∙ ap (λ g. g p) (fold-roll-StmtKind (Place → t.Stmt) t.Stmt stmt_step (λ x. x.kind x.place) open_stmt.Break)

pub stmt-Continue : (p : Place) → stmt_kind_view s.Continue p ≡ t.continue p
stmt-Continue p = ap (λ k. stmt_kind_view k p) (sym s.rolls-Continue) ∙ ap (λ g. g p) (fold-roll-StmtKind (Place → t.Stmt) t.Stmt stmt_step (λ x. x.kind x.place) open_stmt.Continue)

pub stmt-Return : (x : Option Expr) (p : Place) → stmt_kind_view (s.Return x) p ≡ return_view p x
stmt-Return x p = ap (λ k. stmt_kind_view k p) (sym (s.rolls-Return x)) ∙ ap (λ g. g p) (fold-roll-StmtKind (Place → t.Stmt) t.Stmt stmt_step (λ x. x.kind x.place) (open_stmt.Return x))

pub ruleset stmt_rules = (stmt-parts, stmt-Block, stmt-Empty, stmt-Expr, stmt-Variables, stmt-If, stmt-Choose, stmt-While, stmt-Do, stmt-For, stmt-Break, stmt-Continue, stmt-Return)

pub ruleset tree_rules = (expr_rules, stmt_rules)
