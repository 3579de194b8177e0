-- Which plain tree a tree in memory is.
use Rattle.std.specs.Prelude.{true, false, List, [], ◌∷◌, map, Option, Some, None}
use Rattle.mm_base.specs.declared.place.Place.{Place}
use Rattle.mm_syntax.specs.declared.expr.Expr.{Expr, fold-Expr}
use Rattle.mm_syntax.specs.declared.expr.ExprKind.{ExprKind, fold-ExprKind}
use Rattle.mm_syntax.specs.declared.expr.ExprKind.TheOpen.{ExprKind-F}
use Rattle.mm_syntax.specs.declared.stmt.Initializer.{Initializer}
use Rattle.mm_syntax.specs.declared.stmt.Initializer.TheVariants as initializer
use Rattle.mm_syntax.specs.declared.stmt.Declarator.{Declarator}
use Rattle.mm_syntax.specs.declared.stmt.Variables.{Variables}
use Rattle.mm_syntax.specs.declared.stmt.ForStart.{ForStart}
use Rattle.mm_syntax.specs.declared.stmt.ForStart.TheVariants as start
use Rattle.mm_syntax.specs.declared.stmt.Stmt.{Stmt, fold-Stmt}
use Rattle.mm_syntax.specs.declared.stmt.StmtKind.{StmtKind, fold-StmtKind}
use Rattle.mm_syntax.specs.declared.stmt.StmtKind.TheOpen.{StmtKind-F}
use Rattle.mm_syntax.specs.declared.decl.Init.{Init}
use Rattle.mm_syntax.specs.declared.decl.ConstructorBody.{ConstructorBody}
use Rattle.mm_syntax.specs.declared.decl.FnDecl.{FnDecl}
use Rattle.mm_syntax.specs.declared.decl.FnDeclKind.{FnDeclKind}
use Rattle.mm_syntax.specs.declared.decl.FnDeclKind.TheVariants as f
use Rattle.mm_syntax.specs.declared.decl.Member.{Member}
use Rattle.mm_syntax.specs.declared.decl.Member.TheVariants as m
use Rattle.mm_syntax.specs.declared.decl.ClassDecl.{ClassDecl}
use Rattle.mm_syntax.specs.declared.decl.ClassDeclKind.{ClassDeclKind}
use Rattle.mm_syntax.specs.declared.decl.ClassDeclKind.TheVariants as c
use Rattle.mm_syntax.specs.declared.decl.Decl.{Decl}
use Rattle.mm_syntax.specs.declared.decl.DeclKind.{DeclKind}
use Rattle.mm_syntax.specs.declared.decl.DeclKind.TheVariants as d
use Rattle.mm_syntax.specs.declared.decl.Unit.{Unit as UnitInMemory}
use Rattle.mm_syntax.specs.Tree as t

-- ---- expressions

abbrev pub exprs_of : List t.Expr → t.Exprs
exprs_of [] = t.no_exprs
exprs_of (x ∷ xs) = t.expr_and x (exprs_of xs)

-- one node that stands at this place, with each tree inside it already seen as its plain tree
abbrev pub expr_step : ExprKind-F (Place → t.Expr) t.Expr → Place → t.Expr
expr_step (ExprKind-F.Number n) p = t.number p n
expr_step ExprKind-F.True p = t.boolean p true
expr_step ExprKind-F.False p = t.boolean p false
expr_step ExprKind-F.This p = t.this p
expr_step (ExprKind-F.Name text) p = t.name p text
expr_step (ExprKind-F.Scoped class word) p = t.scoped p class word
expr_step (ExprKind-F.Cast class x) p = t.cast p class x
expr_step (ExprKind-F.Unary op x) p = t.unary p op x
expr_step (ExprKind-F.Step x op at) p = t.step p x op at
expr_step (ExprKind-F.Binary a op at b) p = t.binary p a op at b
expr_step (ExprKind-F.Choose a at b c) p = t.choose p a at b c
expr_step (ExprKind-F.Assign a op at b) p = t.assign p a op at b
expr_step (ExprKind-F.New class) p = t.new p class
expr_step (ExprKind-F.Make class xs) p = t.make p class (exprs_of xs)
expr_step (ExprKind-F.Call x xs) p = t.call p x (exprs_of xs)
expr_step (ExprKind-F.Member x op at class word) p = t.member p x op at class word

abbrev pub kind_view : ExprKind → Place → t.Expr
kind_view = fold-ExprKind (Place → t.Expr) t.Expr expr_step (λ x. x.kind x.place)

abbrev pub expr_view : Expr → t.Expr
expr_view = fold-Expr (Place → t.Expr) t.Expr expr_step (λ x. x.kind x.place)

abbrev pub exprs_view : List Expr → t.Exprs
exprs_view xs = exprs_of (map expr_view xs)

abbrev pub maybe_view : Option Expr → Option t.Expr
maybe_view None = None
maybe_view (Some x) = Some (expr_view x)

-- ---- statements

abbrev pub initializer_view : Initializer → t.Initializer
initializer_view initializer.Nothing = t.no_initial
initializer_view (initializer.Value x) = t.initial (expr_view x)
initializer_view (initializer.Arguments xs) = t.arguments (exprs_view xs)

abbrev pub declarator_view : Declarator → t.Declarator
declarator_view x = record { mark = x.mark; name = x.name; initializer = initializer_view x.initializer }

abbrev pub variables_view : Variables → t.Variables
variables_view v = record { type_name = v.type_name; names = map declarator_view v.names }

abbrev pub start_view : ForStart → t.Start
start_view start.Nothing = t.no_start
start_view (start.Expr x) = t.start_expr (expr_view x)
start_view (start.Variables v) = t.start_variables (variables_view v)

abbrev pub return_view : Place → Option Expr → t.Stmt
return_view p None = t.return_nothing p
return_view p (Some x) = t.return p (expr_view x)

abbrev pub stmts_of : List t.Stmt → t.Stmts
stmts_of [] = t.no_stmts
stmts_of (s ∷ ss) = t.stmt_and s (stmts_of ss)

abbrev pub stmt_step : StmtKind-F (Place → t.Stmt) t.Stmt → Place → t.Stmt
stmt_step (StmtKind-F.Block ss) p = t.block p (stmts_of ss)
stmt_step StmtKind-F.Empty p = t.empty p
stmt_step (StmtKind-F.Expr x) p = t.run p (expr_view x)
stmt_step (StmtKind-F.Variables v) p = t.declare p (variables_view v)
stmt_step (StmtKind-F.If x a) p = t.if_then p (expr_view x) a
stmt_step (StmtKind-F.Choose x a b) p = t.if_else p (expr_view x) a b
stmt_step (StmtKind-F.While x a) p = t.while_do p (expr_view x) a
stmt_step (StmtKind-F.Do a x) p = t.do_while p a (expr_view x)
stmt_step (StmtKind-F.For first x y a) p = t.for_do p (start_view first) (maybe_view x) (maybe_view y) a
stmt_step StmtKind-F.Break p = t.break p
stmt_step StmtKind-F.Continue p = t.continue p
stmt_step (StmtKind-F.Return x) p = return_view p x

abbrev pub stmt_kind_view : StmtKind → Place → t.Stmt
stmt_kind_view = fold-StmtKind (Place → t.Stmt) t.Stmt stmt_step (λ x. x.kind x.place)

abbrev pub stmt_view : Stmt → t.Stmt
stmt_view = fold-Stmt (Place → t.Stmt) t.Stmt stmt_step (λ x. x.kind x.place)

abbrev pub stmts_view : List Stmt → t.Stmts
stmts_view ss = stmts_of (map stmt_view ss)

abbrev pub maybe_stmt_view : Option Stmt → Option t.Stmt
maybe_stmt_view None = None
maybe_stmt_view (Some s) = Some (stmt_view s)

-- ---- functions

abbrev pub init_view : Init → t.Init
init_view x = record { name = x.name; arguments = exprs_view x.arguments }

abbrev pub body_view : ConstructorBody → t.ConstructorBody
body_view x = record { inits = map init_view x.inits; block = stmt_view x.block }

abbrev pub maybe_body_view : Option ConstructorBody → Option t.ConstructorBody
maybe_body_view None = None
maybe_body_view (Some x) = Some (body_view x)

abbrev pub function_kind_view : Place → FnDeclKind → t.Function
function_kind_view p (f.Declaration x) = t.declaration p x
function_kind_view p (f.Definition x body) = t.definition p x (stmt_view body)
function_kind_view p (f.MemberDefinition class x body) = t.member_definition p class x (stmt_view body)
function_kind_view p (f.ConstructorDefinition class word params body) = t.constructor_definition p class word params (body_view body)
function_kind_view p (f.Method virtual_at x body) = t.method p virtual_at x (maybe_stmt_view body)
function_kind_view p (f.Destructor virtual_at word has_void) = t.destructor p virtual_at word has_void
function_kind_view p (f.Constructor word params body) = t.constructor p word params (maybe_body_view body)

abbrev pub function_view : FnDecl → t.Function
function_view x = function_kind_view x.place x.kind

-- ---- classes and units

abbrev pub item_view : Member → t.Item
item_view (m.Access access) = t.access access
item_view (m.Fields type_name names) = t.fields type_name names
item_view (m.Function x) = t.function_item (function_view x)

abbrev pub class_kind_view : Place → ClassDeclKind → t.Class
class_kind_view p (c.Declaration key class) = t.class_declaration p key class
class_kind_view p (c.Definition key class bases members text) = t.class_definition p key class bases (map item_view members) text

abbrev pub class_view : ClassDecl → t.Class
class_view x = class_kind_view x.place x.kind

abbrev pub decl_kind_view : Place → DeclKind → t.Decl
decl_kind_view p (d.Class x) = t.class_decl p (class_view x)
decl_kind_view p (d.Function x) = t.function_decl p (function_view x)

abbrev pub decl_view : Decl → t.Decl
decl_view x = decl_kind_view x.place x.kind

abbrev pub unit_view : UnitInMemory → t.UnitTree
unit_view x = record { decls = map decl_view x.decls; place = x.place; files = x.files; bytes = x.bytes }
