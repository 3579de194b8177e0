-- What every unit keeps that was read from tokens: bounds on its expressions, statements and numbers of parts. Own.
use Rattle.std.specs.Prelude.{ℕ, ◌+◌, ◌≤◌, max, List, [], ◌∷◌, ◌++◌, length, map, All, sum, Option, Some, None}
use Rattle.std.specs.List.{flat_map}
use Rattle.mm_base.specs.declared.limits.TheConstants.{MAX_UNIT_BYTES, MAX_TOKEN_RUN, MAX_NESTING}
use Rattle.mm_syntax.specs.declared.name.Name.{Name}
use Rattle.mm_syntax.specs.declared.expr.Expr.{Expr, fold-Expr}
use Rattle.mm_syntax.specs.declared.expr.ExprKind.TheOpen.{ExprKind-F}
use Rattle.mm_syntax.specs.declared.stmt.Initializer.{Initializer}
use Rattle.mm_syntax.specs.declared.stmt.Initializer.TheVariants as initializer
use Rattle.mm_syntax.specs.declared.stmt.Variables.{Variables}
use Rattle.mm_syntax.specs.declared.stmt.ForStart.{ForStart}
use Rattle.mm_syntax.specs.declared.stmt.ForStart.TheVariants as start
use Rattle.mm_syntax.specs.declared.stmt.Stmt.{Stmt, fold-Stmt}
use Rattle.mm_syntax.specs.declared.stmt.StmtKind.TheOpen.{StmtKind-F}
use Rattle.mm_syntax.specs.declared.decl.Init.{Init}
use Rattle.mm_syntax.specs.declared.decl.ConstructorBody.{ConstructorBody}
use Rattle.mm_syntax.specs.declared.decl.FnDecl.{FnDecl}
use Rattle.mm_syntax.specs.declared.decl.FnDeclKind.{FnDeclKind}
use Rattle.mm_syntax.specs.declared.decl.FnDeclKind.TheVariants as f
use Rattle.mm_syntax.specs.declared.decl.Member.{Member}
use Rattle.mm_syntax.specs.declared.decl.Member.TheVariants as m
use Rattle.mm_syntax.specs.declared.decl.ClassDeclKind.{ClassDeclKind}
use Rattle.mm_syntax.specs.declared.decl.ClassDeclKind.TheVariants as c
use Rattle.mm_syntax.specs.declared.decl.DeclKind.{DeclKind}
use Rattle.mm_syntax.specs.declared.decl.DeclKind.TheVariants as d
use Rattle.mm_syntax.specs.declared.decl.Unit.{Unit as UnitTree}

-- ---- the tokens of an expression, but for parentheses that leave no tree

-- the expressions of a list, with the commas between them
abbrev pub listed_tokens : List ℕ → ℕ
listed_tokens [] = 0
listed_tokens (x ∷ []) = x
listed_tokens (x ∷ (y ∷ more)) = x + 1 + listed_tokens (y ∷ more)

-- a class and `::`, where they stand
abbrev pub scope_tokens : Option Name → ℕ
scope_tokens None = 0
scope_tokens (Some class) = 2

abbrev pub own_tokens : ExprKind-F ℕ ℕ → ℕ
own_tokens (ExprKind-F.Number n) = 1
own_tokens ExprKind-F.True = 1
own_tokens ExprKind-F.False = 1
own_tokens ExprKind-F.This = 1
own_tokens (ExprKind-F.Name text) = 1
own_tokens (ExprKind-F.Scoped class word) = 3
own_tokens (ExprKind-F.Cast class x) = 7 + x
own_tokens (ExprKind-F.Unary op x) = 1 + x
own_tokens (ExprKind-F.Step x op place) = x + 1
own_tokens (ExprKind-F.Binary a op place b) = a + 1 + b
own_tokens (ExprKind-F.Choose a place b c) = a + 1 + b + 1 + c
own_tokens (ExprKind-F.Assign a op place b) = a + 1 + b
own_tokens (ExprKind-F.New class) = 2
own_tokens (ExprKind-F.Make class xs) = 4 + listed_tokens xs
own_tokens (ExprKind-F.Call x xs) = x + 2 + listed_tokens xs
own_tokens (ExprKind-F.Member x op place class word) = x + 2 + scope_tokens class

abbrev pub tokens_of : Expr → ℕ
tokens_of = fold-Expr ℕ ℕ own_tokens (λ x. x.kind)

-- ---- the expressions of a unit that stand in no other

abbrev pub maybe : {A : Type 0} → Option A → List A
maybe None = []
maybe (Some v) = v ∷ []

abbrev pub initializer_exprs : Initializer → List Expr
initializer_exprs initializer.Nothing = []
initializer_exprs (initializer.Value x) = x ∷ []
initializer_exprs (initializer.Arguments xs) = xs

abbrev pub variables_exprs : Variables → List Expr
variables_exprs v = flat_map (λ x. initializer_exprs x.initializer) v.names

abbrev pub start_exprs : ForStart → List Expr
start_exprs start.Nothing = []
start_exprs (start.Expr x) = x ∷ []
start_exprs (start.Variables v) = variables_exprs v

abbrev pub stmt_exprs : StmtKind-F (List Expr) (List Expr) → List Expr
stmt_exprs (StmtKind-F.Block xs) = flat_map (λ x. x) xs
stmt_exprs StmtKind-F.Empty = []
stmt_exprs (StmtKind-F.Expr x) = x ∷ []
stmt_exprs (StmtKind-F.Variables v) = variables_exprs v
stmt_exprs (StmtKind-F.If x a) = x ∷ a
stmt_exprs (StmtKind-F.Choose x a b) = x ∷ a ++ b
stmt_exprs (StmtKind-F.While x a) = x ∷ a
stmt_exprs (StmtKind-F.Do a x) = a ++ x ∷ []
stmt_exprs (StmtKind-F.For first x y a) = start_exprs first ++ maybe x ++ maybe y ++ a
stmt_exprs StmtKind-F.Break = []
stmt_exprs StmtKind-F.Continue = []
stmt_exprs (StmtKind-F.Return x) = maybe x

abbrev pub exprs_of_stmt : Stmt → List Expr
exprs_of_stmt = fold-Stmt (List Expr) (List Expr) stmt_exprs (λ x. x.kind)

-- ---- how deep statements stand

-- the most statements in which one inside the tree stands, the tree itself included
abbrev pub most : List ℕ → ℕ
most [] = 0
most (x ∷ xs) = max x (most xs)

abbrev pub stmt_depth : StmtKind-F ℕ ℕ → ℕ
stmt_depth (StmtKind-F.Block xs) = most (map (λ x. x + 1) xs)
stmt_depth (StmtKind-F.If x a) = a + 1
stmt_depth (StmtKind-F.Choose x a b) = max (a + 1) (b + 1)
stmt_depth (StmtKind-F.While x a) = a + 1
stmt_depth (StmtKind-F.Do a x) = a + 1
stmt_depth (StmtKind-F.For first x y a) = a + 1
stmt_depth _ = 0

abbrev pub depth_of : Stmt → ℕ
depth_of = fold-Stmt ℕ ℕ stmt_depth (λ x. x.kind)

-- ---- variables

abbrev pub start_variables : ForStart → ℕ
start_variables (start.Variables v) = length v.names
start_variables _ = 0

abbrev pub stmt_variables : StmtKind-F ℕ ℕ → ℕ
stmt_variables (StmtKind-F.Block xs) = sum xs
stmt_variables (StmtKind-F.Variables v) = length v.names
stmt_variables (StmtKind-F.If x a) = a
stmt_variables (StmtKind-F.Choose x a b) = a + b
stmt_variables (StmtKind-F.While x a) = a
stmt_variables (StmtKind-F.Do a x) = a
stmt_variables (StmtKind-F.For first x y a) = start_variables first + a
stmt_variables _ = 0

abbrev pub variables_of : Stmt → ℕ
variables_of = fold-Stmt ℕ ℕ stmt_variables (λ x. x.kind)

-- ---- functions and classes

abbrev pub bodies_if : Option ConstructorBody → List Stmt
bodies_if None = []
bodies_if (Some body) = body.block ∷ []

-- the bodies of a function, of which there is one or none
abbrev pub fn_bodies : FnDeclKind → List Stmt
fn_bodies (f.Declaration head) = []
fn_bodies (f.Definition head body) = body ∷ []
fn_bodies (f.MemberDefinition class head body) = body ∷ []
fn_bodies (f.ConstructorDefinition class word params body) = body.block ∷ []
fn_bodies (f.Method virtual_at head body) = maybe body
fn_bodies (f.Destructor virtual_at word has_void) = []
fn_bodies (f.Constructor word params body) = bodies_if body

abbrev pub inits_if : Option ConstructorBody → List Init
inits_if None = []
inits_if (Some body) = body.inits

abbrev pub fn_inits : FnDeclKind → List Init
fn_inits (f.ConstructorDefinition class word params body) = body.inits
fn_inits (f.Constructor word params body) = inits_if body
fn_inits _ = []

abbrev pub fn_params : FnDeclKind → ℕ
fn_params (f.Declaration head) = length head.params.list
fn_params (f.Definition head body) = length head.params.list
fn_params (f.MemberDefinition class head body) = length head.params.list
fn_params (f.ConstructorDefinition class word params body) = length params.list
fn_params (f.Method virtual_at head body) = length head.params.list
fn_params (f.Destructor virtual_at word has_void) = 0
fn_params (f.Constructor word params body) = length params.list

abbrev pub member_functions : Member → List FnDecl
member_functions (m.Access access) = []
member_functions (m.Fields type_name names) = []
member_functions (m.Function x) = x ∷ []

-- a member is a field or a function
abbrev pub member_count : Member → ℕ
member_count (m.Access access) = 0
member_count (m.Fields type_name names) = length names
member_count (m.Function x) = 1

abbrev pub class_members : ClassDeclKind → List Member
class_members (c.Declaration word class) = []
class_members (c.Definition word class bases members text) = members

abbrev pub decl_functions : DeclKind → List FnDecl
decl_functions (d.Class x) = flat_map member_functions (class_members x.kind)
decl_functions (d.Function x) = x ∷ []

abbrev pub decl_members : DeclKind → ℕ
decl_members (d.Class x) = sum (map member_count (class_members x.kind))
decl_members (d.Function x) = 0

-- ---- units

abbrev pub functions_of : UnitTree → List FnDecl
functions_of unit = flat_map (λ x. decl_functions x.kind) unit.decls

abbrev pub bodies_of : UnitTree → List Stmt
bodies_of unit = flat_map (λ x. fn_bodies x.kind) (functions_of unit)

abbrev pub exprs_of : UnitTree → List Expr
exprs_of unit = flat_map (λ x. flat_map (λ y. y.arguments) (fn_inits x.kind)) (functions_of unit) ++ flat_map exprs_of_stmt (bodies_of unit)

-- declarations, members, parameters and variables together
abbrev pub names_of : UnitTree → ℕ
names_of unit = length unit.decls + sum (map (λ x. decl_members x.kind) unit.decls) + sum (map (λ x. fn_params x.kind) (functions_of unit)) + sum (map variables_of (bodies_of unit))

pub record IsWithinLimits (unit : UnitTree) : Type 0 where
  -- the trees of an expression have at most so many tokens of their own
  pub expressions : All (λ x. tokens_of x ≤ MAX_TOKEN_RUN) (exprs_of unit)
  -- a statement stands in at most so many others, a function's body included
  pub statements : All (λ x. depth_of x ≤ MAX_NESTING) (bodies_of unit)
  pub names : names_of unit ≤ MAX_UNIT_BYTES
  pub bytes : unit.bytes ≤ MAX_UNIT_BYTES
  pub some_file : 1 ≤ length unit.files
  pub few_files : length unit.files ≤ unit.bytes + 1
