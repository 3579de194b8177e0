-- What the tree of each rule may not exceed, and what holds of it.
use Rattle.std.proofs.Common.{ℕ, suc, ◌+◌, ◌≤◌, Bool, true, false, IsTrue, List, [], ◌∷◌, length, map, Option, Some, None}
use Rattle.mm_token.specs.declared.token.Token.{Token}
use Rattle.mm_syntax.specs.declared.expr.Expr.{Expr}
use Rattle.mm_syntax.specs.declared.stmt.Stmt.{Stmt}
use Rattle.mm_syntax.specs.declared.decl.Init.{Init}
use Rattle.mm_syntax.specs.declared.decl.FnDecl.{FnDecl}
use Rattle.mm_syntax.specs.declared.decl.FnDeclKind.{FnDeclKind}
use Rattle.mm_syntax.specs.declared.decl.Member.{Member}
use Rattle.mm_syntax.specs.declared.decl.Decl.{Decl}
use Rattle.mm_syntax.specs.Rules.{Rule, unit, decl, item, params, param, inits, init, block, stmt, var, declarator, type_name, args, expr, or, and, eq, rel, add, mul, unary, postfix, primary, Value}
use Rattle.mm_syntax.specs.Limits.{tokens_of, listed_tokens, exprs_of_stmt, depth_of, variables_of, variables_exprs, initializer_exprs, fn_bodies, fn_inits, fn_params, member_functions, member_count, decl_functions, decl_members}
use Rattle.mm_parse_unit.specs.Units.{NoStops}
use Rattle.mm_parse_unit.proofs.BoundsCount.{Counted}

abbrev pub total : {A : Type 0} → (A → ℕ) → List A → ℕ
total f [] = 0
total f (x ∷ xs) = f x + total f xs

abbrev pub Every : {A : Type 0} → (A → Type 0) → List A → Type 0
Every P [] = Unit {0}
Every P (x ∷ xs) = P x × Every P xs

abbrev pub maybe_weight : {A : Type 0} → (A → ℕ) → Option A → ℕ
maybe_weight f None = 0
maybe_weight f (Some v) = f v

abbrev pub MaybeGood : {A : Type 0} → (A → Type 0) → Option A → Type 0
MaybeGood G None = Unit {0}
MaybeGood G (Some v) = G v

-- nothing is said of the tree
abbrev pub Free : {A : Type 0} → A → Type 0
Free v = Unit {0}

-- ---- expressions and statements

abbrev pub Short : Expr → Type 0
Short x = tokens_of x ≤ 1000

abbrev pub GoodStmt : ℕ → Stmt → Type 0
GoodStmt n x = Every Short (exprs_of_stmt x) × (depth_of x ≤ n)

abbrev pub GoodInit : Init → Type 0
GoodInit x = Every Short x.arguments

-- ---- functions

abbrev pub kind_weight : FnDeclKind → ℕ
kind_weight x = fn_params x + total variables_of (fn_bodies x)

abbrev pub GoodKind : ℕ → FnDeclKind → Type 0
GoodKind n x = Every GoodInit (fn_inits x) × Every (GoodStmt n) (fn_bodies x)

abbrev pub fn_weight : FnDecl → ℕ
fn_weight x = kind_weight x.kind

abbrev pub GoodFn : ℕ → FnDecl → Type 0
GoodFn n x = GoodKind n x.kind

abbrev pub member_weight : Member → ℕ
member_weight x = member_count x + total fn_weight (member_functions x)

abbrev pub GoodMember : ℕ → Member → Type 0
GoodMember n x = Every (GoodFn n) (member_functions x)

abbrev pub decl_weight : Decl → ℕ
decl_weight x = 1 + (decl_members x.kind + total fn_weight (decl_functions x.kind))

abbrev pub GoodDecl : ℕ → Decl → Type 0
GoodDecl n x = Every (GoodFn n) (decl_functions x.kind)

-- ---- rules

-- A text of the rule has so many tokens or more.
abbrev pub weight : (x : Rule) → Value x → ℕ
weight (unit n) v = total decl_weight v
weight (decl n) v = decl_weight v
weight (item n) v = member_weight v
weight params v = length v.list
weight param v = 1
weight inits v = 0
weight init v = 0
weight (block n) v = variables_of v
weight (stmt n) v = variables_of v
weight var v = length v.names
weight declarator v = 1
weight type_name v = 1
weight args v = listed_tokens (map tokens_of v)
weight expr v = tokens_of v.tree
weight or v = tokens_of v.tree
weight and v = tokens_of v.tree
weight eq v = tokens_of v.tree
weight rel v = tokens_of v.tree
weight add v = tokens_of v.tree
weight mul v = tokens_of v.tree
weight unary v = tokens_of v.tree
weight postfix v = tokens_of v.tree
weight primary v = tokens_of v.tree

-- where the tokens keep the count
abbrev pub Good : (x : Rule) → Value x → Type 0
Good (unit n) v = Every (GoodDecl n) v
Good (decl n) v = GoodDecl n v
Good (item n) v = GoodMember n v
Good inits v = Every GoodInit v
Good init v = GoodInit v
Good (block n) v = GoodStmt n v
Good (stmt n) v = Every Short (exprs_of_stmt v) × (suc (depth_of v) ≤ n)
Good var v = Every Short (variables_exprs v)
Good declarator v = Every Short (initializer_exprs v.initializer)
Good args v = Every Short v
Good expr v = Short v.tree
Good _ v = Unit {0}

-- Expressions have no `;`, `{` and `}`.
abbrev pub is_plain : Rule → Bool
is_plain args = true
is_plain expr = true
is_plain or = true
is_plain and = true
is_plain eq = true
is_plain rel = true
is_plain add = true
is_plain mul = true
is_plain unary = true
is_plain postfix = true
is_plain primary = true
is_plain _ = false

-- so many tokens or more, and this where they keep the count
abbrev pub Cost : List Token → ℕ → Type 0 → Type 0
Cost ts n G = (n ≤ length ts) × (Counted ts → G)

abbrev pub RuleCosts : (x : Rule) → List Token → Value x → Type 0
RuleCosts x ts v = (IsTrue (is_plain x) → NoStops ts) × Cost ts (weight x v) (Good x v)
