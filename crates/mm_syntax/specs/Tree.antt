-- The trees of a unit, as plain data: one constructor for each kind of node. Own, for the rules of ISO/IEC 14882:1998,
-- annex A, that the grammar has. A tree begins with its place, which is that of its first token.
use Rattle.std.specs.Prelude.{ℕ, Bool, List, Option}
use Rattle.mm_base.specs.declared.place.Place.{Place}
use Rattle.mm_syntax.specs.declared.name.Name.{Name}
use Rattle.mm_syntax.specs.declared.name.Number.{Number}
use Rattle.mm_syntax.specs.declared.name.Access.{Access}
use Rattle.mm_syntax.specs.declared.name.ClassKey.{ClassKey}
use Rattle.mm_syntax.specs.declared.name.DeclaratorMark.{DeclaratorMark}
use Rattle.mm_syntax.specs.declared.name.UnaryOperator.{UnaryOperator}
use Rattle.mm_syntax.specs.declared.name.StepOperator.{StepOperator}
use Rattle.mm_syntax.specs.declared.name.BinaryOperator.{BinaryOperator}
use Rattle.mm_syntax.specs.declared.name.AssignOperator.{AssignOperator}
use Rattle.mm_syntax.specs.declared.name.MemberOperator.{MemberOperator}
use Rattle.mm_syntax.specs.declared.expr.TypeName.{TypeName}
use Rattle.mm_syntax.specs.declared.decl.Params.{Params}
use Rattle.mm_syntax.specs.declared.decl.Head.{Head}
use Rattle.mm_syntax.specs.declared.decl.Base.{Base}
use Rattle.mm_syntax.specs.declared.decl.FieldName.{FieldName}

-- ---- expressions (5)

mutual
  -- An expression. An operator has a place beside the tree's own where it isn't the first token.
  pub data Expr : Type 0 where
    number : Place → Number → Expr
    boolean : Place → Bool → Expr
    this : Place → Expr
    name : Place → List ℕ → Expr
    -- a class, and a name in it
    scoped : Place → Name → Name → Expr
    -- `dynamic_cast` to a pointer to a class
    cast : Place → Name → Expr → Expr
    unary : Place → UnaryOperator → Expr → Expr
    -- `++` and `--` behind their operand
    step : Place → Expr → StepOperator → Place → Expr
    binary : Place → Expr → BinaryOperator → Place → Expr → Expr
    -- the condition, the place of `?`, and the branches
    choose : Place → Expr → Place → Expr → Expr → Expr
    assign : Place → Expr → AssignOperator → Place → Expr → Expr
    new : Place → Name → Expr
    -- `new` with arguments in parentheses
    make : Place → Name → Exprs → Expr
    call : Place → Expr → Exprs → Expr
    -- a class may stand before the member's name
    member : Place → Expr → MemberOperator → Place → Option Name → Name → Expr

  -- Expressions, one after another.
  pub data Exprs : Type 0 where
    no_exprs : Exprs
    expr_and : Expr → Exprs → Exprs

-- ---- variables (8)

-- What a declared variable begins as: after `=`, or in parentheses.
pub data Initializer : Type 0 where
  no_initial : Initializer
  initial : Expr → Initializer
  arguments : Exprs → Initializer

pub record Declarator : Type 0 where
  pub mark : Option DeclaratorMark
  pub name : Name
  pub initializer : Initializer

pub record Variables : Type 0 where
  pub type_name : TypeName
  pub names : List Declarator

-- ---- statements (6)

-- What stands before the first `;` in the parentheses of `for`.
pub data Start : Type 0 where
  no_start : Start
  start_expr : Expr → Start
  start_variables : Variables → Start

mutual
  -- A statement.
  pub data Stmt : Type 0 where
    block : Place → Stmts → Stmt
    empty : Place → Stmt
    run : Place → Expr → Stmt
    declare : Place → Variables → Stmt
    if_then : Place → Expr → Stmt → Stmt
    if_else : Place → Expr → Stmt → Stmt → Stmt
    while_do : Place → Expr → Stmt → Stmt
    do_while : Place → Stmt → Expr → Stmt
    -- the start, the condition, the step and the body
    for_do : Place → Start → Option Expr → Option Expr → Stmt → Stmt
    break : Place → Stmt
    continue : Place → Stmt
    return_nothing : Place → Stmt
    return : Place → Expr → Stmt

  -- Statements, one after another.
  pub data Stmts : Type 0 where
    no_stmts : Stmts
    stmt_and : Stmt → Stmts → Stmts

-- ---- functions (8.3.5, 8.4, 12.1, 12.4)

-- An initializer of a constructor: the name of a field or a base, and the arguments.
pub record Init : Type 0 where
  pub name : Name
  pub arguments : Exprs

pub record ConstructorBody : Type 0 where
  pub inits : List Init
  pub block : Stmt

-- A function. A body is a block.
pub data Function : Type 0 where
  declaration : Place → Head → Function
  definition : Place → Head → Stmt → Function
  -- outside its class, which is named first
  member_definition : Place → Name → Head → Stmt → Function
  -- outside its class: the class, its name again, the parameters and the rest
  constructor_definition : Place → Name → Name → Params → ConstructorBody → Function
  -- in a class: where `virtual` stands, the head, and the body where there is one
  method : Place → Option Place → Head → Option Stmt → Function
  -- in a class: where `virtual` stands, the class's name, and whether `void` stands in the parentheses
  destructor : Place → Option Place → Name → Bool → Function
  -- in a class: the class's name, the parameters, and the rest where it is defined there
  constructor : Place → Name → Params → Option ConstructorBody → Function

-- ---- classes and units (9, 3.5)

-- What stands in the braces of a class: the access of those that follow, fields, or a function.
pub data Item : Type 0 where
  access : Access → Item
  fields : TypeName → List FieldName → Item
  function_item : Function → Item

-- A class. The last part of its definition is the texts of the tokens from the first to `}`, joined by blanks.
pub data Class : Type 0 where
  class_declaration : Place → ClassKey → Name → Class
  class_definition : Place → ClassKey → Name → List Base → List Item → List ℕ → Class

pub data Decl : Type 0 where
  class_decl : Place → Class → Decl
  function_decl : Place → Function → Decl

-- A unit with the headers that it includes; its place is that of its first token, or of its end.
pub record UnitTree : Type 0 where
  pub decls : List Decl
  pub place : Place
  pub files : List (List ℕ)
  pub bytes : ℕ
