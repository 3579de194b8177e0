-- The trees of a checked program. No name of a variable or type is left to look up in them, and
-- each conversion stands in them. (The forms of ISO/IEC 14882, 5 and 6, after checking.)
use Rattle.std.specs.Prelude.{ℕ, ℤ, Bool, List, Option}
use Rattle.mm_base.specs.declared.place.Place.{Place}
use Rattle.mm_base.specs.declared.world.Builtin.{Builtin}
use Rattle.mm_classes.specs.declared.class.Ty.{Ty}
use Rattle.mm_classes.specs.Classes.{Class}
use Rattle.mm_core.specs.declared.part.Operator.{Operator}
use Rattle.mm_core.specs.declared.part.Target.{Target}
use Rattle.mm_core.specs.declared.part.Change.{Change}
use Rattle.mm_core.specs.declared.part.CoreParam.{CoreParam}

-- A class, a function, a local is cited by its number; a field or a method by its place among all
-- members of its class; a subobject by its place in the order of the subobjects of its class.
mutual
  -- An expression.
  pub data Expr : Type 0 where
    int : ℤ → Expr
    unsigned : ℕ → Expr
    bool : Bool → Expr
    -- the null pointer to a class
    null : ℕ → Expr
    local : ℕ → Expr
    set_local : ℕ → Expr → Expr
    -- a field of what the pointer shows
    field : ℕ → Expr → Expr
    set_field : ℕ → Expr → Expr → Expr
    -- the pointer, which must not be null
    not_null : Expr → Expr
    -- a move to a base: the class of the pointer, and the subobject of it
    move : ℕ → ℕ → Expr → Expr
    convert : Target → Expr → Expr
    binary : Operator → Expr → Expr → Expr
    negation : Expr → Expr
    both : Expr → Expr → Expr
    either : Expr → Expr → Expr
    choose : Expr → Expr → Expr → Expr
    -- a call of a function; of a member with the object first
    call : ℕ → Exprs → Expr
    -- a call of a method by the class of the object
    virtual_call : ℕ → Expr → Exprs → Expr
    -- a call of an open-method
    open_call : ℕ → Exprs → Expr
    builtin : Builtin → Exprs → Expr
    -- a new object of a class
    new : ℕ → Expr
    -- the old value of a local, which steps up or down
    step_local : ℕ → Change → Expr
    step_field : ℕ → Change → Expr → Expr
    -- an operator on the old value of a field, and the result stored
    compound : Operator → ℕ → Expr → Expr → Expr

  -- Expressions, one after another.
  pub data Exprs : Type 0 where
    no_exprs : Exprs
    expr_and : Expr → Exprs → Exprs

mutual
  -- A statement.
  pub data Stmt : Type 0 where
    block : Stmts → Stmt
    -- an expression whose value is not used
    run : Expr → Stmt
    if_else : Expr → Stmts → Stmts → Stmt
    while_do : Expr → Stmts → Stmt
    do_while : Stmts → Expr → Stmt
    -- the condition, the step and the body
    for_do : Expr → Stmt → Stmts → Stmt
    break : Stmt
    continue : Stmt
    return_nothing : Stmt
    return : Expr → Stmt
    -- a class variable gets a new object
    make : ℕ → Stmt

  -- Statements, one after another.
  pub data Stmts : Type 0 where
    no_stmts : Stmts
    stmt_and : Stmt → Stmts → Stmts

-- A function. Its locals are `this` where it is a member, its parameters and its variables;
-- `locals` has the types of the variables alone.
pub record Function : Type 0 where
  pub name : List ℕ
  pub defined : Bool
  pub in_class : Bool
  pub member : Bool
  pub place : Place
  pub result : Ty
  pub params : List CoreParam
  pub locals : List Ty
  pub body : Option Stmt

-- A program. Classes and functions stand at their numbers.
pub record Program : Type 0 where
  pub classes : List Class
  pub functions : List Function
