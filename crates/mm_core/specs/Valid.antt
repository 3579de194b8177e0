-- Which trees checking gives: the types of expressions, and what every node asks of its parts.
-- (ISO/IEC 14882, 3.9.1, 4, 5 and 6; what a reference variable asks is own.)
use Rattle.std.specs.Prelude.{◌≡◌, ◌≢◌, ◌⊎◌, ℕ, ◌<◌, ◌≤◌, ◌^◌, Bool, true, false, IsTrue, List, [], ◌∷◌, ◌++◌, length, Option, Some, None, codes, slice_get, if◌then◌else◌}
use Rattle.mm_base.specs.Num.{is_int}
use Rattle.mm_base.specs.declared.world.Builtin.{Builtin}
use Rattle.mm_base.specs.declared.world.Builtin.TheVariants.{Put, Get, More}
use Rattle.mm_classes.specs.declared.class.Ty.{Ty}
use Rattle.mm_classes.specs.declared.class.Ty.TheVariants as ty
use Rattle.mm_classes.specs.declared.class.Member.{Member}
use Rattle.mm_classes.specs.Lists.{Has}
use Rattle.mm_classes.specs.Classes.{Class, members_of, is_field, IsComplete, Derives, is_virtual, name_of}
use Rattle.mm_classes.specs.Subobjects.{end_of}
use Rattle.mm_classes.specs.Questions.{node, IsNode}
use Rattle.mm_core.specs.declared.part.Operator.{Operator}
use Rattle.mm_core.specs.declared.part.Operator.TheVariants.{Add, Subtract, Multiply, Divide, Remainder, Less, Greater, LessEqual, GreaterEqual, Equal, NotEqual}
use Rattle.mm_core.specs.declared.part.Target.{Target}
use Rattle.mm_core.specs.declared.part.Target.TheVariants as target
use Rattle.mm_core.specs.Tree.{Expr, int, unsigned, bool, null, local, set_local, field, set_field, not_null, move, convert, binary, negation, both, either, choose, call, virtual_call, open_call, builtin, new, step_local, step_field, compound, Exprs, no_exprs, expr_and, Stmt, block, run, if_else, while_do, do_while, for_do, break, continue, return_nothing, return, make, Stmts, no_stmts, stmt_and, Function}
use Rattle.mm_core.specs.Heads.{same_type, class_in, class_shown, is_reference, field_type, params_in, result_in, same_function, is_open, argument_types, type_at}

-- What stands around a body.
pub record Around : Type 0 where
  pub classes : List Class
  pub functions : List Function
  -- the functions that may be called: all of them, or those that are defined
  pub callable : Function → Bool
  -- the types of the locals, and how many of them are arguments
  pub locals : List Ty
  pub arguments : ℕ

-- ---- types

abbrev pub is_number : Ty → Bool
is_number ty.Void = false
is_number ty.Bool = false
is_number ty.Int = true
is_number ty.Unsigned = true
is_number (ty.Ptr c) = false
is_number (ty.Ref c) = false

abbrev pub is_arithmetic : Ty → Bool
is_arithmetic ty.Void = false
is_arithmetic ty.Bool = true
is_arithmetic ty.Int = true
is_arithmetic ty.Unsigned = true
is_arithmetic (ty.Ptr c) = false
is_arithmetic (ty.Ref c) = false

abbrev pub is_pointer : Ty → Bool
is_pointer ty.Void = false
is_pointer ty.Bool = false
is_pointer ty.Int = false
is_pointer ty.Unsigned = false
is_pointer (ty.Ptr c) = true
is_pointer (ty.Ref c) = true

abbrev pub as_pointer : Ty → Ty
as_pointer ty.Void = ty.Void
as_pointer ty.Bool = ty.Bool
as_pointer ty.Int = ty.Int
as_pointer ty.Unsigned = ty.Unsigned
as_pointer (ty.Ptr c) = ty.Ptr c
as_pointer (ty.Ref c) = ty.Ptr c

-- the type of a pointer that was moved to a class: a reference stays one
abbrev pub shows : Ty → ℕ → Ty
shows t c = if is_reference t then ty.Ref c else ty.Ptr c

abbrev pub type_of_target : Target → Ty
type_of_target target.Bool = ty.Bool
type_of_target target.Int = ty.Int
type_of_target target.Unsigned = ty.Unsigned

abbrev pub compares : Operator → Bool
compares Add = false
compares Subtract = false
compares Multiply = false
compares Divide = false
compares Remainder = false
compares Less = true
compares Greater = true
compares LessEqual = true
compares GreaterEqual = true
compares Equal = true
compares NotEqual = true

abbrev pub tests_equality : Operator → Bool
tests_equality Equal = true
tests_equality NotEqual = true
tests_equality other = false

abbrev pub types_asked : Builtin → List Ty
types_asked Put = ty.Int ∷ []
types_asked Get = []
types_asked More = []

abbrev pub type_answered : Builtin → Ty
type_answered Put = ty.Void
type_answered Get = ty.Int
type_answered More = ty.Int

abbrev pub result_of_function : Option Function → Ty
result_of_function None = ty.Void
result_of_function (Some f) = f.result

abbrev pub result_of_method : Option Member → Ty
result_of_method None = ty.Void
result_of_method (Some m) = result_in m.kind

module _ (a : Around) where
  abbrev mutual
    pub type_of : Expr → Ty
    type_of (int z) = ty.Int
    type_of (unsigned n) = ty.Unsigned
    type_of (bool b) = ty.Bool
    type_of (null c) = ty.Ptr c
    type_of (local x) = type_at a.locals x
    type_of (set_local x e) = type_at a.locals x
    type_of (field f e) = field_type a.classes (class_shown (type_of e)) f
    type_of (set_field f e d) = field_type a.classes (class_shown (type_of e)) f
    type_of (not_null e) = ty.Ref (class_shown (type_of e))
    type_of (move c n e) = shows (type_of e) (end_of (node a.classes c n))
    type_of (convert t e) = type_of_target t
    type_of (binary op d e) = if compares op then ty.Bool else type_of d
    type_of (negation e) = ty.Bool
    type_of (both d e) = ty.Bool
    type_of (either d e) = ty.Bool
    type_of (choose c d e) =
        if same_type (type_of d) (type_of e) then type_of d else as_pointer (type_of d)
    type_of (call f es) = result_of_function (slice_get a.functions f)
    type_of (virtual_call m e es) =
        result_of_method (slice_get (members_of a.classes (class_shown (type_of e))) m)
    type_of (open_call f es) = result_of_function (slice_get a.functions f)
    type_of (builtin b es) = type_answered b
    type_of (new c) = ty.Ptr c
    type_of (step_local x c) = type_at a.locals x
    type_of (step_field f c e) = field_type a.classes (class_shown (type_of e)) f
    type_of (compound op f e d) = field_type a.classes (class_shown (type_of e)) f

    pub types_of : Exprs → List Ty
    types_of no_exprs = []
    types_of (expr_and e es) = type_of e ∷ types_of es

-- ---- what a node asks

-- a value is wanted, and a reference stands wherever a pointer is
abbrev pub Suits : Ty → Ty → Type 0
Suits t wanted = (wanted ≢ ty.Void) × ((t ≡ wanted) ⊎ (as_pointer t ≡ wanted))

abbrev pub AllSuit : List Ty → List Ty → Type 0
AllSuit [] [] = Unit {0}
AllSuit [] (u ∷ us) = ⊥
AllSuit (t ∷ ts) [] = ⊥
AllSuit (t ∷ ts) (u ∷ us) = Suits t u × AllSuit ts us

-- a reference to a complete class
abbrev pub IsObject : List Class → Ty → ℕ → Type 0
IsObject g t c = (t ≡ ty.Ref c) × IsComplete g c

abbrev pub IsFieldOf : List Class → ℕ → ℕ → Type 0
IsFieldOf g c f = (m : Member) × (slice_get (members_of g c) f ≡ Some m) × IsTrue (is_field m)

abbrev pub HasField : List Class → Ty → ℕ → Type 0
HasField g t f = (c : ℕ) × IsObject g t c × IsFieldOf g c f

-- declared virtual, or it overrides one that is
abbrev pub IsVirtualIn : List Class → ℕ → Member → Type 0
IsVirtualIn g c m =
    IsTrue (is_virtual m) ⊎ ((b : ℕ) × (x : Member) × Derives g c b × Has (members_of g b) x ×
    IsTrue (same_function m x) × IsTrue (is_virtual x))

abbrev pub IsDestructor : List Class → ℕ → Member → Type 0
IsDestructor g c m = m.name ≡ codes "~" ++ name_of g c

-- the method, which a virtual call may call
abbrev pub IsVirtualMethod : List Class → ℕ → ℕ → Member → Type 0
IsVirtualMethod g c n m = (slice_get (members_of g c) n ≡ Some m) × (is_field m ≡ false) ×
    (IsDestructor g c m → ⊥) × IsVirtualIn g c m

-- two numbers of one type, or two pointers to one class that are tested for equality
abbrev pub AreOperands : Operator → Ty → Ty → Type 0
AreOperands op t u =
    (IsTrue (is_number t) × (t ≡ u)) ⊎
    (IsTrue (tests_equality op) × IsTrue (is_pointer t) × (class_in t ≡ class_in u))

-- between arithmetic types, or from a pointer to `bool`
abbrev pub Converts : Ty → Target → Type 0
Converts t x = (t ≢ type_of_target x) ×
    (IsTrue (is_arithmetic t) ⊎ (IsTrue (is_pointer t) × (x ≡ target.Bool)))

-- one type, or pointers to one class
abbrev pub AreBranches : Ty → Ty → Type 0
AreBranches t u = (t ≡ u) ⊎ (IsTrue (is_pointer t) × (class_in t ≡ class_in u))

-- A reference variable is read only where it was set. `known` are the locals that were.
abbrev pub IsKnown : List Ty → List ℕ → ℕ → Type 0
IsKnown types known x = IsTrue (is_reference (type_at types x)) → Has known x

module _ (a : Around) where
  abbrev pub IsCalled : Bool → ℕ → List Ty → Type 0
  IsCalled open' n ts = (f : Function) × (slice_get a.functions n ≡ Some f) × (is_open f ≡ open') ×
      IsTrue (a.callable f) × AllSuit ts (argument_types a.classes f)

  module _ (known : List ℕ) where
    abbrev mutual
      pub IsValid : Expr → Type 0
      IsValid (int z) = IsTrue (is_int z)
      IsValid (unsigned n) = n < 2 ^ 32
      IsValid (bool b) = Unit {0}
      IsValid (null c) = c < length a.classes
      IsValid (local x) = (x < length a.locals) × IsKnown a.locals known x
      IsValid (set_local x e) = (x < length a.locals) × Suits (type_of a e) (type_at a.locals x) ×
          IsValid e
      IsValid (field f e) = HasField a.classes (type_of a e) f × IsValid e
      IsValid (set_field f e d) = HasField a.classes (type_of a e) f ×
          Suits (type_of a d) (type_of a (field f e)) × IsValid e × IsValid d
      IsValid (not_null e) = (c : ℕ) × (type_of a e ≡ ty.Ptr c) × IsComplete a.classes c × IsValid e
      IsValid (move c n e) = (class_in (type_of a e) ≡ Some c) × IsComplete a.classes c × (0 < n) ×
          IsNode a.classes c n × IsValid e
      IsValid (convert t e) = Converts (type_of a e) t × IsValid e
      IsValid (binary op d e) = AreOperands op (type_of a d) (type_of a e) × IsValid d × IsValid e
      IsValid (negation e) = (type_of a e ≡ ty.Bool) × IsValid e
      IsValid (both d e) = (type_of a d ≡ ty.Bool) × (type_of a e ≡ ty.Bool) × IsValid d × IsValid e
      IsValid (either d e) = (type_of a d ≡ ty.Bool) × (type_of a e ≡ ty.Bool) × IsValid d ×
          IsValid e
      IsValid (choose c d e) = (type_of a c ≡ ty.Bool) × AreBranches (type_of a d) (type_of a e) ×
          IsValid c × IsValid d × IsValid e
      IsValid (call f es) = IsCalled false f (types_of a es) × AreValid es
      IsValid (virtual_call m e es) = (c : ℕ) × (x : Member) × IsObject a.classes (type_of a e) c ×
          IsVirtualMethod a.classes c m x × AllSuit (types_of a es) (params_in x.kind) ×
          IsValid e × AreValid es
      IsValid (open_call f es) = IsCalled true f (types_of a es) × AreValid es
      IsValid (builtin b es) = AllSuit (types_of a es) (types_asked b) × AreValid es
      IsValid (new c) = IsComplete a.classes c
      IsValid (step_local x c) = (x < length a.locals) × IsTrue (is_number (type_at a.locals x))
      IsValid (step_field f c e) = HasField a.classes (type_of a e) f ×
          IsTrue (is_number (type_of a (field f e))) × IsValid e
      IsValid (compound op f e d) = (compares op ≡ false) × HasField a.classes (type_of a e) f ×
          IsTrue (is_number (type_of a (field f e))) × IsTrue (is_arithmetic (type_of a d)) ×
          IsValid e × IsValid d

      pub AreValid : Exprs → Type 0
      AreValid no_exprs = Unit {0}
      AreValid (expr_and e es) = IsValid e × AreValid es

-- ---- statements

-- the local that a statement sets
abbrev pub set_in : Expr → List ℕ
set_in (set_local x e) = x ∷ []
set_in other = []

abbrev pub sets : Stmt → List ℕ
sets (run e) = set_in e
sets (make x) = x ∷ []
sets other = []

-- a step of `for`: an expression, or a block
abbrev pub is_step : Stmt → Bool
is_step (block ss) = true
is_step (run e) = true
is_step other = false

-- what a condition is
abbrev pub IsTest : Around → List ℕ → Expr → Type 0
IsTest a known e = (type_of a e ≡ ty.Bool) × IsValid a known e

-- `result` is the type of what is returned
module _ (a : Around) (result : Ty) where
  abbrev mutual
    pub IsValidStmt : Bool → List ℕ → Stmt → Type 0
    IsValidStmt in_loop known (block ss) = AreValidStmts in_loop known ss
    IsValidStmt in_loop known (run e) = IsValid a known e
    IsValidStmt in_loop known (if_else e ss ts) = IsTest a known e ×
        AreValidStmts in_loop known ss × AreValidStmts in_loop known ts
    IsValidStmt in_loop known (while_do e ss) = IsTest a known e × AreValidStmts true known ss
    IsValidStmt in_loop known (do_while ss e) = AreValidStmts true known ss × IsTest a known e
    IsValidStmt in_loop known (for_do e s ss) = IsTest a known e × IsTrue (is_step s) ×
        IsValidStmt true known s × AreValidStmts true known ss
    IsValidStmt in_loop known break = IsTrue in_loop
    IsValidStmt in_loop known continue = IsTrue in_loop
    IsValidStmt in_loop known return_nothing = result ≡ ty.Void
    IsValidStmt in_loop known (return e) = Suits (type_of a e) result × IsValid a known e
    IsValidStmt in_loop known (make x) = (a.arguments ≤ x) × (x < length a.locals) ×
        ((c : ℕ) × IsObject a.classes (type_at a.locals x) c)

    -- what a statement sets is known in those behind it, and in what stands in them
    pub AreValidStmts : Bool → List ℕ → Stmts → Type 0
    AreValidStmts in_loop known no_stmts = Unit {0}
    AreValidStmts in_loop known (stmt_and s ss) = IsValidStmt in_loop known s ×
        AreValidStmts in_loop (sets s ++ known) ss
