-- The C code of a checked tree. A value goes to the temporary of number t and of its type's kind;
-- the code changes no temporary below t. No operation of it is stuck. (Own.)
use Rattle.std.specs.Prelude.{◌≡◌, ℕ, zero, suc, max, ℤ, pos, negsuc, Bool, true, false, nat_eq, List, [], ◌∷◌, ◌++◌, length, map, Option, Some, None, codes, if◌then◌else◌, slice_get}
use Rattle.mm_base.specs.declared.world.Builtin.{Builtin}
use Rattle.mm_base.specs.declared.world.Builtin.TheVariants.{Put, Get, More}
use Rattle.mm_classes.specs.declared.class.Ty.{Ty}
use Rattle.mm_classes.specs.declared.class.Ty.TheVariants as ty
use Rattle.mm_core.specs.declared.part.Operator.{Operator}
use Rattle.mm_core.specs.declared.part.Operator.TheVariants as by
use Rattle.mm_core.specs.declared.part.Target.{Target}
use Rattle.mm_core.specs.declared.part.Target.TheVariants as to
use Rattle.mm_core.specs.declared.part.Change.{Change}
use Rattle.mm_core.specs.declared.part.Change.TheVariants.{Up, Down}
use Rattle.mm_core.specs.Tree.{Expr, int, unsigned, bool, local, set_local, convert, binary, negation, both, either, choose, call, builtin, step_local, Exprs, no_exprs, expr_and, Stmt, block, run, if_else, while_do, do_while, for_do, break, continue, return_nothing, return, Stmts, no_stmts, stmt_and, Function, Program}
use Rattle.mm_core.specs.Heads.{is_main, type_at, argument_types}
use Rattle.mm_core.specs.ValidProgram.{around}
use Rattle.mm_core.specs.Run.{number_of_main}
use Rattle.mm_core.specs.Valid.{Around, type_of, type_answered, is_pointer}
use Rattle.mm_c.specs.declared.tree.CKind.{CKind}
use Rattle.mm_c.specs.declared.tree.CKind.TheVariants as kind
use Rattle.mm_c.specs.declared.tree.CAtom.{CAtom}
use Rattle.mm_c.specs.declared.tree.CAtom.TheVariants.{Name, Number, Negative, Least}
use Rattle.mm_c.specs.declared.tree.COperator.{COperator}
use Rattle.mm_c.specs.declared.tree.COperator.TheVariants as o
use Rattle.mm_c.specs.declared.tree.CExpr.{CExpr}
use Rattle.mm_c.specs.declared.tree.CExpr.TheVariants.{Atom, Binary, ToInt, ToUnsigned, Call}
use Rattle.mm_c.specs.declared.tree.CCall.{CCall}
use Rattle.mm_c.specs.declared.tree.CCall.TheVariants.{Named}
use Rattle.mm_c.specs.declared.tree.CLocal.{CLocal}
use Rattle.mm_c.specs.declared.tree.CLinkage.TheVariants.{Public, Static}
use Rattle.mm_c.specs.Tree as c
use Rattle.mm_c.specs.Tree.{Code, done, do_then, ◌⨾◌, just}
use Rattle.mm_agree.specs.Agree.{Layout, kind_of}
use Rattle.mm_simulate.specs.Names.{temporary, named, function_named}
use Rattle.mm_simulate.specs.Names as name

-- ---- atoms

abbrev pub plain : ℕ → CAtom
plain n = Number (record { value = n; is_unsigned = false })

abbrev pub word : ℕ → CAtom
word n = Number (record { value = n; is_unsigned = true })

abbrev pub greatest : ℕ
greatest = 2147483647

abbrev pub int_atom : ℤ → CAtom
int_atom (pos n) = plain n
int_atom (negsuc n) = if nat_eq n greatest then Least else Negative
    (record { value = suc n; is_unsigned = false })

abbrev pub bit : Bool → ℕ
bit true = 1
bit false = 0

-- an `int` temporary, an `unsigned` one, a pointer, and a local
abbrev pub i_ : ℕ → List ℕ
i_ t = named (temporary kind.Int t)

abbrev pub u_ : ℕ → List ℕ
u_ t = named (temporary kind.Unsigned t)

abbrev pub p_ : ℕ → List ℕ
p_ t = named (temporary kind.Pointer t)

abbrev pub v_ : ℕ → List ℕ
v_ x = named (name.local x)

-- the temporary of a type
abbrev pub of_ : Ty → ℕ → List ℕ
of_ type t = named (temporary (kind_of type) t)

-- ---- statements

abbrev pub block_of : Code → c.Block
block_of code = c.block [] code

abbrev pub set : List ℕ → CExpr → Code
set x r = just (c.assign x r)

abbrev pub only_if : List ℕ → Code → Code
only_if x a = just (c.if_only (Name x) (block_of a))

abbrev pub if_or : List ℕ → Code → Code → Code
if_or x a b = just (c.if_else (Name x) (block_of a) (block_of b))

abbrev pub trap_code : ℕ → Code
trap_code k = just (c.run (Named (codes "mm_trap") (plain k ∷ [])))

-- ---- operators on the names x and y, where w is free, and the result goes to z

-- trap 1 where w isn't 0
abbrev pub overflow_if : List ℕ → Code
overflow_if w = only_if w (trap_code 1)

-- w = a op b; w = c op d
abbrev pub test_by : List ℕ → CAtom → COperator → CAtom → CAtom → CAtom → Code
test_by w a op b d e = set w (Binary a op b) ⨾ set w (Binary d o.Less e)

-- x + y is no `int` where y < 0 and x < least - y, or where greatest - y < x
abbrev pub sum_test : List ℕ → List ℕ → List ℕ → Code
sum_test x y w =
    set w (Binary (Name y) o.Less (plain 0)) ⨾
    if_or w (test_by w Least o.Subtract (Name y) (Name x) (Name w))
    (test_by w (plain greatest) o.Subtract (Name y) (Name w) (Name x))

-- x - y is no `int` where y < 0 and greatest + y < x, or where x < least + y
abbrev pub difference_test : List ℕ → List ℕ → List ℕ → Code
difference_test x y w =
    set w (Binary (Name y) o.Less (plain 0)) ⨾
    if_or w (test_by w (plain greatest) o.Add (Name y) (Name w) (Name x))
    (test_by w Least o.Add (Name y) (Name x) (Name w))

-- x * y is no `int`: where 0 < y, x is past the quotient of a bound by y; where y < -1 likewise,
-- with the bounds exchanged; where y is -1, x is the least one. No test divides twice.
abbrev pub bound_test : List ℕ → List ℕ → List ℕ → CAtom → CAtom → Code
bound_test x y w above below =
    set w (Binary (plain 0) o.Less (Name x)) ⨾
    if_or w (test_by w above o.Divide (Name y) (Name w) (Name x))
    (test_by w below o.Divide (Name y) (Name x) (Name w))

abbrev pub minus_one : CAtom
minus_one = Negative (record { value = 1; is_unsigned = false })

-- x / y is no `int` where x is the least one and y is -1
abbrev pub minus_test : List ℕ → List ℕ → List ℕ → Code
minus_test x y w = set w (Binary (Name y) o.Equal minus_one) ⨾
    only_if w (set w (Binary (Name x) o.Equal Least))

abbrev pub low_test : List ℕ → List ℕ → List ℕ → Code
low_test x y w =
    set w (Binary (Name y) o.Less minus_one) ⨾
    if_or w (bound_test x y w Least (plain greatest)) (minus_test x y w)

abbrev pub product_test : List ℕ → List ℕ → List ℕ → Code
product_test x y w =
    set w (Binary (plain 0) o.Less (Name y)) ⨾
    if_or w (bound_test x y w (plain greatest) Least) (low_test x y w)

-- trap 2 at 0
abbrev pub zero_trap : List ℕ → CAtom → List ℕ → Code
zero_trap y nil w = set w (Binary (Name y) o.Equal nil) ⨾ only_if w (trap_code 2)

abbrev pub op_in_c : Operator → COperator
op_in_c by.Add = o.Add
op_in_c by.Subtract = o.Subtract
op_in_c by.Multiply = o.Multiply
op_in_c by.Divide = o.Divide
op_in_c by.Remainder = o.Remainder
op_in_c by.Less = o.Less
op_in_c by.Greater = o.Greater
op_in_c by.LessEqual = o.LessEqual
op_in_c by.GreaterEqual = o.GreaterEqual
op_in_c by.Equal = o.Equal
op_in_c by.NotEqual = o.NotEqual

-- the operator, behind a test that left w
abbrev pub unless_over : COperator → List ℕ → List ℕ → List ℕ → List ℕ → Code
unless_over op x y w z = overflow_if w ⨾ set z (Binary (Name x) op (Name y))

abbrev pub on_int : Operator → List ℕ → List ℕ → List ℕ → List ℕ → Code
on_int by.Add x y w z = sum_test x y w ⨾ unless_over o.Add x y w z
on_int by.Subtract x y w z = difference_test x y w ⨾ unless_over o.Subtract x y w z
on_int by.Multiply x y w z = product_test x y w ⨾ unless_over o.Multiply x y w z
on_int by.Divide x y w z = zero_trap y (plain 0) w ⨾
    (minus_test x y w ⨾ unless_over o.Divide x y w z)
on_int by.Remainder x y w z = zero_trap y (plain 0) w ⨾
    (minus_test x y w ⨾ unless_over o.Remainder x y w z)
on_int op x y w z = set z (Binary (Name x) (op_in_c op) (Name y))

abbrev pub on_word : Operator → List ℕ → List ℕ → List ℕ → List ℕ → Code
on_word by.Divide x y w z = zero_trap y (word 0) w ⨾ set z (Binary (Name x) o.Divide (Name y))
on_word by.Remainder x y w z = zero_trap y (word 0) w ⨾ set z (Binary (Name x) o.Remainder (Name y))
on_word op x y w z = set z (Binary (Name x) (op_in_c op) (Name y))

-- on operands of a type in t and the next temporary, with a result of a type
abbrev pub operator : ℕ → Operator → Ty → Ty → Code
operator t op ty.Unsigned result = on_word op (u_ t) (u_ (suc t)) (i_ (suc t)) (of_ result t)
operator t op (ty.Ptr d) result = set (of_ result t)
    (Binary (Name (p_ t)) (op_in_c op) (Name (p_ (suc t))))
operator t op (ty.Ref d) result = set (of_ result t)
    (Binary (Name (p_ t)) (op_in_c op) (Name (p_ (suc t))))
operator t op other result = on_int op (i_ t) (i_ (suc t)) (i_ (suc (suc t))) (of_ result t)

-- ---- other nodes

-- the zero of a type, or null
abbrev pub zero_atom : Ty → CAtom
zero_atom ty.Unsigned = word 0
zero_atom other = plain 0

-- what stands in t, of a type, as another
abbrev pub conversion : ℕ → Target → Ty → Code
conversion t to.Bool type = set (i_ t) (Binary (Name (of_ type t)) o.NotEqual (zero_atom type))
conversion t to.Int ty.Unsigned = set (i_ t) (ToInt (u_ t))
conversion t to.Int other = done
conversion t to.Unsigned type = set (u_ t) (ToUnsigned (i_ t))

-- the old value of a local goes to t, and the local steps
abbrev pub step_end : Change → CAtom
step_end Up = plain greatest
step_end Down = Least

abbrev pub change_in_c : Change → COperator
change_in_c Up = o.Add
change_in_c Down = o.Subtract

abbrev pub step_code : ℕ → ℕ → Change → Ty → Code
step_code t x change ty.Unsigned = set (u_ t) (Atom (Name (v_ x))) ⨾
    set (v_ x) (Binary (Name (v_ x)) (change_in_c change) (word 1))
step_code t x change other =
    set (i_ t) (Atom (Name (v_ x))) ⨾
    set (i_ (suc t)) (Binary (Name (v_ x)) o.Equal (step_end change)) ⨾
    overflow_if (i_ (suc t)) ⨾
    set (v_ x) (Binary (Name (v_ x)) (change_in_c change) (plain 1))

-- the same, where the old value is not used
abbrev pub step_only : ℕ → ℕ → Change → Ty → Code
step_only t x change ty.Unsigned = set (v_ x) (Binary (Name (v_ x)) (change_in_c change) (word 1))
step_only t x change other =
    set (i_ t) (Binary (Name (v_ x)) o.Equal (step_end change)) ⨾
    overflow_if (i_ t) ⨾
    set (v_ x) (Binary (Name (v_ x)) (change_in_c change) (plain 1))

-- a call, whose result goes to t where there is one
abbrev pub called_for : ℕ → Ty → CCall → Code
called_for t ty.Void r = just (c.run r)
called_for t type r = set (of_ type t) (Call r)

abbrev pub builtin_name : Builtin → List ℕ
builtin_name Put = codes "mm_put"
builtin_name Get = codes "mm_get"
builtin_name More = codes "mm_more"

abbrev pub break_unless : List ℕ → Code
break_unless x = if_or x done (just c.break)

-- ---- loops

-- A loop in whose turns something stands before the body, but in the first one: t tells whether it
-- is due.
abbrev pub flagged : ℕ → Code → Code → Code
flagged t before body = set (i_ t) (Atom (plain 0)) ⨾
    just (c.forever (block_of (only_if (i_ t) before ⨾ (set (i_ t) (Atom (plain 1)) ⨾ body))))

-- The step of a `for`. One that may end the turn leaves none due for the next.
abbrev pub step_in : ℕ → Stmt → Code → Code
step_in t (run e) code = code
step_in t other code = set (i_ t) (Atom (plain 0)) ⨾ code

-- A `for` from its step, and its test and body for a loop with a step and for one without.
abbrev pub looped : ℕ → Stmt → Code → Code → Code → Code
looped t (block no_stmts) step later plain = just (c.forever (block_of plain))
looped t s step later plain = flagged t (step_in t s step) later

module _ (a : Around) (l : Layout) (named_of : ℕ → List ℕ) where
  -- the temporaries from t on, one for each expression
  abbrev pub atoms_from : ℕ → Exprs → List CAtom
  atoms_from t no_exprs = []
  atoms_from t (expr_and e es) = Name (of_ (type_of a e) t) ∷ atoms_from (suc t) es

  abbrev mutual
    -- the value goes to t
    pub lowered : ℕ → Expr → Code
    lowered t (int z) = set (i_ t) (Atom (int_atom z))
    lowered t (unsigned n) = set (u_ t) (Atom (word n))
    lowered t (bool b) = set (i_ t) (Atom (plain (bit b)))
    lowered t (local x) = set (of_ (type_at a.locals x) t) (Atom (Name (v_ x)))
    lowered t (set_local x e) = lowered t e ⨾ set (v_ x) (Atom (Name (of_ (type_of a e) t)))
    lowered t (convert x e) = lowered t e ⨾ conversion t x (type_of a e)
    lowered t (binary op d e) = lowered t d ⨾
        (lowered (suc t) e ⨾ operator t op (type_of a d) (type_of a (binary op d e)))
    lowered t (negation e) = lowered t e ⨾ set (i_ t) (Binary (Name (i_ t)) o.Equal (plain 0))
    lowered t (both d e) = lowered t d ⨾ only_if (i_ t) (lowered t e)
    lowered t (either d e) = lowered t d ⨾ if_or (i_ t) done (lowered t e)
    lowered t (choose e d f) = lowered t e ⨾ if_or (i_ t) (lowered t d) (lowered t f)
    lowered t (call f es) = lowered_all t es ⨾
        called_for t (type_of a (call f es)) (Named (named_of f) (atoms_from t es))
    lowered t (builtin b es) = lowered_all t es ⨾
        called_for t (type_answered b) (Named (builtin_name b) (atoms_from t es))
    lowered t (step_local x change) = step_code t x change (type_at a.locals x)
    lowered t other = done

    -- the values go to t and the temporaries after it
    pub lowered_all : ℕ → Exprs → Code
    lowered_all t no_exprs = done
    lowered_all t (expr_and e es) = lowered t e ⨾ lowered_all (suc t) es

  -- an expression whose value is not used: neither the result of a call nor a step's old value is
  -- kept
  abbrev pub effect : ℕ → Expr → Code
  effect t (call f es) = lowered_all t es ⨾ just (c.run (Named (named_of f) (atoms_from t es)))
  effect t (builtin b es) = lowered_all t es ⨾
      just (c.run (Named (builtin_name b) (atoms_from t es)))
  effect t (step_local x change) = step_only t x change (type_at a.locals x)
  effect t e = lowered t e

  -- ---- statements

  abbrev mutual
    pub lowered_stmt : ℕ → Stmt → Code
    lowered_stmt t (block ss) = lowered_stmts t ss
    lowered_stmt t (run e) = effect t e
    lowered_stmt t (if_else e ss ts) = lowered t e ⨾
        if_or (i_ t) (lowered_stmts t ss) (lowered_stmts t ts)
    lowered_stmt t (while_do e ss) = just (c.forever
        (block_of (lowered t e ⨾ (break_unless (i_ t) ⨾ lowered_stmts t ss))))
    lowered_stmt t (do_while ss e) = flagged t (lowered (suc t) e ⨾ break_unless (i_ (suc t)))
        (lowered_stmts (suc t) ss)
    lowered_stmt t (for_do e s ss) = looped t s (lowered_stmt (suc t) s) (lowered (suc t) e ⨾
        (break_unless (i_ (suc t)) ⨾ lowered_stmts (suc t) ss)) (lowered t e ⨾
        (break_unless (i_ t) ⨾ lowered_stmts t ss))
    lowered_stmt t break = just c.break
    lowered_stmt t continue = just c.continue
    lowered_stmt t return_nothing = just c.leave
    lowered_stmt t (return e) = lowered t e ⨾ just (c.return (Name (of_ (type_of a e) t)))
    lowered_stmt t other = done

    pub lowered_stmts : ℕ → Stmts → Code
    lowered_stmts t no_stmts = done
    lowered_stmts t (stmt_and s ss) = lowered_stmt t s ⨾ lowered_stmts t ss

-- ---- how many temporaries from t on the code of a tree uses

abbrev mutual
  pub reach : Expr → ℕ
  reach (set_local x e) = reach e
  reach (convert x e) = reach e
  reach (binary op d e) = max (reach d) (max (suc (reach e)) 3)
  reach (negation e) = reach e
  reach (both d e) = max (reach d) (reach e)
  reach (either d e) = max (reach d) (reach e)
  reach (choose e d f) = max (reach e) (max (reach d) (reach f))
  reach (call f es) = max 1 (reach_all es)
  reach (builtin b es) = max 1 (reach_all es)
  reach (step_local x change) = 2
  reach other = 1

  pub reach_all : Exprs → ℕ
  reach_all no_exprs = 0
  reach_all (expr_and e es) = max (reach e) (suc (reach_all es))

abbrev mutual
  pub reach_stmt : Stmt → ℕ
  reach_stmt (block ss) = reach_stmts ss
  reach_stmt (run e) = reach e
  reach_stmt (if_else e ss ts) = max (reach e) (max (reach_stmts ss) (reach_stmts ts))
  reach_stmt (while_do e ss) = max (reach e) (reach_stmts ss)
  reach_stmt (do_while ss e) = suc (max (reach_stmts ss) (reach e))
  reach_stmt (for_do e s ss) = suc (max (reach e) (max (reach_stmt s) (reach_stmts ss)))
  reach_stmt (return e) = reach e
  reach_stmt other = 0

  pub reach_stmts : Stmts → ℕ
  reach_stmts no_stmts = 0
  reach_stmts (stmt_and s ss) = max (reach_stmt s) (reach_stmts ss)

-- ---- how many blocks stand in one another in the code of a tree, but for those of one operator

abbrev mutual
  pub nesting : Expr → ℕ
  nesting (set_local x e) = nesting e
  nesting (convert x e) = nesting e
  nesting (binary op d e) = max (nesting d) (nesting e)
  nesting (negation e) = nesting e
  nesting (both d e) = max (nesting d) (suc (nesting e))
  nesting (either d e) = max (nesting d) (suc (nesting e))
  nesting (choose e d f) = max (nesting e) (suc (max (nesting d) (nesting f)))
  nesting (call f es) = nesting_all es
  nesting (builtin b es) = nesting_all es
  nesting other = 0

  pub nesting_all : Exprs → ℕ
  nesting_all no_exprs = 0
  nesting_all (expr_and e es) = max (nesting e) (nesting_all es)

abbrev mutual
  pub nesting_stmt : Stmt → ℕ
  nesting_stmt (block ss) = nesting_stmts ss
  nesting_stmt (run e) = nesting e
  nesting_stmt (if_else e ss ts) = max (nesting e) (suc (max (nesting_stmts ss) (nesting_stmts ts)))
  nesting_stmt (while_do e ss) = suc (max (nesting e) (nesting_stmts ss))
  nesting_stmt (do_while ss e) = suc (max (suc (nesting e)) (nesting_stmts ss))
  nesting_stmt (for_do e s ss) = suc (max (suc (nesting_stmt s))
      (max (nesting e) (nesting_stmts ss)))
  nesting_stmt (return e) = nesting e
  nesting_stmt other = 0

  pub nesting_stmts : Stmts → ℕ
  nesting_stmts no_stmts = 0
  nesting_stmts (stmt_and s ss) = max (nesting_stmt s) (nesting_stmts ss)

-- ---- functions

abbrev pub kind_of_result : Ty → Option CKind
kind_of_result ty.Void = None
kind_of_result ty.Bool = Some kind.Int
kind_of_result ty.Int = Some kind.Int
kind_of_result ty.Unsigned = Some kind.Unsigned
kind_of_result (ty.Ptr d) = Some kind.Pointer
kind_of_result (ty.Ref d) = Some kind.Pointer

-- the locals from x on
abbrev pub locals_from : ℕ → List Ty → List CLocal
locals_from x [] = []
locals_from x (t ∷ ts) = record { kind = kind_of t; name = v_ x } ∷ locals_from (suc x) ts

-- Behind the body's end. What follows the trap never runs: it tells a C compiler, which doesn't know
-- that the trap won't return, that every path gives a value.
abbrev pub ending : Ty → Bool → Code
ending ty.Void main = done
ending result true = just (c.return (plain 0))
ending result false = trap_code 5 ⨾ just (c.return (zero_atom result))

-- a temporary as a local
abbrev pub temporary_local : CKind × ℕ → CLocal
temporary_local d = record { kind = d.0; name = named (temporary d.0 d.1) }

-- the temporaries below n, of the kinds that nodes use
abbrev pub temporaries : ℕ → List (CKind × ℕ)
temporaries zero = []
temporaries (suc n) = (kind.Int, n) ∷ (kind.Unsigned, n) ∷ (kind.Pointer, n) ∷ temporaries n

-- A function, with the temporaries that are declared.
abbrev pub lowered_fn : Around → Layout → (ℕ → List ℕ) → ℕ → Bool → Function → Stmt →
    List (CKind × ℕ) → c.Function
lowered_fn a l named_of n public f body temps = record {
  linkage = if public then Public else Static;
  result = kind_of_result f.result;
  name = named_of n;
  params = locals_from 0 (argument_types a.classes f);
  body = c.block (locals_from (length (argument_types a.classes f)) f.locals ++ map temporary_local
      temps) (lowered_stmt a l named_of 0 body ⨾ ending f.result (is_main f));
}

-- ---- programs

-- a function that has a body, with its number
pub record Defined : Type 0 where
  pub number : ℕ
  pub function : Function
  pub body : Stmt

abbrev pub with_body : ℕ → Function → Option Stmt → List Defined → List Defined
with_body n f None more = more
with_body n f (Some b) more = record { number = n; function = f; body = b } ∷ more

-- those from number n on, but the one of number m
abbrev pub others_from : ℕ → ℕ → List Function → List Defined
others_from m n [] = []
others_from m n (f ∷ fs) = elim (nat_eq n m) [
  | true ↦ others_from m (suc n) fs
  | false ↦
      with_body n f f.body (others_from m (suc n) fs)
]

abbrev pub entry_at : ℕ → Option Function → List Defined
entry_at m None = []
entry_at m (Some f) = with_body m f f.body []

-- `main`, and all others
abbrev pub entry : Program → List Defined
entry p = entry_at (number_of_main p.functions) (slice_get p.functions (number_of_main p.functions))

abbrev pub others : Program → List Defined
others p = others_from (number_of_main p.functions) 0 p.functions

-- the name of a function in the source
abbrev pub source_name : Option Function → List ℕ
source_name None = []
source_name (Some f) = f.name

abbrev pub name_of : Program → ℕ → List ℕ
name_of p n = function_named (nat_eq n (number_of_main p.functions)) n
    (source_name (slice_get p.functions n))

-- a function that may be called
abbrev pub is_defined : Function → Bool
is_defined f = f.defined

-- `temps` says by a function's number which temporaries are declared in it.
module _ (p : Program) (l : Layout) (temps : ℕ → List (CKind × ℕ)) where
  abbrev pub fn_of : Defined → c.Function
  fn_of d = lowered_fn (around is_defined p d.function) l (name_of p) d.number
      (nat_eq d.number (number_of_main p.functions)) d.function d.body (temps d.number)

  abbrev pub item_of : Defined → c.Item
  item_of d = c.function (fn_of d)

  abbrev pub head_of : Defined → c.Item
  head_of d = c.proto (record {
    is_inline = false;
    result = (fn_of d).result;
    name = (fn_of d).name;
    params = (fn_of d).params;
  })

  -- The heads of all functions but `main`, which has none; then `main`, which any function may
  -- call; then the others.
  abbrev pub lowered_program : c.Program
  lowered_program = record { items = map head_of (others p) ++ map item_of (entry p ++ others p) }

-- ---- which trees are lowered here

module _ (a : Around) where
  abbrev mutual
    pub IsLowered : Expr → Type 0
    IsLowered (int z) = Unit {0}
    IsLowered (unsigned n) = Unit {0}
    IsLowered (bool b) = Unit {0}
    IsLowered (local x) = Unit {0}
    IsLowered (set_local x e) = IsLowered e
    IsLowered (convert x e) = IsLowered e
    IsLowered (binary op d e) = (is_pointer (type_of a d) ≡ false) × IsLowered d × IsLowered e
    IsLowered (negation e) = IsLowered e
    IsLowered (both d e) = IsLowered d × IsLowered e
    IsLowered (either d e) = IsLowered d × IsLowered e
    IsLowered (choose c d e) = IsLowered c × IsLowered d × IsLowered e
    IsLowered (call f es) = AreLowered es
    IsLowered (builtin b es) = AreLowered es
    IsLowered (step_local x change) = Unit {0}
    IsLowered other = ⊥

    pub AreLowered : Exprs → Type 0
    AreLowered no_exprs = Unit {0}
    AreLowered (expr_and e es) = IsLowered e × AreLowered es

  abbrev mutual
    pub IsLoweredStmt : Stmt → Type 0
    IsLoweredStmt (block ss) = AreLoweredStmts ss
    IsLoweredStmt (run e) = IsLowered e
    IsLoweredStmt (if_else e ss ts) = IsLowered e × AreLoweredStmts ss × AreLoweredStmts ts
    IsLoweredStmt (while_do e ss) = IsLowered e × AreLoweredStmts ss
    IsLoweredStmt (do_while ss e) = AreLoweredStmts ss × IsLowered e
    IsLoweredStmt (for_do e s ss) = IsLowered e × IsLoweredStmt s × AreLoweredStmts ss
    IsLoweredStmt break = Unit {0}
    IsLoweredStmt continue = Unit {0}
    IsLoweredStmt return_nothing = Unit {0}
    IsLoweredStmt (return e) = IsLowered e
    IsLoweredStmt other = ⊥

    pub AreLoweredStmts : Stmts → Type 0
    AreLoweredStmts no_stmts = Unit {0}
    AreLoweredStmts (stmt_and s ss) = IsLoweredStmt s × AreLoweredStmts ss
