-- What a call calls. ISO/IEC 14882:1998, 5.2.2 (function call), 13.3.1.1 (call of a named function). The built-ins are own.
use Rattle.std.specs.Prelude.{ℕ, List, [], ◌∷◌, map, Option, Some, None, Ok, Err, slice_get, codes, if◌then◌else◌}
use Rattle.std.specs.List.{list_any}
use Rattle.std.specs.Str.{bytes_eq}
use Rattle.mm_base.specs.declared.place.Place.{Place}
use Rattle.mm_base.specs.declared.code.TheConstants.Code.{S1, S8, S9, S12}
use Rattle.mm_base.specs.declared.world.Builtin.{Builtin}
use Rattle.mm_base.specs.declared.world.Builtin.TheVariants.{Put, Get, More}
use Rattle.mm_classes.specs.Classes.{Class}
use Rattle.mm_classes.specs.declared.class.Ty.{Ty}
use Rattle.mm_core.specs.Tree as k
use Rattle.mm_core.specs.View.{exprs_of}
use Rattle.mm_core.specs.Valid.{types_asked, type_answered}
use Rattle.mm_syntax.specs.Tree as t
use Rattle.mm_syntax.specs.First.{place_of, first_text}
use Rattle.mm_overload.specs.Choice.{best_of}
use Rattle.mm_overload.specs.declared.choice.Best.{Best}
use Rattle.mm_overload.specs.declared.choice.Best.TheVariants as best
use Rattle.mm_scopes.specs.declared.head.Var.{Var}
use Rattle.mm_scopes.specs.declared.head.FnHead.{FnHead}
use Rattle.mm_scopes.specs.Environment.{Environment}
use Rattle.mm_scopes.specs.Names.{lookup, named}
use Rattle.mm_checks.specs.Checks.{Fault, Checked, ◌>>=◌, at}
use Rattle.mm_typing.specs.Typed.{Typed, typed, local_typed, arg_of}
use Rattle.mm_typing.specs.Conversions.{converted_all}

-- What a call may take: a function of the unit, or a function that the language has built in.
pub data Candidate : Type 0 where
  function : FnHead → Candidate
  builtin : Builtin → Candidate

abbrev pub params_in : Candidate → List Ty
params_in (function f) = f.params
params_in (builtin b) = types_asked b

abbrev pub result_in : Candidate → Ty
result_in (function f) = f.result
result_in (builtin b) = type_answered b

-- the call of a function, which is open where a parameter is virtual
abbrev pub function_call : FnHead → List k.Expr → k.Expr
function_call f es = if list_any (λ v. v) f.virtuals then k.open_call f.number (exprs_of es) else k.call f.number (exprs_of es)

abbrev pub call_in : Candidate → List k.Expr → k.Expr
call_in (function f) es = function_call f es
call_in (builtin b) es = k.builtin b (exprs_of es)

-- the call of a candidate, with each argument as its parameter asks
abbrev pub call_of : Candidate → List Typed → Typed
call_of c xs = typed (call_in c (converted_all (params_in c) xs)) (result_in c)

-- ---- the functions of a name

abbrev pub builtin_of : List ℕ → Option Builtin
builtin_of x =
    if bytes_eq x (codes "mm_put") then Some Put
    else if bytes_eq x (codes "mm_get") then Some Get
    else if bytes_eq x (codes "mm_more") then Some More
    else None

abbrev pub declared_or : Option Builtin → List FnHead → List Candidate
declared_or (Some b) fs = builtin b ∷ []
declared_or None fs = map function fs

-- the functions that are declared with the name, a built-in one before all
abbrev pub declared : Environment → List ℕ → List Candidate
declared env x = declared_or (builtin_of x) (named x env.functions)

-- those that may be called: `main` may not (3.6.1/3)
abbrev pub callable : Environment → List ℕ → List Candidate
callable env x = if bytes_eq x (codes "main") then [] else declared env x

-- ---- names and calls, as checks

-- a name that isn't called means a variable: else it isn't declared, or is of the wrong kind
abbrev pub no_variable : Place → List ℕ → List Candidate → Fault
no_variable p x [] = at S1 p x
no_variable p x (c ∷ cs) = at S12 p x

abbrev pub own_name : Place → List ℕ → List Candidate → Option Var → Checked Typed
own_name p x cs (Some v) = Ok (local_typed v)
own_name p x cs None = Err (no_variable p x cs)

-- what a call of a name calls: no function where it means a variable
abbrev pub some_declared : Place → List ℕ → List Candidate → List Candidate → Checked (Option (List Candidate))
some_declared p x [] may = Err (at S1 p x)
some_declared p x (c ∷ cs) may = Ok (Some may)

abbrev pub called_name : Environment → Place → List ℕ → Option Var → Checked (Option (List Candidate))
called_name env p x (Some v) = Ok None
called_name env p x None = some_declared p x (declared env x) (callable env x)

-- what a call calls, where the part before its parentheses checks as r
abbrev pub callee : Environment → t.Expr → Checked Typed → Checked (Option (List Candidate))
callee env (t.name p x) r = called_name env p x (lookup env.vars x)
callee env other r = r >>= λ v. Ok None

abbrev pub taken : t.Expr → List Typed → Option Candidate → Checked Typed
taken e xs None = Err (at S8 (place_of e) (first_text e))
taken e xs (Some c) = Ok (call_of c xs)

abbrev pub take_best : t.Expr → List Candidate → List Typed → Best → Checked Typed
take_best e cs xs (best.One i) = taken e xs (slice_get cs i)
take_best e cs xs best.None = Err (at S8 (place_of e) (first_text e))
take_best e cs xs best.Several = Err (at S9 (place_of e) (first_text e))

-- the candidate that overload resolution takes
abbrev pub own_call : List Class → t.Expr → Option (List Candidate) → List Typed → Checked Typed
own_call g e None xs = Err (at S12 (place_of e) (first_text e))
own_call g e (Some cs) xs = take_best e cs xs (best_of g (map arg_of xs) (map params_in cs))
