-- The functions of a unit, and what their heads are asked. (ISO/IEC 14882:1998, 3.3.1, 8.3.5, 8.4 and 13.1. Own: a
-- head has at most 32 parameters; the faults of its parameters count first, then its own by their codes.)
use Rattle.std.specs.Prelude.{◌≡◌, ℕ, zero, suc, ◌+◌, Bool, true, false, not, ◌&&◌, if◌then◌else◌, nat_lt, is_some, slice_get, List, [], ◌∷◌, ◌++◌, length, map, Option, Some, None}
use Rattle.std.specs.List.{position_or_len}
use Rattle.std.specs.Str.{bytes_eq}
use Rattle.mm_base.specs.declared.place.Place.{Place}
use Rattle.mm_base.specs.declared.code.TheConstants.Code.{S12, S20}
use Rattle.mm_classes.specs.declared.class.Ty.{Ty}
use Rattle.mm_core.specs.declared.part.CoreParam.{CoreParam}
use Rattle.mm_core.specs.Heads.{same_type, same_types, types_of_params}
use Rattle.mm_core.specs.Tree as k
use Rattle.mm_scopes.specs.declared.head.Var.{Var}
use Rattle.mm_scopes.specs.declared.head.FnHead.{FnHead}
use Rattle.mm_scopes.specs.Environment.{Environment}
use Rattle.mm_syntax.specs.declared.name.Name.{Name}
use Rattle.mm_syntax.specs.declared.name.DeclaratorMark.{DeclaratorMark}
use Rattle.mm_syntax.specs.declared.expr.TypeName.{TypeName}
use Rattle.mm_syntax.specs.declared.decl.Param.{Param}
use Rattle.mm_syntax.specs.declared.decl.Head.{Head}
use Rattle.mm_syntax.specs.First.{type_text}
use Rattle.mm_syntax.specs.Forms.{mark_or}
use Rattle.mm_checks.specs.Checks.{Fault, at, Then, First, Met, Unmet}
use Rattle.mm_unit_typing.specs.Declarators.{Names, NamesNone, holds_value, is_unmarked, wrong_kind, text_or, declared_twice, unbuilt}
use Rattle.mm_unit_typing.specs.Scopes.{parameter}
use Rattle.mm_unit_typing.specs.Statements.{MayStand, MayNotStand, IsYours, IsNotYours}

-- what a head says of its function
pub record Heading : Type 0 where
  pub result : Ty
  pub params : List Ty

abbrev pub heading : Ty → List Ty → Heading
heading result params = record { result = result; params = params }

-- ---- parameters

-- virtual parameters are not built yet
abbrev pub IsOrdinary : Option Place → Unit {0} → Type 0
IsOrdinary at_virtual u = at_virtual ≡ None

abbrev pub IsVirtual : Option Place → Fault → Type 0
IsVirtual at_virtual f = (p : Place) × ((at_virtual ≡ Some p) × (unbuilt p ≡ f))

-- a parameter that has no name begins with its mark, or else with its type
abbrev pub wrong_parameter : Option DeclaratorMark → TypeName → Fault
wrong_parameter mark x = at S12 (mark_or mark x.place) (text_or mark (type_text x.kind))

-- behind the parameters `vs`
abbrev pub MayBeParameter : List Var → Ty → Option DeclaratorMark → TypeName → Option Name → Unit {0} → Type 0
MayBeParameter vs t mark x None = Met (holds_value mark t)
MayBeParameter vs t mark x (Some name) = Then (MayStand 0 vs t mark name) λ u. IsYours name

abbrev pub MayBeNoParameter : List Var → Ty → Option DeclaratorMark → TypeName → Option Name → Fault → Type 0
MayBeNoParameter vs t mark x None = Unmet (holds_value mark t) (wrong_parameter mark x)
MayBeNoParameter vs t mark x (Some name) =
    First (MayStand 0 vs t mark name) (MayNotStand 0 vs t mark name) λ u. IsNotYours name

abbrev pub ParamType : List Var → Param → Ty → Type 0
ParamType vs q =
    Then (IsOrdinary q.virtual_at) λ u.
    Then (Names q.type_name) λ t.
    Then (MayBeParameter vs t q.mark q.type_name q.name) λ w v.
    t ≡ v

abbrev pub ParamFault : List Var → Param → Fault → Type 0
ParamFault vs q =
    First (IsOrdinary q.virtual_at) (IsVirtual q.virtual_at) λ u.
    First (Names q.type_name) (NamesNone q.type_name) λ t.
    MayBeNoParameter vs t q.mark q.type_name q.name

-- The parameters of one function are one scope. The first of these is the local of number n.
abbrev pub ParamsType : ℕ → List Var → List Param → List Ty → Type 0
ParamsType n vs [] = λ ts. [] ≡ ts
ParamsType n vs (q ∷ qs) =
    Then (ParamType vs q) λ t.
    Then (ParamsType (n + 1) (vs ++ parameter n q) qs) λ ts us.
    (t ∷ ts) ≡ us

abbrev pub ParamsFault : ℕ → List Var → List Param → Fault → Type 0
ParamsFault n vs [] = λ f. ⊥
ParamsFault n vs (q ∷ qs) =
    First (ParamType vs q) (ParamFault vs q) λ t.
    ParamsFault (n + 1) (vs ++ parameter n q) qs

-- ---- functions that are declared

-- functions are told apart by their names and the types of their parameters
abbrev pub is_function : List ℕ → List Ty → k.Function → Bool
is_function name params f = bytes_eq f.name name && same_types (types_of_params f.params) params

-- the first that is declared so, or else how many there are: the number that such a function has, or gets
abbrev pub number_of : List k.Function → List ℕ → List Ty → ℕ
number_of fs name params = position_or_len (is_function name params) fs

-- the function that is declared so
abbrev pub known : List k.Function → List ℕ → List Ty → Option k.Function
known fs name params = slice_get fs (number_of fs name params)

-- a declaration after another may not differ in the result, and only one defines the function
abbrev pub agrees : Ty → Bool → Option k.Function → Bool
agrees result defines None = true
agrees result defines (Some f) = same_type f.result result && not (defines && f.defined)

abbrev pub may_declare : List k.Function → List ℕ → Heading → Bool → Bool
may_declare fs name h defines = agrees h.result defines (known fs name h.params)

abbrev pub core_param : Ty → CoreParam
core_param t = record { ty = t; is_virtual = false }

abbrev pub declared_function : Name → Heading → k.Function
declared_function name h = record {
  name = name.text;
  defined = false;
  in_class = false;
  member = false;
  place = name.place;
  result = h.result;
  params = map core_param h.params;
  locals = [];
  body = None;
}

-- with a function that is declared here, where it was not before
abbrev pub with_function : List k.Function → Name → Heading → List k.Function
with_function fs name h =
    if is_some (known fs name.text h.params) then fs else fs ++ declared_function name h ∷ []

-- the function gets its variables and its body
abbrev pub defined_with : List Ty → k.Stmt → k.Function → k.Function
defined_with locals body f = record f { defined = true; locals = locals; body = Some body }

-- with the function of this number defined
abbrev pub with_body : List k.Function → ℕ → List Ty → k.Stmt → List k.Function
with_body [] n locals body = []
with_body (f ∷ fs) zero locals body = defined_with locals body f ∷ fs
with_body (f ∷ fs) (suc n) locals body = f ∷ with_body fs n locals body

-- ---- what is seen of them

abbrev pub never : List Ty → List Bool
never params = map (λ t. false) params

abbrev pub head_of : ℕ → k.Function → FnHead
head_of n f = record {
  number = n;
  name = f.name;
  params = types_of_params f.params;
  virtuals = never (types_of_params f.params);
  result = f.result;
}

-- the heads, of which the first is of the function of number n
abbrev pub heads_from : ℕ → List k.Function → List FnHead
heads_from n [] = []
heads_from n (f ∷ fs) = head_of n f ∷ heads_from (n + 1) fs

-- what stands outside classes sees the functions that are declared before it
abbrev pub seen : List k.Function → Environment
seen fs = record { classes = []; from = record { class = None }; vars = []; functions = heads_from 0 fs }

-- ---- heads

abbrev pub few_params : List Ty → Bool
few_params params = nat_lt (length params) 33

abbrev pub too_many : Name → Fault
too_many name = at S20 name.place name.text

-- a head that declares a function, or defines one
abbrev pub HeadTypes : List k.Function → Bool → Head → Heading → Type 0
HeadTypes fs defines x =
    Then (Names x.type_name) λ t.
    Then (ParamsType 0 [] x.params.list) λ ts.
    Then (Met (may_declare fs x.name.text (heading t ts) defines)) λ u.
    Then (Met (is_unmarked x.mark)) λ v.
    Then (IsYours x.name) λ w.
    Then (Met (few_params ts)) λ z h.
    heading t ts ≡ h

abbrev pub HeadFault : List k.Function → Bool → Head → Fault → Type 0
HeadFault fs defines x =
    First (Names x.type_name) (NamesNone x.type_name) λ t.
    First (ParamsType 0 [] x.params.list) (ParamsFault 0 [] x.params.list) λ ts.
    First (Met (may_declare fs x.name.text (heading t ts) defines)) (Unmet (may_declare fs x.name.text (heading t ts) defines) (declared_twice x.name)) λ u.
    First (Met (is_unmarked x.mark)) (Unmet (is_unmarked x.mark) (wrong_kind x.mark x.name)) λ v.
    First (IsYours x.name) (IsNotYours x.name) λ w.
    Unmet (few_params ts) (too_many x.name)
