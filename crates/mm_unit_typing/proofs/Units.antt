-- The check of a unit gives what the relations say.
use Rattle.std.proofs.Common.{◌≡◌, ℕ, ◌+◌, Bool, true, false, List, [], ◌∷◌, ◌++◌, refl}
use Rattle.std.specs.Prelude.{Option, Some, None}
use Rattle.mm_base.specs.declared.place.Place.{Place}
use Rattle.mm_classes.specs.declared.class.Ty.{Ty}
use Rattle.mm_core.specs.Tree as k
use Rattle.mm_syntax.specs.declared.name.Name.{Name}
use Rattle.mm_syntax.specs.declared.name.DeclaratorMark.{DeclaratorMark}
use Rattle.mm_syntax.specs.declared.expr.TypeName.{TypeName}
use Rattle.mm_syntax.specs.declared.decl.Param.{Param}
use Rattle.mm_syntax.specs.declared.decl.Head.{Head}
use Rattle.mm_syntax.specs.Tree.{Function, declaration, definition, member_definition, constructor_definition, method, destructor, constructor, Decl, class_decl, function_decl, UnitTree}
use Rattle.mm_checks.specs.Reads.{Reads}
use Rattle.mm_checks.proofs.Combinators.{part, met, gives, fails, as_said}
use Rattle.mm_scopes.specs.declared.head.Var.{Var}
use Rattle.mm_unit_typing.specs.Declarators.{unbuilt}
use Rattle.mm_unit_typing.specs.Scopes.{parameter, parameters_from}
use Rattle.mm_unit_typing.specs.Functions.{IsOrdinary, IsVirtual, MayBeParameter, MayBeNoParameter, ParamType, ParamFault, ParamsType, ParamsFault, HeadTypes, HeadFault, with_function, seen}
use Rattle.mm_unit_typing.specs.Units.{FunctionTypes, FunctionFaults, DeclTypes, DeclFaults, DeclsType, DeclsFault, UnitTypes, UnitFaults, body_here}
use Rattle.mm_unit_typing.specs.JudgeUnit.{ordinary, may_be_parameter, judge_param, judge_params, judge_own_head, judge_head, judge_body, judge_function, judge_decl, judge_decls, judge_unit}
use Rattle.mm_unit_typing.proofs.Statements.{type_reads, stands, yours, last, stmt_reads}

is_ordinary : (o : Option Place) → Reads (ordinary o) (IsOrdinary o) (IsVirtual o)
is_ordinary None = as_said (gives tt) (λ v e. refl) (λ v e. refl) (λ f e. absurd e) (λ f t. cc (t.1.0))
is_ordinary (Some p) = as_said (fails (unbuilt p)) (λ v e. absurd e) (λ v e. cc e) (λ f e. (p, (refl, e))) (λ f t. let same : p ≡ t.0 = cc (t.1.0) in rw same t.1.1)

may_be : (vs : List Var) (t : Ty) (mark : Option DeclaratorMark) (x : TypeName) (name : Option Name) → Reads (may_be_parameter vs t mark x name) (MayBeParameter vs t mark x name) (MayBeNoParameter vs t mark x name)
may_be vs t mark x None = met _ _
may_be vs t mark x (Some name) = part (stands 0 vs t mark name) λ u. yours name

param : (vs : List Var) (q : Param) → Reads (judge_param vs q) (ParamType vs q) (ParamFault vs q)
unfolding judge_param
param vs q = part (is_ordinary q.virtual_at) λ u. part (type_reads q.type_name) λ t. last (may_be vs t q.mark q.type_name q.name) _

params : (n : ℕ) (vs : List Var) (qs : List Param) → Reads (judge_params n vs qs) (ParamsType n vs qs) (ParamsFault n vs qs)
unfolding judge_params
params n vs [] = gives _
params n vs (q ∷ qs) = part (param vs q) λ t. last (params (n + 1) (vs ++ parameter n q) qs) _

pub head_reads : (fs : List k.Function) (defines : Bool) (x : Head) → Reads (judge_head fs defines x) (HeadTypes fs defines x) (HeadFault fs defines x)
unfolding judge_head judge_own_head
head_reads fs defines x = part (type_reads x.type_name) λ t. part (params 0 [] x.params.list) λ ts. part (met _ _) λ u. part (met _ _) λ v. part (yours x.name) λ w. last (met _ _) _

pub function_reads : (fs : List k.Function) (x : Function) → Reads (judge_function fs x) (FunctionTypes fs x) (FunctionFaults fs x)
unfolding judge_function judge_body
function_reads fs (declaration p x) = last (head_reads fs false x) _
function_reads fs (definition p x body) = part (head_reads fs true x) λ h. last (stmt_reads (seen (with_function fs x.name h)) (body_here x h) (parameters_from 0 x.params.list) h.params body) _
function_reads fs (member_definition p class x body) = fails _
function_reads fs (constructor_definition p class word params body) = fails _
function_reads fs (method p virtual_at x body) = fails _
function_reads fs (destructor p virtual_at word has_void) = fails _
function_reads fs (constructor p word params body) = fails _

pub decl_reads : (fs : List k.Function) (x : Decl) → Reads (judge_decl fs x) (DeclTypes fs x) (DeclFaults fs x)
unfolding judge_decl
decl_reads fs (function_decl p x) = function_reads fs x
decl_reads fs (class_decl p x) = fails _

pub decls_read : (fs : List k.Function) (xs : List Decl) → Reads (judge_decls fs xs) (DeclsType fs xs) (DeclsFault fs xs)
unfolding judge_decls
decls_read fs [] = gives _
decls_read fs (x ∷ xs) = part (decl_reads fs x) λ next. decls_read next xs

pub unit_reads : (u : UnitTree) → Reads (judge_unit u) (UnitTypes u) (UnitFaults u)
unfolding judge_unit
unit_reads u = last (decls_read [] u.decls) _
