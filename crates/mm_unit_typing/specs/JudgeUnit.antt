-- The check of a unit as a function: its parts in order. It says the same as the relations of `Functions` and `Units`, and
-- serves the code. Own.
use Rattle.std.specs.Prelude.{ℕ, ◌+◌, Bool, true, false, List, [], ◌∷◌, ◌++◌, Option, Some, None, Ok, Err}
use Rattle.mm_base.specs.declared.place.Place.{Place}
use Rattle.mm_classes.specs.declared.class.Ty.{Ty}
use Rattle.mm_core.specs.Tree as k
use Rattle.mm_core.specs.Units as units
use Rattle.mm_syntax.specs.declared.name.Name.{Name}
use Rattle.mm_syntax.specs.declared.name.DeclaratorMark.{DeclaratorMark}
use Rattle.mm_syntax.specs.declared.expr.TypeName.{TypeName}
use Rattle.mm_syntax.specs.declared.decl.Param.{Param}
use Rattle.mm_syntax.specs.declared.decl.Head.{Head}
use Rattle.mm_syntax.specs.Tree.{Function, declaration, definition, Decl, class_decl, function_decl, UnitTree, Stmt}
use Rattle.mm_checks.specs.Checks.{Checked, ◌>>=◌, demand}
use Rattle.mm_scopes.specs.declared.head.Var.{Var}
use Rattle.mm_unit_typing.specs.Declarators.{holds_value, is_unmarked, wrong_kind, declared_twice, unbuilt}
use Rattle.mm_unit_typing.specs.Scopes.{parameter, parameters_from}
use Rattle.mm_unit_typing.specs.Made.{Made}
use Rattle.mm_unit_typing.specs.Judge.{judge_type, may_stand, is_yours, judge_stmt}
use Rattle.mm_unit_typing.specs.Functions.{Heading, heading, wrong_parameter, may_declare, few_params, too_many, with_function, seen}
use Rattle.mm_unit_typing.specs.Units.{body_here, defined, place_of, unit_of}

abbrev pub ordinary : Option Place → Checked (Unit {0})
ordinary None = Ok tt
ordinary (Some p) = Err (unbuilt p)

abbrev pub may_be_parameter : List Var → Ty → Option DeclaratorMark → TypeName → Option Name → Checked (Unit {0})
may_be_parameter vs t mark x None = demand (holds_value mark t) (wrong_parameter mark x)
may_be_parameter vs t mark x (Some name) = do
  u ← may_stand 0 vs t mark name
  is_yours name

unfoldable pub judge_param : List Var → Param → Checked Ty
judge_param vs q = do
  u ← ordinary q.virtual_at
  t ← judge_type q.type_name
  w ← may_be_parameter vs t q.mark q.type_name q.name
  Ok t

unfoldable pub judge_params : ℕ → List Var → List Param → Checked (List Ty)
judge_params n vs [] = Ok []
judge_params n vs (q ∷ qs) = do
  t ← judge_param vs q
  ts ← judge_params (n + 1) (vs ++ parameter n q) qs
  Ok (t ∷ ts)

unfoldable pub judge_own_head : List k.Function → Bool → Head → Ty → List Ty → Checked Heading
judge_own_head fs defines x t ts = do
  u ← demand (may_declare fs x.name.text (heading t ts) defines) (declared_twice x.name)
  v ← demand (is_unmarked x.mark) (wrong_kind x.mark x.name)
  w ← is_yours x.name
  z ← demand (few_params ts) (too_many x.name)
  Ok (heading t ts)

unfoldable pub judge_head : List k.Function → Bool → Head → Checked Heading
judge_head fs defines x = do
  t ← judge_type x.type_name
  ts ← judge_params 0 [] x.params.list
  judge_own_head fs defines x t ts

unfoldable pub judge_body : List k.Function → Head → Heading → Stmt → Checked (Made (List k.Stmt))
judge_body fs x h body = judge_stmt (seen fs) (body_here x h) (parameters_from 0 x.params.list) h.params body

unfoldable pub judge_function : List k.Function → Function → Checked (List k.Function)
judge_function fs (declaration p x) = do
  h ← judge_head fs false x
  Ok (with_function fs x.name h)
judge_function fs (definition p x body) = do
  h ← judge_head fs true x
  b ← judge_body (with_function fs x.name h) x h body
  Ok (defined (with_function fs x.name h) x.name h b)
judge_function fs other = Err (unbuilt (place_of other))

unfoldable pub judge_decl : List k.Function → Decl → Checked (List k.Function)
judge_decl fs (function_decl p x) = judge_function fs x
judge_decl fs (class_decl p x) = Err (unbuilt p)

unfoldable pub judge_decls : List k.Function → List Decl → Checked (List k.Function)
judge_decls fs [] = Ok fs
judge_decls fs (x ∷ xs) = do
  next ← judge_decl fs x
  judge_decls next xs

unfoldable pub judge_unit : UnitTree → Checked units.Checked
judge_unit u = do
  fs ← judge_decls [] u.decls
  Ok (unit_of u fs)
