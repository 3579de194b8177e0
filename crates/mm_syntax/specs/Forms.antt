-- The forms of trees, by which a unit's parts are built one after another. Own.
use Rattle.std.specs.Prelude.{true, false, if◌then◌else◌, List, [], ◌∷◌, ◌++◌, Option, Some, None, Bool}
use Rattle.std.specs.List.{flat_map}
use Rattle.mm_base.specs.declared.place.Place.{Place}
use Rattle.mm_syntax.specs.declared.name.UnaryOperator.{UnaryOperator}
use Rattle.mm_syntax.specs.declared.name.UnaryOperator.TheVariants as unary
use Rattle.mm_syntax.specs.declared.name.DeclaratorMark.{DeclaratorMark}
use Rattle.mm_syntax.specs.declared.expr.TypeName.{TypeName}
use Rattle.mm_syntax.specs.declared.expr.TypeNameKind.{TypeNameKind}
use Rattle.mm_syntax.specs.declared.expr.TypeNameKind.TheVariants as type
use Rattle.mm_syntax.specs.declared.decl.Param.{Param}
use Rattle.mm_syntax.specs.declared.decl.Head.{Head}
use Rattle.mm_syntax.specs.declared.form.Form.{Form}
use Rattle.mm_syntax.specs.declared.form.Forms.{Forms as FormSet}
use Rattle.mm_syntax.specs.declared.form.Form.TheVariants as form
use Rattle.mm_syntax.specs.Tree as t

-- A tree of a form, with the place of its first token. The marks of a tree are those of it and of
-- the trees inside it, in the order of the text, a tree before those inside it. A tree of no form
-- has no mark of its own.
pub record Mark : Type 0 where
  pub form : Form
  pub place : Place

-- a tree of this form, with the marks of what stands inside it
abbrev pub of_form : Form → Place → List Mark → List Mark
of_form own place inside = record { form = own; place = place } ∷ inside

-- ---- expressions and types

abbrev pub unary_marks : UnaryOperator → Place → List Mark → List Mark
unary_marks unary.Indirection place inside = of_form form.Object place inside
unary_marks unary.AddressOf place inside = of_form form.Object place inside
unary_marks _ place inside = inside

-- `new` with arguments makes its object by a constructor.
abbrev pub new_form : t.Exprs → Form
new_form t.no_exprs = form.Object
new_form (t.expr_and x xs) = form.Construct

abbrev mutual
  pub expr_marks : t.Expr → List Mark
  expr_marks (t.number p n) = []
  expr_marks (t.boolean p b) = []
  expr_marks (t.this p) = of_form form.Object p []
  expr_marks (t.name p text) = []
  expr_marks (t.scoped p class word) = of_form form.Object p []
  expr_marks (t.cast p class x) = of_form form.Cast p (expr_marks x)
  expr_marks (t.unary p op x) = unary_marks op p (expr_marks x)
  expr_marks (t.step p x op at) = expr_marks x
  expr_marks (t.binary p a op at b) = expr_marks a ++ expr_marks b
  expr_marks (t.choose p a at b c) = expr_marks a ++ expr_marks b ++ expr_marks c
  expr_marks (t.assign p a op at b) = expr_marks a ++ expr_marks b
  expr_marks (t.new p class) = of_form form.Object p []
  expr_marks (t.make p class xs) = of_form (new_form xs) p (exprs_marks xs)
  expr_marks (t.call p x xs) = expr_marks x ++ exprs_marks xs
  expr_marks (t.member p x op at class word) = of_form form.Object p (expr_marks x)

  pub exprs_marks : t.Exprs → List Mark
  exprs_marks t.no_exprs = []
  exprs_marks (t.expr_and x xs) = expr_marks x ++ exprs_marks xs

abbrev pub kind_marks : TypeNameKind → Place → List Mark
kind_marks (type.Class text) place = of_form form.Object place []
kind_marks _ place = []

abbrev pub type_marks : TypeName → List Mark
type_marks x = kind_marks x.kind x.place

abbrev pub maybe_marks : Option t.Expr → List Mark
maybe_marks None = []
maybe_marks (Some x) = expr_marks x

-- ---- statements

-- the place of the first token of what a declarator or a parameter declares
abbrev pub mark_or : Option DeclaratorMark → Place → Place
mark_or None place = place
mark_or (Some mark) place = mark.place

-- A declarator whose initializer is in parentheses is of a form.
abbrev pub initializer_marks : Place → t.Initializer → List Mark
initializer_marks place t.no_initial = []
initializer_marks place (t.initial x) = expr_marks x
initializer_marks place (t.arguments xs) = of_form form.Construct place (exprs_marks xs)

abbrev pub declarator_marks : t.Declarator → List Mark
declarator_marks x = initializer_marks (mark_or x.mark x.name.place) x.initializer

abbrev pub variables_marks : t.Variables → List Mark
variables_marks x = type_marks x.type_name ++ flat_map declarator_marks x.names

abbrev pub start_marks : t.Start → List Mark
start_marks t.no_start = []
start_marks (t.start_expr x) = expr_marks x
start_marks (t.start_variables x) = variables_marks x

abbrev mutual
  pub stmt_marks : t.Stmt → List Mark
  stmt_marks (t.block p ss) = stmts_marks ss
  stmt_marks (t.empty p) = []
  stmt_marks (t.run p x) = expr_marks x
  stmt_marks (t.declare p x) = variables_marks x
  stmt_marks (t.if_then p x a) = expr_marks x ++ stmt_marks a
  stmt_marks (t.if_else p x a b) = expr_marks x ++ stmt_marks a ++ stmt_marks b
  stmt_marks (t.while_do p x a) = expr_marks x ++ stmt_marks a
  stmt_marks (t.do_while p a x) = stmt_marks a ++ expr_marks x
  stmt_marks (t.for_do p first x y a) =
      start_marks first ++ maybe_marks x ++ maybe_marks y ++ stmt_marks a
  stmt_marks (t.break p) = []
  stmt_marks (t.continue p) = []
  stmt_marks (t.return_nothing p) = []
  stmt_marks (t.return p x) = expr_marks x

  pub stmts_marks : t.Stmts → List Mark
  stmts_marks t.no_stmts = []
  stmts_marks (t.stmt_and s ss) = stmt_marks s ++ stmts_marks ss

-- ---- functions

-- A parameter marked `virtual` is of a form.
abbrev pub param_marks_at : Option Place → List Mark → List Mark
param_marks_at None inside = inside
param_marks_at (Some place) inside = of_form form.Open place inside

abbrev pub param_marks : Param → List Mark
param_marks x = param_marks_at x.virtual_at (type_marks x.type_name)

abbrev pub head_marks : Head → List Mark
head_marks x = type_marks x.type_name ++ flat_map param_marks x.params.list

abbrev pub init_marks : t.Init → List Mark
init_marks x = exprs_marks x.arguments

abbrev pub body_marks : t.ConstructorBody → List Mark
body_marks x = flat_map init_marks x.inits ++ stmt_marks x.block

abbrev pub maybe_body_marks : Option t.ConstructorBody → List Mark
maybe_body_marks None = []
maybe_body_marks (Some x) = body_marks x

abbrev pub maybe_block_marks : Option t.Stmt → List Mark
maybe_block_marks None = []
maybe_block_marks (Some x) = stmt_marks x

abbrev pub method_form : Option Place → Form
method_form None = form.Object
method_form (Some place) = form.Virtual

abbrev pub function_marks : t.Function → List Mark
function_marks (t.declaration p x) = head_marks x
function_marks (t.definition p x body) = head_marks x ++ stmt_marks body
function_marks (t.member_definition p class x body) =
    of_form form.Object p (head_marks x ++ stmt_marks body)
function_marks (t.constructor_definition p class word params body) =
    of_form form.Construct p (flat_map param_marks params.list ++ body_marks body)
function_marks (t.method p virtual_at x body) =
    of_form (method_form virtual_at) p (head_marks x ++ maybe_block_marks body)
function_marks (t.destructor p virtual_at word has_void) = of_form form.Object p []
function_marks (t.constructor p word params body) =
    of_form form.Construct p (flat_map param_marks params.list ++ maybe_body_marks body)

-- ---- classes and units

abbrev pub item_marks : t.Item → List Mark
item_marks (t.access a) = []
item_marks (t.fields x names) = type_marks x
item_marks (t.function_item x) = function_marks x

abbrev pub class_marks : t.Class → List Mark
class_marks (t.class_declaration p key class) = of_form form.Object p []
class_marks (t.class_definition p key class bases items text) =
    of_form form.Object p (flat_map item_marks items)

-- A declaration is the class or the function that it declares.
abbrev pub decl_marks : t.Decl → List Mark
decl_marks (t.class_decl p x) = class_marks x
decl_marks (t.function_decl p x) = function_marks x

abbrev pub unit_marks : t.UnitTree → List Mark
unit_marks x = flat_map decl_marks x.decls

-- ---- the first tree of a form

-- the form is in the set
abbrev pub is_among : FormSet → Form → Bool
is_among forms form.Object = forms.objects
is_among forms form.Virtual = forms.virtuals
is_among forms form.Open = forms.opens
is_among forms form.Construct = forms.constructs
is_among forms form.Cast = forms.casts

abbrev pub all_forms : FormSet
all_forms =
    record { objects = true; virtuals = true; opens = true; constructs = true; casts = true }

-- the set of this form alone
abbrev pub only : Form → FormSet
only form.Object =
    record { objects = true; virtuals = false; opens = false; constructs = false; casts = false }
only form.Virtual =
    record { objects = false; virtuals = true; opens = false; constructs = false; casts = false }
only form.Open =
    record { objects = false; virtuals = false; opens = true; constructs = false; casts = false }
only form.Construct =
    record { objects = false; virtuals = false; opens = false; constructs = true; casts = false }
only form.Cast =
    record { objects = false; virtuals = false; opens = false; constructs = false; casts = true }

-- the place of the first tree whose form is in the set
abbrev pub first_of : FormSet → List Mark → Option Place
first_of forms [] = None
first_of forms (x ∷ xs) = if is_among forms x.form then Some x.place else first_of forms xs
