-- The trees that the rules of functions, classes and declarations give. Own.
use Rattle.std.specs.Prelude.{ℕ, true, false, List, [], ◌∷◌, ◌++◌, Option, Some, None}
use Rattle.mm_base.specs.declared.place.Place.{Place}
use Rattle.mm_token.specs.declared.token.Token.{Token}
use Rattle.mm_syntax.specs.declared.symbol.Symbol.{Symbol}
use Rattle.mm_syntax.specs.declared.symbol.Symbol.TheVariants as k
use Rattle.mm_syntax.specs.declared.name.Name.{Name}
use Rattle.mm_syntax.specs.declared.name.Access.{Access}
use Rattle.mm_syntax.specs.declared.name.Access.TheVariants as access
use Rattle.mm_syntax.specs.declared.name.ClassKey.{ClassKey}
use Rattle.mm_syntax.specs.declared.name.ClassKey.TheVariants as key
use Rattle.mm_syntax.specs.declared.name.DeclaratorMark.{DeclaratorMark}
use Rattle.mm_syntax.specs.declared.expr.Expr.{Expr}
use Rattle.mm_syntax.specs.declared.expr.TypeName.{TypeName}
use Rattle.mm_syntax.specs.declared.stmt.Stmt.{Stmt}
use Rattle.mm_syntax.specs.declared.decl.Param.{Param}
use Rattle.mm_syntax.specs.declared.decl.Params.{Params}
use Rattle.mm_syntax.specs.declared.decl.Head.{Head}
use Rattle.mm_syntax.specs.declared.decl.Init.{Init}
use Rattle.mm_syntax.specs.declared.decl.ConstructorBody.{ConstructorBody}
use Rattle.mm_syntax.specs.declared.decl.FnDeclKind.{FnDeclKind}
use Rattle.mm_syntax.specs.declared.decl.FnDeclKind.TheVariants as f
use Rattle.mm_syntax.specs.declared.decl.Base.{Base}
use Rattle.mm_syntax.specs.declared.decl.FieldName.{FieldName}
use Rattle.mm_syntax.specs.declared.decl.Member.{Member}
use Rattle.mm_syntax.specs.declared.decl.Member.TheVariants as m
use Rattle.mm_syntax.specs.declared.decl.ClassDeclKind.{ClassDeclKind}
use Rattle.mm_syntax.specs.declared.decl.ClassDeclKind.TheVariants as c
use Rattle.mm_syntax.specs.declared.decl.Decl.{Decl}
use Rattle.mm_syntax.specs.declared.decl.DeclKind.TheVariants as d
use Rattle.mm_syntax.specs.declared.part.ParamEnd.{ParamEnd}
use Rattle.mm_syntax.specs.declared.part.Declared.{Declared}
use Rattle.mm_syntax.specs.declared.part.FunctionEnd.{FunctionEnd}
use Rattle.mm_syntax.specs.declared.part.FunctionEnd.TheVariants as function_end
use Rattle.mm_syntax.specs.declared.part.AfterClass.{AfterClass}
use Rattle.mm_syntax.specs.declared.part.AfterClass.TheVariants as after_class
use Rattle.mm_syntax.specs.declared.part.ClassBody.{ClassBody}
use Rattle.mm_syntax.specs.declared.part.MemberEnd.{MemberEnd}
use Rattle.mm_syntax.specs.declared.part.MemberEnd.TheVariants as member_end
use Rattle.mm_syntax.specs.declared.part.MemberTail.{MemberTail}
use Rattle.mm_syntax.specs.declared.part.MethodTail.{MethodTail}
use Rattle.mm_syntax.specs.declared.part.DestructorTail.{DestructorTail}
use Rattle.mm_syntax.specs.declared.part.AfterVirtual.{AfterVirtual}
use Rattle.mm_syntax.specs.declared.part.AfterVirtual.TheVariants as after_virtual
use Rattle.mm_syntax.specs.declared.part.ConstructorTail.{ConstructorTail}
use Rattle.mm_syntax.specs.declared.part.AfterMemberClass.{AfterMemberClass}
use Rattle.mm_syntax.specs.declared.part.AfterMemberClass.TheVariants as after_member_class
use Rattle.mm_syntax.specs.Symbols.{symbol_of}
use Rattle.mm_syntax.specs.Built.{name_of, class_type, is_given, listed}

-- ---- parameters

abbrev pub place_if : Option Token → Option Place
place_if None = None
place_if (Some t) = Some t.place

abbrev pub name_if : Option Token → Option Name
name_if None = None
name_if (Some t) = Some (name_of t)

abbrev pub param_end : Option DeclaratorMark → Option Token → ParamEnd
param_end mark word = record { mark = mark; name = name_if word }

-- a parameter, with `virtual` before it or without
abbrev pub param : Option Token → TypeName → ParamEnd → Param
param word type_name last = record { virtual_at = place_if word; type_name = type_name; mark = last.mark; name = last.name }

abbrev pub params_of : List Param → Params
params_of list = record { has_void = false; list = list }

-- the parameters that follow `void`, which begins the first of them, or stands alone
abbrev pub after_void : TypeName → Option (ParamEnd × List Param) → Params
after_void type_name None = record { has_void = true; list = [] }
after_void type_name (Some v) = params_of (param None type_name v.0 ∷ v.1)

abbrev pub given_params : Option Params → Params
given_params None = params_of []
given_params (Some v) = v

-- ---- functions outside classes

abbrev pub head : TypeName → Option DeclaratorMark → Name → Params → Head
head type_name mark word params = record { type_name = type_name; mark = mark; name = word; params = params }

abbrev pub function_kind : TypeName → Option DeclaratorMark → FunctionEnd → FnDeclKind
function_kind type_name mark (function_end.Plain word params None) = f.Declaration (head type_name mark word params)
function_kind type_name mark (function_end.Plain word params (Some body)) = f.Definition (head type_name mark word params) body
function_kind type_name mark (function_end.Member class word params body) = f.MemberDefinition class (head type_name mark word params) body

abbrev pub function : FnDeclKind → Place → Decl
function kind place = record { kind = d.Function (record { kind = kind; place = place }); place = place }

-- a function outside classes, of its type and what follows it
abbrev pub typed : TypeName → Declared → Decl
typed type_name v = function (function_kind type_name v.mark v.end) type_name.place

abbrev pub declared : Option DeclaratorMark → FunctionEnd → Declared
declared mark last = record { mark = mark; end = last }

-- a declaration that begins with a class
abbrev pub after : Token → AfterClass → Decl
after class (after_class.Type v) = typed (class_type class) v
after class (after_class.Constructor word params body) = function (f.ConstructorDefinition (name_of class) word params body) class.place

-- ---- constructors

abbrev pub init : Token → List Expr → Init
init word args = record { name = name_of word; arguments = args }

abbrev pub constructor_body : Option (List Init) → Stmt → ConstructorBody
constructor_body inits body = record { inits = listed inits; block = body }

-- ---- members

abbrev pub access_for : Symbol → Access
access_for k.Public = access.Public
access_for k.Protected = access.Protected
access_for _ = access.Private

abbrev pub access_of : Token → Access
access_of t = access_for (symbol_of t)

abbrev pub access_if : Option Token → Option Access
access_if None = None
access_if (Some t) = Some (access_of t)

abbrev pub base : Option Token → Option Token → Token → Base
base virtual_word access_word class = record { virtual_at = place_if virtual_word; access = access_if access_word; name = name_of class }

abbrev pub field_name : Option DeclaratorMark → Token → FieldName
field_name mark word = record { mark = mark; name = name_of word }

abbrev pub member_function : FnDeclKind → Place → Member
member_function kind place = m.Function (record { kind = kind; place = place })

abbrev pub member_tail : Option DeclaratorMark → Token → MemberEnd → MemberTail
member_tail mark word last = record { mark = mark; name = name_of word; end = last }

abbrev pub method_tail : Option DeclaratorMark → Token → Params → Option Stmt → MethodTail
method_tail mark word params body = record { mark = mark; name = name_of word; params = params; body = body }

abbrev pub destructor_tail : Token → Token → Option Token → DestructorTail
destructor_tail tilde class void_word = record { start = tilde.place; name = name_of class; has_void = is_given void_word }

abbrev pub constructor_tail : Params → Option ConstructorBody → ConstructorTail
constructor_tail params body = record { params = params; body = body }

abbrev pub typed_end : TypeName → Option DeclaratorMark → Name → MemberEnd → Member
typed_end type_name mark word (member_end.Function params body) = member_function (f.Method None (head type_name mark word params) body) type_name.place
typed_end type_name mark word (member_end.Fields more) = m.Fields type_name (record { mark = mark; name = word } ∷ more)

-- a member that begins with a type
abbrev pub typed_member : TypeName → MemberTail → Member
typed_member type_name v = typed_end type_name v.mark v.name v.end

-- a member that begins with a class
abbrev pub after_in_class : Token → AfterMemberClass → Member
after_in_class class (after_member_class.Type v) = typed_member (class_type class) v
after_in_class class (after_member_class.Constructor v) = member_function (f.Constructor (name_of class) v.params v.body) class.place

-- a destructor without `virtual` begins at its `~`
abbrev pub destructor : DestructorTail → Member
destructor v = member_function (f.Destructor None v.name v.has_void) v.start

-- a member that begins with `virtual`
abbrev pub virtual_member : Token → AfterVirtual → Member
virtual_member word (after_virtual.Method type_name v) = member_function (f.Method (Some word.place) (head type_name v.mark v.name v.params) v.body) word.place
virtual_member word (after_virtual.Destructor v) = member_function (f.Destructor (Some word.place) v.name v.has_void) word.place

-- ---- classes

abbrev pub key_for : Symbol → ClassKey
key_for k.StructKey = key.Struct
key_for _ = key.Class

-- texts joined by blanks
abbrev pub texts : List Token → List ℕ
texts [] = []
texts (t ∷ []) = t.text
texts (t ∷ (u ∷ more)) = t.text ++ 32 ∷ texts (u ∷ more)

abbrev pub class_kind : List Token → ClassKey → Name → Option ClassBody → ClassDeclKind
class_kind tokens word class None = c.Declaration word class
class_kind tokens word class (Some body) = c.Definition word class body.bases body.members (texts tokens)

abbrev pub class_body : Option (List Base) → List Member → ClassBody
class_body bases members = record { bases = listed bases; members = members }

-- a class, of its tokens before the `;`, its word, its name and its body
abbrev pub class_decl : List Token → Token → Token → Option ClassBody → Decl
class_decl tokens word class body = record {
  kind = d.Class (record { kind = class_kind tokens (key_for (symbol_of word)) (name_of class) body; place = word.place });
  place = word.place;
}
