-- The parts of the grammar of classes that functions of their own read. ISO/IEC 14882:1998, 9 and 10.
use Rattle.std.specs.Prelude.{ℕ, Bool, true, false, List, [], ◌∷◌, map, Option, Some, None}
use Rattle.mm_grammar.specs.Grammar.{name, seq, alt, many, give, opt, kept, Begins, Avoids}
use Rattle.mm_base.specs.declared.place.Place.{Place}
use Rattle.mm_token.specs.declared.token.Token.{Token}
use Rattle.mm_syntax.specs.declared.symbol.Symbol.{Symbol}
use Rattle.mm_syntax.specs.declared.symbol.Symbol.TheVariants as k
use Rattle.mm_syntax.specs.declared.name.Access.{Access}
use Rattle.mm_syntax.specs.declared.stmt.Stmt.{Stmt}
use Rattle.mm_syntax.specs.declared.decl.Base.{Base}
use Rattle.mm_syntax.specs.declared.decl.ConstructorBody.{ConstructorBody}
use Rattle.mm_syntax.specs.declared.decl.Decl.{Decl}
use Rattle.mm_syntax.specs.declared.decl.FieldName.{FieldName}
use Rattle.mm_syntax.specs.declared.decl.Member.{Member}
use Rattle.mm_syntax.specs.declared.decl.Member.TheVariants as m
use Rattle.mm_syntax.specs.declared.part.DestructorTail.{DestructorTail}
use Rattle.mm_syntax.specs.declared.part.MemberEnd.{MemberEnd}
use Rattle.mm_syntax.specs.declared.part.MemberEnd.TheVariants as member_is
use Rattle.mm_syntax.specs.Built as b
use Rattle.mm_syntax.specs.BuiltDeclarations as bd
use Rattle.mm_syntax.specs.Symbols.{number_of}
use Rattle.mm_syntax.specs.Rules.{P, units, token, accesses, parameters, mark, item, class_head, constructor_body, void_type, number_type, base, next_field, method_body, member_tail, after_virtual, after_member_class, ◌▸◌, ◌◂◌}

-- `class` or `struct`
abbrev pub class_keys : List Symbol
class_keys = k.ClassKey ∷ k.StructKey ∷ []

-- the declaration or the definition of a class, and `;`
abbrev pub class_declaration : ℕ → P Decl
class_declaration n = give (λ v. bd.class_decl v.0 v.1.0 v.1.1.0 v.1.1.1) (kept (class_head n) ◂ token (k.Semicolon ∷ []))

-- whether one of these stands next
abbrev pub Foresees : List Symbol → List Token → Bool → Type 0
Foresees symbols ts true = Begins units (map number_of symbols) ts
Foresees symbols ts false = Avoids units (map number_of symbols) ts

-- a `;` that may be left out
abbrev pub semicolon_if : P (Unit {0})
semicolon_if = give (λ v. tt) (opt (token (k.Semicolon ∷ [])))

-- ---- bases

-- the tree of a base, of the place of `virtual` and the access
abbrev pub base_of : Option Place → Option Access → Token → Base
base_of virtual_at access class = record { virtual_at = virtual_at; access = access; name = b.name_of class }

-- access? K, behind `virtual`
abbrev pub virtual_base : Token → P Base
virtual_base word = give (λ v. bd.base (Some word) v.0 v.1) (seq (opt (token accesses)) (token (k.Class ∷ [])))

-- access virtual? K
abbrev pub access_base : P Base
access_base = give (λ v. bd.base v.1.0 (Some v.0) v.1.1) (seq (token accesses) (seq (opt (token (k.Virtual ∷ []))) (token (k.Class ∷ []))))

-- base (, base)*
abbrev pub base_list : P (List Base)
base_list = give (λ v. v.0 ∷ v.1) (seq base (many (token (k.Comma ∷ []) ▸ base)))

-- ---- functions

-- ; or block ;?
abbrev pub method_rest : ℕ → P (Option Stmt)
method_rest n = alt (give (λ t. None) (token (k.Semicolon ∷ []))) (give (λ v. Some v) (method_body n))

-- inits? block ;?
abbrev pub inner_constructor : ℕ → P ConstructorBody
inner_constructor n = constructor_body n ◂ opt (token (k.Semicolon ∷ []))

-- ; or inits? block ;?
abbrev pub constructor_rest : ℕ → P (Option ConstructorBody)
constructor_rest n = alt (give (λ t. None) (token (k.Semicolon ∷ []))) (give (λ v. Some v) (inner_constructor n))

-- ( void? ) { } ;?
abbrev pub after_destructor : P (Option Token)
after_destructor = token (k.Open ∷ []) ▸ opt (token (k.Void ∷ [])) ◂ token (k.Close ∷ []) ◂ token (k.OpenBrace ∷ []) ◂ token (k.CloseBrace ∷ []) ◂ opt (token (k.Semicolon ∷ []))

-- a destructor behind its `~`
abbrev pub destructor_from : Token → P DestructorTail
destructor_from tilde = give (λ v. bd.destructor_tail tilde v.0 v.1) (seq (token (k.Class ∷ [])) after_destructor)

-- the tree of a destructor, of whether `void` stands in its parentheses
abbrev pub destructor_of : Token → Token → Bool → DestructorTail
destructor_of tilde class has_void = record { start = tilde.place; name = b.name_of class; has_void = has_void }

-- ( params ) (; | block ;?), behind the name of a member
abbrev pub function_end : ℕ → P MemberEnd
function_end n = give (λ v. member_is.Function v.0 v.1) (seq parameters (method_rest n))

-- ---- fields

-- (* | &)? W
abbrev pub field : P FieldName
field = give (λ v. bd.field_name v.0 v.1) (seq (opt mark) (token (k.Word ∷ [])))

-- (, field)* ;
abbrev pub fields : P (List FieldName)
fields = many next_field ◂ token (k.Semicolon ∷ [])

-- ---- members

-- : behind an access
abbrev pub access_item : Token → P Member
access_item word = give (λ t. m.Access (bd.access_of word)) (token (k.Colon ∷ []))

-- a member behind its `virtual`
abbrev pub virtual_item : Token → ℕ → P Member
virtual_item word n = give (λ v. bd.virtual_member word v) (after_virtual n)

-- a destructor behind its `~`, as a member
abbrev pub destructor_item : Token → P Member
destructor_item tilde = give bd.destructor (destructor_from tilde)

-- a member behind the class that it begins with
abbrev pub class_item : Token → ℕ → P Member
class_item class n = give (λ v. bd.after_in_class class v) (after_member_class n)

-- a member that begins with another type
abbrev pub typed_item : ℕ → P Member
typed_item n = give (λ v. bd.typed_member v.0 v.1) (seq (alt void_type number_type) (member_tail n))

-- item* }
abbrev pub members : ℕ → P (List Member)
members n = many (name (item n)) ◂ token (k.CloseBrace ∷ [])
