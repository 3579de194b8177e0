-- The grammar of a unit as data: one clause of `rule_of` for each rule, with the tree that it gives. Own, after
-- ISO/IEC 14882:1998, annex A, of which it is a subset.
use Rattle.std.specs.Prelude.{ℕ, zero, suc, List, [], ◌∷◌, map, Option, Some, None}
use Rattle.mm_grammar.specs.Grammar.{Part, one, name, seq, alt, fork, many, tailed, kept, give, opt, Language}
use Rattle.mm_token.specs.declared.token.Token.{Token}
use Rattle.mm_syntax.specs.declared.symbol.Symbol.{Symbol}
use Rattle.mm_syntax.specs.declared.symbol.Symbol.TheVariants as k
use Rattle.mm_syntax.specs.declared.name.DeclaratorMark.{DeclaratorMark}
use Rattle.mm_syntax.specs.declared.expr.Expr.{Expr}
use Rattle.mm_syntax.specs.declared.expr.ExprKind.{ExprKind}
use Rattle.mm_syntax.specs.declared.expr.TypeName.{TypeName}
use Rattle.mm_syntax.specs.declared.part.Begun.{Begun}
use Rattle.mm_syntax.specs.declared.part.End.{End}
use Rattle.mm_syntax.specs.declared.part.Suffix.{Suffix}
use Rattle.mm_syntax.specs.Symbols.{number_of, symbol_of}
use Rattle.mm_syntax.specs.declared.stmt.Stmt.{Stmt}
use Rattle.mm_syntax.specs.declared.stmt.Variables.{Variables}
use Rattle.mm_syntax.specs.declared.stmt.Declarator.{Declarator}
use Rattle.mm_syntax.specs.declared.stmt.Initializer.{Initializer}
use Rattle.mm_syntax.specs.declared.stmt.Initializer.TheVariants as initializer
use Rattle.mm_syntax.specs.declared.stmt.ForStart.{ForStart}
use Rattle.mm_syntax.specs.declared.stmt.ForStart.TheVariants as start
use Rattle.mm_syntax.specs.declared.stmt.StmtKind.TheVariants as s
use Rattle.mm_syntax.specs.declared.decl.Param.{Param}
use Rattle.mm_syntax.specs.declared.decl.Params.{Params}
use Rattle.mm_syntax.specs.declared.decl.Init.{Init}
use Rattle.mm_syntax.specs.declared.decl.ConstructorBody.{ConstructorBody}
use Rattle.mm_syntax.specs.declared.decl.Base.{Base}
use Rattle.mm_syntax.specs.declared.decl.FieldName.{FieldName}
use Rattle.mm_syntax.specs.declared.decl.Member.{Member}
use Rattle.mm_syntax.specs.declared.decl.Member.TheVariants as m
use Rattle.mm_syntax.specs.declared.decl.Decl.{Decl}
use Rattle.mm_syntax.specs.declared.part.ParamEnd.{ParamEnd}
use Rattle.mm_syntax.specs.declared.part.Declared.{Declared}
use Rattle.mm_syntax.specs.declared.part.FunctionEnd.{FunctionEnd}
use Rattle.mm_syntax.specs.declared.part.FunctionEnd.TheVariants as end_of
use Rattle.mm_syntax.specs.declared.part.AfterClass.{AfterClass}
use Rattle.mm_syntax.specs.declared.part.AfterClass.TheVariants as after_class
use Rattle.mm_syntax.specs.declared.part.ClassBody.{ClassBody}
use Rattle.mm_syntax.specs.declared.part.MemberEnd.{MemberEnd}
use Rattle.mm_syntax.specs.declared.part.MemberEnd.TheVariants as member_is
use Rattle.mm_syntax.specs.declared.part.MemberTail.{MemberTail}
use Rattle.mm_syntax.specs.declared.part.MethodTail.{MethodTail}
use Rattle.mm_syntax.specs.declared.part.DestructorTail.{DestructorTail}
use Rattle.mm_syntax.specs.declared.part.AfterVirtual.{AfterVirtual}
use Rattle.mm_syntax.specs.declared.part.AfterVirtual.TheVariants as virtual_is
use Rattle.mm_syntax.specs.declared.part.ConstructorTail.{ConstructorTail}
use Rattle.mm_syntax.specs.declared.part.AfterMemberClass.{AfterMemberClass}
use Rattle.mm_syntax.specs.declared.part.AfterMemberClass.TheVariants as class_is
use Rattle.mm_syntax.specs.Built as b
use Rattle.mm_syntax.specs.BuiltStatements as bs
use Rattle.mm_syntax.specs.BuiltDeclarations as bd

pub data Rule : Type 0 where
  -- each in which so many statements may stand one inside the other
  unit decl item block stmt : ℕ → Rule
  params param inits init : Rule
  var declarator type_name args : Rule
  expr or and eq rel add mul unary postfix primary : Rule

abbrev pub Value : Rule → Type 0
Value (unit n) = List Decl
Value (decl n) = Decl
Value (item n) = Member
Value params = Params
Value param = Param
Value inits = List Init
Value init = Init
Value (block n) = Stmt
Value (stmt n) = Stmt
Value var = Variables
Value declarator = Declarator
Value type_name = TypeName
Value args = List Expr
Value expr = Begun
Value or = Begun
Value and = Begun
Value eq = Begun
Value rel = Begun
Value add = Begun
Value mul = Begun
Value unary = Begun
Value postfix = Begun
Value primary = Begun

abbrev pub P : Type 0 → Type 1
P A = Part Token Rule Value A

-- a token that is one of these
abbrev pub token : List Symbol → P Token
token symbols = one (map number_of symbols)

-- the one, and then the other, whose value alone counts
infixr 40 ◌▸◌
abbrev pub ◌▸◌ : {A B : Type 0} → P A → P B → P B
p ▸ q = give (λ v. v.1) (seq p q)

-- the one, whose value alone counts, and then the other
infixl 45 ◌◂◌
abbrev pub ◌◂◌ : {A B : Type 0} → P A → P B → P A
p ◂ q = give (λ v. v.0) (seq p q)

-- ---- types

-- void | bool | int | unsigned int?
abbrev pub number_type : P TypeName
number_type = alt
    (give b.word_type (token (k.Bool ∷ k.Int ∷ [])))
    (give (λ v. b.unsigned_type v.0 v.1) (seq (token (k.Unsigned ∷ [])) (opt (token (k.Int ∷ [])))))

-- K as a type
abbrev pub class_type : P TypeName
class_type = give b.class_type (token (k.Class ∷ []))

-- ---- expressions

-- p, and then any number of times an operator and p
abbrev pub link : P Begun → List Symbol → P (Token × Begun)
link p operators = seq (token operators) p

abbrev pub chain : P Begun → List Symbol → P Begun
chain p operators = give (λ v. b.joined v.0 v.1) (seq p (many (link p operators)))

-- = += -= *= /= %=
abbrev pub assigning : List Symbol
assigning = k.Assign ∷ k.PlusAssign ∷ k.MinusAssign ∷ k.StarAssign ∷ k.SlashAssign ∷ k.PercentAssign ∷ []

-- ? expr : expr, or an assigning operator and expr
abbrev pub end : P End
end = alt
    (give (λ v. b.chosen v.0 v.1.0 v.1.1) (seq (token (k.Question ∷ [])) (seq (name expr) (token (k.Colon ∷ []) ▸ name expr))))
    (give (λ v. b.assigned v.0 v.1) (seq (token assigning) (name expr)))

-- what follows the `(` of arguments: args? )
abbrev pub inside : P (List Expr)
inside = give b.listed (opt (name args)) ◂ token (k.Close ∷ [])

-- ( args? )
abbrev pub call : P (List Expr)
call = token (k.Open ∷ []) ▸ inside

-- what follows `new`: K (( args? ))?
abbrev pub after_new : P ExprKind
after_new = give (λ v. b.made v.0 v.1) (seq (token (k.Class ∷ [])) (opt call))

-- K ::, with the class as its value
abbrev pub scope : P Token
scope = token (k.Class ∷ []) ◂ token (k.Scope ∷ [])

-- K :: W
abbrev pub scoped : P Begun
scoped = give (λ v. b.scoped v.0 v.1) (seq scope (token (k.Word ∷ [])))

-- what follows `.` or `->`: (K ::)? W
abbrev pub selected : P (Option Token × Token)
selected = seq (opt scope) (token (k.Word ∷ []))

-- what may follow a postfix expression
abbrev pub suffix : P Suffix
suffix = alt
    (give b.called call)
    (alt
    (give (λ v. b.member_of v.0 v.1.0 v.1.1) (seq (token (k.Dot ∷ k.Arrow ∷ [])) selected))
    (give b.stepped (token (k.PlusPlus ∷ k.MinusMinus ∷ []))))

-- + - ! * & ++ --
abbrev pub prefixes : List Symbol
prefixes = k.Plus ∷ k.Minus ∷ k.Not ∷ k.Star ∷ k.And ∷ k.PlusPlus ∷ k.MinusMinus ∷ []

-- N true false this W
abbrev pub leaves : List Symbol
leaves = k.Number ∷ k.True ∷ k.False ∷ k.This ∷ k.Word ∷ []

-- ( expr )
abbrev pub enclosed : P Begun
enclosed = token (k.Open ∷ []) ▸ name expr ◂ token (k.Close ∷ [])

-- what follows `dynamic_cast`: < K * > ( expr )
abbrev pub cast_to : P (Token × Begun)
cast_to = seq (token (k.Less ∷ []) ▸ token (k.Class ∷ []) ◂ token (k.Star ∷ []) ◂ token (k.Greater ∷ [])) enclosed

-- a comma and an expression
abbrev pub another : P Expr
another = give (λ v. v.tree) (token (k.Comma ∷ []) ▸ name expr)

-- ---- statements

-- * | &
abbrev pub mark : P DeclaratorMark
mark = give b.mark_of (token (k.Star ∷ k.And ∷ []))

-- = expr, or ( args )
abbrev pub initial : P Initializer
initial = alt
    (give (λ v. initializer.Value v.tree) (token (k.Assign ∷ []) ▸ name expr))
    (give (λ xs. initializer.Arguments xs) (token (k.Open ∷ []) ▸ name args ◂ token (k.Close ∷ [])))

-- a comma and a declarator
abbrev pub next_declarator : P Declarator
next_declarator = token (k.Comma ∷ []) ▸ name declarator

-- expr ;
abbrev pub expr_stmt : P Begun
expr_stmt = name expr ◂ token (k.Semicolon ∷ [])

-- expr ; or var, as the second token tells where the first is K
abbrev pub simple_stmt : P Stmt
simple_stmt = fork (give bs.run expr_stmt) (give bs.declared (name var))

-- what follows the `(` of `for`: ; or expr ; or var
abbrev pub for_start : P ForStart
for_start = alt
    (give (λ t. start.Nothing) (token (k.Semicolon ∷ [])))
    (fork (give (λ v. start.Expr v.tree) expr_stmt) (give (λ v. start.Variables v) (name var)))

-- else stmt
abbrev pub otherwise : ℕ → P Stmt
otherwise n = token (k.Else ∷ []) ▸ name (stmt n)

-- stmt (else stmt)?, with `else` at the nearest `if` that has none
abbrev pub branches : ℕ → P (Stmt × Option Stmt)
branches n = tailed (name (stmt n)) bs.is_closed (otherwise n)

-- expr? and this mark
abbrev pub maybe_expr : Symbol → P (Option Begun)
maybe_expr close = opt (name expr) ◂ token (close ∷ [])

abbrev pub if_stmt : ℕ → P Stmt
if_stmt n = give (λ v. bs.branched v.0 v.1.0 v.1.1.0 v.1.1.1) (seq (token (k.If ∷ [])) (seq enclosed (branches n)))

abbrev pub while_stmt : ℕ → P Stmt
while_stmt n = give (λ v. bs.looped v.0 v.1.0 v.1.1) (seq (token (k.While ∷ [])) (seq enclosed (name (stmt n))))

abbrev pub do_stmt : ℕ → P Stmt
do_stmt n = give (λ v. bs.done_while v.0 v.1.0 v.1.1) (seq (token (k.Do ∷ [])) (seq (name (stmt n)) (token (k.While ∷ []) ▸ enclosed ◂ token (k.Semicolon ∷ []))))

abbrev pub for_stmt : ℕ → P Stmt
for_stmt n = give (λ v. bs.repeated v.0 v.1.0 v.1.1.0 v.1.1.1.0 v.1.1.1.1)
    (seq (token (k.For ∷ [])) (seq (token (k.Open ∷ []) ▸ for_start) (seq (maybe_expr k.Semicolon) (seq (maybe_expr k.Close) (name (stmt n))))))

abbrev pub empty_stmt : P Stmt
empty_stmt = give (λ t. bs.statement s.Empty t.place) (token (k.Semicolon ∷ []))

abbrev pub break_stmt : P Stmt
break_stmt = give (λ t. bs.statement s.Break t.place) (token (k.Break ∷ []) ◂ token (k.Semicolon ∷ []))

abbrev pub continue_stmt : P Stmt
continue_stmt = give (λ t. bs.statement s.Continue t.place) (token (k.Continue ∷ []) ◂ token (k.Semicolon ∷ []))

abbrev pub return_stmt : P Stmt
return_stmt = give (λ v. bs.returned v.0 v.1) (seq (token (k.Return ∷ [])) (maybe_expr k.Semicolon))

-- ---- functions

-- ( params )
abbrev pub parameters : P Params
parameters = token (k.Open ∷ []) ▸ name params ◂ token (k.Close ∷ [])

-- (* | &)? W?
abbrev pub param_end : P ParamEnd
param_end = give (λ v. bd.param_end v.0 v.1) (seq (opt mark) (opt (token (k.Word ∷ []))))

-- the same, but not empty
abbrev pub void_end : P ParamEnd
void_end = alt
    (give (λ v. bd.param_end (Some v.0) v.1) (seq mark (opt (token (k.Word ∷ [])))))
    (give (λ t. bd.param_end None (Some t)) (token (k.Word ∷ [])))

abbrev pub void_type : P TypeName
void_type = give b.word_type (token (k.Void ∷ []))

-- a parameter that doesn't begin with `void`
abbrev pub other_param : P Param
other_param = alt
    (give (λ v. bd.param (Some v.0) v.1.0 v.1.1) (seq (token (k.Virtual ∷ [])) (seq (name type_name) param_end)))
    (give (λ v. bd.param None v.0 v.1) (seq (alt number_type class_type) param_end))

-- (, param)*
abbrev pub more_params : P (List Param)
more_params = many (token (k.Comma ∷ []) ▸ name param)

-- what follows a first `void`
abbrev pub after_void : P (Option (ParamEnd × List Param))
after_void = opt (seq void_end more_params)

-- params, but not nothing
abbrev pub some_params : P Params
some_params = alt
    (give (λ v. bd.after_void v.0 v.1) (seq void_type after_void))
    (give (λ v. bd.params_of (v.0 ∷ v.1)) (seq other_param more_params))

-- ; or block
abbrev pub function_body : ℕ → P (Option Stmt)
function_body n = alt (give (λ t. None) (token (k.Semicolon ∷ []))) (give (λ v. Some v) (name (block n)))

-- what follows the mark of a function: W ( params ) (; | block), or K :: W ( params ) block
abbrev pub function_end : ℕ → P FunctionEnd
function_end n = alt
    (give (λ v. end_of.Plain (b.name_of v.0) v.1.0 v.1.1) (seq (token (k.Word ∷ [])) (seq parameters (function_body n))))
    (give (λ v. end_of.Member (b.name_of v.0) (b.name_of v.1.0) v.1.1.0 v.1.1.1) (seq scope (seq (token (k.Word ∷ [])) (seq parameters (name (block n))))))

-- what follows the type of a function
abbrev pub after_type : ℕ → P Declared
after_type n = give (λ v. bd.declared v.0 v.1) (seq (opt mark) (function_end n))

-- inits? block
abbrev pub constructor_body : ℕ → P ConstructorBody
constructor_body n = give (λ v. bd.constructor_body v.0 v.1) (seq (opt (name inits)) (name (block n)))

-- what follows K in a definition of its constructor: :: K ( params ) inits? block
abbrev pub constructor_end : ℕ → P AfterClass
constructor_end n = give (λ v. after_class.Constructor (b.name_of v.0) v.1.0 v.1.1) (token (k.Scope ∷ []) ▸ seq (token (k.Class ∷ [])) (seq parameters (constructor_body n)))

abbrev pub after_class_name : ℕ → P AfterClass
after_class_name n = alt (give (λ v. after_class.Type v) (after_type n)) (constructor_end n)

-- ---- classes

abbrev pub accesses : List Symbol
accesses = k.Public ∷ k.Protected ∷ k.Private ∷ []

-- K, virtual access? K, or access virtual? K
abbrev pub base : P Base
base = alt
    (give (λ t. bd.base None None t) (token (k.Class ∷ [])))
    (alt
    (give (λ v. bd.base (Some v.0) v.1.0 v.1.1) (seq (token (k.Virtual ∷ [])) (seq (opt (token accesses)) (token (k.Class ∷ [])))))
    (give (λ v. bd.base v.1.0 (Some v.0) v.1.1) (seq (token accesses) (seq (opt (token (k.Virtual ∷ []))) (token (k.Class ∷ []))))))

-- : base (, base)*
abbrev pub bases : P (List Base)
bases = give (λ v. v.0 ∷ v.1) (token (k.Colon ∷ []) ▸ seq base (many (token (k.Comma ∷ []) ▸ base)))

abbrev pub items : ℕ → P (List Member)
items n = token (k.OpenBrace ∷ []) ▸ many (name (item n)) ◂ token (k.CloseBrace ∷ [])

-- bases? { item* }
abbrev pub class_body : ℕ → P ClassBody
class_body n = give (λ v. bd.class_body v.0 v.1) (seq (opt bases) (items n))

-- (class | struct) K, and a body where the class is defined
abbrev pub class_head : ℕ → P (Token × (Token × Option ClassBody))
class_head n = seq (token (k.ClassKey ∷ k.StructKey ∷ [])) (seq (token (k.Class ∷ [])) (opt (class_body n)))

-- a block in a class, after which a `;` may stand
abbrev pub method_body : ℕ → P Stmt
method_body n = name (block n) ◂ opt (token (k.Semicolon ∷ []))

-- ( params ) (; | block ;?)
abbrev pub method_end : ℕ → P (Params × Option Stmt)
method_end n = seq parameters (alt (give (λ t. None) (token (k.Semicolon ∷ []))) (give (λ v. Some v) (method_body n)))

-- , (* | &)? W
abbrev pub next_field : P FieldName
next_field = give (λ v. bd.field_name v.0 v.1) (token (k.Comma ∷ []) ▸ seq (opt mark) (token (k.Word ∷ [])))

-- what follows the name of a member function, or of a field
abbrev pub member_end : ℕ → P MemberEnd
member_end n = alt
    (give (λ v. member_is.Function v.0 v.1) (method_end n))
    (give (λ v. member_is.Fields v) (many next_field ◂ token (k.Semicolon ∷ [])))

-- what follows the type of a member
abbrev pub member_tail : ℕ → P MemberTail
member_tail n = give (λ v. bd.member_tail v.0 v.1.0 v.1.1) (seq (opt mark) (seq (token (k.Word ∷ [])) (member_end n)))

-- what follows the type of a member function
abbrev pub method_tail : ℕ → P MethodTail
method_tail n = give (λ v. bd.method_tail v.0 v.1.0 v.1.1.0 v.1.1.1) (seq (opt mark) (seq (token (k.Word ∷ [])) (method_end n)))

-- ~ K ( void? ) { } ;?
abbrev pub destructor : P DestructorTail
destructor = give (λ v. bd.destructor_tail v.0 v.1.0 v.1.1)
    (seq (token (k.Tilde ∷ [])) (seq (token (k.Class ∷ [])) (token (k.Open ∷ []) ▸ opt (token (k.Void ∷ [])) ◂ token (k.Close ∷ []) ◂ token (k.OpenBrace ∷ []) ◂ token (k.CloseBrace ∷ []) ◂ opt (token (k.Semicolon ∷ [])))))

-- what follows `virtual`
abbrev pub after_virtual : ℕ → P AfterVirtual
after_virtual n = alt
    (give (λ v. virtual_is.Destructor v) destructor)
    (give (λ v. virtual_is.Method v.0 v.1) (seq (name type_name) (method_tail n)))

-- what follows K in a declaration of its constructor: ( params ) (; | inits? block ;?)
abbrev pub constructor_tail : ℕ → P ConstructorTail
constructor_tail n = give (λ v. bd.constructor_tail v.0 v.1)
    (seq parameters (alt (give (λ t. None) (token (k.Semicolon ∷ []))) (give (λ v. Some v) (constructor_body n ◂ opt (token (k.Semicolon ∷ []))))))

-- what follows K at the start of a member
abbrev pub after_member_class : ℕ → P AfterMemberClass
after_member_class n = alt (give (λ v. class_is.Type v) (member_tail n)) (give (λ v. class_is.Constructor v) (constructor_tail n))

-- ---- the rules

abbrev pub rule_of : (x : Rule) → P (Value x)
rule_of (unit n) = many (name (decl n))
-- classdecl, classdef, fndecl, fndef and memberdef. The first two begin alike, and so do the others, with a type;
-- where that is K, a constructor begins alike too.
rule_of (decl n) = alt
    (give (λ v. bd.class_decl v.0 v.1.0 v.1.1.0 v.1.1.1) (kept (class_head n) ◂ token (k.Semicolon ∷ [])))
    (alt
    (give (λ v. bd.typed v.0 v.1) (seq (alt void_type number_type) (after_type n)))
    (give (λ v. bd.after v.0 v.1) (seq (token (k.Class ∷ [])) (after_class_name n))))
-- access `:`, fields, memberfn, destructor and constructor. Fields and functions begin alike, with a type; where
-- that is K, a constructor begins alike too; and `virtual` begins a function or a destructor.
rule_of (item n) = alt
    (give (λ t. m.Access (bd.access_of t)) (token accesses ◂ token (k.Colon ∷ [])))
    (alt
    (give (λ v. bd.virtual_member v.0 v.1) (seq (token (k.Virtual ∷ [])) (after_virtual n)))
    (alt
    (give bd.destructor destructor)
    (alt
    (give (λ v. bd.typed_member v.0 v.1) (seq (alt void_type number_type) (member_tail n)))
    (give (λ v. bd.after_in_class v.0 v.1) (seq (token (k.Class ∷ [])) (after_member_class n))))))
-- `void` stands alone, or begins the first parameter.
rule_of params = give bd.given_params (opt some_params)
rule_of param = alt (give (λ v. bd.param None v.0 v.1) (seq void_type void_end)) other_param
rule_of inits = give (λ v. v.0 ∷ v.1) (token (k.Colon ∷ []) ▸ seq (name init) (many (token (k.Comma ∷ []) ▸ name init)))
rule_of init = give (λ v. bd.init v.0 v.1) (seq (token (k.Word ∷ k.Class ∷ [])) call)
rule_of (block n) = give (λ v. bs.block v.0 v.1) (seq (token (k.OpenBrace ∷ [])) (many (name (stmt n)) ◂ token (k.CloseBrace ∷ [])))
-- No token begins a statement that stands in too many.
rule_of (stmt zero) = give (λ t. bs.statement s.Empty t.place) (token [])
rule_of (stmt (suc n)) = alt
    (name (block n))
    (alt
    empty_stmt
    (alt
    simple_stmt
    (alt
    (if_stmt n)
    (alt
    (while_stmt n)
    (alt
    (do_stmt n)
    (alt
    (for_stmt n)
    (alt
    break_stmt
    (alt
    continue_stmt
    return_stmt))))))))
rule_of var = give (λ v. bs.variables v.0 (v.1.0 ∷ v.1.1)) (seq (name type_name) (seq (name declarator) (many next_declarator ◂ token (k.Semicolon ∷ []))))
rule_of declarator = give (λ v. bs.declarator v.0 v.1.0 v.1.1) (seq (opt mark) (seq (token (k.Word ∷ [])) (opt initial)))
rule_of type_name = alt void_type (alt number_type class_type)
rule_of args = give (λ v. v.0.tree ∷ v.1) (seq (name expr) (many another))
-- The three alternatives begin alike: or, and what may end it.
rule_of expr = give (λ v. b.ended v.0 v.1) (seq (name or) (opt end))
rule_of or = chain (name and) (k.OrOr ∷ [])
rule_of and = chain (name eq) (k.AndAnd ∷ [])
rule_of eq = chain (name rel) (k.EqualEqual ∷ k.NotEqual ∷ [])
rule_of rel = chain (name add) (k.Less ∷ k.Greater ∷ k.LessEqual ∷ k.GreaterEqual ∷ [])
rule_of add = chain (name mul) (k.Plus ∷ k.Minus ∷ [])
rule_of mul = chain (name unary) (k.Star ∷ k.Slash ∷ k.Percent ∷ [])
rule_of unary = alt
    (give (λ v. b.prefixed v.0 v.1) (seq (token prefixes) (name unary)))
    (alt
    (give (λ v. b.begun v.1 v.0.place) (seq (token (k.New ∷ [])) after_new))
    (name postfix))
rule_of postfix = give (λ v. b.suffixed v.0 v.1) (seq (name primary) (many suffix))
rule_of primary = alt
    (give b.leaf (token leaves))
    (alt
    (give (λ v. b.enclosed v.0 v.1) (seq (token (k.Open ∷ [])) (name expr ◂ token (k.Close ∷ []))))
    (alt
    scoped
    (give (λ v. b.cast v.0 v.1.0 v.1.1) (seq (token (k.DynamicCast ∷ [])) cast_to))))

-- The grammar. Its tokens are of the classes that their symbols number.
abbrev pub units : Language
units = record { Token = Token; Name = Rule; Value = Value; class = λ t. number_of (symbol_of t); rule = rule_of }
