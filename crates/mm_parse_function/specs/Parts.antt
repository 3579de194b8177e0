-- The parts of the grammar of functions that functions of their own read. ISO/IEC 14882:1998, 8.3.5, 8.4 and 12.6.2.
use Rattle.std.specs.Prelude.{ℕ, List, [], ◌∷◌}
use Rattle.mm_grammar.specs.Grammar.{name, seq, many, give}
use Rattle.mm_token.specs.declared.token.Token.{Token}
use Rattle.mm_syntax.specs.declared.symbol.Symbol.TheVariants as k
use Rattle.mm_syntax.specs.declared.decl.Param.{Param}
use Rattle.mm_syntax.specs.declared.decl.Params.{Params}
use Rattle.mm_syntax.specs.declared.decl.Init.{Init}
use Rattle.mm_syntax.specs.declared.part.FunctionEnd.{FunctionEnd}
use Rattle.mm_syntax.specs.declared.part.FunctionEnd.TheVariants as end_of
use Rattle.mm_syntax.specs.declared.part.AfterClass.{AfterClass}
use Rattle.mm_syntax.specs.declared.part.AfterClass.TheVariants as after_class
use Rattle.mm_syntax.specs.Built as b
use Rattle.mm_syntax.specs.BuiltDeclarations as bd
use Rattle.mm_syntax.specs.Rules.{P, token, params, param, init, block, parameters, after_void, more_params, function_body, constructor_body, scope, ◌▸◌, ◌◂◌}

-- what follows the `(` of parameters: params )
abbrev pub inside_parameters : P Params
inside_parameters = name params ◂ token (k.Close ∷ [])

-- what follows a first `void`, which is this token
abbrev pub void_first : Token → P Params
void_first word = give (λ v. bd.after_void (b.word_type word) v) after_void

-- , param
abbrev pub next_param : P Param
next_param = token (k.Comma ∷ []) ▸ name param

-- (, param)*, behind a first one
abbrev pub behind : Param → P (List Param)
behind first = give (λ xs. first ∷ xs) more_params

-- , init
abbrev pub next_init : P Init
next_init = token (k.Comma ∷ []) ▸ name init

-- what follows the `:` of initializers: init (, init)*
abbrev pub init_list : P (List Init)
init_list = give (λ v. v.0 ∷ v.1) (seq (name init) (many next_init))

-- what follows the name of a function that is in no class
abbrev pub plain_end : ℕ → Token → P FunctionEnd
plain_end n word = give (λ v. end_of.Plain (b.name_of word) v.0 v.1) (seq parameters (function_body n))

-- K :: W ( params ) block
abbrev pub member_end : ℕ → P FunctionEnd
member_end n = give (λ v. end_of.Member (b.name_of v.0) (b.name_of v.1.0) v.1.1.0 v.1.1.1) (seq scope (seq (token (k.Word ∷ [])) (seq parameters (name (block n)))))

-- what follows the `::` of a constructor: K ( params ) inits? block
abbrev pub constructor_tail : ℕ → P AfterClass
constructor_tail n = give (λ v. after_class.Constructor (b.name_of v.0) v.1.0 v.1.1) (seq (token (k.Class ∷ [])) (seq parameters (constructor_body n)))
