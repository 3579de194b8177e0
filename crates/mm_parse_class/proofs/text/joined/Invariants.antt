use Rattle.std.proofs.Common.{◌≡◌, ◌∷◌, ◌++◌, drop}
use Rattle.std.specs.String.{string_bytes}
use Rattle.mm_syntax.specs.BuiltDeclarations.{texts}
use Rattle.mm_parse_class.proofs.Texts.{spaced}
use Rattle.mm_parse_class.proofs.text.joined.Given as goal

abbrev pub invariant-loop-token : goal.invariant-loop-token
invariant-loop-token l = string_bytes l.text ++ spaced (drop l.token-index l.rest) ≡ texts (l.first ∷ l.rest)
