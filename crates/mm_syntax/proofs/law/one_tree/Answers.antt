use Rattle.std.proofs.Common.{refl}
use Rattle.mm_grammar.specs.Grammar.{name}
use Rattle.mm_grammar.proofs.Reading.{one_value}
use Rattle.mm_syntax.specs.Rules.{units}
use Rattle.mm_syntax.proofs.Claims.{ahead}
use Rattle.mm_syntax.proofs.Fitting.{fit}
use Rattle.mm_syntax.proofs.law.one_tree.Goals as goal

pub returns : goal.returns
returns c x tokens a b s t = one_value units ahead fit (name x) (refl, tt) tokens a b s t
