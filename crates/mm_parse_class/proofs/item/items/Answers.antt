use Rattle.std.proofs.Common.{[], ◌∷◌, refl}
use Rattle.mm_syntax.specs.declared.symbol.Symbol.TheVariants as k
use Rattle.mm_syntax.specs.Rules.{token, items}
use Rattle.mm_cursor.proofs.Steps.{err_take, tail, after, after_fails}
use Rattle.mm_parse_class.specs.Parts.{members}
use Rattle.mm_parse_class.proofs.Turns as turn
use Rattle.mm_parse_class.proofs.item.items.Goals as goal

pub returns-in_err-take-clause-reads : goal.returns-in_err-take-clause-reads
returns-in_err-take-clause-reads c =
    err_take (k.OpenBrace ∷ []) (items c.args.nesting) _ _ _ _ _ c.from_residual.ensures.1 c.in_err-take.ensures.reads λ f. turn.two_first _ _ _ refl _ _ f

pub returns-clause-reads : goal.returns-clause-reads
returns-clause-reads c =
    tail (members c.args.nesting) (items c.args.nesting) _ _ _ _ c.members.ensures.reads (λ v a. after (token (k.OpenBrace ∷ [])) (members c.args.nesting) refl _ _ _ _ v c.in_ok-take.ensures.reads a) (λ f. after_fails (token (k.OpenBrace ∷ [])) (members c.args.nesting) refl _ _ _ _ c.in_ok-take.ensures.reads f)
