use Rattle.mm_c.specs.Tokens.{names}
use Rattle.mm_c_parse.proofs.Steps.{yes_, fails_, took, none_took, rg, fg}
use Rattle.mm_c_parse.proofs.step.ident.Goals as goal

pub returns-in-None : goal.returns-in-None
returns-in-None c = fails_ (fg (none_took names c.in-None.ensures.0 c.in-None.ensures.1))

pub returns-in_ok-text_of-in-Some : goal.returns-in_ok-text_of-in-Some
returns-in_ok-text_of-in-Some c = yes_ (rg (took names c.in-Some.ensures.0 c.in-Some.ensures.1) c.in_ok-text_of-in-Some.ensures)
