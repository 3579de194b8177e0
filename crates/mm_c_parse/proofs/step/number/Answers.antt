use Rattle.mm_c.specs.Tokens.{numbers}
use Rattle.mm_c_parse.proofs.Steps.{yes_, fails_, took, none_took, rg, fg}
use Rattle.mm_c_parse.proofs.step.number.Goals as goal

pub returns-in-None : goal.returns-in-None
returns-in-None c = fails_ (fg (none_took numbers c.in-None.ensures.0 c.in-None.ensures.1))

pub returns-in-Some : goal.returns-in-Some
returns-in-Some c = yes_ (rg (took numbers c.in-Some.ensures.0 c.in-Some.ensures.1) c.value_of.ensures)
