use Rattle.mm_c_text.specs.Classes.{number_of}
use Rattle.mm_c_parse.proofs.Skips.{skip_of}
use Rattle.mm_c_parse.proofs.step.skip.Goals as goal

pub returns : goal.returns
returns c = skip_of (number_of c.args.class) _ _ c.eat.result _ c.is_some.ensures c.eat.ensures
