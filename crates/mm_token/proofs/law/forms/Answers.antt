use Rattle.mm_token.proofs.Forms.{include, included, pragma, once, utf8}
use Rattle.mm_token.proofs.law.forms.Goals as goal

pub returns : goal.returns
returns c = record { include = include; included = included; pragma = pragma; once = once; utf8 = utf8 }
