use Rattle.mm_c.proofs.Lexing.{white_step, token_step, token_end}
use Rattle.mm_c.proofs.laws.tokens.Goals as goal

pub returns : goal.returns
returns c = record { white = white_step; next = token_step; last = token_end }
