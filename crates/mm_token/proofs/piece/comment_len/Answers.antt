use Rattle.std.proofs.Common.{arith}
use Rattle.mm_token.proofs.Lemmas.{open_from, closed_at}
use Rattle.mm_token.proofs.piece.comment_len.Goals as goal

pub returns-then-text-n-eq47 : goal.returns-then-text-n-eq47
returns-then-text-n-eq47 c = (omega arith, closed_at c.loop-n.n c.args.text.now (omega arith) c.loop-n.invariant.none c.if-text-n-eq42.true c.if-text-n-eq47.true)

pub returns : goal.returns
returns c = open_from c.args.text.now (λ k l. c.loop-n.invariant.none k (omega arith))
