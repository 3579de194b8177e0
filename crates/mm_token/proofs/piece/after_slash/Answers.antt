use Rattle.std.proofs.Common.{arith, refl}
use Rattle.std.proofs.lemmas.List.{take_rest}
use Rattle.mm_token.proofs.Longest.{line_at, block_at, open_at, slash_mark}
use Rattle.mm_token.proofs.piece.after_slash.Goals as goal

pub returns-then-second-eq47 : goal.returns-then-second-eq47
returns-then-second-eq47 c = simp take_rest (line_at c.args.fresh c.args.text.now _ c.line_len.result c.requires.slash (omega arith) refl c.if-second-eq47.true (simp take_rest at c.line_len.ensures))

pub returns-in-Some : goal.returns-in-Some
returns-in-Some c = simp take_rest (block_at c.args.fresh c.args.text.now _ c.in-Some.n c.requires.slash (omega arith) refl c.if-second-eq42.true ((simp take_rest at (c.in-Some.ensures)).1))

pub returns-in-None : goal.returns-in-None
returns-in-None c = open_at c.args.fresh c.args.text.now _ c.requires.slash (omega arith) refl c.if-second-eq42.true (simp take_rest at c.in-None.ensures)

pub mark-requires-clause-head : goal.mark-requires-clause-head
mark-requires-clause-head c = slash_mark c.args.fresh c.args.text.now c.requires.slash (λ l. absurd (omega arith))

pub mark-requires-2-clause-head : goal.mark-requires-2-clause-head
mark-requires-2-clause-head c = slash_mark c.args.fresh c.args.text.now c.requires.slash (λ l. (c.if-second-eq47.false, c.if-second-eq42.false))
