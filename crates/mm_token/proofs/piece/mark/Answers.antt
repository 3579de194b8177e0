use Rattle.std.proofs.Common.{sym, refl}
use Rattle.std.proofs.lemmas.List.{take_rest}
use Rattle.mm_token.proofs.Longest.{mark_pair, mark_bar, mark_single}
use Rattle.mm_token.proofs.piece.mark.Goals as goal

pub returns-then-is_double_next : goal.returns-then-is_double_next
returns-then-is_double_next c = simp take_rest (mark_pair c.args.fresh c.args.text.now c.requires.head (sym c.if-is_double_next.ensures))

pub returns-then-text-eq124 : goal.returns-then-text-eq124
returns-then-text-eq124 c = mark_bar c.args.fresh c.args.text.now _ c.requires.head (sym c.if-is_double_next.ensures) refl c.if-text-eq124.true

pub returns : goal.returns
returns c = simp take_rest (mark_single c.args.fresh c.args.text.now _ c.requires.head (sym c.if-is_double_next.ensures) refl c.if-text-eq124.false)
