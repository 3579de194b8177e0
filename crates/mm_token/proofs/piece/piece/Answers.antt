use Rattle.std.proofs.Common.{arith, sym, refl}
use Rattle.std.proofs.lemmas.List.{take_rest}
use Rattle.mm_token.proofs.Longest.{word_at, number_at, blank_at, other_at, directive_at, stray_at}
use Rattle.mm_token.proofs.piece.piece.Goals as goal

pub returns-in-Blank : goal.returns-in-Blank
returns-in-Blank c = simp take_rest (blank_at c.args.fresh c.args.text.now _ (omega arith) refl (sym c.in-Blank.ensures))

pub returns-in-Letter : goal.returns-in-Letter
returns-in-Letter c = simp take_rest (word_at c.args.fresh c.args.text.now _ c.run_len.result (omega arith) refl (sym c.in-Letter.ensures) (simp take_rest at c.run_len.ensures))

pub returns-in-Digit : goal.returns-in-Digit
returns-in-Digit c = simp take_rest (number_at c.args.fresh c.args.text.now _ c.run_len-in-Digit.result (omega arith) refl (sym c.in-Digit.ensures) (simp take_rest at c.run_len-in-Digit.ensures))

pub returns-in-Other : goal.returns-in-Other
returns-in-Other c = other_at c.args.fresh c.args.text.now _ (omega arith) refl (sym c.in-Other.ensures)

pub returns-then-fresh : goal.returns-then-fresh
returns-then-fresh c = directive_at c.args.fresh c.args.text.now _ _ (omega arith) refl (sym c.in-Hash.ensures) c.if-fresh.true (simp take_rest at c.past_line.ensures)

pub returns-else-fresh : goal.returns-else-fresh
returns-else-fresh c = stray_at c.args.fresh c.args.text.now _ (omega arith) refl (sym c.in-Hash.ensures) c.if-fresh.false
