use Rattle.std.proofs.Common.{arith, sym, ◌∙◌}
use Rattle.mm_token.proofs.Lemmas.{word_short, word_other, word_more}
use Rattle.mm_token.proofs.words.past_word.Goals as goal

pub returns-then-n-text : goal.returns-then-n-text
returns-then-n-text c = sym c.loop-w.invariant.same ∙ word_short c.args.word.now c.args.text.now c.loop-w.w-index c.loop-w.n (omega arith) (omega arith)

pub returns-then-text-n : goal.returns-then-text-n
returns-then-text-n c = sym c.loop-w.invariant.same ∙ word_other c.args.word.now c.args.text.now c.loop-w.w-index c.loop-w.n (omega arith) (omega arith) (λ e. c.if-text-n.true (e ∙ sym c.from.ensures))

pub loop-w-preserved : goal.loop-w-preserved
loop-w-preserved c = record {
  within = omega arith;
  count = omega arith;
  same = word_more c.args.word.now c.args.text.now c.loop-w.w-index c.loop-w.n (omega arith) (omega arith) (c.if-text-n.false ∙ c.from.ensures) ∙ c.loop-w.invariant.same;
}
