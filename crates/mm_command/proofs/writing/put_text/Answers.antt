use Rattle.std.proofs.Common.{◌-◌, length, take, drop, ap, ◌∙◌, arith}
use Rattle.mm_base.specs.Outside.{grown}
use Rattle.mm_base.proofs.Grown.{grown_more, within_more}
use Rattle.mm_command.proofs.writing.put_text.Goals as goal

pub loop-done-preserved : goal.loop-done-preserved
loop-done-preserved g c =
    let bytes = c.args.bytes.now in
    let took = c.in-Took.ensures.content in
    let n = c.loop-done.done in
    let m = c.in-Took.count in
    record {
      within = within_more n m bytes (omega arith) took.1;
      got = took.2 ∙ ap (λ o. grown o (take m (take (length bytes - n) (drop n bytes)))) c.loop-done.invariant.got ∙ grown_more (g.S.Sink.seen c.args.sink.now).got n m bytes;
      later = omega arith;
    }
