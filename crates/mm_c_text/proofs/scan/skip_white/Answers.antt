use Rattle.std.proofs.Common.{◌≡◌, ◌+◌, ◌-◌, ◌∙◌, sym, ap, arith, subst, drop, length}
use Rattle.mm_c.specs.Tokens.{tokens_from}
use Rattle.mm_c_text.specs.Places.{at, Fits}
use Rattle.mm_c_text.proofs.Left.{white_at}
use Rattle.mm_c_text.proofs.scan.skip_white.Goals as goal

pub loop-count-preserved : goal.loop-count-preserved
loop-count-preserved c =
    let i = c.loop-count.count in
    let bytes = c.args.bytes.now in
    let e : (length bytes - i) - 1 ≡ length bytes - (i + 1) = omega arith in
    record {
      same = ap (λ p. tokens_from p (drop (i + 1) bytes)) c.past-place.ensures.value ∙ (white_at (at c.loop-count.place) bytes i (omega arith) (sym c.is_white.ensures ∙ c.if-is_white.true) ∙ c.loop-count.invariant.same);
      room = subst (λ n. Fits c.past-place.result n) e c.past-place.ensures.room;
      within = omega arith;
    }
