use Rattle.std.proofs.Common.{refl}
use Rattle.mm_c.specs.Grammar.{kind}
use Rattle.mm_c_parse.proofs.Steps.{yes_, bad, ok, no_}
use Rattle.mm_c_parse.proofs.Lists.{mark_shorter}
use Rattle.mm_c_parse_item.proofs.Commas.{starts, fails_first, steps, ends, breaks_off}
use Rattle.mm_c_parse_item.proofs.kind.kind_list.Goals as goal

pub returns-in_err-first : goal.returns-in_err-first
returns-in_err-first c = bad c.from_residual.ensures.1 (λ e. fails_first kind refl refl refl (no_ c.in_err-first.ensures e))

pub loop-cursor-init : goal.loop-cursor-init
loop-cursor-init c = record { so_far = starts kind refl refl refl _ (ok c.in_ok-first.ensures) c.in_ok-list.ensures }

pub loop-cursor-preserved : goal.loop-cursor-preserved
loop-cursor-preserved c = record { so_far = steps kind refl refl refl _ _ c.loop-cursor.invariant.so_far (c.skip.ensures.passed c.loop-cursor-test.true) (ok c.in_ok-next.ensures) c.in_ok-push.ensures }

pub loop-cursor-smaller : goal.loop-cursor-smaller
loop-cursor-smaller c = mark_shorter (c.skip.ensures.passed c.loop-cursor-test.true) (ok c.in_ok-next.ensures)

pub returns-in_err-next : goal.returns-in_err-next
returns-in_err-next c = bad c.from_residual-in_err-next.ensures.1 (λ e. breaks_off kind refl refl refl _ c.loop-cursor.invariant.so_far (c.skip.ensures.passed c.loop-cursor-test.true) (no_ c.in_err-next.ensures e))

pub returns : goal.returns
returns c = let n = c.skip.ensures.none c.loop-cursor-test.false in yes_ (ends kind refl refl refl _ c.loop-cursor.invariant.so_far n.0 n.1)
