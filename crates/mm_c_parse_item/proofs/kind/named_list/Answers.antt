use Rattle.std.proofs.Common.{refl}
use Rattle.mm_c.specs.Grammar.{named}
use Rattle.mm_c_parse.proofs.Steps.{yes_, bad, ok, no_}
use Rattle.mm_c_parse.proofs.Lists.{mark_shorter}
use Rattle.mm_c_parse_item.proofs.Commas.{starts, fails_first, steps, ends, breaks_off}
use Rattle.mm_c_parse_item.proofs.kind.named_list.Goals as goal

pub returns-in_err-first : goal.returns-in_err-first
returns-in_err-first c = bad c.from_residual.ensures.1 (λ e. fails_first named refl refl refl (no_ c.in_err-first.ensures e))

pub loop-alloc-init : goal.loop-alloc-init
loop-alloc-init c = record { so_far = starts named refl refl refl _ (ok c.in_ok-first.ensures) c.in_ok-list.ensures }

pub loop-alloc-preserved : goal.loop-alloc-preserved
loop-alloc-preserved c = record { so_far = steps named refl refl refl _ _ c.loop-alloc.invariant.so_far (c.skip.ensures.passed c.loop-alloc-test.true) (ok c.in_ok-next.ensures) c.in_ok-push.ensures }

pub loop-alloc-smaller : goal.loop-alloc-smaller
loop-alloc-smaller c = mark_shorter (c.skip.ensures.passed c.loop-alloc-test.true) (ok c.in_ok-next.ensures)

pub returns-in_err-next : goal.returns-in_err-next
returns-in_err-next c = bad c.from_residual-in_err-next.ensures.1 (λ e. breaks_off named refl refl refl _ c.loop-alloc.invariant.so_far (c.skip.ensures.passed c.loop-alloc-test.true) (no_ c.in_err-next.ensures e))

pub returns : goal.returns
returns c = let n = c.skip.ensures.none c.loop-alloc-test.false in yes_ (ends named refl refl refl _ c.loop-alloc.invariant.so_far n.0 n.1)
