use Rattle.std.proofs.Common.{refl}
use Rattle.mm_c.specs.Grammar.{local}
use Rattle.mm_c_parse.proofs.Steps.{yes_, bad, ok, no_}
use Rattle.mm_c_parse.proofs.Many.{many_starts, many_steps, many_ends, many_fails, begun_shorter, read_shorter}
use Rattle.mm_c_parse_stmt.specs.Parts.{kinds}
use Rattle.mm_c_parse_stmt.proofs.Locals.{local_front}
use Rattle.mm_c_parse_stmt.proofs.local.locals.Goals as goal

pub loop-alloc-init : goal.loop-alloc-init
loop-alloc-init c = record { so_far = many_starts local refl _ _ c.new-list.ensures }

pub loop-alloc-preserved : goal.loop-alloc-preserved
loop-alloc-preserved c = record { so_far = many_steps local refl _ _ c.loop-alloc.invariant.so_far (ok c.in_ok-next.ensures) c.in_ok-push.ensures }

pub loop-alloc-smaller : goal.loop-alloc-smaller
loop-alloc-smaller c = read_shorter local refl (ok c.in_ok-next.ensures)

pub returns-in_err-next : goal.returns-in_err-next
returns-in_err-next c = bad c.from_residual.ensures.1 (λ e. many_fails local refl _ c.loop-alloc.invariant.so_far (begun_shorter local kinds local_front (c.sees_kind.ensures.yes c.loop-alloc-test.true) (no_ c.in_err-next.ensures e)) (no_ c.in_err-next.ensures e))

pub returns : goal.returns
returns c = yes_ (many_ends local refl _ kinds refl c.loop-alloc.invariant.so_far (c.sees_kind.ensures.no c.loop-alloc-test.false))
