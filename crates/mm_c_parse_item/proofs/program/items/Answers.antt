use Rattle.mm_c_parse_item.specs.Seen.{items_view}
use Rattle.mm_c_parse_stmt.proofs.Gathers.{gone, lacks}
use Rattle.mm_c_parse_item.proofs.Programs.{items_start, items_step, items_end, items_fail, item_shorter}
use Rattle.mm_c_parse_item.proofs.program.items.Goals as goal

pub loop-alloc-init : goal.loop-alloc-init
loop-alloc-init c = record { so_far = items_start _ _ c.new-list.ensures }

pub loop-alloc-preserved : goal.loop-alloc-preserved
loop-alloc-preserved c = record { so_far = items_step c.loop-alloc.invariant.so_far c.in_ok-next.ensures c.in_ok-push.ensures }

pub loop-alloc-smaller : goal.loop-alloc-smaller
loop-alloc-smaller c = item_shorter c.in_ok-next.ensures

pub returns-in_err-next : goal.returns-in_err-next
returns-in_err-next c = lacks items_view _ c.from_residual.ensures.1 (λ e. items_fail c.loop-alloc.invariant.so_far (c.sees_item.ensures.yes c.loop-alloc-test.true) (gone c.in_err-next.ensures e))

pub returns : goal.returns
returns c = items_end c.loop-alloc.invariant.so_far (c.sees_item.ensures.no c.loop-alloc-test.false)
