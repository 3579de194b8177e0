use Rattle.std.proofs.Common.{◌-◌, take, ap, ◌∙◌, arith}
use Rattle.mm_c.specs.View.{item_view}
use Rattle.mm_c_names.specs.Tables.{with_own}
use Rattle.mm_c_names.proofs.Defined.{defined_more}
use Rattle.mm_c_names.proofs.globals.definitions_of.Goals as goal

pub loop-i-preserved : goal.loop-i-preserved
loop-i-preserved c =
    let low = c.loop-i.invariant.0 in
    let some = c.loop-i-test.true in (
      omega arith,
      defined_more c.loop-i.defined c.insert.new.self c.args.items.now (c.loop-i.i - 1) c.loop-i.i c.index-items-i.result c.with_item-functions.result c.item_name-name.result.now
          (omega arith) (omega arith) c.index-items-i.is c.in_ok-insert.ensures.updates c.item_name-name.ensures
          (c.with_item-functions.ensures ∙ ap (λ fs. take 2 (with_own (item_view c.index-items-i.result) fs)) c.defined_in.ensures)
          c.loop-i.invariant.1,
    )
