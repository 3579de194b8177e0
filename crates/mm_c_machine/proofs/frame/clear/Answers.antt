use Rattle.std.proofs.Common.{take, get_or, arith}
use Rattle.std.proofs.lemmas.List.{get_or_default}
use Rattle.mm_c.specs.declared.tree.CKind as kind
use Rattle.mm_c_placed.specs.declared.tree.Local.{Local}
use Rattle.mm_c_machine.proofs.Frames.{clearing_place, clearing_more}
use Rattle.mm_c_machine.proofs.frame.clear.Goals as goal

abbrev default : Local
default = record { place = 0; kind = kind.TheVariants.Int }

pub index_mut-requires : goal.index_mut-requires
index_mut-requires c =
    let x = get_or c.args.xs.now c.loop-x.x-index default in
    let far = clearing_place c.args.base c.args.values.now.items c.args.xs.now (take c.loop-x.x-index c.args.xs.now) c.loop-x.values.items c.loop-x.x-index x c.loop-x.invariant c.requires c.loop-x-test.true (get_or_default c.args.xs.now c.loop-x.x-index default x c.loop-x-test.true) in
    omega (arith, far, c.loop-x.values.ok.0)

pub loop-x-preserved : goal.loop-x-preserved
loop-x-preserved c =
    let x = get_or c.args.xs.now c.loop-x.x-index default in
    let is = get_or_default c.args.xs.now c.loop-x.x-index default x c.loop-x-test.true in
    clearing_more c.args.base c.args.values.now.items c.args.xs.now c.loop-x.values.items c.loop-x.x-index x c.zero_of.result c.loop-x.invariant c.loop-x-test.true is
    (clearing_place c.args.base c.args.values.now.items c.args.xs.now (take c.loop-x.x-index c.args.xs.now) c.loop-x.values.items c.loop-x.x-index x c.loop-x.invariant c.requires c.loop-x-test.true is) c.zero_of.ensures
