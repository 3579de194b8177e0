use Rattle.std.proofs.Common.{get_or, drop, ◌++◌, ◌∷◌, [], ap, ◌∙◌}
use Rattle.mm_c_placed.specs.declared.tree.Operand.TheVariants.{Place}
use Rattle.mm_c_placed.specs.Meaning.{operand_of, start}
use Rattle.mm_c_machine.proofs.Frames.{given_more, all_given}
use Rattle.mm_c_machine.proofs.frame.push_given.Goals as goal

pub loop-i-preserved : goal.loop-i-preserved
loop-i-preserved c =
    given_more c.args.base c.args.values.now.items c.loop-i.values.items c.push_reserved.new.self.items c.args.params.now c.args.args.now c.loop-i.i c.read-v.result c.fitted.result _ _ c.loop-i-test.true c.requires.many c.requires.fit c.loop-i.invariant
    (c.read-v.ensures ∙ ap (λ q. operand_of (start (drop c.args.base q)) (get_or c.args.args.now c.loop-i.i (Place 0))) c.as_slice.ensures.value) c.fitted.ensures (c.push_reserved.ensures.items ∙ ap (λ q. q ++ c.fitted.result ∷ []) c.in_ok-reserve.ensures.items)

pub returns : goal.returns
returns c =
    all_given c.args.values.now.items c.loop-i.values.items c.args.params.now c.args.args.now (operand_of (start (drop c.args.base c.args.values.now.items))) c.loop-i.i c.requires.many c.loop-i-test.false c.loop-i.invariant
