use Rattle.std.proofs.Common.{map, ap, ◌∙◌}
use Rattle.std.proofs.lemmas.List.{take_all}
use Rattle.mm_c.specs.View.{item_view}
use Rattle.mm_c_places.specs.Places.{function_names}
use Rattle.mm_c_resolve.proofs.program.function_names.Goals as goal

pub returns : goal.returns
returns c = c.loop-item.invariant ∙ ap (λ l. function_names (map item_view l)) (take_all c.loop-item.item-index c.args.items.now c.loop-item-test.false)
