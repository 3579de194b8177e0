use Rattle.std.proofs.Common.{map, ap, ◌∙◌}
use Rattle.std.proofs.lemmas.List.{take_all}
use Rattle.mm_c.specs.View.{item_view}
use Rattle.mm_c_places.specs.Places.{array_names}
use Rattle.mm_c_resolve.proofs.program.array_names.Goals as goal

pub returns : goal.returns
returns c = c.loop-item.invariant ∙ ap (λ l. array_names (map item_view l)) (take_all c.loop-item.item-index c.args.items.now c.loop-item-test.false)
