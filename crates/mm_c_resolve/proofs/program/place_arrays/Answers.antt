use Rattle.std.proofs.Common.{map, ap, ◌∙◌}
use Rattle.std.proofs.lemmas.List.{take_all}
use Rattle.mm_c.specs.View.{item_view}
use Rattle.mm_c_places.specs.Placed.{placed_arrays}
use Rattle.mm_c_resolve.specs.Named.{numbers_in}
use Rattle.mm_c_resolve.proofs.program.place_arrays.Goals as goal

pub returns : goal.returns
returns c = c.loop-item.invariant ∙ ap (λ l. placed_arrays (numbers_in c.args.globals.now) (map item_view l)) (take_all c.loop-item.item-index c.args.items.now c.loop-item-test.false)
