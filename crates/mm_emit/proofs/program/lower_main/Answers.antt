use Rattle.std.proofs.Common.{map}
use Rattle.mm_c.specs.View.{item_view}
use Rattle.mm_lower_trees.specs.Scopes.{program_of}
use Rattle.mm_lower.specs.Written.{item_of}
use Rattle.mm_emit.proofs.Programs.{item_at, entry_is}
use Rattle.mm_emit.proofs.program.lower_main.Goals as goal

pub lower_item-requires-clause-there : goal.lower_item-requires-clause-there
lower_item-requires-clause-there c = item_at c.args.functions.now c.args.main c.index-functions-main.result c.requires.inside c.index-functions-main.is

pub returns : goal.returns
returns c = entry_is c.args.functions.now (item_of (program_of c.args.functions.now)) (map item_view c.args.items.now) (map item_view c.lower_item.new.items) c.args.main c.index-functions-main.result c.requires.main (item_at c.args.functions.now c.args.main c.index-functions-main.result c.requires.inside c.index-functions-main.is) c.in_ok-lower_item.ensures
