-- Which values of the grammar the structs of this crate are. Own.
use Rattle.std.specs.Prelude.{ℕ, List, Option, map}
use Rattle.mm_c.specs.declared.tree.CKind.{CKind}
use Rattle.mm_c.specs.declared.tree.CLocal.{CLocal}
use Rattle.mm_c.specs.declared.tree.CItem.{CItem}
use Rattle.mm_c.specs.Tree.{Item}
use Rattle.mm_c.specs.Tokens.{Place}
use Rattle.mm_c.specs.View.{item_view}
use Rattle.mm_c_text.specs.Places.{at}
use Rattle.mm_c_parse_item.specs.declared.kind.PlacedKind.{PlacedKind}
use Rattle.mm_c_parse_item.specs.declared.kind.PlacedResult.{PlacedResult}
use Rattle.mm_c_parse_item.specs.declared.kind.FunctionHead.{FunctionHead}

abbrev pub kind_place : PlacedKind → CKind × Place
kind_place k = (k.kind, at k.place)

abbrev pub result_place : PlacedResult → Option CKind × Place
result_place r = (r.kind, at r.place)

abbrev pub head_of : FunctionHead → List ℕ × List CLocal
head_of h = (h.name, h.params)

abbrev pub items_view : List CItem → List Item
items_view xs = map item_view xs
