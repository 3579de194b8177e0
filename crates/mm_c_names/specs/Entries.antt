-- What is known of names in memory, as the rules beside the grammar see it. Own.
use Rattle.std.specs.Prelude.{true, false, List, [], ◌∷◌, map}
use Rattle.mm_c.specs.declared.tree.CKind.{CKind}
use Rattle.mm_c.specs.declared.tree.CItem.{CItem}
use Rattle.mm_c.specs.Tree.{Item, typedef, array, proto, function}
use Rattle.mm_c.specs.View.{item_view}
use Rattle.mm_c.specs.WellFormed.{Table, functions_type, numbers_array, functions_array, callable, array_entry, kinds_of, is_inline, with_item, prelude}
use Rattle.mm_c.specs.WellFormed as w
use Rattle.mm_c_names.specs.declared.entry.Params.{Params}
use Rattle.mm_c_names.specs.declared.entry.Params.TheVariants.{Kinds, Locals}
use Rattle.mm_c_names.specs.declared.entry.Entry.{Entry}
use Rattle.mm_c_names.specs.declared.entry.Entry.TheVariants.{FunctionsType, NumbersArray, FunctionsArray, Callable}

abbrev pub params_view : Params → List CKind
params_view (Kinds ks) = ks.now
params_view (Locals ls) = kinds_of ls.now

abbrev pub entry_view : Entry → w.Entry
entry_view (FunctionsType d) = functions_type d.now.result d.now.kinds
entry_view NumbersArray = numbers_array
entry_view (FunctionsArray d) = functions_array d.now.result d.now.kinds
entry_view (Callable h) = callable h.is_inline h.is_defined h.result (params_view h.params)

-- what the name of an item is behind it
abbrev pub entry_by : Table → Item → w.Entry
entry_by table (typedef d) = functions_type d.result d.kinds
entry_by table (array a) = array_entry table a.functions
entry_by table (proto p) = callable p.is_inline false p.result (kinds_of p.params)
entry_by table (function f) = callable (is_inline f.linkage) true f.result (kinds_of f.params)

-- the table behind items, one after another
abbrev pub table_from : Table → List Item → Table
table_from table [] = table
table_from table (i ∷ more) = table_from (with_item table i) more

-- the table behind the prelude and these items
abbrev pub table_of : List CItem → Table
table_of before = table_from prelude (map item_view before)
