-- The tables by which the names of items are found. Own.
use Rattle.std.specs.Prelude.{◌≡◌, ℕ, List, [], ◌∷◌, ◌++◌, map, take, is_some, Option, Some, None}
use Rattle.std.specs.Borrow.{Bor}
use Rattle.std.specs.Str.{bytes_eq}
use Rattle.indexmap.specs.IndexMap.{IndexMap, get_by}
use Rattle.mm_c.specs.declared.tree.CItem.{CItem}
use Rattle.mm_c.specs.Tree.{Function, Item, typedef, array, proto, function}
use Rattle.mm_c.specs.View.{item_view, function_view}
use Rattle.mm_c.specs.WellFormed as w
use Rattle.mm_c.specs.WellFormed.{entry_in, prelude, item_name, is_in, definitions}
use Rattle.mm_c_names.specs.declared.entry.Entry.{Entry}
use Rattle.mm_c_names.specs.declared.globals.Defined.{Defined}
use Rattle.mm_c_names.specs.declared.globals.Defined.TheVariants.{Never, Once, Again}
use Rattle.mm_c_names.specs.Entries.{entry_view, table_of}

-- what a table has at a name
abbrev pub at : {V S : Type 0} → IndexMap (Bor (List ℕ)) V S → List ℕ → Option V
at table x = get_by (λ (k : Bor (List ℕ)). bytes_eq x k.now) table

-- ---- what names are behind items

-- what a table says of a name, or else this
abbrev pub entry_or : Option Entry → Option w.Entry → Option w.Entry
entry_or None given = given
entry_or (Some e) given = Some (entry_view e)

-- Each name is what the table says; what it has nothing of is what the prelude says.
pub record AreEntries {S : Type 0} (table : IndexMap (Bor (List ℕ)) Entry S) (before : List CItem) : Type 0 where
  pub by : (x : List ℕ) → entry_or (at table x) (entry_in prelude x) ≡ entry_in (table_of before) x

-- ---- the names of a program

-- the names of the prelude and of these items
abbrev pub globals_in : List CItem → List (List ℕ)
globals_in items = map (λ (e : List ℕ × w.Entry). e.0) prelude ++ map item_name (map item_view items)

abbrev pub firsts : Defined → List Function
firsts Never = []
firsts (Once f) = function_view f.now ∷ []
firsts (Again f g) = function_view f.now ∷ function_view g.now ∷ []

abbrev pub firsts_or : Option Defined → List Function
firsts_or None = []
firsts_or (Some d) = firsts d

abbrev pub firsts_in : {S : Type 0} → IndexMap (Bor (List ℕ)) Defined S → List ℕ → List Function
firsts_in table x = firsts_or (at table x)

-- the functions of an item's name, where these are those behind it
abbrev pub with_own : Item → List Function → List Function
with_own (typedef d) fs = fs
with_own (array a) fs = fs
with_own (proto p) fs = fs
with_own (function f) fs = f ∷ fs

-- The table has the names of the items, and each with its first two functions.
pub record AreDefined {S : Type 0} (table : IndexMap (Bor (List ℕ)) Defined S) (items : List CItem) : Type 0 where
  pub names : (x : List ℕ) → is_some (at table x) ≡ is_in (map item_name (map item_view items)) x
  pub functions : (x : List ℕ) → firsts_in table x ≡ take 2 (definitions x (map item_view items))
