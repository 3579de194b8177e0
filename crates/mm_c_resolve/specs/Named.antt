-- Which numbers stand for names, by what is held of a function and of its program.
use Rattle.std.specs.Prelude.{ℕ, List, [], ◌∷◌, map, slice_get}
use Rattle.mm_c.specs.Tree.{Item, typedef, array, proto, function}
use Rattle.mm_c_placed.specs.Tree as t
use Rattle.mm_c_placed.specs.declared.tree.Element.{Element}
use Rattle.mm_c_placed.specs.declared.tree.PlacedArray.{PlacedArray}
use Rattle.mm_c_places.specs.Places.{Places, Numbers, function_names, array_names, kind_or}
use Rattle.mm_c_places.specs.Placed.{placed_function, placed_element}
use Rattle.mm_c_resolve.specs.declared.locals.Declared.{Declared}
use Rattle.mm_c_resolve.specs.declared.names.Globals.{Globals}
use Rattle.mm_c_resolve.specs.Numbering.{at_name, AreNumbered}

abbrev pub places_in : Declared → Places
places_in d = record { place = at_name d.places; kind = λ x. kind_or (slice_get d.kinds.items (at_name d.places x)) }

abbrev pub numbers_in : Globals → Numbers
numbers_in g = record { function = at_name g.functions; array = at_name g.arrays }

-- the functions and the arrays of these items have their numbers
pub record AreGlobal (g : Globals) (items : List Item) : Type 0 where
  pub functions : AreNumbered g.functions (function_names items)
  pub arrays : AreNumbered g.arrays (array_names items)

abbrev pub elements_of : PlacedArray → List Element
elements_of a = a.elements

-- what one item adds to a list over items
abbrev pub function_name_in : Item → List (List ℕ)
function_name_in (function f) = f.name ∷ []
function_name_in (typedef d) = []
function_name_in (array a) = []
function_name_in (proto p) = []

abbrev pub array_name_in : Item → List (List ℕ)
array_name_in (array a) = a.name ∷ []
array_name_in (typedef d) = []
array_name_in (proto p) = []
array_name_in (function f) = []

abbrev pub function_in : Numbers → Item → List t.Function
function_in ns (function f) = placed_function ns f ∷ []
function_in ns (typedef d) = []
function_in ns (array a) = []
function_in ns (proto p) = []

abbrev pub array_in : Numbers → Item → List (List Element)
array_in ns (array a) = map (placed_element ns) a.elements ∷ []
array_in ns (typedef d) = []
array_in ns (proto p) = []
array_in ns (function f) = []
