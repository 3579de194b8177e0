-- Items, one after another, and what the whole is.
use Rattle.std.specs.Prelude.{Bool, true, false, Option, Some, slice_get, codes}
use Rattle.std.specs.Borrow.{Bor}
use Rattle.std.specs.Str.{bytes_eq}
use Rattle.std.proofs.Common.{◌≡◌, ℕ, zero, suc, ◌+◌, ◌<◌, List, [], ◌∷◌, ◌++◌, length, map, take, get_or, refl, sym, ap, ap₂, ◌∙◌}
use Rattle.std.proofs.lemmas.List.{take_more, map-append, length-map, append-nil}
use Rattle.mm_c.specs.declared.tree.CKind.{CKind}
use Rattle.mm_c.specs.declared.tree.CLocal.{CLocal}
use Rattle.mm_c.specs.declared.tree.CItem.{CItem}
use Rattle.mm_c.specs.declared.tree.CFn.{CFn}
use Rattle.mm_c.specs.declared.tree.CProgram.{CProgram}
use Rattle.mm_c.specs.View.{function_view, item_view, block_view, program_view}
use Rattle.mm_c.specs.Tree.{Item, typedef, array, proto, function}
use Rattle.mm_c.specs.WellFormed.{kind_in, kinds_of, is_inline}
use Rattle.mm_c_placed.specs.Tree as t
use Rattle.mm_c_placed.specs.View as p
use Rattle.mm_c_placed.specs.declared.tree.Element.{Element}
use Rattle.mm_c_placed.specs.declared.tree.PlacedFunction.{PlacedFunction}
use Rattle.mm_c_placed.specs.declared.tree.PlacedArray.{PlacedArray}
use Rattle.mm_c_places.specs.Places.{Numbers, places, numbers, place_of, kind_or, function_names, array_names}
use Rattle.mm_c_places.specs.Placed.{placed_block, placed_function, placed_element, placed_functions, placed_arrays, placed}
use Rattle.mm_c_places.specs.Locals.{all_locals}
use Rattle.mm_c_resolve.specs.declared.locals.Declared.{Declared}
use Rattle.mm_c_resolve.specs.declared.names.Globals.{Globals}
use Rattle.mm_c_resolve.specs.Numbering.{at_name, texts}
use Rattle.mm_c_resolve.specs.Held.{AreDeclared}
use Rattle.mm_c_resolve.specs.Named.{places_in, numbers_in, AreGlobal, elements_of, function_name_in, array_name_in, function_in, array_in}

-- ---- what is held is what the definitions say

kind_place : (all : List CLocal) (x : List ℕ) → slice_get (kinds_of all) (place_of all x) ≡ kind_in all x
kind_place [] x = refl
kind_place (l ∷ ls) x = go (bytes_eq l.name x) (kind_place ls x)
  where
    go : (b : Bool) → slice_get (kinds_of ls) (place_of ls x) ≡ kind_in ls x → slice_get (l.kind ∷ kinds_of ls) (elim b as (λ z. ℕ) [ true ↦ zero | false ↦ suc (place_of ls x) ]) ≡ elim b as (λ z. Option CKind) [ true ↦ Some l.kind | false ↦ kind_in ls x ]
    go true e = refl
    go false e = e

pub places-in : (d : Declared) (all : List CLocal) → AreDeclared d all → places_in d ≡ places all
places-in d all h = λ i. record { place = λ x. h.places.by x i; kind = λ x. (ap kind_or (ap (λ ks. slice_get ks (at_name d.places x)) h.kinds ∙ ap (slice_get (kinds_of all)) (h.places.by x) ∙ kind_place all x)) i }

pub numbers-in : (g : Globals) (items : List Item) → AreGlobal g items → numbers_in g ≡ numbers items
numbers-in g items h = λ i. record { function = λ x. h.functions.by x i; array = λ x. h.arrays.by x i }

-- ---- items

function_names-push : (xs : List Item) (x : Item) → function_names (xs ++ x ∷ []) ≡ function_names xs ++ function_name_in x
function_names-push [] (typedef d) = refl
function_names-push [] (array a) = refl
function_names-push [] (proto q) = refl
function_names-push [] (function f) = refl
function_names-push (typedef d ∷ xs) x = function_names-push xs x
function_names-push (array a ∷ xs) x = function_names-push xs x
function_names-push (proto q ∷ xs) x = function_names-push xs x
function_names-push (function f ∷ xs) x = ap (λ l. f.name ∷ l) (function_names-push xs x)

array_names-push : (xs : List Item) (x : Item) → array_names (xs ++ x ∷ []) ≡ array_names xs ++ array_name_in x
array_names-push [] (typedef d) = refl
array_names-push [] (array a) = refl
array_names-push [] (proto q) = refl
array_names-push [] (function f) = refl
array_names-push (typedef d ∷ xs) x = array_names-push xs x
array_names-push (function f ∷ xs) x = array_names-push xs x
array_names-push (proto q ∷ xs) x = array_names-push xs x
array_names-push (array a ∷ xs) x = ap (λ l. a.name ∷ l) (array_names-push xs x)

functions-push : (ns : Numbers) (xs : List Item) (x : Item) → placed_functions ns (xs ++ x ∷ []) ≡ placed_functions ns xs ++ function_in ns x
functions-push ns [] (typedef d) = refl
functions-push ns [] (array a) = refl
functions-push ns [] (proto q) = refl
functions-push ns [] (function f) = refl
functions-push ns (typedef d ∷ xs) x = functions-push ns xs x
functions-push ns (array a ∷ xs) x = functions-push ns xs x
functions-push ns (proto q ∷ xs) x = functions-push ns xs x
functions-push ns (function f ∷ xs) x = ap (λ l. placed_function ns f ∷ l) (functions-push ns xs x)

arrays-push : (ns : Numbers) (xs : List Item) (x : Item) → placed_arrays ns (xs ++ x ∷ []) ≡ placed_arrays ns xs ++ array_in ns x
arrays-push ns [] (typedef d) = refl
arrays-push ns [] (array a) = refl
arrays-push ns [] (proto q) = refl
arrays-push ns [] (function f) = refl
arrays-push ns (typedef d ∷ xs) x = arrays-push ns xs x
arrays-push ns (function f ∷ xs) x = arrays-push ns xs x
arrays-push ns (proto q ∷ xs) x = arrays-push ns xs x
arrays-push ns (array a ∷ xs) x = ap (λ l. map (placed_element ns) a.elements ∷ l) (arrays-push ns xs x)

items-take : (items : List CItem) (i : ℕ) (d : CItem) → i < length items → d ≡ get_or items i d → map item_view (take (i + 1) items) ≡ map item_view (take i items) ++ item_view d ∷ []
items-take items i d lt at = ap (map item_view) (take_more items i d lt) ∙ map-append item_view (take i items) (get_or items i d ∷ []) ∙ ap (λ z. map item_view (take i items) ++ item_view z ∷ []) (sym at)

pub function_names-more : (items : List CItem) (i : ℕ) (d : CItem) → i < length items → d ≡ get_or items i d → function_names (map item_view (take (i + 1) items)) ≡ function_names (map item_view (take i items)) ++ function_name_in (item_view d)
function_names-more items i d lt at = ap function_names (items-take items i d lt at) ∙ function_names-push (map item_view (take i items)) (item_view d)

pub array_names-more : (items : List CItem) (i : ℕ) (d : CItem) → i < length items → d ≡ get_or items i d → array_names (map item_view (take (i + 1) items)) ≡ array_names (map item_view (take i items)) ++ array_name_in (item_view d)
array_names-more items i d lt at = ap array_names (items-take items i d lt at) ∙ array_names-push (map item_view (take i items)) (item_view d)

pub functions-more : (ns : Numbers) (items : List CItem) (i : ℕ) (d : CItem) → i < length items → d ≡ get_or items i d → placed_functions ns (map item_view (take (i + 1) items)) ≡ placed_functions ns (map item_view (take i items)) ++ function_in ns (item_view d)
functions-more ns items i d lt at = ap (placed_functions ns) (items-take items i d lt at) ∙ functions-push ns (map item_view (take i items)) (item_view d)

pub arrays-more : (ns : Numbers) (items : List CItem) (i : ℕ) (d : CItem) → i < length items → d ≡ get_or items i d → placed_arrays ns (map item_view (take (i + 1) items)) ≡ placed_arrays ns (map item_view (take i items)) ++ array_in ns (item_view d)
arrays-more ns items i d lt at = ap (placed_arrays ns) (items-take items i d lt at) ∙ arrays-push ns (map item_view (take i items)) (item_view d)

pub texts-push : (xs : List (Bor (List ℕ))) (x : Bor (List ℕ)) → texts (xs ++ x ∷ []) ≡ texts xs ++ x.now ∷ []
texts-push xs x = map-append (λ (k : Bor (List ℕ)). k.now) xs (x ∷ [])

pub views-push : (xs : List PlacedFunction) (x : PlacedFunction) → map p.function_view (xs ++ x ∷ []) ≡ map p.function_view xs ++ p.function_view x ∷ []
views-push xs x = map-append p.function_view xs (x ∷ [])

pub elements-push : (xs : List PlacedArray) (x : PlacedArray) → map elements_of (xs ++ x ∷ []) ≡ map elements_of xs ++ x.elements ∷ []
elements-push xs x = map-append elements_of xs (x ∷ [])

pub ruleset item_rules = (function_names-more, array_names-more, functions-more, arrays-more, texts-push, views-push, elements-push, append-nil)

-- ---- functions and the program

pub function_placed : (ns : Numbers) (f : CFn) (d : Declared) (b : Bool) (ks : List CKind) (body : t.Code) → AreDeclared d (all_locals (function_view f)) → b ≡ is_inline f.linkage → ks ≡ kinds_of f.params → body ≡ placed_block ns (places_in d) (block_view f.body)
    → record { is_inline = b; result = f.result; params = ks; slots = d.places.count; body = body } ≡ placed_function ns (function_view f)
function_placed ns f d b ks body h e g k = λ i. record {
  is_inline = e i;
  result = f.result;
  params = g i;
  slots = (h.places.count ∙ length-map (all_locals (function_view f)) (λ (l : CLocal). l.name)) i;
  body = (k ∙ ap (λ ps. placed_block ns ps (block_view f.body)) (places-in d (all_locals (function_view f)) h)) i;
}

pub program_placed : (q : CProgram) (g : Globals) (items : List CItem) (fs : List t.Function) (as_ : List (List Element)) (main : ℕ) → items ≡ q.items → AreGlobal g (map item_view items) → fs ≡ placed_functions (numbers_in g) (map item_view items) → as_ ≡ placed_arrays (numbers_in g) (map item_view items) → main ≡ at_name g.functions (codes "main")
    → record { functions = fs; arrays = as_; main = main } ≡ placed (program_view q)
program_placed q g items fs as_ main e h f a m =
    (λ i. record { functions = (f ∙ ap (λ ns. placed_functions ns (map item_view items)) is) i; arrays = (a ∙ ap (λ ns. placed_arrays ns (map item_view items)) is) i; main = (m ∙ h.functions.by (codes "main")) i })
    ∙ ap (λ its. placed (record { items = map item_view its })) e
  where
    is : numbers_in g ≡ numbers (map item_view items)
    is = numbers-in g (map item_view items) h
