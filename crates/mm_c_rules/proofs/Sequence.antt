-- Items, one after another.
use Rattle.std.specs.Prelude.{Bool, true, false, not, ◌&&◌, ◌||◌, nat_le, nat_lt, min, suc, if◌then◌else◌}
use Rattle.std.specs.List.{list_any}
use Rattle.std.specs.Str.{bytes_eq}
use Rattle.std.proofs.Common.{◌≡◌, ℕ, ◌+◌, ◌-◌, ◌<◌, ◌≤◌, List, [], ◌∷◌, ◌++◌, length, take, drop, get_or, map, refl, sym, ap, ◌∙◌, arith}
use Rattle.std.proofs.lemmas.List.{drop_more, map-append, take-append-drop}
use Rattle.mm_c.specs.declared.tree.CItem.{CItem}
use Rattle.mm_c.specs.declared.tree.CFn.{CFn}
use Rattle.mm_c.specs.declared.tree.CProto.{CProto}
use Rattle.mm_c.specs.Tree.{Function, Item, typedef, array, proto, function}
use Rattle.mm_c.specs.View.{item_view, block_view, function_view, program_view}
use Rattle.mm_c.specs.WellFormed.{Table, Entry, with_item, prelude, is_name, is_in, is_new, may_define, entry_in, item_name, head_fits, locals_fit, depth_of, function_fits, item_fits, inner_breaks, items_break, is_main, well_formed, definitions, defines}
use Rattle.mm_c_names.specs.Entries.{table_from, table_of}
use Rattle.mm_c_names.specs.Tables.{globals_in}
use Rattle.mm_c_names.proofs.Entries.{table_more, with_item-entry}
use Rattle.mm_c_names.proofs.Named.{bytes_sym}
use Rattle.mm_c_rules.specs.Keeps.{keeps, before_first, left_of}
use Rattle.mm_c_rules.specs.Locals.{all_locals}
use Rattle.mm_c_rules.proofs.Keeping.{keeps-cons, keeps-append, left_then, left-cons, left-append}

and-assoc : (a b c : Bool) → (a && (b && c)) ≡ ((a && b) && c)
and-assoc true b c = refl
and-assoc false b c = refl

and-comm : (a b : Bool) → (a && b) ≡ (b && a)
and-comm true true = refl
and-comm true false = refl
and-comm false true = refl
and-comm false false = refl

below-most : (d : ℕ) → nat_lt d 4097 ≡ nat_le d 4096
below-most d = go (nat_le d 4096) refl
  where
    go : (b : Bool) → nat_le d 4096 ≡ b → nat_lt d 4097 ≡ b
    go true e = grind (arith, e)
    go false e = grind (arith, e)

-- The depth may be asked before the locals.
pub last_swap : (table : Table) (globals : List (List ℕ)) (f : CFn) → function_fits table globals (function_view f) ≡ (is_name f.name && may_define (entry_in table f.name) && head_fits (function_view f) && nat_le (depth_of (block_view f.body)) 4096 && locals_fit globals (all_locals f))
last_swap table globals f =
    ap (λ z. (is_name f.name && may_define (entry_in table f.name) && head_fits (function_view f) && locals_fit globals (all_locals f)) && z) (below-most (depth_of (block_view f.body)))
    ∙ sym (and-assoc a l d) ∙ ap (λ z. a && z) (and-comm l d) ∙ and-assoc a d l
  where
    a : Bool
    a = is_name f.name && may_define (entry_in table f.name) && head_fits (function_view f)

    l : Bool
    l = locals_fit globals (all_locals f)

    d : Bool
    d = nat_le (depth_of (block_view f.body)) 4096

-- ---- the functions of a head's name stand behind it

definitions-append : (x : List ℕ) (as_ bs : List Item) → definitions x (as_ ++ bs) ≡ definitions x as_ ++ definitions x bs
definitions-append x [] bs = refl
definitions-append x (typedef d ∷ as_) bs = definitions-append x as_ bs
definitions-append x (array a ∷ as_) bs = definitions-append x as_ bs
definitions-append x (proto p ∷ as_) bs = definitions-append x as_ bs
definitions-append x (function f ∷ as_) bs = go (bytes_eq f.name x) (definitions-append x as_ bs)
  where
    go : (b : Bool) → definitions x (as_ ++ bs) ≡ definitions x as_ ++ definitions x bs → (if b then f ∷ definitions x (as_ ++ bs) else definitions x (as_ ++ bs)) ≡ (if b then f ∷ definitions x as_ else definitions x as_) ++ definitions x bs
    go true h = ap (λ l. f ∷ l) h
    go false h = h

or_left : (a b : Bool) → (a || b) ≡ false → a ≡ false
or_left true b h = h
or_left false b h = refl

or_right : (a b : Bool) → (a || b) ≡ false → b ≡ false
or_right true b h = absurd (cc)
or_right false b h = h

-- an item of another name defines nothing of this one
other_name : (x : List ℕ) (i : Item) (more : List Item) → bytes_eq (item_name i) x ≡ false → definitions x (i ∷ more) ≡ definitions x more
other_name x (typedef d) more e = refl
other_name x (array a) more e = refl
other_name x (proto p) more e = refl
other_name x (function f) more e = ap (λ b. if b then f ∷ definitions x more else definitions x more) e

-- what no item before declares, none before defines
undefined : (t : Table) (is : List Item) (x : List ℕ) → is_in (map (λ (e : List ℕ × Entry). e.0) (table_from t is)) x ≡ false → (is_in (map (λ (e : List ℕ × Entry). e.0) t) x ≡ false) × (definitions x is ≡ [])
undefined t [] x h = (h, refl)
undefined t (i ∷ is) x h =
    let r = undefined (with_item t i) is x h in
    let e : (bytes_eq x (item_name i) || is_in (map (λ (e : List ℕ × Entry). e.0) t) x) ≡ false = ap (λ y. is_in (map (λ (e : List ℕ × Entry). e.0) y) x) (sym (with_item-entry t i)) ∙ r.0 in
    (or_right (bytes_eq x (item_name i)) _ e, other_name x i is (bytes_sym (item_name i) x ∙ or_left (bytes_eq x (item_name i)) _ e) ∙ r.1)

later_defined : (as_ : List Item) (p : CProto) (bs : List Item) → (is_new (table_from prelude as_) p.name && defines p (definitions p.name (as_ ++ proto p ∷ bs))) ≡ (is_new (table_from prelude as_) p.name && defines p (definitions p.name bs))
later_defined as_ p bs = go (is_name p.name) (is_in (map (λ (e : List ℕ × Entry). e.0) (table_from prelude as_)) p.name) refl
  where
    go : (a b : Bool) → is_in (map (λ (e : List ℕ × Entry). e.0) (table_from prelude as_)) p.name ≡ b → ((a && not b) && defines p (definitions p.name (as_ ++ proto p ∷ bs))) ≡ ((a && not b) && defines p (definitions p.name bs))
    go false b e = refl
    go true true e = refl
    go true false e = ap (defines p) (definitions-append p.name as_ (proto p ∷ bs) ∙ ap (λ l. l ++ definitions p.name bs) (undefined prelude as_ p.name e).1)

later_all : (as_ : List Item) (g : List (List ℕ)) (i : Item) (bs : List Item) → item_fits (table_from prelude as_) g (as_ ++ i ∷ bs) i ≡ item_fits (table_from prelude as_) g bs i
later_all as_ g (typedef d) bs = refl
later_all as_ g (array a) bs = refl
later_all as_ g (proto p) bs = later_defined as_ p bs
later_all as_ g (function f) bs = refl

-- the first two functions tell whether there is one alone
pub defines_first : (p : CProto) (fs gs : List Function) → gs ≡ take 2 fs → defines p gs ≡ defines p fs
defines_first p fs gs e = ap (defines p) e ∙ two fs
  where
    two : (fs : List Function) → defines p (take 2 fs) ≡ defines p fs
    two [] = refl
    two (f ∷ []) = refl
    two (f ∷ g ∷ fs) = refl

-- ---- the item at a place, what stands inside it, and the items behind it

module _ (is : List CItem) (i : ℕ) (d : CItem) (l : i < length is) (is_at : d ≡ get_or is i d) where
  abbrev here : List Bool
  here = items_break (table_of (take i is)) (globals_in is) (map item_view (drop i is))

  abbrev fits : Bool
  fits = item_fits (table_of (take i is)) (globals_in is) (map item_view is) (item_view d)

  abbrev inside : List Bool
  inside = inner_breaks (table_of (take (i + 1) is)) (item_view d)

  abbrev rest : List Bool
  rest = items_break (table_of (take (i + 1) is)) (globals_in is) (map item_view (drop (i + 1) is))

  split : drop i is ≡ d ∷ drop (i + 1) is
  split = drop_more is i d l ∙ ap (λ y. y ∷ drop (i + 1) is) (sym is_at)

  all : map item_view is ≡ map item_view (take i is) ++ item_view d ∷ map item_view (drop (i + 1) is)
  all = ap (map item_view) (sym (take-append-drop i is) ∙ ap (λ y. take i is ++ y) split) ∙ map-append item_view (take i is) (d ∷ drop (i + 1) is)

  fits_all : item_fits (table_of (take i is)) (globals_in is) (map item_view (drop (i + 1) is)) (item_view d) ≡ fits
  fits_all = sym (ap (λ y. item_fits (table_of (take i is)) (globals_in is) y (item_view d)) all ∙ later_all (map item_view (take i is)) (globals_in is) (item_view d) (map item_view (drop (i + 1) is)))

  parts : here ≡ not fits ∷ (inside ++ rest)
  parts =
      ap (λ y. items_break (table_of (take i is)) (globals_in is) (map item_view y)) split
      ∙ ap (λ b. not b ∷ (inner_breaks (with_item (table_of (take i is)) (item_view d)) (item_view d) ++ items_break (with_item (table_of (take i is)) (item_view d)) (globals_in is) (map item_view (drop (i + 1) is)))) fits_all
      ∙ ap (λ t. not fits ∷ (inner_breaks t (item_view d) ++ items_break t (globals_in is) (map item_view (drop (i + 1) is)))) (sym (table_more is i d l ∙ ap (λ y. with_item (table_of (take i is)) (item_view y)) (sym is_at)))

  module _ (f : Bool) (tells : f ≡ fits) where
    with_told : here ≡ not f ∷ (inside ++ rest)
    with_told = parts ∙ ap (λ b. not b ∷ (inside ++ rest)) (sym tells)

    keeps_item : keeps here ≡ (f && (keeps inside && keeps rest))
    keeps_item = ap keeps with_told ∙ keeps-cons f (inside ++ rest) ∙ ap (λ b. f && b) (keeps-append inside rest)

    left_item : (n : ℕ) → left_of n here ≡ left_then f (left_of n (not f ∷ [])) (inside ++ rest)
    left_item n = ap (left_of n) with_told ∙ left-cons n f (inside ++ rest)

    -- the item breaks a rule; something inside does; neither
    pub unfit : (n m : ℕ) → f ≡ false → m ≡ left_of n (not f ∷ []) → (false ≡ keeps here) × (m ≡ left_of n here)
    unfit n m e w = (sym (keeps_item ∙ ap (λ b. b && (keeps inside && keeps rest)) e), w ∙ sym (left_item n ∙ ap (λ b. left_then b (left_of n (not f ∷ [])) (inside ++ rest)) e))

    pub broken : (n m k : ℕ) (b : Bool) → f ≡ true → m ≡ left_of n (not f ∷ []) → b ≡ false → b ≡ keeps inside → k ≡ left_of m inside → (false ≡ keeps here) × (k ≡ left_of n here)
    broken n m k b e w q r v =
        let no : keeps inside ≡ false = sym r ∙ q in (
          sym (keeps_item ∙ ap (λ y. y && (keeps inside && keeps rest)) e ∙ ap (λ y. y && keeps rest) no),
          v ∙ ap (λ y. left_of y inside) w
              ∙ sym (left_item n ∙ ap (λ y. left_then y (left_of n (not f ∷ [])) (inside ++ rest)) e ∙ left-append (left_of n (not f ∷ [])) inside rest ∙ ap (λ y. left_then y (left_of (left_of n (not f ∷ [])) inside) rest) no),
        )

    pub kept : (n m k : ℕ) (b : Bool) → f ≡ true → m ≡ left_of n (not f ∷ []) → b ≡ true → b ≡ keeps inside → k ≡ left_of m inside → (keeps here ≡ keeps rest) × (left_of n here ≡ left_of k rest)
    kept n m k b e w q r v =
        let yes : keeps inside ≡ true = sym r ∙ q in (
          keeps_item ∙ ap (λ y. y && (keeps inside && keeps rest)) e ∙ ap (λ y. y && keeps rest) yes,
          left_item n ∙ ap (λ y. left_then y (left_of n (not f ∷ [])) (inside ++ rest)) e ∙ left-append (left_of n (not f ∷ [])) inside rest
              ∙ ap (λ y. left_then y (left_of (left_of n (not f ∷ [])) inside) rest) yes ∙ ap (λ y. left_of y rest) (sym (v ∙ ap (λ y. left_of y inside) w)),
        )

pub left_low : (bs : List Bool) (n : ℕ) → left_of n bs ≤ n
left_low [] n = omega arith
left_low (true ∷ bs) n = omega arith
left_low (false ∷ bs) n = let e = left_low bs (n - 1) in let z : left_of (n - 1) bs ≤ n = omega (arith, e) in z

-- what is taken off a count
pub taken : (bs : List Bool) (n : ℕ) → n - left_of n bs ≡ min (before_first bs) n
taken [] n = omega arith
taken (true ∷ bs) n = omega arith
taken (false ∷ bs) n =
    let e = taken bs (n - 1) in
    let m = left_low bs (n - 1) in
    let z : n - left_of (n - 1) bs ≡ min (suc (before_first bs)) n = omega (arith, e, m) in z

-- a program's items and statements, by what is left of a count
pub first_is : (bs : List Bool) (n left : ℕ) → left ≡ left_of n bs → keeps bs ≡ false → (keeps bs ≡ false) × (n - left ≡ min (before_first bs) n)
first_is bs n left e k = (k, ap (λ x. n - x) e ∙ taken bs n)

pub well_formed_parts : (is : List CItem) → well_formed (program_view (record { items = is })) ≡ (keeps (items_break prelude (globals_in is) (map item_view is)) && list_any is_main (map item_view is))
well_formed_parts is = refl
