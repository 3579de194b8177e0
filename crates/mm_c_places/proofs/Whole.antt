-- In a well-formed program each name is seen where it is used.
use Rattle.std.specs.Prelude.{Bool, true, false, not, ◌&&◌, ◌||◌, Option, Some, None, is_some, nat_lt, ◌^◌}
use Rattle.std.specs.List.{list_any}
use Rattle.std.specs.Str.{bytes_eq}
use Rattle.std.proofs.Common.{◌≡◌, ℕ, List, [], ◌∷◌, ◌++◌, map, refl, sym, ap, ◌∙◌}
use Rattle.mm_c.specs.declared.tree.CKind.{CKind}
use Rattle.mm_c.specs.declared.tree.CLocal.{CLocal}
use Rattle.mm_c.specs.declared.tree.CElement.{CElement}
use Rattle.mm_c.specs.declared.tree.CElement.TheVariants as element_is
use Rattle.mm_c.specs.Tree.{Function, Item, typedef, array, proto, function, Program}
use Rattle.mm_c.specs.WellFormed.{Table, Entry, functions_type, numbers_array, functions_array, callable, entry_in, with_item, prelude, is_true, kind_in, is_inline, is_name, is_in, locals_fit, locals_of, is_long, is_function_in, list_every, functions_fit, elements_fit, function_fits, item_fits, inner_breaks, items_break, globals_of, breaks, has_main, well_formed}
use Rattle.mm_c.proofs.Bools.{and_left, and_right}
use Rattle.mm_c.proofs.Fits.{none_left, none_right}
use Rattle.mm_c_places.specs.Locals.{all_locals}
use Rattle.mm_c_places.specs.Seen.{Agree, Differ, SeesFunction, SeesElements, SeesItems}
use Rattle.mm_c_places.proofs.Nears.{bytes_refl, bytes_sym, bytes_is, sees-cons, sees-append}
use Rattle.mm_c_places.proofs.Seen.{block_sees, agree_left, agree_right, fine, after}

not_true : (b : Bool) → not b ≡ true → b ≡ false
not_true true e = absurd (cc)
not_true false e = refl

or_left_none : (a b : Bool) → (a || b) ≡ false → a ≡ false
or_left_none true b e = e
or_left_none false b e = refl

-- ---- locals

abbrev names_of : List CLocal → List (List ℕ)
names_of = map (λ (x : CLocal). x.name)

unseen : (ls : List CLocal) (x : List ℕ) → is_in (names_of ls) x ≡ false → is_some (kind_in ls x) ≡ false
unseen [] x e = refl
unseen (l ∷ ls) x e = sees-cons l ls x ∙ go (bytes_eq x l.name) (bytes_eq l.name x) (bytes_sym x l.name) e (unseen ls x)
  where
    go : (a b : Bool) → a ≡ b → (a || is_in (names_of ls) x) ≡ false → (is_in (names_of ls) x ≡ false → is_some (kind_in ls x) ≡ false) → (b || is_some (kind_in ls x)) ≡ false
    go true b s e r = absurd (cc)
    go false true s e r = absurd (cc)
    go false false s e r = r e

differ_fit : (globals : List (List ℕ)) (ls : List CLocal) → locals_fit globals ls ≡ true → Differ ls
differ_fit globals [] e = tt
differ_fit globals (l ∷ ls) e = (
  unseen ls l.name (not_true (is_in (names_of ls) l.name) (and_right (is_name l.name && not (is_in globals l.name)) (not (is_in (names_of ls) l.name)) (and_left (is_name l.name && not (is_in globals l.name) && not (is_in (names_of ls) l.name)) (locals_fit globals ls) e))),
  differ_fit globals ls (and_right (is_name l.name && not (is_in globals l.name) && not (is_in (names_of ls) l.name)) (locals_fit globals ls) e),
)

differ_left : (xs ys : List CLocal) → Differ (xs ++ ys) → Differ xs
differ_left [] ys d = tt
differ_left (x ∷ xs) ys d = (or_left_none (is_some (kind_in xs x.name)) (is_some (kind_in ys x.name)) (sym (sees-append xs ys x.name) ∙ d.0), differ_left xs ys d.1)

agree_one : (l : CLocal) (ls : List CLocal) (m : CLocal) → is_some (kind_in ls l.name) ≡ false → kind_in ls m.name ≡ Some m.kind → kind_in (l ∷ ls) m.name ≡ Some m.kind
agree_one l ls m d e = go (bytes_eq l.name m.name) refl
  where
    go : (b : Bool) → bytes_eq l.name m.name ≡ b → elim b as (λ z. Option CKind) [ true ↦ Some l.kind | false ↦ kind_in ls m.name ] ≡ Some m.kind
    go true f = absurd (let g : is_some (kind_in ls l.name) ≡ true = ap (λ z. is_some (kind_in ls z)) (bytes_is l.name m.name f) ∙ ap is_some e in cc)
    go false f = e

agree_cons : (l : CLocal) (ls ms : List CLocal) → is_some (kind_in ls l.name) ≡ false → Agree ls ms → Agree (l ∷ ls) ms
agree_cons l ls [] d g = tt
agree_cons l ls (m ∷ ms) d g = (agree_one l ls m d g.0, agree_cons l ls ms d g.1)

agree_first : (l : CLocal) (ls : List CLocal) → kind_in (l ∷ ls) l.name ≡ Some l.kind
agree_first l ls = go (bytes_eq l.name l.name) (bytes_refl l.name)
  where
    go : (b : Bool) → b ≡ true → elim b as (λ z. Option CKind) [ true ↦ Some l.kind | false ↦ kind_in ls l.name ] ≡ Some l.kind
    go true e = refl
    go false e = absurd (cc)

agree_all : (ls : List CLocal) → Differ ls → Agree ls ls
agree_all [] d = tt
agree_all (l ∷ ls) d = (agree_first l ls, agree_cons l ls ls d.0 (agree_all ls d.1))

-- ---- items

function_sees : (table behind : Table) (globals : List (List ℕ)) (f : Function) → function_fits table globals f ≡ true → list_any is_true (inner_breaks behind (function f)) ≡ false → SeesFunction f
function_sees table behind globals f e g =
    let d : Differ (all_locals f) = differ_fit globals (all_locals f) (and_right _ (locals_fit globals (all_locals f)) (and_left _ (nat_lt _ 4097) e)) in
    let a : Agree (all_locals f) (all_locals f) = agree_all (all_locals f) d in
    record {
      differ = differ_left f.params (locals_of f.body) d;
      params = agree_left (all_locals f) f.params (locals_of f.body) a;
      body = block_sees (all_locals f) (record { table = behind; scope = f.params; result = f.result; inside_inline = is_inline f.linkage; in_loop = false }) f.body g (agree_right (all_locals f) f.params (locals_of f.body) a);
    }

longs_see : (es : List CElement) → list_every is_long es ≡ true → SeesElements es
longs_see [] e = tt
longs_see (element_is.Name f ∷ es) e = absurd (cc)
longs_see (element_is.Number n ∷ es) e = (and_left (is_long (element_is.Number n)) (list_every is_long es) e, longs_see es (and_right (is_long (element_is.Number n)) (list_every is_long es) e))
longs_see (element_is.Negative n ∷ es) e = (and_left (nat_lt n.value (2 ^ 31)) (not n.is_unsigned) (and_left (is_long (element_is.Negative n)) (list_every is_long es) e), longs_see es (and_right (is_long (element_is.Negative n)) (list_every is_long es) e))

names_see : (table : Table) (r : Option CKind) (ks : List CKind) (es : List CElement) → list_every (is_function_in table r ks) es ≡ true → SeesElements es
names_see table r ks [] e = tt
names_see table r ks (element_is.Name f ∷ es) e = (tt, names_see table r ks es (and_right (is_function_in table r ks (element_is.Name f)) (list_every (is_function_in table r ks) es) e))
names_see table r ks (element_is.Number n ∷ es) e = absurd (cc)
names_see table r ks (element_is.Negative n ∷ es) e = absurd (cc)

functions_see : (table : Table) (es : List CElement) (o : Option Entry) → functions_fit table es o ≡ true → SeesElements es
functions_see table es None e = absurd (cc)
functions_see table es (Some (functions_type r ks)) e = names_see table r ks es e
functions_see table es (Some numbers_array) e = absurd (cc)
functions_see table es (Some (functions_array r ks)) e = absurd (cc)
functions_see table es (Some (callable i d r ks)) e = absurd (cc)

elements_see : (table : Table) (o : Option (List ℕ)) (es : List CElement) → elements_fit table o es ≡ true → SeesElements es
elements_see table None es e = longs_see es e
elements_see table (Some f) es e = functions_see table es (entry_in table f) e

items_see : (table : Table) (globals : List (List ℕ)) (items : List Item) → list_any is_true (items_break table globals items) ≡ false → SeesItems items
items_see table globals [] e = tt
items_see table globals (typedef d ∷ more) e = items_see (with_item table (typedef d)) globals more (after (item_fits table globals more (typedef d)) (items_break (with_item table (typedef d)) globals more) e)
items_see table globals (proto p ∷ more) e = items_see (with_item table (proto p)) globals more (after (item_fits table globals more (proto p)) (items_break (with_item table (proto p)) globals more) e)
items_see table globals (array a ∷ more) e = (
  elements_see table a.functions a.elements (and_right _ (elements_fit table a.functions a.elements) (fine (item_fits table globals more (array a)) (items_break (with_item table (array a)) globals more) e)),
  items_see (with_item table (array a)) globals more (after (item_fits table globals more (array a)) (items_break (with_item table (array a)) globals more) e),
)
items_see table globals (function f ∷ more) e =
    let behind = with_item table (function f) in
    let g = after (item_fits table globals more (function f)) (inner_breaks behind (function f) ++ items_break behind globals more) e in (
      function_sees table behind globals f (fine (item_fits table globals more (function f)) (inner_breaks behind (function f) ++ items_break behind globals more) e) (none_left (inner_breaks behind (function f)) (items_break behind globals more) g),
      items_see behind globals more (none_right (inner_breaks behind (function f)) (items_break behind globals more) g),
    )

pub well_formed_sees : (p : Program) → well_formed p ≡ true → SeesItems p.items
well_formed_sees p e = items_see prelude (globals_of p) p.items (not_true (list_any is_true (breaks p)) (and_left (not (list_any is_true (breaks p))) (has_main p) e))
