-- One item more, in front of those behind it.
use Rattle.std.specs.Prelude.{Bool, true, false, cond, ◌||◌, is_some, option_map, if◌then◌else◌}
use Rattle.std.specs.Borrow.{Bor}
use Rattle.std.specs.Str.{bytes_eq}
use Rattle.std.specs.HashMap as hash
use Rattle.std.proofs.lemmas.Map.Text.{hash_map_updates_str}
use Rattle.std.proofs.lemmas.Slice.Eq.{bytes_eq-Decides}
use Rattle.std.proofs.lemmas.List.{drop_more}
use Rattle.std.proofs.Common.{◌≡◌, ℕ, zero, suc, ◌+◌, ◌<◌, ◌≤◌, List, [], ◌∷◌, ◌++◌, Option, Some, None, length, drop, take, get_or, map, refl, sym, ap, ◌∙◌, arith}
use Rattle.indexmap.specs.IndexMap.{IndexMap}
use Rattle.mm_c.specs.declared.tree.CItem.{CItem}
use Rattle.mm_c.specs.Tree.{Function, Item, typedef, array, proto, function}
use Rattle.mm_c.specs.View.{item_view}
use Rattle.mm_c.specs.WellFormed.{item_name, is_in, definitions}
use Rattle.mm_c_names.specs.declared.globals.Defined as held
use Rattle.mm_c_names.specs.Tables.{at, firsts, firsts_or, firsts_in, with_own, AreDefined}
use Rattle.mm_c_names.specs.Tables.{globals_in}
use Rattle.mm_c_names.specs.Entries.{entry_view}
use Rattle.mm_c_names.specs.declared.entry.Entry as entry
use Rattle.mm_c.specs.WellFormed as w
use Rattle.mm_c.specs.WellFormed.{prelude, entry_in}
use Rattle.mm_c_names.proofs.Named.{bytes_sym, named_some, named_none, is_in-append}

take_two : (fs : List Function) → take 2 (take 2 fs) ≡ take 2 fs
take_two [] = refl
take_two (f ∷ []) = refl
take_two (f ∷ g ∷ fs) = refl

take_front : (f : Function) (fs : List Function) → take 2 (f ∷ take 2 fs) ≡ take 2 (f ∷ fs)
take_front f [] = refl
take_front f (g ∷ fs) = refl

-- the functions of a name that an item has, and that it has not
own : (i : Item) (x : List ℕ) (more : List Item) → bytes_eq (item_name i) x ≡ true → take 2 (with_own i (take 2 (definitions x more))) ≡ take 2 (definitions x (i ∷ more))
own (typedef d) x more e = take_two (definitions x more)
own (array a) x more e = take_two (definitions x more)
own (proto p) x more e = take_two (definitions x more)
own (function f) x more e = take_front f (definitions x more) ∙ ap (λ b. take 2 (if b then f ∷ definitions x more else definitions x more)) (sym e)

other : (i : Item) (x : List ℕ) (more : List Item) → bytes_eq (item_name i) x ≡ false → definitions x more ≡ definitions x (i ∷ more)
other (typedef d) x more e = refl
other (array a) x more e = refl
other (proto p) x more e = refl
other (function f) x more e = ap (λ b. if b then f ∷ definitions x more else definitions x more) (sym e)

module _ {S : Type 0} where
  front : (old new : IndexMap (Bor (List ℕ)) held.Defined S) (d : CItem) (more : List CItem) (v : held.Defined) (n : List ℕ)
      → hash.UpdatesBy (λ (x y : Bor (List ℕ)). bytes_eq x.now y.now) (λ (k : Bor (List ℕ)). bytes_eq n k.now) old new (Some v)
      → n ≡ item_name (item_view d) → firsts v ≡ take 2 (with_own (item_view d) (firsts_in old n))
      → AreDefined old more → AreDefined new (d ∷ more)
  front old new d more v n up named own_v h = record { names = names; functions = functions } where
    i : Item
    i = item_view d

    after : (x : List ℕ) → at new x ≡ cond (bytes_eq (item_name i) x) (Some v) (at old x)
    after x = hash_map_updates_str n old new (Some v) up x ∙ ap (λ y. cond (bytes_eq y x) (Some v) (at old x)) named

    names : (x : List ℕ) → is_some (at new x) ≡ is_in (map item_name (map item_view (d ∷ more))) x
    names x = ap is_some (after x) ∙ go (bytes_eq (item_name i) x) ∙ ap (λ b. b || is_in (map item_name (map item_view more)) x) (bytes_sym (item_name i) x) where
      go : (b : Bool) → is_some (cond b (Some v) (at old x)) ≡ (b || is_in (map item_name (map item_view more)) x)
      go true = refl
      go false = h.names x

    functions : (x : List ℕ) → firsts_in new x ≡ take 2 (definitions x (map item_view (d ∷ more)))
    functions x = ap firsts_or (after x) ∙ go (bytes_eq (item_name i) x) refl where
      go : (b : Bool) → bytes_eq (item_name i) x ≡ b → firsts_or (cond b (Some v) (at old x)) ≡ take 2 (definitions x (i ∷ map item_view more))
      go true e =
          own_v ∙ ap (λ y. take 2 (with_own i (firsts_in old y))) (named ∙ (bytes_eq-Decides (item_name i) x).0 e)
          ∙ ap (λ fs. take 2 (with_own i fs)) (h.functions x) ∙ own i x (map item_view more) e
      go false e = h.functions x ∙ ap (take 2) (other i x (map item_view more) e)

  pub defined_more : (old new : IndexMap (Bor (List ℕ)) held.Defined S) (is : List CItem) (i j : ℕ) (d : CItem) (v : held.Defined) (n : List ℕ)
      → j ≡ i + 1 → i < length is → d ≡ get_or is i d
      → hash.UpdatesBy (λ (x y : Bor (List ℕ)). bytes_eq x.now y.now) (λ (k : Bor (List ℕ)). bytes_eq n k.now) old new (Some v)
      → n ≡ item_name (item_view d) → firsts v ≡ take 2 (with_own (item_view d) (firsts_in old n))
      → AreDefined old (drop j is) → AreDefined new (drop i is)
  defined_more old new is i j d v n next l is_at up named own_v h = rw here (front old new d (drop (i + 1) is) v n up named own_v (rw (sym next) h)) where
    here : drop i is ≡ d ∷ drop (i + 1) is
    here = drop_more is i d l ∙ ap (λ x. x ∷ drop (i + 1) is) (sym is_at)

-- ---- the names of a program

is_given : (o : Option entry.Entry) (x : List ℕ) → option_map entry_view o ≡ entry_in prelude x → is_some o ≡ is_in (map (λ (e : List ℕ × w.Entry). e.0) prelude) x
is_given None x e = sym (named_none prelude x e)
is_given (Some o) x e = sym (named_some prelude x (entry_view o) e)

pub global_given : (is : List CItem) (o : Option entry.Entry) (x y : List ℕ) (b : Bool) → b ≡ true → b ≡ is_some o → option_map entry_view o ≡ entry_in prelude x → x ≡ y → b ≡ is_in (globals_in is) y
global_given is o x y b t f e q =
    t ∙ ap (λ c. c || is_in (map item_name (map item_view is)) y) (sym t ∙ f ∙ is_given o x e ∙ ap (is_in (map (λ (e : List ℕ × w.Entry). e.0) prelude)) q)
    ∙ sym (is_in-append (map (λ (e : List ℕ × w.Entry). e.0) prelude) (map item_name (map item_view is)) y)

pub global_item : {S : Type 0} (table : IndexMap (Bor (List ℕ)) held.Defined S) (is js : List CItem) (o : Option entry.Entry) (x y z : List ℕ) (b c : Bool) → AreDefined table is → is ≡ js
    → b ≡ false → b ≡ is_some o → option_map entry_view o ≡ entry_in prelude x → x ≡ y → c ≡ is_some (at table z) → z ≡ y → c ≡ is_in (globals_in js) y
global_item table is js o x y z b c h p t f e q g r =
    g ∙ h.names z ∙ (λ j. is_in (map item_name (map item_view (p j))) (r j))
    ∙ ap (λ d. d || is_in (map item_name (map item_view js)) y) (sym t ∙ f ∙ is_given o x e ∙ ap (is_in (map (λ (e : List ℕ × w.Entry). e.0) prelude)) q)
    ∙ sym (is_in-append (map (λ (e : List ℕ × w.Entry). e.0) prelude) (map item_name (map item_view js)) y)
