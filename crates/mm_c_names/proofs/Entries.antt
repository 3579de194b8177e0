-- What the names are behind one item more.
use Rattle.std.specs.Prelude.{Bool, true, false, cond}
use Rattle.std.specs.Borrow.{Bor}
use Rattle.std.specs.HashMap as hash
use Rattle.std.proofs.lemmas.Map.Text.{hash_map_updates_str}
use Rattle.indexmap.specs.IndexMap.{IndexMap}
use Rattle.std.proofs.Common.{◌≡◌, ℕ, ◌+◌, ◌<◌, List, [], ◌∷◌, ◌++◌, Option, Some, None, length, take, get_or, map, refl, sym, ap, ◌∙◌}
use Rattle.std.proofs.lemmas.List.{take_more, map-append}
use Rattle.std.specs.Str.{bytes_eq}
use Rattle.mm_c.specs.declared.tree.CItem.{CItem}
use Rattle.mm_c.specs.Tree.{Item, typedef, array, proto, function}
use Rattle.mm_c.specs.View.{item_view}
use Rattle.mm_c.specs.WellFormed.{Table, Entry, entry_in, item_name, with_item, prelude}
use Rattle.mm_c_names.specs.Entries.{entry_view, entry_by, table_from, table_of}
use Rattle.mm_c_names.specs.declared.entry.Entry as held
use Rattle.mm_c_names.specs.Tables.{at, entry_or, AreEntries}

pub with_item-entry : (table : Table) (i : Item) → with_item table i ≡ (item_name i, entry_by table i) ∷ table
with_item-entry table (typedef d) = refl
with_item-entry table (array a) = refl
with_item-entry table (proto p) = refl
with_item-entry table (function f) = refl

table_from-append : (table : Table) (a b : List Item) → table_from table (a ++ b) ≡ table_from (table_from table a) b
table_from-append table [] b = refl
table_from-append table (i ∷ a) b = table_from-append (with_item table i) a b

pub table_more : (is : List CItem) (i : ℕ) (d : CItem) → i < length is → table_of (take (i + 1) is) ≡ with_item (table_of (take i is)) (item_view (get_or is i d))
table_more is i d h =
    ap (λ l. table_from prelude (map item_view l)) (take_more is i d h)
    ∙ ap (table_from prelude) (map-append item_view (take i is) (get_or is i d ∷ []))
    ∙ table_from-append prelude (map item_view (take i is)) (item_view (get_or is i d) ∷ [])

-- what a name is behind an item: the item, or what it was before
entry_at : (table : Table) (i : Item) (x : List ℕ) (b : Bool) → bytes_eq (item_name i) x ≡ b → entry_in (with_item table i) x ≡ elim b as (λ z. Option Entry) [ true ↦ Some (entry_by table i) | false ↦ entry_in table x ]
entry_at table i x b e = ap (λ t. entry_in t x) (with_item-entry table i) ∙ ap (λ c. elim c as (λ z. Option Entry) [ true ↦ Some (entry_by table i) | false ↦ entry_in table x ]) e

-- one item more in the table
pub entries_more : {S : Type 0} (old new : IndexMap (Bor (List ℕ)) held.Entry S) (is : List CItem) (i : ℕ) (d : CItem) (e : held.Entry) (n : List ℕ) → i < length is → d ≡ get_or is i d
    → hash.UpdatesBy (λ (x y : Bor (List ℕ)). bytes_eq x.now y.now) (λ (k : Bor (List ℕ)). bytes_eq n k.now) old new (Some e)
    → n ≡ item_name (item_view d) → entry_view e ≡ entry_by (table_of (take i is)) (item_view d)
    → AreEntries old (take i is) → AreEntries new (take (i + 1) is)
entries_more old new is i d e n l is_at up named is_e h = record { by = by } where
  behind : table_of (take (i + 1) is) ≡ with_item (table_of (take i is)) (item_view d)
  behind = table_more is i d l ∙ ap (λ y. with_item (table_of (take i is)) (item_view y)) (sym is_at)

  by : (x : List ℕ) → entry_or (at new x) (entry_in prelude x) ≡ entry_in (table_of (take (i + 1) is)) x
  by x =
      ap (λ o. entry_or o (entry_in prelude x)) (hash_map_updates_str n old new (Some e) up x)
      ∙ ap (λ y. entry_or (cond (bytes_eq y x) (Some e) (at old x)) (entry_in prelude x)) named
      ∙ go (bytes_eq (item_name (item_view d)) x)
      ∙ sym (ap (λ t. entry_in t x) behind ∙ entry_at (table_of (take i is)) (item_view d) x (bytes_eq (item_name (item_view d)) x) refl)
    where
      go : (b : Bool) → entry_or (cond b (Some e) (at old x)) (entry_in prelude x) ≡ elim b as (λ z. Option Entry) [ true ↦ Some (entry_by (table_of (take i is)) (item_view d)) | false ↦ entry_in (table_of (take i is)) x ]
      go true = ap Some is_e
      go false = h.by x

-- what a name is, by the table, and where the table has nothing of it
pub found : {S : Type 0} (table : IndexMap (Bor (List ℕ)) held.Entry S) (is js : List CItem) (x y : List ℕ) (e : held.Entry) → AreEntries table is → is ≡ js → x ≡ y → Some e ≡ at table x → Some (entry_view e) ≡ entry_in (table_of js) y
found table is js x y e h p q g = ap (λ o. entry_or o (entry_in prelude x)) g ∙ h.by x ∙ (λ j. entry_in (table_of (p j)) (q j))

pub missed : {S : Type 0} (table : IndexMap (Bor (List ℕ)) held.Entry S) (is js : List CItem) (x y : List ℕ) → AreEntries table is → is ≡ js → x ≡ y → None ≡ at table x → entry_in prelude y ≡ entry_in (table_of js) y
missed table is js x y h p q g = ap (entry_in prelude) (sym q) ∙ ap (λ o. entry_or o (entry_in prelude x)) g ∙ h.by x ∙ (λ j. entry_in (table_of (p j)) (q j))
