-- Items one after another, as a loop reads them, and the prelude before them.
use Rattle.std.specs.Prelude.{flat_map}
use Rattle.std.proofs.Common.{◌≡◌, ℕ, ◌<◌, IsTrue, List, [], ◌∷◌, ◌++◌, map, length, refl, ap, sym, ◌∙◌, inl, inr, Ok}
use Rattle.std.proofs.lemmas.List.{append-nil, map-append, flat_map_more}
use Rattle.mm_grammar.specs.Grammar.{has, name, Front, Begins, Avoids, Reads, Fails}
use Rattle.mm_grammar.proofs.Closed.{fold_front}
use Rattle.mm_grammar.proofs.Lists.{or_cases, or_left}
use Rattle.std.specs.Prelude.{◌==◌, false}
use Rattle.mm_c.specs.declared.tree.CItem.{CItem}
use Rattle.mm_c.specs.Tree.{Item, Program}
use Rattle.mm_c.specs.Tokens.{Token, Place, class_of}
use Rattle.mm_c.specs.Grammar.{Placed, texts, item, w, prelude, program, program_of}
use Rattle.mm_c.specs.View.{item_view}
use Rattle.mm_c_parse.specs.Steps.{Marks, Broken}
use Rattle.mm_c_parse.proofs.Steps.{rg, rs, rn, ug, fg, wr, wf}
use Rattle.mm_c_parse.proofs.Many.{ManySoFar, many_starts, many_steps, many_ends, many_fails, begun_shorter, read_shorter}
use Rattle.mm_c_parse_stmt.specs.Gathers.{Gathers}
use Rattle.mm_c_parse_stmt.proofs.Gathers.{here, got, gives}
use Rattle.mm_c_parse_item.specs.Parts.{item_firsts, items, items_of, prelude_classes}
use Rattle.mm_c_parse_item.specs.Seen.{items_view}

abbrev tree_of : Placed Item → Item
tree_of x = x.tree

abbrev places_of : Placed Item → List Place
places_of x = x.places

-- the items that were read, and the places that were added for them
pub record ItemsSoFar (list : List CItem) (before now : List Place) (ts rest : List Token) : Type 0 where
  pub done : List (Placed Item)
  pub trees : items_view list ≡ map tree_of done
  pub spots : now ≡ before ++ flat_map places_of done
  pub so_far : ManySoFar (name item) done ts rest

pub items_start : {list : List CItem} (before : List Place) (ts : List Token) → list ≡ [] → ItemsSoFar list before before ts ts
items_start before ts e = record { done = []; trees = ap items_view e; spots = sym (append-nil before); so_far = many_starts (name item) refl ts [] refl }

pub items_step : {list longer : List CItem} {x : CItem} {before mid after : List Place} {ts m r : List Token} →
    ItemsSoFar list before mid ts m → Gathers item_view (name item) m mid (Ok x) after r → longer ≡ list ++ x ∷ [] → ItemsSoFar longer before after ts r
items_step {list} {longer} {x} {before} s g e =
    let a = got g in
    let next = here (item_view x) a.0 in
    record {
      done = s.done ++ next ∷ [];
      trees = ap items_view e ∙ (map-append item_view list (x ∷ []) ∙ (ap (λ l. l ++ item_view x ∷ []) s.trees ∙ sym (map-append tree_of s.done (next ∷ []))));
      spots = a.1 ∙ (ap (λ l. l ++ a.0) s.spots ∙ flat_map_more places_of before s.done next);
      so_far = many_steps (name item) refl s.done (s.done ++ next ∷ []) s.so_far a.2 refl;
    }

pub items_end : {list : List CItem} {before now : List Place} {ts m : List Token} → ItemsSoFar list before now ts m → Avoids texts item_firsts m → Gathers items_view items ts before (Ok list) now m
items_end s n = gives items_view (map tree_of s.done) (flat_map places_of s.done) s.trees s.spots (rg (many_ends (name item) refl s.done item_firsts refl s.so_far n) refl)

-- ---- the first token of an item

front_one : (c : ℕ) (k : Token) → IsTrue (class_of k == c) → Front texts (w c) (k ∷ [])
front_one c k h = inr (k, refl, or_left (class_of k == c) false h)

pub item_front : (k : Token) → IsTrue (has (class_of k) item_firsts) → Front texts (name item) (k ∷ [])
item_front k h = fold_front texts item (k ∷ []) (elim (or_cases _ _ h) [
  | inl i ↦ inl (inl (front_one 40 k i))
  | inr a ↦ elim (or_cases _ _ a) [
    | inl i ↦ inr (inl (inl (front_one 41 k i)))
    | inr b ↦ elim (or_cases _ _ b) [
      | inl i ↦ inr (inr (inl (inl (front_one 44 k i))))
      | inr d ↦ elim (or_cases _ _ d) [
        | inl i ↦ inr (inr (inl (inr (inl (front_one 45 k i)))))
        | inr e ↦ elim (or_cases _ _ e) [
          | inl i ↦ inr (inr (inl (inr (inr (inl (front_one 46 k i))))))
          | inr f ↦ elim (or_cases _ _ f) [
            | inl i ↦ inr (inr (inl (inr (inr (inr (inl (front_one 47 k i)))))))
            | inr g ↦ elim (or_cases _ _ g) [ inl i ↦ inr (inr (inl (inr (inr (inr (inr (inl (front_one 48 k i)))))))) | inr j ↦ absurd (cc) ]
          ]
        ]
      ]
    ]
  ]
])

pub items_fail : {list : List CItem} {before now : List Place} {ts m r : List Token} → ItemsSoFar list before now ts m → Begins texts item_firsts m → Fails texts (name item) m r → Fails texts items ts r
items_fail s b a = fg (many_fails (name item) refl s.done s.so_far (begun_shorter (name item) item_firsts item_front b a) a)

pub item_shorter : {x : CItem} {before after : List Place} {ts r : List Token} → Gathers item_view (name item) ts before (Ok x) after r → length r < length ts
item_shorter g = read_shorter (name item) refl (got g).2

-- ---- the prelude

abbrev before_end : List ℕ
before_end =
    56 ∷ 44 ∷ 1 ∷ 20 ∷ 45 ∷ 21 ∷ 26
    ∷ 56 ∷ 45 ∷ 2 ∷ 20 ∷ 44 ∷ 21 ∷ 26
    ∷ 56 ∷ 45 ∷ 3 ∷ 20 ∷ 44 ∷ 21 ∷ 26
    ∷ 56 ∷ 44 ∷ 4 ∷ 20 ∷ 45 ∷ 21 ∷ 26
    ∷ 56 ∷ 48 ∷ 29 ∷ 5 ∷ 20 ∷ 46 ∷ 21 ∷ []

pub prelude_reads : {ts r : List Token} → Marks prelude_classes ts r → (t : Token) × Reads texts prelude ts t r
prelude_reads m = wr before_end 26 refl m

pub prelude_fails : {ts r : List Token} → Broken prelude_classes ts r → Fails texts prelude ts r
prelude_fails b = wf before_end 26 refl b

-- ---- the program

abbrev program_with : Placed (List Item) → Placed Program
program_with z = record { tree = record { items = z.tree }; places = z.places }

pub program_reads : {list : List CItem} {before after : List Place} {ts m r : List Token} → before ≡ [] → Marks prelude_classes ts m → Gathers items_view items m before (Ok list) after r →
    Reads texts (name program) ts (program_with (record { tree = items_view list; places = after })) r
program_reads {list} {before} {after} e m g =
    let a = got g in
    let u = ug a.2 in
    let places : after ≡ a.0 = a.1 ∙ ap (λ l. l ++ a.0) e in
    let same : program_with (record { tree = items_view list; places = after }) ≡ program_of u.0 =
    ap (λ l. program_with (record { tree = items_view list; places = l })) places ∙ ap program_with u.1 in
    rn {x = program} (rg (rg (rs refl (prelude_reads m).1 u.2) refl) same)
