-- Rows that are numbered, one more at a time.
use Rattle.std.proofs.Common.{◌≡◌, ℕ, ◌+◌, ◌<◌, ◌≤◌, ◌⊎◌, inl, inr, List, [], ◌∷◌, ◌++◌, length, map, get_or, sym, ◌∙◌, ap, refl, subst, arith, Bool, true, false, Bor, Some, All, if◌then◌else◌}
use Rattle.std.specs.Str.{bytes_eq}
use Rattle.std.specs.List.{IsDistinct, list_any, slice_get}
use Rattle.std.proofs.lemmas.Slice.Eq.{bytes_eq-Decides}
use Rattle.std.proofs.lemmas.Map.Keys.{apart_from_distinct}
use Rattle.std.proofs.lemmas.Bool.Decides.{not_from_Decides}
use Rattle.std.proofs.lemmas.List.Elements.{All-push}
use Rattle.std.proofs.lemmas.Option.{get_or_from_slice_get}
use Rattle.indexmap.specs.IndexSet.{insert_key}
use Rattle.std.proofs.lemmas.Bool.{cases_lt, cases_order}
use Rattle.std.proofs.lemmas.List.{length-map, map-append, get_or-map, get_or_push, length_push, get_or_append_left}
use Rattle.mm_pack.specs.Tables.{IsInOrder}
use Rattle.mm_pack.specs.Rounds.{row_at, AreNumbered}

-- no row is numbered yet
pub none : (cells : List ℕ) (width : ℕ) → AreNumbered cells width 0 [] []
none cells width = record {
  places = refl;
  order = record {
    low = λ i h. absurd (omega arith);
    earlier = λ i n h k. absurd (omega arith);
    used = λ n h. absurd (omega arith);
  };
  same = λ i h. absurd (omega arith);
  apart = λ a b h k. absurd (omega arith);
}

-- one more number in order: one that is given out, or the count
pub order_more : (xs : List ℕ) (count more slot : ℕ) → IsInOrder xs count → slot < more
    → (more ≡ count) ⊎ ((more ≡ count + 1) × (slot ≡ count)) → IsInOrder (xs ++ slot ∷ []) more
order_more xs count more slot o low grown = record {
  low = λ i h. elim (cases_lt i (length xs)) [
    | inl here ↦ let e : get_or (xs ++ slot ∷ []) i 0 ≡ get_or xs i 0 = get_or_append_left xs (slot ∷ []) 0 i here in let l = o.low i here in grow_lt (get_or (xs ++ slot ∷ []) i 0) (get_or xs i 0) e l
    | inr past ↦ let is : length xs ≡ i = last xs slot i past h in let e : get_or (xs ++ slot ∷ []) i 0 ≡ slot = get_or_push xs slot 0 i is in rw e low
  ];
  earlier = λ i n h k. elim (cases_lt i (length xs)) [
    | inl here ↦ before i n here (subst (λ v. n < v) (get_or_append_left xs (slot ∷ []) 0 i here) k)
    | inr past ↦ let is : length xs ≡ i = last xs slot i past h in let e : get_or (xs ++ slot ∷ []) i 0 ≡ slot = get_or_push xs slot 0 i is in
        let under : n < slot = subst (λ v. n < v) e k in
        let r = found n (below n under) in (r.0, subst (λ v. r.0 < v) is r.1, kept r.0 n r.1 r.2)
  ];
  used = λ n h. elim (cases_lt n count) [
    | inl old ↦ let r = found n old in (r.0, omega (arith, length_push xs slot, r.1), kept r.0 n r.1 r.2)
    | inr new ↦ (length xs, omega (arith, length_push xs slot), get_or_push xs slot 0 (length xs) refl ∙ is_new n h new)
  ];
}
  where
    last : (xs : List ℕ) (slot i : ℕ) → length xs ≤ i → i < length (xs ++ slot ∷ []) → length xs ≡ i
    last xs slot i past h = omega (arith, length_push xs slot)

    grow_lt : (a b : ℕ) → a ≡ b → b < count → a < more
    grow_lt a b e l = elim grown [ inl g ↦ omega arith | inr g ↦ omega arith ]

    found : (n : ℕ) → n < count → (j : ℕ) × (j < length xs) × (get_or xs j 0 ≡ n)
    found n h = o.used n h

    kept : (j n : ℕ) → j < length xs → get_or xs j 0 ≡ n → get_or (xs ++ slot ∷ []) j 0 ≡ n
    kept j n h e = get_or_append_left xs (slot ∷ []) 0 j h ∙ e

    before : (i n : ℕ) → i < length xs → n < get_or xs i 0 → (j : ℕ) × (j < i) × (get_or (xs ++ slot ∷ []) j 0 ≡ n)
    before i n h k = let r = o.earlier i n h k in let under : r.0 < length xs = omega (arith, r.1) in (r.0, r.1, kept r.0 n under r.2)

    below : (n : ℕ) → n < slot → n < count
    below n h = elim grown [ inl g ↦ omega arith | inr g ↦ omega arith ]

    is_new : (n : ℕ) → n < more → count ≤ n → slot ≡ n
    is_new n h new = elim grown [ inl g ↦ absurd (omega arith) | inr g ↦ omega arith ]

-- one more row, which is in the list, or goes last
pub more : (cells : List ℕ) (width i slot : ℕ) (old new : List (List ℕ)) (slots : List ℕ)
    → AreNumbered cells width i old slots → slot < length new → get_or new slot [] ≡ row_at cells width i
    → (new ≡ old) ⊎ ((new ≡ old ++ row_at cells width i ∷ []) × (slot ≡ length old))
    → ((a b : ℕ) → a < b → b < length new → get_or new a [] ≡ get_or new b [] → ⊥)
    → AreNumbered cells width (i + 1) new (slots ++ slot ∷ [])
more cells width i slot old new slots n low here grown apart = record {
  places = length_push slots slot ∙ ap (λ k. k + 1) n.places;
  order = order_more slots (length old) (length new) slot n.order low (elim grown [ inl e ↦ inl (ap length e) | inr e ↦ inr ((ap length e.0 ∙ length_push old (row_at cells width i)), e.1) ]);
  same = λ k h. elim (cases_lt k i) [
    | inl before ↦ let inside : k < length slots = omega (arith, n.places) in rw (get_or_append_left slots (slot ∷ []) 0 k inside) (stays (get_or slots k 0) (n.order.low k inside) ∙ n.same k before)
    | inr past ↦ let is : k ≡ i = omega arith in let at : get_or (slots ++ slot ∷ []) k 0 ≡ slot = get_or_push slots slot 0 k (n.places ∙ sym is) in rw (at, is) here
  ];
  apart = apart;
}
  where
    stays : (a : ℕ) → a < length old → get_or new a [] ≡ get_or old a []
    stays a h = elim grown [ inl e ↦ ap (λ rows. get_or rows a []) e | inr e ↦ ap (λ rows. get_or rows a []) e.0 ∙ get_or_append_left old (row_at cells width i ∷ []) [] a h ]

-- numbers below a count that stand for different rows are different
pub one_number : (rows : List (List ℕ)) (a b : ℕ) → ((a b : ℕ) → a < b → b < length rows → get_or rows a [] ≡ get_or rows b [] → ⊥)
    → a < length rows → b < length rows → get_or rows a [] ≡ get_or rows b [] → a ≡ b
one_number rows a b apart la lb same = elim (cases_order a b) [
  | inl e ↦ e
  | inr rest ↦ elim rest [ inl less ↦ absurd (apart a b less lb same) | inr more ↦ absurd (apart b a more la (sym same)) ]
]

-- the sets' test of rows
abbrev pub same_row : Bor (List ℕ) → Bor (List ℕ) → Bool
same_row x y = bytes_eq x.now y.now

-- the rows that a set holds
abbrev pub rows_of : List (Bor (List ℕ)) → List (List ℕ)
rows_of ks = map (λ (k : Bor (List ℕ)). k.now) ks

true_row : (x y : Bor (List ℕ)) → same_row x y ≡ true → x.now ≡ y.now
true_row x y h = (bytes_eq-Decides x.now y.now).0 h

false_row : (x y : Bor (List ℕ)) → same_row x y ≡ false → x.now ≡ y.now → ⊥
false_row x y h = not_from_Decides (same_row x y) (bytes_eq-Decides x.now y.now) h

-- what a set gains: nothing, or the row
gained : (ks new : List (Bor (List ℕ))) (row : Bor (List ℕ)) → new ≡ insert_key same_row ks row → (new ≡ ks) ⊎ (new ≡ ks ++ row ∷ [])
gained ks new row e = by (list_any (same_row row) ks) e
  where
    by : (b : Bool) → new ≡ (if b then ks else ks ++ row ∷ []) → (new ≡ ks) ⊎ (new ≡ ks ++ row ∷ [])
    by true e = inl e
    by false e = inr e

-- the rows of a set are different
rows_apart : (ks : List (Bor (List ℕ))) → IsDistinct same_row ks → (a b : ℕ) → a < b → b < length (rows_of ks) → get_or (rows_of ks) a [] ≡ get_or (rows_of ks) b [] → ⊥
rows_apart ks d a b less low same =
    let inside : b < length ks = subst (λ n. b < n) (length-map ks (λ (k : Bor (List ℕ)). k.now)) low in
    let none : Bor (List ℕ) = record { ref_ptr = (0, 0); now = [] } in
    let below : a < length ks = omega arith in
    false_row (get_or ks a none) (get_or ks b none) (apart_from_distinct same_row ks a b none d less inside)
    (sym (get_or-map (λ (k : Bor (List ℕ)). k.now) ks a none [] below) ∙ same ∙ get_or-map (λ (k : Bor (List ℕ)). k.now) ks b none [] inside)

-- a row is put into the set, and its number at the end
pub put : (cells : List ℕ) (width i slot : ℕ) (ks new : List (Bor (List ℕ))) (row : Bor (List ℕ)) (slots : List ℕ)
    → AreNumbered cells width i (rows_of ks) slots → row.now ≡ row_at cells width i → new ≡ insert_key same_row ks row → slot < length new
    → (k : Bor (List ℕ)) × (slice_get new slot ≡ Some k) × (same_row row k ≡ true) → IsDistinct same_row new
    → AreNumbered cells width (i + 1) (rows_of new) (slots ++ slot ∷ [])
put cells width i slot ks new row slots n is keys low stored apart =
    more cells width i slot (rows_of ks) (rows_of new) slots n low' here (grown (gained ks new row keys)) (rows_apart new apart)
  where
    none : Bor (List ℕ)
    none = record { ref_ptr = (0, 0); now = [] }

    low' : slot < length (rows_of new)
    low' = subst (λ n. slot < n) (sym (length-map new (λ (k : Bor (List ℕ)). k.now))) low

    here : get_or (rows_of new) slot [] ≡ row_at cells width i
    here = get_or-map (λ (k : Bor (List ℕ)). k.now) new slot none [] low
        ∙ ap (λ (k : Bor (List ℕ)). k.now) (get_or_from_slice_get new slot stored.0 none stored.1) ∙ sym (true_row row stored.0 stored.2) ∙ is

    grown : (new ≡ ks) ⊎ (new ≡ ks ++ row ∷ []) → (rows_of new ≡ rows_of ks) ⊎ ((rows_of new ≡ rows_of ks ++ row_at cells width i ∷ []) × (slot ≡ length (rows_of ks)))
    grown (inl e) = inl (ap rows_of e)
    grown (inr e) =
        let whole : rows_of new ≡ rows_of ks ++ row_at cells width i ∷ [] = ap rows_of e ∙ map-append (λ (k : Bor (List ℕ)). k.now) ks (row ∷ []) ∙ ap (λ r. rows_of ks ++ r ∷ []) is in
        let last : length (rows_of ks) < length (rows_of new) = omega (arith, ap length whole, length_push (rows_of ks) (row_at cells width i)) in
        let at_last : get_or (rows_of new) (length (rows_of ks)) [] ≡ row_at cells width i = ap (λ rows. get_or rows (length (rows_of ks)) []) whole ∙ get_or_push (rows_of ks) (row_at cells width i) [] (length (rows_of ks)) refl in
        inr (whole, one_number (rows_of new) slot (length (rows_of ks)) (rows_apart new apart) low' last (here ∙ sym at_last))

pub few_more : (i : ℕ) (ks new : List (Bor (List ℕ))) (row : Bor (List ℕ)) → length ks ≤ i → new ≡ insert_key same_row ks row → length new ≤ i + 1
few_more i ks new row few keys = elim (gained ks new row keys) [ inl e ↦ omega (arith, ap length e) | inr e ↦ omega (arith, ap length e, length_push ks row) ]

pub wide_more : (width : ℕ) (ks new : List (Bor (List ℕ))) (row : Bor (List ℕ)) → All (λ (k : Bor (List ℕ)). length k.now ≡ width) ks → length row.now ≡ width
    → new ≡ insert_key same_row ks row → All (λ (k : Bor (List ℕ)). length k.now ≡ width) new
wide_more width ks new row wide long keys = elim (gained ks new row keys) [
  | inl e ↦ subst (λ xs. All (λ (k : Bor (List ℕ)). length k.now ≡ width) xs) (sym e) wide
  | inr e ↦ subst (λ xs. All (λ (k : Bor (List ℕ)). length k.now ≡ width) xs) (sym e) (All-push (λ (k : Bor (List ℕ)). length k.now ≡ width) ks row wide long)
]
