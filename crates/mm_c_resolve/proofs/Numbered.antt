-- Names are numbered from the last to the first.
use Rattle.std.specs.Prelude.{Bool, true, false, Option, Some, None, cond}
use Rattle.std.specs.Borrow.{Bor}
use Rattle.std.specs.Option.{unwrap_or}
use Rattle.std.specs.Str.{bytes_eq}
use Rattle.std.specs.HashMap as hash
use Rattle.std.specs.HashMap.{HashMap, get_by}
use Rattle.std.proofs.lemmas.Map.Text.{hash_map_updates_str}
use Rattle.std.proofs.Common.{◌≡◌, ℕ, zero, suc, ◌+◌, ◌<◌, ◌≤◌, zero-add, List, [], ◌∷◌, length, drop, get_or, refl, sym, ap, ◌∙◌, arith}
use Rattle.std.proofs.lemmas.List.{drop_more, length-map}
use Rattle.std.proofs.Math.ListN.{get_or-map}
use Rattle.mm_c_places.specs.Places.{index_of}
use Rattle.mm_c_resolve.specs.Numbering.{texts}

-- the number of a name among these, which are numbered from n on
abbrev pub number_from : ℕ → List (List ℕ) → List ℕ → Option ℕ
number_from n [] x = None
number_from n (y ∷ ys) x = elim (bytes_eq y x) [ true ↦ Some n | false ↦ number_from (suc n) ys x ]

pub number-from : (n : ℕ) (ys : List (List ℕ)) (x : List ℕ) → unwrap_or (number_from n ys x) (n + length ys) ≡ n + index_of ys x
number-from n [] x = refl
number-from n (y ∷ ys) x = go (bytes_eq y x) (number-from (suc n) ys x)
  where
    go : (b : Bool) → unwrap_or (number_from (suc n) ys x) (suc n + length ys) ≡ suc n + index_of ys x → unwrap_or (elim b as (λ z. Option ℕ) [ true ↦ Some n | false ↦ number_from (suc n) ys x ]) (n + suc (length ys)) ≡ n + elim b as (λ z. ℕ) [ true ↦ zero | false ↦ suc (index_of ys x) ]
    go true e = omega arith
    go false e = let d : n + suc (length ys) ≡ suc n + length ys = omega arith in ap (unwrap_or (number_from (suc n) ys x)) d ∙ e ∙ (let f : suc n + index_of ys x ≡ n + suc (index_of ys x) = omega arith in f)

module _ {S : Type 0} where
  pub number_more : (old new : HashMap (Bor (List ℕ)) ℕ S) (names : List (Bor (List ℕ))) (i j : ℕ) (d : Bor (List ℕ)) → j ≡ suc i → i < length names
      → hash.UpdatesBy (λ (x y : Bor (List ℕ)). bytes_eq x.now y.now) (λ (k : Bor (List ℕ)). bytes_eq (get_or names i d).now k.now) old new (Some i)
      → ((x : List ℕ) → get_by (λ (k : Bor (List ℕ)). bytes_eq x k.now) old ≡ number_from j (drop j (texts names)) x)
      → (x : List ℕ) → get_by (λ (k : Bor (List ℕ)). bytes_eq x k.now) new ≡ number_from i (drop i (texts names)) x
  number_more old new names i j d is lt up h x =
      hash_map_updates_str (get_or names i d).now old new (Some i) up x
      ∙ ap (cond (bytes_eq (get_or names i d).now x) (Some i)) (h x ∙ ap (λ k. number_from k (drop k (texts names)) x) is)
      ∙ go (bytes_eq (get_or names i d).now x)
      ∙ sym (ap (λ ys. number_from i ys x) (drop_more (texts names) i d.now within ∙ (λ k. get_or-map (λ (b : Bor (List ℕ)). b.now) names i d k ∷ drop (next k) (texts names))))
    where
      next : i + 1 ≡ suc i
      next = omega arith

      within : i < length (texts names)
      within = let l : length (texts names) ≡ length names = length-map names (λ (k : Bor (List ℕ)). k.now) in omega arith

      go : (b : Bool) → cond b (Some i) (number_from (suc i) (drop (suc i) (texts names)) x) ≡ elim b as (λ z. Option ℕ) [ true ↦ Some i | false ↦ number_from (suc i) (drop (suc i) (texts names)) x ]
      go true = refl
      go false = refl

  pub numbered_all : (first : HashMap (Bor (List ℕ)) ℕ S) (names : List (Bor (List ℕ))) (i n : ℕ) → i ≤ 0 → n ≡ length names
      → ((x : List ℕ) → get_by (λ (k : Bor (List ℕ)). bytes_eq x k.now) first ≡ number_from i (drop i (texts names)) x)
      → (x : List ℕ) → unwrap_or (get_by (λ (k : Bor (List ℕ)). bytes_eq x k.now) first) n ≡ index_of (texts names) x
  numbered_all first names i n low is h x =
      ap (λ o. unwrap_or o n) (h x ∙ ap (λ k. number_from k (drop k (texts names)) x) none)
      ∙ ap (unwrap_or (number_from 0 (texts names) x)) whole
      ∙ number-from 0 (texts names) x ∙ zero-add (index_of (texts names) x)
    where
      none : i ≡ 0
      none = omega arith

      whole : n ≡ 0 + length (texts names)
      whole = let l : length (texts names) ≡ length names = length-map names (λ (k : Bor (List ℕ)). k.now) in omega arith
