-- The regions of an object.
use Rattle.std.proofs.Common.{◌≡◌, ℕ, zero, suc, ◌+◌, ◌*◌, ◌-◌, ◌<◌, ◌≤◌, inl, inr, Bool, true, List, [], ◌∷◌, length, take, get_or, max, sum_by, cond, sym, ◌∙◌, ap, refl, arith, Some, length-append}
use Rattle.std.specs.List.{flat_map}
use Rattle.std.proofs.lemmas.Bool.{cases_lt}
use Rattle.std.proofs.lemmas.List.Sums.{sum_by_more, sum_by-cons, sum_by-take-le}
use Rattle.std.proofs.lemmas.List.{take-take}
use Rattle.std.proofs.lemmas.Option.{get_or_from_slice_get, slice_get_cases}
use Rattle.std.specs.List.{slice_get}
use Rattle.mm_classes.specs.declared.class.Member.{Member}
use Rattle.mm_classes.specs.Lists.{Has}
use Rattle.mm_classes.specs.Classes.{Class, IsClassList, members_of, field_count, is_field}
use Rattle.mm_classes.specs.Subobjects.{Path, chains, subobjects_of, end_of, compose, virtual_bases}
use Rattle.mm_classes.specs.Questions.{node, IsNode}
use Rattle.mm_classes.proofs.Places.{place_on, head_virtual}
use Rattle.mm_classes.proofs.Within.{virtual_bases_are}
use Rattle.mm_classes.proofs.Subs.{virtual_falls, subobjects-Distinct}
use Rattle.mm_classes.proofs.Compose.{compose-end}
use Rattle.mm_classes.proofs.Answering.{node_sub}
use Rattle.mm_classes.proofs.Cuts.{one_place}
use Rattle.mm_layout.specs.Regions.{own_cells, region_of, offset_of}
use Rattle.mm_layout.specs.Laws.{LaysOut, FillsRegion}

own_node : (g : List Class) (c m : ℕ) → m < length (chains g (length g) c) → IsNode g c m
own_node g c m h = omega (arith, length-append (chains g (length g) c) (flat_map (chains g (length g)) (virtual_bases g c)))

module _ (g : List Class) (tagged : ℕ → Bool) where
  pub some_region : (c : ℕ) → 8 ≤ region_of g tagged c
  some_region c = omega arith

  -- one more region
  pub offset-more : (d n : ℕ) → IsNode g d n → offset_of g tagged d (n + 1) ≡ offset_of g tagged d n + region_of g tagged (end_of (node g d n))
  offset-more d n h = sum_by_more (λ p. region_of g tagged (end_of p)) (subobjects_of g d) n [] h

  -- later regions begin later
  offset_rises : (d n k : ℕ) → n + k ≤ length (subobjects_of g d) → offset_of g tagged d n ≤ offset_of g tagged d (n + k)
  offset_rises d n zero h = let e : n + zero ≡ n = omega arith in rw e (omega arith)
  offset_rises d n (suc k) h =
      let inside : IsNode g d (n + k) = omega arith in
      let e : n + suc k ≡ n + k + 1 = omega arith in
      rw e (omega (arith, offset_rises d n k (omega arith), offset-more d (n + k) inside))

  offset_below : (d m n : ℕ) → m < n → n ≤ length (subobjects_of g d) → offset_of g tagged d m + region_of g tagged (end_of (node g d m)) ≤ offset_of g tagged d n
  offset_below d m n h k =
      let inside : IsNode g d m = omega arith in
      let e : m + 1 + (n - (m + 1)) ≡ n = omega arith in
      let r : offset_of g tagged d (m + 1) ≤ offset_of g tagged d (m + 1 + (n - (m + 1))) = offset_rises d (m + 1) (n - (m + 1)) (rw e k) in
      let r' : offset_of g tagged d (m + 1) ≤ offset_of g tagged d n = rw e at r in
      omega (arith, offset-more d m inside)

  eights : {X : Type 0} (f : X → ℕ) (xs : List X) → (k : ℕ) × (sum_by (λ x. 8 * f x) xs ≡ 8 * k)
  eights f [] = (0, refl)
  eights f (x ∷ xs) = let r : (k : ℕ) × (sum_by (λ x. 8 * f x) xs ≡ 8 * k) = eights f xs in (f x + r.0, sum_by-cons (λ y. 8 * f y) x xs ∙ omega (arith, r.1))

  module _ (ok : IsClassList g) where
    -- the subobjects that begin with a class stand in a part as in the class alone
    pub offset-on : (d n m : ℕ) → IsNode g d n → m ≤ length (chains g (length g) (end_of (node g d n)))
        → offset_of g tagged d (n + m) ≡ offset_of g tagged d n + offset_of g tagged (end_of (node g d n)) m
    offset-on d n zero h l = let e : n + zero ≡ n = omega arith in rw e (omega arith)
    offset-on d n (suc m) h l =
        let c : ℕ = end_of (node g d n) in
        let low : m < length (chains g (length g) (end_of (node g d n))) = omega arith in
        let at : IsNode g d (n + m) × (node g d (n + m) ≡ compose (node g d n) (node g (end_of (node g d n)) m)) = place_on g ok d n m h low in
        let part : IsNode g (end_of (node g d n)) m = own_node g (end_of (node g d n)) m low in
        let same : end_of (node g d (n + m)) ≡ end_of (node g (end_of (node g d n)) m)
        = ap end_of at.1 ∙ compose-end g d (node g d n) (node g (end_of (node g d n)) m) (node_sub g ok d n h) (node_sub g ok (end_of (node g d n)) m part) in
        let e : n + suc m ≡ n + m + 1 = omega arith in
        let f : suc m ≡ m + 1 = omega arith in
        ap (offset_of g tagged d) e ∙ offset-more d (n + m) at.0 ∙ sums (offset_of g tagged d (n + m)) (offset_of g tagged d n) (offset_of g tagged (end_of (node g d n)) m) _ _ (offset-on d n m h (omega arith)) (ap (region_of g tagged) same)
        ∙ ap (λ x. offset_of g tagged d n + x) (sym (ap (offset_of g tagged (end_of (node g d n))) f ∙ offset-more (end_of (node g d n)) m part))
      where
        sums : (a b c x y : ℕ) → a ≡ b + c → x ≡ y → a + x ≡ b + (c + y)
        sums a b c x y e f = omega (arith, e, f)

    pub composed : (d n m k : ℕ) (t : Path) → IsNode g d n → IsNode g (end_of (node g d n)) m → IsNode g d k → node g (end_of (node g d n)) m ≡ end_of (node g d n) ∷ t
        → node g d k ≡ compose (node g d n) (node g (end_of (node g d n)) m) → offset_of g tagged d k ≡ offset_of g tagged d n + offset_of g tagged (end_of (node g d n)) m
    composed d n m k t h l here head e = elim (cases_lt m (length (chains g (length g) (end_of (node g d n))))) [
      | inl low ↦
          let at : IsNode g d (n + m) × (node g d (n + m) ≡ compose (node g d n) (node g (end_of (node g d n)) m)) = place_on g ok d n m h low in
          let is : k ≡ n + m = one_place (subobjects_of g d) k (n + m) [] (subobjects-Distinct g ok d) here at.0 (e ∙ sym at.1) in
          ap (offset_of g tagged d) is ∙ offset-on d n m h (omega arith)
      | inr past ↦
          let v : Has (virtual_bases g (end_of (node g d n))) (end_of (node g d n)) = (head_virtual g ok d n m (end_of (node g d n)) h l past (sym (ap (λ p. get_or p 0 (end_of (node g d n))) head))).0 in
          absurd (no_less (ok.rank (end_of (node g d n))) (virtual_falls g ok (end_of (node g d n)) (end_of (node g d n)) (virtual_bases_are g ok (end_of (node g d n)) (end_of (node g d n)) v)))
    ]
      where
        no_less : (n : ℕ) → n < n → ⊥
        no_less n h = omega arith

    pub lays_out : (d : ℕ) → LaysOut g tagged d
    lays_out d = record {
      some = some_region;
      apart = λ m n h k. offset_below d m n h (omega arith);
      inside = λ n h. offset_below d n (length (subobjects_of g d)) h (omega arith);
      aligned = λ n. eights (λ p. max 1 (own_cells g tagged (end_of p) + field_count (members_of g (end_of p)))) (take n (subobjects_of g d));
      composed = composed d;
    }

-- how many of the first members are fields
module _ (ms : List Member) where
  before-rises : (k l : ℕ) → k ≤ l → field_count (take k ms) ≤ field_count (take l ms)
  before-rises k l h = rw (take-take k l ms h) at (sum_by-take-le (λ m. cond (is_field m) 1 0) (take l ms) k)

  pub before-all : (k : ℕ) → field_count (take k ms) ≤ field_count ms
  before-all k = sum_by-take-le (λ m. cond (is_field m) 1 0) ms k

  before-more : (k : ℕ) (m : Member) → slice_get ms k ≡ Some m → is_field m ≡ true → field_count (take (k + 1) ms) ≡ field_count (take k ms) + 1
  before-more k m e f = elim (slice_get_cases ms k).1 [
    | inl r ↦ sum_by_more (λ x. cond (is_field x) 1 0) ms k m r.1
        ∙ ap (λ x. field_count (take k ms) + cond (is_field x) 1 0) (get_or_from_slice_get ms k m m e) ∙ ap (λ b. field_count (take k ms) + cond b 1 0) f
    | inr r ↦ cc
  ]

pub fills : (g : List Class) (tagged : ℕ → Bool) (c : ℕ) → FillsRegion g tagged c
fills g tagged c = record {
  behind = λ k own. let e : own_cells g tagged c ≡ 1 = ap (λ b. cond b 1 0) own in omega (arith, e);
  apart = λ k l h (m, e, f). let r : field_count (take (k + 1) (members_of g c)) ≤ field_count (take l (members_of g c)) = before-rises (members_of g c) (k + 1) l (omega arith) in
      omega (arith, before-more (members_of g c) k m e f, r);
  inside = λ k (m, e, f). omega (arith, before-more (members_of g c) k m e f, before-all (members_of g c) (k + 1));
}
