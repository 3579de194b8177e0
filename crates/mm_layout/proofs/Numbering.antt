-- The numbers of tags.
use Rattle.std.proofs.Common.{◌≡◌, ℕ, zero, suc, ◌+◌, ◌-◌, ◌<◌, ◌≤◌, ◌⊎◌, inl, inr, Bool, true, false, cond, List, [], ◌∷◌, length, take, sum_by, sym, ◌∙◌, ap, refl, subst, arith, Some}
use Rattle.std.proofs.lemmas.List.Sums.{sum_by_more, sum_by-cons}
use Rattle.mm_classes.specs.Classes.{Class, IsClassList, IsComplete, class_at, Derives, direct, through, bases_of}
use Rattle.mm_classes.specs.Subobjects.{Path, subobjects_of, end_of}
use Rattle.mm_classes.specs.Questions.{node, IsNode}
use Rattle.mm_classes.proofs.Answering.{node_sub}
use Rattle.mm_classes.proofs.Deriving.{sub_derives}
use Rattle.mm_layout.specs.Regions.{owns_cell, own_cells}
use Rattle.mm_layout.specs.Cells.{TellsTags, UsesCell, itself, lent, IsTag, cells_before, cells_of, tags_before, pairs_of, pairs_before}
use Rattle.mm_layout.specs.Laws.{SharesCells, NumbersTags}
use Rattle.mm_layout.proofs.Lending.{owns_tagged}
use Rattle.mm_layout.proofs.Sharing.{IsNext, uses_next}
use Rattle.mm_layout.proofs.Virtual.{bare_has_none, no_derived}

module _ (g : List Class) (tagged : ℕ → Bool) where
  abbrev owns : ℕ → ℕ → Bool
  owns d n = owns_cell g tagged (end_of (node g d n))

  -- one more subobject
  pub cells_more : (d n : ℕ) → IsNode g d n → cells_before g tagged d (n + 1) ≡ cells_before g tagged d n + own_cells g tagged (end_of (node g d n))
  cells_more d n h = sum_by_more (λ p. own_cells g tagged (end_of p)) (subobjects_of g d) n [] h

  one_more : (d n : ℕ) → IsNode g d n → owns d n ≡ true → cells_before g tagged d (n + 1) ≡ cells_before g tagged d n + 1
  one_more d n h o = cells_more d n h ∙ ap (λ b. cells_before g tagged d n + cond b 1 0) o

  none_more : (d n : ℕ) → IsNode g d n → owns d n ≡ false → cells_before g tagged d (n + 1) ≡ cells_before g tagged d n
  none_more d n h o = cells_more d n h ∙ (ap (λ b. cells_before g tagged d n + cond b 1 0) o ∙ plus_zero (cells_before g tagged d n))
    where
      plus_zero : (a : ℕ) → a + 0 ≡ a
      plus_zero a = omega arith

  cells_rise : (d n k : ℕ) → n + k ≤ length (subobjects_of g d) → cells_before g tagged d n ≤ cells_before g tagged d (n + k)
  cells_rise d n zero h = let e : n + zero ≡ n = omega arith in rw e (omega arith)
  cells_rise d n (suc k) h =
      let inside : IsNode g d (n + k) = omega arith in
      let e : n + suc k ≡ n + k + 1 = omega arith in
      rw e (omega (arith, cells_rise d n k (omega arith), cells_more d (n + k) inside))

  -- between n and h nothing is owned
  cells_stay : (d n k : ℕ) → n + k ≤ length (subobjects_of g d) → ((i : ℕ) → n ≤ i → i < n + k → owns d i ≡ false) → cells_before g tagged d n ≡ cells_before g tagged d (n + k)
  cells_stay d n zero h none = let e : n + zero ≡ n = omega arith in rw e refl
  cells_stay d n (suc k) h none =
      let inside : IsNode g d (n + k) = omega arith in
      let e : n + suc k ≡ n + k + 1 = omega arith in
      cells_stay d n k (omega arith) (λ i lo hi. none i lo (omega arith)) ∙ (sym (none_more d (n + k) inside (none (n + k) (omega arith) (omega arith))) ∙ ap (cells_before g tagged d) (sym e))

  -- an owner's cell is before all that is later
  cells_after : (d h k : ℕ) → IsNode g d h → owns d h ≡ true → h < k → k ≤ length (subobjects_of g d) → cells_before g tagged d h + 1 ≤ cells_before g tagged d k
  cells_after d h k here o l low =
      let e : h + 1 + (k - (h + 1)) ≡ k = omega arith in
      let r : cells_before g tagged d (h + 1) ≤ cells_before g tagged d (h + 1 + (k - (h + 1))) = cells_rise d (h + 1) (k - (h + 1)) (rw e low) in
      let r' : cells_before g tagged d (h + 1) ≤ cells_before g tagged d k = rw e at r in
      omega (arith, one_more d h here o)

  pub cells_below : (d h : ℕ) → IsNode g d h → owns d h ≡ true → cells_before g tagged d h < cells_of g tagged d
  cells_below d h here o = let r = cells_after d h (length (subobjects_of g d)) here o here (omega arith) in omega arith

  true_or : (b : Bool) → (b ≡ true) ⊎ (b ≡ false)
  true_or true = inl refl
  true_or false = inr refl

  -- each number below the count is an owner's
  cells_find : (d n t : ℕ) → n ≤ length (subobjects_of g d) → t < cells_before g tagged d n
      → (h : ℕ) × IsNode g d h × (owns d h ≡ true) × (cells_before g tagged d h ≡ t)
  cells_find d zero t l h = absurd (no_less t h)
    where
      no_less : (t : ℕ) → t < 0 → ⊥
      no_less t h = omega arith
  cells_find d (suc n) t l h =
      let here : IsNode g d n = omega arith in
      let e : suc n ≡ n + 1 = omega arith in
      let h' : t < cells_before g tagged d (n + 1) = subst (λ z. t < cells_before g tagged d z) e h in
      elim (true_or (owns d n)) [
        | inr o ↦ cells_find d n t (omega arith) (subst (λ z. t < z) (none_more d n here o) h')
        | inl o ↦ elim (last_or t (cells_before g tagged d n) (subst (λ z. t < z) (one_more d n here o) h')) [
          | inl a ↦ cells_find d n t (omega arith) a
          | inr s ↦ (n, here, o, sym s)
        ]
      ]
    where
      last_or : (t c : ℕ) → t < c + 1 → (t < c) ⊎ (t ≡ c)
      last_or t c h = grind arith

  three : (a b : ℕ) → (a < b) ⊎ ((a ≡ b) ⊎ (b < a))
  three a b = grind arith

  one_owner : (d h k : ℕ) → IsNode g d h → IsNode g d k → owns d h ≡ true → owns d k ≡ true → cells_before g tagged d h ≡ cells_before g tagged d k → h ≡ k
  one_owner d h k a b o p e = elim (three h k) [
    | inl l ↦ (let r = cells_after d h k a o l (omega arith) in absurd (omega arith))
    | inr (inl s) ↦ s
    | inr (inr l) ↦ (let r = cells_after d k h b p l (omega arith) in absurd (omega arith))
  ]

  -- ---- all classes

  tags_rise : (c k : ℕ) → tags_before g tagged c ≤ tags_before g tagged (c + k)
  tags_rise c zero = let e : c + zero ≡ c = omega arith in rw e (omega arith)
  tags_rise c (suc k) = let e : c + suc k ≡ suc (c + k) = omega arith in rw e (omega (arith, tags_rise c k))

  pub tags_within : (c n : ℕ) → c < n → tags_before g tagged c + cells_of g tagged c ≤ tags_before g tagged n
  tags_within c n l =
      let e : suc c + (n - suc c) ≡ n = omega arith in
      let r : tags_before g tagged (suc c) ≤ tags_before g tagged (suc c + (n - suc c)) = tags_rise (suc c) (n - suc c) in
      let r' : tags_before g tagged (suc c) ≤ tags_before g tagged n = rw e at r in
      r'

  tags_find : (n t : ℕ) → t < tags_before g tagged n → (d s : ℕ) × (d < n) × (t ≡ tags_before g tagged d + s) × (s < cells_of g tagged d)
  tags_find zero t h = absurd (no_less t h)
    where
      no_less : (t : ℕ) → t < 0 → ⊥
      no_less t h = omega arith
  tags_find (suc n) t h = elim (low_or t (tags_before g tagged n)) [
    | inl a ↦ (let r = tags_find n t a in (r.0, r.1, (let z = r.2 in omega arith), r.3, r.4))
    | inr b ↦ (n, t - tags_before g tagged n, omega arith, omega arith, omega arith)
  ]
    where
      low_or : (a b : ℕ) → (a < b) ⊎ (b ≤ a)
      low_or a b = grind arith

  own_few : (c : ℕ) → own_cells g tagged c ≤ cond (tagged c) 1 0
  own_few c = elim (true_or (owns_cell g tagged c)) [
    | inl o ↦ (let t = owns_tagged g tagged c o in subst (λ b. own_cells g tagged c ≤ cond b 1 0) (sym t) (subst (λ b. cond b 1 0 ≤ 1) (sym o) (omega arith)))
    | inr o ↦ subst (λ b. cond b 1 0 ≤ cond (tagged c) 1 0) (sym o) (omega arith)
  ]

  sums_few : (ps : List Path) → sum_by (λ p. own_cells g tagged (end_of p)) ps ≤ sum_by (λ p. cond (tagged (end_of p)) 1 0) ps
  sums_few [] = omega arith
  sums_few (p ∷ ps) = omega (arith, sum_by-cons (λ p. own_cells g tagged (end_of p)) p ps, sum_by-cons (λ p. cond (tagged (end_of p)) 1 0) p ps, own_few (end_of p), sums_few ps)

  take_all : {X : Type 0} (xs : List X) → take (length xs) xs ≡ xs
  take_all [] = refl
  take_all (x ∷ xs) = ap (λ z. x ∷ z) (take_all xs)

  cells_few : (d : ℕ) → cells_of g tagged d ≤ pairs_of g tagged d
  cells_few d = subst (λ z. sum_by (λ p. own_cells g tagged (end_of p)) z ≤ pairs_of g tagged d) (sym (take_all (subobjects_of g d))) (sums_few (subobjects_of g d))

  pub tags_few : (n : ℕ) → tags_before g tagged n ≤ pairs_before g tagged n
  tags_few zero = omega arith
  tags_few (suc n) = omega (arith, tags_few n, cells_few n)

  module _ (ok : IsClassList g) (tells : TellsTags g tagged) where
    -- a subobject with a tag has as many cells before it as its cell has
    pub cells_to_owner : (d n h : ℕ) → IsNext g ok tagged tells d n h → cells_before g tagged d n ≡ cells_before g tagged d h
    cells_to_owner d n h next =
        let f = next.from in
        let l = next.here in
        let e : n + (h - n) ≡ h = omega arith in
        cells_stay d n (h - n) (omega arith) (λ i lo hi. next.between i lo (omega arith)) ∙ ap (cells_before g tagged d) e

    -- a class that has a cell is complete
    owner_complete : (d h : ℕ) → d < length g → IsNode g d h → owns d h ≡ true → IsComplete g d
    owner_complete d h low here o = elim (true_or (class_at g d).complete) [
      | inl k ↦ (low, k)
      | inr bare ↦ elim (sub_derives g d (node g d h) (node_sub g ok d h here)) [
        | inl e ↦ absurd (bare_has_none g ok d bare ((tells d low).0 (subst (λ z. tagged z ≡ true) e (owns_tagged g tagged (end_of (node g d h)) o))))
        | inr k ↦ absurd (no_derived g d (end_of (node g d h)) (ok.bare d bare).0 k)
      ]
    ]

    -- a class that is not complete has none
    pub bare_cells : (d : ℕ) → d < length g → (class_at g d).complete ≡ false → cells_of g tagged d ≡ 0
    bare_cells d low bare = elim (zero_or (cells_of g tagged d)) [
      | inl z ↦ z
      | inr some ↦ (
          let s = cells_find d (length (subobjects_of g d)) 0 (omega arith) some in
          let k = owner_complete d s.0 low s.1 s.2 in
          absurd (let z : false ≡ true = sym bare ∙ k.1 in differ z))
    ]
      where
        differ : false ≡ true → ⊥
        differ z = cc

        zero_or : (n : ℕ) → (n ≡ 0) ⊎ (0 < n)
        zero_or n = grind arith

    tag_below : (shared : (d : ℕ) → IsComplete g d → SharesCells g tagged d) (d n t : ℕ) → IsComplete g d → IsTag g tagged d n (Some t)
        → (tags_before g tagged d ≤ t) × (t < tags_before g tagged d + cells_of g tagged d)
    tag_below shared d n t k (h, u, e) =
        let o = (shared d k).owner n h u in
        let b = cells_below d h o.0 o.1 in
        (omega arith, omega arith)

    owner_of : (d n h : ℕ) → UsesCell g tagged d n h → IsNode g d h × (owns d h ≡ true)
    owner_of d n h (itself e here o) = (subst (IsNode g d) e here, subst (λ z. owns d z ≡ true) e o)
    owner_of d n h (lent m b here there e path u) = owner_of d m h u

    known : (d n t : ℕ) → d < length g → IsTag g tagged d n (Some t) → IsComplete g d
    known d n t low (h, u, e) = let o = owner_of d n h u in owner_complete d h low o.0 o.1

    one_pair : (shared : (d : ℕ) → IsComplete g d → SharesCells g tagged d) (d m n t : ℕ) → IsComplete g d → IsTag g tagged d m (Some t) → IsTag g tagged d n (Some t)
        → end_of (node g d m) ≡ end_of (node g d n) → m ≡ n
    one_pair shared d m n t k (h, u, e) (i, v, f) c =
        let o = owner_of d m h u in
        let p = owner_of d n i v in
        let s : h ≡ i = one_owner d h i o.0 p.0 o.1 p.1 (omega arith) in
        (shared d k).apart m n i (subst (UsesCell g tagged d m) s u) v c

    one_class : (shared : (d : ℕ) → IsComplete g d → SharesCells g tagged d) (d e m n t : ℕ) → IsComplete g d → IsComplete g e
        → IsTag g tagged d m (Some t) → IsTag g tagged e n (Some t) → d ≡ e
    one_class shared d e m n t kd ke a b =
        let x = tag_below shared d m t kd a in
        let y = tag_below shared e n t ke b in
        let x0 = x.0 in let x1 = x.1 in let y0 = y.0 in let y1 = y.1 in
        elim (three d e) [
          | inl l ↦ (let r = tags_within d e l in absurd (omega arith))
          | inr (inl s) ↦ s
          | inr (inr l) ↦ (let r = tags_within e d l in absurd (omega arith))
        ]

    pub numbers : (shared : (d : ℕ) → IsComplete g d → SharesCells g tagged d) → NumbersTags g tagged
    numbers shared = record {
      below = λ d n t low is. (let r = tag_below shared d n t (known d n t low is) is in let w = tags_within d (length g) low in let z = r.1 in omega arith);
      dense = λ t l.
          let r = tags_find (length g) t l in
          let s = cells_find r.0 (length (subobjects_of g r.0)) r.1 (omega arith) r.4 in
          (r.0, s.0, owner_complete r.0 s.0 r.2 s.1 s.2, s.1, (s.0, itself refl s.1 s.2, r.3 ∙ ap (λ z. tags_before g tagged r.0 + z) (sym s.3)));
      few = tags_few (length g);
      apart = λ d e m n t ld le a b c.
          let kd = known d m t ld a in
          let s = one_class shared d e m n t kd (known e n t le b) a b in
          (s, one_pair shared d m n t kd a (subst (λ z. IsTag g tagged z n (Some t)) (sym s) b) (subst (λ z. end_of (node g d m) ≡ end_of (node g z n)) (sym s) c));
    }
