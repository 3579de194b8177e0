-- The place of a composition is the node that it is.
use Rattle.std.proofs.Common.{◌≡◌, ℕ, ◌+◌, ◌-◌, ◌<◌, ◌≤◌, List, [], ◌∷◌, ◌++◌, length, get_or, take, map, refl, sym, subst, ap, ap₂, ◌∙◌, inl, inr, arith, length-append}
use Rattle.std.specs.Prelude.{true, ◌⊎◌}
use Rattle.std.specs.List.{flat_map}
use Rattle.mm_classes.specs.Lists.{Has}
use Rattle.mm_classes.specs.Classes.{Class, class_at, bases_of, IsClassList}
use Rattle.mm_classes.specs.Subobjects.{Path, plain_bases, chains, virtual_bases, subobjects_of, end_of, compose}
use Rattle.mm_classes.specs.Questions.{node, IsNode, start_of}
use Rattle.mm_classes.proofs.Answering.{node_sub, sub_long}
use Rattle.mm_classes.proofs.Growing.{chains-unfold, chains-all_kept, virtual_bases-kept, subobjects-kept, virtual_bases_complete}
use Rattle.mm_classes.proofs.Lists.{flat_map-same}
use Rattle.mm_paths.specs.Stored.{starts_of, IsStart}
use Rattle.mm_paths.specs.Reach.{AreStarts, IsPlaced}
use Rattle.mm_paths.proofs.Starts.{low_or, starts-at, starts-long, starts-low, composed_on, head_in, composed_anew}
use Rattle.mm_paths.proofs.Building.{has_take}

pub same_head : (p : Path) (v : ℕ) → 0 < length p → get_or p 0 v ≡ get_or p 0 0
same_head [] v l = absurd (omega arith)
same_head (x ∷ p) v l = refl

first_read : (xs ys : List Path) (x : Path) (rest : List Path) → xs ≡ x ∷ rest → (get_or (xs ++ ys) 0 [] ≡ x) × (0 < length (xs ++ ys))
first_read xs ys x rest e = subst (λ (z : List Path). (get_or (z ++ ys) 0 [] ≡ x) × (0 < length (z ++ ys))) (sym e) (refl, omega arith)

module _ (g : List Class) (ok : IsClassList g) where
  -- the whole is the first node
  pub node_first : (d : ℕ) → (node g d 0 ≡ d ∷ []) × IsNode g d 0
  node_first d = first_read (chains g (length g) d) (flat_map (chains g (length g)) (virtual_bases g d)) (d ∷ [])
      (flat_map (λ b. map (λ p. d ∷ p) (chains g (length g) b)) (plain_bases (bases_of g d))) (chains-unfold g ok d)

  head_of_node : (c m v : ℕ) → IsNode g c m → get_or (node g c m) 0 v ≡ get_or (node g c m) 0 0
  head_of_node c m v h = same_head (node g c m) v (sub_long g ok c (node g c m) (node_sub g ok c m h))

  -- the block of a virtual base does not begin behind what begins with that base
  pub start_low : (c m s : ℕ) → IsNode g c m → length (chains g (length g) c) ≤ m → IsStart g c (get_or (node g c m) 0 0) s → s ≤ m
  start_low c m s h l a =
      let f = node_first c in
      let e : c ≡ end_of (node g c 0) = sym (ap end_of f.0) in
      (composed_anew g ok c 0 m c f.1 (subst (λ z. IsNode g z m) e h) e (length (chains g (length g) c)) (get_or (node g c m) 0 0) s s (node g c m) refl l refl
      (sym (head_of_node c m (get_or (node g c m) 0 0) h)) a a).0

  pub placed_on : (c at m r : ℕ) (shared starts : List ℕ) → m < length (chains g (length g) c) → r ≡ at + m → IsPlaced g c at m shared starts r
  placed_on c at m r shared starts l e = record { on = λ k. e; anew = λ k. absurd (omega arith) }

  pub placed_anew : (c at m r s to v : ℕ) (path shared starts : List ℕ) → IsNode g c m → length (chains g (length g) c) ≤ m → path ≡ node g c m → v ≡ get_or path 0 v → IsStart g c v s
      → (j : ℕ) × (j < length shared) × (get_or shared j 0 ≡ v) × (to ≡ get_or starts j 0) → r ≡ to + (m - s) → IsPlaced g c at m shared starts r
  placed_anew c at m r s to v path shared starts h l ep ev a t er =
      let e : v ≡ get_or (node g c m) 0 0 = ev ∙ (ap (λ z. get_or z 0 v) ep ∙ head_of_node c m v h) in
      let a' : IsStart g c (get_or (node g c m) 0 0) s = subst (λ z. IsStart g c z s) e a in
      record {
        on = λ k. absurd (omega arith);
        anew = λ k. (s, t.0, a', start_low c m s h l a', t.1, t.2 ∙ e, er ∙ ap (λ z. z + (m - s)) t.3);
      }

  -- what is asked of starts, of those of a class
  pub starts_stand : (d n m c : ℕ) (shared starts : List ℕ) → IsNode g d n → IsNode g (end_of (node g d n)) m → c ≡ end_of (node g d n) → length (subobjects_of g d) ≤ 256
      → shared ≡ virtual_bases g d → starts ≡ starts_of g d → AreStarts g c m shared starts
  starts_stand d n m c shared starts hn hm ec few es et =
      let h : IsNode g c m = subst (λ z. IsNode g z m) (sym ec) hm in
      record {
        long = ap length et ∙ (starts-long (chains g (length g)) (length (chains g (length g) d)) (virtual_bases g d) ∙ sym (ap length es));
        low = λ j. subst (λ (z : List ℕ). get_or z j 0 ≤ 256) (sym et) (starts-low g d j few);
        has = λ l. subst (λ (z : List ℕ). Has z (get_or (node g c m) 0 0)) (sym es)
            (head_in g ok d n m c hn hm ec (length (chains g (length g) c)) (get_or (node g c m) 0 0) (node g c m) refl l refl (sym (head_of_node c m (get_or (node g c m) 0 0) h))).1;
      }

  pub placed : (d n m c r : ℕ) (shared starts : List ℕ) → IsNode g d n → IsNode g (end_of (node g d n)) m → c ≡ end_of (node g d n)
      → shared ≡ virtual_bases g d → starts ≡ starts_of g d → IsPlaced g c n m shared starts r
      → IsNode g d r × (node g d r ≡ compose (node g d n) (node g (end_of (node g d n)) m))
  placed d n m c r shared starts hn hm ec es et p = elim (low_or m (length (chains g (length g) c))) [
    | inl l ↦ (let k = composed_on g ok d n m c hn hm ec (length (chains g (length g) c)) refl l in
        let e : n + m ≡ r = sym (p.on l) in (subst (IsNode g d) e k.0, ap (node g d) (sym e) ∙ k.1))
    | inr l ↦ (
        let q = p.anew l in
        let h : IsNode g c m = subst (λ z. IsNode g z m) (sym ec) hm in
        let v = get_or (node g c m) 0 0 in
        let lj : q.1 < length (virtual_bases g d) = subst (λ (z : List ℕ). q.1 < length z) es q.4 in
        let b : IsStart g d v (get_or starts q.1 0) = (
          q.1,
          lj,
          ap (λ (z : List ℕ). get_or z q.1 0) (sym es) ∙ q.5,
          ap (λ (z : List ℕ). get_or z q.1 0) et ∙ starts-at (chains g (length g)) (length (chains g (length g) d)) (virtual_bases g d) q.1 lj,
        ) in
        let k = composed_anew g ok d n m c hn hm ec (length (chains g (length g) c)) v q.0 (get_or starts q.1 0) (node g c m) refl l refl (sym (head_of_node c m v h)) q.2 b in
        (subst (IsNode g d) (sym q.6) k.1, ap (node g d) q.6 ∙ k.2))
  ]

  pub placed_at : (d n m c r : ℕ) (shared starts : List ℕ) → IsNode g d n → IsNode g (end_of (node g d n)) m → c ≡ end_of (node g d n)
      → shared ≡ virtual_bases g d → starts ≡ starts_of g d → (n' m' : ℕ) → n' ≡ n → m' ≡ m → IsPlaced g c n' m' shared starts r
      → IsNode g d r × (node g d r ≡ compose (node g d n) (node g (end_of (node g d n)) m))
  placed_at d n m c r shared starts hn hm ec es et n' m' en em p = placed d n m c r shared starts hn hm ec es et
      (subst (λ y. IsPlaced g c n y shared starts r) em (subst (λ x. IsPlaced g c x m' shared starts r) en p))

-- in a list that has the same complete classes
module _ (g g' : List Class) (ok : IsClassList g) (longer : length g ≤ length g') (same : (x : ℕ) → (class_at g x).complete ≡ true → class_at g' x ≡ class_at g x) where
  start-kept : (c v s : ℕ) → (class_at g c).complete ≡ true → IsStart g c v s → IsStart g' c v s
  start-kept c v s k a =
      let vs : virtual_bases g' c ≡ virtual_bases g c = virtual_bases-kept g g' ok longer same c k in
      let blocks : flat_map (chains g' (length g')) (take a.0 (virtual_bases g c)) ≡ flat_map (chains g (length g)) (take a.0 (virtual_bases g c)) =
      flat_map-same (chains g' (length g')) (chains g (length g)) (take a.0 (virtual_bases g c))
      (λ w h. chains-all_kept g g' ok longer same w (virtual_bases_complete g ok c w (has_take (virtual_bases g c) a.0 h))) in
      let own : length (chains g' (length g') c) ≡ length (chains g (length g) c) = ap length (chains-all_kept g g' ok longer same c k) in
      let all : start_of g' c a.0 ≡ start_of g c a.0 = ap₂ (λ (x : ℕ) (y : List Path). x + length y) own
      (ap (λ (z : List ℕ). flat_map (chains g' (length g')) (take a.0 z)) vs ∙ blocks) in
      (a.0, subst (λ (z : List ℕ). a.0 < length z) (sym vs) a.1, ap (λ (z : List ℕ). get_or z a.0 0) vs ∙ a.2, a.3 ∙ sym all)

  pub placed-kept : (c at m r : ℕ) (shared starts : List ℕ) → (class_at g c).complete ≡ true → IsPlaced g c at m shared starts r → IsPlaced g' c at m shared starts r
  placed-kept c at m r shared starts k p =
      let own : length (chains g' (length g') c) ≡ length (chains g (length g) c) = ap length (chains-all_kept g g' ok longer same c k) in
      let e : node g c m ≡ node g' c m = ap (λ (z : List Path). get_or z m []) (sym (subobjects-kept g g' ok longer same c k)) in
      record {
        on = λ l. p.on (omega arith);
        anew = λ l. let q = p.anew (omega arith) in
            subst (λ (z : Path). (s : ℕ) × (j : ℕ) × IsStart g' c (get_or z 0 0) s × (s ≤ m)
            × (j < length shared) × (get_or shared j 0 ≡ get_or z 0 0) × (r ≡ get_or starts j 0 + (m - s))) e
            (q.0, q.1, start-kept c (get_or (node g c m) 0 0) q.0 k q.2, q.3, q.4, q.5, q.6);
      }

  pub starts-back : (c m : ℕ) (shared starts : List ℕ) → (class_at g c).complete ≡ true → AreStarts g' c m shared starts → AreStarts g c m shared starts
  starts-back c m shared starts k a =
      let own : length (chains g' (length g') c) ≡ length (chains g (length g) c) = ap length (chains-all_kept g g' ok longer same c k) in
      let e : node g' c m ≡ node g c m = ap (λ (z : List Path). get_or z m []) (subobjects-kept g g' ok longer same c k) in
      record { long = a.long; low = a.low; has = λ l. subst (λ (z : Path). Has shared (get_or z 0 0)) e (a.has (omega arith)) }

-- what begins at a virtual base
pub head_has : (g : List Class) (ok : IsClassList g) (c m v : ℕ) (path : List ℕ) → IsNode g c m → length (chains g (length g) c) ≤ m → path ≡ node g c m → v ≡ get_or path 0 v → Has (virtual_bases g c) v
head_has g ok c m v path h l ep ev =
    let f = node_first g ok c in
    let e : c ≡ end_of (node g c 0) = sym (ap end_of f.0) in
    (head_in g ok c 0 m c f.1 (subst (λ z. IsNode g z m) e h) e (length (chains g (length g) c)) v path refl l ep ev).0

-- the same for a start that is found by the head of a path
pub start_behind : (g : List Class) (ok : IsClassList g) (c m s v : ℕ) (path : List ℕ) → IsNode g c m → length (chains g (length g) c) ≤ m → path ≡ node g c m → v ≡ get_or path 0 v → IsStart g c v s → s ≤ m
start_behind g ok c m s v path h l ep ev a =
    let e : v ≡ get_or (node g c m) 0 0 = ev ∙ (ap (λ z. get_or z 0 v) ep ∙ same_head (node g c m) v (sub_long g ok c (node g c m) (node_sub g ok c m h))) in
    start_low g ok c m s h l (subst (λ z. IsStart g c z s) e a)
