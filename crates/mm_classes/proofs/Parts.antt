-- What is contained in a subobject, by numbers.
use Rattle.std.proofs.Common.{◌≡◌, ℕ, ◌+◌, ◌-◌, ◌<◌, ◌≤◌, List, [], ◌∷◌, length, get_or, refl, sym, subst, ap, ◌∙◌, inl, inr, arith, length-append}
use Rattle.std.specs.Prelude.{Bool, true, false, ◌⊎◌}
use Rattle.std.specs.Bool.{Decides}
use Rattle.std.specs.List.{flat_map}
use Rattle.mm_classes.specs.Lists.{Has}
use Rattle.mm_classes.specs.Classes.{Class, IsClassList}
use Rattle.mm_classes.specs.Subobjects.{Path, IsSubobject, chains, virtual_bases, subobjects_of, end_of, compose, IsWithin}
use Rattle.mm_classes.specs.Questions.{node, IsNode, start_of}
use Rattle.mm_classes.proofs.Subs.{are_subobjects, virtual_falls}
use Rattle.mm_classes.proofs.Compose.{compose-anew}
use Rattle.mm_classes.proofs.Answering.{node_sub, sub_long, place_from_Has}
use Rattle.mm_classes.proofs.Within.{goes_within, virtual_bases_are}
use Rattle.mm_classes.proofs.Places.{place_on, place_anew, head_virtual}
use Rattle.mm_classes.proofs.Tops.{node-one}

low_or : (m n : ℕ) → (m < n) ⊎ (n ≤ m)
low_or m n = grind arith

same_read : (p : Path) (v : ℕ) → 0 < length p → get_or p 0 v ≡ get_or p 0 0
same_read [] v l = absurd (omega arith)
same_read (x ∷ p) v l = refl

anew_head : (p q : Path) → (get_or q 0 0 ≡ end_of p → ⊥) → get_or (compose p q) 0 0 ≡ get_or q 0 0
anew_head p [] h = refl
anew_head p (c ∷ u) h = ap (λ z. get_or z 0 0) (compose-anew p c u h)

-- s is the m-th subobject of the class of t, seen from t
pub record IsPart (g : List Class) (d t s m : ℕ) : Type 0 where
  pub node_in : IsNode g (end_of (node g d t)) m
  pub path : compose (node g d t) (node g (end_of (node g d t)) m) ≡ node g d s

module _ (g : List Class) (ok : IsClassList g) (d t s : ℕ) (ht : IsNode g d t) (hs : IsNode g d s) where
  some_part : IsWithin g (node g d s) (node g d t) → (m : ℕ) × IsPart g d t s m
  some_part w =
      let r = place_from_Has (subobjects_of g (end_of (node g d t))) [] (are_subobjects g ok (end_of (node g d t)) w.0 w.1) in
      (r.0, record { node_in = r.1; path = ap (compose (node g d t)) r.2 ∙ w.2 })

  within_part : (m : ℕ) → IsPart g d t s m → IsWithin g (node g d s) (node g d t)
  within_part m p = (node g (end_of (node g d t)) m, node_sub g ok (end_of (node g d t)) m p.node_in, p.path)

  -- close behind t
  pub near_part : t ≤ s → s - t < length (chains g (length g) (end_of (node g d t))) → IsPart g d t s (s - t)
  near_part l k =
      let r = place_on g ok d t (s - t) ht k in
      let e : t + (s - t) ≡ s = omega arith in
      let a = length-append (chains g (length g) (end_of (node g d t))) (flat_map (chains g (length g)) (virtual_bases g (end_of (node g d t)))) in
      record { node_in = omega arith; path = sym r.1 ∙ ap (node g d) e }

  pub near_within : t ≤ s → s - t < length (chains g (length g) (end_of (node g d t))) → IsWithin g (node g d s) (node g d t)
  near_within l k = within_part (s - t) (near_part l k)

  -- further off it begins at a virtual base of the class of t
  pub far_part : IsWithin g (node g d s) (node g d t) → (t ≤ s → length (chains g (length g) (end_of (node g d t))) ≤ s - t)
      → (m : ℕ) × IsPart g d t s m × (length (chains g (length g) (end_of (node g d t))) ≤ m) × (get_or (node g (end_of (node g d t)) m) 0 0 ≡ get_or (node g d s) 0 0)
      × Has (virtual_bases g (end_of (node g d t))) (get_or (node g d s) 0 0) × Has (virtual_bases g d) (get_or (node g d s) 0 0)
  far_part w far =
      let p = some_part w in
      elim (low_or p.0 (length (chains g (length g) (end_of (node g d t))))) [
        | inl l ↦ (let r = place_on g ok d t p.0 ht l in
            let e = node-one g ok d (t + p.0) s r.0 hs (r.1 ∙ p.1.path) in absurd (omega arith))
        | inr l ↦ far_on p.0 p.1 l
      ] where
        far_on : (m : ℕ) → IsPart g d t s m → length (chains g (length g) (end_of (node g d t))) ≤ m
            → (m : ℕ) × IsPart g d t s m × (length (chains g (length g) (end_of (node g d t))) ≤ m) × (get_or (node g (end_of (node g d t)) m) 0 0 ≡ get_or (node g d s) 0 0)
            × Has (virtual_bases g (end_of (node g d t))) (get_or (node g d s) 0 0) × Has (virtual_bases g d) (get_or (node g d s) 0 0)
        far_on m q l =
            let c = end_of (node g d t) in
            let v = get_or (node g c m) 0 0 in
            let h = head_virtual g ok d t m v ht q.node_in l (sym (same_read (node g c m) v (sub_long g ok c (node g c m) (node_sub g ok c m q.node_in)))) in
            let e : v ≡ get_or (node g d s) 0 0 = sym (anew_head (node g d t) (node g c m) (λ z. let f = virtual_falls g ok c v (virtual_bases_are g ok c v h.0) in let y : ok.rank v ≡ ok.rank c = ap ok.rank z in omega arith))
            ∙ ap (λ z. get_or z 0 0) q.path in
            (m, q, l, e, subst (Has (virtual_bases g c)) e h.0, subst (Has (virtual_bases g d)) e h.1)

  pub far_place : (m j k : ℕ) → IsPart g d t s m → length (chains g (length g) (end_of (node g d t))) ≤ m → get_or (node g (end_of (node g d t)) m) 0 0 ≡ get_or (node g d s) 0 0
      → j < length (virtual_bases g (end_of (node g d t))) → get_or (virtual_bases g (end_of (node g d t))) j 0 ≡ get_or (node g d s) 0 0
      → k < length (virtual_bases g d) → get_or (virtual_bases g d) k 0 ≡ get_or (node g d s) 0 0
      → (start_of g d k ≤ s) × (start_of g (end_of (node g d t)) j + (s - start_of g d k) ≡ m)
  far_place m j k q l e lj ej lk ek =
      let c = end_of (node g d t) in
      let v = get_or (node g d s) 0 0 in
      let r = place_anew g ok d t m j k v ht q.node_in l (sym e ∙ sym (same_read (node g c m) v (sub_long g ok c (node g c m) (node_sub g ok c m q.node_in)))) lj ej lk ek in
      let o = node-one g ok d (start_of g d k + (m - start_of g c j)) s r.1 hs (r.2 ∙ q.path) in
      (omega arith, (let z = r.0 in omega arith))

  pub far_decides : (r : Bool) → (t ≤ s → length (chains g (length g) (end_of (node g d t))) ≤ s - t)
      → Decides r (Has (virtual_bases g (end_of (node g d t))) (get_or (node g d s) 0 0)) → Decides r (IsWithin g (node g d s) (node g d t))
  far_decides r far h = (
    (λ e. goes_within g ok d (node g d t) (node g d s) (node_sub g ok d t ht) (node_sub g ok d s hs) (inr (h.0 e))),
    λ w. h.1 (far_part w far).4,
  )
