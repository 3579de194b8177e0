-- What stands in a class list: places, complete classes, subobjects by their numbers.
use Rattle.std.proofs.Common.{◌≡◌, ℕ, zero, suc, ◌<◌, ◌≤◌, List, [], ◌∷◌, length, get_or, refl, sym, subst, ap, ◌∙◌, inl, inr, arith}
use Rattle.std.specs.Prelude.{true, false, ◌⊎◌}
use Rattle.std.proofs.lemmas.List.{get_or_past}
use Rattle.mm_classes.specs.declared.class.Base.{Base}
use Rattle.mm_classes.specs.Lists.{Has, first, later}
use Rattle.mm_classes.specs.Classes.{Class, class_at, bases_of, unknown, IsClassList, IsComplete}
use Rattle.mm_classes.specs.Subobjects.{Path, IsChain, IsVirtual, listed, below, IsSubobject, last_of, end_of, compose, subobjects_of}
use Rattle.mm_classes.specs.Questions.{node, IsNode}
use Rattle.mm_classes.proofs.Subs.{subobjects_are, are_subobjects}
use Rattle.mm_classes.proofs.Compose.{compose-sub}

pub Has-get_or : {X : Type 0} (xs : List X) (i : ℕ) (d : X) → i < length xs → Has xs (get_or xs i d)
Has-get_or [] i d h = absurd (omega arith)
Has-get_or (x ∷ xs) zero d h = first refl
Has-get_or (x ∷ xs) (suc i) d h = later (Has-get_or xs i d (omega arith))

pub place_from_Has : {X : Type 0} (xs : List X) (d : X) {x : X} → Has xs x → (i : ℕ) × (i < length xs) × (get_or xs i d ≡ x)
place_from_Has [] d h = elim h [ ]
place_from_Has (y ∷ xs) d (first e) = (0, omega arith, e)
place_from_Has (y ∷ xs) d (later h) = let r = place_from_Has xs d h in (suc r.0, omega arith, r.2)

nat_lt_or : (a b : ℕ) → (a < b) ⊎ (b ≤ a)
nat_lt_or a b = grind arith

pub complete_below : (g : List Class) (c : ℕ) → (class_at g c).complete ≡ true → c < length g
complete_below g c e = elim (nat_lt_or c (length g)) [
  | inl a ↦ a
  | inr b ↦ (let z : false ≡ true = sym (ap (λ (x : Class). x.complete) (get_or_past g c unknown b)) ∙ e in cc)
]

module _ (g : List Class) (ok : IsClassList g) where
  pub node_sub : (d n : ℕ) → IsNode g d n → IsSubobject g d (node g d n)
  node_sub d n h = subobjects_are g ok d (node g d n) (Has-get_or (subobjects_of g d) n [] h)

  base_complete : (c : ℕ) (x : Base) → Has (bases_of g c) x → IsComplete g x.class
  base_complete c x h = let k = ok.known c x h in (complete_below g x.class k, k)

  pub virtual_complete : (c v : ℕ) → IsVirtual g c v → IsComplete g v
  virtual_complete c v (listed x h s e) = subst (IsComplete g) e (base_complete c x h)
  virtual_complete c v (below x h k) = virtual_complete x.class v k

  chain_complete : (c : ℕ) (t : Path) → IsComplete g c → IsChain g c t → IsComplete g (last_of c t)
  chain_complete c [] k s = k
  chain_complete c (b ∷ t) k s = chain_complete b t (subst (IsComplete g) s.0.3 (base_complete c s.0.0 s.0.1)) s.1

  pub end_complete : (d : ℕ) (p : Path) → IsComplete g d → IsSubobject g d p → IsComplete g (end_of p)
  end_complete d [] k s = absurd s
  end_complete d (h ∷ t) k s = elim s.0 [
    | inl e ↦ chain_complete h t (subst (IsComplete g) (sym e) k) s.1
    | inr v ↦ chain_complete h t (virtual_complete d h v) s.1
  ]

  pub sub_long : (d : ℕ) (p : Path) → IsSubobject g d p → 0 < length p
  sub_long d [] s = absurd s
  sub_long d (h ∷ t) s = omega arith

  pub composed_has : (d n m : ℕ) → IsNode g d n → IsNode g (end_of (node g d n)) m
      → Has (subobjects_of g d) (compose (node g d n) (node g (end_of (node g d n)) m))
  composed_has d n m a b = are_subobjects g ok d (compose (node g d n) (node g (end_of (node g d n)) m))
      (compose-sub g d (node g d n) (node g (end_of (node g d n)) m) (node_sub d n a) (node_sub (end_of (node g d n)) m b))
