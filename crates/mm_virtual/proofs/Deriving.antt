-- Bases of a class by its subobjects.
use Rattle.std.proofs.Common.{◌≡◌, ◌≢◌, ℕ, ◌<◌, List, [], ◌∷◌, ◌++◌, length, get_or, refl, sym, subst, ap, ◌∙◌, inl, inr, arith, zero, suc}
use Rattle.std.specs.Prelude.{◌⊎◌, false, true}
use Rattle.mm_classes.specs.declared.class.Member.{Member}
use Rattle.mm_classes.specs.declared.class.Base.{Base}
use Rattle.mm_classes.specs.Lists.{Has}
use Rattle.mm_classes.specs.Classes.{Class, IsClassList, class_at, bases_of, members_of, is_virtual, Derives, direct, through}
use Rattle.mm_classes.specs.Subobjects.{Path, chains, subobjects_of, end_of}
use Rattle.mm_classes.specs.Questions.{node, IsNode}
use Rattle.mm_classes.specs.Functions.{IsVirtualIn, IsOnlyBase}
use Rattle.mm_classes.proofs.Subs.{are_subobjects, subobjects-Distinct}
use Rattle.mm_classes.proofs.Compose.{whole_or_lower}
use Rattle.mm_classes.proofs.Cuts.{one_place}
use Rattle.mm_classes.proofs.Deriving.{sub_derives, derives_ends, derives_falls}
use Rattle.mm_classes.proofs.Answering.{node_sub, place_from_Has}
use Rattle.mm_virtual.specs.Results.{DeclaresVirtual, BreaksAt, IsBroken, IsSameOrOnlyBase}

chains_first : (g : List Class) (k c : ℕ) (ps : List Path) → get_or (chains g k c ++ ps) 0 [] ≡ c ∷ []
chains_first g zero c ps = refl
chains_first g (suc k) c ps = refl

node_first : (g : List Class) (c : ℕ) → node g c 0 ≡ c ∷ []
node_first g c = chains_first g (length g) c _

no_element : {X : Type 0} (xs : List X) (x : X) → xs ≡ [] → Has xs x → ⊥
no_element [] x e h = elim h [ ]
no_element (y ∷ ys) x e h = cc

no_derived : (g : List Class) (c b : ℕ) → bases_of g c ≡ [] → Derives g c b → ⊥
no_derived g c b e (direct x h _) = no_element (bases_of g c) x e h
no_derived g c b e (through x h _) = no_element (bases_of g c) x e h

zero_or : (n : ℕ) → (n ≡ 0) ⊎ (0 < n)
zero_or n = grind arith

module _ (g : List Class) (ok : IsClassList g) (c : ℕ) where
  -- a later subobject is of a base
  pub node_derives : (n : ℕ) → IsNode g c n → 0 < n → Derives g c (end_of (node g c n))
  node_derives n h l = elim (sub_derives g c (node g c n) (node_sub g ok c n h)) [
    | inr d ↦ d
    | inl e ↦ elim (whole_or_lower g ok c (node g c n) (node_sub g ok c n h)) [
      | inl w ↦ (
          let z : n ≡ 0 = one_place (subobjects_of g c) n 0 [] (subobjects-Distinct g ok c) h (omega arith) (w ∙ sym (node_first g c)) in
          absurd (omega arith))
      | inr r ↦ (let k : ok.rank (end_of (node g c n)) ≡ ok.rank c = ap ok.rank e in absurd (omega arith))
    ]
  ]

  -- each base has a subobject
  pub derives_node : (b : ℕ) → Derives g c b → (n : ℕ) × IsNode g c n × (0 < n) × (end_of (node g c n) ≡ b)
  derives_node b d =
      let r = derives_ends g c b d in
      let p = place_from_Has (subobjects_of g c) [] (are_subobjects g ok c r.0 r.1) in
      let e : end_of (node g c p.0) ≡ b = ap end_of p.2 ∙ r.2 in
      elim (zero_or p.0) [
        | inr l ↦ (p.0, p.1, l, e)
        | inl z ↦ (
            let s : c ≡ b = sym (ap end_of (ap (node g c) z ∙ node_first g c)) ∙ e in
            let f = derives_falls g ok c b d in
            let k : ok.rank c ≡ ok.rank b = ap ok.rank s in
            absurd (omega arith))
      ]

  -- no other class is a base of one that is not complete
  pub bare_only : (y : ℕ) → (class_at g c).complete ≡ false → (c ≡ y → ⊥) → IsSameOrOnlyBase g c y → ⊥
  bare_only y bare differs (inl e) = differs e
  bare_only y bare differs (inr (ne, (n, (here, e, one)))) = elim (sub_derives g c (node g c n) (node_sub g ok c n here)) [
    | inl s ↦ differs (sym s ∙ e)
    | inr d ↦ no_derived g c (end_of (node g c n)) (ok.bare c bare).0 d
  ]

  pub virtual_by : (m : Member) (n : ℕ) → IsNode g c n → 0 < n → DeclaresVirtual g m (end_of (node g c n)) → IsVirtualIn g c m
  virtual_by m n h l (x, has, same, virtual) = inr (end_of (node g c n), x, node_derives n h l, has, same, virtual)

  pub virtual_none : (m : Member) → (is_virtual m ≡ true → ⊥) → ((n : ℕ) → 0 < n → IsNode g c n → DeclaresVirtual g m (end_of (node g c n)) → ⊥) → IsVirtualIn g c m → ⊥
  virtual_none m own none (inl v) = own v
  virtual_none m own none (inr (b, x, d, has, same, virtual)) =
      let r = derives_node b d in
      none r.0 r.2 r.1 (subst (DeclaresVirtual g m) (sym r.3) (x, has, same, virtual))

  pub broken_by : (m : Member) (n : ℕ) → IsNode g c n → 0 < n → BreaksAt g m (end_of (node g c n)) → IsBroken g c m
  broken_by m n h l b = (end_of (node g c n), node_derives n h l, b)

  pub broken_none : (m : Member) → ((n : ℕ) → 0 < n → IsNode g c n → BreaksAt g m (end_of (node g c n)) → ⊥) → IsBroken g c m → ⊥
  broken_none m none (b, d, h) = let r = derives_node b d in none r.0 r.2 r.1 (subst (BreaksAt g m) (sym r.3) h)
