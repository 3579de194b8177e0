-- A graph with one more class keeps its invariant.
use Rattle.std.proofs.Common.{◌≡◌, ◌≢◌, ℕ, ◌+◌, ◌<◌, ◌≤◌, ◌^◌, List, [], ◌++◌, length, get_or, set, refl, sym, subst, ap, ap₂, ◌∙◌, inl, inr, arith, length-set, length-append}
use Rattle.std.specs.Prelude.{true, false, ◌⊎◌}
use Rattle.std.specs.List.{flat_map}
use Rattle.std.proofs.lemmas.Bool.Decides.{eqb_tells}
use Rattle.std.proofs.lemmas.List.{get_or-set_same, get_or-set_other, length-map}
use Rattle.mm_classes.specs.declared.class.Base.{Base}
use Rattle.mm_classes.specs.declared.class.Member.{Member}
use Rattle.mm_classes.specs.Lists.{Has}
use Rattle.mm_classes.specs.Classes.{Class, class_at, bases_of, members_of, unknown, IsClassList, IsComplete, field_count}
use Rattle.mm_classes.specs.Subobjects.{Path, chains, subobjects_of}
use Rattle.mm_classes.specs.Adding.{added, new_class, new_virtual_bases, new_chains, new_subobjects, AreKnown, CanAdd}
use Rattle.mm_classes.proofs.Answering.{complete_below}
use Rattle.mm_classes.proofs.Growing.{added-valid, chains-all_kept, as_long, as_before, new_bases, at_new, at_other, added-virtual_bases, added-chains, added-subobjects, added-depth, new_polymorphic, polymorphic_new, new_virtual_bases-complete}
use Rattle.mm_paths.specs.declared.entry.Node.{Node}
use Rattle.mm_paths.specs.declared.entry.Parts.{Parts}
use Rattle.mm_paths.specs.Ends.{AreTooMany}
use Rattle.mm_paths.specs.Names.{AreNamed}
use Rattle.mm_paths.specs.Stored.{paths_in, ArePartsOf, HaveAccess, IsStored, AreNewParts, starts_from, starts_of, new_starts}
use Rattle.mm_paths.proofs.Keeping.{parts_kept, access_moved}
use Rattle.mm_paths.proofs.Starts.{starts-same}

-- with no members as well
pub bare_can : (g : List Class) (c : ℕ) (bs : List Base) (ms : List Member) → CanAdd g c bs ms → CanAdd g c bs []
bare_can g c bs ms new = record {
  here = new.here;
  incomplete = new.incomplete;
  known = new.known;
  once = new.once;
  members = record { few = omega arith; apart = λ i j d l m. absurd (omega arith) };
  typed = λ m t h. elim h [ ];
}

-- a class that is completed
module _ (g : List Class) (ok : IsClassList g) (c : ℕ) (bs : List Base) (ms : List Member) (new : CanAdd g c bs ms) where
  pub new_starts_are : starts_of (added g c bs ms) c ≡ new_starts g c bs
  new_starts_are =
      ap₂ (λ (n : ℕ) (vs : List ℕ). starts_from (chains (added g c bs ms) (length (added g c bs ms))) n vs)
      (ap length (added-chains g ok c bs ms new)) (added-virtual_bases g ok c bs ms new)
      ∙ starts-same (chains (added g c bs ms) (length (added g c bs ms))) (chains g (length g)) (length (new_chains g c bs)) (new_virtual_bases g bs)
      (λ v h. chains-all_kept g (added g c bs ms) ok (as_long g ok c bs ms new) (as_before g ok c bs ms new) v (new_virtual_bases-complete g ok bs new.known v h))

  -- members do not matter for bases
  same_bases : (x : ℕ) → bases_of (added g c bs ms) x ≡ bases_of (added g c bs []) x
  same_bases x = elim (eqb_tells x c) [
    | inl y ↦ ap (bases_of (added g c bs ms)) y.1 ∙ (new_bases g ok c bs ms new ∙ (sym (new_bases g ok c bs [] (bare_can g c bs ms new)) ∙ sym (ap (bases_of (added g c bs [])) y.1)))
    | inr n ↦ ap (λ (k : Class). k.bases) (at_other g ok c bs ms new x n.1) ∙ sym (ap (λ (k : Class). k.bases) (at_other g ok c bs [] (bare_can g c bs ms new) x n.1))
  ]

  new_access : (p : Parts) → HaveAccess (added g c bs []) c p.access.items → HaveAccess (added g c bs ms) c p.access.items
  new_access p h =
      let bare = bare_can g c bs ms new in
      access_moved (added g c bs []) (added g c bs ms) (added-valid g ok c bs [] bare) (λ x k. same_bases x) c p.access.items
      (ap (λ (k : Class). k.complete) (at_new g ok c bs [] bare)) (added-subobjects g ok c bs ms new ∙ sym (added-subobjects g ok c bs [] bare)) h

  pub new_parts : (p : Parts) → AreNewParts g c bs ms p → ArePartsOf (added g c bs ms) c p
  new_parts p a =
      let members : ms ≡ members_of (added g c bs ms) c = sym (ap (λ (k : Class). k.members) (at_new g ok c bs ms new)) in
      record {
        nodes = a.nodes ∙ sym (added-subobjects g ok c bs ms new);
        few = a.few;
        own = a.own ∙ ap length (sym (added-chains g ok c bs ms new));
        shared = a.shared ∙ sym (added-virtual_bases g ok c bs ms new);
        starts = a.starts ∙ sym new_starts_are;
        access = new_access p a.access;
        depth = a.depth ∙ sym (added-depth g ok c bs ms new);
        polymorphic = ((λ e. new_polymorphic g ok c bs ms new (a.polymorphic.0 e)), λ q. a.polymorphic.1 (polymorphic_new g ok c bs ms new q));
        fields = subst (λ (x : List Member). field_count x ≤ 2 ^ 19) members a.fields;
        named = subst (AreNamed p.named.first p.named.next.items) members a.named;
      }

module _ (g : List Class) (ps : List Parts) (s : IsStored g ps) (c : ℕ) (bs : List Base) (ms : List Member) (new : CanAdd g c bs ms) (p : Parts) (made : AreNewParts g c bs ms p) where
  each_in : (x : ℕ) (d : Parts) → (class_at (added g c bs ms) x).complete ≡ true → ArePartsOf (added g c bs ms) x (get_or (set ps c p) x d)
  each_in x d k = elim (eqb_tells x c) [
    | inl y ↦ (let l : c < length ps = (let z = s.long in let h = new.here in omega arith) in
        subst (λ z. ArePartsOf (added g c bs ms) z (get_or (set ps c p) z d)) (sym y.1)
        (subst (ArePartsOf (added g c bs ms) c) (sym (get_or-set_same ps c p d l)) (new_parts g s.valid c bs ms new p made)))
    | inr n ↦ (let o = at_other g s.valid c bs ms new x n.1 in
        let k' : (class_at g x).complete ≡ true = sym (ap (λ (z : Class). z.complete) o) ∙ k in
        subst (ArePartsOf (added g c bs ms) x) (sym (get_or-set_other ps c x p d n.1))
        (parts_kept g (added g c bs ms) s.valid (as_long g s.valid c bs ms new) (as_before g s.valid c bs ms new) x (get_or ps x d) k' (s.each x d k')))
  ]

  pub added_stored : IsStored (added g c bs ms) (set ps c p)
  added_stored = record {
    valid = added-valid g s.valid c bs ms new;
    few = let z = length-set g c (new_class g c bs ms) in let f = s.few in omega arith;
    long = length-set ps c p ∙ (s.long ∙ sym (length-set g c (new_class g c bs ms)));
    each = each_in;
  }

  pub added_few : length (subobjects_of (added g c bs ms) c) ≤ 256
  added_few =
      let e = ap length (made.nodes ∙ sym (added-subobjects g s.valid c bs ms new)) in
      let l = length-map p.nodes.items (λ (x : Node). x.path.items) in
      let f = made.few in omega arith

-- the same, as it is written down
pub inserted : (g t t' : List Class) (ps : List Parts) (c i : ℕ) (bs bs' : List Base) (ms ms' : List Member) (p : Parts) → t ≡ g → IsStored t ps → CanAdd g c bs ms → AreNewParts g c bs ms p
    → i ≡ c → bs' ≡ bs → ms' ≡ ms → t' ≡ added t c bs' ms' → IsStored t' (set ps i p) × (length (subobjects_of t' c) ≤ 256)
inserted g t t' ps c i bs bs' ms ms' p e stored new made ei eb em et =
    let s : IsStored g ps = subst (λ (z : List Class). IsStored z ps) e stored in
    let v : t' ≡ added g c bs ms = et ∙ (ap (λ (z : List Class). added z c bs' ms') e ∙ ap₂ (λ (x : List Base) (y : List Member). added g c x y) eb em) in (
      subst (λ (z : List Class). IsStored z (set ps i p)) (sym v) (subst (λ k. IsStored (added g c bs ms) (set ps k p)) (sym ei) (added_stored g ps s c bs ms new p made)),
      subst (λ (z : List Class). length (subobjects_of z c) ≤ 256) (sym v) (added_few g ps s c bs ms new p made),
    )

pub many_is : (g : List Class) (ok : IsClassList g) (c : ℕ) (bs : List Base) (ms : List Member) → CanAdd g c bs ms
    → (256 < length (new_subobjects g c bs)) ⊎ (2 ^ 19 < field_count ms) → AreTooMany g c bs ms
many_is g ok c bs ms new (inl h) = inl (subst (λ (x : List Path). 256 < length x) (sym (added-subobjects g ok c bs ms new)) h)
many_is g ok c bs ms new (inr h) = inr h

-- of the parts that are made
pub virtuals_stand : (g : List Class) (ok : IsClassList g) (bs : List Base) → AreKnown g bs → (v : ℕ) → Has (new_virtual_bases g bs) v → IsComplete g v
virtuals_stand g ok bs known v h = let k = new_virtual_bases-complete g ok bs known v h in (complete_below g v k, k)

pub own_then_shared : (g : List Class) (c : ℕ) (bs : List Base) (done next : List Path) (vs : List ℕ) → done ≡ new_chains g c bs → vs ≡ new_virtual_bases g bs
    → next ≡ done ++ flat_map (chains g (length g)) vs → next ≡ new_subobjects g c bs
own_then_shared g c bs done next vs a b e = e ∙ ap₂ (λ x y. x ++ flat_map (chains g (length g)) y) a b

pub own_is : (g : List Class) (c : ℕ) (bs : List Base) (ns : List Node) (o : ℕ) → paths_in ns ≡ new_chains g c bs → o ≡ length ns → o ≡ length (new_chains g c bs)
own_is g c bs ns o a b = b ∙ (sym (length-map ns (λ (x : Node). x.path.items)) ∙ ap length a)

pub many_own : (g : List Class) (c : ℕ) (bs : List Base) → 256 < length (new_chains g c bs) → 256 < length (new_subobjects g c bs)
many_own g c bs h = let l = length-append (new_chains g c bs) (flat_map (chains g (length g)) (new_virtual_bases g bs)) in omega (arith, h, l)

pub many_shared : (g : List Class) (c : ℕ) (bs : List Base) (ns : List Node) (vs : List ℕ) → paths_in ns ≡ new_chains g c bs → vs ≡ new_virtual_bases g bs
    → 256 < length ns + length (flat_map (chains g (length g)) vs) → 256 < length (new_subobjects g c bs)
many_shared g c bs ns vs a b h =
    let l = length-append (new_chains g c bs) (flat_map (chains g (length g)) (new_virtual_bases g bs)) in
    let k = sym (length-map ns (λ (x : Node). x.path.items)) ∙ ap length a in
    let m = ap (λ z. length (flat_map (chains g (length g)) z)) b in omega (arith, h, l, k, m)
