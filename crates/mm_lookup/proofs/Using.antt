-- The access of members by that of public ones, and the first three cases, by the numbers of subobjects.
use Rattle.std.proofs.Common.{◌≡◌, ℕ, zero, suc, ◌+◌, ◌<◌, List, [], ◌∷◌, ◌++◌, length, get_or, refl, sym, subst, ap, ◌∙◌, inl, inr, arith}
use Rattle.std.specs.Prelude.{◌⊎◌, Option, None, Some}
use Rattle.mm_classes.specs.declared.class.Access.{Access}
use Rattle.mm_classes.specs.declared.class.Access.TheVariants.{Public, Protected, Private}
use Rattle.mm_classes.specs.Access.{lesser, IsAccess}
use Rattle.mm_classes.specs.Classes.{Class, IsClassList, IsComplete, Derives}
use Rattle.mm_classes.specs.Laws.{HasAccess}
use Rattle.mm_classes.specs.Subobjects.{Path, IsSubobject, chains, subobjects_of, end_of, compose}
use Rattle.mm_classes.specs.Questions.{node, IsNode}
use Rattle.mm_classes.proofs.AccessLaws.{grade-one, capped, capped-grade, access_protected, access_private, access_none}
use Rattle.mm_classes.proofs.Answering.{node_sub, place_from_Has}
use Rattle.mm_classes.proofs.Compose.{compose-apart}
use Rattle.mm_classes.proofs.Deriving.{sub_derives}
use Rattle.mm_classes.proofs.Subs.{are_subobjects}
use Rattle.mm_classes.proofs.Tops.{node-one}
use Rattle.mm_lookup.specs.Access.{UsesAt, everywhere, own, derived, MayUse, HasAccessBy, IsUsedBy}
use Rattle.mm_lookup.proofs.Collapse.{collapse, uncollapse}

-- PROTECTED AND PRIVATE MEMBERS
pub protected_none : (g : List Class) (n : ℕ) (q : Path) → IsAccess g n q Public None → IsAccess g n q Protected None
protected_none g n q h = subst (IsAccess g n q Protected) (grade-one (capped Protected None) None (capped-grade None)) (access_protected g n q None h)

lesser_capped : (x : Access) → capped Protected (Some x) ≡ Some (lesser Protected x)
lesser_capped Public = grade-one (capped Protected (Some Public)) (Some Protected) (capped-grade (Some Public))
lesser_capped Protected = grade-one (capped Protected (Some Protected)) (Some Protected) (capped-grade (Some Protected))
lesser_capped Private = grade-one (capped Protected (Some Private)) (Some Private) (capped-grade (Some Private))

pub protected_some : (g : List Class) (n : ℕ) (q : Path) (x r : Access) → r ≡ lesser Protected x → IsAccess g n q Public (Some x) → IsAccess g n q Protected (Some r)
protected_some g n q x r e h = subst (IsAccess g n q Protected) (lesser_capped x ∙ sym (ap Some e)) (access_protected g n q (Some x) h)

chains_first : (g : List Class) (k c : ℕ) (ps : List Path) → get_or (chains g k c ++ ps) 0 [] ≡ c ∷ []
chains_first g zero c ps = refl
chains_first g (suc k) c ps = refl

-- the first subobject is the class itself
node_first : (g : List Class) (c : ℕ) → node g c 0 ≡ c ∷ []
node_first g c = chains_first g (length g) c _

module _ (g : List Class) (ok : IsClassList g) (c n : ℕ) where
  pub private_itself : n ≡ 0 → IsAccess g c (node g c n) Private (Some Private)
  private_itself e = subst (λ p. IsAccess g c p Private (Some Private)) (sym (ap (node g c) e ∙ node_first g c)) (access_private g ok c)

  pub private_else : HasAccess g → IsComplete g c → IsNode g c n → (n ≡ 0 → ⊥) → IsAccess g c (node g c n) Private None
  private_else law k h ne =
      let r = law.each c (node g c n) Public k (node_sub g ok c n h) in
      access_none g c (node g c n) r.0 (λ e. ne (node-one g ok c n 0 h (omega arith) (e ∙ sym (node_first g c)))) r.1

-- one more number without a property
pub none_more : (P : ℕ → Type 0) (n : ℕ) → (P n → ⊥) → ((m : ℕ) → m < n → P m → ⊥) → (m : ℕ) → m < n + 1 → P m → ⊥
none_more P n here h m l p = elim (last_or m n l) [ inl a ↦ h m a p | inr e ↦ here (subst P e p) ] where
  last_or : (m n : ℕ) → m < n + 1 → (m < n) ⊎ (m ≡ n)
  last_or m n l = grind arith

same_some : (a b : Access) → Some a ≡ Some b → a ≡ b
same_some a b e = cc

same_class : (a b : ℕ) → Some a ≡ Some b → a ≡ b
same_class a b e = cc

-- THE FIRST THREE CASES
module _ (g : List Class) (ok : IsClassList g) (law : HasAccess g) where
  -- the number of a subobject
  number_of : (c : ℕ) (p : Path) → IsSubobject g c p → (i : ℕ) × IsNode g c i × (node g c i ≡ p)
  number_of c p s = place_from_Has (subobjects_of g c) [] (are_subobjects g ok c p s)

  -- inside a class that is not the one in which the member is named
  module _ (f n : ℕ) (q : Path) (a : Access) (ne : f ≡ n → ⊥) (here : IsAccess g n q a (Some Protected)) where
    pub by_way : (r : ℕ) × IsNode g f r × HasAccessBy g f n q a r → UsesAt g (Some f) n q a
    by_way (r, h, (e, (x, k))) =
        let s = node_sub g ok f r h in
        elim (sub_derives g f (node g f r) s) [
          | inl z ↦ absurd (ne (sym z ∙ e))
          | inr d ↦ derived f (node g f r) x refl (subst (Derives g f) e d) here s e k
        ]

    pub way_of : UsesAt g (Some f) n q a → (r : ℕ) × IsNode g f r × HasAccessBy g f n q a r
    way_of (everywhere h) = (let z : Public ≡ Protected = same_some Public Protected (law.one n q a (Some Public) (Some Protected) h here) in absurd (differ z)) where
      differ : Public ≡ Protected → ⊥
      differ z = cc
    way_of (own x h e) = absurd (ne (same_class f n e))
    way_of (derived c r x e d h s k i) =
        let same : c ≡ f = sym (same_class f c e) in
        let s' : IsSubobject g f r = subst (λ z. IsSubobject g z r) same s in
        let j = number_of f r s' in
        (j.0, j.1, (ap end_of j.2 ∙ k, (x, subst (λ z. IsAccess g f (compose z q) a (Some x)) (sym j.2) (subst (λ z. IsAccess g z (compose r q) a (Some x)) same i))))

  -- ONE STEP
  -- t is the number of the step, and m that of the rest in it
  module _ (f : Option ℕ) (n : ℕ) (q : Path) (a : Access) (t m : ℕ) (ht : IsNode g n t) (hm : IsNode g (end_of (node g n t)) m)
      (e : compose (node g n t) (node g (end_of (node g n t)) m) ≡ q) where
    pub step_uses : IsAccess g n (node g n t) Public (Some Public) → UsesAt g f (end_of (node g n t)) (node g (end_of (node g n t)) m) a → IsUsedBy g f n q a t
    step_uses h u = (h, (node g (end_of (node g n t)) m, node_sub g ok (end_of (node g n t)) m hm, e, u))

    pub uses_step : IsUsedBy g f n q a t → UsesAt g f (end_of (node g n t)) (node g (end_of (node g n t)) m) a
    uses_step (h, (p, s, k, u)) = subst (λ z. UsesAt g f (end_of (node g n t)) z a)
        (compose-apart g ok n (node g n t) p (node g (end_of (node g n t)) m) (node_sub g ok n t ht) s (node_sub g ok (end_of (node g n t)) m hm) (k ∙ sym e)) u

  -- any step
  pub used_by : (f : Option ℕ) (n : ℕ) (q : Path) (a : Access) (t : ℕ) → IsNode g n t → IsUsedBy g f n q a t → MayUse g f n q a
  used_by f n q a t ht (h, (p, s, k, u)) = uncollapse g ok law f n q a record {
    step = node g n t;
    rest = p;
    step_in = node_sub g ok n t ht;
    rest_in = s;
    whole = k;
    leads = h;
    uses = u;
  }

  pub none_used : (f : Option ℕ) (n : ℕ) (q : Path) (a : Access) → IsComplete g n → ((t : ℕ) → IsNode g n t → IsUsedBy g f n q a t → ⊥) → MayUse g f n q a → ⊥
  none_used f n q a kn none h =
      let c = collapse g ok law f n q a kn h in
      let j = number_of n c.step c.step_in in
      none j.0 j.1 (subst (λ (z : Path). IsAccess g n z Public (Some Public) × ((p : Path) × IsSubobject g (end_of z) p × (compose z p ≡ q) × UsesAt g f (end_of z) p a)) (sym j.2)
      (c.leads, (c.rest, c.rest_in, c.whole, c.uses)))
