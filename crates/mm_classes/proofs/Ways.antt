-- Each subobject is reached by a chain of direct bases, and each chain reaches a subobject.
use Rattle.std.proofs.Common.{◌≡◌, ◌≢◌, ℕ, ◌+◌, ◌<◌, ◌≤◌, List, [], ◌∷◌, ◌++◌, refl, sym, subst, ap, ap₂, ◌∙◌, inl, inr, arith}
use Rattle.std.specs.Prelude.{true, false, ◌⊎◌, cond}
use Rattle.std.proofs.lemmas.Bool.Decides.{eqb_tells}
use Rattle.mm_classes.specs.declared.class.Base.{Base}
use Rattle.mm_classes.specs.Lists.{Has}
use Rattle.mm_classes.specs.Classes.{Class, class_at, bases_of, IsClassList}
use Rattle.mm_classes.specs.Subobjects.{Path, IsChain, IsVirtual, listed, below, IsSubobject, end_of, compose}
use Rattle.mm_classes.specs.Access.{link_of, AreLinks, composed_links}
use Rattle.mm_classes.proofs.Subs.{virtual_falls}
use Rattle.mm_classes.proofs.Compose.{compose-on, compose-anew, compose-sub, compose-end, sub_falls}

pub compose-one : (h : ℕ) (q : Path) → compose (h ∷ []) q ≡ q
compose-one h [] = refl
compose-one h (c ∷ u) = elim (eqb_tells c h) [
  | inl y ↦ compose-on (h ∷ []) c u y.1 ∙ ap (λ (z : ℕ). z ∷ u) (sym y.1)
  | inr n ↦ compose-anew (h ∷ []) c u n.1
]

pub link_shared : (c : ℕ) (b : Base) → b.shared ≡ true → link_of c b ≡ b.class ∷ []
link_shared c b e = rw e refl

pub link_plain : (c : ℕ) (b : Base) → b.shared ≡ false → link_of c b ≡ c ∷ b.class ∷ []
link_plain c b e = rw e refl

pub link_end : (c : ℕ) (b : Base) → end_of (link_of c b) ≡ b.class
link_end c b = elim b.shared as (λ s. end_of (cond s (b.class ∷ []) (c ∷ b.class ∷ [])) ≡ b.class) [ true ↦ refl | false ↦ refl ]

module _ (g : List Class) where
  pub link_sub : (c : ℕ) (b : Base) → Has (bases_of g c) b → IsSubobject g c (link_of c b)
  link_sub c b h = elim b.shared as (λ s. b.shared ≡ s → IsSubobject g c (cond s (b.class ∷ []) (c ∷ b.class ∷ []))) [
    | true ↦ λ e. (inr (listed b h e refl), tt)
    | false ↦ λ e. (inl refl, ((b, h, e, refl), tt))
  ] refl

  pub links_sub : (c : ℕ) (bs : List Base) → AreLinks g c bs → IsSubobject g c (composed_links c bs)
  links_sub c [] k = (inl refl, tt)
  links_sub c (b ∷ bs) k = compose-sub g c (link_of c b) (composed_links b.class bs) (link_sub c b k.0)
      (subst (λ w. IsSubobject g w (composed_links b.class bs)) (sym (link_end c b)) (links_sub b.class bs k.1))

  pub links_end : (c : ℕ) (b : Base) (bs : List Base) → AreLinks g c (b ∷ bs) → end_of (composed_links c (b ∷ bs)) ≡ end_of (composed_links b.class bs)
  links_end c b bs k = compose-end g c (link_of c b) (composed_links b.class bs) (link_sub c b k.0)
      (subst (λ w. IsSubobject g w (composed_links b.class bs)) (sym (link_end c b)) (links_sub b.class bs k.1))

  -- along non-virtual bases
  pub chain_links : (h : ℕ) (t : Path) → IsChain g h t → (bs : List Base) × AreLinks g h bs × (composed_links h bs ≡ h ∷ t)
  chain_links h [] k = ([], tt, refl)
  chain_links h (b ∷ t) k =
      let x = k.0.0 in
      let r = chain_links x.class t (subst (λ w. IsChain g w t) (sym k.0.3) k.1) in (
        x ∷ r.0,
        (k.0.1, r.1),
        ap₂ compose (link_plain h x k.0.2) r.2 ∙ (compose-on (h ∷ x.class ∷ []) x.class t refl ∙ ap (λ w. h ∷ w ∷ t) k.0.3),
      )

module _ (g : List Class) (ok : IsClassList g) where
  -- a chain of one or more links leads to a lower class
  pub links_lower : (c : ℕ) (b : Base) (bs : List Base) → AreLinks g c (b ∷ bs) → ok.rank (end_of (composed_links c (b ∷ bs))) < ok.rank c
  links_lower c b bs k =
      let e : ok.rank (end_of (composed_links c (b ∷ bs))) ≡ ok.rank (end_of (composed_links b.class bs)) = ap ok.rank (links_end g c b bs k) in
      let l = sub_falls g ok b.class (composed_links b.class bs) (links_sub g b.class bs k.1) in
      let f = ok.falls c b k.0 in omega arith

  pub links_else : (c : ℕ) (b : Base) (bs : List Base) → AreLinks g c (b ∷ bs) → composed_links c (b ∷ bs) ≡ c ∷ [] → ⊥
  links_else c b bs k e =
      let l = links_lower c b bs k in
      let z : ok.rank (end_of (composed_links c (b ∷ bs))) ≡ ok.rank c = ap (λ (p : Path). ok.rank (end_of p)) e in omega arith

  virtual_links : (d v : ℕ) (t : Path) → IsVirtual g d v → IsChain g v t → (bs : List Base) × AreLinks g d bs × (composed_links d bs ≡ v ∷ t)
  virtual_links d v t (listed x h s e) k =
      let r = chain_links g x.class t (subst (λ w. IsChain g w t) (sym e) k) in (
        x ∷ r.0,
        (h, r.1),
        ap₂ compose (link_shared d x s) r.2 ∙ (compose-one x.class (x.class ∷ t) ∙ ap (λ w. w ∷ t) e),
      )
  virtual_links d v t (below x h i) k =
      let r = virtual_links x.class v t i k in
      let f = virtual_falls g ok x.class v i in (
        x ∷ r.0,
        (h, r.1),
        ap (compose (link_of d x)) r.2 ∙ compose-anew (link_of d x) v t (λ z. let y : ok.rank v ≡ ok.rank x.class = ap ok.rank (z ∙ link_end d x) in absurd (omega arith)),
      )

  pub sub_links : (d : ℕ) (p : Path) → IsSubobject g d p → (bs : List Base) × AreLinks g d bs × (composed_links d bs ≡ p)
  sub_links d [] s = absurd s
  sub_links d (h ∷ t) s = elim s.0 [
    | inl e ↦ (let r = chain_links g h t s.1 in
        subst (λ w. (bs : List Base) × AreLinks g w bs × (composed_links w bs ≡ h ∷ t)) e r)
    | inr v ↦ virtual_links d h t v s.1
  ]

-- a list in which the complete classes have the bases that they had
module _ (g g' : List Class) (ok : IsClassList g) (same : (x : ℕ) → (class_at g x).complete ≡ true → bases_of g' x ≡ bases_of g x) where
  pub to_links : (c : ℕ) (bs : List Base) → (class_at g c).complete ≡ true → AreLinks g c bs → AreLinks g' c bs
  to_links c [] k l = tt
  to_links c (b ∷ bs) k l = (subst (λ z. Has z b) (sym (same c k)) l.0, to_links b.class bs (ok.known c b l.0) l.1)

  pub from_links : (c : ℕ) (bs : List Base) → (class_at g c).complete ≡ true → AreLinks g' c bs → AreLinks g c bs
  from_links c [] k l = tt
  from_links c (b ∷ bs) k l = let h = subst (λ z. Has z b) (same c k) l.0 in (h, from_links b.class bs (ok.known c b h) l.1)
