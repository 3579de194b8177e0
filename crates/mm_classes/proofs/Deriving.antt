-- c derives from b exactly where another subobject of c ends in b.
use Rattle.std.proofs.Common.{◌≡◌, ◌≢◌, ℕ, ◌<◌, List, [], ◌∷◌, length, refl, sym, subst, ap, ◌∙◌, inl, inr, arith}
use Rattle.std.specs.Prelude.{true, false, ◌⊎◌}
use Rattle.mm_classes.specs.declared.class.Base.{Base}
use Rattle.mm_classes.specs.declared.answer.Up.{Up}
use Rattle.mm_classes.specs.declared.answer.Up.TheVariants as up
use Rattle.mm_classes.specs.Lists.{Has}
use Rattle.mm_classes.specs.Classes.{Class, bases_of, IsClassList, Derives, direct, through}
use Rattle.mm_classes.specs.Subobjects.{Path, IsChain, IsVirtual, listed, below, IsSubobject, last_of, end_of, compose, subobjects_of}
use Rattle.mm_classes.specs.Questions.{IsUpOf, node}
use Rattle.mm_classes.proofs.Subs.{subobjects_are, are_subobjects}
use Rattle.mm_classes.proofs.Compose.{compose-sub, compose-end}
use Rattle.mm_classes.proofs.Answering.{Has-get_or, place_from_Has}

abbrev Ends : List Class → ℕ → ℕ → Type 0
Ends g c b = (p : Path) × IsSubobject g c p × (end_of p ≡ b)

-- the subobject that a direct base is
link : (g : List Class) (c : ℕ) (x : Base) → Has (bases_of g c) x → Ends g c x.class
link g c x h = elim x.shared as (λ s. x.shared ≡ s → Ends g c x.class) [
  | true ↦ λ e. (x.class ∷ [], (inr (listed x h e refl), tt), refl)
  | false ↦ λ e. (c ∷ x.class ∷ [], (inl refl, ((x, h, e, refl), tt)), refl)
] refl

pub derives_ends : (g : List Class) (c b : ℕ) → Derives g c b → Ends g c b
derives_ends g c b (direct x h e) = let l = link g c x h in (l.0, l.1, l.2 ∙ e)
derives_ends g c b (through x h d) =
    let l = link g c x h in
    let r = derives_ends g x.class b d in
    let s : IsSubobject g (end_of l.0) r.0 = subst (λ z. IsSubobject g z r.0) (sym l.2) r.1 in
    (compose l.0 r.0, compose-sub g c l.0 r.0 l.1 s, compose-end g c l.0 r.0 l.1 s ∙ r.2)

derives_derives : (g : List Class) (c b a : ℕ) → Derives g c b → Derives g b a → Derives g c a
derives_derives g c b a (direct x h e) k = through x h (subst (λ z. Derives g z a) (sym e) k)
derives_derives g c b a (through x h d) k = through x h (derives_derives g x.class b a d k)

virtual_derives : (g : List Class) (c v : ℕ) → IsVirtual g c v → Derives g c v
virtual_derives g c v (listed x h s e) = direct x h e
virtual_derives g c v (below x h k) = through x h (virtual_derives g x.class v k)

chain_derives : (g : List Class) (c : ℕ) (t : Path) → IsChain g c t → (last_of c t ≡ c) ⊎ Derives g c (last_of c t)
chain_derives g c [] k = inl refl
chain_derives g c (b ∷ t) k =
    let d : Derives g c b = direct k.0.0 k.0.1 k.0.3 in
    elim (chain_derives g b t k.1) [ inl e ↦ inr (subst (Derives g c) (sym e) d) | inr r ↦ inr (derives_derives g c b (last_of b t) d r) ]

pub sub_derives : (g : List Class) (c : ℕ) (p : Path) → IsSubobject g c p → (end_of p ≡ c) ⊎ Derives g c (end_of p)
sub_derives g c [] s = absurd s
sub_derives g c (h ∷ t) s = elim s.0 [
  | inl e ↦ elim (chain_derives g h t s.1) [ inl k ↦ inl (k ∙ e) | inr d ↦ inr (subst (λ z. Derives g z (last_of h t)) e d) ]
  | inr v ↦ (let d = virtual_derives g c h v in
      elim (chain_derives g h t s.1) [ inl k ↦ inr (subst (Derives g c) (sym k) d) | inr r ↦ inr (derives_derives g c h (last_of h t) d r) ])
]

pub derives_falls : (g : List Class) (ok : IsClassList g) (c b : ℕ) → Derives g c b → ok.rank b < ok.rank c
derives_falls g ok c b (direct x h e) = subst (λ w. ok.rank w < ok.rank c) e (ok.falls c x h)
derives_falls g ok c b (through x h d) = let f = ok.falls c x h in let i = derives_falls g ok x.class b d in omega arith

module _ (g : List Class) (ok : IsClassList g) (c b : ℕ) where
  at_node : (n : ℕ) → c ≢ b → n < length (subobjects_of g c) → end_of (node g c n) ≡ b → Derives g c b
  at_node n ne l e = elim (sub_derives g c (node g c n) (subobjects_are g ok c (node g c n) (Has-get_or (subobjects_of g c) n [] l))) [
    | inl k ↦ absurd (ne (sym k ∙ e))
    | inr d ↦ subst (Derives g c) e d
  ]

  pub found_derives : (u : Up) → c ≢ b → IsUpOf u g c b → (u ≡ up.None → ⊥) → Derives g c b
  found_derives (up.One n) ne h k = at_node n ne h.0 h.1
  found_derives up.None ne h k = absurd (k refl)
  found_derives up.Several ne h k = at_node h.0 ne (let a = h.2 in let z = h.3 in omega arith) h.4

  pub none_derives : IsUpOf up.None g c b → Derives g c b → ⊥
  none_derives h d =
      let r = derives_ends g c b d in
      let i = place_from_Has (subobjects_of g c) [] (are_subobjects g ok c r.0 r.1) in
      h i.0 i.1 (ap end_of i.2 ∙ r.2)

  pub itself : c ≡ b → Derives g c b → ⊥
  itself e d = let f = derives_falls g ok c b d in let k : ok.rank c ≡ ok.rank b = ap ok.rank e in omega arith
