-- Composition stays among the subobjects_of, is associative, and makes containment an order.
use Rattle.std.proofs.Common.{◌≡◌, ◌≢◌, ℕ, ◌<◌, ◌≤◌, List, [], ◌∷◌, ◌++◌, refl, sym, subst, ap, ◌∙◌, inl, inr, arith, append_assoc, append-nil}
use Rattle.std.specs.Prelude.{◌⊎◌}
use Rattle.std.proofs.lemmas.Bool.Decides.{eqb_tells}
use Rattle.std.proofs.lemmas.List.{append_cancel_left}
use Rattle.mm_classes.specs.Classes.{Class, IsClassList}
use Rattle.mm_classes.specs.Subobjects.{Path, IsChain, IsVirtual, listed, below, IsSubobject, last_of, end_of, compose, IsWithin}
use Rattle.mm_classes.proofs.Subs.{virtual_falls, chain_falls}

pub last_of-append : (c : ℕ) (t u : Path) → last_of c (t ++ u) ≡ last_of (last_of c t) u
last_of-append c [] u = refl
last_of-append c (b ∷ t) u = last_of-append b t u

pub compose-on : (p : Path) (c : ℕ) (u : Path) → c ≡ end_of p → compose p (c ∷ u) ≡ p ++ u
compose-on p c u e = elim (eqb_tells c (end_of p)) [ inl y ↦ rw y.0 refl | inr n ↦ absurd (n.1 e) ]

pub compose-anew : (p : Path) (c : ℕ) (u : Path) → c ≢ end_of p → compose p (c ∷ u) ≡ c ∷ u
compose-anew p c u ne = elim (eqb_tells c (end_of p)) [ inl y ↦ absurd (ne y.1) | inr n ↦ rw n.0 refl ]

module _ (g : List Class) where
  pub chain-append : (c : ℕ) (t u : Path) → IsChain g c t → IsChain g (last_of c t) u → IsChain g c (t ++ u)
  chain-append c [] u a b = b
  chain-append c (x ∷ t) u a b = (a.0, chain-append x t u a.1 b)

  pub chain_virtual : (c : ℕ) (t : Path) (v : ℕ) → IsChain g c t → IsVirtual g (last_of c t) v → IsVirtual g c v
  chain_virtual c [] v a k = k
  chain_virtual c (x ∷ t) v a k = below a.0.0 a.0.1 (subst (λ w. IsVirtual g w v) (sym a.0.3) (chain_virtual x t v a.1 k))

  pub virtual_virtual : (c v w : ℕ) → IsVirtual g c v → IsVirtual g v w → IsVirtual g c w
  virtual_virtual c v w (listed x h s e) k = below x h (subst (λ z. IsVirtual g z w) (sym e) k)
  virtual_virtual c v w (below x h i) k = below x h (virtual_virtual x.class v w i k)

  -- what a subobject's class has as a virtual base, the whole has
  pub sub_virtual : (d : ℕ) (p : Path) (v : ℕ) → IsSubobject g d p → IsVirtual g (end_of p) v → IsVirtual g d v
  sub_virtual d [] v s k = absurd s
  sub_virtual d (h ∷ t) v s k =
      let a = chain_virtual h t v s.1 k in
      elim s.0 [ inl e ↦ subst (λ w. IsVirtual g w v) e a | inr i ↦ virtual_virtual d h v i a ]

  pub compose-sub : (d : ℕ) (p q : Path) → IsSubobject g d p → IsSubobject g (end_of p) q → IsSubobject g d (compose p q)
  compose-sub d [] q s k = absurd s
  compose-sub d (h ∷ t) [] s k = absurd k
  compose-sub d (h ∷ t) (c ∷ u) s k = elim (eqb_tells c (last_of h t)) [
    | inl y ↦ subst (IsSubobject g d) (sym (compose-on (h ∷ t) c u y.1)) (s.0, chain-append h t u s.1 (subst (λ w. IsChain g w u) y.1 k.1))
    | inr n ↦ subst (IsSubobject g d) (sym (compose-anew (h ∷ t) c u n.1))
        (elim k.0 [ inl e ↦ absurd (n.1 e) | inr v ↦ (inr (sub_virtual d (h ∷ t) c s v), k.1) ])
  ]

  pub compose-end : (d : ℕ) (p q : Path) → IsSubobject g d p → IsSubobject g (end_of p) q → end_of (compose p q) ≡ end_of q
  compose-end d [] q s k = absurd s
  compose-end d (h ∷ t) [] s k = absurd k
  compose-end d (h ∷ t) (c ∷ u) s k = elim (eqb_tells c (last_of h t)) [
    | inl y ↦ ap end_of (compose-on (h ∷ t) c u y.1) ∙ (last_of-append h t u ∙ ap (λ w. last_of w u) (sym y.1))
    | inr n ↦ ap end_of (compose-anew (h ∷ t) c u n.1)
  ]

module _ (g : List Class) (ok : IsClassList g) where
  pub sub_falls : (d : ℕ) (p : Path) → IsSubobject g d p → ok.rank (end_of p) ≤ ok.rank d
  sub_falls d [] s = absurd s
  sub_falls d (h ∷ t) s =
      let a = chain_falls g ok h t s.1 in
      elim s.0 [ inl e ↦ subst (λ w. ok.rank (last_of h t) ≤ ok.rank w) e a | inr v ↦ (let b = virtual_falls g ok d h v in omega arith) ]

  -- a subobject other than the whole is of another, lower class
  pub whole_or_lower : (d : ℕ) (p : Path) → IsSubobject g d p → (p ≡ d ∷ []) ⊎ (ok.rank (end_of p) < ok.rank d)
  whole_or_lower d [] s = absurd s
  whole_or_lower d (h ∷ []) s = elim s.0 [ inl e ↦ inl (ap (λ w. w ∷ []) e) | inr v ↦ inr (virtual_falls g ok d h v) ]
  whole_or_lower d (h ∷ b ∷ t) s =
      let a = chain_falls g ok b t s.1.1 in
      let f : ok.rank b < ok.rank h = subst (λ w. ok.rank w < ok.rank h) s.1.0.3 (ok.falls h s.1.0.0 s.1.0.1) in
      let r : ok.rank h ≤ ok.rank d = elim s.0 [ inl e ↦ subst (λ w. ok.rank h ≤ ok.rank w) e (omega arith) | inr v ↦ (let k = virtual_falls g ok d h v in omega arith) ] in
      inr (omega arith)

  pub compose-assoc : (d : ℕ) (p q r : Path) → IsSubobject g d p → IsSubobject g (end_of p) q → IsSubobject g (end_of q) r → compose p (compose q r) ≡ compose (compose p q) r
  compose-assoc d [] q r sp sq sr = absurd sp
  compose-assoc d (h ∷ t) [] r sp sq sr = absurd sq
  compose-assoc d (h ∷ t) (c ∷ u) [] sp sq sr = absurd sr
  compose-assoc d (h ∷ t) (c ∷ u) (a ∷ w) sp sq sr =
      let en = compose-end g d (h ∷ t) (c ∷ u) sp sq in
      elim (eqb_tells a (last_of c u)) [
        | inl y ↦ ap (compose (h ∷ t)) (compose-on (c ∷ u) a w y.1)
            ∙ (elim (eqb_tells c (last_of h t)) [
              | inl z ↦ compose-on (h ∷ t) c (u ++ w) z.1 ∙ (sym (append_assoc (h ∷ t) u w) ∙ ap (λ s. s ++ w) (sym (compose-on (h ∷ t) c u z.1)))
              | inr z ↦ compose-anew (h ∷ t) c (u ++ w) z.1 ∙ ap (λ s. s ++ w) (sym (compose-anew (h ∷ t) c u z.1))
            ]
            ∙ sym (compose-on (compose (h ∷ t) (c ∷ u)) a w (y.1 ∙ sym en)))
        | inr n ↦
            let v = elim sr.0 as (λ _. IsVirtual g (last_of c u) a) [ inl e ↦ absurd (n.1 e) | inr k ↦ k ] in
            let lower = virtual_falls g ok (last_of c u) a v in
            let under = sub_falls (last_of h t) (c ∷ u) sq in
            let ne : a ≢ last_of h t = (λ e. let k : ok.rank a ≡ ok.rank (last_of h t) = ap ok.rank e in omega arith) in
            ap (compose (h ∷ t)) (compose-anew (c ∷ u) a w n.1) ∙ (compose-anew (h ∷ t) a w ne
            ∙ sym (compose-anew (compose (h ∷ t) (c ∷ u)) a w (λ e. n.1 (e ∙ en))))
      ]

  -- a path does not go on into one that starts at a virtual base of its end
  strange : (d : ℕ) (h : ℕ) (t : Path) (a : ℕ) (w : Path) → IsSubobject g d (h ∷ t) → IsSubobject g (last_of h t) (a ∷ w) → a ≢ last_of h t → (u : Path) → (h ∷ (t ++ u)) ≡ a ∷ w → ⊥
  strange d h t a w sp sr ne u e =
      let v = elim sr.0 as (λ _. IsVirtual g (last_of h t) a) [ inl k ↦ absurd (ne k) | inr k ↦ k ] in
      let lower = virtual_falls g ok (last_of h t) a v in
      let up = chain_falls g ok h t sp.1 in
      let same : h ≡ a = cc in
      let k : ok.rank h ≡ ok.rank a = ap ok.rank same in omega arith

  -- a class's subobjects_of stand apart in a class that has it
  pub compose-apart : (d : ℕ) (p q r : Path) → IsSubobject g d p → IsSubobject g (end_of p) q → IsSubobject g (end_of p) r → compose p q ≡ compose p r → q ≡ r
  compose-apart d [] q r sp sq sr e = absurd sp
  compose-apart d (h ∷ t) [] r sp sq sr e = absurd sq
  compose-apart d (h ∷ t) (c ∷ u) [] sp sq sr e = absurd sr
  compose-apart d (h ∷ t) (c ∷ u) (a ∷ w) sp sq sr e = elim (eqb_tells c (last_of h t)) [
    | inl y ↦ elim (eqb_tells a (last_of h t)) [
      | inl z ↦ (let k = append_cancel_left (h ∷ t) u w (sym (compose-on (h ∷ t) c u y.1) ∙ (e ∙ compose-on (h ∷ t) a w z.1)) in cc)
      | inr z ↦ absurd (strange d h t a w sp sr z.1 u (sym (compose-on (h ∷ t) c u y.1) ∙ (e ∙ compose-anew (h ∷ t) a w z.1)))
    ]
    | inr y ↦ elim (eqb_tells a (last_of h t)) [
      | inl z ↦ absurd (strange d h t c u sp sq y.1 w (sym (compose-on (h ∷ t) a w z.1) ∙ (sym e ∙ compose-anew (h ∷ t) c u y.1)))
      | inr z ↦ sym (compose-anew (h ∷ t) c u y.1) ∙ (e ∙ compose-anew (h ∷ t) a w z.1)
    ]
  ]

  pub compose_whole : (d : ℕ) (t : Path) → IsSubobject g d t → compose t (end_of t ∷ []) ≡ t
  compose_whole d [] s = absurd s
  compose_whole d (h ∷ t) s = compose-on (h ∷ t) (last_of h t) [] refl ∙ append-nil (h ∷ t)

  -- containment is an order
  pub within-self : (d : ℕ) (t : Path) → IsSubobject g d t → IsWithin g t t
  within-self d [] s = absurd s
  within-self d (h ∷ t) s = (last_of h t ∷ [], (inl refl, tt), compose-on (h ∷ t) (last_of h t) [] refl ∙ append-nil (h ∷ t))

  pub within-within : (d : ℕ) (t s r : Path) → IsSubobject g d t → IsWithin g s t → IsWithin g r s → IsWithin g r t
  within-within d t s r st a b =
      let en = compose-end g d t a.0 st a.1 in
      let sb : IsSubobject g (end_of a.0) b.0 = subst (λ w. IsSubobject g w b.0) (sym (ap end_of a.2) ∙ en) b.1 in (
        compose a.0 b.0,
        compose-sub g (end_of t) a.0 b.0 a.1 sb,
        compose-assoc d t a.0 b.0 st a.1 sb ∙ (ap (λ w. compose w b.0) a.2 ∙ b.2),
      )

  pub within-same : (d : ℕ) (t s : Path) → IsSubobject g d t → IsSubobject g d s → IsWithin g s t → IsWithin g t s → t ≡ s
  within-same d t s st ss a b =
      let en : end_of s ≡ end_of a.0 = sym (ap end_of a.2) ∙ compose-end g d t a.0 st a.1 in
      let em : end_of t ≡ end_of b.0 = sym (ap end_of b.2) ∙ compose-end g d s b.0 ss b.1 in
      elim (whole_or_lower (end_of t) a.0 a.1) [
        | inl e ↦ (let w = within-self d t st in
            sym (compose_whole d t st) ∙ (ap (compose t) (sym e) ∙ a.2))
        | inr l ↦ (let k = sub_falls (end_of s) b.0 b.1 in
            let x : ok.rank (end_of s) ≡ ok.rank (end_of a.0) = ap ok.rank en in
            let y : ok.rank (end_of t) ≡ ok.rank (end_of b.0) = ap ok.rank em in absurd (omega arith))
      ]
