-- The claims on the small language fit, and what follows.
use Rattle.std.proofs.Common.{◌≡◌, ℕ, zero, suc, Bool, true, false, if◌then◌else◌, IsTrue, List, [], ◌∷◌, ◌⊎◌, Option, Some, None, inl, inr, refl, sym, subst}
use Rattle.mm_grammar.specs.Grammar.{one, name, seq, give, PartOf, Spells, has}
use Rattle.mm_grammar.specs.Ahead.{Claims, Follows, AtTail, Sealed, Fit, fits}
use Rattle.mm_grammar.specs.Small.{Small, stmt, Tree, whole, when, either, is_closed, with_else, ValueOf, rule_of, small, NearestElse, OneTree}
use Rattle.mm_grammar.proofs.Reading.{one_value}

-- what can follow: an else, after what isn't closed
abbrev after_of : Tree → List ℕ
after_of t = if is_closed t then [] else 1 ∷ []

abbrev after_at : (x : Small) → ValueOf x → List ℕ
after_at stmt t = after_of t

abbrev claims : Claims small
claims = record {
  first = λ x. 2 ∷ 3 ∷ 0 ∷ [];
  more = λ x. 1 ∷ [];
  after = after_at;
  empty = λ x. false;
  shared = 3 ∷ [];
  second = λ x. 4 ∷ 5 ∷ [];
  alone = λ x. false;
}

condition : PartOf small Tree
condition = give (λ v. v.1) (seq (one (0 ∷ [])) (name stmt))

follows_inner : (k : ℕ) (c : List ℕ) (t : Tree) → (w : ℕ × Tree) × (t ≡ w.1) × ((IsTrue (has k (1 ∷ [])) × IsTrue (has k (after_of w.1))) ⊎ (IsTrue false × ⊥)) → IsTrue (has k (1 ∷ [])) × IsTrue (has k (after_of t))
follows_inner k c t h = elim h.2 [
  | inl i ↦ (i.0, subst (λ x. IsTrue (has k (after_of x))) (sym h.1) i.1)
  | inr i ↦ absurd i.1
]

closed_after : (t : Tree) (k : ℕ) → IsTrue (is_closed t) → IsTrue (has k (after_of t)) → ⊥
closed_after t k c h = go (is_closed t) c h
  where
    go : (b : Bool) → IsTrue b → IsTrue (has k (if b then [] else 1 ∷ [])) → ⊥
    go true c h = absurd (cc)
    go false c h = absurd (cc)

sealed_at : (x : Small) → Sealed small claims (rule_of x)
sealed_at stmt = (tt, (((tt, tt), (tt, tt)), ((tt, tt), (tt, tt), λ v k c f h. closed_after v k c (follows_inner k [] v f).1)))

followed_tail : (k : ℕ) (t : Tree) (s : Tree) (o : Option Tree) → t ≡ with_else s o →
    AtTail (λ a. Follows small claims (give (λ v. v.1) (seq (one (0 ∷ [])) (name stmt))) a k) (IsTrue (has k (1 ∷ []))) (λ w. Follows small claims (give (λ v. v.1) (seq (one (1 ∷ [])) (name stmt))) w k) s o → IsTrue (has k (after_of t))
followed_tail k t s None e h = subst (λ x. IsTrue (has k (after_of x))) (sym e) (elim h [ inl i ↦ (follows_inner k [] s i).0 | inr i ↦ i ])
followed_tail k t s (Some w) e h = subst (λ x. IsTrue (has k (after_of x))) (sym e) (follows_inner k [] w h).1

after_holds : (x : Small) (v : ValueOf x) (k : ℕ) → Follows small claims (rule_of x) v k → IsTrue (has k (after_at x v))
after_holds stmt t k f = elim f [
  | inl i ↦ elim i [
    | inl j ↦ absurd j.2
    | inr j ↦ elim j [
      | inl a ↦ elim a [
        | inl b ↦ elim b [ inl c ↦ elim c.2 [ inl d ↦ absurd d | inr d ↦ absurd d.1 ] | inr c ↦ elim c.2 [ inl d ↦ absurd d | inr d ↦ absurd d.1 ] ]
        | inr b ↦ followed_tail k t b.0.0 b.0.1 b.1 b.2
      ]
      | inr a ↦ elim a [ inl b ↦ absurd (let e = b.0 in cc) | inr b ↦ absurd (let e = b.0 in cc) ]
    ]
  ]
  | inr i ↦ elim i [ inl b ↦ absurd (let e = b.0 in cc) | inr b ↦ absurd (let e = b.0 in cc) ]
]

fits_at : (x : Small) → IsTrue (fits small claims x)
fits_at stmt = refl

pub fit : Fit small claims
fit = record { fits_each = fits_at; sealed = sealed_at; after = after_holds }

pub one_tree : OneTree
one_tree ts a b s t = one_value small claims fit (name stmt) (refl, tt) ts a b s t

-- ---- the nearest if

inner : Spells small (name stmt) (0 ∷ 2 ∷ 1 ∷ 2 ∷ []) (either whole whole)
inner = (suc (suc zero), inr (inr ((whole, Some whole), refl, (0 ∷ 2 ∷ [], 1 ∷ 2 ∷ [], refl, ((0, whole), refl, (0 ∷ [], 2 ∷ [], refl, (refl, refl), inl (2, refl, (refl, refl)))), refl, ((1, whole), refl, (1 ∷ [], 2 ∷ [], refl, (refl, refl), inl (2, refl, (refl, refl))))))))

outer : Spells small (name stmt) (0 ∷ 0 ∷ 2 ∷ 1 ∷ 2 ∷ []) (when (either whole whole))
outer = (suc inner.0, inr (inr ((either whole whole, None), refl, ((0, either whole whole), refl, (0 ∷ [], 0 ∷ 2 ∷ 1 ∷ 2 ∷ [], refl, (refl, refl), inner.1)))))

pub nearest_else : NearestElse
nearest_else = (outer, λ tree s. one_tree (0 ∷ 0 ∷ 2 ∷ 1 ∷ 2 ∷ []) tree (when (either whole whole)) s outer)
