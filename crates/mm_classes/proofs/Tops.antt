-- Of the subobjects with a property, those that no other one contains: one where some subobject contains all, else several.
use Rattle.std.proofs.Common.{◌≡◌, ◌≢◌, ℕ, zero, suc, ◌+◌, ◌<◌, ◌≤◌, List, [], ◌∷◌, ◌++◌, length, get_or, refl, sym, subst, ap, ap₂, ◌∙◌, inl, inr, arith}
use Rattle.std.specs.Prelude.{true, false, ◌⊎◌}
use Rattle.std.proofs.lemmas.Bool.Decides.{eqb_tells}
use Rattle.mm_classes.specs.declared.answer.Up.TheVariants as up
use Rattle.mm_classes.specs.Lists.{Has, has}
use Rattle.mm_classes.specs.Classes.{Class, IsClassList}
use Rattle.mm_classes.specs.Subobjects.{Path, IsSubobject, end_of, compose, IsWithin, subobjects_of, virtual_bases}
use Rattle.mm_classes.specs.Questions.{node, IsNode, Picks, IsLeft}
use Rattle.mm_classes.specs.Tops.{ContainsAll, IsBest}
use Rattle.mm_classes.proofs.Lists.{has-true, has-Has}
use Rattle.mm_classes.proofs.Subs.{subobjects-Distinct, deep}
use Rattle.mm_classes.proofs.Compose.{compose-end, compose_whole, whole_or_lower, within-self, within-within, within-same}
use Rattle.mm_classes.proofs.Answering.{node_sub}
use Rattle.mm_classes.proofs.Within.{Goes, within_goes, goes_within}
use Rattle.mm_classes.proofs.Cuts.{one_place}

prefix_or : (t s : Path) → ((u : Path) × (s ≡ t ++ u)) ⊎ ((u : Path) × (s ≡ t ++ u) → ⊥)
prefix_or [] s = inl (s, refl)
prefix_or (x ∷ t) [] = inr (λ p. let e : [] ≡ x ∷ (t ++ p.0) = p.1 in cc)
prefix_or (x ∷ t) (y ∷ s) = elim (eqb_tells x y) [
  | inl e ↦ elim (prefix_or t s) [
    | inl p ↦ inl (p.0, ap₂ (λ (a : ℕ) (b : Path). a ∷ b) (sym e.1) p.1)
    | inr n ↦ inr (λ p. n (p.0, (let z : y ∷ s ≡ x ∷ (t ++ p.0) = p.1 in cc)))
  ]
  | inr n ↦ inr (λ p. n.1 (let z : y ∷ s ≡ x ∷ (t ++ p.0) = p.1 in cc))
]

has_or : (xs : List ℕ) (x : ℕ) → Has xs x ⊎ (Has xs x → ⊥)
has_or xs x = elim (has xs x) as (λ b. has xs x ≡ b → Has xs x ⊎ (Has xs x → ⊥)) [
  | true ↦ λ e. inl (has-true xs x e)
  | false ↦ λ e. inr (λ h. let z : false ≡ true = sym e ∙ has-Has xs x h in cc)
] refl

-- the first n numbers have one with a property, or none
search_below : (Q : ℕ → Type 0) (n : ℕ) → ((m : ℕ) → m < n → Q m ⊎ (Q m → ⊥)) → ((m : ℕ) × (m < n) × Q m) ⊎ ((m : ℕ) → m < n → Q m → ⊥)
search_below Q zero d = inr (λ m l q. omega arith)
search_below Q (suc n) d = elim (search_below Q n (λ m l. d m (omega arith))) [
  | inl r ↦ inl (r.0, (let z = r.1 in omega arith), r.2)
  | inr h ↦ elim (d n (omega arith)) [
    | inl q ↦ inl (n, omega arith, q)
    | inr k ↦ inr (λ m l q. elim (lower_or m n l) [ inl a ↦ h m a q | inr e ↦ k (subst Q e q) ])
  ]
] where
  lower_or : (m n : ℕ) → m < suc n → (m < n) ⊎ (m ≡ n)
  lower_or m n l = grind arith

three_ways : (a b : ℕ) → a ≢ b → (a < b) ⊎ (b < a)
three_ways a b ne = grind arith

last_or : (m n : ℕ) → m < n + 1 → (m < n) ⊎ (m ≡ n)
last_or m n l = grind arith

module _ (g : List Class) (ok : IsClassList g) (c : ℕ) where
  within_or : (n m : ℕ) → IsNode g c n → IsNode g c m → IsWithin g (node g c n) (node g c m) ⊎ (IsWithin g (node g c n) (node g c m) → ⊥)
  within_or n m hn hm = elim (goes_or (node g c m) (node g c n)) [
    | inl w ↦ inl (goes_within g ok c (node g c m) (node g c n) (node_sub g ok c m hm) (node_sub g ok c n hn) w)
    | inr k ↦ inr (λ w. k (within_goes g ok (node g c m) (node g c n) w))
  ] where
    goes_or : (t s : Path) → Goes g t s ⊎ (Goes g t s → ⊥)
    goes_or t s = elim (prefix_or t s) [
      | inl p ↦ inl (inl p)
      | inr a ↦ elim (has_or (virtual_bases g (end_of t)) (get_or s 0 0)) [
        | inl h ↦ inl (inr h)
        | inr b ↦ inr (λ w. elim w [ inl p ↦ a p | inr h ↦ b h ])
      ]
    ]

  -- a node is known by its path
  pub node-one : (n m : ℕ) → IsNode g c n → IsNode g c m → node g c n ≡ node g c m → n ≡ m
  node-one n m hn hm e = one_place (subobjects_of g c) n m [] (subobjects-Distinct g ok c) hn hm e

  pub contained_both : (n m : ℕ) → IsNode g c n → IsNode g c m → IsWithin g (node g c n) (node g c m) → IsWithin g (node g c m) (node g c n) → n ≡ m
  contained_both n m hn hm a b = node-one n m hn hm (sym (within-same g ok c (node g c m) (node g c n) (node_sub g ok c m hm) (node_sub g ok c n hn) a b))

  -- what contains another one is of a higher class
  higher : (n m : ℕ) → IsNode g c n → IsNode g c m → IsWithin g (node g c n) (node g c m) → (m ≡ n → ⊥) → ok.rank (end_of (node g c n)) < ok.rank (end_of (node g c m))
  higher n m hn hm w ne =
      let en : end_of (node g c n) ≡ end_of w.0 = sym (ap end_of w.2) ∙ compose-end g c (node g c m) w.0 (node_sub g ok c m hm) w.1 in
      elim (whole_or_lower g ok (end_of (node g c m)) w.0 w.1) [
        | inl e ↦ absurd (ne (node-one m n hm hn (sym (compose_whole g ok c (node g c m) (node_sub g ok c m hm)) ∙ (ap (compose (node g c m)) (sym e) ∙ w.2))))
        | inr l ↦ (let k : ok.rank (end_of (node g c n)) ≡ ok.rank (end_of w.0) = ap ok.rank en in omega arith)
      ]

  module _ (P : ℕ → Type 0) where
    -- one that contains all is the only one left
    pub tops_one : (n : ℕ) → IsNode g c n → P n → ContainsAll g c P n (length (subobjects_of g c)) → Picks (up.One n) (IsLeft g c P) (length (subobjects_of g c))
    tops_one n hn p all = (
      hn,
      (p, λ m hm q w. contained_both m n hm hn (all m hm q) w),
      λ m hm q. sym (q.1 n hn p (all m hm q.0)),
    )

    pub tops_none : ((m : ℕ) → IsNode g c m → P m → ⊥) → Picks up.None (IsLeft g c P) (length (subobjects_of g c))
    tops_none h = λ m hm q. h m hm q.0

    module _ (decided : (m : ℕ) → IsNode g c m → P m ⊎ (P m → ⊥)) where
      Over : ℕ → ℕ → Type 0
      Over n m = P m × IsWithin g (node g c n) (node g c m) × (m ≡ n → ⊥)

      over_or : (n m : ℕ) → IsNode g c n → IsNode g c m → Over n m ⊎ (Over n m → ⊥)
      unfolding Over
      over_or n m hn hm = elim (decided m hm) [
        | inr k ↦ inr (λ o. k o.0)
        | inl p ↦ elim (within_or n m hn hm) [
          | inr k ↦ inr (λ o. k o.1)
          | inl w ↦ elim (eqb_tells m n) [ inl e ↦ inr (λ o. o.2 e.1) | inr e ↦ inl (p, w, e.1) ]
        ]
      ]

      not_same : (n m : ℕ) → (P m → IsWithin g (node g c n) (node g c m) → (m ≡ n → ⊥) → ⊥) → P m → IsWithin g (node g c n) (node g c m) → m ≡ n
      not_same n m h p w = elim (eqb_tells m n) [ inl e ↦ e.1 | inr e ↦ absurd (h p w e.1) ]

      left_here : (n : ℕ) → IsNode g c n → P n → ((m : ℕ) → m < length (subobjects_of g c) → Over n m → ⊥)
          → (m : ℕ) × IsNode g c m × IsLeft g c P m × IsWithin g (node g c n) (node g c m)
      unfolding Over
      left_here n hn p none = (n, hn, (p, λ m hm q w. not_same n m (λ x y z. none m hm (x, y, z)) q w), within-self g ok c (node g c n) (node_sub g ok c n hn))

      -- each lies in one that is left
      climb : (fuel n : ℕ) → IsNode g c n → P n → length g ≤ ok.rank (end_of (node g c n)) + fuel
          → (m : ℕ) × IsNode g c m × IsLeft g c P m × IsWithin g (node g c n) (node g c m)
      unfolding Over
      climb zero n hn p l = elim (search_below (Over n) (length (subobjects_of g c)) (λ m hm. over_or n m hn hm)) [
        | inr none ↦ left_here n hn p none
        | inl r ↦ (let h = higher n r.0 hn r.1 r.2.1 r.2.2 in let d = deep g ok (end_of (node g c r.0)) in absurd (omega arith))
      ]
      climb (suc fuel) n hn p l = elim (search_below (Over n) (length (subobjects_of g c)) (λ m hm. over_or n m hn hm)) [
        | inr none ↦ left_here n hn p none
        | inl r ↦ (let h = higher n r.0 hn r.1 r.2.1 r.2.2 in
            let i = climb fuel r.0 r.1 r.2.0 (omega arith) in
            (i.0, i.1, i.2, within-within g ok c (node g c i.0) (node g c r.0) (node g c n) (node_sub g ok c i.0 i.1) i.3 r.2.1))
      ]

      Outside : ℕ → ℕ → Type 0
      Outside n m = P m × (IsWithin g (node g c m) (node g c n) → ⊥)

      outside_or : (n m : ℕ) → IsNode g c n → IsNode g c m → Outside n m ⊎ (Outside n m → ⊥)
      unfolding Outside
      outside_or n m hn hm = elim (decided m hm) [
        | inr k ↦ inr (λ o. k o.0)
        | inl p ↦ elim (within_or m n hm hn) [ inl w ↦ inr (λ o. o.1 w) | inr k ↦ inl (p, k) ]
      ]

      all_inside : (n : ℕ) → IsNode g c n → ((m : ℕ) → m < length (subobjects_of g c) → Outside n m → ⊥) → ContainsAll g c P n (length (subobjects_of g c))
      unfolding Outside
      all_inside n hn none k hk p = elim (within_or k n hk hn) [ inl w ↦ w | inr q ↦ absurd (none k hk (p, q)) ]

      in_order : (a b : ℕ) → IsNode g c a → IsNode g c b → IsLeft g c P a → IsLeft g c P b → (a ≡ b → ⊥) → Picks up.Several (IsLeft g c P) (length (subobjects_of g c))
      in_order a b ha hb la lb ne = elim (three_ways a b ne) [ inl l ↦ (a, b, l, hb, la, lb) | inr l ↦ (b, a, l, ha, lb, la) ]

      -- where one has the property and none contains all, several are left
      pub tops_several : (n : ℕ) → IsNode g c n → P n → ((m : ℕ) → IsNode g c m → P m → ContainsAll g c P m (length (subobjects_of g c)) → ⊥)
          → Picks up.Several (IsLeft g c P) (length (subobjects_of g c))
      unfolding Outside
      tops_several n hn p never =
          let a = climb (length g) n hn p (omega arith) in
          elim (search_below (Outside a.0) (length (subobjects_of g c)) (λ m hm. outside_or a.0 m a.1 hm)) [
            | inr none ↦ absurd (never a.0 a.1 a.2.0 (all_inside a.0 a.1 none))
            | inl r ↦ (let b = climb (length g) r.0 r.1 r.2.0 (omega arith) in
                in_order a.0 b.0 a.1 b.1 a.2 b.2 (λ e. r.2.1 (subst (λ z. IsWithin g (node g c r.0) (node g c z)) (sym e) b.3)))
          ]

    -- ONE PASS FOR THE BEST
    pub best_first : (n : ℕ) → P n → ((m : ℕ) → m < n → P m → ⊥) → IsBest g c P n (n + 1)
    best_first n p none = record {
      below = omega arith;
      fits = p;
      only = λ m l q all. elim (last_or m n l) [ inl a ↦ absurd (none m a q) | inr e ↦ e ];
    }

    -- one that has not the property
    pub best_skip : (b n : ℕ) → (P n → ⊥) → IsBest g c P b n → IsBest g c P b (n + 1)
    best_skip b n never h = record {
      below = let l = h.below in omega arith;
      fits = h.fits;
      only = λ m l q all. elim (last_or m n l) [
        | inl a ↦ h.only m a q (λ k j r. all k (omega arith) r)
        | inr e ↦ absurd (never (subst P e q))
      ];
    }

    -- one that the best contains
    pub best_stays : (b n : ℕ) → IsNode g c n → P n → IsWithin g (node g c n) (node g c b) → IsBest g c P b n → IsBest g c P b (n + 1)
    best_stays b n hn p w h = record {
      below = let l = h.below in omega arith;
      fits = h.fits;
      only = λ m l q all. elim (last_or m n l) [
        | inl a ↦ h.only m a q (λ k j r. all k (omega arith) r)
        | inr e ↦ (let z = h.below in let v : IsWithin g (node g c b) (node g c n) = subst (λ y. IsWithin g (node g c b) (node g c y)) e (all b (omega arith) h.fits) in
            e ∙ contained_both n b hn (omega arith) w v)
      ];
    }

    -- one that the best does not contain
    pub best_moves : (b n : ℕ) → P n → (IsWithin g (node g c n) (node g c b) → ⊥) → IsBest g c P b n → IsBest g c P n (n + 1)
    best_moves b n p never h = record {
      below = omega arith;
      fits = p;
      only = λ m l q all. elim (last_or m n l) [
        | inl a ↦ (let e = h.only m a q (λ k j r. all k (omega arith) r) in
            absurd (never (subst (λ y. IsWithin g (node g c n) (node g c y)) e (all n (omega arith) p))))
        | inr e ↦ e
      ];
    }
