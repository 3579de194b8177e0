-- What stands in `subobjects_of`: exactly the paths of `IsSubobject`, each once.
use Rattle.std.proofs.Common.{◌≡◌, ℕ, zero, suc, ◌<◌, ◌≤◌, List, [], ◌∷◌, ◌++◌, length, map, refl, sym, subst, ap, ◌∙◌, inl, inr, arith}
use Rattle.std.specs.Prelude.{true, false, cond}
use Rattle.std.specs.List.{flat_map}
use Rattle.mm_classes.specs.declared.class.Base.{Base}
use Rattle.mm_classes.specs.Lists.{Has, first, later, Distinct}
use Rattle.mm_classes.specs.Classes.{Class, bases_of, IsClassList, complete_count}
use Rattle.mm_classes.specs.Subobjects.{Path, IsChain, IsVirtual, listed, below, IsSubobject, plain_bases, chains, met, walk, virtual_bases, subobjects_of, last_of}
use Rattle.mm_classes.proofs.Lists.{Has-left, Has-right, Has-append, Has-map, Has-map_from, Has-flat_map, Has-flat_map_from, flat_map-same, Distinct-append, Distinct-map, Distinct-flat_map, no_elements, with_all_new-from, with_all_new-has, with_all_new-Distinct}

-- the non-virtual bases
pub plain_is : (bs : List Base) {c : ℕ} → Has (plain_bases bs) c → (x : Base) × Has bs x × (x.shared ≡ false) × (x.class ≡ c)
plain_is [] h = elim h [ ]
plain_is (b ∷ bs) {c = c} h = elim b.shared as (λ s. b.shared ≡ s → Has (cond s (plain_bases bs) (b.class ∷ plain_bases bs)) c → (x : Base) × Has (b ∷ bs) x × (x.shared ≡ false) × (x.class ≡ c)) [
  | true ↦ λ e k. let r = plain_is bs k in (r.0, later r.1, r.2, r.3)
  | false ↦ λ e k. elim k [ first f ↦ (b, first refl, e, f) | later j ↦ let r = plain_is bs j in (r.0, later r.1, r.2, r.3) ]
] refl h

pub is_plain : (bs : List Base) (x : Base) → Has bs x → x.shared ≡ false → Has (plain_bases bs) x.class
is_plain [] x h e = elim h [ ]
is_plain (b ∷ bs) x (first f) e = rw (f, e) (first refl)
is_plain (b ∷ bs) x (later h) e = elim b.shared as (λ s. Has (cond s (plain_bases bs) (b.class ∷ plain_bases bs)) x.class) [
  | true ↦ is_plain bs x h e
  | false ↦ later (is_plain bs x h e)
]

pub plain-Distinct : (bs : List Base) → Distinct (map (λ (b : Base). b.class) bs) → Distinct (plain_bases bs)
plain-Distinct [] d = tt
plain-Distinct (b ∷ bs) d = elim b.shared as (λ s. Distinct (cond s (plain_bases bs) (b.class ∷ plain_bases bs))) [
  | true ↦ plain-Distinct bs d.1
  | false ↦ ((λ h. let r = plain_is bs h in d.0 (subst (λ w. Has (map (λ (b : Base). b.class) bs) w) r.3 (Has-map (λ (b : Base). b.class) bs r.1))), plain-Distinct bs d.1)
]

-- chains holds the chains
pub chains_is : (g : List Class) (n c : ℕ) {p : Path} → Has (chains g n c) p → (t : Path) × (p ≡ c ∷ t) × IsChain g c t
chains_is g zero c (first e) = ([], sym e, tt)
chains_is g zero c (later h) = elim h [ ]
chains_is g (suc n) c (first e) = ([], sym e, tt)
chains_is g (suc n) c (later h) =
    let r = Has-flat_map_from (λ b. map (λ p. c ∷ p) (chains g n b)) (plain_bases (bases_of g c)) h in
    let s = Has-map_from (λ p. c ∷ p) (chains g n r.0) r.2 in
    let i = chains_is g n r.0 s.1 in
    (r.0 ∷ i.0, sym s.2 ∙ ap (λ (q : Path). c ∷ q) i.1, (plain_is (bases_of g c) r.1, i.2))

pub complete_count-le : (g : List Class) → complete_count g ≤ length g
complete_count-le [] = omega arith
complete_count-le (c ∷ cs) = let i = complete_count-le cs in elim c.complete as (λ b. cond b (suc (complete_count cs)) (complete_count cs) ≤ suc (length cs)) [
  | true ↦ omega arith
  | false ↦ omega arith
]

pub met_is : (b : Base) (v : ℕ) → Has (met b) v → (b.shared ≡ true) × (b.class ≡ v)
met_is b v h = elim b.shared as (λ s. Has (cond s (b.class ∷ []) []) v → (s ≡ true) × (b.class ≡ v)) [
  | true ↦ λ k. elim k [ first e ↦ (refl, e) | later z ↦ elim z [ ] ]
  | false ↦ λ k. elim k [ ]
] h

module _ (g : List Class) (ok : IsClassList g) where
  pub is_chains : (n c : ℕ) → ok.rank c ≤ n → (t : Path) → IsChain g c t → Has (chains g n c) (c ∷ t)
  is_chains zero c le [] k = first refl
  is_chains (suc n) c le [] k = first refl
  is_chains zero c le (b ∷ t) k =
      let f = ok.falls c k.0.0 k.0.1 in absurd (omega arith)
  is_chains (suc n) c le (b ∷ t) k =
      let f : ok.rank b < ok.rank c = subst (λ w. ok.rank w < ok.rank c) k.0.3 (ok.falls c k.0.0 k.0.1) in
      let m : Has (plain_bases (bases_of g c)) b = subst (λ w. Has (plain_bases (bases_of g c)) w) k.0.3 (is_plain (bases_of g c) k.0.0 k.0.1 k.0.2) in
      later (Has-flat_map (λ b. map (λ p. c ∷ p) (chains g n b)) (plain_bases (bases_of g c)) b m
      (Has-map (λ p. c ∷ p) (chains g n b) (is_chains n b (omega arith) t k.1)))

  pub no_bases : (c : ℕ) → ok.rank c ≤ 0 → bases_of g c ≡ []
  no_bases c a = no_elements (bases_of g c) (λ x h. let f = ok.falls c x h in omega arith)

  no_plain : (c : ℕ) → ok.rank c ≤ 0 → plain_bases (bases_of g c) ≡ []
  no_plain c a = rw (no_bases c a) refl

  -- the length of the list bounds the depth
  pub deep : (c : ℕ) → ok.rank c ≤ length g
  deep c = let l = ok.low c in let k = complete_count-le g in omega arith

  pub chains-same : (n m c : ℕ) → ok.rank c ≤ n → ok.rank c ≤ m → chains g n c ≡ chains g m c
  chains-same zero zero c a b = refl
  chains-same (suc n) (suc m) c a b = ap (λ (ps : List Path). (c ∷ []) ∷ ps)
      (flat_map-same (λ b. map (λ p. c ∷ p) (chains g n b)) (λ b. map (λ p. c ∷ p) (chains g m b)) (plain_bases (bases_of g c)) (λ x h.
      let r = plain_is (bases_of g c) h in
      let f : ok.rank x < ok.rank c = subst (λ w. ok.rank w < ok.rank c) r.3 (ok.falls c r.0 r.1) in
      ap (map (λ (p : Path). c ∷ p)) (chains-same n m x (omega arith) (omega arith))))
  chains-same zero (suc m) c a b = rw (no_plain c a) refl
  chains-same (suc n) zero c a b = rw (no_plain c b) refl

  -- what the walk meets
  pub walk_is : (n c : ℕ) (v : ℕ) → Has (walk g n c) v → IsVirtual g c v
  walk_is zero c v h = elim h [ ]
  walk_is (suc n) c v h =
      let r = Has-flat_map_from (λ (b : Base). met b ++ walk g n b.class) (bases_of g c) h in
      elim (Has-append (met r.0) (walk g n r.0.class) r.2) [
        | inl a ↦ (let m = met_is r.0 v a in listed r.0 r.1 m.0 m.1)
        | inr k ↦ below r.0 r.1 (walk_is n r.0.class v k)
      ]

  pub is_walk : (n c v : ℕ) → ok.rank c ≤ n → IsVirtual g c v → Has (walk g n c) v
  is_walk zero c v le (listed x h s e) = let f = ok.falls c x h in absurd (omega arith)
  is_walk zero c v le (below x h k) = let f = ok.falls c x h in absurd (omega arith)
  is_walk (suc n) c v le (listed x h s e) = Has-flat_map (λ (b : Base). met b ++ walk g n b.class) (bases_of g c) x h
      (Has-left (met x) (walk g n x.class) (rw s (first e)))
  is_walk (suc n) c v le (below x h k) = let f = ok.falls c x h in
      Has-flat_map (λ (b : Base). met b ++ walk g n b.class) (bases_of g c) x h
      (Has-right (met x) (walk g n x.class) (is_walk n x.class v (omega arith) k))

  pub walk-same : (n m c : ℕ) → ok.rank c ≤ n → ok.rank c ≤ m → walk g n c ≡ walk g m c
  walk-same zero zero c a b = refl
  walk-same (suc n) (suc m) c a b =
      flat_map-same (λ (b : Base). met b ++ walk g n b.class) (λ (b : Base). met b ++ walk g m b.class) (bases_of g c) (λ x h.
      let f = ok.falls c x h in ap (λ xs. met x ++ xs) (walk-same n m x.class (omega arith) (omega arith)))
  walk-same zero (suc m) c a b = rw (no_bases c a) refl
  walk-same (suc n) zero c a b = rw (no_bases c b) refl

  -- a virtual base stands lower
  pub virtual_falls : (c v : ℕ) → IsVirtual g c v → ok.rank v < ok.rank c
  virtual_falls c v (listed x h s e) = subst (λ w. ok.rank w < ok.rank c) e (ok.falls c x h)
  virtual_falls c v (below x h k) = let f = ok.falls c x h in let i = virtual_falls x.class v k in omega arith

  pub chain_falls : (c : ℕ) (t : Path) → IsChain g c t → ok.rank (last_of c t) ≤ ok.rank c
  chain_falls c [] k = omega arith
  chain_falls c (b ∷ t) k =
      let f : ok.rank b < ok.rank c = subst (λ w. ok.rank w < ok.rank c) k.0.3 (ok.falls c k.0.0 k.0.1) in
      let i = chain_falls b t k.1 in omega arith

  -- each once
  pub chains-Distinct : (n c : ℕ) → Distinct (chains g n c)
  chains-Distinct zero c = ((λ h. elim h [ ]), tt)
  chains-Distinct (suc n) c = (
    (λ h.
        let r = Has-flat_map_from (λ b. map (λ p. c ∷ p) (chains g n b)) (plain_bases (bases_of g c)) h in
        let s = Has-map_from (λ p. c ∷ p) (chains g n r.0) r.2 in
        let i = chains_is g n r.0 s.1 in cc),
    Distinct-flat_map (λ b. map (λ p. c ∷ p) (chains g n b)) (plain_bases (bases_of g c)) (plain-Distinct (bases_of g c) (ok.once c))
        (λ b h. Distinct-map (λ (p : Path). c ∷ p) (chains g n b) (λ x y e. (cc)) (chains-Distinct n b))
        (λ b d p h k.
        let s = Has-map_from (λ p. c ∷ p) (chains g n b) h in
        let t = Has-map_from (λ p. c ∷ p) (chains g n d) k in
        let i = chains_is g n b s.1 in
        let j = chains_is g n d t.1 in cc),
  )

  -- which
  pub subobjects_are : (d : ℕ) (p : Path) → Has (subobjects_of g d) p → IsSubobject g d p
  subobjects_are d p h = elim (Has-append (chains g (length g) d) (flat_map (chains g (length g)) (virtual_bases g d)) h) [
    | inl a ↦ (let i = chains_is g (length g) d a in subst (IsSubobject g d) (sym i.1) (inl refl, i.2))
    | inr b ↦ (let r = Has-flat_map_from (chains g (length g)) (virtual_bases g d) b in
        let i = chains_is g (length g) r.0 r.2 in
        let v = elim (with_all_new-from [] (walk g (length g) d) r.0 r.1) as (λ _. IsVirtual g d r.0) [ inl z ↦ elim z [ ] | inr w ↦ walk_is (length g) d r.0 w ] in
        subst (IsSubobject g d) (sym i.1) (inr v, i.2))
  ]

  pub are_subobjects : (d : ℕ) (p : Path) → IsSubobject g d p → Has (subobjects_of g d) p
  are_subobjects d [] h = absurd h
  are_subobjects d (c ∷ t) h = elim h.0 [
    | inl e ↦ Has-left (chains g (length g) d) (flat_map (chains g (length g)) (virtual_bases g d))
        (subst (λ w. Has (chains g (length g) w) (c ∷ t)) e (is_chains (length g) c (deep c) t h.1))
    | inr v ↦ Has-right (chains g (length g) d) (flat_map (chains g (length g)) (virtual_bases g d))
        (Has-flat_map (chains g (length g)) (virtual_bases g d) c
        (with_all_new-has [] (walk g (length g) d) c (is_walk (length g) d c (deep d) v))
        (is_chains (length g) c (deep c) t h.1))
  ]

  pub subobjects-Distinct : (d : ℕ) → Distinct (subobjects_of g d)
  subobjects-Distinct d = Distinct-append (chains g (length g) d) (flat_map (chains g (length g)) (virtual_bases g d))
      (chains-Distinct (length g) d)
      (Distinct-flat_map (chains g (length g)) (virtual_bases g d) (with_all_new-Distinct [] (walk g (length g) d) tt)
      (λ v h. chains-Distinct (length g) v)
      (λ v w p h k. let i = chains_is g (length g) v h in let j = chains_is g (length g) w k in cc))
      (λ p h k.
      let r = Has-flat_map_from (chains g (length g)) (virtual_bases g d) k in
      let i = chains_is g (length g) d h in
      let j = chains_is g (length g) r.0 r.2 in
      let v = elim (with_all_new-from [] (walk g (length g) d) r.0 r.1) as (λ _. IsVirtual g d r.0) [ inl z ↦ elim z [ ] | inr w ↦ walk_is (length g) d r.0 w ] in
      let f = virtual_falls d r.0 v in
      let e : d ≡ r.0 = cc in
      let f2 : ok.rank d < ok.rank d = subst (λ w. ok.rank w < ok.rank d) (sym e) f in
      omega arith)
