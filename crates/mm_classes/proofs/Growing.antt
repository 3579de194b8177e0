-- What stays where a class is declared or completed, and what the new class has.
use Rattle.std.proofs.Common.{◌≡◌, ◌≢◌, ℕ, zero, suc, ◌+◌, ◌<◌, ◌≤◌, List, [], ◌∷◌, ◌++◌, length, set, map, refl, sym, subst, ap, ap₂, ◌∙◌, inl, inr, arith, length-set}
use Rattle.std.specs.Prelude.{true, false, cond, ◌⊎◌, nat_eq}
use Rattle.std.specs.List.{flat_map}
use Rattle.std.proofs.lemmas.Bool.Decides.{eqb_tells}
use Rattle.std.proofs.lemmas.List.{get_or-set_same, get_or-set_other}
use Rattle.mm_classes.specs.declared.class.Base.{Base}
use Rattle.mm_classes.specs.declared.class.Member.{Member}
use Rattle.mm_classes.specs.Lists.{Has, Distinct, firsts, with_all_new}
use Rattle.mm_classes.specs.Classes.{Class, class_at, bases_of, members_of, names_in, name_of, unknown, IsClassList, HasVirtual, AreTyped, IsMemberList, Derives, direct, through, IsPolymorphic, complete_count, most, depth_within, depth_of}
use Rattle.mm_classes.specs.Subobjects.{Path, plain_bases, chains, met, walk, virtual_bases, subobjects_of}
use Rattle.mm_classes.specs.Adding.{added, CanAdd, new_class, new_virtual_bases, new_chains, new_subobjects, new_depth, IsNewPolymorphic, declares, inherits}
use Rattle.mm_classes.proofs.Lists.{flat_map-same, Has-append, Has-flat_map_from, with_all_new-append, with_all_new-from, with_firsts}
use Rattle.mm_classes.proofs.Subs.{plain_is, chains-same, walk-same, walk_is, no_bases, deep, met_is}
use Rattle.mm_classes.proofs.Answering.{virtual_complete}
use Rattle.mm_classes.proofs.Depth.{map-same, depth-all, depth-unfold}

each_once : (f : ℕ → List ℕ) (bs : List Base) (seen : List ℕ)
    → with_all_new seen (flat_map (λ (b : Base). met b ++ firsts (f b.class)) bs) ≡ with_all_new seen (flat_map (λ (b : Base). met b ++ f b.class) bs)
each_once f [] seen = refl
each_once f (b ∷ bs) seen =
    with_all_new-append seen (met b ++ firsts (f b.class)) (flat_map (λ (b : Base). met b ++ firsts (f b.class)) bs)
    ∙ (each_once f bs (with_all_new seen (met b ++ firsts (f b.class)))
    ∙ (ap (λ s. with_all_new s (flat_map (λ (b : Base). met b ++ f b.class) bs))
    (with_all_new-append seen (met b) (firsts (f b.class)) ∙ (with_firsts (with_all_new seen (met b)) (f b.class) ∙ sym (with_all_new-append seen (met b) (f b.class))))
    ∙ sym (with_all_new-append seen (met b ++ f b.class) (flat_map (λ (b : Base). met b ++ f b.class) bs))))

-- equations with no bound on the depth
module _ (g : List Class) (ok : IsClassList g) where
  chains-step : (n c : ℕ) → ok.rank c ≤ n → n ≤ length g → chains g n c ≡ (c ∷ []) ∷ flat_map (λ b. map (λ p. c ∷ p) (chains g (length g) b)) (plain_bases (bases_of g c))
  chains-step zero c le l = rw (no_bases g ok c le) refl
  chains-step (suc n) c le l = ap (λ (ps : List Path). (c ∷ []) ∷ ps)
      (flat_map-same (λ b. map (λ p. c ∷ p) (chains g n b)) (λ b. map (λ p. c ∷ p) (chains g (length g) b)) (plain_bases (bases_of g c)) (λ x h.
      let r = plain_is (bases_of g c) h in
      let f : ok.rank x < ok.rank c = subst (λ w. ok.rank w < ok.rank c) r.3 (ok.falls c r.0 r.1) in
      ap (map (λ (p : Path). c ∷ p)) (chains-same g ok n (length g) x (omega arith) (omega arith))))

  pub chains-unfold : (c : ℕ) → chains g (length g) c ≡ (c ∷ []) ∷ flat_map (λ b. map (λ p. c ∷ p) (chains g (length g) b)) (plain_bases (bases_of g c))
  chains-unfold c = chains-step (length g) c (deep g ok c) (omega arith)

  walk-step : (n c : ℕ) → ok.rank c ≤ n → n ≤ length g → walk g n c ≡ flat_map (λ (b : Base). met b ++ walk g (length g) b.class) (bases_of g c)
  walk-step zero c le l = rw (no_bases g ok c le) refl
  walk-step (suc n) c le l =
      flat_map-same (λ (b : Base). met b ++ walk g n b.class) (λ (b : Base). met b ++ walk g (length g) b.class) (bases_of g c) (λ x h.
      let f = ok.falls c x h in
      ap (λ xs. met x ++ xs) (walk-same g ok n (length g) x.class (omega arith) (omega arith)))

  pub virtual_bases-unfold : (c : ℕ) → virtual_bases g c ≡ firsts (flat_map (λ (b : Base). met b ++ virtual_bases g b.class) (bases_of g c))
  virtual_bases-unfold c = ap firsts (walk-step (length g) c (deep g ok c) (omega arith)) ∙ sym (each_once (λ x. walk g (length g) x) (bases_of g c) [])

pub virtual_bases_complete : (g : List Class) → IsClassList g → (c v : ℕ) → Has (virtual_bases g c) v → (class_at g v).complete ≡ true
virtual_bases_complete g ok c v h = elim (with_all_new-from [] (walk g (length g) c) v h) [
  | inl z ↦ elim z [ ]
  | inr k ↦ (virtual_complete g ok c v (walk_is g ok (length g) c v k)).1
]

complete_count-set : (g : List Class) (c : ℕ) (x : Class) → c < length g → (class_at g c).complete ≡ false → x.complete ≡ true → complete_count (set g c x) ≡ suc (complete_count g)
complete_count-set [] c x h k e = absurd (omega arith)
complete_count-set (y ∷ g) zero x h k e = rw (k, e) refl
complete_count-set (y ∷ g) (suc c) x h k e = let i = complete_count-set g c x (omega arith) k e in
    elim y.complete as (λ b. cond b (suc (complete_count (set g c x))) (complete_count (set g c x)) ≡ suc (cond b (suc (complete_count g)) (complete_count g))) [ true ↦ ap suc i | false ↦ i ]

-- a list that has the same complete classes, and maybe more
module _ (g g' : List Class) (ok : IsClassList g) (longer : length g ≤ length g') (same_class : (x : ℕ) → (class_at g x).complete ≡ true → class_at g' x ≡ class_at g x) where
  same : (x : ℕ) → (class_at g x).complete ≡ true → bases_of g' x ≡ bases_of g x
  same x k = ap (λ (c : Class). c.bases) (same_class x k)

  chains-kept : (n c : ℕ) → (class_at g c).complete ≡ true → chains g' n c ≡ chains g n c
  chains-kept zero c k = refl
  chains-kept (suc n) c k = rw (same c k) (ap (λ (ps : List Path). (c ∷ []) ∷ ps)
      (flat_map-same (λ b. map (λ p. c ∷ p) (chains g' n b)) (λ b. map (λ p. c ∷ p) (chains g n b)) (plain_bases (bases_of g c)) (λ x h.
      let r = plain_is (bases_of g c) h in
      ap (map (λ (p : Path). c ∷ p)) (chains-kept n x (subst (λ w. (class_at g w).complete ≡ true) r.3 (ok.known c r.0 r.1))))))

  pub chains-all_kept : (c : ℕ) → (class_at g c).complete ≡ true → chains g' (length g') c ≡ chains g (length g) c
  chains-all_kept c k = chains-kept (length g') c k ∙ chains-same g ok (length g') (length g) c (let d = deep g ok c in omega arith) (deep g ok c)

  walk-kept : (n c : ℕ) → (class_at g c).complete ≡ true → walk g' n c ≡ walk g n c
  walk-kept zero c k = refl
  walk-kept (suc n) c k = rw (same c k)
      (flat_map-same (λ (b : Base). met b ++ walk g' n b.class) (λ (b : Base). met b ++ walk g n b.class) (bases_of g c) (λ x h.
      ap (λ xs. met x ++ xs) (walk-kept n x.class (ok.known c x h))))

  pub virtual_bases-kept : (c : ℕ) → (class_at g c).complete ≡ true → virtual_bases g' c ≡ virtual_bases g c
  virtual_bases-kept c k = ap firsts (walk-kept (length g') c k ∙ walk-same g ok (length g') (length g) c (let d = deep g ok c in omega arith) (deep g ok c))

  pub subobjects-kept : (c : ℕ) → (class_at g c).complete ≡ true → subobjects_of g' c ≡ subobjects_of g c
  subobjects-kept c k = ap₂ (λ (x y : List Path). x ++ y) (chains-all_kept c k)
      (ap (flat_map (chains g' (length g'))) (virtual_bases-kept c k)
      ∙ flat_map-same (chains g' (length g')) (chains g (length g)) (virtual_bases g c) (λ v h. chains-all_kept v (virtual_bases_complete g ok c v h)))

  depth-kept : (n c : ℕ) → (class_at g c).complete ≡ true → depth_within g' n c ≡ depth_within g n c
  depth-kept zero c k = refl
  depth-kept (suc n) c k = rw (same c k)
      (ap most (map-same (λ (b : Base). depth_within g' n b.class + 1) (λ (b : Base). depth_within g n b.class + 1) (bases_of g c) (λ x h.
      ap (λ z. z + 1) (depth-kept n x.class (ok.known c x h)))))

  pub depth_of-kept : (c : ℕ) → (class_at g c).complete ≡ true → depth_of g' c ≡ depth_of g c
  depth_of-kept c k = depth-kept (length g') c k ∙ depth-all g ok (length g') c (let d = deep g ok c in omega arith)

  to_derives : (c b : ℕ) → (class_at g c).complete ≡ true → Derives g c b → Derives g' c b
  to_derives c b k (direct x h e) = direct x (subst (λ z. Has z x) (sym (same c k)) h) e
  to_derives c b k (through x h d) = through x (subst (λ z. Has z x) (sym (same c k)) h) (to_derives x.class b (ok.known c x h) d)

  from_derives : (c b : ℕ) → (class_at g c).complete ≡ true → Derives g' c b → Derives g c b
  from_derives c b k (direct x h e) = direct x (subst (λ z. Has z x) (same c k) h) e
  from_derives c b k (through x h d) = let i = subst (λ z. Has z x) (same c k) h in through x i (from_derives x.class b (ok.known c x i) d)

  pub derived_complete : (c b : ℕ) → Derives g c b → (class_at g b).complete ≡ true
  derived_complete c b (direct x h e) = subst (λ w. (class_at g w).complete ≡ true) e (ok.known c x h)
  derived_complete c b (through x h d) = derived_complete x.class b d

  reached_complete : (c b : ℕ) → (class_at g c).complete ≡ true → (c ≡ b) ⊎ Derives g c b → (class_at g b).complete ≡ true
  reached_complete c b k (inl e) = subst (λ w. (class_at g w).complete ≡ true) e k
  reached_complete c b k (inr d) = derived_complete c b d

  pub to_polymorphic : (c : ℕ) → (class_at g c).complete ≡ true → IsPolymorphic g c → IsPolymorphic g' c
  to_polymorphic c k p = (
    p.0,
    elim p.1 [ inl e ↦ inl e | inr d ↦ inr (to_derives c p.0 k d) ],
    subst HasVirtual (sym (ap (λ (x : Class). x.members) (same_class p.0 (reached_complete c p.0 k p.1)))) p.2,
  )

  pub from_polymorphic : (c : ℕ) → (class_at g c).complete ≡ true → IsPolymorphic g' c → IsPolymorphic g c
  from_polymorphic c k p =
      let r : (c ≡ p.0) ⊎ Derives g c p.0 = elim p.1 [ inl e ↦ inl e | inr d ↦ inr (from_derives c p.0 k d) ] in
      (p.0, r, subst HasVirtual (ap (λ (x : Class). x.members) (same_class p.0 (reached_complete c p.0 k r))) p.2)

differ : true ≡ false → ⊥
differ e = cc

names-set : (g : List Class) (c : ℕ) (x : Class) → c < length g → x.name ≡ name_of g c → names_in (set g c x) ≡ names_in g
names-set [] c x h e = absurd (omega arith)
names-set (y ∷ g) zero x h e = rw e refl
names-set (y ∷ g) (suc c) x h e = ap (λ (z : List (List ℕ)). y.name ∷ z) (names-set g c x (omega arith) e)

pub new_virtual_bases-complete : (g : List Class) → IsClassList g → (bs : List Base) → ((b : Base) → Has bs b → (class_at g b.class).complete ≡ true) → (v : ℕ) → Has (new_virtual_bases g bs) v → (class_at g v).complete ≡ true
new_virtual_bases-complete g ok bs known v h =
    elim (with_all_new-from [] (flat_map (λ (b : Base). met b ++ virtual_bases g b.class) bs) v h) [
      | inl z ↦ elim z [ ]
      | inr k ↦ (
          let r = Has-flat_map_from (λ (b : Base). met b ++ virtual_bases g b.class) bs k in
          elim (Has-append (met r.0) (virtual_bases g r.0.class) r.2) [
            | inl a ↦ (let m = met_is r.0 v a in subst (λ w. (class_at g w).complete ≡ true) m.1 (known r.0 r.1))
            | inr a ↦ virtual_bases_complete g ok r.0.class v a
          ])
    ]

pub added-names : (g : List Class) (c : ℕ) (bs : List Base) (ms : List Member) → c < length g → names_in (added g c bs ms) ≡ names_in g
added-names g c bs ms h = names-set g c (new_class g c bs ms) h refl

-- a class that was incomplete is completed by bases that are complete, each once
module _ (g : List Class) (ok : IsClassList g) (c : ℕ) (bs : List Base) (ms : List Member) (new : CanAdd g c bs ms) where
  pub at_new : class_at (added g c bs ms) c ≡ new_class g c bs ms
  at_new = get_or-set_same g c (new_class g c bs ms) unknown new.here

  pub at_other : (x : ℕ) → x ≢ c → class_at (added g c bs ms) x ≡ class_at g x
  at_other x ne = get_or-set_other g c x (new_class g c bs ms) unknown ne

  complete_other : (x : ℕ) → (class_at g x).complete ≡ true → x ≢ c
  complete_other x k e = let z : true ≡ false = sym k ∙ (ap (λ w. (class_at g w).complete) e ∙ new.incomplete) in cc

  rank' : ℕ → ℕ
  rank' x = cond (nat_eq x c) (suc (complete_count g)) (ok.rank x)

  rank-new : (x : ℕ) → x ≡ c → rank' x ≡ suc (complete_count g)
  unfolding rank'
  rank-new x e = elim (eqb_tells x c) [ inl y ↦ rw y.0 refl | inr n ↦ absurd (n.1 e) ]

  rank-other : (x : ℕ) → x ≢ c → rank' x ≡ ok.rank x
  unfolding rank'
  rank-other x ne = elim (eqb_tells x c) [ inl y ↦ absurd (ne y.1) | inr n ↦ rw n.0 refl ]

  pub added-valid : IsClassList (added g c bs ms)
  added-valid = record {
    rank = rank';
    low = λ x. let m = complete_count-set g c (new_class g c bs ms) new.here new.incomplete refl in
        elim (eqb_tells x c) [
          | inl y ↦ (let r = rank-new x y.1 in omega arith)
          | inr n ↦ (let r = rank-other x n.1 in let l = ok.low x in omega arith)
        ];
    falls = λ x b h. elim (eqb_tells x c) [
      | inl y ↦ (
          let hb : Has bs b = subst (λ z. Has z b) (ap (λ w. bases_of (added g c bs ms) w) y.1 ∙ ap (λ (k : Class). k.bases) at_new) h in
          let r = rank-new x y.1 in
          let q = rank-other b.class (complete_other b.class (new.known b hb)) in
          let l = ok.low b.class in omega arith)
      | inr n ↦ (
          let hb : Has (bases_of g x) b = subst (λ z. Has z b) (ap (λ (k : Class). k.bases) (at_other x n.1)) h in
          let r = rank-other x n.1 in
          let q = rank-other b.class (complete_other b.class (ok.known x b hb)) in
          let f = ok.falls x b hb in omega arith)
    ];
    known = λ x b h. elim (eqb_tells x c) [
      | inl y ↦ (
          let hb : Has bs b = subst (λ z. Has z b) (ap (λ w. bases_of (added g c bs ms) w) y.1 ∙ ap (λ (k : Class). k.bases) at_new) h in
          ap (λ (k : Class). k.complete) (at_other b.class (complete_other b.class (new.known b hb))) ∙ new.known b hb)
      | inr n ↦ (
          let hb : Has (bases_of g x) b = subst (λ z. Has z b) (ap (λ (k : Class). k.bases) (at_other x n.1)) h in
          ap (λ (k : Class). k.complete) (at_other b.class (complete_other b.class (ok.known x b hb))) ∙ ok.known x b hb)
    ];
    once = λ x. elim (eqb_tells x c) [
      | inl y ↦ subst (λ (z : List Base). Distinct (map (λ (b : Base). b.class) z)) (sym (ap (λ w. bases_of (added g c bs ms) w) y.1 ∙ ap (λ (k : Class). k.bases) at_new)) new.once
      | inr n ↦ subst (λ (z : List Base). Distinct (map (λ (b : Base). b.class) z)) (sym (ap (λ (k : Class). k.bases) (at_other x n.1))) (ok.once x)
    ];
    bare = λ x h. elim (eqb_tells x c) [
      | inl y ↦ (let z : true ≡ false = sym (ap (λ w. (class_at (added g c bs ms) w).complete) y.1 ∙ ap (λ (k : Class). k.complete) at_new) ∙ h in absurd (differ z))
      | inr n ↦ (
          let k = ok.bare x (sym (ap (λ (k : Class). k.complete) (at_other x n.1)) ∙ h) in
          (ap (λ (k : Class). k.bases) (at_other x n.1) ∙ k.0, ap (λ (k : Class). k.members) (at_other x n.1) ∙ k.1))
    ];
    members = λ x. elim (eqb_tells x c) [
      | inl y ↦ subst IsMemberList (sym (ap (λ w. members_of (added g c bs ms) w) y.1 ∙ ap (λ (k : Class). k.members) at_new)) new.members
      | inr n ↦ subst IsMemberList (sym (ap (λ (k : Class). k.members) (at_other x n.1))) (ok.members x)
    ];
    typed = λ x. elim (eqb_tells x c) [
      | inl y ↦ subst (AreTyped (length (added g c bs ms))) (sym (ap (λ w. members_of (added g c bs ms) w) y.1 ∙ ap (λ (k : Class). k.members) at_new))
          (subst (λ n. AreTyped n ms) (sym (length-set g c (new_class g c bs ms))) new.typed)
      | inr n ↦ subst (AreTyped (length (added g c bs ms))) (sym (ap (λ (k : Class). k.members) (at_other x n.1)))
          (subst (λ n. AreTyped n (members_of g x)) (sym (length-set g c (new_class g c bs ms))) (ok.typed x))
    ];
    named = subst Distinct (sym (names-set g c (new_class g c bs ms) new.here refl)) ok.named;
  }

  pub as_before : (x : ℕ) → (class_at g x).complete ≡ true → class_at (added g c bs ms) x ≡ class_at g x
  as_before x k = at_other x (complete_other x k)

  pub as_long : length g ≤ length (added g c bs ms)
  as_long = let l = length-set g c (new_class g c bs ms) in omega arith

  pub added-kept : (x : ℕ) → (class_at g x).complete ≡ true → subobjects_of (added g c bs ms) x ≡ subobjects_of g x
  added-kept = subobjects-kept g (added g c bs ms) ok as_long as_before

  pub added-virtual_bases_kept : (x : ℕ) → (class_at g x).complete ≡ true → virtual_bases (added g c bs ms) x ≡ virtual_bases g x
  added-virtual_bases_kept = virtual_bases-kept g (added g c bs ms) ok as_long as_before

  pub added-chains_kept : (x : ℕ) → (class_at g x).complete ≡ true → chains (added g c bs ms) (length (added g c bs ms)) x ≡ chains g (length g) x
  added-chains_kept = chains-all_kept g (added g c bs ms) ok as_long as_before

  pub new_bases : bases_of (added g c bs ms) c ≡ bs
  new_bases = ap (λ (k : Class). k.bases) at_new

  pub added-virtual_bases : virtual_bases (added g c bs ms) c ≡ new_virtual_bases g bs
  added-virtual_bases = virtual_bases-unfold (added g c bs ms) added-valid c
      ∙ (ap (λ (z : List Base). firsts (flat_map (λ (b : Base). met b ++ virtual_bases (added g c bs ms) b.class) z)) new_bases
      ∙ ap firsts (flat_map-same (λ (b : Base). met b ++ virtual_bases (added g c bs ms) b.class) (λ (b : Base). met b ++ virtual_bases g b.class) bs
      (λ b h. ap (λ z. met b ++ z) (added-virtual_bases_kept b.class (new.known b h)))))

  pub added-chains : chains (added g c bs ms) (length (added g c bs ms)) c ≡ new_chains g c bs
  added-chains = chains-unfold (added g c bs ms) added-valid c
      ∙ (ap (λ (z : List Base). (c ∷ []) ∷ flat_map (λ b. map (λ p. c ∷ p) (chains (added g c bs ms) (length (added g c bs ms)) b)) (plain_bases z)) new_bases
      ∙ ap (λ (ps : List Path). (c ∷ []) ∷ ps) (flat_map-same (λ b. map (λ p. c ∷ p) (chains (added g c bs ms) (length (added g c bs ms)) b)) (λ b. map (λ p. c ∷ p) (chains g (length g) b)) (plain_bases bs)
      (λ b h. let r = plain_is bs h in ap (map (λ (p : Path). c ∷ p)) (added-chains_kept b (subst (λ w. (class_at g w).complete ≡ true) r.3 (new.known r.0 r.1))))))

  pub added-subobjects : subobjects_of (added g c bs ms) c ≡ new_subobjects g c bs
  added-subobjects = ap₂ (λ (x y : List Path). x ++ y) added-chains
      (ap (flat_map (chains (added g c bs ms) (length (added g c bs ms)))) added-virtual_bases
      ∙ flat_map-same (chains (added g c bs ms) (length (added g c bs ms))) (chains g (length g)) (new_virtual_bases g bs) (λ v h. added-chains_kept v (new_virtual_bases-complete g ok bs new.known v h)))

  pub added-depth_kept : (x : ℕ) → (class_at g x).complete ≡ true → depth_of (added g c bs ms) x ≡ depth_of g x
  added-depth_kept = depth_of-kept g (added g c bs ms) ok as_long as_before

  pub added-depth : depth_of (added g c bs ms) c ≡ new_depth g bs
  added-depth = depth-unfold (added g c bs ms) added-valid c
      ∙ (ap (λ (z : List Base). most (map (λ (b : Base). depth_of (added g c bs ms) b.class + 1) z)) new_bases
      ∙ ap most (map-same (λ (b : Base). depth_of (added g c bs ms) b.class + 1) (λ (b : Base). depth_of g b.class + 1) bs
      (λ b h. ap (λ z. z + 1) (added-depth_kept b.class (new.known b h)))))

  pub added-to_polymorphic : (x : ℕ) → (class_at g x).complete ≡ true → IsPolymorphic g x → IsPolymorphic (added g c bs ms) x
  added-to_polymorphic = to_polymorphic g (added g c bs ms) ok as_long as_before

  pub added-from_polymorphic : (x : ℕ) → (class_at g x).complete ≡ true → IsPolymorphic (added g c bs ms) x → IsPolymorphic g x
  added-from_polymorphic = from_polymorphic g (added g c bs ms) ok as_long as_before

  new_members : members_of (added g c bs ms) c ≡ ms
  new_members = ap (λ (k : Class). k.members) at_new

  pub new_polymorphic : IsNewPolymorphic g bs ms → IsPolymorphic (added g c bs ms) c
  new_polymorphic (declares v) = (c, inl refl, subst HasVirtual (sym new_members) v)
  new_polymorphic (inherits b h p) =
      let q = added-to_polymorphic b.class (new.known b h) p in
      let k = subst (λ z. Has z b) (sym new_bases) h in
      (q.0, inr (elim q.1 [ inl e ↦ direct b k e | inr d ↦ through b k d ]), q.2)

  polymorphic_below : (b : ℕ) → Derives (added g c bs ms) c b → HasVirtual (members_of (added g c bs ms) b) → IsNewPolymorphic g bs ms
  polymorphic_below b (direct x h e) v =
      let k = subst (λ z. Has z x) new_bases h in
      inherits x k (added-from_polymorphic x.class (new.known x k) (b, inl e, v))
  polymorphic_below b (through x h d) v =
      let k = subst (λ z. Has z x) new_bases h in
      inherits x k (added-from_polymorphic x.class (new.known x k) (b, inr d, v))

  pub polymorphic_new : IsPolymorphic (added g c bs ms) c → IsNewPolymorphic g bs ms
  polymorphic_new p = elim p.1 [
    | inl e ↦ declares (subst HasVirtual (ap (λ w. members_of (added g c bs ms) w) (sym e) ∙ new_members) p.2)
    | inr d ↦ polymorphic_below p.0 d p.2
  ]
