-- The steps of the loops that make a new class.
use Rattle.std.proofs.Common.{◌≡◌, ℕ, zero, suc, ◌+◌, ◌<◌, ◌≤◌, List, [], ◌∷◌, ◌++◌, length, get_or, take, drop, map, refl, sym, subst, ap, ap₂, ◌∙◌, inl, inr, arith, length-append, append-nil, append_assoc}
use Rattle.std.specs.Prelude.{Bool, true, false, cond, max, ◌||◌, Result, Ok, Err, IfErr, IsErrAnd}
use Rattle.std.specs.Bool.{Decides}
use Rattle.std.specs.List.{flat_map, list_any}
use Rattle.mm_classes.specs.declared.class.Member.{Member}
use Rattle.std.proofs.lemmas.List.{length-map, take_more, drop_more, take-append-drop, map-id, map-append, take_all}
use Rattle.std.proofs.lemmas.Grind.{flat_map-append}
use Rattle.mm_classes.specs.declared.class.Base.{Base}
use Rattle.mm_paths.specs.declared.entry.Node.{Node}
use Rattle.mm_classes.specs.Lists.{Has, first, later, with_new, with_all_new}
use Rattle.mm_classes.specs.Classes.{Class, IsComplete, IsPolymorphic, depth_of, most, is_virtual}
use Rattle.mm_classes.specs.Subobjects.{Path, plain_bases, met, chains, virtual_bases}
use Rattle.mm_classes.specs.Adding.{AreKnown, new_virtual_bases, new_chains, new_depth, IsNewPolymorphic, declares, inherits}
use Rattle.mm_paths.specs.Ends.{plain_block}
use Rattle.mm_paths.specs.Stored.{paths_in}
use Rattle.mm_classes.proofs.Lists.{with_all_new-append, Has-append}
use Rattle.mm_classes.proofs.Answering.{Has-get_or, complete_below}

pub all_new_more : (seen xs now : List ℕ) (i x : ℕ) → i < length xs → seen ≡ with_all_new now (take i xs) → (d : ℕ) → x ≡ get_or xs i d → with_new seen x ≡ with_all_new now (take (i + 1) xs)
all_new_more seen xs now i x l e d h =
    ap₂ with_new e h ∙ (sym (with_all_new-append now (take i xs) (get_or xs i d ∷ [])) ∙ ap (with_all_new now) (sym (take_more xs i d l)))

pub known_at : (g : List Class) (bs : List Base) (i : ℕ) (x : Base) → x ≡ get_or bs i x → AreKnown g bs → i < length bs → IsComplete g x.class
known_at g bs i x e k l = subst (λ (z : Base). IsComplete g z.class) (sym e) (let h = k (get_or bs i x) (Has-get_or bs i x l) in (complete_below g (get_or bs i x).class h, h))

pub has_here : {X : Type 0} (xs : List X) (i : ℕ) (x : X) → x ≡ get_or xs i x → i < length xs → Has xs x
has_here xs i x e l = subst (Has xs) (sym e) (Has-get_or xs i x l)

pub take_at_more : {X : Type 0} (xs : List X) (i : ℕ) (x : X) → x ≡ get_or xs i x → i < length xs → take (i + 1) xs ≡ take i xs ++ x ∷ []
take_at_more xs i x e l = take_more xs i x l ∙ ap (λ z. take i xs ++ z ∷ []) (sym e)

pub flat_map-split : {X Y : Type 0} (f : X → List Y) (xs : List X) (i : ℕ) (x : X) → x ≡ get_or xs i x → i < length xs
    → flat_map f xs ≡ flat_map f (take i xs) ++ (f x ++ flat_map f (drop (i + 1) xs))
flat_map-split f xs i x e l = ap (flat_map f) (sym (take-append-drop i xs) ∙ ap (λ z. take i xs ++ z) (drop_more xs i x l ∙ ap (λ z. z ∷ drop (i + 1) xs) (sym e))) ∙ flat_map-append f (take i xs) (x ∷ drop (i + 1) xs)

pub flat_map-more : {X Y : Type 0} (f : X → List Y) (xs : List X) (i : ℕ) (x : X) → x ≡ get_or xs i x → i < length xs
    → flat_map f (take (i + 1) xs) ≡ flat_map f (take i xs) ++ f x
flat_map-more f xs i x e l = ap (flat_map f) (take_at_more xs i x e l) ∙ (flat_map-append f (take i xs) (x ∷ []) ∙ ap (λ z. flat_map f (take i xs) ++ z) (append-nil (f x)))

pub virtual_bases_more : (g : List Class) (bs : List Base) (i : ℕ) (x : Base) (seen next : List ℕ) (more : List ℕ) → x ≡ get_or bs i x → i < length bs → seen ≡ new_virtual_bases g (take i bs)
    → more ≡ virtual_bases g x.class → next ≡ with_all_new seen (met x ++ more) → next ≡ new_virtual_bases g (take (i + 1) bs)
virtual_bases_more g bs i x seen next more ex l e m n =
    n ∙ (ap₂ (λ s k. with_all_new s (met x ++ k)) e m
    ∙ (sym (with_all_new-append [] (flat_map (λ (b : Base). met b ++ virtual_bases g b.class) (take i bs)) (met x ++ virtual_bases g x.class))
    ∙ ap (with_all_new []) (sym (flat_map-more (λ (b : Base). met b ++ virtual_bases g b.class) bs i x ex l))))

most-more : (ns : List ℕ) (n : ℕ) → max n (most ns) ≡ most (ns ++ n ∷ [])
most-more [] n = refl
most-more (m ∷ ns) n = let i = most-more ns n in omega arith

pub any_has : {X : Type 0} (p : X → Bool) (xs : List X) → list_any p xs ≡ true → (x : X) × Has xs x × (p x ≡ true)
any_has p [] e = (let z : false ≡ true = e in cc)
any_has p (x ∷ xs) e = elim (p x) as (λ b. p x ≡ b → (b || list_any p xs) ≡ true → (y : _) × Has (x ∷ xs) y × (p y ≡ true)) [
  | true ↦ λ k h. (x, first refl, k)
  | false ↦ λ k h. let r = any_has p xs h in (r.0, later r.1, r.2)
] refl e

pub has_any : {X : Type 0} (p : X → Bool) (xs : List X) (x : X) → Has xs x → p x ≡ true → list_any p xs ≡ true
has_any p [] x h e = elim h [ ]
has_any p (y ∷ xs) x (first k) e = let z : p y ≡ true = ap p k ∙ e in rw z refl
has_any p (y ∷ xs) x (later h) e = let i = has_any p xs x h e in elim (p y) as (λ b. (b || list_any p xs) ≡ true) [ true ↦ refl | false ↦ i ]

pub virtual_declared : (g : List Class) (bs : List Base) (ms : List Member) (r : Bool) → r ≡ list_any is_virtual ms → r ≡ true → IsNewPolymorphic g bs ms
virtual_declared g bs ms r e t = declares (any_has is_virtual ms (sym e ∙ t))

pub virtual_inherited : (g : List Class) (bs : List Base) (ms : List Member) (r q : Bool) → r ≡ list_any is_virtual ms → r ≡ false
    → Decides q ((b : Base) × Has bs b × IsPolymorphic g b.class) → Decides q (IsNewPolymorphic g bs ms)
virtual_inherited g bs ms r q e f d = (
  (λ t. let h = d.0 t in inherits h.0 h.1 h.2),
  λ p. elim p [
    | declares v ↦ (let z : false ≡ true = sym f ∙ (e ∙ has_any is_virtual ms v.0 v.1 v.2) in cc)
    | inherits b h k ↦ d.1 (b, h, k)
  ],
)

pub depth_more : (g : List Class) (bs : List Base) (i : ℕ) (x : Base) (d k n : ℕ) → x ≡ get_or bs i x → i < length bs → d ≡ new_depth g (take i bs)
    → k ≡ depth_of g x.class → n ≡ max (k + 1) d → n ≡ new_depth g (take (i + 1) bs)
depth_more g bs i x d k n ex l e m h = h ∙ (ap₂ (λ p q. max (p + 1) q) m e ∙ (most-more (map (λ (b : Base). depth_of g b.class + 1) (take i bs)) (depth_of g x.class + 1)
    ∙ (ap most (sym (map-append (λ (b : Base). depth_of g b.class + 1) (take i bs) (x ∷ []))) ∙ ap (new_depth g) (sym (take_at_more bs i x ex l)))))

pub has_take : {X : Type 0} (xs : List X) (i : ℕ) {x : X} → Has (take i xs) x → Has xs x
has_take xs zero h = elim h [ ]
has_take [] (suc i) h = elim h [ ]
has_take (y ∷ xs) (suc i) (first e) = first e
has_take (y ∷ xs) (suc i) (later h) = later (has_take xs i h)

pub never_polymorphic : (g : List Class) (bs : List Base) (i : ℕ) → length bs ≤ i → ((b : Base) → Has (take i bs) b → IsPolymorphic g b.class → ⊥)
    → Decides false ((b : Base) × Has bs b × IsPolymorphic g b.class)
never_polymorphic g bs i l h = ((λ e. cc), λ p. absurd (h p.0 (subst (λ (z : List Base). Has z p.0) (sym (take_all i bs l)) p.1) p.2))

pub none_polymorphic : (g : List Class) (bs : List Base) (i : ℕ) (x : Base) → x ≡ get_or bs i x → i < length bs → ((b : Base) → Has (take i bs) b → IsPolymorphic g b.class → ⊥)
    → (IsPolymorphic g x.class → ⊥) → (b : Base) → Has (take (i + 1) bs) b → IsPolymorphic g b.class → ⊥
none_polymorphic g bs i x ex l h k b m p = elim (Has-append (take i bs) (x ∷ []) (subst (λ z. Has z b) (take_at_more bs i x ex l) m)) [
  | inl a ↦ h b a p
  | inr r ↦ elim r [ first e ↦ k (subst (λ (z : Base). IsPolymorphic g z.class) (sym e) p) | later w ↦ elim w [ ] ]
]

pub plain_blocks : (c : ℕ) (f : ℕ → List Path) (bs : List Base) → flat_map (λ b. map (λ p. c ∷ p) (f b)) (plain_bases bs) ≡ flat_map (λ (b : Base). plain_block c b (f b.class)) bs
plain_blocks c f [] = refl
plain_blocks c f (b ∷ bs) = elim b.shared as (λ s. flat_map (λ b. map (λ p. c ∷ p) (f b)) (cond s (plain_bases bs) (b.class ∷ plain_bases bs)) ≡ cond s [] (map (λ p. c ∷ p) (f b.class)) ++ flat_map (λ (b : Base). plain_block c b (f b.class)) bs) [
  | true ↦ plain_blocks c f bs
  | false ↦ ap (λ z. map (λ p. c ∷ p) (f b.class) ++ z) (plain_blocks c f bs)
]

counts : (n o f1 f2 w g1 gb gr o2 : ℕ) → 256 < n + o → f1 ≡ g1 → w ≡ f2 → f2 ≡ g1 + gr → gr ≡ o2 + gb → n ≡ suc f1 → o ≡ o2 → 256 < suc w
counts n o f1 f2 w g1 gb gr o2 h a b c d e f = omega arith

-- one more base, or one too many
module _ (g : List Class) (c : ℕ) (bs : List Base) (i : ℕ) (x : Base) (ex : x ≡ get_or bs i x) (l : i < length bs) (own : List Path) (o : own ≡ chains g (length g) x.class) where
  pub own_more : (done next : List Path) → done ≡ new_chains g c (take i bs) → next ≡ done ++ plain_block c x own → next ≡ new_chains g c (take (i + 1) bs)
  own_more done next e n = n ∙ (ap₂ (λ y z. y ++ plain_block c x z) e o
      ∙ ap (λ (ps : List Path). (c ∷ []) ∷ ps)
      (ap (λ y. y ++ plain_block c x (chains g (length g) x.class)) (plain_blocks c (chains g (length g)) (take i bs))
      ∙ (sym (flat_map-more (λ (b : Base). plain_block c b (chains g (length g) b.class)) bs i x ex l)
      ∙ sym (plain_blocks c (chains g (length g)) (take (i + 1) bs)))))

  pub own_many : (ns : List Node) → paths_in ns ≡ new_chains g c (take i bs) → 256 < length ns + length (plain_block c x own) → 256 < length (new_chains g c bs)
  own_many ns e n =
      let a = ap length (plain_blocks c (chains g (length g)) (take i bs)) in
      let b = ap length (plain_blocks c (chains g (length g)) bs ∙ flat_map-split (λ (b : Base). plain_block c b (chains g (length g) b.class)) bs i x ex l) in
      let f = length-append (flat_map (λ (b : Base). plain_block c b (chains g (length g) b.class)) (take i bs)) (plain_block c x (chains g (length g) x.class) ++ flat_map (λ (b : Base). plain_block c b (chains g (length g) b.class)) (drop (i + 1) bs)) in
      let h = length-append (plain_block c x (chains g (length g) x.class)) (flat_map (λ (b : Base). plain_block c b (chains g (length g) b.class)) (drop (i + 1) bs)) in
      let p = length-map ns (λ (x : Node). x.path.items) in
      let q = ap length e in
      let r = ap (λ y. length (plain_block c x y)) o in
      counts (length ns) (length (plain_block c x own)) _ _ _ _ _ _ _ n a b f h (sym p ∙ q) r

pub shared_more : (f : ℕ → List Path) (old done next own : List Path) (vs : List ℕ) (i : ℕ) (x : ℕ) → x ≡ get_or vs i x → i < length vs → own ≡ f x
    → done ≡ old ++ flat_map f (take i vs) → next ≡ done ++ map (λ p. [] ++ p) own → next ≡ old ++ flat_map f (take (i + 1) vs)
shared_more f old done next own vs i x ex l o e n = n ∙ (ap₂ (λ y z. y ++ z) e (map-id own ∙ o)
    ∙ (append_assoc old (flat_map f (take i vs)) (f x) ∙ ap (λ z. old ++ z) (sym (flat_map-more f vs i x ex l))))

pub shared_many : (f : ℕ → List Path) (olds ns : List Node) (own : List Node) (vs : List ℕ) (i : ℕ) (x : ℕ) → x ≡ get_or vs i x → i < length vs → paths_in own ≡ f x
    → paths_in ns ≡ paths_in olds ++ flat_map f (take i vs) → 256 < length ns + length own → 256 < length olds + length (flat_map f vs)
shared_many f olds ns own vs i x ex l o e n =
    let a = ap length (flat_map-split f vs i x ex l) in
    let b = length-append (flat_map f (take i vs)) (f x ++ flat_map f (drop (i + 1) vs)) in
    let c = length-append (f x) (flat_map f (drop (i + 1) vs)) in
    let p = length-map ns (λ (x : Node). x.path.items) in
    let q = length-map olds (λ (x : Node). x.path.items) in
    let r = length-map own (λ (x : Node). x.path.items) in
    let s = ap length e in
    let t = length-append (paths_in olds) (flat_map f (take i vs)) in
    let u = ap length o in omega arith

-- an error that is passed on
pub err_moved : {A E : Type 0} (r : Result A E) (x m : E) (P : Type 0) → IsErrAnd r (λ e. e ≡ x) → (x ≡ m → P) → IfErr r (λ e. e ≡ m → P)
err_moved (Ok v) x m P h k = tt
err_moved (Err e) x m P h k = λ q. k (sym h ∙ q)
