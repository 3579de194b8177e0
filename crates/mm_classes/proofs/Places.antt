-- The place of a composition: the subobjects below a subobject stand together, and so do those of a virtual base.
use Rattle.std.proofs.Common.{◌≡◌, ◌≢◌, ℕ, ◌+◌, ◌-◌, ◌<◌, ◌≤◌, List, [], ◌∷◌, ◌++◌, length, get_or, take, drop, map, refl, sym, subst, ap, ap₂, ◌∙◌, arith, append_assoc, append-nil, length-append}
use Rattle.std.specs.List.{flat_map}
use Rattle.std.proofs.lemmas.List.{map-append, map-id, length-map, get_or-map, get_or_append_left, get_or-append_right}
use Rattle.std.proofs.lemmas.Simd.{map-map}
use Rattle.std.proofs.lemmas.Grind.{flat_map-append}
use Rattle.mm_classes.specs.Lists.{Has, Distinct}
use Rattle.mm_classes.specs.Classes.{Class, bases_of, IsClassList}
use Rattle.mm_classes.specs.Subobjects.{Path, plain_bases, chains, virtual_bases, subobjects_of, last_of, end_of, compose, IsSubobject, IsVirtual, walk}
use Rattle.mm_classes.specs.Questions.{node, IsNode, start_of}
use Rattle.mm_classes.proofs.Subs.{chains_is, chains-Distinct, virtual_falls}
use Rattle.mm_classes.proofs.Growing.{chains-unfold}
use Rattle.mm_classes.proofs.Depth.{map-same}
use Rattle.std.proofs.Math.Seq.{get_or-append_seam, take-append_seam}
use Rattle.mm_classes.proofs.Lists.{Has-flat_map_from, with_all_new-Distinct}
use Rattle.mm_classes.proofs.Within.{virtual_bases_are, are_virtual_bases}
use Rattle.mm_classes.proofs.Compose.{compose-on, compose-anew, sub_virtual}
use Rattle.mm_classes.proofs.Answering.{node_sub}
use Rattle.mm_classes.proofs.Cuts.{flat_map-cut, map-cut, cut_at, read_at, regroup, has_middle, has_at, one_place}

abbrev pub rest_of : Path → Path
rest_of [] = []
rest_of (c ∷ u) = u

-- the subobjects that go on from p
abbrev pub block_of : List Class → Path → List Path
block_of g p = map (λ q. p ++ rest_of q) (chains g (length g) (end_of p))

one_head : (h : ℕ) (t : Path) → h ∷ t ≡ h ∷ [] → t ≡ []
one_head h t e = cc

not_one : (h x : ℕ) (t : Path) → h ∷ (x ∷ t) ≡ h ∷ [] → ⊥
not_one h x t e = cc

rest_same : (h : ℕ) (t u : Path) → h ∷ t ≡ h ∷ u → t ≡ u
rest_same h t u e = cc

head_is : (x z : ℕ) (t u : Path) → x ∷ t ≡ z ∷ u → z ≡ x
head_is x z t u e = cc

list_head : (x y : Path) (xs ys : List Path) → x ∷ xs ≡ y ∷ ys → x ≡ y
list_head x y xs ys e = cc

list_tail : (x y : Path) (xs ys : List Path) → x ∷ xs ≡ y ∷ ys → xs ≡ ys
list_tail x y xs ys e = cc

joined : {X Y : Type 0} (f : X → List Y) (before : List X) (x : X) (after : List X) (left k e a : List Y) → f x ≡ left ++ (k ++ e) → a ≡ flat_map f before ++ left
    → flat_map f (before ++ x ∷ after) ≡ a ++ (k ++ (e ++ flat_map f after))
joined f before x after left k e a part place =
    flat_map-append f before (x ∷ after) ∙ (ap (λ z. flat_map f before ++ (z ++ flat_map f after)) part
    ∙ (regroup (flat_map f before) left k e (flat_map f after) ∙ ap (λ z. z ++ (k ++ (e ++ flat_map f after))) (sym place)))

module _ (g : List Class) (ok : IsClassList g) where
  links : ℕ → ℕ → List Path
  links h b = map (λ p. h ∷ p) (chains g (length g) b)

  whole_block : (h : ℕ) → block_of g (h ∷ []) ≡ chains g (length g) h
  whole_block h = map-same (λ q. (h ∷ []) ++ rest_of q) (λ q. q) (chains g (length g) h) (λ q k.
      let r = chains_is g (length g) h k in ap (λ z. h ∷ rest_of z) r.1 ∙ sym r.1) ∙ map-id (chains g (length g) h)

  pub chains-block : (h : ℕ) (t : Path) (a b : List Path) → chains g (length g) h ≡ a ++ (h ∷ t) ∷ b
      → (e : List Path) × (chains g (length g) h ≡ a ++ (block_of g (h ∷ t) ++ e))
  unfolding links
  chains-block h [] [] b e = ([], sym (whole_block h) ∙ sym (append-nil (block_of g (h ∷ []))))
  chains-block h [] (y ∷ a) b e =
      let u = chains-unfold g ok h in
      let r = list_tail (h ∷ []) y (flat_map (links h) (plain_bases (bases_of g h))) (a ++ (h ∷ []) ∷ b) (sym u ∙ e) in
      let d : Distinct ((h ∷ []) ∷ flat_map (links h) (plain_bases (bases_of g h))) = subst Distinct u (chains-Distinct g ok (length g) h) in
      absurd (d.0 (subst (λ z. Has z (h ∷ [])) (sym r) (has_middle a (h ∷ []) b)))
  chains-block h (x ∷ t) [] b e =
      absurd (not_one h x t (sym (list_head (h ∷ []) (h ∷ (x ∷ t)) (flat_map (links h) (plain_bases (bases_of g h))) b (sym (chains-unfold g ok h) ∙ e))))
  chains-block h (x ∷ t) (y ∷ a) b e =
      let u = chains-unfold g ok h in
      let all = flat_map (links h) (plain_bases (bases_of g h)) in
      let r : all ≡ a ++ (h ∷ (x ∷ t)) ∷ b = list_tail (h ∷ []) y all (a ++ (h ∷ (x ∷ t)) ∷ b) (sym u ∙ e) in
      let yh : h ∷ [] ≡ y = list_head (h ∷ []) y all (a ++ (h ∷ (x ∷ t)) ∷ b) (sym u ∙ e) in
      let c = flat_map-cut (links h) (plain_bases (bases_of g h)) a (h ∷ (x ∷ t)) b r in
      let m = map-cut (λ (p : Path). h ∷ p) (chains g (length g) c.at) c.left (h ∷ (x ∷ t)) c.right c.inner in
      let q : x ∷ t ≡ m.1 = rest_same h (x ∷ t) m.1 m.5 in
      let s = chains_is g (length g) c.at (subst (λ z. Has z m.1) (sym m.3) (has_middle m.0 m.1 m.2)) in
      let at : c.at ≡ x = head_is x c.at t s.0 (q ∙ s.1) in
      let here : chains g (length g) x ≡ m.0 ++ (x ∷ t) ∷ m.2 = ap (chains g (length g)) (sym at) ∙ (m.3 ∙ ap (λ z. m.0 ++ z ∷ m.2) (sym q)) in
      let i = chains-block x t m.0 m.2 here in
      let part : links h c.at ≡ c.left ++ (block_of g (h ∷ (x ∷ t)) ++ map (λ p. h ∷ p) i.0) =
      ap (links h) at ∙ (ap (map (λ p. h ∷ p)) i.1 ∙ (map-append (λ p. h ∷ p) m.0 (block_of g (x ∷ t) ++ i.0)
      ∙ ap₂ (λ y z. y ++ z) (sym m.4) (map-append (λ p. h ∷ p) (block_of g (x ∷ t)) i.0 ∙ ap (λ z. z ++ map (λ p. h ∷ p) i.0) (map-map (λ p. h ∷ p) (λ q. (x ∷ t) ++ rest_of q) (chains g (length g) (last_of x t)))))) in (
        map (λ p. h ∷ p) i.0 ++ flat_map (links h) c.after,
        u ∙ ap₂ (λ y z. y ∷ z) yh
            (ap (flat_map (links h)) c.whole ∙ joined (links h) c.before c.at c.after c.left (block_of g (h ∷ (x ∷ t))) (map (λ p. h ∷ p) i.0) a part c.place),
      )

  -- the subobjects that go on from one stand right behind it
  pub subobjects-block : (d : ℕ) (p : Path) (a b : List Path) → IsSubobject g d p → subobjects_of g d ≡ a ++ p ∷ b → (e : List Path) × (subobjects_of g d ≡ a ++ (block_of g p ++ e))
  subobjects-block d [] a b s e = absurd s
  subobjects-block d (h ∷ t) a b s e =
      let c = flat_map-cut (chains g (length g)) (d ∷ virtual_bases g d) a (h ∷ t) b e in
      let r = chains_is g (length g) c.at (subst (λ z. Has z (h ∷ t)) (sym c.inner) (has_middle c.left (h ∷ t) c.right)) in
      let at : c.at ≡ h = head_is h c.at t r.0 r.1 in
      let i = chains-block h t c.left c.right (ap (chains g (length g)) (sym at) ∙ c.inner) in
      let part : chains g (length g) c.at ≡ c.left ++ (block_of g (h ∷ t) ++ i.0) = ap (chains g (length g)) at ∙ i.1 in (
        i.0 ++ flat_map (chains g (length g)) c.after,
        ap (flat_map (chains g (length g))) c.whole ∙ joined (chains g (length g)) c.before c.at c.after c.left (block_of g (h ∷ t)) i.0 a part c.place,
      )

  -- a subobject that begins with the class of n stands n behind n
  pub place_on : (d n m : ℕ) → IsNode g d n → m < length (chains g (length g) (end_of (node g d n)))
      → IsNode g d (n + m) × (node g d (n + m) ≡ compose (node g d n) (node g (end_of (node g d n)) m))
  place_on d n m h l =
      let p = node g d n in
      let c = end_of p in
      let w = cut_at (subobjects_of g d) n [] h in
      let s = subobjects-block d p (take n (subobjects_of g d)) (drop (n + 1) (subobjects_of g d)) (node_sub g ok d n h) w.0 in
      let long : m < length (block_of g p) = (let k = length-map (chains g (length g) c) (λ q. p ++ rest_of q) in omega arith) in
      let r = read_at (take n (subobjects_of g d)) (block_of g p) s.0 m [] long in
      let at : get_or (subobjects_of g d) (length (take n (subobjects_of g d)) + m) [] ≡ get_or (block_of g p) m [] = ap (λ z. get_or z (length (take n (subobjects_of g d)) + m) []) s.1 ∙ r.1 in
      let q : get_or (block_of g p) m [] ≡ p ++ rest_of (get_or (chains g (length g) c) m []) = get_or-map (λ q. p ++ rest_of q) (chains g (length g) c) m [] [] l in
      let o : get_or (chains g (length g) c) m [] ≡ node g c m = sym (get_or_append_left (chains g (length g) c) (flat_map (chains g (length g)) (virtual_bases g c)) [] m l) in
      let b = chains_is g (length g) c (has_at (chains g (length g) c) m [] l) in (
        (let k = ap length s.1 in let z = r.0 in let y = w.1 in omega arith),
        ap (λ z. node g d (z + m)) (sym w.1) ∙ (at ∙ (q ∙ (ap (λ z. p ++ rest_of z) b.1 ∙ (sym (compose-on p c b.0 refl) ∙ ap (compose p) (sym b.1 ∙ o))))),
      )

  -- a subobject that does not begin with the class of n begins at a virtual base of that class, and of the whole
  pub head_virtual : (d n m : ℕ) (v : ℕ) → IsNode g d n → IsNode g (end_of (node g d n)) m → length (chains g (length g) (end_of (node g d n))) ≤ m
      → v ≡ get_or (node g (end_of (node g d n)) m) 0 v → Has (virtual_bases g (end_of (node g d n))) v × Has (virtual_bases g d) v
  head_virtual d n m v hn hm l e =
      let c = end_of (node g d n) in
      let all = flat_map (chains g (length g)) (virtual_bases g c) in
      let i : m - length (chains g (length g) c) < length all = (let k = length-append (chains g (length g) c) all in omega arith) in
      let q : node g c m ≡ get_or all (m - length (chains g (length g) c)) [] = get_or-append_right (chains g (length g) c) all (length (chains g (length g) c)) m [] refl l in
      let r = Has-flat_map_from (chains g (length g)) (virtual_bases g c) (subst (Has all) (sym q) (has_at all (m - length (chains g (length g) c)) [] i)) in
      let b = chains_is g (length g) r.0 r.2 in
      let same : r.0 ≡ v = sym (e ∙ ap (λ z. get_or z 0 v) b.1) in
      let h : Has (virtual_bases g c) v = subst (Has (virtual_bases g c)) same r.1 in
      (h, are_virtual_bases g ok d v (sub_virtual g d (node g d n) v (node_sub g ok d n hn) (virtual_bases_are g ok c v h)))

  -- where the subobjects of a virtual base begin
  pub base_block : (d k v : ℕ) → k < length (virtual_bases g d) → get_or (virtual_bases g d) k 0 ≡ v
      → (a r : List Path) × (subobjects_of g d ≡ a ++ (chains g (length g) v ++ r)) × (length a ≡ start_of g d k)
  base_block d k v l e =
      let w = cut_at (virtual_bases g d) k 0 l in
      let front = flat_map (chains g (length g)) (take k (virtual_bases g d)) in
      let back = flat_map (chains g (length g)) (drop (k + 1) (virtual_bases g d)) in (
        chains g (length g) d ++ front,
        back,
        ap (λ z. chains g (length g) d ++ z) (ap (flat_map (chains g (length g))) w.0 ∙ (flat_map-append (chains g (length g)) (take k (virtual_bases g d)) (get_or (virtual_bases g d) k 0 ∷ drop (k + 1) (virtual_bases g d))
            ∙ ap (λ z. front ++ (chains g (length g) z ++ back)) e)) ∙ sym (append_assoc (chains g (length g) d) front (chains g (length g) v ++ back)),
        length-append (chains g (length g) d) front,
      )

  -- a subobject that begins at a virtual base stands where those of that base begin, and as far on as in the part
  pub place_anew : (d n m j k v : ℕ) → IsNode g d n → IsNode g (end_of (node g d n)) m → length (chains g (length g) (end_of (node g d n))) ≤ m
      → v ≡ get_or (node g (end_of (node g d n)) m) 0 v
      → j < length (virtual_bases g (end_of (node g d n))) → get_or (virtual_bases g (end_of (node g d n))) j 0 ≡ v
      → k < length (virtual_bases g d) → get_or (virtual_bases g d) k 0 ≡ v
      → (start_of g (end_of (node g d n)) j ≤ m) × IsNode g d (start_of g d k + (m - start_of g (end_of (node g d n)) j))
      × (node g d (start_of g d k + (m - start_of g (end_of (node g d n)) j)) ≡ compose (node g d n) (node g (end_of (node g d n)) m))
  place_anew d n m j k v hn hm l e lj ej lk ek =
      let p = node g d n in
      let c = end_of p in
      let own = length (chains g (length g) c) in
      let all = flat_map (chains g (length g)) (virtual_bases g c) in
      let i : m - own < length all = (let z = length-append (chains g (length g) c) all in omega arith) in
      let q : node g c m ≡ get_or all (m - own) [] = get_or-append_right (chains g (length g) c) all own m [] refl l in
      let w = cut_at all (m - own) [] i in
      let u = flat_map-cut (chains g (length g)) (virtual_bases g c) (take (m - own) all) (get_or all (m - own) []) (drop (m - own + 1) all) w.0 in
      let b = chains_is g (length g) u.at (subst (λ z. Has z (get_or all (m - own) [])) (sym u.inner) (has_middle u.left (get_or all (m - own) []) u.right)) in
      let av : u.at ≡ v = sym (e ∙ ap (λ z. get_or z 0 v) (q ∙ b.1)) in
      let seam : get_or (virtual_bases g c) (length u.before) 0 ≡ u.at = ap (λ z. get_or z (length u.before) 0) u.whole ∙ get_or-append_seam u.before u.at u.after 0 in
      let inside : length u.before < length (virtual_bases g c) = (let z = ap length u.whole in let y = length-append u.before (u.at ∷ u.after) in omega arith) in
      let jj : j ≡ length u.before = one_place (virtual_bases g c) j (length u.before) 0 (with_all_new-Distinct [] (walk g (length g) c) tt) lj inside (ej ∙ (sym av ∙ sym seam)) in
      let front : take j (virtual_bases g c) ≡ u.before = ap₂ (λ x y. take x y) jj u.whole ∙ take-append_seam u.before (u.at ∷ u.after) in
      let start : own + length (flat_map (chains g (length g)) (take j (virtual_bases g c))) ≡ own + length (flat_map (chains g (length g)) u.before) = ap (λ z. own + length (flat_map (chains g (length g)) z)) front in
      let long : m - own ≡ length (flat_map (chains g (length g)) u.before) + length u.left = sym w.1 ∙ (ap length u.place ∙ length-append (flat_map (chains g (length g)) u.before) u.left) in
      let here : chains g (length g) v ≡ u.left ++ get_or all (m - own) [] ∷ u.right = ap (chains g (length g)) (sym av) ∙ u.inner in
      let o = base_block d k v lk ek in
      let within : length u.left < length (chains g (length g) v) = (let z = ap length here in let y = length-append u.left (get_or all (m - own) [] ∷ u.right) in omega arith) in
      let r = read_at o.0 (chains g (length g) v) o.1 (length u.left) [] within in
      let place : start_of g d k + (m - (own + length (flat_map (chains g (length g)) (take j (virtual_bases g c))))) ≡ length o.0 + length u.left = (let z = o.3 in omega arith) in
      let virtual : IsVirtual g c v = virtual_bases_are g ok c v (subst (Has (virtual_bases g c)) ej (has_at (virtual_bases g c) j 0 lj)) in
      let other : u.at ≢ c = (λ z. let f = virtual_falls g ok c v virtual in let y : ok.rank v ≡ ok.rank c = ap ok.rank (sym av ∙ z) in absurd (omega arith)) in (
        omega arith,
        (let z = ap length o.2 in let y = r.0 in omega arith),
        ap (node g d) place ∙ (ap (λ z. get_or z (length o.0 + length u.left) []) o.2 ∙ (r.1 ∙ (ap (λ z. get_or z (length u.left) []) here
            ∙ (get_or-append_seam u.left (get_or all (m - own) []) u.right [] ∙ (b.1 ∙ (sym (compose-anew p u.at b.0 other) ∙ ap (compose p) (sym b.1 ∙ sym q))))))),
      )
