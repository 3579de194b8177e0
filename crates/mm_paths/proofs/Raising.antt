-- The access of the subobjects of a new class, base by base.
use Rattle.std.proofs.Common.{◌≡◌, ◌≢◌, ℕ, ◌+◌, ◌<◌, ◌≤◌, List, [], ◌∷◌, ◌++◌, length, get_or, set, take, drop, map, refl, sym, subst, ap, ap₂, ◌∙◌, inl, inr, arith, append_assoc, length-append, length-set}
use Rattle.std.specs.Prelude.{true, false, ◌⊎◌, cond, Option, None, Some}
use Rattle.std.specs.List.{flat_map}
use Rattle.std.proofs.lemmas.Bool.Decides.{eqb_tells}
use Rattle.std.proofs.lemmas.List.{get_or-set_same, get_or-set_other, take_all, get_or-map, length-map}
use Rattle.mm_classes.specs.declared.class.Access.{Access}
use Rattle.mm_classes.specs.declared.class.Access.TheVariants.{Public}
use Rattle.mm_classes.specs.declared.class.Base.{Base}
use Rattle.mm_classes.specs.Lists.{Has, first, later, Distinct}
use Rattle.mm_classes.specs.Classes.{Class, class_at, bases_of, IsClassList}
use Rattle.mm_classes.specs.Subobjects.{Path, IsSubobject, listed, chains, plain_bases, virtual_bases, subobjects_of, end_of, compose}
use Rattle.mm_classes.specs.Access.{grade, passed, greater, IsGreatestOf, link_of, AreLinks, composed_links, access_along, IsAccess}
use Rattle.mm_classes.specs.Questions.{node, IsNode, start_of}
use Rattle.mm_classes.specs.Adding.{added, CanAdd, new_chains, new_virtual_bases, new_subobjects}
use Rattle.mm_classes.proofs.Lists.{Has-append, Has-left, Has-right}
use Rattle.mm_classes.proofs.Answering.{place_from_Has, node_sub, Has-get_or}
use Rattle.mm_classes.proofs.Subs.{are_subobjects, subobjects-Distinct}
use Rattle.mm_classes.proofs.Within.{are_virtual_bases}
use Rattle.mm_classes.proofs.Ways.{link_end, link_shared, link_plain, links_sub, links_else, sub_links, to_links, from_links}
use Rattle.mm_classes.proofs.AccessLaws.{grade-one, passed-mono, access_itself, greatest-none, greatest-like, greatest-more}
use Rattle.mm_classes.proofs.Growing.{added-valid, as_long, as_before, at_new, new_bases, added-virtual_bases, added-chains, added-subobjects, added-kept, chains-unfold}
use Rattle.mm_classes.proofs.Cuts.{one_place, read_at}
use Rattle.mm_classes.proofs.Places.{base_block}
use Rattle.mm_paths.specs.Ends.{plain_block}
use Rattle.mm_paths.specs.Stored.{HaveAccess, IsStart, new_starts, starts_of}
use Rattle.mm_paths.specs.Reach.{WaysBy, WaysIn, AreGreatest, AreGreatestWith, AreStarts, IsPlaced}
use Rattle.mm_paths.proofs.Starts.{starts-at, starts-long}
use Rattle.mm_paths.proofs.Placing.{node_first, placed, placed-kept, starts_stand, starts-back}
use Rattle.mm_paths.proofs.Added.{new_starts_are}
use Rattle.mm_paths.proofs.Building.{plain_blocks, flat_map-split, own_more, take_at_more}

last_or : (m n : ℕ) → m < n + 1 → (m < n) ⊎ (m ≡ n)
last_or m n l = grind arith

-- a class that is completed with these bases
module _ (g : List Class) (ok : IsClassList g) (c : ℕ) (bs : List Base) (new : CanAdd g c bs []) where
  valid : IsClassList (added g c bs [])
  valid = added-valid g ok c bs [] new

  subs : subobjects_of (added g c bs []) c ≡ new_subobjects g c bs
  subs = added-subobjects g ok c bs [] new

  bases_are : bases_of (added g c bs []) c ≡ bs
  bases_are = new_bases g ok c bs [] new

  -- the numbers of nodes
  new-one : (i j : ℕ) → i < length (new_subobjects g c bs) → j < length (new_subobjects g c bs) → get_or (new_subobjects g c bs) i [] ≡ get_or (new_subobjects g c bs) j [] → i ≡ j
  new-one i j hi hj e = one_place (new_subobjects g c bs) i j [] (subst Distinct subs (subobjects-Distinct (added g c bs []) valid c)) hi hj e

  node_is : (b : Base) (k : ℕ) → Has bs b → node (added g c bs []) b.class k ≡ node g b.class k
  node_is b k h = ap (λ (z : List Path). get_or z k []) (added-kept g ok c bs [] new b.class (new.known b h))

  node_in : (b : Base) (k : ℕ) → Has bs b → IsNode g b.class k → IsNode (added g c bs []) b.class k
  node_in b k h l = subst (λ (z : List Path). k < length z) (sym (added-kept g ok c bs [] new b.class (new.known b h))) l

  -- a base, as a node of the class
  module _ (b : Base) (at : ℕ) (h : Has bs b) (here : at < length (new_subobjects g c bs)) (link : get_or (new_subobjects g c bs) at [] ≡ link_of c b) where
    at_in : IsNode (added g c bs []) c at
    at_in = subst (λ (z : List Path). at < length z) (sym subs) here

    at_is : node (added g c bs []) c at ≡ link_of c b
    at_is = ap (λ (z : List Path). get_or z at []) subs ∙ link

    at_end : b.class ≡ end_of (node (added g c bs []) c at)
    at_end = sym (ap end_of at_is ∙ link_end c b)

    part_in : (k : ℕ) → IsNode g b.class k → IsNode (added g c bs []) (end_of (node (added g c bs []) c at)) k
    part_in k l = subst (λ z. IsNode (added g c bs []) z k) at_end (node_in b k h l)

    pub starts_fit : (k : ℕ) (shared starts : List ℕ) → IsNode g b.class k → length (new_subobjects g c bs) ≤ 256 → shared ≡ new_virtual_bases g bs → starts ≡ new_starts g c bs
        → AreStarts g b.class k shared starts
    starts_fit k shared starts l few es et =
        starts-back g (added g c bs []) ok (as_long g ok c bs [] new) (as_before g ok c bs [] new) b.class k shared starts (new.known b h)
        (starts_stand (added g c bs []) valid c at k b.class shared starts at_in (part_in k l) at_end (subst (λ (z : List Path). length z ≤ 256) (sym subs) few)
        (es ∙ sym (added-virtual_bases g ok c bs [] new)) (et ∙ sym (new_starts_are g ok c bs [] new)))

    -- the node that a node of the base is in the class
    pub placed_node : (k r : ℕ) (shared starts : List ℕ) → IsNode g b.class k → IsPlaced g b.class at k shared starts r → shared ≡ new_virtual_bases g bs → starts ≡ new_starts g c bs
        → (r < length (new_subobjects g c bs)) × (get_or (new_subobjects g c bs) r [] ≡ compose (link_of c b) (node g b.class k))
    placed_node k r shared starts l p es et =
        let q = placed (added g c bs []) valid c at k b.class r shared starts at_in (part_in k l) at_end (es ∙ sym (added-virtual_bases g ok c bs [] new)) (et ∙ sym (new_starts_are g ok c bs [] new))
        (placed-kept g (added g c bs []) ok (as_long g ok c bs [] new) (as_before g ok c bs [] new) b.class at k r shared starts (new.known b h) p) in (
          subst (λ (z : List Path). r < length z) subs q.0,
          sym (ap (λ (z : List Path). get_or z r []) subs) ∙ (q.1 ∙ ap₂ compose at_is (ap (λ z. node (added g c bs []) z k) (sym at_end) ∙ node_is b k h)),
        )

  -- before the first subobject of a base
  pub with_none : (n : ℕ) (b : Base) (xs : List (Option Access)) → AreGreatest g c bs n xs → AreGreatestWith g c bs n b 0 xs
  with_none n b xs h i l = greatest-like (WaysBy g c (take n bs) (get_or (new_subobjects g c bs) i []))
      (λ y. WaysBy g c (take n bs) (get_or (new_subobjects g c bs) i []) y ⊎ WaysIn g c b 0 (get_or (new_subobjects g c bs) i []) y) (get_or xs i None)
      (λ y w. inl w) (λ y w. elim w [ inl a ↦ a | inr a ↦ (let z = a.2 in absurd (omega arith)) ]) (h i l)

  -- one more subobject of a base
  module _ (n : ℕ) (b : Base) (m to : ℕ) (x : Option Access) (xs : List (Option Access)) (long : length xs ≡ length (new_subobjects g c bs))
      (inside : to < length (new_subobjects g c bs)) (place : get_or (new_subobjects g c bs) to [] ≡ compose (link_of c b) (node g b.class m)) (acc : IsAccess g b.class (node g b.class m) Public x)
      (before : AreGreatestWith g c bs n b m xs) where
    At : ℕ → Path
    At i = get_or (new_subobjects g c bs) i []

    -- the ways through the m-th subobject
    Through : Option Access → Type 0
    Through y = (rest : List Base) × AreLinks g b.class rest × (composed_links b.class rest ≡ node g b.class m) × (access_along (b ∷ rest) (Some Public) ≡ y)

    through_greatest : IsGreatestOf Through (passed b.access x)
    unfolding Through
    through_greatest = record {
      among = inr (let w = acc.way in (w.0, w.1, w.2, ap (passed b.access) w.3));
      above = λ y w. subst (λ z. grade z ≤ grade (passed b.access x)) w.3 (passed-mono b.access (access_along w.0 (Some Public)) x (acc.greatest w.0 w.1 w.2));
    }

    Old : ℕ → Option Access → Type 0
    Old i y = WaysBy g c (take n bs) (get_or (new_subobjects g c bs) i []) y ⊎ WaysIn g c b m (get_or (new_subobjects g c bs) i []) y

    New : ℕ → Option Access → Type 0
    New i y = WaysBy g c (take n bs) (get_or (new_subobjects g c bs) i []) y ⊎ WaysIn g c b (m + 1) (get_or (new_subobjects g c bs) i []) y

    old_new : (i : ℕ) (y : Option Access) → Old i y → New i y
    unfolding Old New
    old_new i y (inl w) = inl w
    old_new i y (inr w) = inr (w.0, w.1, (let z = w.2 in omega arith), w.3, w.4, w.5, w.6)

    here_new : (y : Option Access) → Old to y ⊎ Through y → New to y
    unfolding Old New Through
    here_new y (inl w) = old_new to y w
    here_new y (inr w) = inr (w.0, m, omega arith, w.1, w.2, sym place, w.3)

    new_here : (y : Option Access) → New to y → Old to y ⊎ Through y
    unfolding Old New Through
    new_here y (inl w) = inl (inl w)
    new_here y (inr w) = elim (last_or w.1 m w.2) [
      | inl l ↦ inl (inr (w.0, w.1, l, w.3, w.4, w.5, w.6))
      | inr e ↦ inr (w.0, w.3, w.4 ∙ ap (node g b.class) e, w.6)
    ]

    new_else : (i : ℕ) → i < length (new_subobjects g c bs) → i ≢ to → (y : Option Access) → New i y → Old i y
    unfolding Old New
    new_else i l ne y (inl w) = inl w
    new_else i l ne y (inr w) = elim (last_or w.1 m w.2) [
      | inl k ↦ inr (w.0, w.1, k, w.3, w.4, w.5, w.6)
      | inr e ↦ absurd (ne (new-one i to l inside (sym w.5 ∙ (ap (λ z. compose (link_of c b) (node g b.class z)) e ∙ sym place))))
    ]

    pub raised : (z : Option Access) → z ≡ greater (get_or xs to None) (passed b.access x) → AreGreatestWith g c bs n b (m + 1) (set xs to z)
    unfolding Old New
    raised z ez i l = elim (eqb_tells i to) [
      | inl e ↦ subst (λ j. IsGreatestOf (New j) (get_or (set xs to z) j None)) (sym e.1)
          (subst (IsGreatestOf (New to)) (sym (get_or-set_same xs to z None (omega arith) ∙ ez))
          (greatest-like (λ y. Old to y ⊎ Through y) (New to) (greater (get_or xs to None) (passed b.access x)) here_new new_here
          (greatest-more (Old to) Through (get_or xs to None) (passed b.access x) (before to inside) through_greatest)))
      | inr e ↦ subst (IsGreatestOf (New i)) (sym (get_or-set_other xs to i z None e.1))
          (greatest-like (Old i) (New i) (get_or xs i None) (old_new i) (new_else i l e.1) (before i l))
    ]

  -- behind the last subobject of a base
  pub with_all : (n : ℕ) (b : Base) (m : ℕ) (xs : List (Option Access)) → b ≡ get_or bs n b → n < length bs → m ≡ length (subobjects_of g b.class)
      → AreGreatestWith g c bs n b m xs → AreGreatest g c bs (n + 1) xs
  with_all n b m xs eb l em h i li = greatest-like
      (λ y. WaysBy g c (take n bs) (get_or (new_subobjects g c bs) i []) y ⊎ WaysIn g c b m (get_or (new_subobjects g c bs) i []) y)
      (WaysBy g c (take (n + 1) bs) (get_or (new_subobjects g c bs) i [])) (get_or xs i None) to from (h i li) where
        more : take (n + 1) bs ≡ take n bs ++ b ∷ []
        more = take_at_more bs n b eb l

        to : (y : Option Access) → WaysBy g c (take n bs) (get_or (new_subobjects g c bs) i []) y ⊎ WaysIn g c b m (get_or (new_subobjects g c bs) i []) y
            → WaysBy g c (take (n + 1) bs) (get_or (new_subobjects g c bs) i []) y
        to y (inl w) = (w.0, w.1, subst (λ z. Has z w.0) (sym more) (Has-left (take n bs) (b ∷ []) w.2), w.3, w.4, w.5)
        to y (inr w) = (b, w.0, subst (λ z. Has z b) (sym more) (Has-right (take n bs) (b ∷ []) (first refl)), w.3, ap (compose (link_of c b)) w.4 ∙ w.5, w.6)

        through_b : (y : Option Access) (rest : List Base) → AreLinks g b.class rest → composed_links c (b ∷ rest) ≡ get_or (new_subobjects g c bs) i [] → access_along (b ∷ rest) (Some Public) ≡ y
            → WaysIn g c b m (get_or (new_subobjects g c bs) i []) y
        through_b y rest k e a =
            let r = place_from_Has (subobjects_of g b.class) [] (are_subobjects g ok b.class (composed_links b.class rest) (links_sub g b.class rest k)) in
            let z = r.1 in
            (rest, r.0, omega arith, k, sym r.2, ap (compose (link_of c b)) r.2 ∙ e, a)

        from : (y : Option Access) → WaysBy g c (take (n + 1) bs) (get_or (new_subobjects g c bs) i []) y
            → WaysBy g c (take n bs) (get_or (new_subobjects g c bs) i []) y ⊎ WaysIn g c b m (get_or (new_subobjects g c bs) i []) y
        from y w = elim (Has-append (take n bs) (b ∷ []) (subst (λ z. Has z w.0) more w.2)) [
          | inl a ↦ inl (w.0, w.1, a, w.3, w.4, w.5)
          | inr a ↦ elim a [
            | first e ↦ inr (subst (λ (x : Base). AreLinks g x.class w.1 → composed_links c (x ∷ w.1) ≡ get_or (new_subobjects g c bs) i [] → access_along (x ∷ w.1) (Some Public) ≡ y
                → WaysIn g c b m (get_or (new_subobjects g c bs) i []) y) e (through_b y w.1) w.3 w.4 w.5)
            | later k ↦ elim k [ ]
          ]
        ]

  pub starts_as_long : (shared starts : List ℕ) → shared ≡ new_virtual_bases g bs → starts ≡ new_starts g c bs → length starts ≡ length shared
  starts_as_long shared starts es et = ap length et ∙ (starts-long (chains g (length g)) (length (new_chains g c bs)) (new_virtual_bases g bs) ∙ sym (ap length es))

  -- no way yet
  pub greatest_first : (xs : List (Option Access)) → ((i : ℕ) → get_or xs i None ≡ None) → AreGreatest g c bs 0 xs
  greatest_first xs h i l = subst (IsGreatestOf (WaysBy g c [] (get_or (new_subobjects g c bs) i []))) (sym (h i))
      (greatest-none (WaysBy g c [] (get_or (new_subobjects g c bs) i [])) (λ y w. elim w.2 [ ]))

  -- all ways: the access
  module _ (xs : List (Option Access)) (long : length xs ≡ length (new_subobjects g c bs)) (h : AreGreatest g c bs (length bs) xs) where
    same_old : (x : ℕ) → (class_at g x).complete ≡ true → bases_of (added g c bs []) x ≡ bases_of g x
    same_old x k = ap (λ (z : Class). z.bases) (as_before g ok c bs [] new x k)

    -- a chain that leads to another subobject
    way_by : (q : Path) (ls : List Base) → q ≢ c ∷ [] → AreLinks (added g c bs []) c ls → composed_links c ls ≡ q → WaysBy g c bs q (access_along ls (Some Public))
    way_by q [] ne k e = absurd (ne (sym e))
    way_by q (b ∷ rest) ne k e =
        let hb : Has bs b = subst (λ z. Has z b) bases_are k.0 in
        (b, rest, hb, from_links g (added g c bs []) ok same_old b.class rest (new.known b hb) k.1, e, refl)

    by_way : (q : Path) (y : Option Access) → WaysBy g c bs q y → (ls : List Base) × AreLinks (added g c bs []) c ls × (composed_links c ls ≡ q) × (access_along ls (Some Public) ≡ y)
    by_way q y w = (
      w.0 ∷ w.1,
      (subst (λ z. Has z w.0) (sym bases_are) w.2, to_links g (added g c bs []) ok same_old w.0.class w.1 (new.known w.0 w.2) w.3),
      w.4,
      w.5,
    )

    reached_at : (q : Path) (x : Option Access) → q ≢ c ∷ [] → (ls : List Base) × AreLinks (added g c bs []) c ls × (composed_links c ls ≡ q) → IsGreatestOf (WaysBy g c bs q) x
        → IsAccess (added g c bs []) c q Public x
    reached_at q x ne some k = record {
      way = elim k.among [
        | inl e ↦ (let b = k.above (access_along some.0 (Some Public)) (way_by q some.0 ne some.1 some.2) in
            let z : grade x ≡ 0 = ap grade e in
            (some.0, some.1, some.2, grade-one (access_along some.0 (Some Public)) x (omega arith)))
        | inr w ↦ by_way q x w
      ];
      greatest = λ ls l e. k.above (access_along ls (Some Public)) (way_by q ls ne l e);
    }

    reached : (i : ℕ) → i < length (new_subobjects g c bs) → (i ≡ 0 → ⊥) → IsAccess (added g c bs []) c (get_or (new_subobjects g c bs) i []) Public (get_or xs i None)
    reached i l ne =
        let f = node_first (added g c bs []) valid c in
        let zero_is : get_or (new_subobjects g c bs) 0 [] ≡ c ∷ [] = ap (λ (z : List Path). get_or z 0 []) (sym subs) ∙ f.0 in
        reached_at (get_or (new_subobjects g c bs) i []) (get_or xs i None)
        (λ e. ne (new-one i 0 l (subst (λ (z : List Path). 0 < length z) subs f.1) (e ∙ sym zero_is)))
        (sub_links (added g c bs []) valid c (get_or (new_subobjects g c bs) i [])
        (subst (λ (z : List Path). IsSubobject (added g c bs []) c (get_or z i [])) subs (node_sub (added g c bs []) valid c i (subst (λ (z : List Path). i < length z) (sym subs) l))))
        (subst (λ (z : List Base). IsGreatestOf (WaysBy g c z (get_or (new_subobjects g c bs) i [])) (get_or xs i None)) (take_all (length bs) bs (omega arith)) (h i l))

    pub all_reached : HaveAccess (added g c bs []) c (set xs 0 (Some Public))
    all_reached = record {
      long = length-set xs 0 (Some Public) ∙ (long ∙ sym (ap length subs));
      each = λ i l. elim (eqb_tells i 0) [
        | inl e ↦ (let f = node_first (added g c bs []) valid c in
            let k : get_or (set xs 0 (Some Public)) 0 None ≡ Some Public = get_or-set_same xs 0 (Some Public) None (let z = f.1 in let y = ap length subs in omega arith) in
            subst (λ j. IsAccess (added g c bs []) c (node (added g c bs []) c j) Public (get_or (set xs 0 (Some Public)) j None)) (sym e.1)
            (subst (IsAccess (added g c bs []) c (node (added g c bs []) c 0) Public) (sym k)
            (subst (λ q. IsAccess (added g c bs []) c q Public (Some Public)) (sym f.0) (access_itself (added g c bs []) c))))
        | inr e ↦ subst (IsAccess (added g c bs []) c (node (added g c bs []) c i) Public) (sym (get_or-set_other xs 0 i (Some Public) None e.1))
            (subst (λ (z : List Path). IsAccess (added g c bs []) c (get_or z i []) Public (get_or xs i None)) (sym subs)
            (reached i (subst (λ (z : List Path). i < length z) subs l) e.1))
      ];
    }

  -- the node that a base is
  shared_has : (b : Base) → Has bs b → b.shared ≡ true → Has (new_virtual_bases g bs) b.class
  shared_has b h e = subst (λ z. Has z b.class) (added-virtual_bases g ok c bs [] new)
      (are_virtual_bases (added g c bs []) valid c b.class (listed b (subst (λ z. Has z b) (sym bases_are) h) e refl))

  pub link_asked : (b : Base) (shared : List ℕ) → Has bs b → shared ≡ new_virtual_bases g bs → b.shared ≡ true → Has shared b.class
  link_asked b shared h es e = subst (λ z. Has z b.class) (sym es) (shared_has b h e)

  first_of_class : (v : ℕ) → (get_or (chains g (length g) v) 0 [] ≡ v ∷ []) × (0 < length (chains g (length g) v))
  first_of_class v = let u = chains-unfold g ok v in
      (ap (λ (z : List Path). get_or z 0 []) u, (let k = ap length u in omega arith))

  link_at_start : (b : Base) (j : ℕ) → b.shared ≡ true → j < length (new_virtual_bases g bs) → get_or (new_virtual_bases g bs) j 0 ≡ b.class
      → (get_or (new_starts g c bs) j 0 < length (new_subobjects g c bs)) × (get_or (new_subobjects g c bs) (get_or (new_starts g c bs) j 0) [] ≡ link_of c b)
  link_at_start b j e l k =
      let w : get_or (virtual_bases (added g c bs []) c) j 0 ≡ b.class = ap (λ z. get_or z j 0) (added-virtual_bases g ok c bs [] new) ∙ k in
      let lj : j < length (virtual_bases (added g c bs []) c) = subst (λ (z : List ℕ). j < length z) (sym (added-virtual_bases g ok c bs [] new)) l in
      let o = base_block (added g c bs []) valid c j b.class lj w in
      let u = chains-unfold (added g c bs []) valid b.class in
      let r = read_at o.0 (chains (added g c bs []) (length (added g c bs [])) b.class) o.1 0 [] (let z = ap length u in omega arith) in
      let s : get_or (new_starts g c bs) j 0 ≡ length o.0 + 0 =
      ap (λ z. get_or z j 0) (sym (new_starts_are g ok c bs [] new))
      ∙ (starts-at (chains (added g c bs []) (length (added g c bs []))) (length (chains (added g c bs []) (length (added g c bs [])) c)) (virtual_bases (added g c bs []) c) j lj
      ∙ (let z = o.3 in let q : start_of (added g c bs []) c j ≡ length o.0 + 0 = omega arith in q)) in (
        (let z = r.0 in let y = ap length (sym subs ∙ o.2) in omega arith),
        ap (λ n. get_or (new_subobjects g c bs) n []) s ∙ (ap (λ (z : List Path). get_or z (length o.0 + 0) []) (sym subs ∙ o.2)
            ∙ (r.1 ∙ (ap (λ (z : List Path). get_or z 0 []) u ∙ sym (link_shared c b e)))),
      )

  -- the first subobject of a base that is not virtual
  module _ (n : ℕ) (b : Base) (eb : b ≡ get_or bs n b) (l : n < length bs) where
    Front : List Path
    Front = (c ∷ []) ∷ flat_map (λ (x : Base). plain_block c x (chains g (length g) x.class)) (take n bs)

    front_is : new_chains g c (take n bs) ≡ Front
    unfolding Front
    front_is = ap (λ (ps : List Path). (c ∷ []) ∷ ps) (plain_blocks c (chains g (length g)) (take n bs))

    split : (r : List Path) × (new_subobjects g c bs ≡ Front ++ (plain_block c b (chains g (length g) b.class) ++ r))
    unfolding Front
    split =
        let pb = plain_block c b (chains g (length g) b.class) in
        let r = flat_map (λ (x : Base). plain_block c x (chains g (length g) x.class)) (drop (n + 1) bs) in
        let more = flat_map (chains g (length g)) (new_virtual_bases g bs) in
        let f = flat_map (λ (x : Base). plain_block c x (chains g (length g) x.class)) (take n bs) in
        let e : new_chains g c bs ≡ (c ∷ []) ∷ (f ++ (pb ++ r)) =
        ap (λ (ps : List Path). (c ∷ []) ∷ ps) (plain_blocks c (chains g (length g)) bs ∙ flat_map-split (λ (x : Base). plain_block c x (chains g (length g) x.class)) bs n b eb l) in
        (r ++ more, ap (λ (ps : List Path). ps ++ more) e ∙ (ap (λ (ps : List Path). (c ∷ []) ∷ ps) (append_assoc f (pb ++ r) more ∙ ap (λ ps. f ++ ps) (append_assoc pb r more))))

    pub link_plain_at : (plain : ℕ) → b.shared ≡ false → plain ≡ length (new_chains g c (take n bs))
        → (plain < length (new_subobjects g c bs)) × (get_or (new_subobjects g c bs) plain [] ≡ link_of c b)
    link_plain_at plain e ep =
        let xs = chains g (length g) b.class in
        let u = first_of_class b.class in
        let pb : plain_block c b xs ≡ map (λ p. c ∷ p) xs = ap (λ s. cond s [] (map (λ p. c ∷ p) xs)) e in
        let lp = ap length pb in
        let lm = length-map xs (λ p. c ∷ p) in
        let r = read_at Front (plain_block c b xs) split.0 0 [] (let z = u.1 in omega arith) in
        let at : plain ≡ length Front + 0 = (let z = ap length front_is in omega arith) in (
          (let z = r.0 in let y = ap length split.1 in omega arith),
          ap (λ k. get_or (new_subobjects g c bs) k []) at ∙ (ap (λ (z : List Path). get_or z (length Front + 0) []) split.1
              ∙ (r.1 ∙ (ap (λ (z : List Path). get_or z 0 []) pb ∙ (get_or-map (λ p. c ∷ p) xs 0 [] [] u.1 ∙ (ap (λ (p : Path). c ∷ p) u.0 ∙ sym (link_plain c b e)))))),
        )

    -- the bases before have no more nodes than the class
    pub plain_low : (plain : ℕ) → plain ≡ length (new_chains g c (take n bs)) → plain ≤ length (new_subobjects g c bs)
    plain_low plain ep =
        let a = ap length front_is in
        let b' = ap length split.1 in
        let d = length-append Front (plain_block c b (chains g (length g) b.class) ++ split.0) in omega arith

    pub plain_more : (plain own : ℕ) → b.shared ≡ false → plain ≡ length (new_chains g c (take n bs)) → own ≡ length (chains g (length g) b.class)
        → plain + own ≡ length (new_chains g c (take (n + 1) bs))
    plain_more plain own e ep eo =
        let xs = chains g (length g) b.class in
        let m = ap length (own_more g c bs n b eb l xs refl (new_chains g c (take n bs)) (new_chains g c (take n bs) ++ plain_block c b xs) refl refl) in
        let a = length-append (new_chains g c (take n bs)) (plain_block c b xs) in
        let pb = ap (λ s. length (cond s [] (map (λ p. c ∷ p) xs))) e in
        let lm = length-map xs (λ p. c ∷ p) in omega arith

    pub plain_same : (plain : ℕ) → b.shared ≡ true → plain ≡ length (new_chains g c (take n bs)) → plain ≡ length (new_chains g c (take (n + 1) bs))
    plain_same plain e ep =
        let xs = chains g (length g) b.class in
        let m = ap length (own_more g c bs n b eb l xs refl (new_chains g c (take n bs)) (new_chains g c (take n bs) ++ plain_block c b xs) refl refl) in
        let a = length-append (new_chains g c (take n bs)) (plain_block c b xs) in
        let pb = ap (λ s. length (cond s [] (map (λ p. c ∷ p) xs))) e in omega arith

    pub plain_next : (plain next : ℕ) → plain ≡ length (new_chains g c (take n bs)) → (b.shared ≡ true → next ≡ plain) → (b.shared ≡ false → next ≡ plain + length (chains g (length g) b.class))
        → next ≡ length (new_chains g c (take (n + 1) bs))
    plain_next plain next ep same more = elim b.shared as (λ s. b.shared ≡ s → next ≡ length (new_chains g c (take (n + 1) bs))) [
      | true ↦ λ e. same e ∙ plain_same plain e ep
      | false ↦ λ e. more e ∙ plain_more plain (length (chains g (length g) b.class)) e ep refl
    ] refl

    pub link_here : (at plain : ℕ) (shared starts : List ℕ) → shared ≡ new_virtual_bases g bs → starts ≡ new_starts g c bs → plain ≡ length (new_chains g c (take n bs))
        → (b.shared ≡ true → (j : ℕ) × (j < length shared) × (get_or shared j 0 ≡ b.class) × (at ≡ get_or starts j 0)) → (b.shared ≡ false → at ≡ plain)
        → (at < length (new_subobjects g c bs)) × (get_or (new_subobjects g c bs) at [] ≡ link_of c b)
    link_here at plain shared starts es et ep begun else = elim b.shared as (λ s. b.shared ≡ s → (at < length (new_subobjects g c bs)) × (get_or (new_subobjects g c bs) at [] ≡ link_of c b)) [
      | true ↦ λ e. (let t = begun e in
          let r = link_at_start b t.0 e (subst (λ (z : List ℕ). t.0 < length z) es t.1) (ap (λ (z : List ℕ). get_or z t.0 0) (sym es) ∙ t.2) in
          let at_is : get_or (new_starts g c bs) t.0 0 ≡ at = sym (t.3 ∙ ap (λ (z : List ℕ). get_or z t.0 0) et) in
          subst (λ k. (k < length (new_subobjects g c bs)) × (get_or (new_subobjects g c bs) k [] ≡ link_of c b)) at_is r)
      | false ↦ λ e. (let r = link_plain_at plain e ep in
          subst (λ k. (k < length (new_subobjects g c bs)) × (get_or (new_subobjects g c bs) k [] ≡ link_of c b)) (sym (else e)) r)
    ] refl
