-- Bases that are fine one by one are known and distinct.
use Rattle.std.proofs.Common.{◌≡◌, ℕ, zero, suc, ◌+◌, ◌<◌, ◌≤◌, List, [], ◌∷◌, ◌++◌, length, get_or, take, refl, sym, subst, ap, ◌∙◌, inl, inr, arith}
use Rattle.std.specs.Prelude.{Bool, true, false, nat_eq}
use Rattle.std.specs.Bool.{Decides}
use Rattle.std.proofs.lemmas.Bool.Decides.{eqb_tells}
use Rattle.std.proofs.lemmas.List.{take_more, take_all, map-append, length-map}
use borrow.Author.Count.{below_more}
use Rattle.mm_classes.specs.declared.class.Base.{Base}
use Rattle.mm_classes.specs.declared.class.Access.TheVariants.{Public}
use Rattle.mm_classes.specs.declared.class.Member.{Member}
use Rattle.mm_paths.specs.declared.entry.GraphEnd.{GraphEnd}
use Rattle.mm_paths.specs.declared.entry.GraphEnd.TheVariants as end
use Rattle.mm_classes.specs.Lists.{Has, first, later, Distinct}
use Rattle.mm_classes.specs.Classes.{Class, class_at}
use Rattle.mm_classes.specs.Adding.{AreKnown, AreDeclared}
use Rattle.mm_paths.specs.Ends.{classes_of, base_at, IsFine, Stops, Ends}
use Rattle.mm_classes.proofs.Lists.{Has-append, Has-map, Distinct-append}
use Rattle.mm_classes.proofs.Answering.{Has-get_or, place_from_Has}

abbrev nothing : Base
nothing = record { class = 0; shared = false; access = Public }

pub names_more : (bs : List Base) (i : ℕ) → i < length bs → classes_of (take (i + 1) bs) ≡ classes_of (take i bs) ++ (base_at bs i).class ∷ []
names_more bs i l = ap classes_of (take_more bs i nothing l) ∙ map-append (λ (b : Base). b.class) (take i bs) (base_at bs i ∷ [])

pub base_same : (bs : List Base) (i : ℕ) (d : Base) → i < length bs → get_or bs i d ≡ base_at bs i
base_same [] i d l = absurd (omega arith)
base_same (b ∷ bs) zero d l = refl
base_same (b ∷ bs) (suc i) d l = base_same bs i d (omega arith)

-- what a test of two numbers says
pub same_number : (a b : ℕ) (r : Bool) → r ≡ nat_eq a b → r ≡ true → a ≡ b
same_number a b r e t = elim (eqb_tells a b) [ inl y ↦ y.1 | inr n ↦ (let z : false ≡ true = sym n.0 ∙ (sym e ∙ t) in cc) ]

pub other_number : (a b : ℕ) (r : Bool) → r ≡ nat_eq a b → r ≡ false → a ≡ b → ⊥
other_number a b r e f k = elim (eqb_tells a b) [ inl y ↦ (let z : true ≡ false = sym y.0 ∙ (sym e ∙ f) in cc) | inr n ↦ n.1 k ]

pub number_decides : (a b x : ℕ) (r : Bool) → r ≡ nat_eq a b → a ≡ x → Decides r (x ≡ b)
number_decides a b x r e k = ((λ t. sym k ∙ same_number a b r e t), λ h. elim (eqb_tells a b) [ inl y ↦ e ∙ y.0 | inr n ↦ absurd (n.1 (k ∙ h)) ])

none_more_at : (bs : List Base) (i x : ℕ) → i < length bs → (Has (classes_of (take i bs)) x → ⊥) → ((base_at bs i).class ≡ x → ⊥) → Has (classes_of (take (i + 1) bs)) x → ⊥
none_more_at bs i x l h k z = elim (Has-append (classes_of (take i bs)) ((base_at bs i).class ∷ []) (subst (λ w. Has w x) (names_more bs i l) z)) [
  | inl a ↦ h a
  | inr b ↦ elim b [ first e ↦ k e | later w ↦ elim w [ ] ]
]

pub none_more : (bs : List Base) (i x : ℕ) (d : Base) (r : Bool) → i < length bs → (Has (classes_of (take i bs)) x → ⊥) → r ≡ nat_eq (get_or bs i d).class x → r ≡ false → Has (classes_of (take (i + 1) bs)) x → ⊥
none_more bs i x d r l h e f = none_more_at bs i x l h (λ k. other_number (get_or bs i d).class x r e f (ap (λ (b : Base). b.class) (base_same bs i d l) ∙ k))

pub listed_here : (bs : List Base) (i x : ℕ) (d : Base) (r : Bool) → i < length bs → r ≡ nat_eq (get_or bs i d).class x → r ≡ true → Has (classes_of bs) x
listed_here bs i x d r l e t = subst (Has (classes_of bs)) (same_number (get_or bs i d).class x r e t) (Has-map (λ (b : Base). b.class) bs (Has-get_or bs i d l))

pub known_from_fine : (g : List Class) (bs : List Base) → ((k : ℕ) → k < length bs → IsFine g bs k) → AreKnown g bs
known_from_fine g bs fine b h =
    let r = place_from_Has bs nothing h in
    subst (λ (x : Base). (class_at g x.class).complete ≡ true) r.2 (fine r.0 r.1).1

distinct_upto : (g : List Class) (bs : List Base) → ((k : ℕ) → k < length bs → IsFine g bs k) → (i : ℕ) → i ≤ length bs → Distinct (classes_of (take i bs))
distinct_upto g bs fine zero l = tt
distinct_upto g bs fine (suc i) l =
    let m = names_more bs i (omega arith) in
    let s : i + 1 ≡ suc i = omega arith in
    subst (λ n. Distinct (classes_of (take n bs))) s (subst Distinct (sym m)
    (Distinct-append (classes_of (take i bs)) ((base_at bs i).class ∷ []) (distinct_upto g bs fine i (omega arith)) ((λ h. elim h [ ]), tt)
    (λ x a b. elim b [ first e ↦ (fine i (omega arith)).0 (subst (Has (classes_of (take i bs))) (sym e) a) | later w ↦ elim w [ ] ])))

pub distinct_from_fine : (g : List Class) (bs : List Base) → ((k : ℕ) → k < length bs → IsFine g bs k) → Distinct (classes_of bs)
distinct_from_fine g bs fine = subst (λ xs. Distinct (classes_of xs)) (take_all (length bs) bs (omega arith)) (distinct_upto g bs fine (length bs) (omega arith))

pub fine_here : (g : List Class) (bs : List Base) (n : ℕ) (x : Base) → x ≡ get_or bs n x → n < length bs → (Has (classes_of (take n bs)) x.class → ⊥) → (class_at g x.class).complete ≡ true → IsFine g bs n
fine_here g bs n x e l a b = let k = e ∙ base_same bs n x l in
    subst (λ (z : Base). (Has (classes_of (take n bs)) z.class → ⊥) × ((class_at g z.class).complete ≡ true)) k (a, b)

pub fine_more : (g : List Class) (bs : List Base) (n : ℕ) → ((k : ℕ) → k < n → IsFine g bs k) → IsFine g bs n → (k : ℕ) → k < n + 1 → IsFine g bs k
fine_more g bs n h here = below_more (IsFine g bs) n h here

pub ends_from : (g : List Class) (c : ℕ) (bs : List Base) (ms : List Member) (e : GraphEnd) → Stops g bs e → Ends g c bs ms e
ends_from g c bs ms (end.Twice i) h = h
ends_from g c bs ms (end.Unknown i) h = h
ends_from g c bs ms end.Many h = absurd h
ends_from g c bs ms end.NoMemory h = absurd h

pub declared_at : (g : List Class) (bs : List Base) (i : ℕ) (x : Base) → x ≡ get_or bs i x → i < length bs → AreDeclared g bs → x.class < length g
declared_at g bs i x ex l d = subst (λ (z : Base). z.class < length g) (sym ex) (d (get_or bs i x) (Has-get_or bs i x l))
