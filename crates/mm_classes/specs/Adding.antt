-- A class list with one more class declared, or completed. Own.
use Rattle.std.specs.Prelude.{◌≡◌, ◌≢◌, ℕ, ◌+◌, ◌<◌, ◌≤◌, true, false, List, [], ◌∷◌, ◌++◌, length, slice_set as set, map, cond, nat_lt}
use Rattle.std.specs.List.{flat_map}
use Rattle.mm_classes.specs.declared.class.Base.{Base}
use Rattle.mm_classes.specs.declared.class.Member.{Member}
use Rattle.mm_classes.specs.Lists.{Has, Distinct, firsts}
use Rattle.mm_classes.specs.Classes.{Class, class_at, name_of, depth_of, most, IsPolymorphic, HasVirtual, IsMemberList, AreTyped}
use Rattle.mm_classes.specs.Subobjects.{Path, plain_bases, met, chains, virtual_bases}

-- the class with these bases and members
abbrev pub new_class : List Class → ℕ → List Base → List Member → Class
new_class g c bs ms = record { name = name_of g c; complete = true; bases = bs; members = ms }

-- the list after class c is completed
abbrev pub added : List Class → ℕ → List Base → List Member → List Class
added g c bs ms = set g c (new_class g c bs ms)

-- a class of which the name alone is known
abbrev pub fresh : List ℕ → Class
fresh name = record { name = name; complete = false; bases = []; members = [] }

-- n is the class of this name, or the number of classes where none has it
abbrev pub IsNamed : ℕ → List Class → List ℕ → Type 0
IsNamed n g name = (n ≤ length g) × ((k : ℕ) → k < n → name_of g k ≢ name) × (n < length g → name_of g n ≡ name)

-- the list after this name is declared
abbrev pub declared : ℕ → List Class → List ℕ → List Class
declared n g name = cond (nat_lt n (length g)) g (g ++ fresh name ∷ [])

-- the bases are complete
abbrev pub AreKnown : List Class → List Base → Type 0
AreKnown g bs = (b : Base) → Has bs b → (class_at g b.class).complete ≡ true

-- the bases are of declared classes
abbrev pub AreDeclared : List Class → List Base → Type 0
AreDeclared g bs = (b : Base) → Has bs b → b.class < length g

-- c is declared and not complete, and may have these bases and members: the bases are complete and each another class, and
-- the members are such as one class may declare
pub record CanAdd (g : List Class) (c : ℕ) (bs : List Base) (ms : List Member) : Type 0 where
  pub here : c < length g
  pub incomplete : (class_at g c).complete ≡ false
  pub known : AreKnown g bs
  pub once : Distinct (map (λ (b : Base). b.class) bs)
  pub members : IsMemberList ms
  pub typed : AreTyped (length g) ms

-- WHAT A NEW CLASS HAS, BY WHAT ITS BASES HAVE
-- its virtual bases
abbrev pub new_virtual_bases : List Class → List Base → List ℕ
new_virtual_bases g bs = firsts (flat_map (λ (b : Base). met b ++ virtual_bases g b.class) bs)

-- the subobjects that begin with it
abbrev pub new_chains : List Class → ℕ → List Base → List Path
new_chains g c bs = (c ∷ []) ∷ flat_map (λ b. map (λ p. c ∷ p) (chains g (length g) b)) (plain_bases bs)

-- all of its subobjects
abbrev pub new_subobjects : List Class → ℕ → List Base → List Path
new_subobjects g c bs = new_chains g c bs ++ flat_map (chains g (length g)) (new_virtual_bases g bs)

-- its depth
abbrev pub new_depth : List Class → List Base → ℕ
new_depth g bs = most (map (λ (b : Base). depth_of g b.class + 1) bs)

-- a class of these bases and members is polymorphic: it declares a virtual function, or a base is polymorphic
pub data IsNewPolymorphic (g : List Class) (bs : List Base) (ms : List Member) : Type 0 where
  declares : HasVirtual ms → IsNewPolymorphic g bs ms
  inherits : (b : Base) → Has bs b → IsPolymorphic g b.class → IsNewPolymorphic g bs ms
