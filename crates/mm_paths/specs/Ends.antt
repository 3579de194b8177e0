-- When a class is not added.
use Rattle.std.specs.Prelude.{◌≡◌, ℕ, ◌<◌, ◌^◌, ◌⊎◌, true, false, List, [], ◌∷◌, length, get_or, map, cond, take}
use Rattle.mm_classes.specs.declared.class.Base.{Base}
use Rattle.mm_classes.specs.declared.class.Member.{Member}
use Rattle.mm_classes.specs.declared.class.Access.TheVariants.{Public}
use Rattle.mm_classes.specs.Lists.{Has}
use Rattle.mm_classes.specs.Classes.{Class, class_at, field_count}
use Rattle.mm_classes.specs.Subobjects.{Path, subobjects_of}
use Rattle.mm_classes.specs.Adding.{added}
use Rattle.mm_paths.specs.declared.entry.GraphEnd.{GraphEnd}
use Rattle.mm_paths.specs.declared.entry.GraphEnd.TheVariants as end
use Rattle.mm_paths.specs.declared.entry.MakeEnd.{MakeEnd}
use Rattle.mm_paths.specs.declared.entry.MakeEnd.TheVariants as made

-- what a base with these subobjects gives to a class
abbrev pub plain_block : ℕ → Base → List Path → List Path
plain_block c b ps = cond b.shared [] (map (λ p. c ∷ p) ps)

-- the classes of bases
abbrev pub classes_of : List Base → List ℕ
classes_of bs = map (λ (b : Base). b.class) bs

-- the i-th base
abbrev pub base_at : List Base → ℕ → Base
base_at bs i = get_or bs i (record { class = 0; shared = false; access = Public })

-- the class of the i-th base is no earlier one's, and it is complete
abbrev pub IsFine : List Class → List Base → ℕ → Type 0
IsFine g bs i = (Has (classes_of (take i bs)) (base_at bs i).class → ⊥) × ((class_at g (base_at bs i).class).complete ≡ true)

-- all are
abbrev pub AreFine : List Class → List Base → Type 0
AreFine g bs = (k : ℕ) → k < length bs → IsFine g bs k

-- the class would have a 257th subobject, or declares more than 2^19 fields
abbrev pub AreTooMany : List Class → ℕ → List Base → List Member → Type 0
AreTooMany g c bs ms = (256 < length (subobjects_of (added g c bs ms) c)) ⊎ (2 ^ 19 < field_count ms)

-- the first base that is not fine
abbrev pub Stops : List Class → List Base → GraphEnd → Type 0
Stops g bs (end.Twice i) = (i < length bs) × ((k : ℕ) → k < i → IsFine g bs k) × Has (classes_of (take i bs)) (base_at bs i).class
Stops g bs (end.Unknown i) = (i < length bs) × ((k : ℕ) → k < i → IsFine g bs k) × ((class_at g (base_at bs i).class).complete ≡ false)
Stops g bs end.Many = ⊥
Stops g bs end.NoMemory = ⊥

-- why a class is not added
abbrev pub Ends : List Class → ℕ → List Base → List Member → GraphEnd → Type 0
Ends g c bs ms (end.Twice i) = Stops g bs (end.Twice i)
Ends g c bs ms (end.Unknown i) = Stops g bs (end.Unknown i)
Ends g c bs ms end.Many = AreFine g bs × AreTooMany g c bs ms
Ends g c bs ms end.NoMemory = Unit {0}

-- the end of `add`, by that of the making
abbrev pub as_graph_end : MakeEnd → GraphEnd
as_graph_end made.Many = end.Many
as_graph_end made.NoMemory = end.NoMemory
