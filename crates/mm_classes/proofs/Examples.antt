-- Small class lists, computed.
use Rattle.std.proofs.Common.{◌≡◌, ℕ, List, [], ◌∷◌, refl}
use Rattle.std.specs.Prelude.{Bool, true, false}
use Rattle.mm_classes.specs.declared.class.Base.{Base}
use Rattle.mm_classes.specs.declared.class.Access.TheVariants.{Public}
use Rattle.mm_classes.specs.Classes.{Class}
use Rattle.mm_classes.specs.Subobjects.{subobjects_of, compose}

abbrev to : ℕ → Bool → Base
to c s = record { class = c; shared = s; access = Public }

abbrev as_class : List Base → Class
as_class bs = record { name = []; complete = true; bases = bs; members = [] }

-- A; B : A; C : A; D : B, C has A twice
abbrev repeated : List Class
repeated = as_class [] ∷ as_class (to 0 false ∷ []) ∷ as_class (to 0 false ∷ []) ∷ as_class (to 1 false ∷ to 2 false ∷ []) ∷ []

pub repeated_is : subobjects_of repeated 3 ≡ (3 ∷ []) ∷ (3 ∷ 1 ∷ []) ∷ (3 ∷ 1 ∷ 0 ∷ []) ∷ (3 ∷ 2 ∷ []) ∷ (3 ∷ 2 ∷ 0 ∷ []) ∷ []
repeated_is = refl

-- the same with virtual bases has it once
abbrev diamond : List Class
diamond = as_class [] ∷ as_class (to 0 true ∷ []) ∷ as_class (to 0 true ∷ []) ∷ as_class (to 1 false ∷ to 2 false ∷ []) ∷ []

pub diamond_is : subobjects_of diamond 3 ≡ (3 ∷ []) ∷ (3 ∷ 1 ∷ []) ∷ (3 ∷ 2 ∷ []) ∷ (0 ∷ []) ∷ []
diamond_is = refl

-- a class that is a virtual and a non-virtual base, with numbers that do not go by completion
abbrev mixed : List Class
mixed = as_class (to 1 false ∷ to 2 false ∷ to 3 true ∷ []) ∷ as_class (to 3 true ∷ []) ∷ as_class (to 3 false ∷ []) ∷ as_class (to 4 true ∷ []) ∷ as_class [] ∷ []

pub mixed_is : subobjects_of mixed 0 ≡ (0 ∷ []) ∷ (0 ∷ 1 ∷ []) ∷ (0 ∷ 2 ∷ []) ∷ (0 ∷ 2 ∷ 3 ∷ []) ∷ (3 ∷ []) ∷ (4 ∷ []) ∷ []
mixed_is = refl

-- A; B : virtual A; C : A, virtual B; E : B, C: A is a base twice, and so is B
abbrev three_levels : List Class
three_levels = as_class [] ∷ as_class (to 0 true ∷ []) ∷ as_class (to 0 false ∷ to 1 true ∷ []) ∷ as_class (to 1 false ∷ to 2 false ∷ []) ∷ []

pub three_levels_is : subobjects_of three_levels 3 ≡ (3 ∷ []) ∷ (3 ∷ 1 ∷ []) ∷ (3 ∷ 2 ∷ []) ∷ (3 ∷ 2 ∷ 0 ∷ []) ∷ (0 ∷ []) ∷ (1 ∷ []) ∷ []
three_levels_is = refl

-- composition starts anew at a virtual base
pub restarts : compose (0 ∷ 2 ∷ 3 ∷ []) (4 ∷ []) ≡ 4 ∷ []
restarts = refl

pub goes_on : compose (0 ∷ 2 ∷ []) (2 ∷ 3 ∷ []) ≡ 0 ∷ 2 ∷ 3 ∷ []
goes_on = refl
