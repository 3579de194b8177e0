-- Open-methods: which declarations are viable at a tuple, and which one wins. (After Pirkelbauer,
-- Solodkyy and Stroustrup, "Design and Evaluation of C++ Open Multi-Methods", 2010; the exact rules
-- of viability and of ties are own.)
use Rattle.std.specs.Prelude.{ℕ, Bool, List, [], ◌∷◌, filter, Option, Some, None}
use Rattle.std.specs.List.{list_all}
use Rattle.mm_classes.specs.declared.class.Ty.{Ty}
use Rattle.mm_classes.specs.declared.class.Ty.TheVariants as ty
use Rattle.mm_classes.specs.Classes.{Class}
use Rattle.mm_classes.specs.Subobjects.{Path}
use Rattle.mm_core.specs.Sets.{is_one, is_some_of, ups, arounds}
use Rattle.mm_core.specs.Heads.{same_type}
use Rattle.mm_core.specs.Moves.{to_around, moved}
use Rattle.mm_core.specs.Families.{classes_of, Declared, least_overridden, family_of}
use Rattle.mm_core.specs.Ordering.{names_before, first_by}

-- ---- tuples

-- A row: a class, and a subobject of it.
pub record Row : Type 0 where
  pub class : ℕ
  pub part : Path

-- at each position the subobjects of the declaration's class that contain the row's
abbrev pub parts_at : List Class → List Row → List ℕ → List (List Path)
parts_at g [] cs = []
parts_at g (row ∷ rows) [] = []
parts_at g (row ∷ rows) (c ∷ cs) = arounds g row.class row.part c ∷ parts_at g rows cs

-- at each position there is one
abbrev pub is_viable : List Class → List Row → Declared → Bool
is_viable g rows r = list_all is_some_of (parts_at g rows (classes_of r.function))

-- The parameters of a declaration at rows: at each position the only subobject of its class that
-- contains the row's.
abbrev pub parameters_of : List Class → List Row → List ℕ → List (Option Path)
parameters_of g [] cs = []
parameters_of g (row ∷ rows) [] = []
parameters_of g (row ∷ rows) (c ∷ cs) =
    moved g (to_around c) row.class row.part ∷ parameters_of g rows cs

-- ---- the winner

-- Why a declaration wins.
pub data Reason : Type 0 where
  Best : Reason
  Covariant : Reason
  Order : Reason

-- The one result is the other, or both are pointers or both references and there is one way up
-- (10.3/5).
abbrev pub is_covariant : List Class → Ty → Ty → Bool
is_covariant g (ty.Ptr c) (ty.Ptr b) = is_one (ups g c b)
is_covariant g (ty.Ref c) (ty.Ref b) = is_one (ups g c b)
is_covariant g r o = same_type r o

-- those whose result is covariant with that of all
abbrev pub fitting : List Class → List Declared → List Declared → List Declared
fitting g viable left =
    filter (λ (r : Declared). list_all
    (λ (v : Declared). is_covariant g r.function.result v.function.result) viable) left

-- of several that no viable one overrides: the one whose result fits, else the first of those whose
-- results fit
abbrev pub tied : List Class → List Declared → Option (Declared × Reason)
tied g [] = None
tied g (r ∷ []) = Some (r, Covariant)
tied g (r ∷ q ∷ rs) = Some (first_by (names_before g) r (q ∷ rs), Order)

abbrev pub decided : List Class → List Declared → List Declared → Option (Declared × Reason)
decided g viable [] = None
decided g viable (r ∷ []) = Some (r, Best)
decided g viable (r ∷ q ∷ rs) = tied g (fitting g viable (r ∷ q ∷ rs))

-- The winner among viable declarations, and its reason.
abbrev pub winner_among : List Class → List Declared → Option (Declared × Reason)
winner_among g viable = decided g viable (least_overridden g viable)

-- the winner of a base-method at a tuple of rows of its classes
abbrev pub winner_of : List Class → List Declared → Declared → List Row → Option (Declared × Reason)
winner_of g os b rows = winner_among g (filter (is_viable g rows) (family_of g os b))
