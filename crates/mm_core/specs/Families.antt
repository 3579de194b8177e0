-- Open-methods: which declaration overrides which, and the families that this makes. (After
-- Pirkelbauer, Solodkyy and Stroustrup, "Design and Evaluation of C++ Open Multi-Methods", 2010.)
use Rattle.std.specs.Prelude.{ℕ, suc, Bool, true, false, not, ◌&&◌, List, [], ◌∷◌, filter, filter_map, nat_eq, if◌then◌else◌}
use Rattle.std.specs.Bool.{beq}
use Rattle.std.specs.List.{list_any}
use Rattle.std.specs.Str.{bytes_eq}
use Rattle.mm_classes.specs.declared.class.Ty.{Ty}
use Rattle.mm_classes.specs.declared.class.Ty.TheVariants as ty
use Rattle.mm_classes.specs.Classes.{Class}
use Rattle.mm_core.specs.declared.part.CoreParam.{CoreParam}
use Rattle.mm_core.specs.Tree.{Function, Program}
use Rattle.mm_core.specs.Sets.{is_a}
use Rattle.mm_core.specs.Heads.{same_type, same_types, class_in, types_of_params, is_open}

abbrev pub virtual_params : Function → List CoreParam
virtual_params f = filter (λ (q : CoreParam). q.is_virtual) f.params

-- the classes at the virtual positions
abbrev pub classes_of : Function → List ℕ
classes_of f = filter_map (λ (q : CoreParam). class_in q.ty) (virtual_params f)

-- both references or both pointers, and the class of the one is that of the other or derives from
-- it
abbrev pub type_overrides : List Class → Ty → Ty → Bool
type_overrides g (ty.Ptr c) (ty.Ptr b) = is_a g c b
type_overrides g (ty.Ref c) (ty.Ref b) = is_a g c b
type_overrides g t u = false

abbrev pub param_overrides : List Class → CoreParam → CoreParam → Bool
param_overrides g q u =
    beq q.is_virtual u.is_virtual &&
    (if q.is_virtual then type_overrides g q.ty u.ty else same_type q.ty u.ty)

abbrev pub params_override : List Class → List CoreParam → List CoreParam → Bool
params_override g [] [] = true
params_override g [] (u ∷ us) = false
params_override g (q ∷ qs) [] = false
params_override g (q ∷ qs) (u ∷ us) = param_overrides g q u && params_override g qs us

-- r overrides o
abbrev pub overrides : List Class → Function → Function → Bool
overrides g r o =
    bytes_eq r.name o.name && (params_override g r.params o.params &&
    not (same_types (types_of_params r.params) (types_of_params o.params)))

-- a declaration with its number
pub record Declared : Type 0 where
  pub number : ℕ
  pub function : Function

abbrev pub opens_from : ℕ → List Function → List Declared
opens_from n [] = []
opens_from n (f ∷ fs) =
    if is_open f then record { number = n; function = f } ∷ opens_from (suc n) fs
    else opens_from (suc n) fs

-- the open-methods of a program
abbrev pub opens_of : Program → List Declared
opens_of p = opens_from 0 p.functions

abbrev pub over : List Class → Declared → Declared → Bool
over g r o = overrides g r.function o.function

-- those that no other of them overrides
abbrev pub least_overridden : List Class → List Declared → List Declared
least_overridden g rs = filter (λ r. not (list_any (λ q. over g q r) rs)) rs

-- the base-methods: they override none
abbrev pub base_methods : List Class → List Declared → List Declared
base_methods g os = filter (λ b. not (list_any (over g b) os)) os

-- a base-method and all that override it
abbrev pub family_of : List Class → List Declared → Declared → List Declared
family_of g os b =
    filter (λ (r : Declared). if nat_eq r.number b.number then true else over g r b) os
