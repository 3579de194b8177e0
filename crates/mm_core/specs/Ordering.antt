-- Orders of texts and of declarations, by their bytes. (Own.)
use Rattle.std.specs.Prelude.{ℕ, Bool, true, false, not, List, [], ◌∷◌, ◌++◌, map, nat_eq, nat_lt, if◌then◌else◌, codes}
use Rattle.std.specs.List.{join_with_byte}
use Rattle.std.specs.Str.{bytes_eq}
use Rattle.mm_classes.specs.declared.class.Ty.{Ty}
use Rattle.mm_classes.specs.declared.class.Ty.TheVariants as ty
use Rattle.mm_classes.specs.Classes.{Class, name_of}
use Rattle.mm_core.specs.Tree.{Function}
use Rattle.mm_core.specs.Heads.{types_of_params}
use Rattle.mm_core.specs.Families.{Declared, classes_of}

abbrev pub text_before : List ℕ → List ℕ → Bool
text_before [] [] = false
text_before [] (y ∷ ys) = true
text_before (x ∷ xs) [] = false
text_before (x ∷ xs) (y ∷ ys) = if nat_eq x y then text_before xs ys else nat_lt x y

abbrev pub texts_before : List (List ℕ) → List (List ℕ) → Bool
texts_before [] [] = false
texts_before [] (y ∷ ys) = true
texts_before (x ∷ xs) [] = false
texts_before (x ∷ xs) (y ∷ ys) = if bytes_eq x y then texts_before xs ys else text_before x y

-- the names of the classes at the virtual positions
abbrev pub class_names : List Class → Declared → List (List ℕ)
class_names g r = map (name_of g) (classes_of r.function)

-- from left to right, by bytes
abbrev pub names_before : List Class → Declared → Declared → Bool
names_before g r q = texts_before (class_names g r) (class_names g q)

abbrev pub type_text : List Class → Ty → List ℕ
type_text g ty.Void = codes "void"
type_text g ty.Bool = codes "bool"
type_text g ty.Int = codes "int"
type_text g ty.Unsigned = codes "unsigned"
type_text g (ty.Ptr c) = name_of g c ++ codes "*"
type_text g (ty.Ref c) = name_of g c ++ codes "&"

-- `f(A&,B*,int)`
abbrev pub signature : List Class → Function → List ℕ
signature g f =
    f.name ++ codes "(" ++ join_with_byte 44 (map (type_text g) (types_of_params f.params))
    ++ codes ")"

-- the order of base-methods: by name, then by the names of classes, then by signature
abbrev pub declared_before : List Class → Declared → Declared → Bool
declared_before g r q =
    if not (bytes_eq r.function.name q.function.name)
    then text_before r.function.name q.function.name
    else (if names_before g r q then true
    else (if names_before g q r then false
    else text_before (signature g r.function) (signature g q.function)))

-- the first by an order
abbrev pub first_by : {X : Type 0} → (X → X → Bool) → X → List X → X
first_by before x [] = x
first_by before x (y ∷ ys) = first_by before (if before y x then y else x) ys
