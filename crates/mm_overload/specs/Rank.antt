-- Implicit conversions of an argument, and their ranks. ISO/IEC 14882:1998, clause 4 (standard
-- conversions), 4.5/4, 4.7, 4.10, 4.12, 13.3.3.1.1 (table 9), 13.3.3.1.4 (references).
use Rattle.std.specs.Prelude.{ℕ, Bool, true, not, ◌&&◌, cond, nat_eq, List, map, Option, None, Some, option_map}
use Rattle.mm_classes.specs.declared.class.Ty.{Ty}
use Rattle.mm_classes.specs.declared.class.Ty.TheVariants as ty
use Rattle.mm_classes.specs.Lists.{has}
use Rattle.mm_classes.specs.Classes.{Class}
use Rattle.mm_classes.specs.Subobjects.{subobjects_of, end_of}
use Rattle.mm_overload.specs.declared.conv.Arg.{Arg}
use Rattle.mm_overload.specs.declared.conv.Conv.{Conv}
use Rattle.mm_overload.specs.declared.conv.Rank.{Rank}
use Rattle.mm_overload.specs.declared.conv.Rank.TheVariants.{Exact, Promotion, Conversion}

-- b is a direct or indirect base of c (10/1): the class of a subobject of c, and not c itself
abbrev pub is_base : List Class → ℕ → ℕ → Bool
is_base g c b = not (nat_eq c b) && has (map end_of (subobjects_of g c)) b

-- From class c to class b: exact to itself, a conversion to a base. Whether the base is ambiguous
-- or accessible is asked later (13.3.3.1/2, 13.3.3.1.4/1).
abbrev pub class_rank : List Class → ℕ → ℕ → Option Rank
class_rank g c b = cond (nat_eq c b) (Some Exact) (cond (is_base g c b) (Some Conversion) None)

-- the rank of the conversion that a test allows
abbrev pub conversion_if : Bool → Option Rank
conversion_if b = cond b (Some Conversion) None

-- The rank of the conversion from a type to another (table 9). `zero` is the literal 0, which as
-- an int is the only null pointer constant (4.10/1; that no other one is, is own); a reference is
-- bound to a class lvalue alone (8.5.3/5).
abbrev pub rank_from : List Class → (zero lvalue : Bool) → Ty → Ty → Option Rank
rank_from g zero lvalue ty.Bool ty.Bool = Some Exact
rank_from g zero lvalue ty.Bool ty.Int = Some Promotion
rank_from g zero lvalue ty.Bool ty.Unsigned = Some Conversion
rank_from g zero lvalue ty.Int ty.Bool = Some Conversion
rank_from g zero lvalue ty.Int ty.Int = Some Exact
rank_from g zero lvalue ty.Int ty.Unsigned = Some Conversion
rank_from g zero lvalue ty.Int (ty.Ptr b) = conversion_if zero
rank_from g zero lvalue ty.Unsigned ty.Bool = Some Conversion
rank_from g zero lvalue ty.Unsigned ty.Int = Some Conversion
rank_from g zero lvalue ty.Unsigned ty.Unsigned = Some Exact
rank_from g zero lvalue (ty.Ptr c) ty.Bool = Some Conversion
rank_from g zero lvalue (ty.Ptr c) (ty.Ptr b) = class_rank g c b
rank_from g zero true (ty.Ref c) (ty.Ref b) = class_rank g c b
rank_from g zero lvalue from to = None

abbrev pub rank_of : List Class → Arg → Ty → Option Rank
rank_of g a to = rank_from g a.zero a.lvalue a.ty to

-- the conversion of an argument to a type, where there is one
abbrev pub conversion_of : List Class → Arg → Ty → Option Conv
conversion_of g a to = option_map (λ r. record { rank = r; from = a.ty; to = to }) (rank_of g a to)
