-- Member lookup. ISO/IEC 14882:1998, 10.2 (member name lookup).
use Rattle.std.specs.Prelude.{◌≡◌, ℕ, ◌<◌, true, false, List, length, Option, None, Some, slice_get}
use Rattle.mm_classes.specs.declared.class.Member.{Member}
use Rattle.mm_classes.specs.declared.answer.Up.TheVariants as up
use Rattle.mm_classes.specs.Lists.{Has}
use Rattle.mm_classes.specs.Classes.{Class, members_of, is_field}
use Rattle.mm_classes.specs.Subobjects.{subobjects_of, end_of}
use Rattle.mm_classes.specs.Questions.{node, Picks, IsLeft}
use Rattle.mm_classes.specs.Tops.{IsBest}
use Rattle.mm_lookup.specs.declared.found.Found.{Found}
use Rattle.mm_lookup.specs.declared.found.Found.TheVariants as found

-- the class of the n-th subobject of c declares the name
abbrev pub Declares : List Class → ℕ → List ℕ → ℕ → Type 0
Declares g c name n = (m : Member) × Has (members_of g (end_of (node g c n))) m × (m.name ≡ name)

-- the k-th member is a field of this name
abbrev pub IsFieldNamed : List Member → ℕ → List ℕ → Type 0
IsFieldNamed ms k name = (m : Member) × (slice_get ms k ≡ Some m) × (m.name ≡ name) × (is_field m ≡ true)

-- no member of this name is a field
abbrev pub AreFunctions : List Member → List ℕ → Type 0
AreFunctions ms name = (m : Member) → Has ms m → m.name ≡ name → is_field m ≡ false

-- What a name means in class c. Of the subobjects whose classes declare it, those that another one contains go out (10.2/2);
-- with exactly one left, it means what is declared there; with more it is ambiguous (10.2/2).
abbrev pub Finds : List Class → ℕ → List ℕ → Found → Type 0
Finds g c name found.None = Picks up.None (IsLeft g c (Declares g c name)) (length (subobjects_of g c))
Finds g c name found.Ambiguous = Picks up.Several (IsLeft g c (Declares g c name)) (length (subobjects_of g c))
Finds g c name (found.Field n k) = Picks (up.One n) (IsLeft g c (Declares g c name)) (length (subobjects_of g c))
    × IsFieldNamed (members_of g (end_of (node g c n))) k name
Finds g c name (found.Functions n) = Picks (up.One n) (IsLeft g c (Declares g c name)) (length (subobjects_of g c))
    × AreFunctions (members_of g (end_of (node g c n))) name

-- Of the first n subobjects of c, none declares the name; or b does, and where one that does contains all others that do, it
-- is b. Own.
abbrev pub IsBestOf : List Class → ℕ → List ℕ → Option ℕ → ℕ → Type 0
IsBestOf g c name None n = (m : ℕ) → m < n → Declares g c name m → ⊥
IsBestOf g c name (Some b) n = IsBest g c (Declares g c name) b n
