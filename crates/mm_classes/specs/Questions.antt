-- Subobjects by their numbers, and answers of one, none or several. Own, but for the way up (ISO/IEC 14882:1998, 4.10/3,
-- 10.2).
use Rattle.std.specs.Prelude.{◌≡◌, ℕ, ◌+◌, ◌<◌, take, Bool, List, [], length, get_or, cond}
use Rattle.std.specs.List.{flat_map}
use Rattle.mm_classes.specs.declared.answer.Up.{Up}
use Rattle.mm_classes.specs.declared.answer.Up.TheVariants as up
use Rattle.mm_classes.specs.declared.answer.Around.{Around}
use Rattle.mm_classes.specs.declared.answer.Around.TheVariants as around
use Rattle.mm_classes.specs.Classes.{Class}
use Rattle.mm_classes.specs.Subobjects.{Path, chains, virtual_bases, subobjects_of, end_of, IsWithin}

-- the n-th subobject of d
abbrev pub node : List Class → ℕ → ℕ → Path
node g d n = get_or (subobjects_of g d) n []

-- n is the number of a subobject of d
abbrev pub IsNode : List Class → ℕ → ℕ → Type 0
IsNode g d n = n < length (subobjects_of g d)

-- the number of the first subobject of d that begins with the j-th virtual base of d
abbrev pub start_of : List Class → ℕ → ℕ → ℕ
start_of g d j = length (chains g (length g) d) + length (flat_map (chains g (length g)) (take j (virtual_bases g d)))

-- which of the numbers below a bound have a property: one, none or several
abbrev pub Picks : Up → (ℕ → Type 0) → ℕ → Type 0
Picks (up.One n) P bound = (n < bound) × P n × ((m : ℕ) → m < bound → P m → m ≡ n)
Picks up.None P bound = (m : ℕ) → m < bound → P m → ⊥
Picks up.Several P bound = (m k : ℕ) × (m < k) × (k < bound) × P m × P k

-- the subobject of c that is of class b, where there is exactly one; else none or several, by their number
abbrev pub IsUpOf : Up → List Class → ℕ → ℕ → Type 0
IsUpOf answer g c b = Picks answer (λ n. end_of (node g c n) ≡ b) (length (subobjects_of g c))

-- the same answer in the other type
abbrev pub as_up : Around → Up
as_up (around.One n) = up.One n
as_up around.None = up.None
as_up around.Several = up.Several

-- the x-th subobject of d is of class t and contains the n-th
abbrev pub Surrounds : List Class → ℕ → ℕ → ℕ → ℕ → Type 0
Surrounds g d n t x = (end_of (node g d x) ≡ t) × IsWithin g (node g d n) (node g d x)

-- the subobject of d that is of class t and contains the n-th, where there is exactly one; else none or several
abbrev pub IsAroundOf : Around → List Class → ℕ → ℕ → ℕ → Type 0
IsAroundOf answer g d n t = Picks (as_up answer) (Surrounds g d n t) (length (subobjects_of g d))

-- the n-th subobject of c has a property, and no other one that contains it has
abbrev pub IsLeft : List Class → ℕ → (ℕ → Type 0) → ℕ → Type 0
IsLeft g c P n = P n × ((m : ℕ) → m < length (subobjects_of g c) → P m → IsWithin g (node g c n) (node g c m) → m ≡ n)

-- an answer with one more number that fits, or one that does not
abbrev pub one_more : Up → ℕ → Up
one_more up.None n = up.One n
one_more (up.One m) n = up.Several
one_more up.Several n = up.Several

-- that, by a test
abbrev pub picked : Up → ℕ → Bool → Up
picked u n b = cond b (one_more u n) u
