-- Which of several functions a call takes. ISO/IEC 14882:1998, 13.3.2 (viable functions), 13.3.3
-- (best viable function).
use Rattle.std.specs.Prelude.{◌≡◌, ℕ, suc, Bool, true, false, not, ◌&&◌, ◌||◌, cond, nat_lt, nat_eq, List, [], ◌∷◌, Option, Some, None, is_some, slice_get, unwrap_or}
use Rattle.mm_classes.specs.declared.class.Ty.{Ty}
use Rattle.mm_classes.specs.declared.class.Ty.TheVariants as ty
use Rattle.mm_classes.specs.Classes.{Class}
use Rattle.mm_overload.specs.declared.conv.Arg.{Arg}
use Rattle.mm_overload.specs.declared.conv.Conv.{Conv}
use Rattle.mm_overload.specs.declared.choice.Best.{Best}
use Rattle.mm_overload.specs.declared.choice.Best.TheVariants as best
use Rattle.mm_overload.specs.Rank.{is_base, rank_of, conversion_of}
use Rattle.mm_overload.specs.Better.{place_of, IsBetter}

-- The types of a function's parameters make it viable: there are as many as arguments, and each
-- argument converts to its parameter (13.3.2/2, /3).
abbrev pub viable : List Class → List Arg → List Ty → Bool
viable g [] [] = true
viable g [] (p ∷ ps) = false
viable g (a ∷ args) [] = false
viable g (a ∷ args) (p ∷ ps) = is_some (rank_of g a p) && viable g args ps

-- the k-th argument has a better conversion to the k-th of the types ps than to the k-th of the
-- types qs
abbrev pub IsBetterAt : List Class → List Arg → (ps qs : List Ty) → ℕ → Type 0
IsBetterAt g args ps qs k = (a : Arg) × (p q : Ty) × (x y : Conv)
    × (slice_get args k ≡ Some a) × (slice_get ps k ≡ Some p) × (slice_get qs k ≡ Some q)
    × (conversion_of g a p ≡ Some x) × (conversion_of g a q ≡ Some y) × IsBetter g x y

-- of two viable functions the first is better: no argument has a worse conversion, and one has a
-- better one (13.3.3/1)
abbrev pub IsBetterFunction : List Class → List Arg → (ps qs : List Ty) → Type 0
IsBetterFunction g args ps qs = ((k : ℕ) → IsBetterAt g args qs ps k → ⊥) × ((k : ℕ)
    × IsBetterAt g args ps qs k)

-- the viable function that is better than every other viable one (13.3.3/2)
pub record IsBest (g : List Class) (args : List Arg) (candidates : List (List Ty)) (i : ℕ) : Type
    0 where
  pub params : List Ty
  pub is : slice_get candidates i ≡ Some params
  pub fits : viable g args params ≡ true
  pub beats : (j : ℕ) (other : List Ty) → slice_get candidates j ≡ Some other → (j ≡ i → ⊥)
      → viable g args other ≡ true
      → IsBetterFunction g args params other

abbrev pub NoneIsViable : List Class → List Arg → List (List Ty) → Type 0
NoneIsViable g args candidates = (j : ℕ) (params : List Ty) → slice_get candidates j ≡ Some params
    → viable g args params ≡ true → ⊥

-- which function a call takes: the best one; or none is viable; or several are, and none of them
-- is best (13.3.3/2)
abbrev pub IsChoice : List Class → List Arg → List (List Ty) → Best → Type 0
IsChoice g args candidates (best.One i) = IsBest g args candidates i
IsChoice g args candidates best.None = NoneIsViable g args candidates
IsChoice g args candidates best.Several = (NoneIsViable g args candidates → ⊥) × ((i : ℕ)
    → IsBest g args candidates i → ⊥)

-- there is one such answer, whatever the classes, the arguments and the functions are
abbrev pub OneChoice : Type 0
OneChoice = (g : List Class) (args : List Arg) (candidates : List (List Ty)) (x y : Best)
    → IsChoice g args candidates x
    → IsChoice g args candidates y → x ≡ y

-- THE CHOICE AS A FUNCTION
-- the tests of `IsPointerToBool` and `IsNearer`
abbrev pub to_bool : (from to : Ty) → Bool
to_bool (ty.Ptr c) ty.Bool = true
to_bool from to = false

abbrev pub nearer : List Class → (from to other : Ty) → Bool
nearer g (ty.Ptr c) (ty.Ptr b) (ty.Ptr a) = is_base g b a
nearer g (ty.Ref c) (ty.Ref b) (ty.Ref a) = is_base g b a
nearer g from to other = false

-- the test of `IsBetter` on two conversions from one type
abbrev pub better : List Class → Conv → Conv → Bool
better g x y = nat_lt (place_of x.rank) (place_of y.rank) || (nat_eq (place_of x.rank) (place_of
    y.rank)
    && ((to_bool y.from y.to && not (to_bool x.from x.to)) || nearer g x.from x.to y.to))

-- the same, where both are there
abbrev pub both_better : List Class → Option Conv → Option Conv → Bool
both_better g (Some x) (Some y) = better g x y
both_better g x y = false

-- the test of `IsBetterAt` at one argument
abbrev pub better_to : List Class → Arg → Ty → Ty → Bool
better_to g a p q = both_better g (conversion_of g a p) (conversion_of g a q)

-- some argument has a better conversion to the first types
abbrev pub some_better : List Class → List Arg → (ps qs : List Ty) → Bool
some_better g (a ∷ args) (p ∷ ps) (q ∷ qs) = better_to g a p q || some_better g args ps qs
some_better g args ps qs = false

-- the test of `IsBetterFunction`
abbrev pub better_function : List Class → List Arg → (ps qs : List Ty) → Bool
better_function g args ps qs = not (some_better g args qs ps) && some_better g args ps qs

abbrev pub params_at : List (List Ty) → ℕ → List Ty
params_at candidates i = unwrap_or (slice_get candidates i) []

-- the i-th function, q, meets the one that is not beaten so far
abbrev pub meets : List Class → List Arg → List (List Ty) → Option ℕ → ℕ → List Ty → Option ℕ
meets g args all None i q = cond (viable g args q) (Some i) None
meets g args all (Some w) i q = cond (viable g args q && better_function g args q (params_at all
    w)) (Some i) (Some w)

-- who is not beaten, from left to right; the list goes on from i
abbrev pub champion : List Class → List Arg → List (List Ty) → Option ℕ → ℕ → List (List Ty)
    → Option ℕ
champion g args all held i [] = held
champion g args all held i (q ∷ qs) = champion g args all (meets g args all held i q) (suc i) qs

-- whether the w-th is better than every other viable one from the i-th on
abbrev pub beats_all : List Class → List Arg → ℕ → List Ty → ℕ → List (List Ty) → Bool
beats_all g args w params i [] = true
beats_all g args w params i (q ∷ qs) = ((nat_eq i w || not (viable g args q)) || better_function g
    args params q)
    && beats_all g args w params (suc i) qs

abbrev pub choice_if : Bool → ℕ → Best
choice_if true w = best.One w
choice_if false w = best.Several

abbrev pub choice_by : List Class → List Arg → List (List Ty) → Option ℕ → Best
choice_by g args all None = best.None
choice_by g args all (Some w) = choice_if (beats_all g args w (params_at all w) 0 all) w

unfoldable pub best_of : List Class → List Arg → List (List Ty) → Best
best_of g args all = choice_by g args all (champion g args all None 0 all)
