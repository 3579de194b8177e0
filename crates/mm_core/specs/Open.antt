-- Calls of open-methods. (Own, after the paper that Families names.)
use Rattle.std.specs.Prelude.{ℕ, true, List, [], ◌∷◌, filter, Option, Some, None, Result, Ok, Err, nat_eq, slice_get, if◌then◌else◌}
use Rattle.mm_base.specs.declared.num.Trap.{Trap}
use Rattle.mm_base.specs.declared.num.Trap.TheVariants as by
use Rattle.mm_meaning.specs.Run.{◌>>=◌}
use Rattle.mm_classes.specs.Classes.{Class}
use Rattle.mm_classes.specs.Subobjects.{Path, compose}
use Rattle.mm_core.specs.declared.part.CoreParam.{CoreParam}
use Rattle.mm_core.specs.Tree.{Program}
use Rattle.mm_core.specs.Sets.{ups}
use Rattle.mm_core.specs.State.{Value, At, Object, State, class_of, on_some}
use Rattle.mm_core.specs.Virtual.{Calls, reads, Entry, entered}
use Rattle.mm_core.specs.Families.{classes_of, Declared, opens_of, over, base_methods}
use Rattle.mm_core.specs.Ordering.{declared_before, first_by}
use Rattle.mm_core.specs.Dispatch.{Row, parameters_of, winner_of}

-- ---- the first choice of base-method and path

abbrev pub first_in : {X : Type 0} → List X → Option X
first_in [] = None
first_in (x ∷ xs) = Some x

abbrev pub first_of : List Class → List Declared → Option Declared
first_of g [] = None
first_of g (b ∷ bs) = Some (first_by (declared_before g) b bs)

-- the first of the base-methods whose family has a declaration
abbrev pub first_base : List Class → List Declared → Declared → Option Declared
first_base g os o =
    first_of g (filter (λ (b : Declared). if nat_eq b.number o.number then true else over g o b)
    (base_methods g os))

-- the first path at each position
abbrev pub first_ways : List Class → List ℕ → List ℕ → List (Option Path)
first_ways g [] bs = []
first_ways g (c ∷ cs) [] = []
first_ways g (c ∷ cs) (b ∷ bs) = first_in (ups g c b) ∷ first_ways g cs bs

-- ---- arguments

-- the arguments in the virtual positions
abbrev pub virtual_values : List CoreParam → List Value → List Value
virtual_values [] vs = []
virtual_values (q ∷ qs) [] = []
virtual_values (q ∷ qs) (v ∷ vs) =
    if q.is_virtual then v ∷ virtual_values qs vs else virtual_values qs vs

-- others in their place
abbrev pub with_virtuals : List CoreParam → List Value → List Value → List Value
with_virtuals [] vs ws = []
with_virtuals (q ∷ qs) [] ws = []
with_virtuals (q ∷ qs) (v ∷ vs) [] = v ∷ with_virtuals qs vs []
with_virtuals (q ∷ qs) (v ∷ vs) (w ∷ ws) =
    if q.is_virtual then w ∷ with_virtuals qs vs ws else v ∷ with_virtuals qs vs (w ∷ ws)

abbrev pub row_and : Row → Result (List Row) Trap → Result (List Row) Trap
row_and row (Ok rows) = Ok (row ∷ rows)
row_and row (Err t) = Err t

-- the rows of pointers that are not null
abbrev pub rows_of : List Object → List Value → Result (List Row) Trap
rows_of objects [] = Ok []
rows_of objects (At o t ∷ vs) =
    row_and (record { class = class_of objects o; part = t }) (rows_of objects vs)
rows_of objects (other ∷ vs) = Err by.Null

abbrev pub row_before : Row → Option (List Row) → Option (List Row)
row_before row None = None
row_before row (Some rows) = Some (row ∷ rows)

-- rows moved along paths, one for each
abbrev pub raised : List Row → List (Option Path) → Option (List Row)
raised [] qs = Some []
raised (row ∷ rows) [] = None
raised (row ∷ rows) (None ∷ qs) = None
raised (row ∷ rows) (Some q ∷ qs) =
    row_before (record { class = row.class; part = compose row.part q }) (raised rows qs)

-- pointers to other subobjects of the same objects
abbrev pub shown : List Value → List (Option Path) → List Value
shown [] ts = []
shown (v ∷ vs) [] = []
shown (At o s ∷ vs) (Some t ∷ ts) = At o t ∷ shown vs ts
shown (v ∷ vs) (t ∷ ts) = v ∷ shown vs ts

-- ---- the call

-- the winner is entered, with its parameters in the virtual positions and the other arguments as
-- they are
abbrev pub won : List Class → Declared → List Value → List Row → Declared → Entry
won g o vs rows w = record {
  function = w.number;
  arguments =
      with_virtuals o.function.params vs
      (shown (virtual_values o.function.params vs)
      (parameters_of g rows (classes_of w.function)));
  declared = o.function.result;
}

-- from the rows of the arguments
abbrev pub entry_at : Program → Declared → List Value → List Row → Result Entry Trap
entry_at p o vs rows =
    on_some (first_base p.classes (opens_of p) o) (λ b.
    on_some (raised rows (first_ways p.classes (classes_of o.function) (classes_of b.function)))
    (λ up.
    on_some (winner_of p.classes (opens_of p) b up) (λ w.
    Ok (won p.classes o vs up w.0))))

abbrev pub if_rows : Program → Declared → List Value → Result (List Row) Trap → Result Entry Trap
if_rows p o vs (Ok rows) = entry_at p o vs rows
if_rows p o vs (Err t) = Err t

abbrev pub open_entry : Program → ℕ → List Value → State → Result Entry Trap
open_entry p n vs s =
    on_some (slice_get p.functions n)
    (λ f. if_rows p (record { number = n; function = f }) vs
    (rows_of s.objects (virtual_values f.params vs)))

-- A call of an open-method, on the values of all arguments.
abbrev pub call_open : Program → Calls → Calls
call_open p calls n vs = do
  e ← reads (open_entry p n vs)
  entered p calls e
