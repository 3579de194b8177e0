-- How a run gets from one subobject of an object to another. Nothing else changes which subobject a
-- pointer shows. (ISO/IEC 14882, 4.10/3, 10.3 and 12.6.2/8, in the words of Rossie and Friedman.)
use Rattle.std.specs.Prelude.{ℕ, List, Option, Some, None, Result, Ok, Err, slice_get}
use Rattle.mm_base.specs.declared.num.Trap.{Trap}
use Rattle.mm_base.specs.declared.num.Trap.TheVariants as by
use Rattle.mm_classes.specs.declared.class.Member.{Member}
use Rattle.mm_classes.specs.declared.class.Ty.{Ty}
use Rattle.mm_classes.specs.Classes.{Class}
use Rattle.mm_classes.specs.Subobjects.{Path, compose, subobjects_of}
use Rattle.mm_core.specs.Sets.{only, ups, arounds}
use Rattle.mm_core.specs.Heads.{class_in}
use Rattle.mm_core.specs.Finals.{final_of}
use Rattle.mm_core.specs.State.{Value, Truth, Number, Word, Null, At, Nothing, State, class_of, on_some, Operation}

-- The ways on from a subobject: to a base of it, along a path; to the final overrider of a function
-- that it declares; and to the subobject of a class that contains it.
pub data Way : Type 0 where
  to_base : Path → Way
  to_final : Member → Way
  to_around : ℕ → Way

-- where a way leads from the subobject s of an object of class d
abbrev pub moved : List Class → Way → ℕ → Path → Option Path
moved g (to_base q) d s = Some (compose s q)
moved g (to_final m) d s = final_of g d s m
moved g (to_around c) d s = only (arounds g d s c)

-- a pointer to the subobject, where there is one
abbrev pub at : ℕ → Option Path → Result Value Trap
at o (Some t) = Ok (At o t)
at o None = Err by.Null

-- a pointer moved; null stays null
abbrev pub moved_value : List Class → Way → State → Value → Result Value Trap
moved_value g way s (At o t) = at o (moved g way (class_of s.objects o) t)
moved_value g way s Null = Ok Null
moved_value g way s (Truth b) = Ok (Truth b)
moved_value g way s (Number z) = Ok (Number z)
moved_value g way s (Word n) = Ok (Word n)
moved_value g way s Nothing = Ok Nothing

-- the pointer at the end of a path, as an operation
abbrev pub kept : State → Result Value Trap → Result (Value × State) Trap
kept s (Ok v) = Ok (v, s)
kept s (Err t) = Err t

abbrev pub move_along : List Class → Path → Value → Operation
move_along g q v s = kept s (moved_value g (to_base q) s v)

-- to the n-th subobject of class c
abbrev pub move_to : List Class → ℕ → ℕ → Value → Operation
move_to g c n v s = on_some (slice_get (subobjects_of g c) n) (λ q. move_along g q v s)

-- the pointer itself, where it is not null
abbrev pub tested_pointer : Value → Result Value Trap
tested_pointer (At o t) = Ok (At o t)
tested_pointer other = Err by.Null

-- The way of a result: from its class up to that of the declaration called, where it has one
-- (10.3/5).
abbrev pub path_between : List Class → Option ℕ → Option ℕ → Option Path
path_between g (Some c) (Some b) = only (ups g c b)
path_between g (Some c) None = None
path_between g None b = None

abbrev pub move_back : List Class → Option Path → Value → Operation
move_back g None v s = Ok (v, s)
move_back g (Some q) v s = move_along g q v s

abbrev pub result_back : List Class → Ty → Ty → Value → Operation
result_back g from to = move_back g (path_between g (class_in from) (class_in to))
