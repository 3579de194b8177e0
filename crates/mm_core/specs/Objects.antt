-- Objects: new ones, and their fields. (ISO/IEC 14882, 5.3.4, 9.2; that each field starts at zero
-- is own.)
use Rattle.std.specs.Prelude.{ℕ, List, [], ◌∷◌, ◌++◌, length, Option, Ok, Err}
use Rattle.mm_base.specs.declared.num.Trap.TheVariants as by
use Rattle.mm_classes.specs.declared.class.Ty.{Ty}
use Rattle.mm_classes.specs.Classes.{Class}
use Rattle.mm_classes.specs.Subobjects.{end_of}
use Rattle.mm_core.specs.Heads.{class_shown, field_type}
use Rattle.mm_core.specs.State.{Value, At, zero_of, with_field, Object, object_at, with_object, on_some, Operation}

-- an object of a class, each field of each subobject zero
abbrev pub fresh : List Class → ℕ → Object
fresh g c = record { class = c; fields = λ s f. zero_of (field_type g (end_of s) f) }

-- a new object, which the value shows
abbrev pub make_object : List Class → ℕ → Operation
make_object g c s =
    Ok (
      At (length s.objects) (c ∷ []),
      record
          { objects = s.objects ++ fresh g c ∷ []; world = s.world },
    )

-- a new object of the class that the type of a variable shows
abbrev pub make_variable : List Class → Option Ty → Operation
make_variable g t s = on_some t (λ t. make_object g (class_shown t) s)

-- In a checked tree the pointer shows a subobject: where it could be null, a test comes first.
abbrev pub get_field : ℕ → Value → Operation
get_field f (At o t) s = Ok ((object_at s.objects o).fields t f, s)
get_field f other s = Err by.Null

abbrev pub put_field : ℕ → Value → Value → Operation
put_field f (At o t) v s =
    Ok (
      v,
      with_object s o (record {
        class = (object_at s.objects o).class;
        fields = with_field (object_at s.objects o).fields t f v;
      }),
    )
put_field f other v s = Err by.Null
