-- The values of a type. (ISO/IEC 14882, 3.9.1, 3.9.2, 4.10 and 8.3.2.)
use Rattle.std.specs.Prelude.{◌≡◌, ℕ, ℤ, ◌<◌, ◌≤◌, ◌^◌, IsTrue, List, [], ◌∷◌, length}
use Rattle.mm_base.specs.Num.{is_int}
use Rattle.mm_classes.specs.declared.class.Ty.{Ty}
use Rattle.mm_classes.specs.declared.class.Ty.TheVariants as ty
use Rattle.mm_classes.specs.Lists.{Has}
use Rattle.mm_classes.specs.Classes.{Class}
use Rattle.mm_classes.specs.Subobjects.{Path, IsSubobject, end_of}
use Rattle.mm_core.specs.Heads.{field_type}
use Rattle.mm_core.specs.State.{Value, Truth, Number, Word, Null, At, Nothing, Object, State, object_at, class_of}

-- a subobject of class c of an object
pub record Shows (g : List Class) (objects : List Object) (c o : ℕ) (s : Path) : Type 0 where
  pub there : o < length objects
  pub part : IsSubobject g (class_of objects o) s
  pub ends : end_of s ≡ c

abbrev pub Fits : List Class → List Object → Ty → Value → Type 0
Fits g objects ty.Void Nothing = Unit {0}
Fits g objects ty.Bool (Truth b) = Unit {0}
Fits g objects ty.Int (Number z) = IsTrue (is_int z)
Fits g objects ty.Unsigned (Word n) = n < 2 ^ 32
Fits g objects (ty.Ptr c) Null = Unit {0}
Fits g objects (ty.Ptr c) (At o s) = Shows g objects c o s
Fits g objects (ty.Ref c) (At o s) = Shows g objects c o s
Fits g objects t v = ⊥

abbrev pub AllFit : List Class → List Object → List Ty → List Value → Type 0
AllFit g objects [] [] = Unit {0}
AllFit g objects [] (v ∷ vs) = ⊥
AllFit g objects (t ∷ ts) [] = ⊥
AllFit g objects (t ∷ ts) (v ∷ vs) = Fits g objects t v × AllFit g objects ts vs

-- no object is lost, and none changes its class
pub record Grew (before after : List Object) : Type 0 where
  pub longer : length before ≤ length after
  pub same : (o : ℕ) → o < length before → class_of after o ≡ class_of before o

-- each field of each subobject holds a value of its type, and the input is one of `int`s
pub record IsState (g : List Class) (s : State) : Type 0 where
  pub fields : (o f : ℕ) (t : Path) → o < length s.objects →
      IsSubobject g (class_of s.objects o) t →
      Fits g s.objects (field_type g (end_of t) f) ((object_at s.objects o).fields t f)
  pub input : (z : ℤ) → Has s.world.input z → IsTrue (is_int z)
