-- No operation takes back what was put.
use Rattle.std.proofs.Common.{ℕ, List, [], ◌∷◌, ◌++◌, refl, sym, ap, ◌∙◌, append_assoc, append-nil}
use Rattle.std.specs.Prelude.{ℤ, Option, Some, None, Result, Ok, Err, slice_get}
use Rattle.mm_base.specs.declared.num.Trap.{Trap}
use Rattle.mm_base.specs.declared.world.Builtin.{Builtin}
use Rattle.mm_base.specs.declared.world.Builtin.TheVariants.{Put, Get, More}
use Rattle.mm_base.specs.World.{World, call_builtin, got}
use Rattle.mm_classes.specs.declared.class.Ty.{Ty}
use Rattle.mm_classes.specs.Classes.{Class}
use Rattle.mm_classes.specs.Subobjects.{Path, subobjects_of}
use Rattle.mm_meaning.specs.Later.{IsOrder}
use Rattle.mm_core.specs.State.{Value, Truth, Number, Word, Null, At, Nothing, State, on_some, Operation}
use Rattle.mm_core.specs.Heads.{class_in}
use Rattle.mm_core.specs.Objects.{make_object, make_variable, get_field, put_field}
use Rattle.mm_core.specs.Moves.{to_base, moved_value, kept, move_along, move_to, path_between, move_back, result_back}
use Rattle.mm_core.specs.Meaning.{ints_of, answered, ask}
use Rattle.mm_meaning.specs.Same.{IsFront}
use Rattle.mm_core.specs.Settles.{Before}

pub order : IsOrder Before
order = record {
  itself = λ s. record { put = ([], sym (append-nil s.world.put)) };
  through = λ s t u b c. record { put = (b.put.0 ++ c.put.0, c.put.1 ∙ ap (λ l. l ++ c.put.0) b.put.1 ∙ append_assoc s.world.put b.put.0 c.put.0) };
}

-- what an operation leaves goes on from where it began
abbrev pub Follows : State → Result (Value × State) Trap → Type 0
Follows s (Ok r) = Before s r.1
Follows s (Err t) = Unit {0}

pub record Quiet (op : Operation) : Type 0 where
  pub by : (s : State) → Follows s (op s)

same_front : (zs : List ℤ) → IsFront zs zs
same_front zs = ([], sym (append-nil zs))

-- ---- objects

pub make_quiet : (g : List Class) (c : ℕ) → Quiet (make_object g c)
make_quiet g c = record { by = λ s. record { put = same_front s.world.put } }

variable_follows : (g : List Class) (o : Option Ty) (s : State) → Follows s (make_variable g o s)
variable_follows g None s = tt
variable_follows g (Some t) s = record { put = same_front s.world.put }

pub variable_quiet : (g : List Class) (o : Option Ty) → Quiet (make_variable g o)
variable_quiet g o = record { by = variable_follows g o }

get_follows : (f : ℕ) (p : Value) (s : State) → Follows s (get_field f p s)
get_follows f (At o t) s = order.itself s
get_follows f (Truth b) s = tt
get_follows f (Number z) s = tt
get_follows f (Word n) s = tt
get_follows f Null s = tt
get_follows f Nothing s = tt

pub get_quiet : (f : ℕ) (p : Value) → Quiet (get_field f p)
get_quiet f p = record { by = get_follows f p }

put_follows : (f : ℕ) (p v : Value) (s : State) → Follows s (put_field f p v s)
put_follows f (At o t) v s = record { put = same_front s.world.put }
put_follows f (Truth b) v s = tt
put_follows f (Number z) v s = tt
put_follows f (Word n) v s = tt
put_follows f Null v s = tt
put_follows f Nothing v s = tt

pub put_quiet : (f : ℕ) (p v : Value) → Quiet (put_field f p v)
put_quiet f p v = record { by = put_follows f p v }

-- ---- moves

kept_follows : (s : State) (r : Result Value Trap) → Follows s (kept s r)
kept_follows s (Ok v) = order.itself s
kept_follows s (Err t) = tt

pub move_quiet : (g : List Class) (q : Path) (v : Value) → Quiet (move_along g q v)
move_quiet g q v = record { by = λ s. kept_follows s (moved_value g (to_base q) s v) }

some_quiet : (g : List Class) (o : Option Path) (v : Value) (s : State) → Follows s (on_some o (λ q. move_along g q v s))
some_quiet g None v s = tt
some_quiet g (Some q) v s = (move_quiet g q v).by s

pub to_quiet : (g : List Class) (c n : ℕ) (v : Value) → Quiet (move_to g c n v)
to_quiet g c n v = record { by = λ s. some_quiet g (slice_get (subobjects_of g c) n) v s }

back_quiet : (g : List Class) (o : Option Path) (v : Value) → Quiet (move_back g o v)
back_quiet g None v = record { by = λ s. order.itself s }
back_quiet g (Some q) v = record { by = λ s. (move_quiet g q v).by s }

pub result_quiet : (g : List Class) (t u : Ty) (v : Value) → Quiet (result_back g t u v)
result_quiet g t u v = back_quiet g (path_between g (class_in t) (class_in u)) v

-- ---- the world

abbrev WorldGrew : World → Result (Option ℤ × World) Trap → Type 0
WorldGrew w (Ok r) = IsFront w.put r.1.put
WorldGrew w (Err t) = Unit {0}

got_grew : (w : World) (o : Option ℤ) → WorldGrew w (got w o)
got_grew w None = tt
got_grew w (Some z) = same_front w.put

world_grew : (b : Builtin) (zs : List ℤ) (w : World) → WorldGrew w (call_builtin b zs w)
world_grew Put [] w = same_front w.put
world_grew Put (z ∷ zs) w = (z ∷ [], refl)
world_grew Get zs w = got_grew w (slice_get w.input w.taken)
world_grew More zs w = same_front w.put

answered_follows : (s : State) (r : Result (Option ℤ × World) Trap) → WorldGrew s.world r → Follows s (answered s r)
answered_follows s (Ok r) h = record { put = h }
answered_follows s (Err t) h = tt

pub ask_quiet : (b : Builtin) (vs : List Value) → Quiet (ask b vs)
ask_quiet b vs = record { by = λ s. answered_follows s (call_builtin b (ints_of vs) s.world) (world_grew b (ints_of vs) s.world) }
