-- What a C program does: from a state and a clock, a result, the state after it and the clock left, or a stop.
-- (ISO/IEC 14882, 4.7, 5 and 6, on these trees; what C leaves undefined is the stop `Stuck`. The clock is own.)
use Rattle.std.specs.Prelude.{ℕ, zero, suc, ◌+◌, ◌-◌, ◌*◌, ◌/◌, ◌%◌, ◌^◌, ℤ, pos, negsuc, ◌+ℤ◌, ◌-ℤ◌, ◌*ℤ◌, ◌&&◌, ◌||◌, ◌==◌, Bool, true, false, not, List, [], ◌∷◌, ◌++◌, length, map, Option, Some, None, Result, Ok, Err, codes, if◌then◌else◌, int_lt, int_le, int_div, int_rem, nat_lt, nat_le, slice_get}
use Rattle.std.specs.Str.{bytes_eq}
use Rattle.mm_base.specs.declared.num.Trap.{Trap}
use Rattle.mm_base.specs.declared.world.Builtin.{Builtin}
use Rattle.mm_base.specs.declared.world.Builtin.TheVariants.{Put, Get, More}
use Rattle.mm_base.specs.Num.{is_int, is_zero, to_int, to_unsigned, code_of}
use Rattle.mm_base.specs.World.{World, call_builtin}
use Rattle.mm_meaning.specs.Run as run_
use Rattle.mm_meaning.specs.Run.{Run, Gives, Stops, ◌>>=◌, then, pure, stop, step, within, clocked}
use Rattle.mm_c.specs.declared.value.CCell.{CCell}
use Rattle.mm_c.specs.declared.value.CCell.TheVariants as cell
use Rattle.mm_c.specs.declared.value.CValue.{CValue}
use Rattle.mm_c.specs.declared.value.CValue.TheVariants.{Int, Unsigned, Long, Null, At}
use Rattle.mm_c.specs.declared.tree.CKind.{CKind}
use Rattle.mm_c.specs.declared.tree.CKind.TheVariants as kind
use Rattle.mm_c.specs.declared.tree.CNumber.{CNumber}
use Rattle.mm_c.specs.declared.tree.CAtom.{CAtom}
use Rattle.mm_c.specs.declared.tree.CAtom.TheVariants.{Name, Number, Negative, Least}
use Rattle.mm_c.specs.declared.tree.COperator.{COperator}
use Rattle.mm_c.specs.declared.tree.COperator.TheVariants.{Add, Subtract, Multiply, Divide, Remainder, Less, Greater, LessEqual, GreaterEqual, Equal, NotEqual}
use Rattle.mm_c.specs.declared.tree.CAddress.{CAddress}
use Rattle.mm_c.specs.declared.tree.CIndex.{CIndex}
use Rattle.mm_c.specs.declared.tree.CIndex.TheVariants as index_is
use Rattle.mm_c.specs.declared.tree.CCall.{CCall}
use Rattle.mm_c.specs.declared.tree.CCall.TheVariants.{Named, Element}
use Rattle.mm_c.specs.declared.tree.CExpr.{CExpr}
use Rattle.mm_c.specs.declared.tree.CExpr.TheVariants.{Atom, Binary, ToInt, ToUnsigned, Load, Index, Call}
use Rattle.mm_c.specs.declared.tree.CLocal.{CLocal}
use Rattle.mm_c.specs.declared.tree.CElement.{CElement}
use Rattle.mm_c.specs.declared.tree.CElement.TheVariants as element_is
use Rattle.mm_c.specs.Tree.{Stmt, assign, store, run, if_only, if_else, forever, break, continue, leave, return, Block, block, Code, done, do_then, Function, Item, typedef, array, proto, function, Program}
use Rattle.mm_c.specs.Memory as memory
use Rattle.mm_c.specs.WellFormed.{is_inline}

-- What stops a run before its end: a trap, a step that is due at clock 0, or what has no meaning in C.
pub data Stop : Type 0 where
  Trapped : ℕ → Stop
  Spent : Stop
  Stuck : Stop

-- the memory, and the world
pub record State : Type 0 where
  pub memory : List memory.Block
  pub world : World

-- what each local holds
abbrev pub Names : Type 0
Names = List ℕ → CValue

-- the kind of each local, as it was declared
abbrev pub Kinds : Type 0
Kinds = List ℕ → CKind

-- the locals of the function that runs, and the state
pub record Store : Type 0 where
  pub names : Names
  pub kinds : Kinds
  pub state : State

abbrev pub From : Type 0 → Type 0 → Type 0
From = run_.From Stop

abbrev pub stuck : {S A : Type 0} → From S A
stuck = stop Stuck

-- a run that is stuck where there is nothing
abbrev pub or_stuck : {S A : Type 0} → Option A → From S A
or_stuck None = stuck
or_stuck (Some a) = pure a

-- ---- values and what receives them

-- what a local of a kind holds at first
abbrev pub zero_of : CKind → CValue
zero_of kind.Int = Int (pos 0)
zero_of kind.Unsigned = Unsigned 0
zero_of kind.Long = Long (pos 0)
zero_of kind.Pointer = Null

-- `0`, by the kind of what receives it: null for a pointer, a `long` for a `long`
abbrev pub zero_for : CKind → CValue
zero_for kind.Int = Int (pos 0)
zero_for kind.Unsigned = Int (pos 0)
zero_for kind.Long = Long (pos 0)
zero_for kind.Pointer = Null

-- A value as what receives it holds it. In a well-formed program nothing but a `0` is changed.
abbrev pub fitted : CKind → CValue → CValue
fitted k (Int (pos zero)) = zero_for k
fitted k (Int (pos (suc n))) = Int (pos (suc n))
fitted k (Int (negsuc n)) = Int (negsuc n)
fitted k (Unsigned n) = Unsigned n
fitted k (Long z) = Long z
fitted k Null = Null
fitted k (At b o) = At b o

abbrev pub kind_of : CValue → CKind
kind_of (Int z) = kind.Int
kind_of (Unsigned n) = kind.Unsigned
kind_of (Long z) = kind.Long
kind_of Null = kind.Pointer
kind_of (At b o) = kind.Pointer

-- a number where a cell for tags receives it
abbrev pub as_tag : CValue → CValue
as_tag (Int (pos n)) = Unsigned n
as_tag v = v

-- a value as a cell holds it
abbrev pub fitted_in : CCell → CValue → CValue
fitted_in cell.Int v = v
fitted_in cell.Unsigned v = v
fitted_in cell.Short v = as_tag v
fitted_in cell.Pointer v = fitted kind.Pointer v

abbrev pub with_name : Names → List ℕ → CValue → Names
with_name names x v = λ y. if bytes_eq x y then v else names y

-- the locals of a block, as they are where the block is entered
abbrev pub zeroed : List CLocal → Names → Names
zeroed [] names = names
zeroed (x ∷ xs) names = zeroed xs (with_name names x.name (zero_of x.kind))

abbrev pub with_kind : Kinds → List ℕ → CKind → Kinds
with_kind kinds x k = λ y. if bytes_eq x y then k else kinds y

-- the kinds of parameters or of a block's locals, beside those before them
abbrev pub with_kinds : List CLocal → Kinds → Kinds
with_kinds [] kinds = kinds
with_kinds (x ∷ xs) kinds = with_kinds xs (with_kind kinds x.name x.kind)

-- the opposite of a number
abbrev pub minus : ℕ → ℤ
minus zero = pos 0
minus (suc n) = negsuc n

abbrev pub number_value : CNumber → CValue
number_value n = if n.is_unsigned then Unsigned n.value else Int (pos n.value)

abbrev pub atom_of : Names → CAtom → CValue
atom_of names (Name x) = names x
atom_of names (Number n) = number_value n
atom_of names (Negative n) = Int (minus n.value)
atom_of names Least = Int (negsuc 2147483647)

-- ---- operators

abbrev pub bit_of : Bool → ℤ
bit_of true = pos 1
bit_of false = pos 0

abbrev pub truth : Bool → Option CValue
truth b = Some (Int (bit_of b))

-- a number that an `int` holds
abbrev pub exact : ℤ → Option CValue
exact z = if is_int z then Some (Int z) else None

-- Where a quotient is no `int`, neither it nor the remainder is there.
abbrev pub divided : ℤ → ℤ → ℤ → Option CValue
divided x y z = if is_zero y || not (is_int (int_div x y)) then None else Some (Int z)

abbrev pub on_ints : COperator → ℤ → ℤ → Option CValue
on_ints Add x y = exact (x +ℤ y)
on_ints Subtract x y = exact (x -ℤ y)
on_ints Multiply x y = exact (x *ℤ y)
on_ints Divide x y = divided x y (int_div x y)
on_ints Remainder x y = divided x y (int_rem x y)
on_ints Less x y = truth (int_lt x y)
on_ints Greater x y = truth (int_lt y x)
on_ints LessEqual x y = truth (int_le x y)
on_ints GreaterEqual x y = truth (int_le y x)
on_ints Equal x y = truth (int_le x y && int_le y x)
on_ints NotEqual x y = truth (not (int_le x y && int_le y x))

-- modulo 2^32
abbrev pub wrapped : ℕ → Option CValue
wrapped n = Some (Unsigned (n % 2 ^ 32))

abbrev pub on_unsigned : COperator → ℕ → ℕ → Option CValue
on_unsigned Add x y = wrapped (x + y)
on_unsigned Subtract x y = wrapped (x + (2 ^ 32 - y))
on_unsigned Multiply x y = wrapped (x * y)
on_unsigned Divide x y = if y == 0 then None else Some (Unsigned (x / y))
on_unsigned Remainder x y = if y == 0 then None else Some (Unsigned (x % y))
on_unsigned Less x y = truth (nat_lt x y)
on_unsigned Greater x y = truth (nat_lt y x)
on_unsigned LessEqual x y = truth (nat_le x y)
on_unsigned GreaterEqual x y = truth (nat_le y x)
on_unsigned Equal x y = truth (x == y)
on_unsigned NotEqual x y = truth (not (x == y))

-- a sum of two `long`s, within 32 bits
abbrev pub on_longs : COperator → ℤ → ℤ → Option CValue
on_longs Add x y = if is_int (x +ℤ y) then Some (Long (x +ℤ y)) else None
on_longs _ x y = None

abbrev pub same_pointer : CValue → CValue → Bool
same_pointer Null Null = true
same_pointer (At b o) (At c p) = (b == c) && (o == p)
same_pointer _ _ = false

-- an offset from 0 to the size of a block
abbrev pub moved_in : ℕ → ℤ → Option memory.Block → Option CValue
moved_in b (pos o) (Some x) = if nat_le o x.size then Some (At b o) else None
moved_in b _ _ = None

-- what is added to a pointer
abbrev pub offset_in : CValue → Option ℤ
offset_in (Int z) = Some z
offset_in (Long z) = Some z
offset_in _ = None

abbrev pub moved : List memory.Block → CValue → Option ℤ → Option CValue
moved blocks (At b o) (Some z) = moved_in b (pos o +ℤ z) (slice_get blocks b)
moved blocks _ _ = None

-- an operator, the first operand of which is a pointer
abbrev pub on_pointers : List memory.Block → COperator → CValue → CValue → Option CValue
on_pointers blocks Add p v = moved blocks p (offset_in v)
on_pointers blocks Equal p v = truth (same_pointer p (fitted kind.Pointer v))
on_pointers blocks NotEqual p v = truth (not (same_pointer p (fitted kind.Pointer v)))
on_pointers blocks _ p v = None

-- operands of one kind
abbrev pub on_alike : List memory.Block → COperator → CValue → CValue → Option CValue
on_alike blocks o (Int x) (Int y) = on_ints o x y
on_alike blocks o (Unsigned x) (Unsigned y) = on_unsigned o x y
on_alike blocks o (Long x) (Long y) = on_longs o x y
on_alike blocks o Null v = on_pointers blocks o Null v
on_alike blocks o (At b p) v = on_pointers blocks o (At b p) v
on_alike blocks o _ _ = None

-- a second operand, which a `long` before it receives
abbrev pub beside : CValue → CValue → CValue
beside (Long x) v = fitted kind.Long v
beside _ v = v

-- An operator, or nothing where it is stuck. Each operand receives a `0` before or behind it.
abbrev pub operate : List memory.Block → COperator → CValue → CValue → Option CValue
operate blocks o x y = on_alike blocks o (fitted (kind_of y) x) (beside x y)

-- ---- casts

abbrev pub as_int : CValue → Option CValue
as_int (Int z) = Some (Int z)
as_int (Unsigned n) = Some (Int (to_int n))
as_int _ = None

abbrev pub as_unsigned : CValue → Option CValue
as_unsigned (Int z) = Some (Unsigned (to_unsigned z))
as_unsigned (Unsigned n) = Some (Unsigned n)
as_unsigned _ = None

-- ---- what a statement depends on beside its store

-- What is around a function's statements: calls of functions by name, and the constant arrays. A lowered function's
-- correspondence is for every such record that agrees with the source, so all that grows goes in here.
pub record Around : Type 0 where
  -- a call on the values of its arguments; its result, if it has one
  pub call : List ℕ → List CValue → From State (Option CValue)
  -- the function at an index of an array of functions
  pub function_at : List ℕ → ℤ → Option (List ℕ)
  -- the number at an index of an array of numbers
  pub number_at : List ℕ → ℤ → Option ℤ

-- ---- what a right side gives, but for calls: a function of the store, or nothing where it is stuck

-- the number that an index is
abbrev pub as_index : CValue → Option ℤ
as_index (Int z) = Some z
as_index (Long z) = Some z
as_index (Unsigned n) = Some (pos n)
as_index _ = None

abbrev pub loaded : Store → CCell → CAddress → Option CValue
loaded s c p = memory.load s.state.memory c (s.names p.pointer) p.offset.value

abbrev pub index_in : Option CValue → Option ℤ
index_in None = None
index_in (Some v) = as_index v

abbrev pub index_of : Store → CIndex → Option ℤ
index_of s (index_is.Name x) = as_index (s.names x)
index_of s (index_is.Tag p) = index_in (loaded s cell.Short p)

abbrev pub long_of : Option ℤ → Option CValue
long_of None = None
long_of (Some z) = Some (Long z)

-- what stands at an index, if there is one
abbrev pub at_index : {A : Type 0} → (ℤ → Option A) → Option ℤ → Option A
at_index at None = None
at_index at (Some i) = at i

abbrev pub value_in : Around → Store → CExpr → Option CValue
value_in around s (Atom a) = Some (atom_of s.names a)
value_in around s (Binary a o b) = operate s.state.memory o (atom_of s.names a) (atom_of s.names b)
value_in around s (ToInt x) = as_int (s.names x)
value_in around s (ToUnsigned x) = as_unsigned (s.names x)
value_in around s (Load c p) = loaded s c p
value_in around s (Index a i) = long_of (at_index (around.number_at a) (index_of s i))
value_in around s (Call c) = None

-- the function that is called
abbrev pub target_in : Around → Store → CCall → Option (List ℕ)
target_in around s (Named f atoms) = Some f
target_in around s (Element a x atoms) = at_index (around.function_at a) (as_index (s.names x))

abbrev pub atoms_in : CCall → List CAtom
atoms_in (Named f atoms) = atoms
atoms_in (Element a x atoms) = atoms

abbrev pub values_of : Names → List CAtom → List CValue
values_of names = map (atom_of names)

-- ---- what a statement changes

abbrev pub reads : CAtom → From Store CValue
reads a s k = Gives (atom_of s.names a) s k

-- The local receives the value by the kind that it was declared with.
abbrev pub set_name : List ℕ → CValue → From Store (Unit {0})
set_name x v s k = Gives tt (record { names = with_name s.names x (fitted (s.kinds x) v); kinds = s.kinds; state = s.state }) k

abbrev pub zero_all : List CLocal → From Store (Unit {0})
zero_all xs s k = Gives tt (record { names = zeroed xs s.names; kinds = with_kinds xs s.kinds; state = s.state }) k

-- a run in the state alone, without the caller's locals
abbrev pub outside : {A : Type 0} → From State A → From Store A
outside m s k = within (λ t. record { names = s.names; kinds = s.kinds; state = t }) (m s.state k)

abbrev pub with_memory : State → List memory.Block → State
with_memory s blocks = record { memory = blocks; world = s.world }

abbrev pub stored : Option (List memory.Block) → From Store (Unit {0})
stored None = stuck
stored (Some blocks) = λ s k. Gives tt (record { names = s.names; kinds = s.kinds; state = with_memory s.state blocks }) k

abbrev pub store_at : CCell → CAddress → CAtom → From Store (Unit {0})
store_at c p a s k = stored (memory.store s.state.memory c (s.names p.pointer) p.offset.value (fitted_in c (atom_of s.names a))) s k

-- ---- statements

-- how a statement goes on: to the next one, out of its loop, to the loop's next turn, or out of its function
pub data Flow : Type 0 where
  Next : Flow
  Broke : Flow
  Continued : Flow
  Returned : Option CValue → Flow

abbrev pub unless_left : Flow → From Store Flow → From Store Flow
unless_left Next rest = rest
unless_left Broke rest = pure Broke
unless_left Continued rest = pure Continued
unless_left (Returned v) rest = pure (Returned v)

abbrev pub next_turn : Flow → From Store Flow → From Store Flow
next_turn Next again = again
next_turn Continued again = again
next_turn Broke again = pure Next
next_turn (Returned v) again = pure (Returned v)

-- one way at 0, and the other at any other number
abbrev pub if_zero : CValue → From Store Flow → From Store Flow → From Store Flow
if_zero (Int (pos zero)) a b = a
if_zero (Int (pos (suc n))) a b = b
if_zero (Int (negsuc n)) a b = b
if_zero (Unsigned n) a b = stuck
if_zero (Long z) a b = stuck
if_zero Null a b = stuck
if_zero (At x p) a b = stuck

-- at most n turns, each a step
abbrev pub turns : ℕ → From Store Flow → From Store Flow
turns zero turn = stop Spent
turns (suc n) turn = step Spent (do
  flow ← turn
  next_turn flow (turns n turn))

module _ (around : Around) where
  abbrev pub called : Option (List ℕ) → List CValue → From State (Option CValue)
  called None vs = stuck
  called (Some f) vs = around.call f vs

  abbrev pub call_of : CCall → From Store (Option CValue)
  call_of c s k = outside (called (target_in around s c) (values_of s.names (atoms_in c))) s k

  abbrev pub gives : CExpr → From Store CValue
  gives r s k = or_stuck (value_in around s r) s k

  abbrev pub right_of : CExpr → From Store CValue
  right_of (Atom a) = gives (Atom a)
  right_of (Binary a o b) = gives (Binary a o b)
  right_of (ToInt x) = gives (ToInt x)
  right_of (ToUnsigned x) = gives (ToUnsigned x)
  right_of (Load c p) = gives (Load c p)
  right_of (Index a i) = gives (Index a i)
  right_of (Call c) = do
    r ← call_of c
    or_stuck r

  abbrev mutual
    pub flow_of : Stmt → From Store Flow
    flow_of (assign x r) = do
      v ← right_of r
      u ← set_name x v
      pure Next
    flow_of (store c p a) = do
      u ← store_at c p a
      pure Next
    flow_of (run c) = do
      r ← call_of c
      pure Next
    flow_of (if_only a b) = do
      v ← reads a
      if_zero v (pure Next) (flow_in b)
    flow_of (if_else a b c) = do
      v ← reads a
      if_zero v (flow_in c) (flow_in b)
    flow_of (forever b) = clocked (λ k. turns k (flow_in b))
    flow_of break = pure Broke
    flow_of continue = pure Continued
    flow_of leave = pure (Returned None)
    flow_of (return a) = do
      v ← reads a
      pure (Returned (Some v))

    -- a block
    pub flow_in : Block → From Store Flow
    flow_in (block xs code) = do
      u ← zero_all xs
      flows_of code

    -- statements, one after another
    pub flows_of : Code → From Store Flow
    flows_of done = pure Next
    flows_of (do_then s more) = do
      flow ← flow_of s
      unless_left flow (flows_of more)

-- ---- functions

-- What a function returns, and what its end without a `return` is. A value is as the result's kind receives it.
abbrev pub returned_as : Option CKind → Option CValue → From State (Option CValue)
returned_as None None = pure None
returned_as None (Some v) = stuck
returned_as (Some r) None = stuck
returned_as (Some r) (Some v) = pure (Some (fitted r v))

abbrev pub left_by : Option CKind → Flow → From State (Option CValue)
left_by r Next = returned_as r None
left_by r Broke = stuck
left_by r Continued = stuck
left_by r (Returned v) = returned_as r v

abbrev pub end_of : Option CKind → Run Stop Store Flow → Run Stop State (Option CValue)
end_of r (Gives flow s k) = left_by r flow s.state k
end_of r (Stops t s) = Stops t s.state

-- A name that is no local has no meaning, and none is read in a well-formed function.
abbrev pub no_names : Names
no_names x = Int (pos 0)

abbrev pub no_kinds : Kinds
no_kinds x = kind.Int

-- the parameters, as many as there are values
abbrev pub given : List CLocal → List CValue → Names → Option Names
given [] [] names = Some names
given (x ∷ xs) (v ∷ vs) names = given xs vs (with_name names x.name (fitted x.kind v))
given _ _ names = None

abbrev pub body_of : Around → Function → Option Names → From State (Option CValue)
body_of around f None = stuck
body_of around f (Some names) = λ s k. end_of f.result (flow_in around f.body (record { names = names; kinds = with_kinds f.params no_kinds; state = s }) k)

-- a function's body on the values of its arguments
abbrev pub enter : Around → Function → List CValue → From State (Option CValue)
enter around f vs = body_of around f (given f.params vs no_names)

-- ---- the functions of the prelude

abbrev pub with_int : Option ℤ → Option (List ℤ) → Option (List ℤ)
with_int (Some z) (Some zs) = Some (z ∷ zs)
with_int _ _ = None

abbrev pub int_in : CValue → Option ℤ
int_in (Int z) = Some z
int_in _ = None

-- the numbers of values that are all of type `int`
abbrev pub ints_in : List CValue → Option (List ℤ)
ints_in [] = Some []
ints_in (v ∷ vs) = with_int (int_in v) (ints_in vs)

abbrev pub value_of : Option ℤ → Option CValue
value_of None = None
value_of (Some z) = Some (Int z)

abbrev pub answered : Result (Option ℤ × World) Trap → From State (Option CValue)
answered (Ok r) s k = Gives (value_of r.0) (record { memory = s.memory; world = r.1 }) k
answered (Err t) s k = Stops (Trapped (code_of t)) s

-- what the world answers
abbrev pub ask : Builtin → Option (List ℤ) → From State (Option CValue)
ask b None = stuck
ask b (Some zs) = λ s. answered (call_builtin b zs s.world) s

-- the end by a trap, whose number is from 1 to 255
abbrev pub trap : Option (List ℤ) → From State (Option CValue)
trap (Some (pos k ∷ [])) = if nat_lt 0 k && nat_lt k 256 then stop (Trapped k) else stuck
trap _ = stuck

-- a new block, of at least one byte
abbrev pub allocate : List CValue → From State (Option CValue)
allocate (Unsigned (suc n) ∷ []) = λ s k. Gives (Some (At (length s.memory) 0)) (record { memory = s.memory ++ memory.fresh (suc n) ∷ []; world = s.world }) k
allocate _ = stuck

pub data Given : Type 0 where
  asks : Builtin → Given
  traps : Given
  allocates : Given

abbrev pub given_call : Given → List CValue → From State (Option CValue)
given_call (asks b) vs = ask b (ints_in vs)
given_call traps vs = trap (ints_in vs)
given_call allocates vs = allocate vs

-- ---- programs

-- what a name is that is called
pub data Callee : Type 0 where
  prelude : Given → Callee
  defined : Function → Callee

abbrev pub prelude_callees : List (List ℕ × Given)
prelude_callees =
    (codes "mm_put", asks Put) ∷ (codes "mm_get", asks Get) ∷ (codes "mm_more", asks More) ∷ (codes "mm_trap", traps) ∷ (codes "mm_new", allocates) ∷ []

abbrev pub function_in : List Item → List ℕ → Option Callee
function_in [] f = None
function_in (function x ∷ more) f = elim (bytes_eq x.name f) [ true ↦ Some (defined x) | false ↦ function_in more f ]
function_in (typedef d ∷ more) f = function_in more f
function_in (array a ∷ more) f = function_in more f
function_in (proto p ∷ more) f = function_in more f

abbrev pub callee_among : List (List ℕ × Given) → Program → List ℕ → Option Callee
callee_among [] p f = function_in p.items f
callee_among (g ∷ gs) p f = elim (bytes_eq g.0 f) [ true ↦ Some (prelude g.1) | false ↦ callee_among gs p f ]

-- The functions of the prelude have their own meaning, and any other name that of the function defined.
abbrev pub callee_of : Program → List ℕ → Option Callee
callee_of = callee_among prelude_callees

abbrev pub array_in : List Item → List ℕ → List CElement
array_in [] a = []
array_in (array x ∷ more) a = elim (bytes_eq x.name a) [ true ↦ x.elements | false ↦ array_in more a ]
array_in (typedef d ∷ more) a = array_in more a
array_in (proto p ∷ more) a = array_in more a
array_in (function f ∷ more) a = array_in more a

-- the element at an index, which may be out of the array
abbrev pub element_at : List CElement → ℤ → Option CElement
element_at es (pos i) = slice_get es i
element_at es (negsuc i) = None

abbrev pub function_of : Option CElement → Option (List ℕ)
function_of (Some (element_is.Name f)) = Some f
function_of _ = None

abbrev pub number_of : Option CElement → Option ℤ
number_of (Some (element_is.Number n)) = Some (pos n.value)
number_of (Some (element_is.Negative n)) = Some (minus n.value)
number_of _ = None

abbrev pub Calls : Type 0
Calls = List ℕ → List CValue → From State (Option CValue)

-- calls, and the arrays of a program
abbrev pub around_of : Program → Calls → Around
around_of p calls = record {
  call = calls;
  function_at = λ a i. function_of (element_at (array_in p.items a) i);
  number_at = λ a i. number_of (element_at (array_in p.items a) i);
}

-- the call of a function that isn't inline, whose entry is a step
abbrev pub Steps : Type 0
Steps = Function → List CValue → From State (Option CValue)

-- what an inline function may call: all but inline ones
abbrev pub plain_callee : Steps → Option Callee → List CValue → From State (Option CValue)
plain_callee steps None vs = stuck
plain_callee steps (Some (prelude g)) vs = given_call g vs
plain_callee steps (Some (defined f)) vs = if is_inline f.linkage then stuck else steps f vs

abbrev pub plain_calls : Program → Steps → Calls
plain_calls p steps f vs = plain_callee steps (callee_of p f) vs

-- what any other function may call; an inline one is entered without a step
abbrev pub any_callee : Program → Steps → Option Callee → List CValue → From State (Option CValue)
any_callee p steps None vs = stuck
any_callee p steps (Some (prelude g)) vs = given_call g vs
any_callee p steps (Some (defined f)) vs = if is_inline f.linkage then enter (around_of p (plain_calls p steps)) f vs else steps f vs

abbrev pub all_calls : Program → Steps → Calls
all_calls p steps f vs = any_callee p steps (callee_of p f) vs

abbrev pub around_all : Program → Steps → Around
around_all p steps = around_of p (all_calls p steps)

-- Calls of at most n functions that aren't inline inside one another. The entry of such a function is a step.
abbrev pub steps_of : Program → ℕ → Steps
steps_of p zero f vs = stop Spent
steps_of p (suc n) f vs = step Spent (enter (around_all p (steps_of p n)) f vs)

-- calls as deep as the clock allows
abbrev pub now : Program → Steps
now p f vs w k = steps_of p k f vs w k

-- the call of a name at this depth
abbrev pub named_call : Program → ℕ → Calls
named_call p n = all_calls p (steps_of p n)
