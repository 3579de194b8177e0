-- Operators and conversions: what they make of values, or the trap. (ISO/IEC 14882, 4.7, 4.12,
-- 5.3.1, 5.6, 5.7, 5.9 and 5.10; the traps are own.)
use Rattle.std.specs.Prelude.{ℕ, ◌+◌, ◌-◌, ◌*◌, ◌/◌, ◌%◌, ◌^◌, ℤ, pos, ◌+ℤ◌, ◌-ℤ◌, ◌*ℤ◌, Bool, true, false, not, ◌&&◌, nat_eq, nat_lt, nat_le, if◌then◌else◌, Result, Ok, Err, int_lt, int_le, int_div, int_rem}
use Rattle.std.specs.Str.{bytes_eq}
use Rattle.mm_base.specs.declared.num.Trap.{Trap}
use Rattle.mm_base.specs.declared.num.Trap.TheVariants as by
use Rattle.mm_base.specs.Num.{is_zero, int_of, to_int, to_unsigned}
use Rattle.mm_core.specs.declared.part.Operator.{Operator}
use Rattle.mm_core.specs.declared.part.Operator.TheVariants.{Add, Subtract, Multiply, Divide, Remainder, Less, Greater, LessEqual, GreaterEqual, Equal, NotEqual}
use Rattle.mm_core.specs.declared.part.Target.{Target}
use Rattle.mm_core.specs.declared.part.Target.TheVariants as target
use Rattle.mm_core.specs.declared.part.Change.{Change}
use Rattle.mm_core.specs.declared.part.Change.TheVariants.{Up, Down}
use Rattle.mm_core.specs.State.{Value, Truth, Number, Word, Null, At, Nothing}

-- ---- conversions

abbrev pub is_true : Value → Bool
is_true (Truth b) = b
is_true (Number z) = not (is_zero z)
is_true (Word n) = not (nat_eq n 0)
is_true Null = false
is_true (At o s) = true
is_true Nothing = false

abbrev pub int_value : Value → ℤ
int_value (Truth b) = if b then pos 1 else pos 0
int_value (Number z) = z
int_value (Word n) = to_int n
int_value Null = pos 0
int_value (At o s) = pos 0
int_value Nothing = pos 0

abbrev pub word_value : Value → ℕ
word_value (Truth b) = if b then 1 else 0
word_value (Number z) = to_unsigned z
word_value (Word n) = n
word_value Null = 0
word_value (At o s) = 0
word_value Nothing = 0

abbrev pub converted : Target → Value → Value
converted target.Bool v = Truth (is_true v)
converted target.Int v = Number (int_value v)
converted target.Unsigned v = Word (word_value v)

-- ---- operators

abbrev pub number_or : Result ℤ Trap → Result Value Trap
number_or (Ok z) = Ok (Number z)
number_or (Err t) = Err t

-- The exact value of the quotient, which truncates to zero; the remainder is that of the same
-- quotient, and traps where the quotient does.
abbrev pub quotient : ℤ → ℤ → Result ℤ Trap
quotient a b = if is_zero b then Err by.Divide else int_of (int_div a b)

abbrev pub remainder_by : Result ℤ Trap → ℤ → ℤ → Result ℤ Trap
remainder_by (Ok q) a b = Ok (int_rem a b)
remainder_by (Err t) a b = Err t

abbrev pub on_ints : Operator → ℤ → ℤ → Result Value Trap
on_ints Add a b = number_or (int_of (a +ℤ b))
on_ints Subtract a b = number_or (int_of (a -ℤ b))
on_ints Multiply a b = number_or (int_of (a *ℤ b))
on_ints Divide a b = number_or (quotient a b)
on_ints Remainder a b = number_or (remainder_by (quotient a b) a b)
on_ints Less a b = Ok (Truth (int_lt a b))
on_ints Greater a b = Ok (Truth (int_lt b a))
on_ints LessEqual a b = Ok (Truth (int_le a b))
on_ints GreaterEqual a b = Ok (Truth (int_le b a))
on_ints Equal a b = Ok (Truth (int_le a b && int_le b a))
on_ints NotEqual a b = Ok (Truth (not (int_le a b && int_le b a)))

abbrev pub on_words : Operator → ℕ → ℕ → Result Value Trap
on_words Add a b = Ok (Word ((a + b) % 2 ^ 32))
on_words Subtract a b = Ok (Word ((a + (2 ^ 32 - b)) % 2 ^ 32))
on_words Multiply a b = Ok (Word ((a * b) % 2 ^ 32))
on_words Divide a b = if nat_eq b 0 then Err by.Divide else Ok (Word (a / b))
on_words Remainder a b = if nat_eq b 0 then Err by.Divide else Ok (Word (a % b))
on_words Less a b = Ok (Truth (nat_lt a b))
on_words Greater a b = Ok (Truth (nat_lt b a))
on_words LessEqual a b = Ok (Truth (nat_le a b))
on_words GreaterEqual a b = Ok (Truth (nat_le b a))
on_words Equal a b = Ok (Truth (nat_eq a b))
on_words NotEqual a b = Ok (Truth (not (nat_eq a b)))

-- pointers are equal where both are null or both show one subobject of one object
abbrev pub same_pointer : Value → Value → Bool
same_pointer Null Null = true
same_pointer (At o s) (At x t) = nat_eq o x && bytes_eq s t
same_pointer v w = false

-- in a checked tree the operator is `==` or `!=`
abbrev pub on_pointers : Operator → Value → Value → Result Value Trap
on_pointers Equal v w = Ok (Truth (same_pointer v w))
on_pointers other v w = Ok (Truth (not (same_pointer v w)))

-- in a checked tree both operands have one type
abbrev pub operate : Operator → Value → Value → Result Value Trap
operate op (Number a) w = on_ints op a (int_value w)
operate op (Word a) w = on_words op a (word_value w)
operate op v w = on_pointers op v w

-- ---- steps and compound sets

abbrev pub is_word : Value → Bool
is_word (Word n) = true
is_word other = false

-- the 1 of a type
abbrev pub one_like : Value → Value
one_like v = if is_word v then Word 1 else Number (pos 1)

abbrev pub change_operator : Change → Operator
change_operator Up = Add
change_operator Down = Subtract

-- the value that follows, or that comes before
abbrev pub changed : Change → Value → Result Value Trap
changed c v = operate (change_operator c) v (one_like v)

-- a value converted to the type of another
abbrev pub like : Value → Value → Value
like old v = if is_word old then converted target.Unsigned v else converted target.Int v

abbrev pub all_like : Value → Result Value Trap → Result Value Trap
all_like old (Ok v) = Ok (like old v)
all_like old (Err t) = Err t

-- the type in which an operator works on two values: `unsigned` where one is, else `int`
abbrev pub common : Value → Value → Target
common v w =
    if is_word v then target.Unsigned else (if is_word w then target.Unsigned else target.Int)

-- the operation in the common type, converted to the type of the old value
abbrev pub compounded : Operator → Value → Value → Result Value Trap
compounded op old v =
    all_like old (operate op (converted (common old v) old) (converted (common old v) v))
