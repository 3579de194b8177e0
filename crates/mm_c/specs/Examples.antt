-- Texts and programs that show what the definitions say. Own.
use Rattle.std.specs.Prelude.{◌≡◌, ℕ, suc, ℤ, pos, negsuc, true, false, List, [], ◌∷◌, ◌++◌, Some, codes, flat_map}
use Rattle.mm_c.specs.declared.tree.CKind.{CKind}
use Rattle.mm_c.specs.declared.tree.CKind.TheVariants.{Int}
use Rattle.mm_c.specs.declared.tree.CAtom.{CAtom}
use Rattle.mm_c.specs.declared.tree.CAtom.TheVariants.{Name, Number}
use Rattle.mm_c.specs.declared.tree.COperator.TheVariants.{Add}
use Rattle.mm_c.specs.declared.tree.CCall.TheVariants.{Named}
use Rattle.mm_c.specs.declared.tree.CExpr.TheVariants.{Binary}
use Rattle.mm_c.specs.declared.tree.CLocal.{CLocal}
use Rattle.mm_c.specs.declared.tree.CLinkage.TheVariants.{Public}
use Rattle.mm_c.specs.Tree.{Stmt, assign, run, return, block, code_of, Item, function, Program}
use Rattle.mm_c.specs.Tokens.{first_place}
use Rattle.mm_c.specs.Spelling.{SpellsProgram, RefusedAt}
use Rattle.mm_c.specs.CRun.{Finish, Ended, TrappedBy, GoesOn, IsStuck, Outcome, c_run}

abbrev pub lines : List (List ℕ) → List ℕ
lines = flat_map (λ l. l ++ 10 ∷ [])

abbrev pub prelude : List (List ℕ)
prelude =
    codes "extern void mm_put ( int ) ;"
    ∷ codes "extern int mm_get ( void ) ;"
    ∷ codes "extern int mm_more ( void ) ;"
    ∷ codes "extern void mm_trap ( int ) ;"
    ∷ codes "extern char * mm_new ( unsigned ) ;" ∷ []

abbrev pub number : ℕ → CAtom
number n = Number (record { value = n; is_unsigned = false })

abbrev pub unsigned : ℕ → CAtom
unsigned n = Number (record { value = n; is_unsigned = true })

abbrev pub a_name : CKind → List ℕ → CLocal
a_name k x = record { kind = k; name = x }

abbrev pub main_of : List CLocal → List Stmt → Item
main_of xs ss = function (record { linkage = Public; result = Some Int; name = codes "main"; params = []; body = block xs (code_of ss) })

abbrev pub gives : Finish → List ℤ → Outcome
gives e put = record { finish = e; put = put }

-- ---- a sum that is put

-- the text with this right side, and this argument of `mm_put`
abbrev pub sum_text : List ℕ → List ℕ → List ℕ
sum_text right arg = lines (prelude ++ codes "int main ( void ) {" ∷ codes "int x = 0 ;" ∷ (codes "x = " ++ right ++ codes " ;") ∷ (codes "mm_put ( " ++ arg ++ codes " ) ;") ∷ codes "return 0 ;" ∷ codes "}" ∷ [])

abbrev pub sum_program : ℕ → ℕ → List ℕ → Program
sum_program m n arg = record {
  items = main_of (a_name Int (codes "x") ∷ [])
      (assign (codes "x") (Binary (number m) Add (number n)) ∷ run (Named (codes "mm_put") (Name arg ∷ [])) ∷ return (number 0) ∷ []) ∷ [];
}

-- `40 + 2` is put, and the result is 0, at every bound but 0.
abbrev pub SumIsPut : Type 0
SumIsPut = SpellsProgram (sum_text (codes "40 + 2") (codes "x")) (sum_program 40 2 (codes "x"))
    × ((input : List ℤ) (n : ℕ) → c_run (sum_program 40 2 (codes "x")) input (suc n) ≡ gives (Ended (pos 0)) (pos 42 ∷ []))
    × ((input : List ℤ) → c_run (sum_program 40 2 (codes "x")) input 0 ≡ gives GoesOn [])

-- A sum that is no `int` is stuck.
abbrev pub BadSumIsStuck : Type 0
BadSumIsStuck = SpellsProgram (sum_text (codes "2147483647 + 1") (codes "x")) (sum_program 2147483647 1 (codes "x"))
    × ((input : List ℤ) (n : ℕ) → c_run (sum_program 2147483647 1 (codes "x")) input (suc n) ≡ gives IsStuck [])

-- The empty text spells no program, and is refused at its first place.
abbrev pub NothingIsNoProgram : Type 0
NothingIsNoProgram = ((p : Program) → SpellsProgram [] p → ⊥) × RefusedAt [] first_place

-- A name that isn't declared is refused at its statement.
abbrev pub UndeclaredIsRefused : Type 0
UndeclaredIsRefused = RefusedAt (sum_text (codes "40 + 2") (codes "y")) (record { line = 9; column = 1 })

-- ---- runs of texts

-- The text spells a program that runs so at this bound, on every input.
abbrev pub Runs : List ℕ → ℕ → Outcome → Type 0
Runs text n out = (p : Program) × SpellsProgram text p × ((input : List ℤ) → c_run p input n ≡ out)

abbrev pub text_of : List (List ℕ) → List ℕ
text_of more = lines (prelude ++ more)

-- a `main` with these locals and statements
abbrev pub main_text : List (List ℕ) → List ℕ
main_text more = text_of (codes "int main ( void ) {" ∷ (more ++ codes "}" ∷ []))

-- Each kind of cell is stored and loaded: an `int`, an `unsigned`, a pointer.
abbrev pub cells_text : List ℕ
cells_text = main_text
    (codes "char * p = 0 ;"
    ∷ codes "char * q = 0 ;"
    ∷ codes "int i = 0 ;"
    ∷ codes "unsigned u = 0u ;"
    ∷ codes "p = mm_new ( 24u ) ;"
    ∷ codes "i = * ( int * ) ( p + 0 ) ;"
    ∷ codes "mm_put ( i ) ;"
    ∷ codes "* ( int * ) ( p + 0 ) = - 5 ;"
    ∷ codes "i = * ( int * ) ( p + 0 ) ;"
    ∷ codes "mm_put ( i ) ;"
    ∷ codes "* ( unsigned * ) ( p + 4 ) = 4294967295u ;"
    ∷ codes "u = * ( unsigned * ) ( p + 4 ) ;"
    ∷ codes "i = ( int ) u ;"
    ∷ codes "mm_put ( i ) ;"
    ∷ codes "u = ( unsigned ) i ;"
    ∷ codes "u = u + 3u ;"
    ∷ codes "i = ( int ) u ;"
    ∷ codes "mm_put ( i ) ;"
    ∷ codes "q = * ( char * * ) ( p + 8 ) ;"
    ∷ codes "i = q == 0 ;"
    ∷ codes "mm_put ( i ) ;"
    ∷ codes "* ( char * * ) ( p + 8 ) = p ;"
    ∷ codes "q = * ( char * * ) ( p + 8 ) ;"
    ∷ codes "i = p == q ;"
    ∷ codes "mm_put ( i ) ;"
    ∷ codes "q = q + 24 ;"
    ∷ codes "i = p != q ;"
    ∷ codes "mm_put ( i ) ;"
    ∷ codes "q = 0 ;"
    ∷ codes "i = 0 == q ;"
    ∷ codes "mm_put ( i ) ;"
    ∷ codes "return ( - 2147483647 - 1 ) ;" ∷ [])

abbrev pub CellsRuns : Type 0
CellsRuns = Runs cells_text 1 (gives (Ended (negsuc 2147483647)) (pos 0 ∷ negsuc 4 ∷ negsuc 0 ∷ pos 2 ∷ pos 1 ∷ pos 1 ∷ pos 1 ∷ pos 1 ∷ []))

-- A call through tables: a tag is the index of a `long` array, its element that of an array of functions, whose thunk is inline, moves the pointer by an element of another array and calls a function by name. The thunk takes no step.
abbrev pub open_call_text : List ℕ
open_call_text = text_of
    (codes "typedef int ( * type ) ( char * , int ) ;"
    ∷ codes "static const long indices [ 3 ] = { 7 , 1 , 0 } ;"
    ∷ codes "static const long moves [ 2u ] = { 8 , - 8 } ;"
    ∷ codes "static int body ( char * a , int n ) ;"
    ∷ codes "static inline int thunk ( char * a , int n ) {"
    ∷ codes "long d = 0 ;"
    ∷ codes "int r = 0 ;"
    ∷ codes "d = moves [ * ( unsigned short * ) ( a + 2 ) ] ;"
    ∷ codes "a = a + d ;"
    ∷ codes "r = body ( a , n ) ;"
    ∷ codes "return r ;"
    ∷ codes "}"
    ∷ codes "static const type table [ 2 ] = { thunk , body } ;"
    ∷ codes "static int body ( char * a , int n ) {"
    ∷ codes "int v = 0 ;"
    ∷ codes "v = * ( int * ) ( a + 8 ) ;"
    ∷ codes "v = v * n ;"
    ∷ codes "return v ;"
    ∷ codes "}"
    ∷ codes "int main ( void ) {"
    ∷ codes "char * p = 0 ;"
    ∷ codes "long i = 0 ;"
    ∷ codes "int r = 0 ;"
    ∷ codes "p = mm_new ( 24u ) ;"
    ∷ codes "* ( int * ) ( p + 16 ) = 6 ;"
    ∷ codes "* ( unsigned short * ) ( p + 0 ) = 2 ;"
    ∷ codes "* ( unsigned short * ) ( p + 2 ) = 0u ;"
    ∷ codes "i = indices [ * ( unsigned short * ) ( p + 0 ) ] ;"
    ∷ codes "r = table [ i ] ( p , 7 ) ;"
    ∷ codes "mm_put ( r ) ;"
    ∷ codes "r = body ( p , 2 ) ;"
    ∷ codes "mm_put ( r ) ;"
    ∷ codes "r = thunk ( p , 2 ) ;"
    ∷ codes "mm_put ( r ) ;"
    ∷ codes "i = indices [ r ] ;"
    ∷ codes "return 0 ;"
    ∷ codes "}" ∷ [])

abbrev pub OpenCallRuns : Type 0
OpenCallRuns = Runs open_call_text 1 (gives GoesOn ([]))
    × Runs open_call_text 2 (gives GoesOn (pos 42 ∷ []))
    × Runs open_call_text 3 (gives GoesOn (pos 42 ∷ pos 0 ∷ []))
    × Runs open_call_text 4 (gives IsStuck (pos 42 ∷ pos 0 ∷ pos 12 ∷ []))

-- A loop with `continue` and `break`: the even numbers below 5 are added up. Each turn is a step.
abbrev pub loop_text : List ℕ
loop_text = main_text
    (codes "int i = 0 ;"
    ∷ codes "int s = 0 ;"
    ∷ codes "int b = 0 ;"
    ∷ codes "while ( 1 ) {"
    ∷ codes "i = i + 1 ;"
    ∷ codes "b = i < 5 ;"
    ∷ codes "if ( b ) {"
    ∷ codes "}"
    ∷ codes "else {"
    ∷ codes "break ;"
    ∷ codes "}"
    ∷ codes "b = i % 2 ;"
    ∷ codes "if ( b ) {"
    ∷ codes "continue ;"
    ∷ codes "}"
    ∷ codes "s = s + i ;"
    ∷ codes "}"
    ∷ codes "return s ;" ∷ [])

abbrev pub LoopRuns : Type 0
LoopRuns = Runs loop_text 0 (gives GoesOn ([]))
    × Runs loop_text 5 (gives GoesOn ([]))
    × Runs loop_text 6 (gives (Ended (pos 6)) ([]))
    × Runs loop_text 60 (gives (Ended (pos 6)) ([]))

-- A load that is not aligned is stuck,
abbrev pub misaligned_text : List ℕ
misaligned_text = main_text
    (codes "char * p = 0 ;"
    ∷ codes "int i = 0 ;"
    ∷ codes "p = mm_new ( 8u ) ;"
    ∷ codes "i = * ( int * ) ( p + 2 ) ;"
    ∷ codes "return i ;" ∷ [])

abbrev pub MisalignedRuns : Type 0
MisalignedRuns = Runs misaligned_text 1 (gives IsStuck ([]))

-- and at null,
abbrev pub at_null_text : List ℕ
at_null_text = main_text
    (codes "char * p = 0 ;"
    ∷ codes "int i = 0 ;"
    ∷ codes "i = * ( int * ) ( p + 0 ) ;"
    ∷ codes "return i ;" ∷ [])

abbrev pub AtNullRuns : Type 0
AtNullRuns = Runs at_null_text 1 (gives IsStuck ([]))

-- and out of the block,
abbrev pub out_of_block_text : List ℕ
out_of_block_text = main_text
    (codes "char * p = 0 ;"
    ∷ codes "int i = 0 ;"
    ∷ codes "p = mm_new ( 8u ) ;"
    ∷ codes "p = p + 8 ;"
    ∷ codes "i = * ( int * ) ( p + 0 ) ;"
    ∷ codes "return i ;" ∷ [])

abbrev pub OutOfBlockRuns : Type 0
OutOfBlockRuns = Runs out_of_block_text 1 (gives IsStuck ([]))

-- and of another kind than what was stored.
abbrev pub other_kind_text : List ℕ
other_kind_text = main_text
    (codes "char * p = 0 ;"
    ∷ codes "int i = 0 ;"
    ∷ codes "unsigned u = 0u ;"
    ∷ codes "p = mm_new ( 8u ) ;"
    ∷ codes "* ( int * ) ( p + 4 ) = 1 ;"
    ∷ codes "u = * ( unsigned * ) ( p + 4 ) ;"
    ∷ codes "return 0 ;" ∷ [])

abbrev pub OtherKindRuns : Type 0
OtherKindRuns = Runs other_kind_text 1 (gives IsStuck ([]))

-- A pointer past the end of its block is stuck where it is made.
abbrev pub past_block_text : List ℕ
past_block_text = main_text
    (codes "char * p = 0 ;"
    ∷ codes "p = mm_new ( 8u ) ;"
    ∷ codes "p = p + 9 ;"
    ∷ codes "return 0 ;" ∷ [])

abbrev pub PastBlockRuns : Type 0
PastBlockRuns = Runs past_block_text 1 (gives IsStuck ([]))

-- A block has at least one byte.
abbrev pub no_block_text : List ℕ
no_block_text = main_text
    (codes "char * p = 0 ;"
    ∷ codes "p = mm_new ( 0u ) ;"
    ∷ codes "return 0 ;" ∷ [])

abbrev pub NoBlockRuns : Type 0
NoBlockRuns = Runs no_block_text 1 (gives IsStuck ([]))

-- Division truncates to zero.
abbrev pub quotients_text : List ℕ
quotients_text = main_text
    (codes "int i = 0 ;"
    ∷ codes "unsigned u = 0u ;"
    ∷ codes "i = - 7 / 2 ;"
    ∷ codes "mm_put ( i ) ;"
    ∷ codes "i = - 7 % 2 ;"
    ∷ codes "mm_put ( i ) ;"
    ∷ codes "i = 7 / - 2 ;"
    ∷ codes "mm_put ( i ) ;"
    ∷ codes "u = 0u - 1u ;"
    ∷ codes "u = u / 2u ;"
    ∷ codes "i = ( int ) u ;"
    ∷ codes "mm_put ( i ) ;"
    ∷ codes "i = 1u < 2u ;"
    ∷ codes "return i ;" ∷ [])

abbrev pub QuotientsRuns : Type 0
QuotientsRuns = Runs quotients_text 1 (gives (Ended (pos 1)) (negsuc 2 ∷ negsuc 0 ∷ negsuc 2 ∷ pos 2147483647 ∷ []))

-- The remainder of the least `int` by -1 is stuck, as the quotient is.
abbrev pub least_remainder_text : List ℕ
least_remainder_text = main_text
    (codes "int i = 0 ;"
    ∷ codes "i = ( - 2147483647 - 1 ) % - 1 ;"
    ∷ codes "return i ;" ∷ [])

abbrev pub LeastRemainderRuns : Type 0
LeastRemainderRuns = Runs least_remainder_text 1 (gives IsStuck ([]))

-- A zero divisor is stuck.
abbrev pub by_zero_text : List ℕ
by_zero_text = main_text
    (codes "unsigned u = 0u ;"
    ∷ codes "u = 1u % u ;"
    ∷ codes "return 0 ;" ∷ [])

abbrev pub ByZeroRuns : Type 0
ByZeroRuns = Runs by_zero_text 1 (gives IsStuck ([]))

-- A `long` sum outside 32 bits is stuck.
abbrev pub long_sum_text : List ℕ
long_sum_text = text_of
    (codes "static const long far [ 1 ] = { 2147483647 } ;"
    ∷ codes "int main ( void ) {"
    ∷ codes "long l = 0 ;"
    ∷ codes "int i = 0 ;"
    ∷ codes "l = far [ i ] ;"
    ∷ codes "l = l + 0 ;"
    ∷ codes "l = 0 + l ;"
    ∷ codes "mm_put ( 1 ) ;"
    ∷ codes "l = l + l ;"
    ∷ codes "return 0 ;"
    ∷ codes "}" ∷ [])

abbrev pub LongSumRuns : Type 0
LongSumRuns = Runs long_sum_text 1 (gives IsStuck (pos 1 ∷ []))

-- `mm_trap` ends the run with its number,
abbrev pub trap_text : List ℕ
trap_text = main_text
    (codes "mm_put ( 3 ) ;"
    ∷ codes "mm_trap ( 255 ) ;"
    ∷ codes "mm_put ( 4 ) ;"
    ∷ codes "return 0 ;" ∷ [])

abbrev pub TrapRuns : Type 0
TrapRuns = Runs trap_text 1 (gives (TrappedBy 255) (pos 3 ∷ []))

-- which is from 1 to 255.
abbrev pub bad_trap_text : List ℕ
bad_trap_text = main_text
    (codes "mm_trap ( 256 ) ;"
    ∷ codes "return 0 ;" ∷ [])

abbrev pub BadTrapRuns : Type 0
BadTrapRuns = Runs bad_trap_text 1 (gives IsStuck ([]))

-- The end of a function with a result is stuck, and that of one without is not.
abbrev pub no_result_text : List ℕ
no_result_text = text_of
    (codes "static void f ( void ) {"
    ∷ codes "}"
    ∷ codes "static int g ( void ) {"
    ∷ codes "}"
    ∷ codes "int main ( void ) {"
    ∷ codes "int i = 0 ;"
    ∷ codes "f ( ) ;"
    ∷ codes "mm_put ( 1 ) ;"
    ∷ codes "i = g ( ) ;"
    ∷ codes "return 0 ;"
    ∷ codes "}" ∷ [])

abbrev pub NoResultRuns : Type 0
NoResultRuns = Runs no_result_text 3 (gives IsStuck (pos 1 ∷ []))

-- Locals of an inner block are set anew at each entry.
abbrev pub locals_anew_text : List ℕ
locals_anew_text = main_text
    (codes "int i = 0 ;"
    ∷ codes "int b = 0 ;"
    ∷ codes "while ( 1 ) {"
    ∷ codes "int x = 0 ;"
    ∷ codes "x = x + 1 ;"
    ∷ codes "mm_put ( x ) ;"
    ∷ codes "i = i + 1 ;"
    ∷ codes "b = i == 2 ;"
    ∷ codes "if ( b ) {"
    ∷ codes "return 0 ;"
    ∷ codes "}"
    ∷ codes "}" ∷ [])

abbrev pub LocalsAnewRuns : Type 0
LocalsAnewRuns = Runs locals_anew_text 3 (gives (Ended (pos 0)) (pos 1 ∷ pos 1 ∷ []))
