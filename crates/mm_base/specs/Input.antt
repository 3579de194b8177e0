-- The input of a run: lines, each an `int`. (Own.)
use Rattle.std.specs.Prelude.{◌≡◌, ℕ, ◌+◌, ◌≤◌, ◌<◌, ℤ, pos, ◌-ℤ◌, Bool, true, false, nat_eq, if◌then◌else◌, List, [], ◌∷◌, ◌++◌, length, map, ⊤, Option, Some, None, IfSome, Vec, Result, Ok, Err}
use Rattle.std.specs.List.{All}
use Rattle.std.specs.Str.Parse.{digits_value}
use Rattle.mm_base.specs.declared.input.InputEnd.{InputEnd}
use Rattle.mm_base.specs.declared.input.InputEnd.TheVariants.{BadLine, TooLong, Failed, NoMemory}
use Rattle.mm_base.specs.declared.limits.TheConstants.{MAX_INPUT_BYTES}
use Rattle.mm_base.specs.Num.{is_int, IsDecimal}
use Rattle.mm_base.specs.Outside.{SourceSeen, RoseBy, Rose}

-- ---- lines

abbrev pub is_end : ℕ → Bool
is_end b = nat_eq b 10

-- a byte in front of lines: LF ends a line, any other byte is the first of the first line
abbrev pub begins : Bool → ℕ → List (List ℕ) → List (List ℕ)
begins true b ls = [] ∷ ls
begins false b [] = (b ∷ []) ∷ []
begins false b (l ∷ ls) = (b ∷ l) ∷ ls

-- the lines of a text, each without the LF that ends it, which the last may lack; none where the
-- text is empty
abbrev pub lines : List ℕ → List (List ℕ)
lines [] = []
lines (b ∷ bs) = begins (is_end b) b (lines bs)

-- ---- what a line says

abbrev pub begins_with_minus : List ℕ → Bool
begins_with_minus [] = false
begins_with_minus (b ∷ bs) = nat_eq b 45

-- what stands behind the `-`, where one begins the line
abbrev pub magnitude : List ℕ → List ℕ
magnitude [] = []
magnitude (b ∷ bs) = if nat_eq b 45 then bs else b ∷ bs

abbrev pub line_value : List ℕ → ℤ
line_value line =
    if begins_with_minus line then pos 0 -ℤ pos (digits_value 10 (magnitude line))
    else pos (digits_value 10 (magnitude line))

-- digits, with a `-` in front or without, whose value is an `int`
pub record IsIntLine (line : List ℕ) : Type 0 where
  pub digits : IsDecimal (magnitude line)
  pub fits : is_int (line_value line) ≡ true

-- ---- what an input says

-- each line is an `int`, and these are their values
pub record AreNumbers (bytes : List ℕ) (numbers : List ℤ) : Type 0 where
  pub each : All IsIntLine (lines bytes)
  pub values : numbers ≡ map line_value (lines bytes)

-- the line of this number, counted from 1, is no `int`, and each before it is one
pub record IsFirstBad (bytes : List ℕ) (n : ℕ) : Type 0 where
  pub before : List (List ℕ)
  pub line : List ℕ
  pub behind : List (List ℕ)
  pub text : lines bytes ≡ before ++ line ∷ behind
  pub number : n ≡ length before + 1
  pub each : All IsIntLine before
  pub bad : IsIntLine line → ⊥

-- What a whole text says as an input, by the answer of its reading.
abbrev pub ReadsNumbers : {A : Type 0} → Result (Vec ℤ A) InputEnd → List ℕ → Type 0
ReadsNumbers (Ok numbers) bytes = AreNumbers bytes numbers.items
ReadsNumbers (Err (BadLine n)) bytes = IsFirstBad bytes n
ReadsNumbers (Err TooLong) bytes = ⊥
ReadsNumbers (Err Failed) bytes = ⊥
ReadsNumbers (Err NoMemory) bytes = ⊤

-- ---- the taking of a whole input

-- these bytes were taken from the front of what was left, where the input tells it
abbrev pub FrontTaken : List ℕ → Option (List ℕ) → Option (List ℕ) → Type 0
FrontTaken bytes None left' = left' ≡ None
FrontTaken bytes (Some left) left' = (rest : List ℕ) × (left ≡ bytes ++ rest) × (left' ≡ Some rest)

-- these bytes and no others were taken: the count of bytes rose by as many, or stands at its last
-- value
pub record Taken (bytes : List ℕ) (old new : SourceSeen) : Type 0 where
  pub front : FrontTaken bytes old.left new.left
  pub rose : RoseBy (length bytes) old.drawn new.drawn
  pub drawn : new.drawn ≤ old.drawn + length bytes
  pub more : old.drawn ≤ new.drawn

-- these bytes were taken, and they are all that was left, where the input tells it
pub record TakenWhole (bytes : List ℕ) (old new : SourceSeen) : Type 0 where
  pub taken : Taken bytes old new
  pub within : length bytes ≤ MAX_INPUT_BYTES
  pub all : IfSome old.left (λ left. left ≡ bytes)

-- the input is longer than the limit
pub record IsTooLong (old new : SourceSeen) : Type 0 where
  pub drawn : RoseBy (MAX_INPUT_BYTES + 1) old.drawn new.drawn
  pub longer : IfSome old.left (λ left. MAX_INPUT_BYTES < length left)

-- The taking of a whole input, by its answer.
abbrev pub TakesWhole : {A : Type 0} → Result (Vec ℕ A) InputEnd → SourceSeen → SourceSeen → Type 0
TakesWhole (Ok bytes) old new = TakenWhole bytes.items old new
TakesWhole (Err (BadLine n)) old new = ⊥
TakesWhole (Err TooLong) old new = IsTooLong old new
TakesWhole (Err Failed) old new = Rose old.faults new.faults
TakesWhole (Err NoMemory) old new = ⊤

-- The reading of a whole input, by its answer.
abbrev pub ReadsInput : {A : Type 0} → Result (Vec ℤ A) InputEnd → SourceSeen → SourceSeen → Type 0
ReadsInput (Ok numbers) old new =
    (bytes : List ℕ) × TakenWhole bytes old new × AreNumbers bytes numbers.items
ReadsInput (Err (BadLine n)) old new =
    (bytes : List ℕ) × TakenWhole bytes old new × IsFirstBad bytes n
ReadsInput (Err TooLong) old new = IsTooLong old new
ReadsInput (Err Failed) old new = Rose old.faults new.faults
ReadsInput (Err NoMemory) old new = ⊤

-- after any answer a front of the input was taken, of at most one byte more than the limit
pub record TakesSome (old new : SourceSeen) : Type 0 where
  pub bytes : List ℕ
  pub taken : Taken bytes old new
  pub within : length bytes ≤ MAX_INPUT_BYTES + 1
