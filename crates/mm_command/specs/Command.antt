-- What the words ask for. (Own.)
use Rattle.std.specs.Prelude.{ℕ, ◌-◌, Bool, true, false, ◌&&◌, ◌==◌, nat_lt, nat_le, not, List, [], ◌∷◌, ◌++◌, Option, Some, None, codes, if◌then◌else◌, length, take, drop}
use Rattle.std.specs.Str.{bytes_eq}
use Rattle.std.specs.Str.Parse.{digits_value}
use Rattle.std.specs.Fmt.{decimal}
use Rattle.mm_base.specs.declared.limits.TheConstants.{MAX_STEPS, DEFAULT_STEPS}
use Rattle.mm_command.specs.declared.words.Command.{Command}
use Rattle.mm_command.specs.declared.words.Command.TheVariants.{Check, Link, Run, Exec}
use Rattle.mm_command.specs.declared.words.WordKind.{WordKind}
use Rattle.mm_command.specs.declared.words.WordKind.TheVariants as word
use Rattle.mm_command.specs.declared.words.Next.{Next}
use Rattle.mm_command.specs.declared.words.Next.TheVariants as next
use Rattle.mm_command.specs.declared.words.Told.{Told}

-- ---- words

-- a word that begins with `-` and is longer
abbrev pub is_option : List ℕ → Bool
is_option [] = false
is_option (b ∷ bs) = (b == 45) && nat_lt 0 (length bs)

abbrev pub gives_steps : List ℕ → Bool
gives_steps w = bytes_eq (take 8 w) (codes "--steps=")

-- what a word is, of a command that takes a bound on the steps or takes none
abbrev pub kind_of : Bool → List ℕ → WordKind
kind_of bounded w =
    if bytes_eq w (codes "--") then word.Dashes
    else (if bounded && bytes_eq w (codes "--steps") then word.Steps
    else (if bounded && gives_steps w then word.StepsEqual
    else (if is_option w then word.Unknown else word.Plain)))

-- ---- bounds

-- a number as it is written, without a sign or a 0 in front, from 1 to the greatest bound
abbrev pub is_bound : List ℕ → ℕ → Bool
is_bound w n = bytes_eq (decimal n) w && (nat_lt 0 n && nat_le n MAX_STEPS)

abbrev pub bound_of : List ℕ → Option ℕ
bound_of w = if is_bound w (digits_value 10 w) then Some (digits_value 10 w) else None

-- ---- what the words behind a command tell

abbrev pub nothing_told : Told
nothing_told = record { plain = []; steps = [] }

-- what was told before, and then this
abbrev pub onto : Told → Option Told → Option Told
onto t None = None
onto t (Some u) = Some (record { plain = t.plain ++ u.plain; steps = t.steps ++ u.steps })

abbrev pub plain_word : List ℕ → Told
plain_word w = record { plain = w ∷ []; steps = [] }

abbrev pub value : List ℕ → Told
value w = record { plain = []; steps = bound_of w ∷ [] }

-- The plain words, and what is given as a bound. Behind the first `--` every word is plain; in
-- front of it `--steps` takes the next word, `--steps=N` gives N, and no other option stands.
abbrev pub told : Bool → Next → List (List ℕ) → Option Told
told bounded next.Word [] = Some nothing_told
told bounded next.Value [] = None
told bounded next.Plain [] = Some nothing_told
told bounded next.Value (w ∷ ws) = onto (value w) (told bounded next.Word ws)
told bounded next.Plain (w ∷ ws) = onto (plain_word w) (told bounded next.Plain ws)
told bounded next.Word (w ∷ ws) = elim (kind_of bounded w) [
  | word.Dashes ↦ told bounded next.Plain ws
  | word.Steps ↦ told bounded next.Value ws
  | word.StepsEqual ↦ onto (value (drop 8 w)) (told bounded next.Word ws)
  | word.Unknown ↦ None
  | word.Plain ↦ onto (plain_word w) (told bounded next.Word ws)
]

-- the same, going on behind what was told
abbrev pub goes_on : Bool → Told → Option Next → List (List ℕ) → Option Told
goes_on bounded t None ws = None
goes_on bounded t (Some n) ws = onto t (told bounded n ws)

-- ---- names

-- a name that ends in `.mmu`, as those of records do
abbrev pub is_record_name : List ℕ → Bool
is_record_name w = bytes_eq (drop (length w - 4) w) (codes ".mmu")

-- one name, which isn't empty; of a unit's text, where no record is read
abbrev pub only_name : Bool → List (List ℕ) → Option (List ℕ)
only_name of_unit [] = None
only_name of_unit (w ∷ []) =
    if nat_lt 0 (length w) && not (of_unit && is_record_name w) then Some w else None
only_name of_unit (w ∷ v ∷ ws) = None

-- a million where no bound is given, and none where two are
abbrev pub bound_among : List (Option ℕ) → Option ℕ
bound_among [] = Some DEFAULT_STEPS
bound_among (n ∷ []) = n
bound_among (n ∷ m ∷ ns) = None

-- ---- commands

-- the file of a unit, by what the words behind a command tell
abbrev pub unit_of : Option Told → Option (List ℕ)
unit_of None = None
unit_of (Some t) = only_name true t.plain

abbrev pub naming : (List ℕ → Command) → Option (List ℕ) → Option Command
naming asks None = None
naming asks (Some name) = Some (asks name)

abbrev pub bounded_by : Option (List ℕ) → Option ℕ → Option (List ℕ × ℕ)
bounded_by None n = None
bounded_by (Some name) None = None
bounded_by (Some name) (Some n) = Some (name, n)

-- the file of a run and its bound, by what the words tell
abbrev pub bounded_of : Bool → Option Told → Option (List ℕ × ℕ)
bounded_of of_unit None = None
bounded_of of_unit (Some t) = bounded_by (only_name of_unit t.plain) (bound_among t.steps)

abbrev pub asking : (List ℕ → ℕ → Command) → Option (List ℕ × ℕ) → Option Command
asking asks None = None
asking asks (Some (name, n)) = Some (asks name n)

-- `check FILE`, `link FILE`, `run FILE` and `exec FILE`, the last two with a bound on the steps or
-- without
abbrev pub command : List (List ℕ) → Option Command
command [] = None
command (c ∷ ws) =
    if bytes_eq c (codes "check") then naming Check (unit_of (told false next.Word ws))
    else (if bytes_eq c (codes "link") then naming Link (unit_of (told false next.Word ws))
    else (if bytes_eq c (codes "run") then asking Run (bounded_of true (told true next.Word ws))
    else (if bytes_eq c (codes "exec") then asking Exec (bounded_of false (told true next.Word ws))
    else None)))
