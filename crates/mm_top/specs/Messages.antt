-- The messages of refusals, each a line. (Own.)
use Rattle.std.specs.Prelude.{ℕ, List, [], ◌∷◌, ◌++◌, codes}
use Rattle.std.specs.Fmt.{decimal}
use Rattle.mm_base.specs.declared.code.Code.{Code}
use Rattle.mm_c.specs.Tokens.{Place}
use Rattle.mm_verdict.specs.declared.fault.Fault.{Fault}

abbrev pub no_file : List ℕ → List ℕ
no_file file = codes "mmc: no file " ++ (file ++ codes "\n")

abbrev pub read_failed : List ℕ → List ℕ
read_failed file = codes "mmc: read failed " ++ (file ++ codes "\n")

abbrev pub too_long : List ℕ → ℕ → List ℕ
too_long file most = file ++ (codes ": longer than " ++ (decimal most ++ codes " bytes\n"))

abbrev pub bad_line : ℕ → List ℕ
bad_line n = codes "mmc: input line " ++ (decimal n ++ codes "\n")

abbrev pub input_failed : List ℕ
input_failed = codes "mmc: input failed\n"

-- FILE:LINE:COLUMN: and a blank
abbrev pub at_place : List ℕ → ℕ → ℕ → List ℕ
at_place file line column =
    file ++ (codes ":" ++ (decimal line ++ (codes ":" ++ (decimal column ++ codes ": "))))

-- where a C text is refused
abbrev pub bad_text : List ℕ → Place → List ℕ
bad_text file place = at_place file place.line place.column ++ codes "C\n"

-- a letter and a number, as `Y1`
abbrev pub code_text : Code → List ℕ
code_text code = code.letter ∷ decimal code.number

-- a blank and what the fault names, where it names something
abbrev pub behind : List ℕ → List ℕ
behind [] = []
behind (b ∷ bs) = codes " " ++ (b ∷ bs)

-- FILE:LINE:COLUMN: CODE, and what it names
abbrev pub fault_message : Fault → List ℕ
fault_message f =
    at_place f.file f.place.line f.place.col ++ (code_text f.code ++ (behind f.text ++ codes "\n"))
