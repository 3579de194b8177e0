-- One token ahead decides in the grammar of C texts.
use Rattle.std.proofs.Common.{ℕ, zero, suc, Bool, true, false, ◌&&◌, IsTrue, List, [], ◌∷◌, ◌++◌, refl}
use Rattle.mm_grammar.specs.Ahead.{Claims, plain, fits, has_no_tail, Fit}
use Rattle.mm_grammar.proofs.Plain.{plain_fit}
use Rattle.mm_c.specs.Tokens.{names, numbers}
use Rattle.mm_c.specs.Grammar.{Name, program, item, right, atoms, block, stmt, texts}

abbrev pub signs : List ℕ
signs = 29 ∷ 30 ∷ 31 ∷ 32 ∷ 33 ∷ 34 ∷ 35 ∷ 36 ∷ 37 ∷ 38 ∷ 39 ∷ []

abbrev pub firsts : Name → List ℕ
firsts program = 56 ∷ []
firsts item = 40 ∷ 41 ∷ 44 ∷ 45 ∷ 46 ∷ 47 ∷ 48 ∷ []
firsts right = names ++ numbers ++ 31 ∷ 20 ∷ 29 ∷ []
firsts atoms = names ++ numbers ++ 31 ∷ 20 ∷ []
firsts (block d) = 22 ∷ []
firsts (stmt d) = names ++ 29 ∷ 50 ∷ 52 ∷ 53 ∷ 54 ∷ 55 ∷ []

-- tokens that can follow a whole text within a longer one
abbrev pub follows : Name → List ℕ
follows program = firsts item
follows item = []
follows right = signs ++ 20 ∷ 24 ∷ []
follows atoms = 27 ∷ names ++ numbers ++ 31 ∷ 20 ∷ []
follows (block d) = []
follows (stmt d) = 51 ∷ []

abbrev pub may_be_empty : Name → Bool
may_be_empty program = false
may_be_empty item = false
may_be_empty right = false
may_be_empty atoms = true
may_be_empty (block d) = false
may_be_empty (stmt d) = false

abbrev pub ahead : Claims texts
ahead = plain texts firsts follows may_be_empty

claims : (x : Name) → IsTrue (fits texts ahead x && has_no_tail texts ahead (texts.rule x))
claims program = refl
claims item = refl
claims right = refl
claims atoms = refl
claims (block zero) = refl
claims (block (suc d)) = refl
claims (stmt d) = refl

pub fit : Fit texts ahead
fit = plain_fit texts firsts follows may_be_empty claims
