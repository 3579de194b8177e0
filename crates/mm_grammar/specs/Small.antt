-- A small language, with an if that may have an else, and two statements that begin with a class's name: what forks
-- and tails mean. Own.
use Rattle.std.specs.Prelude.{◌≡◌, ℕ, Bool, true, false, List, [], ◌∷◌, Option, Some, None}
use Rattle.mm_grammar.specs.Grammar.{Part, one, name, seq, alt, fork, tailed, give, Language, Spells}

-- if 0, else 1, a whole statement 2, a class's name 3, :: 4, * 5
pub data Small : Type 0 where
  stmt : Small

pub data Tree : Type 0 where
  whole scoped pointer : Tree
  when : Tree → Tree
  either : Tree → Tree → Tree

-- No else can follow: the statement ends in no if that has none.
abbrev pub is_closed : Tree → Bool
is_closed whole = true
is_closed scoped = true
is_closed pointer = true
is_closed (when t) = false
is_closed (either s t) = is_closed t

abbrev pub with_else : Tree → Option Tree → Tree
with_else s None = when s
with_else s (Some t) = either s t

abbrev pub ValueOf : Small → Type 0
ValueOf stmt = Tree

abbrev pub rule_of : (x : Small) → Part ℕ Small ValueOf (ValueOf x)
rule_of stmt = alt
    (give (λ t. whole) (one (2 ∷ [])))
    (alt
    (fork
    (give (λ v. scoped) (seq (one (3 ∷ [])) (one (4 ∷ []))))
    (give (λ v. pointer) (seq (one (3 ∷ [])) (one (5 ∷ [])))))
    (give (λ v. with_else v.0 v.1)
    (tailed (give (λ v. v.1) (seq (one (0 ∷ [])) (name stmt))) is_closed (give (λ v. v.1) (seq (one (1 ∷ [])) (name stmt))))))

abbrev pub small : Language
small = record { Token = ℕ; Name = Small; Value = ValueOf; class = λ c. c; rule = rule_of }

-- An else goes with the nearest if that has none: of `if if s else s` the one tree has the else inside.
abbrev pub NearestElse : Type 0
NearestElse = Spells small (name stmt) (0 ∷ 0 ∷ 2 ∷ 1 ∷ 2 ∷ []) (when (either whole whole))
    × ((tree : Tree) → Spells small (name stmt) (0 ∷ 0 ∷ 2 ∷ 1 ∷ 2 ∷ []) tree → tree ≡ when (either whole whole))

-- Tokens are the text of at most one statement.
abbrev pub OneTree : Type 0
OneTree = (tokens : List ℕ) (a b : Tree) → Spells small (name stmt) tokens a → Spells small (name stmt) tokens b → a ≡ b
