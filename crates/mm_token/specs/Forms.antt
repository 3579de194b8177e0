-- The forms of the two directives, and of a text that is UTF-8, in other words than those that the definitions compute.
use Rattle.std.specs.Prelude.{◌≡◌, ℕ, ◌<◌, not, ◌==◌, IsTrue, List, ◌∷◌, ◌++◌, length, codes, Some}
use Rattle.std.specs.List.{list_all}
use Rattle.std.specs.Str.{IsUtf8, chars}
use Rattle.mm_token.specs.Characters.{characters_of, is_text, is_blank}
use Rattle.mm_token.specs.Words.{included_name, is_pragma_once}

abbrev pub AllBlank : List ℕ → Type 0
AllBlank cs = IsTrue (list_all is_blank cs)

-- # include "name" and white space; the name has a character and no quote
pub record IsInclude (line name : List ℕ) : Type 0 where
  pub before : List ℕ
  pub between : List ℕ
  pub behind : List ℕ
  pub is_line : line ≡ 35 ∷ (before ++ (codes "include" ++ (between ++ 34 ∷ (name ++ 34 ∷ behind))))
  pub text : IsTrue (is_text line)
  pub before_blank : AllBlank before
  pub between_blank : AllBlank between
  pub some : 0 < length name
  pub no_quote : IsTrue (list_all (λ c. not (c == 34)) name)
  pub behind_blank : AllBlank behind

-- # pragma once and white space, with white space between the words
pub record IsPragma (line : List ℕ) : Type 0 where
  pub before : List ℕ
  pub between : List ℕ
  pub behind : List ℕ
  pub is_line : line ≡ 35 ∷ (before ++ (codes "pragma" ++ (between ++ (codes "once" ++ behind))))
  pub text : IsTrue (is_text line)
  pub before_blank : AllBlank before
  pub some : 0 < length between
  pub between_blank : AllBlank between
  pub behind_blank : AllBlank behind

pub record Forms : Type 0 where
  pub include : (rest name : List ℕ) → included_name (35 ∷ rest) ≡ Some name → IsInclude (35 ∷ rest) name
  pub included : (line name : List ℕ) → IsInclude line name → included_name line ≡ Some name
  pub pragma : (rest : List ℕ) → IsTrue (is_pragma_once (35 ∷ rest)) → IsPragma (35 ∷ rest)
  pub once : (line : List ℕ) → IsPragma line → IsTrue (is_pragma_once line)
  pub utf8 : (bytes : List ℕ) → IsUtf8 bytes → characters_of bytes ≡ chars bytes
