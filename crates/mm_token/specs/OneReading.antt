-- A unit has one reading: files that tell what they hold give one list of tokens, or one first fault, and never both.
use Rattle.std.specs.Prelude.{◌≡◌, List, ℕ, Some}
use Rattle.mm_base.specs.Outside.{Contents}
use Rattle.mm_token.specs.declared.token.Tokens.{Tokens}
use Rattle.mm_token.specs.declared.token.TokenEnd.{TokenEnd}
use Rattle.mm_token.specs.declared.token.TokenEnd.TheVariants.{Failed, NoMemory}
use Rattle.mm_token.specs.Tokens.{Reads, IsRefused}

-- a refusal by what the files hold, and not by a failed read or for want of memory
abbrev pub IsByContents : TokenEnd → Type 0
IsByContents (Failed n) = ⊥
IsByContents NoMemory = ⊥
IsByContents _ = Unit {0}

pub record SameTokens (t u : Tokens) : Type 0 where
  pub files : t.files ≡ u.files
  pub list : t.list ≡ u.list
  pub end : t.end ≡ u.end
  pub bytes : t.bytes ≡ u.bytes

pub record OneReading : Type 0 where
  pub one_list : (h : Contents) (unit : List ℕ) (t u : Tokens) → Reads (Some h) unit t → Reads (Some h) unit u → SameTokens t u
  pub one_fault : (h : Contents) (unit : List ℕ) (d e : TokenEnd) → IsByContents d → IsByContents e → IsRefused (Some h) unit d → IsRefused (Some h) unit e → d ≡ e
  pub not_both : (h : Contents) (unit : List ℕ) (t : Tokens) (e : TokenEnd) → IsByContents e → Reads (Some h) unit t → IsRefused (Some h) unit e → ⊥
