-- Checks of a few demands. Own.
use Rattle.std.specs.Prelude.{ℕ, Bool, Option, None, List, Ok}
use Rattle.mm_checks.specs.Checks.{Fault, Checked, ◌>>=◌, demand}
use Rattle.mm_typing.specs.Typed.{Typed}
use Rattle.mm_typing.specs.Calls.{Candidate}

-- a value, if a test holds
abbrev pub demanded : Bool → Fault → Typed → Checked Typed
demanded b f v = demand b f >>= λ u. Ok v

-- two tests, in this order
abbrev pub both_demanded : Bool → Fault → Bool → Fault → Checked (Unit {0})
both_demanded b f c g = demand b f >>= λ u. demand c g

-- what is typed is no function
abbrev pub no_function : Checked Typed → Checked (Option (List Candidate))
no_function r = r >>= λ v. Ok None

-- a number, if a test holds behind it
abbrev pub place_demanded : Checked ℕ → Bool → Fault → Checked ℕ
place_demanded r b f = r >>= λ l. demand b f >>= λ u. Ok l
