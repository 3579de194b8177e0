-- What each rule keeps of its parts holds of every text.
use Rattle.std.proofs.Common.{ℕ, zero, suc, List}
use Rattle.mm_token.specs.declared.token.Token.{Token}
use Rattle.mm_grammar.specs.Grammar.{spells_in, spells_at, RuleSpells}
use Rattle.mm_grammar.proofs.Deep.{spells_along}
use Rattle.mm_syntax.specs.Rules.{Rule, Value, units, rule_of}

module _ (Kept : (x : Rule) → List Token → Value x → Type 0) (step : (x : Rule) (ts : List Token) (v : Value x) → spells_in units Kept (rule_of x) ts v → Kept x ts v) where
  at_depth : (n : ℕ) (x : Rule) (ts : List Token) (v : Value x) → spells_at units n x ts v → Kept x ts v
  at_depth zero x ts v h = absurd h
  at_depth (suc n) x ts v h = step x ts v (spells_along units (spells_at units n) Kept (λ y us w i. at_depth n y us w i) (rule_of x) ts v h)

  pub by_rules : (x : Rule) (ts : List Token) (v : Value x) → RuleSpells units x ts v → Kept x ts v
  by_rules x ts v h = at_depth h.0 x ts v h.1
