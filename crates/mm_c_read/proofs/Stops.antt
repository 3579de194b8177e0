-- What a reading of a text's tokens says of the text.
use Rattle.std.proofs.Common.{◌≡◌, ℕ, List, [], ◌∷◌, ◌++◌, inl, inr, refl, sym, ap, ◌∙◌, subst}
use Rattle.std.proofs.lemmas.List.{append-nil}
use Rattle.mm_grammar.specs.Grammar.{name, Reads, Fails, Spells}
use Rattle.mm_c.specs.Tree.{Program}
use Rattle.mm_c.specs.Tokens.{Token, tokens_of}
use Rattle.mm_c.specs.Grammar.{Placed, program, texts}
use Rattle.mm_c.specs.Spelling.{Parses, RefusedAt, place_of}

module _ (text : List ℕ) (ts rest : List Token) (is : ts ≡ tokens_of text) where
  -- to the end
  pub whole : (v : Placed Program) → Reads texts (name program) ts v rest → rest ≡ [] → Parses text v.tree v.places
  whole v r e = subst (λ us. Spells texts (name program) us v) (sym (append-nil r.used) ∙ (ap (λ l. r.used ++ l) (sym e) ∙ (sym r.cut ∙ is))) r.spelled

  -- before further tokens
  pub goes_on : (v : Placed Program) (t : Token) (more : List Token) → Reads texts (name program) ts v rest → rest ≡ t ∷ more → RefusedAt text t.place
  goes_on v t more r e = inl (rest, ap (place_of text) (sym e), inr (v, t, more, e, subst (λ us. Reads texts (name program) us v rest) is r))

  pub stops : Fails texts (name program) ts rest → RefusedAt text (place_of text rest)
  stops f = inl (rest, refl, inl (subst (λ us. Fails texts (name program) us rest) is f))
