-- One of two parts, where no token of the other stands; and readers that take a token.
use Rattle.std.proofs.Common.{◌≡◌, ◌<◌, IsTrue, not, List, [], ◌∷◌, ◌++◌, inl, inr, length, refl, ap, sym, ◌∙◌, subst, arith}
use Rattle.std.proofs.lemmas.List.{length-append}
use Rattle.mm_grammar.specs.Grammar.{alt, has, Avoids, Front, Spells, Stuck, Reads, Fails, RuleSpells, RuleFront}
use Rattle.mm_grammar.specs.Ahead.{first_of, empty_of, Good}
use Rattle.mm_grammar.proofs.Lists.{not_both}
use Rattle.mm_grammar.proofs.Laws.{Lawful, front_first, spell_front, spell_empty, alt_right}
use Rattle.mm_grammar.proofs.Closed.{lawful}
use Rattle.mm_token.specs.declared.token.Token.{Token}
use Rattle.mm_syntax.specs.Symbols.{symbol_of, number_of}
use Rattle.mm_syntax.specs.Rules.{P, units}
use Rattle.mm_syntax.proofs.Claims.{ahead}
use Rattle.mm_syntax.proofs.Fitting.{fit}

laws : Lawful units ahead (RuleSpells units) (RuleFront units)
laws = lawful units ahead fit

leads : {A : Type 0} → (p : P A) → Good units ahead p → (k : Token) (r : List Token) → Front units p (k ∷ r) → IsTrue (has (number_of (symbol_of k)) (first_of units ahead p))
leads p g k r h = front_first units ahead (RuleSpells units) (RuleFront units) laws p g k r h

pub whole : {A : Type 0} → (p : P A) (u : List Token) (v : A) → Spells units p u v → Front units p u
whole p u v s = spell_front units ahead (RuleSpells units) (RuleFront units) laws p u v s

avoided : {A : Type 0} → (p : P A) → Good units ahead p → (used rest ts : List Token) → ts ≡ used ++ rest → Avoids units (first_of units ahead p) ts → Stuck units p used rest
avoided p g [] rest ts cut av k r tail e f = av k r (cut ∙ e) (leads p g k tail f)
avoided p g (x ∷ used) rest ts cut av k r tail e f = av x (used ++ rest) cut (leads p g x (used ++ k ∷ tail) f)

no_text : {A : Type 0} → (p : P A) → Good units ahead p → IsTrue (not (empty_of units ahead p)) → (used rest ts : List Token) → ts ≡ used ++ rest → Avoids units (first_of units ahead p) ts → (v : A) → Spells units p used v → ⊥
no_text p g n [] rest ts cut av v s = not_both (empty_of units ahead p) n (spell_empty units ahead (RuleSpells units) (RuleFront units) laws p v s)
no_text p g n (x ∷ used) rest ts cut av v s = av x (used ++ rest) cut (leads p g x used (whole p (x ∷ used) v s))

-- the left part reads, where the right one can't begin
pub left_reads : {A : Type 0} → (p q : P A) → Good units ahead (alt p q) → (ts r : List Token) (v : A) → Avoids units (first_of units ahead q) ts → Reads units p ts v r → Reads units (alt p q) ts v r
left_reads p q g ts r v av a = record {
  used = a.used;
  cut = a.cut;
  spelled = inl a.spelled;
  stuck = λ k s tail e f. elim f [ inl i ↦ a.stuck k s tail e i | inr i ↦ avoided q (alt_right units ahead p q g) a.used r ts a.cut av k s tail e i ];
}

pub left_fails : {A : Type 0} → (p q : P A) → Good units ahead (alt p q) → IsTrue (not (empty_of units ahead q)) → (ts r : List Token) → Avoids units (first_of units ahead q) ts → Fails units p ts r → Fails units (alt p q) ts r
left_fails p q g n ts r av a = record {
  used = a.used;
  cut = a.cut;
  front = inl a.front;
  not_spelled = λ v s. elim s [ inl i ↦ a.not_spelled v i | inr i ↦ no_text q (alt_right units ahead p q g) n a.used r ts a.cut av v i ];
  stuck = λ k s tail e f. elim f [ inl i ↦ a.stuck k s tail e i | inr i ↦ avoided q (alt_right units ahead p q g) a.used r ts a.cut av k s tail e i ];
}

-- ---- what follows is shorter

less_left : (used rest ts : List Token) → ts ≡ used ++ rest → (used ≡ [] → ⊥) → length rest < length ts
less_left [] rest ts cut some = absurd (some refl)
less_left (x ∷ used) rest ts cut some = let l = ap length cut ∙ length-append (x ∷ used) rest in omega (arith, l)

-- where the part is never empty
pub reads_less : {A : Type 0} → (p : P A) → IsTrue (not (empty_of units ahead p)) → (ts r : List Token) (v : A) → Reads units p ts v r → length r < length ts
reads_less p n ts r v a = less_left a.used r ts a.cut (λ e. not_both (empty_of units ahead p) n (spell_empty units ahead (RuleSpells units) (RuleFront units) laws p v (subst (λ w. Spells units p w v) e a.spelled)))

-- where the first token begins the part
pub fails_less : {A : Type 0} → (p : P A) (t : Token) (rest ts r : List Token) → ts ≡ t ∷ rest → Front units p (t ∷ []) → Fails units p ts r → length r < length ts
fails_less p t rest ts r e f a = less_left a.used r ts a.cut (λ none. a.stuck t rest [] (sym (a.cut ∙ ap (λ w. w ++ r) none) ∙ e) (subst (λ w. Front units p (w ++ t ∷ [])) (sym none) f))
