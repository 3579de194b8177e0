-- Tokens are the text of one unit, or have one first syntax fault.
use Rattle.std.proofs.Common.{◌≡◌, ℕ, List, [], ◌∷◌, ◌++◌, ◌⊎◌, take, inl, inr, refl, ap, sym, ◌∙◌, subst, append_assoc}
use Rattle.std.proofs.lemmas.List.{append-nil}
use Rattle.mm_grammar.specs.Grammar.{name, Spells}
use Rattle.mm_grammar.proofs.Lists.{equal, later, earlier, cuts}
use Rattle.mm_grammar.proofs.Reading.{one_value}
use Rattle.mm_base.specs.declared.code.Code.{Code}
use Rattle.mm_base.specs.declared.place.Place.{Place}
use Rattle.mm_token.specs.declared.token.Token.{Token}
use Rattle.mm_syntax.specs.declared.decl.Decl.{Decl}
use Rattle.mm_syntax.specs.Rules.{units, unit}
use Rattle.mm_syntax.proofs.Claims.{ahead}
use Rattle.mm_syntax.proofs.Fitting.{fit}
use Rattle.mm_parse_expr.specs.Longest.{place_of}
use Rattle.mm_parse_unit.specs.Units.{nesting, IsFront, IsPastCount, KeepsCount, IsUnit, EndsHere, IsNoUnit, IsTooDeep, IsPastLimit, IsSyntaxFault, OneAnswer}
use Rattle.mm_parse_unit.proofs.Prefixes.{text_begins, front_begins}

-- up to a token
pub up_to : (n : ℕ) (a e : List Token) (k : Token) → IsFront n (a ++ k ∷ e) → IsFront n (a ++ k ∷ [])
up_to n a e k h = front_begins units (name (unit n)) (a ++ k ∷ []) e (subst (λ w. IsFront n w) (sym (append_assoc a (k ∷ []) e)) h)

-- before it
pub before : (n : ℕ) (a b : List Token) → IsFront n (a ++ b) → IsFront n a
before n a b h = front_begins units (name (unit n)) a b h

text_up_to : (decls : List Decl) (tokens a e : List Token) (k : Token) → tokens ≡ a ++ k ∷ e → Spells units (name (unit nesting)) tokens decls → IsFront nesting (a ++ k ∷ [])
text_up_to decls tokens a e k cut h = text_begins units (name (unit nesting)) (a ++ k ∷ []) e decls (subst (λ w. Spells units (name (unit nesting)) w decls) (cut ∙ sym (append_assoc a (k ∷ []) e)) h)

-- no unit goes on past the end of the other
no_longer : (a e rest : List Token) (k : Token) → EndsHere a (k ∷ rest) → IsFront nesting (a ++ k ∷ e) → ⊥
no_longer a e rest k ends h = ends nesting (up_to nesting a e k h)

ends_at : (a rest tail : List Token) (k : Token) → rest ≡ k ∷ tail → EndsHere a rest → EndsHere a (k ∷ tail)
ends_at a rest tail k e h = subst (λ w. EndsHere a w) e h

-- what stands before a token that keeps the count
kept_before : (tokens a e : List Token) (k : Token) → tokens ≡ a ++ k ∷ e → KeepsCount tokens → IsPastCount a → ⊥
kept_before tokens a e k cut h p = h a e k cut p

two_ends : (tokens : List Token) (end : Place) (c d : Code) (p q : Place) → IsNoUnit tokens end c p → IsNoUnit tokens end d q → (c ≡ d) × (p ≡ q)
two_ends tokens end c d p q x y = (
  x.code_is ∙ sym y.code_is,
  x.place_is ∙ (ap (λ w. place_of w end) same ∙ sym y.place_is),
)
  where
    same : x.rest ≡ y.rest
    same = elim (cuts x.front x.rest y.front y.rest (sym x.cut ∙ y.cut)) [
      | equal i j ↦ j
      | later k e i j ↦ absurd (no_longer y.front e (e ++ x.rest) k (ends_at y.front y.rest (e ++ x.rest) k j y.ends) (subst (λ w. IsFront nesting w) i x.is_front))
      | earlier k e i j ↦ absurd (no_longer x.front e (e ++ y.rest) k (ends_at x.front x.rest (e ++ y.rest) k j x.ends) (subst (λ w. IsFront nesting w) i y.is_front))
    ]

-- past a limit, where a longer front keeps both
no_limit : (a e : List Token) (k : Token) → IsPastCount a ⊎ IsTooDeep a k → KeepsCount (a ++ k ∷ e) → IsFront nesting (a ++ k ∷ e) → ⊥
no_limit a e k past counted front = elim past [ inl i ↦ counted a e k refl i | inr i ↦ i.too_deep (up_to nesting a e k front) ]

pub keeps_front : (a b : List Token) → KeepsCount (a ++ b) → KeepsCount a
keeps_front a b h before after t e p = h before (after ++ b) t (ap (λ w. w ++ b) e ∙ append_assoc before (t ∷ after) b) p

two_limits : (tokens : List Token) (c d : Code) (p q : Place) → IsPastLimit tokens c p → IsPastLimit tokens d q → (c ≡ d) × (p ≡ q)
two_limits tokens c d p q x y = (x.code_is ∙ sym y.code_is, x.place_is ∙ (ap (λ w. w.place) same ∙ sym y.place_is))
  where
    same : x.token ≡ y.token
    same = elim (cuts x.front (x.token ∷ x.rest) y.front (y.token ∷ y.rest) (sym x.cut ∙ y.cut)) [
      | equal i j ↦ cc
      | later k e i j ↦
          let token : k ≡ y.token = cc in
          absurd (no_limit y.front e k (subst (λ w. IsPastCount y.front ⊎ IsTooDeep y.front w) (sym token) y.past) (subst (λ w. KeepsCount w) i x.counted) (subst (λ w. IsFront nesting w) i x.is_front))
      | earlier k e i j ↦
          let token : k ≡ x.token = cc in
          absurd (no_limit x.front e k (subst (λ w. IsPastCount x.front ⊎ IsTooDeep x.front w) (sym token) x.past) (subst (λ w. KeepsCount w) i y.counted) (subst (λ w. IsFront nesting w) i y.is_front))
    ]

-- A unit that ends at a token isn't past a limit.
end_or_limit : (tokens : List Token) (end : Place) (c d : Code) (p q : Place) → IsNoUnit tokens end c p → IsPastLimit tokens d q → ⊥
end_or_limit tokens end c d p q x y = elim (cuts x.front x.rest y.front (y.token ∷ y.rest) (sym x.cut ∙ y.cut)) [
  | equal i j ↦ elim y.past [
    | inl past ↦ x.counted x.front [] y.token (ap (λ w. x.front ++ take 1 w) j) (subst (λ w. IsPastCount w) (sym i) past)
    | inr deep ↦ ends_at x.front x.rest y.rest y.token j x.ends deep.goes_on.0 (subst (λ w. IsFront deep.goes_on.0 (w ++ y.token ∷ [])) (sym i) deep.goes_on.1)
  ]
  | later k e i j ↦
      let token : k ≡ y.token = cc in
      no_limit y.front e k (subst (λ w. IsPastCount y.front ⊎ IsTooDeep y.front w) (sym token) y.past) (subst (λ w. KeepsCount w) i (keeps_front x.front (take 1 x.rest) x.counted)) (subst (λ w. IsFront nesting w) i x.is_front)
  | earlier k e i j ↦ no_longer x.front e (e ++ y.token ∷ y.rest) k (ends_at x.front x.rest (e ++ y.token ∷ y.rest) k j x.ends) (subst (λ w. IsFront nesting w) i y.is_front)
]

pub one_unit : (tokens : List Token) (a b : List Decl) → IsUnit tokens a → IsUnit tokens b → a ≡ b
one_unit tokens a b x y = one_value units ahead fit (name (unit nesting)) (refl, tt) tokens a b x.spelled y.spelled

pub one_fault : (tokens : List Token) (end : Place) (c d : Code) (p q : Place) → IsSyntaxFault tokens end c p → IsSyntaxFault tokens end d q → (c ≡ d) × (p ≡ q)
one_fault tokens end c d p q x y = elim x [
  | inl i ↦ elim y [ inl j ↦ two_ends tokens end c d p q i j | inr j ↦ absurd (end_or_limit tokens end c d p q i j) ]
  | inr i ↦ elim y [ inl j ↦ absurd (end_or_limit tokens end d c q p j i) | inr j ↦ two_limits tokens c d p q i j ]
]

no_end : (tokens front rest : List Token) (decls : List Decl) → tokens ≡ front ++ rest → EndsHere front rest → Spells units (name (unit nesting)) tokens decls → ⊥
no_end tokens front [] decls cut ends h = ends decls (subst (λ w. Spells units (name (unit nesting)) w decls) (cut ∙ append-nil front) h)
no_end tokens front (k ∷ rest) decls cut ends h = ends nesting (text_up_to decls tokens front rest k cut h)

pub not_both : (tokens : List Token) (decls : List Decl) (end : Place) (code : Code) (place : Place) → IsUnit tokens decls → IsSyntaxFault tokens end code place → ⊥
not_both tokens decls end code place x y = elim y [
  | inl i ↦ no_end tokens i.front i.rest decls i.cut i.ends x.spelled
  | inr i ↦ elim i.past [
    | inl past ↦ kept_before tokens i.front i.rest i.token i.cut x.counted past
    | inr deep ↦ deep.too_deep (text_up_to decls tokens i.front i.rest i.token i.cut x.spelled)
  ]
]

pub one_answer : OneAnswer
one_answer = record { one_unit = one_unit; one_fault = one_fault; not_both = not_both }
