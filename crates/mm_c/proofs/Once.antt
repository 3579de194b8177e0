-- A text has at most one tree, and is refused at most at one place.
use Rattle.std.specs.Prelude.{Bool, true, false, not}
use Rattle.std.specs.List.{list_any}
use Rattle.std.proofs.Common.{◌≡◌, ℕ, List, [], ◌∷◌, ◌++◌, ◌⊎◌, inl, inr, ◌&&◌, Some, IsTrue, refl, sym, ap, ◌∙◌, subst}
use Rattle.std.proofs.lemmas.List.{append-nil}
use Rattle.mm_grammar.specs.Grammar.{name, RuleSpells, RuleFront, Spells, Front, Stuck, Reads, Fails}
use Rattle.mm_grammar.proofs.Reading.{one_value}
use Rattle.mm_grammar.proofs.Closed.{lawful}
use Rattle.mm_grammar.proofs.Laws.{spell_front}
use Rattle.mm_grammar.proofs.Lists.{equal, later, earlier, cuts}
use Rattle.mm_c.specs.Tree.{Program}
use Rattle.mm_c.specs.Tokens.{Token, Place, first_place, cut, tokens_of}
use Rattle.mm_c.specs.Grammar.{Placed, program, texts}
use Rattle.mm_c.specs.WellFormed.{breaks, has_main, well_formed, is_true, first_broken}
use Rattle.mm_c.specs.Spelling.{Parses, place_of}
use Rattle.mm_c.specs.Laws.{OneProgram, SpelledIsNotRefused, OneRefusal}
use Rattle.mm_c.specs.Examples.{NothingIsNoProgram}
use Rattle.mm_c.proofs.Claims.{ahead, fit}

pub one_tree : (ts : List Token) (v w : Placed Program) → Spells texts (name program) ts v → Spells texts (name program) ts w → v ≡ w
one_tree ts v w s t = one_value texts ahead fit (name program) (refl, tt) ts v w s t

pub one_program : OneProgram
one_program text p q s t = ap (λ (v : Placed Program). v.tree) (one_tree (tokens_of text) (record { tree = p; places = s.places }) (record { tree = q; places = t.places }) s.parses t.parses)

not_nothing : (v : Placed Program) → Spells texts (name program) [] v → ⊥
not_nothing v s = let h : IsTrue false = (lawful texts ahead fit).empty program v s in absurd (cc)

nothing_fails : Fails texts (name program) [] []
nothing_fails = record {
  used = [];
  cut = refl;
  front = (lawful texts ahead fit).nil program;
  not_spelled = not_nothing;
  stuck = λ k r tail e f. absurd (cc);
}

pub nothing_is_no_program : NothingIsNoProgram
unfolding cut
nothing_is_no_program = (λ p s. not_nothing (record { tree = p; places = s.places }) s.parses, inl ([], refl, inl nothing_fails))

-- ---- one refusal

whole : (u : List Token) (v : Placed Program) → Spells texts (name program) u v → Front texts (name program) u
whole u v s = spell_front texts ahead (RuleSpells texts) (RuleFront texts) (lawful texts ahead fit) (name program) u v s

-- where the tokens stop being a front
record Stops (ts rest : List Token) : Type 0 where
  used : List Token
  cut : ts ≡ used ++ rest
  front : Front texts (name program) used
  stuck : Stuck texts (name program) used rest

stops_of : (ts rest : List Token) → (Fails texts (name program) ts rest ⊎ ((v : Placed Program) × (t : Token) × (more : List Token) × (rest ≡ t ∷ more) × Reads texts (name program) ts v rest)) → Stops ts rest
stops_of ts rest h = elim h [
  | inl f ↦ record { used = f.used; cut = f.cut; front = f.front; stuck = f.stuck }
  | inr r ↦ record { used = r.4.used; cut = r.4.cut; front = whole r.4.used r.0 r.4.spelled; stuck = r.4.stuck }
]

one_stop : (ts r1 r2 : List Token) → Stops ts r1 → Stops ts r2 → r1 ≡ r2
one_stop ts r1 r2 a b = elim (cuts a.used r1 b.used r2 (sym a.cut ∙ b.cut)) [
  | equal e f ↦ f
  | later k e f g ↦ absurd (b.stuck k (e ++ r1) e g (subst (λ u. Front texts (name program) u) f a.front))
  | earlier k e f g ↦ absurd (a.stuck k (e ++ r2) e g (subst (λ u. Front texts (name program) u) f b.front))
]

spelled_fails : (ts rest : List Token) (v : Placed Program) → Spells texts (name program) ts v → Fails texts (name program) ts rest → ⊥
spelled_fails ts [] v s f = f.not_spelled v (subst (λ u. Spells texts (name program) u v) (f.cut ∙ append-nil f.used) s)
spelled_fails ts (t ∷ more) v s f = f.stuck t more more refl (subst (λ u. Front texts (name program) u) f.cut (whole ts v s))

-- what is spelled as a whole stops nowhere
no_stop : (ts rest : List Token) (v : Placed Program) → Spells texts (name program) ts v → (Fails texts (name program) ts rest ⊎ ((w : Placed Program) × (t : Token) × (more : List Token) × (rest ≡ t ∷ more) × Reads texts (name program) ts w rest)) → ⊥
no_stop ts rest v s h = elim h [
  | inl f ↦ spelled_fails ts rest v s f
  | inr r ↦ r.4.stuck r.1 r.2 r.2 r.3 (subst (λ u. Front texts (name program) u) (r.4.cut ∙ ap (λ l. r.4.used ++ l) r.3) (whole ts v s))
]

-- ---- rules

any_broken : (bs : List Bool) (xs : List Place) (x : Place) → first_broken bs xs ≡ Some x → list_any is_true bs ≡ true
any_broken [] xs x e = absurd (cc)
any_broken (b ∷ bs) [] x e = absurd (cc)
any_broken (true ∷ bs) (y ∷ xs) x e = refl
any_broken (false ∷ bs) (y ∷ xs) x e = any_broken bs xs x e

-- of a well-formed program no rule is broken, and `main` is there
none_broken : (p : Program) → well_formed p ≡ true → (list_any is_true (breaks p) ≡ true → ⊥) × (has_main p ≡ true)
none_broken p w = go (list_any is_true (breaks p)) (has_main p) w
  where
    go : (a b : Bool) → (not a && b) ≡ true → (a ≡ true → ⊥) × (b ≡ true)
    go true b h = absurd (cc)
    go false b h = (λ e. absurd (cc), h)

rule_none : (p : Program) (places : List Place) (place : Place) → well_formed p ≡ true →
    ((first_broken (breaks p) places ≡ Some place) ⊎ ((list_any is_true (breaks p) ≡ false) × (has_main p ≡ false) × (place ≡ first_place))) → ⊥
rule_none p places place w h = elim h [
  | inl e ↦ (none_broken p w).0 (any_broken (breaks p) places place e)
  | inr e ↦ (let x = (none_broken p w).1 in let y = e.1 in absurd (cc))
]

rule_once : (p : Program) (places : List Place) (a b : Place) →
    ((first_broken (breaks p) places ≡ Some a) ⊎ ((list_any is_true (breaks p) ≡ false) × (has_main p ≡ false) × (a ≡ first_place))) →
    ((first_broken (breaks p) places ≡ Some b) ⊎ ((list_any is_true (breaks p) ≡ false) × (has_main p ≡ false) × (b ≡ first_place))) → a ≡ b
rule_once p places a b h i = elim h [
  | inl e ↦ elim i [ inl f ↦ cc | inr f ↦ (let x = any_broken (breaks p) places a e in let y = f.0 in absurd (cc)) ]
  | inr e ↦ elim i [ inl f ↦ (let x = any_broken (breaks p) places b f in let y = e.0 in absurd (cc)) | inr f ↦ e.2 ∙ sym f.2 ]
]

-- ---- the laws

tree_eq : (text : List ℕ) (p q : Program) (xs ys : List Place) → Parses text p xs → Parses text q ys → (p ≡ q) × (xs ≡ ys)
tree_eq text p q xs ys s t =
    let e = one_tree (tokens_of text) (record { tree = p; places = xs }) (record { tree = q; places = ys }) s t in
    (ap (λ (v : Placed Program). v.tree) e, ap (λ (v : Placed Program). v.places) e)

pub spelled_is_not_refused : SpelledIsNotRefused
spelled_is_not_refused text p place s h = elim h [
  | inl g ↦ no_stop (tokens_of text) g.0 (record { tree = p; places = s.places }) s.parses g.2
  | inr r ↦ (let e = tree_eq text r.0 p r.1 s.places r.2 s.parses in rule_none r.0 r.1 place (ap well_formed e.0 ∙ s.well_formed) r.3)
]

pub one_refusal : OneRefusal
one_refusal text a b h i = elim h [
  | inl g ↦ elim i [
    | inl k ↦ g.1 ∙ ap (place_of text) (one_stop (tokens_of text) g.0 k.0 (stops_of (tokens_of text) g.0 g.2) (stops_of (tokens_of text) k.0 k.2)) ∙ sym k.1
    | inr r ↦ absurd (no_stop (tokens_of text) g.0 (record { tree = r.0; places = r.1 }) r.2 g.2)
  ]
  | inr r ↦ elim i [
    | inl k ↦ absurd (no_stop (tokens_of text) k.0 (record { tree = r.0; places = r.1 }) r.2 k.2)
    | inr q ↦ (let e = tree_eq text q.0 r.0 q.1 r.1 q.2 r.2 in
        rule_once r.0 r.1 a b r.3
        (subst (λ z. (first_broken (breaks r.0) z ≡ Some b) ⊎ ((list_any is_true (breaks r.0) ≡ false) × (has_main r.0 ≡ false) × (b ≡ first_place))) e.1
        (subst (λ z. (first_broken (breaks z) q.1 ≡ Some b) ⊎ ((list_any is_true (breaks z) ≡ false) × (has_main z ≡ false) × (b ≡ first_place))) e.0 q.3)))
  ]
]
