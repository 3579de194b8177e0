-- Parts one after another, over plain lists of tokens.
use Rattle.std.proofs.Common.{◌≡◌, ◌<◌, ◌≤◌, ◌+◌, ◌⊎◌, Bool, true, false, IsTrue, List, [], ◌∷◌, ◌++◌, inl, inr, map, length, refl, ap, sym, ◌∙◌, subst, arith, Option, Some, None, not}
use Rattle.std.proofs.lemmas.List.{length-append}
use Rattle.std.specs.Borrow.{Bor}
use Rattle.std.specs.Option.{is_some}
use Rattle.mm_grammar.specs.Grammar.{seq, alt, give, opt, RuleSpells, RuleFront, Front, Spells, Begins, Avoids, Reads, Fails}
use Rattle.mm_grammar.specs.Ahead.{first_of, empty_of}
use Rattle.mm_grammar.proofs.Lists.{not_both}
use Rattle.mm_grammar.proofs.Laws.{spell_empty}
use Rattle.mm_grammar.proofs.Closed.{lawful}
use Rattle.mm_grammar.proofs.Reading.{alt_first_ok, alt_first_fail, alt_second_ok, alt_second_fail}
use Rattle.mm_token.specs.declared.token.Token.{Token}
use Rattle.mm_syntax.specs.declared.symbol.Symbol.{Symbol}
use Rattle.mm_syntax.specs.Symbols.{number_of}
use Rattle.mm_syntax.specs.Built.{is_given}
use Rattle.mm_syntax.specs.Rules.{P, units, token}
use Rattle.mm_syntax.proofs.Claims.{ahead}
use Rattle.mm_syntax.proofs.Fitting.{fit}
use Rattle.mm_cursor.specs.Cursor.{Eats}
use Rattle.mm_cursor.proofs.Steps.{Took, is_plain, good, ok_is, ate, pair, first_fails, second_fails, gives, gives_not, some, none, ungive, ungive_not}
use Rattle.mm_parse_class.specs.Parts.{Foresees}

-- ---- two parts

pub two_first : {A B C : Type 0} → (f : A × B → C) (p : P A) (q : P B) → IsTrue (is_plain (seq p q)) → (ts r : List Token) → Fails units p ts r → Fails units (give f (seq p q)) ts r
two_first f p q g ts r a = gives_not f (seq p q) ts r (first_fails p q g ts r a)

pub two_second : {A B C : Type 0} → (f : A × B → C) (p : P A) (q : P B) → IsTrue (is_plain (seq p q)) → (ts r1 r : List Token) (v : A) → Reads units p ts v r1 → Fails units q r1 r → Fails units (give f (seq p q)) ts r
two_second f p q g ts r1 r v a b = gives_not f (seq p q) ts r (second_fails p q g ts r1 r v a b)

pub two : {A B C : Type 0} → (f : A × B → C) (p : P A) (q : P B) → IsTrue (is_plain (seq p q)) → (ts r1 r : List Token) (v : A) (w : B) (x : C) → Reads units p ts v r1 → Reads units q r1 w r → x ≡ f (v, w) → Reads units (give f (seq p q)) ts x r
two f p q g ts r1 r v w x a b e = ok_is (give f (seq p q)) ts r x (f (v, w)) e (gives f (seq p q) ts r (v, w) (pair p q g ts r1 r v w a b))

-- ---- three parts

pub three_second : {A B C D : Type 0} → (f : A × (B × C) → D) (p : P A) (q : P B) (s : P C) → IsTrue (is_plain (seq p (seq q s))) → IsTrue (is_plain (seq q s)) → (ts r1 r : List Token) (v : A) → Reads units p ts v r1 → Fails units q r1 r → Fails units (give f (seq p (seq q s))) ts r
three_second f p q s g h ts r1 r v a b = two_second f p (seq q s) g ts r1 r v a (first_fails q s h r1 r b)

pub three_third : {A B C D : Type 0} → (f : A × (B × C) → D) (p : P A) (q : P B) (s : P C) → IsTrue (is_plain (seq p (seq q s))) → IsTrue (is_plain (seq q s)) → (ts r1 r2 r : List Token) (v : A) (w : B) → Reads units p ts v r1 → Reads units q r1 w r2 → Fails units s r2 r → Fails units (give f (seq p (seq q s))) ts r
three_third f p q s g h ts r1 r2 r v w a b c = two_second f p (seq q s) g ts r1 r v a (second_fails q s h r1 r2 r w b c)

pub three : {A B C D : Type 0} → (f : A × (B × C) → D) (p : P A) (q : P B) (s : P C) → IsTrue (is_plain (seq p (seq q s))) → IsTrue (is_plain (seq q s)) → (ts r1 r2 r : List Token) (v : A) (w : B) (y : C) (x : D) → Reads units p ts v r1 → Reads units q r1 w r2 → Reads units s r2 y r → x ≡ f (v, (w, y)) → Reads units (give f (seq p (seq q s))) ts x r
three f p q s g h ts r1 r2 r v w y x a b c e = two f p (seq q s) g ts r1 r v (w, y) x a (pair q s h r1 r2 r w y b c) e

-- ---- a token that was taken, and a part whose value it stands in

pub led : {A B : Type 0} → (symbols : List Symbol) (f : Token × A → B) (q : P A) → IsTrue (is_plain (seq (token symbols) q)) → (ts us r : List Token) (x : Token) (v : B) → Took symbols ts x us → Reads units (give (λ w. f (x, w)) q) us v r → Reads units (give f (seq (token symbols) q)) ts v r
led symbols f q g ts us r x v h a =
    let w = ungive (λ w. f (x, w)) q us r v a in
    two f (token symbols) q g ts us r x w.0 v (ate symbols ts us x h) w.2 w.1

pub led_fails : {A B : Type 0} → (symbols : List Symbol) (f : Token × A → B) (q : P A) → IsTrue (is_plain (seq (token symbols) q)) → (ts us r : List Token) (x : Token) → Took symbols ts x us → Fails units (give (λ w. f (x, w)) q) us r → Fails units (give f (seq (token symbols) q)) ts r
led_fails symbols f q g ts us r x h a = two_second f (token symbols) q g ts us r x (ate symbols ts us x h) (ungive_not (λ w. f (x, w)) q us r a)

-- ---- a token that may be left out

pub token_some : {B : Type 0} → (symbols : List Symbol) (f : Option Token → B) → IsTrue (is_plain (opt (token symbols))) → (ts r : List Token) (x : Token) (v : B) → Took symbols ts x r → v ≡ f (Some x) → Reads units (give f (opt (token symbols))) ts v r
token_some symbols f g ts r x v h e =
    ok_is (give f (opt (token symbols))) ts r v (f (Some x)) e (gives f (opt (token symbols)) ts r (Some x) (some (token symbols) g refl ts r x (ate symbols ts r x h)))

pub token_none : {B : Type 0} → (symbols : List Symbol) (f : Option Token → B) → IsTrue (is_plain (opt (token symbols))) → (ts r : List Token) (v : B) → Eats symbols ts None r → v ≡ f None → Reads units (give f (opt (token symbols))) ts v r
token_none symbols f g ts r v h e =
    ok_is (give f (opt (token symbols))) ts r v (f None) e (gives f (opt (token symbols)) ts r None (none (token symbols) symbols g refl ts r h))

-- whether it stood there
pub token_given : (symbols : List Symbol) → IsTrue (is_plain (opt (token symbols))) → (ts r : List Token) (o : Option (Bor Token)) (v : Bool) → v ≡ is_some o → Eats symbols ts o r → Reads units (give is_given (opt (token symbols))) ts v r
token_given symbols g ts r (Some x) v e h = token_some symbols is_given g ts r x.now v h e
token_given symbols g ts r None v e h = token_none symbols is_given g ts r v h e

-- no value of it counts
pub token_eaten : {B : Type 0} → (symbols : List Symbol) (v : B) → IsTrue (is_plain (opt (token symbols))) → (ts r : List Token) (o : Option (Bor Token)) → Eats symbols ts o r → Reads units (give (λ w. v) (opt (token symbols))) ts v r
token_eaten symbols v g ts r (Some x) h = token_some symbols (λ w. v) g ts r x.now v h refl
token_eaten symbols v g ts r None h = token_none symbols (λ w. v) g ts r v h refl

pub eats_shorter : (symbols : List Symbol) (ts r : List Token) (o : Option (Bor Token)) → Eats symbols ts o r → length r ≤ length ts
eats_shorter symbols ts r (Some x) h = let e : length ts ≡ length (x.now ∷ r) = ap length h.0 in omega arith
eats_shorter symbols ts r None h = let e : length r ≡ length ts = ap length h.0 in omega arith

-- ---- one of two, by the token that stands next

pub foreseen : (symbols : List Symbol) (ts us r : List Token) (o : Option (Bor Token)) (v : Bool) → ts ≡ us → v ≡ is_some o → Eats symbols ts o r → Foresees symbols us v
foreseen symbols ts us r (Some x) v e i h = subst (λ w. Foresees symbols us w) (sym i) (x.now, r, sym e ∙ h.0, h.1)
foreseen symbols ts us r None v e i h = subst (λ w. Foresees symbols us w) (sym i) (subst (λ w. Avoids units (map number_of symbols) w) e h.1)

pub is_next : (symbols : List Symbol) (ts : List Token) (v : Bool) → v ≡ true → Foresees symbols ts v → Begins units (map number_of symbols) ts
is_next symbols ts v e h = subst (λ w. Foresees symbols ts w) e h

pub is_not_next : (symbols : List Symbol) (ts : List Token) (v : Bool) → v ≡ false → Foresees symbols ts v → Avoids units (map number_of symbols) ts
is_not_next symbols ts v e h = subst (λ w. Foresees symbols ts w) e h

pub next_reads : {A : Type 0} → (p q : P A) (symbols : List Symbol) → IsTrue (is_plain (alt p q)) → first_of units ahead p ≡ map number_of symbols → (ts r : List Token) (v : A) → Begins units (map number_of symbols) ts → Reads units p ts v r → Reads units (alt p q) ts v r
next_reads p q symbols g f ts r v h a = alt_first_ok units ahead fit p q (good (alt p q) g) ts r v (subst (λ cs. Begins units cs ts) (sym f) h) a

pub next_fails : {A : Type 0} → (p q : P A) (symbols : List Symbol) → IsTrue (is_plain (alt p q)) → IsTrue (not (empty_of units ahead q)) → first_of units ahead p ≡ map number_of symbols → (ts r : List Token) → Begins units (map number_of symbols) ts → Fails units p ts r → Fails units (alt p q) ts r
next_fails p q symbols g n f ts r h a = alt_first_fail units ahead fit p q (good (alt p q) g) ts r (subst (λ cs. Begins units cs ts) (sym f) h) (inl n) a

pub else_reads : {A : Type 0} → (p q : P A) (symbols : List Symbol) → IsTrue (is_plain (alt p q)) → first_of units ahead p ≡ map number_of symbols → (ts r : List Token) (v : A) → Avoids units (map number_of symbols) ts → Reads units q ts v r → Reads units (alt p q) ts v r
else_reads p q symbols g f ts r v h a = alt_second_ok units ahead fit p q (good (alt p q) g) ts r v (subst (λ cs. Avoids units cs ts) (sym f) h) a

pub else_fails : {A : Type 0} → (p q : P A) (symbols : List Symbol) → IsTrue (is_plain (alt p q)) → IsTrue (not (empty_of units ahead p)) → first_of units ahead p ≡ map number_of symbols → (ts r : List Token) → Avoids units (map number_of symbols) ts → Fails units q ts r → Fails units (alt p q) ts r
else_fails p q symbols g n f ts r h a = alt_second_fail units ahead fit p q (good (alt p q) g) ts r (subst (λ cs. Avoids units cs ts) (sym f) h) n a

-- ---- how much a part takes

-- what is never empty takes a token
pub takes_some : {A : Type 0} → (p : P A) → IsTrue (not (empty_of units ahead p)) → (ts r : List Token) (v : A) → Reads units p ts v r → length r < length ts
takes_some p n ts r v a = go a.used a.cut refl
  where
    go : (u : List Token) → ts ≡ u ++ r → a.used ≡ u → length r < length ts
    go [] cut same = absurd (not_both (empty_of units ahead p) n (spell_empty units ahead (RuleSpells units) (RuleFront units) (lawful units ahead fit) p v (subst (λ w. Spells units p w v) same a.spelled)))
    go (x ∷ u) cut same = let e : length ts ≡ length (x ∷ u) + length r = ap length cut ∙ length-append (x ∷ u) r in omega arith

-- What fails takes a token, or no front of it begins there.
pub fails_or_none : {A : Type 0} → (p : P A) → (ts r : List Token) → Fails units p ts r → (length r < length ts) ⊎ ((r ≡ ts) × Reads units (opt p) ts None ts)
fails_or_none p ts r a = go a.used a.cut refl
  where
    go : (u : List Token) → ts ≡ u ++ r → a.used ≡ u → (length r < length ts) ⊎ ((r ≡ ts) × Reads units (opt p) ts None ts)
    go [] cut same = inr (
      sym cut,
      record {
        used = [];
        cut = refl;
        spelled = inr (tt, refl, refl);
        stuck = λ k s tail e f. elim f [
          | inl i ↦ a.stuck k s tail (sym cut ∙ e) (subst (λ w. Front units p w) (ap (λ w. w ++ k ∷ tail) (sym same)) i)
          | inr i ↦ absurd (cc)
        ];
      },
    )
    go (x ∷ u) cut same = let e : length ts ≡ length (x ∷ u) + length r = ap length cut ∙ length-append (x ∷ u) r in inl (omega arith)
