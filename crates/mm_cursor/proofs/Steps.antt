-- How readers of parts make up readers of longer parts, at the grammar of units.
use Rattle.std.proofs.Common.{◌≡◌, ℕ, ◌<◌, ◌≤◌, ◌&&◌, Bool, true, false, IsTrue, List, ◌∷◌, ◌++◌, inl, inr, map, length, refl, ap, sym, ◌∙◌, subst, arith, Option, Some, None, Result, Ok, Err, not, IfOk, IfErr, option_copied}
use Rattle.std.specs.Borrow.{Bor}
use Rattle.std.specs.Result.{IsErrAnd}
use Rattle.std.specs.Option.{is_some}
use Rattle.std.proofs.lemmas.Result.{err_from_is_err_and}
use Rattle.mm_grammar.specs.Grammar.{name, seq, alt, give, opt, Reads, Fails, Avoids, has}
use Rattle.mm_grammar.specs.Ahead.{first_of, is_good, has_no_tail, empty_of, Good, disjoint, within}
use Rattle.mm_grammar.proofs.Lists.{apart, has-within, has-split}
use Rattle.mm_grammar.proofs.Plain.{plain_good}
use Rattle.mm_grammar.proofs.Reading.{one_ok, seq_ok, seq_fail_first, seq_fail_second, alt_first_ok, alt_first_fail, alt_second_ok, alt_second_fail, map_ok, map_fail, name_ok, name_fail}
use Rattle.mm_grammar.proofs.Loops.{opt_none, opt_fail}
use Rattle.mm_grammar.proofs.Here.{opt_read}
use Rattle.mm_token.specs.declared.token.Token.{Token}
use Rattle.mm_syntax.specs.declared.symbol.Symbol.{Symbol}
use Rattle.mm_syntax.specs.Symbols.{symbol_of, number_of}
use Rattle.mm_syntax.specs.Built.{is_given}
use Rattle.mm_syntax.specs.Rules.{P, Value, Rule, units, token, rule_of}
use Rattle.mm_syntax.proofs.Claims.{ahead}
use Rattle.mm_syntax.proofs.Fitting.{fit}
use Rattle.mm_cursor.specs.declared.Stop.{Stop}
use Rattle.mm_cursor.specs.declared.Stop.TheVariants as stop
use Rattle.mm_cursor.specs.Cursor.{Answers, Takes, Eats}

-- What is computed of a part says that one token ahead decides in it.
abbrev pub is_plain : {A : Type 0} → P A → Bool
is_plain p = is_good units ahead p && has_no_tail units ahead p

pub good : {A : Type 0} → (p : P A) → IsTrue (is_plain p) → Good units ahead p
good p g = plain_good units ahead p g

-- ---- faults and want of memory

fault : {A B : Type 0} → (p : P A) (q : P B) (ts us rest : List Token) (e : Stop) → Answers p us (Err e) rest → (Fails units p us rest → Fails units q ts rest) → Answers q ts (Err e) rest
fault p q ts us rest stop.Fault h f = f h
fault p q ts us rest stop.NoMemory h f = tt

-- at the exit of a `?`: a fault of a part is one of the whole
pub err : {A B : Type 0} → (p : P A) (q : P B) (ts us rest : List Token) (e : Stop) (r : Result B Stop) → IsErrAnd r (λ y. y ≡ e) → Answers p us (Err e) rest → (Fails units p us rest → Fails units q ts rest) → Answers q ts r rest
err p q ts us rest e r is h f =
    let x = err_from_is_err_and r is in
    subst (λ w. Answers q ts w rest) (sym (x.1 ∙ ap (λ y. Err y) x.2)) (fault p q ts us rest e h f)

-- the same where a token was to be taken
pub err_take : {B : Type 0} → (symbols : List Symbol) (q : P B) (ts us rest : List Token) (e : Stop) (r : Result B Stop) → IsErrAnd r (λ y. y ≡ e) → Takes symbols us (Err e) rest → (Fails units (token symbols) us rest → Fails units q ts rest) → Answers q ts r rest
err_take symbols q ts us rest e r is h f = err (token symbols) q ts us rest e r is (as_answer e h) f
  where
    as_answer : (e : Stop) → Takes symbols us (Err e) rest → Answers (token symbols) us (Err e) rest
    as_answer stop.Fault h = h
    as_answer stop.NoMemory h = absurd h

-- the same where memory ran out
pub no_room : {B : Type 0} → (q : P B) (ts rest : List Token) (e : Stop) (r : Result B Stop) → IsErrAnd r (λ y. y ≡ e) → e ≡ stop.NoMemory → Answers q ts r rest
no_room q ts rest e r is h =
    let x = err_from_is_err_and r is in
    subst (λ w. Answers q ts w rest) (sym (x.1 ∙ ap (λ y. Err y) (x.2 ∙ h))) tt

-- what a helper built, or its want of memory
pub built : {B : Type 0} → (q : P B) (ts rest : List Token) (w : B) (r : Result B Stop) → IfOk r (λ v. v ≡ w) → IfErr r (λ x. x ≡ stop.NoMemory) → Reads units q ts w rest → Answers q ts r rest
built q ts rest w (Ok v) i j a = subst (λ x. Reads units q ts x rest) (sym i) a
built q ts rest w (Err x) i j a = subst (λ y. Answers q ts (Err y) rest) (sym j) tt

-- what another reader answers, for a longer part
pub tail : {A : Type 0} → (p q : P A) (ts us rest : List Token) (r : Result A Stop) → Answers p us r rest → ((v : A) → Reads units p us v rest → Reads units q ts v rest) → (Fails units p us rest → Fails units q ts rest) → Answers q ts r rest
tail p q ts us rest (Ok v) a f g = f v a
tail p q ts us rest (Err stop.Fault) a f g = g a
tail p q ts us rest (Err stop.NoMemory) a f g = tt

pub ok_is : {B : Type 0} → (q : P B) (ts r : List Token) (v w : B) → v ≡ w → Reads units q ts w r → Reads units q ts v r
ok_is q ts r v w h a = subst (λ x. Reads units q ts x r) (sym h) a

-- ---- tokens

-- This token was taken, which is one of these.
abbrev pub Took : List Symbol → List Token → Token → List Token → Type 0
Took symbols ts t rest = (ts ≡ t ∷ rest) × IsTrue (has (number_of (symbol_of t)) (map number_of symbols))

pub ate : (symbols : List Symbol) (ts r : List Token) (t : Token) → Took symbols ts t r → Reads units (token symbols) ts t r
ate symbols ts r t h = subst (λ us. Reads units (token symbols) us t r) (sym h.0) (one_ok units ahead fit (map number_of symbols) t r h.1)

pub eats_some : (symbols : List Symbol) (ts r : List Token) (o : Option (Bor Token)) → true ≡ is_some o → Eats symbols ts o r → (t : Token) × Took symbols ts t r
eats_some symbols ts r (Some t) h i = (t.now, i)
eats_some symbols ts r None h i = absurd (cc)

pub eats_none : (symbols : List Symbol) (ts r : List Token) (o : Option (Bor Token)) → false ≡ is_some o → Eats symbols ts o r → Eats symbols ts None r
eats_none symbols ts r (Some t) h i = absurd (cc)
eats_none symbols ts r None h i = i

-- a token that was taken begins nothing that begins otherwise
pub other : (symbols : List Symbol) (cs : List ℕ) → IsTrue (disjoint (map number_of symbols) cs) → (ts r : List Token) (t : Token) → Took symbols ts t r → Avoids units cs ts
other symbols cs d ts r t h x s i j =
    let i' : t ∷ r ≡ x ∷ s = sym h.0 ∙ i in
    let same : x ≡ t = cc in
    apart (number_of (symbol_of t)) (map number_of symbols) cs d h.1 (subst (λ w. IsTrue (has (number_of (symbol_of w)) cs)) same j)

-- where neither of two sets of tokens stands, none of both does
pub avoid_both : (symbols others : List Symbol) (ts us r : List Token) → Eats symbols ts None us → Eats others us None r → Avoids units (map number_of symbols ++ map number_of others) ts
avoid_both symbols others ts us r h i x s e j = elim (has-split (number_of (symbol_of x)) (map number_of symbols) (map number_of others) j)
    [ inl a ↦ h.1 x s e a | inr a ↦ i.1 x s (h.0 ∙ e) a ]

pub taken_shorter : (symbols : List Symbol) (ts us r : List Token) (t : Token) → Took symbols ts t us → length r ≤ length us → length r < length ts
taken_shorter symbols ts us r t h n = let l : length ts ≡ length (t ∷ us) = ap length h.0 in omega arith

pub eats_shorter : (symbols : List Symbol) (ts r : List Token) (o : Option (Bor Token)) → Eats symbols ts o r → length r ≤ length ts
eats_shorter symbols ts r (Some x) h = let l = ap length h.0 in omega (arith, l)
eats_shorter symbols ts r None h = let l = ap length h.0 in omega (arith, l)

-- ---- parts

pub pair : {A B : Type 0} → (p : P A) (q : P B) → IsTrue (is_plain (seq p q)) → (ts r1 r2 : List Token) (v : A) (w : B) → Reads units p ts v r1 → Reads units q r1 w r2 → Reads units (seq p q) ts (v, w) r2
pair p q g ts r1 r2 v w a b = seq_ok units ahead fit p q (good (seq p q) g) ts r1 r2 v w a b

pub first_fails : {A B : Type 0} → (p : P A) (q : P B) → IsTrue (is_plain (seq p q)) → (ts r : List Token) → Fails units p ts r → Fails units (seq p q) ts r
first_fails p q g ts r a = seq_fail_first units ahead fit p q (good (seq p q) g) ts r a

pub second_fails : {A B : Type 0} → (p : P A) (q : P B) → IsTrue (is_plain (seq p q)) → (ts r1 r2 : List Token) (v : A) → Reads units p ts v r1 → Fails units q r1 r2 → Fails units (seq p q) ts r2
second_fails p q g ts r1 r2 v a b = seq_fail_second units ahead fit p q (good (seq p q) g) ts r1 r2 v a b

pub gives : {A B : Type 0} → (f : A → B) (p : P A) (ts r : List Token) (v : A) → Reads units p ts v r → Reads units (give f p) ts (f v) r
gives f p ts r v a = map_ok units ahead fit f p ts r v a

pub gives_not : {A B : Type 0} → (f : A → B) (p : P A) (ts r : List Token) → Fails units p ts r → Fails units (give f p) ts r
gives_not f p ts r a = map_fail units ahead fit f p ts r a

pub named : (x : Rule) (ts r : List Token) (v : Value x) → Reads units (rule_of x) ts v r → Reads units (name x) ts v r
named x ts r v a = name_ok units ahead fit x ts r v a

pub named_not : (x : Rule) (ts r : List Token) → Fails units (rule_of x) ts r → Fails units (name x) ts r
named_not x ts r a = name_fail units ahead fit x ts r a

-- ---- from a part with another value back to the part

pub ungive : {A B : Type 0} → (f : A → B) (p : P A) (ts r : List Token) (v : B) → Reads units (give f p) ts v r → (w : A) × (v ≡ f w) × Reads units p ts w r
ungive f p ts r v a = let s = a.spelled in (s.0, s.1, record { used = a.used; cut = a.cut; spelled = s.2; stuck = a.stuck })

pub ungive_not : {A B : Type 0} → (f : A → B) (p : P A) (ts r : List Token) → Fails units (give f p) ts r → Fails units p ts r
ungive_not f p ts r a = record { used = a.used; cut = a.cut; front = a.front; not_spelled = λ v s. a.not_spelled (f v) (v, refl, s); stuck = a.stuck }

-- two alternatives, the other way round
pub swap_reads : {A : Type 0} → (p q : P A) (ts r : List Token) (v : A) → Reads units (alt q p) ts v r → Reads units (alt p q) ts v r
swap_reads p q ts r v a = record {
  used = a.used;
  cut = a.cut;
  spelled = elim a.spelled [ inl i ↦ inr i | inr i ↦ inl i ];
  stuck = λ x s tail e f. a.stuck x s tail e (elim f [ inl i ↦ inr i | inr i ↦ inl i ]);
}

pub swap_fails : {A : Type 0} → (p q : P A) (ts r : List Token) → Fails units (alt q p) ts r → Fails units (alt p q) ts r
swap_fails p q ts r a = record {
  used = a.used;
  cut = a.cut;
  front = elim a.front [ inl i ↦ inr i | inr i ↦ inl i ];
  not_spelled = λ v s. a.not_spelled v (elim s [ inl i ↦ inr i | inr i ↦ inl i ]);
  stuck = λ x s tail e f. a.stuck x s tail e (elim f [ inl i ↦ inr i | inr i ↦ inl i ]);
}

-- ---- p, whose value doesn't count, and q; or the other way round

pub after : {A B : Type 0} → (p : P A) (q : P B) → IsTrue (is_plain (seq p q)) → (ts r1 r2 : List Token) (v : A) (w : B) → Reads units p ts v r1 → Reads units q r1 w r2 → Reads units (give (λ x. x.1) (seq p q)) ts w r2
after p q g ts r1 r2 v w a b = gives (λ x. x.1) (seq p q) ts r2 (v, w) (pair p q g ts r1 r2 v w a b)

pub after_fails : {A B : Type 0} → (p : P A) (q : P B) → IsTrue (is_plain (seq p q)) → (ts r1 r2 : List Token) (v : A) → Reads units p ts v r1 → Fails units q r1 r2 → Fails units (give (λ x. x.1) (seq p q)) ts r2
after_fails p q g ts r1 r2 v a b = gives_not (λ x. x.1) (seq p q) ts r2 (second_fails p q g ts r1 r2 v a b)

pub before : {A B : Type 0} → (p : P A) (q : P B) → IsTrue (is_plain (seq p q)) → (ts r1 r2 : List Token) (v : A) (w : B) → Reads units p ts v r1 → Reads units q r1 w r2 → Reads units (give (λ x. x.0) (seq p q)) ts v r2
before p q g ts r1 r2 v w a b = gives (λ x. x.0) (seq p q) ts r2 (v, w) (pair p q g ts r1 r2 v w a b)

pub before_fails : {A B : Type 0} → (p : P A) (q : P B) → IsTrue (is_plain (seq p q)) → (ts r : List Token) → Fails units p ts r → Fails units (give (λ x. x.0) (seq p q)) ts r
before_fails p q g ts r a = gives_not (λ x. x.0) (seq p q) ts r (first_fails p q g ts r a)

pub before_then_fails : {A B : Type 0} → (p : P A) (q : P B) → IsTrue (is_plain (seq p q)) → (ts r1 r2 : List Token) (v : A) → Reads units p ts v r1 → Fails units q r1 r2 → Fails units (give (λ x. x.0) (seq p q)) ts r2
before_then_fails p q g ts r1 r2 v a b = gives_not (λ x. x.0) (seq p q) ts r2 (second_fails p q g ts r1 r2 v a b)

-- ---- a part at most once, by its first token

pub some : {A : Type 0} → (p : P A) → IsTrue (is_plain (opt p)) → IsTrue (not (empty_of units ahead p)) → (ts r : List Token) (v : A) → Reads units p ts v r → Reads units (opt p) ts (Some v) r
some p g n ts r v a = opt_read units ahead fit p (good (opt p) g) n ts r v a

pub none : {A : Type 0} → (p : P A) (symbols : List Symbol) → IsTrue (is_plain (opt p)) → first_of units ahead p ≡ map number_of symbols → (ts us : List Token) → Eats symbols ts None us → Reads units (opt p) ts None us
none p symbols g f ts us h = subst (λ w. Reads units (opt p) ts None w) (sym h.0) (opt_none units ahead fit p (good (opt p) g) ts (λ k r e i. h.1 k r e (subst (λ cs. IsTrue (has (number_of (symbol_of k)) cs)) f i)))

pub some_fails : {A : Type 0} → (p : P A) (symbols : List Symbol) → IsTrue (is_plain (opt p)) → IsTrue (within (map number_of symbols) (first_of units ahead p)) → (ts us r : List Token) (t : Token) → Took symbols ts t us → length r ≤ length us →
    Fails units p ts r → Fails units (opt p) ts r
some_fails p symbols g w ts us r t h n a =
    opt_fail units ahead fit p (good (opt p) g) ts r (t, us, h.0, has-within (number_of (symbol_of t)) (map number_of symbols) (first_of units ahead p) w h.1) (taken_shorter symbols ts us r t h n) a

-- ---- one of two, by the first token

pub first_reads : {A : Type 0} → (p q : P A) (symbols : List Symbol) → IsTrue (is_plain (alt p q)) → IsTrue (within (map number_of symbols) (first_of units ahead p)) → (ts us r : List Token) (t : Token) (v : A) → Took symbols ts t us → Reads units p ts v r → Reads units (alt p q) ts v r
first_reads p q symbols g w ts us r t v h a = alt_first_ok units ahead fit p q (good (alt p q) g) ts r v (t, us, h.0, has-within (number_of (symbol_of t)) (map number_of symbols) (first_of units ahead p) w h.1) a

pub first_one_fails : {A : Type 0} → (p q : P A) (symbols : List Symbol) → IsTrue (is_plain (alt p q)) → IsTrue (within (map number_of symbols) (first_of units ahead p)) → (ts us r : List Token) (t : Token) → Took symbols ts t us → length r ≤ length us → Fails units p ts r → Fails units (alt p q) ts r
first_one_fails p q symbols g w ts us r t h n a =
    alt_first_fail units ahead fit p q (good (alt p q) g) ts r (t, us, h.0, has-within (number_of (symbol_of t)) (map number_of symbols) (first_of units ahead p) w h.1) (inr (taken_shorter symbols ts us r t h n)) a

pub second_reads : {A : Type 0} → (p q : P A) (symbols : List Symbol) → IsTrue (is_plain (alt p q)) → first_of units ahead p ≡ map number_of symbols → (ts us r : List Token) (v : A) → Eats symbols ts None us → Reads units q us v r → Reads units (alt p q) ts v r
second_reads p q symbols g f ts us r v h a = alt_second_ok units ahead fit p q (good (alt p q) g) ts r v (λ k s i j. h.1 k s i (subst (λ cs. IsTrue (has (number_of (symbol_of k)) cs)) f j)) (subst (λ w. Reads units q w v r) h.0 a)

pub second_one_fails : {A : Type 0} → (p q : P A) (symbols : List Symbol) → IsTrue (is_plain (alt p q)) → IsTrue (not (empty_of units ahead p)) → first_of units ahead p ≡ map number_of symbols → (ts us r : List Token) → Eats symbols ts None us → Fails units q us r → Fails units (alt p q) ts r
second_one_fails p q symbols g n f ts us r h a = alt_second_fail units ahead fit p q (good (alt p q) g) ts r (λ k s i j. h.1 k s i (subst (λ cs. IsTrue (has (number_of (symbol_of k)) cs)) f j)) n (subst (λ w. Fails units q w r) h.0 a)

-- ---- two parts

pub two_first : {A B C : Type 0} → (f : A × B → C) (p : P A) (q : P B) → IsTrue (is_plain (seq p q)) → (ts r : List Token) → Fails units p ts r → Fails units (give f (seq p q)) ts r
two_first f p q g ts r a = gives_not f (seq p q) ts r (first_fails p q g ts r a)

pub two_second : {A B C : Type 0} → (f : A × B → C) (p : P A) (q : P B) → IsTrue (is_plain (seq p q)) → (ts r1 r : List Token) (v : A) → Reads units p ts v r1 → Fails units q r1 r → Fails units (give f (seq p q)) ts r
two_second f p q g ts r1 r v a b = gives_not f (seq p q) ts r (second_fails p q g ts r1 r v a b)

pub two : {A B C : Type 0} → (f : A × B → C) (p : P A) (q : P B) → IsTrue (is_plain (seq p q)) → (ts r1 r : List Token) (v : A) (w : B) (x : C) → Reads units p ts v r1 → Reads units q r1 w r → x ≡ f (v, w) → Reads units (give f (seq p q)) ts x r
two f p q g ts r1 r v w x a b e = ok_is (give f (seq p q)) ts r x (f (v, w)) e (gives f (seq p q) ts r (v, w) (pair p q g ts r1 r v w a b))

-- ---- three parts

pub three_second : {A B C D : Type 0} → (f : A × (B × C) → D) (p : P A) (q : P B) (s : P C) → IsTrue (is_plain (seq p (seq q s))) → IsTrue (is_plain (seq q s)) → (ts r1 r : List Token) (v : A) → Reads units p ts v r1 → Fails units q r1 r → Fails units (give f (seq p (seq q s))) ts r
three_second f p q s g h ts r1 r v a b = two_second f p (seq q s) g ts r1 r v a (first_fails q s h r1 r b)

pub three_third : {A B C D : Type 0} → (f : A × (B × C) → D) (p : P A) (q : P B) (s : P C) → IsTrue (is_plain (seq p (seq q s))) → IsTrue (is_plain (seq q s)) → (ts r1 r2 r : List Token) (v : A) (w : B) → Reads units p ts v r1 → Reads units q r1 w r2 → Fails units s r2 r → Fails units (give f (seq p (seq q s))) ts r
three_third f p q s g h ts r1 r2 r v w a b c = two_second f p (seq q s) g ts r1 r v a (second_fails q s h r1 r2 r w b c)

pub three : {A B C D : Type 0} → (f : A × (B × C) → D) (p : P A) (q : P B) (s : P C) → IsTrue (is_plain (seq p (seq q s))) → IsTrue (is_plain (seq q s)) → (ts r1 r2 r : List Token) (v : A) (w : B) (y : C) (x : D) → Reads units p ts v r1 → Reads units q r1 w r2 → Reads units s r2 y r → x ≡ f (v, (w, y)) → Reads units (give f (seq p (seq q s))) ts x r
three f p q s g h ts r1 r2 r v w y x a b c e = two f p (seq q s) g ts r1 r v (w, y) x a (pair q s h r1 r2 r w y b c) e

-- ---- a token that was taken, and a part whose value it stands in

pub led : {A B : Type 0} → (symbols : List Symbol) (f : Token × A → B) (q : P A) → IsTrue (is_plain (seq (token symbols) q)) → (ts us r : List Token) (x : Token) (v : B) → Took symbols ts x us → Reads units (give (λ w. f (x, w)) q) us v r → Reads units (give f (seq (token symbols) q)) ts v r
led symbols f q g ts us r x v h a =
    let w = ungive (λ w. f (x, w)) q us r v a in
    two f (token symbols) q g ts us r x w.0 v (ate symbols ts us x h) w.2 w.1

pub led_fails : {A B : Type 0} → (symbols : List Symbol) (f : Token × A → B) (q : P A) → IsTrue (is_plain (seq (token symbols) q)) → (ts us r : List Token) (x : Token) → Took symbols ts x us → Fails units (give (λ w. f (x, w)) q) us r → Fails units (give f (seq (token symbols) q)) ts r
led_fails symbols f q g ts us r x h a = two_second f (token symbols) q g ts us r x (ate symbols ts us x h) (ungive_not (λ w. f (x, w)) q us r a)

-- ---- a token that may be left out

pub token_some : {B : Type 0} → (symbols : List Symbol) (f : Option Token → B) → IsTrue (is_plain (opt (token symbols))) → (ts r : List Token) (x : Token) (v : B) → Took symbols ts x r → v ≡ f (Some x) → Reads units (give f (opt (token symbols))) ts v r
token_some symbols f g ts r x v h e =
    ok_is (give f (opt (token symbols))) ts r v (f (Some x)) e (gives f (opt (token symbols)) ts r (Some x) (some (token symbols) g refl ts r x (ate symbols ts r x h)))

pub token_none : {B : Type 0} → (symbols : List Symbol) (f : Option Token → B) → IsTrue (is_plain (opt (token symbols))) → (ts r : List Token) (v : B) → Eats symbols ts None r → v ≡ f None → Reads units (give f (opt (token symbols))) ts v r
token_none symbols f g ts r v h e =
    ok_is (give f (opt (token symbols))) ts r v (f None) e (gives f (opt (token symbols)) ts r None (none (token symbols) symbols g refl ts r h))

-- whether it stood there
pub token_given : (symbols : List Symbol) → IsTrue (is_plain (opt (token symbols))) → (ts r : List Token) (o : Option (Bor Token)) (v : Bool) → v ≡ is_some o → Eats symbols ts o r → Reads units (give is_given (opt (token symbols))) ts v r
token_given symbols g ts r (Some x) v e h = token_some symbols is_given g ts r x.now v h e
token_given symbols g ts r None v e h = token_none symbols is_given g ts r v h e

-- the token itself, where it stood there
pub token_taken : (symbols : List Symbol) → IsTrue (is_plain (opt (token symbols))) → (ts r : List Token) (o : Option (Bor Token)) → Eats symbols ts o r → Reads units (opt (token symbols)) ts (option_copied o) r
token_taken symbols g ts r (Some x) h = some (token symbols) g refl ts r x.now (ate symbols ts r x.now h)
token_taken symbols g ts r None h = none (token symbols) symbols g refl ts r h

-- no value of it counts
pub token_eaten : {B : Type 0} → (symbols : List Symbol) (v : B) → IsTrue (is_plain (opt (token symbols))) → (ts r : List Token) (o : Option (Bor Token)) → Eats symbols ts o r → Reads units (give (λ w. v) (opt (token symbols))) ts v r
token_eaten symbols v g ts r (Some x) h = token_some symbols (λ w. v) g ts r x.now v h refl
token_eaten symbols v g ts r None h = token_none symbols (λ w. v) g ts r v h refl
