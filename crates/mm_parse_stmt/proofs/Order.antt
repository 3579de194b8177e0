-- The alternatives of a statement in the order in which they are tried.
use Rattle.std.proofs.Common.{◌≡◌, ℕ, suc, ◌≤◌, IsTrue, List, ◌∷◌, ◌++◌, ◌⊎◌, inl, inr, map, length, refl, subst, None, not}
use Rattle.mm_grammar.specs.Grammar.{name, seq, alt, give, Front, Spells, Reads, Fails, has}
use Rattle.mm_grammar.specs.Ahead.{Good, Sealed, first_of, empty_of, within}
use Rattle.mm_grammar.proofs.Lists.{has-within}
use Rattle.mm_grammar.proofs.Plain.{plain_sealed}
use Rattle.mm_grammar.proofs.Reading.{seq_ok, seq_fail_second, alt_first_ok, alt_first_fail, alt_second_ok, alt_second_fail}
use Rattle.mm_token.specs.declared.token.Token.{Token}
use Rattle.mm_syntax.specs.declared.symbol.Symbol.{Symbol}
use Rattle.mm_syntax.specs.declared.stmt.Stmt.{Stmt}
use Rattle.mm_syntax.specs.Symbols.{symbol_of, number_of}
use Rattle.mm_syntax.specs.Rules.{P, units, token, rule_of, stmt, block, if_stmt, while_stmt, do_stmt, for_stmt}
use Rattle.mm_syntax.proofs.Claims.{ahead}
use Rattle.mm_syntax.proofs.Fitting.{fit}
use Rattle.mm_cursor.specs.Cursor.{Eats}
use Rattle.mm_cursor.proofs.Steps.{Took, ok_is, gives, gives_not, named, named_not, taken_shorter, ungive, ungive_not}
use Rattle.mm_parse_stmt.specs.Parts.{plain}

-- ---- the same texts and fronts otherwise put together

same_reads : {A : Type 0} → (p q : P A) → ((u : List Token) (v : A) → Spells units p u v → Spells units q u v) → ((u : List Token) → Front units q u → Front units p u) → (ts r : List Token) (v : A) → Reads units p ts v r → Reads units q ts v r
same_reads p q f g ts r v a = record { used = a.used; cut = a.cut; spelled = f a.used v a.spelled; stuck = λ x s tail e h. a.stuck x s tail e (g (a.used ++ x ∷ tail) h) }

same_fails : {A : Type 0} → (p q : P A) → ((u : List Token) (v : A) → Spells units q u v → Spells units p u v) → ((u : List Token) → Front units p u → Front units q u) → ((u : List Token) → Front units q u → Front units p u) →
    (ts r : List Token) → Fails units p ts r → Fails units q ts r
same_fails p q f g i ts r a = record { used = a.used; cut = a.cut; front = g a.used a.front; not_spelled = λ v s. a.not_spelled v (f a.used v s); stuck = λ x s tail e h. a.stuck x s tail e (i (a.used ++ x ∷ tail) h) }

sort : {B E S I W D F K C R : Type 0} → B ⊎ (I ⊎ (W ⊎ (D ⊎ (F ⊎ (E ⊎ (K ⊎ (C ⊎ (R ⊎ S)))))))) → B ⊎ (E ⊎ (S ⊎ (I ⊎ (W ⊎ (D ⊎ (F ⊎ (K ⊎ (C ⊎ R))))))))
sort (inl x) = inl x
sort (inr (inl x)) = inr (inr (inr (inl x)))
sort (inr (inr (inl x))) = inr (inr (inr (inr (inl x))))
sort (inr (inr (inr (inl x)))) = inr (inr (inr (inr (inr (inl x)))))
sort (inr (inr (inr (inr (inl x))))) = inr (inr (inr (inr (inr (inr (inl x))))))
sort (inr (inr (inr (inr (inr (inl x)))))) = inr (inl x)
sort (inr (inr (inr (inr (inr (inr (inl x))))))) = inr (inr (inr (inr (inr (inr (inr (inl x)))))))
sort (inr (inr (inr (inr (inr (inr (inr (inl x)))))))) = inr (inr (inr (inr (inr (inr (inr (inr (inl x))))))))
sort (inr (inr (inr (inr (inr (inr (inr (inr (inl x))))))))) = inr (inr (inr (inr (inr (inr (inr (inr (inr x))))))))
sort (inr (inr (inr (inr (inr (inr (inr (inr (inr x))))))))) = inr (inr (inl x))

unsort : {B E S I W D F K C R : Type 0} → B ⊎ (E ⊎ (S ⊎ (I ⊎ (W ⊎ (D ⊎ (F ⊎ (K ⊎ (C ⊎ R)))))))) → B ⊎ (I ⊎ (W ⊎ (D ⊎ (F ⊎ (E ⊎ (K ⊎ (C ⊎ (R ⊎ S))))))))
unsort (inl x) = inl x
unsort (inr (inl x)) = inr (inr (inr (inr (inr (inl x)))))
unsort (inr (inr (inl x))) = inr (inr (inr (inr (inr (inr (inr (inr (inr x))))))))
unsort (inr (inr (inr (inl x)))) = inr (inl x)
unsort (inr (inr (inr (inr (inl x))))) = inr (inr (inl x))
unsort (inr (inr (inr (inr (inr (inl x)))))) = inr (inr (inr (inl x)))
unsort (inr (inr (inr (inr (inr (inr (inl x))))))) = inr (inr (inr (inr (inl x))))
unsort (inr (inr (inr (inr (inr (inr (inr (inl x)))))))) = inr (inr (inr (inr (inr (inr (inl x))))))
unsort (inr (inr (inr (inr (inr (inr (inr (inr (inl x))))))))) = inr (inr (inr (inr (inr (inr (inr (inl x)))))))
unsort (inr (inr (inr (inr (inr (inr (inr (inr (inr x))))))))) = inr (inr (inr (inr (inr (inr (inr (inr (inl x))))))))

-- the alternatives, from each on
abbrev pub from_for : ℕ → P Stmt
from_for n = alt (for_stmt n) plain

abbrev pub from_do : ℕ → P Stmt
from_do n = alt (do_stmt n) (from_for n)

abbrev pub from_while : ℕ → P Stmt
from_while n = alt (while_stmt n) (from_do n)

abbrev pub from_if : ℕ → P Stmt
from_if n = alt (if_stmt n) (from_while n)

abbrev pub from_block : ℕ → P Stmt
from_block n = alt (name (block n)) (from_if n)

-- of a statement in which n may stand one inside the other, counted with itself
pub sorted_reads : (m n : ℕ) → suc n ≡ m → (ts r : List Token) (v : Stmt) → Reads units (from_block n) ts v r → Reads units (name (stmt m)) ts v r
sorted_reads m n e ts r v a = subst (λ x. Reads units (name (stmt x)) ts v r) e
    (named (stmt (suc n)) ts r v (same_reads (from_block n) (rule_of (stmt (suc n))) (λ u w s. sort s) (λ u f. unsort f) ts r v a))

pub sorted_fails : (m n : ℕ) → suc n ≡ m → (ts r : List Token) → Fails units (from_block n) ts r → Fails units (name (stmt m)) ts r
sorted_fails m n e ts r a = subst (λ x. Fails units (name (stmt x)) ts r) e
    (named_not (stmt (suc n)) ts r (same_fails (from_block n) (rule_of (stmt (suc n))) (λ u w s. unsort s) (λ u f. sort f) (λ u f. unsort f) ts r a))

-- ---- one token ahead decides between them

sealed_if : (n : ℕ) → Sealed units ahead (if_stmt n)
sealed_if n = (fit.sealed (stmt (suc n))).1.1.1.0

pub good_if : (n : ℕ) → Good units ahead (from_if n)
good_if n = (refl, (sealed_if n, plain_sealed units ahead (from_while n) refl))

pub good_block : (n : ℕ) → Good units ahead (from_block n)
good_block n = (refl, (tt, (good_if n).1))

pub now_reads : {A : Type 0} → (p q : P A) (symbols : List Symbol) → Good units ahead (alt p q) → IsTrue (within (map number_of symbols) (first_of units ahead p)) → (ts us r : List Token) (x : Token) (v : A) → Took symbols ts x us → Reads units p ts v r → Reads units (alt p q) ts v r
now_reads p q symbols g w ts us r x v h a = alt_first_ok units ahead fit p q g ts r v (x, us, h.0, has-within (number_of (symbol_of x)) (map number_of symbols) (first_of units ahead p) w h.1) a

pub now_fails : {A : Type 0} → (p q : P A) (symbols : List Symbol) → Good units ahead (alt p q) → IsTrue (within (map number_of symbols) (first_of units ahead p)) → (ts us r : List Token) (x : Token) → Took symbols ts x us → length r ≤ length us → Fails units p ts r → Fails units (alt p q) ts r
now_fails p q symbols g w ts us r x h n a =
    alt_first_fail units ahead fit p q g ts r (x, us, h.0, has-within (number_of (symbol_of x)) (map number_of symbols) (first_of units ahead p) w h.1) (inr (taken_shorter symbols ts us r x h n)) a

pub later_reads : {A : Type 0} → (p q : P A) (symbols : List Symbol) → Good units ahead (alt p q) → first_of units ahead p ≡ map number_of symbols → (ts us r : List Token) (v : A) → Eats symbols ts None us → Reads units q us v r → Reads units (alt p q) ts v r
later_reads p q symbols g f ts us r v h a = alt_second_ok units ahead fit p q g ts r v (λ x s i j. h.1 x s i (subst (λ cs. IsTrue (has (number_of (symbol_of x)) cs)) f j)) (subst (λ w. Reads units q w v r) h.0 a)

pub later_fails : {A : Type 0} → (p q : P A) (symbols : List Symbol) → Good units ahead (alt p q) → IsTrue (not (empty_of units ahead p)) → first_of units ahead p ≡ map number_of symbols → (ts us r : List Token) → Eats symbols ts None us → Fails units q us r → Fails units (alt p q) ts r
later_fails p q symbols g n f ts us r h a = alt_second_fail units ahead fit p q g ts r (λ x s i j. h.1 x s i (subst (λ cs. IsTrue (has (number_of (symbol_of x)) cs)) f j)) n (subst (λ w. Fails units q w r) h.0 a)

-- ---- what follows a first token, as a statement with it

pub word_reads : {A : Type 0} → (symbols : List Symbol) (f : Token × A → Stmt) (p : P A) → Good units ahead (seq (token symbols) p) → (ts us r : List Token) (x : Token) (v : Stmt) → Reads units (token symbols) ts x us → Reads units (give (λ w. f (x, w)) p) us v r →
    Reads units (give f (seq (token symbols) p)) ts v r
word_reads symbols f p g ts us r x v h a =
    let w = ungive (λ w. f (x, w)) p us r v a in
    ok_is (give f (seq (token symbols) p)) ts r v (f (x, w.0)) w.1 (gives f (seq (token symbols) p) ts r (x, w.0) (seq_ok units ahead fit (token symbols) p g ts us r x w.0 h w.2))

pub word_fails : {A : Type 0} → (symbols : List Symbol) (f : Token × A → Stmt) (p : P A) → Good units ahead (seq (token symbols) p) → (ts us r : List Token) (x : Token) → Reads units (token symbols) ts x us → Fails units (give (λ w. f (x, w)) p) us r →
    Fails units (give f (seq (token symbols) p)) ts r
word_fails symbols f p g ts us r x h a = gives_not f (seq (token symbols) p) ts r (seq_fail_second units ahead fit (token symbols) p g ts us r x h (ungive_not (λ w. f (x, w)) p us r a))
