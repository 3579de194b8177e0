-- A list that grows by one item after another, over plain lists of tokens: of the part that the whole list is, and of what
-- one more item is, as a comma and the item.
use Rattle.std.proofs.Common.{◌≡◌, ◌≤◌, IsTrue, List, [], ◌∷◌, ◌++◌, length, ap, sym, ◌∙◌, subst, None, append_assoc}
use Rattle.std.proofs.lemmas.List.{append-nil}
use Rattle.mm_grammar.specs.Grammar.{seq, many, give, Avoids, Reads, Fails}
use Rattle.mm_grammar.specs.Ahead.{first_of}
use Rattle.mm_grammar.proofs.Loops.{SoFar, begun, not_begun, once_more, ended_here, failed_inside}
use Rattle.mm_token.specs.declared.token.Token.{Token}
use Rattle.mm_syntax.specs.declared.symbol.Symbol.TheVariants as k
use Rattle.mm_syntax.specs.Rules.{P, units, token, ◌▸◌}
use Rattle.mm_syntax.proofs.Claims.{ahead}
use Rattle.mm_syntax.proofs.Fitting.{fit}
use Rattle.mm_cursor.specs.Cursor.{Eats}
use Rattle.mm_cursor.proofs.Steps.{Took, is_plain, good, ate, taken_shorter, gives, gives_not, after, after_fails}

-- The list is read so far, and what reads more of them reads the whole.
abbrev pub Listed : {A : Type 0} → P (List A) → P A → List A → List Token → List Token → Type 0
Listed whole q list ts rest = SoFar units whole q (λ xs. list ++ xs) ts rest

-- a comma and an item
abbrev pub next : {A : Type 0} → P A → P A
next p = token (k.Comma ∷ []) ▸ p

-- ---- the start

-- where one item begins the list
pub list_start : {A : Type 0} → (p q : P A) → IsTrue (is_plain (seq p (many q))) → (ts r : List Token) (v : A) (list : List A) → Reads units p ts v r → list ≡ v ∷ [] → Listed (give (λ v. v.0 ∷ v.1) (seq p (many q))) q list ts r
list_start p q g ts r v list a e = subst (λ l. Listed (give (λ v. v.0 ∷ v.1) (seq p (many q))) q l ts r) (sym e) (begun units ahead fit (λ v. v.0 ∷ v.1) p q (good (seq p (many q)) g) ts r v a)

pub list_not : {A : Type 0} → (p q : P A) → IsTrue (is_plain (seq p (many q))) → (ts r : List Token) → Fails units p ts r → Fails units (give (λ v. v.0 ∷ v.1) (seq p (many q))) ts r
list_not p q g ts r a = not_begun units ahead fit (λ v. v.0 ∷ v.1) p q (good (seq p (many q)) g) ts r a

-- where the list begins with an item that was read before
pub list_behind : {A : Type 0} → (q : P A) (first : A) (ts : List Token) (list : List A) → list ≡ first ∷ [] → Listed (give (λ xs. first ∷ xs) (many q)) q list ts ts
list_behind q first ts list e = subst (λ l. Listed (give (λ xs. first ∷ xs) (many q)) q l ts ts) (sym e) (record {
  reads = λ xs r a. gives (λ xs. first ∷ xs) (many q) ts r xs a;
  fails = λ r a. gives_not (λ xs. first ∷ xs) (many q) ts r a;
})

-- where it begins with none
pub list_empty : {A : Type 0} → (q : P A) (ts : List Token) (list : List A) → list ≡ [] → Listed (many q) q list ts ts
list_empty q ts list e = subst (λ l. Listed (many q) q l ts ts) (sym e) (record { reads = λ xs r a. a; fails = λ r a. a })

-- ---- one more item

pub list_step : {A : Type 0} → (whole : P (List A)) (q : P A) → IsTrue (is_plain (many q)) → (ts rest r : List Token) (list longer : List A) (v : A) → Listed whole q list ts rest → Reads units q rest v r → longer ≡ list ++ v ∷ [] → Listed whole q longer ts r
list_step whole q g ts rest r list longer v s a e =
    once_more units ahead fit whole q (λ xs. list ++ xs) (λ xs. longer ++ xs) (good (many q) g) ts rest r v s a (λ xs. sym (ap (λ l. l ++ xs) e ∙ append_assoc list (v ∷ []) xs))

pub next_reads : {A : Type 0} → (p : P A) → IsTrue (is_plain (seq (token (k.Comma ∷ [])) p)) → (ts us r : List Token) (x : Token) (v : A) → Took (k.Comma ∷ []) ts x us → Reads units p us v r → Reads units (next p) ts v r
next_reads p g ts us r x v h a = after (token (k.Comma ∷ [])) p g ts us r x v (ate (k.Comma ∷ []) ts us x h) a

pub next_fails : {A : Type 0} → (p : P A) → IsTrue (is_plain (seq (token (k.Comma ∷ [])) p)) → (ts us r : List Token) (x : Token) → Took (k.Comma ∷ []) ts x us → Fails units p us r → Fails units (next p) ts r
next_fails p g ts us r x h a = after_fails (token (k.Comma ∷ [])) p g ts us r x (ate (k.Comma ∷ []) ts us x h) a

-- ---- the end

-- where none goes on
pub list_end : {A : Type 0} → (whole : P (List A)) (q : P A) → IsTrue (is_plain (many q)) → (ts rest : List Token) (list : List A) → Listed whole q list ts rest → Avoids units (first_of units ahead q) rest → Reads units whole ts list rest
list_end whole q g ts rest list s h = subst (λ l. Reads units whole ts l rest) (append-nil list) (ended_here units ahead fit whole q (λ xs. list ++ xs) (good (many q) g) ts rest s h)

-- where no comma stands
pub list_ends : {A : Type 0} → (whole : P (List A)) (p : P A) → IsTrue (is_plain (many (next p))) → (ts rest us : List Token) (list : List A) → Listed whole (next p) list ts rest → Eats (k.Comma ∷ []) rest None us → Reads units whole ts list us
list_ends whole p g ts rest us list s h = subst (λ w. Reads units whole ts list w) (sym h.0) (list_end whole (next p) g ts rest list s h.1)

-- where an item fails behind its comma
pub list_fails : {A : Type 0} → (whole : P (List A)) (q : P A) → IsTrue (is_plain (many q)) → (ts rest us r : List Token) (list : List A) (x : Token) → Listed whole q list ts rest → Took (k.Comma ∷ []) rest x us → length r ≤ length us → Fails units q rest r → Fails units whole ts r
list_fails whole q g ts rest us r list x s h n a = failed_inside units ahead fit whole q (λ xs. list ++ xs) (good (many q) g) ts rest r (taken_shorter (k.Comma ∷ []) rest us r x h n) s a
