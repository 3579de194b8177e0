-- The exits of each reader of statements, over plain lists of tokens.
use Rattle.std.proofs.Common.{◌≡◌, ℕ, zero, suc, ◌<◌, ◌≤◌, ◌+◌, false, IsTrue, List, [], ◌∷◌, ◌++◌, inl, inr, map, length, refl, ap, sym, ◌∙◌, subst, arith, Option, Some, None}
use Rattle.std.proofs.lemmas.List.{length-append}
use Rattle.mm_grammar.specs.Grammar.{name, seq, alt, many, opt, Spells, RuleSpells, RuleFront, Reads, Fails}
use Rattle.mm_grammar.specs.Ahead.{Good, first_of, disjoint}
use Rattle.mm_grammar.proofs.Laws.{spell_empty}
use Rattle.mm_grammar.proofs.Closed.{lawful}
use Rattle.mm_grammar.proofs.Reading.{seq_ok, seq_fail_first, seq_fail_second}
use Rattle.mm_grammar.proofs.Loops.{opt_none}
use Rattle.mm_grammar.proofs.Here.{fail_here, opt_then_fail}
use Rattle.mm_grammar.proofs.Tails.{tailed_none, tailed_fail_first, tailed_some, tailed_fail_tail}
use Rattle.mm_token.specs.declared.token.Token.{Token}
use Rattle.mm_syntax.specs.declared.symbol.Symbol.{Symbol}
use Rattle.mm_syntax.specs.declared.symbol.Symbol.TheVariants as k
use Rattle.mm_syntax.specs.declared.part.Begun.{Begun}
use Rattle.mm_syntax.specs.declared.stmt.ForStart.{ForStart}
use Rattle.mm_syntax.specs.declared.stmt.Stmt.{Stmt}
use Rattle.mm_syntax.specs.declared.stmt.StmtKind.TheVariants as s
use Rattle.mm_syntax.specs.Symbols.{number_of}
use Rattle.mm_syntax.specs.BuiltStatements as bs
use Rattle.mm_syntax.specs.Rules.{P, units, token, rule_of, stmt, block, expr, enclosed, branches, otherwise, maybe_expr, for_start, empty_stmt, simple_stmt, if_stmt, while_stmt, do_stmt, for_stmt, break_stmt, continue_stmt, return_stmt, ◌◂◌}
use Rattle.mm_syntax.proofs.Claims.{ahead}
use Rattle.mm_syntax.proofs.Fitting.{fit}
use Rattle.mm_cursor.specs.Cursor.{Eats}
use Rattle.mm_cursor.proofs.Steps.{Took, is_plain, good, ok_is, ate, other, taken_shorter, pair, first_fails, second_fails, gives, gives_not, named, named_not, after, after_fails, before, before_fails, before_then_fails, some, first_reads, first_one_fails, second_reads, second_one_fails}
use Rattle.mm_parse_expr.specs.Parts.{closing}
use Rattle.mm_cursor.proofs.Lists.{Listed, list_step, list_end}
use Rattle.mm_cursor.proofs.Closing.{closed_fails}
use Rattle.mm_parse_stmt.specs.declared.build.ForHead.{ForHead}
use Rattle.mm_parse_stmt.specs.Parts.{Closes, block_end, if_end, while_end, until, do_end, for_open, for_end, plain, head_of, repeated}
use Rattle.mm_parse_stmt.proofs.Else.{closed_before}
use Rattle.mm_parse_stmt.proofs.Order.{from_for, from_do, from_while, from_if, sorted_reads, sorted_fails, good_if, good_block, now_reads, now_fails, later_reads, later_fails, word_reads, word_fails}

abbrev t : Symbol → P Token
t symbol = token (symbol ∷ [])

abbrev pub st : ℕ → P Stmt
st n = name (stmt n)

-- a statement that was read took a token
pub stmt_shorter : (n : ℕ) (ts r : List Token) (v : Stmt) → Reads units (st n) ts v r → length r < length ts
stmt_shorter n ts r v a = go a.used a.cut refl
  where
    go : (u : List Token) → ts ≡ u ++ r → a.used ≡ u → length r < length ts
    go [] cut same = absurd (let e : IsTrue false = spell_empty units ahead (RuleSpells units) (RuleFront units) (lawful units ahead fit) (st n) v (subst (λ w. Spells units (st n) w v) same a.spelled) in cc)
    go (x ∷ u) cut same = let e : length ts ≡ length (x ∷ u) + length r = ap length cut ∙ length-append (x ∷ u) r in omega arith

-- ---- block

pub block_no_brace : (n : ℕ) (ts r : List Token) → Fails units (t k.OpenBrace) ts r → Fails units (name (block n)) ts r
block_no_brace n ts r a = named_not (block n) ts r (gives_not (λ v. bs.block v.0 v.1) _ ts r (first_fails (t k.OpenBrace) (many (st n) ◂ t k.CloseBrace) refl ts r a))

pub block_reads : (n : ℕ) (ts us r : List Token) (x : Token) (v : Stmt) → Reads units (t k.OpenBrace) ts x us → Reads units (block_end x n) us v r → Reads units (name (block n)) ts v r
block_reads n ts us r x v h a = named (block n) ts r v (word_reads (k.OpenBrace ∷ []) (λ v. bs.block v.0 v.1) (many (st n) ◂ t k.CloseBrace) (good (seq (t k.OpenBrace) (many (st n) ◂ t k.CloseBrace)) refl) ts us r x v h a)

pub block_fails : (n : ℕ) (ts us r : List Token) (x : Token) → Reads units (t k.OpenBrace) ts x us → Fails units (block_end x n) us r → Fails units (name (block n)) ts r
block_fails n ts us r x h a = named_not (block n) ts r (word_fails (k.OpenBrace ∷ []) (λ v. bs.block v.0 v.1) (many (st n) ◂ t k.CloseBrace) (good (seq (t k.OpenBrace) (many (st n) ◂ t k.CloseBrace)) refl) ts us r x h a)

-- ---- what follows its brace

abbrev pub StmtsSoFar : ℕ → List Stmt → List Token → List Token → Type 0
StmtsSoFar n list ts rest = Listed (many (st n)) (st n) list ts rest

pub stmts_step : (n : ℕ) (ts rest us r : List Token) (list next : List Stmt) (v : Stmt) → StmtsSoFar n list ts rest → Eats (k.CloseBrace ∷ []) rest None us → Reads units (st n) us v r → next ≡ list ++ v ∷ [] → StmtsSoFar n next ts r
stmts_step n ts rest us r list next v so h a e = list_step (many (st n)) (st n) refl ts rest r list next v so (subst (λ w. Reads units (st n) w v r) h.0 a) e

pub stmts_end : (brace : Token) (n : ℕ) (ts rest r : List Token) (list : List Stmt) (x : Token) (v : Stmt) → StmtsSoFar n list ts rest → Took (k.CloseBrace ∷ []) rest x r → v ≡ bs.block brace list → Reads units (block_end brace n) ts v r
stmts_end brace n ts rest r list x v so h e =
    ok_is (block_end brace n) ts r v (bs.block brace list) e
    (gives (λ l. bs.block brace l) (many (st n) ◂ t k.CloseBrace) ts r list
    (before (many (st n)) (t k.CloseBrace) refl ts rest r list x
    (list_end (many (st n)) (st n) refl ts rest list so (other (k.CloseBrace ∷ []) (first_of units ahead (st n)) refl rest r x h))
    (ate (k.CloseBrace ∷ []) rest r x h)))

pub stmts_fail : (brace : Token) (n : ℕ) (ts rest us r : List Token) (list : List Stmt) → StmtsSoFar n list ts rest → Eats (k.CloseBrace ∷ []) rest None us → Fails units (st n) us r → Fails units (block_end brace n) ts r
stmts_fail brace n ts rest us r list so h f = gives_not (λ l. bs.block brace l) (many (st n) ◂ t k.CloseBrace) ts r (closed_fails (st n) (k.CloseBrace ∷ []) refl refl ts rest us r list so h f)

-- ---- ( expr )

pub enclosed_no_open : (ts r : List Token) → Fails units (t k.Open) ts r → Fails units enclosed ts r
enclosed_no_open ts r a = gives_not (λ v. v.1) _ ts r (first_fails (t k.Open) closing refl ts r a)

pub enclosed_reads : (ts r1 r : List Token) (x : Token) (v : Begun) → Reads units (t k.Open) ts x r1 → Reads units closing r1 v r → Reads units enclosed ts v r
enclosed_reads ts r1 r x v a c = after (t k.Open) closing refl ts r1 r x v a c

pub enclosed_fails : (ts r1 r : List Token) (x : Token) → Reads units (t k.Open) ts x r1 → Fails units closing r1 r → Fails units enclosed ts r
enclosed_fails ts r1 r x a c = after_fails (t k.Open) closing refl ts r1 r x a c

-- ---- while ( expr ) ;

abbrev condition_then : P Begun
condition_then = enclosed ◂ t k.Semicolon

pub until_no_word : (ts r : List Token) → Fails units (t k.While) ts r → Fails units until ts r
until_no_word ts r a = gives_not (λ v. v.1) _ ts r (first_fails (t k.While) condition_then refl ts r a)

pub until_no_condition : (ts r1 r : List Token) (x : Token) → Reads units (t k.While) ts x r1 → Fails units enclosed r1 r → Fails units until ts r
until_no_condition ts r1 r x a c = after_fails (t k.While) condition_then refl ts r1 r x a (before_fails enclosed (t k.Semicolon) refl r1 r c)

pub until_no_mark : (ts r1 r2 r : List Token) (x : Token) (v : Begun) → Reads units (t k.While) ts x r1 → Reads units enclosed r1 v r2 → Fails units (t k.Semicolon) r2 r → Fails units until ts r
until_no_mark ts r1 r2 r x v a c d = after_fails (t k.While) condition_then refl ts r1 r x a (before_then_fails enclosed (t k.Semicolon) refl r1 r2 r v c d)

pub until_reads : (ts r1 r2 r : List Token) (x y : Token) (v : Begun) → Reads units (t k.While) ts x r1 → Reads units enclosed r1 v r2 → Reads units (t k.Semicolon) r2 y r → Reads units until ts v r
until_reads ts r1 r2 r x y v a c d = after (t k.While) condition_then refl ts r1 r x v a (before enclosed (t k.Semicolon) refl r1 r2 r v y c d)

-- ---- the start of `for`

pub open_no_mark : (ts r : List Token) → Fails units (t k.Open) ts r → Fails units for_open ts r
open_no_mark ts r a = gives_not (λ v. v.1) _ ts r (first_fails (t k.Open) for_start refl ts r a)

pub open_reads : (ts r1 r : List Token) (x : Token) (v : ForStart) → Reads units (t k.Open) ts x r1 → Reads units for_start r1 v r → Reads units for_open ts v r
open_reads ts r1 r x v a c = after (t k.Open) for_start refl ts r1 r x v a c

pub open_fails : (ts r1 r : List Token) (x : Token) → Reads units (t k.Open) ts x r1 → Fails units for_start r1 r → Fails units for_open ts r
open_fails ts r1 r x a c = after_fails (t k.Open) for_start refl ts r1 r x a c

-- ---- expr? and a mark

of_close : (mark : Symbol) → Closes mark → (Q : Symbol → Type 0) → Q k.Semicolon → Q k.Close → Q mark
of_close mark h Q a c = elim h [ inl e ↦ subst Q (sym e) a | inr e ↦ subst Q (sym e) c ]

maybe_good : (mark : Symbol) → Closes mark → IsTrue (is_plain (seq (opt (name expr)) (t mark)))
maybe_good mark h = of_close mark h (λ x. IsTrue (is_plain (seq (opt (name expr)) (t x)))) refl refl

maybe_apart : (mark : Symbol) → Closes mark → IsTrue (disjoint (map number_of (mark ∷ [])) (first_of units ahead (name expr)))
maybe_apart mark h = of_close mark h (λ x. IsTrue (disjoint (map number_of (x ∷ [])) (first_of units ahead (name expr)))) refl refl

pub maybe_empty : (mark : Symbol) → Closes mark → (ts r : List Token) (x : Token) → Took (mark ∷ []) ts x r → Reads units (maybe_expr mark) ts None r
maybe_empty mark c ts r x h =
    before (opt (name expr)) (t mark) (maybe_good mark c) ts ts r None x
    (opt_none units ahead fit (name expr) (good (opt (name expr)) refl) ts (other (mark ∷ []) (first_of units ahead (name expr)) (maybe_apart mark c) ts r x h)) (ate (mark ∷ []) ts r x h)

pub maybe_fails : (mark : Symbol) → Closes mark → (ts us r : List Token) → Eats (mark ∷ []) ts None us → Fails units (name expr) us r → Fails units (maybe_expr mark) ts r
maybe_fails mark c ts us r h a =
    gives_not (λ v. v.0) (seq (opt (name expr)) (t mark)) ts r
    (opt_then_fail units ahead fit (name expr) (t mark) (good (seq (opt (name expr)) (t mark)) (maybe_good mark c)) (good (t mark) refl) refl ts r h.1 (subst (λ w. Fails units (name expr) w r) h.0 a))

maybe_value : (ts us r : List Token) (v : Begun) → us ≡ ts → Reads units (name expr) us v r → Reads units (opt (name expr)) ts (Some v) r
maybe_value ts us r v e a = some (name expr) refl refl ts r v (subst (λ w. Reads units (name expr) w v r) e a)

pub maybe_unclosed : (mark : Symbol) → Closes mark → (ts us r1 r : List Token) (v : Begun) → Eats (mark ∷ []) ts None us → Reads units (name expr) us v r1 → Fails units (t mark) r1 r → Fails units (maybe_expr mark) ts r
maybe_unclosed mark c ts us r1 r v h a d = before_then_fails (opt (name expr)) (t mark) (maybe_good mark c) ts r1 r (Some v) (maybe_value ts us r1 v h.0 a) d

pub maybe_reads : (mark : Symbol) → Closes mark → (ts us r1 r : List Token) (v : Begun) (x : Token) → Eats (mark ∷ []) ts None us → Reads units (name expr) us v r1 → Reads units (t mark) r1 x r → Reads units (maybe_expr mark) ts (Some v) r
maybe_reads mark c ts us r1 r v x h a d = before (opt (name expr)) (t mark) (maybe_good mark c) ts r1 r (Some v) x (maybe_value ts us r1 v h.0 a) d

-- ---- if

good_if_body : (n : ℕ) → Good units ahead (seq enclosed (branches n))
good_if_body n = (refl, (good_if n).1.0.1)

good_branches : (n : ℕ) → Good units ahead (branches n)
good_branches n = (refl, (good_if n).1.0.1.1)

abbrev of_if : Token → Begun × (Stmt × Option Stmt) → Stmt
of_if word v = bs.branched word v.0 v.1.0 v.1.1

pub if_no_condition : (word : Token) (n : ℕ) (ts r : List Token) → Fails units enclosed ts r → Fails units (if_end word n) ts r
if_no_condition word n ts r a = gives_not (of_if word) (seq enclosed (branches n)) ts r (seq_fail_first units ahead fit enclosed (branches n) (good_if_body n) ts r a)

branches_fail : (word : Token) (n : ℕ) (ts r1 r : List Token) (c : Begun) → Reads units enclosed ts c r1 → Fails units (branches n) r1 r → Fails units (if_end word n) ts r
branches_fail word n ts r1 r c a d = gives_not (of_if word) (seq enclosed (branches n)) ts r (seq_fail_second units ahead fit enclosed (branches n) (good_if_body n) ts r1 r c a d)

branches_read : (word : Token) (n : ℕ) (ts r1 r : List Token) (c : Begun) (w : Stmt × Option Stmt) (v : Stmt) → Reads units enclosed ts c r1 → Reads units (branches n) r1 w r → v ≡ bs.branched word c w.0 w.1 → Reads units (if_end word n) ts v r
branches_read word n ts r1 r c w v a d e =
    ok_is (if_end word n) ts r v (bs.branched word c w.0 w.1) e (gives (of_if word) (seq enclosed (branches n)) ts r (c, w) (seq_ok units ahead fit enclosed (branches n) (good_if_body n) ts r1 r c w a d))

pub if_no_body : (word : Token) (n : ℕ) (ts r1 r : List Token) (c : Begun) → Reads units enclosed ts c r1 → Fails units (st n) r1 r → Fails units (if_end word n) ts r
if_no_body word n ts r1 r c a d = branches_fail word n ts r1 r c a (tailed_fail_first units ahead fit (st n) bs.is_closed (otherwise n) (good_branches n) r1 r d)

pub if_alone : (word : Token) (n : ℕ) (ts r1 r2 r : List Token) (c : Begun) (body v : Stmt) → Reads units enclosed ts c r1 → Reads units (st n) r1 body r2 → Eats (k.Else ∷ []) r2 None r → v ≡ bs.branched word c body None → Reads units (if_end word n) ts v r
if_alone word n ts r1 r2 r c body v a d h e =
    branches_read word n ts r1 r c (body, None) v a
    (subst (λ w. Reads units (branches n) r1 (body, None) w) (sym h.0) (tailed_none units ahead fit (st n) bs.is_closed (otherwise n) (good_branches n) r1 r2 body h.1 d)) e

pub if_no_other : (word : Token) (n : ℕ) (ts r1 r2 r3 r : List Token) (c : Begun) (body : Stmt) (x : Token) → Reads units enclosed ts c r1 → Reads units (st n) r1 body r2 → Took (k.Else ∷ []) r2 x r3 → length r ≤ length r3 → Fails units (st n) r3 r →
    Fails units (if_end word n) ts r
if_no_other word n ts r1 r2 r3 r c body x a d h m f =
    branches_fail word n ts r1 r c a
    (tailed_fail_tail units ahead fit (st n) bs.is_closed (otherwise n) (good_branches n) r1 r2 r body (closed_before n r1 r2 r3 body x d h) (taken_shorter (k.Else ∷ []) r2 r3 r x h m) d
    (after_fails (t k.Else) (st n) refl r2 r3 r x (ate (k.Else ∷ []) r2 r3 x h) f))

pub if_both : (word : Token) (n : ℕ) (ts r1 r2 r3 r : List Token) (c : Begun) (body last v : Stmt) (x : Token) → Reads units enclosed ts c r1 → Reads units (st n) r1 body r2 → Took (k.Else ∷ []) r2 x r3 → Reads units (st n) r3 last r →
    v ≡ bs.branched word c body (Some last) → Reads units (if_end word n) ts v r
if_both word n ts r1 r2 r3 r c body last v x a d h f e =
    branches_read word n ts r1 r c (body, Some last) v a
    (tailed_some units ahead fit (st n) bs.is_closed (otherwise n) (good_branches n) r1 r2 r body last (closed_before n r1 r2 r3 body x d h) d
    (after (t k.Else) (st n) refl r2 r3 r x last (ate (k.Else ∷ []) r2 r3 x h) f)) e

-- ---- while

abbrev of_while : Token → Begun × Stmt → Stmt
of_while word v = bs.looped word v.0 v.1

pub while_no_condition : (word : Token) (n : ℕ) (ts r : List Token) → Fails units enclosed ts r → Fails units (while_end word n) ts r
while_no_condition word n ts r a = gives_not (of_while word) _ ts r (first_fails enclosed (st n) refl ts r a)

pub while_no_body : (word : Token) (n : ℕ) (ts r1 r : List Token) (c : Begun) → Reads units enclosed ts c r1 → Fails units (st n) r1 r → Fails units (while_end word n) ts r
while_no_body word n ts r1 r c a d = gives_not (of_while word) _ ts r (second_fails enclosed (st n) refl ts r1 r c a d)

pub while_reads : (word : Token) (n : ℕ) (ts r1 r : List Token) (c : Begun) (body v : Stmt) → Reads units enclosed ts c r1 → Reads units (st n) r1 body r → v ≡ bs.looped word c body → Reads units (while_end word n) ts v r
while_reads word n ts r1 r c body v a d e = ok_is (while_end word n) ts r v (bs.looped word c body) e (gives (of_while word) _ ts r (c, body) (pair enclosed (st n) refl ts r1 r c body a d))

-- ---- do

abbrev of_do : Token → Stmt × Begun → Stmt
of_do word v = bs.done_while word v.0 v.1

pub do_no_body : (word : Token) (n : ℕ) (ts r : List Token) → Fails units (st n) ts r → Fails units (do_end word n) ts r
do_no_body word n ts r a = gives_not (of_do word) _ ts r (first_fails (st n) until refl ts r a)

pub do_no_condition : (word : Token) (n : ℕ) (ts r1 r : List Token) (body : Stmt) → Reads units (st n) ts body r1 → Fails units until r1 r → Fails units (do_end word n) ts r
do_no_condition word n ts r1 r body a d = gives_not (of_do word) _ ts r (second_fails (st n) until refl ts r1 r body a d)

pub do_reads : (word : Token) (n : ℕ) (ts r1 r : List Token) (body v : Stmt) (c : Begun) → Reads units (st n) ts body r1 → Reads units until r1 c r → v ≡ bs.done_while word body c → Reads units (do_end word n) ts v r
do_reads word n ts r1 r body v c a d e = ok_is (do_end word n) ts r v (bs.done_while word body c) e (gives (of_do word) _ ts r (body, c) (pair (st n) until refl ts r1 r body c a d))

-- ---- for

abbrev step_then : ℕ → P (Option Begun × Stmt)
step_then n = seq (maybe_expr k.Close) (st n)

abbrev condition_and : ℕ → P (Option Begun × (Option Begun × Stmt))
condition_and n = seq (maybe_expr k.Semicolon) (step_then n)

abbrev of_for : Token → ForStart × (Option Begun × (Option Begun × Stmt)) → Stmt
of_for word v = bs.repeated word v.0 v.1.0 v.1.1.0 v.1.1.1

pub for_no_start : (word : Token) (n : ℕ) (ts r : List Token) → Fails units for_open ts r → Fails units (for_end word n) ts r
for_no_start word n ts r a = gives_not (of_for word) _ ts r (first_fails for_open (condition_and n) refl ts r a)

for_after_start : (word : Token) (n : ℕ) (ts r1 r : List Token) (first : ForStart) → Reads units for_open ts first r1 → Fails units (condition_and n) r1 r → Fails units (for_end word n) ts r
for_after_start word n ts r1 r first a d = gives_not (of_for word) _ ts r (second_fails for_open (condition_and n) refl ts r1 r first a d)

pub for_no_condition : (word : Token) (n : ℕ) (ts r1 r : List Token) (first : ForStart) → Reads units for_open ts first r1 → Fails units (maybe_expr k.Semicolon) r1 r → Fails units (for_end word n) ts r
for_no_condition word n ts r1 r first a d = for_after_start word n ts r1 r first a (first_fails (maybe_expr k.Semicolon) (step_then n) refl r1 r d)

pub for_no_step : (word : Token) (n : ℕ) (ts r1 r2 r : List Token) (first : ForStart) (c : Option Begun) → Reads units for_open ts first r1 → Reads units (maybe_expr k.Semicolon) r1 c r2 → Fails units (maybe_expr k.Close) r2 r → Fails units (for_end word n) ts r
for_no_step word n ts r1 r2 r first c a d f = for_after_start word n ts r1 r first a (second_fails (maybe_expr k.Semicolon) (step_then n) refl r1 r2 r c d (first_fails (maybe_expr k.Close) (st n) refl r2 r f))

pub for_no_body : (word : Token) (n : ℕ) (ts r1 r2 r3 r : List Token) (first : ForStart) (c step : Option Begun) → Reads units for_open ts first r1 → Reads units (maybe_expr k.Semicolon) r1 c r2 → Reads units (maybe_expr k.Close) r2 step r3 → Fails units (st n) r3 r →
    Fails units (for_end word n) ts r
for_no_body word n ts r1 r2 r3 r first c step a d f g =
    for_after_start word n ts r1 r first a (second_fails (maybe_expr k.Semicolon) (step_then n) refl r1 r2 r c d (second_fails (maybe_expr k.Close) (st n) refl r2 r3 r step f g))

pub for_reads : (word : Token) (n : ℕ) (ts r1 r2 r3 r : List Token) (first : ForStart) (c step : Option Begun) (head : ForHead) (body v : Stmt) → Reads units for_open ts first r1 → Reads units (maybe_expr k.Semicolon) r1 c r2 → Reads units (maybe_expr k.Close) r2 step r3 →
    head ≡ head_of first c step → Reads units (st n) r3 body r → v ≡ repeated word head body → Reads units (for_end word n) ts v r
for_reads word n ts r1 r2 r3 r first c step head body v a d f e g i =
    ok_is (for_end word n) ts r v (bs.repeated word first c step body) (i ∙ ap (λ h. repeated word h body) e)
    (gives (of_for word) _ ts r (first, (c, (step, body))) (pair for_open (condition_and n) refl ts r1 r first (c, (step, body)) a
    (pair (maybe_expr k.Semicolon) (step_then n) refl r1 r2 r c (step, body) d (pair (maybe_expr k.Close) (st n) refl r2 r3 r step body f g))))

-- ---- a statement in which no other stands

abbrev semi : List Symbol
semi = k.Semicolon ∷ []

abbrev after_break : P Stmt
after_break = alt continue_stmt (alt return_stmt simple_stmt)

abbrev after_empty : P Stmt
after_empty = alt break_stmt after_break

pub plain_empty : (ts r : List Token) (x : Token) (v : Stmt) → Took semi ts x r → v ≡ bs.statement s.Empty x.place → Reads units plain ts v r
plain_empty ts r x v h e = ok_is plain ts r v (bs.statement s.Empty x.place) e
    (first_reads empty_stmt after_empty semi refl refl ts r r x (bs.statement s.Empty x.place) h (gives (λ y. bs.statement s.Empty y.place) (token semi) ts r x (ate semi ts r x h)))

-- a word and the mark after it
break_reads : (ts us r : List Token) (x y : Token) → Took (k.Break ∷ []) ts x us → Reads units (token semi) us y r → Reads units break_stmt ts (bs.statement s.Break x.place) r
break_reads ts us r x y h a = gives (λ z. bs.statement s.Break z.place) _ ts r x (before (t k.Break) (token semi) refl ts us r x y (ate (k.Break ∷ []) ts us x h) a)

continue_reads : (ts us r : List Token) (x y : Token) → Took (k.Continue ∷ []) ts x us → Reads units (token semi) us y r → Reads units continue_stmt ts (bs.statement s.Continue x.place) r
continue_reads ts us r x y h a = gives (λ z. bs.statement s.Continue z.place) _ ts r x (before (t k.Continue) (token semi) refl ts us r x y (ate (k.Continue ∷ []) ts us x h) a)

pub plain_break : (ts us vs r : List Token) (x y : Token) (v : Stmt) → Eats semi ts None us → Took (k.Break ∷ []) us x vs → Reads units (token semi) vs y r → v ≡ bs.statement s.Break x.place → Reads units plain ts v r
plain_break ts us vs r x y v h i a e = ok_is plain ts r v (bs.statement s.Break x.place) e
    (second_reads empty_stmt after_empty semi refl refl ts us r (bs.statement s.Break x.place) h
    (first_reads break_stmt after_break (k.Break ∷ []) refl refl us vs r x (bs.statement s.Break x.place) i (break_reads us vs r x y i a)))

pub plain_no_break : (ts us vs r : List Token) (x : Token) → Eats semi ts None us → Took (k.Break ∷ []) us x vs → length r ≤ length vs → Fails units (token semi) vs r → Fails units plain ts r
plain_no_break ts us vs r x h i n a =
    second_one_fails empty_stmt after_empty semi refl refl refl ts us r h
    (first_one_fails break_stmt after_break (k.Break ∷ []) refl refl us vs r x i n
    (gives_not (λ z. bs.statement s.Break z.place) _ us r (before_then_fails (t k.Break) (token semi) refl us vs r x (ate (k.Break ∷ []) us vs x i) a)))

abbrev after_continue : P Stmt
after_continue = alt return_stmt simple_stmt

pub plain_continue : (ts us vs ws r : List Token) (x y : Token) (v : Stmt) → Eats semi ts None us → Eats (k.Break ∷ []) us None vs → Took (k.Continue ∷ []) vs x ws → Reads units (token semi) ws y r → v ≡ bs.statement s.Continue x.place → Reads units plain ts v r
plain_continue ts us vs ws r x y v h i j a e = ok_is plain ts r v (bs.statement s.Continue x.place) e
    (second_reads empty_stmt after_empty semi refl refl ts us r (bs.statement s.Continue x.place) h
    (second_reads break_stmt after_break (k.Break ∷ []) refl refl us vs r (bs.statement s.Continue x.place) i
    (first_reads continue_stmt after_continue (k.Continue ∷ []) refl refl vs ws r x (bs.statement s.Continue x.place) j (continue_reads vs ws r x y j a))))

pub plain_no_continue : (ts us vs ws r : List Token) (x : Token) → Eats semi ts None us → Eats (k.Break ∷ []) us None vs → Took (k.Continue ∷ []) vs x ws → length r ≤ length ws → Fails units (token semi) ws r → Fails units plain ts r
plain_no_continue ts us vs ws r x h i j n a =
    second_one_fails empty_stmt after_empty semi refl refl refl ts us r h
    (second_one_fails break_stmt after_break (k.Break ∷ []) refl refl refl us vs r i
    (first_one_fails continue_stmt after_continue (k.Continue ∷ []) refl refl vs ws r x j n
    (gives_not (λ z. bs.statement s.Continue z.place) _ vs r (before_then_fails (t k.Continue) (token semi) refl vs ws r x (ate (k.Continue ∷ []) vs ws x j) a))))

-- none of the three before `return` stands there
module _ (ts us vs ws : List Token) (h : Eats semi ts None us) (i : Eats (k.Break ∷ []) us None vs) (j : Eats (k.Continue ∷ []) vs None ws) where
  last_reads : (r : List Token) (v : Stmt) → Reads units after_continue ws v r → Reads units plain ts v r
  last_reads r v a =
      second_reads empty_stmt after_empty semi refl refl ts us r v h
      (second_reads break_stmt after_break (k.Break ∷ []) refl refl us vs r v i
      (second_reads continue_stmt after_continue (k.Continue ∷ []) refl refl vs ws r v j a))

  last_fails : (r : List Token) → Fails units after_continue ws r → Fails units plain ts r
  last_fails r a =
      second_one_fails empty_stmt after_empty semi refl refl refl ts us r h
      (second_one_fails break_stmt after_break (k.Break ∷ []) refl refl refl us vs r i
      (second_one_fails continue_stmt after_continue (k.Continue ∷ []) refl refl refl vs ws r j a))

  pub plain_return : (xs r : List Token) (x : Token) (value : Option Begun) (v : Stmt) → Took (k.Return ∷ []) ws x xs → Reads units (maybe_expr k.Semicolon) xs value r → v ≡ bs.returned x value → Reads units plain ts v r
  plain_return xs r x value v m a e = ok_is plain ts r v (bs.returned x value) e
      (last_reads r (bs.returned x value) (first_reads return_stmt simple_stmt (k.Return ∷ []) refl refl ws xs r x (bs.returned x value) m
      (gives (λ z. bs.returned z.0 z.1) _ ws r (x, value) (pair (t k.Return) (maybe_expr k.Semicolon) refl ws xs r x value (ate (k.Return ∷ []) ws xs x m) a))))

  pub plain_no_return : (xs r : List Token) (x : Token) → Took (k.Return ∷ []) ws x xs → length r ≤ length xs → Fails units (maybe_expr k.Semicolon) xs r → Fails units plain ts r
  plain_no_return xs r x m n a =
      last_fails r (first_one_fails return_stmt simple_stmt (k.Return ∷ []) refl refl ws xs r x m n
      (gives_not (λ z. bs.returned z.0 z.1) _ ws r (second_fails (t k.Return) (maybe_expr k.Semicolon) refl ws xs r x (ate (k.Return ∷ []) ws xs x m) a)))

  pub plain_simple : (xs r : List Token) (v : Stmt) → Eats (k.Return ∷ []) ws None xs → Reads units simple_stmt xs v r → Reads units plain ts v r
  plain_simple xs r v m a = last_reads r v (second_reads return_stmt simple_stmt (k.Return ∷ []) refl refl ws xs r v m a)

  pub plain_no_simple : (xs r : List Token) → Eats (k.Return ∷ []) ws None xs → Fails units simple_stmt xs r → Fails units plain ts r
  plain_no_simple xs r m a = last_fails r (second_one_fails return_stmt simple_stmt (k.Return ∷ []) refl refl refl ws xs r m a)

-- ---- stmt

pub none_left : (m : ℕ) → m ≡ zero → (ts : List Token) → Fails units (st m) ts ts
none_left m e ts = subst (λ x. Fails units (st x) ts ts) (sym e) (named_not (stmt zero) ts ts (fail_here units ahead fit (rule_of (stmt zero)) (good (rule_of (stmt zero)) refl) refl ts (λ x r i j. absurd (cc))))

-- m statements, where n is one less
module _ (m n : ℕ) (one_less : suc n ≡ m) (ts : List Token) where
  pub stmt_block : (us r : List Token) (x : Token) (v : Stmt) → Took (k.OpenBrace ∷ []) ts x us → Reads units (block_end x n) us v r → Reads units (st m) ts v r
  stmt_block us r x v h a = sorted_reads m n one_less ts r v (now_reads (name (block n)) (from_if n) (k.OpenBrace ∷ []) (good_block n) refl ts us r x v h (block_reads n ts us r x v (ate (k.OpenBrace ∷ []) ts us x h) a))

  pub stmt_no_block : (us r : List Token) (x : Token) → Took (k.OpenBrace ∷ []) ts x us → length r ≤ length us → Fails units (block_end x n) us r → Fails units (st m) ts r
  stmt_no_block us r x h l a = sorted_fails m n one_less ts r (now_fails (name (block n)) (from_if n) (k.OpenBrace ∷ []) (good_block n) refl ts us r x h l (block_fails n ts us r x (ate (k.OpenBrace ∷ []) ts us x h) a))

  -- no brace stands there
  module _ (us : List Token) (h : Eats (k.OpenBrace ∷ []) ts None us) where
    no_brace : (r : List Token) (v : Stmt) → Reads units (from_if n) us v r → Reads units (st m) ts v r
    no_brace r v a = sorted_reads m n one_less ts r v (later_reads (name (block n)) (from_if n) (k.OpenBrace ∷ []) (good_block n) refl ts us r v h a)

    no_brace_fails : (r : List Token) → Fails units (from_if n) us r → Fails units (st m) ts r
    no_brace_fails r a = sorted_fails m n one_less ts r (later_fails (name (block n)) (from_if n) (k.OpenBrace ∷ []) (good_block n) refl refl ts us r h a)

    good_seq_if : Good units ahead (seq (t k.If) (seq enclosed (branches n)))
    good_seq_if = (refl, (good_if n).1.0)

    pub stmt_if : (vs r : List Token) (x : Token) (v : Stmt) → Took (k.If ∷ []) us x vs → Reads units (if_end x n) vs v r → Reads units (st m) ts v r
    stmt_if vs r x v i a = no_brace r v (now_reads (if_stmt n) (from_while n) (k.If ∷ []) (good_if n) refl us vs r x v i
        (word_reads (k.If ∷ []) (λ w. bs.branched w.0 w.1.0 w.1.1.0 w.1.1.1) (seq enclosed (branches n)) good_seq_if us vs r x v (ate (k.If ∷ []) us vs x i) a))

    pub stmt_no_if : (vs r : List Token) (x : Token) → Took (k.If ∷ []) us x vs → length r ≤ length vs → Fails units (if_end x n) vs r → Fails units (st m) ts r
    stmt_no_if vs r x i l a = no_brace_fails r (now_fails (if_stmt n) (from_while n) (k.If ∷ []) (good_if n) refl us vs r x i l
        (word_fails (k.If ∷ []) (λ w. bs.branched w.0 w.1.0 w.1.1.0 w.1.1.1) (seq enclosed (branches n)) good_seq_if us vs r x (ate (k.If ∷ []) us vs x i) a))

    -- nor `if`
    module _ (vs : List Token) (i : Eats (k.If ∷ []) us None vs) where
      no_if : (r : List Token) (v : Stmt) → Reads units (from_while n) vs v r → Reads units (st m) ts v r
      no_if r v a = no_brace r v (later_reads (if_stmt n) (from_while n) (k.If ∷ []) (good_if n) refl us vs r v i a)

      no_if_fails : (r : List Token) → Fails units (from_while n) vs r → Fails units (st m) ts r
      no_if_fails r a = no_brace_fails r (later_fails (if_stmt n) (from_while n) (k.If ∷ []) (good_if n) refl refl us vs r i a)

      pub stmt_while : (ws r : List Token) (x : Token) (v : Stmt) → Took (k.While ∷ []) vs x ws → Reads units (while_end x n) ws v r → Reads units (st m) ts v r
      stmt_while ws r x v j a = no_if r v (first_reads (while_stmt n) (from_do n) (k.While ∷ []) refl refl vs ws r x v j
          (word_reads (k.While ∷ []) (λ w. bs.looped w.0 w.1.0 w.1.1) (seq enclosed (st n)) (good (seq (t k.While) (seq enclosed (st n))) refl) vs ws r x v (ate (k.While ∷ []) vs ws x j) a))

      pub stmt_no_while : (ws r : List Token) (x : Token) → Took (k.While ∷ []) vs x ws → length r ≤ length ws → Fails units (while_end x n) ws r → Fails units (st m) ts r
      stmt_no_while ws r x j l a = no_if_fails r (first_one_fails (while_stmt n) (from_do n) (k.While ∷ []) refl refl vs ws r x j l
          (word_fails (k.While ∷ []) (λ w. bs.looped w.0 w.1.0 w.1.1) (seq enclosed (st n)) (good (seq (t k.While) (seq enclosed (st n))) refl) vs ws r x (ate (k.While ∷ []) vs ws x j) a))

      -- nor `while`
      module _ (ws : List Token) (j : Eats (k.While ∷ []) vs None ws) where
        no_while : (r : List Token) (v : Stmt) → Reads units (from_do n) ws v r → Reads units (st m) ts v r
        no_while r v a = no_if r v (second_reads (while_stmt n) (from_do n) (k.While ∷ []) refl refl vs ws r v j a)

        no_while_fails : (r : List Token) → Fails units (from_do n) ws r → Fails units (st m) ts r
        no_while_fails r a = no_if_fails r (second_one_fails (while_stmt n) (from_do n) (k.While ∷ []) refl refl refl vs ws r j a)

        pub stmt_do : (xs r : List Token) (x : Token) (v : Stmt) → Took (k.Do ∷ []) ws x xs → Reads units (do_end x n) xs v r → Reads units (st m) ts v r
        stmt_do xs r x v q a = no_while r v (first_reads (do_stmt n) (from_for n) (k.Do ∷ []) refl refl ws xs r x v q
            (word_reads (k.Do ∷ []) (λ w. bs.done_while w.0 w.1.0 w.1.1) (seq (st n) until) (good (seq (t k.Do) (seq (st n) until)) refl) ws xs r x v (ate (k.Do ∷ []) ws xs x q) a))

        pub stmt_no_do : (xs r : List Token) (x : Token) → Took (k.Do ∷ []) ws x xs → length r ≤ length xs → Fails units (do_end x n) xs r → Fails units (st m) ts r
        stmt_no_do xs r x q l a = no_while_fails r (first_one_fails (do_stmt n) (from_for n) (k.Do ∷ []) refl refl ws xs r x q l
            (word_fails (k.Do ∷ []) (λ w. bs.done_while w.0 w.1.0 w.1.1) (seq (st n) until) (good (seq (t k.Do) (seq (st n) until)) refl) ws xs r x (ate (k.Do ∷ []) ws xs x q) a))

        -- nor `do`
        module _ (xs : List Token) (q : Eats (k.Do ∷ []) ws None xs) where
          no_do : (r : List Token) (v : Stmt) → Reads units (from_for n) xs v r → Reads units (st m) ts v r
          no_do r v a = no_while r v (second_reads (do_stmt n) (from_for n) (k.Do ∷ []) refl refl ws xs r v q a)

          no_do_fails : (r : List Token) → Fails units (from_for n) xs r → Fails units (st m) ts r
          no_do_fails r a = no_while_fails r (second_one_fails (do_stmt n) (from_for n) (k.Do ∷ []) refl refl refl ws xs r q a)

          pub stmt_for : (ys r : List Token) (x : Token) (v : Stmt) → Took (k.For ∷ []) xs x ys → Reads units (for_end x n) ys v r → Reads units (st m) ts v r
          stmt_for ys r x v o a = no_do r v (first_reads (for_stmt n) plain (k.For ∷ []) refl refl xs ys r x v o
              (word_reads (k.For ∷ []) (λ w. bs.repeated w.0 w.1.0 w.1.1.0 w.1.1.1.0 w.1.1.1.1) (seq for_open (condition_and n)) (good (seq (t k.For) (seq for_open (condition_and n))) refl) xs ys r x v (ate (k.For ∷ []) xs ys x o) a))

          pub stmt_no_for : (ys r : List Token) (x : Token) → Took (k.For ∷ []) xs x ys → length r ≤ length ys → Fails units (for_end x n) ys r → Fails units (st m) ts r
          stmt_no_for ys r x o l a = no_do_fails r (first_one_fails (for_stmt n) plain (k.For ∷ []) refl refl xs ys r x o l
              (word_fails (k.For ∷ []) (λ w. bs.repeated w.0 w.1.0 w.1.1.0 w.1.1.1.0 w.1.1.1.1) (seq for_open (condition_and n)) (good (seq (t k.For) (seq for_open (condition_and n))) refl) xs ys r x (ate (k.For ∷ []) xs ys x o) a))

          pub stmt_plain : (ys r : List Token) (v : Stmt) → Eats (k.For ∷ []) xs None ys → Reads units plain ys v r → Reads units (st m) ts v r
          stmt_plain ys r v o a = no_do r v (second_reads (for_stmt n) plain (k.For ∷ []) refl refl xs ys r v o a)

          pub stmt_no_plain : (ys r : List Token) → Eats (k.For ∷ []) xs None ys → Fails units plain ys r → Fails units (st m) ts r
          stmt_no_plain ys r o a = no_do_fails r (second_one_fails (for_stmt n) plain (k.For ∷ []) refl refl refl xs ys r o a)
