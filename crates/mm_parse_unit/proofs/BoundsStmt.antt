-- The expressions of a statement are short, it doesn't nest deeper than its rule, and it has no more variables than tokens.
use Rattle.std.proofs.Common.{◌≡◌, ℕ, zero, suc, ◌+◌, ◌≤◌, max, List, [], ◌∷◌, ◌++◌, length, map, flat_map, sum, Option, Some, None, sym, subst, arith, rules}
use Rattle.mm_base.specs.declared.place.Place.{Place}
use Rattle.mm_token.specs.declared.token.Token.{Token}
use Rattle.mm_syntax.specs.declared.symbol.Symbol.{Symbol}
use Rattle.mm_syntax.specs.declared.symbol.Symbol.TheVariants as k
use Rattle.mm_syntax.specs.declared.expr.Expr.{Expr}
use Rattle.mm_syntax.specs.declared.stmt.Stmt.{Stmt}
use Rattle.mm_syntax.specs.declared.stmt.StmtKind.{the_lemmas}
use Rattle.mm_syntax.specs.declared.stmt.StmtKind.TheVariants as s
use Rattle.mm_syntax.specs.declared.stmt.Initializer.{Initializer}
use Rattle.mm_syntax.specs.declared.stmt.Variables.{Variables}
use Rattle.mm_syntax.specs.declared.stmt.ForStart.{ForStart}
use Rattle.mm_syntax.specs.declared.part.Begun.{Begun}
use Rattle.mm_syntax.specs.BuiltStatements as bs
use Rattle.mm_syntax.specs.Limits.{exprs_of_stmt, depth_of, variables_of, variables_exprs, initializer_exprs, start_exprs, start_variables, most}
use Rattle.mm_syntax.specs.Limits.{maybe as listed_if}
use Rattle.mm_syntax.specs.Rules.{block, stmt, var, declarator, type_name, args, expr, P, rule_of, number_type, class_type, void_type, mark, initial, expr_stmt, simple_stmt, for_start, branches, maybe_expr, if_stmt, while_stmt, do_stmt, for_stmt, return_stmt}
use Rattle.mm_grammar.specs.Grammar.{many}
use Rattle.mm_parse_unit.proofs.BoundsWeights.{Free, Every, maybe_weight, MaybeGood, Short, GoodStmt, weight, Good}
use Rattle.mm_parse_unit.proofs.BoundsLists.{every_append, every_flat, every_map, every_along, sum_total, total_length}
use Rattle.mm_parse_unit.proofs.BoundsParts.{Costs, one_token, rule, both, gives, after, before, either, forked, maybe, several, less, tail}
use Rattle.mm_parse_unit.proofs.BoundsExpr.{enclosed_costs}

-- ---- types and variables

pub items_costs : {A : Type 0} {p : P A} {G : A → Type 0} → Costs p (λ v. 1) G → Costs (many p) length (Every G)
items_costs x = less (several x) (λ v. omega (arith, total_length v)) (λ v h. h)

pub void_costs : Costs void_type (λ v. 1) Free
void_costs = gives one_token (λ t. omega arith) (λ t h. tt)

pub number_costs : Costs number_type (λ v. 1) Free
number_costs = either (gives one_token (λ t. omega arith) (λ t h. tt)) (gives (both one_token (maybe one_token)) (λ t. omega arith) (λ t h. tt))

pub class_costs : Costs class_type (λ v. 1) Free
class_costs = gives one_token (λ t. omega arith) (λ t h. tt)

pub type_costs : Costs (rule_of type_name) (weight type_name) Free
type_costs = either void_costs (either number_costs class_costs)

initial_costs : Costs initial (λ v. 0) (λ v. Every Short (initializer_exprs v))
initial_costs = either
    (gives (after one_token (rule expr)) (λ w. omega arith) (λ w h. (h, tt)))
    (gives (after one_token (before (rule args) one_token)) (λ w. omega arith) (λ w h. h))

initial_good : (v : Option Initializer) → MaybeGood (λ x. Every Short (initializer_exprs x)) v → Every Short (initializer_exprs (bs.initial v))
initial_good None h = tt
initial_good (Some x) h = h

pub mark_costs : Costs mark (λ v. 1) Free
mark_costs = gives one_token (λ t. omega arith) (λ t h. tt)

pub declarator_costs : Costs (rule_of declarator) (weight declarator) (Good declarator)
declarator_costs = gives (both (maybe mark_costs) (both one_token (maybe initial_costs))) (λ w. omega arith) (λ w h. initial_good w.1.1 h.1.1)

pub var_costs : Costs (rule_of var) (weight var) (Good var)
var_costs = gives (both (rule type_name) (both (rule declarator) (before (items_costs (less (after one_token (rule declarator)) (λ w. omega arith) (λ w h. h))) one_token))) (λ w. omega arith)
    (λ w h. every_flat Short (λ x. initializer_exprs x.initializer) (w.1.0 ∷ w.1.1) h.1)

-- ---- trees

good : (n : ℕ) (x : Stmt) (xs : List Expr) (d : ℕ) → exprs_of_stmt x ≡ xs → depth_of x ≡ d → Every Short xs → d ≤ n → GoodStmt n x
good n x xs d e f h k = (subst (Every Short) (sym e) h, omega (arith, f, k))

value_good : (v : Option Begun) → MaybeGood (λ x. Short x.tree) v → Every Short (listed_if (bs.value_of v))
value_good None h = tt
value_good (Some x) h = (h, tt)

most_within : (n : ℕ) (xs : List Stmt) → Every (Good (stmt n)) xs → most (map (λ d. d + 1) (map depth_of xs)) ≤ n
most_within n [] h = omega arith
most_within n (x ∷ xs) h = let k = most_within n xs h.1 in let l = h.0.1 in omega (arith, k, l)

block_good : (n : ℕ) (brace : Token) (xs : List Stmt) → Every (Good (stmt n)) xs → GoodStmt n (bs.block brace xs)
block_good n brace xs h = good n (bs.block brace xs) (flat_map (λ x. x) (map exprs_of_stmt xs)) (most (map (λ d. d + 1) (map depth_of xs))) (search (rules, the_lemmas)) (search (rules, the_lemmas))
    (every_flat Short (λ x. x) (map exprs_of_stmt xs) (every_map (Every Short) exprs_of_stmt xs (every_along (Good (stmt n)) (λ x. Every Short (exprs_of_stmt x)) (λ x i. i.0) xs h)))
    (most_within n xs h)

block_variables : (brace : Token) (xs : List Stmt) → variables_of (bs.block brace xs) ≡ sum (map variables_of xs)
block_variables brace xs = search (rules, the_lemmas)

run_good : (n : ℕ) (v : Begun) → Short v.tree → GoodStmt n (bs.run v)
run_good n v h = good n (bs.run v) (v.tree ∷ []) 0 (search (rules, the_lemmas)) (search (rules, the_lemmas)) (h, tt) (omega arith)

run_variables : (v : Begun) → variables_of (bs.run v) ≡ 0
run_variables v = search (rules, the_lemmas)

declared_good : (n : ℕ) (v : Variables) → Every Short (variables_exprs v) → GoodStmt n (bs.declared v)
declared_good n v h = good n (bs.declared v) (variables_exprs v) 0 (search (rules, the_lemmas)) (search (rules, the_lemmas)) h (omega arith)

declared_variables : (v : Variables) → variables_of (bs.declared v) ≡ length v.names
declared_variables v = search (rules, the_lemmas)

-- the statement of so many that stands in another, with `else` before it or without
abbrev Inner : ℕ → Stmt → Type 0
Inner n x = Good (stmt n) x

branched_good : (n : ℕ) (word : Token) (c : Begun) (x : Stmt) (y : Option Stmt) → Short c.tree → Inner n x → MaybeGood (Inner n) y → GoodStmt n (bs.branched word c x y)
branched_good n word c x None h i j = good n (bs.branched word c x None) (c.tree ∷ exprs_of_stmt x) (depth_of x + 1) (search (rules, the_lemmas)) (search (rules, the_lemmas)) (h, i.0) (let l = i.1 in omega (arith, l))
branched_good n word c x (Some y) h i j = good n (bs.branched word c x (Some y)) (c.tree ∷ exprs_of_stmt x ++ exprs_of_stmt y) (max (depth_of x + 1) (depth_of y + 1)) (search (rules, the_lemmas)) (search (rules, the_lemmas))
    (h, every_append Short (exprs_of_stmt x) (exprs_of_stmt y) i.0 j.0) (let l = i.1 in let m = j.1 in omega (arith, l, m))

branched_variables : (word : Token) (c : Begun) (x : Stmt) (y : Option Stmt) → variables_of (bs.branched word c x y) ≡ variables_of x + maybe_weight variables_of y
branched_variables word c x None =
    let e : variables_of (bs.branched word c x None) ≡ variables_of x = search (rules, the_lemmas) in
    omega (arith, e)
branched_variables word c x (Some y) = search (rules, the_lemmas)

looped_good : (n : ℕ) (word : Token) (c : Begun) (x : Stmt) → Short c.tree → Inner n x → GoodStmt n (bs.looped word c x)
looped_good n word c x h i = good n (bs.looped word c x) (c.tree ∷ exprs_of_stmt x) (depth_of x + 1) (search (rules, the_lemmas)) (search (rules, the_lemmas)) (h, i.0) (let l = i.1 in omega (arith, l))

looped_variables : (word : Token) (c : Begun) (x : Stmt) → variables_of (bs.looped word c x) ≡ variables_of x
looped_variables word c x = search (rules, the_lemmas)

done_good : (n : ℕ) (word : Token) (x : Stmt) (c : Begun) → Inner n x → Short c.tree → GoodStmt n (bs.done_while word x c)
done_good n word x c i h = good n (bs.done_while word x c) (exprs_of_stmt x ++ c.tree ∷ []) (depth_of x + 1) (search (rules, the_lemmas)) (search (rules, the_lemmas)) (every_append Short (exprs_of_stmt x) (c.tree ∷ []) i.0 (h, tt)) (let l = i.1 in omega (arith, l))

done_variables : (word : Token) (x : Stmt) (c : Begun) → variables_of (bs.done_while word x c) ≡ variables_of x
done_variables word x c = search (rules, the_lemmas)

repeated_good : (n : ℕ) (word : Token) (first : ForStart) (c d : Option Begun) (x : Stmt) → Every Short (start_exprs first) → MaybeGood (λ v. Short v.tree) c → MaybeGood (λ v. Short v.tree) d → Inner n x → GoodStmt n (bs.repeated word first c d x)
repeated_good n word first c d x f h j i = good n (bs.repeated word first c d x) (start_exprs first ++ listed_if (bs.value_of c) ++ listed_if (bs.value_of d) ++ exprs_of_stmt x) (depth_of x + 1) (search (rules, the_lemmas)) (search (rules, the_lemmas))
    (every_append Short _ (exprs_of_stmt x) (every_append Short _ (listed_if (bs.value_of d)) (every_append Short (start_exprs first) (listed_if (bs.value_of c)) f (value_good c h)) (value_good d j)) i.0)
    (let l = i.1 in omega (arith, l))

repeated_variables : (word : Token) (first : ForStart) (c d : Option Begun) (x : Stmt) → variables_of (bs.repeated word first c d x) ≡ start_variables first + variables_of x
repeated_variables word first c d x = search (rules, the_lemmas)

empty_good : (n : ℕ) (p : Place) → GoodStmt n (bs.statement s.Empty p)
empty_good n p = good n (bs.statement s.Empty p) [] 0 (search (rules, the_lemmas)) (search (rules, the_lemmas)) tt (omega arith)

empty_variables : (p : Place) → variables_of (bs.statement s.Empty p) ≡ 0
empty_variables p = search (rules, the_lemmas)

break_good : (n : ℕ) (p : Place) → GoodStmt n (bs.statement s.Break p)
break_good n p = good n (bs.statement s.Break p) [] 0 (search (rules, the_lemmas)) (search (rules, the_lemmas)) tt (omega arith)

break_variables : (p : Place) → variables_of (bs.statement s.Break p) ≡ 0
break_variables p = search (rules, the_lemmas)

continue_good : (n : ℕ) (p : Place) → GoodStmt n (bs.statement s.Continue p)
continue_good n p = good n (bs.statement s.Continue p) [] 0 (search (rules, the_lemmas)) (search (rules, the_lemmas)) tt (omega arith)

continue_variables : (p : Place) → variables_of (bs.statement s.Continue p) ≡ 0
continue_variables p = search (rules, the_lemmas)

returned_good : (n : ℕ) (word : Token) (v : Option Begun) → MaybeGood (λ x. Short x.tree) v → GoodStmt n (bs.returned word v)
returned_good n word v h = good n (bs.returned word v) (listed_if (bs.value_of v)) 0 (search (rules, the_lemmas)) (search (rules, the_lemmas)) (value_good v h) (omega arith)

returned_variables : (word : Token) (v : Option Begun) → variables_of (bs.returned word v) ≡ 0
returned_variables word v = search (rules, the_lemmas)

-- ---- parts

expr_stmt_costs : Costs expr_stmt (λ v. 0) (λ v. Short v.tree)
expr_stmt_costs = less (before (rule expr) one_token) (λ w. omega arith) (λ w h. h)

maybe_expr_costs : (last : Symbol) → Costs (maybe_expr last) (λ v. 0) (MaybeGood (λ v. Short v.tree))
maybe_expr_costs last = less (before (maybe (rule expr)) one_token) (λ w. omega arith) (λ w h. h)

simple_costs : (n : ℕ) → Costs simple_stmt variables_of (GoodStmt n)
simple_costs n = forked
    (gives expr_stmt_costs (λ v. omega (arith, run_variables v)) (λ v h. run_good n v h))
    (gives (rule var) (λ v. omega (arith, declared_variables v)) (λ v h. declared_good n v h))

for_start_costs : Costs for_start start_variables (λ v. Every Short (start_exprs v))
for_start_costs = either
    (gives one_token (λ t. omega arith) (λ t h. tt))
    (forked (gives expr_stmt_costs (λ v. omega arith) (λ v h. (h, tt))) (gives (rule var) (λ v. omega arith) (λ v h. h)))

branches_costs : (n : ℕ) → Costs (branches n) (λ v. variables_of v.0 + maybe_weight variables_of v.1) (λ v. Inner n v.0 × MaybeGood (Inner n) v.1)
branches_costs n = tail (rule (stmt n)) (less (after one_token (rule (stmt n))) (λ w. omega arith) (λ w h. h))

if_costs : (n : ℕ) → Costs (if_stmt n) variables_of (GoodStmt n)
if_costs n = gives (both one_token (both enclosed_costs (branches_costs n)))
    (λ w. omega (arith, branched_variables w.0 w.1.0 w.1.1.0 w.1.1.1))
    (λ w h. branched_good n w.0 w.1.0 w.1.1.0 w.1.1.1 h.1.0 h.1.1.0 h.1.1.1)

while_costs : (n : ℕ) → Costs (while_stmt n) variables_of (GoodStmt n)
while_costs n = gives (both one_token (both enclosed_costs (rule (stmt n))))
    (λ w. omega (arith, looped_variables w.0 w.1.0 w.1.1))
    (λ w h. looped_good n w.0 w.1.0 w.1.1 h.1.0 h.1.1)

do_costs : (n : ℕ) → Costs (do_stmt n) variables_of (GoodStmt n)
do_costs n = gives (both one_token (both (rule (stmt n)) (after one_token (before enclosed_costs one_token))))
    (λ w. omega (arith, done_variables w.0 w.1.0 w.1.1))
    (λ w h. done_good n w.0 w.1.0 w.1.1 h.1.0 h.1.1)

for_costs : (n : ℕ) → Costs (for_stmt n) variables_of (GoodStmt n)
for_costs n = gives (both one_token (both (after one_token for_start_costs) (both (maybe_expr_costs k.Semicolon) (both (maybe_expr_costs k.Close) (rule (stmt n))))))
    (λ w. omega (arith, repeated_variables w.0 w.1.0 w.1.1.0 w.1.1.1.0 w.1.1.1.1))
    (λ w h. repeated_good n w.0 w.1.0 w.1.1.0 w.1.1.1.0 w.1.1.1.1 h.1.0 h.1.1.0 h.1.1.1.0 h.1.1.1.1)

return_costs : (n : ℕ) → Costs return_stmt variables_of (GoodStmt n)
return_costs n = gives (both one_token (maybe_expr_costs k.Semicolon)) (λ w. omega (arith, returned_variables w.0 w.1)) (λ w h. returned_good n w.0 w.1 h.1)

-- ---- rules

pub block_costs : (n : ℕ) → Costs (rule_of (block n)) (weight (block n)) (Good (block n))
block_costs n = gives (both one_token (before (several (rule (stmt n))) one_token))
    (λ w. omega (arith, block_variables w.0 w.1, sum_total variables_of w.1))
    (λ w h. block_good n w.0 w.1 h.1)

-- no token begins it
pub none_costs : Costs (rule_of (stmt zero)) (weight (stmt zero)) (Good (stmt zero))
none_costs = record { at = λ ts v h. absurd (let i = h.2.1 in cc) }

pub stmt_costs : (n : ℕ) → Costs (rule_of (stmt (suc n))) (weight (stmt (suc n))) (Good (stmt (suc n)))
stmt_costs n = less
    (either (rule (block n))
    (either (gives one_token (λ t. omega (arith, empty_variables t.place)) (λ t h. empty_good n t.place))
    (either (simple_costs n)
    (either (if_costs n)
    (either (while_costs n)
    (either (do_costs n)
    (either (for_costs n)
    (either (gives (before one_token one_token) (λ t. omega (arith, break_variables t.place)) (λ t h. break_good n t.place))
    (either (gives (before one_token one_token) (λ t. omega (arith, continue_variables t.place)) (λ t h. continue_good n t.place))
    (return_costs n))))))))))
    (λ v. omega arith) (λ v h. (h.0, let l = h.1 in omega (arith, l)))
