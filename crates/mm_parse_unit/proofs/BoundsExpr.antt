-- The tree of an expression has no more tokens of its own than its text.
use Rattle.std.proofs.Common.{◌≡◌, ℕ, ◌+◌, ◌-◌, ◌≤◌, List, [], ◌∷◌, map, Option, Some, None, arith, rules}
use Rattle.mm_base.specs.declared.place.Place.{Place}
use Rattle.mm_token.specs.declared.token.Token.{Token}
use Rattle.mm_syntax.specs.declared.symbol.Symbol.{Symbol}
use Rattle.mm_syntax.specs.declared.symbol.Symbol.TheVariants as k
use Rattle.mm_syntax.specs.declared.expr.Expr.{Expr}
use Rattle.mm_syntax.specs.declared.expr.ExprKind.{ExprKind, the_lemmas}
use Rattle.mm_syntax.specs.declared.part.Begun.{Begun}
use Rattle.mm_syntax.specs.declared.part.End.{End}
use Rattle.mm_syntax.specs.declared.part.End.TheVariants as end_is
use Rattle.mm_syntax.specs.declared.part.Suffix.{Suffix}
use Rattle.mm_syntax.specs.declared.part.Suffix.TheVariants as suffix_is
use Rattle.mm_syntax.specs.Symbols.{symbol_of}
use Rattle.mm_syntax.specs.Built as b
use Rattle.mm_syntax.specs.Limits.{tokens_of, listed_tokens, scope_tokens}
use Rattle.mm_syntax.specs.Rules.{args, expr, or, and, eq, rel, add, mul, unary, postfix, primary, P, rule_of, chain, end, inside, call, after_new, scope, suffix, enclosed, another}
use Rattle.mm_grammar.specs.Grammar.{name}
use Rattle.mm_parse_unit.proofs.BoundsWeights.{Free, total, Every, maybe_weight, MaybeGood, Short, weight}
use Rattle.mm_parse_unit.proofs.BoundsParts.{Costs, one_token, rule, both, gives, after, before, either, maybe, several, less}

-- ---- trees

leaf_tokens : (s : Symbol) (t : Token) (p : Place) → tokens_of (record { kind = b.leaf_for s t; place = p }) ≡ 1
leaf_tokens k.Number t p = search (rules, the_lemmas)
leaf_tokens k.True t p = search (rules, the_lemmas)
leaf_tokens k.False t p = search (rules, the_lemmas)
leaf_tokens k.This t p = search (rules, the_lemmas)
leaf_tokens _ t p = search (rules, the_lemmas)

scoped_tokens : (class word : Token) → tokens_of (b.scoped class word).tree ≡ 3
scoped_tokens class word = search (rules, the_lemmas)

cast_tokens : (word class : Token) (x : Begun) → tokens_of (b.cast word class x).tree ≡ 7 + tokens_of x.tree
cast_tokens word class x = search (rules, the_lemmas)

prefixed_tokens : (op : Token) (x : Begun) → tokens_of (b.prefixed op x).tree ≡ 1 + tokens_of x.tree
prefixed_tokens op x = search (rules, the_lemmas)

operated_tokens : (l : Begun) (op : Token) (r : Begun) → tokens_of (b.operated l op r).tree ≡ tokens_of l.tree + 1 + tokens_of r.tree
operated_tokens l op r = search (rules, the_lemmas)

abbrev list_weight : List Expr → ℕ
list_weight xs = listed_tokens (map tokens_of xs)

new_tokens : (class : Token) (p : Place) → tokens_of (b.begun (b.made class None) p).tree ≡ 2
new_tokens class p = search (rules, the_lemmas)

make_tokens : (class : Token) (xs : List Expr) (p : Place) → tokens_of (b.begun (b.made class (Some xs)) p).tree ≡ 4 + list_weight xs
make_tokens class xs p = search (rules, the_lemmas)

abbrev end_weight : End → ℕ
end_weight (end_is.Choose p x y) = 2 + (tokens_of x + tokens_of y)
end_weight (end_is.Assign op p x) = 1 + tokens_of x

choose_tokens : (l : Begun) (p : Place) (x y : Expr) → tokens_of (b.ended l (Some (end_is.Choose p x y))).tree ≡ tokens_of l.tree + 1 + tokens_of x + 1 + tokens_of y
choose_tokens l p x y = search (rules, the_lemmas)

assign_tokens : (l : Begun) (op : _) (p : Place) (x : Expr) → tokens_of (b.ended l (Some (end_is.Assign op p x))).tree ≡ tokens_of l.tree + 1 + tokens_of x
assign_tokens l op p x = search (rules, the_lemmas)

ended_tokens : (l : Begun) (e : Option End) → tokens_of (b.ended l e).tree ≤ tokens_of l.tree + maybe_weight end_weight e
ended_tokens l None = omega arith
ended_tokens l (Some (end_is.Choose p x y)) = omega (arith, choose_tokens l p x y)
ended_tokens l (Some (end_is.Assign op p x)) = omega (arith, assign_tokens l op p x)

abbrev suffix_weight : Suffix → ℕ
suffix_weight (suffix_is.Called xs) = 2 + list_weight xs
suffix_weight (suffix_is.Member op p class word) = 2 + scope_tokens class
suffix_weight (suffix_is.Stepped op p) = 1

called_tokens : (l : Begun) (xs : List Expr) → tokens_of (b.with_suffix l (suffix_is.Called xs)).tree ≡ tokens_of l.tree + 2 + list_weight xs
called_tokens l xs = search (rules, the_lemmas)

with_suffix_tokens : (l : Begun) (s : Suffix) → tokens_of (b.with_suffix l s).tree ≤ tokens_of l.tree + suffix_weight s
with_suffix_tokens l (suffix_is.Called xs) = omega (arith, called_tokens l xs)
with_suffix_tokens l (suffix_is.Member op p class word) =
    let e : tokens_of (b.with_suffix l (suffix_is.Member op p class word)).tree ≡ tokens_of l.tree + 2 + scope_tokens class = search (rules, the_lemmas) in
    omega (arith, e)
with_suffix_tokens l (suffix_is.Stepped op p) =
    let e : tokens_of (b.with_suffix l (suffix_is.Stepped op p)).tree ≡ tokens_of l.tree + 1 = search (rules, the_lemmas) in
    omega (arith, e)

suffixed_tokens : (l : Begun) (xs : List Suffix) → tokens_of (b.suffixed l xs).tree ≤ tokens_of l.tree + total suffix_weight xs
suffixed_tokens l [] = omega arith
suffixed_tokens l (x ∷ xs) = omega (arith, suffixed_tokens (b.with_suffix l x) xs, with_suffix_tokens l x)

abbrev link_weight : Token × Begun → ℕ
link_weight x = 1 + tokens_of x.1.tree

joined_tokens : (l : Begun) (xs : List (Token × Begun)) → tokens_of (b.joined l xs).tree ≤ tokens_of l.tree + total link_weight xs
joined_tokens l [] = omega arith
joined_tokens l (x ∷ xs) = omega (arith, joined_tokens (b.operated l x.0 x.1) xs, operated_tokens l x.0 x.1)

listed_more : (n : ℕ) (xs : List Expr) → listed_tokens (n ∷ map tokens_of xs) ≡ n + total (λ x. 1 + tokens_of x) xs
listed_more n [] = omega arith
listed_more n (x ∷ xs) = omega (arith, listed_more (tokens_of x) xs)

-- ---- parts

listed_weight : (v : Option (List Expr)) → list_weight (b.listed v) ≤ maybe_weight list_weight v
listed_weight None = omega arith
listed_weight (Some xs) = omega arith

listed_good : (v : Option (List Expr)) → MaybeGood (Every Short) v → Every Short (b.listed v)
listed_good None h = tt
listed_good (Some xs) h = h

pub inside_costs : Costs inside (λ xs. list_weight xs + 1) (Every Short)
inside_costs = before (gives (maybe (rule args)) listed_weight listed_good) one_token

pub call_costs : Costs call (λ xs. 1 + (list_weight xs + 1)) (Every Short)
call_costs = after one_token inside_costs

made_weight : (p : Place) (class : Token) (xs : Option (List Expr)) → tokens_of (b.begun (b.made class xs) p).tree ≤ 1 + (1 + maybe_weight (λ ys. 1 + (list_weight ys + 1)) xs)
made_weight p class None = omega (arith, new_tokens class p)
made_weight p class (Some xs) = omega (arith, make_tokens class xs p)

pub enclosed_costs : Costs enclosed (λ v. 1 + (tokens_of v.tree + 1)) (λ v. Short v.tree)
enclosed_costs = after one_token (before (rule expr) one_token)

pub another_costs : Costs another (λ x. 1 + tokens_of x) Short
another_costs = gives (after one_token (rule expr)) (λ w. omega arith) (λ w h. h)

end_costs : Costs end end_weight Free
end_costs = either
    (gives (both one_token (both (rule expr) (after one_token (rule expr)))) (λ w. omega arith) (λ w h. tt))
    (gives (both one_token (rule expr)) (λ w. omega arith) (λ w h. tt))

pub scope_costs : Costs scope (λ t. 2) Free
scope_costs = less (before one_token one_token) (λ w. omega arith) (λ w h. tt)

member_weight : (op word : Token) (class : Option Token) → suffix_weight (b.member_of op class word) ≤ 1 + (maybe_weight (λ t. 2) class + 1)
member_weight op word None = omega arith
member_weight op word (Some class) = omega arith

suffix_costs : Costs suffix suffix_weight Free
suffix_costs = either
    (gives call_costs (λ xs. omega arith) (λ w h. tt))
    (either
    (gives (both one_token (both (maybe scope_costs) one_token)) (λ w. member_weight w.0 w.1.1 w.1.0) (λ w h. tt))
    (gives one_token (λ t. omega arith) (λ w h. tt)))

-- ---- rules

chain_costs : (p : P Begun) (operators : List Symbol) → Costs p (λ v. tokens_of v.tree) Free → Costs (chain p operators) (λ v. tokens_of v.tree) Free
chain_costs p operators c = gives (both c (several (both one_token c))) (λ w. joined_tokens w.0 w.1) (λ w h. tt)

pub expr_costs : Costs (rule_of expr) (weight expr) Free
expr_costs = gives (both (rule or) (maybe end_costs)) (λ w. ended_tokens w.0 w.1) (λ w h. tt)

pub or_costs : Costs (rule_of or) (weight or) Free
or_costs = chain_costs (name and) (k.OrOr ∷ []) (rule and)

pub and_costs : Costs (rule_of and) (weight and) Free
and_costs = chain_costs (name eq) (k.AndAnd ∷ []) (rule eq)

pub eq_costs : Costs (rule_of eq) (weight eq) Free
eq_costs = chain_costs (name rel) (k.EqualEqual ∷ k.NotEqual ∷ []) (rule rel)

pub rel_costs : Costs (rule_of rel) (weight rel) Free
rel_costs = chain_costs (name add) (k.Less ∷ k.Greater ∷ k.LessEqual ∷ k.GreaterEqual ∷ []) (rule add)

pub add_costs : Costs (rule_of add) (weight add) Free
add_costs = chain_costs (name mul) (k.Plus ∷ k.Minus ∷ []) (rule mul)

pub mul_costs : Costs (rule_of mul) (weight mul) Free
mul_costs = chain_costs (name unary) (k.Star ∷ k.Slash ∷ k.Percent ∷ []) (rule unary)

pub postfix_costs : Costs (rule_of postfix) (weight postfix) Free
postfix_costs = gives (both (rule primary) (several suffix_costs)) (λ w. suffixed_tokens w.0 w.1) (λ w h. tt)

pub primary_costs : Costs (rule_of primary) (weight primary) Free
primary_costs = either
    (gives one_token (λ t. omega (arith, leaf_tokens (symbol_of t) t t.place)) (λ w h. tt))
    (either
    (gives (both one_token (before (rule expr) one_token)) (λ w. omega arith) (λ w h. tt))
    (either
    (gives (both scope_costs one_token) (λ w. omega (arith, scoped_tokens w.0 w.1)) (λ w h. tt))
    (gives (both one_token (both (after one_token (before (before one_token one_token) one_token)) enclosed_costs)) (λ w. omega (arith, cast_tokens w.0 w.1.0 w.1.1)) (λ w h. tt))))

pub args_costs : Costs (rule_of args) (weight args) (Every Short)
args_costs = gives (both (rule expr) (several another_costs)) (λ w. omega (arith, listed_more (tokens_of w.0.tree) w.1)) (λ w h. h)

-- where a tree begins is no matter
somewhere : Place
somewhere = record { file = 0; line = 0; col = 0 }

same_tokens : (x : ExprKind) (p q : Place) → tokens_of (b.begun x p).tree ≡ tokens_of (b.begun x q).tree
same_tokens x p q = search (rules, the_lemmas)

abbrev new_weight : ExprKind → ℕ
new_weight x = tokens_of (b.begun x somewhere).tree - 1

after_new_costs : Costs after_new new_weight Free
after_new_costs = gives (both one_token (maybe call_costs)) (λ w. omega (arith, made_weight somewhere w.0 w.1)) (λ w h. tt)

pub unary_costs : Costs (rule_of unary) (weight unary) Free
unary_costs = either
    (gives (both one_token (rule unary)) (λ w. omega (arith, prefixed_tokens w.0 w.1)) (λ w h. tt))
    (either
    (gives (both one_token after_new_costs) (λ w. omega (arith, same_tokens w.1 w.0.place somewhere)) (λ w h. tt))
    (rule postfix))
