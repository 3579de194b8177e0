-- A declaration of variables or an expression, by one token or by two.
use Rattle.std.proofs.Common.{◌≡◌, ◌<◌, Bool, true, false, not, IsTrue, List, [], ◌∷◌, ◌++◌, ◌⊎◌, inl, inr, map, length, refl, ap, sym, ◌∙◌, subst, arith, ◌+◌, None}
use Rattle.std.proofs.lemmas.List.{length-append}
use Rattle.mm_grammar.specs.Grammar.{name, fork, give, Front, Avoids, Reads, Fails, has}
use Rattle.mm_grammar.specs.Ahead.{first_of, second_of, Good}
use Rattle.mm_grammar.proofs.Lists.{both, or_cases, or_left, or_right, not_both, apart, has-split, and_left, and_right}
use Rattle.mm_grammar.proofs.Forks.{Elsewhere, fork_first_ok, fork_first_fail, fork_second_ok, fork_second_fail}
use Rattle.mm_token.specs.declared.token.Token.{Token}
use Rattle.mm_syntax.specs.declared.symbol.Symbol.{Symbol}
use Rattle.mm_syntax.specs.declared.symbol.Symbol.TheVariants as k
use Rattle.mm_syntax.specs.declared.part.Begun.{Begun}
use Rattle.mm_syntax.specs.declared.stmt.Variables.{Variables}
use Rattle.mm_syntax.specs.Symbols.{symbol_of, number_of}
use Rattle.mm_syntax.specs.declared.stmt.Stmt.{Stmt}
use Rattle.mm_syntax.specs.declared.stmt.ForStart.{ForStart}
use Rattle.mm_syntax.specs.declared.stmt.ForStart.TheVariants as start
use Rattle.mm_syntax.specs.BuiltStatements as bs
use Rattle.mm_syntax.specs.Rules.{P, units, var, expr_stmt, simple_stmt, for_start}
use Rattle.mm_syntax.proofs.Claims.{ahead}
use Rattle.mm_syntax.proofs.Fitting.{fit}
use Rattle.mm_cursor.specs.Cursor.{Eats}
use Rattle.mm_cursor.proofs.Steps.{Took, good, ok_is, ate, gives, gives_not, first_reads, second_reads, second_one_fails}
use Rattle.mm_parse_var.specs.Parts.{type_words, is_among, begins_scope, begins_variables, expr_first, variables_first}

-- Where the first token is a front, a reader goes past it.
goes_on : {A : Type 0} → (p : P A) (ts r s : List Token) (x : Token) → ts ≡ x ∷ s → Front units p (x ∷ []) → Fails units p ts r → length r < length ts
goes_on p ts r s x e f a = go a.used a.cut refl
  where
    go : (u : List Token) → ts ≡ u ++ r → a.used ≡ u → length r < length ts
    go [] cut same = absurd (a.stuck x s [] (sym cut ∙ e) (subst (λ w. Front units p (w ++ x ∷ [])) (sym same) f))
    go (y ∷ u) cut same = let l : length ts ≡ length (y ∷ u) + length r = ap length cut ∙ length-append (y ∷ u) r in omega arith

abbrev class : List Symbol
class = k.Class ∷ []

abbrev scope : List Symbol
scope = k.Scope ∷ []

-- a class is a front of both
class_begins_var : (x : Token) → IsTrue (is_among class x) → Front units (name var) (x ∷ [])
class_begins_var x h = (2, inl (inr (inr (inr (x, refl, h)))))

class_begins_expr : (x : Token) → IsTrue (is_among class x) → Front units expr_stmt (x ∷ [])
class_begins_expr x h = inl (10, inl (inl (inl (inl (inl (inl (inl (inr (inr (inl (inr (inr (inl (inl (inl (inr (x, refl, h)))))))))))))))))

-- ---- variables

var_first : (x : Token) (s : List Token) → IsTrue (begins_variables (x ∷ s)) → IsTrue (is_among type_words x) ⊎ (IsTrue (is_among class x) × IsTrue (not (begins_scope s)))
var_first x s h = elim (or_cases (is_among type_words x) _ h) [ inl a ↦ inl a | inr a ↦ inr (and_left (is_among class x) _ a, and_right (is_among class x) (not (begins_scope s)) a) ]

no_expr_at : (ts : List Token) → IsTrue (begins_variables ts) → (x y : Token) (s : List Token) → ts ≡ x ∷ y ∷ s → IsTrue (has (number_of (symbol_of x)) (first_of units ahead expr_stmt)) → IsTrue (has (number_of (symbol_of y)) (second_of units ahead expr_stmt)) → ⊥
no_expr_at ts h x y s e i j = elim (var_first x (y ∷ s) (subst (λ w. IsTrue (begins_variables w)) e h)) [
  | inl a ↦ apart (number_of (symbol_of x)) (map number_of type_words) (first_of units ahead expr_stmt) refl a i
  | inr a ↦ not_both (begins_scope (y ∷ s)) a.1 j
]

no_expr : (ts : List Token) → IsTrue (begins_variables ts) → Elsewhere units ahead fit expr_stmt ts
no_expr ts h = no_expr_at ts h

var_fails : (ts r : List Token) → IsTrue (begins_variables ts) → Fails units (name var) ts r → (length r < length ts) ⊎ Avoids units (first_of units ahead expr_stmt) ts
var_fails [] r h a = absurd (cc)
var_fails (x ∷ s) r h a = elim (var_first x s h) [
  | inl i ↦ inr (λ y z e j. let same : y ≡ x = cc in apart (number_of (symbol_of x)) (map number_of type_words) (first_of units ahead expr_stmt) refl i (subst (λ w. IsTrue (has (number_of (symbol_of w)) (first_of units ahead expr_stmt))) same j))
  | inr i ↦ inl (goes_on (name var) (x ∷ s) r s x refl (class_begins_var x i.0) a)
]

-- ---- an expression

negative : (c : Bool) → (IsTrue c → ⊥) → IsTrue (not c)
negative true h = absurd (h refl)
negative false h = refl

no_scope : (y : Token) (s : List Token) → IsTrue (has (number_of (symbol_of y)) (second_of units ahead (name var))) → IsTrue (not (begins_scope (y ∷ s)))
no_scope y s j = negative (begins_scope (y ∷ s)) (λ i. apart (number_of (symbol_of y)) (map number_of scope) (second_of units ahead (name var)) refl i j)

no_var_at : (ts : List Token) → IsTrue (not (begins_variables ts)) → (x y : Token) (s : List Token) → ts ≡ x ∷ y ∷ s → IsTrue (has (number_of (symbol_of x)) (first_of units ahead (name var))) → IsTrue (has (number_of (symbol_of y)) (second_of units ahead (name var))) → ⊥
no_var_at ts h x y s e i j =
    let n = subst (λ w. IsTrue (not (begins_variables w))) e h in
    elim (has-split (number_of (symbol_of x)) (map number_of type_words) (map number_of class) i) [
      | inl a ↦ not_both (begins_variables (x ∷ y ∷ s)) n (or_left (is_among type_words x) _ a)
      | inr a ↦ not_both (begins_variables (x ∷ y ∷ s)) n (or_right (is_among type_words x) _ (both (is_among class x) (not (begins_scope (y ∷ s))) a (no_scope y s j)))
    ]

no_var : (ts : List Token) → IsTrue (not (begins_variables ts)) → Elsewhere units ahead fit (name var) ts
no_var ts h = no_var_at ts h

expr_fails : (ts r : List Token) → IsTrue (not (begins_variables ts)) → Fails units expr_stmt ts r → (length r < length ts) ⊎ Avoids units (first_of units ahead (name var)) ts
expr_fails [] r h a = inr (λ y z e j. absurd (cc))
expr_fails (x ∷ s) r h a = by (is_among class x) refl
  where
    by : (c : Bool) → c ≡ is_among class x → (length r < length (x ∷ s)) ⊎ Avoids units (first_of units ahead (name var)) (x ∷ s)
    by true e = inl (goes_on expr_stmt (x ∷ s) r s x refl (class_begins_expr x (sym e)) a)
    by false e = inr (λ y z i j.
        let same : y ≡ x = cc in
        elim (has-split (number_of (symbol_of x)) (map number_of type_words) (map number_of class) (subst (λ w. IsTrue (has (number_of (symbol_of w)) (first_of units ahead (name var)))) same j)) [
          | inl b ↦ not_both (begins_variables (x ∷ s)) h (or_left (is_among type_words x) _ b)
          | inr b ↦ absurd (cc)
        ])

-- ---- either of them, with values of one type

module _ {A : Type 0} (f : Begun → A) (g : Variables → A) where
  abbrev pub either : P A
  either = fork (give f expr_stmt) (give g (name var))

  either_good : Good units ahead either
  either_good = good either refl

  pub either_var : (ts r : List Token) (v : Variables) → IsTrue (begins_variables ts) → Reads units (name var) ts v r → Reads units either ts (g v) r
  either_var ts r v h a = fork_second_ok units ahead fit (give f expr_stmt) (give g (name var)) either_good ts r (g v) (no_expr ts h) (gives g (name var) ts r v a)

  pub either_no_var : (ts r : List Token) → IsTrue (begins_variables ts) → Fails units (name var) ts r → Fails units either ts r
  either_no_var ts r h a = fork_second_fail units ahead fit (give f expr_stmt) (give g (name var)) either_good ts r (no_expr ts h) (var_fails ts r h a) (gives_not g (name var) ts r a)

  pub either_expr : (ts r : List Token) (v : Begun) → IsTrue (not (begins_variables ts)) → Reads units expr_stmt ts v r → Reads units either ts (f v) r
  either_expr ts r v h a = fork_first_ok units ahead fit (give f expr_stmt) (give g (name var)) either_good ts r (f v) (no_var ts h) (gives f expr_stmt ts r v a)

  pub either_no_expr : (ts r : List Token) → IsTrue (not (begins_variables ts)) → Fails units expr_stmt ts r → Fails units either ts r
  either_no_expr ts r h a = fork_first_fail units ahead fit (give f expr_stmt) (give g (name var)) either_good ts r (no_var ts h) (expr_fails ts r h a) (gives_not f expr_stmt ts r a)

-- ---- what the test saw

pub seen : (tokens ts : List Token) → tokens ≡ ts → true ≡ begins_variables tokens → IsTrue (begins_variables ts)
seen tokens ts e h = sym (h ∙ ap (λ w. begins_variables w) e)

pub unseen : (tokens ts : List Token) → tokens ≡ ts → false ≡ begins_variables tokens → IsTrue (not (begins_variables ts))
unseen tokens ts e h = ap (λ c. not c) (sym (h ∙ ap (λ w. begins_variables w) e))

-- ---- the two statements

pub simple_var : (ts r : List Token) (v : Variables) (w : Stmt) → IsTrue (begins_variables ts) → Reads units (name var) ts v r → w ≡ bs.declared v → Reads units simple_stmt ts w r
simple_var ts r v w h a e = ok_is simple_stmt ts r w (bs.declared v) e (either_var bs.run bs.declared ts r v h a)

pub simple_no_var : (ts r : List Token) → IsTrue (begins_variables ts) → Fails units (name var) ts r → Fails units simple_stmt ts r
simple_no_var ts r h a = either_no_var bs.run bs.declared ts r h a

pub simple_expr : (ts r : List Token) (v : Begun) (w : Stmt) → IsTrue (not (begins_variables ts)) → Reads units expr_stmt ts v r → w ≡ bs.run v → Reads units simple_stmt ts w r
simple_expr ts r v w h a e = ok_is simple_stmt ts r w (bs.run v) e (either_expr bs.run bs.declared ts r v h a)

pub simple_no_expr : (ts r : List Token) → IsTrue (not (begins_variables ts)) → Fails units expr_stmt ts r → Fails units simple_stmt ts r
simple_no_expr ts r h a = either_no_expr bs.run bs.declared ts r h a

-- ---- what stands first in the parentheses of `for`

abbrev semicolon : List Symbol
semicolon = k.Semicolon ∷ []

pub for_nothing : (ts r : List Token) (x : Token) (v : ForStart) → Took semicolon ts x r → v ≡ start.Nothing → Reads units for_start ts v r
for_nothing ts r x v h e = ok_is for_start ts r v start.Nothing e (first_reads _ _ semicolon refl refl ts r r x start.Nothing h (gives (λ t. start.Nothing) _ _ _ x (ate semicolon ts r x h)))

pub for_var : (ts us r : List Token) (v : Variables) (w : ForStart) → Eats semicolon ts None us → IsTrue (begins_variables us) → Reads units (name var) us v r → w ≡ variables_first v → Reads units for_start ts w r
for_var ts us r v w n h a e = ok_is for_start ts r w (variables_first v) e (second_reads _ _ semicolon refl refl ts us r (variables_first v) n (either_var (λ v. expr_first v) (λ v. variables_first v) us r v h a))

pub for_no_var : (ts us r : List Token) → Eats semicolon ts None us → IsTrue (begins_variables us) → Fails units (name var) us r → Fails units for_start ts r
for_no_var ts us r n h a = second_one_fails _ _ semicolon refl refl refl ts us r n (either_no_var (λ v. expr_first v) (λ v. variables_first v) us r h a)

pub for_expr : (ts us r : List Token) (v : Begun) (w : ForStart) → Eats semicolon ts None us → IsTrue (not (begins_variables us)) → Reads units expr_stmt us v r → w ≡ expr_first v → Reads units for_start ts w r
for_expr ts us r v w n h a e = ok_is for_start ts r w (expr_first v) e (second_reads _ _ semicolon refl refl ts us r (expr_first v) n (either_expr (λ v. expr_first v) (λ v. variables_first v) us r v h a))

pub for_no_expr : (ts us r : List Token) → Eats semicolon ts None us → IsTrue (not (begins_variables us)) → Fails units expr_stmt us r → Fails units for_start ts r
for_no_expr ts us r n h a = second_one_fails _ _ semicolon refl refl refl ts us r n (either_no_expr (λ v. expr_first v) (λ v. variables_first v) us r h a)
