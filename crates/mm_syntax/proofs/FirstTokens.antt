-- A tree that was read has the text of the token at its place.
use Rattle.std.proofs.Common.{◌≡◌, ℕ, zero, suc, Bool, true, false, ◌&&◌, ◌==◌, if◌then◌else◌, List, [], ◌∷◌, ◌++◌, Option, Some, None, inl, inr, refl, sym, ap, ◌∙◌, subst, arith, append_assoc}
use Rattle.std.specs.Prelude.{codes}
use Rattle.mm_base.specs.declared.place.Place.{Place}
use Rattle.mm_grammar.specs.Grammar.{spells_in, spells_at}
use Rattle.mm_grammar.proofs.Deep.{spells_along}
use Rattle.mm_token.specs.declared.token.Token.{Token}
use Rattle.mm_syntax.specs.declared.symbol.Symbol.{Symbol}
use Rattle.mm_syntax.specs.declared.symbol.Symbol.TheVariants as k
use Rattle.mm_syntax.specs.declared.expr.Expr.{Expr}
use Rattle.mm_syntax.specs.declared.expr.ExprKind.{ExprKind, ExprKind-F, roll-ExprKind, out-ExprKind, roll-out-ExprKind, map-ExprKind, fold-roll-ExprKind}
use Rattle.mm_syntax.specs.declared.part.Begun.{Begun}
use Rattle.mm_syntax.specs.declared.part.End.{End}
use Rattle.mm_syntax.specs.declared.part.End.TheVariants as end_is
use Rattle.mm_syntax.specs.declared.part.Suffix.{Suffix}
use Rattle.mm_syntax.specs.declared.part.Suffix.TheVariants as suffix_is
use Rattle.mm_syntax.specs.Symbols.{symbol_of}
use Rattle.mm_syntax.specs.Built as b
use Rattle.mm_syntax.specs.Rules.{Rule, Value, units, rule_of, expr, or, and, eq, rel, add, mul, unary, postfix, primary, leaves}
use Rattle.mm_syntax.specs.Tree as t
use Rattle.mm_syntax.specs.View.{expr_step, kind_view, expr_view}
use Rattle.mm_syntax.specs.First.{place_of, is_same, text_from, first_text}
use Rattle.mm_syntax.specs.Spelled.{AreApart, FirstIsSpelled}
use Rattle.mm_syntax.proofs.Views.{expr-parts, expr-Number, expr-True, expr-False, expr-This, expr-Name, expr-Scoped, expr-Cast, expr-Unary, expr-Step, expr-Binary, expr-Choose, expr-Assign, expr-New, expr-Make, expr-Call, expr-Member}
use Rattle.mm_syntax.proofs.Spelled.{text_of, HasText, Among, spelled, operators_are_spelled}

-- ---- places

node_place : (o : ExprKind-F ExprKind Expr) (p : Place) → place_of (expr_step (map-ExprKind ExprKind Expr (Place → t.Expr) t.Expr kind_view expr_view o) p) ≡ p
node_place (ExprKind-F.Number n) p = refl
node_place ExprKind-F.True p = refl
node_place ExprKind-F.False p = refl
node_place ExprKind-F.This p = refl
node_place (ExprKind-F.Name text) p = refl
node_place (ExprKind-F.Scoped class word) p = refl
node_place (ExprKind-F.Cast class x) p = refl
node_place (ExprKind-F.Unary op x) p = refl
node_place (ExprKind-F.Step x op at) p = refl
node_place (ExprKind-F.Binary x op at y) p = refl
node_place (ExprKind-F.Choose x at y z) p = refl
node_place (ExprKind-F.Assign x op at y) p = refl
node_place (ExprKind-F.New class) p = refl
node_place (ExprKind-F.Make class xs) p = refl
node_place (ExprKind-F.Call x xs) p = refl
node_place (ExprKind-F.Member x op at class word) p = refl

rolled_place : (o : ExprKind-F ExprKind Expr) (p : Place) → place_of (kind_view (roll-ExprKind o) p) ≡ p
rolled_place o p = ap (λ g. place_of (g p)) (fold-roll-ExprKind (Place → t.Expr) t.Expr expr_step (λ x. x.kind x.place) o) ∙ node_place o p

-- the plain tree stands where the tree does
view_place : (x : Expr) → place_of (expr_view x) ≡ x.place
view_place x = ap place_of (expr-parts x) ∙ (ap (λ y. place_of (kind_view y x.place)) (sym (roll-out-ExprKind x.kind)) ∙ rolled_place (out-ExprKind x.kind) x.place)

equal_numbers : (n : ℕ) → (n == n) ≡ true
equal_numbers n = grind arith

same_place : (p : Place) → is_same p p ≡ true
same_place p = rw (equal_numbers p.file, equal_numbers p.line, equal_numbers p.col) refl

number_is : (m n : ℕ) → (m == n) ≡ true → m ≡ n
number_is m n e = grind (arith, e)

left_is : (x y : Bool) → (x && y) ≡ true → x ≡ true
left_is true y e = refl
left_is false y e = absurd (cc)

right_is : (x y : Bool) → (x && y) ≡ true → y ≡ true
right_is true y e = e
right_is false y e = absurd (cc)

place_is : (p q : Place) → is_same p q ≡ true → p ≡ q
place_is p q e =
    let f = number_is p.file q.file (left_is (p.file == q.file) (p.line == q.line && p.col == q.col) e) in
    let r = right_is (p.file == q.file) (p.line == q.line && p.col == q.col) e in
    let l = number_is p.line q.line (left_is (p.line == q.line) (p.col == q.col) r) in
    let c = number_is p.col q.col (right_is (p.line == q.line) (p.col == q.col) r) in
    λ i. record { file = f i; line = l i; col = c i }

text_same : (p : Place) (text : List ℕ) → text_from p p text ≡ text
text_same p text = ap (λ x. if x then text else codes "(") (same_place p)

-- ---- the first token of a text, and the one at the tree's place

Opens : Token → Begun → Type 0
Opens u v = (u.place ≡ v.start) × (u.text ≡ text_from v.start v.tree.place (first_text (expr_view v.tree)))

record Stands (ts : List Token) (v : Begun) : Type 0 where
  before : List Token
  token : Token
  after : List Token
  cut : ts ≡ before ++ token ∷ after
  at_place : token.place ≡ v.tree.place
  text_is : token.text ≡ first_text (expr_view v.tree)

record Began (ts : List Token) (v : Begun) : Type 0 where
  token : Token
  rest : List Token
  cut : ts ≡ token ∷ rest
  opens : Opens token v
  stands : Stands ts v

abbrev Kept : (x : Rule) → List Token → Value x → Type 0
Kept expr ts v = AreApart ts → Began ts v
Kept or ts v = AreApart ts → Began ts v
Kept and ts v = AreApart ts → Began ts v
Kept eq ts v = AreApart ts → Began ts v
Kept rel ts v = AreApart ts → Began ts v
Kept add ts v = AreApart ts → Began ts v
Kept mul ts v = AreApart ts → Began ts v
Kept unary ts v = AreApart ts → Began ts v
Kept postfix ts v = AreApart ts → Began ts v
Kept primary ts v = AreApart ts → Began ts v
Kept _ ts v = Unit {0}

apart_left : (a c : List Token) → AreApart (a ++ c) → AreApart a
apart_left a c h first between last x y e =
    h first between (last ++ c) x y (ap (λ us. us ++ c) e ∙ (append_assoc first (x ∷ (between ++ y ∷ last)) c ∙ ap (λ us. first ++ x ∷ us) (append_assoc between (y ∷ last) c)))

apart_right : (a c : List Token) → AreApart (a ++ c) → AreApart c
apart_right a c h first between last x y e = h (a ++ first) between last x y (ap (λ us. a ++ us) e ∙ sym (append_assoc a first (x ∷ (between ++ y ∷ last))))

-- with tokens behind them
stands_on : (a c : List Token) (v : Begun) → Stands a v → Stands (a ++ c) v
stands_on a c v h = record {
  before = h.before;
  token = h.token;
  after = h.after ++ c;
  cut = ap (λ us. us ++ c) h.cut ∙ append_assoc h.before (h.token ∷ h.after) c;
  at_place = h.at_place;
  text_is = h.text_is;
}

goes_on : (ts a c : List Token) (v : Begun) → ts ≡ a ++ c → (AreApart a → Began a v) → AreApart ts → Began ts v
goes_on ts a c v e f h =
    let g = f (apart_left a c (subst AreApart e h)) in
    subst (λ us. Began us v) (sym e) (record { token = g.token; rest = g.rest ++ c; cut = ap (λ us. us ++ c) g.cut; opens = g.opens; stands = stands_on a c v g.stands })

-- a tree that begins where its operand's text does
grown : (ts : List Token) (l v : Begun) → v.start ≡ l.start → v.tree.place ≡ l.start → first_text (expr_view v.tree) ≡ text_from l.start (place_of (expr_view l.tree)) (first_text (expr_view l.tree)) → Began ts l → Began ts v
unfolding Opens
grown ts l v s p x g =
    let text : first_text (expr_view v.tree) ≡ text_from l.start l.tree.place (first_text (expr_view l.tree)) = x ∙ ap (λ q. text_from l.start q (first_text (expr_view l.tree))) (view_place l.tree) in
    let own : g.token.text ≡ first_text (expr_view v.tree) = g.opens.1 ∙ sym text in
    record {
      token = g.token;
      rest = g.rest;
      cut = g.cut;
      opens = (
        g.opens.0 ∙ sym s,
        own ∙ (sym (text_same l.start (first_text (expr_view v.tree))) ∙ (ap (λ q. text_from q l.start (first_text (expr_view v.tree))) (sym s) ∙ ap (λ q. text_from v.start q (first_text (expr_view v.tree))) (sym p))),
      );
      stands = record { before = []; token = g.token; after = g.rest; cut = g.cut; at_place = g.opens.0 ∙ sym p; text_is = own };
    }

-- a tree that begins with its own token
fresh : (ts a c : List Token) (u : Token) (v : Begun) → ts ≡ a ++ c → a ≡ u ∷ [] → v.start ≡ u.place → v.tree.place ≡ u.place → u.text ≡ first_text (expr_view v.tree) → Began ts v
unfolding Opens
fresh ts a c u v e f s p x =
    let cut : ts ≡ u ∷ c = e ∙ ap (λ us. us ++ c) f in
    record {
      token = u;
      rest = c;
      cut = cut;
      opens = (
        sym s,
        x ∙ (sym (text_same u.place (first_text (expr_view v.tree))) ∙ (ap (λ q. text_from q u.place (first_text (expr_view v.tree))) (sym s) ∙ ap (λ q. text_from v.start q (first_text (expr_view v.tree))) (sym p))),
      );
      stands = record { before = []; token = u; after = c; cut = cut; at_place = sym p; text_is = x };
    }

-- ---- the text of each tree's first token

of_kind : (kind : ExprKind) (p : Place) (y : t.Expr) → kind_view kind p ≡ y → first_text (expr_view (record { kind = kind; place = p })) ≡ first_text y
of_kind kind p y e = ap first_text (expr-parts (record { kind = kind; place = p }) ∙ e)

operated_began : (ts : List Token) (l : Begun) (op : Token) (r : Begun) → Began ts l → Began ts (b.operated l op r)
operated_began ts l op r g = grown ts l (b.operated l op r) refl refl (of_kind _ l.start _ (expr-Binary l.tree (b.binary_for (symbol_of op)) op.place r.tree l.start)) g

joined_began : (ts : List Token) (l : Begun) (xs : List (Token × Begun)) → Began ts l → Began ts (b.joined l xs)
joined_began ts l [] g = g
joined_began ts l (x ∷ xs) g = joined_began ts (b.operated l x.0 x.1) xs (operated_began ts l x.0 x.1 g)

suffix_began : (ts : List Token) (l : Begun) (x : Suffix) → Began ts l → Began ts (b.with_suffix l x)
suffix_began ts l (suffix_is.Called xs) g = grown ts l (b.with_suffix l (suffix_is.Called xs)) refl refl (of_kind _ l.start _ (expr-Call l.tree xs l.start)) g
suffix_began ts l (suffix_is.Member op at class word) g = grown ts l (b.with_suffix l (suffix_is.Member op at class word)) refl refl (of_kind _ l.start _ (expr-Member l.tree op at class word l.start)) g
suffix_began ts l (suffix_is.Stepped op at) g = grown ts l (b.with_suffix l (suffix_is.Stepped op at)) refl refl (of_kind _ l.start _ (expr-Step l.tree op at l.start)) g

suffixed_began : (ts : List Token) (l : Begun) (xs : List Suffix) → Began ts l → Began ts (b.suffixed l xs)
suffixed_began ts l [] g = g
suffixed_began ts l (x ∷ xs) g = suffixed_began ts (b.with_suffix l x) xs (suffix_began ts l x g)

ended_began : (ts : List Token) (l : Begun) (x : Option End) → Began ts l → Began ts (b.ended l x)
ended_began ts l None g = g
ended_began ts l (Some (end_is.Choose at y z)) g = grown ts l (b.ended l (Some (end_is.Choose at y z))) refl refl (of_kind _ l.start _ (expr-Choose l.tree at y z l.start)) g
ended_began ts l (Some (end_is.Assign op at y)) g = grown ts l (b.ended l (Some (end_is.Assign op at y))) refl refl (of_kind _ l.start _ (expr-Assign l.tree op at y l.start)) g

word_text : (s : Symbol) (u : Token) → s ≡ symbol_of u → HasText s → u.text ≡ text_of s
word_text s u e h = spelled u (subst HasText e h) ∙ ap text_of (sym e)

leaf_text : (s : Symbol) (u : Token) → s ≡ symbol_of u → Among leaves s → u.text ≡ first_text (expr_view (record { kind = b.leaf_for s u; place = u.place }))
leaf_text k.Number u e h = sym (of_kind _ u.place _ (expr-Number (b.number_of_token u) u.place))
leaf_text k.True u e h = word_text k.True u e tt ∙ sym (of_kind _ u.place _ (expr-True u.place))
leaf_text k.False u e h = word_text k.False u e tt ∙ sym (of_kind _ u.place _ (expr-False u.place))
leaf_text k.This u e h = word_text k.This u e tt ∙ sym (of_kind _ u.place _ (expr-This u.place))
leaf_text k.Word u e h = sym (of_kind _ u.place _ (expr-Name u.text u.place))
leaf_text _ u e h = absurd (cc)

new_among : (s : Symbol) → Among (k.New ∷ []) s → HasText s × (text_of s ≡ codes "new")
new_among k.New h = (tt, refl)
new_among _ h = absurd (cc)

cast_among : (s : Symbol) → Among (k.DynamicCast ∷ []) s → HasText s × (text_of s ≡ codes "dynamic_cast")
cast_among k.DynamicCast h = (tt, refl)
cast_among _ h = absurd (cc)

open_among : (s : Symbol) → Among (k.Open ∷ []) s → HasText s × (text_of s ≡ codes "(")
open_among k.Open h = (tt, refl)
open_among _ h = absurd (cc)

by_among : (u : Token) (text : List ℕ) → HasText (symbol_of u) × (text_of (symbol_of u) ≡ text) → u.text ≡ text
by_among u text h = spelled u h.0 ∙ h.1

made_text : (class : Token) (args : Option (List Expr)) (p : Place) → first_text (expr_view (record { kind = b.made class args; place = p })) ≡ codes "new"
made_text class None p = of_kind _ p _ (expr-New (b.name_of class) p)
made_text class (Some xs) p = of_kind _ p _ (expr-Make (b.name_of class) xs p)

-- ---- parentheses

other_place : (p q : Place) (text : List ℕ) → (p ≡ q → ⊥) → text_from p q text ≡ codes "("
other_place p q text n = by (is_same p q) refl
  where
    by : (x : Bool) → is_same p q ≡ x → (if x then text else codes "(") ≡ codes "("
    by true e = absurd (n (place_is p q e))
    by false e = refl

enclosed_began : (ts a c d e : List Token) (u : Token) (v : Begun) → ts ≡ a ++ c → a ≡ u ∷ [] → c ≡ d ++ e → u.text ≡ codes "(" → (AreApart d → Began d v) → AreApart ts → Began ts (b.enclosed u v)
unfolding Opens
enclosed_began ts a c d e u v cut one inner x f h =
    let whole : ts ≡ u ∷ (d ++ e) = cut ∙ (ap (λ us. us ++ c) one ∙ ap (λ us. u ∷ us) inner) in
    let apart : AreApart ((u ∷ []) ++ (d ++ e)) = subst AreApart whole h in
    let g = f (apart_left d e (apart_right (u ∷ []) (d ++ e) apart)) in
    let s = stands_on d e v g.stands in
    let differs : u.place ≡ v.tree.place → ⊥ = λ i. apart [] s.before s.after u s.token (ap (λ us. u ∷ us) s.cut) (i ∙ sym s.at_place) in
    record {
      token = u;
      rest = d ++ e;
      cut = whole;
      opens = (refl, x ∙ sym (other_place u.place v.tree.place (first_text (expr_view v.tree)) differs));
      stands = record { before = u ∷ s.before; token = s.token; after = s.after; cut = whole ∙ ap (λ us. u ∷ us) s.cut; at_place = s.at_place; text_is = s.text_is };
    }

-- ---- rules

began_is : (ts : List Token) (v w : Begun) → v ≡ w → Began ts w → Began ts v
began_is ts v w e g = subst (λ x. Began ts x) (sym e) g

step : (x : Rule) (ts : List Token) (v : Value x) → spells_in units Kept (rule_of x) ts v → Kept x ts v
step expr ts v h = λ c. began_is ts v _ h.1 (ended_began ts h.0.0 h.0.1 (goes_on ts h.2.0 h.2.1 h.0.0 h.2.2 h.2.3 c))
step or ts v h = λ c. began_is ts v _ h.1 (joined_began ts h.0.0 h.0.1 (goes_on ts h.2.0 h.2.1 h.0.0 h.2.2 h.2.3 c))
step and ts v h = λ c. began_is ts v _ h.1 (joined_began ts h.0.0 h.0.1 (goes_on ts h.2.0 h.2.1 h.0.0 h.2.2 h.2.3 c))
step eq ts v h = λ c. began_is ts v _ h.1 (joined_began ts h.0.0 h.0.1 (goes_on ts h.2.0 h.2.1 h.0.0 h.2.2 h.2.3 c))
step rel ts v h = λ c. began_is ts v _ h.1 (joined_began ts h.0.0 h.0.1 (goes_on ts h.2.0 h.2.1 h.0.0 h.2.2 h.2.3 c))
step add ts v h = λ c. began_is ts v _ h.1 (joined_began ts h.0.0 h.0.1 (goes_on ts h.2.0 h.2.1 h.0.0 h.2.2 h.2.3 c))
step mul ts v h = λ c. began_is ts v _ h.1 (joined_began ts h.0.0 h.0.1 (goes_on ts h.2.0 h.2.1 h.0.0 h.2.2 h.2.3 c))
step postfix ts v h = λ c. began_is ts v _ h.1 (suffixed_began ts h.0.0 h.0.1 (goes_on ts h.2.0 h.2.1 h.0.0 h.2.2 h.2.3 c))
step unary ts v (inl h) = λ c.
    began_is ts v _ h.1 (fresh ts h.2.0 h.2.1 h.0.0 (b.prefixed h.0.0 h.0.1) h.2.2 h.2.3.0 refl refl
    (operators_are_spelled.unary h.0.0 h.2.3.1 ∙ sym (of_kind _ h.0.0.place _ (expr-Unary (b.unary_for (symbol_of h.0.0)) h.0.1.tree h.0.0.place))))
step unary ts v (inr (inl h)) = λ c.
    began_is ts v _ h.1 (fresh ts h.2.0 h.2.1 h.0.0 (b.begun h.0.1 h.0.0.place) h.2.2 h.2.3.0 refl refl
    (by_among h.0.0 (codes "new") (new_among (symbol_of h.0.0) h.2.3.1)
    ∙ sym (ap (λ x. first_text (expr_view (record { kind = x; place = h.0.0.place }))) h.2.4.1 ∙ made_text h.2.4.0.0 h.2.4.0.1 h.0.0.place)))
step unary ts v (inr (inr h)) = h
step primary ts v (inl h) = λ c.
    began_is ts v _ h.1 (fresh ts ts [] h.0 (b.leaf h.0) (sym (nil_behind ts)) h.2.0 refl refl (leaf_text (symbol_of h.0) h.0 refl h.2.1))
  where
    nil_behind : (xs : List Token) → xs ++ [] ≡ xs
    nil_behind [] = refl
    nil_behind (x ∷ xs) = ap (λ ys. x ∷ ys) (nil_behind xs)
step primary ts v (inr (inl h)) = λ c.
    let inner = h.2.4 in
    began_is ts v _ h.1 (subst (λ w. Began ts (b.enclosed h.0.0 w)) (sym inner.1)
    (enclosed_began ts h.2.0 h.2.1 inner.2.0 inner.2.1 h.0.0 inner.0.0 h.2.2 h.2.3.0 inner.2.2 (by_among h.0.0 (codes "(") (open_among (symbol_of h.0.0) h.2.3.1)) inner.2.3 c))
step primary ts v (inr (inr (inl h))) = λ c.
    let class = h.2.3 in
    began_is ts v _ h.1 (fresh ts class.2.0 (class.2.1 ++ h.2.1) class.0.0 (b.scoped h.0.0 h.0.1)
    (h.2.2 ∙ (ap (λ us. us ++ h.2.1) class.2.2 ∙ append_assoc class.2.0 class.2.1 h.2.1)) class.2.3.0 (ap (λ x. x.place) class.1) (ap (λ x. x.place) class.1)
    (ap (λ x. x.text) (sym class.1) ∙ sym (of_kind _ h.0.0.place _ (expr-Scoped (b.name_of h.0.0) (b.name_of h.0.1) h.0.0.place))))
step primary ts v (inr (inr (inr h))) = λ c.
    began_is ts v _ h.1 (fresh ts h.2.0 h.2.1 h.0.0 (b.cast h.0.0 h.0.1.0 h.0.1.1) h.2.2 h.2.3.0 refl refl
    (by_among h.0.0 (codes "dynamic_cast") (cast_among (symbol_of h.0.0) h.2.3.1) ∙ sym (of_kind _ h.0.0.place _ (expr-Cast (b.name_of h.0.1.0) h.0.1.1.tree h.0.0.place))))
step _ ts v h = tt

at_depth : (n : ℕ) (x : Rule) (ts : List Token) (v : Value x) → spells_at units n x ts v → Kept x ts v
at_depth zero x ts v h = absurd h
at_depth (suc n) x ts v h = step x ts v (spells_along units (spells_at units n) Kept (λ y us w i. at_depth n y us w i) (rule_of x) ts v h)

pub first_is_spelled : FirstIsSpelled
first_is_spelled tokens v h c = let s = (at_depth h.0 expr tokens v h.1 c).stands in (s.before, s.token, s.after, s.cut, s.at_place, s.text_is)
