-- The exits of each reader of expressions, over plain lists of tokens.
use Rattle.std.proofs.Common.{◌≡◌, ◌≤◌, List, [], ◌∷◌, ◌++◌, inl, inr, map, length, refl, ap, sym, ◌∙◌, subst, Option, Some, None}
use Rattle.mm_grammar.specs.Grammar.{name, seq, many, give, opt, Reads, Fails}
use Rattle.mm_grammar.specs.Ahead.{first_of}
use Rattle.mm_grammar.proofs.Lists.{has-split}
use Rattle.mm_grammar.proofs.Loops.{SoFar, begun, not_begun, once_more, failed_inside, opt_none}
use Rattle.mm_grammar.proofs.Here.{opt_some_of, opt_fail_of, opt_fail_shorter, many_none_of, opt_then_fail}
use Rattle.mm_token.specs.declared.token.Token.{Token}
use Rattle.mm_syntax.specs.declared.symbol.Symbol.{Symbol}
use Rattle.mm_syntax.specs.declared.symbol.Symbol.TheVariants as k
use Rattle.mm_syntax.specs.declared.expr.Expr.{Expr}
use Rattle.mm_syntax.specs.declared.expr.ExprKind.{ExprKind}
use Rattle.mm_syntax.specs.declared.name.Name.{Name}
use Rattle.mm_syntax.specs.declared.part.Begun.{Begun}
use Rattle.mm_syntax.specs.declared.part.End.{End}
use Rattle.mm_syntax.specs.declared.part.Suffix.{Suffix}
use Rattle.mm_syntax.specs.Symbols.{symbol_of, number_of}
use Rattle.mm_syntax.specs.Built as b
use Rattle.mm_syntax.specs.Rules.{P, units, token, rule_of, expr, or, unary, postfix, primary, args, end, assigning, inside, call, after_new, scope, scoped, selected, suffix, prefixes, leaves, enclosed, cast_to, another}
use Rattle.mm_syntax.proofs.Claims.{ahead}
use Rattle.mm_syntax.proofs.Fitting.{fit}
use Rattle.mm_cursor.specs.Cursor.{Eats}
use Rattle.mm_cursor.proofs.Steps.{Took, good, ok_is, ate, other, avoid_both, pair, first_fails, second_fails, gives, gives_not, named, named_not, after, after_fails, before, before_fails, before_then_fails, some, none, some_fails, first_reads, first_one_fails, second_reads, second_one_fails, ungive, ungive_not, swap_reads, swap_fails}
use Rattle.mm_cursor.proofs.Lists.{Listed, list_step, list_end, list_fails, next_reads, next_fails}
use Rattle.mm_parse_expr.specs.Parts.{target, member, closing, cast_of}

abbrev t : Symbol → P Token
t symbol = token (symbol ∷ [])

-- ---- expr

pub expr_reads : (ts r1 r : List Token) (left v : Begun) (o : Option End) → Reads units (name or) ts left r1 → Reads units (opt end) r1 o r → v ≡ b.ended left o → Reads units (name expr) ts v r
expr_reads ts r1 r left v o a c e = ok_is (name expr) ts r v (b.ended left o) e (named expr ts r (b.ended left o) (gives (λ v. b.ended v.0 v.1) _ _ _ (left, o) (pair (name or) (opt end) refl ts r1 r left o a c)))

pub expr_no_left : (ts r : List Token) → Fails units (name or) ts r → Fails units (name expr) ts r
expr_no_left ts r a = named_not expr ts r (gives_not (λ v. b.ended v.0 v.1) _ _ _ (first_fails (name or) (opt end) refl ts r a))

pub expr_no_end : (ts r1 r : List Token) (left : Begun) → Reads units (name or) ts left r1 → Fails units (opt end) r1 r → Fails units (name expr) ts r
expr_no_end ts r1 r left a c = named_not expr ts r (gives_not (λ v. b.ended v.0 v.1) _ _ _ (second_fails (name or) (opt end) refl ts r1 r left a c))

-- ---- end

abbrev branches : P (Begun × Begun)
branches = seq (name expr) (give (λ v. v.1) (seq (t k.Colon) (name expr)))

choice_fails : (ts us r : List Token) (x : Token) → Took (k.Question ∷ []) ts x us → length r ≤ length us → Fails units branches us r → Fails units (opt end) ts r
choice_fails ts us r x h n a =
    some_fails end (k.Question ∷ []) refl refl ts us r x h n
    (first_one_fails _ _ (k.Question ∷ []) refl refl ts us r x h n
    (gives_not (λ v. b.chosen v.0 v.1.0 v.1.1) _ _ _ (second_fails (t k.Question) branches refl ts us r x (ate (k.Question ∷ []) ts us x h) a)))

pub end_no_yes : (ts us r : List Token) (x : Token) → Took (k.Question ∷ []) ts x us → length r ≤ length us → Fails units (name expr) us r → Fails units (opt end) ts r
end_no_yes ts us r x h n a = choice_fails ts us r x h n (first_fails (name expr) (give (λ v. v.1) (seq (t k.Colon) (name expr))) refl us r a)

pub end_no_colon : (ts us r1 r : List Token) (x : Token) (yea : Begun) → Took (k.Question ∷ []) ts x us → length r ≤ length us → Reads units (name expr) us yea r1 → Fails units (t k.Colon) r1 r → Fails units (opt end) ts r
end_no_colon ts us r1 r x yea h n a c = choice_fails ts us r x h n (second_fails (name expr) (give (λ v. v.1) (seq (t k.Colon) (name expr))) refl us r1 r yea a (gives_not (λ v. v.1) _ _ _ (first_fails (t k.Colon) (name expr) refl r1 r c)))

pub end_no_no : (ts us r1 r2 r : List Token) (x : Token) (yea : Begun) (c : Token) → Took (k.Question ∷ []) ts x us → length r ≤ length us → Reads units (name expr) us yea r1 → Reads units (t k.Colon) r1 c r2 → Fails units (name expr) r2 r → Fails units (opt end) ts r
end_no_no ts us r1 r2 r x yea c h n a d e = choice_fails ts us r x h n (second_fails (name expr) (give (λ v. v.1) (seq (t k.Colon) (name expr))) refl us r1 r yea a (after_fails (t k.Colon) (name expr) refl r1 r2 r c d e))

pub end_choice : (ts us r1 r2 r : List Token) (x : Token) (yea nay : Begun) (c : Token) (v : End) → Took (k.Question ∷ []) ts x us → Reads units (name expr) us yea r1 → Reads units (t k.Colon) r1 c r2 → Reads units (name expr) r2 nay r → v ≡ b.chosen x yea nay → Reads units (opt end) ts (Some v) r
end_choice ts us r1 r2 r x yea nay c v h a d e i =
    ok_is (opt end) ts r (Some v) (Some (b.chosen x yea nay)) (ap (λ w. Some w) i)
    (some end refl refl ts r (b.chosen x yea nay)
    (first_reads _ _ (k.Question ∷ []) refl refl ts us r x (b.chosen x yea nay) h
    (gives (λ v. b.chosen v.0 v.1.0 v.1.1) _ _ _ (x, (yea, nay)) (pair (t k.Question) branches refl ts us r x (yea, nay) (ate (k.Question ∷ []) ts us x h)
    (pair (name expr) (give (λ v. v.1) (seq (t k.Colon) (name expr))) refl us r1 r yea nay a (after (t k.Colon) (name expr) refl r1 r2 r c nay d e))))))

pub end_assign : (ts us vs r : List Token) (x : Token) (right : Begun) (v : End) → Eats (k.Question ∷ []) ts None us → Took assigning us x vs → Reads units (name expr) vs right r → v ≡ b.assigned x right → Reads units (opt end) ts (Some v) r
end_assign ts us vs r x right v h i a e =
    ok_is (opt end) ts r (Some v) (Some (b.assigned x right)) (ap (λ w. Some w) e)
    (some end refl refl ts r (b.assigned x right)
    (second_reads _ _ (k.Question ∷ []) refl refl ts us r (b.assigned x right) h
    (gives (λ v. b.assigned v.0 v.1) _ _ _ (x, right) (pair (token assigning) (name expr) refl us vs r x right (ate assigning us vs x i) a))))

pub end_no_right : (ts us vs r : List Token) (x : Token) → Eats (k.Question ∷ []) ts None us → Took assigning us x vs → length r ≤ length vs → Fails units (name expr) vs r → Fails units (opt end) ts r
end_no_right ts us vs r x h i n a =
    let i' : Took assigning ts x vs = (sym h.0 ∙ i.0, i.1) in
    some_fails end assigning refl refl ts vs r x i' n
    (second_one_fails _ _ (k.Question ∷ []) refl refl refl ts us r h
    (gives_not (λ v. b.assigned v.0 v.1) _ _ _ (second_fails (token assigning) (name expr) refl us vs r x (ate assigning us vs x i) a)))

pub end_none : (ts us r : List Token) → Eats (k.Question ∷ []) ts None us → Eats assigning us None r → Reads units (opt end) ts None r
end_none ts us r h i = subst (λ w. Reads units (opt end) ts None w) (sym (i.0 ∙ h.0)) (opt_none units ahead fit end (good (opt end) refl) ts (avoid_both (k.Question ∷ []) assigning ts us r h i))

-- ---- unary

pub unary_prefixed : (ts us r : List Token) (x : Token) (inner v : Begun) → Took prefixes ts x us → Reads units (name unary) us inner r → v ≡ b.prefixed x inner → Reads units (name unary) ts v r
unary_prefixed ts us r x inner v h a e = ok_is (name unary) ts r v (b.prefixed x inner) e (named unary ts r (b.prefixed x inner) (first_reads _ _ prefixes refl refl ts us r x (b.prefixed x inner) h
    (gives (λ v. b.prefixed v.0 v.1) _ _ _ (x, inner) (pair (token prefixes) (name unary) refl ts us r x inner (ate prefixes ts us x h) a))))

pub unary_no_operand : (ts us r : List Token) (x : Token) → Took prefixes ts x us → length r ≤ length us → Fails units (name unary) us r → Fails units (name unary) ts r
unary_no_operand ts us r x h n a = named_not unary ts r (first_one_fails _ _ prefixes refl refl ts us r x h n
    (gives_not (λ v. b.prefixed v.0 v.1) _ _ _ (second_fails (token prefixes) (name unary) refl ts us r x (ate prefixes ts us x h) a)))

pub unary_new : (ts us vs r : List Token) (x : Token) (kind : ExprKind) (v : Begun) → Eats prefixes ts None us → Took (k.New ∷ []) us x vs → Reads units after_new vs kind r → v ≡ b.begun kind x.place → Reads units (name unary) ts v r
unary_new ts us vs r x kind v h i a e = ok_is (name unary) ts r v (b.begun kind x.place) e (named unary ts r (b.begun kind x.place) (second_reads _ _ prefixes refl refl ts us r (b.begun kind x.place) h (first_reads _ _ (k.New ∷ []) refl refl us vs r x (b.begun kind x.place) i
    (gives (λ v. b.begun v.1 v.0.place) _ _ _ (x, kind) (pair (t k.New) after_new refl us vs r x kind (ate (k.New ∷ []) us vs x i) a)))))

pub unary_no_new : (ts us vs r : List Token) (x : Token) → Eats prefixes ts None us → Took (k.New ∷ []) us x vs → length r ≤ length vs → Fails units after_new vs r → Fails units (name unary) ts r
unary_no_new ts us vs r x h i n a = named_not unary ts r (second_one_fails _ _ prefixes refl refl refl ts us r h (first_one_fails _ _ (k.New ∷ []) refl refl us vs r x i n
    (gives_not (λ v. b.begun v.1 v.0.place) _ _ _ (second_fails (t k.New) after_new refl us vs r x (ate (k.New ∷ []) us vs x i) a))))

pub unary_postfix : (ts us vs r : List Token) (v : Begun) → Eats prefixes ts None us → Eats (k.New ∷ []) us None vs → Reads units (name postfix) vs v r → Reads units (name unary) ts v r
unary_postfix ts us vs r v h i a = named unary ts r v (second_reads _ _ prefixes refl refl ts us r v h (second_reads _ _ (k.New ∷ []) refl refl us vs r v i a))

pub unary_no_postfix : (ts us vs r : List Token) → Eats prefixes ts None us → Eats (k.New ∷ []) us None vs → Fails units (name postfix) vs r → Fails units (name unary) ts r
unary_no_postfix ts us vs r h i a = named_not unary ts r (second_one_fails _ _ prefixes refl refl refl ts us r h (second_one_fails _ _ (k.New ∷ []) refl refl refl us vs r i a))

-- ---- a call, in the places where there may be none

call_reads : (ts us r : List Token) (v : List Expr) (x : Token) → Took (k.Open ∷ []) ts x us → Reads units inside us v r → Reads units call ts v r
call_reads ts us r v x h a = after (t k.Open) inside refl ts us r x v (ate (k.Open ∷ []) ts us x h) a

call_fails : (ts us r : List Token) (x : Token) → Took (k.Open ∷ []) ts x us → Fails units inside us r → Fails units call ts r
call_fails ts us r x h a = after_fails (t k.Open) inside refl ts us r x (ate (k.Open ∷ []) ts us x h) a

-- ---- what follows `new`

pub made_no_class : (ts r : List Token) → Fails units (t k.Class) ts r → Fails units after_new ts r
made_no_class ts r a = gives_not (λ v. b.made v.0 v.1) _ _ _ (first_fails (t k.Class) (opt call) refl ts r a)

pub made_no_args : (ts r1 us r : List Token) (class : Token) (x : Token) → Reads units (t k.Class) ts class r1 → Took (k.Open ∷ []) r1 x us → length r ≤ length us → Fails units inside us r → Fails units after_new ts r
made_no_args ts r1 us r class x c h n a = gives_not (λ v. b.made v.0 v.1) _ _ _ (second_fails (t k.Class) (opt call) refl ts r1 r class c (some_fails call (k.Open ∷ []) refl refl r1 us r x h n (call_fails r1 us r x h a)))

pub made_with : (ts r1 us r : List Token) (class : Token) (x : Token) (xs : List Expr) (v : ExprKind) → Reads units (t k.Class) ts class r1 → Took (k.Open ∷ []) r1 x us → Reads units inside us xs r → v ≡ b.made class (Some xs) → Reads units after_new ts v r
made_with ts r1 us r class x xs v c h a e = ok_is after_new ts r v (b.made class (Some xs)) e (gives (λ v. b.made v.0 v.1) _ _ _ (class, Some xs) (pair (t k.Class) (opt call) refl ts r1 r class (Some xs) c (some call refl refl r1 r xs (call_reads r1 us r xs x h a))))

pub made_plain : (ts r1 r : List Token) (class : Token) (v : ExprKind) → Reads units (t k.Class) ts class r1 → Eats (k.Open ∷ []) r1 None r → v ≡ b.made class None → Reads units after_new ts v r
made_plain ts r1 r class v c h e = ok_is after_new ts r v (b.made class None) e (gives (λ v. b.made v.0 v.1) _ _ _ (class, None) (pair (t k.Class) (opt call) refl ts r1 r class None c (none call (k.Open ∷ []) refl refl r1 r h)))

-- ---- primary

pub primary_leaf : (ts r : List Token) (x : Token) (v : Begun) → Took leaves ts x r → v ≡ b.leaf x → Reads units (name primary) ts v r
primary_leaf ts r x v h e = ok_is (name primary) ts r v (b.leaf x) e (named primary ts r (b.leaf x) (first_reads _ _ leaves refl refl ts r r x (b.leaf x) h (gives b.leaf _ _ _ x (ate leaves ts r x h))))

pub primary_enclosed : (ts us vs r : List Token) (x : Token) (inner v : Begun) → Eats leaves ts None us → Took (k.Open ∷ []) us x vs → Reads units closing vs inner r → v ≡ b.enclosed x inner → Reads units (name primary) ts v r
primary_enclosed ts us vs r x inner v h i a e = ok_is (name primary) ts r v (b.enclosed x inner) e (named primary ts r (b.enclosed x inner) (second_reads _ _ leaves refl refl ts us r (b.enclosed x inner) h (first_reads _ _ (k.Open ∷ []) refl refl us vs r x (b.enclosed x inner) i
    (gives (λ v. b.enclosed v.0 v.1) _ _ _ (x, inner) (pair (t k.Open) closing refl us vs r x inner (ate (k.Open ∷ []) us vs x i) a)))))

pub primary_not_closed : (ts us vs r : List Token) (x : Token) → Eats leaves ts None us → Took (k.Open ∷ []) us x vs → length r ≤ length vs → Fails units closing vs r → Fails units (name primary) ts r
primary_not_closed ts us vs r x h i n a = named_not primary ts r (second_one_fails _ _ leaves refl refl refl ts us r h (first_one_fails _ _ (k.Open ∷ []) refl refl us vs r x i n
    (gives_not (λ v. b.enclosed v.0 v.1) _ _ _ (second_fails (t k.Open) closing refl us vs r x (ate (k.Open ∷ []) us vs x i) a))))

abbrev casts : P Begun
casts = give (λ v. b.cast v.0 v.1.0 v.1.1) (seq (t k.DynamicCast) cast_to)

pub primary_cast : (ts us vs ws r : List Token) (x : Token) (v : Begun) → Eats leaves ts None us → Eats (k.Open ∷ []) us None vs → Took (k.DynamicCast ∷ []) vs x ws → Reads units (give (λ v. b.cast x v.0 v.1) cast_to) ws v r → Reads units (name primary) ts v r
primary_cast ts us vs ws r x v h i j a =
    let w = ungive (λ v. b.cast x v.0 v.1) cast_to ws r v a in
    ok_is (name primary) ts r v (b.cast x w.0.0 w.0.1) w.1 (named primary ts r (b.cast x w.0.0 w.0.1) (second_reads _ _ leaves refl refl ts us r (b.cast x w.0.0 w.0.1) h (second_reads _ _ (k.Open ∷ []) refl refl us vs r (b.cast x w.0.0 w.0.1) i
    (swap_reads scoped casts vs r (b.cast x w.0.0 w.0.1) (first_reads casts scoped (k.DynamicCast ∷ []) refl refl vs ws r x (b.cast x w.0.0 w.0.1) j
    (gives (λ v. b.cast v.0 v.1.0 v.1.1) _ _ _ (x, w.0) (pair (t k.DynamicCast) cast_to refl vs ws r x w.0 (ate (k.DynamicCast ∷ []) vs ws x j) w.2)))))))

pub primary_no_cast : (ts us vs ws r : List Token) (x : Token) → Eats leaves ts None us → Eats (k.Open ∷ []) us None vs → Took (k.DynamicCast ∷ []) vs x ws → length r ≤ length ws → Fails units (give (λ v. b.cast x v.0 v.1) cast_to) ws r → Fails units (name primary) ts r
primary_no_cast ts us vs ws r x h i j n a =
    named_not primary ts r (second_one_fails _ _ leaves refl refl refl ts us r h (second_one_fails _ _ (k.Open ∷ []) refl refl refl us vs r i
    (swap_fails scoped casts vs r (first_one_fails casts scoped (k.DynamicCast ∷ []) refl refl vs ws r x j n
    (gives_not (λ v. b.cast v.0 v.1.0 v.1.1) _ _ _ (second_fails (t k.DynamicCast) cast_to refl vs ws r x (ate (k.DynamicCast ∷ []) vs ws x j) (ungive_not (λ v. b.cast x v.0 v.1) cast_to ws r a)))))))

pub primary_scoped : (ts us vs ws r : List Token) (v : Begun) → Eats leaves ts None us → Eats (k.Open ∷ []) us None vs → Eats (k.DynamicCast ∷ []) vs None ws → Reads units scoped ws v r → Reads units (name primary) ts v r
primary_scoped ts us vs ws r v h i j a = named primary ts r v (second_reads _ _ leaves refl refl ts us r v h (second_reads _ _ (k.Open ∷ []) refl refl us vs r v i
    (swap_reads scoped casts vs r v (second_reads casts scoped (k.DynamicCast ∷ []) refl refl vs ws r v j a))))

pub primary_no_scoped : (ts us vs ws r : List Token) → Eats leaves ts None us → Eats (k.Open ∷ []) us None vs → Eats (k.DynamicCast ∷ []) vs None ws → Fails units scoped ws r → Fails units (name primary) ts r
primary_no_scoped ts us vs ws r h i j a = named_not primary ts r (second_one_fails _ _ leaves refl refl refl ts us r h (second_one_fails _ _ (k.Open ∷ []) refl refl refl us vs r i
    (swap_fails scoped casts vs r (second_one_fails casts scoped (k.DynamicCast ∷ []) refl refl refl vs ws r j a))))

-- ---- K :: W

scope_reads : (ts r1 r : List Token) (class mark : Token) → Reads units (t k.Class) ts class r1 → Reads units (t k.Scope) r1 mark r → Reads units scope ts class r
scope_reads ts r1 r class mark a c = before (t k.Class) (t k.Scope) refl ts r1 r class mark a c

pub scoped_no_class : (ts r : List Token) → Fails units (t k.Class) ts r → Fails units scoped ts r
scoped_no_class ts r a = gives_not (λ v. b.scoped v.0 v.1) _ _ _ (first_fails scope (t k.Word) refl ts r (before_fails (t k.Class) (t k.Scope) refl ts r a))

pub scoped_no_mark : (ts r1 r : List Token) (class : Token) → Reads units (t k.Class) ts class r1 → Fails units (t k.Scope) r1 r → Fails units scoped ts r
scoped_no_mark ts r1 r class a c = gives_not (λ v. b.scoped v.0 v.1) _ _ _ (first_fails scope (t k.Word) refl ts r (before_then_fails (t k.Class) (t k.Scope) refl ts r1 r class a c))

pub scoped_no_word : (ts r1 r2 r : List Token) (class mark : Token) → Reads units (t k.Class) ts class r1 → Reads units (t k.Scope) r1 mark r2 → Fails units (t k.Word) r2 r → Fails units scoped ts r
scoped_no_word ts r1 r2 r class mark a c d = gives_not (λ v. b.scoped v.0 v.1) _ _ _ (second_fails scope (t k.Word) refl ts r2 r class (scope_reads ts r1 r2 class mark a c) d)

pub scoped_reads : (ts r1 r2 r : List Token) (class mark word : Token) (v : Begun) → Reads units (t k.Class) ts class r1 → Reads units (t k.Scope) r1 mark r2 → Reads units (t k.Word) r2 word r → v ≡ b.scoped class word → Reads units scoped ts v r
scoped_reads ts r1 r2 r class mark word v a c d e = ok_is scoped ts r v (b.scoped class word) e (gives (λ v. b.scoped v.0 v.1) _ _ _ (class, word) (pair scope (t k.Word) refl ts r2 r class word (scope_reads ts r1 r2 class mark a c) d))

-- ---- what follows `.` or `->`

pub member_no_mark : (op : Token) (ts us r : List Token) (class : Token) → Took (k.Class ∷ []) ts class us → length r ≤ length us → Fails units (t k.Scope) us r → Fails units (member op) ts r
member_no_mark op ts us r class h n a = gives_not (λ v. b.member_of op v.0 v.1) _ _ _ (first_fails (opt scope) (t k.Word) refl ts r (some_fails scope (k.Class ∷ []) refl refl ts us r class h n (before_then_fails (t k.Class) (t k.Scope) refl ts us r class (ate (k.Class ∷ []) ts us class h) a)))

pub member_no_word : (op : Token) (ts us r1 r : List Token) (class : Token) (mark : Token) → Took (k.Class ∷ []) ts class us → Reads units (t k.Scope) us mark r1 → Fails units (t k.Word) r1 r → Fails units (member op) ts r
member_no_word op ts us r1 r class mark h a c = gives_not (λ v. b.member_of op v.0 v.1) _ _ _ (second_fails (opt scope) (t k.Word) refl ts r1 r (Some class) (some scope refl refl ts r1 class (scope_reads ts us r1 class mark (ate (k.Class ∷ []) ts us class h) a)) c)

pub member_with : (op : Token) (ts us r1 r : List Token) (class : Token) (mark word : Token) (v : Suffix) → Took (k.Class ∷ []) ts class us → Reads units (t k.Scope) us mark r1 → Reads units (t k.Word) r1 word r → v ≡ b.member_of op (Some class) word → Reads units (member op) ts v r
member_with op ts us r1 r class mark word v h a c e = ok_is (member op) ts r v (b.member_of op (Some class) word) e (gives (λ v. b.member_of op v.0 v.1) _ _ _ (Some class, word) (pair (opt scope) (t k.Word) refl ts r1 r (Some class) word (some scope refl refl ts r1 class (scope_reads ts us r1 class mark (ate (k.Class ∷ []) ts us class h) a)) c))

pub member_no_plain : (op : Token) (ts us r : List Token) → Eats (k.Class ∷ []) ts None us → Fails units (t k.Word) us r → Fails units (member op) ts r
member_no_plain op ts us r h a = gives_not (λ v. b.member_of op v.0 v.1) _ _ _ (second_fails (opt scope) (t k.Word) refl ts us r None (none scope (k.Class ∷ []) refl refl ts us h) a)

pub member_plain : (op : Token) (ts us r : List Token) (word : Token) (v : Suffix) → Eats (k.Class ∷ []) ts None us → Reads units (t k.Word) us word r → v ≡ b.member_of op None word → Reads units (member op) ts v r
member_plain op ts us r word v h a e = ok_is (member op) ts r v (b.member_of op None word) e (gives (λ v. b.member_of op v.0 v.1) _ _ _ (None, word) (pair (opt scope) (t k.Word) refl ts us r None word (none scope (k.Class ∷ []) refl refl ts us h) a))

-- ---- what follows a primary

pub suffix_called : (ts us r : List Token) (x : Token) (xs : List Expr) (v : Suffix) → Took (k.Open ∷ []) ts x us → Reads units inside us xs r → v ≡ b.called xs → Reads units (opt suffix) ts (Some v) r
suffix_called ts us r x xs v h a e = ok_is (opt suffix) ts r (Some v) (Some (b.called xs)) (ap (λ w. Some w) e) (some suffix refl refl ts r (b.called xs)
    (first_reads _ _ (k.Open ∷ []) refl refl ts us r x (b.called xs) h (gives b.called _ _ _ xs (call_reads ts us r xs x h a))))

pub suffix_no_call : (ts us r : List Token) (x : Token) → Took (k.Open ∷ []) ts x us → length r ≤ length us → Fails units inside us r → Fails units (opt suffix) ts r
suffix_no_call ts us r x h n a = some_fails suffix (k.Open ∷ []) refl refl ts us r x h n
    (first_one_fails _ _ (k.Open ∷ []) refl refl ts us r x h n (gives_not b.called _ _ _ (call_fails ts us r x h a)))

abbrev marks : List Symbol
marks = k.Dot ∷ k.Arrow ∷ []

abbrev steps : List Symbol
steps = k.PlusPlus ∷ k.MinusMinus ∷ []

pub suffix_member : (ts us vs r : List Token) (x : Token) (v : Suffix) → Eats (k.Open ∷ []) ts None us → Took marks us x vs → Reads units (member x) vs v r → Reads units (opt suffix) ts (Some v) r
suffix_member ts us vs r x v h i a =
    let w = ungive (λ v. b.member_of x v.0 v.1) selected vs r v a in
    ok_is (opt suffix) ts r (Some v) (Some (b.member_of x w.0.0 w.0.1)) (ap (λ w. Some w) w.1) (some suffix refl refl ts r (b.member_of x w.0.0 w.0.1)
    (second_reads _ _ (k.Open ∷ []) refl refl ts us r (b.member_of x w.0.0 w.0.1) h (first_reads _ _ marks refl refl us vs r x (b.member_of x w.0.0 w.0.1) i
    (gives (λ v. b.member_of v.0 v.1.0 v.1.1) _ _ _ (x, w.0) (pair (token marks) selected refl us vs r x w.0 (ate marks us vs x i) w.2)))))

pub suffix_no_member : (ts us vs r : List Token) (x : Token) → Eats (k.Open ∷ []) ts None us → Took marks us x vs → length r ≤ length vs → Fails units (member x) vs r → Fails units (opt suffix) ts r
suffix_no_member ts us vs r x h i n a =
    let i' : Took marks ts x vs = (sym h.0 ∙ i.0, i.1) in
    some_fails suffix marks refl refl ts vs r x i' n
    (second_one_fails _ _ (k.Open ∷ []) refl refl refl ts us r h (first_one_fails _ _ marks refl refl us vs r x i n
    (gives_not (λ v. b.member_of v.0 v.1.0 v.1.1) _ _ _ (second_fails (token marks) selected refl us vs r x (ate marks us vs x i) (ungive_not (λ v. b.member_of x v.0 v.1) selected vs r a)))))

pub suffix_stepped : (ts us vs r : List Token) (x : Token) (v : Suffix) → Eats (k.Open ∷ []) ts None us → Eats marks us None vs → Took steps vs x r → v ≡ b.stepped x → Reads units (opt suffix) ts (Some v) r
suffix_stepped ts us vs r x v h i j e = ok_is (opt suffix) ts r (Some v) (Some (b.stepped x)) (ap (λ w. Some w) e) (some suffix refl refl ts r (b.stepped x)
    (second_reads _ _ (k.Open ∷ []) refl refl ts us r (b.stepped x) h (second_reads _ _ marks refl refl us vs r (b.stepped x) i
    (gives b.stepped _ _ _ x (ate steps vs r x j)))))

pub suffix_none : (ts us vs r : List Token) → Eats (k.Open ∷ []) ts None us → Eats marks us None vs → Eats steps vs None r → Reads units (opt suffix) ts None r
suffix_none ts us vs r h i j = subst (λ w. Reads units (opt suffix) ts None w) (sym (j.0 ∙ (i.0 ∙ h.0)))
    (opt_none units ahead fit suffix (good (opt suffix) refl) ts (λ x s e a. elim (has-split (number_of (symbol_of x)) (map number_of (k.Open ∷ [])) (map number_of marks ++ map number_of steps) a)
    [ inl c ↦ h.1 x s e c | inr c ↦ avoid_both marks steps us vs r i j x s (h.0 ∙ e) c ]))

-- ---- postfix

abbrev pub SuffixesSoFar : Begun → List Token → List Token → Type 0
SuffixesSoFar left ts rest = SoFar units (rule_of postfix) suffix (b.suffixed left) ts rest

pub postfix_start : (ts r : List Token) (v : Begun) → Reads units (name primary) ts v r → SuffixesSoFar v ts r
postfix_start ts r v a = begun units ahead fit (λ v. b.suffixed v.0 v.1) (name primary) suffix (good (seq (name primary) (many suffix)) refl) ts r v a

pub postfix_not : (ts r : List Token) → Fails units (name primary) ts r → Fails units (name postfix) ts r
postfix_not ts r a = named_not postfix ts r (not_begun units ahead fit (λ v. b.suffixed v.0 v.1) (name primary) suffix (good (seq (name primary) (many suffix)) refl) ts r a)

pub postfix_step : (ts rest r : List Token) (left next : Begun) (s : Suffix) → SuffixesSoFar left ts rest → Reads units (opt suffix) rest (Some s) r → next ≡ b.with_suffix left s → SuffixesSoFar next ts r
postfix_step ts rest r left next s so a n = once_more units ahead fit (rule_of postfix) suffix (b.suffixed left) (b.suffixed next) (good (many suffix) refl) ts rest r s so (opt_some_of units ahead fit suffix rest r s a) (λ xs. ap (λ l. b.suffixed l xs) (sym n))

pub postfix_end : (ts rest r : List Token) (left : Begun) → SuffixesSoFar left ts rest → Reads units (opt suffix) rest None r → Reads units (name postfix) ts left r
postfix_end ts rest r left so a = named postfix ts r left (so.reads [] r (many_none_of units ahead fit suffix (good (many suffix) refl) rest r a))

pub postfix_fails : (ts rest r : List Token) (left : Begun) → SuffixesSoFar left ts rest → Fails units (opt suffix) rest r → Fails units (name postfix) ts r
postfix_fails ts rest r left so a = named_not postfix ts r (failed_inside units ahead fit (rule_of postfix) suffix (b.suffixed left) (good (many suffix) refl) ts rest r (opt_fail_shorter units ahead fit suffix rest r a) so (opt_fail_of units ahead fit suffix rest r a))

-- ---- the inside of a call's parentheses

abbrev some_args_then : P (List Expr)
some_args_then = give b.listed (opt (name args))

pub inside_empty : (ts r : List Token) (x : Token) (list : List Expr) → Took (k.Close ∷ []) ts x r → list ≡ [] → Reads units inside ts list r
inside_empty ts r x list h e =
    ok_is inside ts r list [] e
    (before some_args_then (t k.Close) refl ts ts r [] x
    (gives b.listed (opt (name args)) ts ts None (opt_none units ahead fit (name args) (good (opt (name args)) refl) ts (other (k.Close ∷ []) (first_of units ahead (name args)) refl ts r x h))) (ate (k.Close ∷ []) ts r x h))

some_args : (ts us r : List Token) (v : List Expr) → Eats (k.Close ∷ []) ts None us → Reads units (name args) us v r → Reads units some_args_then ts v r
some_args ts us r v h a = gives b.listed (opt (name args)) ts r (Some v) (some (name args) refl refl ts r v (subst (λ w. Reads units (name args) w v r) h.0 a))

pub inside_some : (ts us r1 r : List Token) (v : List Expr) (x : Token) → Eats (k.Close ∷ []) ts None us → Reads units (name args) us v r1 → Reads units (t k.Close) r1 x r → Reads units inside ts v r
inside_some ts us r1 r v x h a c = before some_args_then (t k.Close) refl ts r1 r v x (some_args ts us r1 v h a) c

pub inside_unclosed : (ts us r1 r : List Token) (v : List Expr) → Eats (k.Close ∷ []) ts None us → Reads units (name args) us v r1 → Fails units (t k.Close) r1 r → Fails units inside ts r
inside_unclosed ts us r1 r v h a c = before_then_fails some_args_then (t k.Close) refl ts r1 r v (some_args ts us r1 v h a) c

pub inside_fails : (ts us r : List Token) → Eats (k.Close ∷ []) ts None us → Fails units (name args) us r → Fails units inside ts r
inside_fails ts us r h a =
    let f = opt_then_fail units ahead fit (name args) (t k.Close) (good (seq (opt (name args)) (t k.Close)) refl) (good (t k.Close) refl) refl ts r h.1 (subst (λ w. Fails units (name args) w r) h.0 a) in
    record {
      used = f.used;
      cut = f.cut;
      front = elim f.front [ inl i ↦ inl i | inr i ↦ inr (i.0, i.1, b.listed i.2, i.3, (i.2, refl, i.4), i.5) ];
      not_spelled = λ v s. (let s1 = s.2 in f.not_spelled (s1.3.0, s.0.1) (s1.0, s1.1, s1.2, s1.3.2, s1.4));
      stuck = λ x s tail e g. f.stuck x s tail e (elim g [ inl i ↦ inl i | inr i ↦ inr (i.0, i.1, i.4.0, i.3, i.4.2, i.5) ]);
    }

-- ---- args

abbrev pub ArgsSoFar : List Expr → List Token → List Token → Type 0
ArgsSoFar list ts rest = Listed (rule_of args) another list ts rest

pub args_start : (ts r : List Token) (v : Begun) (list : List Expr) → Reads units (name expr) ts v r → list ≡ v.tree ∷ [] → ArgsSoFar list ts r
args_start ts r v list a e = subst (λ l. ArgsSoFar l ts r) (sym e) (begun units ahead fit (λ v. v.0.tree ∷ v.1) (name expr) another (good (seq (name expr) (many another)) refl) ts r v a)

pub args_not : (ts r : List Token) → Fails units (name expr) ts r → Fails units (name args) ts r
args_not ts r a = named_not args ts r (not_begun units ahead fit (λ v. v.0.tree ∷ v.1) (name expr) another (good (seq (name expr) (many another)) refl) ts r a)

pub args_step : (ts rest us r : List Token) (list next : List Expr) (v : Begun) (x : Token) → ArgsSoFar list ts rest → Took (k.Comma ∷ []) rest x us → Reads units (name expr) us v r → next ≡ list ++ v.tree ∷ [] → ArgsSoFar next ts r
args_step ts rest us r list next v x s h a n = list_step (rule_of args) another refl ts rest r list next v.tree s (gives (λ v. v.tree) _ rest r v (next_reads (name expr) refl rest us r x v h a)) n

pub args_end : (ts rest us : List Token) (list : List Expr) → ArgsSoFar list ts rest → Eats (k.Comma ∷ []) rest None us → Reads units (name args) ts list us
args_end ts rest us list s h = named args ts us list (subst (λ w. Reads units (rule_of args) ts list w) (sym h.0) (list_end (rule_of args) another refl ts rest list s h.1))

pub args_fail : (ts rest us r : List Token) (list : List Expr) (x : Token) → ArgsSoFar list ts rest → Took (k.Comma ∷ []) rest x us → length r ≤ length us → Fails units (name expr) us r → Fails units (name args) ts r
args_fail ts rest us r list x s h n a =
    named_not args ts r (list_fails (rule_of args) another refl ts rest us r list x s h n (gives_not (λ v. v.tree) _ rest r (next_fails (name expr) refl rest us r x h a)))

-- ---- expr )

pub closing_no_expr : (ts r : List Token) → Fails units (name expr) ts r → Fails units closing ts r
closing_no_expr ts r a = before_fails (name expr) (t k.Close) refl ts r a

pub closing_no_mark : (ts r1 r : List Token) (v : Begun) → Reads units (name expr) ts v r1 → Fails units (t k.Close) r1 r → Fails units closing ts r
closing_no_mark ts r1 r v a c = before_then_fails (name expr) (t k.Close) refl ts r1 r v a c

pub closing_reads : (ts r1 r : List Token) (v : Begun) (x : Token) → Reads units (name expr) ts v r1 → Reads units (t k.Close) r1 x r → Reads units closing ts v r
closing_reads ts r1 r v x a c = before (name expr) (t k.Close) refl ts r1 r v x a c

-- ---- < K * >

abbrev starred : P Token
starred = give (λ v. v.0) (seq (t k.Class) (t k.Star))

abbrev bracketed : P Token
bracketed = give (λ v. v.0) (seq starred (t k.Greater))

abbrev targeted : P Token
targeted = give (λ v. v.1) (seq (t k.Less) bracketed)

pub target_no_less : (ts r : List Token) → Fails units (t k.Less) ts r → Fails units target ts r
target_no_less ts r a = gives_not b.name_of targeted ts r (gives_not (λ v. v.1) _ ts r (first_fails (t k.Less) bracketed refl ts r a))

pub target_no_class : (ts r1 r : List Token) (x : Token) → Reads units (t k.Less) ts x r1 → Fails units (t k.Class) r1 r → Fails units target ts r
target_no_class ts r1 r x a c = gives_not b.name_of targeted ts r (after_fails (t k.Less) bracketed refl ts r1 r x a (before_fails starred (t k.Greater) refl r1 r (before_fails (t k.Class) (t k.Star) refl r1 r c)))

pub target_no_star : (ts r1 r2 r : List Token) (x class : Token) → Reads units (t k.Less) ts x r1 → Reads units (t k.Class) r1 class r2 → Fails units (t k.Star) r2 r → Fails units target ts r
target_no_star ts r1 r2 r x class a c d = gives_not b.name_of targeted ts r (after_fails (t k.Less) bracketed refl ts r1 r x a (before_fails starred (t k.Greater) refl r1 r (before_then_fails (t k.Class) (t k.Star) refl r1 r2 r class c d)))

pub target_no_greater : (ts r1 r2 r3 r : List Token) (x class y : Token) → Reads units (t k.Less) ts x r1 → Reads units (t k.Class) r1 class r2 → Reads units (t k.Star) r2 y r3 → Fails units (t k.Greater) r3 r → Fails units target ts r
target_no_greater ts r1 r2 r3 r x class y a c d f = gives_not b.name_of targeted ts r (after_fails (t k.Less) bracketed refl ts r1 r x a (before_then_fails starred (t k.Greater) refl r1 r3 r class (before (t k.Class) (t k.Star) refl r1 r2 r3 class y c d) f))

pub target_reads : (ts r1 r2 r3 r : List Token) (x class y z : Token) (v : Name) → Reads units (t k.Less) ts x r1 → Reads units (t k.Class) r1 class r2 → Reads units (t k.Star) r2 y r3 → Reads units (t k.Greater) r3 z r → v ≡ b.name_of class → Reads units target ts v r
target_reads ts r1 r2 r3 r x class y z v a c d f e = ok_is target ts r v (b.name_of class) e (gives b.name_of targeted ts r class (after (t k.Less) bracketed refl ts r1 r x class a (before starred (t k.Greater) refl r1 r3 r class z (before (t k.Class) (t k.Star) refl r1 r2 r3 class y c d) f)))

-- ---- what follows `dynamic_cast`

pub cast_no_target : (word : Token) (ts r : List Token) → Fails units target ts r → Fails units (give (λ v. b.cast word v.0 v.1) cast_to) ts r
cast_no_target word ts r a = gives_not (λ v. b.cast word v.0 v.1) cast_to ts r (first_fails targeted enclosed refl ts r (ungive_not b.name_of targeted ts r a))

target_token : (ts r : List Token) (class : Name) → Reads units target ts class r → (w : Token) × (class ≡ b.name_of w) × Reads units targeted ts w r
target_token ts r class a = ungive b.name_of targeted ts r class a

pub cast_no_open : (word : Token) (ts r1 r : List Token) (class : Name) → Reads units target ts class r1 → Fails units (t k.Open) r1 r → Fails units (give (λ v. b.cast word v.0 v.1) cast_to) ts r
cast_no_open word ts r1 r class a c =
    let w = target_token ts r1 class a in
    gives_not (λ v. b.cast word v.0 v.1) cast_to ts r (second_fails targeted enclosed refl ts r1 r w.0 w.2 (gives_not (λ v. v.1) _ r1 r (first_fails (t k.Open) closing refl r1 r c)))

pub cast_no_operand : (word : Token) (ts r1 r2 r : List Token) (class : Name) (x : Token) → Reads units target ts class r1 → Reads units (t k.Open) r1 x r2 → Fails units closing r2 r → Fails units (give (λ v. b.cast word v.0 v.1) cast_to) ts r
cast_no_operand word ts r1 r2 r class x a c d =
    let w = target_token ts r1 class a in
    gives_not (λ v. b.cast word v.0 v.1) cast_to ts r (second_fails targeted enclosed refl ts r1 r w.0 w.2 (after_fails (t k.Open) closing refl r1 r2 r x c d))

pub cast_reads : (word : Token) (ts r1 r2 r : List Token) (class : Name) (x : Token) (operand v : Begun) → Reads units target ts class r1 → Reads units (t k.Open) r1 x r2 → Reads units closing r2 operand r → v ≡ cast_of word class operand → Reads units (give (λ v. b.cast word v.0 v.1) cast_to) ts v r
cast_reads word ts r1 r2 r class x operand v a c d e =
    let w = target_token ts r1 class a in
    ok_is (give (λ v. b.cast word v.0 v.1) cast_to) ts r v (b.cast word w.0 operand) (e ∙ ap (λ n. cast_of word n operand) w.1)
    (gives (λ v. b.cast word v.0 v.1) cast_to ts r (w.0, operand) (pair targeted enclosed refl ts r1 r w.0 operand w.2 (after (t k.Open) closing refl r1 r2 r x operand c d)))
