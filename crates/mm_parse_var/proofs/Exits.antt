-- The exits of each reader of types, variables and simple statements, over plain lists of tokens.
use Rattle.std.proofs.Common.{◌≡◌, ◌≤◌, List, [], ◌∷◌, length, refl, ap, sym, ◌∙◌, subst, Option, Some, None, option_copied}
use Rattle.std.specs.Borrow.{Bor}
use Rattle.mm_grammar.specs.Grammar.{name, seq, alt, many, give, opt, Reads, Fails}
use Rattle.mm_grammar.proofs.Loops.{opt_none}
use Rattle.mm_token.specs.declared.token.Token.{Token}
use Rattle.mm_syntax.specs.declared.symbol.Symbol.{Symbol}
use Rattle.mm_syntax.specs.declared.symbol.Symbol.TheVariants as k
use Rattle.mm_syntax.specs.declared.name.DeclaratorMark.{DeclaratorMark}
use Rattle.mm_syntax.specs.declared.expr.Expr.{Expr}
use Rattle.mm_syntax.specs.declared.expr.TypeName.{TypeName}
use Rattle.mm_syntax.specs.declared.part.Begun.{Begun}
use Rattle.mm_syntax.specs.declared.stmt.Declarator.{Declarator}
use Rattle.mm_syntax.specs.declared.stmt.Initializer.{Initializer}
use Rattle.mm_syntax.specs.declared.stmt.Variables.{Variables}
use Rattle.mm_syntax.specs.Built as b
use Rattle.mm_syntax.specs.BuiltStatements as bs
use Rattle.mm_syntax.specs.Rules.{P, units, token, expr, args, type_name, declarator, var, void_type, number_type, class_type, mark, initial, next_declarator, expr_stmt, ◌▸◌, ◌◂◌}
use Rattle.mm_syntax.proofs.Claims.{ahead}
use Rattle.mm_syntax.proofs.Fitting.{fit}
use Rattle.mm_cursor.specs.Cursor.{Eats}
use Rattle.mm_cursor.proofs.Steps.{Took, good, ok_is, ate, avoid_both, pair, first_fails, second_fails, gives, gives_not, named, named_not, after, after_fails, before, before_fails, before_then_fails, some, none, some_fails, first_reads, first_one_fails, second_reads, second_one_fails, ungive, ungive_not, swap_reads, swap_fails, token_taken}
use Rattle.mm_parse_var.specs.Parts.{declarators, following, value_of, arguments_of}

abbrev t : Symbol → P Token
t symbol = token (symbol ∷ [])

-- ---- types

abbrev words : List Symbol
words = k.Bool ∷ k.Int ∷ []

pub number_word : (ts r : List Token) (x : Token) (v : TypeName) → Took words ts x r → v ≡ b.word_type x → Reads units number_type ts v r
number_word ts r x v h e = ok_is number_type ts r v (b.word_type x) e (first_reads _ _ words refl refl ts r r x (b.word_type x) h (gives b.word_type _ _ _ x (ate words ts r x h)))

pub number_no_word : (ts us r : List Token) → Eats words ts None us → Fails units (t k.Unsigned) us r → Fails units number_type ts r
number_no_word ts us r h a = second_one_fails _ _ words refl refl refl ts us r h (gives_not (λ v. b.unsigned_type v.0 v.1) _ _ _ (first_fails (t k.Unsigned) (opt (t k.Int)) refl us r a))

pub number_unsigned : (ts us r1 r : List Token) (x : Token) (o : Option (Bor Token)) (v : TypeName) → Eats words ts None us → Reads units (t k.Unsigned) us x r1 → Eats (k.Int ∷ []) r1 o r → v ≡ b.unsigned_type x (option_copied o) → Reads units number_type ts v r
number_unsigned ts us r1 r x o v h a i e = ok_is number_type ts r v (b.unsigned_type x (option_copied o)) e (second_reads _ _ words refl refl ts us r (b.unsigned_type x (option_copied o)) h
    (gives (λ v. b.unsigned_type v.0 v.1) _ _ _ (x, option_copied o) (pair (t k.Unsigned) (opt (t k.Int)) refl us r1 r x (option_copied o) a (token_taken (k.Int ∷ []) refl r1 r o i))))

pub word_void : (ts r : List Token) (x : Token) (v : TypeName) → Took (k.Void ∷ []) ts x r → v ≡ b.word_type x → Reads units (alt void_type number_type) ts v r
word_void ts r x v h e = ok_is (alt void_type number_type) ts r v (b.word_type x) e (first_reads void_type number_type (k.Void ∷ []) refl refl ts r r x (b.word_type x) h (gives b.word_type _ _ _ x (ate (k.Void ∷ []) ts r x h)))

pub word_number : (ts us r : List Token) (v : TypeName) → Eats (k.Void ∷ []) ts None us → Reads units number_type us v r → Reads units (alt void_type number_type) ts v r
word_number ts us r v h a = second_reads void_type number_type (k.Void ∷ []) refl refl ts us r v h a

pub word_not : (ts us r : List Token) → Eats (k.Void ∷ []) ts None us → Fails units number_type us r → Fails units (alt void_type number_type) ts r
word_not ts us r h a = second_one_fails void_type number_type (k.Void ∷ []) refl refl refl ts us r h a

pub object_class : (ts r : List Token) (x : Token) (v : TypeName) → Took (k.Class ∷ []) ts x r → v ≡ b.class_type x → Reads units (alt number_type class_type) ts v r
object_class ts r x v h e = ok_is (alt number_type class_type) ts r v (b.class_type x) e (swap_reads number_type class_type ts r (b.class_type x) (first_reads class_type number_type (k.Class ∷ []) refl refl ts r r x (b.class_type x) h (gives b.class_type _ _ _ x (ate (k.Class ∷ []) ts r x h))))

pub object_number : (ts us r : List Token) (v : TypeName) → Eats (k.Class ∷ []) ts None us → Reads units number_type us v r → Reads units (alt number_type class_type) ts v r
object_number ts us r v h a = swap_reads number_type class_type ts r v (second_reads class_type number_type (k.Class ∷ []) refl refl ts us r v h a)

pub object_not : (ts us r : List Token) → Eats (k.Class ∷ []) ts None us → Fails units number_type us r → Fails units (alt number_type class_type) ts r
object_not ts us r h a = swap_fails number_type class_type ts r (second_one_fails class_type number_type (k.Class ∷ []) refl refl refl ts us r h a)

pub type_void : (ts r : List Token) (x : Token) (v : TypeName) → Took (k.Void ∷ []) ts x r → v ≡ b.word_type x → Reads units (name type_name) ts v r
type_void ts r x v h e = ok_is (name type_name) ts r v (b.word_type x) e (named type_name ts r (b.word_type x) (first_reads void_type (alt number_type class_type) (k.Void ∷ []) refl refl ts r r x (b.word_type x) h (gives b.word_type _ _ _ x (ate (k.Void ∷ []) ts r x h))))

pub type_object : (ts us r : List Token) (v : TypeName) → Eats (k.Void ∷ []) ts None us → Reads units (alt number_type class_type) us v r → Reads units (name type_name) ts v r
type_object ts us r v h a = named type_name ts r v (second_reads void_type (alt number_type class_type) (k.Void ∷ []) refl refl ts us r v h a)

pub type_not : (ts us r : List Token) → Eats (k.Void ∷ []) ts None us → Fails units (alt number_type class_type) us r → Fails units (name type_name) ts r
type_not ts us r h a = named_not type_name ts r (second_one_fails void_type (alt number_type class_type) (k.Void ∷ []) refl refl refl ts us r h a)

-- ---- marks

abbrev marks : List Symbol
marks = k.Star ∷ k.And ∷ []

pub mark_some : (ts r : List Token) (x : Token) (v : DeclaratorMark) → Took marks ts x r → v ≡ b.mark_of x → Reads units (opt mark) ts (Some v) r
mark_some ts r x v h e = ok_is (opt mark) ts r (Some v) (Some (b.mark_of x)) (ap (λ w. Some w) e) (some mark refl refl ts r (b.mark_of x) (gives b.mark_of _ _ _ x (ate marks ts r x h)))

pub mark_none : (ts r : List Token) → Eats marks ts None r → Reads units (opt mark) ts None r
mark_none ts r h = none mark marks refl refl ts r h

-- ---- what a variable begins as

abbrev a_value : P Initializer
a_value = give (λ v. value_of v) (t k.Assign ▸ name expr)

-- args )
abbrev closing : P (List Expr)
closing = name args ◂ t k.Close

pub initial_value : (ts us r : List Token) (x : Token) (value : Begun) (v : Initializer) → Took (k.Assign ∷ []) ts x us → Reads units (name expr) us value r → v ≡ value_of value → Reads units (opt initial) ts (Some v) r
initial_value ts us r x value v h a e = ok_is (opt initial) ts r (Some v) (Some (value_of value)) (ap (λ w. Some w) e) (some initial refl refl ts r (value_of value) (first_reads _ _ (k.Assign ∷ []) refl refl ts us r x (value_of value) h
    (gives (λ v. value_of v) _ _ _ value (after (t k.Assign) (name expr) refl ts us r x value (ate (k.Assign ∷ []) ts us x h) a))))

pub initial_no_value : (ts us r : List Token) (x : Token) → Took (k.Assign ∷ []) ts x us → length r ≤ length us → Fails units (name expr) us r → Fails units (opt initial) ts r
initial_no_value ts us r x h n a = some_fails initial (k.Assign ∷ []) refl refl ts us r x h n (first_one_fails _ _ (k.Assign ∷ []) refl refl ts us r x h n
    (gives_not (λ v. value_of v) _ _ _ (after_fails (t k.Assign) (name expr) refl ts us r x (ate (k.Assign ∷ []) ts us x h) a)))

pub initial_none : (ts us r : List Token) → Eats (k.Assign ∷ []) ts None us → Eats (k.Open ∷ []) us None r → Reads units (opt initial) ts None r
initial_none ts us r h i = subst (λ w. Reads units (opt initial) ts None w) (sym (i.0 ∙ h.0)) (opt_none units ahead fit initial (good (opt initial) refl) ts (avoid_both (k.Assign ∷ []) (k.Open ∷ []) ts us r h i))

not_closed : (ts us vs r : List Token) (x : Token) → Eats (k.Assign ∷ []) ts None us → Took (k.Open ∷ []) us x vs → length r ≤ length vs → Fails units closing vs r → Fails units (opt initial) ts r
not_closed ts us vs r x h i n a =
    let i' : Took (k.Open ∷ []) ts x vs = (sym h.0 ∙ i.0, i.1) in
    some_fails initial (k.Open ∷ []) refl refl ts vs r x i' n (second_one_fails _ _ (k.Assign ∷ []) refl refl refl ts us r h
    (gives_not (λ xs. arguments_of xs) _ _ _ (after_fails (t k.Open) closing refl us vs r x (ate (k.Open ∷ []) us vs x i) a)))

pub initial_no_args : (ts us vs r : List Token) (x : Token) → Eats (k.Assign ∷ []) ts None us → Took (k.Open ∷ []) us x vs → length r ≤ length vs → Fails units (name args) vs r → Fails units (opt initial) ts r
initial_no_args ts us vs r x h i n a = not_closed ts us vs r x h i n (before_fails (name args) (t k.Close) refl vs r a)

pub initial_unclosed : (ts us vs r1 r : List Token) (x : Token) (xs : List Expr) → Eats (k.Assign ∷ []) ts None us → Took (k.Open ∷ []) us x vs → length r ≤ length vs → Reads units (name args) vs xs r1 → Fails units (t k.Close) r1 r → Fails units (opt initial) ts r
initial_unclosed ts us vs r1 r x xs h i n a c = not_closed ts us vs r x h i n (before_then_fails (name args) (t k.Close) refl vs r1 r xs a c)

pub initial_args : (ts us vs r1 r : List Token) (x y : Token) (xs : List Expr) (v : Initializer) → Eats (k.Assign ∷ []) ts None us → Took (k.Open ∷ []) us x vs → Reads units (name args) vs xs r1 → Reads units (t k.Close) r1 y r → v ≡ arguments_of xs → Reads units (opt initial) ts (Some v) r
initial_args ts us vs r1 r x y xs v h i a c e = ok_is (opt initial) ts r (Some v) (Some (arguments_of xs)) (ap (λ w. Some w) e) (some initial refl refl ts r (arguments_of xs) (second_reads _ _ (k.Assign ∷ []) refl refl ts us r (arguments_of xs) h
    (gives (λ xs. arguments_of xs) _ _ _ xs (after (t k.Open) closing refl us vs r x xs (ate (k.Open ∷ []) us vs x i) (before (name args) (t k.Close) refl vs r1 r xs y a c)))))

-- ---- a variable

abbrev named_part : P (Token × Option Initializer)
named_part = seq (t k.Word) (opt initial)

pub declarator_no_mark : (ts r : List Token) → Fails units (opt mark) ts r → Fails units (name declarator) ts r
declarator_no_mark ts r a = named_not declarator ts r (gives_not (λ v. bs.declarator v.0 v.1.0 v.1.1) _ _ _ (first_fails (opt mark) named_part refl ts r a))

pub declarator_no_word : (ts r1 r : List Token) (m : Option DeclaratorMark) → Reads units (opt mark) ts m r1 → Fails units (t k.Word) r1 r → Fails units (name declarator) ts r
declarator_no_word ts r1 r m a c = named_not declarator ts r (gives_not (λ v. bs.declarator v.0 v.1.0 v.1.1) _ _ _ (second_fails (opt mark) named_part refl ts r1 r m a (first_fails (t k.Word) (opt initial) refl r1 r c)))

pub declarator_no_value : (ts r1 r2 r : List Token) (m : Option DeclaratorMark) (word : Token) → Reads units (opt mark) ts m r1 → Reads units (t k.Word) r1 word r2 → Fails units (opt initial) r2 r → Fails units (name declarator) ts r
declarator_no_value ts r1 r2 r m word a c d = named_not declarator ts r (gives_not (λ v. bs.declarator v.0 v.1.0 v.1.1) _ _ _ (second_fails (opt mark) named_part refl ts r1 r m a (second_fails (t k.Word) (opt initial) refl r1 r2 r word c d)))

pub declarator_reads : (ts r1 r2 r : List Token) (m : Option DeclaratorMark) (word : Token) (o : Option Initializer) (v : Declarator) → Reads units (opt mark) ts m r1 → Reads units (t k.Word) r1 word r2 → Reads units (opt initial) r2 o r → v ≡ bs.declarator m word o → Reads units (name declarator) ts v r
declarator_reads ts r1 r2 r m word o v a c d e = ok_is (name declarator) ts r v (bs.declarator m word o) e (named declarator ts r (bs.declarator m word o)
    (gives (λ v. bs.declarator v.0 v.1.0 v.1.1) _ _ _ (m, (word, o)) (pair (opt mark) named_part refl ts r1 r m (word, o) a (pair (t k.Word) (opt initial) refl r1 r2 r word o c d))))

-- ---- variables

-- the others, and `;`
abbrev ending : P (List Declarator)
ending = many next_declarator ◂ t k.Semicolon

pub declarators_no_first : (ts r : List Token) → Fails units (name declarator) ts r → Fails units declarators ts r
declarators_no_first ts r a = gives_not (λ v. v.0 ∷ v.1) _ _ _ (first_fails (name declarator) ending refl ts r a)

pub declarators_no_other : (ts r1 r : List Token) (first : Declarator) → Reads units (name declarator) ts first r1 → Fails units (following first) r1 r → Fails units declarators ts r
declarators_no_other ts r1 r first a c = gives_not (λ v. v.0 ∷ v.1) _ _ _ (second_fails (name declarator) ending refl ts r1 r first a (before_fails (many next_declarator) (t k.Semicolon) refl r1 r (ungive_not (λ vs. first ∷ vs) (many next_declarator) r1 r c)))

pub declarators_unended : (ts r1 r2 r : List Token) (first : Declarator) (list : List Declarator) → Reads units (name declarator) ts first r1 → Reads units (following first) r1 list r2 → Fails units (t k.Semicolon) r2 r → Fails units declarators ts r
declarators_unended ts r1 r2 r first list a c d =
    let w = ungive (λ vs. first ∷ vs) (many next_declarator) r1 r2 list c in
    gives_not (λ v. v.0 ∷ v.1) _ _ _ (second_fails (name declarator) ending refl ts r1 r first a (before_then_fails (many next_declarator) (t k.Semicolon) refl r1 r2 r w.0 w.2 d))

pub declarators_read : (ts r1 r2 r : List Token) (first : Declarator) (list : List Declarator) (x : Token) → Reads units (name declarator) ts first r1 → Reads units (following first) r1 list r2 → Reads units (t k.Semicolon) r2 x r → Reads units declarators ts list r
declarators_read ts r1 r2 r first list x a c d =
    let w = ungive (λ vs. first ∷ vs) (many next_declarator) r1 r2 list c in
    ok_is declarators ts r list (first ∷ w.0) w.1 (gives (λ v. v.0 ∷ v.1) _ _ _ (first, w.0) (pair (name declarator) ending refl ts r1 r first w.0 a (before (many next_declarator) (t k.Semicolon) refl r1 r2 r w.0 x w.2 d)))

abbrev names : P (Declarator × List Declarator)
names = seq (name declarator) ending

pub variables_no_type : (ts r : List Token) → Fails units (name type_name) ts r → Fails units (name var) ts r
variables_no_type ts r a = named_not var ts r (gives_not (λ v. bs.variables v.0 (v.1.0 ∷ v.1.1)) _ _ _ (first_fails (name type_name) names refl ts r a))

pub variables_no_names : (ts r1 r : List Token) (type : TypeName) → Reads units (name type_name) ts type r1 → Fails units declarators r1 r → Fails units (name var) ts r
variables_no_names ts r1 r type a c = named_not var ts r (gives_not (λ v. bs.variables v.0 (v.1.0 ∷ v.1.1)) _ _ _ (second_fails (name type_name) names refl ts r1 r type a (ungive_not (λ v. v.0 ∷ v.1) names r1 r c)))

pub variables_read : (ts r1 r : List Token) (type : TypeName) (list : List Declarator) (v : Variables) → Reads units (name type_name) ts type r1 → Reads units declarators r1 list r → v ≡ bs.variables type list → Reads units (name var) ts v r
variables_read ts r1 r type list v a c e =
    let w = ungive (λ v. v.0 ∷ v.1) names r1 r list c in
    ok_is (name var) ts r v (bs.variables type (w.0.0 ∷ w.0.1)) (e ∙ ap (λ l. bs.variables type l) w.1) (named var ts r (bs.variables type (w.0.0 ∷ w.0.1))
    (gives (λ v. bs.variables v.0 (v.1.0 ∷ v.1.1)) _ _ _ (type, w.0) (pair (name type_name) names refl ts r1 r type w.0 a w.2)))

-- ---- an expression and `;`

pub expr_stmt_no_expr : (ts r : List Token) → Fails units (name expr) ts r → Fails units expr_stmt ts r
expr_stmt_no_expr ts r a = before_fails (name expr) (t k.Semicolon) refl ts r a

pub expr_stmt_unended : (ts r1 r : List Token) (v : Begun) → Reads units (name expr) ts v r1 → Fails units (t k.Semicolon) r1 r → Fails units expr_stmt ts r
expr_stmt_unended ts r1 r v a c = before_then_fails (name expr) (t k.Semicolon) refl ts r1 r v a c

pub expr_stmt_reads : (ts r1 r : List Token) (v : Begun) (x : Token) → Reads units (name expr) ts v r1 → Reads units (t k.Semicolon) r1 x r → Reads units expr_stmt ts v r
expr_stmt_reads ts r1 r v x a c = before (name expr) (t k.Semicolon) refl ts r1 r v x a c
