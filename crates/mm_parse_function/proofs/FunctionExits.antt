-- The exits of each reader of functions outside classes, over plain lists of tokens.
use Rattle.std.proofs.Common.{◌≡◌, ◌≤◌, ℕ, List, [], ◌∷◌, length, refl, Option, Some, None}
use Rattle.mm_grammar.specs.Grammar.{name, seq, give, opt, Reads, Fails}
use Rattle.mm_token.specs.declared.token.Token.{Token}
use Rattle.mm_syntax.specs.declared.symbol.Symbol.{Symbol}
use Rattle.mm_syntax.specs.declared.symbol.Symbol.TheVariants as k
use Rattle.mm_syntax.specs.declared.name.DeclaratorMark.{DeclaratorMark}
use Rattle.mm_syntax.specs.declared.stmt.Stmt.{Stmt}
use Rattle.mm_syntax.specs.declared.decl.Params.{Params}
use Rattle.mm_syntax.specs.declared.decl.ConstructorBody.{ConstructorBody}
use Rattle.mm_syntax.specs.declared.part.Declared.{Declared}
use Rattle.mm_syntax.specs.declared.part.FunctionEnd.{FunctionEnd}
use Rattle.mm_syntax.specs.declared.part.FunctionEnd.TheVariants as end_of
use Rattle.mm_syntax.specs.declared.part.AfterClass.{AfterClass}
use Rattle.mm_syntax.specs.declared.part.AfterClass.TheVariants as after_class
use Rattle.mm_syntax.specs.Built as b
use Rattle.mm_syntax.specs.BuiltDeclarations as bd
use Rattle.mm_syntax.specs.Rules.{P, units, token, block, mark, scope, parameters, function_body, function_end, after_type, constructor_body, constructor_end, after_class_name}
use Rattle.mm_cursor.specs.Cursor.{Eats}
use Rattle.mm_cursor.proofs.Steps.{Took, ok_is, ate, pair, first_fails, second_fails, gives, gives_not, after, after_fails, before, before_fails, before_then_fails, first_reads, first_one_fails, second_reads, second_one_fails, ungive, ungive_not, swap_reads, swap_fails}
use Rattle.mm_parse_function.specs.Parts.{plain_end, member_end, constructor_tail}

abbrev t : Symbol → P Token
t symbol = token (symbol ∷ [])

-- ---- ; or block

abbrev given_block : ℕ → P (Option Stmt)
given_block n = give (λ v. Some v) (name (block n))

pub body_none : (n : ℕ) (ts r : List Token) (x : Token) → Took (k.Semicolon ∷ []) ts x r → Reads units (function_body n) ts None r
body_none n ts r x h = first_reads _ (given_block n) (k.Semicolon ∷ []) refl refl ts r r x None h (gives (λ t. None) (t k.Semicolon) ts r x (ate (k.Semicolon ∷ []) ts r x h))

pub body_no_block : (n : ℕ) (ts us r : List Token) → Eats (k.Semicolon ∷ []) ts None us → Fails units (name (block n)) us r → Fails units (function_body n) ts r
body_no_block n ts us r h a = second_one_fails _ (given_block n) (k.Semicolon ∷ []) refl refl refl ts us r h (gives_not (λ v. Some v) (name (block n)) us r a)

pub body_some : (n : ℕ) (ts us r : List Token) (v : Stmt) → Eats (k.Semicolon ∷ []) ts None us → Reads units (name (block n)) us v r → Reads units (function_body n) ts (Some v) r
body_some n ts us r v h a = second_reads _ (given_block n) (k.Semicolon ∷ []) refl refl ts us r (Some v) h (gives (λ v. Some v) (name (block n)) us r v a)

-- ---- W ( params ) (; | block), behind W

abbrev plain_rest : ℕ → P (Params × Option Stmt)
plain_rest n = seq parameters (function_body n)

pub plain_no_params : (n : ℕ) (word : Token) (ts r : List Token) → Fails units parameters ts r → Fails units (plain_end n word) ts r
plain_no_params n word ts r a = gives_not (λ v. end_of.Plain (b.name_of word) v.0 v.1) (plain_rest n) ts r (first_fails parameters (function_body n) refl ts r a)

pub plain_no_body : (n : ℕ) (word : Token) (ts r1 r : List Token) (params : Params) → Reads units parameters ts params r1 → Fails units (function_body n) r1 r → Fails units (plain_end n word) ts r
plain_no_body n word ts r1 r params a c = gives_not (λ v. end_of.Plain (b.name_of word) v.0 v.1) (plain_rest n) ts r (second_fails parameters (function_body n) refl ts r1 r params a c)

pub plain_reads : (n : ℕ) (word : Token) (ts r1 r : List Token) (params : Params) (body : Option Stmt) (v : FunctionEnd) → Reads units parameters ts params r1 → Reads units (function_body n) r1 body r → v ≡ end_of.Plain (b.name_of word) params body → Reads units (plain_end n word) ts v r
plain_reads n word ts r1 r params body v a c e = ok_is (plain_end n word) ts r v (end_of.Plain (b.name_of word) params body) e (gives (λ v. end_of.Plain (b.name_of word) v.0 v.1) (plain_rest n) ts r (params, body) (pair parameters (function_body n) refl ts r1 r params body a c))

-- ---- K :: W ( params ) block

abbrev member_rest : ℕ → P (Params × Stmt)
member_rest n = seq parameters (name (block n))

abbrev named_rest : ℕ → P (Token × (Params × Stmt))
named_rest n = seq (t k.Word) (member_rest n)

member_fails : (n : ℕ) (ts r : List Token) → Fails units (seq scope (named_rest n)) ts r → Fails units (member_end n) ts r
member_fails n ts r a = gives_not (λ v. end_of.Member (b.name_of v.0) (b.name_of v.1.0) v.1.1.0 v.1.1.1) (seq scope (named_rest n)) ts r a

scope_reads : (ts r1 r : List Token) (class x : Token) → Reads units (t k.Class) ts class r1 → Reads units (t k.Scope) r1 x r → Reads units scope ts class r
scope_reads ts r1 r class x a c = before (t k.Class) (t k.Scope) refl ts r1 r class x a c

pub member_no_class : (n : ℕ) (ts r : List Token) → Fails units (t k.Class) ts r → Fails units (member_end n) ts r
member_no_class n ts r a = member_fails n ts r (first_fails scope (named_rest n) refl ts r (before_fails (t k.Class) (t k.Scope) refl ts r a))

pub member_no_scope : (n : ℕ) (ts r1 r : List Token) (class : Token) → Reads units (t k.Class) ts class r1 → Fails units (t k.Scope) r1 r → Fails units (member_end n) ts r
member_no_scope n ts r1 r class a c = member_fails n ts r (first_fails scope (named_rest n) refl ts r (before_then_fails (t k.Class) (t k.Scope) refl ts r1 r class a c))

pub member_no_word : (n : ℕ) (ts r1 r2 r : List Token) (class x : Token) → Reads units (t k.Class) ts class r1 → Reads units (t k.Scope) r1 x r2 → Fails units (t k.Word) r2 r → Fails units (member_end n) ts r
member_no_word n ts r1 r2 r class x a c d = member_fails n ts r (second_fails scope (named_rest n) refl ts r2 r class (scope_reads ts r1 r2 class x a c) (first_fails (t k.Word) (member_rest n) refl r2 r d))

pub member_no_params : (n : ℕ) (ts r1 r2 r3 r : List Token) (class x word : Token) → Reads units (t k.Class) ts class r1 → Reads units (t k.Scope) r1 x r2 → Reads units (t k.Word) r2 word r3 → Fails units parameters r3 r → Fails units (member_end n) ts r
member_no_params n ts r1 r2 r3 r class x word a c d f = member_fails n ts r (second_fails scope (named_rest n) refl ts r2 r class (scope_reads ts r1 r2 class x a c)
    (second_fails (t k.Word) (member_rest n) refl r2 r3 r word d (first_fails parameters (name (block n)) refl r3 r f)))

pub member_no_block : (n : ℕ) (ts r1 r2 r3 r4 r : List Token) (class x word : Token) (params : Params) → Reads units (t k.Class) ts class r1 → Reads units (t k.Scope) r1 x r2 → Reads units (t k.Word) r2 word r3 → Reads units parameters r3 params r4 → Fails units (name (block n)) r4 r → Fails units (member_end n) ts r
member_no_block n ts r1 r2 r3 r4 r class x word params a c d f g = member_fails n ts r (second_fails scope (named_rest n) refl ts r2 r class (scope_reads ts r1 r2 class x a c)
    (second_fails (t k.Word) (member_rest n) refl r2 r3 r word d (second_fails parameters (name (block n)) refl r3 r4 r params f g)))

pub member_reads : (n : ℕ) (ts r1 r2 r3 r4 r : List Token) (class x word : Token) (params : Params) (body : Stmt) (v : FunctionEnd) → Reads units (t k.Class) ts class r1 → Reads units (t k.Scope) r1 x r2 → Reads units (t k.Word) r2 word r3 → Reads units parameters r3 params r4 → Reads units (name (block n)) r4 body r →
    v ≡ end_of.Member (b.name_of class) (b.name_of word) params body → Reads units (member_end n) ts v r
member_reads n ts r1 r2 r3 r4 r class x word params body v a c d f g e = ok_is (member_end n) ts r v (end_of.Member (b.name_of class) (b.name_of word) params body) e
    (gives (λ v. end_of.Member (b.name_of v.0) (b.name_of v.1.0) v.1.1.0 v.1.1.1) (seq scope (named_rest n)) ts r (class, (word, (params, body)))
    (pair scope (named_rest n) refl ts r2 r class (word, (params, body)) (scope_reads ts r1 r2 class x a c)
    (pair (t k.Word) (member_rest n) refl r2 r3 r word (params, body) d (pair parameters (name (block n)) refl r3 r4 r params body f g))))

-- ---- either of them

pub end_plain : (n : ℕ) (ts us r : List Token) (word : Token) (v : FunctionEnd) → Took (k.Word ∷ []) ts word us → Reads units (plain_end n word) us v r → Reads units (function_end n) ts v r
end_plain n ts us r word v h a =
    let w = ungive (λ v. end_of.Plain (b.name_of word) v.0 v.1) (plain_rest n) us r v a in
    let y = end_of.Plain (b.name_of word) w.0.0 w.0.1 in
    ok_is (function_end n) ts r v y w.1 (first_reads _ (member_end n) (k.Word ∷ []) refl refl ts us r word y h
    (gives (λ v. end_of.Plain (b.name_of v.0) v.1.0 v.1.1) (seq (t k.Word) (plain_rest n)) ts r (word, w.0) (pair (t k.Word) (plain_rest n) refl ts us r word w.0 (ate (k.Word ∷ []) ts us word h) w.2)))

pub end_no_plain : (n : ℕ) (ts us r : List Token) (word : Token) → Took (k.Word ∷ []) ts word us → length r ≤ length us → Fails units (plain_end n word) us r → Fails units (function_end n) ts r
end_no_plain n ts us r word h l a = first_one_fails _ (member_end n) (k.Word ∷ []) refl refl ts us r word h l
    (gives_not (λ v. end_of.Plain (b.name_of v.0) v.1.0 v.1.1) (seq (t k.Word) (plain_rest n)) ts r (second_fails (t k.Word) (plain_rest n) refl ts us r word (ate (k.Word ∷ []) ts us word h) (ungive_not (λ v. end_of.Plain (b.name_of word) v.0 v.1) (plain_rest n) us r a)))

pub end_member : (n : ℕ) (ts us r : List Token) (v : FunctionEnd) → Eats (k.Word ∷ []) ts None us → Reads units (member_end n) us v r → Reads units (function_end n) ts v r
end_member n ts us r v h a = second_reads _ (member_end n) (k.Word ∷ []) refl refl ts us r v h a

pub end_no_member : (n : ℕ) (ts us r : List Token) → Eats (k.Word ∷ []) ts None us → Fails units (member_end n) us r → Fails units (function_end n) ts r
end_no_member n ts us r h a = second_one_fails _ (member_end n) (k.Word ∷ []) refl refl refl ts us r h a

-- ---- (* | &)? and either of them

pub type_no_mark : (n : ℕ) (ts r : List Token) → Fails units (opt mark) ts r → Fails units (after_type n) ts r
type_no_mark n ts r a = gives_not (λ v. bd.declared v.0 v.1) _ ts r (first_fails (opt mark) (function_end n) refl ts r a)

pub type_no_end : (n : ℕ) (ts r1 r : List Token) (o : Option DeclaratorMark) → Reads units (opt mark) ts o r1 → Fails units (function_end n) r1 r → Fails units (after_type n) ts r
type_no_end n ts r1 r o a c = gives_not (λ v. bd.declared v.0 v.1) _ ts r (second_fails (opt mark) (function_end n) refl ts r1 r o a c)

pub type_reads : (n : ℕ) (ts r1 r : List Token) (o : Option DeclaratorMark) (last : FunctionEnd) (v : Declared) → Reads units (opt mark) ts o r1 → Reads units (function_end n) r1 last r → v ≡ bd.declared o last → Reads units (after_type n) ts v r
type_reads n ts r1 r o last v a c e = ok_is (after_type n) ts r v (bd.declared o last) e (gives (λ v. bd.declared v.0 v.1) _ ts r (o, last) (pair (opt mark) (function_end n) refl ts r1 r o last a c))

-- ---- :: K ( params ) inits? block, behind `::`

abbrev made_rest : ℕ → P (Params × ConstructorBody)
made_rest n = seq parameters (constructor_body n)

abbrev made : ℕ → P (Token × (Params × ConstructorBody))
made n = seq (t k.Class) (made_rest n)

made_fails : (n : ℕ) (ts r : List Token) → Fails units (made n) ts r → Fails units (constructor_tail n) ts r
made_fails n ts r a = gives_not (λ v. after_class.Constructor (b.name_of v.0) v.1.0 v.1.1) (made n) ts r a

pub tail_no_class : (n : ℕ) (ts r : List Token) → Fails units (t k.Class) ts r → Fails units (constructor_tail n) ts r
tail_no_class n ts r a = made_fails n ts r (first_fails (t k.Class) (made_rest n) refl ts r a)

pub tail_no_params : (n : ℕ) (ts r1 r : List Token) (class : Token) → Reads units (t k.Class) ts class r1 → Fails units parameters r1 r → Fails units (constructor_tail n) ts r
tail_no_params n ts r1 r class a c = made_fails n ts r (second_fails (t k.Class) (made_rest n) refl ts r1 r class a (first_fails parameters (constructor_body n) refl r1 r c))

pub tail_no_body : (n : ℕ) (ts r1 r2 r : List Token) (class : Token) (params : Params) → Reads units (t k.Class) ts class r1 → Reads units parameters r1 params r2 → Fails units (constructor_body n) r2 r → Fails units (constructor_tail n) ts r
tail_no_body n ts r1 r2 r class params a c d = made_fails n ts r (second_fails (t k.Class) (made_rest n) refl ts r1 r class a (second_fails parameters (constructor_body n) refl r1 r2 r params c d))

pub tail_reads : (n : ℕ) (ts r1 r2 r : List Token) (class : Token) (params : Params) (body : ConstructorBody) (v : AfterClass) → Reads units (t k.Class) ts class r1 → Reads units parameters r1 params r2 → Reads units (constructor_body n) r2 body r → v ≡ after_class.Constructor (b.name_of class) params body → Reads units (constructor_tail n) ts v r
tail_reads n ts r1 r2 r class params body v a c d e = ok_is (constructor_tail n) ts r v (after_class.Constructor (b.name_of class) params body) e
    (gives (λ v. after_class.Constructor (b.name_of v.0) v.1.0 v.1.1) (made n) ts r (class, (params, body)) (pair (t k.Class) (made_rest n) refl ts r1 r class (params, body) a (pair parameters (constructor_body n) refl r1 r2 r params body c d)))

-- ---- what follows a class's name

abbrev as_type : ℕ → P AfterClass
as_type n = give (λ v. after_class.Type v) (after_type n)

pub class_constructor : (n : ℕ) (ts us r : List Token) (x : Token) (v : AfterClass) → Took (k.Scope ∷ []) ts x us → Reads units (constructor_tail n) us v r → Reads units (after_class_name n) ts v r
class_constructor n ts us r x v h a =
    let w = ungive (λ v. after_class.Constructor (b.name_of v.0) v.1.0 v.1.1) (made n) us r v a in
    let y = after_class.Constructor (b.name_of w.0.0) w.0.1.0 w.0.1.1 in
    ok_is (after_class_name n) ts r v y w.1 (swap_reads (as_type n) (constructor_end n) ts r y (first_reads (constructor_end n) (as_type n) (k.Scope ∷ []) refl refl ts us r x y h
    (gives (λ v. after_class.Constructor (b.name_of v.0) v.1.0 v.1.1) _ ts r w.0 (after (t k.Scope) (made n) refl ts us r x w.0 (ate (k.Scope ∷ []) ts us x h) w.2))))

pub class_no_constructor : (n : ℕ) (ts us r : List Token) (x : Token) → Took (k.Scope ∷ []) ts x us → length r ≤ length us → Fails units (constructor_tail n) us r → Fails units (after_class_name n) ts r
class_no_constructor n ts us r x h l a = swap_fails (as_type n) (constructor_end n) ts r (first_one_fails (constructor_end n) (as_type n) (k.Scope ∷ []) refl refl ts us r x h l
    (gives_not (λ v. after_class.Constructor (b.name_of v.0) v.1.0 v.1.1) _ ts r (after_fails (t k.Scope) (made n) refl ts us r x (ate (k.Scope ∷ []) ts us x h) (ungive_not (λ v. after_class.Constructor (b.name_of v.0) v.1.0 v.1.1) (made n) us r a))))

pub class_no_type : (n : ℕ) (ts us r : List Token) → Eats (k.Scope ∷ []) ts None us → Fails units (after_type n) us r → Fails units (after_class_name n) ts r
class_no_type n ts us r h a = swap_fails (as_type n) (constructor_end n) ts r (second_one_fails (constructor_end n) (as_type n) (k.Scope ∷ []) refl refl refl ts us r h (gives_not (λ v. after_class.Type v) (after_type n) us r a))

pub class_type : (n : ℕ) (ts us r : List Token) (last : Declared) (v : AfterClass) → Eats (k.Scope ∷ []) ts None us → Reads units (after_type n) us last r → v ≡ after_class.Type last → Reads units (after_class_name n) ts v r
class_type n ts us r last v h a e = ok_is (after_class_name n) ts r v (after_class.Type last) e (swap_reads (as_type n) (constructor_end n) ts r (after_class.Type last) (second_reads (constructor_end n) (as_type n) (k.Scope ∷ []) refl refl ts us r (after_class.Type last) h
    (gives (λ v. after_class.Type v) (after_type n) us r last a)))
