-- The exits of each reader of initializers and constructor bodies, over plain lists of tokens.
use Rattle.std.proofs.Common.{◌≡◌, ◌≤◌, List, [], ◌∷◌, length, refl, ap, ℕ, Option, Some, None}
use Rattle.mm_grammar.specs.Grammar.{name, seq, many, opt, Reads, Fails}
use Rattle.mm_token.specs.declared.token.Token.{Token}
use Rattle.mm_syntax.specs.declared.symbol.Symbol.{Symbol}
use Rattle.mm_syntax.specs.declared.symbol.Symbol.TheVariants as k
use Rattle.mm_syntax.specs.declared.expr.Expr.{Expr}
use Rattle.mm_syntax.specs.declared.stmt.Stmt.{Stmt}
use Rattle.mm_syntax.specs.declared.decl.Init.{Init}
use Rattle.mm_syntax.specs.declared.decl.ConstructorBody.{ConstructorBody}
use Rattle.mm_syntax.specs.BuiltDeclarations as bd
use Rattle.mm_syntax.specs.Rules.{P, units, token, inits, init, block, call, inside, constructor_body}
use Rattle.mm_cursor.specs.Cursor.{Eats}
use Rattle.mm_cursor.proofs.Steps.{Took, ok_is, ate, pair, first_fails, second_fails, gives, gives_not, named, named_not, after, after_fails, some, some_fails, none, ungive, ungive_not}
use Rattle.mm_parse_function.specs.Parts.{next_init, init_list}

abbrev t : Symbol → P Token
t symbol = token (symbol ∷ [])

-- ---- (W | K) ( args? )

abbrev words : List Symbol
words = k.Word ∷ k.Class ∷ []

pub init_no_word : (ts r : List Token) → Fails units (token words) ts r → Fails units (name init) ts r
init_no_word ts r a = named_not init ts r (gives_not (λ v. bd.init v.0 v.1) _ ts r (first_fails (token words) call refl ts r a))

init_no_call : (ts r1 r : List Token) (word : Token) → Reads units (token words) ts word r1 → Fails units call r1 r → Fails units (name init) ts r
init_no_call ts r1 r word a c = named_not init ts r (gives_not (λ v. bd.init v.0 v.1) _ ts r (second_fails (token words) call refl ts r1 r word a c))

pub init_no_open : (ts r1 r : List Token) (word : Token) → Reads units (token words) ts word r1 → Fails units (t k.Open) r1 r → Fails units (name init) ts r
init_no_open ts r1 r word a c = init_no_call ts r1 r word a (gives_not (λ v. v.1) _ r1 r (first_fails (t k.Open) inside refl r1 r c))

pub init_no_inside : (ts r1 r2 r : List Token) (word x : Token) → Reads units (token words) ts word r1 → Reads units (t k.Open) r1 x r2 → Fails units inside r2 r → Fails units (name init) ts r
init_no_inside ts r1 r2 r word x a c d = init_no_call ts r1 r word a (after_fails (t k.Open) inside refl r1 r2 r x c d)

pub init_reads : (ts r1 r2 r : List Token) (word x : Token) (xs : List Expr) (v : Init) → Reads units (token words) ts word r1 → Reads units (t k.Open) r1 x r2 → Reads units inside r2 xs r → v ≡ bd.init word xs → Reads units (name init) ts v r
init_reads ts r1 r2 r word x xs v a c d e = ok_is (name init) ts r v (bd.init word xs) e (named init ts r (bd.init word xs) (gives (λ v. bd.init v.0 v.1) _ ts r (word, xs) (pair (token words) call refl ts r1 r word xs a (after (t k.Open) inside refl r1 r2 r x xs c d))))

-- ---- : init (, init)*, where it stands

abbrev listed : P (Init × List Init)
listed = seq (name init) (many next_init)

pub inits_fails : (ts us r : List Token) (x : Token) → Took (k.Colon ∷ []) ts x us → length r ≤ length us → Fails units init_list us r → Fails units (opt (name inits)) ts r
inits_fails ts us r x h n a = some_fails (name inits) (k.Colon ∷ []) refl refl ts us r x h n
    (named_not inits ts r (gives_not (λ v. v.0 ∷ v.1) _ ts r (after_fails (t k.Colon) listed refl ts us r x (ate (k.Colon ∷ []) ts us x h) (ungive_not (λ v. v.0 ∷ v.1) listed us r a))))

pub inits_reads : (ts us r : List Token) (x : Token) (list : List Init) → Took (k.Colon ∷ []) ts x us → Reads units init_list us list r → Reads units (opt (name inits)) ts (Some list) r
inits_reads ts us r x list h a =
    let w = ungive (λ v. v.0 ∷ v.1) listed us r list a in
    ok_is (opt (name inits)) ts r (Some list) (Some (w.0.0 ∷ w.0.1)) (ap (λ l. Some l) w.1) (some (name inits) refl refl ts r (w.0.0 ∷ w.0.1)
    (named inits ts r (w.0.0 ∷ w.0.1) (gives (λ v. v.0 ∷ v.1) _ ts r w.0 (after (t k.Colon) listed refl ts us r x w.0 (ate (k.Colon ∷ []) ts us x h) w.2))))

pub inits_none : (ts r : List Token) → Eats (k.Colon ∷ []) ts None r → Reads units (opt (name inits)) ts None r
inits_none ts r h = none (name inits) (k.Colon ∷ []) refl refl ts r h

-- ---- inits? block

pub body_no_inits : (n : ℕ) (ts r : List Token) → Fails units (opt (name inits)) ts r → Fails units (constructor_body n) ts r
body_no_inits n ts r a = gives_not (λ v. bd.constructor_body v.0 v.1) _ ts r (first_fails (opt (name inits)) (name (block n)) refl ts r a)

pub body_no_block : (n : ℕ) (ts r1 r : List Token) (o : Option (List Init)) → Reads units (opt (name inits)) ts o r1 → Fails units (name (block n)) r1 r → Fails units (constructor_body n) ts r
body_no_block n ts r1 r o a c = gives_not (λ v. bd.constructor_body v.0 v.1) _ ts r (second_fails (opt (name inits)) (name (block n)) refl ts r1 r o a c)

pub body_reads : (n : ℕ) (ts r1 r : List Token) (o : Option (List Init)) (body : Stmt) (v : ConstructorBody) → Reads units (opt (name inits)) ts o r1 → Reads units (name (block n)) r1 body r → v ≡ bd.constructor_body o body → Reads units (constructor_body n) ts v r
body_reads n ts r1 r o body v a c e = ok_is (constructor_body n) ts r v (bd.constructor_body o body) e (gives (λ v. bd.constructor_body v.0 v.1) _ ts r (o, body) (pair (opt (name inits)) (name (block n)) refl ts r1 r o body a c))
