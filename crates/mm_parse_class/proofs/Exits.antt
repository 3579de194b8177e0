-- The exits of the readers of classes that choose or repeat, over plain lists of tokens.
use Rattle.std.proofs.Common.{◌≡◌, ℕ, ◌<◌, ◌≤◌, ◌+◌, ◌-◌, Bool, IsTrue, List, [], ◌∷◌, ◌++◌, inl, inr, map, length, take, refl, ap, sym, ◌∙◌, subst, arith, Option, Some, None, append_assoc}
use Rattle.std.proofs.lemmas.List.{append-nil, length-append}
use Rattle.std.proofs.Math.Seq.{take-append_seam}
use Rattle.mm_grammar.specs.Grammar.{name, seq, alt, many, give, opt, kept, Begins, Avoids, Reads, Fails}
use Rattle.mm_grammar.specs.Ahead.{first_of}
use Rattle.mm_grammar.proofs.Reading.{kept_ok, kept_fail, many_fail_now}
use Rattle.mm_grammar.proofs.Loops.{SoFar, begun, not_begun, once_more, ended_here, failed_inside, opt_none}
use Rattle.mm_grammar.proofs.Here.{many_none_of, fail_here}
use Rattle.mm_base.specs.declared.place.Place.{Place}
use Rattle.mm_token.specs.declared.token.Token.{Token}
use Rattle.mm_syntax.specs.declared.symbol.Symbol.{Symbol}
use Rattle.mm_syntax.specs.declared.symbol.Symbol.TheVariants as k
use Rattle.mm_syntax.specs.declared.name.Access.{Access}
use Rattle.mm_syntax.specs.declared.name.DeclaratorMark.{DeclaratorMark}
use Rattle.mm_syntax.specs.declared.expr.TypeName.{TypeName}
use Rattle.mm_syntax.specs.declared.stmt.Stmt.{Stmt}
use Rattle.mm_syntax.specs.declared.decl.Base.{Base}
use Rattle.mm_syntax.specs.declared.decl.Decl.{Decl}
use Rattle.mm_syntax.specs.declared.decl.FieldName.{FieldName}
use Rattle.mm_syntax.specs.declared.decl.Member.{Member}
use Rattle.mm_syntax.specs.declared.decl.Member.TheVariants as m
use Rattle.mm_syntax.specs.declared.decl.Params.{Params}
use Rattle.mm_syntax.specs.declared.part.AfterMemberClass.{AfterMemberClass}
use Rattle.mm_syntax.specs.declared.part.AfterMemberClass.TheVariants as class_is
use Rattle.mm_syntax.specs.declared.part.AfterVirtual.{AfterVirtual}
use Rattle.mm_syntax.specs.declared.part.AfterVirtual.TheVariants as virtual_is
use Rattle.mm_syntax.specs.declared.part.ClassBody.{ClassBody}
use Rattle.mm_syntax.specs.declared.part.ConstructorTail.{ConstructorTail}
use Rattle.mm_syntax.specs.declared.part.DestructorTail.{DestructorTail}
use Rattle.mm_syntax.specs.declared.part.MemberEnd.{MemberEnd}
use Rattle.mm_syntax.specs.declared.part.MemberEnd.TheVariants as member_is
use Rattle.mm_syntax.specs.declared.part.MemberTail.{MemberTail}
use Rattle.mm_syntax.specs.declared.part.MethodTail.{MethodTail}
use Rattle.mm_syntax.specs.Symbols.{number_of}
use Rattle.mm_syntax.specs.Built as b
use Rattle.mm_syntax.specs.BuiltDeclarations as bd
use Rattle.mm_syntax.specs.Rules.{P, units, token, item, type_name, mark, parameters, accesses, base, bases, items, class_body, class_head, method_end, next_field, member_end, member_tail, method_tail, destructor, after_virtual, constructor_tail, after_member_class, ◌▸◌, ◌◂◌}
use Rattle.mm_syntax.proofs.Claims.{ahead}
use Rattle.mm_syntax.proofs.Fitting.{fit}
use Rattle.mm_cursor.specs.Cursor.{Eats}
use Rattle.mm_cursor.proofs.Steps.{Took, is_plain, good, ok_is, ate, other, avoid_both, taken_shorter, pair, first_fails, second_fails, gives, gives_not, named, named_not, after, after_fails, before, before_fails, before_then_fails, some, none, some_fails, first_reads, first_one_fails, second_reads, second_one_fails, ungive, ungive_not, swap_reads, swap_fails}
use Rattle.mm_parse_class.specs.Parts.{class_keys, class_declaration, semicolon_if, base_of, virtual_base, access_base, base_list, method_rest, after_destructor, destructor_from, destructor_of, function_end, field, fields, access_item, virtual_item, destructor_item, class_item, typed_item, members}
use Rattle.mm_parse_class.proofs.Turns.{two_first, two_second, two, three_second, three_third, three, led, led_fails, next_reads, next_fails, else_reads, else_fails, takes_some, fails_or_none}

abbrev t : Symbol → P Token
t symbol = token (symbol ∷ [])

-- ---- a base

pub base_class : (ts r : List Token) (x : Token) (v : Base) → Took (k.Class ∷ []) ts x r → v ≡ base_of None None x → Reads units base ts v r
base_class ts r x v h e = ok_is base ts r v (bd.base None None x) e (first_reads _ _ (k.Class ∷ []) refl refl ts r r x (bd.base None None x) h (gives (λ t. bd.base None None t) (t k.Class) ts r x (ate (k.Class ∷ []) ts r x h)))

pub base_virtual : (ts us vs r : List Token) (x : Token) (v : Base) → Eats (k.Class ∷ []) ts None us → Took (k.Virtual ∷ []) us x vs → Reads units (virtual_base x) vs v r → Reads units base ts v r
base_virtual ts us vs r x v h i a = second_reads _ _ (k.Class ∷ []) refl refl ts us r v h (first_reads _ _ (k.Virtual ∷ []) refl refl us vs r x v i (led (k.Virtual ∷ []) _ _ refl us vs r x v i a))

pub base_no_virtual : (ts us vs r : List Token) (x : Token) → Eats (k.Class ∷ []) ts None us → Took (k.Virtual ∷ []) us x vs → length r ≤ length vs → Fails units (virtual_base x) vs r → Fails units base ts r
base_no_virtual ts us vs r x h i n a = second_one_fails _ _ (k.Class ∷ []) refl refl refl ts us r h (first_one_fails _ _ (k.Virtual ∷ []) refl refl us vs r x i n (led_fails (k.Virtual ∷ []) _ _ refl us vs r x i a))

pub base_access : (ts us vs r : List Token) (v : Base) → Eats (k.Class ∷ []) ts None us → Eats (k.Virtual ∷ []) us None vs → Reads units access_base vs v r → Reads units base ts v r
base_access ts us vs r v h i a = second_reads _ _ (k.Class ∷ []) refl refl ts us r v h (second_reads _ _ (k.Virtual ∷ []) refl refl us vs r v i a)

pub base_no_access : (ts us vs r : List Token) → Eats (k.Class ∷ []) ts None us → Eats (k.Virtual ∷ []) us None vs → Fails units access_base vs r → Fails units base ts r
base_no_access ts us vs r h i a = second_one_fails _ _ (k.Class ∷ []) refl refl refl ts us r h (second_one_fails _ _ (k.Virtual ∷ []) refl refl refl us vs r i a)

pub virtual_base_no_class : (word : Token) (ts r1 r : List Token) (access : Option Access) → Reads units (give bd.access_if (opt (token accesses))) ts access r1 → Fails units (t k.Class) r1 r → Fails units (virtual_base word) ts r
virtual_base_no_class word ts r1 r access a c =
    let o = ungive bd.access_if (opt (token accesses)) ts r1 access a in
    two_second _ (opt (token accesses)) (t k.Class) refl ts r1 r o.0 o.2 c

pub virtual_base_reads : (word : Token) (ts r1 r : List Token) (access : Option Access) (class : Token) (v : Base) → Reads units (give bd.access_if (opt (token accesses))) ts access r1 → Reads units (t k.Class) r1 class r → v ≡ base_of (Some word.place) access class → Reads units (virtual_base word) ts v r
virtual_base_reads word ts r1 r access class v a c e =
    let o = ungive bd.access_if (opt (token accesses)) ts r1 access a in
    two _ (opt (token accesses)) (t k.Class) refl ts r1 r o.0 class v o.2 c (e ∙ ap (λ w. base_of (Some word.place) w class) o.1)

pub access_base_no_class : (ts r1 r2 r : List Token) (word : Token) (place : Option Place) → Reads units (token accesses) ts word r1 → Reads units (give bd.place_if (opt (t k.Virtual))) r1 place r2 → Fails units (t k.Class) r2 r → Fails units access_base ts r
access_base_no_class ts r1 r2 r word place a c d =
    let o = ungive bd.place_if (opt (t k.Virtual)) r1 r2 place c in
    three_third _ (token accesses) (opt (t k.Virtual)) (t k.Class) refl refl ts r1 r2 r word o.0 a o.2 d

pub access_base_reads : (ts r1 r2 r : List Token) (word : Token) (place : Option Place) (class : Token) (v : Base) → Reads units (token accesses) ts word r1 → Reads units (give bd.place_if (opt (t k.Virtual))) r1 place r2 → Reads units (t k.Class) r2 class r → v ≡ base_of place (Some (bd.access_of word)) class → Reads units access_base ts v r
access_base_reads ts r1 r2 r word place class v a c d e =
    let o = ungive bd.place_if (opt (t k.Virtual)) r1 r2 place c in
    three _ (token accesses) (opt (t k.Virtual)) (t k.Class) refl refl ts r1 r2 r word o.0 class v a o.2 d (e ∙ ap (λ w. base_of w (Some (bd.access_of word)) class) o.1)

-- ---- bases

abbrev another : P Base
another = t k.Comma ▸ base

abbrev pub BasesSoFar : List Base → List Token → List Token → Type 0
BasesSoFar list ts rest = SoFar units base_list another (λ xs. list ++ xs) ts rest

pub bases_start : (ts r : List Token) (v : Base) (list : List Base) → Reads units base ts v r → list ≡ v ∷ [] → BasesSoFar list ts r
bases_start ts r v list a e = subst (λ l. BasesSoFar l ts r) (sym e) (begun units ahead fit (λ v. v.0 ∷ v.1) base another (good (seq base (many another)) refl) ts r v a)

pub bases_not : (ts r : List Token) → Fails units base ts r → Fails units base_list ts r
bases_not ts r a = not_begun units ahead fit (λ v. v.0 ∷ v.1) base another (good (seq base (many another)) refl) ts r a

pub bases_step : (ts rest us r : List Token) (list next : List Base) (v : Base) (x : Token) → BasesSoFar list ts rest → Took (k.Comma ∷ []) rest x us → Reads units base us v r → next ≡ list ++ v ∷ [] → BasesSoFar next ts r
bases_step ts rest us r list next v x s h a n =
    once_more units ahead fit base_list another (λ xs. list ++ xs) (λ xs. next ++ xs) (good (many another) refl) ts rest r v s
    (after (t k.Comma) base refl rest us r x v (ate (k.Comma ∷ []) rest us x h) a) (λ xs. sym (ap (λ l. l ++ xs) n ∙ append_assoc list (v ∷ []) xs))

pub bases_end : (ts rest us : List Token) (list : List Base) → BasesSoFar list ts rest → Eats (k.Comma ∷ []) rest None us → Reads units base_list ts list us
bases_end ts rest us list s h =
    subst (λ w. Reads units base_list ts list w) (sym h.0)
    (subst (λ l. Reads units base_list ts l rest) (append-nil list) (ended_here units ahead fit base_list another (λ xs. list ++ xs) (good (many another) refl) ts rest s h.1))

pub bases_fail : (ts rest us r : List Token) (list : List Base) (x : Token) → BasesSoFar list ts rest → Took (k.Comma ∷ []) rest x us → length r ≤ length us → Fails units base us r → Fails units base_list ts r
bases_fail ts rest us r list x s h n a =
    failed_inside units ahead fit base_list another (λ xs. list ++ xs) (good (many another) refl) ts rest r (taken_shorter (k.Comma ∷ []) rest us r x h n) s
    (after_fails (t k.Comma) base refl rest us r x (ate (k.Comma ∷ []) rest us x h) a)

-- ---- a part and a `;` that may follow it

module _ {A : Type 0} (p : P A) (g : IsTrue (is_plain (seq p (opt (t k.Semicolon))))) where
  pub with_semicolon : (ts r1 r : List Token) (v : A) → Reads units p ts v r1 → Reads units semicolon_if r1 tt r → Reads units (p ◂ opt (t k.Semicolon)) ts v r
  with_semicolon ts r1 r v a c =
      let o = ungive (λ w. tt) (opt (t k.Semicolon)) r1 r tt c in
      before p (opt (t k.Semicolon)) g ts r1 r v o.0 a o.2

  pub not_before_semicolon : (ts r : List Token) → Fails units p ts r → Fails units (p ◂ opt (t k.Semicolon)) ts r
  not_before_semicolon ts r a = before_fails p (opt (t k.Semicolon)) g ts r a

-- ---- `;`, or a part

abbrev rest_or : {A : Type 0} → P A → P (Option A)
rest_or p = alt (give (λ t. None) (t k.Semicolon)) (give (λ v. Some v) p)

module _ {A : Type 0} (p : P A) (g : IsTrue (is_plain (rest_or p))) where
  pub rest_none : (ts r : List Token) (x : Token) → Took (k.Semicolon ∷ []) ts x r → Reads units (rest_or p) ts None r
  rest_none ts r x h = first_reads _ _ (k.Semicolon ∷ []) g refl ts r r x None h (gives (λ t. None) (t k.Semicolon) ts r x (ate (k.Semicolon ∷ []) ts r x h))

  pub rest_some : (ts us r : List Token) (v : A) → Eats (k.Semicolon ∷ []) ts None us → Reads units p us v r → Reads units (rest_or p) ts (Some v) r
  rest_some ts us r v h a = second_reads _ _ (k.Semicolon ∷ []) g refl ts us r (Some v) h (gives (λ v. Some v) p us r v a)

  pub rest_fails : (ts us r : List Token) → Eats (k.Semicolon ∷ []) ts None us → Fails units p us r → Fails units (rest_or p) ts r
  rest_fails ts us r h a = second_one_fails _ _ (k.Semicolon ∷ []) g refl refl ts us r h (gives_not (λ v. Some v) p us r a)

-- ---- the parentheses and braces of a destructor

abbrev closed : P (Option Token)
closed = opt (t k.Void) ◂ t k.Close

abbrev braced : P (Option Token)
braced = closed ◂ t k.OpenBrace

abbrev emptied : P (Option Token)
emptied = braced ◂ t k.CloseBrace

abbrev ended : P (Option Token)
ended = emptied ◂ opt (t k.Semicolon)

after_destructor_fails : (ts r1 r : List Token) (x : Token) → Reads units (t k.Open) ts x r1 → Fails units ended r1 r → Fails units (give b.is_given after_destructor) ts r
after_destructor_fails ts r1 r x a c = gives_not b.is_given after_destructor ts r (after_fails (t k.Open) ended refl ts r1 r x a c)

pub destructor_no_open : (ts r : List Token) → Fails units (t k.Open) ts r → Fails units (give b.is_given after_destructor) ts r
destructor_no_open ts r a = gives_not b.is_given after_destructor ts r (gives_not (λ v. v.1) _ ts r (first_fails (t k.Open) ended refl ts r a))

abbrev IsVoid : List Token → Bool → List Token → Type 0
IsVoid ts v r = Reads units (give b.is_given (opt (t k.Void))) ts v r

pub destructor_no_close : (ts r1 r2 r : List Token) (x : Token) (v : Bool) → Reads units (t k.Open) ts x r1 → IsVoid r1 v r2 → Fails units (t k.Close) r2 r → Fails units (give b.is_given after_destructor) ts r
destructor_no_close ts r1 r2 r x v a c d =
    let o = ungive b.is_given (opt (t k.Void)) r1 r2 v c in
    after_destructor_fails ts r1 r x a (before_fails emptied (opt (t k.Semicolon)) refl r1 r (before_fails braced (t k.CloseBrace) refl r1 r (before_fails closed (t k.OpenBrace) refl r1 r
    (before_then_fails (opt (t k.Void)) (t k.Close) refl r1 r2 r o.0 o.2 d))))

pub destructor_no_brace : (ts r1 r2 r3 r : List Token) (x y : Token) (v : Bool) → Reads units (t k.Open) ts x r1 → IsVoid r1 v r2 → Reads units (t k.Close) r2 y r3 → Fails units (t k.OpenBrace) r3 r → Fails units (give b.is_given after_destructor) ts r
destructor_no_brace ts r1 r2 r3 r x y v a c d e =
    let o = ungive b.is_given (opt (t k.Void)) r1 r2 v c in
    after_destructor_fails ts r1 r x a (before_fails emptied (opt (t k.Semicolon)) refl r1 r (before_fails braced (t k.CloseBrace) refl r1 r
    (before_then_fails closed (t k.OpenBrace) refl r1 r3 r o.0 (before (opt (t k.Void)) (t k.Close) refl r1 r2 r3 o.0 y o.2 d) e)))

pub destructor_unclosed : (ts r1 r2 r3 r4 r : List Token) (x y z : Token) (v : Bool) → Reads units (t k.Open) ts x r1 → IsVoid r1 v r2 → Reads units (t k.Close) r2 y r3 → Reads units (t k.OpenBrace) r3 z r4 → Fails units (t k.CloseBrace) r4 r → Fails units (give b.is_given after_destructor) ts r
destructor_unclosed ts r1 r2 r3 r4 r x y z v a c d e f =
    let o = ungive b.is_given (opt (t k.Void)) r1 r2 v c in
    after_destructor_fails ts r1 r x a (before_fails emptied (opt (t k.Semicolon)) refl r1 r
    (before_then_fails braced (t k.CloseBrace) refl r1 r4 r o.0 (before closed (t k.OpenBrace) refl r1 r3 r4 o.0 z (before (opt (t k.Void)) (t k.Close) refl r1 r2 r3 o.0 y o.2 d) e) f))

pub destructor_ends : (ts r1 r2 r3 r4 r5 r : List Token) (x y z u : Token) (v : Bool) → Reads units (t k.Open) ts x r1 → IsVoid r1 v r2 → Reads units (t k.Close) r2 y r3 → Reads units (t k.OpenBrace) r3 z r4 → Reads units (t k.CloseBrace) r4 u r5 → Reads units semicolon_if r5 tt r → Reads units (give b.is_given after_destructor) ts v r
destructor_ends ts r1 r2 r3 r4 r5 r x y z u v a c d e f h =
    let o = ungive b.is_given (opt (t k.Void)) r1 r2 v c in
    ok_is (give b.is_given after_destructor) ts r v (b.is_given o.0) o.1 (gives b.is_given after_destructor ts r o.0 (after (t k.Open) ended refl ts r1 r x o.0 a
    (with_semicolon emptied refl r1 r5 r o.0 (before braced (t k.CloseBrace) refl r1 r4 r5 o.0 u (before closed (t k.OpenBrace) refl r1 r3 r4 o.0 z (before (opt (t k.Void)) (t k.Close) refl r1 r2 r3 o.0 y o.2 d) e) f) h)))

pub destructor_no_end : (tilde : Token) (ts r1 r : List Token) (class : Token) → Reads units (t k.Class) ts class r1 → Fails units (give b.is_given after_destructor) r1 r → Fails units (destructor_from tilde) ts r
destructor_no_end tilde ts r1 r class a c = two_second _ (t k.Class) after_destructor refl ts r1 r class a (ungive_not b.is_given after_destructor r1 r c)

pub destructor_reads : (tilde : Token) (ts r1 r : List Token) (class : Token) (has_void : Bool) (v : DestructorTail) → Reads units (t k.Class) ts class r1 → Reads units (give b.is_given after_destructor) r1 has_void r → v ≡ destructor_of tilde class has_void → Reads units (destructor_from tilde) ts v r
destructor_reads tilde ts r1 r class has_void v a c e =
    let o = ungive b.is_given after_destructor r1 r has_void c in
    two _ (t k.Class) after_destructor refl ts r1 r class o.0 v a o.2 (e ∙ ap (λ w. destructor_of tilde class w) o.1)

-- ---- fields

abbrev pub FieldsSoFar : List FieldName → List Token → List Token → Type 0
FieldsSoFar list ts rest = SoFar units (many next_field) next_field (λ xs. list ++ xs) ts rest

pub fields_start : (ts : List Token) (list : List FieldName) → list ≡ [] → FieldsSoFar list ts ts
fields_start ts list e = subst (λ l. FieldsSoFar l ts ts) (sym e) (record { reads = λ xs r a. a; fails = λ r a. a })

next_reads_field : (ts us r : List Token) (x : Token) (v : FieldName) → Took (k.Comma ∷ []) ts x us → Reads units field us v r → Reads units next_field ts v r
next_reads_field ts us r x v h a =
    let w = ungive (λ v. bd.field_name v.0 v.1) (seq (opt mark) (t k.Word)) us r v a in
    ok_is next_field ts r v (bd.field_name w.0.0 w.0.1) w.1 (gives (λ v. bd.field_name v.0 v.1) (t k.Comma ▸ seq (opt mark) (t k.Word)) ts r w.0 (after (t k.Comma) (seq (opt mark) (t k.Word)) refl ts us r x w.0 (ate (k.Comma ∷ []) ts us x h) w.2))

pub fields_step : (ts rest us r : List Token) (list next : List FieldName) (v : FieldName) (x : Token) → FieldsSoFar list ts rest → Took (k.Comma ∷ []) rest x us → Reads units field us v r → next ≡ list ++ v ∷ [] → FieldsSoFar next ts r
fields_step ts rest us r list next v x s h a n =
    once_more units ahead fit (many next_field) next_field (λ xs. list ++ xs) (λ xs. next ++ xs) (good (many next_field) refl) ts rest r v s
    (next_reads_field rest us r x v h a) (λ xs. sym (ap (λ l. l ++ xs) n ∙ append_assoc list (v ∷ []) xs))

pub fields_fail : (ts rest us r : List Token) (list : List FieldName) (x : Token) → FieldsSoFar list ts rest → Took (k.Comma ∷ []) rest x us → length r ≤ length us → Fails units field us r → Fails units fields ts r
fields_fail ts rest us r list x s h n a =
    before_fails (many next_field) (t k.Semicolon) refl ts r
    (failed_inside units ahead fit (many next_field) next_field (λ xs. list ++ xs) (good (many next_field) refl) ts rest r (taken_shorter (k.Comma ∷ []) rest us r x h n) s
    (gives_not (λ v. bd.field_name v.0 v.1) _ rest r (after_fails (t k.Comma) (seq (opt mark) (t k.Word)) refl rest us r x (ate (k.Comma ∷ []) rest us x h) (ungive_not (λ v. bd.field_name v.0 v.1) (seq (opt mark) (t k.Word)) us r a))))

fields_all : (ts rest us : List Token) (list : List FieldName) → FieldsSoFar list ts rest → Eats (k.Comma ∷ []) rest None us → Reads units (many next_field) ts list us
fields_all ts rest us list s h =
    subst (λ w. Reads units (many next_field) ts list w) (sym h.0)
    (subst (λ l. Reads units (many next_field) ts l rest) (append-nil list) (ended_here units ahead fit (many next_field) next_field (λ xs. list ++ xs) (good (many next_field) refl) ts rest s h.1))

pub fields_unclosed : (ts rest us r : List Token) (list : List FieldName) → FieldsSoFar list ts rest → Eats (k.Comma ∷ []) rest None us → Fails units (t k.Semicolon) us r → Fails units fields ts r
fields_unclosed ts rest us r list s h a = before_then_fails (many next_field) (t k.Semicolon) refl ts us r list (fields_all ts rest us list s h) a

pub fields_end : (ts rest us r : List Token) (list : List FieldName) (x : Token) → FieldsSoFar list ts rest → Eats (k.Comma ∷ []) rest None us → Reads units (t k.Semicolon) us x r → Reads units fields ts list r
fields_end ts rest us r list x s h a = before (many next_field) (t k.Semicolon) refl ts us r list x (fields_all ts rest us list s h) a

-- ---- what follows the name of a member

abbrev Opens : List Token → Type 0
Opens ts = Begins units (map number_of (k.Open ∷ [])) ts

abbrev Others : List Token → Type 0
Others ts = Avoids units (map number_of (k.Open ∷ [])) ts

pub member_function : (n : ℕ) (ts r : List Token) (v : MemberEnd) → Opens ts → Reads units (function_end n) ts v r → Reads units (member_end n) ts v r
member_function n ts r v h a = next_reads _ _ (k.Open ∷ []) refl refl ts r v h a

pub member_no_function : (n : ℕ) (ts r : List Token) → Opens ts → Fails units (function_end n) ts r → Fails units (member_end n) ts r
member_no_function n ts r h a = next_fails _ _ (k.Open ∷ []) refl refl refl ts r h a

pub member_fields : (n : ℕ) (ts r : List Token) (list : List FieldName) (v : MemberEnd) → Others ts → Reads units fields ts list r → v ≡ member_is.Fields list → Reads units (member_end n) ts v r
member_fields n ts r list v h a e = ok_is (member_end n) ts r v (member_is.Fields list) e (else_reads _ _ (k.Open ∷ []) refl refl ts r (member_is.Fields list) h (gives (λ v. member_is.Fields v) fields ts r list a))

pub member_no_fields : (n : ℕ) (ts r : List Token) → Others ts → Fails units fields ts r → Fails units (member_end n) ts r
member_no_fields n ts r h a = else_fails _ _ (k.Open ∷ []) refl refl refl ts r h (gives_not (λ v. member_is.Fields v) fields ts r a)

-- ---- what follows the type of a member function

pub method_no_word : (n : ℕ) (ts r1 r : List Token) (o : Option DeclaratorMark) → Reads units (opt mark) ts o r1 → Fails units (t k.Word) r1 r → Fails units (method_tail n) ts r
method_no_word n ts r1 r o a c = three_second _ (opt mark) (t k.Word) (method_end n) refl refl ts r1 r o a c

pub method_no_params : (n : ℕ) (ts r1 r2 r : List Token) (o : Option DeclaratorMark) (word : Token) → Reads units (opt mark) ts o r1 → Reads units (t k.Word) r1 word r2 → Fails units parameters r2 r → Fails units (method_tail n) ts r
method_no_params n ts r1 r2 r o word a c d = three_third _ (opt mark) (t k.Word) (method_end n) refl refl ts r1 r2 r o word a c (first_fails parameters (method_rest n) refl r2 r d)

pub method_no_body : (n : ℕ) (ts r1 r2 r3 r : List Token) (o : Option DeclaratorMark) (word : Token) (params : Params) → Reads units (opt mark) ts o r1 → Reads units (t k.Word) r1 word r2 → Reads units parameters r2 params r3 → Fails units (method_rest n) r3 r → Fails units (method_tail n) ts r
method_no_body n ts r1 r2 r3 r o word params a c d e = three_third _ (opt mark) (t k.Word) (method_end n) refl refl ts r1 r2 r o word a c (second_fails parameters (method_rest n) refl r2 r3 r params d e)

pub method_reads : (n : ℕ) (ts r1 r2 r3 r : List Token) (o : Option DeclaratorMark) (word : Token) (params : Params) (body : Option Stmt) (v : MethodTail) → Reads units (opt mark) ts o r1 → Reads units (t k.Word) r1 word r2 → Reads units parameters r2 params r3 → Reads units (method_rest n) r3 body r → v ≡ bd.method_tail o word params body → Reads units (method_tail n) ts v r
method_reads n ts r1 r2 r3 r o word params body v a c d e i = three _ (opt mark) (t k.Word) (method_end n) refl refl ts r1 r2 r o word (params, body) v a c (pair parameters (method_rest n) refl r2 r3 r params body d e) i

-- ---- what follows `virtual`

tilde_reads : (ts us r : List Token) (x : Token) (v : DestructorTail) → Took (k.Tilde ∷ []) ts x us → Reads units (destructor_from x) us v r → Reads units destructor ts v r
tilde_reads ts us r x v h a = led (k.Tilde ∷ []) _ _ refl ts us r x v h a

tilde_fails : (ts us r : List Token) (x : Token) → Took (k.Tilde ∷ []) ts x us → Fails units (destructor_from x) us r → Fails units destructor ts r
tilde_fails ts us r x h a = led_fails (k.Tilde ∷ []) _ _ refl ts us r x h a

pub virtual_destructor : (n : ℕ) (ts us r : List Token) (x : Token) (w : DestructorTail) (v : AfterVirtual) → Took (k.Tilde ∷ []) ts x us → Reads units (destructor_from x) us w r → v ≡ virtual_is.Destructor w → Reads units (after_virtual n) ts v r
virtual_destructor n ts us r x w v h a e = ok_is (after_virtual n) ts r v (virtual_is.Destructor w) e (first_reads _ _ (k.Tilde ∷ []) refl refl ts us r x (virtual_is.Destructor w) h (gives (λ v. virtual_is.Destructor v) destructor ts r w (tilde_reads ts us r x w h a)))

pub virtual_no_destructor : (n : ℕ) (ts us r : List Token) (x : Token) → Took (k.Tilde ∷ []) ts x us → length r ≤ length us → Fails units (destructor_from x) us r → Fails units (after_virtual n) ts r
virtual_no_destructor n ts us r x h m a = first_one_fails _ _ (k.Tilde ∷ []) refl refl ts us r x h m (gives_not (λ v. virtual_is.Destructor v) destructor ts r (tilde_fails ts us r x h a))

pub virtual_no_type : (n : ℕ) (ts us r : List Token) → Eats (k.Tilde ∷ []) ts None us → Fails units (name type_name) us r → Fails units (after_virtual n) ts r
virtual_no_type n ts us r h a = second_one_fails _ _ (k.Tilde ∷ []) refl refl refl ts us r h (two_first _ (name type_name) (method_tail n) refl us r a)

pub virtual_no_method : (n : ℕ) (ts us r1 r : List Token) (w : TypeName) → Eats (k.Tilde ∷ []) ts None us → Reads units (name type_name) us w r1 → Fails units (method_tail n) r1 r → Fails units (after_virtual n) ts r
virtual_no_method n ts us r1 r w h a c = second_one_fails _ _ (k.Tilde ∷ []) refl refl refl ts us r h (two_second _ (name type_name) (method_tail n) refl us r1 r w a c)

pub virtual_method : (n : ℕ) (ts us r1 r : List Token) (w : TypeName) (m : MethodTail) (v : AfterVirtual) → Eats (k.Tilde ∷ []) ts None us → Reads units (name type_name) us w r1 → Reads units (method_tail n) r1 m r → v ≡ virtual_is.Method w m → Reads units (after_virtual n) ts v r
virtual_method n ts us r1 r w m v h a c e = second_reads _ _ (k.Tilde ∷ []) refl refl ts us r v h (two _ (name type_name) (method_tail n) refl us r1 r w m v a c e)

-- ---- what follows a class at the start of a member

abbrev typed_class : ℕ → P AfterMemberClass
typed_class n = give (λ v. class_is.Type v) (member_tail n)

abbrev constructed : ℕ → P AfterMemberClass
constructed n = give (λ v. class_is.Constructor v) (constructor_tail n)

pub class_constructor : (n : ℕ) (ts r : List Token) (w : ConstructorTail) (v : AfterMemberClass) → Opens ts → Reads units (constructor_tail n) ts w r → v ≡ class_is.Constructor w → Reads units (after_member_class n) ts v r
class_constructor n ts r w v h a e = ok_is (after_member_class n) ts r v (class_is.Constructor w) e (swap_reads (typed_class n) (constructed n) ts r (class_is.Constructor w) (next_reads (constructed n) (typed_class n) (k.Open ∷ []) refl refl ts r (class_is.Constructor w) h (gives (λ v. class_is.Constructor v) (constructor_tail n) ts r w a)))

pub class_no_constructor : (n : ℕ) (ts r : List Token) → Opens ts → Fails units (constructor_tail n) ts r → Fails units (after_member_class n) ts r
class_no_constructor n ts r h a = swap_fails (typed_class n) (constructed n) ts r (next_fails (constructed n) (typed_class n) (k.Open ∷ []) refl refl refl ts r h (gives_not (λ v. class_is.Constructor v) (constructor_tail n) ts r a))

pub class_typed : (n : ℕ) (ts r : List Token) (w : MemberTail) (v : AfterMemberClass) → Others ts → Reads units (member_tail n) ts w r → v ≡ class_is.Type w → Reads units (after_member_class n) ts v r
class_typed n ts r w v h a e = ok_is (after_member_class n) ts r v (class_is.Type w) e (swap_reads (typed_class n) (constructed n) ts r (class_is.Type w) (else_reads (constructed n) (typed_class n) (k.Open ∷ []) refl refl ts r (class_is.Type w) h (gives (λ v. class_is.Type v) (member_tail n) ts r w a)))

pub class_not_typed : (n : ℕ) (ts r : List Token) → Others ts → Fails units (member_tail n) ts r → Fails units (after_member_class n) ts r
class_not_typed n ts r h a = swap_fails (typed_class n) (constructed n) ts r (else_fails (constructed n) (typed_class n) (k.Open ∷ []) refl refl refl ts r h (gives_not (λ v. class_is.Type v) (member_tail n) ts r a))

-- ---- a member, by its first token

access_reads : (ts us r : List Token) (x : Token) (v : Member) → Took accesses ts x us → Reads units (access_item x) us v r → Reads units (give (λ t. m.Access (bd.access_of t)) (token accesses ◂ t k.Colon)) ts v r
access_reads ts us r x v h a =
    let w = ungive (λ t. m.Access (bd.access_of x)) (t k.Colon) us r v a in
    ok_is (give (λ t. m.Access (bd.access_of t)) (token accesses ◂ t k.Colon)) ts r v (m.Access (bd.access_of x)) w.1 (gives (λ t. m.Access (bd.access_of t)) (token accesses ◂ t k.Colon) ts r x (before (token accesses) (t k.Colon) refl ts us r x w.0 (ate accesses ts us x h) w.2))

access_fails : (ts us r : List Token) (x : Token) → Took accesses ts x us → Fails units (access_item x) us r → Fails units (give (λ t. m.Access (bd.access_of t)) (token accesses ◂ t k.Colon)) ts r
access_fails ts us r x h a = gives_not (λ t. m.Access (bd.access_of t)) (token accesses ◂ t k.Colon) ts r (before_then_fails (token accesses) (t k.Colon) refl ts us r x (ate accesses ts us x h) (ungive_not (λ t. m.Access (bd.access_of x)) (t k.Colon) us r a))

pub item_access : (n : ℕ) (ts us r : List Token) (x : Token) (v : Member) → Took accesses ts x us → Reads units (access_item x) us v r → Reads units (name (item n)) ts v r
item_access n ts us r x v h a = named (item n) ts r v (first_reads _ _ accesses refl refl ts us r x v h (access_reads ts us r x v h a))

pub item_no_access : (n : ℕ) (ts us r : List Token) (x : Token) → Took accesses ts x us → length r ≤ length us → Fails units (access_item x) us r → Fails units (name (item n)) ts r
item_no_access n ts us r x h m a = named_not (item n) ts r (first_one_fails _ _ accesses refl refl ts us r x h m (access_fails ts us r x h a))

pub item_virtual : (n : ℕ) (ts us vs r : List Token) (x : Token) (v : Member) → Eats accesses ts None us → Took (k.Virtual ∷ []) us x vs → Reads units (virtual_item x n) vs v r → Reads units (name (item n)) ts v r
item_virtual n ts us vs r x v h i a = named (item n) ts r v (second_reads _ _ accesses refl refl ts us r v h (first_reads _ _ (k.Virtual ∷ []) refl refl us vs r x v i (led (k.Virtual ∷ []) (λ v. bd.virtual_member v.0 v.1) (after_virtual n) refl us vs r x v i a)))

pub item_no_virtual : (n : ℕ) (ts us vs r : List Token) (x : Token) → Eats accesses ts None us → Took (k.Virtual ∷ []) us x vs → length r ≤ length vs → Fails units (virtual_item x n) vs r → Fails units (name (item n)) ts r
item_no_virtual n ts us vs r x h i m a = named_not (item n) ts r (second_one_fails _ _ accesses refl refl refl ts us r h (first_one_fails _ _ (k.Virtual ∷ []) refl refl us vs r x i m (led_fails (k.Virtual ∷ []) (λ v. bd.virtual_member v.0 v.1) (after_virtual n) refl us vs r x i a)))

pub item_destructor : (n : ℕ) (ts us vs ws r : List Token) (x : Token) (v : Member) → Eats accesses ts None us → Eats (k.Virtual ∷ []) us None vs → Took (k.Tilde ∷ []) vs x ws → Reads units (destructor_item x) ws v r → Reads units (name (item n)) ts v r
item_destructor n ts us vs ws r x v h i j a =
    let w = ungive bd.destructor (destructor_from x) ws r v a in
    ok_is (name (item n)) ts r v (bd.destructor w.0) w.1 (named (item n) ts r (bd.destructor w.0) (second_reads _ _ accesses refl refl ts us r (bd.destructor w.0) h (second_reads _ _ (k.Virtual ∷ []) refl refl us vs r (bd.destructor w.0) i
    (first_reads _ _ (k.Tilde ∷ []) refl refl vs ws r x (bd.destructor w.0) j (gives bd.destructor destructor vs r w.0 (tilde_reads vs ws r x w.0 j w.2))))))

pub item_no_destructor : (n : ℕ) (ts us vs ws r : List Token) (x : Token) → Eats accesses ts None us → Eats (k.Virtual ∷ []) us None vs → Took (k.Tilde ∷ []) vs x ws → length r ≤ length ws → Fails units (destructor_item x) ws r → Fails units (name (item n)) ts r
item_no_destructor n ts us vs ws r x h i j m a =
    named_not (item n) ts r (second_one_fails _ _ accesses refl refl refl ts us r h (second_one_fails _ _ (k.Virtual ∷ []) refl refl refl us vs r i
    (first_one_fails _ _ (k.Tilde ∷ []) refl refl vs ws r x j m (gives_not bd.destructor destructor vs r (tilde_fails vs ws r x j (ungive_not bd.destructor (destructor_from x) ws r a))))))

abbrev of_class : ℕ → P Member
of_class n = give (λ v. bd.after_in_class v.0 v.1) (seq (t k.Class) (after_member_class n))

-- the last two alternatives
abbrev of_type : ℕ → P Member
of_type n = alt (typed_item n) (of_class n)

no_other : (n : ℕ) (ts us vs ws r : List Token) → Eats accesses ts None us → Eats (k.Virtual ∷ []) us None vs → Eats (k.Tilde ∷ []) vs None ws → Fails units (of_type n) ws r → Fails units (name (item n)) ts r
no_other n ts us vs ws r h i j a = named_not (item n) ts r (second_one_fails _ _ accesses refl refl refl ts us r h (second_one_fails _ _ (k.Virtual ∷ []) refl refl refl us vs r i (second_one_fails _ _ (k.Tilde ∷ []) refl refl refl vs ws r j a)))

of_other : (n : ℕ) (ts us vs ws r : List Token) (v : Member) → Eats accesses ts None us → Eats (k.Virtual ∷ []) us None vs → Eats (k.Tilde ∷ []) vs None ws → Reads units (of_type n) ws v r → Reads units (name (item n)) ts v r
of_other n ts us vs ws r v h i j a = named (item n) ts r v (second_reads _ _ accesses refl refl ts us r v h (second_reads _ _ (k.Virtual ∷ []) refl refl us vs r v i (second_reads _ _ (k.Tilde ∷ []) refl refl vs ws r v j a)))

pub item_class : (n : ℕ) (ts us vs ws xs r : List Token) (x : Token) (v : Member) → Eats accesses ts None us → Eats (k.Virtual ∷ []) us None vs → Eats (k.Tilde ∷ []) vs None ws → Took (k.Class ∷ []) ws x xs → Reads units (class_item x n) xs v r → Reads units (name (item n)) ts v r
item_class n ts us vs ws xs r x v h i j l a = of_other n ts us vs ws r v h i j (swap_reads (typed_item n) (of_class n) ws r v (first_reads (of_class n) (typed_item n) (k.Class ∷ []) refl refl ws xs r x v l (led (k.Class ∷ []) (λ v. bd.after_in_class v.0 v.1) (after_member_class n) refl ws xs r x v l a)))

pub item_no_class : (n : ℕ) (ts us vs ws xs r : List Token) (x : Token) → Eats accesses ts None us → Eats (k.Virtual ∷ []) us None vs → Eats (k.Tilde ∷ []) vs None ws → Took (k.Class ∷ []) ws x xs → length r ≤ length xs → Fails units (class_item x n) xs r → Fails units (name (item n)) ts r
item_no_class n ts us vs ws xs r x h i j l m a = no_other n ts us vs ws r h i j (swap_fails (typed_item n) (of_class n) ws r (first_one_fails (of_class n) (typed_item n) (k.Class ∷ []) refl refl ws xs r x l m (led_fails (k.Class ∷ []) (λ v. bd.after_in_class v.0 v.1) (after_member_class n) refl ws xs r x l a)))

pub item_typed : (n : ℕ) (ts us vs ws xs r : List Token) (v : Member) → Eats accesses ts None us → Eats (k.Virtual ∷ []) us None vs → Eats (k.Tilde ∷ []) vs None ws → Eats (k.Class ∷ []) ws None xs → Reads units (typed_item n) xs v r → Reads units (name (item n)) ts v r
item_typed n ts us vs ws xs r v h i j l a = of_other n ts us vs ws r v h i j (swap_reads (typed_item n) (of_class n) ws r v (second_reads (of_class n) (typed_item n) (k.Class ∷ []) refl refl ws xs r v l a))

pub item_not_typed : (n : ℕ) (ts us vs ws xs r : List Token) → Eats accesses ts None us → Eats (k.Virtual ∷ []) us None vs → Eats (k.Tilde ∷ []) vs None ws → Eats (k.Class ∷ []) ws None xs → Fails units (typed_item n) xs r → Fails units (name (item n)) ts r
item_not_typed n ts us vs ws xs r h i j l a = no_other n ts us vs ws r h i j (swap_fails (typed_item n) (of_class n) ws r (second_one_fails (of_class n) (typed_item n) (k.Class ∷ []) refl refl refl ws xs r l a))

-- ---- members

abbrev each_item : ℕ → P Member
each_item n = name (item n)

abbrev pub MembersSoFar : ℕ → List Member → List Token → List Token → Type 0
MembersSoFar n list ts rest = SoFar units (many (each_item n)) (each_item n) (λ xs. list ++ xs) ts rest

pub members_start : (n : ℕ) (ts : List Token) (list : List Member) → list ≡ [] → MembersSoFar n list ts ts
members_start n ts list e = subst (λ l. MembersSoFar n l ts ts) (sym e) (record { reads = λ xs r a. a; fails = λ r a. a })

pub members_step : (n : ℕ) (ts rest us r : List Token) (list next : List Member) (v : Member) → MembersSoFar n list ts rest → Eats (k.CloseBrace ∷ []) rest None us → Reads units (each_item n) us v r → next ≡ list ++ v ∷ [] → MembersSoFar n next ts r
members_step n ts rest us r list next v s h a e =
    once_more units ahead fit (many (each_item n)) (each_item n) (λ xs. list ++ xs) (λ xs. next ++ xs) (good (many (each_item n)) refl) ts rest r v s
    (subst (λ w. Reads units (each_item n) w v r) h.0 a) (λ xs. sym (ap (λ l. l ++ xs) e ∙ append_assoc list (v ∷ []) xs))

pub members_shorter : (n : ℕ) (rest us r : List Token) (v : Member) → Eats (k.CloseBrace ∷ []) rest None us → Reads units (each_item n) us v r → length r < length rest
members_shorter n rest us r v h a = takes_some (each_item n) refl rest r v (subst (λ w. Reads units (each_item n) w v r) h.0 a)

pub members_end : (n : ℕ) (ts rest r : List Token) (list : List Member) (x : Token) → MembersSoFar n list ts rest → Took (k.CloseBrace ∷ []) rest x r → Reads units (members n) ts list r
members_end n ts rest r list x s h =
    before (many (each_item n)) (t k.CloseBrace) refl ts rest r list x
    (subst (λ l. Reads units (many (each_item n)) ts l rest) (append-nil list) (ended_here units ahead fit (many (each_item n)) (each_item n) (λ xs. list ++ xs) (good (many (each_item n)) refl) ts rest s (other (k.CloseBrace ∷ []) (first_of units ahead (each_item n)) refl rest r x h)))
    (ate (k.CloseBrace ∷ []) rest r x h)

pub members_fail : (n : ℕ) (ts rest us r : List Token) (list : List Member) → MembersSoFar n list ts rest → Eats (k.CloseBrace ∷ []) rest None us → Fails units (each_item n) us r → Fails units (members n) ts r
members_fail n ts rest us r list s h a =
    let a' = subst (λ w. Fails units (each_item n) w r) h.0 a in
    elim (fails_or_none (each_item n) rest r a') [
      | inl l ↦ before_fails (many (each_item n)) (t k.CloseBrace) refl ts r (s.fails r (many_fail_now units ahead fit (each_item n) (good (many (each_item n)) refl) rest r l a'))
      | inr i ↦ subst (λ w. Fails units (members n) ts w) (sym i.0) (before_then_fails (many (each_item n)) (t k.CloseBrace) refl ts rest rest (list ++ [])
          (s.reads [] rest (many_none_of units ahead fit (each_item n) (good (many (each_item n)) refl) rest rest i.1))
          (fail_here units ahead fit (t k.CloseBrace) (good (t k.CloseBrace) refl) refl rest h.1))
    ]

-- ---- the body of a class

base_part : (ts us r : List Token) (x : Token) (list : List Base) → Took (k.Colon ∷ []) ts x us → Reads units base_list us list r → Reads units bases ts list r
base_part ts us r x list h a =
    let w = ungive (λ v. v.0 ∷ v.1) (seq base (many another)) us r list a in
    ok_is bases ts r list (w.0.0 ∷ w.0.1) w.1 (gives (λ v. v.0 ∷ v.1) (t k.Colon ▸ seq base (many another)) ts r w.0 (after (t k.Colon) (seq base (many another)) refl ts us r x w.0 (ate (k.Colon ∷ []) ts us x h) w.2))

base_part_fails : (ts us r : List Token) (x : Token) → Took (k.Colon ∷ []) ts x us → Fails units base_list us r → Fails units bases ts r
base_part_fails ts us r x h a = gives_not (λ v. v.0 ∷ v.1) (t k.Colon ▸ seq base (many another)) ts r (after_fails (t k.Colon) (seq base (many another)) refl ts us r x (ate (k.Colon ∷ []) ts us x h) (ungive_not (λ v. v.0 ∷ v.1) (seq base (many another)) us r a))

pub body_no_bases : (n : ℕ) (ts us r : List Token) (x : Token) → Took (k.Colon ∷ []) ts x us → length r ≤ length us → Fails units base_list us r → Fails units (opt (class_body n)) ts r
body_no_bases n ts us r x h m a = some_fails (class_body n) (k.Colon ∷ []) refl refl ts us r x h m (two_first _ (opt bases) (items n) refl ts r (some_fails bases (k.Colon ∷ []) refl refl ts us r x h m (base_part_fails ts us r x h a)))

pub body_no_items : (n : ℕ) (ts us r1 r : List Token) (x : Token) (list : List Base) → Took (k.Colon ∷ []) ts x us → length r ≤ length us → Reads units base_list us list r1 → Fails units (items n) r1 r → Fails units (opt (class_body n)) ts r
body_no_items n ts us r1 r x list h m a c = some_fails (class_body n) (k.Colon ∷ []) refl refl ts us r x h m (two_second _ (opt bases) (items n) refl ts r1 r (Some list) (some bases refl refl ts r1 list (base_part ts us r1 x list h a)) c)

pub body_with_bases : (n : ℕ) (ts us r1 r : List Token) (x : Token) (list : List Base) (inside : List Member) (v : ClassBody) → Took (k.Colon ∷ []) ts x us → Reads units base_list us list r1 → Reads units (items n) r1 inside r → v ≡ bd.class_body (Some list) inside → Reads units (opt (class_body n)) ts (Some v) r
body_with_bases n ts us r1 r x list inside v h a c e = some (class_body n) refl refl ts r v (two _ (opt bases) (items n) refl ts r1 r (Some list) inside v (some bases refl refl ts r1 list (base_part ts us r1 x list h a)) c e)

pub body_no_members : (n : ℕ) (ts us vs r : List Token) (x : Token) → Eats (k.Colon ∷ []) ts None us → Took (k.OpenBrace ∷ []) us x vs → length r ≤ length vs → Fails units (members n) vs r → Fails units (opt (class_body n)) ts r
body_no_members n ts us vs r x h i m a =
    some_fails (class_body n) (k.OpenBrace ∷ []) refl refl ts vs r x (sym h.0 ∙ i.0, i.1) m
    (two_second _ (opt bases) (items n) refl ts us r None (none bases (k.Colon ∷ []) refl refl ts us h) (after_fails (t k.OpenBrace) (members n) refl us vs r x (ate (k.OpenBrace ∷ []) us vs x i) a))

pub body_plain : (n : ℕ) (ts us vs r : List Token) (x : Token) (inside : List Member) (none_of : List Base) (v : ClassBody) → Eats (k.Colon ∷ []) ts None us → Took (k.OpenBrace ∷ []) us x vs → Reads units (members n) vs inside r → none_of ≡ [] → v ≡ bd.class_body (Some none_of) inside → Reads units (opt (class_body n)) ts (Some v) r
body_plain n ts us vs r x inside none_of v h i a z e =
    some (class_body n) refl refl ts r v
    (two _ (opt bases) (items n) refl ts us r None inside v (none bases (k.Colon ∷ []) refl refl ts us h) (after (t k.OpenBrace) (members n) refl us vs r x inside (ate (k.OpenBrace ∷ []) us vs x i) a) (e ∙ ap (λ l. bd.class_body (Some l) inside) z))

pub body_none : (n : ℕ) (ts us r : List Token) → Eats (k.Colon ∷ []) ts None us → Eats (k.OpenBrace ∷ []) us None r → Reads units (opt (class_body n)) ts None r
body_none n ts us r h i = subst (λ w. Reads units (opt (class_body n)) ts None w) (sym (i.0 ∙ h.0)) (opt_none units ahead fit (class_body n) (good (opt (class_body n)) refl) ts (avoid_both (k.Colon ∷ []) (k.OpenBrace ∷ []) ts us r h i))

-- ---- a class

abbrev headed : ℕ → P (List Token × (Token × (Token × Option ClassBody)))
headed n = kept (class_head n)

abbrev named_class : ℕ → P (Token × Option ClassBody)
named_class n = seq (t k.Class) (opt (class_body n))

head_fails : (n : ℕ) (ts us r : List Token) (x : Token) → Took class_keys ts x us → Fails units (named_class n) us r → Fails units (class_declaration n) ts r
head_fails n ts us r x h a =
    gives_not _ (headed n ◂ t k.Semicolon) ts r (before_fails (headed n) (t k.Semicolon) refl ts r
    (kept_fail units ahead fit (class_head n) ts r (second_fails (token class_keys) (named_class n) refl ts us r x (ate class_keys ts us x h) a)))

pub class_no_name : (n : ℕ) (ts us r : List Token) (x : Token) → Took class_keys ts x us → Fails units (t k.Class) us r → Fails units (class_declaration n) ts r
class_no_name n ts us r x h a = head_fails n ts us r x h (first_fails (t k.Class) (opt (class_body n)) refl us r a)

pub class_no_body : (n : ℕ) (ts us r1 r : List Token) (x class : Token) → Took class_keys ts x us → Reads units (t k.Class) us class r1 → Fails units (opt (class_body n)) r1 r → Fails units (class_declaration n) ts r
class_no_body n ts us r1 r x class h a c = head_fails n ts us r x h (second_fails (t k.Class) (opt (class_body n)) refl us r1 r class a c)

head_reads : (n : ℕ) (ts us r1 r : List Token) (x class : Token) (body : Option ClassBody) → Took class_keys ts x us → Reads units (t k.Class) us class r1 → Reads units (opt (class_body n)) r1 body r → Reads units (class_head n) ts (x, (class, body)) r
head_reads n ts us r1 r x class body h a c = pair (token class_keys) (named_class n) refl ts us r x (class, body) (ate class_keys ts us x h) (pair (t k.Class) (opt (class_body n)) refl us r1 r class body a c)

-- what a reading used is what stands before what it leaves
used_part : {A : Type 0} → (p : P A) (ts r : List Token) (v : A) → Reads units p ts v r → ts ≡ take (length ts - length r) ts ++ r
used_part p ts r v a =
    let n : length ts ≡ length a.used + length r = ap length a.cut ∙ length-append a.used r in
    let m : length ts - length r ≡ length a.used = omega (arith, n) in
    let e : take (length ts - length r) ts ≡ a.used = ap (λ w. take w ts) m ∙ (ap (λ w. take (length a.used) w) a.cut ∙ take-append_seam a.used r) in
    a.cut ∙ ap (λ w. w ++ r) (sym e)

kept_head : (n : ℕ) (ts us r1 r : List Token) (x class : Token) (body : Option ClassBody) → Took class_keys ts x us → Reads units (t k.Class) us class r1 → Reads units (opt (class_body n)) r1 body r → Reads units (headed n) ts (take (length ts - length r) ts, (x, (class, body))) r
kept_head n ts us r1 r x class body h a c =
    let w = head_reads n ts us r1 r x class body h a c in
    kept_ok units ahead fit (class_head n) ts (take (length ts - length r) ts) r (x, (class, body)) (used_part (class_head n) ts r (x, (class, body)) w) w

pub class_unclosed : (n : ℕ) (ts us r1 r2 r : List Token) (x class : Token) (body : Option ClassBody) → Took class_keys ts x us → Reads units (t k.Class) us class r1 → Reads units (opt (class_body n)) r1 body r2 → Fails units (t k.Semicolon) r2 r → Fails units (class_declaration n) ts r
class_unclosed n ts us r1 r2 r x class body h a c d =
    gives_not _ (headed n ◂ t k.Semicolon) ts r (before_then_fails (headed n) (t k.Semicolon) refl ts r2 r (take (length ts - length r2) ts, (x, (class, body))) (kept_head n ts us r1 r2 x class body h a c) d)

pub class_reads : (n : ℕ) (ts us r1 r2 r : List Token) (x class y : Token) (body : Option ClassBody) (v : Decl) → Took class_keys ts x us → Reads units (t k.Class) us class r1 → Reads units (opt (class_body n)) r1 body r2 → Reads units (t k.Semicolon) r2 y r → v ≡ bd.class_decl (take (length ts - length r2) ts) x class body → Reads units (class_declaration n) ts v r
class_reads n ts us r1 r2 r x class y body v h a c d e =
    let w : List Token × (Token × (Token × Option ClassBody)) = (take (length ts - length r2) ts, (x, (class, body))) in
    ok_is (class_declaration n) ts r v (bd.class_decl (take (length ts - length r2) ts) x class body) e
    (gives (λ v. bd.class_decl v.0 v.1.0 v.1.1.0 v.1.1.1) (headed n ◂ t k.Semicolon) ts r w (before (headed n) (t k.Semicolon) refl ts r2 r w y (kept_head n ts us r1 r2 x class body h a c) d))
