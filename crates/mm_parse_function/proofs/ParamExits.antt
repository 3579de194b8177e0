-- The exits of each reader of parameters, over plain lists of tokens.
use Rattle.std.proofs.Common.{◌≡◌, ◌≤◌, List, [], ◌∷◌, length, refl, ap, sym, ◌∙◌, subst, arith, Option, Some, None, option_copied}
use Rattle.std.specs.Borrow.{Bor}
use Rattle.mm_grammar.specs.Grammar.{name, seq, alt, opt, Reads, Fails}
use Rattle.mm_grammar.specs.Ahead.{first_of}
use Rattle.mm_grammar.proofs.Loops.{opt_none}
use Rattle.mm_grammar.proofs.Here.{opt_some_of, opt_fail_of, opt_fail_shorter}
use Rattle.mm_token.specs.declared.token.Token.{Token}
use Rattle.mm_syntax.specs.declared.symbol.Symbol.{Symbol}
use Rattle.mm_syntax.specs.declared.symbol.Symbol.TheVariants as k
use Rattle.mm_syntax.specs.declared.name.DeclaratorMark.{DeclaratorMark}
use Rattle.mm_syntax.specs.declared.expr.TypeName.{TypeName}
use Rattle.mm_syntax.specs.declared.decl.Param.{Param}
use Rattle.mm_syntax.specs.declared.decl.Params.{Params}
use Rattle.mm_syntax.specs.declared.part.ParamEnd.{ParamEnd}
use Rattle.mm_syntax.specs.Built as b
use Rattle.mm_syntax.specs.BuiltDeclarations as bd
use Rattle.mm_syntax.specs.Rules.{P, units, token, params, param, type_name, mark, number_type, class_type, void_type, void_end, param_end, other_param, more_params, after_void, some_params, parameters}
use Rattle.mm_syntax.proofs.Claims.{ahead}
use Rattle.mm_syntax.proofs.Fitting.{fit}
use Rattle.mm_cursor.specs.Cursor.{Eats}
use Rattle.mm_cursor.proofs.Steps.{Took, good, ok_is, ate, other, avoid_both, pair, first_fails, second_fails, gives, gives_not, named, named_not, after, after_fails, before, before_then_fails, some, first_reads, first_one_fails, second_reads, second_one_fails, ungive, ungive_not, token_taken}
use Rattle.mm_parse_function.specs.Parts.{inside_parameters, void_first, behind}
use Rattle.mm_parse_function.proofs.Optional.{none_fails, none_seq, reads_takes, fails_behind}

abbrev t : Symbol → P Token
t symbol = token (symbol ∷ [])

-- ---- (* | &)? W?

pub param_end_no_mark : (ts r : List Token) → Fails units (opt mark) ts r → Fails units param_end ts r
param_end_no_mark ts r a = gives_not (λ v. bd.param_end v.0 v.1) _ _ _ (first_fails (opt mark) (opt (t k.Word)) refl ts r a)

pub param_end_reads : (ts r1 r : List Token) (before : Option DeclaratorMark) (o : Option (Bor Token)) (v : ParamEnd) → Reads units (opt mark) ts before r1 → Eats (k.Word ∷ []) r1 o r → v ≡ bd.param_end before (option_copied o) → Reads units param_end ts v r
param_end_reads ts r1 r before o v a h e = ok_is param_end ts r v (bd.param_end before (option_copied o)) e (gives (λ v. bd.param_end v.0 v.1) _ _ _ (before, option_copied o) (pair (opt mark) (opt (t k.Word)) refl ts r1 r before (option_copied o) a (token_taken (k.Word ∷ []) refl r1 r o h)))

-- ---- the same, but not empty

abbrev marks : List Symbol
marks = k.Star ∷ k.And ∷ []

pub void_end_marked : (ts us r : List Token) (x : Token) (o : Option (Bor Token)) (v : ParamEnd) → Took marks ts x us → Eats (k.Word ∷ []) us o r → v ≡ bd.param_end (Some (b.mark_of x)) (option_copied o) → Reads units (opt void_end) ts (Some v) r
void_end_marked ts us r x o v h i e =
    let w = bd.param_end (Some (b.mark_of x)) (option_copied o) in
    ok_is (opt void_end) ts r (Some v) (Some w) (ap (λ z. Some z) e) (some void_end refl refl ts r w
    (first_reads _ _ marks refl refl ts us r x w h
    (gives (λ v. bd.param_end (Some v.0) v.1) _ _ _ (b.mark_of x, option_copied o) (pair mark (opt (t k.Word)) refl ts us r (b.mark_of x) (option_copied o) (gives b.mark_of (token marks) ts us x (ate marks ts us x h)) (token_taken (k.Word ∷ []) refl us r o i)))))

pub void_end_named : (ts us r : List Token) (x : Token) (v : ParamEnd) → Eats marks ts None us → Took (k.Word ∷ []) us x r → v ≡ bd.param_end None (Some x) → Reads units (opt void_end) ts (Some v) r
void_end_named ts us r x v h i e =
    let w = bd.param_end None (Some x) in
    ok_is (opt void_end) ts r (Some v) (Some w) (ap (λ z. Some z) e) (some void_end refl refl ts r w
    (second_reads _ _ marks refl refl ts us r w h
    (gives (λ x. bd.param_end None (Some x)) _ _ _ x (ate (k.Word ∷ []) us r x i))))

pub void_end_none : (ts us r : List Token) → Eats marks ts None us → Eats (k.Word ∷ []) us None r → Reads units (opt void_end) ts None r
void_end_none ts us r h i = subst (λ w. Reads units (opt void_end) ts None w) (sym (i.0 ∙ h.0)) (opt_none units ahead fit void_end (good (opt void_end) refl) ts (avoid_both marks (k.Word ∷ []) ts us r h i))

-- ---- a parameter that doesn't begin with `void`

abbrev object_type : P TypeName
object_type = alt number_type class_type

abbrev virtuals : P (Token × (TypeName × ParamEnd))
virtuals = seq (t k.Virtual) (seq (name type_name) param_end)

virtual_fails : (ts us r : List Token) (x : Token) → Took (k.Virtual ∷ []) ts x us → length r ≤ length us → Fails units (seq (name type_name) param_end) us r → Fails units other_param ts r
virtual_fails ts us r x h n a = first_one_fails _ _ (k.Virtual ∷ []) refl refl ts us r x h n
    (gives_not (λ v. bd.param (Some v.0) v.1.0 v.1.1) virtuals ts r (second_fails (t k.Virtual) (seq (name type_name) param_end) refl ts us r x (ate (k.Virtual ∷ []) ts us x h) a))

pub other_no_virtual_type : (ts us r : List Token) (x : Token) → Took (k.Virtual ∷ []) ts x us → length r ≤ length us → Fails units (name type_name) us r → Fails units other_param ts r
other_no_virtual_type ts us r x h n a = virtual_fails ts us r x h n (first_fails (name type_name) param_end refl us r a)

pub other_no_virtual_end : (ts us r1 r : List Token) (x : Token) (kind : TypeName) → Took (k.Virtual ∷ []) ts x us → length r ≤ length us → Reads units (name type_name) us kind r1 → Fails units param_end r1 r → Fails units other_param ts r
other_no_virtual_end ts us r1 r x kind h n a c = virtual_fails ts us r x h n (second_fails (name type_name) param_end refl us r1 r kind a c)

pub other_virtual : (ts us r1 r : List Token) (x : Token) (kind : TypeName) (last : ParamEnd) (v : Param) → Took (k.Virtual ∷ []) ts x us → Reads units (name type_name) us kind r1 → Reads units param_end r1 last r → v ≡ bd.param (Some x) kind last → Reads units other_param ts v r
other_virtual ts us r1 r x kind last v h a c e = ok_is other_param ts r v (bd.param (Some x) kind last) e (first_reads _ _ (k.Virtual ∷ []) refl refl ts us r x (bd.param (Some x) kind last) h
    (gives (λ v. bd.param (Some v.0) v.1.0 v.1.1) virtuals ts r (x, (kind, last)) (pair (t k.Virtual) (seq (name type_name) param_end) refl ts us r x (kind, last) (ate (k.Virtual ∷ []) ts us x h) (pair (name type_name) param_end refl us r1 r kind last a c))))

pub other_no_type : (ts us r : List Token) → Eats (k.Virtual ∷ []) ts None us → Fails units object_type us r → Fails units other_param ts r
other_no_type ts us r h a = second_one_fails _ _ (k.Virtual ∷ []) refl refl refl ts us r h
    (gives_not (λ v. bd.param None v.0 v.1) _ us r (first_fails object_type param_end refl us r a))

pub other_no_end : (ts us r1 r : List Token) (kind : TypeName) → Eats (k.Virtual ∷ []) ts None us → Reads units object_type us kind r1 → Fails units param_end r1 r → Fails units other_param ts r
other_no_end ts us r1 r kind h a c = second_one_fails _ _ (k.Virtual ∷ []) refl refl refl ts us r h
    (gives_not (λ v. bd.param None v.0 v.1) _ us r (second_fails object_type param_end refl us r1 r kind a c))

pub other_plain : (ts us r1 r : List Token) (kind : TypeName) (last : ParamEnd) (v : Param) → Eats (k.Virtual ∷ []) ts None us → Reads units object_type us kind r1 → Reads units param_end r1 last r → v ≡ bd.param None kind last → Reads units other_param ts v r
other_plain ts us r1 r kind last v h a c e = ok_is other_param ts r v (bd.param None kind last) e (second_reads _ _ (k.Virtual ∷ []) refl refl ts us r (bd.param None kind last) h
    (gives (λ v. bd.param None v.0 v.1) _ us r (kind, last) (pair object_type param_end refl us r1 r kind last a c)))

-- ---- void

void_read : (ts us : List Token) (word : Token) → Took (k.Void ∷ []) ts word us → Reads units void_type ts (b.word_type word) us
void_read ts us word h = gives b.word_type (t k.Void) ts us word (ate (k.Void ∷ []) ts us word h)

-- ---- a parameter

void_param_fails : (ts us r : List Token) (word : Token) → Took (k.Void ∷ []) ts word us → length r ≤ length us → Fails units void_end us r → Fails units (name param) ts r
void_param_fails ts us r word h n a = named_not param ts r (first_one_fails _ _ (k.Void ∷ []) refl refl ts us r word h n
    (gives_not (λ v. bd.param None v.0 v.1) _ ts r (second_fails void_type void_end refl ts us r (b.word_type word) (void_read ts us word h) a)))

pub param_fails : (ts us r : List Token) (word : Token) → Took (k.Void ∷ []) ts word us → length r ≤ length us → Fails units (opt void_end) us r → Fails units (name param) ts r
param_fails ts us r word h n a = void_param_fails ts us r word h n (opt_fail_of units ahead fit void_end us r a)

pub param_no_end : (ts us r : List Token) (word : Token) → Took (k.Void ∷ []) ts word us → length r ≤ length us → Reads units (opt void_end) us None r → Fails units (name param) ts r
param_no_end ts us r word h n a = void_param_fails ts us r word h n (none_fails void_end refl us r a)

pub param_void : (ts us r : List Token) (word : Token) (last : ParamEnd) (v : Param) → Took (k.Void ∷ []) ts word us → Reads units (opt void_end) us (Some last) r → v ≡ bd.param None (b.word_type word) last → Reads units (name param) ts v r
param_void ts us r word last v h a e =
    let w = bd.param None (b.word_type word) last in
    ok_is (name param) ts r v w e (named param ts r w (first_reads _ _ (k.Void ∷ []) refl refl ts us r word w h
    (gives (λ v. bd.param None v.0 v.1) _ ts r (b.word_type word, last) (pair void_type void_end refl ts us r (b.word_type word) last (void_read ts us word h) (opt_some_of units ahead fit void_end us r last a)))))

pub param_other : (ts us r : List Token) (v : Param) → Eats (k.Void ∷ []) ts None us → Reads units other_param us v r → Reads units (name param) ts v r
param_other ts us r v h a = named param ts r v (second_reads _ _ (k.Void ∷ []) refl refl ts us r v h a)

pub param_no_other : (ts us r : List Token) → Eats (k.Void ∷ []) ts None us → Fails units other_param us r → Fails units (name param) ts r
param_no_other ts us r h a = named_not param ts r (second_one_fails _ _ (k.Void ∷ []) refl refl refl ts us r h a)

-- ---- what follows a first `void`

abbrev void_and_more : P (ParamEnd × List Param)
void_and_more = seq void_end more_params

pub void_no_end : (word : Token) (ts r : List Token) → Fails units (opt void_end) ts r → Fails units (void_first word) ts r
void_no_end word ts r a = gives_not (λ v. bd.after_void (b.word_type word) v) after_void ts r (fails_behind void_and_more refl refl ts r (opt_fail_shorter units ahead fit void_end ts r a) (first_fails void_end more_params refl ts r (opt_fail_of units ahead fit void_end ts r a)))

pub void_no_more : (word : Token) (ts r1 r : List Token) (last : ParamEnd) (first : Param) → Reads units (opt void_end) ts (Some last) r1 → length r ≤ length r1 → Fails units (behind first) r1 r → Fails units (void_first word) ts r
void_no_more word ts r1 r last first a n c =
    let e = opt_some_of units ahead fit void_end ts r1 last a in
    let l = reads_takes void_end refl ts r1 last e in
    gives_not (λ v. bd.after_void (b.word_type word) v) after_void ts r (fails_behind void_and_more refl refl ts r (omega (arith, l, n)) (second_fails void_end more_params refl ts r1 r last e (ungive_not (λ xs. first ∷ xs) more_params r1 r c)))

pub void_and : (word : Token) (ts r1 r : List Token) (last : ParamEnd) (first : Param) (list : List Param) (v : Params) → Reads units (opt void_end) ts (Some last) r1 → first ≡ bd.param None (b.word_type word) last → Reads units (behind first) r1 list r → v ≡ bd.params_of list → Reads units (void_first word) ts v r
void_and word ts r1 r last first list v a i c e =
    let w = ungive (λ xs. first ∷ xs) more_params r1 r list c in
    let same : list ≡ bd.param None (b.word_type word) last ∷ w.0 = w.1 ∙ ap (λ x. x ∷ w.0) i in
    ok_is (void_first word) ts r v (bd.after_void (b.word_type word) (Some (last, w.0))) (e ∙ ap (λ l. bd.params_of l) same)
    (gives (λ v. bd.after_void (b.word_type word) v) after_void ts r (Some (last, w.0)) (some void_and_more refl refl ts r (last, w.0)
    (pair void_end more_params refl ts r1 r last w.0 (opt_some_of units ahead fit void_end ts r1 last a) w.2)))

pub void_only : (word : Token) (ts r : List Token) (v : Params) → Reads units (opt void_end) ts None r → v ≡ bd.after_void (b.word_type word) None → Reads units (void_first word) ts v r
void_only word ts r v a e = ok_is (void_first word) ts r v (bd.after_void (b.word_type word) None) e (gives (λ v. bd.after_void (b.word_type word) v) after_void ts r None (none_seq void_end refl more_params ts r a))

-- ---- params, but not nothing

pub some_void : (ts us r : List Token) (word : Token) (v : Params) → Took (k.Void ∷ []) ts word us → Reads units (void_first word) us v r → Reads units some_params ts v r
some_void ts us r word v h a =
    let w = ungive (λ v. bd.after_void (b.word_type word) v) after_void us r v a in
    let y = bd.after_void (b.word_type word) w.0 in
    ok_is some_params ts r v y w.1 (first_reads _ _ (k.Void ∷ []) refl refl ts us r word y h
    (gives (λ v. bd.after_void v.0 v.1) _ ts r (b.word_type word, w.0) (pair void_type after_void refl ts us r (b.word_type word) w.0 (void_read ts us word h) w.2)))

pub some_no_void : (ts us r : List Token) (word : Token) → Took (k.Void ∷ []) ts word us → length r ≤ length us → Fails units (void_first word) us r → Fails units some_params ts r
some_no_void ts us r word h n a = first_one_fails _ _ (k.Void ∷ []) refl refl ts us r word h n
    (gives_not (λ v. bd.after_void v.0 v.1) _ ts r (second_fails void_type after_void refl ts us r (b.word_type word) (void_read ts us word h) (ungive_not (λ v. bd.after_void (b.word_type word) v) after_void us r a)))

pub some_no_first : (ts us r : List Token) → Eats (k.Void ∷ []) ts None us → Fails units other_param us r → Fails units some_params ts r
some_no_first ts us r h a = second_one_fails _ _ (k.Void ∷ []) refl refl refl ts us r h
    (gives_not (λ v. bd.params_of (v.0 ∷ v.1)) _ us r (first_fails other_param more_params refl us r a))

pub some_no_more : (ts us r1 r : List Token) (first : Param) → Eats (k.Void ∷ []) ts None us → Reads units other_param us first r1 → Fails units (behind first) r1 r → Fails units some_params ts r
some_no_more ts us r1 r first h a c = second_one_fails _ _ (k.Void ∷ []) refl refl refl ts us r h
    (gives_not (λ v. bd.params_of (v.0 ∷ v.1)) _ us r (second_fails other_param more_params refl us r1 r first a (ungive_not (λ xs. first ∷ xs) more_params r1 r c)))

pub some_reads : (ts us r1 r : List Token) (first : Param) (list : List Param) (v : Params) → Eats (k.Void ∷ []) ts None us → Reads units other_param us first r1 → Reads units (behind first) r1 list r → v ≡ bd.params_of list → Reads units some_params ts v r
some_reads ts us r1 r first list v h a c e =
    let w = ungive (λ xs. first ∷ xs) more_params r1 r list c in
    let y = bd.params_of (first ∷ w.0) in
    ok_is some_params ts r v y (e ∙ ap (λ l. bd.params_of l) w.1) (second_reads _ _ (k.Void ∷ []) refl refl ts us r y h
    (gives (λ v. bd.params_of (v.0 ∷ v.1)) _ us r (first, w.0) (pair other_param more_params refl us r1 r first w.0 a w.2)))

-- ---- params )

given : (ts r : List Token) (o : Option Params) → Reads units (opt some_params) ts o r → Reads units (name params) ts (bd.given_params o) r
given ts r o a = named params ts r (bd.given_params o) (gives bd.given_params (opt some_params) ts r o a)

pub inside_empty : (ts r : List Token) (x : Token) (list : List Param) (v : Params) → Took (k.Close ∷ []) ts x r → list ≡ [] → v ≡ bd.params_of list → Reads units inside_parameters ts v r
inside_empty ts r x list v h i e =
    ok_is inside_parameters ts r v (bd.params_of []) (e ∙ ap (λ l. bd.params_of l) i)
    (before (name params) (t k.Close) refl ts ts r (bd.params_of []) x
    (given ts ts None (opt_none units ahead fit some_params (good (opt some_params) refl) ts (other (k.Close ∷ []) (first_of units ahead some_params) refl ts r x h))) (ate (k.Close ∷ []) ts r x h))

some_given : (ts us r : List Token) (v : Params) → Eats (k.Close ∷ []) ts None us → Reads units some_params us v r → Reads units (name params) ts v r
some_given ts us r v h a = given ts r (Some v) (some some_params refl refl ts r v (subst (λ w. Reads units some_params w v r) h.0 a))

pub inside_some : (ts us r1 r : List Token) (v : Params) (x : Token) → Eats (k.Close ∷ []) ts None us → Reads units some_params us v r1 → Reads units (t k.Close) r1 x r → Reads units inside_parameters ts v r
inside_some ts us r1 r v x h a c = before (name params) (t k.Close) refl ts r1 r v x (some_given ts us r1 v h a) c

pub inside_unclosed : (ts us r1 r : List Token) (v : Params) → Eats (k.Close ∷ []) ts None us → Reads units some_params us v r1 → Fails units (t k.Close) r1 r → Fails units inside_parameters ts r
inside_unclosed ts us r1 r v h a c = before_then_fails (name params) (t k.Close) refl ts r1 r v (some_given ts us r1 v h a) c

-- ---- ( params )

pub parameters_no_open : (ts r : List Token) → Fails units (t k.Open) ts r → Fails units parameters ts r
parameters_no_open ts r a = gives_not (λ v. v.1) _ ts r (first_fails (t k.Open) inside_parameters refl ts r a)

pub parameters_no_inside : (ts r1 r : List Token) (x : Token) → Reads units (t k.Open) ts x r1 → Fails units inside_parameters r1 r → Fails units parameters ts r
parameters_no_inside ts r1 r x a c = after_fails (t k.Open) inside_parameters refl ts r1 r x a c

pub parameters_reads : (ts r1 r : List Token) (x : Token) (v : Params) → Reads units (t k.Open) ts x r1 → Reads units inside_parameters r1 v r → Reads units parameters ts v r
parameters_reads ts r1 r x v a c = after (t k.Open) inside_parameters refl ts r1 r x v a c
