-- The exits of the readers of declarations, over plain lists of tokens.
use Rattle.std.proofs.Common.{◌≡◌, ℕ, ◌<◌, ◌≤◌, true, false, IsTrue, List, [], ◌∷◌, ◌++◌, ◌⊎◌, inl, inr, map, length, refl, ap, sym, ◌∙◌, subst, None, append_assoc}
use Rattle.std.proofs.lemmas.List.{append-nil}
use Rattle.mm_grammar.specs.Grammar.{name, seq, alt, many, give, has, Front, Reads, Fails}
use Rattle.mm_grammar.specs.Ahead.{first_of}
use Rattle.mm_grammar.proofs.Lists.{has-split}
use Rattle.mm_grammar.proofs.Closed.{fold_front}
use Rattle.mm_grammar.proofs.Reading.{alt_second_ok, alt_second_fail}
use Rattle.mm_grammar.proofs.Loops.{SoFar, once_more, ended_here, failed_inside}
use Rattle.mm_token.specs.declared.token.Token.{Token}
use Rattle.mm_syntax.specs.declared.symbol.Symbol.{Symbol}
use Rattle.mm_syntax.specs.declared.symbol.Symbol.TheVariants as k
use Rattle.mm_syntax.specs.declared.expr.TypeName.{TypeName}
use Rattle.mm_syntax.specs.declared.decl.Decl.{Decl}
use Rattle.mm_syntax.specs.declared.part.Declared.{Declared}
use Rattle.mm_syntax.specs.declared.part.AfterClass.{AfterClass}
use Rattle.mm_syntax.specs.Symbols.{symbol_of, number_of}
use Rattle.mm_syntax.specs.BuiltDeclarations as bd
use Rattle.mm_syntax.specs.Rules.{P, units, token, rule_of, unit, decl, void_type, number_type, after_type, after_class_name}
use Rattle.mm_syntax.proofs.Claims.{ahead}
use Rattle.mm_syntax.proofs.Fitting.{fit}
use Rattle.mm_cursor.specs.Cursor.{Eats}
use Rattle.mm_cursor.proofs.Steps.{Took, good, ok_is, ate, other, pair, first_fails, second_fails, gives, gives_not, named, named_not, first_reads, first_one_fails, second_reads, second_one_fails}
use Rattle.mm_parse_class.specs.Parts.{class_keys, class_declaration}
use Rattle.mm_parse_unit.specs.Reading.{begin_decl, begins}
use Rattle.mm_parse_unit.proofs.Elsewhere.{left_reads, left_fails, reads_less, fails_less}

abbrev class_word : List Symbol
class_word = k.Class ∷ []

abbrev typed : ℕ → P Decl
typed n = give (λ v. bd.typed v.0 v.1) (seq (alt void_type number_type) (after_type n))

abbrev classed : ℕ → P Decl
classed n = give (λ v. bd.after v.0 v.1) (seq (token class_word) (after_class_name n))

abbrev functions : ℕ → P Decl
functions n = alt (typed n) (classed n)

-- ---- a class

pub decl_class : (n : ℕ) (ts us r : List Token) (word : Token) (v : Decl) → Took class_keys ts word us → Reads units (class_declaration n) ts v r → Reads units (name (decl n)) ts v r
decl_class n ts us r word v h a = named (decl n) ts r v (first_reads (class_declaration n) (functions n) class_keys refl refl ts us r word v h a)

pub decl_no_class : (n : ℕ) (ts us r : List Token) (word : Token) → Took class_keys ts word us → length r ≤ length us → Fails units (class_declaration n) ts r → Fails units (name (decl n)) ts r
decl_no_class n ts us r word h i a = named_not (decl n) ts r (first_one_fails (class_declaration n) (functions n) class_keys refl refl ts us r word h i a)

-- ---- what begins with a class

pub decl_after : (n : ℕ) (ts us vs r : List Token) (word : Token) (e : AfterClass) (v : Decl) → Eats class_keys ts None us → Took class_word us word vs → Reads units (after_class_name n) vs e r → v ≡ bd.after word e → Reads units (name (decl n)) ts v r
decl_after n ts us vs r word e v h i a j =
    ok_is (name (decl n)) ts r v (bd.after word e) j
    (named (decl n) ts r (bd.after word e)
    (second_reads (class_declaration n) (functions n) class_keys refl refl ts us r (bd.after word e) h
    (alt_second_ok units ahead fit (typed n) (classed n) (good (functions n) refl) us r (bd.after word e) (other class_word (first_of units ahead (typed n)) refl us vs word i)
    (gives (λ v. bd.after v.0 v.1) (seq (token class_word) (after_class_name n)) us r (word, e) (pair (token class_word) (after_class_name n) refl us vs r word e (ate class_word us vs word i) a)))))

pub decl_no_after : (n : ℕ) (ts us vs r : List Token) (word : Token) → Eats class_keys ts None us → Took class_word us word vs → Fails units (after_class_name n) vs r → Fails units (name (decl n)) ts r
decl_no_after n ts us vs r word h i a =
    named_not (decl n) ts r
    (second_one_fails (class_declaration n) (functions n) class_keys refl refl refl ts us r h
    (alt_second_fail units ahead fit (typed n) (classed n) (good (functions n) refl) us r (other class_word (first_of units ahead (typed n)) refl us vs word i) refl
    (gives_not (λ v. bd.after v.0 v.1) (seq (token class_word) (after_class_name n)) us r (second_fails (token class_word) (after_class_name n) refl us vs r word (ate class_word us vs word i) a))))

-- ---- what begins with another type

typed_fails : (n : ℕ) (ts us vs r : List Token) → Eats class_keys ts None us → Eats class_word us None vs → Fails units (seq (alt void_type number_type) (after_type n)) us r → Fails units (name (decl n)) ts r
typed_fails n ts us vs r h i a =
    named_not (decl n) ts r
    (second_one_fails (class_declaration n) (functions n) class_keys refl refl refl ts us r h
    (left_fails (typed n) (classed n) (good (functions n) refl) refl us r i.1 (gives_not (λ v. bd.typed v.0 v.1) (seq (alt void_type number_type) (after_type n)) us r a)))

pub decl_no_type : (n : ℕ) (ts us vs r : List Token) → Eats class_keys ts None us → Eats class_word us None vs → Fails units (alt void_type number_type) vs r → Fails units (name (decl n)) ts r
decl_no_type n ts us vs r h i a = typed_fails n ts us vs r h i (first_fails (alt void_type number_type) (after_type n) refl us r (subst (λ w. Fails units (alt void_type number_type) w r) i.0 a))

pub decl_no_end : (n : ℕ) (ts us vs r1 r : List Token) (type_name : TypeName) → Eats class_keys ts None us → Eats class_word us None vs → Reads units (alt void_type number_type) vs type_name r1 → Fails units (after_type n) r1 r → Fails units (name (decl n)) ts r
decl_no_end n ts us vs r1 r type_name h i a c =
    typed_fails n ts us vs r h i (second_fails (alt void_type number_type) (after_type n) refl us r1 r type_name (subst (λ w. Reads units (alt void_type number_type) w type_name r1) i.0 a) c)

pub decl_typed : (n : ℕ) (ts us vs r1 r : List Token) (type_name : TypeName) (d : Declared) (v : Decl) → Eats class_keys ts None us → Eats class_word us None vs → Reads units (alt void_type number_type) vs type_name r1 → Reads units (after_type n) r1 d r → v ≡ bd.typed type_name d → Reads units (name (decl n)) ts v r
decl_typed n ts us vs r1 r type_name d v h i a c e =
    ok_is (name (decl n)) ts r v (bd.typed type_name d) e
    (named (decl n) ts r (bd.typed type_name d)
    (second_reads (class_declaration n) (functions n) class_keys refl refl ts us r (bd.typed type_name d) h
    (left_reads (typed n) (classed n) (good (functions n) refl) us r (bd.typed type_name d) i.1
    (gives (λ v. bd.typed v.0 v.1) (seq (alt void_type number_type) (after_type n)) us r (type_name, d)
    (pair (alt void_type number_type) (after_type n) refl us r1 r type_name d (subst (λ w. Reads units (alt void_type number_type) w type_name r1) i.0 a) c)))))

-- ---- declarations

abbrev among : List Symbol → Token → Type 0
among symbols t = IsTrue (has (number_of (symbol_of t)) (map number_of symbols))

split : (t : Token) (a b : List ℕ) → IsTrue (has (number_of (symbol_of t)) (a ++ b)) → IsTrue (has (number_of (symbol_of t)) a) ⊎ IsTrue (has (number_of (symbol_of t)) b)
split t a b h = has-split (number_of (symbol_of t)) a b h

-- each first token of a declaration begins one
beginning : (n : ℕ) (t : Token) → among begin_decl t → Front units (rule_of (decl n)) (t ∷ [])
beginning n t h = elim (split t (map number_of class_keys) (map number_of (k.Void ∷ k.Bool ∷ k.Int ∷ k.Unsigned ∷ k.Class ∷ [])) h) [
  | inl i ↦ inl (inl (inl (inr (t, refl, i))))
  | inr a ↦ elim (split t (map number_of (k.Void ∷ [])) (map number_of (k.Bool ∷ k.Int ∷ k.Unsigned ∷ k.Class ∷ [])) a) [
    | inl i ↦ inr (inl (inl (inl (inr (t, refl, i)))))
    | inr c ↦ elim (split t (map number_of (k.Bool ∷ k.Int ∷ [])) (map number_of (k.Unsigned ∷ k.Class ∷ [])) c) [
      | inl i ↦ inr (inl (inl (inr (inl (inr (t, refl, i))))))
      | inr d ↦ elim (split t (map number_of (k.Unsigned ∷ [])) (map number_of class_word) d) [
        | inl i ↦ inr (inl (inl (inr (inr (inl (inr (t, refl, i)))))))
        | inr i ↦ inr (inr (inl (inr (t, refl, i))))
      ]
    ]
  ]
]

-- the declarations read so far
abbrev pub DeclsSoFar : ℕ → List Decl → List Token → List Token → Type 0
DeclsSoFar n list ts rest = SoFar units (name (unit n)) (name (decl n)) (λ xs. list ++ xs) ts rest

pub decls_start : (n : ℕ) (ts : List Token) (list : List Decl) → list ≡ [] → DeclsSoFar n list ts ts
decls_start n ts list e = subst (λ l. DeclsSoFar n l ts ts) (sym e) (record { reads = λ xs r a. named (unit n) ts r xs a; fails = λ r a. named_not (unit n) ts r a })

pub decls_step : (n : ℕ) (ts rest r : List Token) (list now : List Decl) (v : Decl) → DeclsSoFar n list ts rest → Reads units (name (decl n)) rest v r → now ≡ list ++ v ∷ [] → DeclsSoFar n now ts r
decls_step n ts rest r list now v s a e =
    once_more units ahead fit (name (unit n)) (name (decl n)) (λ xs. list ++ xs) (λ xs. now ++ xs) (good (many (name (decl n))) refl) ts rest r v s a
    (λ xs. sym (ap (λ w. w ++ xs) e ∙ append_assoc list (v ∷ []) xs))

pub decls_end : (n : ℕ) (ts rest : List Token) (list : List Decl) → DeclsSoFar n list ts rest → false ≡ begins begin_decl rest → Reads units (name (unit n)) ts list rest
decls_end n ts rest list s e =
    subst (λ l. Reads units (name (unit n)) ts l rest) (append-nil list)
    (ended_here units ahead fit (name (unit n)) (name (decl n)) (λ xs. list ++ xs) (good (many (name (decl n))) refl) ts rest s none)
  where
    none : (t : Token) (more : List Token) → rest ≡ t ∷ more → among begin_decl t → ⊥
    none t more i h = absurd (let no : false ≡ true = e ∙ (ap (begins begin_decl) i ∙ h) in cc)

pub decls_fail : (n : ℕ) (ts rest r : List Token) (list : List Decl) → DeclsSoFar n list ts rest → true ≡ begins begin_decl rest → Fails units (name (decl n)) rest r → Fails units (name (unit n)) ts r
decls_fail n ts [] r list s e a = absurd (cc)
decls_fail n ts (t ∷ rest) r list s e a =
    let front = fold_front units (decl n) (t ∷ []) (beginning n t (sym e)) in
    failed_inside units ahead fit (name (unit n)) (name (decl n)) (λ xs. list ++ xs) (good (many (name (decl n))) refl) ts (t ∷ rest) r (fails_less (name (decl n)) t rest (t ∷ rest) r refl front a) s a

pub decl_less : (n : ℕ) (ts r : List Token) (v : Decl) → Reads units (name (decl n)) ts v r → length r < length ts
decl_less n ts r v a = reads_less (name (decl n)) refl ts r v a
