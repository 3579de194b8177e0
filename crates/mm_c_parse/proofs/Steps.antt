-- How readers of parts make up readers of longer parts, at the grammar of C texts.
use Rattle.std.specs.Prelude.{Bool, true, false, not, ◌&&◌, ◌==◌}
use Rattle.std.proofs.Common.{◌≡◌, ℕ, map, ◌+◌, ◌<◌, ◌≤◌, IsTrue, List, [], ◌∷◌, ◌++◌, inr, length, refl, ap, sym, ◌∙◌, subst, arith, Result, Ok, Err}
use Rattle.std.specs.Result.{IsErrAnd}
use Rattle.std.proofs.lemmas.List.{length-append}
use Rattle.std.proofs.lemmas.Bool.Decides.{nat_tests}
use Rattle.std.proofs.lemmas.Result.{err_from_is_err_and}
use Rattle.mm_grammar.specs.Grammar.{one, name, seq, alt, give, nothing, Begins, Avoids, Reads, Fails, has}
use Rattle.mm_grammar.specs.Ahead.{first_of, is_good, has_no_tail, empty_of, Good, disjoint, within}
use Rattle.mm_grammar.proofs.Lists.{both, and_left, and_right, or_left, has-within}
use Rattle.mm_grammar.proofs.Plain.{plain_good}
use Rattle.mm_grammar.proofs.Reading.{one_ok, one_fail, nothing_ok, seq_ok, seq_fail_first, seq_fail_second, alt_first_ok, alt_first_fail, alt_second_ok, alt_second_fail, map_ok, map_fail, name_ok, name_fail}
use Rattle.mm_c.specs.Tokens.{Token, class_of}
use Rattle.mm_c.specs.Grammar.{P, Name, Value, texts, rule_of, w, ◌▸◌}
use Rattle.mm_c.proofs.Claims.{ahead, fit}
use Rattle.mm_c_parse.specs.declared.step.Stop.{Stop}
use Rattle.mm_c_parse.specs.declared.step.Stop.TheVariants as stop
use Rattle.mm_c_parse.specs.Steps.{Answers, Passes, Marks, Broken, behind}

abbrev pub is_plain : {A : Type 0} → P A → Bool
is_plain p = is_good texts ahead p && has_no_tail texts ahead p

pub good : {A : Type 0} → (p : P A) → IsTrue (is_plain p) → Good texts ahead p
good p g = plain_good texts ahead p g

eq_refl : (c : ℕ) → IsTrue (c == c)
eq_refl c = grind (arith, nat_tests)

-- ---- at the exits of a function

pub ok : {A : Type 0} {p : P A} {ts rest : List Token} {v : A} → Answers p ts (Ok v) rest → Reads texts p ts v rest
ok {v} a = a.read v refl

pub no_ : {A : Type 0} {p : P A} {ts rest : List Token} {e : Stop} → Answers p ts (Err e) rest → e ≡ stop.Fault → Fails texts p ts rest
no_ a h = a.fault (ap (λ x. Err x) h)

ok_inside : {A : Type 0} {v x : A} → ◌≡◌ {A = Result A Stop} (Ok v) (Ok x) → v ≡ x
ok_inside h = cc

pub err_inside : {B : Type 0} {a b : Stop} → ◌≡◌ {A = Result B Stop} (Err a) (Err b) → a ≡ b
err_inside h = cc

pub not_both_ways : {B : Type 0} {v : B} {a : Stop} → ◌≡◌ {A = Result B Stop} (Ok v) (Err a) → ⊥
not_both_ways h = cc

pub yes_ : {A : Type 0} {p : P A} {ts rest : List Token} {v : A} → Reads texts p ts v rest → Answers p ts (Ok v) rest
yes_ {p} {ts} {rest} {v} a = record { read = λ x h. subst (λ y. Reads texts p ts y rest) (ok_inside h) a; fault = λ h. absurd (not_both_ways h) }

-- where a reader answers that it is at fault
pub bad : {B : Type 0} {q : P B} {ts rest : List Token} {e : Stop} {r : Result B Stop} → IsErrAnd r (λ y. y ≡ e) → (e ≡ stop.Fault → Fails texts q ts rest) → Answers q ts r rest
bad {e} {r} is f =
    let x = err_from_is_err_and r is in
    record { read = λ v h. absurd (not_both_ways (sym h ∙ x.1)); fault = λ h. f (sym x.2 ∙ err_inside (sym x.1 ∙ h)) }

-- where the function itself is at fault
pub fails_ : {B : Type 0} {q : P B} {ts rest : List Token} → Fails texts q ts rest → Answers q ts (Err stop.Fault) rest
fails_ f = record { read = λ v h. absurd (not_both_ways (sym h)); fault = λ h. f }

-- where memory ran out
pub room_ : {B : Type 0} {q : P B} {ts rest : List Token} {e : Stop} {r : Result B Stop} → IsErrAnd r (λ y. y ≡ e) → e ≡ stop.NoMemory → Answers q ts r rest
room_ is h = bad is (λ i. let n = sym h ∙ i in absurd (cc))

-- what another reader answers, for a longer part
pub tl : {A : Type 0} {p q : P A} {ts us rest : List Token} {r : Result A Stop} → Answers p us r rest → ((v : A) → Reads texts p us v rest → Reads texts q ts v rest) → (Fails texts p us rest → Fails texts q ts rest) → Answers q ts r rest
tl a f g = record { read = λ v h. f v (a.read v h); fault = λ h. g (a.fault h) }

pub passed_ : {cs : List ℕ} {ts rest : List Token} {u : Unit {0}} → Passes cs ts (Ok u) rest → Marks cs ts rest
passed_ {u} a = a.passed u refl

pub broken_ : {cs : List ℕ} {ts rest : List Token} {e : Stop} → Passes cs ts (Err e) rest → Broken cs ts rest
broken_ {e} a = (a.broken e refl).1

-- from a part with another value back to the part
pub ug : {A B : Type 0} {f : A → B} {p : P A} {ts r : List Token} {x : B} → Reads texts (give f p) ts x r → (v : A) × (x ≡ f v) × Reads texts p ts v r
ug a = let s = a.spelled in (s.0, s.1, record { used = a.used; cut = a.cut; spelled = s.2; stuck = a.stuck })

pub uf : {A B : Type 0} {f : A → B} {p : P A} {ts r : List Token} → Fails texts (give f p) ts r → Fails texts p ts r
uf {f} a = record { used = a.used; cut = a.cut; front = a.front; not_spelled = λ v s. a.not_spelled (f v) (v, refl, s); stuck = a.stuck }

-- ---- tokens

pub took : (cs : List ℕ) {ts rest : List Token} {t : Token} → ts ≡ t ∷ rest → IsTrue (has (class_of t) cs) → Reads texts (one cs) ts t rest
took cs {rest} {t} e h = subst (λ us. Reads texts (one cs) us t rest) (sym e) (one_ok texts ahead fit cs t rest h)

pub none_took : (cs : List ℕ) {ts rest : List Token} → rest ≡ ts → Avoids texts cs ts → Fails texts (one cs) ts rest
none_took cs {ts} e h = subst (λ us. Fails texts (one cs) ts us) (sym e) (one_fail texts ahead fit cs ts h)

-- ---- parts

pub rg : {A B : Type 0} {f : A → B} {p : P A} {ts r : List Token} {v : A} {x : B} → Reads texts p ts v r → x ≡ f v → Reads texts (give f p) ts x r
rg {f} {p} {ts} {r} {v} {x} a e = subst (λ y. Reads texts (give f p) ts y r) (sym e) (map_ok texts ahead fit f p ts r v a)

pub fg : {A B : Type 0} {f : A → B} {p : P A} {ts r : List Token} → Fails texts p ts r → Fails texts (give f p) ts r
fg {f} {p} {ts} {r} a = map_fail texts ahead fit f p ts r a

pub rs : {A B : Type 0} {p : P A} {q : P B} {ts m r : List Token} {v : A} {x : B} → IsTrue (is_plain (seq p q)) → Reads texts p ts v m → Reads texts q m x r → Reads texts (seq p q) ts (v, x) r
rs {p} {q} {ts} {m} {r} {v} {x} g a b = seq_ok texts ahead fit p q (good (seq p q) g) ts m r v x a b

pub ff : {A B : Type 0} {p : P A} {q : P B} {ts r : List Token} → IsTrue (is_plain (seq p q)) → Fails texts p ts r → Fails texts (seq p q) ts r
ff {p} {q} {ts} {r} g a = seq_fail_first texts ahead fit p q (good (seq p q) g) ts r a

pub fs : {A B : Type 0} {p : P A} {q : P B} {ts m r : List Token} {v : A} → IsTrue (is_plain (seq p q)) → Reads texts p ts v m → Fails texts q m r → Fails texts (seq p q) ts r
fs {p} {q} {ts} {m} {r} {v} g a b = seq_fail_second texts ahead fit p q (good (seq p q) g) ts m r v a b

pub rn : {x : Name} {ts r : List Token} {v : Value x} → Reads texts (rule_of x) ts v r → Reads texts (name x) ts v r
rn {x} {ts} {r} {v} a = name_ok texts ahead fit x ts r v a

pub fn_ : {x : Name} {ts r : List Token} → Fails texts (rule_of x) ts r → Fails texts (name x) ts r
fn_ {x} {ts} {r} a = name_fail texts ahead fit x ts r a

-- ---- runs of marks

inner_plain : {A : Type 0} → (c : ℕ) (q : P A) → IsTrue (is_plain (w c ▸ q)) → IsTrue (is_plain q)
inner_plain c q g =
    let one_side = and_left (is_good texts ahead (w c ▸ q)) (has_no_tail texts ahead (w c ▸ q)) g in
    let tails = and_right (is_good texts ahead (w c ▸ q)) (has_no_tail texts ahead (w c ▸ q)) g in
    both (is_good texts ahead q) (has_no_tail texts ahead q)
    (and_right true (is_good texts ahead q) (and_left (true && is_good texts ahead q) (disjoint [] (first_of texts ahead q)) one_side))
    (and_right true (has_no_tail texts ahead q) tails)

-- a token of the class in front
first_mark : (c : ℕ) (t : Token) (us : List Token) → class_of t ≡ c → Reads texts (w c) (t ∷ us) t us
first_mark c t us e = one_ok texts ahead fit (c ∷ []) t us (subst (λ k. IsTrue (has k (c ∷ []))) (sym e) (same_in c))
  where
    same_in : (c : ℕ) → IsTrue (has c (c ∷ []))
    same_in c = or_left (c == c) false (eq_refl c)

pub head_is : {x y : ℕ} {xs ys : List ℕ} → x ∷ xs ≡ y ∷ ys → x ≡ y
head_is e = cc

pub tail_is : {x y : ℕ} {xs ys : List ℕ} → x ∷ xs ≡ y ∷ ys → xs ≡ ys
tail_is e = cc

run_reads : {A : Type 0} (cs : List ℕ) (q : P A) (used m r : List Token) (v : A) → IsTrue (is_plain (behind cs q)) → map class_of used ≡ cs → Reads texts q m v r → Reads texts (behind cs q) (used ++ m) v r
run_reads [] q [] m r v g e a = a
run_reads [] q (t ∷ used) m r v g e a = absurd (cc)
run_reads (c ∷ cs) q [] m r v g e a = absurd (cc)
run_reads (c ∷ cs) q (t ∷ used) m r v g e a =
    rg (rs g (first_mark c t (used ++ m) (head_is e)) (run_reads cs q used m r v (inner_plain c (behind cs q) g) (tail_is e) a)) refl

run_fails : {A : Type 0} (cs : List ℕ) (q : P A) (used m r : List Token) → IsTrue (is_plain (behind cs q)) → map class_of used ≡ cs → Fails texts q m r → Fails texts (behind cs q) (used ++ m) r
run_fails [] q [] m r g e a = a
run_fails [] q (t ∷ used) m r g e a = absurd (cc)
run_fails (c ∷ cs) q [] m r g e a = absurd (cc)
run_fails (c ∷ cs) q (t ∷ used) m r g e a =
    fg (fs g (first_mark c t (used ++ m) (head_is e)) (run_fails cs q used m r (inner_plain c (behind cs q) g) (tail_is e) a))

run_breaks : {A : Type 0} (cs : List ℕ) (q : P A) (used r : List Token) (k : ℕ) (more : List ℕ) → IsTrue (is_plain (behind cs q)) → map class_of used ++ k ∷ more ≡ cs → Avoids texts (k ∷ []) r → Fails texts (behind cs q) (used ++ r) r
run_breaks [] q [] r k more g e a = absurd (cc)
run_breaks [] q (t ∷ used) r k more g e a = absurd (cc)
run_breaks (c ∷ cs) q [] r k more g e a = fg (ff g (one_fail texts ahead fit (c ∷ []) r (subst (λ n. Avoids texts (n ∷ []) r) (head_is e) a)))
run_breaks (c ∷ cs) q (t ∷ used) r k more g e a =
    fg (fs g (first_mark c t (used ++ r) (head_is e)) (run_breaks cs q used r k more (inner_plain c (behind cs q) g) (tail_is e) a))

pub mr : {A : Type 0} (cs : List ℕ) {q : P A} {ts m r : List Token} {v : A} → IsTrue (is_plain (behind cs q)) → Marks cs ts m → Reads texts q m v r → Reads texts (behind cs q) ts v r
mr cs {q} {m} {r} {v} g h a = subst (λ us. Reads texts (behind cs q) us v r) (sym h.cut) (run_reads cs q h.used m r v g h.classes a)

pub mf : {A : Type 0} (cs : List ℕ) {q : P A} {ts m r : List Token} → IsTrue (is_plain (behind cs q)) → Marks cs ts m → Fails texts q m r → Fails texts (behind cs q) ts r
mf cs {q} {m} {r} g h a = subst (λ us. Fails texts (behind cs q) us r) (sym h.cut) (run_fails cs q h.used m r g h.classes a)

-- where the run breaks off
pub mb : {A : Type 0} (cs : List ℕ) (q : P A) {ts r : List Token} → IsTrue (is_plain (behind cs q)) → Broken cs ts r → Fails texts (behind cs q) ts r
mb cs q {r} g h = subst (λ us. Fails texts (behind cs q) us r) (sym h.cut) (run_breaks cs q h.used r h.wanted h.more g h.classes h.other)

-- a run to its last mark
run_all : (cs : List ℕ) (c : ℕ) (used r : List Token) → IsTrue (is_plain (behind cs (w c))) → map class_of used ≡ cs ++ c ∷ [] → (t : Token) × Reads texts (behind cs (w c)) (used ++ r) t r
run_all [] c [] r g e = absurd (cc)
run_all [] c (t ∷ []) r g e = (t, first_mark c t r (head_is e))
run_all [] c (t ∷ u ∷ us) r g e = let n = tail_is e in absurd (cc)
run_all (d ∷ cs) c [] r g e = absurd (cc)
run_all (d ∷ cs) c (t ∷ used) r g e =
    let a = run_all cs c used r (inner_plain d (behind cs (w c)) g) (tail_is e) in
    (a.0, rg (rs g (first_mark d t (used ++ r) (head_is e)) a.1) refl)

run_not_all : (cs : List ℕ) (c : ℕ) (used r : List Token) (k : ℕ) (more : List ℕ) → IsTrue (is_plain (behind cs (w c))) → map class_of used ++ k ∷ more ≡ cs ++ c ∷ [] → Avoids texts (k ∷ []) r → Fails texts (behind cs (w c)) (used ++ r) r
run_not_all [] c [] r k more g e a = one_fail texts ahead fit (c ∷ []) r (subst (λ n. Avoids texts (n ∷ []) r) (head_is e) a)
run_not_all [] c (t ∷ []) r k more g e a = let n = tail_is e in absurd (cc)
run_not_all [] c (t ∷ u ∷ us) r k more g e a = let n = tail_is e in absurd (cc)
run_not_all (d ∷ cs) c [] r k more g e a = fg (ff g (one_fail texts ahead fit (d ∷ []) r (subst (λ n. Avoids texts (n ∷ []) r) (head_is e) a)))
run_not_all (d ∷ cs) c (t ∷ used) r k more g e a =
    fg (fs g (first_mark d t (used ++ r) (head_is e)) (run_not_all cs c used r k more (inner_plain d (behind cs (w c)) g) (tail_is e) a))

pub wr : (cs : List ℕ) (c : ℕ) {ts r : List Token} → IsTrue (is_plain (behind cs (w c))) → Marks (cs ++ c ∷ []) ts r → (t : Token) × Reads texts (behind cs (w c)) ts t r
wr cs c {r} g h = let a = run_all cs c h.used r g h.classes in (a.0, subst (λ us. Reads texts (behind cs (w c)) us a.0 r) (sym h.cut) a.1)

pub wf : (cs : List ℕ) (c : ℕ) {ts r : List Token} → IsTrue (is_plain (behind cs (w c))) → Broken (cs ++ c ∷ []) ts r → Fails texts (behind cs (w c)) ts r
wf cs c {r} g h = subst (λ us. Fails texts (behind cs (w c)) us r) (sym h.cut) (run_not_all cs c h.used r h.wanted h.more g h.classes h.other)

-- one mark
pub mark_of : {c : ℕ} {ts r : List Token} → Marks (c ∷ []) ts r → (t : Token) × (ts ≡ t ∷ r) × (class_of t ≡ c)
mark_of {c} {ts} {r} h = go h.used h.cut h.classes
  where
    go : (u : List Token) → ts ≡ u ++ r → map class_of u ≡ c ∷ [] → (t : Token) × (ts ≡ t ∷ r) × (class_of t ≡ c)
    go [] e k = absurd (cc)
    go (t ∷ []) e k = (t, e, head_is k)
    go (t ∷ u ∷ us) e k = let n = tail_is k in absurd (cc)

pub mw : {c : ℕ} {ts r : List Token} → Marks (c ∷ []) ts r → (t : Token) × Reads texts (w c) ts t r
mw {c} {ts} {r} h = let m = mark_of h in (m.0, subst (λ us. Reads texts (w c) us m.0 r) (sym m.1) (first_mark c m.0 r m.2))

pub mw_not : {c : ℕ} {ts r : List Token} → Broken (c ∷ []) ts r → Fails texts (w c) ts r
mw_not {c} {ts} {r} h = go h.used h.cut h.classes
  where
    go : (u : List Token) → ts ≡ u ++ r → map class_of u ++ h.wanted ∷ h.more ≡ c ∷ [] → Fails texts (w c) ts r
    go [] e k = subst (λ us. Fails texts (w c) us r) (sym e) (one_fail texts ahead fit (c ∷ []) r (subst (λ n. Avoids texts (n ∷ []) r) (head_is k) h.other))
    go (t ∷ []) e k = let n = tail_is k in absurd (cc)
    go (t ∷ u ∷ us) e k = let n = tail_is k in absurd (cc)

-- ---- one of two, by the first token

begins : (cs : List ℕ) {ts rest : List Token} (t : Token) → ts ≡ t ∷ rest → (firsts : List ℕ) → IsTrue (within cs firsts) → IsTrue (has (class_of t) cs) → Begins texts firsts ts
begins cs {rest} t e firsts i h = (t, rest, e, has-within (class_of t) cs firsts i h)

fails_within : {A : Type 0} {p : P A} {ts r : List Token} → Fails texts p ts r → length r ≤ length ts
fails_within {ts} {r} a = let e : length ts ≡ length a.used + length r = ap length a.cut ∙ length-append a.used r in omega arith

pub shorter : {A : Type 0} {p : P A} {ts us r : List Token} (t : Token) → ts ≡ t ∷ us → Fails texts p us r → length r < length ts
shorter t e a = let l = ap length e in let m = fails_within a in omega arith

-- the first, which begins with a token that was taken
pub tr : {A : Type 0} {p q : P A} (cs : List ℕ) {ts us r : List Token} {t : Token} {v : A} → IsTrue (is_plain (alt p q)) → IsTrue (within cs (first_of texts ahead p)) → ts ≡ t ∷ us → IsTrue (has (class_of t) cs) → Reads texts p ts v r → Reads texts (alt p q) ts v r
tr {p} {q} cs {ts} {r} {t} {v} g i e h a = alt_first_ok texts ahead fit p q (good (alt p q) g) ts r v (begins cs t e (first_of texts ahead p) i h) a

pub tf : {A A' : Type 0} {p q : P A} {p' : P A'} (cs : List ℕ) {ts us r : List Token} {t : Token} → IsTrue (is_plain (alt p q)) → IsTrue (within cs (first_of texts ahead p)) → ts ≡ t ∷ us → IsTrue (has (class_of t) cs) → Fails texts p' us r → Fails texts p ts r → Fails texts (alt p q) ts r
tf {p} {q} cs {ts} {r} {t} g i e h b a = alt_first_fail texts ahead fit p q (good (alt p q) g) ts r (begins cs t e (first_of texts ahead p) i h) (inr (shorter t e b)) a

-- the same of a token that was passed over
pub kr : {A : Type 0} {p q : P A} {c : ℕ} {ts us r : List Token} {v : A} → IsTrue (is_plain (alt p q)) → IsTrue (within (c ∷ []) (first_of texts ahead p)) → Marks (c ∷ []) ts us → Reads texts p ts v r → Reads texts (alt p q) ts v r
kr {p} {q} {c} g i h a = let m = mark_of h in tr (c ∷ []) g i m.1 (subst (λ k. IsTrue (has k (c ∷ []))) (sym m.2) (or_left (c == c) false (eq_refl c))) a

pub kf : {A A' : Type 0} {p q : P A} {p' : P A'} {c : ℕ} {ts us r : List Token} → IsTrue (is_plain (alt p q)) → IsTrue (within (c ∷ []) (first_of texts ahead p)) → Marks (c ∷ []) ts us → Fails texts p' us r → Fails texts p ts r → Fails texts (alt p q) ts r
kf {p} {q} {c} g i h b a = let m = mark_of h in tf (c ∷ []) g i m.1 (subst (λ k. IsTrue (has k (c ∷ []))) (sym m.2) (or_left (c == c) false (eq_refl c))) b a

-- the other, where no token stands that begins the first
pub nr : {A : Type 0} {p q : P A} (cs : List ℕ) {ts us r : List Token} {v : A} → IsTrue (is_plain (alt p q)) → first_of texts ahead p ≡ cs → us ≡ ts → Avoids texts cs ts → Reads texts q us v r → Reads texts (alt p q) ts v r
nr {p} {q} cs {ts} {r} {v} g f e h a = alt_second_ok texts ahead fit p q (good (alt p q) g) ts r v (λ k s i j. h k s i (subst (λ cs. IsTrue (has (class_of k) cs)) f j)) (subst (λ us. Reads texts q us v r) e a)

pub nf : {A : Type 0} {p q : P A} (cs : List ℕ) {ts us r : List Token} → IsTrue (is_plain (alt p q)) → IsTrue (not (empty_of texts ahead p)) → first_of texts ahead p ≡ cs → us ≡ ts → Avoids texts cs ts → Fails texts q us r → Fails texts (alt p q) ts r
nf {p} {q} cs {ts} {r} g n f e h a = alt_second_fail texts ahead fit p q (good (alt p q) g) ts r (λ k s i j. h k s i (subst (λ cs. IsTrue (has (class_of k) cs)) f j)) n (subst (λ us. Fails texts q us r) e a)

-- a last alternative without a token
pub rz : {ts : List Token} → Reads texts nothing ts tt ts
rz {ts} = nothing_ok texts ahead fit ts tt
