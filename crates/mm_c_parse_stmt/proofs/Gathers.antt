-- At the exits of readers of parts that have places.
use Rattle.std.proofs.Common.{◌≡◌, List, ◌++◌, refl, ap, sym, ◌∙◌, subst, append_assoc, Result, Ok, Err}
use Rattle.std.specs.Result.{IsErrAnd}
use Rattle.std.proofs.lemmas.Result.{err_from_is_err_and}
use Rattle.mm_grammar.specs.Grammar.{Reads, Fails}
use Rattle.mm_c.specs.Tokens.{Token, Place}
use Rattle.mm_c.specs.Grammar.{P, Placed, texts}
use Rattle.mm_c_parse.specs.declared.step.Stop.{Stop}
use Rattle.mm_c_parse.specs.declared.step.Stop.TheVariants as stop
use Rattle.mm_c_parse.specs.Steps.{Answers, seen}
use Rattle.mm_c_parse.proofs.Steps.{not_both_ways, err_inside}
use Rattle.mm_c_parse_stmt.specs.Gathers.{Gathers}

abbrev pub here : {A : Type 0} → A → List Place → Placed A
here v ps = record { tree = v; places = ps }

ok_inside : {T : Type 0} {x y : T} → ◌≡◌ {A = Result T Stop} (Ok x) (Ok y) → x ≡ y
ok_inside h = cc

-- what another reader gathered
pub got : {T A : Type 0} {view : T → A} {p : P (Placed A)} {ts rest : List Token} {before after : List Place} {x : T} → Gathers view p ts before (Ok x) after rest → (ps : List Place) × (after ≡ before ++ ps) × Reads texts p ts (here (view x) ps) rest
got {x} a = a.read x refl

pub gone : {T A : Type 0} {view : T → A} {p : P (Placed A)} {ts rest : List Token} {before after : List Place} {e : Stop} → Gathers view p ts before (Err e) after rest → e ≡ stop.Fault → Fails texts p ts rest
gone a h = a.fault (ap (λ x. Err x) h)

-- where the function has a value
pub gives : {T A : Type 0} (view : T → A) {p : P (Placed A)} {ts rest : List Token} {before after : List Place} {x : T} (v : A) (ps : List Place) → view x ≡ v → after ≡ before ++ ps → Reads texts p ts (here v ps) rest → Gathers view p ts before (Ok x) after rest
gives {T} view {p} {ts} {rest} {before} {after} {x} v ps e s a = record {
  read = λ y h. (ps, s, subst (λ w. Reads texts p ts (here w ps) rest) (sym e ∙ ap view (ok_inside h)) a);
  fault = λ h. absurd (not_both_ways h);
}

-- where a reader is at fault
pub lacks : {T A : Type 0} (view : T → A) (r : Result T Stop) {q : P (Placed A)} {ts rest : List Token} {before after : List Place} {e : Stop} → IsErrAnd r (λ y. y ≡ e) → (e ≡ stop.Fault → Fails texts q ts rest) → Gathers view q ts before r after rest
lacks view r is f =
    let x = err_from_is_err_and r is in
    record { read = λ v h. absurd (not_both_ways (sym h ∙ x.1)); fault = λ h. f (sym x.2 ∙ err_inside (sym x.1 ∙ h)) }

-- where the function itself is at fault
pub lacks_itself : {T A : Type 0} (view : T → A) {q : P (Placed A)} {ts rest : List Token} {before after : List Place} → Fails texts q ts rest → Gathers view q ts before (Err stop.Fault) after rest
lacks_itself view f = record { read = λ v h. absurd (not_both_ways (sym h)); fault = λ h. f }

-- what another reader gathers, for a longer part, behind places that were added before
pub goes_on : {T A : Type 0} {view : T → A} {p : P (Placed A)} (q : P (Placed A)) {ts us rest : List Token} {before mid after : List Place} {r : Result T Stop} (first : List Place) → mid ≡ before ++ first → Gathers view p us mid r after rest →
    ((v : A) (ps : List Place) → Reads texts p us (here v ps) rest → Reads texts q ts (here v (first ++ ps)) rest) → (Fails texts p us rest → Fails texts q ts rest) → Gathers view q ts before r after rest
goes_on {T} {A} {view} {p} q {ts} {us} {rest} {before} {mid} {after} {r} first e a f g = record {
  read = λ x h. let m = a.read x h in (first ++ m.0, m.1 ∙ (ap (λ l. l ++ m.0) e ∙ append_assoc before first m.0), f (view x) m.0 m.2);
  fault = λ h. g (a.fault h);
}

-- the same of a part that has no places
pub goes_plain : {T A : Type 0} (view : T → A) {p : P A} (q : P (Placed A)) {ts us rest : List Token} {before after : List Place} (r : Result T Stop) (first : List Place) → after ≡ before ++ first → Answers p us (seen view r) rest →
    ((v : A) → Reads texts p us v rest → Reads texts q ts (here v first) rest) → (Fails texts p us rest → Fails texts q ts rest) → Gathers view q ts before r after rest
goes_plain view q r first e a f g = record {
  read = λ x h. (first, e, f (view x) (a.read (view x) (ap (seen view) h)));
  fault = λ h. g (a.fault (ap (seen view) h));
}
