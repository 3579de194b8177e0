-- What follows `return`, and the statements that jump.
use Rattle.std.proofs.Common.{◌≡◌, List, [], ◌∷◌, ◌++◌, refl, ap, subst}
use Rattle.mm_grammar.specs.Grammar.{give, opt, seq, Avoids, Reads, Fails}
use Rattle.mm_grammar.proofs.Loops.{opt_none}
use Rattle.mm_grammar.proofs.Here.{opt_then_fail, opt_read}
use Rattle.mm_c.specs.declared.tree.CAtom.{CAtom}
use Rattle.mm_c.specs.Tree as t
use Rattle.mm_c.specs.Tree.{Stmt}
use Rattle.mm_c.specs.Tokens.{Token, names, numbers, class_of}
use Rattle.mm_c.specs.Grammar.{P, Placed, texts, w, atom, at, return_stmt, ◌◂◌, ◌∣◌}
use Rattle.mm_c.proofs.Claims.{ahead, fit}
use Rattle.mm_c_parse.specs.Steps.{Marks, Broken}
use Rattle.mm_c_parse.proofs.Steps.{good, rg, fg, rs, fs, mw, mw_not, tr, tf, ug, uf}
use Rattle.mm_c_parse.proofs.Seen.{rl}
use Rattle.mm_c_parse_stmt.specs.Parts.{return_end, jump}
use Rattle.mm_c_parse_stmt.proofs.Firsts.{is_in, first_read, away}

pub leaves : {ts r : List Token} {s : Stmt} → s ≡ t.leave → Marks (26 ∷ []) ts r → Reads texts return_end ts s r
leaves {ts} e m = rg (rl refl (opt_none texts ahead fit atom (good (opt atom) refl) ts (away (names ++ numbers ++ 31 ∷ 20 ∷ []) refl m)) (mw m).1) e

pub no_value : {us ts r : List Token} → us ≡ ts → Avoids texts (26 ∷ []) ts → Fails texts atom us r → Fails texts return_end ts r
no_value {us} {ts} {r} e n a = fg (fg (opt_then_fail texts ahead fit atom (w 26) (good (seq (opt atom) (w 26)) refl) (good (w 26) refl) refl ts r n (subst (λ l. Fails texts atom l r) e a)))

pub value_not_ended : {us ts m r : List Token} {v : CAtom} → us ≡ ts → Reads texts atom us v m → Broken (26 ∷ []) m r → Fails texts return_end ts r
value_not_ended {us} {ts} {m} {r} {v} e a b = fg (fg (fs refl (opt_read texts ahead fit atom (good (opt atom) refl) refl ts m v (subst (λ l. Reads texts atom l v m) e a)) (mw_not b)))

pub returns_value : {us ts m r : List Token} {v : CAtom} {s : Stmt} → us ≡ ts → s ≡ t.return v → Reads texts atom us v m → Marks (26 ∷ []) m r → Reads texts return_end ts s r
returns_value {us} {ts} {m} {r} {v} e i a k = rg (rl refl (opt_read texts ahead fit atom (good (opt atom) refl) refl ts m v (subst (λ l. Reads texts atom l v m) e a)) (mw k).1) i

-- ---- jumps

abbrev pub on_jump : P (Placed Stmt)
on_jump = give (λ x. at t.continue x.place) (w 54 ◂ w 26) ∣ return_stmt

pub break_not : {x : Token} {ts us r : List Token} → ts ≡ x ∷ us → class_of x ≡ 53 → Broken (26 ∷ []) us r → Fails texts jump ts r
break_not {x} e k b = tf (53 ∷ []) refl refl e (is_in x refl k) (mw_not b) (fg (fg (fs refl (first_read refl e k) (mw_not b))))

pub break_reads : {x : Token} {ts us r : List Token} → ts ≡ x ∷ us → class_of x ≡ 53 → Marks (26 ∷ []) us r → Reads texts jump ts (at t.break x.place) r
break_reads {x} e k m = tr (53 ∷ []) refl refl e (is_in x refl k) (rg (rl refl (first_read refl e k) (mw m).1) refl)

pub continue_not : {x : Token} {ts us r : List Token} → ts ≡ x ∷ us → class_of x ≡ 54 → Broken (26 ∷ []) us r → Fails texts on_jump ts r
continue_not {x} e k b = tf (54 ∷ []) refl refl e (is_in x refl k) (mw_not b) (fg (fg (fs refl (first_read refl e k) (mw_not b))))

pub continue_reads : {x : Token} {ts us r : List Token} → ts ≡ x ∷ us → class_of x ≡ 54 → Marks (26 ∷ []) us r → Reads texts on_jump ts (at t.continue x.place) r
continue_reads {x} e k m = tr (54 ∷ []) refl refl e (is_in x refl k) (rg (rl refl (first_read refl e k) (mw m).1) refl)

pub return_reads : {x : Token} {ts us r : List Token} {v : Stmt} → ts ≡ x ∷ us → class_of x ≡ 55 → Reads texts return_end us v r → Reads texts return_stmt ts (at v x.place) r
return_reads {x} e k a = let u = ug a in rg (rs refl (first_read refl e k) u.2) (ap (λ (s : Stmt). at s x.place) u.1)

pub return_not : {x : Token} {ts us r : List Token} → ts ≡ x ∷ us → class_of x ≡ 55 → Fails texts return_end us r → Fails texts return_stmt ts r
return_not e k a = fg (fs refl (first_read refl e k) (uf a))
