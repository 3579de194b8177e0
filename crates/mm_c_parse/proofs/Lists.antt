-- Operands, joined by commas, and the `)` behind them.
use Rattle.std.proofs.Common.{◌≡◌, ℕ, ◌<◌, ◌+◌, IsTrue, List, [], ◌∷◌, ◌++◌, refl, ap, sym, ◌∙◌, subst, arith, length, inl, inr, append_assoc, Some, None, Option}
use Rattle.std.proofs.lemmas.List.{append-nil, length-append}
use Rattle.mm_grammar.specs.Grammar.{alt, seq, many, opt, name, nothing, has, Avoids, Spells, Front, Reads, Fails}
use Rattle.mm_grammar.proofs.Loops.{SoFar, begun, not_begun, once_more, ended_here, failed_inside}
use Rattle.mm_grammar.proofs.Closed.{fold_spells, unfold_spells, fold_front}
use Rattle.mm_grammar.proofs.Reading.{unfold_front}
use Rattle.mm_grammar.proofs.Here.{opt_then_fail, opt_read}
use Rattle.mm_c.specs.declared.tree.CAtom.{CAtom}
use Rattle.mm_c.specs.Tokens.{Token, class_of, names, numbers}
use Rattle.mm_c.specs.Grammar.{P, texts, atom, atoms, listed, as_, w, ◌▸◌}
use Rattle.mm_c.proofs.Claims.{ahead, fit}
use Rattle.mm_c_parse.specs.Steps.{Marks, Broken}
use Rattle.mm_c_parse.specs.Parts.{arguments_end}
use Rattle.mm_c_parse.proofs.Steps.{good, mark_of, mw, mw_not, rg, fg, rs, fs, rn, mr, mf, nr, rz, shorter}

abbrev Listed : List CAtom → List Token → List Token → Type 0
Listed list ts rest = SoFar texts (listed atom) (w 27 ▸ atom) (λ xs. list ++ xs) ts rest

pub list_starts : {ts r : List Token} {v : CAtom} (list : List CAtom) → Reads texts atom ts v r → list ≡ v ∷ [] → Listed list ts r
list_starts {ts} {r} {v} list a e = subst (λ l. Listed l ts r) (sym e) (begun texts ahead fit (λ v. v.0 ∷ v.1) atom (w 27 ▸ atom) (good (seq atom (many (w 27 ▸ atom))) refl) ts r v a)

pub list_fails_first : {ts r : List Token} → Fails texts atom ts r → Fails texts (listed atom) ts r
list_fails_first {ts} {r} a = not_begun texts ahead fit (λ v. v.0 ∷ v.1) atom (w 27 ▸ atom) (good (seq atom (many (w 27 ▸ atom))) refl) ts r a

pub list_steps : {ts m us r : List Token} {v : CAtom} (list longer : List CAtom) → Listed list ts m → Marks (27 ∷ []) m us → Reads texts atom us v r → longer ≡ list ++ v ∷ [] → Listed longer ts r
list_steps {ts} {m} {us} {r} {v} list longer s k a e =
    once_more texts ahead fit (listed atom) (w 27 ▸ atom) (λ xs. list ++ xs) (λ xs. longer ++ xs) (good (many (w 27 ▸ atom)) refl) ts m r v s (mr (27 ∷ []) refl k a)
    (λ xs. sym (ap (λ l. l ++ xs) e ∙ append_assoc list (v ∷ []) xs))

pub list_ends : {ts m r : List Token} (list : List CAtom) → Listed list ts m → r ≡ m → Avoids texts (27 ∷ []) m → Reads texts (listed atom) ts list r
list_ends {ts} {m} list s e h =
    subst (λ us. Reads texts (listed atom) ts list us) (sym e)
    (subst (λ l. Reads texts (listed atom) ts l m) (append-nil list) (ended_here texts ahead fit (listed atom) (w 27 ▸ atom) (λ xs. list ++ xs) (good (many (w 27 ▸ atom)) refl) ts m s h))

pub list_fails : {ts m us r : List Token} (list : List CAtom) → Listed list ts m → Marks (27 ∷ []) m us → Fails texts atom us r → Fails texts (listed atom) ts r
list_fails {ts} {m} {us} {r} list s k a =
    let t = mark_of k in
    failed_inside texts ahead fit (listed atom) (w 27 ▸ atom) (λ xs. list ++ xs) (good (many (w 27 ▸ atom)) refl) ts m r (shorter t.0 t.1 a) s (mf (27 ∷ []) refl k a)

pub mark_shorter : {c : ℕ} {ts us r : List Token} {A : Type 0} {p : P A} {v : A} → Marks (c ∷ []) ts us → Reads texts p us v r → length r < length ts
mark_shorter {ts} {us} {r} k a =
    let t = mark_of k in
    let e : length ts ≡ length (t.0 ∷ us) = ap length t.1 in
    let f : length us ≡ length a.used + length r = ap length a.cut ∙ length-append a.used r in
    omega arith

-- ---- with the `)`

abbrev both_parts : P (List CAtom × Token)
both_parts = seq (name atoms) (w 21)

abbrev first_part : List CAtom × Token → List CAtom
first_part v = v.0

abbrev some_or : P (List CAtom)
some_or = alt (listed atom) (as_ [] nothing)

-- no argument
pub none_end : {ts r : List Token} → Marks (21 ∷ []) ts r → Reads texts arguments_end ts [] r
none_end {ts} {r} k =
    rg {f = first_part} {p = both_parts} (rs {p = name atoms} {q = w 21} refl (rn {x = atoms} (nr {p = listed atom} {q = as_ [] nothing} (names ++ numbers ++ 31 ∷ 20 ∷ []) refl refl refl (away (mark_of k).1 (mark_of k).2) (rg rz refl))) (mw k).1) refl
  where
    away : {t : Token} → ts ≡ t ∷ r → class_of t ≡ 21 → Avoids texts (names ++ numbers ++ 31 ∷ 20 ∷ []) ts
    away {t} e h x s i j =
        let same : x ≡ t = head_of (sym i ∙ e) in
        let n : IsTrue (has 21 (names ++ numbers ++ 31 ∷ 20 ∷ [])) = subst (λ (m : ℕ). IsTrue (has m (names ++ numbers ++ 31 ∷ 20 ∷ []))) (ap class_of same ∙ h) j in
        absurd (cc)
      where
        head_of : {x y : Token} {xs ys : List Token} → x ∷ xs ≡ y ∷ ys → x ≡ y
        head_of q = cc

pub none_end_is : {ts r : List Token} (list : List CAtom) → list ≡ [] → Marks (21 ∷ []) ts r → Reads texts arguments_end ts list r
none_end_is {ts} {r} list e k = subst (λ l. Reads texts arguments_end ts l r) (sym e) (none_end k)

-- what the list reads, it reads where it may be left out
list_or : {ts r : List Token} {v : List CAtom} → Reads texts (listed atom) ts v r → Reads texts some_or ts v r
list_or {ts} {r} {v} a = from (opt_read texts ahead fit (listed atom) (good (opt (listed atom)) refl) refl ts r v a)
  where
    from : Reads texts (opt (listed atom)) ts (Some v) r → Reads texts some_or ts v r
    from o = record { used = o.used; cut = o.cut; spelled = elim o.spelled [ inl i ↦ inl (subst (λ x. Spells texts (listed atom) o.used x) (sym (some_inside i.1)) i.2) | inr i ↦ absurd (no_some i.1) ]; stuck = o.stuck }
      where
        some_inside : {A : Type 0} {x y : A} → Some x ≡ Some y → x ≡ y
        some_inside h = cc

        no_some : {A : Type 0} {x : A} → ◌≡◌ {A = Option A} (Some x) None → ⊥
        no_some h = cc

pub list_end : {ts us m r : List Token} {v : List CAtom} → us ≡ ts → Reads texts (listed atom) us v m → Marks (21 ∷ []) m r → Reads texts arguments_end ts v r
list_end {ts} {us} {m} {r} {v} e a k = subst (λ l. Reads texts arguments_end l v r) e (closed a k)
  where
    closed : {us m r : List Token} {v : List CAtom} → Reads texts (listed atom) us v m → Marks (21 ∷ []) m r → Reads texts arguments_end us v r
    closed a k = rg {f = first_part} {p = both_parts} (rs {p = name atoms} {q = w 21} refl (rn {x = atoms} (list_or a)) (mw k).1) refl

pub list_not_closed : {ts us m r : List Token} {v : List CAtom} → us ≡ ts → Reads texts (listed atom) us v m → Broken (21 ∷ []) m r → Fails texts arguments_end ts r
list_not_closed {ts} {us} {m} {r} e a b = subst (λ l. Fails texts arguments_end l r) e (closed a b)
  where
    closed : {us m r : List Token} {v : List CAtom} → Reads texts (listed atom) us v m → Broken (21 ∷ []) m r → Fails texts arguments_end us r
    closed a b = fg {f = first_part} {p = both_parts} (fs {p = name atoms} {q = w 21} refl (rn {x = atoms} (list_or a)) (mw_not b))

-- where the list fails, and no `)` stands
pub list_not : {ts us r : List Token} → us ≡ ts → Avoids texts (21 ∷ []) ts → Fails texts (listed atom) us r → Fails texts arguments_end ts r
list_not {ts} {us} {r} e h a = fg {f = first_part} {p = both_parts} (from (opt_then_fail texts ahead fit (listed atom) (w 21) (good (seq (opt (listed atom)) (w 21)) refl) (good (w 21) refl) refl ts r h (subst (λ l. Fails texts (listed atom) l r) e a)))
  where
    spells_to : (u : List Token) (v : List CAtom) → Spells texts (name atoms) u v → (o : Option (List CAtom)) × Spells texts (opt (listed atom)) u o
    spells_to u v s = elim (unfold_spells texts atoms u v s) [ inl i ↦ (Some v, inl (v, refl, i)) | inr i ↦ (None, inr (tt, refl, i.2)) ]

    spells_from : (u : List Token) (o : Option (List CAtom)) → Spells texts (opt (listed atom)) u o → (v : List CAtom) × Spells texts (name atoms) u v
    spells_from u o s = elim s [ inl i ↦ (i.0, fold_spells texts atoms u i.0 (inl i.2)) | inr i ↦ ([], fold_spells texts atoms u [] (inr (tt, refl, i.2))) ]

    front_to : (u : List Token) → Front texts (seq (name atoms) (w 21)) u → Front texts (seq (opt (listed atom)) (w 21)) u
    front_to u f = elim f [
      | inl i ↦ inl (unfold_front texts ahead fit atoms u i)
      | inr i ↦ let s = spells_to i.0 i.2 i.4 in inr (i.0, i.1, s.0, i.3, s.1, i.5)
    ]

    front_from : (u : List Token) → Front texts (seq (opt (listed atom)) (w 21)) u → Front texts (seq (name atoms) (w 21)) u
    front_from u f = elim f [
      | inl i ↦ inl (fold_front texts atoms u i)
      | inr i ↦ let s = spells_from i.0 i.2 i.4 in inr (i.0, i.1, s.0, i.3, s.1, i.5)
    ]

    from : Fails texts (seq (opt (listed atom)) (w 21)) ts r → Fails texts (seq (name atoms) (w 21)) ts r
    from f = record {
      used = f.used;
      cut = f.cut;
      front = front_from f.used f.front;
      not_spelled = λ v s. let o = spells_to s.0 v.0 s.3 in f.not_spelled (o.0, v.1) (s.0, s.1, s.2, o.1, s.4);
      stuck = λ k z t q g. f.stuck k z t q (front_to (f.used ++ k ∷ t) g);
    }
