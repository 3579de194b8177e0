-- A part once or more, joined by commas, as a loop reads it.
use Rattle.std.proofs.Common.{◌≡◌, IsTrue, List, [], ◌∷◌, ◌++◌, ap, sym, ◌∙◌, subst, append_assoc}
use Rattle.std.proofs.lemmas.List.{append-nil}
use Rattle.mm_grammar.specs.Grammar.{seq, many, Avoids, Reads, Fails}
use Rattle.mm_grammar.proofs.Loops.{SoFar, begun, not_begun, once_more, ended_here, failed_inside}
use Rattle.mm_c.specs.Tokens.{Token}
use Rattle.mm_c.specs.Grammar.{P, texts, listed, w, ◌▸◌}
use Rattle.mm_c.proofs.Claims.{ahead, fit}
use Rattle.mm_c_parse.specs.Steps.{Marks}
use Rattle.mm_c_parse.proofs.Steps.{good, is_plain, mark_of, mr, mf, shorter}

abbrev pub next : {A : Type 0} → P A → P A
next p = w 27 ▸ p

abbrev pub Listed : {A : Type 0} → P A → List A → List Token → List Token → Type 0
Listed p list ts rest = SoFar texts (listed p) (next p) (λ xs. list ++ xs) ts rest

module _ {A : Type 0} (p : P A) (g : IsTrue (is_plain (seq p (many (next p))))) (h : IsTrue (is_plain (many (next p)))) (i : IsTrue (is_plain (next p))) where
  pub starts : {ts r : List Token} {v : A} (list : List A) → Reads texts p ts v r → list ≡ v ∷ [] → Listed p list ts r
  starts {ts} {r} {v} list a e = subst (λ l. Listed p l ts r) (sym e) (begun texts ahead fit (λ v. v.0 ∷ v.1) p (next p) (good (seq p (many (next p))) g) ts r v a)

  pub fails_first : {ts r : List Token} → Fails texts p ts r → Fails texts (listed p) ts r
  fails_first {ts} {r} a = not_begun texts ahead fit (λ v. v.0 ∷ v.1) p (next p) (good (seq p (many (next p))) g) ts r a

  pub steps : {ts m us r : List Token} {v : A} (list longer : List A) → Listed p list ts m → Marks (27 ∷ []) m us → Reads texts p us v r → longer ≡ list ++ v ∷ [] → Listed p longer ts r
  steps {ts} {m} {us} {r} {v} list longer s k a e =
      once_more texts ahead fit (listed p) (next p) (λ xs. list ++ xs) (λ xs. longer ++ xs) (good (many (next p)) h) ts m r v s (mr (27 ∷ []) i k a)
      (λ xs. sym (ap (λ l. l ++ xs) e ∙ append_assoc list (v ∷ []) xs))

  pub ends : {ts m r : List Token} (list : List A) → Listed p list ts m → r ≡ m → Avoids texts (27 ∷ []) m → Reads texts (listed p) ts list r
  ends {ts} {m} list s e n =
      subst (λ us. Reads texts (listed p) ts list us) (sym e)
      (subst (λ l. Reads texts (listed p) ts l m) (append-nil list) (ended_here texts ahead fit (listed p) (next p) (λ xs. list ++ xs) (good (many (next p)) h) ts m s n))

  pub breaks_off : {ts m us r : List Token} (list : List A) → Listed p list ts m → Marks (27 ∷ []) m us → Fails texts p us r → Fails texts (listed p) ts r
  breaks_off {ts} {m} {us} {r} list s k a =
      let t = mark_of k in
      failed_inside texts ahead fit (listed p) (next p) (λ xs. list ++ xs) (good (many (next p)) h) ts m r (shorter t.0 t.1 a) s (mf (27 ∷ []) i k a)
