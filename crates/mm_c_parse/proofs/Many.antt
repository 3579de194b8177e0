-- A part any number of times, as a loop reads it while a token stands that the part begins with.
use Rattle.std.specs.Prelude.{not}
use Rattle.std.proofs.Common.{◌≡◌, ℕ, ◌<◌, ◌+◌, IsTrue, List, [], ◌∷◌, ◌++◌, length, refl, ap, sym, ◌∙◌, subst, arith, append_assoc}
use Rattle.std.proofs.lemmas.List.{append-nil, length-append}
use Rattle.mm_grammar.specs.Grammar.{many, has, Front, Begins, Avoids, Spells, Reads, Fails, RuleSpells, RuleFront}
use Rattle.mm_grammar.specs.Ahead.{first_of, empty_of}
use Rattle.mm_grammar.proofs.Laws.{spell_empty}
use Rattle.mm_grammar.proofs.Closed.{lawful}
use Rattle.mm_grammar.proofs.Lists.{not_both}
use Rattle.mm_grammar.proofs.Loops.{SoFar, once_more, ended_here, failed_inside}
use Rattle.mm_c.specs.Tokens.{Token, class_of}
use Rattle.mm_c.specs.Grammar.{P, texts}
use Rattle.mm_c.proofs.Claims.{ahead, fit}
use Rattle.mm_c_parse.proofs.Steps.{good, is_plain}

abbrev pub ManySoFar : {A : Type 0} → P A → List A → List Token → List Token → Type 0
ManySoFar p done ts rest = SoFar texts (many p) p (λ xs. done ++ xs) ts rest

module _ {A : Type 0} (p : P A) (g : IsTrue (is_plain (many p))) where
  pub many_starts : (ts : List Token) (done : List A) → done ≡ [] → ManySoFar p done ts ts
  many_starts ts done e = subst (λ l. ManySoFar p l ts ts) (sym e) (record { reads = λ xs r a. a; fails = λ r a. a })

  pub many_steps : {ts m r : List Token} {v : A} (done longer : List A) → ManySoFar p done ts m → Reads texts p m v r → longer ≡ done ++ v ∷ [] → ManySoFar p longer ts r
  many_steps {ts} {m} {r} {v} done longer s a e =
      once_more texts ahead fit (many p) p (λ xs. done ++ xs) (λ xs. longer ++ xs) (good (many p) g) ts m r v s a
      (λ xs. sym (ap (λ l. l ++ xs) e ∙ append_assoc done (v ∷ []) xs))

  pub many_ends : {ts m : List Token} (done : List A) (cs : List ℕ) → first_of texts ahead p ≡ cs → ManySoFar p done ts m → Avoids texts cs m → Reads texts (many p) ts done m
  many_ends {ts} {m} done cs f s h =
      subst (λ l. Reads texts (many p) ts l m) (append-nil done)
      (ended_here texts ahead fit (many p) p (λ xs. done ++ xs) (good (many p) g) ts m s (λ k r i j. h k r i (subst (λ cs. IsTrue (has (class_of k) cs)) f j)))

  pub many_fails : {ts m r : List Token} (done : List A) → ManySoFar p done ts m → length r < length m → Fails texts p m r → Fails texts (many p) ts r
  many_fails {ts} {m} {r} done s n a = failed_inside texts ahead fit (many p) p (λ xs. done ++ xs) (good (many p) g) ts m r n s a

-- where each of the classes alone is a front, a part that fails behind such a token took it
pub begun_shorter : {A : Type 0} (p : P A) (cs : List ℕ) → ((k : Token) → IsTrue (has (class_of k) cs) → Front texts p (k ∷ [])) → {ts r : List Token} → Begins texts cs ts → Fails texts p ts r → length r < length ts
begun_shorter p cs f {ts} {r} b a = go a.used a.cut refl
  where
    go : (u : List Token) → ts ≡ u ++ r → a.used ≡ u → length r < length ts
    go [] cut same = absurd (a.stuck b.0 b.1 [] (sym cut ∙ b.2) (subst (λ w. Front texts p (w ++ b.0 ∷ [])) (sym same) (f b.0 b.3)))
    go (x ∷ u) cut same = let e : length ts ≡ length (x ∷ u) + length r = ap length cut ∙ length-append (x ∷ u) r in omega arith

pub read_shorter : {A : Type 0} (p : P A) → IsTrue (not (empty_of texts ahead p)) → {ts r : List Token} {v : A} → Reads texts p ts v r → length r < length ts
read_shorter p n {ts} {r} {v} a = go a.used a.cut refl
  where
    go : (u : List Token) → ts ≡ u ++ r → a.used ≡ u → length r < length ts
    go [] cut same = absurd (not_both (empty_of texts ahead p) n (spell_empty texts ahead (RuleSpells texts) (RuleFront texts) (lawful texts ahead fit) p v (subst (λ w. Spells texts p w v) same a.spelled)))
    go (x ∷ u) cut same = let e : length ts ≡ length (x ∷ u) + length r = ap length cut ∙ length-append (x ∷ u) r in omega arith
