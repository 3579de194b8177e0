-- A part any number of times and a mark behind it, over plain lists of tokens.
use Rattle.std.proofs.Common.{◌≡◌, ◌<◌, ◌+◌, ◌⊎◌, IsTrue, List, [], ◌∷◌, ◌++◌, inl, inr, map, length, refl, ap, sym, ◌∙◌, subst, arith, None}
use Rattle.std.proofs.lemmas.List.{length-append}
use Rattle.mm_grammar.specs.Grammar.{seq, many, opt, Front, Reads, Fails}
use Rattle.mm_grammar.proofs.Reading.{many_fail_now, one_fail}
use Rattle.mm_grammar.proofs.Here.{many_none_of}
use Rattle.mm_token.specs.declared.token.Token.{Token}
use Rattle.mm_syntax.specs.declared.symbol.Symbol.{Symbol}
use Rattle.mm_syntax.specs.Symbols.{number_of}
use Rattle.mm_syntax.specs.Rules.{P, units, token, ◌◂◌}
use Rattle.mm_syntax.proofs.Claims.{ahead}
use Rattle.mm_syntax.proofs.Fitting.{fit}
use Rattle.mm_cursor.specs.Cursor.{Eats}
use Rattle.mm_cursor.proofs.Steps.{is_plain, good, before_fails, before_then_fails}
use Rattle.mm_cursor.proofs.Lists.{Listed}

-- What fails takes a token, or no front of it begins there.
pub fails_or_none : {A : Type 0} → (p : P A) → (ts r : List Token) → Fails units p ts r → (length r < length ts) ⊎ ((r ≡ ts) × Reads units (opt p) ts None ts)
fails_or_none p ts r a = go a.used a.cut refl
  where
    go : (u : List Token) → ts ≡ u ++ r → a.used ≡ u → (length r < length ts) ⊎ ((r ≡ ts) × Reads units (opt p) ts None ts)
    go [] cut same = inr (
      sym cut,
      record {
        used = [];
        cut = refl;
        spelled = inr (tt, refl, refl);
        stuck = λ k s tail e f. elim f [
          | inl i ↦ a.stuck k s tail (sym cut ∙ e) (subst (λ w. Front units p w) (ap (λ w. w ++ k ∷ tail) (sym same)) i)
          | inr i ↦ absurd (cc)
        ];
      },
    )
    go (x ∷ u) cut same = let e : length ts ≡ length (x ∷ u) + length r = ap length cut ∙ length-append (x ∷ u) r in inl (omega arith)

-- where p fails, and the mark doesn't stand
pub closed_fails : {A : Type 0} → (p : P A) (symbols : List Symbol) → IsTrue (is_plain (many p)) → IsTrue (is_plain (seq (many p) (token symbols))) → (ts rest us r : List Token) (list : List A) →
    Listed (many p) p list ts rest → Eats symbols rest None us → Fails units p us r → Fails units (many p ◂ token symbols) ts r
closed_fails p symbols g gs ts rest us r list s h a =
    let a' = subst (λ w. Fails units p w r) h.0 a in
    elim (fails_or_none p rest r a') [
      | inl l ↦ before_fails (many p) (token symbols) gs ts r (s.fails r (many_fail_now units ahead fit p (good (many p) g) rest r l a'))
      | inr i ↦ subst (λ w. Fails units (many p ◂ token symbols) ts w) (sym i.0) (before_then_fails (many p) (token symbols) gs ts rest rest (list ++ [])
          (s.reads [] rest (many_none_of units ahead fit p (good (many p) g) rest rest i.1))
          (one_fail units ahead fit (map number_of symbols) rest h.1))
    ]
