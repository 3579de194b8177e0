-- Operators.
use Rattle.std.specs.Prelude.{true, false, ◌==◌}
use Rattle.std.proofs.Common.{◌≡◌, ℕ, IsTrue, List, [], ◌∷◌, refl, ap, sym, ◌∙◌, subst, inl, inr}
use Rattle.mm_grammar.specs.Grammar.{has, Avoids, Reads}
use Rattle.mm_grammar.proofs.Lists.{or_cases}
use Rattle.mm_c.specs.Tokens.{Token, class_of}
use Rattle.mm_c.specs.Grammar.{texts, op}
use Rattle.mm_c_text.specs.Classes.{number_of}
use Rattle.mm_c_text.specs.declared.class.Class.{Class}
use Rattle.mm_c_text.specs.declared.class.Class.TheVariants as class
use Rattle.mm_c_parse.specs.Parts.{signs, operator_of}
use Rattle.mm_c_parse.proofs.Steps.{took, rg, tr, nr}

module _ (t : Token) (ts r : List Token) (e : ts ≡ t ∷ r) where
  -- its class is another one
  off : (k c : ℕ) → class_of t ≡ k → (k == c) ≡ false → Avoids texts (c ∷ []) ts
  off k c h n x s i j =
      let same_token : x ≡ t = head_of (sym i ∙ e) in
      elim (or_cases (class_of x == c) false j) [
        | inl a ↦ let b : (k == c) ≡ true = subst (λ (m : ℕ). (m == c) ≡ true) (ap class_of same_token ∙ h) a in absurd (cc)
        | inr a ↦ absurd (cc)
      ]
    where
      head_of : {x y : Token} {xs ys : List Token} → x ∷ xs ≡ y ∷ ys → x ≡ y
      head_of q = cc

  is_of : (k : ℕ) → class_of t ≡ k → IsTrue (has k (k ∷ [])) → IsTrue (has (class_of t) (k ∷ []))
  is_of k h i = subst (λ (m : ℕ). IsTrue (has m (k ∷ []))) (sym h) i

  pub op_reads : (k : Class) → number_of k ≡ class_of t → IsTrue (has (class_of t) signs) → Reads texts op ts (operator_of k) r
  op_reads class.Name h i = let j : IsTrue (has 0 signs) = subst (λ (m : ℕ). IsTrue (has m signs)) (sym h) i in absurd (cc)
  op_reads class.Put h i = let j : IsTrue (has 1 signs) = subst (λ (m : ℕ). IsTrue (has m signs)) (sym h) i in absurd (cc)
  op_reads class.Get h i = let j : IsTrue (has 2 signs) = subst (λ (m : ℕ). IsTrue (has m signs)) (sym h) i in absurd (cc)
  op_reads class.More h i = let j : IsTrue (has 3 signs) = subst (λ (m : ℕ). IsTrue (has m signs)) (sym h) i in absurd (cc)
  op_reads class.Trap h i = let j : IsTrue (has 4 signs) = subst (λ (m : ℕ). IsTrue (has m signs)) (sym h) i in absurd (cc)
  op_reads class.New h i = let j : IsTrue (has 5 signs) = subst (λ (m : ℕ). IsTrue (has m signs)) (sym h) i in absurd (cc)
  op_reads class.Zero h i = let j : IsTrue (has 10 signs) = subst (λ (m : ℕ). IsTrue (has m signs)) (sym h) i in absurd (cc)
  op_reads class.ZeroUnsigned h i = let j : IsTrue (has 11 signs) = subst (λ (m : ℕ). IsTrue (has m signs)) (sym h) i in absurd (cc)
  op_reads class.One h i = let j : IsTrue (has 12 signs) = subst (λ (m : ℕ). IsTrue (has m signs)) (sym h) i in absurd (cc)
  op_reads class.Largest h i = let j : IsTrue (has 13 signs) = subst (λ (m : ℕ). IsTrue (has m signs)) (sym h) i in absurd (cc)
  op_reads class.Number h i = let j : IsTrue (has 14 signs) = subst (λ (m : ℕ). IsTrue (has m signs)) (sym h) i in absurd (cc)
  op_reads class.Open h i = let j : IsTrue (has 20 signs) = subst (λ (m : ℕ). IsTrue (has m signs)) (sym h) i in absurd (cc)
  op_reads class.Close h i = let j : IsTrue (has 21 signs) = subst (λ (m : ℕ). IsTrue (has m signs)) (sym h) i in absurd (cc)
  op_reads class.OpenBrace h i = let j : IsTrue (has 22 signs) = subst (λ (m : ℕ). IsTrue (has m signs)) (sym h) i in absurd (cc)
  op_reads class.CloseBrace h i = let j : IsTrue (has 23 signs) = subst (λ (m : ℕ). IsTrue (has m signs)) (sym h) i in absurd (cc)
  op_reads class.OpenBracket h i = let j : IsTrue (has 24 signs) = subst (λ (m : ℕ). IsTrue (has m signs)) (sym h) i in absurd (cc)
  op_reads class.CloseBracket h i = let j : IsTrue (has 25 signs) = subst (λ (m : ℕ). IsTrue (has m signs)) (sym h) i in absurd (cc)
  op_reads class.Semicolon h i = let j : IsTrue (has 26 signs) = subst (λ (m : ℕ). IsTrue (has m signs)) (sym h) i in absurd (cc)
  op_reads class.Comma h i = let j : IsTrue (has 27 signs) = subst (λ (m : ℕ). IsTrue (has m signs)) (sym h) i in absurd (cc)
  op_reads class.Assign h i = let j : IsTrue (has 28 signs) = subst (λ (m : ℕ). IsTrue (has m signs)) (sym h) i in absurd (cc)
  op_reads class.Star h i = tr (29 ∷ []) refl refl e (is_of 29 (sym h) refl) (rg (took (29 ∷ []) e (is_of 29 (sym h) refl)) refl)
  op_reads class.Plus h i = nr (29 ∷ []) refl refl refl (off 30 29 (sym h) refl) (tr (30 ∷ []) refl refl e (is_of 30 (sym h) refl) (rg (took (30 ∷ []) e (is_of 30 (sym h) refl)) refl))
  op_reads class.Minus h i = nr (29 ∷ []) refl refl refl (off 31 29 (sym h) refl) (nr (30 ∷ []) refl refl refl (off 31 30 (sym h) refl) (tr (31 ∷ []) refl refl e (is_of 31 (sym h) refl) (rg (took (31 ∷ []) e (is_of 31 (sym h) refl)) refl)))
  op_reads class.Slash h i = nr (29 ∷ []) refl refl refl (off 32 29 (sym h) refl) (nr (30 ∷ []) refl refl refl (off 32 30 (sym h) refl) (nr (31 ∷ []) refl refl refl (off 32 31 (sym h) refl) (tr (32 ∷ []) refl refl e (is_of 32 (sym h) refl) (rg (took (32 ∷ []) e (is_of 32 (sym h) refl)) refl))))
  op_reads class.Percent h i = nr (29 ∷ []) refl refl refl (off 33 29 (sym h) refl) (nr (30 ∷ []) refl refl refl (off 33 30 (sym h) refl) (nr (31 ∷ []) refl refl refl (off 33 31 (sym h) refl) (nr (32 ∷ []) refl refl refl (off 33 32 (sym h) refl) (tr (33 ∷ []) refl refl e (is_of 33 (sym h) refl) (rg (took (33 ∷ []) e (is_of 33 (sym h) refl)) refl)))))
  op_reads class.Less h i = nr (29 ∷ []) refl refl refl (off 34 29 (sym h) refl) (nr (30 ∷ []) refl refl refl (off 34 30 (sym h) refl) (nr (31 ∷ []) refl refl refl (off 34 31 (sym h) refl) (nr (32 ∷ []) refl refl refl (off 34 32 (sym h) refl) (nr (33 ∷ []) refl refl refl (off 34 33 (sym h) refl) (tr (34 ∷ []) refl refl e (is_of 34 (sym h) refl) (rg (took (34 ∷ []) e (is_of 34 (sym h) refl)) refl))))))
  op_reads class.Greater h i = nr (29 ∷ []) refl refl refl (off 35 29 (sym h) refl) (nr (30 ∷ []) refl refl refl (off 35 30 (sym h) refl) (nr (31 ∷ []) refl refl refl (off 35 31 (sym h) refl) (nr (32 ∷ []) refl refl refl (off 35 32 (sym h) refl) (nr (33 ∷ []) refl refl refl (off 35 33 (sym h) refl) (nr (34 ∷ []) refl refl refl (off 35 34 (sym h) refl) (tr (35 ∷ []) refl refl e (is_of 35 (sym h) refl) (rg (took (35 ∷ []) e (is_of 35 (sym h) refl)) refl)))))))
  op_reads class.LessEqual h i = nr (29 ∷ []) refl refl refl (off 36 29 (sym h) refl) (nr (30 ∷ []) refl refl refl (off 36 30 (sym h) refl) (nr (31 ∷ []) refl refl refl (off 36 31 (sym h) refl) (nr (32 ∷ []) refl refl refl (off 36 32 (sym h) refl) (nr (33 ∷ []) refl refl refl (off 36 33 (sym h) refl) (nr (34 ∷ []) refl refl refl (off 36 34 (sym h) refl) (nr (35 ∷ []) refl refl refl (off 36 35 (sym h) refl) (tr (36 ∷ []) refl refl e (is_of 36 (sym h) refl) (rg (took (36 ∷ []) e (is_of 36 (sym h) refl)) refl))))))))
  op_reads class.GreaterEqual h i = nr (29 ∷ []) refl refl refl (off 37 29 (sym h) refl) (nr (30 ∷ []) refl refl refl (off 37 30 (sym h) refl) (nr (31 ∷ []) refl refl refl (off 37 31 (sym h) refl) (nr (32 ∷ []) refl refl refl (off 37 32 (sym h) refl) (nr (33 ∷ []) refl refl refl (off 37 33 (sym h) refl) (nr (34 ∷ []) refl refl refl (off 37 34 (sym h) refl) (nr (35 ∷ []) refl refl refl (off 37 35 (sym h) refl) (nr (36 ∷ []) refl refl refl (off 37 36 (sym h) refl) (tr (37 ∷ []) refl refl e (is_of 37 (sym h) refl) (rg (took (37 ∷ []) e (is_of 37 (sym h) refl)) refl)))))))))
  op_reads class.EqualEqual h i = nr (29 ∷ []) refl refl refl (off 38 29 (sym h) refl) (nr (30 ∷ []) refl refl refl (off 38 30 (sym h) refl) (nr (31 ∷ []) refl refl refl (off 38 31 (sym h) refl) (nr (32 ∷ []) refl refl refl (off 38 32 (sym h) refl) (nr (33 ∷ []) refl refl refl (off 38 33 (sym h) refl) (nr (34 ∷ []) refl refl refl (off 38 34 (sym h) refl) (nr (35 ∷ []) refl refl refl (off 38 35 (sym h) refl) (nr (36 ∷ []) refl refl refl (off 38 36 (sym h) refl) (nr (37 ∷ []) refl refl refl (off 38 37 (sym h) refl) (tr (38 ∷ []) refl refl e (is_of 38 (sym h) refl) (rg (took (38 ∷ []) e (is_of 38 (sym h) refl)) refl))))))))))
  op_reads class.NotEqual h i = nr (29 ∷ []) refl refl refl (off 39 29 (sym h) refl) (nr (30 ∷ []) refl refl refl (off 39 30 (sym h) refl) (nr (31 ∷ []) refl refl refl (off 39 31 (sym h) refl) (nr (32 ∷ []) refl refl refl (off 39 32 (sym h) refl) (nr (33 ∷ []) refl refl refl (off 39 33 (sym h) refl) (nr (34 ∷ []) refl refl refl (off 39 34 (sym h) refl) (nr (35 ∷ []) refl refl refl (off 39 35 (sym h) refl) (nr (36 ∷ []) refl refl refl (off 39 36 (sym h) refl) (nr (37 ∷ []) refl refl refl (off 39 37 (sym h) refl) (nr (38 ∷ []) refl refl refl (off 39 38 (sym h) refl) (rg (took (39 ∷ []) e (is_of 39 (sym h) refl)) refl))))))))))
  op_reads class.Typedef h i = let j : IsTrue (has 40 signs) = subst (λ (m : ℕ). IsTrue (has m signs)) (sym h) i in absurd (cc)
  op_reads class.Static h i = let j : IsTrue (has 41 signs) = subst (λ (m : ℕ). IsTrue (has m signs)) (sym h) i in absurd (cc)
  op_reads class.Const h i = let j : IsTrue (has 42 signs) = subst (λ (m : ℕ). IsTrue (has m signs)) (sym h) i in absurd (cc)
  op_reads class.Inline h i = let j : IsTrue (has 43 signs) = subst (λ (m : ℕ). IsTrue (has m signs)) (sym h) i in absurd (cc)
  op_reads class.Void h i = let j : IsTrue (has 44 signs) = subst (λ (m : ℕ). IsTrue (has m signs)) (sym h) i in absurd (cc)
  op_reads class.Int h i = let j : IsTrue (has 45 signs) = subst (λ (m : ℕ). IsTrue (has m signs)) (sym h) i in absurd (cc)
  op_reads class.Unsigned h i = let j : IsTrue (has 46 signs) = subst (λ (m : ℕ). IsTrue (has m signs)) (sym h) i in absurd (cc)
  op_reads class.Long h i = let j : IsTrue (has 47 signs) = subst (λ (m : ℕ). IsTrue (has m signs)) (sym h) i in absurd (cc)
  op_reads class.Char h i = let j : IsTrue (has 48 signs) = subst (λ (m : ℕ). IsTrue (has m signs)) (sym h) i in absurd (cc)
  op_reads class.Short h i = let j : IsTrue (has 49 signs) = subst (λ (m : ℕ). IsTrue (has m signs)) (sym h) i in absurd (cc)
  op_reads class.If h i = let j : IsTrue (has 50 signs) = subst (λ (m : ℕ). IsTrue (has m signs)) (sym h) i in absurd (cc)
  op_reads class.Else h i = let j : IsTrue (has 51 signs) = subst (λ (m : ℕ). IsTrue (has m signs)) (sym h) i in absurd (cc)
  op_reads class.While h i = let j : IsTrue (has 52 signs) = subst (λ (m : ℕ). IsTrue (has m signs)) (sym h) i in absurd (cc)
  op_reads class.Break h i = let j : IsTrue (has 53 signs) = subst (λ (m : ℕ). IsTrue (has m signs)) (sym h) i in absurd (cc)
  op_reads class.Continue h i = let j : IsTrue (has 54 signs) = subst (λ (m : ℕ). IsTrue (has m signs)) (sym h) i in absurd (cc)
  op_reads class.Return h i = let j : IsTrue (has 55 signs) = subst (λ (m : ℕ). IsTrue (has m signs)) (sym h) i in absurd (cc)
  op_reads class.Extern h i = let j : IsTrue (has 56 signs) = subst (λ (m : ℕ). IsTrue (has m signs)) (sym h) i in absurd (cc)
  op_reads class.Unknown h i = let j : IsTrue (has 99 signs) = subst (λ (m : ℕ). IsTrue (has m signs)) (sym h) i in absurd (cc)
  op_reads class.End h i = let j : IsTrue (has 100 signs) = subst (λ (m : ℕ). IsTrue (has m signs)) (sym h) i in absurd (cc)
