-- First tokens.
use Rattle.std.specs.Prelude.{not}
use Rattle.std.proofs.Common.{◌≡◌, ℕ, IsTrue, List, [], ◌∷◌, ap, sym, ◌∙◌, subst}
use Rattle.mm_grammar.specs.Grammar.{has, Avoids, Reads}
use Rattle.mm_grammar.proofs.Lists.{not_both}
use Rattle.mm_c.specs.Tokens.{Token, class_of}
use Rattle.mm_c.specs.Grammar.{texts, w}
use Rattle.mm_c_parse.specs.Steps.{Marks}
use Rattle.mm_c_parse.proofs.Steps.{took, mark_of}

pub is_in : {c : ℕ} (t : Token) → IsTrue (has c (c ∷ [])) → class_of t ≡ c → IsTrue (has (class_of t) (c ∷ []))
is_in {c} t i k = subst (λ (n : ℕ). IsTrue (has n (c ∷ []))) (sym k) i

-- the token, read
pub first_read : {c : ℕ} {t : Token} {ts us : List Token} → IsTrue (has c (c ∷ [])) → ts ≡ t ∷ us → class_of t ≡ c → Reads texts (w c) ts t us
first_read {c} {t} i e k = took (c ∷ []) e (is_in t i k)

-- a token of this class is none of those
pub away : {c : ℕ} {ts r : List Token} (cs : List ℕ) → IsTrue (not (has c cs)) → Marks (c ∷ []) ts r → Avoids texts cs ts
away {c} {ts} {r} cs n m =
    let t = mark_of m in
    λ x s i j. not_both (has c cs) n (subst (λ (k : ℕ). IsTrue (has k cs)) (ap class_of (head_of (sym i ∙ t.1)) ∙ t.2) j)
  where
    head_of : {x y : Token} {xs ys : List Token} → x ∷ xs ≡ y ∷ ys → x ≡ y
    head_of q = cc
