-- Searches in lists of paths.
use Rattle.std.proofs.Common.{◌≡◌, ◌≢◌, ℕ, zero, suc, ◌-◌, ◌<◌, List, [], ◌∷◌, ◌++◌, length, get_or, take, drop, refl, sym, ap, ap₂, ◌∙◌, inl, inr, arith, length-append}
use Rattle.std.specs.Prelude.{Bool, true, false, nat_eq, ◌⊎◌}
use Rattle.std.specs.Cmp.Lexicographic.{same_text, other_text}
use lib.Pointwise.{pointwise}
use Rattle.std.proofs.lemmas.List.{take-append-drop, take_at, drop_at}
use Rattle.mm_classes.specs.Lists.{Has, has}
use Rattle.mm_classes.proofs.Lists.{has-true, has-Has}
use Rattle.mm_classes.specs.Subobjects.{Path, end_of, last_of}

end_is : (c : ℕ) (p : Path) (n d : ℕ) → n ≡ length p → get_or (c ∷ p) n d ≡ last_of c p
end_is c [] n d e = rw e refl
end_is c (x ∷ p) zero d e = absurd (omega arith)
end_is c (x ∷ p) (suc n) d e = end_is x p n d (omega arith)

pub end_read : (p : Path) (x : ℕ) → x ≡ get_or p (length p - 1) x → 0 < length p → x ≡ end_of p
end_read [] x e h = absurd (omega arith)
end_read (c ∷ p) x e h = e ∙ end_is c p (suc (length p) - 1) x (omega arith)

pub among_decides : (xs : List ℕ) (x : ℕ) (r : Bool) → r ≡ has xs x → (r ≡ true → Has xs x) × (Has xs x → r ≡ true)
among_decides xs x r e = ((λ t. has-true xs x (sym e ∙ t)), λ h. e ∙ has-Has xs x h)
