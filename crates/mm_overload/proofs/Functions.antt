-- The test of the better function.
use Rattle.std.proofs.Common.{◌≡◌, ℕ, zero, suc, List, [], ◌∷◌, refl, sym, subst, ap, ◌∙◌, inl, inr}
use Rattle.std.specs.Prelude.{Bool, true, false, not, ◌&&◌, ◌||◌, ◌⊎◌, Option, Some, None, option_map}
use Rattle.std.specs.Bool.{Decides}
use Rattle.std.proofs.lemmas.Bool.Decides.{Decides-and, Decides-or, Decides-not, Decides-like}
use Rattle.mm_classes.specs.declared.class.Ty.{Ty}
use Rattle.mm_classes.specs.Classes.{Class}
use Rattle.mm_overload.specs.declared.conv.Arg.{Arg}
use Rattle.mm_overload.specs.declared.conv.Conv.{Conv}
use Rattle.mm_overload.specs.declared.conv.Rank.{Rank}
use Rattle.mm_overload.specs.Rank.{rank_of, conversion_of}
use Rattle.mm_overload.specs.Better.{IsBetter}
use Rattle.mm_overload.specs.Choice.{both_better, better_to, some_better, better_function, IsBetterAt, IsBetterFunction}
use Rattle.mm_overload.proofs.Orders.{better-decides}

no : {P : Type 0} → (P → ⊥) → Decides false P
no f = (λ e. cc, λ p. absurd (f p))

module _ (g : List Class) where
  -- the argument a has a better conversion to p than to q
  abbrev pub IsBetterTo : Arg → Ty → Ty → Type 0
  IsBetterTo a p q = (x y : Conv) × (conversion_of g a p ≡ Some x)
      × (conversion_of g a q ≡ Some y) × IsBetter g x y

  abbrev made : Ty → Ty → Rank → Conv
  made from to r = record { rank = r; from = from; to = to }

  abbrev FirstIsBetter : Option Conv → Option Conv → Type 0
  FirstIsBetter u v = (x y : Conv) × (u ≡ Some x) × (v ≡ Some y) × IsBetter g x y

  both_better-decides : (from p q : Ty) (r s : Option Rank)
      → Decides (both_better g (option_map (made from p) r) (option_map (made from q) s))
      (FirstIsBetter (option_map (made from p) r) (option_map (made from q) s))
  both_better-decides from p q None s = no (λ h. let e = h.2 in cc)
  both_better-decides from p q (Some r) None = no (λ h. let e = h.3 in cc)
  both_better-decides from p q (Some r) (Some s) =
      let d = better-decides g (made from p r) (made from q s) refl in (
        λ e. (made from p r, made from q s, refl, refl, d.0 e),
        λ h. d.1 (subst (λ x. IsBetter g x
            (made from q s)) (inside (sym h.2)) (subst (λ y. IsBetter g h.0 y) (inside (sym h.3))
            h.4)),
      )
    where
      inside : {x y : Conv} → Some x ≡ Some y → x ≡ y
      inside e = cc

  better_to-decides : (a : Arg) (p q : Ty) → Decides (better_to g a p q) (IsBetterTo a p q)
  better_to-decides a p q = both_better-decides a.ty p q (rank_of g a p) (rank_of g a q)

  pub some_better-decides : (args : List Arg) (ps qs : List Ty)
      → Decides (some_better g args ps qs) ((k : ℕ) × IsBetterAt g args ps qs k)
  some_better-decides [] ps qs = no (λ h. let e = h.1.5 in cc)
  some_better-decides (a ∷ args) [] qs = no (λ h. let e = h.1.6 in cc)
  some_better-decides (a ∷ args) (p ∷ ps) [] = no (λ h. let e = h.1.7 in cc)
  some_better-decides (a ∷ args) (p ∷ ps) (q ∷ qs) =
      Decides-like (better_to g a p q || some_better g args ps qs) to back
      (Decides-or (better_to g a p q) (some_better g args ps qs) (better_to-decides a p q)
      (some_better-decides args ps qs)) where
        to : IsBetterTo a p q ⊎ ((k : ℕ) × IsBetterAt g args ps qs k) → (k : ℕ)
            × IsBetterAt g (a ∷ args) (p ∷ ps) (q ∷ qs) k
        to (inl h) = (zero, (a, p, q, h.0, h.1, refl, refl, refl, h.2, h.3, h.4))
        to (inr h) = (suc h.0, h.1)

        back : (k : ℕ) × IsBetterAt g (a ∷ args) (p ∷ ps) (q ∷ qs) k → IsBetterTo a p q
            ⊎ ((k : ℕ) × IsBetterAt g args ps qs k)
        back (zero, h) =
            let a-is : a ≡ h.0 = inside h.5 in
            let p-is : p ≡ h.1 = inside h.6 in
            let q-is : q ≡ h.2 = inside h.7 in
            inl (
              h.3,
              h.4,
              ap (λ z. conversion_of g z p) a-is ∙ ap (λ z. conversion_of g h.0 z)
                  p-is ∙ h.8,
              ap (λ z. conversion_of g z q) a-is ∙ ap (λ z. conversion_of g h.0 z)
                  q-is ∙ h.9,
              h.10,
            )
          where
            inside : {X : Type 0} {x y : X} → Some x ≡ Some y → x ≡ y
            inside e = cc
        back (suc k, h) = inr (k, h)

  pub better_function-decides : (args : List Arg) (ps qs : List Ty)
      → Decides (better_function g args ps qs) (IsBetterFunction g args ps qs)
  better_function-decides args ps qs =
      Decides-and (not (some_better g args qs ps)) (some_better g args ps qs)
      (Decides-like (not (some_better g args qs ps)) (λ n k h. n (k, h)) (λ n h. n h.0 h.1)
      (Decides-not (some_better g args qs ps) (some_better-decides args qs ps)))
      (some_better-decides args ps qs)

  -- of two functions one is not better than the other
  pub asym : (args : List Arg) (ps qs : List Ty) → better_function g args ps qs ≡ true
      → better_function g args qs ps ≡ false
  asym args ps qs e = which (some_better g args ps qs) (some_better g args qs ps) e where
    which : (b c : Bool) → (not c && b) ≡ true → (not b && c) ≡ false
    which true c e = refl
    which false true e = cc
    which false false e = cc

  pub one_better : (args : List Arg) (ps qs : List Ty) → IsBetterFunction g args ps qs
      → IsBetterFunction g args qs ps → ⊥
  one_better args ps qs h k = k.0 h.1.0 h.1.1
