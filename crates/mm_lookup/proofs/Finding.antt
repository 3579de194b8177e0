-- What is found, from one that contains all, or from none that does.
use Rattle.std.proofs.Common.{◌≡◌, ℕ, ◌+◌, ◌<◌, List, length, sym, subst, inl, inr, arith}
use Rattle.std.specs.Prelude.{◌⊎◌, Option, None, Some, MatchOption, IfSome}
use Rattle.mm_classes.specs.declared.answer.Up.TheVariants as up
use Rattle.mm_classes.specs.Classes.{Class, members_of, IsClassList}
use Rattle.mm_classes.specs.Subobjects.{subobjects_of, end_of, IsWithin}
use Rattle.mm_classes.specs.Questions.{node, IsNode, Picks, IsLeft}
use Rattle.mm_classes.specs.Tops.{ContainsAll, IsBest}
use Rattle.mm_classes.proofs.Tops.{tops_one, tops_none, tops_several, best_first, best_skip, best_stays, best_moves}
use Rattle.mm_lookup.specs.Lookup.{Declares, IsBestOf}
use Rattle.mm_lookup.proofs.Declaring.{named_or}

module _ (g : List Class) (ok : IsClassList g) (c : ℕ) (name : List ℕ) where
  pub declares_or : (m : ℕ) → Declares g c name m ⊎ (Declares g c name m → ⊥)
  declares_or m = named_or (members_of g (end_of (node g c m))) name

  pub best_else : (b : Option ℕ) (n : ℕ) → (Declares g c name n → ⊥) → IsBestOf g c name b n → IsBestOf g c name b (n + 1)
  best_else None n never h = λ m l p. elim (last_or m n l) [ inl a ↦ h m a p | inr e ↦ never (subst (Declares g c name) e p) ] where
    last_or : (m n : ℕ) → m < n + 1 → (m < n) ⊎ (m ≡ n)
    last_or m n l = grind arith
  best_else (Some b) n never h = best_skip g ok c (Declares g c name) b n never h

  pub best_more : (b : Option ℕ) (n r : ℕ) → IsNode g c n → Declares g c name n
      → MatchOption b (r ≡ n) (λ x. ((r ≡ x) × IsWithin g (node g c n) (node g c x)) ⊎ ((r ≡ n) × (IsWithin g (node g c n) (node g c x) → ⊥)))
      → IsBestOf g c name b n → IsBestOf g c name (Some r) (n + 1)
  best_more None n r hn p e h = subst (λ z. IsBest g c (Declares g c name) z (n + 1)) (sym e) (best_first g ok c (Declares g c name) n p h)
  best_more (Some b) n r hn p (inl e) h = subst (λ z. IsBest g c (Declares g c name) z (n + 1)) (sym e.0) (best_stays g ok c (Declares g c name) b n hn p e.1 h)
  best_more (Some b) n r hn p (inr e) h = subst (λ z. IsBest g c (Declares g c name) z (n + 1)) (sym e.0) (best_moves g ok c (Declares g c name) b n p e.1 h)

  pub best_node : (b : Option ℕ) (n : ℕ) → n < length (subobjects_of g c) → IsBestOf g c name b n → IfSome b (IsNode g c)
  best_node None n l h = tt
  best_node (Some b) n l h = let z = h.below in omega arith

  -- one that contains all
  pub only_one : (n : ℕ) → IsNode g c n → Declares g c name n → ContainsAll g c (Declares g c name) n (length (subobjects_of g c))
      → Picks (up.One n) (IsLeft g c (Declares g c name)) (length (subobjects_of g c))
  only_one n hn p all = tops_one g ok c (Declares g c name) n hn p all

  pub none_left : ((m : ℕ) → IsNode g c m → Declares g c name m → ⊥) → Picks up.None (IsLeft g c (Declares g c name)) (length (subobjects_of g c))
  none_left h = tops_none g ok c (Declares g c name) h

  -- the best one does not contain all
  pub several_left : (b : ℕ) → IsBest g c (Declares g c name) b (length (subobjects_of g c)) → (ContainsAll g c (Declares g c name) b (length (subobjects_of g c)) → ⊥)
      → Picks up.Several (IsLeft g c (Declares g c name)) (length (subobjects_of g c))
  several_left b h never = tops_several g ok c (Declares g c name) (λ m hm. declares_or m) b h.below h.fits
      (λ m hm p all. never (subst (λ z. ContainsAll g c (Declares g c name) z (length (subobjects_of g c))) (h.only m hm p all) all))

-- one more subobject that lies in a subobject, if it declares the name
pub all_more : (g : List Class) (c : ℕ) (P : ℕ → Type 0) (b n : ℕ) → (P n → IsWithin g (node g c n) (node g c b)) → ContainsAll g c P b n → ContainsAll g c P b (n + 1)
all_more g c P b n here h k l p = elim (last_or k n l) [ inl a ↦ h k a p | inr e ↦ subst (λ z. IsWithin g (node g c z) (node g c b)) (sym e) (here (subst P e p)) ] where
  last_or : (m n : ℕ) → m < n + 1 → (m < n) ⊎ (m ≡ n)
  last_or m n l = grind arith
