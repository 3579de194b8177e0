-- A class list with one more name is one, and has the complete classes that it had.
use Rattle.std.proofs.Common.{◌≡◌, ℕ, ◌<◌, ◌≤◌, List, [], ◌∷◌, ◌++◌, length, map, refl, sym, subst, ap, ◌∙◌, inl, inr, arith, length-append}
use Rattle.std.specs.Prelude.{true, ◌⊎◌}
use Rattle.std.proofs.lemmas.List.{get_or_past, get_or_append_left, get_or_push, map-append}
use Rattle.mm_classes.specs.declared.class.Base.{Base}
use Rattle.mm_classes.specs.declared.class.Member.{Member}
use Rattle.mm_classes.specs.declared.class.Ty.{Ty}
use Rattle.mm_classes.specs.declared.class.Ty.TheVariants as ty
use Rattle.mm_classes.specs.Lists.{Has, first, later, Distinct}
use Rattle.mm_classes.specs.Classes.{Class, class_at, bases_of, members_of, names_in, unknown, IsClassList, IsMemberList, IsTyped, AreTyped, complete_count}
use Rattle.mm_classes.specs.Adding.{fresh}
use Rattle.mm_classes.proofs.Lists.{Distinct-append}
use Rattle.mm_classes.proofs.Answering.{complete_below}

type-more : (n m : ℕ) → n ≤ m → (t : Ty) → IsTyped n t → IsTyped m t
type-more n m l ty.Void h = tt
type-more n m l ty.Bool h = tt
type-more n m l ty.Int h = tt
type-more n m l ty.Unsigned h = tt
type-more n m l (ty.Ptr c) h = omega arith
type-more n m l (ty.Ref c) h = omega arith

-- a longer list has the classes that it had
pub typed-more : (n k : ℕ) (ms : List Member) → n ≤ k → AreTyped n ms → AreTyped k ms
typed-more n k ms l h m t a b = type-more n k l t (h m t a b)

pub where_is : (x n : ℕ) → (x < n) ⊎ ((x ≡ n) ⊎ (n < x))
where_is x n = grind arith

complete_count-more : (g : List Class) (n : List ℕ) → complete_count (g ++ fresh n ∷ []) ≡ complete_count g
complete_count-more [] n = refl
complete_count-more (c ∷ g) n = rw (complete_count-more g n) refl

module _ (g : List Class) (n : List ℕ) where
  pub at_old : (x : ℕ) → x < length g → class_at (g ++ fresh n ∷ []) x ≡ class_at g x
  at_old x l = get_or_append_left g (fresh n ∷ []) unknown x l

  at_fresh : class_at (g ++ fresh n ∷ []) (length g) ≡ fresh n
  at_fresh = get_or_push g (fresh n) unknown (length g) refl

  at_past : (x : ℕ) → length g < x → class_at (g ++ fresh n ∷ []) x ≡ unknown
  at_past x l = get_or_past (g ++ fresh n ∷ []) x unknown (let k = length-append g (fresh n ∷ []) in omega arith)

  -- what a name alone has is as it was
  same_part : {X : Type 0} (f : Class → X) → f (fresh n) ≡ f unknown → (x : ℕ) → f (class_at (g ++ fresh n ∷ []) x) ≡ f (class_at g x)
  same_part f e x = elim (where_is x (length g)) [
    | inl a ↦ ap f (at_old x a)
    | inr b ↦ elim b [
      | inl i ↦ ap (λ z. f (class_at (g ++ fresh n ∷ []) z)) i ∙ (ap f at_fresh ∙ (e ∙ sym (ap f (get_or_past g x unknown (omega arith)))))
      | inr l ↦ ap f (at_past x l) ∙ sym (ap f (get_or_past g x unknown (omega arith)))
    ]
  ]

  same_bases : (x : ℕ) → bases_of (g ++ fresh n ∷ []) x ≡ bases_of g x
  same_bases x = same_part (λ (c : Class). c.bases) refl x

  same_members : (x : ℕ) → members_of (g ++ fresh n ∷ []) x ≡ members_of g x
  same_members x = same_part (λ (c : Class). c.members) refl x

  pub same_complete : (x : ℕ) → (class_at (g ++ fresh n ∷ []) x).complete ≡ (class_at g x).complete
  same_complete x = same_part (λ (c : Class). c.complete) refl x

  new_name : IsClassList g → (Has (names_in g) n → ⊥) → Distinct (names_in (g ++ fresh n ∷ []))
  new_name ok new = subst Distinct (sym (map-append (λ (c : Class). c.name) g (fresh n ∷ [])))
      (Distinct-append (names_in g) (n ∷ []) ok.named ((λ h. elim h [ ]), tt) (λ x a b. elim b [ first e ↦ new (subst (Has (names_in g)) (sym e) a) | later w ↦ elim w [ ] ]))

  pub declared-valid : IsClassList g → (Has (names_in g) n → ⊥) → IsClassList (g ++ fresh n ∷ [])
  declared-valid ok new = record {
    rank = ok.rank;
    low = λ c. let k = complete_count-more g n in let l = ok.low c in omega arith;
    falls = λ c b h. ok.falls c b (subst (λ z. Has z b) (same_bases c) h);
    known = λ c b h. same_complete b.class ∙ ok.known c b (subst (λ z. Has z b) (same_bases c) h);
    once = λ c. subst (λ (z : List Base). Distinct (map (λ (b : Base). b.class) z)) (sym (same_bases c)) (ok.once c);
    bare = λ c h. let k = ok.bare c (sym (same_complete c) ∙ h) in (same_bases c ∙ k.0, same_members c ∙ k.1);
    members = λ c. subst IsMemberList (sym (same_members c)) (ok.members c);
    typed = λ c. subst (AreTyped (length (g ++ fresh n ∷ []))) (sym (same_members c))
        (typed-more (length g) (length (g ++ fresh n ∷ [])) (members_of g c) (let k = length-append g (fresh n ∷ []) in omega arith) (ok.typed c));
    named = new_name ok new;
  }

  pub declared-same : (x : ℕ) → (class_at g x).complete ≡ true → class_at (g ++ fresh n ∷ []) x ≡ class_at g x
  declared-same x k = at_old x (complete_below g x k)

  pub declared-longer : length g ≤ length (g ++ fresh n ∷ [])
  declared-longer = let k = length-append g (fresh n ∷ []) in omega arith
