-- Each subobject has one access: the greatest over the ways to it.
use Rattle.std.proofs.Common.{◌≡◌, ◌≢◌, ℕ, zero, suc, ◌+◌, ◌<◌, ◌≤◌, List, [], ◌∷◌, ◌++◌, length, get_or, take, refl, sym, subst, ap, ◌∙◌, inl, inr, arith}
use Rattle.std.specs.Prelude.{true, false, ◌⊎◌, cond, nat_le, min, Option, None, Some}
use Rattle.std.proofs.lemmas.Bool.Decides.{nat_tests, leb_tells}
use Rattle.mm_classes.specs.declared.class.Access.{Access}
use Rattle.mm_classes.specs.declared.class.Access.TheVariants.{Public, Protected, Private}
use Rattle.mm_classes.specs.declared.class.Base.{Base}
use Rattle.mm_classes.specs.Lists.{Has}
use Rattle.mm_classes.specs.Classes.{Class, class_at, bases_of, IsClassList}
use Rattle.mm_classes.specs.Subobjects.{Path, IsSubobject}
use Rattle.mm_classes.specs.Access.{grade, lesser, passed, AreLinks, composed_links, access_along, IsAccess, greater, IsGreatestOf}
use Rattle.mm_classes.proofs.Ways.{links_else, to_links, from_links}

-- GRADES
of_grade : ℕ → Option Access
of_grade zero = None
of_grade (suc zero) = Some Private
of_grade (suc (suc zero)) = Some Protected
of_grade (suc (suc (suc n))) = Some Public

of_grade_of : (x : Option Access) → of_grade (grade x) ≡ x
unfolding of_grade
of_grade_of None = refl
of_grade_of (Some Private) = refl
of_grade_of (Some Protected) = refl
of_grade_of (Some Public) = refl

pub grade-one : (x y : Option Access) → grade x ≡ grade y → x ≡ y
grade-one x y e = sym (of_grade_of x) ∙ (ap of_grade e ∙ of_grade_of y)

pub grade-public : (x : Option Access) → grade x ≤ 3
grade-public None = omega arith
grade-public (Some Private) = omega arith
grade-public (Some Protected) = omega arith
grade-public (Some Public) = omega arith

passed-grade : (k : Access) (x : Option Access) → grade (passed k x) ≡ cond (nat_le (grade x) 1) 0 (min (grade (Some k)) (grade x))
passed-grade Public None = refl
passed-grade Public (Some Private) = refl
passed-grade Public (Some Protected) = refl
passed-grade Public (Some Public) = refl
passed-grade Protected None = refl
passed-grade Protected (Some Private) = refl
passed-grade Protected (Some Protected) = refl
passed-grade Protected (Some Public) = refl
passed-grade Private None = refl
passed-grade Private (Some Private) = refl
passed-grade Private (Some Protected) = refl
passed-grade Private (Some Public) = refl

capped_below : (k m n : ℕ) → m ≤ n → cond (nat_le m 1) 0 (min k m) ≤ cond (nat_le n 1) 0 (min k n)
capped_below k m n l = elim (leb_tells m 1) [
  | inl a ↦ (rw a.0 (omega arith))
  | inr a ↦ elim (leb_tells n 1) [
    | inl b ↦ absurd (omega arith)
    | inr b ↦ (rw (a.0, b.0) (omega arith))
  ]
]

pub passed-mono : (k : Access) (x y : Option Access) → grade x ≤ grade y → grade (passed k x) ≤ grade (passed k y)
passed-mono k x y l = let a = passed-grade k x in let b = passed-grade k y in let c = capped_below (grade (Some k)) (grade x) (grade y) l in omega arith

-- ONE ACCESS
pub access_one : (g : List Class) (n : ℕ) (q : Path) (a : Access) (x y : Option Access) → IsAccess g n q a x → IsAccess g n q a y → x ≡ y
access_one g n q a x y h k =
    let u = h.way in
    let w = k.way in
    let b : grade x ≤ grade y = subst (λ z. grade z ≤ grade y) u.3 (k.greatest u.0 u.1 u.2) in
    let c : grade y ≤ grade x = subst (λ z. grade z ≤ grade x) w.3 (h.greatest w.0 w.1 w.2) in
    grade-one x y (omega arith)

-- the class itself
pub access_itself : (g : List Class) (n : ℕ) → IsAccess g n (n ∷ []) Public (Some Public)
access_itself g n = record {
  way = ([], tt, refl, refl);
  greatest = λ bs l e. grade-public (access_along bs (Some Public));
}

-- the access of a member that is not public, by that of a public one
pub capped : Access → Option Access → Option Access
capped a None = None
capped a (Some x) = Some (lesser a x)

capped-public : (x : Option Access) → capped Public x ≡ x
unfolding capped
capped-public None = refl
capped-public (Some x) = refl

passed-capped : (k : Access) (x : Option Access) → passed k (capped Protected x) ≡ capped Protected (passed k x)
unfolding capped
passed-capped k None = refl
passed-capped k (Some Private) = refl
passed-capped Public (Some Protected) = refl
passed-capped Protected (Some Protected) = refl
passed-capped Private (Some Protected) = refl
passed-capped Public (Some Public) = refl
passed-capped Protected (Some Public) = refl
passed-capped Private (Some Public) = refl

pub along_capped : (bs : List Base) → access_along bs (Some Protected) ≡ capped Protected (access_along bs (Some Public))
unfolding capped
along_capped [] = refl
along_capped (b ∷ bs) = ap (passed b.access) (along_capped bs) ∙ passed-capped b.access (access_along bs (Some Public))

pub capped-grade : (x : Option Access) → grade (capped Protected x) ≡ min 2 (grade x)
unfolding capped
capped-grade None = refl
capped-grade (Some Private) = refl
capped-grade (Some Protected) = refl
capped-grade (Some Public) = refl

pub access_protected : (g : List Class) (n : ℕ) (q : Path) (x : Option Access) → IsAccess g n q Public x → IsAccess g n q Protected (capped Protected x)
access_protected g n q x h = record {
  way = let w = h.way in (w.0, w.1, w.2, along_capped w.0 ∙ ap (capped Protected) w.3);
  greatest = λ bs l e.
      let a = h.greatest bs l e in
      let b = ap grade (along_capped bs) in
      let c = capped-grade (access_along bs (Some Public)) in
      let d = capped-grade x in omega arith;
}

-- a private member has none but in its own class
private_along : (b : Base) (bs : List Base) → access_along (b ∷ bs) (Some Private) ≡ None
private_along b [] = refl
private_along b (c ∷ bs) = ap (passed b.access) (private_along c bs)

pub access_private : (g : List Class) (ok : IsClassList g) (n : ℕ) → IsAccess g n (n ∷ []) Private (Some Private)
access_private g ok n = record { way = ([], tt, refl, refl); greatest = λ bs l e. only bs l e } where
  only : (bs : List Base) → AreLinks g n bs → composed_links n bs ≡ n ∷ [] → grade (access_along bs (Some Private)) ≤ 1
  only [] l e = omega arith
  only (b ∷ bs) l e = absurd (links_else g ok n b bs l e)

pub access_none : (g : List Class) (n : ℕ) (q : Path) (x : Option Access) → q ≢ n ∷ [] → IsAccess g n q Public x → IsAccess g n q Private None
access_none g n q x ne h = record {
  way = let w = h.way in (w.0, w.1, w.2, none w.0 w.2);
  greatest = λ bs l e. let k : grade (access_along bs (Some Private)) ≡ 0 = ap grade (none bs e) in omega arith;
} where
  none : (bs : List Base) → composed_links n bs ≡ q → access_along bs (Some Private) ≡ None
  none [] e = absurd (ne (sym e))
  none (b ∷ bs) e = private_along b bs

-- classes that keep their bases keep their access
module _ (g g' : List Class) (ok : IsClassList g) (same : (x : ℕ) → (class_at g x).complete ≡ true → bases_of g' x ≡ bases_of g x) where
  pub access-kept : (c : ℕ) (q : Path) (a : Access) (x : Option Access) → (class_at g c).complete ≡ true → IsAccess g c q a x → IsAccess g' c q a x
  access-kept c q a x k h = record {
    way = let w = h.way in (w.0, to_links g g' ok same c w.0 k w.1, w.2, w.3);
    greatest = λ bs l e. h.greatest bs (from_links g g' ok same c bs k l) e;
  }

-- THE GREATEST OF SOME
pub greatest-none : (W : Option Access → Type 0) → ((y : Option Access) → W y → ⊥) → IsGreatestOf W None
greatest-none W h = record { among = inl refl; above = λ y w. absurd (h y w) }

pub greatest-like : (W V : Option Access → Type 0) (x : Option Access) → ((y : Option Access) → W y → V y) → ((y : Option Access) → V y → W y) → IsGreatestOf W x → IsGreatestOf V x
greatest-like W V x to from h = record { among = elim h.among [ inl e ↦ inl e | inr w ↦ inr (to x w) ]; above = λ y v. h.above y (from y v) }

pub greatest-more : (W V : Option Access → Type 0) (x y : Option Access) → IsGreatestOf W x → IsGreatestOf V y → IsGreatestOf (λ z. W z ⊎ V z) (greater x y)
greatest-more W V x y h k = elim (leb_tells (suc (grade x)) (grade y)) [
  | inl a ↦ subst (IsGreatestOf (λ z. W z ⊎ V z)) (ap (λ b. cond b y x) (sym a.0)) record {
    among = elim k.among [ inl e ↦ inl e | inr v ↦ inr (inr v) ];
    above = λ z u. elim u [ inl w ↦ (let i = h.above z w in let j = a.1 in omega arith) | inr v ↦ k.above z v ];
  }
  | inr a ↦ subst (IsGreatestOf (λ z. W z ⊎ V z)) (ap (λ b. cond b y x) (sym a.0)) record {
    among = elim h.among [ inl e ↦ inl e | inr w ↦ inr (inl w) ];
    above = λ z u. elim u [ inl w ↦ h.above z w | inr v ↦ (let i = k.above z v in let j = a.1 in omega arith) ];
  }
]
