-- The test of the better conversion, and that at most one of two is better.
use Rattle.std.proofs.Common.{◌≡◌, ℕ, List, refl, subst, ap, inl, inr, arith}
use Rattle.std.specs.Prelude.{false, not, ◌&&◌, ◌||◌, nat_eq, nat_lt}
use Rattle.std.specs.Bool.{Decides}
use Rattle.std.proofs.lemmas.Bool.Decides.{Decides-and, Decides-or, Decides-not, Decides-like, Decides-ltb}
use Rattle.mm_classes.specs.declared.class.Ty.{Ty}
use Rattle.mm_classes.specs.declared.class.Ty.TheVariants as ty
use Rattle.mm_classes.specs.Classes.{Class, IsClassList}
use Rattle.mm_overload.specs.declared.conv.Conv.{Conv}
use Rattle.mm_overload.specs.declared.conv.Order.TheVariants.{Better, Worse, Neither}
use Rattle.mm_overload.specs.declared.conv.Rank.{Rank}
use Rattle.mm_overload.specs.declared.conv.Rank.TheVariants.{Exact, Promotion, Conversion}
use Rattle.mm_overload.specs.Better.{place_of, IsNearer, IsBetter, OneOrder}
use Rattle.mm_overload.specs.Choice.{to_bool, nearer, better}
use Rattle.mm_overload.proofs.Bases.{one_way}

no : {P : Type 0} → (P → ⊥) → Decides false P
no f = (λ e. cc, λ p. absurd (f p))

same-place : (r s : Rank) → Decides (nat_eq (place_of r) (place_of s)) (r ≡ s)
same-place Exact Exact = (λ e. refl, λ e. refl)
same-place Exact Promotion = no (λ e. cc)
same-place Exact Conversion = no (λ e. cc)
same-place Promotion Exact = no (λ e. cc)
same-place Promotion Promotion = (λ e. refl, λ e. refl)
same-place Promotion Conversion = no (λ e. cc)
same-place Conversion Exact = no (λ e. cc)
same-place Conversion Promotion = no (λ e. cc)
same-place Conversion Conversion = (λ e. refl, λ e. refl)

to_bool-decides : (from to : Ty) → Decides (to_bool from to) ((c : ℕ) × (from ≡ ty.Ptr c)
    × (to ≡ ty.Bool))
to_bool-decides ty.Void to = no (λ h. let e = h.1 in cc)
to_bool-decides ty.Bool to = no (λ h. let e = h.1 in cc)
to_bool-decides ty.Int to = no (λ h. let e = h.1 in cc)
to_bool-decides ty.Unsigned to = no (λ h. let e = h.1 in cc)
to_bool-decides (ty.Ptr c) ty.Void = no (λ h. let e = h.2 in cc)
to_bool-decides (ty.Ptr c) ty.Bool = (λ e. (c, refl, refl), λ h. refl)
to_bool-decides (ty.Ptr c) ty.Int = no (λ h. let e = h.2 in cc)
to_bool-decides (ty.Ptr c) ty.Unsigned = no (λ h. let e = h.2 in cc)
to_bool-decides (ty.Ptr c) (ty.Ptr d) = no (λ h. let e = h.2 in cc)
to_bool-decides (ty.Ptr c) (ty.Ref d) = no (λ h. let e = h.2 in cc)
to_bool-decides (ty.Ref c) to = no (λ h. let e = h.1 in cc)

module _ (g : List Class) where
  nearer-decides : (from to other : Ty) → Decides (nearer g from to other) (IsNearer g from to
      other)
  nearer-decides ty.Void to other = no (λ h. h)
  nearer-decides ty.Bool to other = no (λ h. h)
  nearer-decides ty.Int to other = no (λ h. h)
  nearer-decides ty.Unsigned to other = no (λ h. h)
  nearer-decides (ty.Ptr c) ty.Void other = no (λ h. h)
  nearer-decides (ty.Ptr c) ty.Bool other = no (λ h. h)
  nearer-decides (ty.Ptr c) ty.Int other = no (λ h. h)
  nearer-decides (ty.Ptr c) ty.Unsigned other = no (λ h. h)
  nearer-decides (ty.Ptr c) (ty.Ptr b) ty.Void = no (λ h. h)
  nearer-decides (ty.Ptr c) (ty.Ptr b) ty.Bool = no (λ h. h)
  nearer-decides (ty.Ptr c) (ty.Ptr b) ty.Int = no (λ h. h)
  nearer-decides (ty.Ptr c) (ty.Ptr b) ty.Unsigned = no (λ h. h)
  nearer-decides (ty.Ptr c) (ty.Ptr b) (ty.Ptr a) = (λ e. e, λ e. e)
  nearer-decides (ty.Ptr c) (ty.Ptr b) (ty.Ref a) = no (λ h. h)
  nearer-decides (ty.Ptr c) (ty.Ref b) other = no (λ h. h)
  nearer-decides (ty.Ref c) ty.Void other = no (λ h. h)
  nearer-decides (ty.Ref c) ty.Bool other = no (λ h. h)
  nearer-decides (ty.Ref c) ty.Int other = no (λ h. h)
  nearer-decides (ty.Ref c) ty.Unsigned other = no (λ h. h)
  nearer-decides (ty.Ref c) (ty.Ptr b) other = no (λ h. h)
  nearer-decides (ty.Ref c) (ty.Ref b) ty.Void = no (λ h. h)
  nearer-decides (ty.Ref c) (ty.Ref b) ty.Bool = no (λ h. h)
  nearer-decides (ty.Ref c) (ty.Ref b) ty.Int = no (λ h. h)
  nearer-decides (ty.Ref c) (ty.Ref b) ty.Unsigned = no (λ h. h)
  nearer-decides (ty.Ref c) (ty.Ref b) (ty.Ptr a) = no (λ h. h)
  nearer-decides (ty.Ref c) (ty.Ref b) (ty.Ref a) = (λ e. e, λ e. e)

  pub better-decides : (x y : Conv) → x.from ≡ y.from → Decides (better g x y) (IsBetter g x y)
  better-decides x y same = Decides-like (better g x y) (λ h. (same, h)) (λ h. h.1)
      (Decides-or (nat_lt (place_of x.rank) (place_of y.rank)) (nat_eq (place_of x.rank) (place_of
      y.rank) && ((to_bool y.from y.to && not (to_bool x.from x.to)) || nearer g x.from x.to
      y.to)) (Decides-ltb (place_of x.rank) (place_of y.rank))
      (Decides-and (nat_eq (place_of x.rank) (place_of y.rank)) ((to_bool y.from y.to && not
      (to_bool x.from x.to)) || nearer g x.from x.to y.to) (same-place x.rank y.rank)
      (Decides-or (to_bool y.from y.to && not (to_bool x.from x.to)) (nearer g x.from x.to y.to)
      (Decides-and (to_bool y.from y.to) (not (to_bool x.from x.to)) (to_bool-decides y.from y.to)
      (Decides-not (to_bool x.from x.to) (to_bool-decides x.from x.to)))
      (nearer-decides x.from x.to y.to))))

  -- what is nearer makes no pointer a bool, and the other does not go nearer
  not_bool : (from to other : Ty) → IsNearer g from to other → (to ≡ ty.Bool → ⊥)
      × (other ≡ ty.Bool → ⊥)
  not_bool ty.Void to other h = absurd h
  not_bool ty.Bool to other h = absurd h
  not_bool ty.Int to other h = absurd h
  not_bool ty.Unsigned to other h = absurd h
  not_bool (ty.Ptr c) ty.Void other h = absurd h
  not_bool (ty.Ptr c) ty.Bool other h = absurd h
  not_bool (ty.Ptr c) ty.Int other h = absurd h
  not_bool (ty.Ptr c) ty.Unsigned other h = absurd h
  not_bool (ty.Ptr c) (ty.Ptr b) ty.Void h = absurd h
  not_bool (ty.Ptr c) (ty.Ptr b) ty.Bool h = absurd h
  not_bool (ty.Ptr c) (ty.Ptr b) ty.Int h = absurd h
  not_bool (ty.Ptr c) (ty.Ptr b) ty.Unsigned h = absurd h
  not_bool (ty.Ptr c) (ty.Ptr b) (ty.Ptr a) h = (λ e. cc, λ e. cc)
  not_bool (ty.Ptr c) (ty.Ptr b) (ty.Ref a) h = absurd h
  not_bool (ty.Ptr c) (ty.Ref b) other h = absurd h
  not_bool (ty.Ref c) ty.Void other h = absurd h
  not_bool (ty.Ref c) ty.Bool other h = absurd h
  not_bool (ty.Ref c) ty.Int other h = absurd h
  not_bool (ty.Ref c) ty.Unsigned other h = absurd h
  not_bool (ty.Ref c) (ty.Ptr b) other h = absurd h
  not_bool (ty.Ref c) (ty.Ref b) ty.Void h = absurd h
  not_bool (ty.Ref c) (ty.Ref b) ty.Bool h = absurd h
  not_bool (ty.Ref c) (ty.Ref b) ty.Int h = absurd h
  not_bool (ty.Ref c) (ty.Ref b) ty.Unsigned h = absurd h
  not_bool (ty.Ref c) (ty.Ref b) (ty.Ptr a) h = absurd h
  not_bool (ty.Ref c) (ty.Ref b) (ty.Ref a) h = (λ e. cc, λ e. cc)

  module _ (ok : IsClassList g) where
    not_back : (from to other : Ty) → IsNearer g from to other → IsNearer g from other to → ⊥
    not_back ty.Void to other h k = h
    not_back ty.Bool to other h k = h
    not_back ty.Int to other h k = h
    not_back ty.Unsigned to other h k = h
    not_back (ty.Ptr c) ty.Void other h k = h
    not_back (ty.Ptr c) ty.Bool other h k = h
    not_back (ty.Ptr c) ty.Int other h k = h
    not_back (ty.Ptr c) ty.Unsigned other h k = h
    not_back (ty.Ptr c) (ty.Ptr b) ty.Void h k = h
    not_back (ty.Ptr c) (ty.Ptr b) ty.Bool h k = h
    not_back (ty.Ptr c) (ty.Ptr b) ty.Int h k = h
    not_back (ty.Ptr c) (ty.Ptr b) ty.Unsigned h k = h
    not_back (ty.Ptr c) (ty.Ptr b) (ty.Ptr a) h k = one_way g ok b a h k
    not_back (ty.Ptr c) (ty.Ptr b) (ty.Ref a) h k = h
    not_back (ty.Ptr c) (ty.Ref b) other h k = h
    not_back (ty.Ref c) ty.Void other h k = h
    not_back (ty.Ref c) ty.Bool other h k = h
    not_back (ty.Ref c) ty.Int other h k = h
    not_back (ty.Ref c) ty.Unsigned other h k = h
    not_back (ty.Ref c) (ty.Ptr b) other h k = h
    not_back (ty.Ref c) (ty.Ref b) ty.Void h k = h
    not_back (ty.Ref c) (ty.Ref b) ty.Bool h k = h
    not_back (ty.Ref c) (ty.Ref b) ty.Int h k = h
    not_back (ty.Ref c) (ty.Ref b) ty.Unsigned h k = h
    not_back (ty.Ref c) (ty.Ref b) (ty.Ptr a) h k = h
    not_back (ty.Ref c) (ty.Ref b) (ty.Ref a) h k = one_way g ok b a h k

    pub asymmetric : (x y : Conv) → IsBetter g x y → IsBetter g y x → ⊥
    asymmetric x y (same, inl l) (e, inl k) = omega arith
    asymmetric x y (same, inl l) (e, inr k) = let z : place_of y.rank ≡ place_of x.rank = ap
        place_of k.0 in omega arith
    asymmetric x y (same, inr h) (e, inl k) = let z : place_of x.rank ≡ place_of y.rank = ap
        place_of h.0 in omega arith
    asymmetric x y (same, inr (r, inl b)) (e, inr (s, inl c)) = b.1 c.0
    asymmetric x y (same, inr (r, inl b)) (e, inr (s, inr n)) = (not_bool y.from y.to x.to n).0
        b.0.2
    asymmetric x y (same, inr (r, inr n)) (e, inr (s, inl c)) = (not_bool x.from x.to y.to n).0
        c.0.2
    asymmetric x y (same, inr (r, inr n)) (e, inr (s, inr m)) = not_back x.from x.to y.to n (subst
        (λ f. IsNearer g f y.to x.to) e m)

    pub one_order_only : OneOrder g
    one_order_only x y Better Better h k = refl
    one_order_only x y Better Worse h k = absurd (asymmetric x y h k)
    one_order_only x y Better Neither h k = absurd (k.0 h)
    one_order_only x y Worse Better h k = absurd (asymmetric x y k h)
    one_order_only x y Worse Worse h k = refl
    one_order_only x y Worse Neither h k = absurd (k.1 h)
    one_order_only x y Neither Better h k = absurd (h.0 k)
    one_order_only x y Neither Worse h k = absurd (h.1 k)
    one_order_only x y Neither Neither h k = refl
