-- What operations on objects give, and the state that they leave.
use Rattle.std.proofs.Common.{◌≡◌, ◌≢◌, ℕ, ◌+◌, ◌<◌, List, [], ◌∷◌, ◌++◌, length, refl, sym, subst, ap, ◌∙◌, inl, inr, arith}
use Rattle.std.specs.Prelude.{◌⊎◌, Bool, true, false, nat_eq, ◌&&◌, if◌then◌else◌, Result, Ok, Err, slice_set}
use Rattle.std.specs.Str.{bytes_eq}
use Rattle.std.proofs.lemmas.Bool.{eq-eqb, eqb-true}
use Rattle.std.proofs.lemmas.List.{get_or_append_left, get_or-set_same, get_or-set_other, length-set, length-append}
use Rattle.std.proofs.Math.Seq.{get_or-append_seam}
use Rattle.std.proofs.lemmas.Slice.Eq.{bytes_eq-Decides}
use Rattle.mm_base.specs.declared.num.Trap.{Trap}
use Rattle.mm_classes.specs.declared.class.Ty.{Ty}
use Rattle.mm_classes.specs.declared.class.Ty.TheVariants as ty
use Rattle.mm_classes.specs.Classes.{Class}
use Rattle.mm_classes.specs.Subobjects.{Path, IsSubobject, end_of}
use Rattle.mm_core.specs.Heads.{is_reference, field_type}
use Rattle.mm_core.specs.State.{Value, Truth, Number, Word, Null, At, Nothing, zero_of, with_field, Object, no_object, State, object_at, class_of}
use Rattle.mm_core.specs.Objects.{fresh, make_object, get_field, put_field}
use Rattle.mm_core.specs.Valid.{as_pointer, Suits}
use Rattle.mm_core.specs.Fits.{Shows, Fits, Grew, IsState}
use Rattle.mm_core.specs.Keeps.{Gave}
use Rattle.mm_core.proofs.Sets.{and_is}

pub either_way : (b : Bool) → (b ≡ true) ⊎ (b ≡ false)
either_way true = inl refl
either_way false = inr refl

same_number : (x y : ℕ) → (x ≡ y) ⊎ (x ≢ y)
same_number x y = elim (either_way (nat_eq x y)) [ inl e ↦ inl (eqb-true x y e) | inr e ↦ inr (λ k. let t = eq-eqb x y k in let z : true ≡ false = sym t ∙ e in cc) ]

pub grew_self : (xs : List Object) → Grew xs xs
grew_self xs = record { longer = omega arith; same = λ o l. refl }

pub grew_on : (xs ys zs : List Object) → Grew xs ys → Grew ys zs → Grew xs zs
grew_on xs ys zs a b = record { longer = (let l = a.longer in let m = b.longer in omega arith); same = λ o l. b.same o (let m = a.longer in omega arith) ∙ a.same o l }

module _ (g : List Class) where
  shows_grew : (xs ys : List Object) → Grew xs ys → (c o : ℕ) (s : Path) → Shows g xs c o s → Shows g ys c o s
  shows_grew xs ys h c o s f = record { there = (let l = f.there in let m = h.longer in omega arith); part = subst (λ d. IsSubobject g d s) (sym (h.same o f.there)) f.part; ends = f.ends }

  pub fits_grew : (xs ys : List Object) → Grew xs ys → (t : Ty) (v : Value) → Fits g xs t v → Fits g ys t v
  fits_grew xs ys h ty.Void (Truth b) f = f
  fits_grew xs ys h ty.Void (Number z) f = f
  fits_grew xs ys h ty.Void (Word n) f = f
  fits_grew xs ys h ty.Void Null f = f
  fits_grew xs ys h ty.Void (At o s) f = f
  fits_grew xs ys h ty.Void Nothing f = f
  fits_grew xs ys h ty.Bool (Truth b) f = f
  fits_grew xs ys h ty.Bool (Number z) f = f
  fits_grew xs ys h ty.Bool (Word n) f = f
  fits_grew xs ys h ty.Bool Null f = f
  fits_grew xs ys h ty.Bool (At o s) f = f
  fits_grew xs ys h ty.Bool Nothing f = f
  fits_grew xs ys h ty.Int (Truth b) f = f
  fits_grew xs ys h ty.Int (Number z) f = f
  fits_grew xs ys h ty.Int (Word n) f = f
  fits_grew xs ys h ty.Int Null f = f
  fits_grew xs ys h ty.Int (At o s) f = f
  fits_grew xs ys h ty.Int Nothing f = f
  fits_grew xs ys h ty.Unsigned (Truth b) f = f
  fits_grew xs ys h ty.Unsigned (Number z) f = f
  fits_grew xs ys h ty.Unsigned (Word n) f = f
  fits_grew xs ys h ty.Unsigned Null f = f
  fits_grew xs ys h ty.Unsigned (At o s) f = f
  fits_grew xs ys h ty.Unsigned Nothing f = f
  fits_grew xs ys h (ty.Ptr c) (Truth b) f = f
  fits_grew xs ys h (ty.Ptr c) (Number z) f = f
  fits_grew xs ys h (ty.Ptr c) (Word n) f = f
  fits_grew xs ys h (ty.Ptr c) Null f = f
  fits_grew xs ys h (ty.Ptr c) (At o s) f = shows_grew xs ys h c o s f
  fits_grew xs ys h (ty.Ptr c) Nothing f = f
  fits_grew xs ys h (ty.Ref c) (Truth b) f = f
  fits_grew xs ys h (ty.Ref c) (Number z) f = f
  fits_grew xs ys h (ty.Ref c) (Word n) f = f
  fits_grew xs ys h (ty.Ref c) Null f = f
  fits_grew xs ys h (ty.Ref c) (At o s) f = shows_grew xs ys h c o s f
  fits_grew xs ys h (ty.Ref c) Nothing f = f

  pub as_fits : (xs : List Object) (t : Ty) (v : Value) → Fits g xs t v → Fits g xs (as_pointer t) v
  as_fits xs ty.Void v f = f
  as_fits xs ty.Bool v f = f
  as_fits xs ty.Int v f = f
  as_fits xs ty.Unsigned v f = f
  as_fits xs (ty.Ptr c) v f = f
  as_fits xs (ty.Ref c) (At o s) f = f
  as_fits xs (ty.Ref c) (Truth b) f = absurd f
  as_fits xs (ty.Ref c) (Number b) f = absurd f
  as_fits xs (ty.Ref c) (Word b) f = absurd f
  as_fits xs (ty.Ref c) Null f = absurd f
  as_fits xs (ty.Ref c) Nothing f = absurd f

  pub suits_fits : (xs : List Object) (t u : Ty) (v : Value) → Suits t u → Fits g xs t v → Fits g xs u v
  suits_fits xs t u v (n, inl e) f = subst (λ z. Fits g xs z v) e f
  suits_fits xs t u v (n, inr e) f = subst (λ z. Fits g xs z v) e (as_fits xs t v f)

  pub zero_fits : (xs : List Object) (t : Ty) → is_reference t ≡ false → Fits g xs t (zero_of t)
  zero_fits xs ty.Void e = tt
  zero_fits xs ty.Bool e = tt
  zero_fits xs ty.Int e = refl
  zero_fits xs ty.Unsigned e = omega arith
  zero_fits xs (ty.Ptr c) e = tt
  zero_fits xs (ty.Ref c) e = cc

  -- ---- what an operation does

  abbrev pub Operates : Ty → State → Result (Value × State) Trap → Type 0
  Operates t s (Ok r) = Gave g t s r.0 r.1
  Operates t s (Err x) = Unit {0}

  -- ---- a new object

  module _ (plain : (c f : ℕ) → is_reference (field_type g c f) ≡ false) where
    module _ (c : ℕ) (s : State) where
      abbrev more : List Object
      more = s.objects ++ fresh g c ∷ []

      old_at : (o : ℕ) → o < length s.objects → object_at more o ≡ object_at s.objects o
      old_at o l = get_or_append_left s.objects (fresh g c ∷ []) no_object o l

      new_at : object_at more (length s.objects) ≡ fresh g c
      new_at = get_or-append_seam s.objects (fresh g c) [] no_object

      more_length : length more ≡ length s.objects + 1
      more_length = length-append s.objects (fresh g c ∷ [])

      more_grew : Grew s.objects more
      more_grew = record { longer = (let e = more_length in omega arith); same = λ o l. ap (λ (x : Object). x.class) (old_at o l) }

    pub make_operates : (c : ℕ) (s : State) → IsState g s → Operates (ty.Ptr c) s (make_object g c s)
    make_operates c s h = record {
      fits = record { there = (let e = more_length c s in omega arith); part = subst (λ d. IsSubobject g d (c ∷ [])) (sym (ap (λ (x : Object). x.class) (new_at c s))) (inl refl, tt); ends = refl };
      grew = more_grew c s;
      state = record {
        input = h.input;
        fields = λ o f t l p. elim (same_number o (length s.objects)) [
          | inl e ↦ subst (λ (x : Object). Fits g (more c s) (field_type g (end_of t) f) (x.fields t f)) (sym (ap (object_at (more c s)) e ∙ new_at c s)) (zero_fits (more c s) (field_type g (end_of t) f) (plain (end_of t) f))
          | inr n ↦ (let m = more_length c s in let low : o < length s.objects = omega arith in
              subst (λ (x : Object). Fits g (more c s) (field_type g (end_of t) f) (x.fields t f)) (sym (old_at c s o low))
              (fits_grew s.objects (more c s) (more_grew c s) (field_type g (end_of t) f) ((object_at s.objects o).fields t f) (h.fields o f t low (subst (λ (x : Object). IsSubobject g x.class t) (old_at c s o low) p))))
        ];
      };
    }

  -- ---- fields

  pub get_operates : (c f : ℕ) (v : Value) (s : State) → IsState g s → Fits g s.objects (ty.Ref c) v → Operates (field_type g c f) s (get_field f v s)
  get_operates c f (At o t) s h k = record { fits = subst (λ d. Fits g s.objects (field_type g d f) ((object_at s.objects o).fields t f)) k.ends (h.fields o f t k.there k.part); grew = grew_self s.objects; state = h }
  get_operates c f (Truth b) s h k = tt
  get_operates c f (Number b) s h k = tt
  get_operates c f (Word b) s h k = tt
  get_operates c f Null s h k = tt
  get_operates c f Nothing s h k = tt

  -- one field of one subobject is another
  module _ (s : State) (o : ℕ) (t : Path) (f : ℕ) (v : Value) where
    abbrev put_at : Object
    put_at = record { class = (object_at s.objects o).class; fields = with_field (object_at s.objects o).fields t f v }

    abbrev others : List Object
    others = slice_set s.objects o put_at

    put_class : o < length s.objects → (x : ℕ) → class_of others x ≡ class_of s.objects x
    put_class low x = elim (same_number x o) [
      | inl e ↦ ap (class_of others) e ∙ ap (λ (y : Object). y.class) (get_or-set_same s.objects o put_at no_object low) ∙ sym (ap (class_of s.objects) e)
      | inr n ↦ ap (λ (y : Object). y.class) (get_or-set_other s.objects o x put_at no_object n)
    ]

    put_grew : o < length s.objects → Grew s.objects others
    put_grew low = record { longer = (let e = length-set s.objects o put_at in omega arith); same = λ x l. put_class low x }

    put_fields : (xs : List Object) (u : Path) (x : ℕ) (b : Bool) → (nat_eq x f && bytes_eq u t) ≡ b → Fits g xs (field_type g (end_of t) f) v → Fits g xs (field_type g (end_of u) x) ((object_at s.objects o).fields u x) → Fits g xs (field_type g (end_of u) x) (if b then v else (object_at s.objects o).fields u x)
    put_fields xs u x true e k h = let r = and_is (nat_eq x f) (bytes_eq u t) e in rw (eqb-true x f r.0, (bytes_eq-Decides u t).0 r.1) k
    put_fields xs u x false e k h = h

  pub put_operates : (c f : ℕ) (p v : Value) (s : State) → IsState g s → Fits g s.objects (ty.Ref c) p → Fits g s.objects (field_type g c f) v → Operates (field_type g c f) s (put_field f p v s)
  put_operates c f (At o t) v s h k j =
      let gr = put_grew s o t f v k.there in
      let fv = fits_grew s.objects (others s o t f v) gr (field_type g c f) v j in
      record {
        fits = fv;
        grew = gr;
        state = record {
          input = h.input;
          fields = λ x y u l p.
              let low : x < length s.objects = (let e = length-set s.objects o (put_at s o t f v) in omega arith) in
              let part : IsSubobject g (class_of s.objects x) u = subst (λ d. IsSubobject g d u) (put_class s o t f v k.there x) p in
              let old = fits_grew s.objects (others s o t f v) gr (field_type g (end_of u) y) ((object_at s.objects x).fields u y) (h.fields x y u low part) in
              elim (same_number x o) [
                | inl e ↦ subst (λ (z : Object). Fits g (others s o t f v) (field_type g (end_of u) y) (z.fields u y)) (sym (ap (object_at (others s o t f v)) e ∙ get_or-set_same s.objects o (put_at s o t f v) no_object k.there))
                    (put_fields s o t f v (others s o t f v) u y (nat_eq y f && bytes_eq u t) refl (subst (λ d. Fits g (others s o t f v) (field_type g d f) v) (sym k.ends) fv) (subst (λ z. Fits g (others s o t f v) (field_type g (end_of u) y) ((object_at s.objects z).fields u y)) e old))
                | inr n ↦ subst (λ (z : Object). Fits g (others s o t f v) (field_type g (end_of u) y) (z.fields u y)) (sym (get_or-set_other s.objects o x (put_at s o t f v) no_object n)) old
              ];
        };
      }
  put_operates c f (Truth b) v s h k j = tt
  put_operates c f (Number b) v s h k j = tt
  put_operates c f (Word b) v s h k j = tt
  put_operates c f Null v s h k j = tt
  put_operates c f Nothing v s h k j = tt
