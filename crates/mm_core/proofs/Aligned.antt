-- The arguments of a call of an open-method, at the parameters of the winner, fit its types.
use Rattle.std.proofs.Common.{◌≡◌, ℕ, ◌<◌, List, [], ◌∷◌, length, refl, sym, subst, ap, ◌∙◌, inl, inr}
use Rattle.std.specs.Prelude.{◌⊎◌, Bool, true, false, ◌&&◌, filter, filter_map, if◌then◌else◌, Option, Some, None, Result, Ok, Err}
use Rattle.std.specs.Bool.{beq}
use Rattle.std.specs.List.{list_all}
use Rattle.mm_base.specs.declared.num.Trap.{Trap}
use Rattle.mm_classes.specs.declared.class.Ty.{Ty}
use Rattle.mm_classes.specs.declared.class.Ty.TheVariants as ty
use Rattle.mm_classes.specs.Lists.{Has, first, later}
use Rattle.mm_classes.specs.Classes.{Class, IsClassList, IsComplete}
use Rattle.mm_classes.specs.Subobjects.{Path, IsSubobject, end_of, compose}
use Rattle.mm_classes.proofs.Compose.{compose-sub, compose-end}
use Rattle.mm_classes.proofs.Deriving.{sub_derives}
use Rattle.mm_core.specs.declared.part.CoreParam.{CoreParam}
use Rattle.mm_core.specs.Sets.{only, is_one, is_some_of, ups, arounds}
use Rattle.mm_core.specs.Heads.{class_in, class_shown, same_type, types_of_params}
use Rattle.mm_core.specs.State.{Value, Truth, Number, Word, Null, At, Nothing, Object, class_of}
use Rattle.mm_core.specs.Families.{type_overrides, param_overrides, params_override}
use Rattle.mm_core.specs.Dispatch.{Row, parts_at, parameters_of}
use Rattle.mm_core.specs.Open.{first_in, first_ways, virtual_values, with_virtuals, row_and, rows_of, row_before, raised, shown}
use Rattle.mm_core.specs.ValidProgram.{AreRows, are_single}
use Rattle.mm_core.specs.Fits.{Shows, Fits, AllFit}
use Rattle.mm_core.specs.Relations.{IsWay}
use Rattle.mm_core.proofs.Sets.{and_is, is_and, in_ups, in_arounds, has_some, reads_sets}
use Rattle.mm_core.proofs.Returning.{same_is}
use Rattle.mm_core.proofs.Entering.{derives_complete}

-- ---- parameters that match

abbrev pub LikeType : Ty → Ty → Type 0
LikeType (ty.Ptr c) (ty.Ptr d) = Unit {0}
LikeType (ty.Ref c) (ty.Ref d) = Unit {0}
LikeType t u = ⊥

-- both virtual, or both of one type
abbrev pub LikeParam : Bool → Bool → Ty → Ty → Type 0
LikeParam v v' t u = ((v ≡ true) × (v' ≡ true) × LikeType t u) ⊎ ((v ≡ false) × (v' ≡ false) × (t ≡ u))

abbrev pub Like : List CoreParam → List CoreParam → Type 0
Like [] [] = Unit {0}
Like [] (u ∷ us) = ⊥
Like (q ∷ qs) [] = ⊥
Like (q ∷ qs) (u ∷ us) = LikeParam q.is_virtual u.is_virtual q.ty u.ty × Like qs us

type_like : (g : List Class) (t u : Ty) → type_overrides g t u ≡ true → LikeType t u
type_like g (ty.Ptr c) (ty.Ptr d) e = tt
type_like g (ty.Ref c) (ty.Ref d) e = tt
type_like g t u e = cc

over_like : (g : List Class) (v v' : Bool) (t u : Ty) → (beq v v' && (if v then type_overrides g t u else same_type t u)) ≡ true → LikeParam v v' t u
over_like g true true t u e = inl (refl, refl, type_like g t u e)
over_like g false false t u e = inr (refl, refl, same_is t u e)
over_like g true false t u e = cc
over_like g false true t u e = cc

pub overrides_like : (g : List Class) (qs us : List CoreParam) → params_override g qs us ≡ true → Like qs us
overrides_like g [] [] e = tt
overrides_like g [] (u ∷ us) e = cc
overrides_like g (q ∷ qs) [] e = cc
overrides_like g (q ∷ qs) (u ∷ us) e = (let a = and_is (param_overrides g q u) (params_override g qs us) e in (over_like g q.is_virtual u.is_virtual q.ty u.ty a.0, overrides_like g qs us a.1))

pointer_of : (t u : Ty) → LikeType t u → (c : ℕ) × ((t ≡ ty.Ptr c) ⊎ (t ≡ ty.Ref c))
pointer_of (ty.Ptr c) (ty.Ptr d) h = (c, inl refl)
pointer_of (ty.Ref c) (ty.Ref d) h = (c, inr refl)
pointer_of t u h = absurd h

pointer_too : (t u : Ty) → LikeType t u → (c : ℕ) × ((u ≡ ty.Ptr c) ⊎ (u ≡ ty.Ref c))
pointer_too (ty.Ptr c) (ty.Ptr d) h = (d, inl refl)
pointer_too (ty.Ref c) (ty.Ref d) h = (d, inr refl)
pointer_too t u h = absurd h

class_is : (t : Ty) (c : ℕ) → (t ≡ ty.Ptr c) ⊎ (t ≡ ty.Ref c) → class_in t ≡ Some c
class_is t c (inl e) = ap class_in e
class_is t c (inr e) = ap class_in e

-- the classes at virtual positions
abbrev pub cls : List CoreParam → List ℕ
cls qs = filter_map (λ (q : CoreParam). class_in q.ty) (filter (λ (q : CoreParam). q.is_virtual) qs)

cls_true : (q : CoreParam) (qs : List CoreParam) (c : ℕ) → q.is_virtual ≡ true → class_in q.ty ≡ Some c → cls (q ∷ qs) ≡ c ∷ cls qs
cls_true q qs c k e = rw k (rw e refl)

cls_false : (q : CoreParam) (qs : List CoreParam) → q.is_virtual ≡ false → cls (q ∷ qs) ≡ cls qs
cls_false q qs k = rw k refl

values_true : (q : CoreParam) (qs : List CoreParam) (v : Value) (vs : List Value) → q.is_virtual ≡ true → virtual_values (q ∷ qs) (v ∷ vs) ≡ v ∷ virtual_values qs vs
values_true q qs v vs k = rw k refl

values_false : (q : CoreParam) (qs : List CoreParam) (v : Value) (vs : List Value) → q.is_virtual ≡ false → virtual_values (q ∷ qs) (v ∷ vs) ≡ virtual_values qs vs
values_false q qs v vs k = rw k refl

module _ (g : List Class) (ok : IsClassList g) (xs : List Object) where
  -- ---- rows

  -- each row is of its value's object
  abbrev pub Aligned : List Value → List Row → List ℕ → Type 0
  Aligned [] [] [] = Unit {0}
  Aligned (At o s ∷ vs) (row ∷ up) (c ∷ cs) = (row.class ≡ class_of xs o) × (o < length xs) × Aligned vs up cs
  Aligned vs up cs = ⊥

  pub record Along (vals : List Value) (co cb cu : List ℕ) (up : List Row) : Type 0 where
    pub aligned : Aligned vals up cu
    pub rows : AreRows g cb up
    pub viable : list_all is_some_of (parts_at g up co) ≡ true

  abbrev pub Aligns : List Value → List ℕ → List ℕ → List ℕ → Type 0
  Aligns vals co cb cu = (rows up : List Row) → rows_of xs vals ≡ Ok rows → raised rows (first_ways g co cb) ≡ Some up → Along vals co cb cu up

  complete_of : (d c : ℕ) (t : Path) → IsSubobject g d t → end_of t ≡ c → IsComplete g c → IsComplete g d
  complete_of d c t s e k = elim (sub_derives g d t s) [ inl i ↦ subst (IsComplete g) (sym e ∙ i) k | inr i ↦ derives_complete g ok d (end_of t) i ]

  first_way : (c b : ℕ) (q : Path) → first_in (ups g c b) ≡ Some q → IsWay g c b q
  first_way c b q e = (in_ups g ok c b q).0 (first_has (ups g c b) e)
    where
      first_has : (ps : List Path) → first_in ps ≡ Some q → Has ps q
      first_has [] e = cc
      first_has (y ∷ ys) e = first (let k : y ≡ q = cc in k)

  -- one more row
  at_row : (o c b u : ℕ) (t q : Path) (vals : List Value) (co cb cu : List ℕ) (up : List Row) → Shows g xs c o t → IsComplete g c → IsWay g c b q → Along vals co cb cu up → Along (At o t ∷ vals) (c ∷ co) (b ∷ cb) (u ∷ cu) (record { class = class_of xs o; part = compose t q } ∷ up)
  at_row o c b u t q vals co cb cu up f k w h =
      let d = class_of xs o in
      let s : IsSubobject g (end_of t) q = subst (λ z. IsSubobject g z q) (sym f.ends) w.0 in
      record {
        aligned = (refl, f.there, h.aligned);
        rows = (complete_of d c t f.part f.ends k, compose-sub g d t q f.part s, compose-end g d t q f.part s ∙ w.1, h.rows);
        viable = is_and (is_some_of (arounds g d (compose t q) c)) (list_all is_some_of (parts_at g up co)) (has_some g ok (arounds g d (compose t q) c) t ((in_arounds g ok d (compose t q) c t).1 (f.part, f.ends, (q, s, refl)))) h.viable;
      }

  raised_row : (o c b u : ℕ) (t : Path) (vals : List Value) (co cb cu : List ℕ) (rs : List Row) (w : Option Path) (r : Option (List Row)) (up : List Row) → raised rs (first_ways g co cb) ≡ r → first_in (ups g c b) ≡ w → raised (record { class = class_of xs o; part = t } ∷ rs) (w ∷ first_ways g co cb) ≡ Some up → Shows g xs c o t → IsComplete g c → ((up : List Row) → raised rs (first_ways g co cb) ≡ Some up → Along vals co cb cu up) → Along (At o t ∷ vals) (c ∷ co) (b ∷ cb) (u ∷ cu) up
  raised_row o c b u t vals co cb cu rs None r up er ew e f k h = cc
  raised_row o c b u t vals co cb cu rs (Some q) None up er ew e f k h = (let z : row_before (record { class = class_of xs o; part = compose t q }) None ≡ Some up = ap (row_before (record { class = class_of xs o; part = compose t q })) (sym er) ∙ e in cc)
  raised_row o c b u t vals co cb cu rs (Some q) (Some up') up er ew e f k h =
      let z : row_before (record { class = class_of xs o; part = compose t q }) (Some up') ≡ Some up = ap (row_before (record { class = class_of xs o; part = compose t q })) (sym er) ∙ e in
      let i : (record { class = class_of xs o; part = compose t q } ∷ up') ≡ up = cc in
      subst (Along (At o t ∷ vals) (c ∷ co) (b ∷ cb) (u ∷ cu)) i (at_row o c b u t q vals co cb cu up' f k (first_way c b q ew) (h up' er))

  row_step : (o c b u : ℕ) (t : Path) (vals : List Value) (co cb cu : List ℕ) (r : Result (List Row) Trap) (rows up : List Row) → rows_of xs vals ≡ r → row_and (record { class = class_of xs o; part = t }) r ≡ Ok rows → raised rows (first_ways g (c ∷ co) (b ∷ cb)) ≡ Some up → Shows g xs c o t → IsComplete g c → Aligns vals co cb cu → Along (At o t ∷ vals) (c ∷ co) (b ∷ cb) (u ∷ cu) up
  row_step o c b u t vals co cb cu (Err x) rows up er e l f k h = cc
  row_step o c b u t vals co cb cu (Ok rs) rows up er e l f k h =
      let i : (record { class = class_of xs o; part = t } ∷ rs) ≡ rows = cc in
      raised_row o c b u t vals co cb cu rs (first_in (ups g c b)) (raised rs (first_ways g co cb)) up refl refl (subst (λ z. raised z (first_ways g (c ∷ co) (b ∷ cb)) ≡ Some up) (sym i) l) f k (λ up' j. h rs up' er j)

  value_step : (v : Value) (c b u : ℕ) (vals : List Value) (co cb cu : List ℕ) → Fits g xs (ty.Ptr c) v → IsComplete g c → Aligns vals co cb cu → Aligns (v ∷ vals) (c ∷ co) (b ∷ cb) (u ∷ cu)
  value_step (At o t) c b u vals co cb cu f k h rows up e l = row_step o c b u t vals co cb cu (rows_of xs vals) rows up refl e l f k h
  value_step Null c b u vals co cb cu f k h rows up e l = cc
  value_step Nothing c b u vals co cb cu f k h rows up e l = cc
  value_step (Truth z) c b u vals co cb cu f k h rows up e l = cc
  value_step (Number z) c b u vals co cb cu f k h rows up e l = cc
  value_step (Word z) c b u vals co cb cu f k h rows up e l = cc

  as_shown : (t : Ty) (c : ℕ) (v : Value) → (t ≡ ty.Ptr c) ⊎ (t ≡ ty.Ref c) → Fits g xs t v → Fits g xs (ty.Ptr c) v
  as_shown t c v (inl e) f = subst (λ z. Fits g xs z v) e f
  as_shown t c v (inr e) f = of_reference v (subst (λ z. Fits g xs z v) e f)
    where
      of_reference : (v : Value) → Fits g xs (ty.Ref c) v → Fits g xs (ty.Ptr c) v
      of_reference (At o s) f = f
      of_reference Null f = absurd f
      of_reference Nothing f = absurd f
      of_reference (Truth z) f = absurd f
      of_reference (Number z) f = absurd f
      of_reference (Word z) f = absurd f

  -- virtual parameters show complete classes
  abbrev pub AreWhole : List CoreParam → Type 0
  AreWhole qs = (q : CoreParam) → Has qs q → q.is_virtual ≡ true → IsComplete g (class_shown q.ty)

  shown_is : (t : Ty) (c : ℕ) → (t ≡ ty.Ptr c) ⊎ (t ≡ ty.Ref c) → class_shown t ≡ c
  shown_is t c (inl e) = ap class_shown e
  shown_is t c (inr e) = ap class_shown e

  no_rows : (rows up : List Row) → rows_of xs [] ≡ Ok rows → raised rows (first_ways g [] []) ≡ Some up → Along [] [] [] [] up
  no_rows [] [] e r = record { aligned = tt; rows = tt; viable = refl }
  no_rows [] (row ∷ up) e r = cc
  no_rows (row ∷ rows) up e r = cc

  pub align : (qs bs us : List CoreParam) (vs : List Value) → AllFit g xs (types_of_params qs) vs → Like qs bs → Like us bs → AreWhole qs → Aligns (virtual_values qs vs) (cls qs) (cls bs) (cls us)
  align [] [] [] vs f l m k = λ rows up e r. no_rows rows up e r
  align [] [] (u ∷ us) vs f l m k = absurd m
  align [] (b ∷ bs) us vs f l m k = absurd l
  align (q ∷ qs) [] us vs f l m k = absurd l
  align (q ∷ qs) (b ∷ bs) [] vs f l m k = absurd m
  align (q ∷ qs) (b ∷ bs) (u ∷ us) [] f l m k = absurd f
  align (q ∷ qs) (b ∷ bs) (u ∷ us) (v ∷ vs) f l m k =
      let rest = align qs bs us vs f.1 l.1 m.1 (λ x h. k x (later h)) in
      elim l.0 [
        | inl a ↦ elim m.0 [
          | inl d ↦ (let c = pointer_of q.ty b.ty a.2 in let e = pointer_too q.ty b.ty a.2 in let w = pointer_of u.ty b.ty d.2 in
              rw (values_true q qs v vs a.0, cls_true q qs c.0 a.0 (class_is q.ty c.0 c.1), cls_true b bs e.0 a.1 (class_is b.ty e.0 e.1), cls_true u us w.0 d.0 (class_is u.ty w.0 w.1))
              (value_step v c.0 e.0 w.0 (virtual_values qs vs) (cls qs) (cls bs) (cls us) (as_shown q.ty c.0 v c.1 f.0) (subst (IsComplete g) (shown_is q.ty c.0 c.1) (k q (first refl) a.0)) rest))
          | inr d ↦ absurd (let z : true ≡ false = sym a.1 ∙ d.1 in let y : ⊥ = cc in y)
        ]
        | inr a ↦ elim m.0 [
          | inl d ↦ absurd (let z : true ≡ false = sym d.1 ∙ a.1 in let y : ⊥ = cc in y)
          | inr d ↦ rw (values_false q qs v vs a.0, cls_false q qs a.0, cls_false b bs a.1, cls_false u us d.0) rest
        ]
      ]

  -- ---- the parameters of the winner

  abbrev pub Good : List Value → List ℕ → List (Option Path) → Type 0
  Good [] [] [] = Unit {0}
  Good (At o s ∷ vs) (c ∷ cs) (Some t ∷ ts) = Shows g xs c o t × Good vs cs ts
  Good vs cs ts = ⊥

  one_is : (ps : List Path) → is_one ps ≡ true → (t : Path) × (only ps ≡ Some t)
  one_is [] e = cc
  one_is (t ∷ []) e = (t, refl)
  one_is (t ∷ u ∷ ps) e = cc

  good_at : (o : ℕ) (s : Path) (vs : List Value) (c : ℕ) (cs : List ℕ) (w : Option Path) (ts : List (Option Path)) (t : Path) → w ≡ Some t → Shows g xs c o t → Good vs cs ts → Good (At o s ∷ vs) (c ∷ cs) (w ∷ ts)
  good_at o s vs c cs w ts t e f h = subst (λ z. Good (At o s ∷ vs) (c ∷ cs) (z ∷ ts)) (sym e) (f, h)

  single_at : (b : Bool) (ps : List Path) → is_some_of ps ≡ true → (if is_some_of ps then is_one ps else true) ≡ true → is_one ps ≡ true
  single_at b ps k e = subst (λ z. (if z then is_one ps else true) ≡ true) k e

  pub good : (vs : List Value) (up : List Row) (cs : List ℕ) → Aligned vs up cs → list_all is_some_of (parts_at g up cs) ≡ true → are_single (parts_at g up cs) ≡ true → Good vs cs (parameters_of g up cs)
  good [] [] [] a v s = tt
  good (At o t ∷ vs) (row ∷ up) (c ∷ cs) a v s =
      let ps = arounds g row.class row.part c in
      let k = and_is (is_some_of ps) (list_all is_some_of (parts_at g up cs)) v in
      let m = and_is (if is_some_of ps then is_one ps else true) (are_single (parts_at g up cs)) s in
      let w = one_is ps (single_at true ps k.0 m.0) in
      let h = (((reads_sets g ok).around row.class row.part c w.0).0 w.1).has in
      good_at o t vs c cs (only ps) (parameters_of g up cs) w.0 w.1 (record { there = a.1; part = subst (λ z. IsSubobject g z w.0) a.0 h.0; ends = h.1 }) (good vs up cs a.2 k.1 m.1)
  good [] [] (c ∷ cs) a v s = absurd a
  good [] (row ∷ up) cs a v s = absurd a
  good (At o t ∷ vs) [] cs a v s = absurd a
  good (At o t ∷ vs) (row ∷ up) [] a v s = absurd a
  good (Null ∷ vs) up cs a v s = absurd a
  good (Nothing ∷ vs) up cs a v s = absurd a
  good (Truth z ∷ vs) up cs a v s = absurd a
  good (Number z ∷ vs) up cs a v s = absurd a
  good (Word z ∷ vs) up cs a v s = absurd a

  with_true : (q : CoreParam) (qs : List CoreParam) (v w : Value) (vs ws : List Value) → q.is_virtual ≡ true → with_virtuals (q ∷ qs) (v ∷ vs) (w ∷ ws) ≡ w ∷ with_virtuals qs vs ws
  with_true q qs v w vs ws k = rw k refl

  with_false : (q : CoreParam) (qs : List CoreParam) (v : Value) (vs ws : List Value) → q.is_virtual ≡ false → with_virtuals (q ∷ qs) (v ∷ vs) ws ≡ v ∷ with_virtuals qs vs ws
  with_false q qs v vs [] k = refl
  with_false q qs v vs (w ∷ ws) k = rw k refl

  shown_fits : (t : Ty) (c o : ℕ) (s : Path) → (t ≡ ty.Ptr c) ⊎ (t ≡ ty.Ref c) → Shows g xs c o s → Fits g xs t (At o s)
  shown_fits t c o s (inl e) f = subst (λ z. Fits g xs z (At o s)) (sym e) f
  shown_fits t c o s (inr e) f = subst (λ z. Fits g xs z (At o s)) (sym e) f

  virtual_step : (q u : CoreParam) (qs us : List CoreParam) (v : Value) (vs : List Value) (c : ℕ) (cs : List ℕ) (vals : List Value) (ts : List (Option Path)) → q.is_virtual ≡ true → (u.ty ≡ ty.Ptr c) ⊎ (u.ty ≡ ty.Ref c) → Good (v ∷ vals) (c ∷ cs) ts → ((ts : List (Option Path)) → Good vals cs ts → AllFit g xs (types_of_params us) (with_virtuals qs vs (shown vals ts))) → AllFit g xs (u.ty ∷ types_of_params us) (with_virtuals (q ∷ qs) (v ∷ vs) (shown (v ∷ vals) ts))
  virtual_step q u qs us (At o s) vs c cs vals (Some t ∷ ts) k e h f = rw (with_true q qs (At o s) (At o t) vs (shown vals ts) k) (shown_fits u.ty c o t e h.0, f ts h.1)
  virtual_step q u qs us (At o s) vs c cs vals (None ∷ ts) k e h f = absurd h
  virtual_step q u qs us (At o s) vs c cs vals [] k e h f = absurd h
  virtual_step q u qs us Null vs c cs vals ts k e h f = absurd h
  virtual_step q u qs us Nothing vs c cs vals ts k e h f = absurd h
  virtual_step q u qs us (Truth z) vs c cs vals ts k e h f = absurd h
  virtual_step q u qs us (Number z) vs c cs vals ts k e h f = absurd h
  virtual_step q u qs us (Word z) vs c cs vals ts k e h f = absurd h

  pub arguments_fit : (qs bs us : List CoreParam) (vs : List Value) (ts : List (Option Path)) → AllFit g xs (types_of_params qs) vs → Like qs bs → Like us bs → Good (virtual_values qs vs) (cls us) ts → AllFit g xs (types_of_params us) (with_virtuals qs vs (shown (virtual_values qs vs) ts))
  arguments_fit [] [] [] vs ts f l m h = tt
  arguments_fit [] [] (u ∷ us) vs ts f l m h = absurd m
  arguments_fit [] (b ∷ bs) us vs ts f l m h = absurd l
  arguments_fit (q ∷ qs) [] us vs ts f l m h = absurd l
  arguments_fit (q ∷ qs) (b ∷ bs) [] vs ts f l m h = absurd m
  arguments_fit (q ∷ qs) (b ∷ bs) (u ∷ us) [] ts f l m h = absurd f
  arguments_fit (q ∷ qs) (b ∷ bs) (u ∷ us) (v ∷ vs) ts f l m h =
      let rest : (ts : List (Option Path)) → Good (virtual_values qs vs) (cls us) ts → AllFit g xs (types_of_params us) (with_virtuals qs vs (shown (virtual_values qs vs) ts)) = λ ts i. arguments_fit qs bs us vs ts f.1 l.1 m.1 i in
      elim l.0 [
        | inl a ↦ elim m.0 [
          | inl d ↦ (let w = pointer_of u.ty b.ty d.2 in
              let i : Good (v ∷ virtual_values qs vs) (w.0 ∷ cls us) ts = subst (λ z. Good (v ∷ virtual_values qs vs) z ts) (cls_true u us w.0 d.0 (class_is u.ty w.0 w.1)) (subst (λ z. Good z (cls (u ∷ us)) ts) (values_true q qs v vs a.0) h) in
              rw (values_true q qs v vs a.0) (virtual_step q u qs us v vs w.0 (cls us) (virtual_values qs vs) ts a.0 w.1 i rest))
          | inr d ↦ absurd (let z : true ≡ false = sym a.1 ∙ d.1 in let y : ⊥ = cc in y)
        ]
        | inr a ↦ elim m.0 [
          | inl d ↦ absurd (let z : true ≡ false = sym d.1 ∙ a.1 in let y : ⊥ = cc in y)
          | inr d ↦ (let i : Good (virtual_values qs vs) (cls us) ts = subst (λ z. Good (virtual_values qs vs) z ts) (cls_false u us d.0) (subst (λ z. Good z (cls (u ∷ us)) ts) (values_false q qs v vs a.0) h) in
              rw (values_false q qs v vs a.0, with_false q qs v vs (shown (virtual_values qs vs) ts) a.0) (subst (λ t. Fits g xs t v) (a.2 ∙ sym d.2) f.0, rest ts i))
        ]
      ]
