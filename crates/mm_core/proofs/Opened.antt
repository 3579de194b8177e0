-- What calls of open-methods give fits, where what functions give does and no open-method has a fault.
use Rattle.std.proofs.Common.{◌≡◌, ℕ, zero, suc, ◌+◌, List, [], ◌∷◌, refl, sym, subst, ap, ◌∙◌, inl, inr, arith}
use Rattle.std.specs.Prelude.{◌⊎◌, Bool, true, false, not, ◌&&◌, IsTrue, filter, if◌then◌else◌, Option, Some, None, Result, Ok, Err, slice_get, nat_eq}
use Rattle.std.specs.List.{list_any}
use Rattle.std.specs.Str.{bytes_eq}
use Rattle.std.proofs.lemmas.Bool.{eq-eqb, eqb-true}
use Rattle.mm_base.specs.declared.num.Trap.{Trap}
use Rattle.mm_meaning.specs.Run as runs
use Rattle.mm_classes.specs.declared.class.Ty.{Ty}
use Rattle.mm_classes.specs.declared.class.Ty.TheVariants as ty
use Rattle.mm_classes.specs.Lists.{Has, first, later}
use Rattle.mm_classes.specs.Classes.{Class}
use Rattle.mm_core.specs.declared.part.CoreParam.{CoreParam}
use Rattle.mm_core.specs.Tree.{Function, Program}
use Rattle.mm_core.specs.Heads.{same_types, types_of_params, is_open, argument_types}
use Rattle.mm_core.specs.State.{Value, State, on_some, or_trap}
use Rattle.mm_core.specs.Families.{overrides, params_override, Declared, opens_from, opens_of, over, base_methods, family_of, classes_of}
use Rattle.mm_core.specs.Ordering.{declared_before}
use Rattle.mm_core.specs.Dispatch.{Row, Reason, is_viable, is_covariant, winner_of}
use Rattle.mm_core.specs.Virtual.{Calls, Entry, entered}
use Rattle.mm_core.specs.Open.{first_of, first_base, first_ways, virtual_values, rows_of, raised, won, if_rows, open_entry, call_open}
use Rattle.mm_core.specs.Valid.{is_pointer}
use Rattle.mm_core.specs.ValidProgram.{IsMerged, IsResolved}
use Rattle.mm_core.specs.Units.{AreNamed}
use Rattle.mm_core.specs.Fits.{AllFit, IsState}
use Rattle.mm_core.specs.Keeps.{On, Gave}
use Rattle.mm_core.proofs.Heap.{either_way}
use Rattle.mm_core.proofs.Sets.{and_is, filter-from, filter-has}
use Rattle.mm_core.proofs.Entering.{slice-Has, CallsFit, entered_fits}
use Rattle.mm_core.proofs.Opening.{first_by_has, ResultOver, winner_over}
use Rattle.mm_core.proofs.Aligned.{LikeType, LikeParam, Like, overrides_like, align, AreWhole, good, arguments_fit}

-- ---- open-methods by number

-- where a declaration stands
record Stands (fs : List Function) (m : ℕ) (d : Declared) : Type 0 where
  place : ℕ
  number : d.number ≡ m + place
  there : slice_get fs place ≡ Some d.function
  opened : is_open d.function ≡ true

stands_later : (f : Function) (fs : List Function) (m : ℕ) (d : Declared) → Stands fs (suc m) d → Stands (f ∷ fs) m d
stands_later f fs m d h = record { place = suc h.place; number = (let e = h.number in omega arith); there = h.there; opened = h.opened }

stands_at : (m : ℕ) (f : Function) (fs : List Function) (d : Declared) → (Has (opens_from (suc m) fs) d → Stands fs (suc m) d) → (b : Bool) → is_open f ≡ b → Has (if b then record { number = m; function = f } ∷ opens_from (suc m) fs else opens_from (suc m) fs) d → Stands (f ∷ fs) m d
stands_at m f fs d rest true e (first k) = record { place = 0; number = (let i : m ≡ d.number = ap (λ (z : Declared). z.number) k in omega arith); there = ap (λ (z : Declared). Some z.function) k; opened = subst (λ (z : Declared). is_open z.function ≡ true) k e }
stands_at m f fs d rest true e (later k) = stands_later f fs m d (rest k)
stands_at m f fs d rest false e k = stands_later f fs m d (rest k)

opens_stand : (m : ℕ) (fs : List Function) (d : Declared) → Has (opens_from m fs) d → Stands fs m d
opens_stand m [] d h = elim h [ ]
opens_stand m (f ∷ fs) d h = stands_at m f fs d (λ k. opens_stand (suc m) fs d k) (is_open f) refl h

abbrev decl : ℕ → Function → Declared
decl n f = record { number = n; function = f }

same_declared : (m n : ℕ) (h f : Function) → m ≡ n → h ≡ f → decl m h ≡ decl n f
same_declared m n h f i j = rw (i, j) refl

first_open : (m n : ℕ) (h f : Function) (rest : List Declared) (b : Bool) → b ≡ true → m ≡ n → h ≡ f → Has (if b then record { number = m; function = h } ∷ rest else rest) (record { number = n; function = f })
first_open m n h f rest true e i j = first (same_declared m n h f i j)
first_open m n h f rest false e i j = cc

has_open : (m : ℕ) (fs : List Function) (i : ℕ) (f : Function) → slice_get fs i ≡ Some f → is_open f ≡ true → (n : ℕ) → n ≡ m + i → Has (opens_from m fs) (record { number = n; function = f })
has_open m [] i f e k n q = cc
has_open m (h ∷ fs) zero f e k n q = (let i : h ≡ f = cc in let j : m ≡ n = omega arith in first_open m n h f (opens_from (suc m) fs) (is_open h) (subst (λ z. is_open z ≡ true) (sym i) k) j i)
has_open m (h ∷ fs) (suc i) f e k n q = either_open (is_open h) (has_open (suc m) fs i f e k n (omega arith))
  where
    either_open : (b : Bool) → Has (opens_from (suc m) fs) (record { number = n; function = f }) → Has (if b then record { number = m; function = h } ∷ opens_from (suc m) fs else opens_from (suc m) fs) (record { number = n; function = f })
    either_open true h = later h
    either_open false h = h

-- ---- one family

pointer_like : (t : Ty) → is_pointer t ≡ true → LikeType t t
pointer_like (ty.Ptr c) e = tt
pointer_like (ty.Ref c) e = tt
pointer_like t e = cc

like_self : (qs : List CoreParam) → ((q : CoreParam) → Has qs q → q.is_virtual ≡ true → is_pointer q.ty ≡ true) → Like qs qs
like_self [] h = tt
like_self (q ∷ qs) h = (at q.is_virtual refl, like_self qs (λ x i. h x (later i)))
  where
    at : (b : Bool) → q.is_virtual ≡ b → LikeParam q.is_virtual q.is_virtual q.ty q.ty
    at true e = inl (e, e, pointer_like q.ty (h q (first refl) e))
    at false e = inr (e, e, refl)

over_like : (g : List Class) (r o : Function) → overrides g r o ≡ true → Like r.params o.params
over_like g r o e =
    let a = and_is (bytes_eq r.name o.name) (params_override g r.params o.params && not (same_types (types_of_params r.params) (types_of_params o.params))) e in
    overrides_like g r.params o.params (and_is (params_override g r.params o.params) (not (same_types (types_of_params r.params) (types_of_params o.params))) a.1).0

module _ (p : Program) (merged : IsMerged p) (named : AreNamed p) (resolved : IsResolved p) where
  abbrev g : List Class
  g = p.classes

  abbrev os : List Declared
  os = opens_of p

  -- the same declaration, or one that overrides it
  data Side (r b : Declared) : Type 0 where
    same : r.function ≡ b.function → r.number ≡ b.number → Side r b
    above : over g r b ≡ true → Side r b

  one_function : (r b : Declared) → Has os r → Has os b → r.number ≡ b.number → r.function ≡ b.function
  one_function r b h k e =
      let x = opens_stand 0 p.functions r h in
      let y = opens_stand 0 p.functions b k in
      let i : x.place ≡ y.place = (let u = x.number in let v = y.number in omega arith) in
      let j : Some r.function ≡ Some b.function = sym x.there ∙ ap (slice_get p.functions) i ∙ y.there in cc

  side_of : (r b : Declared) (n m : ℕ) → n ≡ r.number → m ≡ b.number → Has os r → Has os b → (c : Bool) → nat_eq n m ≡ c → (if c then true else over g r b) ≡ true → Side r b
  side_of r b n m en em h k true e t = (let i = eqb-true n m e in let j : r.number ≡ b.number = omega arith in same (one_function r b h k j) j)
  side_of r b n m en em h k false e t = above t

  open_pointers : (d : Declared) → Has os d → (q : CoreParam) → Has d.function.params q → q.is_virtual ≡ true → is_pointer q.ty ≡ true
  open_pointers d h q i e = (let x = opens_stand 0 p.functions d h in (((merged.valid.functions d.function (slice-Has p.functions x.place d.function x.there)).params q i).1 e).0)

  side_like : (r b : Declared) → Has os r → Side r b → Like r.function.params b.function.params
  side_like r b h (same e n) = subst (λ (z : Function). Like r.function.params z.params) e (like_self r.function.params (open_pointers r h))
  side_like r b h (above e) = over_like g r.function b.function e

  -- an open-method is no member
  outside_class : (d : Declared) → Has os d → d.function.member ≡ false
  outside_class d h = elim (either_way d.function.member) [
    | inl e ↦ (let x = opens_stand 0 p.functions d h in let o = (merged.valid.functions d.function (slice-Has p.functions x.place d.function x.there)).owner e in let z : true ≡ false = sym x.opened ∙ o.7 in absurd (let y : ⊥ = cc in y))
    | inr e ↦ e
  ]

  arguments_are : (d : Declared) → Has os d → argument_types g d.function ≡ types_of_params d.function.params
  arguments_are d h = rw (outside_class d h) refl

  -- ---- the entry

  abbrev EntryFits : Function → State → Result Entry Trap → Type 0
  EntryFits f s (Ok e) = (w : Function) × (slice_get p.functions e.function ≡ Some w) × IsTrue w.defined × AllFit g s.objects (argument_types g w) e.arguments × ((w.result ≡ e.declared) ⊎ (is_covariant g w.result e.declared ≡ true)) × (e.declared ≡ f.result)
  EntryFits f s (Err x) = Unit {0}

  some_fits : {A : Type 0} (f : Function) (s : State) (o : Option A) (h : A → Result Entry Trap) → ((a : A) → o ≡ Some a → EntryFits f s (h a)) → EntryFits f s (on_some o h)
  some_fits f s None h k = tt
  some_fits f s (Some a) h k = k a refl

  first_has : (bs : List Declared) (b : Declared) → first_of g bs ≡ Some b → Has bs b
  first_has [] b e = cc
  first_has (x ∷ bs) b e = (let k = first_by_has (declared_before g) x bs in subst (Has (x ∷ bs)) (some_same e) k)
    where
      some_same : {X : Type 0} {x y : X} → Some x ≡ Some y → x ≡ y
      some_same e = cc

  module _ (n : ℕ) (f : Function) (vs : List Value) (s : State) (at : slice_get p.functions n ≡ Some f) (is : is_open f ≡ true) (args : AllFit g s.objects (argument_types g f) vs) where
    abbrev o : Declared
    o = record { number = n; function = f }

    o_open : Has os o
    o_open = has_open 0 p.functions n f at is n (omega arith)

    won_fits : (rows : List Row) (b : Declared) (up : List Row) (w : Declared × Reason) → rows_of s.objects (virtual_values f.params vs) ≡ Ok rows → first_base g os o ≡ Some b → raised rows (first_ways g (classes_of f) (classes_of b.function)) ≡ Some up → winner_of g os b up ≡ Some w → EntryFits f s (Ok (won g o vs up w.0))
    won_fits rows b up w er eb eu ew =
        let bf = filter-from (λ (z : Declared). if nat_eq z.number n then true else over g o z) (base_methods g os) b (first_has (filter (λ (z : Declared). if nat_eq z.number n then true else over g o z) (base_methods g os)) b eb) in
        let b_open = (filter-from (λ (z : Declared). not (list_any (over g z) os)) os b bf.0).0 in
        let o_side : Side o b = reversed b b_open (nat_eq b.number n) refl bf.1 in
        let win = winner_over g merged.valid.listed (filter (is_viable g up) (family_of g os b)) w ew in
        let wf = filter-from (is_viable g up) (family_of g os b) w.0 win.0 in
        let ww = filter-from (λ (r : Declared). if nat_eq r.number b.number then true else over g r b) os w.0 wf.0 in
        let w_side : Side w.0 b = side_of w.0 b w.0.number b.number refl refl ww.0 b_open (nat_eq w.0.number b.number) refl ww.1 in
        let fits : AllFit g s.objects (types_of_params f.params) vs = subst (λ ts. AllFit g s.objects ts vs) (arguments_are o o_open) args in
        let lo = side_like o b o_open o_side in
        let lw = side_like w.0 b ww.0 w_side in
        let along = align g merged.valid.listed s.objects f.params b.function.params w.0.function.params vs fits lo lw whole_classes rows up er eu in
        let single = resolved.single b w.0 up bf.0 wf.0 along.rows wf.1 in
        let gd = good g merged.valid.listed s.objects (virtual_values f.params vs) up (classes_of w.0.function) along.aligned wf.1 single in
        let af = arguments_fit g merged.valid.listed s.objects f.params b.function.params w.0.function.params vs _ fits lo lw gd in
        let x = opens_stand 0 p.functions w.0 ww.0 in
        let here : slice_get p.functions w.0.number ≡ Some w.0.function = ap (slice_get p.functions) (let e = x.number in omega arith) ∙ x.there in
        let o_viable : Has (filter (is_viable g up) (family_of g os b)) o = filter-has (is_viable g up) (family_of g os b) o (filter-has (λ (r : Declared). if nat_eq r.number b.number then true else over g r b) os o o_open (in_family o_side)) along.viable in
        (w.0.function, here, merged.opens w.0.function (slice-Has p.functions x.place w.0.function x.there) x.opened, subst (λ ts. AllFit g s.objects ts (won g o vs up w.0).arguments) (sym (arguments_are w.0 ww.0)) af, result_of (win.1 o o_viable) ww.0, refl)
      where
        reversed : (b : Declared) → Has os b → (c : Bool) → nat_eq b.number n ≡ c → (if c then true else over g o b) ≡ true → Side o b
        reversed b k true e t = (let j : n ≡ b.number = sym (eqb-true b.number n e) in same (one_function o b o_open k j) j)
        reversed b k false e t = above t

        in_family : Side o b → (if nat_eq n b.number then true else over g o b) ≡ true
        in_family (same e j) = rw (eq-eqb n b.number j) refl
        in_family (above e) = or_over (nat_eq n b.number) e
          where
            or_over : (c : Bool) → over g o b ≡ true → (if c then true else over g o b) ≡ true
            or_over true e = refl
            or_over false e = e

        whole_classes : AreWhole g merged.valid.listed s.objects f.params
        whole_classes q i e = ((((merged.valid.functions f (slice-Has p.functions n f at)).params q i).1 e).1)

        result_of : ResultOver g merged.valid.listed w.0 o → Has os w.0 → (w.0.function.result ≡ f.result) ⊎ (is_covariant g w.0.function.result f.result ≡ true)
        result_of (inl e) h = inl (ap (λ (z : Declared). z.function.result) e)
        result_of (inr (inl e)) h = inr (resolved.covariant w.0 o h o_open e)
        result_of (inr (inr e)) h = inr e

    entry_fits : EntryFits f s (open_entry p n vs s)
    entry_fits = some_fits f s (slice_get p.functions n) (λ f. if_rows p (record { number = n; function = f }) vs (rows_of s.objects (virtual_values f.params vs))) (λ h e. let i : f ≡ h = (let j : Some f ≡ Some h = sym at ∙ e in cc) in subst (λ z. EntryFits f s (if_rows p (record { number = n; function = z }) vs (rows_of s.objects (virtual_values z.params vs)))) i (rows_fit (rows_of s.objects (virtual_values f.params vs)) refl))
      where
        rows_fit : (r : Result (List Row) Trap) → rows_of s.objects (virtual_values f.params vs) ≡ r → EntryFits f s (if_rows p o vs r)
        rows_fit (Err x) e = tt
        rows_fit (Ok rows) e = some_fits f s (first_base g os o) _ (λ b eb. some_fits f s (raised rows (first_ways g (classes_of f) (classes_of b.function))) _ (λ up eu. some_fits f s (winner_of g os b up) _ (λ w ew. won_fits rows b up w e eb eu ew)))

  module _ (calls : Calls) (fit : CallsFit p merged named calls) where
    run_fits : (f : Function) (s : State) (k : ℕ) (r : Result Entry Trap) → IsState g s → EntryFits f s r → On (Gave g f.result s) (runs.then (or_trap r s k) (entered p calls))
    run_fits f s k (Err x) i h = tt
    run_fits f s k (Ok e) i h = subst (λ t. On (Gave g t s) (entered p calls e s k)) h.5 (entered_fits p merged named calls fit e h.0 s k h.1 h.2 i h.3 h.4)

    pub opens_fit : (n : ℕ) (f : Function) (vs : List Value) (s : State) (k : ℕ) → slice_get p.functions n ≡ Some f → is_open f ≡ true → IsTrue f.defined → IsState g s → AllFit g s.objects (argument_types g f) vs → On (Gave g f.result s) (call_open p calls n vs s k)
    opens_fit n f vs s k at is d i args = run_fits f s k (open_entry p n vs s) i (entry_fits n f vs s at is args)
