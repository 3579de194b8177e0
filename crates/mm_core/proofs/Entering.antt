-- What virtual calls of a merged program give fits, where what functions give does.
use Rattle.std.proofs.Common.{◌≡◌, ℕ, zero, suc, ◌<◌, List, [], ◌∷◌, ◌++◌, map, refl, sym, subst, ap, ◌∙◌, inl, inr, arith}
use Rattle.std.specs.Prelude.{◌⊎◌, Bool, true, false, not, ◌&&◌, ◌||◌, IsTrue, AllPairs, find, take, codes, Some, Result, Ok, Err, slice_get, slice_index_or, get_or}
use Rattle.std.specs.List.{list_any}
use Rattle.std.specs.Str.{bytes_eq}
use Rattle.std.proofs.lemmas.Slice.Eq.{bytes_eq-Decides}
use Rattle.mm_base.specs.declared.num.Trap.{Trap}
use Rattle.mm_meaning.specs.Run as runs
use Rattle.mm_meaning.specs.Run.{Run, Gives, Stops}
use Rattle.mm_classes.specs.declared.class.Base.{Base}
use Rattle.mm_classes.specs.declared.class.Ty.{Ty}
use Rattle.mm_classes.specs.declared.class.Ty.TheVariants as ty
use Rattle.mm_classes.specs.declared.class.Member.{Member}
use Rattle.mm_classes.specs.declared.class.MemberKind.{MemberKind}
use Rattle.mm_classes.specs.declared.class.MemberKind.TheVariants as kind
use Rattle.mm_classes.specs.Lists.{Has, first, later, has}
use Rattle.mm_classes.specs.Classes.{Class, IsClassList, class_at, bases_of, members_of, is_field, name_of, IsComplete, Derives, direct, through, AreOverloads, AreApart}
use Rattle.mm_classes.specs.Subobjects.{Path, IsSubobject, end_of, compose}
use Rattle.mm_classes.proofs.Answering.{complete_below, place_from_Has}
use Rattle.mm_classes.proofs.Compose.{compose-end}
use Rattle.mm_classes.proofs.Deriving.{sub_derives}
use Rattle.mm_core.specs.Tree.{Function, Program}
use Rattle.mm_core.specs.Heads.{type_code, same_types, params_in, result_in, same_function, types_of_params, function_of, owner_of, argument_types}
use Rattle.mm_core.specs.State.{Value, Truth, Number, Word, Null, At, Nothing, State, Stop, class_of, or_trap, settled, at_once}
use Rattle.mm_core.specs.Finals.{final_of}
use Rattle.mm_core.specs.Moves.{result_back}
use Rattle.mm_core.specs.Virtual.{Calls, Entry, result_of_entry, entered, declared_in, virtual_entry, call_virtual}
use Rattle.mm_core.specs.Valid.{IsVirtualIn, IsDestructor, IsVirtualMethod}
use Rattle.mm_core.specs.ValidProgram.{IsFunctionOf, IsValidClass, IsMerged}
use Rattle.mm_core.specs.Units.{is_name, AreNamed}
use Rattle.mm_core.specs.Dispatch.{is_covariant}
use Rattle.mm_core.specs.Fits.{Shows, Fits, AllFit, Grew, IsState}
use Rattle.mm_core.specs.Keeps.{On, Gave}
use Rattle.mm_core.proofs.Heap.{grew_on, either_way, Operates}
use Rattle.mm_core.proofs.Sets.{and_is, is_and, reads_sets}
use Rattle.mm_core.proofs.Returning.{code_same, back_fits}

-- ---- lists

module _ {X : Type 0} where
  pub slice-Has : (xs : List X) (i : ℕ) (x : X) → slice_get xs i ≡ Some x → Has xs x
  slice-Has [] i x e = cc
  slice-Has (y ∷ xs) zero x e = first (let k : y ≡ x = cc in k)
  slice-Has (y ∷ xs) (suc i) x e = later (slice-Has xs i x e)

  found_more : (p : X → Bool) (y : X) (ys : List X) (x : X) → p y ≡ false → find p ys ≡ Some x → find p (y ∷ ys) ≡ Some x
  found_more p y ys x k e = rw k e

  -- where one passes the test, the first that does is found
  pub find_has : (p : X → Bool) (xs : List X) → list_any p xs ≡ true → (x : X) × (find p xs ≡ Some x) × Has xs x × (p x ≡ true)
  find_has p [] e = cc
  find_has p (y ∷ ys) e = elim (either_way (p y)) [
    | inl k ↦ (y, rw k refl, first refl, k)
    | inr k ↦ (let r = find_has p ys (subst (λ b. (b || list_any p ys) ≡ true) k e) in (r.0, found_more p y ys r.0 k r.1, later r.2, r.3))
  ]

types_same : (ts us : List Ty) → map type_code ts ≡ map type_code us → ts ≡ us
types_same [] [] e = refl
types_same [] (u ∷ us) e = cc
types_same (t ∷ ts) [] e = cc
types_same (t ∷ ts) (u ∷ us) e = (let h : type_code t ≡ type_code u = cc in let k : map type_code ts ≡ map type_code us = cc in rw (code_same t u h, types_same ts us k) refl)

pub same_types_is : (ts us : List Ty) → same_types ts us ≡ true → ts ≡ us
same_types_is ts us e = types_same ts us ((bytes_eq-Decides (map type_code ts) (map type_code us)).0 e)

-- ---- members

-- what is the same function
same_parts : (m x : Member) → same_function m x ≡ true → (is_field m ≡ false) × (is_field x ≡ false) × (m.name ≡ x.name) × (params_in m.kind ≡ params_in x.kind)
same_parts m x e =
    let a = and_is (not (is_field m)) (not (is_field x) && (bytes_eq m.name x.name && same_types (params_in m.kind) (params_in x.kind))) e in
    let b = and_is (not (is_field x)) (bytes_eq m.name x.name && same_types (params_in m.kind) (params_in x.kind)) a.1 in
    let c = and_is (bytes_eq m.name x.name) (same_types (params_in m.kind) (params_in x.kind)) b.1 in
    (false_is (is_field m) a.0, false_is (is_field x) b.0, (bytes_eq-Decides m.name x.name).0 c.0, same_types_is (params_in m.kind) (params_in x.kind) c.1)
  where
    false_is : (b : Bool) → not b ≡ true → b ≡ false
    false_is true e = cc
    false_is false e = refl

-- the other way round, and on
same_back : (m x : Member) → is_field m ≡ false → is_field x ≡ false → m.name ≡ x.name → params_in m.kind ≡ params_in x.kind → same_function m x ≡ true
same_back m x f h n q = rw (f, h) (is_and (bytes_eq m.name x.name) (same_types (params_in m.kind) (params_in x.kind)) ((bytes_eq-Decides m.name x.name).1 n) ((bytes_eq-Decides (map type_code (params_in m.kind)) (map type_code (params_in x.kind))).1 (ap (map type_code) q)))

same_on : (m x y : Member) → same_function m x ≡ true → same_function x y ≡ true → same_function m y ≡ true
same_on m x y e f = (let a = same_parts m x e in let b = same_parts x y f in same_back m y a.0 b.1 (a.2 ∙ b.2) (a.3 ∙ b.3))

kinds_apart : (k l : MemberKind) → AreOverloads k l → params_in k ≡ params_in l → ⊥
kinds_apart (kind.Function ps r v) (kind.Function qs s w) n e = n e
kinds_apart (kind.Function ps r v) (kind.Field t) n e = n
kinds_apart (kind.Field t) (kind.Function qs s w) n e = n
kinds_apart (kind.Field t) (kind.Field u) n e = n

-- two members of one class that are the same function are one member
one_member : (ms : List Member) → AllPairs AreApart ms → (m x : Member) → Has ms m → Has ms x → same_function m x ≡ true → x ≡ m
one_member ms apart m x h k e =
    let i = place_from_Has ms m h in
    let j = place_from_Has ms m k in
    let s = same_parts m x e in
    elim (three i.0 j.0) [
      | inl l ↦ (let a : AreApart m x = at2 i.0 j.0 i.2 j.2 (apart i.0 j.0 m l j.1) in absurd (kinds_apart m.kind x.kind (a s.2) s.3))
      | inr r ↦ elim r [
        | inl l ↦ (let a : AreApart x m = at2 j.0 i.0 j.2 i.2 (apart j.0 i.0 m l i.1) in absurd (kinds_apart x.kind m.kind (a (sym s.2)) (sym s.3)))
        | inr q ↦ sym j.2 ∙ ap (λ n. get_or ms n m) (sym q) ∙ i.2
      ]
    ]
  where
    three : (a b : ℕ) → (a < b) ⊎ ((b < a) ⊎ (a ≡ b))
    three a b = grind arith

    at2 : (a b : ℕ) {y z : Member} → get_or ms a m ≡ y → get_or ms b m ≡ z → AreApart (slice_index_or ms a m) (slice_index_or ms b m) → AreApart y z
    at2 a b {y} {z} e f p = subst (λ u. AreApart u z) e (subst (λ u. AreApart (get_or ms a m) u) f p)

-- ---- classes

module _ (g : List Class) (ok : IsClassList g) where
  -- what has members, or bases, is complete
  pub members_complete : (c : ℕ) (m : Member) → Has (members_of g c) m → IsComplete g c
  members_complete c m h = elim (either_way (class_at g c).complete) [
    | inl e ↦ (complete_below g c e, e)
    | inr e ↦ absurd (none (members_of g c) (ok.bare c e).1 h)
  ]
    where
      none : (ms : List Member) → ms ≡ [] → Has ms m → ⊥
      none [] e k = elim k [ ]
      none (y ∷ ys) e k = cc

  bases_complete : (c : ℕ) (b : Base) → Has (bases_of g c) b → IsComplete g c
  bases_complete c b h = elim (either_way (class_at g c).complete) [
    | inl e ↦ (complete_below g c e, e)
    | inr e ↦ absurd (none (bases_of g c) (ok.bare c e).0 h)
  ]
    where
      none : (bs : List Base) → bs ≡ [] → Has bs b → ⊥
      none [] e k = elim k [ ]
      none (y ∷ ys) e k = cc

  pub derives_complete : (c b : ℕ) → Derives g c b → IsComplete g c
  derives_complete c b (direct x h e) = bases_complete c x h
  derives_complete c b (through x h d) = bases_complete c x h

  derives_on : (c b a : ℕ) → Derives g c b → Derives g b a → Derives g c a
  derives_on c b a (direct x h e) k = through x h (subst (λ z. Derives g z a) (sym e) k)
  derives_on c b a (through x h d) k = through x h (derives_on x.class b a d k)

  -- so an object with a subobject that has members is of a complete class
  whole_complete : (d : ℕ) (t : Path) (m : Member) → IsSubobject g d t → Has (members_of g (end_of t)) m → IsComplete g d
  whole_complete d t m s h = elim (sub_derives g d t s) [
    | inl e ↦ members_complete d m (subst (λ z. Has (members_of g z) m) e h)
    | inr k ↦ derives_complete d (end_of t) k
  ]

-- ---- the function that is entered

module _ (p : Program) (merged : IsMerged p) (named : AreNamed p) where
  abbrev g : List Class
  g = p.classes

  abbrev ok : IsClassList p.classes
  ok = merged.valid.listed

  -- what a virtual call on a subobject of class c of an object of class d enters: the function of the final overrider m
  record Found (d : ℕ) (t : Path) (c : ℕ) (x : Member) : Type 0 where
    part : Path
    member : Member
    number : ℕ
    function : Function
    final : final_of g d t x ≡ Some part
    is_part : IsSubobject g d part
    declared : declared_in p (end_of part) x ≡ Some number
    of_member : IsFunctionOf p (end_of part) member number function
    defined : IsTrue function.defined
    params : params_in member.kind ≡ params_in x.kind
    result : (result_in member.kind ≡ result_in x.kind) ⊎ (is_covariant g (result_in member.kind) (result_in x.kind) ≡ true)

  -- a method that is no destructor overrides none
  no_destructor : (c e : ℕ) (x m : Member) → Has (members_of g c) x → (IsDestructor g c x → ⊥) → m.name ≡ x.name → IsDestructor g e m → ⊥
  no_destructor c e x m h n same k =
      let a : is_name x.name ≡ true = named.members c x h n in
      let i : is_name (codes "~" ++ name_of g e) ≡ true = subst (λ z. is_name z ≡ true) (sym same ∙ k) a in
      tilde (name_of g e) i
    where
      tilde : (xs : List ℕ) → is_name (codes "~" ++ xs) ≡ true → ⊥
      tilde xs i = (let b = and_is (not (has (126 ∷ xs) 58)) (not (has (126 ∷ xs) 126) && not (bytes_eq (take 3 (126 ∷ xs)) (codes "mm_"))) i in let z : false ≡ true = (and_is (not (has (126 ∷ xs) 126)) (not (bytes_eq (take 3 (126 ∷ xs)) (codes "mm_"))) b.1).0 in cc)

  -- the final overrider's class is the one of the call, or derives from it
  module _ (d : ℕ) (t : Path) (c n : ℕ) (x : Member) (s : IsSubobject g d t) (ends : end_of t ≡ c) (method : IsVirtualMethod g c n x) where
    abbrev in_c : Has (members_of g c) x
    in_c = slice-Has (members_of g c) n x method.0

    complete : IsComplete g d
    complete = whole_complete g ok d t x s (subst (λ z. Has (members_of g z) x) (sym ends) in_c)

    over_part : (u : Path) → IsSubobject g d u → (q : Path) → IsSubobject g (end_of u) q → compose u q ≡ t → (end_of u ≡ c) ⊎ Derives g (end_of u) c
    over_part u su q sq e =
        let k : c ≡ end_of q = sym ends ∙ ap end_of (sym e) ∙ compose-end g d u q su sq in
        elim (sub_derives g (end_of u) q sq) [ inl i ↦ inl (sym i ∙ sym k) | inr i ↦ inr (subst (Derives g (end_of u)) (sym k) i) ]

    found_at : (u : Path) (m : Member) → final_of g d t x ≡ Some u → IsSubobject g d u → (end_of u ≡ c) ⊎ Derives g (end_of u) c → find (same_function x) (members_of g (end_of u)) ≡ Some m → Has (members_of g (end_of u)) m → same_function x m ≡ true → Found d t c x
    found_at u m fin su side fm hm same =
        let parts = same_parts x m same in
        let cu = members_complete g ok (end_of u) m hm in
        let vc : IsValidClass p (end_of u) = merged.valid.classes (end_of u) cu in
        let virt : IsVirtualIn g (end_of u) m = over_virtual side in
        let fn = vc.methods m hm parts.1 (no_destructor c (end_of u) x m in_c method.2 (sym parts.2)) in
        record {
          part = u;
          member = m;
          number = fn.0;
          function = fn.1;
          final = fin;
          is_part = su;
          declared = declared_is fn.0 fm fn.2.number;
          of_member = fn.2;
          defined = merged.virtuals (end_of u) fn.0 m fn.1 cu hm virt fn.2.number fn.2.there;
          params = sym parts.3;
          result = result_is side vc;
        }
      where
        reversed : same_function m x ≡ true
        reversed = (let q = same_parts x m same in same_back m x q.1 q.0 (sym q.2) (sym q.3))

        over_virtual : (end_of u ≡ c) ⊎ Derives g (end_of u) c → IsVirtualIn g (end_of u) m
        over_virtual (inl e) = (let i : m ≡ x = one_member (members_of g c) (ok.members c).apart x m in_c (subst (λ z. Has (members_of g z) m) e hm) same in subst (λ z. IsVirtualIn g z m) (sym e) (subst (IsVirtualIn g c) (sym i) method.3))
        over_virtual (inr k) = derived method.3
          where
            derived : IsVirtualIn g c x → IsVirtualIn g (end_of u) m
            derived (inl v) = inr (c, x, k, in_c, reversed, v)
            derived (inr w) = inr (w.0, w.1, derives_on g ok (end_of u) c w.0 k w.2, w.3, same_on m x w.1 reversed w.4, w.5)

        result_is : (end_of u ≡ c) ⊎ Derives g (end_of u) c → IsValidClass p (end_of u) → (result_in m.kind ≡ result_in x.kind) ⊎ (is_covariant g (result_in m.kind) (result_in x.kind) ≡ true)
        result_is (inl e) vc = inl (ap (λ (z : Member). result_in z.kind) (one_member (members_of g c) (ok.members c).apart x m in_c (subst (λ z. Has (members_of g z) m) e hm) same))
        result_is (inr k) vc = inr (vc.covariant m c x hm k in_c reversed method.3)

        declared_is : (k : ℕ) → find (same_function x) (members_of g (end_of u)) ≡ Some m → function_of p (class_at g (end_of u)) m ≡ Some k → declared_in p (end_of u) x ≡ Some k
        declared_is k e f = rw e f

    found : Found d t c x
    found =
        let vd : IsValidClass p d = merged.valid.classes d complete in
        let u = vd.finals t x s (subst (λ z. Has (members_of g z) x) (sym ends) in_c) method.1 (subst (λ z. IsVirtualIn g z x) (sym ends) method.3) in
        let top = (((reads_sets g ok).final d t x u.0).0 u.1).has in
        let over = top.0 in
        let m = find_has (same_function x) (members_of g (end_of u.0)) over.2 in
        found_at u.0 m.0 u.1 over.0 (over_part u.0 over.0 over.1.0 over.1.1 over.1.2) m.1 m.2 m.3

  -- ---- calls

  -- calls of what is defined, by number, give what fits
  abbrev pub CallsFit : Calls → Type 0
  CallsFit calls = (n : ℕ) (f : Function) (vs : List Value) (s : State) (k : ℕ) → slice_get p.functions n ≡ Some f → IsTrue f.defined → IsState g s → AllFit g s.objects (argument_types g f) vs → On (Gave g f.result s) (calls n vs s k)

  settles_as : (t : Ty) (s m : State) (r : Result (Value × State) Trap) (k : ℕ) → Grew s.objects m.objects → Operates g t m r → On (Gave g t s) (settled r m k)
  settles_as t s m (Ok r) k gr h = record { fits = h.fits; grew = grew_on s.objects m.objects r.1.objects gr h.grew; state = h.state }
  settles_as t s m (Err x) k gr h = tt

  module _ (calls : Calls) (fit : CallsFit calls) where
    moved_back : (r o : Ty) (s : State) (x : Run Stop State Value) → (r ≡ o) ⊎ (is_covariant g r o ≡ true) → On (Gave g r s) x → On (Gave g o s) (runs.then x (λ v. at_once (result_back g r o v)))
    moved_back r o s (Gives v m k) c h = settles_as o s m (result_back g r o v m) k h.grew (back_fits g ok r o v m c h.fits h.state)
    moved_back r o s (Stops x m) c h = tt

    -- what is entered on arguments of its types gives what fits, moved back
    pub entered_fits : (e : Entry) (f : Function) (s : State) (k : ℕ) → slice_get p.functions e.function ≡ Some f → IsTrue f.defined → IsState g s → AllFit g s.objects (argument_types g f) e.arguments → (f.result ≡ e.declared) ⊎ (is_covariant g f.result e.declared ≡ true) → On (Gave g e.declared s) (entered p calls e s k)
    entered_fits e f s k at d h args c =
        subst (λ o. On (Gave g e.declared s) (runs.then (calls e.function e.arguments s k) (λ v. at_once (result_back g (result_of_entry o) e.declared v)))) (sym at)
        (moved_back f.result e.declared s (calls e.function e.arguments s k) c (fit e.function f e.arguments s k at d h args))

    member_arguments : (f : Function) (e : ℕ) (ts : List Ty) → IsTrue f.member → owner_of g f ≡ Some e → types_of_params f.params ≡ ts → argument_types g f ≡ ty.Ref e ∷ ts
    member_arguments f e ts m o q = rw (m, o, q) refl

    virtual_at : (c n : ℕ) (x : Member) (o : ℕ) (t : Path) (vs : List Value) (s : State) (k : ℕ) → IsVirtualMethod g c n x → IsState g s → Shows g s.objects c o t → AllFit g s.objects (params_in x.kind) vs → On (Gave g (result_in x.kind) s) (call_virtual p calls n (At o t) vs s k)
    virtual_at c n x o t vs s k method h f args =
        let d = class_of s.objects o in
        let w : Found d t c x = found d t c n x f.part f.ends method in
        let e : Entry = record { function = w.number; arguments = At o w.part ∷ vs; declared = result_in x.kind } in
        let shows : Shows g s.objects (end_of w.part) o w.part = record { there = f.there; part = w.is_part; ends = refl } in
        let types = member_arguments w.function (end_of w.part) (params_in x.kind) w.of_member.member w.of_member.owner (w.of_member.params ∙ w.params) in
        subst (λ r. On (Gave g (result_in x.kind) s) (runs.then (or_trap r s k) (entered p calls))) (sym (entry_is w (subst (λ z. slice_get (members_of g z) n ≡ Some x) (sym f.ends) method.0)))
        (entered_fits e w.function s k w.of_member.there w.defined h (subst (λ ts. AllFit g s.objects ts (At o w.part ∷ vs)) (sym types) (shows, args)) (subst (λ r. (r ≡ result_in x.kind) ⊎ (is_covariant g r (result_in x.kind) ≡ true)) (sym w.of_member.result) w.result))
      where
        entry_is : (w : Found (class_of s.objects o) t c x) → slice_get (members_of g (end_of t)) n ≡ Some x → virtual_entry p n (At o t) vs s ≡ Ok (record { function = w.number; arguments = At o w.part ∷ vs; declared = result_in x.kind })
        entry_is w e = rw e (rw w.final (rw w.declared refl))

    pub virtual_fits : (c n : ℕ) (x : Member) (v : Value) (vs : List Value) (s : State) (k : ℕ) → IsVirtualMethod g c n x → IsState g s → Fits g s.objects (ty.Ref c) v → AllFit g s.objects (params_in x.kind) vs → On (Gave g (result_in x.kind) s) (call_virtual p calls n v vs s k)
    virtual_fits c n x (At o t) vs s k method h f args = virtual_at c n x o t vs s k method h f args
    virtual_fits c n x Null vs s k method h f args = absurd f
    virtual_fits c n x Nothing vs s k method h f args = absurd f
    virtual_fits c n x (Truth b) vs s k method h f args = absurd f
    virtual_fits c n x (Number z) vs s k method h f args = absurd f
    virtual_fits c n x (Word z) vs s k method h f args = absurd f
