-- The value of a valid expression fits its type, and what it leaves is a state in which all fits.
use Rattle.mm_classes.proofs.Lists.{Has-right}
use Rattle.mm_base.specs.World.{got}
use Rattle.mm_base.specs.Num.{is_int}
use Rattle.std.proofs.Common.{◌≡◌, ℕ, zero, suc, ◌<◌, List, [], ◌∷◌, ◌++◌, length, refl, sym, subst, ap, ◌∙◌, inl, inr, arith}
use Rattle.std.specs.Prelude.{◌⊎◌, pos, Bool, true, false, not, IsTrue, nat_eq, if◌then◌else◌, Option, Some, None, Result, Ok, Err, slice_get, ℤ, nat_lt, ◌+◌, ◌*◌}
use Rattle.std.proofs.lemmas.Bool.{eq-eqb, eqb-true}
use Rattle.std.proofs.lemmas.Option.{slice_get-get_or}
use Rattle.mm_base.specs.declared.num.Trap.{Trap}
use Rattle.mm_base.specs.declared.world.Builtin.{Builtin}
use Rattle.mm_base.specs.declared.world.Builtin.TheVariants.{Put, Get, More}
use Rattle.mm_meaning.specs.Run as runs
use Rattle.mm_meaning.specs.Run.{Run, Gives, Stops, within}
use Rattle.mm_classes.specs.declared.class.Ty.{Ty}
use Rattle.mm_classes.specs.declared.class.Ty.TheVariants as ty
use Rattle.mm_classes.specs.Lists.{Has, first, later}
use Rattle.mm_classes.specs.Classes.{Class, members_of}
use Rattle.mm_classes.specs.Subobjects.{Path, IsSubobject, end_of, compose, subobjects_of}
use Rattle.mm_classes.specs.Questions.{node, IsNode}
use Rattle.mm_classes.proofs.Subs.{subobjects_are}
use Rattle.mm_classes.proofs.Answering.{Has-get_or}
use Rattle.mm_classes.proofs.Compose.{compose-sub, compose-end}
use Rattle.mm_core.specs.Tree.{Expr, int, unsigned, bool, null, local, set_local, field, set_field, not_null, move, convert, binary, negation, both, either, choose, call, virtual_call, open_call, builtin, new, step_local, step_field, compound, Exprs, no_exprs, expr_and, Program, Stmt, block, run, if_else, while_do, do_while, for_do, break, continue, return_nothing, return, make, Stmts, no_stmts, stmt_and}
use Rattle.mm_core.specs.Heads.{class_in, class_shown, is_reference, field_type, params_in, result_in, argument_types, type_at, same_type, type_code}
use Rattle.mm_core.specs.State.{Value, Truth, Number, Word, Null, At, Nothing, Object, State, Store, Locals, with_local, class_of, Stop, From, Operation, settled, or_trap, on_some}
use Rattle.mm_core.specs.Scalar.{is_true, operate, changed, compounded, converted}
use Rattle.mm_core.specs.Objects.{make_object, make_variable, get_field, put_field}
use Rattle.mm_core.specs.Moves.{move_along, move_to, tested_pointer}
use Rattle.mm_core.specs.Virtual.{Calls}
use Rattle.mm_core.specs.Meaning.{ask, Setting, put_local, does, value_of, values_of, setting_of, answered, Flow, Next, Broke, Continued, Returned, unless_left, next_turn, begun, turns_from, loop, tested, then_flow, flow_of, flows_of}
use Rattle.mm_core.specs.Valid.{Around, type_of, types_of, shows, AllSuit, IsValid, AreValid, is_number, type_answered, AreBranches, as_pointer, result_of_function, result_of_method, IsTest, IsValidStmt, AreValidStmts, sets, set_in}
use Rattle.mm_core.specs.Fits.{Shows, Fits, AllFit, Grew, IsState}
use Rattle.mm_core.specs.Keeps.{On, Gave, Frame, Known}
use Rattle.mm_core.proofs.Scalars.{ResultFits, operate_fits, converted_fits, changed_fits, compounded_fits}
use Rattle.mm_core.proofs.Heap.{grew_self, grew_on, fits_grew, suits_fits, Operates, make_operates, get_operates, put_operates, as_fits, either_way}

module _ {S A B : Type 0} where
  on_then : (P : A → S → Type 0) (Q : B → S → Type 0) (x : Run Stop S A) (f : A → From S B) → On P x → ((v : A) (s : S) (k : ℕ) → P v s → On Q (f v s k)) → On Q (runs.then x f)
  on_then P Q (Gives v s k) f h g = g v s k h
  on_then P Q (Stops x s) f h g = tt

module _ {S A : Type 0} where
  on_if : (P : A → S → Type 0) (b : Bool) (m n : From S A) (s : S) (k : ℕ) → On P (m s k) → On P (n s k) → On P ((if b then m else n) s k)
  on_if P true m n s k h j = h
  on_if P false m n s k h j = j

  pub on_weaker : (P Q : A → S → Type 0) (x : Run Stop S A) → ((v : A) (s : S) → P v s → Q v s) → On P x → On Q x
  on_weaker P Q (Gives v s k) f h = f v s h
  on_weaker P Q (Stops x s) f h = tt

module _ (frame : Frame) where
  abbrev p : Program
  p = frame.program

  abbrev types : List Ty
  types = frame.types

  abbrev calls : Calls
  calls = frame.calls

  abbrev pub g : List Class
  g = frame.program.classes

  abbrev pub a : Around
  a = record { classes = frame.program.classes; functions = frame.program.functions; callable = frame.callable; locals = frame.types; arguments = frame.arguments }

  abbrev pub w : Setting
  w = setting_of frame.program frame.calls

  module _ (known : List ℕ) where
    abbrev pub LocalsFit : List Object → Locals → Type 0
    LocalsFit objects locals = (x : ℕ) → x < length types → (IsTrue (is_reference (type_at types x)) → Has known x) → Fits g objects (type_at types x) (locals x)

    pub record Fine (s : Store) : Type 0 where
      pub state : IsState g s.state
      pub locals : LocalsFit s.state.objects s.locals

    pub record Did (t : Ty) (before : Store) (v : Value) (after : Store) : Type 0 where
      pub fits : Fits g after.state.objects t v
      pub grew : Grew before.state.objects after.state.objects
      pub fine : Fine after

    pub record DidAll (ts : List Ty) (before : Store) (vs : List Value) (after : Store) : Type 0 where
      pub fits : AllFit g after.state.objects ts vs
      pub grew : Grew before.state.objects after.state.objects
      pub fine : Fine after

    abbrev pub Claim : Expr → Type 0
    Claim e = (s : Store) (k : ℕ) → IsValid a known e → Fine s → On (Did (type_of a e) s) (value_of w e s k)

    -- ---- pieces

    did_at : (t : Ty) (v : Value) (s : Store) → Fine s → Fits g s.state.objects t v → Did t s v s
    did_at t v s h f = record { fits = f; grew = grew_self s.state.objects; fine = h }

    did_on : (t u : Ty) (v w : Value) (s m z : Store) → Did t s v m → Did u m w z → Did u s w z
    did_on t u v w s m z d e = record { fits = e.fits; grew = grew_on s.state.objects m.state.objects z.state.objects d.grew e.grew; fine = e.fine }

    after : (t u : Ty) (v : Value) (s m : Store) (x : Run Stop Store Value) → Did t s v m → On (Did u m) x → On (Did u s) x
    after t u v s m x d h = on_weaker (Did u m) (Did u s) x (λ y z e. did_on t u v y s m z d e) h

    as_type : (t u : Ty) (s : Store) (x : Run Stop Store Value) → t ≡ u → On (Did t s) x → On (Did u s) x
    as_type t u s x e h = subst (λ z. On (Did z s) x) e h

    all_after : (ts : List Ty) (u : Ty) (vs : List Value) (s m : Store) (x : Run Stop Store Value) → DidAll ts s vs m → On (Did u m) x → On (Did u s) x
    all_after ts u vs s m x d h = on_weaker (Did u m) (Did u s) x (λ y z e. record { fits = e.fits; grew = grew_on s.state.objects m.state.objects z.state.objects d.grew e.grew; fine = e.fine }) h

    -- a local of a number type is no reference, so it need not be known
    number_known : (t : Ty) → IsTrue (is_number t) → IsTrue (is_reference t) → ⊥
    number_known ty.Int n r = cc
    number_known ty.Unsigned n r = cc
    number_known t n r = cc

    number_local : (x : ℕ) (s : Store) → x < length types → IsTrue (is_number (type_at types x)) → Fine s → Fits g s.state.objects (type_at types x) (s.locals x)
    number_local x s l n h = h.locals x l (λ r. absurd (number_known (type_at types x) n r))

    -- the locals still fit in a state that goes on
    pub fine_on : (s : Store) (t : State) → Fine s → Grew s.state.objects t.objects → IsState g t → Fine (record { locals = s.locals; state = t })
    fine_on s t h e i = record { state = i; locals = λ x l n. fits_grew g s.state.objects t.objects e (type_at types x) (s.locals x) (h.locals x l n) }

    pub gave_did : (t : Ty) (s : Store) (x : Run Stop State Value) → Fine s → On (Gave g t s.state) x → On (Did t s) (within (λ u. record { locals = s.locals; state = u }) x)
    gave_did t s (Gives v u k) h d = record { fits = d.fits; grew = d.grew; fine = fine_on s u h d.grew d.state }
    gave_did t s (Stops x u) h d = tt

    pub operated : (t : Ty) (s : State) (r : Result (Value × State) Trap) (k : ℕ) → Operates g t s r → On (Gave g t s) (settled r s k)
    operated t s (Ok r) k h = h
    operated t s (Err x) k h = tt

    pub does_did : (t : Ty) (op : Operation) (s : Store) (k : ℕ) → Fine s → Operates g t s.state (op s.state) → On (Did t s) (does op s k)
    does_did t op s k h o = gave_did t s (settled (op s.state) s.state k) h (operated t s.state (op s.state) k o)

    or_did : (t : Ty) (r : Result Value Trap) (s : Store) (k : ℕ) → Fine s → ResultFits g s.state.objects t r → On (Did t s) (or_trap r s k)
    or_did t (Ok v) s k h f = did_at t v s h f
    or_did t (Err x) s k h f = tt

    pub written : (x : ℕ) (v : Value) (s : Store) → Fine s → Fits g s.state.objects (type_at types x) v → Did (type_at types x) s v (record { locals = with_local s.locals x v; state = s.state })
    written x v s h f = record {
      fits = f;
      grew = grew_self s.state.objects;
      fine = record { state = h.state; locals = λ y l n. at y (nat_eq y x) refl (h.locals y l n) };
    }
      where
        at : (y : ℕ) (b : Bool) → nat_eq y x ≡ b → Fits g s.state.objects (type_at types y) (s.locals y) → Fits g s.state.objects (type_at types y) (if b then v else s.locals y)
        at y true e k = subst (λ z. Fits g s.state.objects (type_at types z) v) (sym (eqb-true y x e)) f
        at y false e k = k

    truth_did : (b : Bool) (s : Store) → Fine s → Did ty.Bool s (Truth b) s
    truth_did b s h = did_at ty.Bool (Truth b) s h tt

    -- ---- moves

    module _ (ok : Known frame) where
      move_operates : (c n : ℕ) (t : Ty) (v : Value) (s : State) → class_in t ≡ Some c → IsNode g c n → IsState g s → Fits g s.objects t v → Operates g (shows t (end_of (node g c n))) s (move_along g (node g c n) v s)
      move_operates c n (ty.Ptr d) Null s e l h f = record { fits = tt; grew = grew_self s.objects; state = h }
      move_operates c n (ty.Ptr d) (At o u) s e l h f = at_node c n d o u s e l h f tt
        where
          at_node : (c n d o : ℕ) (u : Path) (s : State) → Some d ≡ Some c → IsNode g c n → IsState g s → Shows g s.objects d o u → Unit {0} → Gave g (ty.Ptr (end_of (node g c n))) s (At o (compose u (node g c n))) s
          at_node c n d o u s e l h f x =
              let dc : d ≡ c = cc in
              let sub = subobjects_are g ok.listed c (node g c n) (Has-get_or (subobjects_of g c) n [] l) in
              let sub' : IsSubobject g (end_of u) (node g c n) = subst (λ z. IsSubobject g z (node g c n)) (sym (f.ends ∙ dc)) sub in
              record { fits = record { there = f.there; part = compose-sub g (class_of s.objects o) u (node g c n) f.part sub'; ends = compose-end g (class_of s.objects o) u (node g c n) f.part sub' }; grew = grew_self s.objects; state = h }
      move_operates c n (ty.Ref d) (At o u) s e l h f =
          let dc : d ≡ c = cc in
          let sub = subobjects_are g ok.listed c (node g c n) (Has-get_or (subobjects_of g c) n [] l) in
          let sub' : IsSubobject g (end_of u) (node g c n) = subst (λ z. IsSubobject g z (node g c n)) (sym (f.ends ∙ dc)) sub in
          record { fits = record { there = f.there; part = compose-sub g (class_of s.objects o) u (node g c n) f.part sub'; ends = compose-end g (class_of s.objects o) u (node g c n) f.part sub' }; grew = grew_self s.objects; state = h }
      move_operates c n (ty.Ptr d) (Truth b) s e l h f = absurd f
      move_operates c n (ty.Ptr d) (Number b) s e l h f = absurd f
      move_operates c n (ty.Ptr d) (Word b) s e l h f = absurd f
      move_operates c n (ty.Ptr d) Nothing s e l h f = absurd f
      move_operates c n (ty.Ref d) (Truth b) s e l h f = absurd f
      move_operates c n (ty.Ref d) (Number b) s e l h f = absurd f
      move_operates c n (ty.Ref d) (Word b) s e l h f = absurd f
      move_operates c n (ty.Ref d) Null s e l h f = absurd f
      move_operates c n (ty.Ref d) Nothing s e l h f = absurd f
      move_operates c n t v s e l h f = cc

      moved_operates : (c n : ℕ) (t : Ty) (v : Value) (s : State) → class_in t ≡ Some c → IsNode g c n → IsState g s → Fits g s.objects t v → Operates g (shows t (end_of (node g c n))) s (move_to g c n v s)
      moved_operates c n t v s e l h f = subst (λ o. Operates g (shows t (end_of (node g c n))) s (on_some o (λ q. move_along g q v s))) (sym (slice_get-get_or (subobjects_of g c) n [] l)) (move_operates c n t v s e l h f)

      tested_fits : (c : ℕ) (v : Value) (s : Store) → Fits g s.state.objects (ty.Ptr c) v → ResultFits g s.state.objects (ty.Ref c) (tested_pointer v)
      tested_fits c (At o t) s f = f
      tested_fits c Null s f = tt
      tested_fits c (Truth b) s f = tt
      tested_fits c (Number b) s f = tt
      tested_fits c (Word b) s f = tt
      tested_fits c Nothing s f = tt

      -- ---- built-in functions

      got_operates : (o : Option ℤ) (s : State) → IsState g s → ((z : ℤ) → o ≡ Some z → IsTrue (is_int z)) → Operates g ty.Int s (answered s (got s.world o))
      got_operates None s h f = tt
      got_operates (Some z) s h f = record { fits = f z refl; grew = grew_self s.objects; state = record { fields = h.fields; input = h.input } }

      slice-Has : (zs : List ℤ) (i : ℕ) (z : ℤ) → slice_get zs i ≡ Some z → Has zs z
      slice-Has [] i z e = cc
      slice-Has (y ∷ zs) zero z e = first (let k : y ≡ z = cc in k)
      slice-Has (y ∷ zs) (suc i) z e = later (slice-Has zs i z e)

      one_or_none : (b : Bool) → is_int (if b then pos 1 else pos 0) ≡ true
      one_or_none true = refl
      one_or_none false = refl

      pub ask_operates : (b : Builtin) (vs : List Value) (s : State) → IsState g s → Operates g (type_answered b) s (ask b vs s)
      ask_operates Put [] s h = record { fits = tt; grew = grew_self s.objects; state = record { fields = h.fields; input = h.input } }
      ask_operates Put (v ∷ vs) s h = record { fits = tt; grew = grew_self s.objects; state = record { fields = h.fields; input = h.input } }
      ask_operates Get vs s h = got_operates (slice_get s.world.input s.world.taken) s h (λ z e. h.input z (slice-Has s.world.input s.world.taken z e))
      ask_operates More vs s h = record { fits = one_or_none (nat_lt s.world.taken (length s.world.input)); grew = grew_self s.objects; state = record { fields = h.fields; input = h.input } }

      -- ---- branches and arguments

      branch_is : (t u : Ty) (v : Value) (xs : List Object) → t ≡ u → Fits g xs t v → Fits g xs (if same_type t u then t else as_pointer t) v
      branch_is t u v xs e f = let k = eq-eqb (type_code t) (type_code u) (ap type_code e) in rw k f

      branch : (t u : Ty) (v : Value) (xs : List Object) → AreBranches t u → Fits g xs t v ⊎ Fits g xs u v → Fits g xs (if same_type t u then t else as_pointer t) v
      branch t u v xs (inl e) (inl f) = branch_is t u v xs e f
      branch t u v xs (inl e) (inr f) = branch_is t u v xs e (subst (λ z. Fits g xs z v) (sym e) f)
      branch (ty.Ptr c) (ty.Ptr d) v xs (inr e) (inl f) = (let dc : c ≡ d = (let k = e.1 in cc) in branch_is (ty.Ptr c) (ty.Ptr d) v xs (ap ty.Ptr dc) f)
      branch (ty.Ptr c) (ty.Ptr d) v xs (inr e) (inr f) = (let dc : c ≡ d = (let k = e.1 in cc) in branch_is (ty.Ptr c) (ty.Ptr d) v xs (ap ty.Ptr dc) (subst (λ z. Fits g xs (ty.Ptr z) v) (sym dc) f))
      branch (ty.Ref c) (ty.Ref d) v xs (inr e) (inl f) = (let dc : c ≡ d = (let k = e.1 in cc) in branch_is (ty.Ref c) (ty.Ref d) v xs (ap ty.Ref dc) f)
      branch (ty.Ref c) (ty.Ref d) v xs (inr e) (inr f) = (let dc : c ≡ d = (let k = e.1 in cc) in branch_is (ty.Ref c) (ty.Ref d) v xs (ap ty.Ref dc) (subst (λ z. Fits g xs (ty.Ref z) v) (sym dc) f))
      branch (ty.Ptr c) (ty.Ref d) v xs (inr e) h = (let dc : c ≡ d = (let k = e.1 in cc) in mixed (c * 2 + 4) (d * 2 + 5) (omega arith) (elim h [ inl f ↦ f | inr f ↦ as_fits g xs (ty.Ref c) v (subst (λ z. Fits g xs (ty.Ref z) v) (sym dc) f) ]))
        where
          mixed : (m n : ℕ) → (m ≡ n → ⊥) → Fits g xs (ty.Ptr c) v → Fits g xs (if nat_eq m n then ty.Ptr c else ty.Ptr c) v
          mixed m n ne f = elim (either_way (nat_eq m n)) [ inl k ↦ rw k f | inr k ↦ rw k f ]
      branch (ty.Ref c) (ty.Ptr d) v xs (inr e) h = (let dc : c ≡ d = (let k = e.1 in cc) in mixed (c * 2 + 5) (d * 2 + 4) (omega arith) (elim h [ inl f ↦ as_fits g xs (ty.Ref c) v f | inr f ↦ subst (λ z. Fits g xs (ty.Ptr z) v) (sym dc) f ]))
        where
          mixed : (m n : ℕ) → (m ≡ n → ⊥) → Fits g xs (ty.Ptr c) v → Fits g xs (if nat_eq m n then ty.Ref c else ty.Ptr c) v
          mixed m n ne f = elim (either_way (nat_eq m n)) [ inl k ↦ absurd (ne (eqb-true m n k)) | inr k ↦ rw k f ]
      branch t u v xs (inr e) h = (let k = e.0 in let j = e.1 in cc)

      pub all_suit : (xs : List Object) (ts us : List Ty) (vs : List Value) → AllSuit ts us → AllFit g xs ts vs → AllFit g xs us vs
      all_suit xs [] [] vs h f = f
      all_suit xs [] (u ∷ us) vs h f = absurd h
      all_suit xs (t ∷ ts) [] vs h f = absurd h
      all_suit xs (t ∷ ts) (u ∷ us) [] h f = absurd f
      all_suit xs (t ∷ ts) (u ∷ us) (v ∷ vs) h f = (suits_fits g xs t u v h.0 f.0, all_suit xs ts us vs h.1 f.1)

      -- ---- nodes

      abbrev reference : (t : Ty) (c f : ℕ) → t ≡ ty.Ref c → field_type g (class_shown t) f ≡ field_type g c f
      reference t c f e = ap (λ z. field_type g (class_shown z) f) e

      mutual
        pub value_fits : (e : Expr) → Claim e
        value_fits (int z) s k v h = did_at ty.Int (Number z) s h v
        value_fits (unsigned n) s k v h = did_at ty.Unsigned (Word n) s h v
        value_fits (bool b) s k v h = did_at ty.Bool (Truth b) s h tt
        value_fits (null c) s k v h = did_at (ty.Ptr c) Null s h tt
        value_fits (local x) s k v h = did_at (type_at types x) (s.locals x) s h (h.locals x v.0 v.1)
        value_fits (set_local x e) s k v h = on_then (Did (type_of a e) s) (Did (type_at types x) s) _ _ (value_fits e s k v.2 h) (λ y m j d.
            did_on (type_of a e) (type_at types x) y y s m _ d (written x y m d.fine (suits_fits g m.state.objects (type_of a e) (type_at types x) y v.1 d.fits)))
        value_fits (field f e) s k v h = on_then (Did (type_of a e) s) (Did (type_of a (field f e)) s) _ _ (value_fits e s k v.1 h) (λ y m j d.
            let c = v.0.0 in let r = v.0.1.0 in
            as_type (field_type g c f) (type_of a (field f e)) s _ (sym (reference (type_of a e) c f r)) (after (type_of a e) (field_type g c f) y s m _ d
            (does_did (field_type g c f) (get_field f y) m j d.fine (get_operates g c f y m.state d.fine.state (subst (λ z. Fits g m.state.objects z y) r d.fits)))))
        value_fits (set_field f e d) s k v h = on_then (Did (type_of a e) s) (Did (type_of a (field f e)) s) _ _ (value_fits e s k v.2 h) (λ y m j q.
            on_then (Did (type_of a d) m) (Did (type_of a (field f e)) s) _ _ (value_fits d m j v.3 q.fine) (λ z n i r.
            let c = v.0.0 in let e1 = v.0.1.0 in
            let both' = did_on (type_of a e) (type_of a d) y z s m n q r in
            let fy = subst (λ t. Fits g n.state.objects t y) e1 (fits_grew g m.state.objects n.state.objects r.grew (type_of a e) y q.fits) in
            let fz = subst (λ t. Fits g n.state.objects t z) (reference (type_of a e) c f e1) (suits_fits g n.state.objects (type_of a d) (type_of a (field f e)) z v.1 r.fits) in
            as_type (field_type g c f) (type_of a (field f e)) s _ (sym (reference (type_of a e) c f e1)) (after (type_of a d) (field_type g c f) z s n _ both'
            (does_did (field_type g c f) (put_field f y z) n i r.fine (put_operates g c f y z n.state r.fine.state fy fz)))))
        value_fits (not_null e) s k v h = on_then (Did (type_of a e) s) (Did (type_of a (not_null e)) s) _ _ (value_fits e s k v.3 h) (λ y m j d.
            as_type (ty.Ref v.0) (type_of a (not_null e)) s _ (ap ty.Ref (sym (ap class_shown v.1))) (after (type_of a e) (ty.Ref v.0) y s m _ d
            (or_did (ty.Ref v.0) (tested_pointer y) m j d.fine (tested_fits v.0 y m (subst (λ z. Fits g m.state.objects z y) v.1 d.fits)))))
        value_fits (move c n e) s k v h = on_then (Did (type_of a e) s) (Did (type_of a (move c n e)) s) _ _ (value_fits e s k v.4 h) (λ y m j d.
            after (type_of a e) (type_of a (move c n e)) y s m _ d (does_did (type_of a (move c n e)) (move_to g c n y) m j d.fine (moved_operates c n (type_of a e) y m.state v.0 v.3 d.fine.state d.fits)))
        value_fits (convert t e) s k v h = on_then (Did (type_of a e) s) (Did (type_of a (convert t e)) s) _ _ (value_fits e s k v.1 h) (λ y m j d.
            did_on (type_of a e) (type_of a (convert t e)) y (converted t y) s m m d (did_at (type_of a (convert t e)) (converted t y) m d.fine (converted_fits g m.state.objects t (type_of a e) y v.0 d.fits)))
        value_fits (binary op d e) s k v h = on_then (Did (type_of a d) s) (Did (type_of a (binary op d e)) s) _ _ (value_fits d s k v.1 h) (λ x m j q.
            on_then (Did (type_of a e) m) (Did (type_of a (binary op d e)) s) _ _ (value_fits e m j v.2 q.fine) (λ y n i r.
            after (type_of a e) (type_of a (binary op d e)) y s n _ (did_on (type_of a d) (type_of a e) x y s m n q r)
            (or_did (type_of a (binary op d e)) (operate op x y) n i r.fine (operate_fits g n.state.objects op (type_of a d) (type_of a e) x y v.0 (fits_grew g m.state.objects n.state.objects r.grew (type_of a d) x q.fits) r.fits))))
        value_fits (negation e) s k v h = on_then (Did (type_of a e) s) (Did ty.Bool s) _ _ (value_fits e s k v.1 h) (λ y m j d. did_on (type_of a e) ty.Bool y (Truth (not (is_true y))) s m m d (truth_did (not (is_true y)) m d.fine))
        value_fits (both d e) s k v h = on_then (Did (type_of a d) s) (Did ty.Bool s) _ _ (value_fits d s k v.2 h) (λ x m j q.
            after (type_of a d) ty.Bool x s m _ q (on_if (Did ty.Bool m) (is_true x) _ _ m j (as_type (type_of a e) ty.Bool m _ v.1 (value_fits e m j v.3 q.fine)) (truth_did false m q.fine)))
        value_fits (either d e) s k v h = on_then (Did (type_of a d) s) (Did ty.Bool s) _ _ (value_fits d s k v.2 h) (λ x m j q.
            after (type_of a d) ty.Bool x s m _ q (on_if (Did ty.Bool m) (is_true x) _ _ m j (truth_did true m q.fine) (as_type (type_of a e) ty.Bool m _ v.1 (value_fits e m j v.3 q.fine))))
        value_fits (choose c d e) s k v h = on_then (Did (type_of a c) s) (Did (type_of a (choose c d e)) s) _ _ (value_fits c s k v.2 h) (λ x m j q.
            after (type_of a c) (type_of a (choose c d e)) x s m _ q (on_if (Did (type_of a (choose c d e)) m) (is_true x) _ _ m j
            (on_weaker (Did (type_of a d) m) (Did (type_of a (choose c d e)) m) _ (λ y n r. record { fits = branch (type_of a d) (type_of a e) y n.state.objects v.1 (inl r.fits); grew = r.grew; fine = r.fine }) (value_fits d m j v.3 q.fine))
            (on_weaker (Did (type_of a e) m) (Did (type_of a (choose c d e)) m) _ (λ y n r. record { fits = branch (type_of a d) (type_of a e) y n.state.objects v.1 (inr r.fits); grew = r.grew; fine = r.fine }) (value_fits e m j v.4 q.fine))))
        value_fits (call f es) s k v h = on_then (DidAll (types_of a es) s) (Did (type_of a (call f es)) s) _ _ (values_fit es s k v.1 h) (λ vs m j q.
            let c = v.0 in
            all_after (types_of a es) (type_of a (call f es)) vs s m _ q (as_type c.0.result (type_of a (call f es)) m _ (sym (ap result_of_function c.1))
            (gave_did c.0.result m _ q.fine (ok.calls_fit f c.0 vs m.state j c.1 c.2 c.3 q.fine.state (all_suit m.state.objects (types_of a es) (argument_types g c.0) vs c.4 q.fits)))))
        value_fits (open_call f es) s k v h = on_then (DidAll (types_of a es) s) (Did (type_of a (open_call f es)) s) _ _ (values_fit es s k v.1 h) (λ vs m j q.
            let c = v.0 in
            all_after (types_of a es) (type_of a (open_call f es)) vs s m _ q (as_type c.0.result (type_of a (open_call f es)) m _ (sym (ap result_of_function c.1))
            (gave_did c.0.result m _ q.fine (ok.opens_fit f c.0 vs m.state j c.1 c.2 c.3 q.fine.state (all_suit m.state.objects (types_of a es) (argument_types g c.0) vs c.4 q.fits)))))
        value_fits (virtual_call n e es) s k v h = on_then (Did (type_of a e) s) (Did (type_of a (virtual_call n e es)) s) _ _ (value_fits e s k v.5 h) (λ y m j q.
            on_then (DidAll (types_of a es) m) (Did (type_of a (virtual_call n e es)) s) _ _ (values_fit es m j v.6 q.fine) (λ vs z i r.
            let c = v.0 in let x = v.1 in
            let fy = subst (λ t. Fits g z.state.objects t y) v.2.0 (fits_grew g m.state.objects z.state.objects r.grew (type_of a e) y q.fits) in
            let is : result_in x.kind ≡ type_of a (virtual_call n e es) = sym (ap (λ t. result_of_method (slice_get (members_of g (class_shown t)) n)) v.2.0 ∙ ap result_of_method v.3.0) in
            after (type_of a e) (type_of a (virtual_call n e es)) y s m _ q (all_after (types_of a es) (type_of a (virtual_call n e es)) vs m z _ r (as_type (result_in x.kind) (type_of a (virtual_call n e es)) z _ is
            (gave_did (result_in x.kind) z _ r.fine (ok.virtuals_fit c n x y vs z.state i v.3 r.fine.state fy (all_suit z.state.objects (types_of a es) (params_in x.kind) vs v.4 r.fits)))))))
        value_fits (builtin b es) s k v h = on_then (DidAll (types_of a es) s) (Did (type_answered b) s) _ _ (values_fit es s k v.1 h) (λ vs m j q.
            all_after (types_of a es) (type_answered b) vs s m _ q (does_did (type_answered b) (ask b vs) m j q.fine (ask_operates b vs m.state q.fine.state)))
        value_fits (new c) s k v h = does_did (ty.Ptr c) (make_object g c) s k h (make_operates g ok.plain c s.state h.state)
        value_fits (step_local x c) s k v h = on_then (Did (type_at types x) s) (Did (type_at types x) s) _ _ (or_did (type_at types x) (changed c (s.locals x)) s k h (changed_fits g s.state.objects c (type_at types x) (s.locals x) v.1 (number_local x s v.0 v.1 h))) (λ y m j d.
            let z = written x y m d.fine d.fits in
            record { fits = fits_grew g s.state.objects m.state.objects d.grew (type_at types x) (s.locals x) (number_local x s v.0 v.1 h); grew = d.grew; fine = z.fine })
        value_fits (step_field f c e) s k v h = on_then (Did (type_of a e) s) (Did (type_of a (field f e)) s) _ _ (value_fits e s k v.2 h) (λ y m j q.
            let d = v.0.0 in let e1 = v.0.1.0 in
            let t = field_type g d f in
            let n : IsTrue (is_number t) = subst (λ z. IsTrue (is_number z)) (reference (type_of a e) d f e1) v.1 in
            let fy = subst (λ z. Fits g m.state.objects z y) e1 q.fits in
            as_type t (type_of a (field f e)) s _ (sym (reference (type_of a e) d f e1)) (after (type_of a e) t y s m _ q
            (on_then (Did t m) (Did t m) _ _ (does_did t (get_field f y) m j q.fine (get_operates g d f y m.state q.fine.state fy)) (λ old m2 j2 q2.
            on_then (Did t m2) (Did t m) _ _ (or_did t (changed c old) m2 j2 q2.fine (changed_fits g m2.state.objects c t old n q2.fits)) (λ z m3 j3 q3.
            let fy3 = fits_grew g m2.state.objects m3.state.objects q3.grew (ty.Ref d) y (fits_grew g m.state.objects m2.state.objects q2.grew (ty.Ref d) y fy) in
            on_then (Did t m3) (Did t m) _ _ (does_did t (put_field f y z) m3 j3 q3.fine (put_operates g d f y z m3.state q3.fine.state fy3 q3.fits)) (λ z4 m4 j4 q4.
            let up = grew_on m2.state.objects m3.state.objects m4.state.objects q3.grew q4.grew in
            record { fits = fits_grew g m2.state.objects m4.state.objects up t old q2.fits; grew = grew_on m.state.objects m2.state.objects m4.state.objects q2.grew up; fine = q4.fine }))))))
        value_fits (compound op f e d) s k v h = on_then (Did (type_of a e) s) (Did (type_of a (field f e)) s) _ _ (value_fits e s k v.4 h) (λ y m j q.
            let c = v.1.0 in let e1 = v.1.1.0 in
            let t = field_type g c f in
            let n : IsTrue (is_number t) = subst (λ z. IsTrue (is_number z)) (reference (type_of a e) c f e1) v.2 in
            let fy = subst (λ z. Fits g m.state.objects z y) e1 q.fits in
            as_type t (type_of a (field f e)) s _ (sym (reference (type_of a e) c f e1)) (after (type_of a e) t y s m _ q
            (on_then (Did t m) (Did t m) _ _ (does_did t (get_field f y) m j q.fine (get_operates g c f y m.state q.fine.state fy)) (λ old m2 j2 q2.
            after t t old m m2 _ q2 (on_then (Did (type_of a d) m2) (Did t m2) _ _ (value_fits d m2 j2 v.5 q2.fine) (λ z m3 j3 q3.
            after (type_of a d) t z m2 m3 _ q3 (on_then (Did t m3) (Did t m3) _ _ (or_did t (compounded op old z) m3 j3 q3.fine (compounded_fits g m3.state.objects op t (type_of a d) old z v.0 n v.3 (fits_grew g m2.state.objects m3.state.objects q3.grew t old q2.fits) q3.fits)) (λ r m4 j4 q4.
            let fy4 = fits_grew g m3.state.objects m4.state.objects q4.grew (ty.Ref c) y (fits_grew g m2.state.objects m3.state.objects q3.grew (ty.Ref c) y (fits_grew g m.state.objects m2.state.objects q2.grew (ty.Ref c) y fy)) in
            after t t r m3 m4 _ q4 (does_did t (put_field f y r) m4 j4 q4.fine (put_operates g c f y r m4.state q4.fine.state fy4 q4.fits))))))))))

        pub values_fit : (es : Exprs) (s : Store) (k : ℕ) → AreValid a known es → Fine s → On (DidAll (types_of a es) s) (values_of w es s k)
        values_fit no_exprs s k v h = record { fits = tt; grew = grew_self s.state.objects; fine = h }
        values_fit (expr_and e es) s k v h = on_then (Did (type_of a e) s) (DidAll (types_of a (expr_and e es)) s) _ _ (value_fits e s k v.0 h) (λ y m j d.
            on_then (DidAll (types_of a es) m) (DidAll (types_of a (expr_and e es)) s) _ _ (values_fit es m j v.1 d.fine) (λ vs n i r.
            record { fits = (fits_grew g m.state.objects n.state.objects r.grew (type_of a e) y d.fits, r.fits); grew = grew_on s.state.objects m.state.objects n.state.objects d.grew r.grew; fine = r.fine }))

  -- ---- statements

  -- what is known of more locals is known of fewer
  fewer : (more known : List ℕ) (s : Store) → Fine (more ++ known) s → Fine known s
  fewer more known s h = record { state = h.state; locals = λ x l n. h.locals x l (λ r. Has-right more known (n r)) }

  module _ (ok : Known frame) (result : Ty) where
    -- how a statement may go on
    abbrev pub MayGo : Bool → List Object → Flow → Type 0
    MayGo in_loop xs Next = Unit {0}
    MayGo in_loop xs Broke = IsTrue in_loop
    MayGo in_loop xs Continued = IsTrue in_loop
    MayGo in_loop xs (Returned v) = Fits g xs result v

    pub record Went (in_loop : Bool) (more known : List ℕ) (before : Store) (flow : Flow) (after : Store) : Type 0 where
      pub goes : MayGo in_loop after.state.objects flow
      pub grew : Grew before.state.objects after.state.objects
      pub fine : Fine known after
      pub next : flow ≡ Next → Fine (more ++ known) after

    -- a local that was set is known
    known_too : (x : ℕ) (v : Value) (known : List ℕ) (m : Store) → Fine known m → Fits g m.state.objects (type_at types x) v → Fine (x ∷ known) (record { locals = with_local m.locals x v; state = m.state })
    known_too x v known m h f = record { state = h.state; locals = λ y l n. at y l n (nat_eq y x) refl }
      where
        at : (y : ℕ) → y < length types → (IsTrue (is_reference (type_at types y)) → Has (x ∷ known) y) → (b : Bool) → nat_eq y x ≡ b → Fits g m.state.objects (type_at types y) (if b then v else m.locals y)
        at y l n true e = subst (λ z. Fits g m.state.objects (type_at types z) v) (sym (eqb-true y x e)) f
        at y l n false e = h.locals y l (λ r. not_first y e (n r))
          where
            not_first : (y : ℕ) → nat_eq y x ≡ false → Has (x ∷ known) y → Has known y
            not_first y e (first k) = (let t = eq-eqb y x (sym k) in let z : true ≡ false = sym t ∙ e in cc)
            not_first y e (later k) = k

    -- an expression ran, and what it set is known
    record Ran (more known : List ℕ) (before : Store) (v : Value) (after : Store) : Type 0 where
      grew : Grew before.state.objects after.state.objects
      fine : Fine known after
      next : Fine (more ++ known) after

    run_other : (e : Expr) (known : List ℕ) (s : Store) (k : ℕ) → IsValid a known e → Fine known s → On (Ran [] known s) (value_of w e s k)
    run_other e known s k v h = on_weaker (Did known (type_of a e) s) (Ran [] known s) _ (λ y m d. record { grew = d.grew; fine = d.fine; next = d.fine }) (value_fits known ok e s k v h)

    run_known : (e : Expr) (known : List ℕ) (s : Store) (k : ℕ) → IsValid a known e → Fine known s → On (Ran (set_in e) known s) (value_of w e s k)
    run_known (set_local x e) known s k v h = on_then (Did known (type_of a e) s) (Ran (x ∷ []) known s) _ _ (value_fits known ok e s k v.2 h) (λ y m j d.
        let f = suits_fits g m.state.objects (type_of a e) (type_at types x) y v.1 d.fits in
        let z = known_too x y known m d.fine f in
        record { grew = d.grew; fine = fewer (x ∷ []) known _ z; next = z })
    run_known e known s k v h = run_other e known s k v h

    -- a piece without new names, or a later part
    pub plainly : (in_loop : Bool) (known : List ℕ) (s : Store) (flow : Flow) → Fine known s → MayGo in_loop s.state.objects flow → Went in_loop [] known s flow s
    plainly in_loop known s flow h f = record { goes = f; grew = grew_self s.state.objects; fine = h; next = λ e. h }

    pub went_on : (in_loop : Bool) (more known : List ℕ) (s m z : Store) (flow : Flow) → Grew s.state.objects m.state.objects → Went in_loop more known m flow z → Went in_loop more known s flow z
    went_on in_loop more known s m z flow gr h = record { goes = h.goes; grew = grew_on s.state.objects m.state.objects z.state.objects gr h.grew; fine = h.fine; next = h.next }

    -- a test, and what follows
    pub tested_went : (known : List ℕ) (e : Expr) (body : From Store Flow) (s : Store) (k : ℕ) → IsTest a known e → Fine known s → ((m : Store) (j : ℕ) → Fine known m → On (Went true [] known m) (body m j)) → On (Went true [] known s) (tested (value_of w e) body s k)
    tested_went known e body s k v h f = on_then (Did known (type_of a e) s) (Went true [] known s) _ _ (value_fits known ok e s k v.1 h) (λ y m j d.
        on_weaker (Went true [] known m) (Went true [] known s) _ (λ flow z q. went_on true [] known s m z flow d.grew q) (on_if (Went true [] known m) (is_true y) body _ m j (f m j d.fine) (plainly true known m Broke d.fine refl)))

    -- a new object is a reference
    made_went : (c : ℕ) (known : List ℕ) (s : Store) (k : ℕ) → Fine known s → On (Did known (ty.Ref c) s) (does (make_object g c) s k)
    made_went c known s k h = (let o = make_operates g ok.plain c s.state h.state in record { fits = o.fits; grew = o.grew; fine = fine_on known s _ h o.grew o.state })

    variable_went : (x c : ℕ) (known : List ℕ) (s : Store) (k : ℕ) → x < length types → type_at types x ≡ ty.Ref c → Fine known s → On (Did known (ty.Ref c) s) (does (make_variable g (slice_get types x)) s k)
    variable_went x c known s k l e h = subst (λ o. On (Did known (ty.Ref c) s) (does (make_variable g o) s k)) (sym (slice_get-get_or types x ty.Void l ∙ ap Some e)) (made_went c known s k h)

    -- turns, each from a store in which what is known fits
    abbrev pub Turn : List ℕ → From Store Flow → Type 0
    Turn known t = (m : Store) (j : ℕ) → Fine known m → On (Went true [] known m) (t m j)

    next_went : (in_loop : Bool) (known : List ℕ) (flow : Flow) (again : From Store Flow) (s : Store) (k : ℕ) → MayGo true s.state.objects flow → Fine known s → On (Went in_loop [] known s) (again s k) → On (Went in_loop [] known s) (next_turn flow again s k)
    next_went in_loop known Next again s k f h r = r
    next_went in_loop known Continued again s k f h r = r
    next_went in_loop known Broke again s k f h r = plainly in_loop known s Next h tt
    next_went in_loop known (Returned v) again s k f h r = plainly in_loop known s (Returned v) h f

    -- what stands before a body may leave the turn or the loop
    begun_went : (in_loop : Bool) (known : List ℕ) (flow : Flow) (rest again : From Store Flow) (s : Store) (k : ℕ) → MayGo true s.state.objects flow → Fine known s → On (Went in_loop [] known s) (rest s k) → On (Went in_loop [] known s) (again s k) → On (Went in_loop [] known s) (begun flow rest again s k)
    begun_went in_loop known Next rest again s k f h r i = r
    begun_went in_loop known Continued rest again s k f h r i = i
    begun_went in_loop known Broke rest again s k f h r i = plainly in_loop known s Next h tt
    begun_went in_loop known (Returned v) rest again s k f h r i = plainly in_loop known s (Returned v) h f

    then_went : (in_loop : Bool) (known : List ℕ) (s m : Store) (x : Run Stop Store Flow) → Grew s.state.objects m.state.objects → On (Went in_loop [] known m) x → On (Went in_loop [] known s) x
    then_went in_loop known s m x gr h = on_weaker (Went in_loop [] known m) (Went in_loop [] known s) x (λ flow z q. went_on in_loop [] known s m z flow gr q) h

    module _ (in_loop : Bool) (known : List ℕ) (before body : From Store Flow) (b : Turn known before) (d : Turn known body) where
      turns_went : (n : ℕ) (now : From Store Flow) → Turn known now → (s : Store) (k : ℕ) → Fine known s → On (Went in_loop [] known s) (turns_from n now before body s k)
      turns_went zero now t s k h = tt
      turns_went (suc n) now t s zero h = tt
      turns_went (suc n) now t s (suc k) h = on_then (Went true [] known s) (Went in_loop [] known s) (now s k) _ (t s k h) (λ flow m j q.
          then_went in_loop known s m _ q.grew (begun_went in_loop known flow _ _ m j q.goes q.fine
          (on_then (Went true [] known m) (Went in_loop [] known m) (body m j) _ (d m j q.fine) (λ end z i r.
          then_went in_loop known m z _ r.grew (next_went in_loop known end (turns_from n before before body) z i r.goes r.fine (turns_went n before b z i r.fine))))
          (turns_went n (runs.pure Next) (λ z i f. plainly true known z Next f tt) m j q.fine)))

      loop_went : (s : Store) (k : ℕ) → Fine known s → On (Went in_loop [] known s) (loop before body s k)
      loop_went s k h = turns_went k (runs.pure Next) (λ z i f. plainly true known z Next f tt) s k h

    -- what a loop's body may do, a statement beside it may do
    pub widen : (b : Bool) (xs : List Object) (flow : Flow) → MayGo b xs flow → MayGo true xs flow
    widen b xs Next f = tt
    widen b xs Broke f = refl
    widen b xs Continued f = refl
    widen b xs (Returned v) f = f

    -- one piece and then another, where the first knows more behind it
    pub seq_went : (b : Bool) (more known : List ℕ) (m n : From Store Flow) (s : Store) (k : ℕ) → On (Went b more known s) (m s k) → ((z : Store) (j : ℕ) → Fine (more ++ known) z → On (Went b [] (more ++ known) z) (n z j)) → On (Went b [] known s) (then_flow m n s k)
    seq_went b more known m n s k h f = on_then (Went b more known s) (Went b [] known s) (m s k) _ h (λ flow z j q. go flow z j q)
      where
        go : (flow : Flow) (z : Store) (j : ℕ) → Went b more known s flow z → On (Went b [] known s) (unless_left flow n z j)
        go Next z j q = on_weaker (Went b [] (more ++ known) z) (Went b [] known s) (n z j) (λ fl y r. (let fy = fewer more known y r.fine in record { goes = r.goes; grew = grew_on s.state.objects z.state.objects y.state.objects q.grew r.grew; fine = fy; next = λ e. fy })) (f z j (q.next refl))
        go Broke z j q = record { goes = q.goes; grew = q.grew; fine = q.fine; next = λ e. q.fine }
        go Continued z j q = record { goes = q.goes; grew = q.grew; fine = q.fine; next = λ e. q.fine }
        go (Returned v) z j q = record { goes = q.goes; grew = q.grew; fine = q.fine; next = λ e. q.fine }

    pub in_loop_went : (b : Bool) (known : List ℕ) (s : Store) (x : Run Stop Store Flow) → On (Went b [] known s) x → On (Went true [] known s) x
    in_loop_went b known s x h = on_weaker (Went b [] known s) (Went true [] known s) x (λ flow z q. record { goes = widen b z.state.objects flow q.goes; grew = q.grew; fine = q.fine; next = q.next }) h

    -- a step names nothing that is known behind it
    pub forget : (b : Bool) (more known : List ℕ) (s : Store) (x : Run Stop Store Flow) → On (Went b more known s) x → On (Went b [] known s) x
    forget b more known s x h = on_weaker (Went b more known s) (Went b [] known s) x (λ flow z q. record { goes = q.goes; grew = q.grew; fine = q.fine; next = λ e. q.fine }) h

    mutual
      pub flow_fits : (st : Stmt) (b : Bool) (known : List ℕ) (s : Store) (k : ℕ) → IsValidStmt a result b known st → Fine known s → On (Went b (sets st) known s) (flow_of w types st s k)
      flow_fits (block ss) b known s k v h = flows_fit ss b known s k v h
      flow_fits (run e) b known s k v h = on_then (Ran (set_in e) known s) (Went b (set_in e) known s) _ _ (run_known e known s k v h) (λ y m j d. record { goes = tt; grew = d.grew; fine = d.fine; next = λ q. d.next })
      flow_fits (if_else e ss ts) b known s k v h = on_then (Did known (type_of a e) s) (Went b [] known s) _ _ (value_fits known ok e s k v.0.1 h) (λ y m j d.
          on_weaker (Went b [] known m) (Went b [] known s) _ (λ flow z q. went_on b [] known s m z flow d.grew q) (on_if (Went b [] known m) (is_true y) _ _ m j (flows_fit ss b known m j v.1 d.fine) (flows_fit ts b known m j v.2 d.fine)))
      flow_fits (while_do e ss) b known s k v h =
          loop_went b known (runs.pure Next) (tested (value_of w e) (flows_of w types ss)) (λ m j f. plainly true known m Next f tt) (λ m j f. tested_went known e _ m j v.0 f (λ z i q. flows_fit ss true known z i v.1 q)) s k h
      flow_fits (do_while ss e) b known s k v h =
          loop_went b known (tested (value_of w e) (runs.pure Next)) (flows_of w types ss) (λ m j f. tested_went known e _ m j v.1 f (λ z i q. plainly true known z Next q tt)) (λ m j f. flows_fit ss true known m j v.0 f) s k h
      flow_fits (for_do e st ss) b known s k v h =
          loop_went b known (flow_of w types st) (tested (value_of w e) (flows_of w types ss)) (λ m j f. forget true (sets st) known m _ (flow_fits st true known m j v.2 f)) (λ m j f. tested_went known e _ m j v.0 f (λ z i q. flows_fit ss true known z i v.3 q)) s k h
      flow_fits break b known s k v h = plainly b known s Broke h v
      flow_fits continue b known s k v h = plainly b known s Continued h v
      flow_fits return_nothing b known s k v h = plainly b known s (Returned Nothing) h (subst (λ z. Fits g s.state.objects z Nothing) (sym v) tt)
      flow_fits (return e) b known s k v h = on_then (Did known (type_of a e) s) (Went b [] known s) _ _ (value_fits known ok e s k v.1 h) (λ y m j d.
          went_on b [] known s m m (Returned y) d.grew (plainly b known m (Returned y) d.fine (suits_fits g m.state.objects (type_of a e) result y v.0 d.fits)))
      flow_fits (make x) b known s k v h =
          let c = v.2.0 in let e : type_at types x ≡ ty.Ref c = v.2.1.0 in
          on_then (Did known (ty.Ref c) s) (Went b (x ∷ []) known s) (does (make_variable g (slice_get types x)) s k) (λ y. runs.◌>>=◌ (put_local x y) (λ z. runs.pure Next)) (variable_went x c known s k v.1 e h) (λ y m j d.
          let z = known_too x y known m d.fine (subst (λ t. Fits g m.state.objects t y) (sym e) d.fits) in
          let r : Went b (x ∷ []) known s Next (record { locals = with_local m.locals x y; state = m.state }) = record { goes = tt; grew = d.grew; fine = fewer (x ∷ []) known _ z; next = λ q. z } in r)

      pub flows_fit : (ss : Stmts) (b : Bool) (known : List ℕ) (s : Store) (k : ℕ) → AreValidStmts a result b known ss → Fine known s → On (Went b [] known s) (flows_of w types ss s k)
      flows_fit no_stmts b known s k v h = plainly b known s Next h tt
      flows_fit (stmt_and st ss) b known s k v h = seq_went b (sets st) known (flow_of w types st) (flows_of w types ss) s k (flow_fits st b known s k v.0 h) (λ z j q. flows_fit ss b (sets st ++ known) z j v.1 q)
