-- What a valid function gives fits its result type.
use Rattle.std.proofs.Common.{◌≡◌, ℕ, zero, suc, ◌<◌, List, [], ◌∷◌, ◌++◌, map, length, refl, inl, inr, arith}
use Rattle.std.specs.Prelude.{pos, Bool, true, false, not, ◌&&◌, ◌*◌, ◌+◌, IsTrue, codes, if◌then◌else◌, get_or}
use Rattle.std.specs.Str.{bytes_eq}
use Rattle.std.proofs.lemmas.Bool.{eqb-true}
use Rattle.mm_base.specs.declared.num.Trap.TheVariants as by
use Rattle.mm_meaning.specs.Run as runs
use Rattle.mm_meaning.specs.Run.{Run, Gives, Stops}
use Rattle.mm_classes.specs.declared.class.Ty.{Ty}
use Rattle.mm_classes.specs.declared.class.Ty.TheVariants as ty
use Rattle.mm_classes.specs.Lists.{Has, first, later}
use Rattle.mm_classes.specs.Classes.{Class}
use Rattle.mm_core.specs.Tree.{Stmt, block, Function, Program}
use Rattle.mm_core.specs.Heads.{is_reference, same_type, is_main, has_params, argument_types, local_types, type_at}
use Rattle.mm_core.specs.State.{Value, Nothing, Number, zero_of, Object, State, Store, start, Stop, trap}
use Rattle.mm_core.specs.Virtual.{Calls}
use Rattle.mm_core.specs.Meaning.{Flow, Next, Broke, Continued, Returned, flow_of, result_of, enter, setting_of}
use Rattle.mm_core.specs.Valid.{IsValidStmt, sets}
use Rattle.mm_core.specs.ValidProgram.{numbers_below, around, IsBody}
use Rattle.mm_core.specs.Fits.{Fits, AllFit, Grew, IsState}
use Rattle.mm_core.specs.Keeps.{On, Gave, Frame, inside, Known, ValuesFit}
use Rattle.mm_core.proofs.Sets.{and_is}
use Rattle.mm_core.proofs.Heap.{zero_fits, either_way}
use Rattle.mm_core.proofs.Sound.{on_weaker, Fine, Went, flow_fits}

pub below-Has : (n x : ℕ) → Has (numbers_below n) x → x < n
below-Has zero x h = elim h [ ]
below-Has (suc n) x (first e) = omega arith
below-Has (suc n) x (later h) = let l = below-Has n x h in omega arith

module _ (g : List Class) (xs : List Object) where
  pub variables_fit : (ls : List Ty) (x : ℕ) → x < length ls → is_reference (type_at ls x) ≡ false → Fits g xs (type_at ls x) (get_or (map zero_of ls) x Nothing)
  variables_fit [] x l e = absurd (let z : ⊥ = omega arith in z)
  variables_fit (t ∷ ls) zero l e = zero_fits g xs t e
  variables_fit (t ∷ ls) (suc x) l e = variables_fit ls x (omega arith) e

  pub start_fits : (ts : List Ty) (vs : List Value) (ls : List Ty) (x : ℕ) → AllFit g xs ts vs → x < length (ts ++ ls) → (IsTrue (is_reference (type_at (ts ++ ls) x)) → x < length ts) → Fits g xs (type_at (ts ++ ls) x) (get_or (vs ++ map zero_of ls) x Nothing)
  start_fits [] [] ls x f l n = variables_fit ls x l (elim (either_way (is_reference (type_at ls x))) [ inl e ↦ absurd (let z : x < 0 = n e in let y : ⊥ = omega arith in y) | inr e ↦ e ])
  start_fits [] (v ∷ vs) ls x f l n = absurd f
  start_fits (t ∷ ts) [] ls x f l n = absurd f
  start_fits (t ∷ ts) (v ∷ vs) ls zero f l n = f.0
  start_fits (t ∷ ts) (v ∷ vs) ls (suc x) f l n = start_fits ts vs ls x f.1 (omega arith) (λ r. let z = n r in omega arith)

  void_is : (t : Ty) → same_type t ty.Void ≡ true → Fits g xs t Nothing
  void_is ty.Void e = tt
  void_is ty.Bool e = cc
  void_is ty.Int e = cc
  void_is ty.Unsigned e = cc
  void_is (ty.Ptr c) e = let k = eqb-true (c * 2 + 4) 0 e in absurd (let z : ⊥ = omega arith in z)
  void_is (ty.Ref c) e = let k = eqb-true (c * 2 + 5) 0 e in absurd (let z : ⊥ = omega arith in z)

  int_is : (t : Ty) → same_type t ty.Int ≡ true → Fits g xs t (Number (pos 0))
  int_is ty.Int e = refl
  int_is ty.Void e = cc
  int_is ty.Bool e = cc
  int_is ty.Unsigned e = cc
  int_is (ty.Ptr c) e = let k = eqb-true (c * 2 + 4) 2 e in absurd (let z : ⊥ = omega arith in z)
  int_is (ty.Ref c) e = let k = eqb-true (c * 2 + 5) 2 e in absurd (let z : ⊥ = omega arith in z)

  main_is : (f : Function) → is_main f ≡ true → Fits g xs f.result (Number (pos 0))
  main_is f e =
      let a = and_is (bytes_eq f.name (codes "main")) (not f.member && (not (has_params f.params) && same_type f.result ty.Int)) e in
      let b = and_is (not f.member) (not (has_params f.params) && same_type f.result ty.Int) a.1 in
      let c = and_is (not (has_params f.params)) (same_type f.result ty.Int) b.1 in
      int_is f.result c.1

module _ (p : Program) (callable : Function → Bool) (calls : Calls) (f : Function) where
  abbrev g : List Class
  g = p.classes

  ended : (b d : Bool) (s t : State) (k : ℕ) → same_type f.result ty.Void ≡ b → is_main f ≡ d → Grew s.objects t.objects → IsState g t → On (Gave g f.result s) ((if b then runs.pure Nothing else (if d then runs.pure (Number (pos 0)) else trap by.NoResult)) t k)
  ended true d s t k e i gr h = record { fits = void_is g t.objects f.result e; grew = gr; state = h }
  ended false true s t k e i gr h = record { fits = main_is g t.objects f i; grew = gr; state = h }
  ended false false s t k e i gr h = tt

  abbrev types : List Ty
  types = local_types g f

  abbrev count : ℕ
  count = length (argument_types g f)

  abbrev here : Frame
  here = inside p callable calls f

  pub result_fits : (ok : Known here) (known : List ℕ) (s : Store) (x : Run Stop Store Flow) → On (Went here ok f.result false [] known s) x → On (Gave g f.result s.state) (result_of f x)
  result_fits ok known s (Gives Next m k) h = ended (same_type f.result ty.Void) (is_main f) s.state m.state k refl refl h.grew h.fine.state
  result_fits ok known s (Gives Broke m k) h = let e = h.goes in cc
  result_fits ok known s (Gives Continued m k) h = let e = h.goes in cc
  result_fits ok known s (Gives (Returned v) m k) h = record { fits = h.goes; grew = h.grew; state = h.fine.state }
  result_fits ok known s (Stops t m) h = tt

  -- a function that is entered on arguments of its types
  pub function_fits : (ok : Known here) (body : Stmt) (vs : List Value) (s : State) (k : ℕ) → IsValidStmt (around callable p f) f.result false (numbers_below count) body → AllFit g s.objects (argument_types g f) vs → IsState g s → On (Gave g f.result s) (enter (setting_of p calls) f body vs s k)
  function_fits ok body vs s k v h i =
      let known = numbers_below count in
      let s0 : Store = record { locals = start vs f.locals; state = s } in
      let fine : Fine here known s0 = record { state = i; locals = λ x l n. start_fits g s.objects (argument_types g f) vs f.locals x h l (λ r. below-Has count x (n r)) } in
      result_fits ok known s0 (flow_of (setting_of p calls) types body s0 k) (drop_next known s0 (flow_of (setting_of p calls) types body s0 k) (flow_fits here ok f.result body false known s0 k v fine))
    where
      drop_next : (known : List ℕ) (s0 : Store) (x : Run Stop Store Flow) → On (Went here ok f.result false (sets body) known s0) x → On (Went here ok f.result false [] known s0) x
      drop_next known s0 x q = on_weaker (Went here ok f.result false (sets body) known s0) (Went here ok f.result false [] known s0) x (λ flow m d. record { goes = d.goes; grew = d.grew; fine = d.fine; next = λ e. d.fine }) q

body_fits : (p : Program) (callable : Function → Bool) (calls : Calls) (f : Function) (body : Stmt) (vs : List Value) (s : State) (k : ℕ) → Known (inside p callable calls f) → IsBody (around callable p f) f.result body → AllFit p.classes s.objects (argument_types p.classes f) vs → IsState p.classes s → On (Gave p.classes f.result s) (enter (setting_of p calls) f body vs s k)
body_fits p callable calls f (block ss) vs s k ok v h i = function_fits p callable calls f ok (block ss) vs s k v h i
body_fits p callable calls f body vs s k ok v h i = absurd v

-- the law
pub values_fit_types : ValuesFit
values_fit_types = record { by = body_fits }
