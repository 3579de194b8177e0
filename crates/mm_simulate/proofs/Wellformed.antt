-- The lowered program breaks no rule of C.
use Rattle.std.proofs.Common.{◌≡◌, ◌≢◌, ℕ, zero, suc, ◌+◌, ◌<◌, ◌≤◌, List, [], ◌∷◌, ◌++◌, map, length, refl, sym, ap, ap₂, ◌∙◌, subst, arith, inl, inr, length-append, ◌-◌, append-nil, append_assoc}
use Rattle.std.specs.Prelude.{Bool, true, false, not, ◌&&◌, ◌⊎◌, nat_eq, nat_lt, codes, Option, Some, None, slice_get, if◌then◌else◌}
use Rattle.std.specs.List.{list_any}
use Rattle.std.specs.Str.{bytes_eq}
use Rattle.std.proofs.lemmas.Bool.{eqb-true, eq-eqb}
use Rattle.std.proofs.lemmas.Slice.Eq.{bytes_eq-Decides}
use Rattle.mm_classes.specs.declared.class.Ty.{Ty}
use Rattle.mm_classes.specs.declared.class.Ty.TheVariants as ty
use Rattle.mm_classes.specs.Lists.{Has, first, later}
use Rattle.mm_core.specs.Tree.{Stmt, Function, Program}
use Rattle.mm_core.specs.Heads.{is_main, type_at, argument_types, local_types}
use Rattle.mm_core.specs.Run.{number_of_main}
use Rattle.mm_core.specs.ValidProgram.{around, numbers_below, IsValidFunction}
use Rattle.mm_core.specs.Valid.{IsValidStmt}
use Rattle.mm_c.specs.declared.tree.CKind.{CKind}
use Rattle.mm_c.specs.declared.tree.CKind.TheVariants.{Int, Unsigned, Long, Pointer}
use Rattle.mm_c.specs.declared.tree.CLocal.{CLocal}
use Rattle.mm_c.specs.declared.tree.CLinkage.TheVariants.{Public, Static}
use Rattle.mm_c.specs.Tree as tree
use Rattle.mm_c.specs.Tree.{Code, done, ◌⨾◌, just}
use Rattle.mm_c.specs.WellFormed.{Entry, callable, Table, entry_in, prelude, kinds_of, with_item, Here, code_breaks, locals_of, depth_of, code_depth, is_name, is_in, locals_fit, definitions, same_kind, same_result, same_params, same_linkage, defines, may_define, head_fits, function_fits, item_fits, inner_breaks, item_name, items_break, globals_of, breaks, has_main, is_true, well_formed, is_inline, is_public, takes_nothing, is_main as names_main}
use Rattle.mm_c.proofs.Bools.{both}
use Rattle.mm_c.proofs.Fits.{Fit, fit_then, fit_done, fit_return, none_append}
use Rattle.mm_agree.specs.Agree.{Layout, kind_of}
use Rattle.mm_simulate.specs.Names.{Place, local, temporary, named, function_named}
use Rattle.mm_simulate.specs.Lowered.{v_, kind_of_result, locals_from, temporary_local, temporaries, trap_code, ending, lowered_stmt, reach_stmt, nesting_stmt, Defined, is_defined, source_name, name_of, fn_of, item_of, head_of, entry, others, lowered_program}
use Rattle.mm_simulate.specs.Temporaries.{names_in}
use Rattle.mm_simulate.specs.Simulates.{IsScalar, IsShallow, DeclareTheirs}
use Rattle.mm_simulate.proofs.Names.{is_false, function_name}
use Rattle.mm_simulate.proofs.Defined.{defined_as, IsAt, Apart, has_left, has_right, has_either, others_sound, others_apart, entry_is, sound, complete, all_apart}
use Rattle.mm_simulate.proofs.Plain.{trees}
use Rattle.mm_simulate.proofs.Main.{main_there, both_are, main_is, HasBody, body_of, main_arguments}
use Rattle.mm_simulate.proofs.Spelled.{place_spelled, function_spelled, no_function}
use Rattle.mm_simulate.proofs.Mentions.{same_code}
use Rattle.mm_simulate.proofs.Scope.{IsPlaced, IsThere, found, has_map, local_placed, local_there, temporary_placed, temporary_there, all_ints, all_words, all_pointers, one_kind, all_fit_locals, locals_apart, temporaries_apart, no_local, locals_append}
use Rattle.mm_simulate.proofs.Fitting.{Declares, fit_trap}
use Rattle.mm_simulate.proofs.FittingStmts.{stmt_fits}
use Rattle.mm_simulate.proofs.Small.{Small, small_then, small_stmt, small_ending}

-- ---- equal heads

same_kind_self : (k : CKind) → same_kind k k ≡ true
same_kind_self Int = refl
same_kind_self Unsigned = refl
same_kind_self Long = refl
same_kind_self Pointer = refl

same_result_self : (r : Option CKind) → same_result r r ≡ true
same_result_self None = refl
same_result_self (Some Int) = refl
same_result_self (Some Unsigned) = refl
same_result_self (Some Long) = refl
same_result_self (Some Pointer) = refl

same_params_self : (ps : List CLocal) → same_params ps ps ≡ true
same_params_self [] = refl
same_params_self (e ∷ ps) = both (same_kind e.kind e.kind && bytes_eq e.name e.name) (same_params ps ps) (both (same_kind e.kind e.kind) (bytes_eq e.name e.name) (same_kind_self e.kind) ((bytes_eq-Decides e.name e.name).1 refl)) (same_params_self ps)

kinds_local : (x : ℕ) (ts : List Ty) → kinds_of (locals_from x ts) ≡ map kind_of ts
kinds_local x [] = refl
kinds_local x (t ∷ ts) = ap (λ ks. kind_of t ∷ ks) (kinds_local (suc x) ts)

never_inline : (b : Bool) → is_inline (if b then Public else Static) ≡ false
never_inline true = refl
never_inline false = refl

-- ---- tables

entry_if : (y : List ℕ) (e : Entry) (table : Table) (x : List ℕ) (b : Bool) → bytes_eq y x ≡ b → entry_in ((y, e) ∷ table) x ≡ elim b as (λ (z : Bool). Option Entry) [ true ↦ Some e | false ↦ entry_in table x ]
entry_if y e table x b is = ap (λ z. elim z as (λ (z : Bool). Option Entry) [ true ↦ Some e | false ↦ entry_in table x ]) is

type_left : (ts us : List Ty) (i : ℕ) → i < length ts → type_at (ts ++ us) i ≡ type_at ts i
type_left [] us i low = absurd (let z : ⊥ = omega arith in z)
type_left (t ∷ ts) us zero low = refl
type_left (t ∷ ts) us (suc i) low = type_left ts us i (omega arith)

type_right : (ts us : List Ty) (i : ℕ) → type_at (ts ++ us) (length ts + i) ≡ type_at us i
type_right [] us i = ap (type_at us) (let z : 0 + i ≡ i = omega arith in z)
type_right (t ∷ ts) us i = ap (type_at (t ∷ (ts ++ us))) (let z : suc (length ts) + i ≡ suc (length ts + i) = omega arith in z) ∙ type_right ts us i

below : (x n : ℕ) → x < n → nat_lt x n ≡ true
below x n low = grind arith

split_below : (x n m : ℕ) → x < n + m → (x < n) ⊎ ((i : ℕ) × (x ≡ n + i) × (i < m))
split_below x n m low = at (nat_lt x n) refl
  where
    at : (b : Bool) → nat_lt x n ≡ b → (x < n) ⊎ ((i : ℕ) × (x ≡ n + i) × (i < m))
    at true e = inl (let z : x < n = grind arith in z)
    at false e = let le : n ≤ x = grind arith in inr ((x - n), (let z : x ≡ n + (x - n) = omega arith in z), (let z : (x - n) < m = omega arith in z))

module _ (p : Program) (l : Layout) (temps : ℕ → List (CKind × ℕ)) (scalar : IsScalar p) (shallow : IsShallow p) (theirs : DeclareTheirs p l temps) where
  abbrev q : tree.Program
  q = lowered_program p l temps

  abbrev N : ℕ → List ℕ
  N = name_of p

  -- ---- what is known of a function that is written

  list-Has : (fs : List Function) (i : ℕ) (f : Function) → slice_get fs i ≡ Some f → Has fs f
  list-Has [] i f e = cc
  list-Has (g ∷ fs) zero f e = first (let k : g ≡ f = cc in k)
  list-Has (g ∷ fs) (suc i) f e = later (list-Has fs i f e)

  valid_at : (i : ℕ) (f : Function) → slice_get p.functions i ≡ Some f → IsValidFunction is_defined p f
  valid_at i f e = scalar.merged.valid.functions f (list-Has p.functions i f e)

  other_name : (i j : ℕ) → i ≢ j → bytes_eq (N i) (N j) ≡ false
  other_name i j ne = is_false (bytes_eq (N i) (N j)) (λ e. ne (function_name (nat_eq i (number_of_main p.functions)) (nat_eq j (number_of_main p.functions)) i j (number_of_main p.functions) _ _ refl refl ((bytes_eq-Decides (N i) (N j)).0 e)))

  -- its entry, where it is declared
  abbrev entry_of_function : Bool → Function → Entry
  entry_of_function b f = callable false b (kind_of_result f.result) (map kind_of (argument_types p.classes f))

  pub record Prel (table : Table) : Type 0 where
    pub put : entry_in table (codes "mm_put") ≡ Some (callable false true None (Int ∷ []))
    pub get : entry_in table (codes "mm_get") ≡ Some (callable false true (Some Int) [])
    pub more : entry_in table (codes "mm_more") ≡ Some (callable false true (Some Int) [])
    pub trap : entry_in table (codes "mm_trap") ≡ Some (callable false true None (Int ∷ []))

  no_put : (b : Bool) (n : ℕ) (s : List ℕ) → bytes_eq (function_named b n s) (codes "mm_put") ≡ false
  no_put true n s = refl
  no_put false n s = refl

  no_get : (b : Bool) (n : ℕ) (s : List ℕ) → bytes_eq (function_named b n s) (codes "mm_get") ≡ false
  no_get true n s = refl
  no_get false n s = refl

  no_more : (b : Bool) (n : ℕ) (s : List ℕ) → bytes_eq (function_named b n s) (codes "mm_more") ≡ false
  no_more true n s = refl
  no_more false n s = refl

  no_trap : (b : Bool) (n : ℕ) (s : List ℕ) → bytes_eq (function_named b n s) (codes "mm_trap") ≡ false
  no_trap true n s = refl
  no_trap false n s = refl

  prel_more : (i : ℕ) (e : Entry) (table : Table) → Prel table → Prel ((N i, e) ∷ table)
  prel_more i e table h = record {
    put = entry_if (N i) e table (codes "mm_put") false (no_put _ i _) ∙ h.put;
    get = entry_if (N i) e table (codes "mm_get") false (no_get _ i _) ∙ h.get;
    more = entry_if (N i) e table (codes "mm_more") false (no_more _ i _) ∙ h.more;
    trap = entry_if (N i) e table (codes "mm_trap") false (no_trap _ i _) ∙ h.trap;
  }

  -- every function that may be called is in the table
  abbrev Listed : Table → Type 0
  Listed table = (d : Defined) → Has (entry p ++ others p) d → (b : Bool) × (entry_in table (N d.number) ≡ Some (entry_of_function b d.function))

  -- ---- the scope of a function

  module _ (d : Defined) (at : IsAt p.functions d.number d) where
    abbrev arguments : List Ty
    arguments = argument_types p.classes d.function

    abbrev types : List Ty
    types = local_types p.classes d.function

    abbrev ds : List (CKind × ℕ)
    ds = temps d.number

    abbrev scope : List CLocal
    scope = (locals_from (length arguments) d.function.locals ++ map temporary_local ds) ++ locals_from 0 arguments

    abbrev reached : ℕ
    reached = reach_stmt d.body

    abbrev full : List CLocal
    full = scope ++ map temporary_local (temporaries reached)

    abbrev code : Code
    code = lowered_stmt (around is_defined p d.function) l N 0 d.body

    params_placed : (e : CLocal) → Has (locals_from 0 arguments) e → IsPlaced types e
    params_placed e h = local_placed types 0 arguments e (λ i low. ap (type_at types) (let z : 0 + i ≡ i = omega arith in z) ∙ type_left arguments d.function.locals i low) h

    locals_placed : (e : CLocal) → Has (locals_from (length arguments) d.function.locals) e → IsPlaced types e
    locals_placed e h = local_placed types (length arguments) d.function.locals e (λ i low. type_right arguments d.function.locals i) h

    scope_placed : (e : CLocal) → Has scope e → IsPlaced types e
    scope_placed e h = elim (has_either (locals_from (length arguments) d.function.locals ++ map temporary_local ds) (locals_from 0 arguments) e h) [
      | inl k ↦ elim (has_either (locals_from (length arguments) d.function.locals) (map temporary_local ds) e k) [ inl m ↦ locals_placed e m | inr m ↦ temporary_placed types ds e m ]
      | inr k ↦ params_placed e k
    ]

    full_placed : (e : CLocal) → Has full e → IsPlaced types e
    full_placed e h = elim (has_either scope (map temporary_local (temporaries reached)) e h) [ inl k ↦ scope_placed e k | inr k ↦ temporary_placed types (temporaries reached) e k ]

    in_full : (x : List ℕ) → IsThere scope x → IsThere full x
    in_full x t = record { entry = t.entry; has = has_left scope (map temporary_local (temporaries reached)) t.entry t.has; name = t.name }

    in_more : (x : List ℕ) → IsThere (map temporary_local (temporaries reached)) x → IsThere full x
    in_more x t = record { entry = t.entry; has = has_right scope (map temporary_local (temporaries reached)) t.entry t.has; name = t.name }

    local_in : (x : ℕ) → x < length types → IsThere scope (v_ x)
    local_in x low = elim (split_below x (length arguments) (length d.function.locals) (let e = length-append arguments d.function.locals in omega arith)) [
      | inl k ↦ (let t = local_there 0 arguments x k in record { entry = t.entry; has = has_right (locals_from (length arguments) d.function.locals ++ map temporary_local ds) (locals_from 0 arguments) t.entry t.has; name = t.name ∙ ap v_ (let z : 0 + x ≡ x = omega arith in z) })
      | inr k ↦ (let t = local_there (length arguments) d.function.locals k.0 k.2 in record { entry = t.entry; has = has_left (locals_from (length arguments) d.function.locals ++ map temporary_local ds) (locals_from 0 arguments) t.entry (has_left (locals_from (length arguments) d.function.locals) (map temporary_local ds) t.entry t.has); name = t.name ∙ ap v_ (sym k.1) })
    ]

    declared_in : (e : CKind × ℕ) → Has ds e → Has scope (temporary_local e)
    declared_in e h = has_left (locals_from (length arguments) d.function.locals ++ map temporary_local ds) (locals_from 0 arguments) (temporary_local e) (has_right (locals_from (length arguments) d.function.locals) (map temporary_local ds) (temporary_local e) (has_map temporary_local ds e h))

    module _ (table : Table) (prel : Prel table) (listed : Listed table) where
      abbrev here : Here
      here = record { table = table; scope = scope; result = kind_of_result d.function.result; inside_inline = is_inline (if nat_eq d.number (number_of_main p.functions) then Public else Static); in_loop = false }

      abbrev wide : Here
      wide = record { table = table; scope = full; result = kind_of_result d.function.result; inside_inline = is_inline (if nat_eq d.number (number_of_main p.functions) then Public else Static); in_loop = false }

      declares : Declares wide (around is_defined p d.function) l N reached
      declares = record {
        ints = λ t low. found types full (temporary Int t) full_placed (in_more _ (temporary_there (temporaries reached) Int t (all_ints reached t low)));
        words = λ t low. found types full (temporary Unsigned t) full_placed (in_more _ (temporary_there (temporaries reached) Unsigned t (all_words reached t low)));
        pointers = λ t low. found types full (temporary Pointer t) full_placed (in_more _ (temporary_there (temporaries reached) Pointer t (all_pointers reached t low)));
        locals = λ x low. found types full (local x) full_placed (in_full _ (local_in x low));
        put = prel.put;
        get = prel.get;
        more = prel.more;
        trap = prel.trap;
        functions = λ i f e closed ok. (let b = body_of p is_defined f f.defined f.body ok refl (valid_at i f e).body in listed (defined_as i f b.stmt) (complete p i f b.stmt e b.is));
      }

      has_stmt : HasBody p is_defined d.function
      has_stmt = body_of p is_defined d.function d.function.defined d.function.body (defined_is d.function.defined d.function.body refl (valid_at d.number d.function at.there).body) refl (valid_at d.number d.function at.there).body
        where
          defined_is : (b : Bool) (o : Option Stmt) → d.function.body ≡ o → Rattle.mm_core.specs.ValidProgram.BodyFits (around is_defined p d.function) d.function.result b o → b ≡ true
          defined_is true o e h = refl
          defined_is false (Some s) e h = absurd h
          defined_is false None e h = let z : None ≡ Some d.body = sym e ∙ at.has_body in cc

      same_body : has_stmt.stmt ≡ d.body
      same_body = let z : Some has_stmt.stmt ≡ Some d.body = sym has_stmt.is ∙ at.has_body in cc

      body_valid : IsValidStmt (around is_defined p d.function) d.function.result false (numbers_below (length arguments)) d.body
      body_valid = subst (λ b. IsValidStmt (around is_defined p d.function) d.function.result false (numbers_below (length arguments)) b) same_body has_stmt.fits

      body_fits : Fit here code
      body_fits = record { by = ap (list_any is_true) (same_code scope full wide code (one_kind scope ds (temporaries reached) (names_in code) declared_in (theirs d.number d.function d.body at.there at.has_body).mentioned)) ∙ (stmt_fits (around is_defined p d.function) l N reached d.function.result d.body wide false (numbers_below (length arguments)) 0 (record { declares = declares; plain = never_inline (nat_eq d.number (number_of_main p.functions)); gives = refl; loop = λ t. cc }) (trees p scalar.classes valid_at d.number d.function d.body at.there at.has_body) body_valid (omega arith)).by }

      ending_fits : (t : Ty) (b : Bool) → (b ≡ true → t ≡ ty.Int) → (h : Here) → h.result ≡ kind_of_result t → entry_in h.table (codes "mm_trap") ≡ Some (callable false true None (Int ∷ [])) → Fit h (ending t b)
      ending_fits ty.Void b e h r trap = fit_done h
      ending_fits ty.Int true e h r trap = fit_return h Int _ r refl
      ending_fits ty.Bool true e h r trap = let z = e refl in cc
      ending_fits ty.Unsigned true e h r trap = let z = e refl in cc
      ending_fits (ty.Ptr c) true e h r trap = let z = e refl in cc
      ending_fits (ty.Ref c) true e h r trap = let z = e refl in cc
      ending_fits ty.Bool false e h r trap = fit_then h (trap_code 5) _ (fit_trap h trap 5 refl) (fit_return h Int _ r refl)
      ending_fits ty.Int false e h r trap = fit_then h (trap_code 5) _ (fit_trap h trap 5 refl) (fit_return h Int _ r refl)
      ending_fits ty.Unsigned false e h r trap = fit_then h (trap_code 5) _ (fit_trap h trap 5 refl) (fit_return h Unsigned _ r refl)
      ending_fits (ty.Ptr c) false e h r trap = fit_then h (trap_code 5) _ (fit_trap h trap 5 refl) (fit_return h Pointer _ r refl)
      ending_fits (ty.Ref c) false e h r trap = fit_then h (trap_code 5) _ (fit_trap h trap 5 refl) (fit_return h Pointer _ r refl)

      pub inner_fits : list_any is_true (code_breaks here (code ⨾ ending d.function.result (is_main d.function))) ≡ false
      inner_fits = (fit_then here code (ending d.function.result (is_main d.function)) body_fits (ending_fits d.function.result (is_main d.function) (λ e. (main_is d.function e).result) here refl prel.trap)).by

    -- ---- the function by itself

    whole : Code
    whole = code ⨾ ending d.function.result (is_main d.function)

    small : Small (nesting_stmt d.body) (code ⨾ ending d.function.result (is_main d.function))
    small = small_then code (ending d.function.result (is_main d.function)) (small_stmt (around is_defined p d.function) l N d.body 0) (small_ending (nesting_stmt d.body) d.function.result (is_main d.function))

    pub depth_low : nat_lt (depth_of (fn_of p l temps d).body) 4097 ≡ true
    depth_low = let a = small.deep in let b = shallow d.number d.function d.body at.there at.has_body in let z : suc (code_depth (code ⨾ ending d.function.result (is_main d.function))) < 4097 = omega arith in below _ 4097 z

    lists_are : (fn_of p l temps d).params ++ locals_of (fn_of p l temps d).body ≡ locals_from 0 types ++ map temporary_local ds
    lists_are =
        ap (λ z. locals_from 0 arguments ++ ((locals_from (length arguments) d.function.locals ++ map temporary_local ds) ++ z)) small.bare
        ∙ ap (λ z. locals_from 0 arguments ++ z) (append-nil (locals_from (length arguments) d.function.locals ++ map temporary_local ds))
        ∙ sym (append_assoc (locals_from 0 arguments) (locals_from (length arguments) d.function.locals) (map temporary_local ds))
        ∙ ap (λ z. z ++ map temporary_local ds) (sym (locals_append 0 arguments d.function.locals ∙ ap (λ n. locals_from 0 arguments ++ locals_from n d.function.locals) (let z : 0 + length arguments ≡ length arguments = omega arith in z)))

    all_placed : (e : CLocal) → Has (locals_from 0 types ++ map temporary_local ds) e → IsPlaced types e
    all_placed e h = elim (has_either (locals_from 0 types) (map temporary_local ds) e h) [
      | inl k ↦ local_placed types 0 types e (λ i low. ap (type_at types) (let z : 0 + i ≡ i = omega arith in z)) k
      | inr k ↦ temporary_placed types ds e k
    ]

    pub locals_ok : (globals : List (List ℕ)) → ((x : Place) → is_in globals (named x) ≡ false) → locals_fit globals ((fn_of p l temps d).params ++ locals_of (fn_of p l temps d).body) ≡ true
    locals_ok globals free = ap (locals_fit globals) lists_are ∙ all_fit_locals globals (locals_from 0 types ++ map temporary_local ds) (λ e h. one e (all_placed e h)) (locals_apart 0 types (map temporary_local ds) (temporaries_apart ds (theirs d.number d.function d.body at.there at.has_body).once) (no_local ds))
      where
        one : (e : CLocal) → IsPlaced types e → (is_name e.name ≡ true) × (is_in globals e.name ≡ false)
        one e h = (ap is_name h.name ∙ place_spelled h.place, ap (is_in globals) h.name ∙ free h.place)

    -- its head
    head_ok : (b : Bool) (n : ℕ) (s : List ℕ) (r : Option CKind) (ps : List CLocal) → (b ≡ true → (r ≡ Some Int) × (ps ≡ [])) → (if bytes_eq (function_named b n s) (codes "main") then is_public (if b then Public else Static) && same_result r (Some Int) && takes_nothing ps else not (is_public (if b then Public else Static))) ≡ true
    head_ok true n s r ps h = let e = h refl in rw (e.0, e.1) refl
    head_ok false n s r ps h = refl

    main_head : nat_eq d.number (number_of_main p.functions) ≡ true → (kind_of_result d.function.result ≡ Some Int) × (locals_from 0 arguments ≡ [])
    main_head e =
        let there = main_there p.functions scalar.merged.main in
        let is = both_are there.0.defined (is_main there.0) there.2 in
        let number = eqb-true d.number (number_of_main p.functions) e in
        let same : Some d.function ≡ Some there.0 = sym at.there ∙ ap (slice_get p.functions) number ∙ there.1 in
        let f : d.function ≡ there.0 = cc in
        let m = main_is d.function (subst (λ z. is_main z ≡ true) (sym f) is.1) in
        (ap kind_of_result m.result, ap (locals_from 0) (main_arguments p is_defined d.function m))

    pub head_fine : head_fits (fn_of p l temps d) ≡ true
    head_fine = head_ok (nat_eq d.number (number_of_main p.functions)) d.number (source_name (slice_get p.functions d.number)) (kind_of_result d.function.result) (locals_from 0 arguments) main_head

  -- ---- what is no local

  items_clear : (x : Place) (xs : List Defined) → list_any (bytes_eq (named x)) (map item_name (map (item_of p l temps) xs)) ≡ false
  items_clear x [] = refl
  items_clear x (d ∷ xs) = rw (no_function x (nat_eq d.number (number_of_main p.functions)) d.number (source_name (slice_get p.functions d.number))) (items_clear x xs)

  heads_clear : (x : Place) (hs : List Defined) (more : List tree.Item) → list_any (bytes_eq (named x)) (map item_name more) ≡ false → list_any (bytes_eq (named x)) (map item_name (map (head_of p l temps) hs ++ more)) ≡ false
  heads_clear x [] more h = h
  heads_clear x (d ∷ hs) more h = rw (no_function x (nat_eq d.number (number_of_main p.functions)) d.number (source_name (slice_get p.functions d.number))) (heads_clear x hs more h)

  all_clear : (x : Place) → list_any (bytes_eq (named x)) (map item_name q.items) ≡ false
  all_clear x = heads_clear x (others p) (map (item_of p l temps) (entry p ++ others p)) (items_clear x (entry p ++ others p))

  no_global : (x : Place) → is_in (globals_of q) (named x) ≡ false
  no_global (local x) = all_clear (local x)
  no_global (temporary Int t) = all_clear (temporary Int t)
  no_global (temporary Unsigned t) = all_clear (temporary Unsigned t)
  no_global (temporary Long t) = all_clear (temporary Long t)
  no_global (temporary Pointer t) = all_clear (temporary Pointer t)

  -- ---- one function in a table

  abbrev table_with : Defined → Table → Table
  table_with d table = with_item table (item_of p l temps d)

  same_entry : (d : Defined) (table : Table) → table_with d table ≡ (N d.number, entry_of_function true d.function) ∷ table
  same_entry d table = ap₂ (λ b ks. (N d.number, callable b true (kind_of_result d.function.result) ks) ∷ table) (never_inline (nat_eq d.number (number_of_main p.functions))) (kinds_local 0 (argument_types p.classes d.function))

  any_not : (x : Bool) (ys : List Bool) → x ≡ true → list_any is_true ys ≡ false → list_any is_true (not x ∷ ys) ≡ false
  any_not true ys e f = f
  any_not false ys e f = cc

  one_function : (d : Defined) (table : Table) (more : List tree.Item) → Has (entry p ++ others p) d → Prel (table_with d table) → Listed (table_with d table) → may_define (entry_in table (N d.number)) ≡ true → list_any is_true (items_break (table_with d table) (globals_of q) more) ≡ false → list_any is_true (items_break table (globals_of q) (item_of p l temps d ∷ more)) ≡ false
  one_function d table more has prel listed free rest =
      let at = sound p d has in
      any_not (function_fits table (globals_of q) (fn_of p l temps d)) (inner_breaks (table_with d table) (item_of p l temps d) ++ items_break (table_with d table) (globals_of q) more)
      (both _ _ (both _ _ (both _ _ (both _ _ (function_spelled (nat_eq d.number (number_of_main p.functions)) d.number (source_name (slice_get p.functions d.number))) free) (head_fine d at)) (locals_ok d at (globals_of q) no_global)) (depth_low d at))
      (none_append (inner_breaks (table_with d table) (item_of p l temps d)) (items_break (table_with d table) (globals_of q) more) (inner_fits d at (table_with d table) prel listed) rest)

  -- ---- functions

  listed_more : (d : Defined) (table : Table) → Has (entry p ++ others p) d → Listed table → Listed (table_with d table)
  listed_more d table has h e k = subst (λ t. (b : Bool) × (entry_in t (N e.number) ≡ Some (entry_of_function b e.function))) (sym (same_entry d table)) (at (bytes_eq (N d.number) (N e.number)) refl)
    where
      at : (b : Bool) → bytes_eq (N d.number) (N e.number) ≡ b → (b : Bool) × (entry_in ((N d.number, entry_of_function true d.function) ∷ table) (N e.number) ≡ Some (entry_of_function b e.function))
      at true is =
          let number : d.number ≡ e.number = function_name (nat_eq d.number (number_of_main p.functions)) (nat_eq e.number (number_of_main p.functions)) d.number e.number (number_of_main p.functions) _ _ refl refl ((bytes_eq-Decides (N d.number) (N e.number)).0 is) in
          let same : Some d.function ≡ Some e.function = sym (sound p d has).there ∙ ap (slice_get p.functions) number ∙ (sound p e k).there in
          let f : d.function ≡ e.function = cc in
          (true, entry_if (N d.number) (entry_of_function true d.function) table (N e.number) true is ∙ ap (λ z. Some (entry_of_function true z)) f)
      at false is = let r = h e k in (r.0, entry_if (N d.number) (entry_of_function true d.function) table (N e.number) false is ∙ r.1)

  prel_with : (d : Defined) (table : Table) → Prel table → Prel (table_with d table)
  prel_with d table h = subst Prel (sym (same_entry d table)) (prel_more d.number (entry_of_function true d.function) table h)

  free_more : (d e : Defined) (table : Table) → d.number ≢ e.number → may_define (entry_in table (N e.number)) ≡ true → may_define (entry_in (table_with d table) (N e.number)) ≡ true
  free_more d e table ne h = subst (λ t. may_define (entry_in t (N e.number)) ≡ true) (sym (same_entry d table)) (ap may_define (entry_if (N d.number) (entry_of_function true d.function) table (N e.number) false (other_name d.number e.number ne)) ∙ h)

  functions_ok : (ys : List Defined) (table : Table) → Apart ys → ((d : Defined) → Has ys d → Has (entry p ++ others p) d) → Prel table → Listed table → ((d : Defined) → Has ys d → may_define (entry_in table (N d.number)) ≡ true) → list_any is_true (items_break table (globals_of q) (map (item_of p l temps) ys)) ≡ false
  functions_ok [] table apart has prel listed free = refl
  functions_ok (d ∷ ys) table apart has prel listed free =
      let there = has d (first refl) in
      let prel' = prel_with d table prel in
      let listed' = listed_more d table there listed in
      one_function d table (map (item_of p l temps) ys) there prel' listed' (free d (first refl))
      (functions_ok ys (table_with d table) apart.1 (λ e k. has e (later k)) prel' listed' (λ e k. free_more d e table (apart.0 e k) (free e (later k))))

  -- ---- heads

  definitions_if : (d : Defined) (x : List ℕ) (more : List tree.Item) (b : Bool) → bytes_eq (N d.number) x ≡ b → definitions x (item_of p l temps d ∷ more) ≡ (if b then fn_of p l temps d ∷ definitions x more else definitions x more)
  definitions_if d x more b e = ap (λ (z : Bool). if z then fn_of p l temps d ∷ definitions x more else definitions x more) e

  definitions_none : (xs : List Defined) (i : ℕ) → ((e : Defined) → Has xs e → e.number ≢ i) → definitions (N i) (map (item_of p l temps) xs) ≡ []
  definitions_none [] i h = refl
  definitions_none (d ∷ xs) i h = definitions_if d (N i) (map (item_of p l temps) xs) false (other_name d.number i (h d (first refl))) ∙ definitions_none xs i (λ e k. h e (later k))

  definitions_one : (xs : List Defined) (d : Defined) → Apart xs → Has xs d → definitions (N d.number) (map (item_of p l temps) xs) ≡ fn_of p l temps d ∷ []
  definitions_one [] d a h = absurd (elim h [ ])
  definitions_one (x ∷ xs) d a (first e) = subst (λ (z : Defined). definitions (N z.number) (map (item_of p l temps) (x ∷ xs)) ≡ fn_of p l temps z ∷ []) e (definitions_if x (N x.number) (map (item_of p l temps) xs) true ((bytes_eq-Decides (N x.number) (N x.number)).1 refl) ∙ ap (λ fs. fn_of p l temps x ∷ fs) (definitions_none xs x.number (λ y k n. a.0 y k (sym n))))
  definitions_one (x ∷ xs) d a (later h) = definitions_if x (N d.number) (map (item_of p l temps) xs) false (other_name x.number d.number (a.0 d h)) ∙ definitions_one xs d a.1 h

  definitions_heads : (hs : List Defined) (more : List tree.Item) (x : List ℕ) → definitions x (map (head_of p l temps) hs ++ more) ≡ definitions x more
  definitions_heads [] more x = refl
  definitions_heads (d ∷ hs) more x = definitions_heads hs more x

  abbrev table_head : Defined → Table → Table
  table_head d table = with_item table (head_of p l temps d)

  same_head : (d : Defined) (table : Table) → table_head d table ≡ (N d.number, entry_of_function false d.function) ∷ table
  same_head d table = ap (λ ks. (N d.number, callable false false (kind_of_result d.function.result) ks) ∷ table) (kinds_local 0 (argument_types p.classes d.function))

  abbrev after : List Defined → Table → Table
  after [] table = table
  after (d ∷ hs) table = after hs (table_head d table)

  abbrev names_of : Table → List (List ℕ)
  names_of table = map (λ (e : List ℕ × Entry). e.0) table

  linked : (b : Bool) → b ≡ false → same_linkage false (if b then Public else Static) ≡ true
  linked true e = cc
  linked false e = refl

  defined_once : (d : Defined) → nat_eq d.number (number_of_main p.functions) ≡ false → defines (record { is_inline = false; result = (fn_of p l temps d).result; name = (fn_of p l temps d).name; params = (fn_of p l temps d).params }) (fn_of p l temps d ∷ []) ≡ true
  defined_once d off = both _ _ (both _ _ (linked (nat_eq d.number (number_of_main p.functions)) off) (same_result_self (kind_of_result d.function.result))) (same_params_self (locals_from 0 (argument_types p.classes d.function)))

  any_true : (x : Bool) (ys : List Bool) → x ≡ true → list_any is_true (not x ∷ ys) ≡ list_any is_true ys
  any_true true ys e = refl
  any_true false ys e = cc

  heads_ok : (hs : List Defined) (table : Table) → Apart hs → ((d : Defined) → Has hs d → Has (others p) d) → ((d : Defined) → Has hs d → is_in (names_of table) (N d.number) ≡ false) → list_any is_true (items_break table (globals_of q) (map (head_of p l temps) hs ++ map (item_of p l temps) (entry p ++ others p))) ≡ list_any is_true (items_break (after hs table) (globals_of q) (map (item_of p l temps) (entry p ++ others p)))
  heads_ok [] table apart has fresh = refl
  heads_ok (d ∷ hs) table apart has fresh =
      let is = others_sound (number_of_main p.functions) p.functions 0 d (has d (first refl)) in
      any_true (item_fits table (globals_of q) (map (head_of p l temps) hs ++ map (item_of p l temps) (entry p ++ others p)) (head_of p l temps d)) (items_break (table_head d table) (globals_of q) (map (head_of p l temps) hs ++ map (item_of p l temps) (entry p ++ others p)))
      (both _ _ (both _ _ (function_spelled (nat_eq d.number (number_of_main p.functions)) d.number (source_name (slice_get p.functions d.number))) (ap not (fresh d (first refl))))
      (ap (defines (record { is_inline = false; result = (fn_of p l temps d).result; name = (fn_of p l temps d).name; params = (fn_of p l temps d).params })) (definitions_heads hs (map (item_of p l temps) (entry p ++ others p)) (N d.number) ∙ definitions_one (entry p ++ others p) d (all_apart p) (has_right (entry p) (others p) d (has d (first refl)))) ∙ defined_once d is.other))
      ∙ heads_ok hs (table_head d table) apart.1 (λ e k. has e (later k)) (λ e k. still e k)
    where
      still : (e : Defined) → Has hs e → is_in (names_of (table_head d table)) (N e.number) ≡ false
      still e k = rw (other_name e.number d.number (λ n. apart.0 e k (sym n))) (fresh e (later k))

  -- ---- the table behind the heads

  after_other : (hs : List Defined) (table : Table) (x : List ℕ) → ((d : Defined) → Has hs d → bytes_eq (N d.number) x ≡ false) → entry_in (after hs table) x ≡ entry_in table x
  after_other [] table x h = refl
  after_other (d ∷ hs) table x h = after_other hs (table_head d table) x (λ e k. h e (later k)) ∙ ap (λ t. entry_in t x) (same_head d table) ∙ entry_if (N d.number) (entry_of_function false d.function) table x false (h d (first refl))

  after_there : (hs : List Defined) (table : Table) (d : Defined) → Apart hs → Has hs d → entry_in (after hs table) (N d.number) ≡ Some (entry_of_function false d.function)
  after_there [] table d a h = absurd (elim h [ ])
  after_there (x ∷ hs) table d a (first e) = subst (λ (z : Defined). entry_in (after (x ∷ hs) table) (N z.number) ≡ Some (entry_of_function false z.function)) e (after_other hs (table_head x table) (N x.number) (λ y k. other_name y.number x.number (λ n. a.0 y k (sym n))) ∙ ap (λ t. entry_in t (N x.number)) (same_head x table) ∙ entry_if (N x.number) (entry_of_function false x.function) table (N x.number) true ((bytes_eq-Decides (N x.number) (N x.number)).1 refl))
  after_there (x ∷ hs) table d a (later h) = after_there hs (table_head x table) d a.1 h

  after_prel : (hs : List Defined) (table : Table) → Prel table → Prel (after hs table)
  after_prel [] table h = h
  after_prel (d ∷ hs) table h = after_prel hs (table_head d table) (subst Prel (sym (same_head d table)) (prel_more d.number (entry_of_function false d.function) table h))

  -- no function has a name of the prelude
  not_prelude : (b : Bool) (n : ℕ) (s : List ℕ) → is_in (names_of prelude) (function_named b n s) ≡ false
  not_prelude true n s = refl
  not_prelude false n s = refl

  no_entry : (b : Bool) (n : ℕ) (s : List ℕ) → entry_in prelude (function_named b n s) ≡ None
  no_entry true n s = refl
  no_entry false n s = refl

  abbrev T : Table
  T = after (others p) prelude

  prel_T : Prel T
  prel_T = after_prel (others p) prelude (record { put = refl; get = refl; more = refl; trap = refl })

  others_are_apart : Apart (others p)
  others_are_apart = others_apart (number_of_main p.functions) p.functions 0

  no_other : (i : ℕ) → nat_eq i (number_of_main p.functions) ≡ false → i ≢ number_of_main p.functions
  no_other i e q = let z = eq-eqb i (number_of_main p.functions) q in let y : true ≡ false = sym z ∙ e in cc

  -- ---- `main`, and then the others

  record Entry' : Type 0 where
    first' : Defined
    is : entry p ≡ first' ∷ []
    number : first'.number ≡ number_of_main p.functions

  the_entry : Entry'
  the_entry =
      let there = main_there p.functions scalar.merged.main in
      let f = there.0 in
      let is = both_are f.defined (is_main f) there.2 in
      let b = body_of p is_defined f f.defined f.body is.0 refl (valid_at (number_of_main p.functions) f there.1).body in
      record { first' = defined_as (number_of_main p.functions) f b.stmt; is = entry_is p.functions (number_of_main p.functions) f b.stmt there.1 b.is; number = refl }

  items_at : (d : Defined) → entry p ≡ d ∷ [] → d.number ≡ number_of_main p.functions → list_any is_true (items_break T (globals_of q) (map (item_of p l temps) (d ∷ others p))) ≡ false
  items_at d is number =
      one_function d T (map (item_of p l temps) (others p)) there (prel_with d T prel_T) listed free
      (functions_ok (others p) (table_with d T) others_are_apart (λ e k. has_right (entry p) (others p) e k) (prel_with d T prel_T) listed (λ e k. free_more d e T (λ n. apart e k (sym n)) (ap may_define (after_there (others p) prelude e others_are_apart k))))
    where
      there : Has (entry p ++ others p) d
      there = has_left (entry p) (others p) d (subst (λ ds. Has ds d) (sym is) (first refl))

      apart : (e : Defined) → Has (others p) e → e.number ≢ d.number
      apart e k n = no_other e.number (others_sound (number_of_main p.functions) p.functions 0 e k).other (n ∙ number)

      free : may_define (entry_in T (N d.number)) ≡ true
      free = ap may_define (after_other (others p) prelude (N d.number) (λ e k. other_name e.number d.number (apart e k)) ∙ no_entry _ _ _)

      listed : Listed (table_with d T)
      listed e k = subst (λ t. (b : Bool) × (entry_in t (N e.number) ≡ Some (entry_of_function b e.function))) (sym (same_entry d T)) (at (has_either (entry p) (others p) e k))
        where
          at : Has (entry p) e ⊎ Has (others p) e → (b : Bool) × (entry_in ((N d.number, entry_of_function true d.function) ∷ T) (N e.number) ≡ Some (entry_of_function b e.function))
          at (inl m) = itself (subst (λ ds. Has ds e) is m)
            where
              itself : Has (d ∷ []) e → (b : Bool) × (entry_in ((N d.number, entry_of_function true d.function) ∷ T) (N e.number) ≡ Some (entry_of_function b e.function))
              itself (first q) = subst (λ (z : Defined). (b : Bool) × (entry_in ((N d.number, entry_of_function true d.function) ∷ T) (N z.number) ≡ Some (entry_of_function b z.function))) q (true, entry_if (N d.number) (entry_of_function true d.function) T (N d.number) true ((bytes_eq-Decides (N d.number) (N d.number)).1 refl))
              itself (later h) = absurd (elim h [ ])
          at (inr m) = (false, entry_if (N d.number) (entry_of_function true d.function) T (N e.number) false (other_name d.number e.number (λ n. apart e m (sym n))) ∙ after_there (others p) prelude e others_are_apart m)

  items_ok : list_any is_true (items_break T (globals_of q) (map (item_of p l temps) (entry p ++ others p))) ≡ false
  items_ok = subst (λ ds. list_any is_true (items_break T (globals_of q) (map (item_of p l temps) (ds ++ others p))) ≡ false) (sym the_entry.is) (items_at the_entry.first' the_entry.is the_entry.number)

  none_broken : list_any is_true (breaks q) ≡ false
  none_broken = heads_ok (others p) prelude others_are_apart (λ d k. k) (λ d k. not_prelude (nat_eq d.number (number_of_main p.functions)) d.number (source_name (slice_get p.functions d.number))) ∙ items_ok

  -- ---- `main` is there

  main_in : (hs : List Defined) (xs : List tree.Item) → list_any names_main xs ≡ true → list_any names_main (map (head_of p l temps) hs ++ xs) ≡ true
  main_in [] xs h = h
  main_in (d ∷ hs) xs h = main_in hs xs h

  main_first : list_any names_main (map (item_of p l temps) (entry p ++ others p)) ≡ true
  main_first = subst (λ ds. list_any names_main (map (item_of p l temps) (ds ++ others p)) ≡ true) (sym the_entry.is) (rw (named_main the_entry.first'.number the_entry.number) refl)
    where
      named_main : (n : ℕ) → n ≡ number_of_main p.functions → bytes_eq (N n) (codes "main") ≡ true
      named_main n e = ap (λ b. bytes_eq (function_named b n (source_name (slice_get p.functions n))) (codes "main")) (eq-eqb n (number_of_main p.functions) e)

  -- the theorem
  pub keeps_rules : well_formed q ≡ true
  keeps_rules = both (not (list_any is_true (breaks q))) (has_main q) (ap not none_broken) (main_in (others p) (map (item_of p l temps) (entry p ++ others p)) main_first)
