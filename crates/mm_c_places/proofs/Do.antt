-- Statements do with places what they do with names.
use Rattle.std.specs.Prelude.{Bool, true, false, ℤ, pos, negsuc, Option, Some, None, nat_lt, ◌^◌, ◌-◌, ◌%◌, if◌then◌else◌}
use Rattle.std.specs.Option.{option_map}
use Rattle.std.proofs.Common.{◌≡◌, ℕ, zero, suc, List, [], ◌∷◌, ◌++◌, map, refl, sym, ap, ap₂, ◌∙◌, subst, arith}
use Rattle.mm_base.specs.Num.{to_int}
use Rattle.mm_meaning.specs.Run.{Run, Gives, Stops, ◌>>=◌, then, pure, stop, step, within}
use Rattle.mm_meaning.proofs.Laws.{then_then}
use Rattle.mm_c.specs.declared.value.CCell.{CCell}
use Rattle.mm_c.specs.declared.value.CCell.TheVariants as cell
use Rattle.mm_c.specs.declared.value.CValue.{CValue}
use Rattle.mm_c.specs.declared.value.CValue.TheVariants.{Int, Unsigned, Long, Null, At}
use Rattle.mm_c.specs.declared.tree.CNumber.{CNumber}
use Rattle.mm_c.specs.declared.tree.CAtom.{CAtom}
use Rattle.mm_c.specs.declared.tree.CAtom.TheVariants.{Name, Number, Negative, Least}
use Rattle.mm_c.specs.declared.tree.CAddress.{CAddress}
use Rattle.mm_c.specs.declared.tree.CIndex.{CIndex}
use Rattle.mm_c.specs.declared.tree.CIndex.TheVariants as index_is
use Rattle.mm_c.specs.declared.tree.CCall.{CCall}
use Rattle.mm_c.specs.declared.tree.CCall.TheVariants.{Named, Element}
use Rattle.mm_c.specs.declared.tree.CExpr.{CExpr}
use Rattle.mm_c.specs.declared.tree.CExpr.TheVariants.{Atom, Binary, ToInt, ToUnsigned, Load, Index, Call}
use Rattle.mm_c.specs.declared.tree.CLocal.{CLocal}
use Rattle.mm_c.specs.Tokens.{is_number}
use Rattle.mm_c.specs.Tree.{Stmt, assign, store, run, if_only, if_else, forever, break, continue, leave, return, Block, block, Code, done, do_then, Item}
use Rattle.mm_c.specs.Memory as memory
use Rattle.mm_c.specs.CMeaning.{Stop, Spent, Stuck, State, Names, Kinds, From, stuck, or_stuck, fitted, fitted_in, operate, as_int, as_unsigned, as_index, index_in, long_of, at_index, number_value, minus, atoms_in, values_of, Flow, Next, Broke, Continued, Returned}
use Rattle.mm_c.specs.CMeaning as n
use Rattle.mm_c_placed.specs.declared.tree.Right.{Right}
use Rattle.mm_c_placed.specs.declared.tree.Right.TheVariants as right_is
use Rattle.mm_c_placed.specs.Meaning.{Frame}
use Rattle.mm_c_placed.specs.Meaning as c
use Rattle.mm_c_placed.specs.Tree as t
use Rattle.mm_c_places.specs.Places.{place_of, kind_or, array_number, callee_at, places, numbers}
use Rattle.mm_c_places.specs.Placed.{opposite, number, operand, operands, address, index, own_local, local_of, target, call, assigned, placed_stmt, placed_block, placed_code}
use Rattle.mm_c_places.specs.Seen.{Sees, Agree, SeesAtom, SeesAtoms, SeesIndex, SeesCall, SeesRight, SeesStmt, SeesBlock, SeesCode}
use Rattle.mm_c_places.specs.Near.{Near}
use Rattle.mm_c_places.specs.Does.{Alike, both_give, both_stop, Does, SameAround}
use Rattle.mm_c_places.proofs.Nears.{near_less, near_set, near_zeroed, sees_inside}

-- ---- runs, put together

module _ {A B : Type 0} (all : List CLocal) where
  alike_then : (mid after : List CLocal) {x : Run Stop n.Store A} {y : Run Stop c.Store A} {f : A → From n.Store B} {f' : A → From c.Store B} → Alike all mid x y → ((a : A) → Does all mid after (f a) (f' a)) → Alike all after ((then) x f) ((then) y f')
  alike_then mid after (both_give near) h = (h _).by _ _ _ _ _ near
  alike_then mid after both_stop h = both_stop

  does_then : {before mid after : List CLocal} {m : From n.Store A} {m' : From c.Store A} {f : A → From n.Store B} {f' : A → From c.Store B} → Does all before mid m m' → ((a : A) → Does all mid after (f a) (f' a)) → Does all before after (m >>= f) (m' >>= f')
  does_then {before} {mid} {after} g h = record { by = λ names kinds frame w k near. alike_then mid after (g.by names kinds frame w k near) h }

module _ {A : Type 0} (all : List CLocal) where
  does_pure : {scope : List CLocal} (a : A) → Does all scope scope (pure a) (pure a)
  does_pure a = record { by = λ names kinds frame w k near. both_give near }

  does_stop : {scope : List CLocal} (x : Stop) → Does {A = A} all scope scope (stop x) (stop x)
  does_stop x = record { by = λ names kinds frame w k near. both_stop }

  does_or_stuck : {scope : List CLocal} (o : Option A) → Does all scope scope (or_stuck o) (or_stuck o)
  does_or_stuck None = does_stop Stuck
  does_or_stuck (Some a) = does_pure a

  alike_less : (scope less : List CLocal) {x : Run Stop n.Store A} {y : Run Stop c.Store A} → ((z : List ℕ) → Sees less z → Sees scope z) → Alike all scope x y → Alike all less x y
  alike_less scope less h (both_give near) = both_give (near_less all scope less _ _ _ h near)
  alike_less scope less h both_stop = both_stop

  -- the names that a block declares are seen no more
  does_less : {before scope less : List CLocal} {m : From n.Store A} {m' : From c.Store A} → ((z : List ℕ) → Sees less z → Sees scope z) → Does all before scope m m' → Does all before less m m'
  does_less {before} {scope} {less} h g = record { by = λ names kinds frame w k near. alike_less scope less h (g.by names kinds frame w k near) }

  step_alike : (scope : List CLocal) (m : From n.Store A) (m' : From c.Store A) (names : Names) (kinds : Kinds) (frame : Frame) (w : State) (k : ℕ) → Does all scope scope m m' → Near all scope names kinds frame
      → Alike all scope (step Spent m (record { names = names; kinds = kinds; state = w }) k) (step Spent m' (record { frame = frame; state = w }) k)
  step_alike scope m m' names kinds frame w zero h near = both_stop
  step_alike scope m m' names kinds frame w (suc k) h near = h.by names kinds frame w k near

  does_step : {scope : List CLocal} {m : From n.Store A} {m' : From c.Store A} → Does all scope scope m m' → Does all scope scope (step Spent m) (step Spent m')
  does_step {scope} {m} {m'} h = record { by = λ names kinds frame w k near. step_alike scope m m' names kinds frame w k h near }

  within_alike : (scope : List CLocal) (names : Names) (kinds : Kinds) (frame : Frame) (r : Run Stop State A) → Near all scope names kinds frame
      → Alike all scope (within (λ t. record { names = names; kinds = kinds; state = t }) r) (within (λ t. record { frame = frame; state = t }) r)
  within_alike scope names kinds frame (Gives a w k) near = both_give near
  within_alike scope names kinds frame (Stops x w) near = both_stop

-- ---- operands

pub long_same : (m : ℕ) → nat_lt m (2 ^ 31) ≡ true → to_int m ≡ pos m
long_same m e = ap (λ b. if b then pos m else negsuc (2 ^ 32 - suc m)) e

number_same : (m : CNumber) → is_number m ≡ true → number m ≡ number_value m
number_same m e = go m.is_unsigned e
  where
    go : (b : Bool) → nat_lt m.value (if b then 2 ^ 32 else 2 ^ 31) ≡ true → (if b then Unsigned m.value else Int (to_int m.value)) ≡ (if b then Unsigned m.value else Int (pos m.value))
    go true e = refl
    go false e = ap Int (long_same m.value e)

pub opposite_same : (m : ℕ) → nat_lt m (2 ^ 31) ≡ true → opposite m ≡ minus m
opposite_same zero e = refl
opposite_same (suc m) e =
    let small : (2 ^ 32 - suc m) % 2 ^ 32 ≡ 2 ^ 32 - suc m = grind (arith, e) in
    let large : nat_lt (2 ^ 32 - suc m) (2 ^ 31) ≡ false = grind (arith, e) in
    let back : 2 ^ 32 - suc (2 ^ 32 - suc m) ≡ m = grind (arith, e) in
    ap to_int small ∙ ap (λ b. if b then pos (2 ^ 32 - suc m) else negsuc (2 ^ 32 - suc (2 ^ 32 - suc m))) large ∙ ap negsuc back

module _ (all scope : List CLocal) (names : Names) (kinds : Kinds) (frame : Frame) (near : Near all scope names kinds frame) where
  atom_same : (a : CAtom) → SeesAtom scope a → n.atom_of names a ≡ c.operand_of frame (operand (places all) a)
  atom_same (Name x) h = near.value x h
  atom_same (Number m) h = sym (number_same m h)
  atom_same (Negative m) h = ap Int (sym (opposite_same m.value h))
  atom_same Least h = refl

  atoms_same : (as_ : List CAtom) → SeesAtoms scope as_ → values_of names as_ ≡ map (c.operand_of frame) (operands (places all) as_)
  atoms_same [] h = refl
  atoms_same (a ∷ as_) h = ap₂ (λ v vs. v ∷ vs) (atom_same a h.0) (atoms_same as_ h.1)

  module _ (w : State) where
    loaded_same : (d : CCell) (p : CAddress) → Sees scope p.pointer → n.loaded (record { names = names; kinds = kinds; state = w }) d p ≡ c.loaded (record { frame = frame; state = w }) d (address (places all) p)
    loaded_same d p h = ap (λ v. memory.load w.memory d v p.offset.value) (near.value p.pointer h)

    index_same : (i : CIndex) → SeesIndex scope i → n.index_of (record { names = names; kinds = kinds; state = w }) i ≡ c.index_of (record { frame = frame; state = w }) (index (places all) i)
    index_same (index_is.Name x) h = ap as_index (near.value x h)
    index_same (index_is.Tag p) h = ap index_in (loaded_same cell.Short p h)

-- ---- right sides and calls

module _ (items : List Item) (m : n.Around) (m' : c.Around) (same : SameAround items m m') (all : List CLocal) where
  at_same : (a : List ℕ) (o : Option ℤ) → option_map (callee_at (numbers items)) (at_index (m.function_at a) o) ≡ at_index (m'.function_at (array_number items a)) o
  at_same a None = refl
  at_same a (Some i) = same.functions a i

  number_at_same : (a : List ℕ) (o : Option ℤ) → at_index (m.number_at a) o ≡ at_index (m'.number_at (array_number items a)) o
  number_at_same a None = refl
  number_at_same a (Some i) = same.numbers a i

  target_same : (scope : List CLocal) (names : Names) (kinds : Kinds) (frame : Frame) (w : State) → Near all scope names kinds frame → (d : CCall) → SeesCall scope d
      → option_map (callee_at (numbers items)) (n.target_in m (record { names = names; kinds = kinds; state = w }) d) ≡ c.callee_in m' (record { frame = frame; state = w }) (target (numbers items) (places all) d)
  target_same scope names kinds frame w near (Named f as_) h = refl
  target_same scope names kinds frame w near (Element a x as_) h = ap (λ v. option_map (callee_at (numbers items)) (at_index (m.function_at a) (as_index v))) (near.value x h.0) ∙ at_same a (as_index (frame (place_of all x)))

  called_same : (o : Option (List ℕ)) (vs : List CValue) (w : State) (k : ℕ) → n.called m o vs w k ≡ c.called m' (option_map (callee_at (numbers items)) o) vs w k
  called_same None vs w k = refl
  called_same (Some f) vs w k = same.call f vs w k

  values_same : (scope : List CLocal) (names : Names) (kinds : Kinds) (frame : Frame) → Near all scope names kinds frame → (d : CCall) → SeesCall scope d → values_of names (atoms_in d) ≡ map (c.operand_of frame) (operands (places all) (atoms_in d))
  values_same scope names kinds frame near (Named f as_) h = atoms_same all scope names kinds frame near as_ h
  values_same scope names kinds frame near (Element a x as_) h = atoms_same all scope names kinds frame near as_ h.1

  call_does : (scope : List CLocal) (d : CCall) → SeesCall scope d → Does all scope scope (n.call_of m d) (c.call_of m' (target (numbers items) (places all) d) (operands (places all) (atoms_in d)))
  call_does scope d h = record {
    by = λ names kinds frame w k near.
        subst (λ r. Alike all scope (n.call_of m d (record { names = names; kinds = kinds; state = w }) k) (within (λ t. record { frame = frame; state = t }) r))
        (called_same (n.target_in m (record { names = names; kinds = kinds; state = w }) d) (values_of names (atoms_in d)) w k
        ∙ ap₂ (λ o vs. c.called m' o vs w k) (target_same scope names kinds frame w near d h) (values_same scope names kinds frame near d h))
        (within_alike all scope names kinds frame (n.called m (n.target_in m (record { names = names; kinds = kinds; state = w }) d) (values_of names (atoms_in d)) w k) near);
  }

  -- what a right side but a call gives
  gives_does : (scope : List CLocal) (r : CExpr) (r' : Right)
      → ((names : Names) (kinds : Kinds) (frame : Frame) (w : State) → Near all scope names kinds frame → n.value_in m (record { names = names; kinds = kinds; state = w }) r ≡ c.value_in m' (record { frame = frame; state = w }) r')
      → Does all scope scope (n.gives m r) (c.gives m' r')
  gives_does scope r r' h = record {
    by = λ names kinds frame w k near.
        subst (λ o. Alike all scope (n.gives m r (record { names = names; kinds = kinds; state = w }) k) (or_stuck o (record { frame = frame; state = w }) k)) (h names kinds frame w near)
        ((does_or_stuck all (n.value_in m (record { names = names; kinds = kinds; state = w }) r)).by names kinds frame w k near);
  }

-- ---- what a statement changes

module _ (all scope : List CLocal) where
  does_reads : (a : CAtom) → SeesAtom scope a → Does all scope scope (n.reads a) (c.reads (operand (places all) a))
  does_reads a h = record {
    by = λ names kinds frame w k near.
        subst (λ v. Alike all scope (n.reads a (record { names = names; kinds = kinds; state = w }) k) (Gives v (record { frame = frame; state = w }) k)) (atom_same all scope names kinds frame near a h) (both_give near);
  }

  does_set : (x : List ℕ) (v : CValue) → Sees scope x → Does all scope scope (n.set_name x v) (c.set_place (local_of (places all) x) v)
  does_set x v h = record {
    by = λ names kinds frame w k near.
        subst (λ j. Alike all scope (n.set_name x v (record { names = names; kinds = kinds; state = w }) k) (Gives tt (record { frame = c.with_place frame (place_of all x) (fitted j v); state = w }) k)) (sym (ap kind_or (near.kind x h)))
        (both_give (near_set all scope names kinds frame x (fitted (kinds x) v) h near));
  }

  stored_alike : (names : Names) (kinds : Kinds) (frame : Frame) (w : State) (k : ℕ) (o : Option (List memory.Block)) → Near all scope names kinds frame
      → Alike all scope (n.stored o (record { names = names; kinds = kinds; state = w }) k) (c.stored o (record { frame = frame; state = w }) k)
  stored_alike names kinds frame w k None near = both_stop
  stored_alike names kinds frame w k (Some blocks) near = both_give near

  does_store : (d : CCell) (p : CAddress) (a : CAtom) → Sees scope p.pointer → SeesAtom scope a → Does all scope scope (n.store_at d p a) (c.store_at d (address (places all) p) (operand (places all) a))
  does_store d p a h g = record {
    by = λ names kinds frame w k near.
        subst (λ o. Alike all scope (n.store_at d p a (record { names = names; kinds = kinds; state = w }) k) (c.stored o (record { frame = frame; state = w }) k))
        (ap₂ (λ v u. memory.store w.memory d v p.offset.value (fitted_in d u)) (near.value p.pointer h) (atom_same all scope names kinds frame near a g))
        (stored_alike names kinds frame w k (memory.store w.memory d (names p.pointer) p.offset.value (fitted_in d (n.atom_of names a))) near);
  }

  does_zero : (xs : List CLocal) → Agree all xs → Does all scope (xs ++ scope) (n.zero_all xs) (c.zero_all (map (own_local (places all)) xs))
  does_zero xs h = record { by = λ names kinds frame w k near. both_give (near_zeroed all xs scope names kinds frame h near) }

module _ {all scope : List CLocal} where
  unless_does : (flow : Flow) {m : From n.Store Flow} {m' : From c.Store Flow} → Does all scope scope m m' → Does all scope scope (n.unless_left flow m) (c.unless_left flow m')
  unless_does Next h = h
  unless_does Broke h = does_pure all _
  unless_does Continued h = does_pure all _
  unless_does (Returned v) h = does_pure all _

  next_does : (flow : Flow) {m : From n.Store Flow} {m' : From c.Store Flow} → Does all scope scope m m' → Does all scope scope (n.next_turn flow m) (c.next_turn flow m')
  next_does Next h = h
  next_does Broke h = does_pure all _
  next_does Continued h = h
  next_does (Returned v) h = does_pure all _

  zero_does : (v : CValue) {m o : From n.Store Flow} {m' o' : From c.Store Flow} → Does all scope scope m m' → Does all scope scope o o' → Does all scope scope (n.if_zero v m o) (c.if_zero v m' o')
  zero_does (Int (pos zero)) h g = h
  zero_does (Int (pos (suc i))) h g = g
  zero_does (Int (negsuc i)) h g = g
  zero_does (Unsigned i) h g = does_stop all Stuck
  zero_does (Long z) h g = does_stop all Stuck
  zero_does Null h g = does_stop all Stuck
  zero_does (At b o) h g = does_stop all Stuck

  turns_does : (i : ℕ) {m : From n.Store Flow} {m' : From c.Store Flow} → Does all scope scope m m' → Does all scope scope (n.turns i m) (c.turns i m')
  turns_does zero h = does_stop all Spent
  turns_does (suc i) {m} {m'} h = does_step all {m = m >>= (λ flow. n.next_turn flow (n.turns i m))} {m' = m' >>= (λ flow. c.next_turn flow (c.turns i m'))} (does_then all h (λ flow. next_does flow (turns_does i h)))

-- ---- statements

module _ (items : List Item) (m : n.Around) (m' : c.Around) (same : SameAround items m m') (all : List CLocal) where
  module _ (scope : List CLocal) where
    -- a value that is given and then received
    received : (x : List ℕ) (r : CExpr) (r' : Right) → Sees scope x → Does all scope scope (n.gives m r) (c.gives m' r')
        → Does all scope scope (n.gives m r >>= (λ v. n.set_name x v >>= (λ u. pure Next))) (c.flow_of m' (t.assign (local_of (places all) x) r'))
    received x r r' h g = does_then all g (λ v. does_then all (does_set all scope x v h) (λ u. does_pure all Next))

    -- the result of a call, received: the two meanings group it in different ways
    call_received : (x : List ℕ) (d : CCall) → Sees scope x → SeesCall scope d → Does all scope scope (n.flow_of m (assign x (Call d))) (c.flow_of m' (call (numbers items) (places all) (Some (local_of (places all) x)) d))
    call_received x d h g = record {
      by = λ names kinds frame w k near.
          let s : n.Store = record { names = names; kinds = kinds; state = w } in
          subst (λ y. Alike all scope y (c.flow_of m' (call (numbers items) (places all) (Some (local_of (places all) x)) d) (record { frame = frame; state = w }) k)) (sym (then_then (n.call_of m d s k) (λ r. or_stuck r) (λ v. n.set_name x v >>= (λ y. pure Next))))
          (alike_then all scope scope ((call_does items m m' same all scope d g).by names kinds frame w k near) (λ r. at_result r));
    }
      where
        at_result : (r : Option CValue) → Does all scope scope (or_stuck r >>= (λ v. n.set_name x v >>= (λ y. pure Next))) (c.receive (Some (local_of (places all) x)) r >>= (λ v. pure Next))
        at_result None = does_stop all Stuck
        at_result (Some v) = does_then all (does_set all scope x v h) (λ y. does_pure all Next)

    assign_does : (x : List ℕ) (r : CExpr) → Sees scope x → SeesRight scope r → Does all scope scope (n.flow_of m (assign x r)) (c.flow_of m' (assigned (numbers items) (places all) (local_of (places all) x) r))
    assign_does x (Atom a) h g = received x (Atom a) (right_is.Copy (operand (places all) a)) h (gives_does items m m' same all scope (Atom a) (right_is.Copy (operand (places all) a)) (λ names kinds frame w near. ap Some (atom_same all scope names kinds frame near a g)))
    assign_does x (Binary a o b) h g = received x (Binary a o b) (right_is.Binary (operand (places all) a) o (operand (places all) b)) h (gives_does items m m' same all scope (Binary a o b) (right_is.Binary (operand (places all) a) o (operand (places all) b)) (λ names kinds frame w near. ap₂ (operate w.memory o) (atom_same all scope names kinds frame near a g.0) (atom_same all scope names kinds frame near b g.1)))
    assign_does x (ToInt y) h g = received x (ToInt y) (right_is.ToInt (place_of all y)) h (gives_does items m m' same all scope (ToInt y) (right_is.ToInt (place_of all y)) (λ names kinds frame w near. ap as_int (near.value y g)))
    assign_does x (ToUnsigned y) h g = received x (ToUnsigned y) (right_is.ToUnsigned (place_of all y)) h (gives_does items m m' same all scope (ToUnsigned y) (right_is.ToUnsigned (place_of all y)) (λ names kinds frame w near. ap as_unsigned (near.value y g)))
    assign_does x (Load d p) h g = received x (Load d p) (right_is.Load d (address (places all) p)) h (gives_does items m m' same all scope (Load d p) (right_is.Load d (address (places all) p)) (λ names kinds frame w near. loaded_same all scope names kinds frame near w d p g))
    assign_does x (Index a i) h g = received x (Index a i) (right_is.Index (array_number items a) (index (places all) i)) h (gives_does items m m' same all scope (Index a i) (right_is.Index (array_number items a) (index (places all) i))
        (λ names kinds frame w near. ap (λ o. long_of (at_index (m.number_at a) o)) (index_same all scope names kinds frame near w i g) ∙ ap long_of (number_at_same items m m' same all a (c.index_of (record { frame = frame; state = w }) (index (places all) i)))))
    assign_does x (Call d) h g = call_received x d h g

  mutual
    stmt_does : (scope : List CLocal) (s : Stmt) → SeesStmt all scope s → Does all scope scope (n.flow_of m s) (c.flow_of m' (placed_stmt (numbers items) (places all) s))
    stmt_does scope (assign x r) h = assign_does scope x r h.0 h.1
    stmt_does scope (store d p a) h = does_then all (does_store all scope d p a h.0 h.1) (λ u. does_pure all Next)
    stmt_does scope (run d) h = does_then all (call_does items m m' same all scope d h) (λ r. does_then all (does_pure all (tt {0})) (λ u. does_pure all Next))
    stmt_does scope (if_only a b) h = does_then all (does_reads all scope a h.0) (λ v. zero_does v (does_pure all Next) (block_does scope b h.1))
    stmt_does scope (if_else a b d) h = does_then all (does_reads all scope a h.0) (λ v. zero_does v (block_does scope d h.2) (block_does scope b h.1))
    stmt_does scope (forever b) h = record { by = λ names kinds frame w k near. (turns_does k (block_does scope b h)).by names kinds frame w k near }
    stmt_does scope break h = does_pure all Broke
    stmt_does scope continue h = does_pure all Continued
    stmt_does scope leave h = does_pure all (Returned None)
    stmt_does scope (return a) h = does_then all (does_reads all scope a h) (λ v. does_pure all (Returned (Some v)))

    pub block_does : (scope : List CLocal) (b : Block) → SeesBlock all scope b → Does all scope scope (n.flow_in m b) (c.flows_of m' (placed_block (numbers items) (places all) b))
    block_does scope (block [] code) h = code_does scope code h.1
    block_does scope (block (x ∷ xs) code) h = does_less all (sees_inside (x ∷ xs) scope) (does_then all (does_zero all scope (x ∷ xs) h.0) (λ u. code_does (x ∷ xs ++ scope) code h.1))

    code_does : (scope : List CLocal) (d : Code) → SeesCode all scope d → Does all scope scope (n.flows_of m d) (c.flows_of m' (placed_code (numbers items) (places all) d))
    code_does scope done h = does_pure all Next
    code_does scope (do_then s more) h = does_then all (stmt_does scope s h.0) (λ flow. unless_does flow (code_does scope more h.1))
