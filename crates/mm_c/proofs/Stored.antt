-- What a load gives after a store.
use Rattle.std.proofs.Common.{◌≡◌, ◌≢◌, ℕ, ◌+◌, ◌%◌, ◌<◌, ◌≤◌, ◌⊎◌, ◌↔◌, inl, inr, Bool, true, false, ◌&&◌, ◌||◌, if◌then◌else◌, List, [], ◌∷◌, ◌++◌, length, map, Option, Some, None, refl, sym, ap, ◌∙◌, arith, length-append, eqb, leb, ⊎_elim, slice_get, slice_set}
use Rattle.std.proofs.lemmas.Bool.{cases_Bool, false≢true, le-leb, leb-true, eqb-true, eqb-false, ne_eqb}
use Rattle.std.proofs.lemmas.Bool.Decides.{leb_tells}
use Rattle.std.proofs.lemmas.Option.{slice_get-get_or, slice_get_past, slice_get_within, get_or_from_slice_get}
use Rattle.std.proofs.lemmas.List.{get_or-set_same, get_or-set_other, length-set}
use Rattle.std.proofs.Math.Seq.{map-set_same, get_or-append_seam}
use Rattle.mm_c.specs.declared.value.CCell.{CCell}
use Rattle.mm_c.specs.declared.value.CCell.TheVariants as cell
use Rattle.mm_c.specs.declared.value.CValue.{CValue}
use Rattle.mm_c.specs.declared.value.CValue.TheVariants.{Int, Unsigned, Long, Null, At}
use Rattle.mm_c.specs.Memory.{width_of, zero_of, same_kind, Cell, Block, is_apart, has_room, latest, value_or, load_in, load, with_cell, store_in, store, fresh}
use Rattle.mm_c.specs.Laws.{LoadsWhatWasStored, LoadsAsBefore, StoreKeepsSizes, FreshIsZero, LiesInBlock, LoadsInBlock, StoresInBlock, NoOtherLoad, StuckStays, StuckAlike}
use Rattle.mm_c.proofs.Bools.{and_left, and_right, both}

-- ---- lists

got_set : {X : Type 0} (xs : List X) (i : ℕ) (x y : X) → slice_get xs i ≡ Some x → slice_get (slice_set xs i y) i ≡ Some y
got_set xs i x y e =
    let h : i < length xs = slice_get_within xs i x e in
    let h' : i < length (slice_set xs i y) = omega (arith, length-set xs i y) in
    slice_get-get_or (slice_set xs i y) i y h' ∙ ap Some (get_or-set_same xs i y y h)

got_other : {X : Type 0} (xs : List X) (i j : ℕ) (y : X) → j ≢ i → slice_get (slice_set xs i y) j ≡ slice_get xs j
got_other xs i j y n =
    ⊎_elim
    (λ past. let h : length xs ≤ j = past.1 in
    let h' : length (slice_set xs i y) ≤ j = omega (arith, length-set xs i y) in
    slice_get_past (slice_set xs i y) j h' ∙ sym (slice_get_past xs j h))
    (λ below. let h : j < length xs = below.1 in
    let h' : j < length (slice_set xs i y) = omega (arith, length-set xs i y) in
    slice_get-get_or (slice_set xs i y) j y h' ∙ ap Some (get_or-set_other xs i j y y n) ∙ sym (slice_get-get_or xs j y h))
    (leb_tells (length xs) j)

got_last : {X : Type 0} (xs : List X) (x : X) → slice_get (xs ++ x ∷ []) (length xs) ≡ Some x
got_last xs x =
    let h : length xs < length (xs ++ x ∷ []) = omega (arith, length-append xs (x ∷ [])) in
    slice_get-get_or (xs ++ x ∷ []) (length xs) x h ∙ ap Some (get_or-append_seam xs x [] x)

-- ---- tests

chosen : {X : Type 0} (c : Bool) (y z : X) → (if c then Some y else None) ≡ Some z → (c ≡ true) × (y ≡ z)
chosen true y z e = (refl, cc)
chosen false y z e = cc

or_right : (a b : Bool) → b ≡ true → (a || b) ≡ true
or_right true b h = refl
or_right false b h = h

or_left : (a b : Bool) → a ≡ true → (a || b) ≡ true
or_left true b h = refl
or_left false b h = cc

same_self : (k : CCell) → same_kind k k ≡ true
same_self cell.Int = refl
same_self cell.Unsigned = refl
same_self cell.Short = refl
same_self cell.Pointer = refl

same_is : (k l : CCell) → same_kind k l ≡ true → k ≡ l
same_is cell.Int cell.Int e = refl
same_is cell.Unsigned cell.Unsigned e = refl
same_is cell.Short cell.Short e = refl
same_is cell.Pointer cell.Pointer e = refl
same_is k l e = absurd (false≢true e)

some_bytes : (k : CCell) → 0 < width_of k
some_bytes cell.Int = omega arith
some_bytes cell.Unsigned = omega arith
some_bytes cell.Short = omega arith
some_bytes cell.Pointer = omega arith

eqb_self : (n : ℕ) → eqb n n ≡ true
eqb_self n = ⊎_elim (λ e. e) (λ e. absurd (eqb-false n n e refl)) (cases_Bool (eqb n n))

-- ---- stores

-- a store that isn't stuck
record Stored (memory after : List Block) (b : ℕ) (kind : CCell) (offset : ℕ) (v : CValue) : Type 0 where
  block : Block
  there : slice_get memory b ≡ Some block
  room : has_room kind offset block ≡ true
  result : after ≡ slice_set memory b (with_cell block kind offset v)

stored_in : (memory after : List Block) (b : ℕ) (kind : CCell) (offset : ℕ) (v : CValue) (found : Option Block) → slice_get memory b ≡ found → store_in memory b kind offset v found ≡ Some after → Stored memory after b kind offset v
stored_in memory after b kind offset v None f e = cc
stored_in memory after b kind offset v (Some x) f e =
    let c = chosen (has_room kind offset x) (slice_set memory b (with_cell x kind offset v)) after e in
    record { block = x; there = f; room = c.0; result = sym c.1 }

stored : (memory after : List Block) (b o n : ℕ) (kind : CCell) (v : CValue) → store memory kind (At b o) n v ≡ Some after → Stored memory after b kind (o + n) v
stored memory after b o n kind v e = stored_in memory after b kind (o + n) v (slice_get memory b) refl e

-- the block that was stored to
block_after : (memory after : List Block) (b : ℕ) (kind : CCell) (offset : ℕ) (v : CValue) (s : Stored memory after b kind offset v) → slice_get after b ≡ Some (with_cell s.block kind offset v)
block_after memory after b kind offset v s =
    ap (λ m. slice_get m b) s.result ∙ got_set memory b s.block (with_cell s.block kind offset v) s.there

-- there is room again
room_again : (kind : CCell) (offset : ℕ) (x : Block) (v : CValue) → has_room kind offset x ≡ true → has_room kind offset (with_cell x kind offset v) ≡ true
room_again kind offset x v h =
    let fits = and_left (leb (offset + width_of kind) x.size && eqb (offset % width_of kind) 0) _ h in
    let cells = and_right (leb (offset + width_of kind) x.size && eqb (offset % width_of kind) 0) _ h in
    both _ _ fits (both _ _ (or_right (is_apart offset (width_of kind) (record { offset = offset; kind = kind; value = v })) _ (both _ _ (eqb_self offset) (same_self kind))) cells)

taken : (c : Bool) (y z : Option CValue) → c ≡ true → (if c then y else z) ≡ y
taken true y z h = refl
taken false y z h = cc

loaded_again : (kind : CCell) (offset : ℕ) (x : Block) (v : CValue) → has_room kind offset x ≡ true → load_in kind offset (Some (with_cell x kind offset v)) ≡ Some v
loaded_again kind offset x v h =
    taken (has_room kind offset (with_cell x kind offset v)) _ None (room_again kind offset x v h)
    ∙ ap (λ c. Some (value_or (zero_of kind) (if c then Some v else latest offset x.cells))) (eqb_self offset)

pub loads_what_was_stored : LoadsWhatWasStored
loads_what_was_stored memory after kind (At b o) n v e =
    let s = stored memory after b o n kind v e in
    ap (load_in kind (o + n)) (block_after memory after b kind (o + n) v s) ∙ loaded_again kind (o + n) s.block v s.room
loads_what_was_stored memory after kind Null n v e = cc
loads_what_was_stored memory after kind (Int z) n v e = cc
loads_what_was_stored memory after kind (Unsigned m) n v e = cc
loads_what_was_stored memory after kind (Long z) n v e = cc

-- ---- other cells

passed : (a t u cells : Bool) → t ≡ true → (a && ((t || u) && cells)) ≡ (a && cells)
passed a true u cells h = refl
passed a false u cells h = cc

blocked : (a t u cells : Bool) → t ≡ false → u ≡ false → (a && ((t || u) && cells)) ≡ false
blocked true true u cells h k = cc
blocked true false true cells h k = cc
blocked true false false cells h k = refl
blocked false t u cells h k = refl

-- one cell ends before the other begins
abbrev EndsBefore : ℕ → CCell → ℕ → CCell → Type 0
EndsBefore offset kind offset' kind' = (offset + width_of kind ≤ offset') ⊎ (offset' + width_of kind' ≤ offset)

apart : (offset offset' : ℕ) (kind kind' : CCell) (v : CValue) → EndsBefore offset kind offset' kind' → is_apart offset' (width_of kind') (record { offset = offset; kind = kind; value = v }) ≡ true
apart offset offset' kind kind' v h =
    ⊎_elim
    (λ before. or_right (leb (offset' + width_of kind') offset) _ (le-leb _ _ before))
    (λ behind. or_left _ (leb (offset + width_of kind) offset') (le-leb _ _ behind))
    h

elsewhere : (offset offset' : ℕ) (kind kind' : CCell) → EndsBefore offset kind offset' kind' → offset ≢ offset'
elsewhere offset offset' kind kind' h e =
    let one = some_bytes kind in
    let other = some_bytes kind' in
    ⊎_elim (λ (before : offset + width_of kind ≤ offset'). absurd (omega arith)) (λ (behind : offset' + width_of kind' ≤ offset). absurd (omega arith)) h

loaded_elsewhere : (offset offset' : ℕ) (kind kind' : CCell) (x : Block) (v : CValue) → EndsBefore offset kind offset' kind' → load_in kind' offset' (Some (with_cell x kind offset v)) ≡ load_in kind' offset' (Some x)
loaded_elsewhere offset offset' kind kind' x v h =
    let new : Cell = record { offset = offset; kind = kind; value = v } in
    ap (λ c. if c then Some (value_or (zero_of kind') (latest offset' (new ∷ x.cells))) else None)
    (passed (leb (offset' + width_of kind') x.size && eqb (offset' % width_of kind') 0) (is_apart offset' (width_of kind') new) _ _ (apart offset offset' kind kind' v h))
    ∙ ap (λ c. if has_room kind' offset' x then Some (value_or (zero_of kind') (if c then Some v else latest offset' x.cells)) else None)
    (ne_eqb offset offset' (elsewhere offset offset' kind kind' h))

-- in another block
other_block : (memory after : List Block) (b c offset offset' : ℕ) (kind kind' : CCell) (v : CValue) → Stored memory after b kind offset v → b ≢ c → load_in kind' offset' (slice_get after c) ≡ load_in kind' offset' (slice_get memory c)
other_block memory after b c offset offset' kind kind' v s n =
    ap (load_in kind' offset') (ap (λ m. slice_get m c) s.result ∙ got_other memory b c (with_cell s.block kind offset v) (λ e. n (sym e)))

-- in the same block
same_block : (memory after : List Block) (b c offset offset' : ℕ) (kind kind' : CCell) (v : CValue) → Stored memory after b kind offset v → b ≡ c → EndsBefore offset kind offset' kind' → load_in kind' offset' (slice_get after c) ≡ load_in kind' offset' (slice_get memory c)
same_block memory after b c offset offset' kind kind' v s e h =
    ap (λ d. load_in kind' offset' (slice_get after d)) (sym e)
    ∙ ap (load_in kind' offset') (block_after memory after b kind offset v s)
    ∙ loaded_elsewhere offset offset' kind kind' s.block v h
    ∙ ap (load_in kind' offset') (sym s.there)
    ∙ ap (λ d. load_in kind' offset' (slice_get memory d)) e

either_block : (memory after : List Block) (b c offset offset' : ℕ) (kind kind' : CCell) (v : CValue) → Stored memory after b kind offset v → EndsBefore offset kind offset' kind' → load_in kind' offset' (slice_get after c) ≡ load_in kind' offset' (slice_get memory c)
either_block memory after b c offset offset' kind kind' v s h =
    ⊎_elim
    (λ e. same_block memory after b c offset offset' kind kind' v s (eqb-true b c e) h)
    (λ e. other_block memory after b c offset offset' kind kind' v s (eqb-false b c e))
    (cases_Bool (eqb b c))

pub loads_as_before : LoadsAsBefore
loads_as_before memory after kind kind' b o n c o' n' v e h =
    let s = stored memory after b o n kind v e in
    ⊎_elim
    (λ other. other_block memory after b c (o + n) (o' + n') kind kind' v s other)
    (λ ends. either_block memory after b c (o + n) (o' + n') kind kind' v s ends)
    h

pub store_keeps_sizes : StoreKeepsSizes
store_keeps_sizes memory after kind (At b o) n v e =
    let s = stored memory after b o n kind v e in
    let size = λ (x : Block). x.size in
    ap (map size) s.result
    ∙ map-set_same size memory b (with_cell s.block kind (o + n) v) s.block (ap size (sym (get_or_from_slice_get memory b s.block s.block s.there)))
store_keeps_sizes memory after kind Null n v e = cc
store_keeps_sizes memory after kind (Int z) n v e = cc
store_keeps_sizes memory after kind (Unsigned m) n v e = cc
store_keeps_sizes memory after kind (Long z) n v e = cc

pub fresh_is_zero : FreshIsZero
fresh_is_zero memory size kind o n within aligned =
    ap (load_in kind (o + n)) (got_last memory (fresh size))
    ∙ taken (has_room kind (o + n) (fresh size)) (Some (zero_of kind)) None (both _ true (both _ _ (le-leb _ _ within) (ap (λ r. eqb r 0) aligned)) refl)

-- ---- what is stuck

placed : (memory : List Block) (kind : CCell) (b o n : ℕ) (x : Block) → slice_get memory b ≡ Some x → has_room kind (o + n) x ≡ true → LiesInBlock memory kind (At b o) n
placed memory kind b o n x there room =
    let front = and_left (leb (o + n + width_of kind) x.size && eqb ((o + n) % width_of kind) 0) _ room in
    record {
      at = b;
      offset = o;
      block = x;
      points = refl;
      there = there;
      within = leb-true _ _ (and_left (leb (o + n + width_of kind) x.size) (eqb ((o + n) % width_of kind) 0) front);
      aligned = eqb-true _ _ (and_right (leb (o + n + width_of kind) x.size) (eqb ((o + n) % width_of kind) 0) front);
    }

loaded_in : (memory : List Block) (kind : CCell) (b o n : ℕ) (v : CValue) (found : Option Block) → slice_get memory b ≡ found → load_in kind (o + n) found ≡ Some v → LiesInBlock memory kind (At b o) n
loaded_in memory kind b o n v None f e = cc
loaded_in memory kind b o n v (Some x) f e =
    placed memory kind b o n x f (chosen (has_room kind (o + n) x) (value_or (zero_of kind) (latest (o + n) x.cells)) v e).0

pub loads_in_block : LoadsInBlock
loads_in_block memory kind (At b o) n v e = loaded_in memory kind b o n v (slice_get memory b) refl e
loads_in_block memory kind Null n v e = cc
loads_in_block memory kind (Int z) n v e = cc
loads_in_block memory kind (Unsigned m) n v e = cc
loads_in_block memory kind (Long z) n v e = cc

pub stores_in_block : StoresInBlock
stores_in_block memory after kind (At b o) n v e =
    let s = stored memory after b o n kind v e in
    placed memory kind b o n s.block s.there s.room
stores_in_block memory after kind Null n v e = cc
stores_in_block memory after kind (Int z) n v e = cc
stores_in_block memory after kind (Unsigned m) n v e = cc
stores_in_block memory after kind (Long z) n v e = cc

not_true : (c : Bool) → (c ≡ true → ⊥) → c ≡ false
not_true true h = absurd (h refl)
not_true false h = refl

not_taken : (c : Bool) (y z : Option CValue) → c ≡ false → (if c then y else z) ≡ z
not_taken true y z h = cc
not_taken false y z h = refl

or_cases : (a b : Bool) → (a || b) ≡ true → (a ≡ true) ⊎ (b ≡ true)
or_cases true b h = inl refl
or_cases false b h = inr h

pub no_other_load : NoOtherLoad
no_other_load memory after kind kind' b o n o' n' v e near other =
    let s = stored memory after b o n kind v e in
    let new : Cell = record { offset = o + n; kind = kind; value = v } in
    let touching = not_true (is_apart (o' + n') (width_of kind') new) (λ t. ⊎_elim
    (λ behind. near (inr (inr (leb-true _ _ behind))))
    (λ before. near (inr (inl (leb-true _ _ before))))
    (or_cases (leb (o' + n' + width_of kind') (o + n)) (leb (o + n + width_of kind) (o' + n')) t)) in
    let unlike = not_true (eqb (o + n) (o' + n') && same_kind kind kind') (λ t.
    other (eqb-true _ _ (and_left (eqb (o + n) (o' + n')) (same_kind kind kind') t), same_is kind kind' (and_right (eqb (o + n) (o' + n')) (same_kind kind kind') t))) in
    ap (load_in kind' (o' + n')) (block_after memory after b kind (o + n) v s)
    ∙ not_taken (has_room kind' (o' + n') (with_cell s.block kind (o + n) v)) _ None
    (blocked (leb (o' + n' + width_of kind') s.block.size && eqb ((o' + n') % width_of kind') 0) (is_apart (o' + n') (width_of kind') new) (eqb (o + n) (o' + n') && same_kind kind kind') _ touching unlike)

-- ---- what stays stuck

refused : {X : Type 0} (c : Bool) (y : X) → (if c then Some y else None) ≡ None → c ≡ false
refused true y e = cc
refused false y e = refl

left_out : {X : Type 0} (c : Bool) (y : X) → c ≡ false → (if c then Some y else None) ≡ None
left_out true y e = cc
left_out false y e = refl

still_false : (a new cells : Bool) → (a && cells) ≡ false → (a && (new && cells)) ≡ false
still_false true true cells h = h
still_false true false cells h = refl
still_false false new cells h = refl

stuck_again : (kind kind' : CCell) (offset offset' : ℕ) (x : Block) (v : CValue) → load_in kind' offset' (Some x) ≡ None → load_in kind' offset' (Some (with_cell x kind offset v)) ≡ None
stuck_again kind kind' offset offset' x v e =
    left_out (has_room kind' offset' (with_cell x kind offset v)) (value_or (zero_of kind') (latest offset' (record { offset = offset; kind = kind; value = v } ∷ x.cells)))
    (still_false (leb (offset' + width_of kind') x.size && eqb (offset' % width_of kind') 0) _ _
    (refused (has_room kind' offset' x) (value_or (zero_of kind') (latest offset' x.cells)) e))

stays : (memory after : List Block) (kind kind' : CCell) (b c offset offset' : ℕ) (v : CValue) → Stored memory after b kind offset v → load_in kind' offset' (slice_get memory c) ≡ None → load_in kind' offset' (slice_get after c) ≡ None
stays memory after kind kind' b c offset offset' v s h =
    ⊎_elim
    (λ t. let e = eqb-true b c t in
    ap (λ d. load_in kind' offset' (slice_get after d)) (sym e)
    ∙ ap (load_in kind' offset') (block_after memory after b kind offset v s)
    ∙ stuck_again kind kind' offset offset' s.block v (ap (load_in kind' offset') (sym s.there) ∙ ap (λ d. load_in kind' offset' (slice_get memory d)) e ∙ h))
    (λ t. other_block memory after b c offset offset' kind kind' v s (eqb-false b c t) ∙ h)
    (cases_Bool (eqb b c))

stays_at : (memory after : List Block) (kind kind' : CCell) (b o : ℕ) (q : CValue) (n m : ℕ) (v : CValue) → store memory kind (At b o) n v ≡ Some after → load memory kind' q m ≡ None → load after kind' q m ≡ None
stays_at memory after kind kind' b o (At c o') n m v e h = stays memory after kind kind' b c (o + n) (o' + m) v (stored memory after b o n kind v e) h
stays_at memory after kind kind' b o Null n m v e h = refl
stays_at memory after kind kind' b o (Int z) n m v e h = refl
stays_at memory after kind kind' b o (Unsigned k) n m v e h = refl
stays_at memory after kind kind' b o (Long z) n m v e h = refl

pub stuck_stays : StuckStays
stuck_stays memory after kind kind' (At b o) q n m v e h = stays_at memory after kind kind' b o q n m v e h
stuck_stays memory after kind kind' Null q n m v e h = cc
stuck_stays memory after kind kind' (Int z) q n m v e h = cc
stuck_stays memory after kind kind' (Unsigned k) q n m v e h = cc
stuck_stays memory after kind kind' (Long z) q n m v e h = cc

alike_in : (memory : List Block) (kind : CCell) (b offset : ℕ) (v : CValue) (found : Option Block) → (store_in memory b kind offset v found ≡ None) ↔ (load_in kind offset found ≡ None)
alike_in memory kind b offset v None = (λ e. refl, λ e. refl)
alike_in memory kind b offset v (Some x) =
    let held = value_or (zero_of kind) (latest offset x.cells) in
    let next = slice_set memory b (with_cell x kind offset v) in (
      λ e. left_out (has_room kind offset x) held (refused (has_room kind offset x) next e),
      λ e. left_out (has_room kind offset x) next (refused (has_room kind offset x) held e),
    )

pub stuck_alike : StuckAlike
stuck_alike memory kind (At b o) n v = alike_in memory kind b (o + n) v (slice_get memory b)
stuck_alike memory kind Null n v = (λ e. refl, λ e. refl)
stuck_alike memory kind (Int z) n v = (λ e. refl, λ e. refl)
stuck_alike memory kind (Unsigned m) n v = (λ e. refl, λ e. refl)
stuck_alike memory kind (Long z) n v = (λ e. refl, λ e. refl)
