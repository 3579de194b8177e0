-- Loads and stores in a memory that is held as blocks of halves.
use Rattle.std.proofs.Common.{◌≡◌, ℕ, zero, suc, ◌+◌, ◌<◌, ◌≤◌, Bool, true, false, if◌then◌else◌, List, [], ◌∷◌, ◌++◌, length, get_or, slice_get, slice_set, Some, None, refl, sym, ap, subst, ◌∙◌, arith}
use Rattle.mm_c.specs.declared.value.CCell.{CCell}
use Rattle.mm_c.specs.declared.value.CValue.{CValue}
use Rattle.mm_c.specs.declared.value.CValue.TheVariants.{At}
use Rattle.mm_c.specs.Memory.{has_room, load_in, load, store_in, store, with_cell, fresh}
use Rattle.mm_c.specs.Memory as c
use Rattle.mm_c_memory.specs.declared.memory.Block.{Block}
use Rattle.mm_c_memory.specs.declared.memory.Memory.{Memory}
use Rattle.mm_c_memory.specs.Held.{HoldsBlock, HoldBlocks, StoresIn, Stores}

pub same_length : (m : List c.Block) (hs : List Block) → HoldBlocks m hs → length m ≡ length hs
same_length [] [] h = refl
same_length [] (x ∷ hs) h = absurd h
same_length (b ∷ m) [] h = absurd h
same_length (b ∷ m) (x ∷ hs) h = ap suc (same_length m hs h.1)

-- the block of C at a number, and the one that is held
pub record At_ (m : List c.Block) (i : ℕ) (h : Block) : Type 0 where
  pub block : c.Block
  pub there : slice_get m i ≡ Some block
  pub held : HoldsBlock block h

pub held_at : (m : List c.Block) (hs : List Block) (i : ℕ) (h : Block) → HoldBlocks m hs → i < length hs → h ≡ get_or hs i h → At_ m i h
held_at [] [] i h all lt is = absurd (let x : ⊥ = omega (arith, lt) in x)
held_at [] (x ∷ hs) i h all lt is = absurd all
held_at (b ∷ m) [] i h all lt is = absurd all
held_at (b ∷ m) (x ∷ hs) zero h all lt is = record { block = b; there = refl; held = subst (λ q. HoldsBlock b q) (sym is) all.0 }
held_at (b ∷ m) (x ∷ hs) (suc i) h all lt is =
    let r = held_at m hs i h all.1 (omega (arith, lt)) is in
    record { block = r.block; there = r.there; held = r.held }

pub none_past : (m : List c.Block) (hs : List Block) (i : ℕ) → HoldBlocks m hs → length hs ≤ i → slice_get m i ≡ None
none_past [] hs i all le = refl
none_past (b ∷ m) [] i all le = absurd all
none_past (b ∷ m) (x ∷ hs) zero all le = absurd (let z : ⊥ = omega (arith, le) in z)
none_past (b ∷ m) (x ∷ hs) (suc i) all le = none_past m hs i all.1 (omega (arith, le))

pub held_set : (m : List c.Block) (hs : List Block) (i : ℕ) (b : c.Block) (h : Block) → HoldBlocks m hs → HoldsBlock b h → HoldBlocks (slice_set m i b) (slice_set hs i h)
held_set [] [] i b h all one = tt
held_set [] (x ∷ hs) i b h all one = absurd all
held_set (y ∷ m) [] i b h all one = absurd all
held_set (y ∷ m) (x ∷ hs) zero b h all one = (one, all.1)
held_set (y ∷ m) (x ∷ hs) (suc i) b h all one = (all.0, held_set m hs i b h all.1 one)

pub held_push : (m : List c.Block) (hs : List Block) (b : c.Block) (h : Block) → HoldBlocks m hs → HoldsBlock b h → HoldBlocks (m ++ b ∷ []) (hs ++ h ∷ [])
held_push [] [] b h all one = (one, tt)
held_push [] (x ∷ hs) b h all one = absurd all
held_push (y ∷ m) [] b h all one = absurd all
held_push (y ∷ m) (x ∷ hs) b h all one = (all.0, held_push m hs b h all.1 one)

if_true : {A : Type 0} (b : Bool) (y z : A) → b ≡ true → (if b then y else z) ≡ y
if_true true y z e = refl
if_true false y z e = cc

if_false : {A : Type 0} (b : Bool) (y z : A) → b ≡ false → (if b then y else z) ≡ z
if_false true y z e = cc
if_false false y z e = refl

-- what a store in its block is for the memory
pub stores : (result : Bool) (m : List c.Block) (hs : List Block) (i : ℕ) (kind : CCell) (offset : ℕ) (v : CValue) (b : c.Block) (h : Block) (held : Memory) → HoldBlocks m hs → slice_get m i ≡ Some b → StoresIn result b kind offset v h → held.blocks.items ≡ slice_set hs i h → Stores result (store_in m i kind offset v (slice_get m i)) held
stores true m hs i kind offset v b h held all there is to =
    subst (λ o. Stores true o held) (sym (ap (store_in m i kind offset v) there ∙ if_true (has_room kind offset b) _ _ is.0))
    (record { blocks = subst (λ q. HoldBlocks (slice_set m i (with_cell b kind offset v)) q) (sym to) (held_set m hs i (with_cell b kind offset v) h all is.1) })
stores false m hs i kind offset v b h held all there is to =
    subst (λ o. Stores false o held) (sym (ap (store_in m i kind offset v) there ∙ if_false (has_room kind offset b) _ _ is)) tt

-- a pointer that points to no block
pub no_load : (m : List c.Block) (hs : List Block) (kind : CCell) (i o n : ℕ) → HoldBlocks m hs → length hs ≤ i → load m kind (At i o) n ≡ None
no_load m hs kind i o n all le = ap (load_in kind (o + n)) (none_past m hs i all le)

pub no_store : (m : List c.Block) (hs : List Block) (kind : CCell) (i o n : ℕ) (v : CValue) → HoldBlocks m hs → length hs ≤ i → store m kind (At i o) n v ≡ None
no_store m hs kind i o n v all le = ap (store_in m i kind (o + n) v) (none_past m hs i all le)

pub stores_at : (result : Bool) (m : List c.Block) (hs : List Block) (p : CValue) (i : ℕ) (kind : CCell) (o n : ℕ) (v : CValue) (b : c.Block) (h : Block) (held : Memory) → p ≡ At i o → HoldBlocks m hs → slice_get m i ≡ Some b → StoresIn result b kind (o + n) v h → held.blocks.items ≡ slice_set hs i h → Stores result (store m kind p n v) held
stores_at result m hs p i kind o n v b h held e all there is to = rw e (stores result m hs i kind (o + n) v b h held all there is to)
