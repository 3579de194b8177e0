use Rattle.std.proofs.Common.{◌≡◌, ◌+◌, ◌*◌, ◌/◌, ◌<◌, ◌≤◌, ◌^◌, ◌++◌, ◌∷◌, ℕ, List, [], All, Vec, rules, length, take, drop, get_or, arith, sym, ◌∙◌, ap, subst}
use Rattle.std.proofs.lemmas.List.{take_all, drop_all, map-append}
use Rattle.mm_pack.specs.Cells.{product}
use Rattle.mm_pack.specs.Inside.{lists_in, table_in}
use Rattle.mm_pack.specs.Rounds.{IsRoundOf}
use Rattle.mm_pack.specs.Tables.{Table, HasCells, KeepsOnce, AreApart, AreInOrder, full_shape}
use Rattle.mm_pack.proofs.Axes.{ArePacked, start}
use Rattle.mm_pack.proofs.Ends.{Fits, fits, stepped, has_cells, keeps_once, are_apart, in_order, is_table}
use Rattle.mm_pack.proofs.packing.pack.Goals as goal

-- the vector's length is that of its items
fitting : (shape : List ℕ) (k len : ℕ) (done : List ℕ) (slots : List (List ℕ)) (full now given : List ℕ) → k < length shape
    → ArePacked shape (take k shape) (drop k shape) done slots full now → length full ≤ 2 ^ 20 → given ≡ now → len ≡ length now
    → (length given ≡ get_or shape k 0 * (len / get_or shape k 0)) × (get_or shape k 0 ≤ 2 ^ 20) × (len / get_or shape k 0 ≤ 2 ^ 20) × (length given ≤ 2 ^ 20)
fitting shape k len done slots full now given h p small same count =
    let f : Fits (get_or shape k 0) (length now) = fits shape k done slots full now h p small in (
      ap length same ∙ f.count ∙ ap (λ n. get_or shape k 0 * (n / get_or shape k 0)) (sym count),
      f.few,
      subst (λ n. n / get_or shape k 0 ≤ 2 ^ 20) (sym count) f.narrow,
      omega (arith, ap length same, p.small),
    )

pub reduce-requires-clause-count : goal.reduce-requires-clause-count
reduce-requires-clause-count c = (fitting c.args.shape.now c.loop-places.places-index c.len.result c.loop-places.lengths.items (lists_in c.loop-places.slots.items) c.args.cells.now
    c.loop-places.left.items c.as_slice.result.now c.loop-places-test.true c.loop-places.invariant c.requires.small c.as_slice.ensures.value (omega (arith, c.loop-places.left.ok))).0

pub reduce-requires-clause-few : goal.reduce-requires-clause-few
reduce-requires-clause-few c = (fitting c.args.shape.now c.loop-places.places-index c.len.result c.loop-places.lengths.items (lists_in c.loop-places.slots.items) c.args.cells.now
    c.loop-places.left.items c.as_slice.result.now c.loop-places-test.true c.loop-places.invariant c.requires.small c.as_slice.ensures.value (omega (arith, c.loop-places.left.ok))).1

pub reduce-requires-clause-narrow : goal.reduce-requires-clause-narrow
reduce-requires-clause-narrow c = (fitting c.args.shape.now c.loop-places.places-index c.len.result c.loop-places.lengths.items (lists_in c.loop-places.slots.items) c.args.cells.now
    c.loop-places.left.items c.as_slice.result.now c.loop-places-test.true c.loop-places.invariant c.requires.small c.as_slice.ensures.value (omega (arith, c.loop-places.left.ok))).2

pub reduce-requires-clause-small : goal.reduce-requires-clause-small
reduce-requires-clause-small c = (fitting c.args.shape.now c.loop-places.places-index c.len.result c.loop-places.lengths.items (lists_in c.loop-places.slots.items) c.args.cells.now
    c.loop-places.left.items c.as_slice.result.now c.loop-places-test.true c.loop-places.invariant c.requires.small c.as_slice.ensures.value (omega (arith, c.loop-places.left.ok))).3

-- the first table is the cells
started : (shape full now lengths : List ℕ) (slots : List (List ℕ)) → All (λ n. 0 < n) shape → product shape ≡ length full → now ≡ full → lengths ≡ [] → slots ≡ []
    → ArePacked shape [] shape lengths slots full now
started shape full now lengths slots long count e f g =
    subst (λ x. ArePacked shape [] shape lengths slots full x) (sym e) (subst (λ x. ArePacked shape [] shape lengths x full full) (sym g)
    (subst (λ x. ArePacked shape [] shape x [] full full) (sym f) (start shape full long count)))

pub loop-places-init : goal.loop-places-init
loop-places-init c = started c.args.shape.now c.args.cells.now c.in_ok-left.left.items c.new-lengths.result.items (lists_in c.new-slots.result.items) c.requires.long c.requires.count
    (search rules) c.new-lengths.ensures.items (ap lists_in c.new-slots.ensures.items)

-- one round, as it is noted
rounded : {A : Type 0} (shape : List ℕ) (k len : ℕ) (done : List ℕ) (slots : List (Vec ℕ A)) (full now given : List ℕ) (kept : ℕ) (numbers : Vec ℕ A) (turned more : List ℕ) (noted : List (Vec ℕ A)) (left : List ℕ)
    → k < length shape → ArePacked shape (take k shape) (drop k shape) done (lists_in slots) full now → length full ≤ 2 ^ 20 → given ≡ now → len ≡ length now
    → IsRoundOf given (get_or shape k 0) (len / get_or shape k 0) kept numbers.items turned → more ≡ done ++ kept ∷ [] → noted ≡ slots ++ numbers ∷ [] → left ≡ turned
    → ArePacked shape (take (k + 1) shape) (drop (k + 1) shape) more (lists_in noted) full left
rounded shape k len done slots full now given kept numbers turned more noted left h p small same count r e f g =
    let r' : IsRoundOf now (get_or shape k 0) (length now / get_or shape k 0) kept numbers.items turned
    = subst (λ n. IsRoundOf now (get_or shape k 0) (n / get_or shape k 0) kept numbers.items turned) count (subst (λ xs. IsRoundOf xs (get_or shape k 0) (len / get_or shape k 0) kept numbers.items turned) same r) in
    let next : ArePacked shape (take (k + 1) shape) (drop (k + 1) shape) (done ++ kept ∷ []) (lists_in slots ++ numbers.items ∷ []) full turned
    = stepped shape k done (lists_in slots) full now h p kept numbers.items turned small r' in
    subst (λ x. ArePacked shape (take (k + 1) shape) (drop (k + 1) shape) more (lists_in noted) full x) (sym g)
    (subst (λ x. ArePacked shape (take (k + 1) shape) (drop (k + 1) shape) more x full turned) (sym (ap lists_in f ∙ map-append (λ v. v.items) slots (numbers ∷ [])))
    (subst (λ x. ArePacked shape (take (k + 1) shape) (drop (k + 1) shape) x (lists_in slots ++ numbers.items ∷ []) full turned) (sym e) next))

pub loop-places-preserved : goal.loop-places-preserved
loop-places-preserved c = rounded c.args.shape.now c.loop-places.places-index c.len.result c.loop-places.lengths.items c.loop-places.slots.items c.args.cells.now c.loop-places.left.items
    c.as_slice.result.now c.in_ok-round.round.kept c.in_ok-round.round.slots c.in_ok-round.round.cells.items c.push_round.new.lengths.items c.push_round.new.slots.items c.in_ok-left-2.left.items
    c.loop-places-test.true c.loop-places.invariant c.requires.small c.as_slice.ensures.value (omega (arith, c.loop-places.left.ok)) c.in_ok-round.ensures
    c.in_ok-left-2.ensures.lengths c.in_ok-left-2.ensures.slots (ap (λ v. v.items) c.in_ok-left-2.ensures.cells)

-- after the last round
finished : (shape : List ℕ) (k : ℕ) (t : Table) (full : List ℕ) → length shape ≤ k → ArePacked shape (take k shape) (drop k shape) t.shape t.slots full t.cells
    → ArePacked shape shape [] t.shape t.slots full t.cells
finished shape k t full h p = subst (λ back. ArePacked shape shape back t.shape t.slots full t.cells) (drop_all k shape h)
    (subst (λ front. ArePacked shape front (drop k shape) t.shape t.slots full t.cells) (take_all k shape h) p)

pub new-requires : goal.new-requires
new-requires c = is_table c.args.shape.now c.args.cells.now (table_in c.loop-places.lengths.items c.loop-places.left.items c.loop-places.slots.items)
    (finished c.args.shape.now c.loop-places.places-index (table_in c.loop-places.lengths.items c.loop-places.left.items c.loop-places.slots.items) c.args.cells.now c.loop-places-test.false c.loop-places.invariant)
    c.requires.small

pub returns-clause-shape : goal.returns-clause-shape
returns-clause-shape c = ap (λ (t : Table). full_shape t.slots) c.new.ensures
    ∙ (finished c.args.shape.now c.loop-places.places-index (table_in c.loop-places.lengths.items c.loop-places.left.items c.loop-places.slots.items) c.args.cells.now c.loop-places-test.false c.loop-places.invariant).lengths

pub returns-clause-cells : goal.returns-clause-cells
returns-clause-cells c = subst (HasCells c.args.shape.now c.args.cells.now) (sym c.new.ensures) (has_cells c.args.shape.now c.args.cells.now
    (table_in c.loop-places.lengths.items c.loop-places.left.items c.loop-places.slots.items)
    (finished c.args.shape.now c.loop-places.places-index (table_in c.loop-places.lengths.items c.loop-places.left.items c.loop-places.slots.items) c.args.cells.now c.loop-places-test.false c.loop-places.invariant))

pub returns-clause-once : goal.returns-clause-once
returns-clause-once c = subst (KeepsOnce c.args.shape.now c.args.cells.now) (sym c.new.ensures) (keeps_once c.args.shape.now c.args.cells.now
    (table_in c.loop-places.lengths.items c.loop-places.left.items c.loop-places.slots.items)
    (finished c.args.shape.now c.loop-places.places-index (table_in c.loop-places.lengths.items c.loop-places.left.items c.loop-places.slots.items) c.args.cells.now c.loop-places-test.false c.loop-places.invariant))

pub returns-clause-apart : goal.returns-clause-apart
returns-clause-apart c = subst AreApart (sym c.new.ensures) (are_apart c.args.shape.now c.args.cells.now
    (table_in c.loop-places.lengths.items c.loop-places.left.items c.loop-places.slots.items)
    (finished c.args.shape.now c.loop-places.places-index (table_in c.loop-places.lengths.items c.loop-places.left.items c.loop-places.slots.items) c.args.cells.now c.loop-places-test.false c.loop-places.invariant))

pub returns-clause-order : goal.returns-clause-order
returns-clause-order c = subst AreInOrder (sym c.new.ensures) (in_order c.args.shape.now c.args.cells.now
    (table_in c.loop-places.lengths.items c.loop-places.left.items c.loop-places.slots.items)
    (finished c.args.shape.now c.loop-places.places-index (table_in c.loop-places.lengths.items c.loop-places.left.items c.loop-places.slots.items) c.args.cells.now c.loop-places-test.false c.loop-places.invariant))
