use Rattle.std.proofs.Common.{◌≡◌, ◌≤◌, ◌*◌, ℕ, List, Bor, length, sym, ◌∙◌, subst}
use Rattle.std.proofs.lemmas.List.{length-map}
use Rattle.mm_pack.specs.Rounds.{AreNumbered, AreTurned, IsRoundOf}
use Rattle.mm_pack.proofs.Numbering.{rows_of}
use Rattle.mm_pack.proofs.Rounds.{round}
use Rattle.mm_pack.proofs.round.reduce.Goals as goal

-- a round from the keys of the set
reduced : (cells : List ℕ) (rows width kept : ℕ) (keys given : List (Bor (List ℕ))) (slots turned : List ℕ) → given ≡ keys → kept ≡ length keys
    → length cells ≡ rows * width → length keys ≤ rows → AreNumbered cells width rows (rows_of keys) slots → AreTurned (rows_of given) width turned
    → IsRoundOf cells rows width kept slots turned
reduced cells rows width kept keys given slots turned same count long few n t =
    let e : length (rows_of keys) ≡ length keys = length-map keys (λ (k : Bor (List ℕ)). k.now) in
    subst (λ x. IsRoundOf cells rows width x slots turned) (e ∙ sym count)
    (round cells rows width (rows_of keys) slots turned long (subst (λ x. x ≤ rows) (sym e) few) n (subst (λ ks. AreTurned (rows_of ks) width turned) same t))

pub returns : goal.returns
returns c = reduced c.args.cells.now c.args.rows c.args.width c.len.result c.number_rows.new.seen.keys c.as_slice.result.now c.in_ok-slots.slots.items c.in_ok-cells.cells.items
    c.as_slice.ensures.keys c.len.ensures.len c.requires.count c.in_ok-slots.ensures.few c.in_ok-slots.ensures.numbered c.in_ok-cells.ensures
