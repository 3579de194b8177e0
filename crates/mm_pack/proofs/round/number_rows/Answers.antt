use Rattle.std.proofs.Common.{◌≡◌, ◌+◌, ◌*◌, ◌-◌, ℕ, List, length, take, drop, arith, ap, ◌∙◌, refl}
use Rattle.mm_pack.specs.Rounds.{row_at}
use Rattle.mm_pack.proofs.Numbering.{put, few_more, wide_more}
use Rattle.mm_pack.proofs.Rounds.{row_long}
use Rattle.mm_pack.proofs.round.number_rows.Goals as goal

-- a slice of the cells is a row
row_is : (cells : List ℕ) (start width i : ℕ) → start ≡ i * width → take (start + width - start) (drop start cells) ≡ row_at cells width i
row_is cells start width i e =
    let s : start + width - start ≡ width = omega arith in
    ap (λ n. take n (drop start cells)) s ∙ ap (λ n. take width (drop n cells)) e

pub loop-i-preserved : goal.loop-i-preserved
loop-i-preserved c = record {
  done = rw (c.in_ok-push.ensures.items) (put c.args.cells.now c.args.width c.loop-i.i c.in_ok-slot.slot c.loop-i.seen.keys c.insert_full.new.self.keys _ c.loop-i.slots.items
      c.loop-i.invariant.done (row_is c.args.cells.now (c.loop-i.i * c.args.width) c.args.width c.loop-i.i refl) c.in_ok-slot.ensures.keys c.in_ok-slot.ensures.within
      c.in_ok-slot.ensures.stored c.in_ok-slot.ensures.unique);
  few = few_more c.loop-i.i c.loop-i.seen.keys c.insert_full.new.self.keys _ c.loop-i.invariant.few c.in_ok-slot.ensures.keys;
  wide = wide_more c.args.width c.loop-i.seen.keys c.insert_full.new.self.keys _ c.loop-i.invariant.wide
      (ap length (row_is c.args.cells.now (c.loop-i.i * c.args.width) c.args.width c.loop-i.i refl) ∙ row_long c.args.cells.now c.args.width c.loop-i.i c.args.rows c.requires.count c.loop-i-test.true)
      c.in_ok-slot.ensures.keys;
}
