use Rattle.std.proofs.Common.{◌≡◌, ◌+◌, ◌<◌, ◌≤◌, arith, ap, ◌∙◌, length, None, Some, get_or, sym, subst, ℕ, List, Option}
use Rattle.std.specs.Prelude.{IfSome}
use Rattle.std.proofs.lemmas.List.{length_push}
use Rattle.std.specs.Option.{option_map}
use Rattle.mm_classes.specs.Questions.{IsNode}
use Rattle.mm_layout.specs.Cells.{IsCell}
use Rattle.mm_layout.specs.Kept.{IsUser}
use Rattle.mm_layout.specs.Layouts.{test_of}
use Rattle.mm_layout.proofs.Virtual.{pushed}
use Rattle.mm_layout.proofs.Owning.{cell_is, owner_here}
use Rattle.mm_layout.proofs.cells.cells.Goals as goal

pub cell_at-requires : goal.cell_at-requires
cell_at-requires c =
    let here : IsNode c.args.graph.now c.args.d c.loop-n.n = omega (arith, c.count-count.ensures.count) in
    each (get_or c.args.owners.now c.loop-n.n None) (c.requires.owners.each c.loop-n.n here)
  where
    each : (o : Option ℕ) → IsUser c.args.graph.now (test_of c.args.sorts.now.tags.items) c.args.d c.loop-n.n o → IfSome o (λ h. h < length c.args.offsets.now)
    each None u = tt
    each (Some h) u =
        let k : IsNode c.args.graph.now c.args.d h = owner_here c.args.graph.now c.requires.valid (test_of c.args.sorts.now.tags.items) c.requires.sorts.tags.1 c.args.d c.requires.class c.loop-n.n h u in
        omega (arith, c.requires.offsets.count)

pub loop-n-preserved : goal.loop-n-preserved
loop-n-preserved c =
    let here : IsNode c.args.graph.now c.args.d c.loop-n.n = omega (arith, c.count-count.ensures.count) in
    record {
      low = omega arith;
      long = ap length c.in_ok-push.ensures.items ∙ length_push c.loop-n.cells.items c.cell_at.result ∙ ap (λ n. n + 1) c.loop-n.invariant.long;
      each = pushed (λ k o. IsCell c.args.graph.now (test_of c.args.sorts.now.tags.items) c.args.d k o) c.loop-n.cells.items c.push.new.self.items c.loop-n.n c.cell_at.result None
          c.loop-n.invariant.long c.loop-n.invariant.each
          (subst (IsCell c.args.graph.now (test_of c.args.sorts.now.tags.items) c.args.d c.loop-n.n) (sym c.cell_at.ensures)
          (cell_is c.args.graph.now c.requires.valid (test_of c.args.sorts.now.tags.items) c.requires.sorts.tags.1 c.args.d c.requires.class c.loop-n.n c.args.offsets.now (get_or c.args.owners.now c.loop-n.n None)
          (λ h k. c.requires.offsets.each h (omega arith)) (c.requires.owners.each c.loop-n.n here)))
          c.in_ok-push.ensures.items;
    }
