use Rattle.std.specs.Prelude.{◌&&◌}
use Rattle.std.proofs.Common.{◌+◌, drop, sym, ap, ◌∙◌}
use Rattle.std.proofs.lemmas.Option.{get_or_from_slice_get}
use Rattle.mm_c.specs.WellFormed.{same_kinds}
use Rattle.mm_c_names.specs.Entries.{params_view}
use Rattle.mm_c_rules.proofs.Pairs.{kinds_more, kinds_short, within_more}
use Rattle.mm_c_rules.proofs.items.same_kinds.Goals as goal

pub returns-in_default : goal.returns-in_default
returns-in_default c = sym (c.loop-i.invariant.same ∙ kinds_short c.args.kinds.now (params_view c.args.params.now) c.loop-i.i c.loop-i-test.true c.in_default.ensures)

pub returns-then-not-same_kind : goal.returns-then-not-same_kind
returns-then-not-same_kind c =
    let i = c.loop-i.i in
    sym (c.loop-i.invariant.same ∙ kinds_more c.args.kinds.now (params_view c.args.params.now) i c.kind_at.result c.in-Some.kind c.loop-i-test.true (sym (get_or_from_slice_get c.args.kinds.now i c.kind_at.result c.kind_at.result c.kind_at.ensures)) c.in-Some.ensures
    ∙ ap (λ b. b && same_kinds (drop (i + 1) c.args.kinds.now) (drop (i + 1) ((params_view c.args.params.now)))) (sym c.if-not-same_kind.ensures))

pub loop-i-preserved : goal.loop-i-preserved
loop-i-preserved c =
    let i = c.loop-i.i in
    record {
      within = within_more (params_view c.args.params.now) i c.in-Some.kind c.in-Some.ensures;
      same = c.loop-i.invariant.same ∙ kinds_more c.args.kinds.now (params_view c.args.params.now) i c.kind_at.result c.in-Some.kind c.loop-i-test.true (sym (get_or_from_slice_get c.args.kinds.now i c.kind_at.result c.kind_at.result c.kind_at.ensures)) c.in-Some.ensures
          ∙ ap (λ b. b && same_kinds (drop (i + 1) c.args.kinds.now) (drop (i + 1) ((params_view c.args.params.now)))) (sym c.if-not-same_kind.ensures);
    }
