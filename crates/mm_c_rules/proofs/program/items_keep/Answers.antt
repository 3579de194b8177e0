use Rattle.std.proofs.Common.{map, sym, ap, ◌∙◌}
use Rattle.mm_c.specs.View.{item_view}
use Rattle.mm_c.specs.WellFormed.{item_fits, inner_breaks}
use Rattle.mm_c_names.specs.Entries.{table_of}
use Rattle.mm_c_names.specs.Tables.{globals_in}
use Rattle.mm_c_rules.specs.Keeps.{keeps, left_of}
use Rattle.mm_c_rules.proofs.Sequence.{unfit, broken, kept}
use Rattle.mm_c_rules.proofs.program.items_keep.Goals as goal

pub returns-then-not-counted-clause-keeps : goal.returns-then-not-counted-clause-keeps
returns-then-not-counted-clause-keeps c =
    let d = c.index-items-i.result in
    let tells = c.in_ok-item_fits.ensures ∙ (λ j. item_fits (table_of (c.loop-i.invariant.2 j)) (globals_in (c.in_ok-names.ensures j)) (map item_view (c.in_ok-names.ensures j)) (item_view d)) in
    (unfit c.args.items.now c.loop-i.i d c.loop-i-test.true c.index-items-i.is c.in_ok-item_fits.field-0 tells c.loop-i.left c.counted.new.left
    (sym c.if-not-counted.ensures.keeps) c.if-not-counted.ensures.left).0 ∙ sym c.loop-i.invariant.0

pub returns-then-not-counted-clause-left : goal.returns-then-not-counted-clause-left
returns-then-not-counted-clause-left c =
    let d = c.index-items-i.result in
    let tells = c.in_ok-item_fits.ensures ∙ (λ j. item_fits (table_of (c.loop-i.invariant.2 j)) (globals_in (c.in_ok-names.ensures j)) (map item_view (c.in_ok-names.ensures j)) (item_view d)) in
    (unfit c.args.items.now c.loop-i.i d c.loop-i-test.true c.index-items-i.is c.in_ok-item_fits.field-0 tells c.loop-i.left c.counted.new.left
    (sym c.if-not-counted.ensures.keeps) c.if-not-counted.ensures.left).1 ∙ sym c.loop-i.invariant.1

pub returns-then-not-branch-clause-keeps : goal.returns-then-not-branch-clause-keeps
returns-then-not-branch-clause-keeps c =
    let d = c.index-items-i.result in
    let tells = c.in_ok-item_fits.ensures ∙ (λ j. item_fits (table_of (c.loop-i.invariant.2 j)) (globals_in (c.in_ok-names.ensures j)) (map item_view (c.in_ok-names.ensures j)) (item_view d)) in
    (broken c.args.items.now c.loop-i.i d c.loop-i-test.true c.index-items-i.is c.in_ok-item_fits.field-0 tells c.loop-i.left c.counted.new.left c.inside_keeps.new.left c.in_ok-inside_keeps.field-0
    (sym c.if-not-counted.ensures.keeps) c.if-not-counted.ensures.left c.if-not-branch.true
    (c.in_ok-inside_keeps.ensures.keeps ∙ ap (λ b. keeps (inner_breaks (table_of b) (item_view d))) c.in_ok-declare.ensures.ok)
    (c.in_ok-inside_keeps.ensures.left ∙ ap (λ b. left_of c.counted.new.left (inner_breaks (table_of b) (item_view d))) c.in_ok-declare.ensures.ok)).0
    ∙ sym c.loop-i.invariant.0

pub returns-then-not-branch-clause-left : goal.returns-then-not-branch-clause-left
returns-then-not-branch-clause-left c =
    let d = c.index-items-i.result in
    let tells = c.in_ok-item_fits.ensures ∙ (λ j. item_fits (table_of (c.loop-i.invariant.2 j)) (globals_in (c.in_ok-names.ensures j)) (map item_view (c.in_ok-names.ensures j)) (item_view d)) in
    (broken c.args.items.now c.loop-i.i d c.loop-i-test.true c.index-items-i.is c.in_ok-item_fits.field-0 tells c.loop-i.left c.counted.new.left c.inside_keeps.new.left c.in_ok-inside_keeps.field-0
    (sym c.if-not-counted.ensures.keeps) c.if-not-counted.ensures.left c.if-not-branch.true
    (c.in_ok-inside_keeps.ensures.keeps ∙ ap (λ b. keeps (inner_breaks (table_of b) (item_view d))) c.in_ok-declare.ensures.ok)
    (c.in_ok-inside_keeps.ensures.left ∙ ap (λ b. left_of c.counted.new.left (inner_breaks (table_of b) (item_view d))) c.in_ok-declare.ensures.ok)).1
    ∙ sym c.loop-i.invariant.1

pub loop-i-preserved : goal.loop-i-preserved
loop-i-preserved c =
    let d = c.index-items-i.result in
    let tells = c.in_ok-item_fits.ensures ∙ (λ j. item_fits (table_of (c.loop-i.invariant.2 j)) (globals_in (c.in_ok-names.ensures j)) (map item_view (c.in_ok-names.ensures j)) (item_view d)) in
    let more =
    kept c.args.items.now c.loop-i.i d c.loop-i-test.true c.index-items-i.is c.in_ok-item_fits.field-0 tells c.loop-i.left c.counted.new.left c.inside_keeps.new.left c.in_ok-inside_keeps.field-0
    (sym c.if-not-counted.ensures.keeps) c.if-not-counted.ensures.left c.if-not-branch.false
    (c.in_ok-inside_keeps.ensures.keeps ∙ ap (λ b. keeps (inner_breaks (table_of b) (item_view d))) c.in_ok-declare.ensures.ok)
    (c.in_ok-inside_keeps.ensures.left ∙ ap (λ b. left_of c.counted.new.left (inner_breaks (table_of b) (item_view d))) c.in_ok-declare.ensures.ok) in
    (c.loop-i.invariant.0 ∙ more.0, c.loop-i.invariant.1 ∙ more.1, c.in_ok-declare.ensures.ok)
