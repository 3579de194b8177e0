use Rattle.mm_c.specs.View.{program_view}
use Rattle.mm_lower_trees.specs.Scopes.{program_of}
use Rattle.mm_emit.proofs.Translated.{writable, main_inside, all_items, is_lowered, does_translate, is_well_formed}
use Rattle.mm_emit.proofs.program.lower_program.Goals as goal

pub lower_main-requires-clause-writable : goal.lower_main-requires-clause-writable
lower_main-requires-clause-writable c = writable (program_of c.args.functions.now) c.requires.scalar c.requires.few

pub lower_main-requires-clause-inside : goal.lower_main-requires-clause-inside
lower_main-requires-clause-inside c = main_inside c.args.functions.now c.number_of_main-main.result c.requires.scalar c.number_of_main-main.ensures

pub lower_others-requires-clause-writable : goal.lower_others-requires-clause-writable
lower_others-requires-clause-writable c = writable (program_of c.args.functions.now) c.requires.scalar c.requires.few

pub returns-clause-lowered : goal.returns-clause-lowered
returns-clause-lowered c =
    let p = program_of c.args.functions.now in
    let is = all_items p c.new-items.result c.lower_heads.new.items c.lower_main.new.items c.lower_others.new.items c.new-items.ensures c.in_ok-lower_heads.ensures c.in_ok-lower_main.ensures c.in_ok-lower_others.ensures in
    is_lowered p (program_view (record { items = c.lower_others.new.items })) is

pub returns-clause-translates : goal.returns-clause-translates
returns-clause-translates c =
    let p = program_of c.args.functions.now in
    let is = all_items p c.new-items.result c.lower_heads.new.items c.lower_main.new.items c.lower_others.new.items c.new-items.ensures c.in_ok-lower_heads.ensures c.in_ok-lower_main.ensures c.in_ok-lower_others.ensures in
    does_translate p (program_view (record { items = c.lower_others.new.items })) is c.requires.scalar

pub returns-clause-well_formed : goal.returns-clause-well_formed
returns-clause-well_formed c =
    let p = program_of c.args.functions.now in
    let is = all_items p c.new-items.result c.lower_heads.new.items c.lower_main.new.items c.lower_others.new.items c.new-items.ensures c.in_ok-lower_heads.ensures c.in_ok-lower_main.ensures c.in_ok-lower_others.ensures in
    is_well_formed p (program_view (record { items = c.lower_others.new.items })) is c.requires.scalar c.requires.shallow
