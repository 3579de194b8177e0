use Rattle.std.proofs.Common.{refl, ap, arith, length}
use Rattle.mm_parse_unit.proofs.Faults.{is_tree, reading_of_tree, reading_of_fault, no_text}
use Rattle.mm_parse_unit.proofs.unit.Goals as goal

pub returns-then-at-list : goal.returns-then-at-list
returns-then-at-list c =
    is_tree c.args.tokens.now c.as_slice-list.result.now _ _ _ c.rest-left.result.now c.first_past-at.result c.in-Ok.decls _ c.as_slice-list.ensures c.in-Ok-tree.ensures c.first_past-at.ensures c.new-cursor.ensures refl c.rest-left.ensures c.in-Ok.ensures.reads c.if-left-eq0.true c.if-at-list.true

pub first_fault-requires-clause-reading : goal.first_fault-requires-clause-reading
first_fault-requires-clause-reading c =
    reading_of_tree c.as_slice-list.result.now _ _ _ c.rest-left.result.now c.first_past-at.result c.in-Ok.decls c.new-cursor.ensures refl c.rest-left.ensures c.in-Ok.ensures.reads

pub first_fault-requires-in-Err-Fault-clause-reading :
    goal.first_fault-requires-in-Err-Fault-clause-reading
first_fault-requires-in-Err-Fault-clause-reading c =
    reading_of_fault c.as_slice-list.result.now _ _ _ c.rest-left-in-Err-Fault.result.now c.first_past-at.result c.in-Err-Fault.field-0 c.in-Err-Fault.field-0-is c.new-cursor.ensures refl c.rest-left-in-Err-Fault.ensures c.in-Err-Fault.ensures.reads

pub first_fault-requires-in-Err-Fault-clause-no_text :
    goal.first_fault-requires-in-Err-Fault-clause-no_text
first_fault-requires-in-Err-Fault-clause-no_text c =
    no_text c.as_slice-list.result.now _ _ _ c.rest-left-in-Err-Fault.result.now c.first_past-at.result c.in-Err-Fault.field-0 c.in-Err-Fault.field-0-is c.new-cursor.ensures refl c.rest-left-in-Err-Fault.ensures c.in-Err-Fault.ensures.reads

pub first_fault-requires-clause-short : goal.first_fault-requires-clause-short
first_fault-requires-clause-short c = omega (arith, ap length c.as_slice-list.ensures, c.args.tokens.now.few, c.args.tokens.now.limited)

pub first_fault-requires-in-Err-Fault-clause-short :
    goal.first_fault-requires-in-Err-Fault-clause-short
first_fault-requires-in-Err-Fault-clause-short c = omega (arith, ap length c.as_slice-list.ensures, c.args.tokens.now.few, c.args.tokens.now.limited)
