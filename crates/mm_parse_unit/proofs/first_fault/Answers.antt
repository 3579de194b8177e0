use Rattle.std.proofs.Common.{arith}
use Rattle.mm_parse_unit.proofs.Faults.{left_within, stops_before, count_fault, end_fault}
use Rattle.mm_parse_unit.proofs.first_fault.Goals as goal

pub overflow_sub-at : goal.overflow_sub-at
overflow_sub-at c = left_within _ _ _ c.requires.first c.requires.reading

pub fault_at-requires-clause-stops : goal.fault_at-requires-clause-stops
fault_at-requires-clause-stops c = stops_before _ _ _ c.requires.first c.requires.reading c.if-left-gt0.true

pub returns-then-left-gt0 : goal.returns-then-left-gt0
returns-then-left-gt0 c = c.fault_at.ensures c.args.end

pub returns-then-at-tokens : goal.returns-then-at-tokens
returns-then-at-tokens c = count_fault _ _ _ _ c.index-tokens-at.result c.requires.first c.requires.reading (omega (arith, c.if-left-gt0.false)) c.if-at-tokens.true

pub returns : goal.returns
returns c = end_fault _ _ _ _ c.requires.first c.requires.reading c.requires.no_text (omega (arith, c.if-left-gt0.false)) (omega (arith, c.if-at-tokens.false))
