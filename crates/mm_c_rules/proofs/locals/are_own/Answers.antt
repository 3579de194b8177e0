use Rattle.std.specs.Prelude.{is_some}
use Rattle.std.proofs.Common.{◌-◌, drop, sym, ap, ◌∙◌, arith}
use Rattle.mm_c.specs.WellFormed.{is_in}
use Rattle.mm_c_names.specs.Tables.{globals_in}
use Rattle.mm_c_rules.specs.Locals.{held}
use Rattle.mm_c_rules.proofs.Own.{names_of, not_free, not_new, own_more, met_more}
use Rattle.mm_c_rules.proofs.locals.are_own.Goals as goal

pub returns-then-not-is_free : goal.returns-then-not-is_free
returns-then-not-is_free c =
    let low = c.loop-i.invariant.0 in
    let some = c.loop-i-test.true in
    sym (not_free (globals_in c.args.names.now) c.args.locals.now (c.loop-i.i - 1) c.loop-i.i c.index-locals-i.result (omega arith) (omega arith) c.index-locals-i.is c.is_free.result c.if-not-is_free.true c.is_free.ensures)

pub returns-then-is_some : goal.returns-then-is_some
returns-then-is_some c =
    let low = c.loop-i.invariant.0 in
    let some = c.loop-i-test.true in
    sym (not_new (globals_in c.args.names.now) c.args.locals.now (c.loop-i.i - 1) c.loop-i.i c.index-locals-i.result (omega arith) (omega arith) c.index-locals-i.is c.is_free.result c.is_some.result
    c.if-not-is_free.false c.is_free.ensures c.if-is_some.true
    (c.is_some.ensures ∙ ap is_some c.in_ok-insert.ensures.old ∙ c.loop-i.invariant.1 c.as_str.result.now ∙ ap (is_in (names_of (held (drop c.loop-i.i c.args.locals.now)))) c.as_str.ensures))

pub loop-i-preserved : goal.loop-i-preserved
loop-i-preserved c =
    let low = c.loop-i.invariant.0 in
    let some = c.loop-i-test.true in (
      omega arith,
      met_more (globals_in c.args.names.now) c.args.locals.now (c.loop-i.i - 1) c.loop-i.i c.index-locals-i.result (omega arith) (omega arith) c.index-locals-i.is
          c.loop-i.later c.insert.new.self c.as_str.result.now _ c.as_str.ensures c.in_ok-insert.ensures.updates c.loop-i.invariant.1,
      own_more (globals_in c.args.names.now) c.args.locals.now (c.loop-i.i - 1) c.loop-i.i c.index-locals-i.result (omega arith) (omega arith) c.index-locals-i.is c.is_free.result c.is_some.result
          c.if-not-is_free.false c.is_free.ensures c.if-is_some.false
          (c.is_some.ensures ∙ ap is_some c.in_ok-insert.ensures.old ∙ c.loop-i.invariant.1 c.as_str.result.now ∙ ap (is_in (names_of (held (drop c.loop-i.i c.args.locals.now)))) c.as_str.ensures)
          c.loop-i.invariant.2,
    )
