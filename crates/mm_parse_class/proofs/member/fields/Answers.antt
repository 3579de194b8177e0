use Rattle.std.proofs.Common.{[], ◌∷◌, length, ap, arith}
use Rattle.mm_syntax.specs.declared.symbol.Symbol.TheVariants as k
use Rattle.mm_cursor.proofs.Steps.{err, err_take, eats_some, eats_none, taken_shorter}
use Rattle.mm_parse_class.specs.Parts.{field, fields}
use Rattle.mm_parse_class.proofs.Exits as exit
use Rattle.mm_parse_class.proofs.member.fields.Goals as goal

pub loop-alloc-init : goal.loop-alloc-init
loop-alloc-init c =
    record { so_far = exit.fields_start _ _ c.new-list.ensures; shorter = omega arith }

pub returns-in_err-next-clause-reads : goal.returns-in_err-next-clause-reads
returns-in_err-next-clause-reads c =
    let x = eats_some (k.Comma ∷ []) _ _ _ c.loop-alloc-test.ensures c.eat.ensures in
    err field fields _ _ _ _ _ c.from_residual.ensures.1 c.in_err-next.ensures.reads λ f. exit.fields_fail _ _ _ _ _ _ c.loop-alloc.invariant.so_far x.1 c.in_err-next.ensures.shorter f

pub loop-alloc-preserved : goal.loop-alloc-preserved
loop-alloc-preserved c =
    let x = eats_some (k.Comma ∷ []) _ _ _ c.loop-alloc-test.ensures c.eat.ensures in
    let l = ap length x.1.0 in
    record { so_far = exit.fields_step _ _ _ _ _ _ _ _ c.loop-alloc.invariant.so_far x.1 c.in_ok-next.ensures.reads c.in_ok-push_field.ensures; shorter = omega (arith, l, c.in_ok-next.ensures.shorter, c.loop-alloc.invariant.shorter) }

pub returns-in_err-take-clause-reads : goal.returns-in_err-take-clause-reads
returns-in_err-take-clause-reads c =
    err_take (k.Semicolon ∷ []) fields _ _ _ _ _ c.from_residual-in_err-take.ensures.1 c.in_err-take.ensures.reads λ f. exit.fields_unclosed _ _ _ _ _ c.loop-alloc.invariant.so_far (eats_none (k.Comma ∷ []) _ _ _ c.loop-alloc-test.ensures c.eat.ensures) f

pub returns-clause-reads : goal.returns-clause-reads
returns-clause-reads c =
    exit.fields_end _ _ _ _ _ _ c.loop-alloc.invariant.so_far (eats_none (k.Comma ∷ []) _ _ _ c.loop-alloc-test.ensures c.eat.ensures) c.in_ok-take.ensures.reads

pub returns-in_err-next-clause-shorter : goal.returns-in_err-next-clause-shorter
returns-in_err-next-clause-shorter c =
    let x = eats_some (k.Comma ∷ []) _ _ _ c.loop-alloc-test.ensures c.eat.ensures in
    let n = taken_shorter (k.Comma ∷ []) _ _ _ _ x.1 c.in_err-next.ensures.shorter in
    omega (arith, n, c.loop-alloc.invariant.shorter)

pub loop-alloc-smaller : goal.loop-alloc-smaller
loop-alloc-smaller c =
    let x = eats_some (k.Comma ∷ []) _ _ _ c.loop-alloc-test.ensures c.eat.ensures in
    taken_shorter (k.Comma ∷ []) _ _ _ _ x.1 c.in_ok-next.ensures.shorter

pub returns-in_err-push_field-clause-shorter : goal.returns-in_err-push_field-clause-shorter
returns-in_err-push_field-clause-shorter c =
    let x = eats_some (k.Comma ∷ []) _ _ _ c.loop-alloc-test.ensures c.eat.ensures in
    let n = taken_shorter (k.Comma ∷ []) _ _ _ _ x.1 c.in_ok-next.ensures.shorter in
    omega (arith, n, c.loop-alloc.invariant.shorter)
