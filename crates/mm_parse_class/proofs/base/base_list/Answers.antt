use Rattle.std.proofs.Common.{[], ◌∷◌, length, ap, arith}
use Rattle.mm_syntax.specs.declared.symbol.Symbol.TheVariants as k
use Rattle.mm_syntax.specs.Rules.{base}
use Rattle.mm_cursor.proofs.Steps.{err, eats_some, eats_none, taken_shorter}
use Rattle.mm_parse_class.specs.Parts.{base_list}
use Rattle.mm_parse_class.proofs.Exits.{bases_not, bases_start, bases_step, bases_fail, bases_end}
use Rattle.mm_parse_class.proofs.base.base_list.Goals as goal

pub returns-in_err-first-clause-reads : goal.returns-in_err-first-clause-reads
returns-in_err-first-clause-reads c =
    err base base_list _ _ _ _ _ c.from_residual.ensures.1 c.in_err-first.ensures.reads λ f. bases_not _ _ f

pub loop-alloc-init : goal.loop-alloc-init
loop-alloc-init c =
    record { so_far = bases_start _ _ _ _ c.in_ok-first.ensures.reads c.in_ok-list.ensures; shorter = c.in_ok-first.ensures.shorter }

pub returns-in_err-next-clause-reads : goal.returns-in_err-next-clause-reads
returns-in_err-next-clause-reads c =
    let x = eats_some (k.Comma ∷ []) _ _ _ c.loop-alloc-test.ensures c.eat.ensures in
    err base base_list _ _ _ _ _ c.from_residual-in_err-next.ensures.1 c.in_err-next.ensures.reads λ f. bases_fail _ _ _ _ _ _ c.loop-alloc.invariant.so_far x.1 c.in_err-next.ensures.shorter f

pub loop-alloc-preserved : goal.loop-alloc-preserved
loop-alloc-preserved c =
    let x = eats_some (k.Comma ∷ []) _ _ _ c.loop-alloc-test.ensures c.eat.ensures in
    let l = ap length x.1.0 in
    record { so_far = bases_step _ _ _ _ _ _ _ _ c.loop-alloc.invariant.so_far x.1 c.in_ok-next.ensures.reads c.in_ok-push_base.ensures; shorter = omega (arith, l, c.in_ok-next.ensures.shorter, c.loop-alloc.invariant.shorter) }

pub returns-clause-reads : goal.returns-clause-reads
returns-clause-reads c =
    bases_end _ _ _ _ c.loop-alloc.invariant.so_far (eats_none (k.Comma ∷ []) _ _ _ c.loop-alloc-test.ensures c.eat.ensures)

pub returns-in_err-next-clause-shorter : goal.returns-in_err-next-clause-shorter
returns-in_err-next-clause-shorter c =
    let x = eats_some (k.Comma ∷ []) _ _ _ c.loop-alloc-test.ensures c.eat.ensures in
    let n = taken_shorter (k.Comma ∷ []) _ _ _ _ x.1 c.in_err-next.ensures.shorter in
    omega (arith, n, c.loop-alloc.invariant.shorter)

pub loop-alloc-smaller : goal.loop-alloc-smaller
loop-alloc-smaller c =
    let x = eats_some (k.Comma ∷ []) _ _ _ c.loop-alloc-test.ensures c.eat.ensures in
    taken_shorter (k.Comma ∷ []) _ _ _ _ x.1 c.in_ok-next.ensures.shorter

pub returns-in_err-push_base-clause-shorter : goal.returns-in_err-push_base-clause-shorter
returns-in_err-push_base-clause-shorter c =
    let x = eats_some (k.Comma ∷ []) _ _ _ c.loop-alloc-test.ensures c.eat.ensures in
    let n = taken_shorter (k.Comma ∷ []) _ _ _ _ x.1 c.in_ok-next.ensures.shorter in
    omega (arith, n, c.loop-alloc.invariant.shorter)
