use Rattle.std.proofs.Common.{[], ◌∷◌, length, refl, ap, arith}
use Rattle.mm_grammar.specs.Grammar.{name}
use Rattle.mm_syntax.specs.declared.symbol.Symbol.TheVariants as k
use Rattle.mm_syntax.specs.Rules.{init}
use Rattle.mm_cursor.proofs.Steps.{err, eats_some, eats_none}
use Rattle.mm_cursor.proofs.Lists.{list_start, list_not, list_step, list_ends, list_fails, next_reads, next_fails}
use Rattle.mm_parse_function.specs.Parts.{next_init, init_list}
use Rattle.mm_parse_function.proofs.constructor.init_list.Goals as goal

pub returns-in_err-first-clause-reads : goal.returns-in_err-first-clause-reads
returns-in_err-first-clause-reads c =
    err (name init) init_list _ _ _ _ _ c.from_residual.ensures.1 c.in_err-first.ensures.reads λ f. list_not (name init) next_init refl _ _ f

pub loop-alloc-init : goal.loop-alloc-init
loop-alloc-init c =
    record { so_far = list_start (name init) next_init refl _ _ _ _ c.in_ok-first.ensures.reads c.in_ok-list.ensures; shorter = c.in_ok-first.ensures.shorter }

pub returns-in_err-next-clause-reads : goal.returns-in_err-next-clause-reads
returns-in_err-next-clause-reads c =
    let x = eats_some (k.Comma ∷ []) _ _ _ c.loop-alloc-test.ensures c.eat.ensures in
    err (name init) init_list _ _ _ _ _ c.from_residual-in_err-next.ensures.1 c.in_err-next.ensures.reads λ f. list_fails init_list next_init refl _ _ _ _ _ _ c.loop-alloc.invariant.so_far x.1 c.in_err-next.ensures.shorter (next_fails (name init) refl _ _ _ _ x.1 f)

pub loop-alloc-preserved : goal.loop-alloc-preserved
loop-alloc-preserved c =
    let x = eats_some (k.Comma ∷ []) _ _ _ c.loop-alloc-test.ensures c.eat.ensures in
    let l = ap length x.1.0 in
    record { so_far = list_step init_list next_init refl _ _ _ _ _ _ c.loop-alloc.invariant.so_far (next_reads (name init) refl _ _ _ _ _ x.1 c.in_ok-next.ensures.reads) c.in_ok-push.ensures; shorter = omega (arith, l, c.in_ok-next.ensures.shorter, c.loop-alloc.invariant.shorter) }

pub returns-clause-reads : goal.returns-clause-reads
returns-clause-reads c =
    list_ends init_list (name init) refl _ _ _ _ c.loop-alloc.invariant.so_far (eats_none (k.Comma ∷ []) _ _ _ c.loop-alloc-test.ensures c.eat.ensures)
