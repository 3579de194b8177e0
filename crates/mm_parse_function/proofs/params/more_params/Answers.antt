use Rattle.std.proofs.Common.{[], ◌∷◌, length, refl, ap, arith}
use Rattle.mm_grammar.specs.Grammar.{name}
use Rattle.mm_syntax.specs.declared.symbol.Symbol.TheVariants as k
use Rattle.mm_syntax.specs.Rules.{param}
use Rattle.mm_cursor.proofs.Steps.{err, eats_some, eats_none}
use Rattle.mm_cursor.proofs.Lists.{list_behind, list_step, list_ends, list_fails, next_reads, next_fails}
use Rattle.mm_parse_function.specs.Parts.{next_param, behind}
use Rattle.mm_parse_function.proofs.params.more_params.Goals as goal

pub loop-alloc-init : goal.loop-alloc-init
loop-alloc-init c =
    record { so_far = list_behind next_param c.args.first _ _ c.in_ok-list.ensures; shorter = omega arith }

pub returns-in_err-next-clause-reads : goal.returns-in_err-next-clause-reads
returns-in_err-next-clause-reads c =
    let x = eats_some (k.Comma ∷ []) _ _ _ c.loop-alloc-test.ensures c.eat.ensures in
    err (name param) (behind c.args.first) _ _ _ _ _ c.from_residual-in_err-next.ensures.1 c.in_err-next.ensures.reads λ f. list_fails (behind c.args.first) next_param refl _ _ _ _ _ _ c.loop-alloc.invariant.so_far x.1 c.in_err-next.ensures.shorter (next_fails (name param) refl _ _ _ _ x.1 f)

pub loop-alloc-preserved : goal.loop-alloc-preserved
loop-alloc-preserved c =
    let x = eats_some (k.Comma ∷ []) _ _ _ c.loop-alloc-test.ensures c.eat.ensures in
    let l = ap length x.1.0 in
    record { so_far = list_step (behind c.args.first) next_param refl _ _ _ _ _ _ c.loop-alloc.invariant.so_far (next_reads (name param) refl _ _ _ _ _ x.1 c.in_ok-next.ensures.reads) c.in_ok-push.ensures; shorter = omega (arith, l, c.in_ok-next.ensures.shorter, c.loop-alloc.invariant.shorter) }

pub returns-clause-reads : goal.returns-clause-reads
returns-clause-reads c =
    list_ends (behind c.args.first) (name param) refl _ _ _ _ c.loop-alloc.invariant.so_far (eats_none (k.Comma ∷ []) _ _ _ c.loop-alloc-test.ensures c.eat.ensures)
