use Rattle.std.proofs.Common.{ap, ◌∙◌, arith}
use Rattle.mm_grammar.specs.Grammar.{name}
use Rattle.mm_syntax.specs.Rules.{unit, decl}
use Rattle.mm_cursor.proofs.Steps.{err}
use Rattle.mm_parse_unit.specs.Reading.{begins, begin_decl}
use Rattle.mm_parse_unit.proofs.Exits.{decls_start, decls_step, decls_end, decls_fail, decl_less}
use Rattle.mm_parse_unit.proofs.decls.decls.Goals as goal

pub loop-alloc-init : goal.loop-alloc-init
loop-alloc-init c = record { so_far = decls_start _ _ _ c.new-list.ensures; shorter = omega arith }

pub returns-in_err-next-clause-reads : goal.returns-in_err-next-clause-reads
returns-in_err-next-clause-reads c =
    err (name (decl c.args.nesting)) (name (unit c.args.nesting)) _ _ _ _ _ c.from_residual.ensures.1 c.in_err-next.ensures.reads λ f. decls_fail c.args.nesting _ _ _ _ c.loop-alloc.invariant.so_far (c.loop-alloc-test.ensures ∙ ap (begins begin_decl) c.rest.ensures) f

pub returns-in_err-next-clause-shorter : goal.returns-in_err-next-clause-shorter
returns-in_err-next-clause-shorter c = omega (arith, c.in_err-next.ensures.shorter, c.loop-alloc.invariant.shorter)

pub loop-alloc-smaller : goal.loop-alloc-smaller
loop-alloc-smaller c = decl_less c.args.nesting _ _ _ c.in_ok-next.ensures.reads

pub loop-alloc-preserved : goal.loop-alloc-preserved
loop-alloc-preserved c = record { so_far = decls_step c.args.nesting _ _ _ _ _ _ c.loop-alloc.invariant.so_far c.in_ok-next.ensures.reads c.in_ok-push.ensures; shorter = omega (arith, c.in_ok-next.ensures.shorter, c.loop-alloc.invariant.shorter) }

pub returns-in_err-push-clause-shorter : goal.returns-in_err-push-clause-shorter
returns-in_err-push-clause-shorter c = omega (arith, c.in_ok-next.ensures.shorter, c.loop-alloc.invariant.shorter)

pub returns-clause-reads : goal.returns-clause-reads
returns-clause-reads c = decls_end c.args.nesting _ _ _ c.loop-alloc.invariant.so_far (c.loop-alloc-test.ensures ∙ ap (begins begin_decl) c.rest.ensures)

pub returns-clause-shorter : goal.returns-clause-shorter
returns-clause-shorter c = c.loop-alloc.invariant.shorter
