use Rattle.std.proofs.Common.{[], ◌∷◌, length, ap, arith, sym}
use Rattle.mm_grammar.specs.Grammar.{name}
use Rattle.mm_syntax.specs.declared.symbol.Symbol.TheVariants as k
use Rattle.mm_syntax.specs.Rules.{item}
use Rattle.mm_cursor.proofs.Steps.{err, eats_some, eats_none}
use Rattle.mm_parse_class.specs.Parts.{members}
use Rattle.mm_parse_class.proofs.Exits as exit
use Rattle.mm_parse_class.proofs.item.members.Goals as goal

pub loop-alloc-init : goal.loop-alloc-init
loop-alloc-init c =
    record { so_far = exit.members_start c.args.nesting _ _ c.new-list.ensures; shorter = omega arith }

pub returns-in_err-next-clause-reads : goal.returns-in_err-next-clause-reads
returns-in_err-next-clause-reads c =
    let z = eats_none (k.CloseBrace ∷ []) _ _ _ (sym c.loop-alloc-test.ensures) c.eat.ensures in
    err (name (item c.args.nesting)) (members c.args.nesting) _ _ _ _ _ c.from_residual.ensures.1 c.in_err-next.ensures.reads λ f. exit.members_fail c.args.nesting _ _ _ _ _ c.loop-alloc.invariant.so_far z f

pub loop-alloc-preserved : goal.loop-alloc-preserved
loop-alloc-preserved c =
    let z = eats_none (k.CloseBrace ∷ []) _ _ _ (sym c.loop-alloc-test.ensures) c.eat.ensures in
    let l = exit.members_shorter c.args.nesting _ _ _ _ z c.in_ok-next.ensures.reads in
    record { so_far = exit.members_step c.args.nesting _ _ _ _ _ _ _ c.loop-alloc.invariant.so_far z c.in_ok-next.ensures.reads c.in_ok-push_member.ensures; shorter = omega (arith, l, c.loop-alloc.invariant.shorter) }

pub returns-clause-reads : goal.returns-clause-reads
returns-clause-reads c =
    let x = eats_some (k.CloseBrace ∷ []) _ _ _ (sym c.loop-alloc-test.ensures) c.eat.ensures in
    exit.members_end c.args.nesting _ _ _ _ _ c.loop-alloc.invariant.so_far x.1

pub returns-in_err-next-clause-shorter : goal.returns-in_err-next-clause-shorter
returns-in_err-next-clause-shorter c =
    let z = eats_none (k.CloseBrace ∷ []) _ _ _ (sym c.loop-alloc-test.ensures) c.eat.ensures in
    let l = ap length z.0 in
    omega (arith, l, c.in_err-next.ensures.shorter, c.loop-alloc.invariant.shorter)

pub loop-alloc-smaller : goal.loop-alloc-smaller
loop-alloc-smaller c =
    let z = eats_none (k.CloseBrace ∷ []) _ _ _ (sym c.loop-alloc-test.ensures) c.eat.ensures in
    exit.members_shorter c.args.nesting _ _ _ _ z c.in_ok-next.ensures.reads

pub returns-in_err-push_member-clause-shorter : goal.returns-in_err-push_member-clause-shorter
returns-in_err-push_member-clause-shorter c =
    let z = eats_none (k.CloseBrace ∷ []) _ _ _ (sym c.loop-alloc-test.ensures) c.eat.ensures in
    let l = exit.members_shorter c.args.nesting _ _ _ _ z c.in_ok-next.ensures.reads in
    omega (arith, l, c.loop-alloc.invariant.shorter)
