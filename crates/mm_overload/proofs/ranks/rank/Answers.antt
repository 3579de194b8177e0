use Rattle.std.proofs.Common.{ap, sym, ◌∙◌}
use Rattle.mm_overload.specs.Rank.{rank_from}
use Rattle.mm_overload.proofs.ranks.rank.Goals as goal

pub returns-in-Bool : goal.returns-in-Bool
returns-in-Bool c = c.from_bool.ensures c.args.graph.now c.args.from.now.zero
    c.args.from.now.lvalue ∙ ap (λ t. rank_from c.args.graph.now c.args.from.now.zero
    c.args.from.now.lvalue t c.args.to.now) (sym c.in-Bool.is)

pub returns-in-Int : goal.returns-in-Int
returns-in-Int c = c.from_int.ensures c.args.graph.now c.args.from.now.lvalue
    ∙ ap (λ t. rank_from c.args.graph.now c.args.from.now.zero c.args.from.now.lvalue t
    c.args.to.now) (sym c.in-Int.is)

pub returns-in-Unsigned : goal.returns-in-Unsigned
returns-in-Unsigned c = c.from_unsigned.ensures c.args.graph.now c.args.from.now.zero
    c.args.from.now.lvalue ∙ ap (λ t. rank_from c.args.graph.now c.args.from.now.zero
    c.args.from.now.lvalue t c.args.to.now) (sym c.in-Unsigned.is)

pub returns-in-Ptr : goal.returns-in-Ptr
returns-in-Ptr c = c.from_pointer.ensures c.args.from.now.zero c.args.from.now.lvalue
    ∙ ap (λ t. rank_from c.args.graph.now c.args.from.now.zero c.args.from.now.lvalue t
    c.args.to.now) (sym c.in-Ptr.is)

pub returns-in-Ref : goal.returns-in-Ref
returns-in-Ref c = c.from_class.ensures c.args.from.now.zero
    ∙ ap (λ t. rank_from c.args.graph.now c.args.from.now.zero c.args.from.now.lvalue t
    c.args.to.now) (sym c.in-Ref.is)
