use Rattle.std.proofs.Common.{ℕ, List, sym, subst, ◌∙◌, ◌≡◌, ◌+◌, Some}
use Rattle.std.specs.Prelude.{true, false}
use Rattle.mm_classes.specs.declared.class.Member.{Member}
use Rattle.mm_classes.specs.Classes.{members_of, member_name, IsNextNamed}
use Rattle.mm_virtual.specs.Overriders.{IsSameAt}
use Rattle.mm_virtual.proofs.Searching.{IsSearch, search_first, search_next, found_at}
use Rattle.mm_virtual.proofs.same.same_in.Goals as goal

pub loop-at-init : goal.loop-at-init
loop-at-init c = search_first c.members-members.result.now c.args.m.now c.first_named-at.result
    (subst (λ (ms : List Member). IsNextNamed c.first_named-at.result ms c.args.m.now.name 0) (sym c.members-members.ensures.members)
    (subst (λ name. IsNextNamed c.first_named-at.result (members_of c.args.graph.now c.args.c) name 0) c.as_str.ensures c.first_named-at.ensures))

pub returns-then-is_same : goal.returns-then-is_same
returns-then-is_same c =
    let s : IsSearch c.members-members.result.now c.args.m.now (Some c.in-Some.k) = subst (IsSearch c.members-members.result.now c.args.m.now) c.in-Some.is c.loop-at.invariant in
    subst (λ (ms : List Member). IsSameAt ms c.args.m.now c.in-Some.k) c.members-members.ensures.members
    (found_at c.members-members.result.now c.args.m.now c.index-members-k.result c.in-Some.k s.0 c.index-members-k.is (c.is_same.ensures.0 c.if-is_same.true))

pub loop-at-preserved : goal.loop-at-preserved
loop-at-preserved c = search_next c.members-members.result.now c.args.m.now c.index-members-k.result c.in-Some.k c.next_named-at.result
    (subst (IsSearch c.members-members.result.now c.args.m.now) c.in-Some.is c.loop-at.invariant) c.index-members-k.is
    (λ q. let z : false ≡ true = sym c.if-is_same.false ∙ c.is_same.ensures.1 q in cc)
    (subst (λ (ms : List Member). IsNextNamed c.next_named-at.result ms (member_name ms c.in-Some.k) (c.in-Some.k + 1)) (sym c.members-members.ensures.members) c.next_named-at.ensures)
