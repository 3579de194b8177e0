use Rattle.std.proofs.Common.{List, ℕ, sym, subst, ap, ◌∙◌, ◌≡◌, ◌<◌, get_or, arith, length, Some}
use Rattle.std.specs.Prelude.{true, false, slice_get}
use Rattle.mm_classes.specs.declared.class.Member.{Member}
use Rattle.mm_classes.specs.Classes.{members_of}
use Rattle.mm_virtual.specs.Results.{IsBroken}
use Rattle.mm_virtual.specs.Finals.{IsFirstBroken}
use Rattle.mm_virtual.proofs.Searching.{read_place, place_at, no_member_more}
use Rattle.mm_virtual.proofs.Halving.{result_typed}
use Rattle.mm_virtual.proofs.results.first_broken.Goals as goal

pub is_broken-requires-clause-typed : goal.is_broken-requires-clause-typed
is_broken-requires-clause-typed c =
    let p = read_place c.members-members.result.now c.loop-k.k c.index-members-k.result c.loop-k-test.true c.index-members-k.is in
    result_typed (length c.args.graph.now) c.index-members-k.result.kind (λ t h. c.members-members.ensures.typed c.index-members-k.result t p.1 h)

pub returns-then-is_broken : goal.returns-then-is_broken
returns-then-is_broken c =
    let p = read_place c.members-members.result.now c.loop-k.k c.index-members-k.result c.loop-k-test.true c.index-members-k.is in (
      c.index-members-k.result,
      (
        subst (λ (ms : List Member). slice_get ms c.loop-k.k ≡ Some c.index-members-k.result) c.members-members.ensures.members p.0,
        c.is_broken.ensures.0 c.if-is_broken.true,
        subst (λ (ms : List Member). (j : ℕ) (x : Member) → j < c.loop-k.k → slice_get ms j ≡ Some x → IsBroken c.args.graph.now c.args.c x → ⊥) c.members-members.ensures.members c.loop-k.invariant.none,
      ),
    )

pub loop-k-preserved : goal.loop-k-preserved
loop-k-preserved c =
    let p = read_place c.members-members.result.now c.loop-k.k c.index-members-k.result c.loop-k-test.true c.index-members-k.is in
    record {
      none = no_member_more (IsBroken c.args.graph.now c.args.c) c.members-members.result.now c.loop-k.k c.index-members-k.result p.0
          (λ b. let z : false ≡ true = sym c.if-is_broken.false ∙ c.is_broken.ensures.1 b in cc) c.loop-k.invariant.none;
    }

pub returns : goal.returns
returns c = λ k m e b.
    let f : slice_get c.members-members.result.now k ≡ Some m = subst (λ (ms : List Member). slice_get ms k ≡ Some m) (sym c.members-members.ensures.members) e in
    let p = place_at c.members-members.result.now k m f in
    c.loop-k.invariant.none k m (let l = p.0 in let q = c.loop-k-test.false in omega arith) f b
