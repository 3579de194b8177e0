use Rattle.std.proofs.Common.{arith, refl, subst, sym, ◌∙◌, ◌≡◌}
use Rattle.std.specs.Prelude.{true, false}
use Rattle.mm_classes.specs.Lists.{Has}
use Rattle.mm_classes.proofs.Answering.{Has-get_or}
use Rattle.mm_paths.proofs.Building.{known_at, none_polymorphic, never_polymorphic}
use Rattle.mm_paths.proofs.build.any_polymorphic.Goals as goal

pub is_polymorphic-requires : goal.is_polymorphic-requires
is_polymorphic-requires c = known_at c.args.graph.now c.args.bases.now c.loop-n.n c.index-bases-n.result c.index-bases-n.is c.requires.known c.loop-n-test.true

pub returns-then-is_polymorphic : goal.returns-then-is_polymorphic
returns-then-is_polymorphic c = (
  (λ e. (
    c.index-bases-n.result,
    subst (Has c.args.bases.now) (sym c.index-bases-n.is) (Has-get_or c.args.bases.now c.loop-n.n c.index-bases-n.result c.loop-n-test.true),
    c.is_polymorphic.ensures.0 c.if-is_polymorphic.true,
  )),
  λ h. refl,
)

pub loop-n-preserved : goal.loop-n-preserved
loop-n-preserved c = record {
  low = omega arith;
  none = none_polymorphic c.args.graph.now c.args.bases.now c.loop-n.n c.index-bases-n.result c.index-bases-n.is c.loop-n-test.true c.loop-n.invariant.none
      (λ p. let z : false ≡ true = sym c.if-is_polymorphic.false ∙ c.is_polymorphic.ensures.1 p in cc);
}

pub returns : goal.returns
returns c = never_polymorphic c.args.graph.now c.args.bases.now c.loop-n.n (omega arith) c.loop-n.invariant.none
