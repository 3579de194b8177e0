use Rattle.std.proofs.Common.{◌≡◌, length, refl, subst, sym, ◌∙◌, arith}
use Rattle.std.specs.Prelude.{true, false}
use Rattle.mm_classes.specs.Subobjects.{subobjects_of}
use Rattle.mm_classes.specs.Tops.{ContainsAll}
use Rattle.mm_virtual.specs.Overriders.{IsOver}
use Rattle.mm_virtual.proofs.Finding.{all_more}
use Rattle.mm_virtual.proofs.over.contains_all.Goals as goal

pub returns-then-not-lies_in : goal.returns-then-not-lies_in
returns-then-not-lies_in c = (
  (λ e. cc),
  λ all. let z : false ≡ true = sym c.if-not-lies_in.true ∙ c.lies_in.ensures.1 (λ p. all c.loop-t.t (let l = c.loop-t-test.true in let k = c.count-count.ensures.count in omega arith) p) in cc,
)

pub loop-t-preserved : goal.loop-t-preserved
loop-t-preserved c = record {
  low = omega arith;
  so_far = all_more c.args.graph.now c.args.d (IsOver c.args.graph.now c.args.d c.args.n c.args.m.now) c.args.best c.loop-t.t (c.lies_in.ensures.0 c.if-not-lies_in.false) c.loop-t.invariant.so_far;
}

pub returns : goal.returns
returns c = (
  (λ e. subst (ContainsAll c.args.graph.now c.args.d (IsOver c.args.graph.now c.args.d c.args.n c.args.m.now) c.args.best)
      (let a = c.loop-t.invariant.low in let b = c.loop-t-test.false in let k = c.count-count.ensures.count in let z : c.loop-t.t ≡ length (subobjects_of c.args.graph.now c.args.d) = omega arith in z) c.loop-t.invariant.so_far),
  λ h. refl,
)
