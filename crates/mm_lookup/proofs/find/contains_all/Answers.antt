use Rattle.std.proofs.Common.{◌≡◌, length, refl, subst, sym, ◌∙◌, arith}
use Rattle.std.specs.Prelude.{true, false}
use Rattle.mm_classes.specs.Subobjects.{subobjects_of}
use Rattle.mm_classes.specs.Tops.{ContainsAll}
use Rattle.mm_lookup.specs.Lookup.{Declares}
use Rattle.mm_lookup.proofs.Finding.{all_more}
use Rattle.mm_lookup.proofs.find.contains_all.Goals as goal

pub returns-then-not-lies_in : goal.returns-then-not-lies_in
returns-then-not-lies_in c = (
  (λ e. cc),
  λ all. let z : false ≡ true = sym c.if-not-lies_in.true ∙ c.lies_in.ensures.1 (λ p. all c.loop-n.n (let l = c.loop-n-test.true in let k = c.count-count.ensures.count in omega arith) p) in cc,
)

pub loop-n-preserved : goal.loop-n-preserved
loop-n-preserved c = record {
  low = omega arith;
  so_far = all_more c.args.graph.now c.args.c (Declares c.args.graph.now c.args.c c.args.name.now) c.args.best c.loop-n.n (c.lies_in.ensures.0 c.if-not-lies_in.false) c.loop-n.invariant.so_far;
}

pub returns : goal.returns
returns c = (
  (λ e. subst (ContainsAll c.args.graph.now c.args.c (Declares c.args.graph.now c.args.c c.args.name.now) c.args.best)
      (let a = c.loop-n.invariant.low in let b = c.loop-n-test.false in let k = c.count-count.ensures.count in let z : c.loop-n.n ≡ length (subobjects_of c.args.graph.now c.args.c) = omega arith in z) c.loop-n.invariant.so_far),
  λ h. refl,
)
