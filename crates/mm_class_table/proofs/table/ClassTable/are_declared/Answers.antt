use Rattle.std.proofs.Common.{◌≡◌, refl, sym, ◌∙◌, arith}
use Rattle.std.specs.Prelude.{true, false}
use Rattle.mm_class_table.proofs.Bases.{declared_more, all_declared, declared_at}
use Rattle.mm_class_table.proofs.table.ClassTable.are_declared.Goals as goal

pub returns-then-not-is_declared : goal.returns-then-not-is_declared
returns-then-not-is_declared c = (
  (λ e. cc),
  λ d. let z : false ≡ true = sym c.if-not-is_declared.true ∙ c.is_declared.ensures.1
      (declared_at c.args.self.now c.args.bases.now c.loop-n.n c.index-bases-n.result c.index-bases-n.is c.loop-n-test.true d) in cc,
)

pub loop-n-preserved : goal.loop-n-preserved
loop-n-preserved c = record {
  low = omega arith;
  so_far = declared_more c.args.self.now c.args.bases.now c.loop-n.n c.index-bases-n.result c.index-bases-n.is c.loop-n-test.true c.loop-n.invariant.so_far
      (c.is_declared.ensures.0 c.if-not-is_declared.false);
}

pub returns : goal.returns
returns c = ((λ e. all_declared c.args.self.now c.args.bases.now c.loop-n.n (omega arith) c.loop-n.invariant.so_far), λ d. refl)
