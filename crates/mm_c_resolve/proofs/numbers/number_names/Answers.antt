use Rattle.std.specs.Borrow.{Bor}
use Rattle.std.proofs.Common.{◌-◌, ℕ, List, sym, ◌∙◌, arith}
use Rattle.std.proofs.lemmas.List.{length-map}
use Rattle.mm_c_resolve.proofs.Numbered.{number_more, numbered_all}
use Rattle.mm_c_resolve.proofs.numbers.number_names.Goals as goal

pub loop-i-preserved : goal.loop-i-preserved
loop-i-preserved c =
    let low = c.loop-i.invariant.0 in
    let some = c.loop-i-test.true in
    (omega arith, c.loop-i.invariant.1, number_more c.loop-i.first c.insert.new.self c.args.names.now (c.loop-i.i - 1) c.loop-i.i _ (omega arith) (omega arith) c.in_ok-insert.ensures.updates c.loop-i.invariant.2)

pub returns : goal.returns
returns c = record {
  by = numbered_all c.loop-i.first c.args.names.now c.loop-i.i c.in-Ok.count c.loop-i-test.false c.loop-i.invariant.1 c.loop-i.invariant.2;
  count = c.loop-i.invariant.1 ∙ sym (length-map c.args.names.now (λ (k : Bor (List ℕ)). k.now));
}
