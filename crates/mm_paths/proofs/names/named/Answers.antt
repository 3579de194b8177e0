use Rattle.std.proofs.Common.{◌≡◌, ◌-◌, ◌<◌, arith, ◌∙◌, refl, sym, ap, length, length-set}
use Rattle.mm_classes.specs.declared.class.Member.{Member}
use Rattle.mm_classes.specs.Classes.{member_name}
use Rattle.mm_paths.proofs.Naming.{member_is, start_more, next_more}
use Rattle.std.specs.Prelude.{string_bytes}
use Rattle.mm_paths.proofs.names.named.Goals as goal

pub loop-k-preserved : goal.loop-k-preserved
loop-k-preserved c =
    let i = c.loop-k.k - 1 in
    let inside : i < length c.args.members.now = (let a = c.loop-k.invariant.low in let t = c.loop-k-test.true in omega arith) in
    let name : string_bytes c.in_ok-name.name ≡ member_name c.args.members.now i = member_is c.args.members.now i c.index-members-k.result (string_bytes c.in_ok-name.name) c.index-members-k.is inside (c.in_ok-name.ensures.ok ∙ (c.as_str.ensures ∙ sym (ap (λ (m : Member). m.name) c.index-members-k.is))) in
    record {
      low = omega arith;
      long = length-set c.loop-k.next.items i c.in_ok-next-2.field-0 ∙ c.loop-k.invariant.long;
      start = start_more c.args.members.now c.loop-k.k i c.loop-k.first c.insert.new.self (string_bytes c.in_ok-name.name) (omega arith) name inside c.in_ok-next-2.ensures.updates c.loop-k.invariant.start;
      more = next_more c.args.members.now c.loop-k.k i c.loop-k.first c.insert.new.self (string_bytes c.in_ok-name.name) (omega arith) name inside c.in_ok-next-2.ensures.updates c.loop-k.invariant.start
          c.loop-k.next.items c.in_ok-next-2.field-0 c.in_ok-next-2.ensures.old c.loop-k.invariant.long c.loop-k.invariant.more;
    }
