use Rattle.std.proofs.Common.{rules, ◌∙◌}
use Rattle.mm_c_print.proofs.Texts.{number_whole}
use Rattle.mm_c_print.proofs.tokens.put_number.Goals as goal

pub returns : goal.returns
returns c =
    number_whole c.args.number c.args.out.now.items c.extend_from_slice.new.self.items c.extend_from_slice-2.new.self.items c.push.new.self.items c.as_bytes.result.now c.suffix_of.result.now
    (search rules) c.in_ok-extend_from_slice.ensures.items (c.as_bytes.ensures.value ∙ c.format.ensures.text) c.in_ok-extend_from_slice-2.ensures.items c.suffix_of.ensures c.in_ok-push.ensures.items
