use Rattle.std.proofs.Common.{List, ◌++◌, ap, ◌∙◌, map, flat_map}
use Rattle.std.proofs.lemmas.Result.{on_ok_weaker}
use Rattle.mm_c.specs.declared.tree.CItem.{CItem}
use Rattle.mm_c.specs.View.{item_view}
use Rattle.mm_c.specs.Printing.{text_of, item_tokens}
use Rattle.mm_c_print.proofs.Texts.{after_prelude}
use Rattle.mm_c_print.proofs.items.put_program.Goals as goal

pub returns : goal.returns
returns c =
    let old = c.put_prelude.new.out.items in
    on_ok_weaker c.put_items.result
    (λ h. after_prelude c.args.program.now.items c.args.out.now.items old c.put_items.new.out.items c.in_ok-put_prelude.ensures
    (h ∙ ap (λ (is : List CItem). old ++ text_of (flat_map item_tokens (map item_view is))) c.as_slice.ensures))
    c.put_items.ensures
