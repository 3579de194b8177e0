use Rattle.std.proofs.Common.{ap, ◌∙◌, ◌++◌}
use Rattle.mm_c.specs.View.{program_view}
use Rattle.mm_c.specs.Printing.{text_of, program_tokens}
use Rattle.mm_c_print.proofs.Texts.{spells_as}
use Rattle.mm_c_print.proofs.items.print.Goals as goal

pub returns-clause-spells : goal.returns-clause-spells
returns-clause-spells c =
    spells_as _ (program_view c.args.program.now) c.requires
    (c.in_ok-put_program.ensures ∙ ap (λ l. l ++ text_of (program_tokens (program_view c.args.program.now))) c.new-text.ensures.items)
