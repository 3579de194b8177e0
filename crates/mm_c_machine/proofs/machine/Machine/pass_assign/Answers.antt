use Rattle.std.proofs.Common.{sym, ◌∙◌, subst}
use Rattle.mm_c_placed.specs.View.{code_view, program_view}
use Rattle.mm_c_placed.specs.Tree.{do_then, assign}
use Rattle.mm_c_memory.specs.Held.{Holds}
use Rattle.mm_c_machine.specs.State.{seen, with_at, code}
use Rattle.mm_c_machine.specs.Goes.{calls_in, GoesFurther}
use Rattle.mm_c_machine.proofs.Moves.{assign_goes}
use Rattle.mm_c_machine.proofs.machine.Machine.pass_assign.Goals as goal

pub returns-in-Some : goal.returns-in-Some
returns-in-Some c = λ m w holds.
    subst (λ s. GoesFurther (program_view c.args.program.now) (with_at (seen c.args.self.now) (code (do_then (assign c.args.x c.args.r.now) (code_view c.args.more.now)))) m w (with_at s (code (code_view c.args.more.now))) c.set.new.self.memory w) (sym c.set.ensures.core)
    (assign_goes (program_view c.args.program.now) (seen c.args.self.now).level (seen c.args.self.now).pieces m w c.args.x c.args.r.now c.in-Some.v (code_view c.args.more.now) c.set.new.self.memory (subst (Holds m) (sym c.set.ensures.memory) holds) c.requires
    (sym (c.right.ensures m w (calls_in (program_view c.args.program.now) c.args.self.now.frame.is_inline) holds) ∙ c.in-Some.is))
