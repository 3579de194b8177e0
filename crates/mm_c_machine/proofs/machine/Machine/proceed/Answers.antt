use Rattle.std.proofs.Common.{List, sym, subst}
use Rattle.std.specs.Prelude.{IfOk}
use Rattle.mm_c.specs.Memory as c_
use Rattle.mm_c_memory.specs.Held.{Holds}
use Rattle.mm_c_machine.specs.Goes.{Goes}
use Rattle.mm_base.specs.Calls.{world_view}
use Rattle.mm_c_placed.specs.View.{code_view, program_view}
use Rattle.mm_c_machine.specs.State.{seen, with_at, code}
use Rattle.mm_c_machine.specs.Ready.{IsReadyCore}
use Rattle.mm_c_machine.proofs.Statements.{nothing, front_of, done_arrives}
use Rattle.mm_c_machine.proofs.Walks.{walked}
use Rattle.mm_c_machine.proofs.machine.Machine.proceed.Goals as goal

pub arrive-requires : goal.arrive-requires
arrive-requires c =
    let on = c.in_ok-left.ensures c.requires.held.0 (world_view c.args.world.now) c.requires.held.1 in
    record { here = tt; after = on.ready.after }

pub exec-requires-clause-fits : goal.exec-requires-clause-fits
exec-requires-clause-fits c =
    let on = c.in_ok-left.ensures c.requires.held.0 (world_view c.args.world.now) c.requires.held.1 in
    subst (λ q. IsReadyCore (with_at (seen c.walk.new.self) (code q))) (front_of c.in_ok-left.left.now c.s-item.result c.in-len1-up.len_at_least c.s-item.is) on.ready

pub exec-requires-clause-held : goal.exec-requires-clause-held
exec-requires-clause-held c =
    let on = c.in_ok-left.ensures c.requires.held.0 (world_view c.args.world.now) c.requires.held.1 in
    (on.to, on.holds)

pub returns-in-empty-clause-ok : goal.returns-in-empty-clause-ok
returns-in-empty-clause-ok c =
    walked (program_view c.args.program.now) (with_at (seen c.args.self.now) (code (code_view c.args.stmts.now))) (with_at (seen c.walk.new.self) (code (code_view c.in_ok-left.left.now))) (seen c.arrive.new.self) c.args.self.now.memory c.walk.new.self.memory c.arrive.new.self.memory (world_view c.args.world.now) (world_view c.args.world.now) c.arrive.result c.in_ok-left.ensures
    (done_arrives (program_view c.args.program.now) _ (seen c.walk.new.self).level (seen c.walk.new.self).pieces c.walk.new.self.memory c.arrive.new.self.memory (world_view c.args.world.now) (seen c.arrive.new.self) c.arrive.result
    (nothing c.in_ok-left.left.now c.in-empty.len_below) c.arrive.ensures)

pub returns-in-len1-up-clause-ok : goal.returns-in-len1-up-clause-ok
returns-in-len1-up-clause-ok c =
    walked (program_view c.args.program.now) (with_at (seen c.args.self.now) (code (code_view c.args.stmts.now))) (with_at (seen c.walk.new.self) (code (code_view c.in_ok-left.left.now))) (seen c.exec.new.self) c.args.self.now.memory c.walk.new.self.memory c.exec.new.self.memory (world_view c.args.world.now) (world_view c.exec.new.world) c.exec.result c.in_ok-left.ensures
    (subst (λ q. IfOk c.exec.result (λ went. (m : List c_.Block) → Holds m c.walk.new.self.memory → Goes (program_view c.args.program.now) went (with_at (seen c.walk.new.self) (code q)) m (world_view c.args.world.now) (seen c.exec.new.self) c.exec.new.self.memory (world_view c.exec.new.world)))
    (sym (front_of c.in_ok-left.left.now c.s-item.result c.in-len1-up.len_at_least c.s-item.is)) c.exec.ensures.ok)
