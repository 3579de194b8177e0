use Rattle.std.proofs.Common.{map, sym, subst}
use Rattle.mm_c.specs.View as n
use Rattle.mm_c_placed.specs.View.{function_view}
use Rattle.mm_c_placed.specs.Ready.{IsReady}
use Rattle.mm_c_places.specs.Laws.{SameRuns}
use Rattle.mm_c_places.proofs.Runs.{runs_same}
use Rattle.mm_c_places.proofs.Whole.{well_formed_sees}
use Rattle.mm_c_places.proofs.Ready.{placed_ready}
use Rattle.mm_c_resolve.specs.Named.{elements_of}
use Rattle.mm_c_resolve.proofs.Programs.{program_placed}
use Rattle.mm_c_resolve.proofs.program.resolve.Goals as goal

pub returns-clause-placed : goal.returns-clause-placed
returns-clause-placed c =
    program_placed c.args.program.now c.in_ok-globals.globals c.as_slice-items.result.now (map function_view c.in_ok-functions.functions) (map elements_of c.in_ok-arrays.arrays) c.find-main.result
    c.as_slice-items.ensures c.in_ok-globals.ensures c.in_ok-functions.ensures c.in_ok-arrays.ensures c.find-main.ensures

pub returns-clause-runs : goal.returns-clause-runs
returns-clause-runs c = subst (SameRuns (n.program_view c.args.program.now)) (sym (returns-clause-placed c)) (runs_same (n.program_view c.args.program.now) (well_formed_sees (n.program_view c.args.program.now) c.requires))

pub returns-clause-ready : goal.returns-clause-ready
returns-clause-ready c = subst IsReady (sym (returns-clause-placed c)) (placed_ready (n.program_view c.args.program.now) c.requires)
