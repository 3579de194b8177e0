use Rattle.std.proofs.Common.{arith}
use Rattle.mm_paths.proofs.Searches.{search_here, search_more, start_found, different_number, alike_number}
use Rattle.mm_paths.proofs.find.start_among.Goals as goal

pub bounds-shared-j : goal.bounds-shared-j
bounds-shared-j c = search_here c.args.shared.now c.loop-v.j c.args.v c.loop-v.invariant.rest

pub loop-v-smaller : goal.loop-v-smaller
loop-v-smaller c = let l = search_here c.args.shared.now c.loop-v.j c.args.v c.loop-v.invariant.rest in omega arith

pub loop-v-preserved : goal.loop-v-preserved
loop-v-preserved c = record {
  low = let l = search_here c.args.shared.now c.loop-v.j c.args.v c.loop-v.invariant.rest in omega arith;
  rest = search_more c.args.shared.now c.loop-v.j c.args.v c.index-shared-j.result c.index-shared-j.is
      (different_number c.index-shared-j.result c.args.v c.ne.result c.ne.ensures c.loop-v-test.true) c.loop-v.invariant.rest;
}

pub bounds-starts-j : goal.bounds-starts-j
bounds-starts-j c = let l = search_here c.args.shared.now c.loop-v.j c.args.v c.loop-v.invariant.rest in let k = c.requires.long in omega arith

pub returns : goal.returns
returns c = start_found c.args.shared.now c.args.starts.now c.loop-v.j c.args.v c.index-shared-j.result
    (search_here c.args.shared.now c.loop-v.j c.args.v c.loop-v.invariant.rest) c.index-shared-j.is
    (alike_number c.index-shared-j.result c.args.v c.ne.result c.ne.ensures c.loop-v-test.false)
