use Rattle.mm_c_resolve.specs.Named.{places_in, numbers_in}
use Rattle.mm_c_resolve.proofs.Codes.{block_placed}
use Rattle.mm_c_resolve.proofs.code.+place_stmt.Goals as goal

pub place_block-returns : goal.place_block-returns
place_block-returns t c =
    block_placed (numbers_in c.args.globals.now) (places_in c.args.locals.now) c.args.block.now c.as_slice-2.result.now c.as_slice.result.now c.in_ok-all.all c.in_ok-code.code c.append.new.self
    c.as_slice-2.ensures c.as_slice.ensures c.in_ok-append.ensures c.in_ok-code.ensures c.in_ok-all.ensures
