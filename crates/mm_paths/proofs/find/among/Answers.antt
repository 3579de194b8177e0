use Rattle.mm_paths.proofs.Joined.{among_decides}
use Rattle.mm_paths.proofs.find.among.Goals as goal

pub returns : goal.returns
returns c = among_decides c.args.xs.now c.args.x c.contains.result c.contains.ensures.value
