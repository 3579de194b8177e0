use Rattle.mm_paths.proofs.Joined.{end_read}
use Rattle.mm_paths.proofs.find.path_end.Goals as goal

pub returns : goal.returns
returns c = end_read c.args.path.now c.index-path-path.result c.index-path-path.is c.requires
