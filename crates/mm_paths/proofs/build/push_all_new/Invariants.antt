use Rattle.std.proofs.Common.{◌≡◌, take}
use Rattle.mm_classes.specs.Lists.{with_all_new}
use Rattle.mm_paths.proofs.build.push_all_new.Given as goal

abbrev pub invariant-loop-x : goal.invariant-loop-x
invariant-loop-x l = l.seen.items ≡ with_all_new l.initial.seen.items (take l.x-index l.xs)
