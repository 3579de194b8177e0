use Rattle.std.proofs.Common.{◌≡◌, ◌++◌, take}
use Rattle.mm_token.proofs.text.add_spoiled.Given as goal

abbrev pub invariant-loop-b : goal.invariant-loop-b
invariant-loop-b l = l.list.items ≡ l.initial.list.items ++ take l.b-index l.more
