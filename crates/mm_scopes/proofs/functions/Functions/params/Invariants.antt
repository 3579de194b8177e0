use Rattle.std.proofs.Common.{◌≡◌, map, take}
use Rattle.mm_scopes.specs.Names.{named, params_of}
use Rattle.mm_scopes.proofs.functions.Functions.params.Given as goal

abbrev pub invariant-loop-place : goal.invariant-loop-place
invariant-loop-place l = map (λ ps. ps.now) l.all.items ≡ take l.place-index (map params_of (named l.name l.self))
