use Rattle.std.proofs.Common.{◌≡◌, Some, map, drop}
use Rattle.std.specs.Prelude.{string_bytes}
use Rattle.mm_command.specs.declared.words.Next.TheVariants as next
use Rattle.mm_command.specs.Command.{told, goes_on}
use Rattle.mm_command.proofs.words.read_told.Given as goal

abbrev pub invariant-loop-word : goal.invariant-loop-word
invariant-loop-word l =
    told l.bounded next.Word (map string_bytes l.words)
    ≡ goes_on l.bounded l.told (Some l.next) (map string_bytes (drop l.word-index l.words))
