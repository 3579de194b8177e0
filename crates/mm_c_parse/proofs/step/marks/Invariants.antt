use Rattle.std.proofs.Common.{map, drop, List}
use Rattle.mm_c.specs.Tokens.{Token}
use Rattle.mm_c_text.specs.Classes.{number_of}
use Rattle.mm_c_parse.specs.Steps.{Marks, Broken}
use Rattle.mm_c_parse.proofs.step.marks.Given as goal

abbrev pub invariant-loop-class : goal.invariant-loop-class
invariant-loop-class l = record {
  passed : (rest : List Token) → Marks (map number_of (drop l.class-index l.classes)) l.cursor rest → Marks (map number_of l.classes) l.initial.cursor rest;
  broken : (rest : List Token) → Broken (map number_of (drop l.class-index l.classes)) l.cursor rest → Broken (map number_of l.classes) l.initial.cursor rest;
}
