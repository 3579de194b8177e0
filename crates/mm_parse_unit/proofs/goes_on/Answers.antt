use Rattle.std.proofs.Common.{IfOk, sym, subst}
use Rattle.mm_parse_unit.specs.Reading.{GoesOn}
use Rattle.mm_parse_unit.proofs.Faults.{goes_on_tree, goes_on_fault}
use Rattle.mm_parse_unit.proofs.goes_on.Goals.{in-Ok, in-Err-Fault, in-Err-NoMemory}
use Rattle.mm_parse_unit.proofs.goes_on.Goals as goal

pub returns : goal.returns
returns c = elim c.match-decls.branch [
  | in-Ok w ↦ subst (λ r. IfOk r (λ v. GoesOn c.args.tokens.now v)) (sym w.result-is)
      (subst (λ v. GoesOn c.args.tokens.now v) (sym w.is_empty.ensures) (goes_on_tree _ _ _ _ _ c.new-cursor.ensures w.rest.ensures w.in-Ok.ensures.reads))
  | in-Err-Fault w ↦ subst (λ r. IfOk r (λ v. GoesOn c.args.tokens.now v)) (sym w.result-is)
      (subst (λ v. GoesOn c.args.tokens.now v) (sym w.is_empty-in-Err-Fault.ensures) (goes_on_fault _ _ _ _ _ w.in-Err-Fault.field-0-is c.new-cursor.ensures w.rest-in-Err-Fault.ensures w.in-Err-Fault.ensures.reads))
  | in-Err-NoMemory w ↦ subst (λ r. IfOk r (λ v. GoesOn c.args.tokens.now v)) (sym w.result-is) tt
]
