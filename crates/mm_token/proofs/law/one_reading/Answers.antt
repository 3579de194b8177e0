use Rattle.mm_token.proofs.Levels.{tokens_once, fault_once, never_both}
use Rattle.mm_token.proofs.law.one_reading.Goals as goal

pub returns : goal.returns
returns c = record { one_list = tokens_once; one_fault = fault_once; not_both = never_both }
