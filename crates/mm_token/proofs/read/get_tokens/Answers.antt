use Rattle.mm_token.proofs.Turns.{failed, expanded, refused, counted}
use Rattle.mm_token.proofs.read.get_tokens.Goals as goal

pub returns-clause-reads : goal.returns-clause-reads
returns-clause-reads g c =
    expanded _ _ _ _ _ c.new-read.result c.read_file.new.unit _ c.open_file.ensures.files.same c.new-read.ensures.state c.in_ok-bytes.ensures.reads c.deref.ensures.value c.in_ok-end.ensures.reads

pub returns-in_err-end-clause-reads : goal.returns-in_err-end-clause-reads
returns-in_err-end-clause-reads g c =
    failed _ _ _ _ c.from_residual-in_err-end.ensures.1
    (refused _ _ _ _ _ _ c.new-read.result _ c.new-read.ensures.state c.in_ok-bytes.ensures.reads c.open_file.ensures.files c.deref.ensures.value c.in_err-end.ensures.reads)

pub invariant_of-result : goal.invariant_of-result
invariant_of-result g c =
    let h = c.in_ok-end.ensures.reads in
    let k = counted c.new-read.result c.read_file.new.unit c.new-read.ensures.state h.grows h.puts.1 in
    record { few = k.0; some = k.1; each = k.2; limited = k.3 }
