use Rattle.mm_verdict.proofs.Steps.{missing, unread, long, lexical}
use Rattle.mm_verdict.proofs.unit.read.Goals as goal

pub returns-in-Err-Absent-clause-content : goal.returns-in-Err-Absent-clause-content
returns-in-Err-Absent-clause-content g c =
    let e = c.in-Err-Absent.ensures in
    λ unbuilt. missing unbuilt (record { old = g.F.Files.seen c.args.files.now; new = g.F.Files.seen c.get_tokens.new.files })
    c.args.name.now c.in-Err-Absent.file c.in-Err-Absent.field-0-1 (rw c.in-Err-Absent.field-0-is at e.reads) (rw c.in-Err-Absent.field-0-is at e.causes)

pub returns-in-Err-TooLong-clause-content : goal.returns-in-Err-TooLong-clause-content
returns-in-Err-TooLong-clause-content g c =
    let e = c.in-Err-TooLong.ensures in
    λ unbuilt. long unbuilt (record { old = g.F.Files.seen c.args.files.now; new = g.F.Files.seen c.get_tokens.new.files })
    c.args.name.now c.in-Err-TooLong.file (rw c.in-Err-TooLong.field-0-is at e.reads) (rw c.in-Err-TooLong.field-0-is at e.causes)

pub returns-in-Err-Failed-clause-content : goal.returns-in-Err-Failed-clause-content
returns-in-Err-Failed-clause-content g c =
    let e = c.in-Err-Failed.ensures in
    λ unbuilt. unread unbuilt (record { old = g.F.Files.seen c.args.files.now; new = g.F.Files.seen c.get_tokens.new.files })
    c.args.name.now c.in-Err-Failed.file (rw c.in-Err-Failed.field-0-is at e.reads) (rw c.in-Err-Failed.field-0-is at e.causes)

pub returns-in-Err-Fault-clause-content : goal.returns-in-Err-Fault-clause-content
returns-in-Err-Fault-clause-content g c =
    λ unbuilt. lexical unbuilt c.lexical.result (record { old = g.F.Files.seen c.args.files.now; new = g.F.Files.seen c.get_tokens.new.files })
    c.args.name.now c.in-Err-Fault.file c.in-Err-Fault.code c.in-Err-Fault.place (rw c.in-Err-Fault.field-0-is at c.in-Err-Fault.ensures.reads) c.lexical.ensures
