use Rattle.std.proofs.Common.{arith, refl, get_or, take, drop, suc, length, ◌<◌}
use lib.Utf8.{scalar}
use Rattle.mm_token.proofs.Lemmas.{run_whole, run_split, run_stops, all_of_take}
use Rattle.mm_token.proofs.scan.comment_trouble.Goals as goal

pub returns-then-n-text : goal.returns-then-n-text
returns-then-n-text c = run_whole scalar c.args.text.now c.text_len-n.result c.text_len-n.ensures c.if-n-text.true

pub returns : goal.returns
returns c =
    let text = c.args.text.now in
    let n = c.text_len-n.result in
    let run = c.text_len-n.ensures in
    let l : n < length text = omega arith in
    (refl, (take n text, get_or text n 0, drop (suc n) text, run_split text n l, all_of_take scalar text n run.within run.passes, run_stops scalar text n run l, c.after.ensures))
