use Rattle.std.proofs.Common.{◌∙◌, ap, take, drop}
use Rattle.mm_c_text.specs.Places.{at}
use Rattle.mm_c_text.specs.Cursor.{left_of}
use Rattle.mm_c_text.proofs.Left.{left_is, ended_is, rest_is}
use Rattle.mm_c_text.proofs.cursor.before.Goals as goal

pub cursor_at-requires : goal.cursor_at-requires
cursor_at-requires c =
    let bytes = c.skip_white-left.result.bytes.now in
    let n = c.next_length-count.result in
    record { kept = c.class_of.ensures; ended = λ e. rest_is bytes n ∙ ended_is bytes n c.next_length-count.ensures.first e; room = c.end-after.ensures.room }

pub returns : goal.returns
returns c =
    let n = c.next_length-count.result in
    let bytes = c.skip_white-left.result.bytes.now in
    let k = left_is (at c.skip_white-left.result.place) bytes n c.next_length-count.ensures.within c.next_length-count.ensures.first in
    c.cursor_at.ensures
    ∙ (ap (λ l. left_of (take n bytes) (at c.skip_white-left.result.place) (at c.end-after.result) l) (rest_is bytes n)
    ∙ (ap (λ p. left_of (take n bytes) (at c.skip_white-left.result.place) p (drop n bytes)) c.end-after.ensures.value ∙ (k ∙ c.skip_white-left.ensures.same)))
