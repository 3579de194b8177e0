use Rattle.std.proofs.Common.{◌≡◌, ◌<◌, length, arith, rules, sym, ap, ◌∙◌}
use Rattle.std.proofs.lemmas.List.{nil_from_length}
use Rattle.std.proofs.lemmas.Grind.{common_steps}
use Rattle.mm_base.specs.declared.place.Place.{Place}
use Rattle.mm_token.specs.Characters.{characters_of}
use Rattle.mm_token.specs.Unit.{state_of, HasRoom}
use Rattle.mm_token.proofs.Characters.{name_is_text, token_is_text}
use Rattle.mm_token.proofs.Reading.{one_more, bounds_more, taken_length}
use Rattle.mm_token.proofs.Turns.{failed, kept_out, stopped_inside, went_inside, text_room, text_short, of_bytes, stops_fault, stops_piece, whole, kept_then, puts_at, piece_room, piece_count}
use Rattle.mm_token.proofs.read.+reading.Goals as goal

pub put-encoded-requires : goal.put-encoded-requires
put-encoded-requires g t c = name_is_text _ _ c.in-Some.ensures

pub include-returns-in_err-bytes-clause-reads : goal.include-returns-in_err-bytes-clause-reads
include-returns-in_err-bytes-clause-reads g t c =
    let l : 0 < c.args.left = omega arith in
    failed _ _ _ _ c.from_residual-in_err-bytes.ensures.1
    (kept_out _ _ c.args.left _ _ _ _ _ l (sym c.if-has.ensures) c.in_err-bytes.ensures.reads)

pub include-returns-in_err-_end-clause-reads : goal.include-returns-in_err-_end-clause-reads
include-returns-in_err-_end-clause-reads g t c =
    let l : 0 < c.args.left = omega arith in
    failed _ _ _ _ c.from_residual-in_err-_end.ensures.1
    (stopped_inside _ _ _ c.args.left _ _ _ _ _ _ l (sym c.if-has.ensures) c.in_ok-bytes.ensures.reads c.open_file.ensures.files _ c.deref.ensures.value c.in_err-_end.ensures.reads)

pub include-returns-clause-reads : goal.include-returns-clause-reads
include-returns-clause-reads g t c =
    let l : 0 < c.args.left = omega arith in
    went_inside _ _ c.args.left _ _ _ _ _ c.open_file.ensures.files.same l (sym c.if-has.ensures) c.in_ok-bytes.ensures.reads _ c.deref.ensures.value c.in_ok-_end.ensures.reads

pub read_file-read_text-requires : goal.read_file-read_text-requires
read_file-read_text-requires g t c =
    let room : HasRoom (state_of c.args.unit.now) 1 = c.requires.1.1.1.1.0 in
    let chars : c.deref.result.now ≡ characters_of c.args.bytes.now = c.deref.ensures.value ∙ c.in_ok-text.ensures in
    let start = c.start-start.ensures in
    λ k h. (
      search rules,
      (
        search rules,
        (
          c.in_ok-begin.ensures.agrees,
          (
            text_room _ _ _ _ _ c.in_ok-begin.ensures.state chars room c.requires.1.1.1.1.1,
            (
              text_short (state_of c.args.unit.now) _ _ chars c.requires.1.1.1.1.1,
              (ap (λ (p : Place). p.line) start, ap (λ (p : Place). p.col) start),
            ),
          ),
        ),
      ),
    )

pub read_file-returns-clause-reads : goal.read_file-returns-clause-reads
read_file-returns-clause-reads g t c =
    let chars : c.deref.result.now ≡ characters_of c.args.bytes.now = c.deref.ensures.value ∙ c.in_ok-text.ensures in
    of_bytes _ c.args.left c.args.name.now c.args.bytes.now (state_of c.args.unit.now) c.read_text.new.unit _ _ _ c.in_ok-begin.ensures.state chars c.start-start.ensures c.read_text.result _ _ c.read_text.ensures.reads

pub read_text-returns-in-Err-clause-reads : goal.read_text-returns-in-Err-clause-reads
read_text-returns-in-Err-clause-reads g t c =
    stops_fault _ c.args.left _ _ _ _ _ _ _ _ c.pieces.invariant.so_far _ _ _ _ _ c.in-Err.ensures.err c.code.ensures c.in_ok-copied-in-Err.ensures

pub read_text-put-requires : goal.read_text-put-requires
read_text-put-requires g t c =
    let taken = c.in-Ok.ensures.ok in
    let i = c.pieces.invariant in
    λ k h. (
      search rules,
      (
        search rules,
        (
          i.agrees,
          (
            piece_room (state_of c.args.unit.now) (state_of c.pieces.unit) c.args.text.now _ _ _ c.requires.1.1.1.1.0 i.counted i.limited (taken_length _ _ _ _ _ _ _ _ _ taken),
            (taken.some, (taken.is_good, token_is_text _ _ _ _ taken.is_longest.is_piece)),
          ),
        ),
      ),
    )

pub read_text-pieces-preserved : goal.read_text-pieces-preserved
read_text-pieces-preserved g t c =
    let taken = c.in-Ok.ensures.ok in
    let i = c.pieces.invariant in
    let went = c.in_ok-put.ensures.reads in
    record {
      so_far = one_more _ _ _ _ _ _ _ _ _ _ _ _ _ _ _ i.so_far taken (puts_at _ _ c.args.left _ _ _ _ _ i.kept.same went.puts);
      bounds = bounds_more _ _ _ _ _ _ _ _ _ _ _ i.bounds taken;
      counted = piece_count (state_of c.args.unit.now) (state_of c.pieces.unit) (state_of c.put.new.unit) c.args.text.now _ _ _ i.counted (taken_length _ _ _ _ _ _ _ _ _ taken) went.grows;
      limited = went.grows.limited;
      files = omega (arith, i.files, went.grows.files);
      agrees = went.agrees;
      kept = kept_then _ _ _ i.kept c.put.ensures.files;
    }

pub read_text-returns-in_err-put-clause-reads : goal.read_text-returns-in_err-put-clause-reads
read_text-returns-in_err-put-clause-reads g t c =
    let taken = c.in-Ok.ensures.ok in
    failed _ _ _ _ c.from_residual-in_err-put.ensures.1
    (stops_piece _ c.args.left _ _ _ _ _ _ _ _ c.pieces.invariant.so_far _ _ _ _ _ _ _ c.pieces.invariant.kept taken.is_longest taken.at_place c.in_err-put.ensures.reads)

pub read_text-returns-clause-reads : goal.read_text-returns-clause-reads
read_text-returns-clause-reads g t c =
    let i = c.pieces.invariant in
    let n : length c.pieces.scanner.rest.now ≡ 0 = grind (arith, common_steps) in
    record {
      puts = whole (g.F.Files.seen c.args.files.now) c.args.left c.args.name.now _ _ _ _ _ _ _ i.so_far (nil_from_length _ n);
      agrees = i.agrees;
      grows = record { counted = omega (arith, i.counted); files = i.files; limited = i.limited };
    }
