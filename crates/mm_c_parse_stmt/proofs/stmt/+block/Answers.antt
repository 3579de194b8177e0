use Rattle.std.proofs.Common.{◌≡◌, suc, [], ◌∷◌, ◌++◌, ◌-◌, map, refl, ap, sym, ◌∙◌, arith, append_assoc}
use Rattle.std.proofs.lemmas.List.{append-nil}
use Rattle.mm_grammar.specs.Grammar.{name}
use Rattle.mm_c.specs.Tree as t
use Rattle.mm_c.specs.Tokens.{names}
use Rattle.mm_c.specs.Grammar.{stmt, at}
use Rattle.mm_c.specs.View.{block_view, code_view, stmt_view}
use Rattle.mm_c_text.specs.Cursor.{token_of}
use Rattle.mm_c_parse.proofs.Steps.{ok, no_, passed_, broken_, took, rg, fg, rs, fs, rn, fn_, tr, tf, nr, nf, ug, uf}
use Rattle.mm_c_parse.proofs.Many.{many_starts, many_steps, many_ends, many_fails, begun_shorter, read_shorter}
use Rattle.mm_c_parse_stmt.specs.Parts.{stmt_firsts}
use Rattle.mm_c_parse_stmt.proofs.Gathers.{here, got, gone, gives, lacks, lacks_itself, goes_on, goes_plain}
use Rattle.mm_c_parse_stmt.proofs.Firsts.{is_in}
use Rattle.mm_c_parse_stmt.proofs.Stmts.{trees, places, trees_step, places_step, stmt_front}
use Rattle.mm_c_parse_stmt.proofs.Blocks.{block_none, block_no_brace, block_no_locals, block_no_body, block_not_ended, block_reads, if_no_test, if_no_body, if_no_other, if_both, if_alone, while_no_test, while_no_body, while_reads, store_reads, store_not, if_reads, if_not, while_is_read, while_not}
use Rattle.mm_c_parse_stmt.proofs.stmt.+block.Goals as goal

pub block-returns-then-depth-eq0 : goal.block-returns-then-depth-eq0
block-returns-then-depth-eq0 _ c = lacks_itself block_view (block_none c.if-depth-eq0.true)

pub block-returns-in_err-marks : goal.block-returns-in_err-marks
block-returns-in_err-marks _ c =
    let e : suc (c.args.depth - 1) ≡ c.args.depth = omega (arith, c.if-depth-eq0.false) in
    lacks block_view _ c.from_residual.ensures.1 (λ _. block_no_brace e (broken_ c.in_err-marks.ensures))

pub block-returns-in_err-locals : goal.block-returns-in_err-locals
block-returns-in_err-locals _ c =
    let e : suc (c.args.depth - 1) ≡ c.args.depth = omega (arith, c.if-depth-eq0.false) in
    lacks block_view _ c.from_residual-in_err-locals.ensures.1 (λ f. block_no_locals e (passed_ c.in_ok-marks.ensures) (no_ c.in_err-locals.ensures f))

pub block-returns-in_err-body : goal.block-returns-in_err-body
block-returns-in_err-body _ c =
    let e : suc (c.args.depth - 1) ≡ c.args.depth = omega (arith, c.if-depth-eq0.false) in
    lacks block_view _ c.from_residual-in_err-body.ensures.1 (λ f. block_no_body e (passed_ c.in_ok-marks.ensures) (ok c.in_ok-locals.ensures) (gone c.in_err-body.ensures f))

pub block-returns-in_err-marks-2 : goal.block-returns-in_err-marks-2
block-returns-in_err-marks-2 _ c =
    let e : suc (c.args.depth - 1) ≡ c.args.depth = omega (arith, c.if-depth-eq0.false) in
    let b = got c.in_ok-body.ensures in
    lacks block_view _ c.from_residual-in_err-marks-2.ensures.1 (λ f. block_not_ended e (passed_ c.in_ok-marks.ensures) (ok c.in_ok-locals.ensures) b.2 (broken_ c.in_err-marks-2.ensures))

pub block-returns : goal.block-returns
block-returns _ c =
    let e : suc (c.args.depth - 1) ≡ c.args.depth = omega (arith, c.if-depth-eq0.false) in
    let b = got c.in_ok-body.ensures in
    gives block_view _ b.0 c.in_ok-block.ensures b.1 (block_reads e (passed_ c.in_ok-marks.ensures) (ok c.in_ok-locals.ensures) b.2 (passed_ c.in_ok-marks-2.ensures))

pub if_end-returns-in_err-test : goal.if_end-returns-in_err-test
if_end-returns-in_err-test _ c = lacks stmt_view _ c.from_residual.ensures.1 (λ f. if_no_test (no_ c.in_err-test.ensures f))

pub if_end-returns-in_err-body : goal.if_end-returns-in_err-body
if_end-returns-in_err-body _ c = lacks stmt_view _ c.from_residual-in_err-body.ensures.1 (λ f. if_no_body (ok c.in_ok-test.ensures) (gone c.in_err-body.ensures f))

pub if_end-returns-in_err-other : goal.if_end-returns-in_err-other
if_end-returns-in_err-other _ c =
    let b = got c.in_ok-body.ensures in
    lacks stmt_view _ c.from_residual-in_err-other.ensures.1 (λ f. if_no_other (ok c.in_ok-test.ensures) b.2 (c.skip.ensures.passed c.if-skip.true) (gone c.in_err-other.ensures f))

pub if_end-returns-then-skip : goal.if_end-returns-then-skip
if_end-returns-then-skip _ c =
    let b = got c.in_ok-body.ensures in
    let o = got c.in_ok-other.ensures in
    gives stmt_view _ (b.0 ++ o.0) c.in_ok-if_else.ensures (o.1 ∙ (ap (λ l. l ++ o.0) b.1 ∙ append_assoc c.args.places.now b.0 o.0)) (if_both (ok c.in_ok-test.ensures) b.2 (c.skip.ensures.passed c.if-skip.true) o.2)

pub if_end-returns : goal.if_end-returns
if_end-returns _ c =
    let b = got c.in_ok-body.ensures in
    let n = c.skip.ensures.none c.if-skip.false in
    gives stmt_view _ b.0 c.in_ok-if_only.ensures b.1 (if_alone (ok c.in_ok-test.ensures) b.2 n.0 n.1)

pub while_end-returns-in_err-marks : goal.while_end-returns-in_err-marks
while_end-returns-in_err-marks _ c = lacks stmt_view _ c.from_residual.ensures.1 (λ f. while_no_test (broken_ c.in_err-marks.ensures))

pub while_end-returns-in_err-body : goal.while_end-returns-in_err-body
while_end-returns-in_err-body _ c = lacks stmt_view _ c.from_residual-in_err-body.ensures.1 (λ f. while_no_body (passed_ c.in_ok-marks.ensures) (gone c.in_err-body.ensures f))

pub while_end-returns : goal.while_end-returns
while_end-returns _ c =
    let b = got c.in_ok-body.ensures in
    gives stmt_view _ b.0 c.in_ok-forever.ensures b.1 (while_reads (passed_ c.in_ok-marks.ensures) b.2)

pub stmt-returns-in-Some : goal.stmt-returns-in-Some
stmt-returns-in-Some _ c =
    let w = c.in-Some.ensures in
    let x = token_of c.in-Some.word in
    goes_plain stmt_view (name (stmt c.args.depth)) _ (x.place ∷ []) c.in_ok-push.ensures c.simple_end.ensures
    (λ v a. let u = ug a in rn {x = stmt c.args.depth} (tr names refl refl w.0 w.1 (rg (rs refl (took names w.0 w.1) u.2) (ap (λ (s : t.Stmt). at s x.place) (u.1 ∙ ap u.0 c.in_ok-first.ensures)))))
    (λ a. fn_ {x = stmt c.args.depth} (tf names refl refl w.0 w.1 (uf a) (fg (fs refl (took names w.0 w.1) (uf a)))))

pub stmt-returns-then-branch : goal.stmt-returns-then-branch
stmt-returns-then-branch _ c =
    let n = c.in_default.ensures in
    let b = c.in_ok-begin.ensures.passed c.if-branch.true in
    goes_plain stmt_view (name (stmt c.args.depth)) _ (b.0.place ∷ []) b.3 c.store_end.ensures
    (λ v a. rn {x = stmt c.args.depth} (nr names refl refl n.0 n.1 (tr (29 ∷ []) refl refl b.1 (is_in b.0 refl b.2) (store_reads b.1 b.2 a))))
    (λ a. fn_ {x = stmt c.args.depth} (nf names refl refl refl n.0 n.1 (tf (29 ∷ []) refl refl b.1 (is_in b.0 refl b.2) a (store_not b.1 b.2 a))))

pub stmt-returns-then-branch-2 : goal.stmt-returns-then-branch-2
stmt-returns-then-branch-2 _ c =
    let n = c.in_default.ensures in
    let m = c.in_ok-begin.ensures.none c.if-branch.false in
    let b = c.in_ok-begin-2.ensures.passed c.if-branch-2.true in
    goes_on (name (stmt c.args.depth)) (b.0.place ∷ []) (b.3 ∙ ap (λ l. l ++ b.0.place ∷ []) m.1) c.if_end.ensures
    (λ v ps a. rn {x = stmt c.args.depth} (nr names refl refl n.0 n.1 (nr (29 ∷ []) refl refl m.0 m.2 (tr (50 ∷ []) refl refl b.1 (is_in b.0 refl b.2) (if_reads b.1 b.2 a)))))
    (λ a. fn_ {x = stmt c.args.depth} (nf names refl refl refl n.0 n.1 (nf (29 ∷ []) refl refl refl m.0 m.2 (tf (50 ∷ []) refl refl b.1 (is_in b.0 refl b.2) a (if_not b.1 b.2 a)))))

pub stmt-returns-then-branch-3 : goal.stmt-returns-then-branch-3
stmt-returns-then-branch-3 _ c =
    let n = c.in_default.ensures in
    let m = c.in_ok-begin.ensures.none c.if-branch.false in
    let l = c.in_ok-begin-2.ensures.none c.if-branch-2.false in
    let b = c.in_ok-begin-3.ensures.passed c.if-branch-3.true in
    goes_on (name (stmt c.args.depth)) (b.0.place ∷ []) (b.3 ∙ ap (λ l. l ++ b.0.place ∷ []) (l.1 ∙ m.1)) c.while_end.ensures
    (λ v ps a. rn {x = stmt c.args.depth} (nr names refl refl n.0 n.1 (nr (29 ∷ []) refl refl m.0 m.2 (nr (50 ∷ []) refl refl l.0 l.2 (tr (52 ∷ []) refl refl b.1 (is_in b.0 refl b.2) (while_is_read b.1 b.2 a))))))
    (λ a. fn_ {x = stmt c.args.depth} (nf names refl refl refl n.0 n.1 (nf (29 ∷ []) refl refl refl m.0 m.2 (nf (50 ∷ []) refl refl refl l.0 l.2 (tf (52 ∷ []) refl refl b.1 (is_in b.0 refl b.2) a (while_not b.1 b.2 a))))))

pub stmt-returns : goal.stmt-returns
stmt-returns _ c =
    let n = c.in_default.ensures in
    let m = c.in_ok-begin.ensures.none c.if-branch.false in
    let l = c.in_ok-begin-2.ensures.none c.if-branch-2.false in
    let k = c.in_ok-begin-3.ensures.none c.if-branch-3.false in
    goes_on (name (stmt c.args.depth)) [] (k.1 ∙ (l.1 ∙ (m.1 ∙ sym (append-nil c.args.places.now)))) c.jump.ensures
    (λ v ps a. rn {x = stmt c.args.depth} (nr names refl refl n.0 n.1 (nr (29 ∷ []) refl refl m.0 m.2 (nr (50 ∷ []) refl refl l.0 l.2 (nr (52 ∷ []) refl refl k.0 k.2 a)))))
    (λ a. fn_ {x = stmt c.args.depth} (nf names refl refl refl n.0 n.1 (nf (29 ∷ []) refl refl refl m.0 m.2 (nf (50 ∷ []) refl refl refl l.0 l.2 (nf (52 ∷ []) refl refl refl k.0 k.2 a)))))

pub stmts-loop-alloc-init : goal.stmts-loop-alloc-init
stmts-loop-alloc-init _ c = record {
  done = [];
  so_far = many_starts (name (stmt c.args.depth)) refl _ [] refl;
  trees = ap (λ l. map stmt_view l) (sym c.new-list.ensures);
  places = sym (append-nil c.args.places.now);
}

pub stmts-returns-in_err-next : goal.stmts-returns-in_err-next
stmts-returns-in_err-next _ c =
    let p = name (stmt c.args.depth) in
    lacks code_view _ c.from_residual.ensures.1 (λ f. fg (many_fails p refl c.loop-alloc.invariant.done c.loop-alloc.invariant.so_far (begun_shorter p stmt_firsts (stmt_front c.args.depth) (c.sees_stmt.ensures.yes c.loop-alloc-test.true) (gone c.in_err-next.ensures f)) (gone c.in_err-next.ensures f)))

pub stmts-loop-alloc-smaller : goal.stmts-loop-alloc-smaller
stmts-loop-alloc-smaller _ c = let n = got c.in_ok-next.ensures in read_shorter (name (stmt c.args.depth)) refl n.2

pub stmts-loop-alloc-preserved : goal.stmts-loop-alloc-preserved
stmts-loop-alloc-preserved _ c =
    let i = c.loop-alloc.invariant in
    let n = got c.in_ok-next.ensures in
    record {
      done = i.done ++ here (stmt_view c.in_ok-next.next) n.0 ∷ [];
      so_far = many_steps (name (stmt c.args.depth)) refl i.done _ i.so_far n.2 refl;
      trees = trees_step i.done c.loop-alloc.list _ c.in_ok-next.next n.0 i.trees c.in_ok-push.ensures;
      places = places_step i.done _ _ _ (stmt_view c.in_ok-next.next) n.0 i.places n.1;
    }

pub stmts-returns : goal.stmts-returns
stmts-returns _ c =
    let i = c.loop-alloc.invariant in
    gives code_view (t.code_of (trees i.done)) (places i.done) (ap t.code_of (sym i.trees)) i.places
    (rg (many_ends (name (stmt c.args.depth)) refl i.done stmt_firsts refl i.so_far (c.sees_stmt.ensures.no c.loop-alloc-test.false)) refl)
