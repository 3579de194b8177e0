use Rattle.std.proofs.Common.{◌≤◌, length, ◌+◌, ◌*◌}
use Rattle.mm_grammar.specs.Grammar.{Reads}
use Rattle.mm_syntax.specs.Rules.{units}
use Rattle.mm_parse_expr.specs.Parts.{part_at}
use Rattle.mm_parse_expr.proofs.Turns.{LinksSoFar}
use Rattle.mm_parse_expr.proofs.Exits.{SuffixesSoFar, ArgsSoFar}
use Rattle.mm_parse_expr.proofs.parser.+expr.Given as goal

abbrev pub decreases-args : goal.decreases-args
decreases-args l = 16 * length l.cursor.now + 11

abbrev pub decreases-cast : goal.decreases-cast
decreases-cast l = 16 * length l.cursor.now + 13

abbrev pub decreases-chain : goal.decreases-chain
decreases-chain l = 16 * length l.cursor.now + 9

abbrev pub decreases-closed : goal.decreases-closed
decreases-closed l = 16 * length l.cursor.now + 11

abbrev pub decreases-end : goal.decreases-end
decreases-end l = 16 * length l.cursor.now + 1

abbrev pub decreases-expr : goal.decreases-expr
decreases-expr l = 16 * length l.cursor.now + 10

abbrev pub decreases-inside : goal.decreases-inside
decreases-inside l = 16 * length l.cursor.now + 12

abbrev pub decreases-links : goal.decreases-links
decreases-links l = 16 * length l.cursor.now + 8

abbrev pub decreases-made : goal.decreases-made
decreases-made l = 16 * length l.cursor.now + 1

abbrev pub decreases-postfix : goal.decreases-postfix
decreases-postfix l = 16 * length l.cursor.now + 5

abbrev pub decreases-primary : goal.decreases-primary
decreases-primary l = 16 * length l.cursor.now + 4

abbrev pub decreases-suffix : goal.decreases-suffix
decreases-suffix l = 16 * length l.cursor.now + 1

abbrev pub decreases-unary : goal.decreases-unary
decreases-unary l = 16 * length l.cursor.now + 6

abbrev pub invariant-args-loop-alloc : goal.invariant-args-loop-alloc
invariant-args-loop-alloc l = record { so_far : ArgsSoFar l.list l.fn.cursor l.cursor; shorter : length l.cursor ≤ length l.fn.cursor }

abbrev pub decreases-args-loop-alloc : goal.decreases-args-loop-alloc
decreases-args-loop-alloc l = length l.cursor

abbrev pub invariant-chain-loop-at : goal.invariant-chain-loop-at
invariant-chain-loop-at l = record { so_far : Reads units (part_at l.at) l.fn.cursor l.left l.cursor; low : l.level ≤ l.at; high : l.at ≤ 6; shorter : length l.cursor ≤ length l.fn.cursor }

abbrev pub decreases-chain-loop-at : goal.decreases-chain-loop-at
decreases-chain-loop-at l = l.at

abbrev pub invariant-links-loop-op : goal.invariant-links-loop-op
invariant-links-loop-op l = record { so_far : LinksSoFar l.level l.fn.left l.left l.fn.cursor l.cursor; shorter : length l.cursor ≤ length l.fn.cursor }

abbrev pub decreases-links-loop-op : goal.decreases-links-loop-op
decreases-links-loop-op l = length l.cursor

abbrev pub invariant-postfix-loop-left : goal.invariant-postfix-loop-left
invariant-postfix-loop-left l = record { so_far : SuffixesSoFar l.left l.fn.cursor l.cursor; shorter : length l.cursor ≤ length l.fn.cursor }

abbrev pub decreases-postfix-loop-left : goal.decreases-postfix-loop-left
decreases-postfix-loop-left l = length l.cursor
