use Rattle.std.proofs.Common.{◌≡◌, ◌≤◌, ◌+◌, ◌-◌}
use Rattle.query_tokens.specs.Reading.{repeat, rounds}
use Rattle.query_tokens.specs.Lexing.{is_inside, comment_part}
use Rattle.query_tokens.proofs.separators.comment_parts.Given as goal

abbrev pub invariant-loop-turn : goal.invariant-loop-turn
invariant-loop-turn l =
    (repeat is_inside comment_part 1 l.fn.text ≡ rounds is_inside comment_part (l._turn-end - l._turn) l.depth l.rest) × (l.depth ≤ l._turn + 1)
