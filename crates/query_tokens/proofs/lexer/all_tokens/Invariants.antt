use Rattle.std.proofs.Common.{◌≡◌, ◌-◌, ◌≤◌, [], length}
use Rattle.query_tokens.specs.Reading.{repeat, rounds}
use Rattle.query_tokens.specs.Lexing.{is_left, next_token}
use Rattle.query_tokens.proofs.lexer.all_tokens.Given as goal

abbrev pub invariant-loop-turn : goal.invariant-loop-turn
invariant-loop-turn l =
    (repeat (λ _ text. is_left text) next_token [] l.fn.text ≡ rounds (λ _ text. is_left text) next_token (l._turn-end - l._turn) l.found l.rest) × (length l.rest ≤ l._turn-end - l._turn)
