use Rattle.std.proofs.Common.{◌≡◌, ◌-◌, string_bytes}
use Rattle.query_tokens.specs.Reading.{rounds}
use Rattle.query_tokens.specs.Lexing as lexing
use Rattle.query_tokens.proofs.strings.contents.Given as goal

abbrev pub invariant-loop-turn : goal.invariant-loop-turn
invariant-loop-turn l = lexing.contents l.quote l.fn.text ≡ rounds (λ _ text. lexing.is_in_string l.quote text) (lexing.more_content l.quote) (l._turn-end - l._turn) (string_bytes l.content) l.rest
