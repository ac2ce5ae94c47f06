use Rattle.std.proofs.Common.{◌≡◌, ◌≤◌, ◌+◌, ◌*◌, ◌-◌, drop, fold}
use Rattle.query_tokens.specs.Lexing.{decimal_of}
use Rattle.query_tokens.specs.Limits.{max_integer}
use Rattle.query_tokens.proofs.names.decimal.Given as goal

abbrev pub invariant-loop-character : goal.invariant-loop-character
invariant-loop-character l = (l.value ≤ max_integer) × (fold (λ n d. 10 * n + (d - 48)) l.value (drop l.character-index l.digits) ≡ decimal_of l.digits)
