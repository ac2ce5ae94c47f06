use Rattle.std.proofs.Common.{◌≡◌, ◌≤◌, ◌+◌, ◌*◌, min, drop, fold}
use Rattle.query_tokens.specs.Lexing.{digit_value, value_of}
use Rattle.query_tokens.proofs.references.value_of.Given as goal

abbrev pub invariant-loop-digit : goal.invariant-loop-digit
invariant-loop-digit l =
    (min (fold (λ n d. l.base * n + digit_value d) l.value (drop l.digit-index l.digits)) 4294967295 ≡ min (value_of l.base l.digits) 4294967295) × (l.value ≤ 4294967295)
