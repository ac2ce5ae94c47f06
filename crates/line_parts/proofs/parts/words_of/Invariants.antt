use Rattle.std.proofs.Common.{◌≡◌, map, string_bytes}
use Rattle.line_parts.proofs.parts.words_of.Given as goal

abbrev pub invariant-loop-word : goal.invariant-loop-word
invariant-loop-word l = map string_bytes l.words.items ≡ map (λ x. x.now) l.yielded
