use Rattle.std.proofs.Common.{◌≡◌, ◌≤◌, drop}
use Rattle.static_checks.specs.Brackets.{nests_too_deep}
use Rattle.static_checks.proofs.brackets.nests_too_deep.Given as goal

abbrev pub invariant-loop-index : goal.invariant-loop-index
invariant-loop-index l = (l.open ≤ 200) × (nests_too_deep l.open (drop l.index l.fn.tokens) ≡ nests_too_deep 0 l.fn.tokens)
