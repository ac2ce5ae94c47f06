-- The characters so far are written.
use Rattle.std.proofs.Common.{◌≡◌}
use Rattle.std.specs.List.{flat_map}
use Rattle.std.proofs.Math.Utf8.{encodes}
use Rattle.values.specs.Printing.{escaped}
use Rattle.values.specs.Limited.{added}
use Rattle.values.proofs.print.push_characters.Given as goal

abbrev pub invariant-loop-c : goal.invariant-loop-c
invariant-loop-c l = l.out ≡ added l.initial.out (flat_map escaped (encodes l.yielded))
