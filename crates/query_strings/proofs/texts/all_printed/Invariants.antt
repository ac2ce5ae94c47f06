use Rattle.std.specs.List.{flat_map}
use Rattle.query_meaning.specs.Strings.{printed}
use Rattle.query_strings.proofs.Pieces.{IsPart}
use Rattle.query_strings.proofs.texts.all_printed.Given as goal

abbrev pub invariant-loop-value : goal.invariant-loop-value
invariant-loop-value l = IsPart printed (flat_map printed l.fn.values) l.fn.values l.value-index l.joined
