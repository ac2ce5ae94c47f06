use Rattle.std.proofs.Common.{◌++◌, codes}
use Rattle.std.specs.List.{flat_map}
use Rattle.query_meaning.specs.Strings.{printed}
use Rattle.query_strings.proofs.Pieces.{IsPart}
use Rattle.query_strings.proofs.texts.with_spaced.Given as goal

abbrev pub invariant-loop-value : goal.invariant-loop-value
invariant-loop-value l =
    IsPart (λ a. codes " " ++ printed a) (printed l.fn.first ++ flat_map (λ a. codes " " ++ printed a) l.fn.others) l.fn.others l.value-index l.joined
