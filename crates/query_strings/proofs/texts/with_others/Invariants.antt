use Rattle.std.proofs.Common.{◌++◌}
use Rattle.std.specs.List.{flat_map}
use Rattle.query_strings.specs.Texts.{text_at}
use Rattle.query_strings.proofs.Pieces.{IsPart}
use Rattle.query_strings.proofs.texts.with_others.Given as goal

abbrev pub invariant-loop-text : goal.invariant-loop-text
invariant-loop-text l =
    IsPart (λ t. l.fn.separator ++ text_at t) (l.fn.first ++ flat_map (λ t. l.fn.separator ++ text_at t) l.fn.others) l.fn.others l.text-index l.joined
