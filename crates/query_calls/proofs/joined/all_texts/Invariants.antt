use Rattle.std.proofs.Common.{[], map}
use Rattle.query_meaning.specs.Running.{Run}
use Rattle.evaluation.specs.Gives.{Any}
use Rattle.evaluation.proofs.Each.{Goes}
use Rattle.query_strings.specs.Texts.{text_at}
use Rattle.query_calls.proofs.Joining.{and_text_in}
use Rattle.query_calls.proofs.joined.all_texts.Given as goal

abbrev pub invariant-loop-value : goal.invariant-loop-value
invariant-loop-value l = (run : Run) → Goes Any and_text_in l.fn.values [] run l.value-index (map text_at l.texts.items) run
