use Rattle.std.proofs.Common.{◌≡◌, [], length}
use Rattle.query_meaning.specs.Meaning.{mean}
use Rattle.query_meaning.specs.Sequences.{key_in}
use Rattle.evaluation.specs.Gives.{Any}
use Rattle.evaluation.proofs.Each.{Goes}
use Rattle.sorted_tuples.specs.Keys.{sort_key_of}
use Rattle.query_control.proofs.forms.Forms.keys_in.Given as goal

abbrev pub invariant-loop-key : goal.invariant-loop-key
invariant-loop-key g l =
    (length l.found ≡ l.key-index) × Goes Any (λ _ given k. key_in l.env given (sort_key_of mean k)) l.fn.keys [] l.fn.run l.key-index l.found l.run
