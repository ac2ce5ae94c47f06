-- No answer is longer than its limit.
use Rattle.std.proofs.Common.{◌≡◌, ℕ, Bool, true, false, cond, nat_lt, List, length, Ok, Err, refl, rules}
use Rattle.std.proofs.lemmas.Bool.{ltb-false}
use Rattle.trees.specs.Forest.{ForestTerm}
use Rattle.ballots.specs.Replies.{Answered, text, fault}
use Rattle.applications.specs.Limits.{IsWithin}
use Rattle.ballots.specs.Terms.{most_answer}
use Rattle.questions.specs.Answers.{of_outcome, of_expression, of_parsed, answer}

-- a fault where a test holds, and else what is within the limit
or_fault : (t : Bool) (code : _) (a : Answered) → (t ≡ false → IsWithin a) → IsWithin (cond t (fault code) a)
or_fault true code a h = tt
or_fault false code a h = h refl

-- a text, or a fault where that is too long
text_within : (code : _) (t : List ℕ) → IsWithin (cond (nat_lt most_answer (length t)) (fault code) (text t))
text_within code t = or_fault _ _ (text t) (λ e. ltb-false _ _ e)

outcome_within : (forest : ForestTerm) (r : _) → IsWithin (of_outcome forest r)
outcome_within forest (Ok o) = text_within _ _
outcome_within forest (Err code) = tt

expression_within : (forest : ForestTerm) (x : _) → IsWithin (of_expression forest x)
expression_within forest x = search (rules, or_fault, outcome_within)

parsed_within : (forest : ForestTerm) (r : _) → IsWithin (of_parsed forest r)
parsed_within forest (Ok x) = expression_within forest x
parsed_within forest (Err code) = tt

pub answer_within : (forest : ForestTerm) (level : ℕ) (question : List ℕ) → IsWithin (answer forest level question)
unfolding answer
answer_within forest level question = parsed_within forest _
