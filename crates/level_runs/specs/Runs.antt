-- What requests, questions and lists of values come to where `copy .. modify .. return` means one thing or another (our own).
use Rattle.std.specs.Prelude.{◌≡◌, ℕ, ◌+◌, cond, if◌then◌else◌, List, [], ◌∷◌, ◌++◌, length, Option, Some, None, Result, Ok, Err}
use Rattle.std.specs.Str.{chars}
use Rattle.trees.specs.Forest.{ForestTerm, opening_forest}
use Rattle.fault_codes.specs.declared.code.Code.{Code}
use Rattle.fault_codes.specs.declared.code.Code.TheVariants.{PXQ0004}
use Rattle.query_grammar.specs.declared.ast.Expr.{Expr}
use Rattle.static_checks.specs.Categories.{judged, is_updating}
use Rattle.static_checks.specs.Static.{parsed}
use Rattle.ballots.specs.declared.reply.Reply.{Reply}
use Rattle.ballots.specs.declared.request.RequestId.{RequestId}
use Rattle.ballots.specs.declared.value.Value.{Value}
use Rattle.ballots.specs.declared.value.Value.TheVariants.{NoOp, Request}
use Rattle.ballots.specs.Replies.{Answered, fault}
use Rattle.ballots.specs.Terms.{Request as RequestTerm}
use Rattle.sessions.specs.Requests.{Ran, failed, of_evaluated}
use Rattle.questions.specs.Answers.{of_outcome}
use Rattle.sessions.specs.declared.running.Ending.TheVariants.{Done}
use Rattle.sessions.specs.Meaning.{once, reply_for}
use Rattle.sessions.specs.Terms.{is_of}
use Rattle.level_laws.specs.Levels.{Copying, evaluated_with}

abbrev pub ran_with : Copying → ForestTerm → Result Expr Code → Ran
ran_with k forest (Ok x) = of_evaluated forest (evaluated_with k x forest)
ran_with k forest (Err code) = failed forest code

-- what a request of that text does to the store, where a copy means that
unfoldable pub run_with : Copying → ForestTerm → (level : ℕ) → (text : List ℕ) → Ran
run_with k forest level text = ran_with k forest (parsed level (chars text))

abbrev pub answered_with : Copying → ForestTerm → Result Expr Code → Answered
answered_with k forest (Ok x) = if is_updating (judged x).category then fault PXQ0004 else of_outcome forest (evaluated_with k x forest)
answered_with k forest (Err code) = fault code

-- what a question of that text gives from the forest, where a copy means that
unfoldable pub answer_with : Copying → ForestTerm → (level : ℕ) → (question : List ℕ) → Answered
answer_with k forest level question = answered_with k forest (parsed level (chars question))

abbrev pub all_run_with : Copying → ForestTerm → List RequestTerm → ForestTerm
all_run_with k forest [] = forest
all_run_with k forest (r ∷ rs) = all_run_with k (run_with k forest r.level r.text).forest rs

-- the store that a list of values means, where a copy means that
unfoldable pub store_with : Copying → (names : List (List ℕ)) → List Value → ForestTerm
store_with k names values = all_run_with k (opening_forest names) (once values)

-- what a value does to a store, where a copy means that
abbrev pub value_ran_with : Copying → ForestTerm → Value → Ran
value_ran_with k forest NoOp = record { forest = forest; ending = Done }
value_ran_with k forest (Request r) = run_with k forest r.level r.text

abbrev pub reply_after_with : Copying → (names : List (List ℕ)) → (before values : List Value) → RequestId → Option Reply
reply_after_with k names before [] id = None
reply_after_with k names before (v ∷ vs) id =
    cond (is_of id v) (Some (reply_for (value_ran_with k (store_with k names before) v).ending (length before + 1))) (reply_after_with k names (before ++ v ∷ []) vs id)

-- the reply that is kept for a request once a list of values was applied, where a copy means that
unfoldable pub replies_with : Copying → (names : List (List ℕ)) → List Value → RequestId → Option Reply
replies_with k names values = reply_after_with k names [] values

-- a request of level 1, or none
abbrev pub IsOfLevelOne : Value → Type 0
IsOfLevelOne NoOp = Unit {0}
IsOfLevelOne (Request r) = r.level ≡ 1
