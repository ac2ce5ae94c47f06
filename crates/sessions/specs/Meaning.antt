-- The meaning of a list of values: each request is run once, in order, from the opening store.
use Rattle.std.specs.Prelude.{ℕ, ◌+◌, cond, List, [], ◌∷◌, ◌++◌, length, Option, Some, None}
use Rattle.std.specs.List.{list_any}
use Rattle.trees.specs.Forest.{ForestTerm, opening_forest}
use Rattle.ballots.specs.declared.value.Value.{Value}
use Rattle.ballots.specs.declared.value.Value.TheVariants.{NoOp, Request}
use Rattle.ballots.specs.declared.request.RequestId.{RequestId}
use Rattle.ballots.specs.declared.reply.Reply.{Reply}
use Rattle.ballots.specs.declared.reply.Reply.TheVariants as reply
use Rattle.ballots.specs.Terms.{Request as RequestTerm}
use Rattle.sessions.specs.Requests.{Ran, run}
use Rattle.sessions.specs.declared.running.Ending.{Ending}
use Rattle.sessions.specs.declared.running.Ending.TheVariants as ending
use Rattle.sessions.specs.Terms.{id_of, is_of}

-- the requests of a value that comes after others: its own where it is the first occurrence of that, none where it is a later one or no request
abbrev pub new_requests : List Value → Value → List RequestTerm
new_requests before NoOp = []
new_requests before (Request r) = cond (list_any (is_of (id_of r)) before) [] (r ∷ [])

abbrev pub once_after : List Value → List Value → List RequestTerm
once_after before [] = []
once_after before (v ∷ vs) = new_requests before v ++ once_after (before ++ v ∷ []) vs

-- the requests of a list of values, without every later occurrence of one
abbrev pub once : List Value → List RequestTerm
once = once_after []

-- what a request does to a store
abbrev pub request_ran : ForestTerm → RequestTerm → Ran
request_ran forest r = run forest r.level r.text

-- the store after requests
abbrev pub all_run : ForestTerm → List RequestTerm → ForestTerm
all_run forest [] = forest
all_run forest (r ∷ rs) = all_run (request_ran forest r).forest rs

-- the store that a list of values means
unfoldable pub store_of : List (List ℕ) → List Value → ForestTerm
store_of names values = all_run (opening_forest names) (once values)

abbrev pub reply_for : Ending → ℕ → Reply
reply_for ending.Done position = reply.Done position
reply_for (ending.Fault code) position = reply.Fault code position

-- what a value does to a store: a request is run, and a no-op does nothing
abbrev pub value_ran : ForestTerm → Value → Ran
value_ran forest NoOp = record { forest = forest; ending = ending.Done }
value_ran forest (Request r) = request_ran forest r

-- the reply to the first occurrence of a request in a list, which comes after other values
abbrev pub reply_after : List (List ℕ) → List Value → List Value → RequestId → Option Reply
reply_after names before [] id = None
reply_after names before (v ∷ vs) id =
    cond (is_of id v) (Some (reply_for (value_ran (store_of names before) v).ending (length before + 1))) (reply_after names (before ++ v ∷ []) vs id)

-- the reply that is kept for a request: how its first occurrence ended, with the position of that in the whole list
unfoldable pub kept_reply : List (List ℕ) → List Value → RequestId → Option Reply
kept_reply names values = reply_after names [] values
