-- What a state is to its callers, and when it is what a list of values means.
use Rattle.std.specs.Prelude.{◌≡◌, ℕ, ◌+◌, List, [], ◌∷◌, ◌++◌, length, Option, Some, refl}
use Rattle.std.specs.Coded.{Coded, code_by, coded×, coded_ℕ, coded_list}
use Rattle.std.specs.Map.{lookup}
use Rattle.trees.specs.Forest.{ForestTerm, forest_code}
use Rattle.ballots.specs.declared.request.RequestId.{RequestId}
use Rattle.ballots.specs.declared.reply.Reply.{Reply}
use Rattle.ballots.specs.declared.reply.Reply.TheVariants.{Done}
use Rattle.ballots.specs.declared.value.Value.{Value}
use Rattle.ballots.specs.declared.value.Value.TheVariants.{NoOp, Request}
use Rattle.ballots.specs.contracts.request.RequestId as id
use Rattle.ballots.specs.contracts.reply.Reply as reply
use Rattle.sessions.specs.Terms.{id_of, is_same}
use Rattle.ballots.specs.Terms.{Request as RequestTerm}
use Rattle.sessions.specs.Meaning.{request_ran, store_of, kept_reply, reply_for}

-- a store, the replies that are kept, and how many values were applied
pub record SessionTerm : Type 0 where
  pub forest : ForestTerm
  pub replies : List (RequestId × Reply)
  pub applied : ℕ

abbrev pub session_code : Coded SessionTerm
session_code =
    code_by (ForestTerm × (List (RequestId × Reply) × ℕ)) (coded× forest_code (coded× (coded_list (coded× id.the_row.coded reply.the_row.coded)) coded_ℕ)) (λ s. (s.forest, (s.replies, s.applied))) (λ p. record { forest = p.0; replies = p.1.0; applied = p.1.1 }) (λ _. refl)

-- the reply that is kept for a request
abbrev pub reply_in : SessionTerm → RequestId → Option Reply
reply_in s id = lookup (is_same id) s.replies

-- one value more is applied, and nothing else changes
abbrev pub after_repeat : SessionTerm → SessionTerm
after_repeat s = record s { applied = s.applied + 1 }

-- the reply to a request that occurs for the first time
abbrev pub reply_to_new : SessionTerm → RequestTerm → Reply
reply_to_new s r = reply_for (request_ran s.forest r).ending (s.applied + 1)

-- the state after such a request
abbrev pub after_new : SessionTerm → RequestTerm → SessionTerm
after_new s r = record { forest = (request_ran s.forest r).forest; replies = s.replies ++ (id_of r, reply_to_new s r) ∷ []; applied = s.applied + 1 }

-- the state is what the values mean, from a store with those documents
pub record Means (names : List (List ℕ)) (values : List Value) (s : SessionTerm) : Type 0 where
  pub store : s.forest ≡ store_of names values
  pub applied : s.applied ≡ length values
  pub replies : (id : RequestId) → reply_in s id ≡ kept_reply names values id

-- the reply to the last of some values: that of the first occurrence of its request, or done for a no-op
abbrev pub IsReplyTo : List (List ℕ) → List Value → Value → Reply → Type 0
IsReplyTo names values NoOp reply = reply ≡ Done (length values + 1)
IsReplyTo names values (Request r) reply = kept_reply names (values ++ Request r ∷ []) (id_of r) ≡ Some reply
