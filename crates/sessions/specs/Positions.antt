-- A kept reply has one of the positions of the values: the proof of that law, which an instance has to name.
use Rattle.std.proofs.Common.{◌≡◌, ℕ, suc, ◌+◌, ◌≤◌, Bool, true, false, cond, List, [], ◌∷◌, ◌++◌, length, length-append, zero-add, Option, Some, None, IfSome, refl, subst, arith}
use Rattle.ballots.specs.declared.value.Value.{Value}
use Rattle.ballots.specs.declared.request.RequestId.{RequestId}
use Rattle.ballots.specs.declared.reply.Reply.{Reply}
use Rattle.sessions.specs.declared.running.Ending.{Ending}
use Rattle.sessions.specs.declared.running.Ending.TheVariants as ending
use Rattle.applications.specs.Limits.{applied_at}
use Rattle.sessions.specs.Terms.{is_of}
use Rattle.sessions.specs.Meaning.{reply_for, value_ran, store_of, reply_after, kept_reply}

reply_for-at : (e : Ending) (position : ℕ) → applied_at (reply_for e position) ≡ position
reply_for-at ending.Done position = refl
reply_for-at (ending.Fault code) position = refl

-- a reply after some values and at most at the last of some more
abbrev IsBetween : (before more : ℕ) → Reply → Type 0
IsBetween before more reply = (before + 1 ≤ applied_at reply) × (applied_at reply ≤ before + more)

-- the first of the further values has the reply, or a later one has it
choose : (test : Bool) (reply : Reply) (later : Option Reply) (before more : ℕ) → applied_at reply ≡ before + 1 → IfSome later (IsBetween (before + 1) more) → IfSome (cond test (Some reply) later) (IsBetween before (suc more))
choose true reply later before more at h = (omega arith, omega arith)
choose false reply None before more at h = tt
choose false reply (Some x) before more at h = (omega arith, omega arith)

reply_after-between : (names : List (List ℕ)) (before values : List Value) (id : RequestId) → IfSome (reply_after names before values id) (IsBetween (length before) (length values))
reply_after-between names before [] id = tt
reply_after-between names before (v ∷ vs) id =
    let long : length (before ++ v ∷ []) ≡ length before + 1 = length-append before (v ∷ []) in
    let later : IfSome (reply_after names (before ++ v ∷ []) vs id) (IsBetween (length before + 1) (length vs)) = subst (λ (n : ℕ). IfSome (reply_after names (before ++ v ∷ []) vs id) (IsBetween n (length vs))) long (reply_after-between names (before ++ v ∷ []) vs id) in
    choose (is_of id v) _ _ (length before) (length vs) (reply_for-at (value_ran (store_of names before) v).ending (length before + 1)) later

-- from 1 to how many values there are
pub kept_reply-between : (names : List (List ℕ)) (values : List Value) (id : RequestId) → IfSome (kept_reply names values id) (λ reply. (1 ≤ applied_at reply) × (applied_at reply ≤ length values))
unfolding kept_reply
kept_reply-between names values id = subst (λ (n : ℕ). IfSome (reply_after names [] values id) (λ reply. (1 ≤ applied_at reply) × (applied_at reply ≤ n))) (zero-add (length values)) (reply_after-between names [] values id)
