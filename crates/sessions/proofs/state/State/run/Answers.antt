use Rattle.std.proofs.Common.{◌≡◌, ℕ, ◌++◌, ◌∷◌, List, [], Result, Ok, Err, IfOk, OnOk, Some, None, sym, subst}
use Rattle.ballots.specs.declared.reply.Reply.{Reply}
use Rattle.ballots.specs.declared.value.Value.{Value}
use Rattle.ballots.specs.declared.value.Value.TheVariants.{Request}
use Rattle.ballots.specs.Terms.{Request as RequestTerm}
use Rattle.sessions.specs.Terms.{id_of}
use Rattle.sessions.specs.Session.{SessionTerm, Means, IsReplyTo, reply_in, after_repeat, after_new, reply_to_new}
use Rattle.sessions.proofs.Meanings.{Means-noop, Means-request}
use Rattle.sessions.proofs.state.State.run.Goals as goal

-- what a request's run leaves
abbrev Repeats : SessionTerm → SessionTerm → RequestTerm → Reply → Type 0
Repeats s t r reply = (kept : Reply) → reply_in s (id_of r) ≡ Some kept → (reply ≡ kept) × (t ≡ after_repeat s)

abbrev Firsts : SessionTerm → SessionTerm → RequestTerm → Reply → Type 0
Firsts s t r reply = reply_in s (id_of r) ≡ None → (reply ≡ reply_to_new s r) × (t ≡ after_new s r)

module _ {E : Type 0} (s t : SessionTerm) (r : RequestTerm) (v : Value) (is : v ≡ Request r) where
  means : (o : Result Reply E) → IfOk o (Repeats s t r) → IfOk o (Firsts s t r) → OnOk o ((names : List (List ℕ)) (values : List Value) → Means names values s → Means names (values ++ v ∷ []) t)
  means (Ok reply) h k = λ names values m. let P : Value → Type 0 = λ w. Means names (values ++ w ∷ []) t in subst P (sym is) (Means-request names values s t r reply h k m).0
  means (Err e) h k = tt

  replies : (o : Result Reply E) → IfOk o (Repeats s t r) → IfOk o (Firsts s t r) → IfOk o (λ reply. (names : List (List ℕ)) (values : List Value) → Means names values s → IsReplyTo names values v reply)
  replies (Ok reply) h k = λ names values m. let P : Value → Type 0 = λ w. IsReplyTo names values w reply in subst P (sym is) (Means-request names values s t r reply h k m).1
  replies (Err e) h k = tt

pub returns-in-NoOp-clause-means : goal.returns-in-NoOp-clause-means
returns-in-NoOp-clause-means c = λ names values m.
    (let P : Value → SessionTerm → Type 0 = λ v s. Means names (values ++ v ∷ []) (after_repeat s) in subst (P _) (sym c.self.view_is) (subst (λ v. P v c.args.self.now) (sym c.in-NoOp.is) (Means-noop names values c.args.self.now m)))

pub returns-in-Request-clause-means : goal.returns-in-Request-clause-means
returns-in-Request-clause-means c = means c.args.self.now c.run_request.new.self c.in-Request.request c.args.value.now c.in-Request.is c.run_request.result c.run_request.ensures.repeat c.run_request.ensures.first

pub returns-in-Request-clause-replies : goal.returns-in-Request-clause-replies
returns-in-Request-clause-replies c = replies c.args.self.now c.run_request.new.self c.in-Request.request c.args.value.now c.in-Request.is c.run_request.result c.run_request.ensures.repeat c.run_request.ensures.first
