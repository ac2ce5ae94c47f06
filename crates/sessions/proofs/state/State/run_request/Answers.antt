use Rattle.std.proofs.Common.{◌≡◌, Some, None, Result, Ok, Err, IfOk, sym, ap, ◌∙◌}
use Rattle.std.specs.Map.{lookup}
use Rattle.sessions.specs.Terms.{id_of, is_same}
use Rattle.sessions.specs.Session.{SessionTerm, reply_in, after_repeat}
use Rattle.sessions.proofs.state.State.run_request.Goals as goal

IfOk-any : {A E : Type 0} {P : A → Type 0} (r : Result A E) → ((x : A) → P x) → IfOk r P
IfOk-any (Ok x) f = f x
IfOk-any (Err e) f = tt

-- what was found
found : (c : goal.After-self-1) → reply_in c.args.self.now (id_of c.args.request.now) ≡ Some c.in-Some.reply
found c =
    ap (λ (s : SessionTerm). reply_in s (id_of c.args.request.now)) (sym c.self.view_is) ∙ ap (λ id. lookup (is_same id) c.self.inside.replies.entries) (sym c.id-id.ensures) ∙ sym c.get.ensures.value ∙ sym c.copied.ensures ∙ c.in-Some.is

pub returns-in-Some-clause-repeat : goal.returns-in-Some-clause-repeat
returns-in-Some-clause-repeat c = λ kept h.
    (let same : Some c.in-Some.reply ≡ Some kept = sym (found c) ∙ h in cc, ap after_repeat c.self.view_is)

pub returns-in-Some-clause-first : goal.returns-in-Some-clause-first
returns-in-Some-clause-first c = λ h. absurd (let clash : Some c.in-Some.reply ≡ None = sym (found c) ∙ h in cc)

pub returns-in-None-clause-repeat : goal.returns-in-None-clause-repeat
returns-in-None-clause-repeat c =
    IfOk-any c.run_new.result
    (λ reply kept h.
    absurd
    (let none : reply_in c.args.self.now (id_of c.args.request.now) ≡ None =
    ap (λ (s : SessionTerm). reply_in s (id_of c.args.request.now)) (sym c.self.view_is) ∙ ap (λ id. lookup (is_same id) c.self.inside.replies.entries) (sym c.id-id.ensures) ∙ sym c.get.ensures.value ∙ sym c.copied.ensures ∙ c.in-None.is in
    let clash : None ≡ Some kept = sym none ∙ h in cc))
