use Rattle.std.proofs.Common.{◌≡◌, Bool, ◌+◌, ◌++◌, ◌∷◌, [], None, ap, sym, ◌∙◌, arith}
use Rattle.ballots.specs.declared.request.RequestId.{RequestId}
use Rattle.ballots.specs.contracts.request.RequestIdPartialEq as ids
use Rattle.query_meaning.specs.Running.{most_nodes}
use Rattle.sessions.specs.Requests.{Ran, run}
use Rattle.sessions.specs.Terms.{id_of}
use Rattle.sessions.specs.Meaning.{request_ran, reply_for}
use Rattle.sessions.specs.Session.{SessionTerm, reply_to_new}
use Rattle.std.specs.Map.{lookup}
use Rattle.indexmap.specs.IndexMap.{get}
use Rattle.indexmap.proofs.CallerLemmas.{insert_entry-new}
use Rattle.sessions.proofs.state.State.run_new.Goals as goal

-- the test by which the map finds requests
abbrev same : RequestId → RequestId → Bool
same = ids.TheImpl.eq-value.it

pub run-requires-clause-next : goal.run-requires-clause-next
unfolding most_nodes
run-requires-clause-next c =
    let next = c.self.invariant.next in
    let few = c.self.invariant.few in
    omega arith

-- the store as it was
store : (c : goal.After-unwrap-none) → c.self.inside.forest ≡ c.args.self.now.forest
store c = ap (λ (s : SessionTerm). s.forest) c.self.view_is

count : (c : goal.After-unwrap-none) → c.self.inside.applied ≡ c.args.self.now.applied
count c = ap (λ (s : SessionTerm). s.applied) c.self.view_is

pub returns-clause-after : goal.returns-clause-after
returns-clause-after c =
    let s = c.args.self.now in
    let r = c.args.request.now in
    let ran : request_ran s.forest r ≡ record { forest = c.run.new.forest; ending = c.in-Ok.ending } = (λ i. run (sym (store c) i) (sym c.level-level.ensures.level i) (sym c.text.ensures.text i)) ∙ c.in-Ok.ensures.ran in
    let forest : c.run.new.forest ≡ (request_ran s.forest r).forest = ap (λ (x : Ran). x.forest) (sym ran) in
    let entries : c.insert.new.self.entries ≡ s.replies ++ (id_of r, reply_to_new s r) ∷ [] =
    (let inserted = rw c.unwrap-none.ensures at c.insert.ensures.entries in
    let m = c.reserve.new.self in
    let kept : m.entries ≡ s.replies = c.reserve.ensures.entries ∙ ap (λ (t : SessionTerm). t.replies) c.self.view_is in
    let id : c.id.result ≡ id_of r = c.id.ensures in
    let none : get same m c.id.result ≡ None = (λ i. lookup (same (id i)) (kept i)) ∙ c.requires.absent in
    let ended : c.in-Ok.ending ≡ (request_ran s.forest r).ending = ap (λ (x : Ran). x.ending) (sym ran) in
    let reply : c.reply_at-reply.result ≡ reply_to_new s r = c.reply_at-reply.ensures ∙ (λ i. reply_for (ended i) (count c i + 1)) in
    inserted ∙ insert_entry-new same m c.id.result c.reply_at-reply.result none ∙ (λ i. kept i ++ (id i, reply i) ∷ [])) in
    let applied : c.self.inside.applied + 1 ≡ s.applied + 1 = ap (λ n. n + 1) (count c) in
    λ i. record { forest = forest i; replies = entries i; applied = applied i }
