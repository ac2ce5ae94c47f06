use Rattle.std.proofs.Common.{◌≡◌, ◌≤◌, ◌∙◌, ℕ, suc, ◌+◌, arith, ap, ap₂, refl, subst, sym, is_some, true, [], ◌∷◌}
use Rattle.std.proofs.lemmas.Bool.{lt-ltb}
use Rattle.ballots.specs.Ballot.{below, last_round}
use Rattle.ballots.specs.Values.{positions}
use Rattle.ballots.specs.declared.ballot.Ballot.{Ballot}
use Rattle.ballots.specs.declared.message.Message.TheVariants as message
use Rattle.learner.specs.Terms.{learnt_of}
use Rattle.paxos.specs.Knowledge.{value_at}
use Rattle.paxos.specs.Step.{next_ballot}
use Rattle.proposer.specs.Beginning.{IsBegun, is_in}
use Rattle.member.specs.Drafts.{Says, send_to}
use Rattle.member.specs.Steps.{Member}
use Rattle.member.specs.declared.draft.Change.TheVariants.{Begin}
use Rattle.member.specs.declared.outcome.Target.TheVariants as target
use Rattle.member.proofs.Beginning.{begun_plans, next_is_above}
use Rattle.member.proofs.member.Member.draft_ballot.Goals as goal

pub returns-clause-drafted : goal.returns-clause-drafted
returns-clause-drafted g c =
    let x = c.args.self.now in
    let i = c.self.inside in
    let p = c.args.learnt in
    let promise = c.promised-promise.result in
    let made = c.in-Ok-draft_begin.ensures.begun in
    let next : p + 1 ≡ suc p = omega arith in
    let round : promise.round + 1 ≡ suc promise.round = omega arith in
    let number = subst (λ (y : Member g.row.R.Denot). i.number ≡ y.number) c.self.view_is refl in
    let ballot : Ballot = record { round = promise.round + 1; member = i.number } in
    let is : ballot ≡ next_ballot x.number x.acceptor.kept = ap₂ (λ (r m : ℕ). record { round = r; member = m }) (round ∙ ap (λ (b : Ballot). suc b.round) c.promised-promise.ensures) number in
    let same : c.in-Ok-draft_begin.lead.answer ≡ ballot = c.in-Ok-draft_begin.ensures.ballot ∙ ap₂ (λ (r m : ℕ). record { round = r; member = m }) (sym round) c.self.invariant.4 in
    let above : below x.acceptor.kept.promise ballot ≡ true = subst (λ (b : Ballot). below b ballot ≡ true) c.promised-promise.ensures (next_is_above promise i.number) in
    let begun : IsBegun x.proposer.members ballot (suc p) c.in_ok-known.known.items made.0 =
    subst (λ (y : Member g.row.R.Denot). IsBegun y.proposer.members ballot (suc p) c.in_ok-known.known.items made.0) c.self.view_is
    (subst (λ ps. IsBegun i.proposer.members ballot (suc p) ps made.0) c.deref.ensures.value
    (subst (λ f. IsBegun i.proposer.members ballot f c.deref.result.now made.0) next (subst (λ (b : Ballot). IsBegun i.proposer.members b (p + 1) c.deref.result.now made.0) same made.2))) in
    begun_plans {R = g.row.R.Denot} x c.in_ok-say.field-0 p c.in_ok-known.known.items ballot made.0 c.in-Ok.promised c.in-Ok-draft_begin.lead
    (subst (λ (y : Member g.row.R.Denot). y.proposer.members ≡ y.members) c.self.view_is c.self.invariant.3)
    (subst (λ (y : Member g.row.R.Denot). y.proposer.member ≡ y.number) c.self.view_is c.self.invariant.4)
    (subst (λ (y : Member g.row.R.Denot). y.learner.members ≡ y.members) c.self.view_is c.self.invariant.5)
    c.requires.learnt (lt-ltb p positions c.requires.place) (lt-ltb x.acceptor.kept.promise.round last_round c.requires.round) is above
    (subst (λ (y : Member g.row.R.Denot). (q : ℕ) → suc p ≤ q → is_in q c.in_ok-known.known.items ≡ is_some (value_at q (learnt_of y.learner))) c.self.view_is (λ q low. c.in_ok-known.ensures.learnt q (omega (arith, low))))
    c.in-Ok.ensures.write made.1 begun
    (subst (λ f. Says c.in_ok-say.field-0 (send_to target.All (message.Prepare ballot f) ∷ []) (Begin c.in-Ok.promised c.in-Ok-draft_begin.lead)) next c.in_ok-say.ensures)
