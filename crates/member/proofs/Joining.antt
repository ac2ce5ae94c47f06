-- A member that makes what was drafted takes the step.
use Rattle.std.proofs.Common.{◌≡◌, ℕ, ◌≤◌, sym, ap, subst, ◌∙◌}
use Rattle.ballots.specs.Ballot.{most_members}
use Rattle.paxos.specs.Application.{Application}
use Rattle.paxos.specs.Records.{Record, written}
use Rattle.paxos.specs.Step.{Running}
use Rattle.paxos.specs.WellFormed.{IsState, IsStep}
use Rattle.paxos.proofs.Steps.{message_is_step, begin_is_step, resend_is_step, catch_up_is_step, keep_is_step}
use Rattle.member.specs.declared.draft.Draft.{Draft}
use Rattle.member.specs.Drafts.{IsMade, Plans}
use Rattle.member.specs.Steps.{Member, Input, Hears, Begins, Resends, CatchesUp, KeepsLearnt, MayCome, IsThis, Took, effect_of}

-- each step is well formed
is_step : (app : Application) (n m : ℕ) (r : Record) (u : Running) (i : Input) → 1 ≤ m → m ≤ n → n ≤ most_members → MayCome n i → IsState n m r u → IsStep n m r (effect_of app n m r u i)
is_step app n m r u (Hears k) low high few comes s = message_is_step app n m k r u low high few comes s
is_step app n m r u Begins low high few comes s = begin_is_step n m r u low high few s
is_step app n m r u Resends low high few comes s = resend_is_step n m r u low high few s
is_step app n m r u CatchesUp low high few comes s = catch_up_is_step n m r u low high few s
is_step app n m r u KeepsLearnt low high few comes s = keep_is_step n m r u low high few s

-- The member has taken the step.
pub took_made : {R : Type 0} (app : Application) (i : Input) (u : Running) (old new : Member R) (d : Draft) → 1 ≤ old.number → old.number ≤ old.members → old.members ≤ 63
    → MayCome old.members i → IsThis u old → Plans (effect_of app old.members old.number old.acceptor.kept u i) old d → IsMade old d.change new
    → Took (effect_of app old.members old.number old.acceptor.kept u i) old new (record { sends = d.sends; tells = d.tells })
took_made app i u old new d low high few comes this p made =
    let n = old.members in
    let e = effect_of app n old.number old.acceptor.kept u i in
    let kept : new.acceptor.kept ≡ written e.write old.acceptor.kept = made.kept ∙ ap (λ w. written w old.acceptor.kept) (sym p.write) in
    let step = is_step app n old.number old.acceptor.kept u i low high few comes this.state in
    record {
      members = made.members;
      number = made.number;
      record_is = kept;
      running = p.running;
      runs = p.runs;
      is_this = record {
        hears = p.hears new.learner made.learns;
        knows = p.knows new.proposer made.leads;
        state = subst (λ j. IsState j new.number new.acceptor.kept p.running) (sym made.members)
            (subst (λ j. IsState n j new.acceptor.kept p.running) (sym made.number)
            (subst (λ r. IsState n old.number r p.running) (sym kept) (step.runs p.running p.runs)));
        runs = made.runs;
      };
      sends = p.sends new.proposer made.leads;
      tells = p.tells;
    }
