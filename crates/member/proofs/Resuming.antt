-- A member that starts with what its record keeps, and one that keeps one more value.
use Rattle.std.proofs.Common.{◌≡◌, ℕ, zero, suc, ◌+◌, ◌≤◌, ◌<◌, arith, Bool, true, false, cond, refl, sym, ap, ap₂, subst, ◌∙◌, inl, inr, List, [], ◌∷◌, Some, None, length, nat_lt, is_some}
use Rattle.std.proofs.lemmas.Option.{none-some}
use Rattle.ballots.specs.Messages.{Packet}
use Rattle.ballots.specs.declared.value.Value.{Value}
use Rattle.ballots.specs.declared.value.Pair.{Pair}
use Rattle.ballots.specs.Values.{positions}
use Rattle.learner.specs.Hearing.{HasHeard}
use Rattle.learner.specs.Terms.{Learner, learnt_of}
use Rattle.paxos.specs.Knowledge.{kept_news, last_of_run, learnt as learnt_at, news, numbered, prefix, value_at}
use Rattle.paxos.specs.Lists.{Has}
use Rattle.paxos.specs.Records.{Record, NewLearnt}
use Rattle.paxos.specs.Step.{Effect, Running, chosen_packet, keeping, on_keep, quiet, resumed}
use Rattle.paxos.specs.WellFormed.{IsCalledFor, IsRecord}
use Rattle.acceptor.specs.Drafts.{Draft as AcceptorDraft}
use Rattle.proposer.specs.Knowing.{Knows}
use Rattle.member.specs.Drafts.{IsDrafted, Leads, Learns, Plans, write_in}
use Rattle.member.proofs.Drafting.{plain}
use Rattle.member.specs.Steps.{Member, KeepsLearnt, IsThis, all_packets}
use Rattle.member.specs.declared.draft.Change.TheVariants.{Nothing, Keep}
use Rattle.member.specs.declared.draft.Draft.{Draft}

-- the news of a start
start_news : (m : ℕ) (pairs : List Pair) → news (chosen_packet m m pairs) ≡ kept_news pairs
start_news m [] = refl
start_news m (e ∷ es) = refl

-- what a start tells itself is called for
start_called : (m : ℕ) (r : Record) (pairs : List Pair) (k : Packet) → Has (chosen_packet m m pairs) k → IsCalledFor r k.body
start_called m r [] k h = absurd h
start_called m r (e ∷ es) k (inl q) = subst (λ (x : Packet). IsCalledFor r x.body) q tt
start_called m r (e ∷ es) k (inr h) = absurd h

-- A member whose learner has heard what its record keeps, and which leads nothing, has started so.
pub resumed_this : {R : Type 0} (x : Member R) → IsRecord x.members x.acceptor.kept → HasHeard (kept_news (numbered 1 x.acceptor.kept.learnt)) x.learner → x.proposer.lead ≡ None → x.acceptor.is_stopped ≡ false
    → IsThis (resumed x.number x.acceptor.kept) x
resumed_this x is heard free runs = record {
  hears = subst (λ hs. HasHeard hs x.learner) (sym (start_news x.number (numbered 1 x.acceptor.kept.learnt))) heard;
  knows = free;
  state = record {
    kept = is;
    leads = λ l e. absurd (none-some l e);
    heard = start_called x.number x.acceptor.kept (numbered 1 x.acceptor.kept.learnt);
  };
  runs = runs;
}

-- nothing comes of a Keep where nothing is to be kept
quiet_plans : {R : Type 0} (x : Member R) (d : Draft) → ((u : Running) → IsThis u x → on_keep x.members x.acceptor.kept u ≡ quiet u) → d.sends.items ≡ [] → d.tells.items ≡ [] → d.change ≡ Nothing → IsDrafted KeepsLearnt x d
quiet_plans x d is sends tells change = record {
  heard = tt;
  plans = λ app u new this. subst (λ (e : Effect). Plans e x d) (sym (is u this))
      (plain x u [] d this.knows this.hears (sym (ap (all_packets x.members x.number) sends)) tells change);
}

-- so where all that is learnt is kept
pub kept_plans : {R : Type 0} (x : Member R) (k p : ℕ) (d : Draft) → k ≡ length x.acceptor.kept.learnt → ((u : Running) → IsThis u x → p ≡ prefix x.members (news u.heard)) → nat_lt k p ≡ false → d.sends.items ≡ [] → d.tells.items ≡ [] → d.change ≡ Nothing → IsDrafted KeepsLearnt x d
kept_plans x k p d here is all sends tells change = quiet_plans x d (λ u this. ap (λ b. keeping u (cond b (learnt_at x.members (suc (length x.acceptor.kept.learnt)) (news u.heard)) None)) (ap₂ nat_lt (sym here) (sym (is u this)) ∙ all)) sends tells change

-- and where no value is learnt next
pub unlearnt_plans : {R : Type 0} (x : Member R) (d : Draft) → ((u : Running) → IsThis u x → learnt_at x.members (suc (length x.acceptor.kept.learnt)) (news u.heard) ≡ None) → d.sends.items ≡ [] → d.tells.items ≡ [] → d.change ≡ Nothing → IsDrafted KeepsLearnt x d
unlearnt_plans x d none sends tells change = quiet_plans x d (λ u this. ap (λ o. keeping u (cond (nat_lt (length x.acceptor.kept.learnt) (prefix x.members (news u.heard))) o None)) (none u this) ∙ nothing u (nat_lt (length x.acceptor.kept.learnt) (prefix x.members (news u.heard)))) sends tells change
  where
    nothing : (u : Running) (b : Bool) → keeping u (cond b None None) ≡ quiet u
    nothing u true = refl
    nothing u false = refl

-- The value that is learnt next is kept.
pub keep_plans : {R : Type 0} (x : Member R) (k p : ℕ) (value : Value) (a : AcceptorDraft (Unit {0})) (d : Draft) → k ≡ length x.acceptor.kept.learnt → ((u : Running) → IsThis u x → p ≡ prefix x.members (news u.heard)) → nat_lt k p ≡ true
    → ((u : Running) → IsThis u x → Some value ≡ learnt_at x.members (suc (length x.acceptor.kept.learnt)) (news u.heard)) → a.write ≡ NewLearnt value → d.sends.items ≡ [] → d.tells.items ≡ [] → d.change ≡ Keep a → IsDrafted KeepsLearnt x d
keep_plans {R} x k p value a d here is more learnt writes sends tells change = record {
  heard = tt;
  plans = λ app u new this. subst (λ (e : Effect). Plans e x d) (sym (step u this)) (record {
    running = u;
    runs = refl;
    write = sym (ap write_in change ∙ writes);
    knows = λ y l. subst (λ z. Knows u.heard u.leader z) (sym (subst (λ c. Leads x.proposer c y) change l)) this.knows;
    hears = λ y l. subst (HasHeard (news u.heard)) (sym (subst (λ c. Learns x.learner c y) change l)) this.hears;
    sends = λ y l. sym (ap (all_packets x.members x.number) sends);
    tells = sym tells;
  });
}
  where
    step : (u : Running) → IsThis u x → on_keep x.members x.acceptor.kept u ≡ keeping u (Some value)
    step u this = ap₂ (λ b o. keeping u (cond b o None)) (ap₂ nat_lt (sym here) (sym (is u this)) ∙ more) (sym (learnt u this))

-- a run is no longer than its limit
run_limit : (test : ℕ → Bool) (k p : ℕ) → last_of_run test k p ≤ p + k
run_limit test zero p = omega arith
run_limit test (suc k) p = one (test (suc p)) (run_limit test k (suc p))
  where
    one : (t : Bool) → last_of_run test k (suc p) ≤ suc p + k → elim t as (λ x. ℕ) [ true ↦ last_of_run test k (suc p) | false ↦ p ] ≤ p + suc k
    one true h = omega (arith, h)
    one false h = omega arith

-- so no prefix is longer than all positions
pub run_most : (l : Learner) (p : ℕ) → p ≡ last_of_run (λ q. is_some (value_at q (learnt_of l))) positions 0 → p ≤ positions
run_most l p e = let r = run_limit (λ q. is_some (value_at q (learnt_of l))) positions 0 in omega (arith, r, e)

-- the position after so many
pub after_kept : (k l : ℕ) → k ≡ l → k + 1 ≡ suc l
after_kept k l e = omega (arith, e)

-- there is a position for it
pub few_kept : (k p l : ℕ) → k ≡ l → k < p → p ≤ positions → l < positions
few_kept k p l e b m = omega (arith, e, b, m)
