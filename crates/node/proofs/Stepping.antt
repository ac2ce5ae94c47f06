-- A node that makes what was drafted, and goes on to what is learnt, has taken the step.
use Rattle.std.proofs.Common.{◌≡◌, ℕ, zero, suc, ◌≤◌, ◌<◌, ◌&&◌, Bool, true, false, cond, arith, refl, sym, ap, ap₂, subst, ◌∙◌, List, [], ◌∷◌, ◌++◌, map, Option, Some}
use Rattle.std.specs.Prelude.{nat_le, option_map, option_to_list}
use Rattle.std.proofs.lemmas.Bool.{le-leb}
use Rattle.ballots.specs.Ballot.{most_members}
use Rattle.ballots.specs.Messages.{Packet}
use Rattle.ballots.specs.declared.value.Value.{Value}
use Rattle.member.proofs.Keeping.{grows, heard_by, keeps}
use Rattle.member.specs.Steps.{Input, Hears, Begins, Resends, CatchesUp, KeepsLearnt, MayCome, Member, Took as TookOf, all_packets, effect_of}
use Rattle.member.specs.Drafts.{Plans}
use Rattle.member.specs.declared.draft.Draft.{Draft as MemberDraft}
use Rattle.member.specs.declared.outcome.Outcome.{Outcome}
use Rattle.paxos.proofs.News.{learnt_stays, prefix_learnt}
use Rattle.paxos.specs.Application.{Application}
use Rattle.paxos.specs.Knowledge.{Heard, news, news_of, prefix, values_to}
use Rattle.paxos.specs.Lists.{Has}
use Rattle.paxos.specs.Records.{Record, Write, written}
use Rattle.paxos.specs.WellFormed.{IsMessage, IsState}
use Rattle.paxos.specs.Step.{Effect, Running, is_called_for, values_of}
use Rattle.paxos.specs.World.{applies, applies_to}
use Rattle.acceptor.specs.Steps.{Stopped}
use Rattle.node.specs.Applying.{HasGone, IsAt}
use Rattle.node.proofs.SpeltBack.{step_is}
use Rattle.node.specs.Nodes.{HasFailed, HasStayed, Node, ReadsBack, RunsAs, Steps, Took, posted, spelt, step_of}
use Rattle.node.specs.declared.outbox.Outbox.{Outbox}

-- two values that are one option
some_one : {A : Type 0} {a b : A} → Some a ≡ Some b → a ≡ b
some_one q = cc

-- what is learnt without a gap is learnt still when more is heard
values_stay : (n : ℕ) (newer older : List Heard) (k : ℕ) → k ≤ prefix n older → values_to n (newer ++ older) k ≡ values_to n older k
values_stay n newer older zero h = refl
values_stay n newer older (suc k) h =
    let v = prefix_learnt n older (suc k) (omega arith) h in
    ap₂ (λ vs (o : Option Value). vs ++ option_to_list o) (values_stay n newer older k (omega (arith, h))) (learnt_stays n (suc k) newer older v.0 v.1 ∙ sym v.1)

-- a step hears more, or as much
heard_more : (r : Record) (u : Running) (i : Input) → (newer : List Heard) × (news (heard_by r u i).heard ≡ newer ++ news u.heard)
heard_more r u (Hears k) = one (is_called_for r k.body)
  where
    one : (t : Bool) → (newer : List Heard) × (news (cond t (record { heard = k ∷ u.heard; leader = u.leader; applied = u.applied }) u).heard ≡ newer ++ news u.heard)
    one true = (news_of k.sender k.body, refl)
    one false = ([], refl)
heard_more r u Begins = ([], refl)
heard_more r u Resends = ([], refl)
heard_more r u CatchesUp = ([], refl)
heard_more r u KeepsLearnt = ([], refl)

-- so the values that were applied are the first learnt ones after it
pub step_values : (app : Application) (n m : ℕ) (r : Record) (u : Running) (i : Input) (v : Running) → (effect_of app n m r u i).running ≡ Some v → (k : ℕ) → k ≤ prefix n (news u.heard) → values_to n (news v.heard) k ≡ values_to n (news u.heard) k
step_values app n m r u i v e k most =
    let kept = keeps app n m r u i in
    let more = heard_more r u i in
    let heard : v.heard ≡ (heard_by r u i).heard = ap (λ (z : Running). z.heard) (some_one (sym e ∙ kept.runs)) ∙ kept.heard in
    ap (λ hs. values_to n hs k) (ap news heard ∙ more.1) ∙ values_stay n more.0 (news u.heard) k most

-- how far is applied then
applied_then : (a j most : ℕ) → a ≤ j → j ≤ most → cond (nat_le a j && nat_le j most) j a ≡ j
applied_then a j most h k = rw (le-leb a j h, le-leb j most k) refl

-- The node has taken the step.
pub stepped : {R A : Type 0} (has_applied : List (List ℕ) → List Value → A → Type 0) (app : Application) (i : Input) (u : Running) (old new : Node R A) (outcome : Outcome) (o : Outbox)
    → old.member.members ≡ old.setup.members → old.member.number ≡ old.setup.member → new.setup ≡ old.setup → RunsAs has_applied u old
    → TookOf (effect_of app old.setup.members old.setup.member old.member.acceptor.kept u i) old.member new.member outcome → HasGone has_applied new.member old.application new.application o.is_short
    → posted old.setup.members old.setup.member o.sent.items ≡ map (spelt old.setup.group) (all_packets old.setup.members old.setup.member outcome.sends.items)
    → ((k : Packet) → Has (all_packets old.setup.members old.setup.member outcome.sends.items) k → IsMessage old.setup.members k → ReadsBack old.setup.group k) → o.tells.items ≡ outcome.tells.items
    → 1 ≤ old.setup.member → old.setup.member ≤ old.setup.members → old.setup.members ≤ most_members → MayCome old.setup.members i
    → (j : ℕ) × Took has_applied (step_of app old u i j) old new o
stepped has_applied app i u old new outcome o members number setup r took gone sends reads tells least most few comes =
    let n = old.setup.members in
    let m = old.setup.member in
    let e = effect_of app n m old.member.acceptor.kept u i in
    let v = took.running in
    let g = grows app n m old.member.acceptor.kept u i v took.runs in
    let many : new.member.members ≡ n = took.members ∙ members in
    let at : IsAt has_applied old.setup.names new.member.members v u.applied old.application =
    subst (λ k. IsAt has_applied old.setup.names k v u.applied old.application) (sym many)
    (let a = r.most in let b = g.0 in omega (arith, a, b), subst (λ vs. has_applied old.setup.names vs old.application) (sym (step_values app n m old.member.acceptor.kept u i v took.runs u.applied r.most)) r.applied) in
    let went = gone old.setup.names v u.applied took.is_this at in
    let j = went.0 in
    let there : IsAt has_applied old.setup.names n v j new.application = subst (λ k. IsAt has_applied old.setup.names k v j new.application) many went.2 in
    let is : (applies_to n j v).applied ≡ j = applied_then v.applied j (prefix n (news v.heard)) (let a = went.1 in let b = g.1 in omega (arith, a, b)) there.0 in (
      j,
      record {
        setup = setup;
        record_is = took.record_is;
        running = applies_to n j v;
        runs = ap (option_map (applies_to n j)) took.runs;
        runs_as = record {
          this = record { hears = took.is_this.hears; knows = took.is_this.knows; state = record { kept = took.is_this.state.kept; leads = took.is_this.state.leads; heard = took.is_this.state.heard }; runs = took.is_this.runs };
          most = subst (λ s. (applies_to n j v).applied ≤ prefix s.members (news v.heard)) (sym setup) (subst (λ k. k ≤ prefix n (news v.heard)) (sym is) there.0);
          applied = subst (λ s. has_applied s.names (values_of s.members (applies_to n j v)) new.application) (sym setup) (subst (λ k. has_applied old.setup.names (values_to n (news v.heard) k) new.application) (sym is) there.1);
        };
        sends = ap (map (spelt old.setup.group)) (took.sends ∙ same_packets) ∙ sym sends;
        reads = λ k h. reads k (subst (λ xs. Has xs k) (took.sends ∙ same_packets) h)
            ((step_is app n m i old.member.acceptor.kept u least most few comes (subst (λ j. IsState n j old.member.acceptor.kept u) number (subst (λ j. IsState j old.member.number old.member.acceptor.kept u) members r.this.state))).sends k h);
        tells = took.tells ∙ sym tells;
        whole = λ whole. is ∙ went.3 whole ∙ ap (λ k. prefix k (news v.heard)) many;
        short = λ short. let less = went.4 short in let same = ap (λ k. prefix k (news v.heard)) many in omega (arith, is, less, same);
      },
    )
  where
    same_packets : all_packets old.member.members old.member.number outcome.sends.items ≡ all_packets old.setup.members old.setup.member outcome.sends.items
    same_packets = ap₂ (λ n m. all_packets n m outcome.sends.items) members number

-- what plans the node's step plans its member's
pub member_plans : {R A : Type 0} (app : Application) (i : Input) (u : Running) (x : Node R A) (d : MemberDraft) → x.member.members ≡ x.setup.members → x.member.number ≡ x.setup.member
    → Plans (effect_of app x.setup.members x.setup.member x.member.acceptor.kept u i) x.member d → Plans (effect_of app x.member.members x.member.number x.member.acceptor.kept u i) x.member d
member_plans app i u x d members number p = subst (λ m. Plans (effect_of app x.member.members m x.member.acceptor.kept u i) x.member d) (sym number)
    (subst (λ n. Plans (effect_of app n x.setup.member x.member.acceptor.kept u i) x.member d) (sym members) p)

-- a step of the member is one of the node
pub member_took : {R A : Type 0} (app : Application) (i : Input) (u : Running) (x : Node R A) (y : Member R) (outcome : Outcome) → x.member.members ≡ x.setup.members → x.member.number ≡ x.setup.member
    → TookOf (effect_of app x.member.members x.member.number x.member.acceptor.kept u i) x.member y outcome → TookOf (effect_of app x.setup.members x.setup.member x.member.acceptor.kept u i) x.member y outcome
member_took app i u x y outcome members number t = subst (λ m. TookOf (effect_of app x.setup.members m x.member.acceptor.kept u i) x.member y outcome) number
    (subst (λ n. TookOf (effect_of app n x.member.number x.member.acceptor.kept u i) x.member y outcome) members t)

-- A step from where nothing had changed is one from before.
pub took_since : {R A : Type 0} (has_applied : List (List ℕ) → List Value → A → Type 0) (app : Application) (i : Input) (u : Running) (j : ℕ) (old mid new : Node R A) (o : Outbox) → HasStayed has_applied old mid
    → Took has_applied (step_of app mid u i j) mid new o → Took has_applied (step_of app old u i j) old new o
took_since has_applied app i u j old mid new o stayed t = record {
  setup = t.setup ∙ stayed.setup;
  record_is = t.record_is ∙ ap₂ (λ (e : Effect) r. written e.write r) same (ap (λ a. a.kept) stayed.acceptor);
  running = t.running;
  runs = sym (ap (λ (e : Effect). e.running) same) ∙ t.runs;
  runs_as = t.runs_as;
  sends = ap₂ (λ s (e : Effect). map (spelt s.group) e.sends) (sym stayed.setup) (sym same) ∙ t.sends ∙ ap (λ s. posted s.members s.member o.sent.items) stayed.setup;
  reads = λ k h. subst (λ s. ReadsBack s.group k) stayed.setup (t.reads k (subst (λ (e : Effect). Has e.sends k) (sym same) h));
  tells = sym (ap (λ (e : Effect). e.tells) same) ∙ t.tells;
  whole = λ whole. t.whole whole ∙ ap (λ s. prefix s.members (news t.running.heard)) stayed.setup;
  short = λ short. subst (λ s. t.running.applied < prefix s.members (news t.running.heard)) stayed.setup (t.short short);
}
  where
    same : step_of app mid u i j ≡ step_of app old u i j
    same = ap₂ (λ s a. applies s.members j (effect_of app s.members s.member a.kept u i)) stayed.setup stayed.acceptor

pub since : {R A : Type 0} (has_applied : List (List ℕ) → List Value → A → Type 0) (meaning : List (List ℕ) → Application) (i : Input) (old mid new : Node R A) (o : Outbox) → HasStayed has_applied old mid
    → Steps has_applied (meaning mid.setup.names) i mid new o → Steps has_applied (meaning old.setup.names) i old new o
since has_applied meaning i old mid new o stayed h = subst (λ s. Steps has_applied (meaning s.names) i old new o) stayed.setup (λ u r.
    let s = h u (stayed.runs_as u r) in
    (s.0, took_since has_applied (meaning mid.setup.names) i u s.0 old mid new o stayed s.1))

-- So is a failure of its store.
pub failed_since : {R A : Type 0} (stands : R → Record → Record → Type 0) (is_kept : R → Type 0) (failed : R → ℕ) (has_applied : List (List ℕ) → List Value → A → Type 0) (meaning : List (List ℕ) → Application) (i : Input)
    (old mid new : Node R A) (write : Write) → HasStayed has_applied old mid
    → Stopped stands is_kept failed mid.member.acceptor new.member.acceptor write
    → ((u : Running) → RunsAs has_applied u mid → (effect_of (meaning mid.setup.names) mid.setup.members mid.setup.member mid.member.acceptor.kept u i).write ≡ write)
    → HasFailed stands is_kept failed has_applied (meaning old.setup.names) i old new
failed_since stands is_kept failed has_applied meaning i old mid new write stayed stopped plans = (
  write,
  subst (λ a. Stopped stands is_kept failed a new.member.acceptor write) stayed.acceptor stopped,
  λ u r. sym (ap₂ (λ s a. (effect_of (meaning s.names) s.members s.member a.kept u i).write) (sym stayed.setup) (sym stayed.acceptor) ∙ plans u (stayed.runs_as u r)),
)
