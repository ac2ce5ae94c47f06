-- What is told of what is chosen, what a message may say, and what a draft leaves.
use Rattle.std.proofs.Common.{◌≡◌, ℕ, zero, suc, Bool, true, false, eqb, ◌-◌, ◌<◌, ◌≤◌, arith, refl, sym, ap, ◌∙◌, List, [], ◌∷◌, length, get_or, take}
use Rattle.std.specs.Prelude.{Result, Ok, Err, IfErr, IsErrOf, ◌↔◌}
use Rattle.std.specs.List.{All}
use Rattle.std.proofs.lemmas.Bool.{eq-eqb, eqb-true}
use Rattle.ballots.specs.Messages.{CatchUp, Chosen, Window, packet}
use Rattle.ballots.specs.Values.{positions}
use Rattle.ballots.specs.declared.value.Pair.{Pair}
use Rattle.learner.specs.Hearing.{AreAbove}
use Rattle.learner.specs.Terms.{learnt_of}
use Rattle.paxos.specs.Knowledge.{learnt as learnt_at, learnt_from, news}
use Rattle.paxos.specs.Step.{chosen_packet}
use Rattle.paxos.specs.WellFormed.{ArePairs, IsWindow}
use Rattle.proposer.specs.Hearing.{IsWindow as IsWindowTaken}
use Rattle.member.proofs.Drafting.{plain_message}
use Rattle.member.proofs.Gathering.{pairs_heard}
use Rattle.member.proofs.Leading.{votes_between}
use Rattle.member.specs.Drafts.{IsDrafted}
use Rattle.member.specs.Learnt.{pairs_from}
use Rattle.member.specs.Steps.{Member, Hears, IsHeard, all_packets}
use Rattle.member.specs.declared.draft.Change.TheVariants.{Nothing}
use Rattle.member.specs.declared.draft.Draft.{Draft}
use Rattle.member.specs.declared.fault.MemberFault.{MemberFault}
use Rattle.member.specs.declared.fault.MemberFault.TheVariants.{Memory, Spent}

-- a member hears what is chosen from a position on
pub told_plans : {R : Type 0} (x : Member R) (d : Draft) (s from : ℕ) (pairs : List Pair) → x.learner.members ≡ x.members → IsHeard x.members (Hears (packet s (CatchUp from) x.number)) → pairs ≡ take 8 (pairs_from (learnt_of x.learner) from)
    → chosen_packet x.number s pairs ≡ all_packets x.members x.number d.sends.items → d.tells.items ≡ [] → d.change ≡ Nothing → IsDrafted (Hears (packet s (CatchUp from) x.number)) x d
told_plans x d s from pairs counted heard lowest sends tells change = record {
  heard = heard;
  plans = λ app u new this.
      let same : pairs ≡ take 8 (learnt_from x.members (news u.heard) from (suc positions - from)) =
      lowest ∙ ap (take 8) (pairs_heard x.members (news u.heard) (learnt_of x.learner) (λ q. this.hears.learnt q ∙ ap (λ n. learnt_at n q (news u.heard)) counted) from (suc positions - from)) in
      plain_message x u (packet s (CatchUp from) x.number) _ d this refl refl (ap (chosen_packet x.number s) (sym same) ∙ sends) tells change;
}

-- without values nothing is said
pub none_chosen : (m s k : ℕ) (es : List Pair) → k ≡ length es → eqb k 0 ≡ true → chosen_packet m s es ≡ []
none_chosen m s k [] e h = refl
none_chosen m s k (x ∷ es) e h = let z = eqb-true k 0 h in absurd (omega (arith, e, z))

-- values that are told go in one message
pub one_chosen : (m s k : ℕ) (es : List Pair) → k ≡ length es → eqb k 0 ≡ false → chosen_packet m s es ≡ packet m (Chosen es) s ∷ []
one_chosen m s k [] e h = let f : eqb k 0 ≡ true = eq-eqb k 0 e in let g : true ≡ false = sym f ∙ h in let z : ⊥ = cc in absurd z
one_chosen m s k (x ∷ es) e h = refl

-- a window that a member may promise is one that a leader takes in
pub window_taken : (n : ℕ) (w : Window) → IsWindow n w → IsWindowTaken w
window_taken n w h = record { least = h.least; most = h.most; entries = votes_between n w.ballot w.from w.covered w.entries h.votes }

-- pairs that rise from a position on are above the one before
pub are_above : (p l : ℕ) (es : List Pair) → p < l → ArePairs l es → AreAbove p es
are_above p l [] h a = tt
are_above p l (e ∷ es) h a = (let b = a.0 in omega (arith, h, b), are_above e.position (suc e.position) es (omega arith) a.2)

-- and all are positions
pub are_most : (l : ℕ) (es : List Pair) → ArePairs l es → All (λ (e : Pair). e.position ≤ positions) es
are_most l es a = λ k d h. each l es a k d h
  where
    each : (l : ℕ) (es : List Pair) → ArePairs l es → (k : ℕ) (d : Pair) → k < length es → (get_or es k d).position ≤ positions
    each l [] a k d h = absurd (omega (arith, h))
    each l (e ∷ es) a zero d h = a.1
    each l (e ∷ es) a (suc k) d h = each (suc e.position) es a.2 k d (omega (arith, h))

-- Where only memory is refused, nothing is spent.
pub not_spent : (r : Result Draft MemberFault) → IfErr r (λ fault. fault ≡ Memory) → (b : Bool) → b ≡ true → IsErrOf r Spent ↔ (b ≡ false)
not_spent (Ok x) h b is = (λ e. let f : ⊥ = cc in absurd f, λ e. let f : ⊥ = cc in absurd f)
not_spent (Err e) h b is = (λ g. let f : ⊥ = cc in absurd f, λ g. let f : ⊥ = cc in absurd f)
