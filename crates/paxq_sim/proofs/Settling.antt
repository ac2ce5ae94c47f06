-- An event with all applied then, whatever it left open of that.
use Rattle.std.proofs.Common.{◌≡◌, ℕ, zero, suc, refl, sym, ap, ap₂, ◌∙◌, Bool, true, false, Option, Some, None, List, [], ◌∷◌, length, map, option_map, slice_set}
use Rattle.std.specs.Prelude.{if◌then◌else◌}
use Rattle.std.proofs.lemmas.Option.{none-some}
use Rattle.ballots.specs.Messages.{Packet}
use Rattle.paxos.specs.Application.{Application}
use Rattle.paxos.specs.Knowledge.{news, prefix}
use Rattle.paxos.specs.Lists.{at, put}
use Rattle.paxos.specs.Records.{Record, written}
use Rattle.paxos.specs.Step.{Running, Effect, quiet, on_message, may_begin, begins, on_keep, on_resend, on_catch_up_tick, resumed}
use Rattle.paxos.specs.World.{
  World,
  Member,
  Event,
  Choice,
  Deliver,
  Begin,
  Resend,
  CatchUp,
  Keep,
  Submits,
  Asks,
  StopInDeliver,
  StopInBegin,
  StopInKeep,
  Stop,
  Start,
  after,
  acts,
  applies,
  applies_to,
  delivers,
  happens,
  may_fail,
  restarts,
  runs,
  settles,
  starts,
  takes,
}
use Rattle.paxq_sim.specs.Play.{all_applied, member_with_all, with_all}

module _ (n : ℕ) where
  -- what was applied before does not matter
  once : (k : ℕ) (o : Option Running) → option_map (with_all n) (option_map (applies_to n k) o) ≡ option_map (with_all n) o
  once k None = refl
  once k (Some u) = refl

  -- where all has applied all, nothing changes
  same_running : (o : Option Running) → ((u : Running) → o ≡ Some u → u.applied ≡ prefix n (news u.heard)) → option_map (with_all n) o ≡ o
  same_running None h = refl
  same_running (Some u) h = ap (λ k. Some (record { heard = u.heard; leader = u.leader; applied = k })) (sym (h u refl))

  same_members : (xs : List Member) → ((m : ℕ) (x : Member) (u : Running) → at xs m ≡ Some x → x.running ≡ Some u → u.applied ≡ prefix n (news u.heard)) → map (member_with_all n) xs ≡ xs
  same_members [] h = refl
  same_members (x ∷ xs) h = ap₂ (λ y ys. y ∷ ys)
      (ap (λ o. record { kept = x.kept; running = o }) (same_running x.running (λ u q. h (suc zero) x u refl q)))
      (same_members xs later)
    where
      later : (m : ℕ) (y : Member) (u : Running) → at xs m ≡ Some y → y.running ≡ Some u → u.applied ≡ prefix n (news u.heard)
      later zero y u q r = absurd (none-some y q)
      later (suc i) y u q r = h (suc (suc i)) y u q r

  pub settled : (z : World) → ((m : ℕ) (x : Member) (u : Running) → at z.members m ≡ Some x → x.running ≡ Some u → u.applied ≡ prefix n (news u.heard)) → all_applied n z ≡ z
  settled z h = ap (λ ms. record { members = ms; sent = z.sent; votes = z.votes; told = z.told }) (same_members z.members h)

  -- a member is put, and then all is applied
  same_set : (xs : List Member) (i : ℕ) (x y : Member) → member_with_all n x ≡ member_with_all n y → map (member_with_all n) (slice_set xs i x) ≡ map (member_with_all n) (slice_set xs i y)
  same_set [] i x y h = refl
  same_set (z ∷ zs) zero x y h = ap (λ t. t ∷ map (member_with_all n) zs) h
  same_set (z ∷ zs) (suc i) x y h = ap (λ ts. member_with_all n z ∷ ts) (same_set zs i x y h)

  same_put : (xs : List Member) (m : ℕ) (x y : Member) → member_with_all n x ≡ member_with_all n y → map (member_with_all n) (put xs m x) ≡ map (member_with_all n) (put xs m y)
  same_put xs zero x y h = refl
  same_put xs (suc i) x y h = same_set xs i x y h

  module _ (w : World) (m : ℕ) where
    -- a step, however much is applied in it
    same_step : (r : Record) (e : Effect) (j k : ℕ) → all_applied n (after w m r (applies n j e)) ≡ all_applied n (after w m r (applies n k e))
    same_step r e j k = ap (λ ms. record { members = ms; sent = (after w m r e).sent; votes = (after w m r e).votes; told = (after w m r e).told })
        (same_put w.members m (record { kept = written e.write r; running = option_map (applies_to n j) e.running }) (record { kept = written e.write r; running = option_map (applies_to n k) e.running })
        (ap (λ o. record { kept = written e.write r; running = o }) (once j e.running ∙ sym (once k e.running))))

    -- so for who takes it
    same_acts : (one other : Record → Running → Effect) → ((r : Record) (u : Running) → all_applied n (after w m r (one r u)) ≡ all_applied n (after w m r (other r u))) → all_applied n (acts w m one) ≡ all_applied n (acts w m other)
    same_acts one other h = taking (at w.members m)
      where
        running : (r : Record) (o : Option Running) → all_applied n (runs w m r one o) ≡ all_applied n (runs w m r other o)
        running r None = refl
        running r (Some u) = h r u

        taking : (o : Option Member) → all_applied n (takes w m one o) ≡ all_applied n (takes w m other o)
        taking None = refl
        taking (Some x) = running x.kept x.running

-- An event, however much is applied in it.
module _ (app : Application) (w : World) (fails : Option Bool) (j k : ℕ) where
  abbrev n : ℕ
  n = length w.members

  abbrev with : ℕ → Choice
  with i = record { fails = fails; applied = i }

  delivering : (o : Option Packet) → all_applied n (delivers app w (settles n (with j)) o) ≡ all_applied n (delivers app w (settles n (with k)) o)
  delivering None = refl
  delivering (Some p) = same_acts n w p.target _ _ (λ r u. same_step n w p.target r (may_fail fails (on_message app n p.target p r u)) j k)

  beginning : (m : ℕ) (r : Record) (u : Running) (b : Bool)
      → all_applied n (after w m r (if b then settles n (with j) (begins n m r u) else quiet u)) ≡ all_applied n (after w m r (if b then settles n (with k) (begins n m r u) else quiet u))
  beginning m r u true = same_step n w m r (may_fail fails (begins n m r u)) j k
  beginning m r u false = refl

  restarting : (m : ℕ) (r : Record) (f : Option Bool) (o : Option Running) → all_applied n (restarts w f j m r o) ≡ all_applied n (restarts w f k m r o)
  restarting m r f (Some u) = refl
  restarting m r (Some kept) None = refl
  restarting m r None None = same_step n w m r (quiet (resumed m r)) j k

  starting : (m : ℕ) (o : Option Member) → all_applied n (starts w (with j) m o) ≡ all_applied n (starts w (with k) m o)
  starting m None = refl
  starting m (Some x) = restarting m x.kept fails x.running

  pub same_event : (e : Event) → all_applied n (happens app w (with j) e) ≡ all_applied n (happens app w (with k) e)
  same_event (Deliver i) = delivering (at w.sent i)
  same_event (Begin m) = same_acts n w m _ _ (λ r u. beginning m r u (may_begin n r u))
  same_event (Resend m) = same_acts n w m _ _ (λ r u. same_step n w m r (may_fail fails (on_resend n m u)) j k)
  same_event (CatchUp m) = same_acts n w m _ _ (λ r u. same_step n w m r (may_fail fails (on_catch_up_tick n m u)) j k)
  same_event (Keep m) = same_acts n w m _ _ (λ r u. same_step n w m r (may_fail fails (on_keep n r u)) j k)
  same_event (Submits m q) = refl
  same_event (Asks m q) = refl
  same_event (StopInDeliver i kept) = refl
  same_event (StopInBegin m kept) = refl
  same_event (StopInKeep m kept) = refl
  same_event (Stop m) = refl
  same_event (Start m) = starting m (at w.members m)
