-- Three members: one begins, a request is submitted, and all is delivered.
use Rattle.std.proofs.Common.{is_none, arith, ◌≡◌, ℕ, cond, true, false, refl, ap, ◌∙◌, List, [], ◌∷◌, ◌++◌, map, length, Option, Some, None, inr}
use Rattle.ballots.specs.Ballot.{last_round}
use Rattle.ballots.specs.declared.ballot.Ballot.{Ballot}
use Rattle.ballots.specs.Messages.{packet, Submit, up_to}
use Rattle.ballots.specs.Values.{positions}
use Rattle.ballots.specs.declared.value.Value.TheVariants.{Request as Of}
use Rattle.ballots.specs.declared.value.Pair.{Pair}
use Rattle.paxos.specs.Knowledge.{pair_of}
use Rattle.paxos.specs.Proposing.{Turn, proposes, turn}
use Rattle.paxos.specs.Step.{says, Leader, leading, turn_of, cover_heard, report_heard, is_learnt_heard}
use Rattle.paxos.specs.World.{told_to, cast_by, World, start, Event, Deliver, Begin, Keep, Submits, StopInKeep, Stop, Start, after, settles, happens, run}
use Rattle.paxos.specs.Examples.{silent, smoothly, deliveries, request, ballot, straight, after_straight, applied_in}
use Rattle.paxos.proofs.Quick.{EndsAt, goes_quickly, turns_quickly}
use Rattle.paxos.proofs.Playing.{ample, member_at, hearing, leads_on, step, several, member_with, prepare, promise, accept, accepted, entry}

-- what member 1 leads
abbrev pub lead : ℕ → List Pair → Leader
lead next proposals = record { ballot = ballot 1 1; base = 0; next = next; proposals = proposals }

-- before the second promise is heard
abbrev w5 : World
w5 = run silent (start 3) (smoothly (Begin 1 ∷ deliveries 1 4))

-- after it
abbrev w6 : World
w6 = leads_on 3 1 w5 (hearing w5 1 5) (lead 1 []) [] (turn_of (lead 1 []))

-- nothing is known then
ends5 : EndsAt 3 (hearing w5 1 5).heard (lead 1 []) 0
unfolding positions last_round
ends5 = record { windows_end = (tt, (tt, tt)); news_end = tt; known = λ h. absurd (omega arith); most = omega arith }

-- its delivery
e5 : happens silent w5 ample (Deliver 5) ≡ w6
unfolding positions last_round
e5 = ap (leads_on 3 1 w5 (hearing w5 1 5) (lead 1 []) []) (goes_quickly 3 (hearing w5 1 5).heard (lead 1 []) 0 1 (turn_of (lead 1 [])) ends5 (omega arith) refl)

-- after the third
abbrev w7 : World
w7 = leads_on 3 1 w6 (hearing w6 1 6) (lead 1 []) [] (turn_of (lead 1 []))

ends6 : EndsAt 3 (hearing w6 1 6).heard (lead 1 []) 0
unfolding positions last_round
ends6 = record { windows_end = (tt, (tt, (tt, tt))); news_end = tt; known = λ h. absurd (omega arith); most = omega arith }

-- its delivery
e6 : happens silent w6 ample (Deliver 6) ≡ w7
unfolding positions last_round
e6 = ap (leads_on 3 1 w6 (hearing w6 1 6) (lead 1 []) []) (goes_quickly 3 (hearing w6 1 6).heard (lead 1 []) 0 1 (turn_of (lead 1 [])) ends6 (omega arith) refl)

-- with the request submitted
abbrev w8 : World
w8 = happens silent w7 ample (Submits 1 request)

-- a leader with place proposes the request
abbrev submitted : Option Turn → World
submitted o = after w8 1 (member_at w8 1).kept (settles 3 ample (cond (is_none o) (leading 3 1 (hearing w8 1 7) (lead 1 []) (proposes (Of request) (turn_of (lead 1 []))) [] []) (says (hearing w8 1 7) [])))

-- after it
abbrev pub w9 : World
w9 = submitted None

ends7 : EndsAt 3 (hearing w8 1 7).heard (lead 1 []) 0
unfolding positions last_round
ends7 = record { windows_end = (tt, (tt, (tt, tt))); news_end = tt; known = λ h. absurd (omega arith); most = omega arith }

-- its delivery, up to the test of a free place
by7 : happens silent w8 ample (Deliver 7) ≡ submitted (turn 3 (cover_heard (hearing w8 1 7).heard (lead 1 [])) (report_heard (hearing w8 1 7).heard (lead 1 [])) (is_learnt_heard 3 (hearing w8 1 7).heard) (turn_of (lead 1 [])))
unfolding positions last_round
by7 = refl

-- there is a free place
turn7 : turn 3 (cover_heard (hearing w8 1 7).heard (lead 1 [])) (report_heard (hearing w8 1 7).heard (lead 1 [])) (is_learnt_heard 3 (hearing w8 1 7).heard) (turn_of (lead 1 [])) ≡ None
unfolding positions last_round
turn7 = turns_quickly 3 (hearing w8 1 7).heard (lead 1 []) 0 ends7

-- its delivery
e7 : happens silent w8 ample (Deliver 7) ≡ w9
e7 = by7 ∙ ap submitted turn7

-- up to here
pub proposed : run silent (start 3) (smoothly (Begin 1 ∷ deliveries 1 6 ++ Submits 1 request ∷ Deliver 7 ∷ [])) ≡ w9
proposed = several (start 3) w5 w9 (Begin 1 ∷ deliveries 1 4) (Deliver 5 ∷ Deliver 6 ∷ Submits 1 request ∷ Deliver 7 ∷ []) refl
    (step w5 w6 w9 (Deliver 5) (Deliver 6 ∷ Submits 1 request ∷ Deliver 7 ∷ []) e5
    (step w6 w7 w9 (Deliver 6) (Submits 1 request ∷ Deliver 7 ∷ []) e6
    (step w7 w8 w9 (Submits 1 request) (Deliver 7 ∷ []) refl
    (step w8 w9 w9 (Deliver 7) [] e7 refl))))

-- the ballot of the run
abbrev b1 : Ballot
b1 = ballot 1 1

-- each member has voted, and has heard that member 1 did
abbrev w14 : World
w14 = record {
  members = member_with b1 (entry b1 ∷ []) (accepted b1 1 1 ∷ accept b1 1 ∷ packet 0 (Submit request) 1 ∷ promise b1 [] 3 ∷ promise b1 [] 2 ∷ promise b1 [] 1 ∷ prepare b1 1 ∷ []) (Some (lead 2 (pair_of 1 (Of request) ∷ [])))
      ∷ member_with b1 (entry b1 ∷ []) (accepted b1 1 2 ∷ accept b1 2 ∷ prepare b1 2 ∷ []) None ∷ member_with b1 (entry b1 ∷ []) (accepted b1 1 3 ∷ accept b1 3 ∷ prepare b1 3 ∷ []) None ∷ [];
  sent = map (prepare b1) (up_to 3) ++ map (promise b1 []) (up_to 3) ++ packet 0 (Submit request) 1 ∷ map (accept b1) (up_to 3) ++ map (accepted b1 1) (up_to 3) ++ map (accepted b1 2) (up_to 3) ++ map (accepted b1 3) (up_to 3);
  votes = map (λ m. cast_by m (entry b1)) (up_to 3);
  told = [];
}

-- the votes are made
by13 : run silent w9 (smoothly (deliveries 8 6)) ≡ w14
unfolding positions last_round
by13 = refl

-- after it heard that member 2 did
abbrev w15 : World
w15 = leads_on 3 1 w14 (hearing w14 1 14) (lead 2 []) (pair_of 1 (Of request) ∷ []) (turn_of (lead 2 []))

ends14 : EndsAt 3 (hearing w14 1 14).heard (lead 2 []) 1
unfolding positions last_round
ends14 = record { windows_end = (tt, (tt, (tt, tt))); news_end = (omega arith, (omega arith, tt)); known = λ h. inr refl; most = omega arith }

-- its delivery
e14 : happens silent w14 ample (Deliver 14) ≡ w15
unfolding positions last_round
e14 = ap (leads_on 3 1 w14 (hearing w14 1 14) (lead 2 []) (pair_of 1 (Of request) ∷ [])) (goes_quickly 3 (hearing w14 1 14).heard (lead 2 []) 1 1 (turn_of (lead 2 [])) ends14 (omega arith) refl)

-- after all deliveries
abbrev end : World
end = run silent w15 (smoothly (deliveries 15 5))

-- the whole run
whole : straight 3 ≡ end
unfolding straight
whole = several (start 3) w9 end (Begin 1 ∷ deliveries 1 6 ++ Submits 1 request ∷ Deliver 7 ∷ []) (deliveries 8 12) proposed
    (several w9 w14 end (deliveries 8 6) (deliveries 14 6) by13
    (step w14 w15 end (Deliver 14) (deliveries 15 5) e14 refl))

told : end.told ≡ told_to 1 (pair_of 1 (Of request)) ∷ told_to 2 (pair_of 1 (Of request)) ∷ told_to 3 (pair_of 1 (Of request)) ∷ []
unfolding positions last_round
told = refl

sent : length end.sent ≡ 19
unfolding positions last_round
sent = refl

all_applied : applied_in end ≡ Some 1 ∷ Some 1 ∷ Some 1 ∷ []
unfolding positions last_round
all_applied = refl

-- what was told in the whole run
pub straight_told : (straight 3).told ≡ told_to 1 (pair_of 1 (Of request)) ∷ told_to 2 (pair_of 1 (Of request)) ∷ told_to 3 (pair_of 1 (Of request)) ∷ []
straight_told = ap (λ (w : World). w.told) whole ∙ told

-- how much was sent
pub straight_sent : length (straight 3).sent ≡ 19
straight_sent = ap (λ (w : World). length w.sent) whole ∙ sent

-- what is applied after it
pub straight_applied : applied_in (straight 3) ≡ Some 1 ∷ Some 1 ∷ Some 1 ∷ []
straight_applied = ap applied_in whole ∙ all_applied

-- what follows the whole run
follows : (events : List Event) → after_straight events ≡ run silent end (smoothly events)
unfolding after_straight
follows events = ap (λ (w : World). run silent w (smoothly events)) whole

kept : applied_in (run silent end (smoothly (Keep 3 ∷ Stop 3 ∷ Start 3 ∷ []))) ≡ Some 1 ∷ Some 1 ∷ Some 1 ∷ []
unfolding positions last_round
kept = refl

not_kept : applied_in (run silent end (smoothly (Stop 3 ∷ Start 3 ∷ []))) ≡ Some 1 ∷ Some 1 ∷ Some 0 ∷ []
unfolding positions last_round
not_kept = refl

cut_kept : applied_in (run silent end (smoothly (StopInKeep 3 true ∷ Start 3 ∷ []))) ≡ Some 1 ∷ Some 1 ∷ Some 1 ∷ []
unfolding positions last_round
cut_kept = refl

cut_lost : applied_in (run silent end (smoothly (StopInKeep 3 false ∷ Start 3 ∷ []))) ≡ Some 1 ∷ Some 1 ∷ Some 0 ∷ []
unfolding positions last_round
cut_lost = refl

sent_still : length (run silent end (smoothly (Keep 3 ∷ Stop 3 ∷ Start 3 ∷ []))).sent ≡ 19
unfolding positions last_round
sent_still = refl

told_still : (run silent end (smoothly (Keep 3 ∷ Stop 3 ∷ Start 3 ∷ []))).told ≡ told_to 1 (pair_of 1 (Of request)) ∷ told_to 2 (pair_of 1 (Of request)) ∷ told_to 3 (pair_of 1 (Of request)) ∷ []
unfolding positions last_round
told_still = refl

-- a start with what was kept applies it, says nothing and is told nothing
pub keep_applied : applied_in (after_straight (Keep 3 ∷ Stop 3 ∷ Start 3 ∷ [])) ≡ Some 1 ∷ Some 1 ∷ Some 1 ∷ []
keep_applied = ap applied_in (follows (Keep 3 ∷ Stop 3 ∷ Start 3 ∷ [])) ∙ kept

pub keep_sent : length (after_straight (Keep 3 ∷ Stop 3 ∷ Start 3 ∷ [])).sent ≡ 19
keep_sent = ap (λ (w : World). length w.sent) (follows (Keep 3 ∷ Stop 3 ∷ Start 3 ∷ [])) ∙ sent_still

pub keep_told : (after_straight (Keep 3 ∷ Stop 3 ∷ Start 3 ∷ [])).told ≡ told_to 1 (pair_of 1 (Of request)) ∷ told_to 2 (pair_of 1 (Of request)) ∷ told_to 3 (pair_of 1 (Of request)) ∷ []
keep_told = ap (λ (w : World). w.told) (follows (Keep 3 ∷ Stop 3 ∷ Start 3 ∷ [])) ∙ told_still

-- one without applies nothing
pub start_applied : applied_in (after_straight (Stop 3 ∷ Start 3 ∷ [])) ≡ Some 1 ∷ Some 1 ∷ Some 0 ∷ []
start_applied = ap applied_in (follows (Stop 3 ∷ Start 3 ∷ [])) ∙ not_kept

-- so after a stop inside the write, as it left the record
pub cut_kept_applied : applied_in (after_straight (StopInKeep 3 true ∷ Start 3 ∷ [])) ≡ Some 1 ∷ Some 1 ∷ Some 1 ∷ []
cut_kept_applied = ap applied_in (follows (StopInKeep 3 true ∷ Start 3 ∷ [])) ∙ cut_kept

pub cut_lost_applied : applied_in (after_straight (StopInKeep 3 false ∷ Start 3 ∷ [])) ≡ Some 1 ∷ Some 1 ∷ Some 0 ∷ []
cut_lost_applied = ap applied_in (follows (StopInKeep 3 false ∷ Start 3 ∷ [])) ∙ cut_lost
