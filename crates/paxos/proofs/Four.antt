-- Four members: one begins, a request is submitted, and all is delivered.
use Rattle.std.proofs.Common.{is_none, arith, ◌≡◌, ℕ, cond, refl, ap, ◌∙◌, List, [], ◌∷◌, ◌++◌, map, length, Option, Some, None, inr}
use Rattle.ballots.specs.Ballot.{last_round}
use Rattle.ballots.specs.Values.{positions}
use Rattle.ballots.specs.declared.ballot.Ballot.{Ballot}
use Rattle.ballots.specs.Messages.{Packet, packet, Submit, up_to}
use Rattle.ballots.specs.declared.value.Value.TheVariants.{Request as Of}
use Rattle.paxos.specs.Knowledge.{pair_of}
use Rattle.paxos.specs.Proposing.{Turn, proposes, turn}
use Rattle.paxos.specs.Step.{says, leading, turn_of, cover_heard, report_heard, is_learnt_heard}
use Rattle.paxos.specs.World.{told_to, cast_by, World, start, Deliver, Begin, Submits, after, settles, happens, run}
use Rattle.paxos.specs.Examples.{silent, smoothly, deliveries, request, ballot, straight, applied_in}
use Rattle.paxos.proofs.Quick.{EndsAt, goes_quickly, turns_quickly}
use Rattle.paxos.proofs.Straight.{lead}
use Rattle.paxos.proofs.Playing.{ample, member_at, hearing, leads_on, step, several, member_with, prepare, promise, accept, accepted, entry}

-- before the third promise is heard
abbrev w7 : World
w7 = run silent (start 4) (smoothly (Begin 1 ∷ deliveries 1 6))

-- after it
abbrev w8 : World
w8 = leads_on 4 1 w7 (hearing w7 1 7) (lead 1 []) [] (turn_of (lead 1 []))

-- nothing is known then
ends7 : EndsAt 4 (hearing w7 1 7).heard (lead 1 []) 0
unfolding positions last_round
ends7 = record { windows_end = (tt, (tt, (tt, tt))); news_end = tt; known = λ h. absurd (omega arith); most = omega arith }

-- its delivery
e7 : happens silent w7 ample (Deliver 7) ≡ w8
unfolding positions last_round
e7 = ap (leads_on 4 1 w7 (hearing w7 1 7) (lead 1 []) []) (goes_quickly 4 (hearing w7 1 7).heard (lead 1 []) 0 1 (turn_of (lead 1 [])) ends7 (omega arith) refl)

-- the ballot of the run
abbrev b1 : Ballot
b1 = ballot 1 1

-- after the fourth
abbrev w9 : World
w9 = record {
  members = member_with b1 [] (promise b1 [] 4 ∷ promise b1 [] 3 ∷ promise b1 [] 2 ∷ promise b1 [] 1 ∷ prepare b1 1 ∷ []) (Some (lead 1 []))
      ∷ member_with b1 [] (prepare b1 2 ∷ []) None ∷ member_with b1 [] (prepare b1 3 ∷ []) None ∷ member_with b1 [] (prepare b1 4 ∷ []) None ∷ [];
  sent = map (prepare b1) (up_to 4) ++ map (promise b1 []) (up_to 4);
  votes = [];
  told = [];
}

ends8 : EndsAt 4 (hearing w8 1 8).heard (lead 1 []) 0
unfolding positions last_round
ends8 = record { windows_end = (tt, (tt, (tt, (tt, tt)))); news_end = tt; known = λ h. absurd (omega arith); most = omega arith }

-- its delivery
e8 : happens silent w8 ample (Deliver 8) ≡ w9
unfolding positions last_round
e8 = ap (leads_on 4 1 w8 (hearing w8 1 8) (lead 1 []) []) (goes_quickly 4 (hearing w8 1 8).heard (lead 1 []) 0 1 (turn_of (lead 1 [])) ends8 (omega arith) refl)

-- with the request submitted
abbrev w10 : World
w10 = happens silent w9 ample (Submits 1 request)

-- a leader with place proposes the request
abbrev submitted : Option Turn → World
submitted o = after w10 1 (member_at w10 1).kept (settles 4 ample (cond (is_none o) (leading 4 1 (hearing w10 1 9) (lead 1 []) (proposes (Of request) (turn_of (lead 1 []))) [] []) (says (hearing w10 1 9) [])))

-- after it
abbrev w11 : World
w11 = submitted None

ends9 : EndsAt 4 (hearing w10 1 9).heard (lead 1 []) 0
unfolding positions last_round
ends9 = record { windows_end = (tt, (tt, (tt, (tt, tt)))); news_end = tt; known = λ h. absurd (omega arith); most = omega arith }

-- its delivery, up to the test of a free place
by9 : happens silent w10 ample (Deliver 9) ≡ submitted (turn 4 (cover_heard (hearing w10 1 9).heard (lead 1 [])) (report_heard (hearing w10 1 9).heard (lead 1 [])) (is_learnt_heard 4 (hearing w10 1 9).heard) (turn_of (lead 1 [])))
unfolding positions last_round
by9 = refl

-- there is a free place
turn9 : turn 4 (cover_heard (hearing w10 1 9).heard (lead 1 [])) (report_heard (hearing w10 1 9).heard (lead 1 [])) (is_learnt_heard 4 (hearing w10 1 9).heard) (turn_of (lead 1 [])) ≡ None
unfolding positions last_round
turn9 = turns_quickly 4 (hearing w10 1 9).heard (lead 1 []) 0 ends9

-- its delivery
e9 : happens silent w10 ample (Deliver 9) ≡ w11
e9 = by9 ∙ ap submitted turn9

-- what a member that has voted has heard, but member 1
abbrev heard_at : ℕ → List Packet
heard_at k = accepted b1 2 k ∷ accepted b1 1 k ∷ accept b1 k ∷ prepare b1 k ∷ []

-- each member has voted, and has heard that members 1 and 2 did
abbrev w22 : World
w22 = record {
  members = member_with b1 (entry b1 ∷ []) (accepted b1 2 1 ∷ accepted b1 1 1 ∷ accept b1 1 ∷ packet 0 (Submit request) 1 ∷ promise b1 [] 4 ∷ promise b1 [] 3 ∷ promise b1 [] 2 ∷ promise b1 [] 1 ∷ prepare b1 1 ∷ []) (Some (lead 2 (pair_of 1 (Of request) ∷ [])))
      ∷ map (λ k. member_with b1 (entry b1 ∷ []) (heard_at k) None) (2 ∷ 3 ∷ 4 ∷ []);
  sent = map (prepare b1) (up_to 4) ++ map (promise b1 []) (up_to 4) ++ packet 0 (Submit request) 1 ∷ map (accept b1) (up_to 4)
      ++ map (accepted b1 1) (up_to 4) ++ map (accepted b1 2) (up_to 4) ++ map (accepted b1 3) (up_to 4) ++ map (accepted b1 4) (up_to 4);
  votes = map (λ m. cast_by m (entry b1)) (up_to 4);
  told = [];
}

-- the votes are made
by21 : run silent w11 (smoothly (deliveries 10 12)) ≡ w22
unfolding positions last_round
by21 = refl

-- after it heard that a third did
abbrev w23 : World
w23 = leads_on 4 1 w22 (hearing w22 1 22) (lead 2 []) (pair_of 1 (Of request) ∷ []) (turn_of (lead 2 []))

ends22 : EndsAt 4 (hearing w22 1 22).heard (lead 2 []) 1
unfolding positions last_round
ends22 = record { windows_end = (tt, (tt, (tt, (tt, tt)))); news_end = (omega arith, (omega arith, (omega arith, tt))); known = λ h. inr refl; most = omega arith }

-- its delivery
e22 : happens silent w22 ample (Deliver 22) ≡ w23
unfolding positions last_round
e22 = ap (leads_on 4 1 w22 (hearing w22 1 22) (lead 2 []) (pair_of 1 (Of request) ∷ [])) (goes_quickly 4 (hearing w22 1 22).heard (lead 2 []) 1 1 (turn_of (lead 2 [])) ends22 (omega arith) refl)

-- after all deliveries
abbrev end : World
end = run silent w23 (smoothly (deliveries 23 7))

-- the whole run
whole : straight 4 ≡ end
unfolding straight
whole = several (start 4) w7 end (Begin 1 ∷ deliveries 1 6) (Deliver 7 ∷ Deliver 8 ∷ Submits 1 request ∷ Deliver 9 ∷ deliveries 10 20) refl
    (step w7 w8 end (Deliver 7) (Deliver 8 ∷ Submits 1 request ∷ Deliver 9 ∷ deliveries 10 20) e7
    (step w8 w9 end (Deliver 8) (Submits 1 request ∷ Deliver 9 ∷ deliveries 10 20) e8
    (step w9 w10 end (Submits 1 request) (Deliver 9 ∷ deliveries 10 20) refl
    (step w10 w11 end (Deliver 9) (deliveries 10 20) e9
    (several w11 w22 end (deliveries 10 12) (deliveries 22 8) by21
    (step w22 w23 end (Deliver 22) (deliveries 23 7) e22 refl))))))

told : end.told ≡ told_to 1 (pair_of 1 (Of request)) ∷ told_to 2 (pair_of 1 (Of request)) ∷ told_to 3 (pair_of 1 (Of request)) ∷ told_to 4 (pair_of 1 (Of request)) ∷ []
unfolding positions last_round
told = refl

sent : length end.sent ≡ 29
unfolding positions last_round
sent = refl

all_applied : applied_in end ≡ Some 1 ∷ Some 1 ∷ Some 1 ∷ Some 1 ∷ []
unfolding positions last_round
all_applied = refl

-- what was told in the whole run
pub four_told : (straight 4).told ≡ told_to 1 (pair_of 1 (Of request)) ∷ told_to 2 (pair_of 1 (Of request)) ∷ told_to 3 (pair_of 1 (Of request)) ∷ told_to 4 (pair_of 1 (Of request)) ∷ []
four_told = ap (λ (w : World). w.told) whole ∙ told

-- how much was sent
pub four_sent : length (straight 4).sent ≡ 29
four_sent = ap (λ (w : World). length w.sent) whole ∙ sent

-- what is applied after it
pub four_applied : applied_in (straight 4) ≡ Some 1 ∷ Some 1 ∷ Some 1 ∷ Some 1 ∷ []
four_applied = ap applied_in whole ∙ all_applied
