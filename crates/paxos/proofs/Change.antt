-- The leader change, and the gap that a new leader fills.
use Rattle.std.proofs.Common.{arith, ◌≡◌, refl, ap, ◌∙◌, List, [], ◌∷◌, ◌++◌, map, Some, None, inl, inr}
use Rattle.ballots.specs.Ballot.{last_round}
use Rattle.ballots.specs.declared.ballot.Ballot.{Ballot}
use Rattle.ballots.specs.Messages.{Packet, packet, Submit, up_to}
use Rattle.ballots.specs.Values.{positions}
use Rattle.ballots.specs.declared.value.Value.TheVariants.{Request as Of}
use Rattle.paxos.specs.Knowledge.{pair_of}
use Rattle.paxos.specs.Proposing.{Turn}
use Rattle.paxos.specs.Step.{Leader, goes_on, turn_of}
use Rattle.paxos.specs.World.{told_to, cast_by, World, start, Deliver, Begin, Submits, Stop, happens, run}
use Rattle.paxos.specs.Examples.{silent, smoothly, deliveries, request, ballot, leader_change, gap_heard, gap_leader, gap_proposed}
use Rattle.paxos.proofs.Quick.{EndsAt, goes_quickly}
use Rattle.paxos.proofs.Straight.{w9, proposed}
use Rattle.paxos.proofs.Playing.{ample, hearing, leads_on, step, several, member_with, stopped_with, prepare, promise, accept, accepted, entry}

-- what member 2 leads
abbrev lead2 : Leader
lead2 = record { ballot = ballot 2 2; base = 0; next = 1; proposals = [] }

-- the two ballots
abbrev b1 : Ballot
b1 = ballot 1 1

abbrev b2 : Ballot
b2 = ballot 2 2

-- all messages until the second leader knows of the request
abbrev sent18 : List Packet
sent18 = map (prepare b1) (up_to 3) ++ map (promise b1 []) (up_to 3) ++ packet 0 (Submit request) 1 ∷ map (accept b1) (up_to 3)
    ++ map (accepted b1 3) (up_to 3) ++ map (prepare b2) (up_to 3) ++ promise b2 [] 2 ∷ promise b2 (entry b1 ∷ []) 3 ∷ []

-- before member 3's promise is heard
abbrev w18 : World
w18 = record {
  members = stopped_with b1 [] ∷ member_with b2 [] (promise b2 [] 2 ∷ prepare b2 2 ∷ prepare b1 2 ∷ []) (Some lead2) ∷ member_with b2 (entry b1 ∷ []) (prepare b2 3 ∷ accept b1 3 ∷ prepare b1 3 ∷ []) None ∷ [];
  sent = sent18;
  votes = cast_by 3 (entry b1) ∷ [];
  told = [];
}

by17 : run silent w9 (smoothly (Deliver 10 ∷ Stop 1 ∷ Begin 2 ∷ Deliver 15 ∷ Deliver 16 ∷ Deliver 17 ∷ [])) ≡ w18
unfolding positions last_round
by17 = refl

-- the reported request is proposed
abbrev turned : Turn
turned = record { next = 2; proposals = pair_of 1 (Of request) ∷ []; made = pair_of 1 (Of request) ∷ [] }

abbrev w19 : World
w19 = leads_on 3 2 w18 (hearing w18 2 18) lead2 [] turned

ends18 : EndsAt 3 (hearing w18 2 18).heard lead2 1
unfolding positions last_round
ends18 = record { windows_end = ((omega arith, tt), (tt, tt)); news_end = tt; known = λ h. inl refl; most = omega arith }

e18 : happens silent w18 ample (Deliver 18) ≡ w19
unfolding positions last_round
e18 = ap (leads_on 3 2 w18 (hearing w18 2 18) lead2 []) (goes_quickly 3 (hearing w18 2 18).heard lead2 1 2 turned ends18 (omega arith) refl)

-- before member 2 hears that member 3 accepted
abbrev w26 : World
w26 = record {
  members = stopped_with b1 []
      ∷ member_with b2 (entry b2 ∷ []) (accepted b2 2 2 ∷ accept b2 2 ∷ promise b2 (entry b1 ∷ []) 3 ∷ promise b2 [] 2 ∷ prepare b2 2 ∷ prepare b1 2 ∷ []) (Some (record { ballot = b2; base = 0; next = 2; proposals = pair_of 1 (Of request) ∷ [] }))
      ∷ member_with b2 (entry b2 ∷ []) (accept b2 3 ∷ prepare b2 3 ∷ accept b1 3 ∷ prepare b1 3 ∷ []) None ∷ [];
  sent = sent18 ++ map (accept b2) (up_to 3) ++ map (accepted b2 2) (up_to 3) ++ map (accepted b2 3) (up_to 3);
  votes = cast_by 3 (entry b1) ∷ cast_by 2 (entry b2) ∷ cast_by 3 (entry b2) ∷ [];
  told = [];
}

by23 : run silent w19 (smoothly (Deliver 20 ∷ Deliver 21 ∷ Deliver 23 ∷ [])) ≡ w26
unfolding positions last_round
by23 = refl

abbrev closed : Leader
closed = record { ballot = ballot 2 2; base = 0; next = 2; proposals = [] }

abbrev w27 : World
w27 = leads_on 3 2 w26 (hearing w26 2 26) closed (pair_of 1 (Of request) ∷ []) (turn_of closed)

ends26 : EndsAt 3 (hearing w26 2 26).heard closed 1
unfolding positions last_round
ends26 = record { windows_end = ((omega arith, tt), (tt, tt)); news_end = (omega arith, (omega arith, tt)); known = λ h. inr refl; most = omega arith }

e26 : happens silent w26 ample (Deliver 26) ≡ w27
unfolding positions last_round
e26 = ap (leads_on 3 2 w26 (hearing w26 2 26) closed (pair_of 1 (Of request) ∷ [])) (goes_quickly 3 (hearing w26 2 26).heard closed 1 1 (turn_of closed) ends26 (omega arith) refl)

abbrev end : World
end = run silent w27 (smoothly (Deliver 24 ∷ Deliver 27 ∷ []))

whole : leader_change ≡ end
unfolding leader_change
whole = several (start 3) w9 end (Begin 1 ∷ deliveries 1 6 ++ Submits 1 request ∷ Deliver 7 ∷ []) (Deliver 10 ∷ Stop 1 ∷ Begin 2 ∷ Deliver 15 ∷ Deliver 16 ∷ Deliver 17 ∷ Deliver 18 ∷ Deliver 20 ∷ Deliver 21 ∷ Deliver 23 ∷ Deliver 26 ∷ Deliver 24 ∷ Deliver 27 ∷ []) proposed
    (several w9 w18 end (Deliver 10 ∷ Stop 1 ∷ Begin 2 ∷ Deliver 15 ∷ Deliver 16 ∷ Deliver 17 ∷ []) (Deliver 18 ∷ Deliver 20 ∷ Deliver 21 ∷ Deliver 23 ∷ Deliver 26 ∷ Deliver 24 ∷ Deliver 27 ∷ []) by17
    (step w18 w19 end (Deliver 18) (Deliver 20 ∷ Deliver 21 ∷ Deliver 23 ∷ Deliver 26 ∷ Deliver 24 ∷ Deliver 27 ∷ []) e18
    (several w19 w26 end (Deliver 20 ∷ Deliver 21 ∷ Deliver 23 ∷ []) (Deliver 26 ∷ Deliver 24 ∷ Deliver 27 ∷ []) by23
    (step w26 w27 end (Deliver 26) (Deliver 24 ∷ Deliver 27 ∷ []) e26 refl))))

told : end.told ≡ told_to 2 (pair_of 1 (Of request)) ∷ told_to 3 (pair_of 1 (Of request)) ∷ []
unfolding positions last_round
told = refl

-- the request is told to members 2 and 3
pub change_told : leader_change.told ≡ told_to 2 (pair_of 1 (Of request)) ∷ told_to 3 (pair_of 1 (Of request)) ∷ []
change_told = ap (λ (w : World). w.told) whole ∙ told

ends_gap : EndsAt 3 gap_heard gap_leader 3
unfolding positions last_round
ends_gap = record { windows_end = ((omega arith, (omega arith, tt)), (tt, tt)); news_end = tt; known = λ h. inl refl; most = omega arith }

-- a no-op is proposed between the two reports
pub gap_filled : (goes_on 3 gap_heard gap_leader).made ≡ gap_proposed
unfolding positions last_round
gap_filled = ap (λ (t : Turn). t.made) (goes_quickly 3 gap_heard gap_leader 3 4 (record { next = 4; proposals = gap_proposed; made = gap_proposed }) ends_gap (omega arith) refl)
