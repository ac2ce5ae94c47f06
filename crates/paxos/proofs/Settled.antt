-- A well-formed step stays so, whatever a failing store, a stop inside it or applying makes of it.
use Rattle.std.proofs.Common.{◌≡◌, ℕ, Bool, true, false, cond, refl, inl, inr, subst, Option, Some, None, List, [], ◌∷◌}
use Rattle.std.specs.Prelude.{option_map}
use Rattle.std.proofs.lemmas.Option.{none-some, same_Some}
use Rattle.ballots.specs.declared.ballot.Ballot.{Ballot}
use Rattle.paxos.specs.Records.{Record, writes}
use Rattle.ballots.specs.declared.value.Pair.{Pair}
use Rattle.ballots.specs.Messages.{Packet, packet}
use Rattle.paxos.specs.Lists.{Has}
use Rattle.paxos.specs.Knowledge.{numbered}
use Rattle.paxos.specs.Step.{Running, Effect, quiet, chosen_packet, resumed}
use Rattle.paxos.specs.World.{Choice, stops_in, may_fail, applies_to, applies, settles}
use Rattle.paxos.specs.WellFormed.{IsRecord, IsCalledFor, IsState}
use Rattle.paxos.proofs.Order.{below_self}
use Rattle.paxos.proofs.Steps.{Stepped}

-- a member that has applied more
applied_state : (n k m : ℕ) (r : Record) (o : Option Running) → ((u : Running) → o ≡ Some u → IsState n m r u) → (v : Running) → option_map (applies_to n k) o ≡ Some v → IsState n m r v
applied_state n k m r None h v e = absurd (none-some v e)
applied_state n k m r (Some u) h v e = let s = h u refl in subst (IsState n m r) (same_Some (applies_to n k u) v e) (record { kept = s.kept; leads = s.leads; heard = s.heard })

module _ (n m : ℕ) (Asked : Ballot → Type 0) (r : Record) where
  -- a stop inside it, with or without what it writes
  pub stops_in_step : (kept : Bool) (e : Effect) → IsRecord n r → Stepped n m Asked r e → Stepped n m Asked r (stops_in kept e)
  stops_in_step true e is s = record { kept = s.kept; grows = s.grows; runs = λ u h. absurd (none-some u h); sends = λ k h. absurd h; tells = tt }
  stops_in_step false e is s = record { kept = is; grows = below_self r.promise; runs = λ u h. absurd (none-some u h); sends = λ k h. absurd h; tells = tt }

  -- a store that may fail
  may_fail_step : (fails : Option Bool) (e : Effect) → IsRecord n r → Stepped n m Asked r e → Stepped n m Asked r (may_fail fails e)
  may_fail_step None e is s = s
  may_fail_step (Some kept) e is s = one (writes e.write)
    where
      one : (c : Bool) → Stepped n m Asked r (cond c (stops_in kept e) e)
      one true = stops_in_step kept e is s
      one false = s

  -- more is applied after it
  applies_step : (k : ℕ) (e : Effect) → Stepped n m Asked r e → Stepped n m Asked r (applies n k e)
  applies_step k e s = record { kept = s.kept; grows = s.grows; runs = λ u h. applied_state n k m _ e.running s.runs u h; sends = s.sends; tells = s.tells }

  -- what is left open
  pub settles_step : (c : Choice) (e : Effect) → IsRecord n r → Stepped n m Asked r e → Stepped n m Asked r (settles n c e)
  settles_step c e is s = applies_step c.applied (may_fail c.fails e) (may_fail_step c.fails e is s)

  -- what it kept is called for
  kept_called : (pairs : List Pair) (k : Packet) → Has (chosen_packet m m pairs) k → IsCalledFor r k.body
  kept_called [] k h = absurd h
  kept_called (e ∷ es) k (inl q) = subst (λ (x : Packet). IsCalledFor r x.body) q tt
  kept_called (e ∷ es) k (inr h) = absurd h

  -- a start
  pub resumed_step : (k : ℕ) → IsRecord n r → Stepped n m Asked r (applies n k (quiet (resumed m r)))
  resumed_step k is = applies_step k (quiet (resumed m r)) (record {
    kept = is;
    grows = below_self r.promise;
    runs = λ u h. subst (IsState n m r) (same_Some (resumed m r) u h) (record { kept = is; leads = λ l e. absurd (none-some l e); heard = kept_called (numbered 1 r.learnt) });
    sends = λ k h. absurd h;
    tells = tt;
  })
