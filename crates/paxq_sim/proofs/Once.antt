-- An event file has one simulation.
use Rattle.std.proofs.Common.{◌≡◌, ◌⊎◌, ℕ, zero, suc, ◌+◌, ◌<◌, ◌≤◌, arith, refl, sym, subst, ap, ◌∙◌, Bool, true, false, ⊎_elim, inl, inr, cond, Option, Some, None, List, [], ◌∷◌, ◌++◌, append-nil, map, length}
use Rattle.std.proofs.lemmas.List.{map-append}
use Rattle.std.proofs.lemmas.List.Elements.{filter-append}
use Rattle.ballots.specs.Messages.{Packet, up_to}
use Rattle.event_files.specs.EventFiles.{EventFileTerm}
use Rattle.event_files.specs.declared.command.Command.{Command}
use Rattle.event_files.specs.declared.command.Command.TheVariants.{Happens, DeliverAll}
use Rattle.event_files.specs.declared.first.Failure.{Failure}
use Rattle.paxos.specs.Application.{Application}
use Rattle.paxos.specs.Lists.{at}
use Rattle.paxos.specs.World.{Deliver, delivers, settles}
use Rattle.paxos.proofs.WellFormed.{at_number}
use Rattle.paxq_sim.specs.Play.{IsSimulated, Plays, Progress, State, Takes, after_all, choice_in, is_undelivered, next, opening, report, undelivered, with_deliveries}
use Rattle.paxq_sim.proofs.Steps.{after_more}

-- no number above those that were sent names a message
none_above : (xs : List Packet) (k : ℕ) → length xs < k → at xs k ≡ None
none_above xs k h = by (at xs k) refl
  where
    by : (o : Option Packet) → at xs k ≡ o → at xs k ≡ None
    by None q = q
    by (Some p) q = let number = at_number xs k p q in absurd (omega (arith, h, number.1))

module _ (app : Application) (failures : List Failure) where
  -- a message that was not sent sends nothing
  unsent : (s : State) (k : ℕ) → length s.world.sent < k → (next app failures s (Deliver k)).world.sent ≡ s.world.sent
  unsent s k h = ap (λ o. (delivers app s.world (settles (length s.world.members) (choice_in app failures s (Deliver k))) o).sent) (none_above s.world.sent k h)

  module _ (p : Progress) where
    -- what was sent after the deliveries up to a number
    abbrev state_after : ℕ → State
    state_after n = after_all app failures p.state (map Deliver (undelivered p n))

    -- where there is no later message, later numbers send none
    still : (a j : ℕ) → length (state_after a).world.sent ≡ a → length (state_after (a + j)).world.sent ≡ a
    still a zero h = let same : a ≡ a + 0 = omega arith in subst (λ n. length (state_after n).world.sent ≡ a) same h
    still a (suc j) h = let more : suc (a + j) ≡ a + suc j = omega arith in subst (λ n. length (state_after n).world.sent ≡ a) more (by (is_undelivered p (suc (a + j))) refl (still a j h))
      where
        split : undelivered p (suc (a + j)) ≡ undelivered p (a + j) ++ cond (is_undelivered p (suc (a + j))) (suc (a + j) ∷ []) []
        split = filter-append (is_undelivered p) (up_to (a + j)) (suc (a + j) ∷ [])

        by : (b : Bool) → is_undelivered p (suc (a + j)) ≡ b → length (state_after (a + j)).world.sent ≡ a → length (state_after (suc (a + j))).world.sent ≡ a
        by true q before =
            ap (λ ks. length (after_all app failures p.state (map Deliver ks)).world.sent) (split ∙ ap (λ b. undelivered p (a + j) ++ cond b (suc (a + j) ∷ []) []) q)
            ∙ ap (λ es. length (after_all app failures p.state es).world.sent) (map-append Deliver (undelivered p (a + j)) (suc (a + j) ∷ []))
            ∙ ap (λ (s : State). length s.world.sent) (after_more app failures p.state (map Deliver (undelivered p (a + j))) (Deliver (suc (a + j))))
            ∙ ap length (unsent (state_after (a + j)) (suc (a + j)) (omega (arith, before)))
            ∙ before
        by false q before =
            ap (λ ks. length (after_all app failures p.state (map Deliver ks)).world.sent)
            (split ∙ ap (λ b. undelivered p (a + j) ++ cond b (suc (a + j) ∷ []) []) q ∙ append-nil (undelivered p (a + j)))
            ∙ before

    -- so the deliveries end at one number
    ends_once : (a b : ℕ) → a ≡ length (state_after a).world.sent → b ≡ length (state_after b).world.sent → a ≡ b
    ends_once a b h k = ⊎_elim (λ (o : a ≤ b). within a b o h k) (λ (o : b ≤ a). sym (within b a o k h)) (either a b)
      where
        either : (a b : ℕ) → (a ≤ b) ⊎ (b ≤ a)
        either zero b = inl (omega arith)
        either (suc a) zero = inr (omega arith)
        either (suc a) (suc b) = ⊎_elim (λ (o : a ≤ b). inl (omega (arith, o))) (λ (o : b ≤ a). inr (omega (arith, o))) (either a b)

        within : (a b : ℕ) → a ≤ b → a ≡ length (state_after a).world.sent → b ≡ length (state_after b).world.sent → a ≡ b
        within a b o h k = sym (k ∙ subst (λ n. length (state_after n).world.sent ≡ a) (upto a b o) (still a (gap a b) (sym h)))
          where
            gap : (a b : ℕ) → ℕ
            gap zero b = b
            gap (suc a) zero = zero
            gap (suc a) (suc b) = gap a b

            upto : (a b : ℕ) → a ≤ b → a + gap a b ≡ b
            upto zero b o = omega arith
            upto (suc a) zero o = absurd (omega (arith, o))
            upto (suc a) (suc b) o = omega (arith, upto a b (omega (arith, o)))

  -- a command leads to one progress
  takes_once : (p q r : Progress) (command : Command) → Takes app failures p command q → Takes app failures p command r → q ≡ r
  takes_once p q r (Happens e) h k = h ∙ sym k
  takes_once p q r DeliverAll h k =
      let same = ends_once p h.0 k.0 (h.2 ∙ ap (λ (x : Progress). length x.state.world.sent) h.1) (k.2 ∙ ap (λ (x : Progress). length x.state.world.sent) k.1) in
      h.1 ∙ ap (with_deliveries app failures p) same ∙ sym k.1

  -- so do commands
  plays_once : (p q r : Progress) (commands : List Command) → Plays app failures p commands q → Plays app failures p commands r → q ≡ r
  plays_once p q r [] h k = h ∙ sym k
  plays_once p q r (c ∷ cs) h k = plays_once h.0 q r cs h.2 (subst (λ x. Plays app failures x cs r) (takes_once p k.0 h.0 c k.1 h.1) k.2)

-- What a simulation of an event file prints is one text.
pub simulated_once : (meaning : List (List ℕ) → Application) (f : EventFileTerm) (one other : List ℕ) → IsSimulated meaning f one → IsSimulated meaning f other → one ≡ other
simulated_once meaning f one other h k =
    h.2 ∙ ap (λ (p : Progress). report p.state.world) (plays_once (meaning f.group.names) f.failures (opening f.group.members) h.0 k.0 f.commands h.1 k.1) ∙ sym k.2
