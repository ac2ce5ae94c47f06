-- What is held, after a change.
use Rattle.std.proofs.Common.{◌≡◌, ℕ, Bool, List, [], ◌++◌, sym, ap, subst, ◌∙◌, Option, append-nil}
use Rattle.ballots.specs.declared.value.Value.{Value}
use Rattle.node.specs.Nodes.{posted}
use Rattle.node.specs.declared.outbox.Outbox.{Outbox}
use Rattle.paxos.specs.Application.{Application}
use Rattle.paxos.specs.Lists.{Has}
use Rattle.server_steps.proofs.Going.{on_dropping}
use Rattle.server_steps.specs.Addressed.{addressed}
use Rattle.server_steps.specs.Hold.{datagrams_of, held_by}
use Rattle.server_steps.specs.Leading.{is_told}
use Rattle.server_steps.specs.Going.{AreAny, AreHeld, GoesOn, Server}
use Rattle.server_steps.specs.Moves.{Place}
use Rattle.server_steps.specs.declared.hold.HeldOutbox.{HeldOutbox}
use Rattle.server_steps.specs.declared.hold.Hold.{Hold}
use Rattle.wires.specs.Wires.{Carried}

module _ {D : Type 0} where
  -- the same is held at the same place
  pub held_same : (p q : Place D) (hs ks : List (HeldOutbox D)) → q ≡ p → ks ≡ hs → held_by q ks ≡ held_by p hs
  held_same p q hs ks place is = ap (λ r. held_by r ks) place ∙ ap (held_by p) is

  -- nothing more is held
  pub held_no_more : (p q : Place D) (hs ks : List (HeldOutbox D)) → q ≡ p → ks ≡ hs → held_by q ks ≡ held_by p hs ++ []
  held_no_more p q hs ks place is = held_same p q hs ks place is ∙ sym (append-nil (held_by p hs))

  -- what a step sent is held behind what was held, where there was made room before
  pub held_more : (p p' q : Place D) (hs hs' ks : List (HeldOutbox D)) (client : Option D) (n n' m m' : ℕ) (o : Outbox) → p' ≡ p → hs' ≡ hs → n' ≡ n → m' ≡ m
      → held_by q ks ≡ held_by p' hs' ++ datagrams_of p' (record { client = client; members = n'; member = m'; outbox = o }) → held_by q ks ≡ held_by p hs ++ addressed p.end p.peers client (posted n m o.sent.items)
  held_more p p' q hs hs' ks client n n' m m' o place same members member is =
      is
      ∙ ap (λ r. held_by r hs' ++ datagrams_of r (record { client = client; members = n'; member = m'; outbox = o })) place
      ∙ ap (λ l. held_by p l ++ datagrams_of p (record { client = client; members = n'; member = m'; outbox = o })) same
      ∙ ap (λ i. held_by p hs ++ addressed p.end p.peers client (posted i m' o.sent.items)) members
      ∙ ap (λ i. held_by p hs ++ addressed p.end p.peers client (posted n i o.sent.items)) member

-- where so much more is held, it is as a wire that was given that
pub holds_more : {D : Type 0} (h k sent : List (Carried D)) → k ≡ h ++ sent → (ds : List (Carried D)) → AreHeld h ds → AreHeld k (ds ++ sent)
holds_more h k sent is ds held = is ∙ ap (λ l. l ++ sent) held

pub holds_same : {D : Type 0} (h k : List (Carried D)) → k ≡ h → (ds : List (Carried D)) → AreHeld h ds → AreHeld k ds
holds_same h k is ds held = is ∙ held

-- where the place and what is held there are the same, so are those datagrams
pub held_at : {D : Type 0} (h k : Hold D) → k ≡ h → held_by k.place k.outboxes.items ≡ held_by h.place h.outboxes.items
held_at {D = D} h k is = ap (λ (l : Hold D). held_by l.place l.outboxes.items) is

module _ {R A D : Type 0} (has_applied : List (List ℕ) → List Value → A → Type 0) (app : List (List ℕ) → Application) (failed : R → ℕ) (eq : D → D → Bool) where
  -- nothing was done, and some of what waited waits no more
  pub held_dropping : (x y : Server R A D) → y.seat ≡ x.seat → y.place ≡ x.place → y.held ≡ x.held → is_told y.word ≡ is_told x.word → ((e : Carried D) → Has y.waiting e → Has x.waiting e)
      → GoesOn has_applied app failed eq AreHeld AreAny [] [] [] x y x.held y.held
  held_dropping x y seat place held told waits = subst (λ l. GoesOn has_applied app failed eq AreHeld AreAny [] [] [] x y x.held l) (sym held) (on_dropping has_applied app failed eq AreHeld AreAny x y x.held seat place told waits)
