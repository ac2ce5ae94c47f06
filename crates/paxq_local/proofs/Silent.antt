-- A member gives the wire nothing from the client's end: what a server that went on gave has the server's own end.
use Rattle.std.proofs.Common.{◌≡◌, ℕ, Bool, cond, List, [], ◌∷◌, ◌++◌, Option, Some, None, refl, sym, ap, subst, ◌∙◌, ◌⊎◌, inl, inr, append-nil}
use Rattle.std.proofs.lemmas.Bool.{ne_eqb}
use Rattle.ballots.specs.declared.value.Value.{Value}
use Rattle.paxos.specs.Application.{Application}
use Rattle.paxq_local.specs.Asking.{GivesNothing, from_client}
use Rattle.paxq_local.proofs.Giving.{from-client-both, given-still}
use Rattle.server_steps.specs.Addressed.{addressed, datagram_at, datagram_to, address_of}
use Rattle.server_steps.specs.Going.{Goes, IsGivenNothing, Server, has_brought_beside, was_given_or_held}
use Rattle.server_steps.specs.Moves.{AreDone, Deed, IsDone, Move, Moves, Place, Takes, Ticks, Took, TookAgain, Ticked, came_with, given_in, heard, no_message, from_elsewhere, lost, ticked_so, spent, missed}
use Rattle.server_steps.specs.declared.seat.Seat.{Seat}
use Rattle.wires.specs.Wires.{Carried}

none-both : {A : Type 0} (xs ys : List (Carried A)) → from_client xs ≡ [] → from_client ys ≡ [] → from_client (xs ++ ys) ≡ []
none-both xs ys first then = from-client-both xs ys ∙ ap (λ l. l ++ from_client ys) first ∙ then

-- what is sent from an end that is not the client's
module _ {A : Type 0} (end : ℕ) (other : ¬ (end ≡ 0)) where
  none-at : (bytes : List ℕ) (o : Option A) → from_client (datagram_at end bytes o) ≡ []
  none-at bytes None = refl
  none-at bytes (Some peer) = ap (λ (b : Bool). cond b (record { end = end; peer = peer; bytes = bytes } ∷ []) []) (ne_eqb end 0 other)

  none-addressed : (peers : List A) (client : Option A) (sent : List (List ℕ × ℕ)) → from_client (addressed end peers client sent) ≡ []
  none-addressed peers client [] = refl
  none-addressed peers client (d ∷ ds) =
      none-both (datagram_to end peers client d.0 d.1) (addressed end peers client ds) (none-at d.0 (address_of peers client d.1)) (none-addressed peers client ds)

module _ {R A D : Type 0} (has_applied : List (List ℕ) → List Value → A → Type 0) (app : List (List ℕ) → Application) (failed : R → ℕ) (eq : D → D → Bool) (p : Place D) (other : ¬ (p.end ≡ 0)) where
  none-moved : (client : Option D) (i : _) (old new : Seat R A) (sent : List (Carried D)) → Moves has_applied app failed p client i old new sent → from_client sent ≡ []
  none-moved client i old new sent m = ap from_client m.sends ∙ none-addressed p.end other p.peers client _

  none-taken : (d : Carried D) (old new : Seat R A) (sent : List (Carried D)) → Takes has_applied app failed eq p d old new sent → from_client sent ≡ []
  none-taken d old new sent (heard k from sender moves) = none-moved _ _ old new sent moves
  none-taken d old new sent (no_message none stays is) = ap from_client is
  none-taken d old new sent (from_elsewhere away stays is) = ap from_client is
  none-taken d old new sent (lost loses is) = ap from_client is

  none-ticked : (t : _) (old new : Seat R A) (sent : List (Carried D)) → Ticks has_applied app failed p t old new sent → from_client sent ≡ []
  none-ticked t old new sent (ticked_so moves) = none-moved _ _ old new sent moves
  none-ticked t old new sent (spent why stays is) = ap from_client is
  none-ticked t old new sent (missed loses is) = ap from_client is

  none-done : (before : List (Carried D)) (old : Seat R A) (deed : Deed D) (after : Seat R A) (sent : List (Carried D))
      → IsDone has_applied app failed eq p before old (record { deed = deed; after = after; sent = sent }) → from_client sent ≡ []
  none-done before old (Took d) after sent takes = none-taken d old after sent takes
  none-done before old (TookAgain d) after sent again = none-taken d old after sent again.1
  none-done before old (Ticked t) after sent ticks = none-ticked t old after sent ticks

  none-given : (before : List (Carried D)) (old : Seat R A) (ms : List (Move R A D)) → AreDone has_applied app failed eq p before old ms → from_client (given_in ms) ≡ []
  none-given before old [] done = refl
  none-given before old (m ∷ ms) done =
      none-both m.sent (given_in ms) (none-done before old m.deed m.after m.sent done.0) (none-given (before ++ came_with m.deed) m.after ms done.1)

module _ {R A D W : Type 0} {has_applied : List (List ℕ) → List Value → A → Type 0} {app : List (List ℕ) → Application} {failed : R → ℕ} {eq : D → D → Bool} (G H : W → List (Carried D) → Type 0)
    (x y : Server R A D) (v w : W) (deeds : List (Deed D)) (goes : Goes has_applied app failed eq (was_given_or_held G) (has_brought_beside H) x y (x.held, v) (y.held, w) deeds []) where
  -- it stands where it stood
  pub placed-on : ¬ (x.place.end ≡ 0) → ¬ (y.place.end ≡ 0)
  placed-on other is = other (ap (λ (p : Place D). p.end) (sym (goes x.waiting (λ d has. has)).place) ∙ is)

  -- it held nothing, and what it was given is written first: all that is given was sent by its moves
  pub gives-nothing : {IsKept : Type 0} → ¬ (x.place.end ≡ 0) → x.held ≡ [] → (IsKept × (y.held ≡ [])) ⊎ IsGivenNothing G v w → GivesNothing G v w
  gives-nothing other none (inl written) =
      let t = goes x.waiting (λ d has. has) in (
        given_in t.moves,
        λ ds h.
            (let g = t.gives ds (ds, h, sym (ap (λ l. ds ++ l) none ∙ append-nil ds)) in
            subst (G w) (sym (g.2 ∙ ap (λ l. g.0 ++ l) written.1 ∙ append-nil g.0)) g.1),
        none-given has_applied app failed eq x.place other x.waiting x.seat t.moves t.done,
      )
  gives-nothing other none (inr nothing) = ([], given-still G v w nothing, refl)
