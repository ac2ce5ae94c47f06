-- How a round ends: what a server did leads to where its record was written.
use Rattle.std.proofs.Common.{◌≡◌, ℕ, ◌+◌, ◌≤◌, arith, Bool, true, false, List, [], ◌∷◌, ◌++◌, refl, sym, ap, subst, ◌∙◌, inl, inr, append_assoc, Option}
use Rattle.std.specs.Prelude.{Result, Ok, Err, OnOk, OnErr, IsErr}
use Rattle.std.proofs.lemmas.Grind.{flat_map-append}
use Rattle.acceptor.specs.Steps.{Acceptor, IsAsWas}
use Rattle.ballots.specs.declared.value.Value.{Value}
use Rattle.member.specs.Steps.{Input}
use Rattle.member.specs.declared.input.Tick.{Tick}
use Rattle.node.specs.Nodes.{IsUnchanged, Node, Took as NodeTook}
use Rattle.node.specs.declared.outbox.Outbox.{Outbox}
use Rattle.paxos.specs.Application.{Application}
use Rattle.paxos.specs.Lists.{Has}
use Rattle.paxos.specs.Records.{Record}
use Rattle.paxos.specs.Step.{Effect}
use Rattle.server_steps.proofs.Going.{begins_both, goes_both, goes_none, halts_after, halts_at_once}
use Rattle.server_steps.specs.Leading.{is_told}
use Rattle.server_steps.specs.Going.{Goes, GoesOn, Halted, IsGivenNothing, Passed, Server, Went, has_brought_beside, was_given_or_held}
use Rattle.serving.specs.Serves.{IsWrittenFirst, WentJustBy, WritesFirst}
use Rattle.server_steps.specs.Moves.{AreDone, AreTurns, Deed, Halts, IsDone, IsTurn, Loses, Move, Moves, Place, Stays, Takes, Ticked, Ticks, Took, TookAgain, came_by, came_with, deeds_of, from_elsewhere, given_in, heard, lost, missed, no_message, no_turn, one_more, seat_after, spent, ticked_so}
use Rattle.server_steps.specs.declared.fault.ServeFault.{ServeFault}
use Rattle.server_steps.specs.declared.seat.Seat.{Seat}
use Rattle.wires.specs.Wires.{Carried}

-- a move that leads to another seat
abbrev leading_to : {R A D : Type 0} → Move R A D → Seat R A → Move R A D
leading_to m s = record { deed = m.deed; after = s; sent = m.sent }

-- the last of these moves leads there
abbrev resting : {R A D : Type 0} → List (Move R A D) → Seat R A → List (Move R A D)
resting [] s = []
resting (m ∷ []) s = leading_to m s ∷ []
resting (m ∷ n ∷ ms) s = m ∷ resting (n ∷ ms) s

deeds_resting : {R A D : Type 0} (ms : List (Move R A D)) (s : Seat R A) → deeds_of (resting ms s) ≡ deeds_of ms
deeds_resting [] s = refl
deeds_resting (m ∷ []) s = refl
deeds_resting (m ∷ n ∷ ms) s = ap (λ l. m.deed ∷ l) (deeds_resting (n ∷ ms) s)

given_resting : {R A D : Type 0} (ms : List (Move R A D)) (s : Seat R A) → given_in (resting ms s) ≡ given_in ms
given_resting [] s = refl
given_resting (m ∷ []) s = refl
given_resting (m ∷ n ∷ ms) s = ap (λ l. m.sent ++ l) (given_resting (n ∷ ms) s)

rests_there : {R A D : Type 0} (x : Seat R A) (ms : List (Move R A D)) (s : Seat R A) → (deeds_of ms ≡ [] → ⊥) → seat_after x (resting ms s) ≡ s
rests_there x [] s some = absurd (some refl)
rests_there x (m ∷ []) s some = refl
rests_there x (m ∷ n ∷ ms) s some = rests_there m.after (n ∷ ms) s (λ e. cc)

-- no datagram comes
came_none : {D : Type 0} (rest es : List (Deed D)) → came_by rest ≡ [] → came_by es ≡ [] → came_by (rest ++ es) ≡ []
came_none rest es none quiet = flat_map-append came_with rest es ∙ ap (λ l. l ++ came_by es) none ∙ quiet

-- a turn ends with what follows it, where no datagram comes with that
turn_ending : {D : Type 0} (ds es : List (Deed D)) → IsTurn ds → came_by es ≡ [] → IsTurn (ds ++ es)
turn_ending ds es (rest, none, inl (d, is)) quiet = (rest ++ es, came_none rest es none quiet, inl (d, ap (λ l. l ++ es) is))
turn_ending ds es (rest, none, inr is) quiet = (rest ++ es, came_none rest es none quiet, inr (ap (λ l. l ++ es) is))

turns_ending : {D : Type 0} (n : ℕ) (ds es : List (Deed D)) → 1 ≤ n → AreTurns n ds → came_by es ≡ [] → AreTurns n (ds ++ es)
turns_ending n ds es some no_turn quiet = absurd (omega (arith, some))
turns_ending n ds es some (one_more k fs gs before turn) quiet = subst (λ l. AreTurns (k + 1) l) (sym (append_assoc fs gs es)) (one_more k fs (gs ++ es) before (turn_ending gs es turn quiet))

-- a turn has a deed
turn_some : {D : Type 0} (gs : List (Deed D)) → IsTurn gs → gs ≡ [] → ⊥
turn_some gs (rest, none, inl (d, is)) empty = let e : [] ≡ Took d ∷ rest = sym empty ∙ is in cc
turn_some gs (rest, none, inr is) empty = let e = sym empty ∙ is in cc

right_none : {T : Type 0} (fs gs : List T) → fs ++ gs ≡ [] → gs ≡ []
right_none [] gs is = is
right_none (f ∷ fs) gs is = absurd (let e = is in cc)

turns_some : {D : Type 0} (n : ℕ) (ds : List (Deed D)) → 1 ≤ n → AreTurns n ds → ds ≡ [] → ⊥
turns_some n ds some no_turn is = omega (arith, some)
turns_some n ds some (one_more k fs gs before turn) is = turn_some gs turn (right_none fs gs is)

-- these records, in place of those of another acceptor
abbrev with_records : {R : Type 0} → R → Acceptor R → Acceptor R
with_records r x = record { records = r; kept = x.kept; is_stopped = x.is_stopped }

module _ {R A : Type 0} (has_applied : List (List ℕ) → List Value → A → Type 0) (app : List (List ℕ) → Application) (failed : R → ℕ) where
  as_was_both : (a b c : Acceptor R) → IsAsWas failed a b → IsAsWas failed b c → IsAsWas failed a c
  as_was_both a b c f g = record { kept = g.kept ∙ ap (with_records c.records) f.kept; failures = g.failures ∙ f.failures }

  unchanged_both : (a b c : Node R A) → IsUnchanged has_applied failed a b → IsUnchanged has_applied failed b c → IsUnchanged has_applied failed a c
  unchanged_both a b c f g = record {
    setup = g.setup ∙ f.setup;
    acceptor = as_was_both a.member.acceptor b.member.acceptor c.member.acceptor f.acceptor g.acceptor;
    runs_as = λ u r. g.runs_as u (f.runs_as u r);
  }

  -- a step that led to a node led to one at which nothing shows to have changed since
  took_staying : (e : Effect) (x s y : Node R A) (o : Outbox) → NodeTook has_applied e x s o → IsUnchanged has_applied failed s y → NodeTook has_applied e x y o
  took_staying e x s y o t h = record {
    setup = h.setup ∙ t.setup;
    record_is = ap (λ (a : Acceptor R). a.kept) h.acceptor.kept ∙ t.record_is;
    running = t.running;
    runs = t.runs;
    runs_as = h.runs_as t.running t.runs_as;
    sends = t.sends;
    reads = t.reads;
    tells = t.tells;
    whole = t.whole;
    short = t.short;
  }

  stays_both : (x s y : Seat R A) → Stays has_applied app failed x s → Stays has_applied app failed s y → Stays has_applied app failed x y
  stays_both x s y f g = record { node = unchanged_both x.node s.node y.node f.node g.node; lost = g.lost ∙ f.lost }

  loses_staying : (x s y : Seat R A) → Loses has_applied app failed x s → Stays has_applied app failed s y → Loses has_applied app failed x y
  loses_staying x s y f g = record { node = unchanged_both x.node s.node y.node f.node g.node; lost = g.lost ∙ f.lost }

  module _ {D : Type 0} (p : Place D) (x s y : Seat R A) (sent : List (Carried D)) (h : Stays has_applied app failed s y) where
    moves_staying : (client : Option D) (i : Input) → Moves has_applied app failed p client i x s sent → Moves has_applied app failed p client i x y sent
    moves_staying client i m = record {
      outbox = m.outbox;
      steps = λ u r. let t = m.steps u r in (t.0, took_staying _ x.node s.node y.node m.outbox t.1 h.node);
      lost = h.lost ∙ m.lost;
      sends = m.sends;
    }

    takes_staying : (eq : D → D → Bool) (d : Carried D) → Takes has_applied app failed eq p d x s sent → Takes has_applied app failed eq p d x y sent
    takes_staying eq d (heard k from sender moves) = heard k from sender (moves_staying _ _ moves)
    takes_staying eq d (no_message is stays none) = no_message is (stays_both x s y stays h) none
    takes_staying eq d (from_elsewhere is stays none) = from_elsewhere is (stays_both x s y stays h) none
    takes_staying eq d (lost loses none) = lost (loses_staying x s y loses h) none

    ticks_staying : (t : Tick) → Ticks has_applied app failed p t x s sent → Ticks has_applied app failed p t x y sent
    ticks_staying t (ticked_so moves) = ticked_so (moves_staying _ _ moves)
    ticks_staying t (spent why stays none) = spent why (stays_both x s y stays h) none
    ticks_staying t (missed loses none) = missed (loses_staying x s y loses h) none

  done_staying : {D : Type 0} (eq : D → D → Bool) (p : Place D) (before : List (Carried D)) (x : Seat R A) (deed : Deed D) (s y : Seat R A) (sent : List (Carried D))
      → IsDone has_applied app failed eq p before x (record { deed = deed; after = s; sent = sent }) → Stays has_applied app failed s y → IsDone has_applied app failed eq p before x (record { deed = deed; after = y; sent = sent })
  done_staying eq p before x (Took d) s y sent takes h = takes_staying p x s y sent h eq d takes
  done_staying eq p before x (TookAgain d) s y sent again h = (again.0, takes_staying p x s y sent h eq d again.1)
  done_staying eq p before x (Ticked t) s y sent ticks h = ticks_staying p x s y sent h t ticks

  done_resting : {D : Type 0} (eq : D → D → Bool) (p : Place D) (before : List (Carried D)) (x : Seat R A) (ms : List (Move R A D)) (y : Seat R A) → AreDone has_applied app failed eq p before x ms → (deeds_of ms ≡ [] → ⊥)
      → Stays has_applied app failed (seat_after x ms) y → AreDone has_applied app failed eq p before x (resting ms y)
  done_resting eq p before x [] y done some h = absurd (some refl)
  done_resting eq p before x (m ∷ []) y done some h = (done_staying eq p before x m.deed m.after y m.sent done.0 h, tt)
  done_resting eq p before x (m ∷ n ∷ ms) y done some h = (done.0, done_resting eq p (before ++ came_with m.deed) m.after (n ∷ ms) y done.1 (λ e. cc) h)

module _ {R A D : Type 0} (has_applied : List (List ℕ) → List Value → A → Type 0) (app : List (List ℕ) → Application) (failed : R → ℕ) (eq : D → D → Bool) where
  module _ {W : Type 0} (was_given has_brought : W → List (Carried D) → Type 0) where
    -- what shows of the server stays the same, and the wire was given and brought what is no deed: so the last deed led there
    goes_closing : (x y z : Server R A D) (v w u : W) (ds : List (Deed D)) (bs : List (Carried D)) → Goes has_applied app failed eq was_given has_brought x y v w ds bs → (ds ≡ [] → ⊥)
        → Stays has_applied app failed y.seat z.seat → z.place ≡ y.place → z.word ≡ y.word → z.waiting ≡ y.waiting
        → ((es : List (Carried D)) → was_given w es → was_given u es) → ((es : List (Carried D)) → has_brought w es → has_brought u es) → Goes has_applied app failed eq was_given has_brought x z v u ds bs
    goes_closing x y z v w u ds bs first some stays place word waiting gives brings before come =
        let one = first before come in
        let any : deeds_of one.moves ≡ [] → ⊥ = λ e. some (sym one.are ∙ e) in
        record {
          moves = resting one.moves z.seat;
          done = done_resting has_applied app failed eq x.place before x.seat one.moves z.seat one.done any (subst (λ s. Stays has_applied app failed s z.seat) (sym one.seat) stays);
          are = deeds_resting one.moves z.seat ∙ one.are;
          seat = rests_there x.seat one.moves z.seat any;
          place = place ∙ one.place;
          told = ap is_told word ∙ one.told;
          waits = λ d has. one.waits d (subst (λ l. Has l d) waiting has);
          gives = λ es g. subst (λ l. was_given u (es ++ l)) (sym (given_resting one.moves z.seat)) (gives (es ++ given_in one.moves) (one.gives es g));
          brings = λ es b. brings (es ++ bs) (one.brings es b);
        }

    -- several turns, and what follows the last of them
    pub passed_ending : {n : ℕ} (x y z : Server R A D) (v w u : W) (stands : R → Record → Record → Type 0) (is_kept : R → Type 0) (base : R → Record → Type 0) (leaves : R → Record → Record → Type 0) → 1 ≤ n
        → Passed has_applied app failed eq was_given has_brought stands is_kept base leaves AreTurns (Ok n) x y v w → GoesOn has_applied app failed eq was_given has_brought [] [] [] y z w u
        → Passed has_applied app failed eq was_given has_brought stands is_kept base leaves AreTurns (Ok n) x z v u
    passed_ending {n} x y z v w u stands is_kept base leaves some first second = (
      first.0 ++ second.0,
      turns_ending n first.0 second.0 some first.1 second.1,
      begins_both has_applied app failed eq was_given has_brought x y v w first.0 second.0 (came_by first.0) first.3 first.2 second.2,
      subst (λ l. Goes has_applied app failed eq was_given has_brought x z v u (first.0 ++ second.0) l) (ap (λ l. came_by first.0 ++ l) (sym second.1) ∙ sym (flat_map-append came_with first.0 second.0)) (goes_both has_applied app failed eq was_given has_brought x y z v w u first.0 second.0 (came_by first.0) [] first.3 second.3),
    )

    pub passed_closing : {n : ℕ} (x y z : Server R A D) (v w u : W) (stands : R → Record → Record → Type 0) (is_kept : R → Type 0) (base : R → Record → Type 0) (leaves : R → Record → Record → Type 0) → 1 ≤ n
        → Passed has_applied app failed eq was_given has_brought stands is_kept base leaves AreTurns (Ok n) x y v w
        → Stays has_applied app failed y.seat z.seat → z.place ≡ y.place → z.word ≡ y.word → z.waiting ≡ y.waiting
        → ((es : List (Carried D)) → was_given w es → was_given u es) → ((es : List (Carried D)) → has_brought w es → has_brought u es)
        → Passed has_applied app failed eq was_given has_brought stands is_kept base leaves AreTurns (Ok n) x z v u
    passed_closing {n} x y z v w u stands is_kept base leaves some first stays place word waiting gives brings =
        (first.0, first.1, first.2, goes_closing x y z v w u first.0 (came_by first.0) first.3 (turns_some n first.0 some first.1) stays place word waiting gives brings)

    -- a round by deeds of which this is the first
    pub went_closing : {T : Type 0} (r : Result T ServeFault) (f : Deed D) (fs : List (Deed D)) (cs : List (Carried D)) (x y z : Server R A D) (v w u : W) (stands : R → Record → Record → Type 0) (is_kept : R → Type 0) (base : R → Record → Type 0) (leaves : R → Record → Record → Type 0)
        → GoesOn has_applied app failed eq was_given has_brought (f ∷ fs) cs [] x y v w → OnOk r (Stays has_applied app failed y.seat z.seat) → OnErr r (Halts has_applied app failed stands is_kept base leaves y.seat z.seat) → z.place ≡ y.place → z.word ≡ y.word → z.waiting ≡ y.waiting
        → ((es : List (Carried D)) → was_given w es → was_given u es) → ((es : List (Carried D)) → has_brought w es → has_brought u es)
        → Went has_applied app failed eq was_given has_brought stands is_kept base leaves r (f ∷ fs) cs [] x z v u
    went_closing (Ok t) f fs cs x y z v w u stands is_kept base leaves first stays halts place word waiting gives brings =
        (first.0, first.1, first.2, goes_closing x y z v w u (f ∷ (fs ++ first.0)) [] first.3 (λ e. cc) stays place word waiting gives brings)
    went_closing (Err e) f fs cs x y z v w u stands is_kept base leaves first stays halts place word waiting gives brings =
        halts_after has_applied app failed eq was_given has_brought stands is_kept base leaves x y z v w u (f ∷ (fs ++ first.0)) [] [] first.2 first.3 (halts_at_once has_applied app failed eq was_given has_brought stands is_kept base leaves y z w u halts gives brings)

    -- a round by just one deed
    pub went_by_closing : {T : Type 0} (r : Result T ServeFault) (f : Deed D) (x y z : Server R A D) (v w u : W) (stands : R → Record → Record → Type 0) (is_kept : R → Type 0) (base : R → Record → Type 0) (leaves : R → Record → Record → Type 0)
        → Goes has_applied app failed eq was_given has_brought x y v w (f ∷ []) [] → OnOk r (Stays has_applied app failed y.seat z.seat) → OnErr r (Halts has_applied app failed stands is_kept base leaves y.seat z.seat) → z.place ≡ y.place → z.word ≡ y.word → z.waiting ≡ y.waiting
        → ((es : List (Carried D)) → was_given w es → was_given u es) → ((es : List (Carried D)) → has_brought w es → has_brought u es)
        → WentJustBy has_applied app failed eq was_given has_brought stands is_kept base leaves r (f ∷ []) x z v u
    went_by_closing (Ok t) f x y z v w u stands is_kept base leaves first stays halts place word waiting gives brings = goes_closing x y z v w u (f ∷ []) [] first (λ e. cc) stays place word waiting gives brings
    went_by_closing (Err e) f x y z v w u stands is_kept base leaves first stays halts place word waiting gives brings = inr (record { last = y; wire = w; goes = first; halts = halts; silent = gives; idle = brings })

    pub just_by_err : {T : Type 0} (r : Result T ServeFault) (ds : List (Deed D)) (x z : Server R A D) (v w : W) (stands : R → Record → Record → Type 0) (is_kept : R → Type 0) (base : R → Record → Type 0) (leaves : R → Record → Record → Type 0) → IsErr r
        → Halted has_applied app failed eq was_given has_brought stands is_kept base leaves [] x z v w → WentJustBy has_applied app failed eq was_given has_brought stands is_kept base leaves r ds x z v w
    just_by_err (Ok t) ds x z v w stands is_kept base leaves is h = absurd (let e : false ≡ true = is in cc)
    just_by_err (Err e) ds x z v w stands is_kept base leaves is h = inl h

  module _ {W : Type 0} (was_given has_brought : W → List (Carried D) → Type 0) where
    module _ (is_kept : R → Type 0) (leaves : R → Record → Record → Type 0) where
      -- nothing was done at all
      pub first_none : (x : Server R A D) (v : W) → WritesFirst has_applied app failed eq was_given has_brought is_kept leaves x v v
      first_none x v = record { last = x; wire = v; deeds = []; goes = goes_none has_applied app failed eq (was_given_or_held was_given) (has_brought_beside has_brought) x (x.held, v); written = inr (refl, refl); silent = λ ds g. g }

      -- the wire was given nothing more
      pub first_still : (x : Server R A D) (v w u : W) → WritesFirst has_applied app failed eq was_given has_brought is_kept leaves x v w → IsGivenNothing was_given w u → WritesFirst has_applied app failed eq was_given has_brought is_kept leaves x v u
      first_still x v w u f nothing = record { last = f.last; wire = f.wire; deeds = f.deeds; goes = f.goes; written = f.written; silent = λ ds g. nothing ds (f.silent ds g) }

      -- one more round
      pub first_more : (x y : Server R A D) (v w u : W) (ds : List (Deed D)) → WritesFirst has_applied app failed eq was_given has_brought is_kept leaves x v w
          → Goes has_applied app failed eq (was_given_or_held was_given) (has_brought_beside has_brought) x y (x.held, v) (y.held, u) ds (came_by ds)
          → IsWrittenFirst is_kept leaves was_given y w u → WritesFirst has_applied app failed eq was_given has_brought is_kept leaves x v u
      first_more x y v w u ds f goes (inl written) = record { last = y; wire = u; deeds = ds; goes = goes; written = inl written; silent = λ es g. g }
      first_more x y v w u ds f goes (inr nothing) = first_still x v w u f nothing

      -- the wire was given nothing before either
      pub first_after : (y : Server R A D) (v w u : W) → IsGivenNothing was_given v w → IsWrittenFirst is_kept leaves was_given y w u → IsWrittenFirst is_kept leaves was_given y v u
      first_after y v w u nothing (inl written) = inl written
      first_after y v w u nothing (inr silent) = inr (λ ds g. silent ds (nothing ds g))
