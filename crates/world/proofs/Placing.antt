-- A change at one place of what code holds.
use Rattle.std.proofs.Common.{◌≡◌, ◌-◌, ◌<◌, ◌≤◌, ℕ, zero, suc, Bool, false, arith, refl, inl, sym, subst, ap, ◌∙◌, Result, Option, None, Some, IfOk, IfSome, ⊎_elim, List, [], ◌∷◌, ◌++◌, map, length, append-nil, slice_get, slice_set}
use Rattle.std.specs.Option.{option_and_then}
use Rattle.std.specs.Prelude.{if◌then◌else◌}
use Rattle.std.proofs.Math.ListN.{get_or}
use Rattle.std.proofs.lemmas.Bool.{cases_eq}
use Rattle.std.proofs.lemmas.Option.{none-some, same_Some, slice_get_read}
use Rattle.records.specs.Law.{Fate, passing}
use Rattle.ballots.specs.Messages.{Packet}
use Rattle.ballots.specs.Terms.{Setup}
use Rattle.ballots.specs.declared.value.Value.{Value}
use Rattle.member.specs.Steps.{Input}
use Rattle.node.specs.declared.draft.Draft.{Draft}
use Rattle.node.specs.declared.outbox.Outbox.{Outbox}
use Rattle.node.specs.declared.outbox.Sent.{Sent}
use Rattle.paxos.specs.Application.{Application}
use Rattle.ballots.specs.declared.value.Pair.{Pair}
use Rattle.paxos.specs.Lists.{at, put, Has}
use Rattle.paxos.specs.Records.{Record, Write, writes}
use Rattle.paxos.specs.Step.{Effect}
use Rattle.paxos.specs.World.{Member as Part, World as Whole, told_to}
use Rattle.paxos.proofs.Lists.{at_put, at_put_other, length_put}
use Rattle.paxos.specs.Sound.{Sound}
use Rattle.paxos.proofs.Worlds.{put-same}
use Rattle.world.specs.Posts.{IsWhole, packet_in, packet_of, sent_in, unsaid}
use Rattle.world.specs.declared.mail.Delivery.{Delivery}
use Rattle.world.specs.declared.mail.Mail.{Mail}
use Rattle.world.proofs.Given.{if_none, if_some}
use Rattle.world.specs.Tellings.{told_in}
use Rattle.world.specs.Held.{IsHeld, shown}
use Rattle.world.specs.Reached.{Follows, HaveDone, Stays, Steps, store_at}
use Rattle.world.specs.Seats.{Did, IsAny, IsPlanned, IsPlannedAt, IsFit, IsSeat, MayStay, MayStep, Moves, Skips, SkipsAt, fates_of, sent_by, store_in, told_by}
use Rattle.world.specs.Shown.{Shows, setup_of}
use Rattle.world.specs.declared.seat.Seat.{Seat}
use Rattle.world.specs.declared.state.State.{State}
use Rattle.world.proofs.Happening.{stayed}
use Rattle.world.proofs.Clients.{step_goes}
use Rattle.world.proofs.Idling.{is_fit}
use Rattle.world.proofs.Lifting.{follows, idle, moved, so}

-- a number and its index
pub at_index : {A : Type 0} (xs : List A) (m : ℕ) → 1 ≤ m → slice_get xs (m - 1) ≡ at xs m
at_index xs zero h = absurd (omega arith)
at_index xs (suc i) h = let q : suc i - 1 ≡ i = omega arith in ap (slice_get xs) q

pub put_index : {A : Type 0} (xs : List A) (m : ℕ) (x : A) → 1 ≤ m → slice_set xs (m - 1) x ≡ put xs m x
put_index xs zero x h = absurd (omega arith)
put_index xs (suc i) x h = let q : suc i - 1 ≡ i = omega arith in ap (λ j. slice_set xs j x) q

-- what is read at the index of a number stands there
pub read_there : {A : Type 0} (xs : List A) (m : ℕ) (x : A) → 1 ≤ m → m ≤ length xs → x ≡ get_or xs (m - 1) x → at xs m ≡ Some x
read_there xs m x least most is = sym (at_index xs m least) ∙ slice_get_read xs (length xs) (m - 1) x refl (omega (arith, least, most)) is

-- all seats are held after a change at one place
pub seats_after : {R A : Type 0} (f : ℕ → Setup) (m : ℕ) (seats : List (Seat R A)) (s t : Seat R A) → ((j : ℕ) (r : Seat R A) → at seats j ≡ Some r → IsSeat (f j) r) → at seats m ≡ Some s → (IsSeat (f m) s → IsSeat (f m) t)
    → (j : ℕ) (r : Seat R A) → at (put seats m t) j ≡ Some r → IsSeat (f j) r
seats_after f m seats s t all there still j r h = ⊎_elim
    (λ (q : j ≡ m). subst (λ i. IsSeat (f i) r) (sym q) (subst (IsSeat (f m)) (same_Some t r (sym (at_put seats m s t there) ∙ subst (λ i. at (put seats m t) i ≡ Some r) q h)) (still (all m s there))))
    (λ (d : j ≡ m → ⊥). all j r (sym (at_put_other seats m j t d) ∙ h))
    (cases_eq j m)

module _ {R A : Type 0} (stands : R → Record → Record → Type 0) (is_kept : R → Type 0) (has_applied : List (List ℕ) → List Value → A → Type 0) (old new : State R A) (m : ℕ) (s t : Seat R A)
    (held : IsHeld old) (least : 1 ≤ m) (there : at old.seats.items m ≡ Some s)
    (members : new.members ≡ old.members) (group : new.group ≡ old.group) (names : new.names ≡ old.names) (seats : new.seats.items ≡ slice_set old.seats.items (m - 1) t) where
  -- the seats with the one that was put
  seats_are : new.seats.items ≡ put old.seats.items m t
  seats_are = seats ∙ put_index old.seats.items m t least

  -- each was set up as before
  same_setup : (j : ℕ) (r : Seat R A) → IsSeat (setup_of (shown old) j) r → IsSeat (setup_of (shown new) j) r
  same_setup j r h = subst (λ n. IsSeat (record { group = new.group; member = j; members = n; names = new.names }) r) (sym members)
      (subst (λ g. IsSeat (record { group = g; member = j; members = old.members; names = new.names }) r) (sym group)
      (subst (λ ns. IsSeat (record { group = old.group; member = j; members = old.members; names = ns }) r) (sym names) h))

  -- what is held after that
  pub held_after : (IsSeat (setup_of (shown old) m) s → IsSeat (setup_of (shown old) m) t) → IsWhole new.mail → IsHeld new
  held_after still whole = record {
    least = subst (λ n. 1 ≤ n) (sym members) held.least;
    most = subst (λ n. n ≤ 63) (sym members) held.most;
    size = ap length seats_are ∙ length_put old.seats.items m t ∙ held.size ∙ sym members;
    seats = λ j r h. same_setup j r (seats_after (setup_of (shown old)) m old.seats.items s t held.seats there still j r (subst (λ xs. at xs j ≡ Some r) seats_are h));
    whole = whole;
  }

  -- what is shown after that
  pub shown_after : (sends : List Packet) (tells : List Pair) → sent_in old.group new.mail ≡ sent_in old.group old.mail ++ sends → told_in new.told.items ≡ told_in old.told.items ++ map (told_to m) tells
      → shown new ≡ moved (shown old) m t sends tells
  shown_after sends tells sent told = rw members (rw group (rw names (rw seats_are (rw sent (rw told refl)))))

  -- its store before and after
  store_old : store_at old.seats.items m ≡ store_in s
  store_old = ap (option_and_then (λ (x : Seat R A). store_in x)) there

  store_new : store_at new.seats.items m ≡ store_in t
  store_new = ap (λ xs. store_at xs m) seats_are ∙ ap (option_and_then (λ (x : Seat R A). store_in x)) (at_put old.seats.items m s t there)

  -- what the store did from seat to seat, it did from state to state
  pub did_after : (failed : R → ℕ) (fates : R → ℕ → Fate) (is_cut : Bool) (w : Write) (f : Option Bool) → Did failed fates is_cut (store_in s) (store_in t) w f
      → Did failed fates is_cut (store_at old.seats.items m) (store_at new.seats.items m) w f
  did_after failed fates is_cut w f d = subst (λ x. Did failed fates is_cut x (store_at new.seats.items m) w f) (sym store_old) (subst (λ x. Did failed fates is_cut (store_in s) x w f) (sym store_new) d)

  -- the other stores are as they were
  pub others_after : (j : ℕ) → (j ≡ m → ⊥) → store_at new.seats.items j ≡ store_at old.seats.items j
  others_after j d = ap (λ xs. store_at xs j) seats_are ∙ ap (option_and_then (λ (x : Seat R A). store_in x)) (at_put_other old.seats.items m j t d)

  -- so are all, where its own is
  pub stores_after : store_in t ≡ store_in s → (j : ℕ) → store_at new.seats.items j ≡ store_at old.seats.items j
  stores_after same j = ⊎_elim
      (λ (q : j ≡ m). subst (λ i. store_at new.seats.items i ≡ store_at old.seats.items i) (sym q) (store_new ∙ same ∙ sym store_old))
      (λ (d : j ≡ m → ⊥). others_after j d)
      (cases_eq j m)

  -- nothing happened
  pub stays_after : sent_in old.group new.mail ≡ sent_in old.group old.mail → told_in new.told.items ≡ told_in old.told.items → Moves stands is_kept has_applied IsAny MayStay s t [] []
      → Follows stands is_kept has_applied (Sound old.members) Stays (shown old) (shown new)
  stays_after sent told moves =
      subst (λ w. Follows stands is_kept has_applied (Sound old.members) Stays (shown old) w)
      (sym (shown_after [] [] (sent ∙ sym (append-nil (sent_in old.group old.mail))) (told ∙ sym (append-nil (told_in old.told.items)))))
      (so (Steps has_applied (shown old) s m MayStay) Stays (shown old) (moved (shown old) m t [] []) (λ v z sound step. stayed has_applied (shown old) s m v z step)
      (follows stands is_kept has_applied (Sound old.members) IsAny MayStay (shown old) m s t [] [] there moves (λ before v y sound shows h. tt) (λ before v y e sound shows h may q k o. absurd o)))

  -- what was planned is planned at its place
  pub planned_after : {E : Type 0} (app : Application) (r : Result (Option Draft) E) (i : Input)
      → IfOk r (λ o. IfSome o (λ d. IsPlanned has_applied app t i d)) → IfOk r (λ o. IfSome o (λ d. IsPlannedAt has_applied app new.seats.items m i d))
  planned_after app r i h = if_some r _ _ (λ d g. (t, subst (λ xs. at xs m ≡ Some t) (sym seats_are) (at_put old.seats.items m s t there), g)) h

  -- what was skipped is skipped there
  pub skipped_after : {E : Type 0} (r : Result (Option Draft) E) (i : Input) → IfOk r (λ o. o ≡ None → Skips has_applied t i) → IfOk r (λ o. o ≡ None → SkipsAt has_applied new.seats.items m i)
  skipped_after r i h = if_none r _ _ (λ g. (t, subst (λ xs. at xs m ≡ Some t) (sym seats_are) (at_put old.seats.items m s t there), g)) h

  -- a member took a step upon what was due
  pub took_after : (Does : Write → Option Bool → Type 0) (app : Application) (i : Input) (made : Option Outbox)
      → sent_in old.group new.mail ≡ sent_in old.group old.mail ++ sent_by old.group old.members m made → told_in new.told.items ≡ told_in old.told.items ++ map (told_to m) (told_by made)
      → Moves stands is_kept has_applied IsAny (MayStep Does app old.members m i) s t (sent_by old.group old.members m made) (told_by made)
      → Follows stands is_kept has_applied (Sound old.members) (Steps has_applied (shown old) s m (MayStep Does app old.members m i)) (shown old) (shown new)
  took_after Does app i made sent told moves =
      subst (λ w. Follows stands is_kept has_applied (Sound old.members) (Steps has_applied (shown old) s m (MayStep Does app old.members m i)) (shown old) w) (sym (shown_after (sent_by old.group old.members m made) (told_by made) sent told))
      (follows stands is_kept has_applied (Sound old.members) IsAny (MayStep Does app old.members m i) (shown old) m s t (sent_by old.group old.members m made) (told_by made) there moves
      (λ before v y sound shows h. tt)
      (λ before v y e sound shows h may q k o. step_goes app old.members m i y.kept may.0 may.2 k (subst (λ (x : Effect). Has x.sends k) may.4 (subst (λ xs. Has xs k) (sym q) o))))

  -- a member took a step that sends and tells nothing
  pub silent_after : (Given : Part → Type 0) (May : Part → Effect → Type 0) → ((before : ℕ → Record) (v : Whole) (y : Part) → Sound old.members v → Shows has_applied (shown old) before v → at v.members m ≡ Some y → Given y)
      → sent_in old.group new.mail ≡ sent_in old.group old.mail → told_in new.told.items ≡ told_in old.told.items → Moves stands is_kept has_applied Given May s t [] []
      → Follows stands is_kept has_applied (Sound old.members) (Steps has_applied (shown old) s m May) (shown old) (shown new)
  silent_after Given May given sent told moves =
      subst (λ w. Follows stands is_kept has_applied (Sound old.members) (Steps has_applied (shown old) s m May) (shown old) w)
      (sym (shown_after [] [] (sent ∙ sym (append-nil (sent_in old.group old.mail))) (told ∙ sym (append-nil (told_in old.told.items)))))
      (follows stands is_kept has_applied (Sound old.members) Given May (shown old) m s t [] [] there moves given (λ before v y e sound shows h may q k o. absurd o))

  -- the record is well formed
  pub fit_after : (before : ℕ → Record) (v : Whole) (y : Part) → Sound old.members v → Shows has_applied (shown old) before v → at v.members m ≡ Some y → IsFit old.members y
  fit_after before v y sound shows h = is_fit has_applied old.members held.most (shown old) m before v sound shows y h

module _ {R A : Type 0} (failed : R → ℕ) (fates : R → ℕ → Fate) (is_cut : Bool) where
  -- what the store of a member did after nothing had changed, the stores have done
  pub have_done : (old mid end : List (Seat R A)) (m : ℕ) → ((j : ℕ) → store_at mid j ≡ store_at old j) → ((j : ℕ) → (j ≡ m → ⊥) → store_at end j ≡ store_at mid j)
      → (w : Write) (f : Option Bool) → Did failed fates is_cut (store_at mid m) (store_at end m) w f → HaveDone failed fates is_cut old end m w f
  have_done old mid end m same others w f d = record {
    own = subst (λ x. Did failed fates is_cut x (store_at end m) w f) (same m) d;
    others = λ j n k. ap (λ x. fates_of fates x k) (others j n ∙ same j);
  }

  -- where nothing is written they have done nothing
  pub nothing_done : (old new : List (Seat R A)) → ((j : ℕ) → store_at new j ≡ store_at old j) → (m : ℕ) (w : Write) → writes w ≡ false → HaveDone failed fates is_cut old new m w None
  nothing_done old new same m w is = record {
    own = record {
      counted = inl refl;
      known = λ f h. sym (ap (λ b. if b then passing is_cut f else None) is);
      rest = λ k. ap (λ x. fates_of fates x k) (same m) ∙ sym (ap (λ b. fates_of fates (store_at old m) (if b then suc k else k)) is);
    };
    others = λ j n k. ap (λ x. fates_of fates x k) (same j);
  }

-- nothing that shows has changed
pub unchanged : {R A : Type 0} (stands : R → Record → Record → Type 0) (is_kept : R → Type 0) (has_applied : List (List ℕ) → List Value → A → Type 0) (MayBe : Whole → Type 0) (old new : State R A)
    → shown new ≡ shown old → Follows stands is_kept has_applied MayBe Stays (shown old) (shown new)
unchanged stands is_kept has_applied MayBe old new same = subst (λ w. Follows stands is_kept has_applied MayBe Stays (shown old) w) (sym same) (idle Stays (shown old) (λ before v may shows. refl))

-- the bytes of a delivery
pub packet_read : (g : ℕ) (messages : List Sent) (d : Delivery) (s : Sent) → d.message < length messages → s ≡ get_or messages d.message s → packet_in g (s.bytes.items, d.target) ≡ packet_of g messages d
packet_read g messages d s there is = ap (λ o. elim o as (λ o. Packet) [
  | Some t ↦ packet_in g (t.bytes.items, d.target)
  | None ↦ unsaid d.target
]) (sym (slice_get_read messages (length messages) d.message s refl there is))

-- the same messages and deliveries
pub same_mail : (a b : Mail) → (a.messages.items ≡ b.messages.items) × (a.deliveries.items ≡ b.deliveries.items) → (g : ℕ) → sent_in g a ≡ sent_in g b
same_mail a b q g = rw q.0 (rw q.1 refl)

pub whole_mail : (a b : Mail) → (a.messages.items ≡ b.messages.items) × (a.deliveries.items ≡ b.deliveries.items) → IsWhole b → IsWhole a
whole_mail a b q h = rw q.0 (rw q.1 h)

-- what is put back as it was shows nothing
pub same_seats : {R A : Type 0} (old new : State R A) (m : ℕ) (s t : Seat R A) → 1 ≤ m → at old.seats.items m ≡ Some s → new.members ≡ old.members → new.group ≡ old.group → new.names ≡ old.names → new.seats.items ≡ slice_set old.seats.items (m - 1) t
    → sent_in old.group new.mail ≡ sent_in old.group old.mail → told_in new.told.items ≡ told_in old.told.items → t ≡ s → shown new ≡ shown old
same_seats old new m s t least there members group names seats sent told q = rw members (rw group (rw names (rw placed (rw sent (rw told refl)))))
  where
    placed : new.seats.items ≡ old.seats.items
    placed = seats ∙ put_index old.seats.items m t least ∙ ap (put old.seats.items m) q ∙ put-same old.seats.items m s there

-- who sits at the place of a member
pub seat_there : {R A : Type 0} (x : State R A) (m : ℕ) → IsHeld x → 1 ≤ m → m ≤ x.members → (s : Seat R A) × (at x.seats.items m ≡ Some s)
seat_there x m held least most = one x.seats.items m least (subst (λ n. m ≤ n) (sym held.size) most)
  where
    one : {A : Type 0} (xs : List A) (k : ℕ) → 1 ≤ k → k ≤ length xs → (y : A) × (at xs k ≡ Some y)
    one xs zero l h = absurd (omega arith)
    one [] (suc i) l h = absurd (omega arith)
    one (y ∷ xs) (suc zero) l h = (y, refl)
    one (y ∷ xs) (suc (suc i)) l h = one xs (suc i) (omega arith) (omega arith)

-- what stands at a number is within the list
pub at_within : {A : Type 0} (xs : List A) (k : ℕ) (x : A) → at xs k ≡ Some x → k ≤ length xs
at_within xs zero x h = omega arith
at_within [] (suc i) x h = absurd (none-some x h)
at_within (y ∷ xs) (suc zero) x h = omega arith
at_within (y ∷ xs) (suc (suc i)) x h = omega (arith, at_within xs (suc i) x h)
