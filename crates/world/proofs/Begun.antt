-- A world in which nothing has happened yet.
use Rattle.std.proofs.Common.{◌≡◌, ◌⊎◌, ◌<◌, ℕ, zero, suc, arith, nat_le, ◌&&◌, cond, Bool, true, false, refl, sym, subst, ap, ◌∙◌, inl, inr, ⊎_elim, Some, None, IsSome, List, [], ◌∷◌, ◌++◌, length}
use Rattle.std.proofs.lemmas.List.{length-replicate}
use Rattle.std.proofs.lemmas.Option.{none-some, same_Some}
use Rattle.records.specs.Law.{Fate}
use Rattle.ballots.specs.Terms.{Setup}
use Rattle.ballots.specs.declared.value.Value.{Value}
use Rattle.node.specs.Nodes.{HasStarted, Node, RunsAs}
use Rattle.paxos.specs.Application.{Application}
use Rattle.paxos.specs.Lists.{at, Has}
use Rattle.paxos.specs.Records.{Record}
use Rattle.paxos.specs.WellFormed.{IsRecord}
use Rattle.paxos.specs.Knowledge.{news, prefix}
use Rattle.paxos.specs.Step.{resumed}
use Rattle.paxos.specs.World.{World as Whole, Run, applies_to, fresh, start, started}
use Rattle.paxos.proofs.Lists.{at_replicate}
use Rattle.paxos.specs.Smooth.{SmoothRun}
use Rattle.straight_runs.proofs.Smooth.{smooth_none, smooth_run}
use Rattle.world.specs.Placed.{AreOf, ArePlaced, IsOf, IsPlaced}
use Rattle.world.specs.Reached.{Reached, ReachedBy, ReachedSmoothly}
use Rattle.world.specs.Runs.{AllRun}
use Rattle.world.specs.Seats.{IsPart}
use Rattle.world.specs.Shown.{World, AllStand, AreKept, AreSeats, Picks, Shows}
use Rattle.world.specs.declared.seat.Seat.{Seat}

-- the elements of a list with one more
pub at_cases : {A : Type 0} (xs : List A) (x y : A) (m : ℕ) → at (xs ++ x ∷ []) m ≡ Some y → (at xs m ≡ Some y) ⊎ (m ≡ suc (length xs)) × (x ≡ y)
at_cases xs x y zero h = inl h
at_cases [] x y (suc zero) h = inr (refl, same_Some x y h)
at_cases [] x y (suc (suc i)) h = absurd (none-some y h)
at_cases (z ∷ xs) x y (suc zero) h = inl h
at_cases (z ∷ xs) x y (suc (suc i)) h = ⊎_elim (λ (o : at xs (suc i) ≡ Some y). inl o) (λ (p : (suc i ≡ suc (length xs)) × (x ≡ y)). inr (ap suc p.0, p.1)) (at_cases xs x y (suc i) h)

-- nothing is kept
fresh_is_record : {n : ℕ} → IsRecord n fresh.kept
fresh_is_record = record { promise = inl refl; votes = tt; learnt = omega arith }

-- a node that has started from a record that keeps nothing has applied nothing
started_fresh : {R A : Type 0} (has_applied : List (List ℕ) → List Value → A → Type 0) (x : Node R A) (is_short : Bool) → x.member.acceptor.kept ≡ fresh.kept → HasStarted has_applied x is_short → RunsAs has_applied started x
started_fresh has_applied x is_short unwritten h =
    let n = x.setup.members in
    let m = x.setup.member in
    subst (λ k. RunsAs has_applied (record { heard = []; leader = None; applied = k }) x) (same_both (nat_le 0 0 && nat_le 0 (prefix n (news (resumed m fresh.kept).heard))) 0)
    (subst (λ k. RunsAs has_applied (applies_to n k (resumed m fresh.kept)) x) (nothing is_short h.whole h.short)
    (subst (λ r. RunsAs has_applied (applies_to n h.applied (resumed m r)) x) unwritten h.runs_as))
  where
    same_both : (b : Bool) (k : ℕ) → cond b k k ≡ k
    same_both true k = refl
    same_both false k = refl

    nothing : (b : Bool) → (b ≡ false → h.applied ≡ length x.member.acceptor.kept.learnt) → (b ≡ true → h.applied < length x.member.acceptor.kept.learnt) → h.applied ≡ 0
    nothing false whole short = whole refl ∙ ap (λ (r : Record). length r.learnt) unwritten
    nothing true whole short = absurd (omega (arith, subst (λ (r : Record). h.applied < length r.learnt) unwritten (short refl)))

-- what the member of a number is told when it is set up
abbrev setup : (g n : ℕ) → (names : List (List ℕ)) → (m : ℕ) → Setup
setup g n names m = record { group = g; member = m; members = n; names = names }

module _ {R A : Type 0} (is_kept : R → Type 0) (has_applied : List (List ℕ) → List Value → A → Type 0) where
  -- a node that has started from records that nobody had written
  pub placed : (t : Setup) (x : Node R A) (is_short : Bool) → x.setup ≡ t → x.member.acceptor.is_stopped ≡ false → (is_kept x.member.acceptor.records → x.member.acceptor.kept ≡ fresh.kept)
      → (IsRecord t.members x.member.acceptor.kept → HasStarted has_applied x is_short) → IsPlaced is_kept has_applied t (record { node = Some x; left = None })
  placed t x is_short place runs unwritten starts = record {
    seat = record {
      running = λ y e. subst (λ z. (z.setup ≡ t) × (z.member.acceptor.is_stopped ≡ false)) (same_Some x y e) (place, runs);
      stopped = λ p e. absurd (none-some p e);
    };
    node = x;
    there = refl;
    unwritten = unwritten;
    starts = λ k. started_fresh has_applied x is_short (unwritten k) (starts (subst (IsRecord t.members) (sym (unwritten k)) fresh_is_record));
  }

  module _ (g n : ℕ) (names : List (List ℕ)) where
    -- no members
    pub placed_none : ArePlaced is_kept has_applied g n names []
    placed_none zero s h = absurd (none-some s h)
    placed_none (suc m) s h = absurd (none-some s h)

    -- a member more
    pub placed_more : (seats : List (Seat R A)) (s : Seat R A) → ArePlaced is_kept has_applied g n names seats → IsPlaced is_kept has_applied (setup g n names (suc (length seats))) s → ArePlaced is_kept has_applied g n names (seats ++ s ∷ [])
    placed_more seats s all one m t h = ⊎_elim
        (λ (o : at seats m ≡ Some t). all m t o)
        (λ (p : (m ≡ suc (length seats)) × (s ≡ t)). subst (λ k. IsPlaced is_kept has_applied (setup g n names k) t) (sym p.0) (subst (IsPlaced is_kept has_applied (setup g n names (suc (length seats)))) p.1 one))
        (at_cases seats s t m h)

-- a store more
pub of_more : {R A : Type 0} (fates : R → ℕ → Fate) (ss : List (Seat R A)) (rs : List R) (s : Seat R A) (r : R) → AreOf fates ss rs → IsOf fates s r → AreOf fates (ss ++ s ∷ []) (rs ++ r ∷ [])
of_more fates [] [] s r all one = (one, tt)
of_more fates [] (q ∷ rs) s r all one = absurd all
of_more fates (t ∷ ss) [] s r all one = absurd all
of_more fates (t ∷ ss) (q ∷ rs) s r all one = (all.0, of_more fates ss rs s r all.1 one)

-- what is known of the store at a seat
pub of_at : {R A : Type 0} (fates : R → ℕ → Fate) (ss : List (Seat R A)) (rs : List R) → AreOf fates ss rs → (m : ℕ) (s : Seat R A) → at ss m ≡ Some s → (r : R) × (at rs m ≡ Some r) × IsOf fates s r
of_at fates [] [] all zero s h = absurd (none-some s h)
of_at fates [] [] all (suc m) s h = absurd (none-some s h)
of_at fates [] (q ∷ rs) all m s h = absurd all
of_at fates (t ∷ ss) [] all m s h = absurd all
of_at fates (t ∷ ss) (q ∷ rs) all zero s h = absurd (none-some s h)
of_at fates (t ∷ ss) (q ∷ rs) all (suc zero) s h = (q, refl, subst (λ x. IsOf fates x q) (same_Some t s h) all.0)
of_at fates (t ∷ ss) (q ∷ rs) all (suc (suc i)) s h = of_at fates ss rs all.1 (suc i) s h

module _ {R A : Type 0} (stands : R → Record → Record → Type 0) (is_kept : R → Type 0) (has_applied : List (List ℕ) → List Value → A → Type 0) (w : World R A) (size : length w.seats ≡ w.members) (placed : ArePlaced is_kept has_applied w.group w.members w.names w.seats)
    (sent : w.sent ≡ []) (told : w.told ≡ []) where
  -- each member runs
  pub placed_run : AllRun w
  placed_run m s h = let p = placed m s h in subst IsSome (sym p.there) refl

  -- and has its seat
  pub placed_seats : AreSeats w
  placed_seats m s h = (placed m s h).seat

  -- that very member
  the_member : (m : ℕ) (s : Seat R A) (h : at w.seats m ≡ Some s) (x : Node R A) → s.node ≡ Some x → (placed m s h).node ≡ x
  the_member m s h x e = same_Some (placed m s h).node x (sym (placed m s h).there ∙ e)

  module _ (kept : AreKept is_kept w) where
    unwritten : (m : ℕ) (s : Seat R A) (h : at w.seats m ≡ Some s) → fresh.kept ≡ (placed m s h).node.member.acceptor.kept
    unwritten m s h = sym ((placed m s h).unwritten ((kept m s h).running (placed m s h).node (placed m s h).there))

    stand : AllStand stands w (λ m. fresh.kept) (λ m. fresh.kept)
    stand m s h = record {
      running = λ x e. let q = subst (λ y. fresh.kept ≡ y.member.acceptor.kept) (the_member m s h x e) (unwritten m s h) in (q, q);
      stopped = λ e. absurd (none-some (placed m s h).node (sym e ∙ (placed m s h).there));
    }

    part : (m : ℕ) (s : Seat R A) (h : at w.seats m ≡ Some s) → IsPart has_applied s fresh.kept fresh
    part m s h = record {
      kept_is = refl;
      running = λ x e. (
        started,
        refl,
        subst (RunsAs has_applied started) (the_member m s h x e) ((placed m s h).starts ((kept m s h).running (placed m s h).node (placed m s h).there)),
        subst (λ y. fresh.kept ≡ y.member.acceptor.kept) (the_member m s h x e) (unwritten m s h),
      );
      stopped = λ e. absurd (none-some (placed m s h).node (sym e ∙ (placed m s h).there));
    }

    shows : (now : ℕ → Record) → Picks now (λ m. fresh.kept) (λ m. fresh.kept) → Shows has_applied w now (start w.members)
    shows now picks = record {
      sent = sym sent;
      told = sym told;
      size = length-replicate w.members fresh ∙ sym size;
      parts = λ m s y h g. subst (IsPart has_applied s (now m)) (at_replicate w.members m fresh y g) (subst (λ r. IsPart has_applied s r fresh) (sym (⊎_elim (λ (e : now m ≡ fresh.kept). e) (λ (e : now m ≡ fresh.kept). e) (picks m))) (part m s h));
      for_clients = λ k h. absurd (subst (λ ps. Has ps k) sent h);
    }

    -- no event has led to it
    begun : (Leads : Whole → Type 0) → Leads (start w.members) → ReachedBy stands has_applied w Leads
    begun Leads l = record { first = λ m. fresh.kept; second = λ m. fresh.kept; stand = stand; runs = λ now picks. (start w.members, l, shows now picks) }

  pub begun_run : (app : Application) → AreKept is_kept w → Reached stands has_applied app w []
  begun_run app kept = begun kept (Run app (start w.members) []) (smooth_run app w.members [] (start w.members) (smooth_none app w.members))

  pub begun_smoothly : (app : Application) → AreKept is_kept w → ReachedSmoothly stands has_applied app w []
  begun_smoothly app kept = begun kept (SmoothRun app w.members []) (smooth_none app w.members)
