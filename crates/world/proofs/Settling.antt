-- How a seat moves: each of the facts that a node's calls give makes a move.
use Rattle.std.proofs.Common.{◌≡◌, ℕ, suc, Bool, true, false, cond, refl, ◌⊎◌, inl, inr, sym, subst, ap, ap₂, ◌∙◌, Option, Some, None, Ok, Err, ⊎_elim, List, [], map}
use Rattle.records.specs.Law.{Fate, Grew, Went, passing}
use Rattle.records.specs.declared.records.RecordsFault.TheVariants.{Store}
use Rattle.acceptor.specs.Steps.{Acceptor}
use Rattle.std.specs.Prelude.{if◌then◌else◌}
use Rattle.std.proofs.lemmas.Bool.{false≢true}
use Rattle.std.proofs.lemmas.Option.{none-some, same_Some}
use Rattle.ballots.specs.Terms.{Setup}
use Rattle.ballots.specs.declared.value.Value.{Value}
use Rattle.member.specs.Drafts.{write_in}
use Rattle.member.specs.Steps.{Input, effect_of}
use Rattle.node.specs.declared.draft.Draft.{Draft}
use Rattle.node.specs.Nodes.{IsDrafted, Node, RunsAs, Steps as StepsOf, Took, posted, step_of}
use Rattle.node.specs.declared.outbox.Outbox.{Outbox}
use Rattle.paxos.specs.Application.{Application}
use Rattle.paxos.specs.Records.{Record, Write, Nothing, NewPromise, NewVote, NewLearnt, writes, written}
use Rattle.paxos.specs.Step.{Running, Effect, quiet, resumed}
use Rattle.paxos.specs.WellFormed.{IsRecord}
use Rattle.paxos.specs.World.{Member as Part, Choice, applies, applies_to, settles, stops_in}
use Rattle.world.specs.Seats.{Did, IsKeptAt, IsPart, IsSeat, MayStart, MayStay, MayStep, MayStop, MayStopIn, Moves, Stands, part_after, store_in}
use Rattle.world.specs.declared.seat.Seat.{Seat}
use Rattle.world.specs.Posts.{packet_in}
use Rattle.world.proofs.Posted.{says_all}

-- what a stop leaves, that keeps a write or loses it
abbrev left_of : Write → Record → Bool → Record
left_of write r left = written (if left then write else Nothing) r

-- A store has failed: of the records that may stand then, each was left with the write or without it, and the store does that.
pub record Failure (stands : Record → Record → Type 0) (Does : Option Bool → Type 0) (last : Record) (write : Write) : Type 0 where
  pub first : Record
  pub second : Record
  pub stand : stands first second
  pub leaves : (r : Record) → (r ≡ first) ⊎ (r ≡ second) → (left : Bool) × (r ≡ left_of write last left) × Does (Some left)

module _ {R A : Type 0} (stands : R → Record → Record → Type 0) (is_kept : R → Type 0) (has_applied : List (List ℕ) → List Value → A → Type 0) (Given : Part → Type 0) (old new : Seat R A) where
  -- a member that runs on
  module _ (x y : Node R A) (there : old.node ≡ Some x) (here : new.node ≡ Some y) (kept : is_kept y.member.acceptor.records → is_kept x.member.acceptor.records) where
    -- its records were kept if they are
    kept_still : IsKeptAt is_kept new → IsKeptAt is_kept old
    kept_still k = record {
      running = λ z q. subst (λ (v : Node R A). is_kept v.member.acceptor.records) (same_Some x z (sym there ∙ q)) (kept (k.running y here));
      stopped = λ r q s. absurd (none-some x (sym q ∙ there));
    }

    -- it has kept just what it has kept
    stands_new : Stands stands new y.member.acceptor.kept y.member.acceptor.kept
    stands_new = record {
      running = λ z q. let e = same_Some y z (sym here ∙ q) in (ap (λ (v : Node R A). v.member.acceptor.kept) e, ap (λ (v : Node R A). v.member.acceptor.kept) e);
      stopped = λ q. absurd (none-some y (sym q ∙ here));
    }

    -- it sits there as it runs
    part_new : (k : Record) (z : Part) → k ≡ y.member.acceptor.kept → z.kept ≡ k → (u : Running) → z.running ≡ Some u → RunsAs has_applied u y → IsPart has_applied new k z
    part_new k z own q u r this = record {
      kept_is = q;
      running = λ v h. let e = same_Some y v (sym here ∙ h) in (u, r, subst (RunsAs has_applied u) e this, own ∙ ap (λ (w : Node R A). w.member.acceptor.kept) e);
      stopped = λ h. absurd (none-some y (sym h ∙ here));
    }

    -- nothing happens to it
    pub stays : y.member.acceptor.kept ≡ x.member.acceptor.kept → ((u : Running) → RunsAs has_applied u x → RunsAs has_applied u y) → Moves stands is_kept has_applied Given MayStay old new [] []
    stays same this = record {
      kept = kept_still;
      changes = λ k a b s. (
        y.member.acceptor.kept,
        y.member.acceptor.kept,
        stands_new,
        λ c q. (
          x.member.acceptor.kept,
          inl (sym (s.running x there).0),
          λ z given p.
              let u = p.running x there in
              let c_is : c ≡ y.member.acceptor.kept = ⊎_elim (λ (e : c ≡ y.member.acceptor.kept). e) (λ (e : c ≡ y.member.acceptor.kept). e) q in (
                record { write = Nothing; running = z.running; sends = []; tells = [] },
                refl,
                refl,
                refl,
                part_new c (part_after z (record { write = Nothing; running = z.running; sends = []; tells = [] })) c_is (p.kept_is ∙ sym same ∙ sym c_is) u.0 u.1 (this u.0 u.2),
              ),
        ),
      );
    }

    -- it takes a step
    pub steps : (Does : Write → Option Bool → Type 0) (app : Application) (t : Setup) (i : Input) (o : Outbox) (write : Write) → x.setup ≡ t
        → StepsOf has_applied app i x y o
        → ((u : Running) → RunsAs has_applied u x → write ≡ (effect_of app x.setup.members x.setup.member x.member.acceptor.kept u i).write)
        → (is_kept y.member.acceptor.records → Does write None)
        → Moves stands is_kept has_applied Given (MayStep Does app t.members t.member i) old new (map (packet_in t.group) (posted t.members t.member o.sent.items)) o.tells.items
    steps Does app t i o write place took same_write does = record {
      kept = kept_still;
      changes = λ k a b s. (
        y.member.acceptor.kept,
        y.member.acceptor.kept,
        stands_new,
        λ c q. (
          x.member.acceptor.kept,
          inl (sym (s.running x there).0),
          λ z given p.
              let u = p.running x there in
              let c_is : c ≡ y.member.acceptor.kept = ⊎_elim (λ (e : c ≡ y.member.acceptor.kept). e) (λ (e : c ≡ y.member.acceptor.kept). e) q in
              let step = took u.0 u.2 in
              moved c c_is z p.kept_is u.0 u.1 step.0 step.1 (same_write u.0 u.2) (does (k.running y here)),
        ),
      );
    }
      where
        moved : (c : Record) → c ≡ y.member.acceptor.kept → (z : Part) → z.kept ≡ x.member.acceptor.kept → (u : Running) → z.running ≡ Some u → (j : ℕ) → Took has_applied (step_of app x u i j) x y o
            → write ≡ (effect_of app x.setup.members x.setup.member x.member.acceptor.kept u i).write → Does write None
            → (e : Effect) × MayStep Does app t.members t.member i z e × (e.sends ≡ map (packet_in t.group) (posted t.members t.member o.sent.items)) × (e.tells ≡ o.tells.items) × IsPart has_applied new c (part_after z e)
        moved c c_is z z_is u r j took_so w d = (
          settles t.members choice (effect_of app t.members t.member z.kept u i),
          (u, r, choice, subst (λ v. Does v None) (w ∙ sym (ap (λ (e : Effect). e.write) alike)) d, refl),
          ap (λ (e : Effect). e.sends) same ∙ sym (says_all x.setup.group (step_of app x u i j).sends took_so.reads) ∙ ap (map (packet_in x.setup.group)) took_so.sends
              ∙ ap (λ (v : Setup). map (packet_in v.group) (posted v.members v.member o.sent.items)) place,
          ap (λ (e : Effect). e.tells) same ∙ took_so.tells,
          part_new c (part_after z (settles t.members choice (effect_of app t.members t.member z.kept u i))) c_is
              (ap₂ written (ap (λ (e : Effect). e.write) same) z_is ∙ sym took_so.record_is ∙ sym c_is)
              took_so.running
              (ap (λ (e : Effect). e.running) same ∙ took_so.runs)
              took_so.runs_as,
        )
          where
            choice : Choice
            choice = record { fails = None; applied = j }

            alike : effect_of app t.members t.member z.kept u i ≡ effect_of app x.setup.members x.setup.member x.member.acceptor.kept u i
            alike = rw (sym place) (rw z_is refl)

            same : settles t.members choice (effect_of app t.members t.member z.kept u i) ≡ step_of app x u i j
            same = rw (sym place) (rw z_is refl)

  -- a member that stops, and leaves its records
  module _ (x : Node R A) (r : Setup × R) (there : old.node ≡ Some x) (empty : new.node ≡ None) (left : new.left ≡ Some r) (kept : is_kept r.1 → is_kept x.member.acceptor.records) where
    -- the records were kept if they are
    kept_before : IsKeptAt is_kept new → IsKeptAt is_kept old
    kept_before k = record {
      running = λ z q. subst (λ (v : Node R A). is_kept v.member.acceptor.records) (same_Some x z (sym there ∙ q)) (kept (k.stopped r empty left));
      stopped = λ q h. absurd (none-some x (sym h ∙ there));
    }

    -- these records stand
    stands_left : (a b : Record) → stands r.1 a b → Stands stands new a b
    stands_left a b s = record { running = λ z q. absurd (none-some z (sym empty ∙ q)); stopped = λ q. (r, left, s) }

    -- a stopped member sits there
    part_left : (k : Record) (z : Part) → z.kept ≡ k → z.running ≡ None → IsPart has_applied new k z
    part_left k z q h = record { kept_is = q; running = λ v e. absurd (none-some v (sym empty ∙ e)); stopped = λ e. h }

    -- it stops
    pub stops : (is_kept r.1 → stands r.1 x.member.acceptor.kept x.member.acceptor.kept) → Moves stands is_kept has_applied Given MayStop old new [] []
    stops law = record {
      kept = kept_before;
      changes = λ k a b s. (
        x.member.acceptor.kept,
        x.member.acceptor.kept,
        stands_left x.member.acceptor.kept x.member.acceptor.kept (law (k.stopped r empty left)),
        λ c q. (
          x.member.acceptor.kept,
          inl (sym (s.running x there).0),
          λ z given p.
              let u = p.running x there in
              let c_is : c ≡ x.member.acceptor.kept = ⊎_elim (λ (e : c ≡ x.member.acceptor.kept). e) (λ (e : c ≡ x.member.acceptor.kept). e) q in
              (stops_in false (quiet u.0), (u.0, u.1, refl), refl, refl, part_left c (part_after z (stops_in false (quiet u.0))) (p.kept_is ∙ sym c_is) refl),
        ),
      );
    }

    -- it stops in a write that is kept
    pub stops_in_write : (Does : Write → Option Bool → Type 0) (app : Application) (t : Setup) (i : Input) (now : Record) (write : Write) → x.setup ≡ t
        → ((u : Running) → RunsAs has_applied u x → now ≡ written (effect_of app x.setup.members x.setup.member x.member.acceptor.kept u i).write x.member.acceptor.kept)
        → ((u : Running) → RunsAs has_applied u x → write ≡ (effect_of app x.setup.members x.setup.member x.member.acceptor.kept u i).write)
        → (is_kept r.1 → stands r.1 now now) → (is_kept r.1 → Does write None)
        → Moves stands is_kept has_applied Given (MayStopIn Does app t.members t.member i true) old new [] []
    stops_in_write Does app t i now write place wrote same_write law does = record {
      kept = kept_before;
      changes = λ k a b s. (
        now,
        now,
        stands_left now now (law (k.stopped r empty left)),
        λ c q. (
          x.member.acceptor.kept,
          inl (sym (s.running x there).0),
          λ z given p.
              let u = p.running x there in
              let c_is : c ≡ now = ⊎_elim (λ (e : c ≡ now). e) (λ (e : c ≡ now). e) q in
              let effect = effect_of app t.members t.member z.kept u.0 i in (
                stops_in true effect,
                (u.0, u.1, None, subst (λ v. Does v None) (same_write u.0 u.2 ∙ sym (ap (λ (e : Effect). e.write) (alike z p.kept_is u.0))) (does (k.stopped r empty left)), refl),
                refl,
                refl,
                part_left c (part_after z (stops_in true effect))
                    (same z p.kept_is u.0 ∙ sym (wrote u.0 u.2) ∙ sym c_is) refl,
              ),
        ),
      );
    }
      where
        alike : (z : Part) → z.kept ≡ x.member.acceptor.kept → (u : Running) → effect_of app t.members t.member z.kept u i ≡ effect_of app x.setup.members x.setup.member x.member.acceptor.kept u i
        alike z z_is u = rw (sym place) (rw z_is refl)

        same : (z : Part) → z.kept ≡ x.member.acceptor.kept → (u : Running)
            → written (effect_of app t.members t.member z.kept u i).write z.kept ≡ written (effect_of app x.setup.members x.setup.member x.member.acceptor.kept u i).write x.member.acceptor.kept
        same z z_is u = rw (sym place) (rw z_is refl)

    -- its store fails, in a step or in a stop that keeps its write
    module _ (Does : Write → Option Bool → Type 0) (app : Application) (t : Setup) (i : Input) (write : Write) (place : x.setup ≡ t)
        (same_write : (u : Running) → RunsAs has_applied u x → write ≡ (effect_of app x.setup.members x.setup.member x.member.acceptor.kept u i).write)
        (failure : is_kept r.1 → Failure (stands r.1) (Does write) x.member.acceptor.kept write) where
      -- one of the two records
      abbrev left_by : Bool → Record
      left_by left = left_of write x.member.acceptor.kept left

      same_effect : (z : Part) → z.kept ≡ x.member.acceptor.kept → (u : Running) → effect_of app t.members t.member z.kept u i ≡ effect_of app x.setup.members x.setup.member x.member.acceptor.kept u i
      same_effect z z_is u = rw (sym place) (rw z_is refl)

      -- what may be left is left by a stop
      left_in : (left : Bool) (c : Record) → c ≡ left_by left → (z : Part) → z.kept ≡ x.member.acceptor.kept → (u : Running) → RunsAs has_applied u x
          → IsPart has_applied new c (part_after z (stops_in left (effect_of app t.members t.member z.kept u i)))
      left_in true c q z z_is u this = part_left c (part_after z (stops_in true (effect_of app t.members t.member z.kept u i)))
          (ap₂ written (ap (λ (e : Effect). e.write) (same_effect z z_is u) ∙ sym (same_write u this)) z_is ∙ sym q) refl
      left_in false c q z z_is u this = part_left c (part_after z (stops_in false (effect_of app t.members t.member z.kept u i))) (z_is ∙ sym q) refl

      -- what its store does with what is written
      does_so : (left : Bool) → Does write (Some left) → (z : Part) → z.kept ≡ x.member.acceptor.kept → (u : Running) → RunsAs has_applied u x → Does (effect_of app t.members t.member z.kept u i).write (Some left)
      does_so left d z z_is u this = subst (λ v. Does v (Some left)) (same_write u this ∙ sym (ap (λ (e : Effect). e.write) (same_effect z z_is u))) d

      -- in a step that writes
      pub fails_in_step : writes write ≡ true → Moves stands is_kept has_applied Given (MayStep Does app t.members t.member i) old new [] []
      fails_in_step w = record {
        kept = kept_before;
        changes = λ k a b s.
            let f = failure (k.stopped r empty left) in (
              f.first,
              f.second,
              stands_left f.first f.second f.stand,
              λ c q. (
                x.member.acceptor.kept,
                inl (sym (s.running x there).0),
                λ z given p.
                    let u = p.running x there in
                    let l = f.leaves c q in
                    failed c z p.kept_is u.0 u.1 u.2 l.0 l.1 l.2,
              ),
            );
      }
        where
          failed : (c : Record) (z : Part) → z.kept ≡ x.member.acceptor.kept → (u : Running) → z.running ≡ Some u → RunsAs has_applied u x → (left : Bool) → c ≡ left_by left → Does write (Some left)
              → (e : Effect) × MayStep Does app t.members t.member i z e × (e.sends ≡ []) × (e.tells ≡ []) × IsPart has_applied new c (part_after z e)
          failed c z z_is u runs this left q d =
              let choice : Choice = record { fails = Some left; applied = 0 } in
              let effect = effect_of app t.members t.member z.kept u i in
              let does : writes effect.write ≡ true = ap (λ (e : Effect). writes e.write) (same_effect z z_is u) ∙ ap writes (sym (same_write u this)) ∙ w in
              let stopped : settles t.members choice effect ≡ stops_in left effect = ap (λ b. applies t.members 0 (if b then stops_in left effect else effect)) does in (
                settles t.members choice effect,
                (u, runs, choice, does_so left d z z_is u this, refl),
                ap (λ (e : Effect). e.sends) stopped,
                ap (λ (e : Effect). e.tells) stopped,
                subst (λ (e : Effect). IsPart has_applied new c (part_after z e)) (sym stopped) (left_in left c q z z_is u this),
              )

      -- in a stop that was to keep its write
      pub fails_in_stop : Moves stands is_kept has_applied Given (MayStopIn Does app t.members t.member i true) old new [] []
      fails_in_stop = record {
        kept = kept_before;
        changes = λ k a b s.
            let f = failure (k.stopped r empty left) in (
              f.first,
              f.second,
              stands_left f.first f.second f.stand,
              λ c q. (
                x.member.acceptor.kept,
                inl (sym (s.running x there).0),
                λ z given p.
                    let u = p.running x there in
                    let l = f.leaves c q in
                    (stops_in l.0 (effect_of app t.members t.member z.kept u.0 i), (u.0, u.1, Some l.0, does_so l.0 l.2 z p.kept_is u.0 u.2, refl), refl, refl, left_in l.0 c l.1 z p.kept_is u.0 u.2),
              ),
            );
      }

  -- a member that starts from the records that were left
  module _ (x : Node R A) (r : Setup × R) (empty : old.node ≡ None) (left : old.left ≡ Some r) (here : new.node ≡ Some x) (kept : is_kept x.member.acceptor.records → is_kept r.1) where
    -- the records were kept if they are
    kept_then : IsKeptAt is_kept new → IsKeptAt is_kept old
    kept_then k = record {
      running = λ z q. absurd (none-some z (sym empty ∙ q));
      stopped = λ s h q. subst (λ (p : Setup × R). is_kept p.1) (same_Some r s (sym left ∙ q)) (kept (k.running x here));
    }

    -- it starts
    pub starts : (Does : Write → Option Bool → Type 0) (n m : ℕ) → Does Nothing None → ((z : Part) → Given z → IsRecord n z.kept)
        → (IsRecord n x.member.acceptor.kept → (k : ℕ) × RunsAs has_applied (applies_to n k (resumed m x.member.acceptor.kept)) x)
        → (is_kept x.member.acceptor.records → (a b : Record) → stands r.1 a b → (x.member.acceptor.kept ≡ a) ⊎ (x.member.acceptor.kept ≡ b))
        → Moves stands is_kept has_applied Given (MayStart Does n m) old new [] []
    starts Does n m does fits is_started loaded = record {
      kept = kept_then;
      changes = λ k a b s.
          let t = s.stopped empty in
          let own : (x.member.acceptor.kept ≡ a) ⊎ (x.member.acceptor.kept ≡ b) = loaded (k.running x here) a b (subst (λ (v : Setup × R). stands v.1 a b) (same_Some t.0 r (sym t.1 ∙ left)) t.2) in (
            x.member.acceptor.kept,
            x.member.acceptor.kept,
            now,
            λ c q. (
              x.member.acceptor.kept,
              own,
              λ z given p.
                  let c_is : c ≡ x.member.acceptor.kept = ⊎_elim (λ (e : c ≡ x.member.acceptor.kept). e) (λ (e : c ≡ x.member.acceptor.kept). e) q in
                  let s = is_started (subst (IsRecord n) p.kept_is (fits z given)) in
                  let u = applies_to n s.0 (resumed m z.kept) in (
                    applies n s.0 (quiet (resumed m z.kept)),
                    (p.stopped empty, inl (s.0, does, refl)),
                    refl,
                    refl,
                    record {
                      kept_is = p.kept_is ∙ sym c_is;
                      running = λ v h. let e = same_Some x v (sym here ∙ h) in (
                        u,
                        refl,
                        subst (RunsAs has_applied u) e (subst (λ r. RunsAs has_applied (applies_to n s.0 (resumed m r)) x) (sym p.kept_is) s.1),
                        c_is ∙ ap (λ (w : Node R A). w.member.acceptor.kept) e,
                      );
                      stopped = λ h. absurd (none-some x (sym h ∙ here));
                    },
                  ),
            ),
          );
    }
      where
        now : Stands stands new x.member.acceptor.kept x.member.acceptor.kept
        now = record {
          running = λ z q. let e = same_Some x z (sym here ∙ q) in (ap (λ (v : Node R A). v.member.acceptor.kept) e, ap (λ (v : Node R A). v.member.acceptor.kept) e);
          stopped = λ q. absurd (none-some x (sym q ∙ here));
        }

  -- a stopped member whose records are lent to a store that fails, or that finds no memory
  module _ (r s : Setup × R) (empty : old.node ≡ None) (left : old.left ≡ Some r) (still : new.node ≡ None) (back : new.left ≡ Some s) (kept : is_kept s.1 → is_kept r.1)
      (crash : is_kept s.1 → (a b : Record) → stands r.1 a b → stands s.1 a b) where
    -- a move in which nothing changes
    idle : (May : Part → Effect → Type 0) → ((z : Part) → z.running ≡ None → May z (record { write = Nothing; running = z.running; sends = []; tells = [] }))
        → Moves stands is_kept has_applied Given May old new [] []
    idle May may = record {
      kept = λ k. record {
        running = λ z q. absurd (none-some z (sym empty ∙ q));
        stopped = λ v h q. subst (λ (p : Setup × R). is_kept p.1) (same_Some r v (sym left ∙ q)) (kept (k.stopped s still back));
      };
      changes = λ k a b p.
          let t = p.stopped empty in (
            a,
            b,
            record {
              running = λ z q. absurd (none-some z (sym still ∙ q));
              stopped = λ h. (s, back, crash (k.stopped s still back) a b (subst (λ (v : Setup × R). stands v.1 a b) (same_Some t.0 r (sym t.1 ∙ left)) t.2));
            },
            λ c q. (
              c,
              q,
              λ z given d. (
                record { write = Nothing; running = z.running; sends = []; tells = [] },
                may z (d.stopped empty),
                refl,
                refl,
                record {
                  kept_is = d.kept_is;
                  running = λ v h. absurd (none-some v (sym still ∙ h));
                  stopped = λ h. d.stopped empty;
                },
              ),
            ),
          );
    }

    -- no memory was found
    pub idle_stays : Moves stands is_kept has_applied Given MayStay old new [] []
    idle_stays = idle MayStay (λ z h. refl)

    -- the store failed to give the record
    pub idle_starts : (Does : Write → Option Bool → Type 0) (n m : ℕ) → Does Nothing (Some false) → Moves stands is_kept has_applied Given (MayStart Does n m) old new [] []
    idle_starts Does n m does = idle (MayStart Does n m) (λ z h. (h, inr (does, refl)))

-- Where nobody sits nothing is shown.
pub nobody : {R A : Type 0} (stands : R → Record → Record → Type 0) (is_kept : R → Type 0) (has_applied : List (List ℕ) → List Value → A → Type 0) (Given : Part → Type 0) (May : Part → Effect → Type 0) (old new : Seat R A)
    → old.node ≡ None → old.left ≡ None → Moves stands is_kept has_applied Given May old new [] []
nobody stands is_kept has_applied Given May old new empty none = record {
  kept = λ k. record { running = λ z q. absurd (none-some z (sym empty ∙ q)); stopped = λ r h q. absurd (none-some r (sym none ∙ q)) };
  changes = λ k a b s. let t = s.stopped empty in absurd (none-some t.0 (sym none ∙ t.1));
}

-- A seat at which nothing happens.
pub same_seat : {R A : Type 0} (stands : R → Record → Record → Type 0) (is_kept : R → Type 0) (has_applied : List (List ℕ) → List Value → A → Type 0) (Given : Part → Type 0) (old : Seat R A) → Moves stands is_kept has_applied Given MayStay old old [] []
same_seat stands is_kept has_applied Given old = record {
  kept = λ k. k;
  changes = λ k a b s. (a, b, s, λ c q. (c, q, λ z given p. (record { write = Nothing; running = z.running; sends = []; tells = [] }, refl, refl, refl, p)));
}

-- the store of a running member, and of a stopped one
pub store_running : {R A : Type 0} (s : Seat R A) (x : Node R A) → s.node ≡ Some x → store_in s ≡ Some x.member.acceptor.records
store_running s x is = rw is refl

pub store_stopped : {R A : Type 0} (s : Seat R A) (p : Setup × R) → s.node ≡ None → s.left ≡ Some p → store_in s ≡ Some p.1
store_stopped s p none left = rw none (rw left refl)

module _ {R : Type 0} (failed : R → ℕ) (fates : R → ℕ → Fate) where
  -- what one store did, seats have done that hold it
  pub did_in : (is_cut : Bool) (a b : Option R) (q r : R) (w : Write) (f : Option Bool) → a ≡ Some q → b ≡ Some r → Did failed fates is_cut (Some q) (Some r) w f → Did failed fates is_cut a b w f
  did_in is_cut a b q r w f p s d = subst (λ x. Did failed fates is_cut x b w f) (sym p) (subst (λ x. Did failed fates is_cut (Some q) x w f) (sym s) d)

  module _ (is_cut : Bool) (q r : R) where
    -- a write that was made
    pub did_write : (stands : Record → Record → Type 0) (last : Record) {T : Type 0} (t : T) (w : Write) → Went stands (fates q) (fates r) is_cut last w (Ok t) → Did failed fates is_cut (Some q) (Some r) w None
    did_write stands last t Nothing g = record { counted = inl refl; known = λ f h. refl; rest = g }
    did_write stands last t (NewPromise b) g = record { counted = inl refl; known = λ f h. sym (g.0 f (h q refl)); rest = g.1 }
    did_write stands last t (NewVote p vote) g = record { counted = inl refl; known = λ f h. sym (g.0 f (h q refl)); rest = g.1 }
    did_write stands last t (NewLearnt value) g = record { counted = inl refl; known = λ f h. sym (g.0 f (h q refl)); rest = g.1 }

    -- a start, and one where the store fails to give the record
    pub did_start : ((k : ℕ) → fates r k ≡ fates q k) → Did failed fates is_cut (Some q) (Some r) Nothing None
    did_start same = record { counted = inl refl; known = λ f h. refl; rest = same }

    pub did_not_start : Grew (failed q) (failed r) → fates q 0 ≡ None → ((k : ℕ) → fates r k ≡ fates q k) → Did failed fates is_cut (Some q) (Some r) Nothing (Some false)
    did_not_start grown none same = record { counted = inr grown; known = λ f h. absurd (none-some f (sym none ∙ h q refl)); rest = same }

    -- a write that failed
    module _ (stands : Record → Record → Type 0) (last : Record) (w : Write) (is : writes w ≡ true) (grown : Grew (failed q) (failed r)) (law : stands last (written w last)) where
      left_as : (left : Bool) → cond left (written w last) last ≡ left_of w last left
      left_as true = refl
      left_as false = refl

      failing_write : ((f : Option Bool) → fates q 0 ≡ Some f → (left : Bool) × (passing is_cut f ≡ Some left) × stands (cond left (written w last) last) (cond left (written w last) last))
          → ((k : ℕ) → fates r k ≡ fates q (suc k)) → Failure stands (Did failed fates is_cut (Some q) (Some r) w) last w
      failing_write known rest = by (fates q 0) refl
        where
          did : (left : Bool) → ((f : Option Bool) → fates q 0 ≡ Some f → Some left ≡ passing is_cut f) → Did failed fates is_cut (Some q) (Some r) w (Some left)
          did left is_known = record {
            counted = inr grown;
            known = λ f h. is_known f (h q refl) ∙ sym (ap (λ b. if b then passing is_cut f else None) is);
            rest = λ k. rest k ∙ ap (λ b. fates q (if b then suc k else k)) (sym is);
          }

          by : (o : Fate) → fates q 0 ≡ o → Failure stands (Did failed fates is_cut (Some q) (Some r) w) last w
          by None h = record {
            first = last;
            second = written w last;
            stand = law;
            leaves = λ s e. ⊎_elim
                (λ (p : s ≡ last). (false, p, did false (λ f o. absurd (none-some f (sym h ∙ o)))))
                (λ (p : s ≡ written w last). (true, p, did true (λ f o. absurd (none-some f (sym h ∙ o)))))
                e;
          }
          by (Some f) h =
              let one = known f h in
              let now = left_of w last one.0 in
              record {
                first = now;
                second = now;
                stand = subst (λ s. stands s s) (left_as one.0) one.2;
                leaves = λ s e. (
                  one.0,
                  ⊎_elim (λ (p : s ≡ now). p) (λ (p : s ≡ now). p) e,
                  did one.0 (λ g o. sym one.1 ∙ ap (passing is_cut) (same_Some f g (sym h ∙ o))),
                );
              }

    pub did_fail : (stands : Record → Record → Type 0) (last : Record) (T : Type 0) (w : Write) → writes w ≡ true → Grew (failed q) (failed r) → stands last (written w last)
        → Went {T = T} stands (fates q) (fates r) is_cut last w (Err Store) → Failure stands (Did failed fates is_cut (Some q) (Some r) w) last w
    did_fail stands last T Nothing is grown law g = absurd (false≢true is)
    did_fail stands last T (NewPromise b) is grown law g = failing_write stands last (NewPromise b) is grown law g.0 g.1
    did_fail stands last T (NewVote p vote) is grown law g = failing_write stands last (NewVote p vote) is grown law g.0 g.1
    did_fail stands last T (NewLearnt value) is grown law g = failing_write stands last (NewLearnt value) is grown law g.0 g.1

  -- seats have done so that hold these stores
  pub failure_in : (stands : Record → Record → Type 0) (is_cut : Bool) (a b : Option R) (q r : R) (last : Record) (w : Write) → a ≡ Some q → b ≡ Some r
      → Failure stands (Did failed fates is_cut (Some q) (Some r) w) last w → Failure stands (Did failed fates is_cut a b w) last w
  failure_in stands is_cut a b q r last w p s f = record {
    first = f.first;
    second = f.second;
    stand = f.stand;
    leaves = λ x e. let l = f.leaves x e in (l.0, l.1, did_in is_cut a b q r w (Some l.0) p s l.2);
  }

-- an acceptor that ran stopped because its store failed
pub grew : {R : Type 0} (failed : R → ℕ) {old new : Acceptor R} → old.is_stopped ≡ false
    → (old.is_stopped ≡ true) × (new ≡ old) ⊎ (old.is_stopped ≡ false) × Grew (failed old.records) (failed new.records) → Grew (failed old.records) (failed new.records)
grew {R} failed {old} {new} runs cause = ⊎_elim
    (λ (p : (old.is_stopped ≡ true) × (new ≡ old)). absurd (false≢true (sym runs ∙ p.0)))
    (λ (p : (old.is_stopped ≡ false) × Grew (failed old.records) (failed new.records)). p.1)
    cause

-- a node that runs on sits there still
pub runs_still : {R A : Type 0} (t : Setup) (old new : Seat R A) (y : Node R A) → new.node ≡ Some y → new.left ≡ old.left → y.setup ≡ t → y.member.acceptor.is_stopped ≡ false → IsSeat t old → IsSeat t new
runs_still t old new y there left setup runs seat = record {
  running = λ z q. let e = same_Some y z (sym there ∙ q) in (subst (λ v. v.setup ≡ t) e setup, subst (λ v. v.member.acceptor.is_stopped ≡ false) e runs);
  stopped = λ p q. seat.stopped p (sym left ∙ q);
}

module _ {R A : Type 0} (has_applied : List (List ℕ) → List Value → A → Type 0) (meaning : List (List ℕ) → Application) (t : Setup) (i : Input) (x : Node R A) (d : Draft) (setup : x.setup ≡ t) (drafted : IsDrafted has_applied (meaning t.names) i x d) where
  -- what a draft writes is what the step does
  pub planned_write : (u : Running) → RunsAs has_applied u x → write_in d.member.change ≡ (effect_of (meaning t.names) x.setup.members x.setup.member x.member.acceptor.kept u i).write
  planned_write u r = sym (drafted.plans u r).write

  -- what is made of a draft is the step of its input
  pub steps_of : (y : Node R A) (o : Outbox) → ((j : Input) → IsDrafted has_applied (meaning x.setup.names) j x d → StepsOf has_applied (meaning x.setup.names) j x y o) → StepsOf has_applied (meaning t.names) i x y o
  steps_of y o took = subst (λ v. StepsOf has_applied (meaning v.names) i x y o) setup (took i (subst (λ v. IsDrafted has_applied (meaning v.names) i x d) (sym setup) drafted))
