-- What a node has learnt and what its record keeps, as its server goes on.
use Rattle.std.proofs.Common.{◌≡◌, ◌≤◌, ◌<◌, ℕ, suc, arith, Bool, false, refl, sym, ap, subst, ◌∙◌, List, [], ◌∷◌, ◌++◌, length, Some}
use Rattle.std.specs.Prelude.{option_map}
use Rattle.std.proofs.lemmas.Bool.{false≢true, lt-ltb}
use Rattle.std.proofs.lemmas.List.{length-append}
use Rattle.ballots.specs.declared.value.Value.{Value}
use Rattle.member.proofs.Keeping.{grows, keeps}
use Rattle.member.specs.Steps.{Hears, Input, ticked}
use Rattle.member.specs.declared.input.Tick.{Tick}
use Rattle.member.specs.declared.input.Tick.TheVariants as tick
use Rattle.acceptor.specs.Steps.{Acceptor}
use Rattle.node.specs.Nodes.{IsUnchanged, Node, RunsAs, Took as NodeTook, step_of}
use Rattle.node.specs.declared.outbox.Outbox.{Outbox}
use Rattle.paxos.proofs.News.{prefix_learnt}
use Rattle.paxos.specs.Application.{Application}
use Rattle.paxos.specs.Knowledge.{news, prefix}
use Rattle.paxos.specs.Records.{NewLearnt, NewPromise, NewVote, Nothing, Record, Write, written}
use Rattle.paxos.specs.Step.{Running, keeping, to_keep}
use Rattle.paxos.specs.World.{applies_to}
use Rattle.server_steps.specs.Going.{Goes, GoesOn, Server}
use Rattle.server_steps.specs.Keeping.{FirstAreKept, LearntIsKept, kept_by}
use Rattle.server_steps.specs.Moves.{AreDone, Deed, IsDone, Move, Place, Stays, Takes, Ticked, Ticks, Took, TookAgain, came_with, deeds_of, from_elsewhere, heard, lost, missed, no_message, seat_after, spent, ticked_so}
use Rattle.server_steps.specs.declared.seat.Seat.{Seat}
use Rattle.wires.specs.Wires.{Carried}

some_one : {A : Type 0} {a b : A} → Some a ≡ Some b → a ≡ b
some_one q = cc

-- no write takes away what is kept as learnt
written_keeps : (w : Write) (r : Record) → length r.learnt ≤ length (written w r).learnt
written_keeps Nothing r = omega arith
written_keeps (NewPromise b) r = omega arith
written_keeps (NewVote p vote) r = omega arith
written_keeps (NewLearnt value) r = let e = length-append r.learnt (value ∷ []) in omega (arith, e)

module _ {R A : Type 0} (has_applied : List (List ℕ) → List Value → A → Type 0) where
  -- A node that ran as one member of the world runs as another, which has learnt as much, and its record keeps as much.
  pub record Further (u : Running) (x y : Node R A) : Type 0 where
    pub running : Running
    pub runs_as : RunsAs has_applied running y
    pub setup : y.setup ≡ x.setup
    pub learnt : prefix x.setup.members (news u.heard) ≤ prefix x.setup.members (news running.heard)
    pub kept : kept_by x ≤ kept_by y

  further_none : (u : Running) (x : Node R A) → RunsAs has_applied u x → Further u x x
  further_none u x r = record { running = u; runs_as = r; setup = refl; learnt = omega arith; kept = omega arith }

  further_both : (u : Running) (x y z : Node R A) (f : Further u x y) → Further f.running y z → Further u x z
  further_both u x y z f g =
      let more : prefix x.setup.members (news f.running.heard) ≤ prefix x.setup.members (news g.running.heard) = subst (λ s. prefix s.members (news f.running.heard) ≤ prefix s.members (news g.running.heard)) f.setup g.learnt in
      let before = f.learnt in
      let kept_first = f.kept in
      let kept_then = g.kept in
      record { running = g.running; runs_as = g.runs_as; setup = g.setup ∙ f.setup; learnt = omega (arith, before, more); kept = omega (arith, kept_first, kept_then) }

  further_still : (failed : R → ℕ) (u : Running) (x y : Node R A) → RunsAs has_applied u x → IsUnchanged has_applied failed x y → Further u x y
  further_still failed u x y r h = record {
    running = u;
    runs_as = h.runs_as u r;
    setup = h.setup;
    learnt = omega arith;
    kept = subst (λ (k : Record). length x.member.acceptor.kept.learnt ≤ length k.learnt) (sym (ap (λ (a : Acceptor R). a.kept) h.acceptor.kept)) (omega arith);
  }

  further_took : (app : Application) (u : Running) (x y : Node R A) (i : Input) (j : ℕ) (o : Outbox) → NodeTook has_applied (step_of app x u i j) x y o → Further u x y
  further_took app u x y i j o t =
      let n = x.setup.members in
      let k = keeps app n x.setup.member x.member.acceptor.kept u i in
      let g = grows app n x.setup.member x.member.acceptor.kept u i k.running k.runs in
      let same : applies_to n j k.running ≡ t.running = some_one (sym (ap (option_map (applies_to n j)) k.runs) ∙ t.runs) in
      record {
        running = t.running;
        runs_as = t.runs_as;
        setup = t.setup;
        learnt = subst (λ (z : Running). prefix n (news u.heard) ≤ prefix n (news z.heard)) same g.0;
        kept = subst (λ (r : Record). length x.member.acceptor.kept.learnt ≤ length r.learnt) (sym t.record_is) (written_keeps _ x.member.acceptor.kept);
      }

  -- what is kept of what was learnt later is kept of what was learnt before
  pub kept_since : (count : ℕ) (x y z : Node R A) → ((v : Running) → RunsAs has_applied v x → Further v x y) → FirstAreKept has_applied count y z → FirstAreKept has_applied count x z
  kept_since count x y z further kept v r most =
      let f = further v r in
      let more = f.learnt in
      kept f.running f.runs_as (subst (λ s. count ≤ prefix s.members (news f.running.heard)) (sym f.setup) (omega (arith, most, more)))

  -- where so many were learnt, all is kept
  pub all_kept : (count : ℕ) (x z : Node R A) → ((v : Running) → RunsAs has_applied v x → count ≡ prefix x.setup.members (news v.heard)) → FirstAreKept has_applied count x z → LearntIsKept has_applied x z
  all_kept count x z is kept v r = let e = is v r in let k = kept v r (omega (arith, e)) in omega (arith, e, k)

  module _ (app : List (List ℕ) → Application) (failed : R → ℕ) where
    -- what is kept is kept still where nothing has changed since
    pub kept_still : (x y z : Seat R A) → Stays has_applied app failed y z → (y.has_lost ≡ false → LearntIsKept has_applied x.node y.node) → z.has_lost ≡ false → LearntIsKept has_applied x.node z.node
    kept_still x y z stays kept has u r =
        subst (λ (k : Record). prefix x.node.setup.members (news u.heard) ≤ length k.learnt) (sym (ap (λ (a : Acceptor R). a.kept) stays.node.acceptor.kept)) (kept (sym stays.lost ∙ has) u r)

    module _ {D : Type 0} (p : Place D) (u : Running) (x y : Seat R A) (sent : List (Carried D)) (r : RunsAs has_applied u x.node) where
      further_taking : (eq : D → D → Bool) (d : Carried D) → Takes has_applied app failed eq p d x y sent → Further u x.node y.node
      further_taking eq d (heard k from sender moves) = let s = moves.steps u r in further_took (app x.node.setup.names) u x.node y.node (Hears k) s.0 moves.outbox s.1
      further_taking eq d (no_message is stays none) = further_still failed u x.node y.node r stays.node
      further_taking eq d (from_elsewhere is stays none) = further_still failed u x.node y.node r stays.node
      further_taking eq d (lost loses none) = further_still failed u x.node y.node r loses.node

      further_ticking : (t : Tick) → Ticks has_applied app failed p t x y sent → Further u x.node y.node
      further_ticking t (ticked_so moves) = let s = moves.steps u r in further_took (app x.node.setup.names) u x.node y.node (ticked t) s.0 moves.outbox s.1
      further_ticking t (spent why stays none) = further_still failed u x.node y.node r stays.node
      further_ticking t (missed loses none) = further_still failed u x.node y.node r loses.node

      -- A tick Keep that memory was not refused to keeps one more, where the record lacks something that is learnt without a gap.
      keeps_more : Ticks has_applied app failed p tick.Keep x y sent → y.has_lost ≡ false → kept_by x.node < prefix x.node.setup.members (news u.heard) → kept_by x.node < kept_by y.node
      keeps_more (ticked_so moves) has less =
          let n = x.node.setup.members in
          let before = x.node.member.acceptor.kept in
          let s = moves.steps u r in
          let v = prefix_learnt n (news u.heard) (suc (length before.learnt)) (omega arith) (omega (arith, less)) in
          let is : to_keep n before u ≡ Some v.0 = rw (lt-ltb (length before.learnt) (prefix n (news u.heard)) less) v.1 in
          let keeps : y.node.member.acceptor.kept ≡ written (NewLearnt v.0) before = s.1.record_is ∙ ap (λ o. written (keeping u o).write before) is in
          let long = length-append before.learnt (v.0 ∷ []) in
          subst (λ (r : Record). length before.learnt < length r.learnt) (sym keeps) (omega (arith, long))
      keeps_more (spent why stays none) has less = absurd (let e = (why u r).0 in cc)
      keeps_more (missed loses none) has less = absurd (false≢true (sym has ∙ loses.lost))

    module _ {D : Type 0} (eq : D → D → Bool) (p : Place D) where
      further_done : (before : List (Carried D)) (u : Running) (x : Seat R A) (deed : Deed D) (y : Seat R A) (sent : List (Carried D)) → RunsAs has_applied u x.node
          → IsDone has_applied app failed eq p before x (record { deed = deed; after = y; sent = sent }) → Further u x.node y.node
      further_done before u x (Took d) y sent r takes = further_taking p u x y sent r eq d takes
      further_done before u x (TookAgain d) y sent r again = further_taking p u x y sent r eq d again.1
      further_done before u x (Ticked t) y sent r ticks = further_ticking p u x y sent r t ticks

      further_all : (before : List (Carried D)) (u : Running) (x : Seat R A) (ms : List (Move R A D)) → RunsAs has_applied u x.node → AreDone has_applied app failed eq p before x ms → Further u x.node (seat_after x ms).node
      further_all before u x [] r done = further_none u x.node r
      further_all before u x (m ∷ ms) r done =
          let first = further_done before u x m.deed m.after m.sent r done.0 in
          further_both u x.node m.after.node (seat_after m.after ms).node first (further_all (before ++ came_with m.deed) first.running m.after ms first.runs_as done.1)

      keeps_all : (before : List (Carried D)) (u : Running) (x y : Seat R A) (ms : List (Move R A D)) → RunsAs has_applied u x.node → AreDone has_applied app failed eq p before x ms → deeds_of ms ≡ Ticked tick.Keep ∷ [] → seat_after x ms ≡ y
          → y.has_lost ≡ false → kept_by x.node < prefix x.node.setup.members (news u.heard) → kept_by x.node < kept_by y.node
      keeps_all before u x y [] r done are is has less = absurd (let e = are in cc)
      keeps_all before u x y (m ∷ n ∷ ms) r done are is has less = absurd (let e = are in cc)
      keeps_all before u x y (m ∷ []) r done are is has less = subst (λ s. kept_by x.node < kept_by s.node) is
          (keeps_more p u x m.after m.sent r (by m.deed m.after m.sent (head_same are) done.0) (ap (λ (s : Seat R A). s.has_lost) is ∙ has) less)
        where
          head_same : {T : Type 0} {a b : T} {cs ds : List T} → a ∷ cs ≡ b ∷ ds → a ≡ b
          head_same e = cc

          by : (deed : Deed D) (s : Seat R A) (sent : List (Carried D)) → deed ≡ Ticked tick.Keep → IsDone has_applied app failed eq p before x (record { deed = deed; after = s; sent = sent }) → Ticks has_applied app failed p tick.Keep x s sent
          by deed s sent e d = subst (λ (k : Deed D). IsDone has_applied app failed eq p before x (record { deed = k; after = s; sent = sent })) e d

    module _ {D W : Type 0} (eq : D → D → Bool) (was_given has_brought : W → List (Carried D) → Type 0) (x y : Server R A D) (v w : W) where
      -- a server that went on has forgotten nothing
      pub goes_further : (ds : List (Deed D)) (bs : List (Carried D)) (u : Running) → Goes has_applied app failed eq was_given has_brought x y v w ds bs → RunsAs has_applied u x.seat.node → Further u x.seat.node y.seat.node
      goes_further ds bs u goes r =
          let t = goes x.waiting (λ d has. has) in
          subst (λ (s : Seat R A). Further u x.seat.node s.node) t.seat (further_all eq x.place x.waiting u x.seat t.moves r t.done)

      pub on_further : (fs : List (Deed D)) (cs bs : List (Carried D)) → GoesOn has_applied app failed eq was_given has_brought fs cs bs x y v w → (u : Running) → RunsAs has_applied u x.seat.node → Further u x.seat.node y.seat.node
      on_further fs cs bs on u r = goes_further (fs ++ on.0) bs u on.3 r

      -- by a tick Keep it keeps one more, where there is one
      pub goes_keeping : (bs : List (Carried D)) (u : Running) → Goes has_applied app failed eq was_given has_brought x y v w (Ticked tick.Keep ∷ []) bs → RunsAs has_applied u x.seat.node
          → y.seat.has_lost ≡ false → kept_by x.seat.node < prefix x.seat.node.setup.members (news u.heard) → kept_by x.seat.node < kept_by y.seat.node
      goes_keeping bs u goes r = let t = goes x.waiting (λ d has. has) in keeps_all eq x.place x.waiting u x.seat y.seat t.moves r t.done t.are t.seat
