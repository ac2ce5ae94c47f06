-- Nodes that have applied as many positions hold the same.
use Rattle.std.proofs.Common.{◌≡◌, ◌≤◌, ℕ, zero, suc, arith, refl, inl, sym, subst, ap, ◌∙◌, Option, Some, None, ⊎_elim, List, ◌++◌, length}
use Rattle.std.specs.Prelude.{option_to_list}
use Rattle.std.specs.Option.{option_and_then}
use Rattle.ballots.specs.Ballot.{most_members}
use Rattle.ballots.specs.Terms.{Setup}
use Rattle.std.proofs.lemmas.List.{append-nil}
use Rattle.std.proofs.lemmas.Option.{none-some}
use Rattle.ballots.specs.declared.value.Value.{Value}
use Rattle.node.proofs.Going.{values_count}
use Rattle.node.specs.Nodes.{Node}
use Rattle.paxos.proofs.Runs.{each_run_agrees}
use Rattle.paxos.specs.Agreement.{Agreement, IsRunning}
use Rattle.paxos.specs.Application.{Application}
use Rattle.paxos.specs.Knowledge.{Heard, learnt as learnt_at, news, prefix, values_to}
use Rattle.paxos.specs.Lists.{at}
use Rattle.paxos.specs.Records.{Record}
use Rattle.paxos.specs.Step.{Running}
use Rattle.paxos.specs.World.{World as Whole, Event as Happens, Run, start}
use Rattle.world.specs.Alike.{AreAlike, HasAppliedChosen}
use Rattle.world.specs.Reached.{Reached}
use Rattle.world.specs.Runs.{node_at}
use Rattle.world.specs.Shown.{World, AreSeats, Shows}
use Rattle.world.specs.declared.seat.Seat.{Seat}
use Rattle.world.proofs.Begun.{at_cases}
use Rattle.world.proofs.Lifting.{some_at}
use Rattle.world.proofs.Reaching.{reached_sound}

-- one learnt value more
one_more : (n : ℕ) (heard : List Heard) (k : ℕ) → k ≤ prefix n heard → (p : ℕ) (v : Value) → (at (values_to n heard k) p ≡ Some v → learnt_at n p heard ≡ Some v)
    → at (values_to n heard (suc k)) p ≡ Some v → learnt_at n p heard ≡ Some v
one_more n heard k most p v fewer h = by (learnt_at n (suc k) heard) refl
  where
    by : (o : Option Value) → learnt_at n (suc k) heard ≡ o → learnt_at n p heard ≡ Some v
    by None q = fewer (subst (λ xs. at xs p ≡ Some v) (append-nil (values_to n heard k)) (subst (λ (o : Option Value). at (values_to n heard k ++ option_to_list o) p ≡ Some v) q h))
    by (Some x) q = ⊎_elim
        (λ (o : at (values_to n heard k) p ≡ Some v). fewer o)
        (λ (e : (p ≡ suc (length (values_to n heard k))) × (x ≡ v)). subst (λ j. learnt_at n j heard ≡ Some v) (sym (e.0 ∙ ap suc (values_count n heard k most))) (q ∙ ap Some e.1))
        (at_cases (values_to n heard k) x v p (subst (λ (o : Option Value). at (values_to n heard k ++ option_to_list o) p ≡ Some v) q h))

-- a value among the first learnt ones was learnt at its position
learnt_there : (n : ℕ) (heard : List Heard) (k : ℕ) → k ≤ prefix n heard → (p : ℕ) (v : Value) → at (values_to n heard k) p ≡ Some v → learnt_at n p heard ≡ Some v
learnt_there n heard zero most zero v h = absurd (none-some v h)
learnt_there n heard zero most (suc p) v h = absurd (none-some v h)
learnt_there n heard (suc k) most p v h = one_more n heard k (omega (arith, most)) p v (learnt_there n heard k (omega (arith, most)) p v) h

module _ {R A : Type 0} (has_applied : List (List ℕ) → List Value → A → Type 0) (w : World R A) (seats : AreSeats w) (kept : ℕ → Record) (v : Whole) (size : length v.members ≡ w.members) (shows : Shows has_applied w kept v) (agreement : Agreement v) where
  -- the running member that a node is, which has applied the values that it has learnt
  runs_there : (m : ℕ) (x : Node R A) → node_at w.seats m ≡ Some x
      → (u : Running) × IsRunning v m u × (u.applied ≤ prefix (length v.members) (news u.heard)) × has_applied w.names (values_to (length v.members) (news u.heard) u.applied) x.application
  runs_there m x h = by (at w.seats m) refl
    where
      by : (o : Option (Seat R A)) → at w.seats m ≡ o
          → (u : Running) × IsRunning v m u × (u.applied ≤ prefix (length v.members) (news u.heard)) × has_applied w.names (values_to (length v.members) (news u.heard) u.applied) x.application
      by None q = absurd (none-some x (sym (ap (option_and_then (λ (s : Seat R A). s.node)) q) ∙ h))
      by (Some s) q =
          let there : s.node ≡ Some x = sym (ap (option_and_then (λ (s : Seat R A). s.node)) q) ∙ h in
          let y = some_at w.seats v.members m s shows.size q in
          let u = (shows.parts m s y.0 q y.1).running x there in
          let setup = ((seats m s q).running x there).0 in
          let many : x.setup.members ≡ length v.members = ap (λ (t : Setup). t.members) setup ∙ sym size in (
            u.0,
            record { is = y.0; there = y.1; running = u.1 },
            subst (λ n. u.0.applied ≤ prefix n (news u.0.heard)) many u.2.most,
            subst (λ n. has_applied w.names (values_to n (news u.0.heard) u.0.applied) x.application) many
                (subst (λ (t : Setup). has_applied t.names (values_to x.setup.members (news u.0.heard) u.0.applied) x.application) setup u.2.applied),
          )

  -- what it has applied is chosen
  chosen_there : (m : ℕ) (x : Node R A) (u : Running) → IsRunning v m u → u.applied ≤ prefix (length v.members) (news u.heard) → has_applied w.names (values_to (length v.members) (news u.heard) u.applied) x.application
      → HasAppliedChosen has_applied w v x (values_to (length v.members) (news u.heard) u.applied)
  chosen_there m x u runs most applied = record {
    applied = applied;
    chosen = λ p value h. agreement.told m p value (agreement.learnt m p u value runs (learnt_there (length v.members) (news u.heard) u.applied most p value h));
  }

  -- the same, of any node
  pub applied_chosen : (m : ℕ) (x : Node R A) → node_at w.seats m ≡ Some x → (values : List Value) × HasAppliedChosen has_applied w v x values
  applied_chosen m x h = let a = runs_there m x h in (values_to (length v.members) (news a.0.heard) a.0.applied, chosen_there m x a.0 a.1 a.2 a.3)

  -- two nodes
  pub both_alike : (app : Application) (events : List Happens) → Run app (start w.members) events v → (k m : ℕ) (x y : Node R A) → node_at w.seats k ≡ Some x → node_at w.seats m ≡ Some y → AreAlike has_applied app w events x y
  both_alike app events run k m x y at_x at_y =
      let a = runs_there k x at_x in
      let b = runs_there m y at_y in
      let n = length v.members in
      record {
        whole = v;
        run = run;
        first = values_to n (news a.0.heard) a.0.applied;
        second = values_to n (news b.0.heard) b.0.applied;
        first_chosen = chosen_there k x a.0 a.1 a.2 a.3;
        second_chosen = chosen_there m y b.0 b.1 b.2 b.3;
        same = λ q.
            let many : a.0.applied ≡ b.0.applied = sym (values_count n (news a.0.heard) a.0.applied a.2) ∙ q ∙ values_count n (news b.0.heard) b.0.applied b.2 in
            agreement.same_values k m a.0.applied a.0 b.0 a.1 b.1 (omega arith) (omega (arith, many)) ∙ ap (values_to n (news b.0.heard)) many;
      }

-- Nodes of a world to which events have led are alike.
pub are_alike : {R A : Type 0} (stands : R → Record → Record → Type 0) (has_applied : List (List ℕ) → List Value → A → Type 0) (app : Application) (w : World R A) → AreSeats w → w.members ≤ most_members → (events : List Happens) → Reached stands has_applied app w events
    → (k m : ℕ) (x y : Node R A) → node_at w.seats k ≡ Some x → node_at w.seats m ≡ Some y → AreAlike has_applied app w events x y
are_alike stands has_applied app w seats few events reached k m x y =
    let led = reached.runs reached.first (λ j. inl refl) in
    both_alike has_applied w seats reached.first led.0 (reached_sound app w.members few events led.0 led.1).size led.2 (each_run_agrees app w.members events led.0 led.1) app events led.1 k m x y
