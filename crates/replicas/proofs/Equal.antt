-- What two moments of a run have to do with each other, for real states.
use Rattle.std.proofs.Common.{◌≡◌, ◌∙◌, ℕ, sym, subst, ap, List, Some}
use Rattle.ballots.specs.declared.value.Value.{Value}
use Rattle.node.specs.Nodes.{Node}
use Rattle.paxos.specs.Knowledge.{pair_of}
use Rattle.paxos.specs.Records.{Record}
use Rattle.paxos.specs.World.{World as Whole, Event as Happens, Run, start, told_to}
use Rattle.questions.specs.Answers.{answer}
use Rattle.replicas.specs.Replicas.{AreEqual, AreMeant, NeverDisagree}
use Rattle.sessions.specs.Applying.{application_of}
use Rattle.sessions.specs.Session.{Means, SessionTerm}
use Rattle.trees.specs.Forest.{ForestTerm}
use Rattle.world.specs.Alike.{HaveAppliedChosen, StayAlike}
use Rattle.world.specs.Runs.{node_at}
use Rattle.world.specs.Shown.{World}

-- states of the same values are equal
means_equal : (names : List (List ℕ)) (values : List Value) (x y : SessionTerm) → Means names values x → Means names values y → AreEqual x y
means_equal names values x y h k =
    let same : x.forest ≡ y.forest = h.store ∙ sym k.store in
    record { forest = same; replies = λ id. h.replies id ∙ sym (k.replies id); answers = λ level text. ap (λ (f : ForestTerm). answer f level text) same }

module _ {R : Type 0} where
  meant : (v : Whole) (w : World R SessionTerm) → HaveAppliedChosen Means w v → AreMeant v w
  meant v w h m x there =
      let a = h m x there in
      let means : Means w.names a.0 x.application = a.1.applied in
      record {
        values = a.0;
        count = sym means.applied;
        chosen = a.1.chosen;
        forest = means.store;
        replies = means.replies;
        answers = λ level text. ap (λ (f : ForestTerm). answer f level text) means.store;
      }

  -- nodes that have applied as many chosen values
  equal : (stands : R → Record → Record → Type 0) (now later : World R SessionTerm) (events : List Happens) → (s : StayAlike stands Means (application_of now.names) now later events)
      → (k m : ℕ) (x y : Node R SessionTerm) → node_at now.seats k ≡ Some x → node_at later.seats m ≡ Some y → x.application.applied ≡ y.application.applied → AreEqual x.application y.application
  equal stands now later events s k m x y at_x at_y many =
      let a = s.nodes_now k x at_x in
      let b = s.nodes_later m y at_y in
      let first : Means now.names a.0 x.application = a.1.applied in
      let second : Means later.names b.0 y.application = b.1.applied in
      let same : a.0 ≡ b.0 = s.same a.0 b.0 a.1.chosen b.1.chosen (sym first.applied ∙ many ∙ second.applied) in
      means_equal now.names a.0 x.application y.application first (subst (λ vs. Means now.names vs y.application) (sym same) (subst (λ ns. Means ns b.0 y.application) s.names second))

  pub agree : (stands : R → Record → Record → Type 0) (now later : World R SessionTerm) (events : List Happens) → StayAlike stands Means (application_of now.names) now later events → NeverDisagree now later events
  agree stands now later events s = record {
    whole = s.whole;
    run = subst (λ n. Run (application_of now.names) (start n) events s.whole) s.members s.run;
    one_value = s.agreement.one_value;
    told_one = λ p k m a b h g. s.agreement.one_value p a b (s.chosen (told_to k (pair_of p a)) (s.told _ h)) (s.chosen (told_to m (pair_of p b)) g);
    told_still = s.told;
    told_chosen = s.chosen;
    equal = equal stands now later events s;
    meant_now = meant s.whole now s.nodes_now;
    meant_later = meant s.whole later s.nodes_later;
  }
