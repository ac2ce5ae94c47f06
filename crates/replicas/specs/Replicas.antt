-- What the members of a group hold, and what they were told, at two moments of a run.
use Rattle.std.specs.Prelude.{◌≡◌, ℕ, List, length, Some}
use Rattle.ballots.specs.declared.request.RequestId.{RequestId}
use Rattle.ballots.specs.declared.value.Value.{Value}
use Rattle.node.specs.Nodes.{Node}
use Rattle.paxos.specs.Agreement.{IsChosen}
use Rattle.paxos.specs.Knowledge.{pair_of}
use Rattle.paxos.specs.Lists.{at, Has}
use Rattle.paxos.specs.Records.{Record}
use Rattle.paxos.specs.World.{Told, World as Whole, Event as Happens, Run, start, told_to}
use Rattle.questions.specs.Answers.{answer}
use Rattle.records.specs.Law.{Fate}
use Rattle.sessions.specs.Applying.{application_of}
use Rattle.sessions.specs.Meaning.{kept_reply, store_of}
use Rattle.sessions.specs.Session.{Means, SessionTerm, reply_in}
use Rattle.world.specs.Runs.{Ran, node_at}
use Rattle.world.specs.Shown.{World}

-- Two states are equal: their trees with all identities, their documents and the next identity; the reply that is kept for each request; and the
-- answer that each text gets at each level.
pub record AreEqual (x y : SessionTerm) : Type 0 where
  pub forest : x.forest ≡ y.forest
  pub replies : (id : RequestId) → reply_in x id ≡ reply_in y id
  pub answers : (level : ℕ) (text : List ℕ) → answer x.forest level text ≡ answer y.forest level text

-- A state is what the first chosen values mean, as many as it has applied: each of them is the value that is chosen at its position, and their requests
-- were run on the empty documents in that order, each once.
pub record IsMeant (v : Whole) (names : List (List ℕ)) (x : SessionTerm) : Type 0 where
  pub values : List Value
  pub count : length values ≡ x.applied
  pub chosen : (position : ℕ) (value : Value) → at values position ≡ Some value → IsChosen v position value
  pub forest : x.forest ≡ store_of names values
  pub replies : (id : RequestId) → reply_in x id ≡ kept_reply names values id
  pub answers : (level : ℕ) (text : List ℕ) → answer x.forest level text ≡ answer (store_of names values) level text

-- so is the state of each node that runs there
abbrev pub AreMeant : {R : Type 0} → Whole → World R SessionTerm → Type 0
AreMeant {R} v w = (m : ℕ) (x : Node R SessionTerm) → node_at w.seats m ≡ Some x → IsMeant v w.names x.application

-- The members of a group never disagree, at two moments, now and later, of a run over these events:
pub record NeverDisagree {R : Type 0} (now later : World R SessionTerm) (events : List Happens) : Type 0 where
  -- in a world of the protocol to which the events have led, no position has two chosen values;
  pub whole : Whole
  pub run : Run (application_of now.names) (start now.members) events whole
  pub one_value : (position : ℕ) (a b : Value) → IsChosen whole position a → IsChosen whole position b → a ≡ b
  -- no two members were told different values at a position, whether now or later; what a member was told stays told, and is chosen;
  pub told_one : (position k m : ℕ) (a b : Value) → Has now.told (told_to k (pair_of position a)) → Has later.told (told_to m (pair_of position b)) → a ≡ b
  pub told_still : (t : Told) → Has now.told t → Has later.told t
  pub told_chosen : (t : Told) → Has later.told t → IsChosen whole t.pair.position t.pair.value
  -- a node now and a node later that have applied as many positions have equal states, which are what the first chosen values mean.
  pub equal : (k m : ℕ) (x y : Node R SessionTerm) → node_at now.seats k ≡ Some x → node_at later.seats m ≡ Some y → x.application.applied ≡ y.application.applied → AreEqual x.application y.application
  pub meant_now : AreMeant whole now
  pub meant_later : AreMeant whole later

-- A run of these events, split in two: a group of so many members over documents of these names was new, the first events happened until now, and more
-- until later, each as it says of the world before it and the one after it.
pub record IsSplit {R : Type 0} (stands : R → Record → Record → Type 0) (is_kept : R → Type 0) (failed : R → ℕ) (fates : R → ℕ → Fate) (members : ℕ) (names : List (List ℕ)) (first more : List Happens) (now later : World R SessionTerm) : Type 0 where
  pub new : World R SessionTerm
  pub members_are : new.members ≡ members
  pub names_are : new.names ≡ names
  pub first_ran : Ran stands is_kept failed fates Means (application_of names) first new now
  pub more_ran : Ran stands is_kept failed fates Means (application_of names) more now later
