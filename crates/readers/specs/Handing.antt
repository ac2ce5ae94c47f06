-- What a site is, and what it hands on to its readers of what its node has applied.
use Rattle.std.specs.Prelude.{◌≡◌, ◌<◌, ℕ, true, false, List, length}
use Rattle.ballots.specs.declared.value.Value.{Value}
use Rattle.member.specs.Steps.{Input}
use Rattle.node.specs.Nodes.{Node, RunsAs, Took, step_of}
use Rattle.node.specs.declared.outbox.Outbox.{Outbox}
use Rattle.paxos.specs.Application.{Application}
use Rattle.paxos.specs.Knowledge.{news, prefix}
use Rattle.paxos.specs.Step.{Running, values_of}
use Rattle.published.specs.Stores.{Store, handed_on}
use Rattle.sight.specs.Sights.{IsSight}

-- a node, and the store in which readers see what it has applied
pub record Site (R A : Type 0) : Type 0 where
  pub node : Node R A
  pub store : Store

-- Whichever running member of a world the node is: what was published, followed by what is pending, is a beginning of what it has applied.
abbrev pub HasHanded : {R A : Type 0} → Running → Site R A → Type 0
HasHanded u s = IsSight (handed_on s.store) (values_of s.node.setup.members u)

-- The node has taken its step, and the outbox is that of the step; what the node has applied was handed on while memory was found. The outbox
-- says that it is short exactly where less was handed on than is learnt without a gap.
pub record Turned {R A : Type 0} (has_applied : List (List ℕ) → List Value → A → Type 0) (app : Application) (i : Input) (old new : Site R A) (u : Running) (o : Outbox) : Type 0 where
  pub applied : ℕ
  pub inner : Outbox
  pub took : Took has_applied (step_of app old.node u i applied) old.node new.node inner
  pub sent : o.sent ≡ inner.sent
  pub tells : o.tells ≡ inner.tells
  pub handed : HasHanded took.running new
  pub whole : o.is_short ≡ false → length (handed_on new.store) ≡ prefix old.node.setup.members (news took.running.heard)
  pub short : o.is_short ≡ true → length (handed_on new.store) < prefix old.node.setup.members (news took.running.heard)

-- so upon an input, whichever running member of a world its node is, where what was handed on before was a beginning of what it had applied
abbrev pub Turns : {R A : Type 0} → (has_applied : List (List ℕ) → List Value → A → Type 0) → Application → Input → (old new : Site R A) → Outbox → Type 0
Turns has_applied app i old new o = (u : Running) → RunsAs has_applied u old.node → HasHanded u old → Turned has_applied app i old new u o
