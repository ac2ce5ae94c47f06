-- What a node's refusal comes to where it serves.
use Rattle.std.specs.Prelude.{◌≡◌, Bool, true}
use Rattle.node.specs.declared.fault.NodeFault.{NodeFault}
use Rattle.node.specs.declared.fault.NodeFault.TheVariants.{Memory, Spent, Stopped, Store, Stranger, Wire}

-- the node serves on: what came was nothing to it, or memory was refused, which is noted (no message spends a ballot)
abbrev pub IsRefused : NodeFault → (old new : Bool) → Type 0
IsRefused (Wire f) old new = new ≡ old
IsRefused Stranger old new = new ≡ old
IsRefused Memory old new = new ≡ true
IsRefused Spent old new = new ≡ true
IsRefused Store old new = ⊥
IsRefused Stopped old new = ⊥

-- the node serves on: no ballot can begin, or memory was refused, which is noted; no tick is refused as a message is
abbrev pub IsRefusedTick : NodeFault → (old new : Bool) → Type 0
IsRefusedTick Spent old new = new ≡ old
IsRefusedTick Memory old new = new ≡ true
IsRefusedTick (Wire f) old new = ⊥
IsRefusedTick Stranger old new = ⊥
IsRefusedTick Store old new = ⊥
IsRefusedTick Stopped old new = ⊥

-- the node has stopped
abbrev pub IsHalted : NodeFault → Type 0
IsHalted Store = Unit {0}
IsHalted Stopped = Unit {0}
IsHalted fault = ⊥
