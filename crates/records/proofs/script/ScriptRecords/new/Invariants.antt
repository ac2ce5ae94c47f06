use Rattle.std.proofs.Common.{◌≡◌, ℕ, drop}
use Rattle.position_map.specs.Slots.{value_at}
use Rattle.records.specs.Script.{fails_at, first_of}
use Rattle.records.proofs.script.ScriptRecords.new.Given as goal

abbrev pub invariant-loop-number : goal.invariant-loop-number
invariant-loop-number l = (n : ℕ) → fails_at n l.plan ≡ first_of (value_at n l.fates.entries) (fails_at n (drop l.number-index l.plan))
