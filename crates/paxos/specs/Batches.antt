-- Several writes of a record, one after another.
use Rattle.std.specs.Prelude.{List, [], ◌∷◌}
use Rattle.paxos.specs.Records.{Record, Write, written}

-- the record after the writes, each after those before it
abbrev pub all_written : List Write → Record → Record
all_written [] r = r
all_written (w ∷ ws) r = all_written ws (written w r)
