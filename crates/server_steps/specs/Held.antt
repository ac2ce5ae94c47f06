-- What waits at a server.
use Rattle.std.specs.Prelude.{List, map}
use Rattle.server_steps.specs.declared.waiting.Held.{Held}
use Rattle.wires.specs.Wires.{Carried}

-- a datagram as it came
abbrev pub carried : {D : Type 0} → Held D → Carried D
carried h = record { end = h.end; peer = h.from; bytes = h.bytes.items }

-- the datagrams that wait
abbrev pub held_in : {K D : Type 0} → List (K × Held D) → List (Carried D)
held_in entries = map (λ e. carried e.1) entries
