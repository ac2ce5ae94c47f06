use Rattle.std.proofs.Common.{[], Err, ap, ◌∙◌}
use Rattle.program_reports.proofs.Reported.{ok-gives}
use Rattle.paxq_local.specs.Playing.{Played, unbegun}
use Rattle.paxq_local.proofs.Runs.{came-no-memory, came-played, came-refused}
use Rattle.paxq_local.proofs.local.run_commands.Goals as goal

pub returns-in_default : goal.returns-in_default
returns-in_default g c =
    ok-gives c.no_memory.result c.no_memory.ensures
    (λ status h. (
      [],
      came-no-memory g.W.Wire.has_brought g.W.Wire.was_given c.args.wire.now c.client_of.new.wire c.client_of.ensures.brought c.client_of.ensures.given (Played g.W.Address.PartialEq.eq [] c.args.members 0 0 c.args.script.commands)
          (g.O.Write.contents c.args.output.now) (g.E.Write.contents c.args.errors.now) (g.E.Write.contents c.no_memory.new.errors) status h (unbegun 0 0 c.args.script.commands),
    ))

pub returns-in-Ok-play : goal.returns-in-Ok-play
returns-in-Ok-play g c = (
  c.in-Ok.client.peers.items,
  came-played g.W.Wire.has_brought g.W.Wire.was_given c.args.wire.now c.client_of.new.wire c.client_of.ensures.brought c.client_of.ensures.given c.play.new.wire g.W.Address.PartialEq.eq c.in-Ok.client.peers.items c.args.members c.in-Ok.client.asked c.in-Ok.client.floor c.args.script.commands
      (g.O.Write.contents c.args.output.now) (g.O.Write.contents c.play.new.output) c.play.result c.in-Ok.ensures.count c.in-Ok.ensures.floor c.play.ensures c.in-Ok-play.status (g.E.Write.contents c.args.errors.now) c.in-Ok-play.is,
)

pub returns-in-Err-Memory : goal.returns-in-Err-Memory
returns-in-Err-Memory g c =
    ok-gives c.no_memory-in-Err-Memory.result c.no_memory-in-Err-Memory.ensures
    (λ status h. (
      c.in-Ok.client.peers.items,
      came-refused g.W.Wire.has_brought g.W.Wire.was_given c.args.wire.now c.client_of.new.wire c.client_of.ensures.brought c.client_of.ensures.given c.play.new.wire g.W.Address.PartialEq.eq c.in-Ok.client.peers.items c.args.members c.in-Ok.client.asked c.in-Ok.client.floor c.args.script.commands
          (g.O.Write.contents c.args.output.now) (g.O.Write.contents c.play.new.output) c.play.result c.in-Ok.ensures.count c.in-Ok.ensures.floor c.play.ensures status (g.E.Write.contents c.args.errors.now) (g.E.Write.contents c.no_memory-in-Err-Memory.new.errors) (c.in-Err-Memory.is ∙ ap Err c.in-Err-Memory.field-0-is) h,
    ))
