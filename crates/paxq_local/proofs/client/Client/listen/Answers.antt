use Rattle.std.proofs.Common.{List, IfOk, IfSome, subst, string_bytes}
use Rattle.paxq_local.specs.Members.{IsSaidBy}
use Rattle.paxq_local.specs.Told.{Brings, told_at}
use Rattle.paxq_local.specs.declared.asked.Said.{Said}
use Rattle.paxq_local.proofs.client.Client.listen.Goals as goal

pub returns-clause-said : goal.returns-clause-said
returns-clause-said g c =
    subst (λ (ps : List g.row.D.Denot). Brings g.W.Wire.has_brought c.args.wire.now c.listen_to_first.new.wire
    (λ xs. IfOk c.listen_to_first.result (λ o. IfSome o (λ (s : Said). IsSaidBy g.D.PartialEq.eq ps xs 0 (told_at c.args.asked.now.form) c.args.asked.now.id (string_bytes s.text, s.position)))))
    c.as_slice-peers.ensures.value c.listen_to_first.ensures.said
