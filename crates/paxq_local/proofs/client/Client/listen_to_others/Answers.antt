use Rattle.std.proofs.Common.{ℕ, List, ◌++◌, IfOk, MatchOption, subst}
use Rattle.wires.specs.Wires.{Carried}
use Rattle.paxq_local.specs.Members.{HoldsSaid, IsToldByAll}
use Rattle.paxq_local.specs.Told.{Brings}
use Rattle.paxq_local.proofs.client.Client.listen_to_others.Goals as goal

pub returns-clause-told : goal.returns-clause-told
returns-clause-told g c =
    subst (λ (ps : List g.row.D.Denot). Brings g.W.Wire.has_brought c.args.wire.now c.listen_to_all.new.wire
    (λ xs. (members : ℕ) (before : List (Carried g.row.D.Denot)) → HoldsSaid g.D.PartialEq.eq ps before members c.args.id c.args.answers.now
    → IfOk c.listen_to_all.result (λ o. MatchOption o (HoldsSaid g.D.PartialEq.eq ps (before ++ xs) members c.args.id c.listen_to_all.new.answers) (IsToldByAll g.D.PartialEq.eq ps (before ++ xs) members c.args.id))))
    c.as_slice-peers.ensures.value c.listen_to_all.ensures.said
