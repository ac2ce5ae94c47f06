use Rattle.std.proofs.Common.{◌≡◌, IfOk}
use Rattle.paxq_local.specs.Members.{IsToldAs, IsToldByFirst}
use Rattle.paxq_local.specs.Sent.{AreTried, AreTriedFirst}
use Rattle.paxq_local.specs.declared.asked.Form.TheVariants.{Ask}
use Rattle.paxq_local.proofs.Asks.{as-first, not-all}
use Rattle.paxq_local.proofs.Brought.{brings-as}
use Rattle.paxq_local.proofs.Giving.{gives-as}
use Rattle.paxq_local.proofs.Tries.{tried-first}
use Rattle.paxq_local.proofs.client.Client.ask.Goals as goal

pub returns-in-Submit-clause-told : goal.returns-in-Submit-clause-told
returns-in-Submit-clause-told g c =
    let other : ¬ (c.args.asked.now.form ≡ Ask) = not-all c.args.asked.now.form c.in-Submit.is in
    brings-as g.W.Wire.has_brought c.args.wire.now c.ask_one.new.wire
    (λ xs. IfOk c.ask_one.result (IsToldByFirst g.D.PartialEq.eq c.args.self.now.peers.items xs c.args.asked.now.form c.args.asked.now.id c.args.self.now.floor c.ask_one.new.self.floor))
    (λ xs. IfOk c.ask_one.result (IsToldAs g.D.PartialEq.eq c.args.self.now.peers.items xs c.args.members c.args.asked.now.form c.args.asked.now.id c.args.self.now.floor c.ask_one.new.self.floor)) c.ask_one.ensures.told
    (λ xs h. as-first g.D.PartialEq.eq c.args.self.now.peers.items xs c.args.members c.args.asked.now.id c.args.self.now.floor c.ask_one.new.self.floor c.args.asked.now.form c.ask_one.result other h)

pub returns-in-Submit-clause-sent : goal.returns-in-Submit-clause-sent
returns-in-Submit-clause-sent g c =
    let other : ¬ (c.args.asked.now.form ≡ Ask) = not-all c.args.asked.now.form c.in-Submit.is in
    gives-as g.W.Wire.was_given c.args.wire.now c.ask_one.new.wire (AreTriedFirst c.args.self.now.peers.items c.args.asked.now.bytes.items c.ask_one.result)
    (AreTried c.args.self.now.peers.items c.args.asked.now.form c.args.asked.now.bytes.items c.ask_one.result) c.ask_one.ensures.sent
    (λ went t. tried-first c.args.self.now.peers.items c.args.asked.now.bytes.items c.args.asked.now.form c.ask_one.result went other t)
