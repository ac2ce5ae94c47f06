use Rattle.std.proofs.Common.{[], arith}
use Rattle.messages.proofs.ExactBodies.{datagram-exact}
use Rattle.messages.proofs.Fitting.{fitting}
use Rattle.messages.proofs.decoding.decode.Goals as goal

pub returns-clause-spelt : goal.returns-clause-spelt
returns-clause-spelt c = (datagram-exact c.args.bytes.now [] _ (λ i. let fits = c.type_inv.bytes i in grind arith) c.in_ok-packet.ensures.packet).0

pub returns-clause-may_be_sent : goal.returns-clause-may_be_sent
returns-clause-may_be_sent c = (datagram-exact c.args.bytes.now [] _ (λ i. let fits = c.type_inv.bytes i in grind arith) c.in_ok-packet.ensures.packet).1.0

pub returns-clause-fits : goal.returns-clause-fits
returns-clause-fits c =
    let is = (datagram-exact c.args.bytes.now [] _ (λ i. let fits = c.type_inv.bytes i in grind arith) c.in_ok-packet.ensures.packet).1.0 in
    fitting _ is.body is.fields
