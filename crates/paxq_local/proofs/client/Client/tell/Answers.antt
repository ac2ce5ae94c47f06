use Rattle.std.proofs.Common.{◌≡◌, ℕ, true, false, Ok, Option, sym, subst}
use Rattle.std.specs.Prelude.{IsSome}
use Rattle.std.specs.declared.alloc.AllocError.{AllocError}
use Rattle.paxq_files.specs.Commands.{command_term}
use Rattle.paxq_local.specs.Asking.{CanBeAsked}
use Rattle.paxq_local.specs.Sent.{AreTriedFor}
use Rattle.paxq_local.specs.declared.answers.Told.TheVariants.{NoAnswer}
use Rattle.paxq_local.specs.declared.asked.Asked.{Asked}
use Rattle.paxq_local.proofs.Giving.{gives-none, if_err}
use Rattle.paxq_local.proofs.Tries.{untried}
use Rattle.paxq_local.proofs.client.Client.tell.Goals as goal

pub returns-in_err-asked-clause-sent : goal.returns-in_err-asked-clause-sent
returns-in_err-asked-clause-sent g c =
    gives-none g.W.Wire.was_given c.args.wire.now (AreTriedFor c.args.self.now.peers.items c.args.self.now.asked c.args.self.now.floor (command_term c.args.command) c.from_residual.result)
    (untried c.args.self.now.peers.items c.args.self.now.asked c.args.self.now.floor (command_term c.args.command) c.from_residual.result (if_err _ c.from_residual.result c.from_residual.ensures.0))

pub returns-in_default-clause-sent : goal.returns-in_default-clause-sent
returns-in_default-clause-sent g c =
    gives-none g.W.Wire.was_given c.args.wire.now (AreTriedFor c.args.self.now.peers.items {E = AllocError} c.args.self.now.asked c.args.self.now.floor (command_term c.args.command) (Ok NoAnswer))
    (untried {E = AllocError} c.args.self.now.peers.items c.args.self.now.asked c.args.self.now.floor (command_term c.args.command) (Ok NoAnswer)
    (λ can.
    let some : IsSome c.in_ok-asked.field-0 = c.in_ok-asked.ensures.is_asked (subst (λ (n : ℕ). CanBeAsked n (command_term c.args.command)) (sym c.next_id-id.ensures.floor) can) in
    absurd (let e : false ≡ true = subst (λ (o : Option Asked). IsSome o) c.in_default.is some in cc)))
