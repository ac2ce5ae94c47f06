use Rattle.std.proofs.Common.{arith, Option, IfOk, IfSome, subst, string_bytes}
use Rattle.ballots.specs.declared.request.RequestId.{RequestId}
use Rattle.paxq_files.specs.Commands.{command_term}
use Rattle.paxq_local.specs.Asking.{IsAsked, IsTried, form_of}
use Rattle.paxq_local.specs.Told.{Brings, IsSaid, told_by_one}
use Rattle.paxq_local.specs.declared.asked.Asked.{Asked}
use Rattle.paxq_local.specs.declared.asked.Form.{Form}
use Rattle.paxq_local.specs.declared.asked.Said.{Said}
use Rattle.paxq_local.proofs.Giving.{given-none, if_err}
use Rattle.paxq_local.proofs.send.ask_command.Goals as goal

pub returns-in-Some-clause-said : goal.returns-in-Some-clause-said
returns-in-Some-clause-said g c =
    let is : IsAsked c.args.group (record { client = 0; number = 0 }) 0 (command_term c.args.command) c.in-Some.asked =
    subst (λ (o : Option Asked). IfSome o (IsAsked c.args.group (record { client = 0; number = 0 }) 0 (command_term c.args.command))) c.in-Some.is c.in_ok-asked.ensures.asked in
    let P : Form → RequestId → Type 0 =
    λ f i. Brings g.W.Wire.has_brought c.args.wire.now c.ask_with_room.new.wire (λ xs. IfOk c.ask_with_room.result (λ said. IfSome said (λ (s : Said). IsSaid xs (told_by_one f) c.args.group i (string_bytes s.text)))) in
    subst (λ (i : RequestId). P (form_of (command_term c.args.command)) i) is.id (subst (λ (f : Form). P f c.in-Some.asked.id) is.form c.ask_with_room.ensures.said)

pub returns-in-Some-clause-sent : goal.returns-in-Some-clause-sent
returns-in-Some-clause-sent g c can =
    let is : IsAsked c.args.group (record { client = 0; number = 0 }) 0 (command_term c.args.command) c.in-Some.asked =
    subst (λ (o : Option Asked). IfSome o (IsAsked c.args.group (record { client = 0; number = 0 }) 0 (command_term c.args.command))) c.in-Some.is c.in_ok-asked.ensures.asked in
    subst (λ bs. IsTried g.W.Wire.was_given c.args.wire.now c.ask_with_room.new.wire (record { end = 0; peer = c.args.to; bytes = bs }) c.ask_with_room.result) is.bytes c.ask_with_room.ensures.sent

pub returns-in_err-asked-clause-sent : goal.returns-in_err-asked-clause-sent
returns-in_err-asked-clause-sent g c can = (0, omega arith, given-none g.W.Wire.was_given c.args.wire.now, if_err _ c.from_residual.result c.from_residual.ensures.0)
