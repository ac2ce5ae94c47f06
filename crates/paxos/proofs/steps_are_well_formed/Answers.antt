use Rattle.paxos.proofs.Steps.{message_is_step, begin_is_step, resend_is_step, catch_up_is_step, keep_is_step}
use Rattle.paxos.proofs.steps_are_well_formed.Goals as goal

pub returns-clause-message : goal.returns-clause-message
returns-clause-message c = message_is_step

pub returns-clause-begin : goal.returns-clause-begin
returns-clause-begin c = begin_is_step

pub returns-clause-resend : goal.returns-clause-resend
returns-clause-resend c = resend_is_step

pub returns-clause-catch_up : goal.returns-clause-catch_up
returns-clause-catch_up c = catch_up_is_step

pub returns-clause-keep : goal.returns-clause-keep
returns-clause-keep c = keep_is_step
