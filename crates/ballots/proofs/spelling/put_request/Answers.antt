use Rattle.std.proofs.Common.{◌∙◌}
use Rattle.ballots.proofs.Readings.{appended-twice}
use Rattle.ballots.proofs.spelling.put_request.Goals as goal

pub returns-clause-put : goal.returns-clause-put
returns-clause-put c = appended-twice _ _ _ _ _ _ c.extend_from_slice-2.result c.in_ok-reserve.ensures.items (c.in_ok-extend_from_slice.ensures.items) c.extend_from_slice-2.ensures.items _ _ c.head.ensures (c.as_bytes.ensures.value ∙ c.text-2.ensures.text)
