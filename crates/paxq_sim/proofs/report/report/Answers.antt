use Rattle.std.proofs.Common.{[], ◌++◌, sym, ap, ◌∙◌, string_bytes, length}
use Rattle.std.specs.Prelude.{flat_map}
use Rattle.paxq_sim.specs.Play.{first_told, told_line}
use Rattle.paxq_sim.proofs.Reports.{reported}
use Rattle.paxq_sim.proofs.report.report.Goals as goal

pub returns : goal.returns
returns g c = λ kept v s.
    reported v (string_bytes c.new-out.result) (string_bytes c.push_told.new.out) (string_bytes c.push_str.new.self) (string_bytes c.push_members.new.out) c.as_str.result.now c.messages-messages.result c.new-out.ensures.bytes
    (c.in_ok-push_told.ensures ∙ ap (λ ts. string_bytes c.new-out.result ++ flat_map told_line (first_told [] ts)) (c.told.ensures.told ∙ sym s.told))
    c.in_ok-push_str.ensures.bytes (c.as_str.ensures.value ∙ c.in_ok-format.ensures.ok) (c.messages-messages.ensures ∙ ap length (sym s.sent)) (c.in_ok-push_members.ensures kept v s)
