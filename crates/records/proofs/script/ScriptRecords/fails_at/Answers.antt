use Rattle.std.proofs.Common.{◌∙◌, ap, Some, None}
use Rattle.records.specs.Script.{fails_at}
use Rattle.records.proofs.Plans.{fate_found}
use Rattle.records.proofs.script.ScriptRecords.fails_at.Goals as goal

pub returns-in-Some : goal.returns-in-Some
returns-in-Some c = fate_found c.args.number c.self.inside.fates.entries c.self.inside.plan.items (Some c.in-Some.is_made.now) c.self.invariant c.in-Some.ensures.value ∙ ap (λ s. fails_at c.args.number s.plan) c.self.view_is

pub returns-in-None : goal.returns-in-None
returns-in-None c = fate_found c.args.number c.self.inside.fates.entries c.self.inside.plan.items None c.self.invariant c.in-None.ensures.value ∙ ap (λ s. fails_at c.args.number s.plan) c.self.view_is
