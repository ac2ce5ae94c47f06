use Rattle.std.proofs.Common.{◌∙◌, sym}
use Rattle.records.proofs.Plans.{noted_new, noted_old}
use Rattle.records.proofs.script.note.Goals as goal

pub returns-then-contains_key : goal.returns-then-contains_key
returns-then-contains_key c = λ n. noted_old c.args.number n c.args.is_made c.args.fates.now.entries (sym c.contains_key.ensures ∙ c.if-contains_key.true)

pub returns-in-Ok : goal.returns-in-Ok
returns-in-Ok c = λ n. noted_new c.args.number n c.args.is_made c.args.fates.now.entries _ (sym c.contains_key.ensures ∙ c.if-contains_key.false) (c.in-Ok.ensures.updates.0 n)
