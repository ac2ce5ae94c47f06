use Rattle.meaning_laws.proofs.Numbering.{content_numbered}
use Rattle.meaning_laws.proofs.laws.copies_are_numbered.Goals as goal

pub returns : goal.returns
returns c = λ items run after copies h. (let z = content_numbered items run (copies, after) h in (z.range, z.next))
