use Rattle.std.proofs.Common.{[]}
use Rattle.meaning_laws.proofs.Comma.{to_flat, to_nested}
use Rattle.meaning_laws.proofs.laws.parentheses_do_not_matter.Goals as goal

pub returns-clause-associative : goal.returns-clause-associative
returns-clause-associative c = λ ls ms ns env run after items. (to_flat env ls ms ns run (items, after), to_nested env ls ms ns run (items, after))

pub returns-clause-unit : goal.returns-clause-unit
returns-clause-unit c = λ ls ns env run after items. (to_flat env ls [] ns run (items, after), to_nested env ls [] ns run (items, after))
