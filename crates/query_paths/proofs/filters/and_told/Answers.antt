use Rattle.std.proofs.Common.{refl, arith, ◌+◌, rules}
use Rattle.std.proofs.lemmas.Grind.{common_steps}
use Rattle.query_meaning.specs.Environment.{with_focus}
use Rattle.query_paths.proofs.filters.and_told.Goals as goal

pub value-requires : goal.value-requires
value-requires c = record { read = c.unread.ensures.read _ (search rules) }

-- the item is the context item in the predicate's environment
pub returns-in_err-value-clause-kept : goal.returns-in_err-value-clause-kept
returns-in_err-value-clause-kept c = λ env size.
    let failed = (rw c.unread.ensures.item at c.in_err-value.ensures.value) (with_focus c.args.item.now (c.args.index + 1) size env) (rw c.requires.subject refl) in
    grind (arith, common_steps, failed)

pub returns-clause-kept : goal.returns-clause-kept
returns-clause-kept c = λ env size.
    let holds = (rw c.unread.ensures.item at c.in_ok-value.ensures.value) (with_focus c.args.item.now (c.args.index + 1) size env) (rw c.requires.subject refl) in
    grind (arith, common_steps, holds)
