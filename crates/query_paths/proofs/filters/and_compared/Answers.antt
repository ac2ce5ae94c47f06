use Rattle.std.proofs.Common.{refl, arith, ◌+◌, rules}
use Rattle.std.proofs.lemmas.Grind.{common_steps}
use Rattle.query_meaning.specs.Environment.{with_focus}
use Rattle.query_paths.proofs.filters.and_compared.Goals as goal

pub holds-requires : goal.holds-requires
holds-requires c = record { read = c.unread.ensures.read _ (search rules) }

-- the item is the context item in the predicate's environment
pub returns-in_err-is_kept-clause-kept : goal.returns-in_err-is_kept-clause-kept
returns-in_err-is_kept-clause-kept c = λ env size index.
    let failed = (rw c.unread.ensures.item at c.in_err-is_kept.ensures.holds) (with_focus c.args.item.now (index + 1) size env) (rw c.requires.subject refl) in
    grind (arith, common_steps, failed)

pub returns-clause-kept : goal.returns-clause-kept
returns-clause-kept c = λ env size index.
    let holds = (rw c.unread.ensures.item at c.in_ok-is_kept.ensures.holds) (with_focus c.args.item.now (index + 1) size env) (rw c.requires.subject refl) in
    grind (arith, common_steps, holds)
