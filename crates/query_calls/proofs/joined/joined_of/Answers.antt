use Rattle.std.proofs.Common.{map}
use Rattle.std.proofs.lemmas.Result.{err_from_is_err_and}
use Rattle.query_strings.specs.Texts.{text_at}
use Rattle.query_calls.proofs.Giving.{no_texts, no_separator, too_long, join_gives}
use Rattle.query_calls.proofs.joined.joined_of.Goals as goal

pub returns-in_err-texts : goal.returns-in_err-texts
returns-in_err-texts c =
    let p = err_from_is_err_and c.from_residual.result c.from_residual.ensures.1 in
    rw (p.1, p.2) (no_texts c.args.values.now c.args.separators.now c.args.run.now _ (c.in_err-texts.ensures.code c.args.run.now))

pub returns-in_err-separator : goal.returns-in_err-separator
returns-in_err-separator c =
    let p = err_from_is_err_and c.from_residual-in_err-separator.result c.from_residual-in_err-separator.ensures.1 in
    rw (p.1, p.2) (no_separator c.args.values.now c.args.separators.now (map text_at c.in_ok-texts.texts.items) c.args.run.now _ c.in_ok-texts.ensures.ok c.in_err-separator.ensures.code)

pub returns-in_err-text : goal.returns-in_err-text
returns-in_err-text c =
    let p = err_from_is_err_and c.from_residual-in_err-text.result c.from_residual-in_err-text.ensures.1 in
    rw (p.1, p.2) (too_long c.args.values.now c.args.separators.now (map text_at c.in_ok-texts.texts.items) c.in_ok-separator.separator.now c.args.run.now _ c.in_ok-texts.ensures.ok c.in_ok-separator.ensures.ok (rw c.deref.ensures.value at c.in_err-text.ensures))

pub returns : goal.returns
returns c = join_gives c.args.values.now c.args.separators.now (map text_at c.in_ok-texts.texts.items) c.in_ok-separator.separator.now _ _ c.args.run.now _ _ c.in_ok-texts.ensures.ok c.in_ok-separator.ensures.ok (rw c.deref.ensures.value at c.in_ok-text.ensures) c.in_ok-text-2.ensures c.string_of.ensures.given
