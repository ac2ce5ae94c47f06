use Rattle.std.proofs.lemmas.Result.{err_from_is_err_and}
use Rattle.query_meaning.specs.Content.{content}
use Rattle.copied_content.proofs.New.{content_new, gives_new}
use Rattle.copied_content.proofs.Parts.{content_gives, content_fails}
use Rattle.copied_content.proofs.copying.content.Goals as goal

pub returns-in_err-partial : goal.returns-in_err-partial
returns-in_err-partial c =
    let p = err_from_is_err_and c.from_residual.result c.from_residual.ensures.1 in
    rw (p.1, p.2) (content_fails c.args.items.now c.as_slice.result.now c.args.run.now c.copied_items.new.run _ c.as_slice.ensures.items c.in_err-partial.ensures)

pub returns : goal.returns
returns c =
    gives_new (content c.args.items.now) c.args.run.now c.into_content.new.run c.into_content.result (content_new c.args.items.now)
    (content_gives c.args.items.now c.as_slice.result.now c.args.run.now c.copied_items.new.run c.into_content.new.run c.in_ok-partial.partial c.into_content.result c.as_slice.ensures.items c.in_ok-partial.ensures c.into_content.ensures)
