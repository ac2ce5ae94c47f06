use Rattle.std.proofs.Common.{◌≡◌, ◌∙◌, ap, sym}
use Rattle.row_pages.specs.Rows.{get}
use Rattle.forest_index.specs.Sized.{kept_sizes, size_with}
use Rattle.forest_index.proofs.Sized.{with-some, with-nothing}
use Rattle.forest_index.proofs.index.planned_size.Goals as goal

pub returns-in-Some : goal.returns-in-Some
returns-in-Some c =
    let planned : c.copied.result ≡ get c.args.resized.now c.args.root = rw c.number-in-Some.ensures at (c.copied.ensures ∙ c.get-in-Some.ensures) in
    let kept : c.copied-kept.result ≡ get c.in-Some.index.sizes c.args.root = rw c.number.ensures at (c.copied-kept.ensures ∙ c.get.ensures) in
    c.or.ensures ∙ rw (planned, kept) (sym (ap (λ o. size_with o c.args.resized.now c.args.root) (ap kept_sizes c.in-Some.is) ∙ with-some c.in-Some.index.sizes c.args.resized.now c.args.root))

pub returns-in-None : goal.returns-in-None
returns-in-None c = sym (ap (λ o. size_with o c.args.resized.now c.args.root) (ap kept_sizes c.in-None.is) ∙ with-nothing c.args.resized.now c.args.root)
