use Rattle.std.proofs.Common.{◌∙◌, ap, sym}
use Rattle.forest_index.specs.Sized.{kept_sizes, size_in, size_with}
use Rattle.forest_index.proofs.Sized.{with-some, in-some, in-nothing}
use Rattle.forest_index.proofs.index.settle.Goals as goal

pub returns-in-Some-clause-sizes : goal.returns-in-Some-clause-sizes
returns-in-Some-clause-sizes c = λ r n e.
    ap (λ o. size_with o c.args.resized r) (ap kept_sizes c.in-Some.is) ∙ with-some c.in-Some.index.sizes c.args.resized r ∙ c.write_all.ensures r n (sym (in-some c.write_all.new.sizes r) ∙ e)

pub returns-in_default-clause-sizes : goal.returns-in_default-clause-sizes
returns-in_default-clause-sizes c = λ r n e. (let z = sym (ap (λ o. size_in o r) (ap kept_sizes c.in_default.is) ∙ in-nothing r) ∙ e in cc)
