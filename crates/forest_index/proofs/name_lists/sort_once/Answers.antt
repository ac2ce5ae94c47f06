use Rattle.std.proofs.Common.{◌∙◌, ap, sym, eqb}
use Rattle.std.proofs.lemmas.List.Filters.{dedup_is}
use Rattle.std.proofs.lemmas.List.Sorted.{list_any-IsPermutation}
use Rattle.data_model.specs.Axes.{is_in}
use Rattle.node_table.proofs.Ordered.{once-same}
use Rattle.forest_index.proofs.name_lists.sort_once.Goals as goal

pub returns : goal.returns
returns c = λ i.
    ap (is_in i) (dedup_is eqb _ _ c.dedup.ensures.filtered) ∙ once-same i c.sort_unstable.new.self.items ∙ sym (list_any-IsPermutation (λ j. eqb i j) c.args.list.now.items c.sort_unstable.new.self.items c.sort_unstable.ensures.permutation)
