use Rattle.std.proofs.Common.{◌∙◌, ap, sym, option_copied}
use Rattle.forest_index.specs.Named.{items_of, list_in}
use Rattle.forest_index.proofs.name_lists.NameLists.list.Goals as goal

pub returns-in-Some : goal.returns-in-Some
unfolding list_in
returns-in-Some c = c.as_slice.ensures.value ∙ ap items_of (sym (ap option_copied c.in-Some.is) ∙ c.get.ensures.value)

pub returns-in-None : goal.returns-in-None
unfolding list_in
returns-in-None c = ap items_of (sym (ap option_copied c.in-None.is) ∙ c.get.ensures.value)
