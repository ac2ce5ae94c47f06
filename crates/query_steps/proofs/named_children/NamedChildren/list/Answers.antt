use Rattle.std.proofs.Common.{◌∙◌, ap, sym, option_copied}
use Rattle.query_steps.proofs.ByParent.{listed-found}
use Rattle.query_steps.proofs.named_children.NamedChildren.list.Goals as goal

pub returns-in-Some : goal.returns-in-Some
returns-in-Some c =
    c.as_slice.ensures.value ∙ listed-found c.self.inside.lists c.number.result c.args.node c.args.self.now _ c.number.ensures c.self.view_is (sym (ap option_copied c.in-Some.is) ∙ c.get.ensures.value)

pub returns-in-None : goal.returns-in-None
returns-in-None c = listed-found c.self.inside.lists c.number.result c.args.node c.args.self.now _ c.number.ensures c.self.view_is (sym (ap option_copied c.in-None.is) ∙ c.get.ensures.value)
