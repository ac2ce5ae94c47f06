use Rattle.std.proofs.Common.{◌≡◌, ◌∙◌, ◌++◌, ◌∷◌, [], ap, sym, nat_eq, Some, None, is_some}
use Rattle.std.specs.HashMap.{get}
use Rattle.std.specs.Option.{option_copied_mut}
use Rattle.query_steps.proofs.ByParent.{pushed}
use Rattle.query_steps.proofs.named_children.push_under.Goals as goal

pub returns-in-Some : goal.returns-in-Some
returns-in-Some c =
    let m = c.args.lists.now in
    let w = c.push.new.self in
    let found : Some c.in-Some.list.now ≡ get nat_eq m c.number-key.result = sym (ap option_copied_mut c.in-Some.is) ∙ c.get_mut.ensures.value in
    pushed m (c.get_mut.follows.lender w) c.number-key.result c.args.parent (Some c.in-Some.list.now) w c.args.node c.number-key.ensures found ((c.get_mut.follows.holds w).3 (ap is_some (sym found))) c.in_ok-push.ensures.items

pub returns : goal.returns
returns c =
    let m = c.args.lists.now in
    let none : None ≡ get nat_eq m c.number-key.result = sym (ap option_copied_mut c.in_default.is) ∙ c.get_mut.ensures.value in
    pushed m c.insert.new.self c.number-key.result c.args.parent None c.push-2.new.self c.args.node c.number-key.ensures none (rw c.get_mut.follows.holds-at-none at c.in_ok-insert.ensures.updates)
    (c.in_ok-push-2.ensures.items ∙ ap (λ xs. xs ++ c.args.node ∷ []) c.new-list.ensures.items)
