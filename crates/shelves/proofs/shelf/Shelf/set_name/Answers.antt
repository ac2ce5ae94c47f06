use Rattle.std.proofs.Common.{◌≡◌, refl, string_bytes}
use Rattle.data_model.specs.Trees.{Content}
use Rattle.data_model.specs.Changes.{with_content}
use Rattle.node_table.specs.Flat.{with_name}
use Rattle.node_table.proofs.Contents.{SaysSame, weigh-with_content}
use Rattle.shelves.proofs.Shelves.{after-either, after-weighed}
use Rattle.shelves.proofs.shelf.Shelf.set_name.Goals as goal

pub invariant_of-self : goal.invariant_of-self
invariant_of-self c =
    let u = c.self.inside.lent.now in
    let v = c.self.inside.own in
    let w = c.set_name.new.self in
    let says = λ (d : Content). record d { name = string_bytes c.args.name } in
    let same : SaysSame says (with_name (string_bytes c.args.name)) = record { identity = λ d. refl; entry = λ d p bs cs. refl } in
    let ts = with_content c.args.id says v.trees in
    after-either c.set_name.result (λ _. w ≡ record v { trees = ts }) u v w c.self.invariant
    (λ _ named. after-weighed u v w ts c.self.invariant (λ i. weigh-with_content says (with_name (string_bytes c.args.name)) same c.args.id _ v.trees) named) c.set_name.ensures.named c.set_name.ensures.refused
