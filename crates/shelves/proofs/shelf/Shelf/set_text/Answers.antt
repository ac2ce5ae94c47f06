use Rattle.std.proofs.Common.{refl, string_bytes}
use Rattle.data_model.specs.Trees.{Content}
use Rattle.data_model.specs.Changes.{with_content}
use Rattle.node_table.specs.Flat.{with_text}
use Rattle.node_table.proofs.Contents.{SaysSame, weigh-with_content}
use Rattle.shelves.proofs.Shelves.{after-weighed}
use Rattle.shelves.proofs.shelf.Shelf.set_text.Goals as goal

pub invariant_of-self : goal.invariant_of-self
invariant_of-self c =
    let says = λ (d : Content). record d { text = string_bytes c.args.text } in
    let same : SaysSame says (with_text (string_bytes c.args.text)) = record { identity = λ d. refl; entry = λ d p bs cs. refl } in
    after-weighed c.self.inside.lent.now c.self.inside.own c.set_text.new.self (with_content c.args.id says c.self.inside.own.trees) c.self.invariant (λ i. weigh-with_content says (with_text (string_bytes c.args.text)) same c.args.id _ c.self.inside.own.trees) c.set_text.ensures
