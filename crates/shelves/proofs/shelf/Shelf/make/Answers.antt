use Rattle.std.proofs.Common.{◌≡◌, ℕ, ◌+◌, string_bytes, arith}
use Rattle.data_model.specs.Trees.{Content, append, leaf}
use Rattle.shelves.proofs.Shelves.{after-either, after-more, count-leaf}
use Rattle.shelves.proofs.shelf.Shelf.make.Goals as goal

pub invariant_of-self : goal.invariant_of-self
invariant_of-self c =
    let u = c.self.inside.lent.now in
    let v = c.self.inside.own in
    let w = c.make.new.self in
    let node : ℕ → Content = λ i. record { identity = i; kind = c.args.kind; name = string_bytes c.args.name; text = string_bytes c.args.text } in
    after-either c.make.result (λ i. (i ≡ v.next) × (w ≡ record v { trees = append v.trees (leaf (node i)); next = i + 1 })) u v w c.self.invariant
    (λ i made. after-more u v w (leaf (node i)) (i + 1) c.self.invariant (let e = made.0 in omega arith) (λ j there. (let e = made.0 in let s = count-leaf j (node i) there in omega arith)) made.1) c.make.ensures.made c.make.ensures.refused
