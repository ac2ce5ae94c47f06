use Rattle.std.proofs.Common.{ℕ, ◌<◌, List, length, get_or, arith, subst}
use borrow.Author.Count.{below_more}
use Rattle.forest_index.specs.Named.{Extends}
use Rattle.forest_index.proofs.Named.{IsNamed, named-extends, named-all}
use Rattle.forest_index.proofs.name_lists.NameLists.add_planned.Goals as goal

pub add_one-requires : goal.add_one-requires
add_one-requires c = λ n i e. c.loop-id.invariant.kept n i (c.requires n i e)

pub loop-id-preserved : goal.loop-id-preserved
loop-id-preserved c =
    let i = c.loop-id.invariant in
    let ids = c.keys-id-items.result.now in
    let P : ℕ → Type 0 = λ j. IsNamed c.args.plan.now c.args.rows.now c.add_one.new.self (get_or ids j 0) in
    let more : Extends c.loop-id.self c.add_one.new.self = c.add_one.ensures.kept in
    let here : P c.loop-id.id-index = c.in_ok-add_one.ensures.named in
    record {
      kept = λ n k l. more n k (i.kept n k l);
      named = below_more P c.loop-id.id-index (λ j l. named-extends c.args.plan.now c.args.rows.now c.loop-id.self c.add_one.new.self (get_or ids j 0) more (i.named j l)) here;
    }

pub returns-clause-covers : goal.returns-clause-covers
returns-clause-covers c =
    let i = c.loop-id.invariant in
    let P : List ℕ → Type 0 = λ ids. (j : ℕ) → j < length ids → IsNamed c.args.plan.now c.args.rows.now c.loop-id.self (get_or ids j 0) in
    named-all c.args.plan.now c.args.rows.now c.loop-id.self (λ n k e. i.kept n k (c.requires n k e)) (subst P c.keys-id-items.ensures (λ j l. i.named j (omega arith)))
