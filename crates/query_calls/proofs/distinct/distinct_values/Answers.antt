use Rattle.std.proofs.Common.{◌∙◌, [], ap}
use Rattle.query_meaning.specs.Functions.{distinct}
use Rattle.query_calls.proofs.Atoms.{atoms_within, distinct_within}
use Rattle.query_calls.proofs.Giving.{atoms_give, items_give}
use Rattle.query_calls.proofs.distinct.distinct_values.Goals as goal

pub sequence_of-requires : goal.sequence_of-requires
sequence_of-requires c =
    let few = atoms_within c.args.items.now c.in_ok-values.values.items c.args.run.now c.atoms.new.self c.in_ok-values.ensures.ok c.as_slice-most.ensures.most in
    record { most = distinct_within _ _ _ (c.into_values.ensures ∙ c.in_ok-distinct.ensures) c.deref.ensures.value few }

pub returns : goal.returns
returns c =
    let given = atoms_give c.args.items.now c.in_ok-values.values.items c.args.run.now c.atoms.new.self c.in_ok-values.ensures.ok c.in_ok-values.ensures.same in
    items_give (distinct []) c.args.items.now c.in_ok-values.values.items _ c.args.run.now c.atoms.new.self _ given (c.into_values.ensures ∙ c.in_ok-distinct.ensures ∙ ap (distinct []) c.deref.ensures.value) c.sequence_of.ensures
