use Rattle.std.proofs.Common.{refl}
use Rattle.query_calls.proofs.Atoms.{atoms_within}
use Rattle.query_calls.proofs.Giving.{atoms_give, items_give}
use Rattle.query_calls.proofs.items.data.Goals as goal

pub sequence_of-requires : goal.sequence_of-requires
sequence_of-requires c = record { most = atoms_within c.args.items.now c.in_ok-values.values.items c.args.run.now c.atom_list.new.self c.in_ok-values.ensures.ok c.as_slice-most.ensures.most }

pub returns : goal.returns
returns c =
    let given = atoms_give c.args.items.now c.in_ok-values.values.items c.args.run.now c.atom_list.new.self c.in_ok-values.ensures.ok c.in_ok-values.ensures.same in
    items_give (λ vs. vs) c.args.items.now c.in_ok-values.values.items c.in_ok-values.values.items c.args.run.now c.atom_list.new.self _ given refl c.sequence_of.ensures
