use Rattle.std.proofs.Common.{List, Ok, IsOk, subst}
use Rattle.std.proofs.lemmas.Result.{err_from_is_err_and}
use Rattle.fault_codes.specs.declared.code.Code.TheVariants.{XPTY0019}
use Rattle.values.specs.declared.atom.Item.{Item}
use Rattle.query_meaning.specs.Meaning.{mean}
use Rattle.query_meaning.specs.Operators.{all_nodes}
use Rattle.evaluation.specs.Gives.{Fails, GivesIn}
use Rattle.query_paths.specs.Gathered.{IsFewIn, gathered}
use Rattle.query_paths.proofs.Finds.{segment_gives, segment_fails}
use Rattle.query_paths.proofs.filters.Paths.segment.Goals as goal

pub returns-in_err-found : goal.returns-in_err-found
returns-in_err-found g c =
    let p = err_from_is_err_and c.from_residual-in_err-found.result c.from_residual-in_err-found.ensures.1 in
    let P : List Item → Type 0 = λ xs. Fails (gathered c.args.env.now xs (mean c.args.part.now) c.args.run.now) c.in_err-found.field-0.0 in
    let Q : List Item → Type 0 = λ xs. IsOk (all_nodes XPTY0019 xs) in
    rw (p.1, p.2) (segment_fails c.args.mixed c.args.env.now c.args.items (mean c.args.part.now) c.args.run.now (subst Q c.as_slice.ensures.items c.in_ok-are_nodes.ensures.nodes) c.in_err-found.field-0.0 (subst P c.as_slice-2.ensures.items c.in_err-found.ensures))

pub returns : goal.returns
returns g c =
    let P : List Item → Type 0 = λ xs. GivesIn IsFewIn (gathered c.args.env.now xs (mean c.args.part.now)) c.args.run.now (Ok c.in_ok-found.found) c.gathered.new.run in
    let Q : List Item → Type 0 = λ xs. IsOk (all_nodes XPTY0019 xs) in
    segment_gives c.args.mixed c.args.env.now c.args.items (mean c.args.part.now) c.args.run.now (subst Q c.as_slice.ensures.items c.in_ok-are_nodes.ensures.nodes) c.gathered.new.run c.concluded.new.run c.in_ok-found.found c.concluded.result
    (subst P c.as_slice-2.ensures.items c.in_ok-found.ensures) c.concluded.ensures
