use Rattle.std.proofs.Common.{◌≡◌, ◌∙◌, ◌++◌, List, Ok, ap, map, subst}
use Rattle.std.proofs.lemmas.Result.{err_from_is_err_and}
use Rattle.query_grammar.specs.declared.ast.Binding.{Binding}
use Rattle.query_grammar.specs.declared.ast.Expr.{Expr}
use Rattle.query_meaning.specs.Copies.{Copy, bound_to, copies, roots_of, with_copies}
use Rattle.query_meaning.specs.Environment.{Bound, Environment}
use Rattle.query_meaning.specs.Meaning.{mean}
use Rattle.query_meaning.specs.Running.{Run}
use Rattle.evaluation.specs.Gives.{Fails, Gives, GivesIn}
use Rattle.evaluation.specs.Bindings.{binding_of}
use Rattle.query_copies.specs.Kept.{AreCopies}
use Rattle.query_copies.specs.Steps.{changed_by}
use Rattle.query_copies.proofs.Wholes.{fails_in_change, gives_whole, ready_to_change, ready_to_return}
use Rattle.query_copies.proofs.copies.Copies.copy.Goals as goal

-- what sources that are seen in a slice come to
seen : (bs cs : List (Binding Expr)) (env : Environment) (start mid : Run) (given : List Copy) → bs ≡ cs
    → GivesIn (λ ds. AreCopies start (roots_of ds)) (copies (map (binding_of mean) bs) env) start (Ok given) mid → GivesIn (λ ds. AreCopies start (roots_of ds)) (copies (map (binding_of mean) cs) env) start (Ok given) mid
seen bs cs env start mid given e g = let P : List (Binding Expr) → Type 0 = λ xs. GivesIn (λ ds. AreCopies start (roots_of ds)) (copies (map (binding_of mean) xs) env) start (Ok given) mid in subst P e g

-- the environment with the copies
inside : (env e : Environment) (cs : List Copy) (vs us : List Bound) → e ≡ record { focus = env.focus; variables = vs } → vs ≡ map bound_to cs ++ us → us ≡ env.variables → e ≡ with_copies cs env
inside env e cs vs us is bound around =
    is ∙ ap (λ (xs : List Bound). record env { variables = xs }) (bound ∙ ap (λ (xs : List Bound). map bound_to cs ++ xs) around)

pub modify-requires-clause-ready : goal.modify-requires-clause-ready
modify-requires-clause-ready g c =
    let env = c.args.env.now in
    let cs = c.in_ok-copies.copies in
    ready_to_change (map (binding_of mean) c.args.bindings.now) env c.with-inside.result c.args.run.now c.copies.new.run cs c.in_ok-roots.roots
    (seen c.as_slice.result.now c.args.bindings.now env c.args.run.now c.copies.new.run cs c.as_slice.ensures c.in_ok-copies.ensures) c.in_ok-roots.ensures
    (inside env c.with-inside.result cs c.in_ok-variables.variables c.variables.result.now c.with-inside.ensures c.in_ok-variables.ensures c.variables.ensures)
    c.requires.ready

pub value_of-requires-clause-ready : goal.value_of-requires-clause-ready
value_of-requires-clause-ready g c =
    let env = c.args.env.now in
    let cs = c.in_ok-copies.copies in
    ready_to_return (map (binding_of mean) c.args.bindings.now) env c.with-inside.result c.args.run.now c.copies.new.run cs c.in_ok-roots.roots
    (seen c.as_slice.result.now c.args.bindings.now env c.args.run.now c.copies.new.run cs c.as_slice.ensures c.in_ok-copies.ensures) c.in_ok-roots.ensures
    (inside env c.with-inside.result cs c.in_ok-variables.variables c.variables.result.now c.with-inside.ensures c.in_ok-variables.ensures c.variables.ensures)
    c.modify.new.run c.in_ok-modify.ensures.survive c.requires.ready

pub returns-in_err-modify : goal.returns-in_err-modify
returns-in_err-modify g c =
    let env = c.args.env.now in
    let cs = c.in_ok-copies.copies in
    let p = err_from_is_err_and c.from_residual-in_err-modify.result c.from_residual-in_err-modify.ensures.1 in
    let P : Expr → Type 0 = λ x. Fails (changed_by (mean x c.with-inside.result) c.in_ok-roots.roots c.copies.new.run) c.in_err-modify.field-0.0 in
    rw (p.1, p.2)
    (fails_in_change (map (binding_of mean) c.args.bindings.now) env c.with-inside.result c.args.run.now c.copies.new.run cs c.in_ok-roots.roots
    (seen c.as_slice.result.now c.args.bindings.now env c.args.run.now c.copies.new.run cs c.as_slice.ensures c.in_ok-copies.ensures) c.in_ok-roots.ensures
    (inside env c.with-inside.result cs c.in_ok-variables.variables c.variables.result.now c.with-inside.ensures c.in_ok-variables.ensures c.variables.ensures)
    (mean c.args.changes.now) (mean c.args.returned.now) _ (subst P c.get.ensures c.in_err-modify.ensures.comes))

pub returns : goal.returns
returns g c =
    let env = c.args.env.now in
    let cs = c.in_ok-copies.copies in
    let P : Expr → Type 0 = λ x. changed_by (mean x c.with-inside.result) c.in_ok-roots.roots c.copies.new.run ≡ Ok (tt, c.modify.new.run) in
    let Q : Expr → Type 0 = λ x. Gives (mean x c.with-inside.result) c.modify.new.run c.value_of.result c.value_of.new.run in
    gives_whole (map (binding_of mean) c.args.bindings.now) env c.with-inside.result c.args.run.now c.copies.new.run cs c.in_ok-roots.roots
    (seen c.as_slice.result.now c.args.bindings.now env c.args.run.now c.copies.new.run cs c.as_slice.ensures c.in_ok-copies.ensures) c.in_ok-roots.ensures
    (inside env c.with-inside.result cs c.in_ok-variables.variables c.variables.result.now c.with-inside.ensures c.in_ok-variables.ensures c.variables.ensures)
    c.modify.new.run c.in_ok-modify.ensures.survive (mean c.args.changes.now) (mean c.args.returned.now) c.value_of.new.run c.value_of.result
    (subst P c.get.ensures c.in_ok-modify.ensures.comes) (subst Q c.get-2.ensures c.value_of.ensures.value)
