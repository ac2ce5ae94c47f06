use Rattle.std.proofs.Common.{◌≡◌, [], None, ap, subst, sym, ◌∙◌}
use Rattle.values.specs.declared.atom.Item.TheVariants as item
use Rattle.query_meaning.specs.Environment.{Environment, with_focus}
use Rattle.query_meaning.specs.Running.{Run}
use Rattle.evaluation.specs.Gives.{IsReady}
use Rattle.query_rows.proofs.Nodes.{ready_at}
use Rattle.query_rows.proofs.asking.asked_from.Goals as goal

pub asked-requires : goal.asked-requires
asked-requires c =
    let env : c.with_focus-env.result ≡ with_focus (item.Node c.args.node) 1 1 (record { focus = None; variables = [] }) =
    c.with_focus-env.ensures ∙ ap (with_focus (item.Node c.args.node) 1 1) (c.new.ensures ∙ ap (λ vs. record { focus = None; variables = vs }) c.new-variables.ensures) in
    let Q : Environment → Type 0 = λ e. IsReady e c.in_ok-run.run' in
    let R : Run → Type 0 = λ r. IsReady (with_focus (item.Node c.args.node) 1 1 (record { focus = None; variables = [] })) r in
    record { ready = subst Q (sym env) (subst R (sym c.in_ok-run.ensures) (ready_at c.args.lent.now c.args.node c.requires.stands)) }
