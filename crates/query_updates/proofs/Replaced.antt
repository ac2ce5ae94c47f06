-- Texts that replace others.
use Rattle.std.proofs.Common.{◌≡◌, ℕ, ◌≤◌, List, [], ◌∷◌, length, ap, ◌∙◌, arith, Result, Ok}
use Rattle.values.specs.declared.atom.Atom.{Atom}
use Rattle.values.specs.declared.atom.Item.{Item}
use Rattle.values.specs.declared.fault.ValueFault.{ValueFault}
use Rattle.values.specs.Work.{text_work}
use Rattle.query_meaning.specs.Content.{new_text, text_node}
use Rattle.query_meaning.specs.Running.{Run, and_then, come_to, new_nodes, pure, work, ◌>>=◌}
use Rattle.query_meaning.specs.Strings.{spaced}
use Rattle.query_meaning.specs.Updates.{value_replaced}
use Rattle.evaluation.specs.Gives.{Any, Gives, GivesIn, Stand}
use Rattle.evaluation.proofs.Each.{grows_then}
use Rattle.query_updates.specs.declared.targets.Target.{Target}
use Rattle.query_updates.specs.Parts.{text_set, value_set}
use Rattle.query_updates.specs.Targets.{content_of}
use Rattle.query_updates.proofs.Steps.{gives_from}

-- the text of one value or more, which takes its work and an identity
pub text_set_gives : (t : Target) (values : List Atom) (text : List ℕ) (u : Unit {0}) (n : ℕ) (old paid mid new : Run) (r : Result (List Item) ValueFault) → 1 ≤ length values
    → spaced values ≡ Ok text → GivesIn Any (work (text_work text)) old (Ok u) paid → GivesIn Any (new_nodes 1) paid (Ok n) mid → Gives (text_set t text) mid r new
    → Gives (value_set t values) old r new
text_set_gives t [] text u n old paid mid new r some is p g h = absurd (omega (arith, some))
text_set_gives t (a ∷ more) text u n old paid mid new r some is p g h =
    let given = ap (λ o. and_then (and_then (come_to o old) new_text) (value_replaced (content_of t))) is in
    let spent = ap (λ o. and_then (and_then o (λ _. new_nodes 1 >>= (λ i. pure (text_node text i)))) (value_replaced (content_of t))) p.0 in
    let taken = ap (λ o. and_then (and_then o (λ i. pure (text_node text i))) (value_replaced (content_of t))) g.0 in
    gives_from Stand (value_set t (a ∷ more)) (text_set t text) old mid new r (given ∙ spent ∙ taken) (grows_then old paid mid p.1.0 g.1.0) h
