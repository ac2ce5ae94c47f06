use Rattle.std.proofs.Common.{◌≡◌, None, subst}
use Rattle.records.specs.Law.{passing}
use Rattle.records.proofs.kept.Record.put_learnt.Goals as goal

-- no write is let pass
pub returns-clause-goes : goal.returns-clause-goes
returns-clause-goes g c = λ kept.
    let went = c.in_ok-put_learnt.ensures.goes kept c.args.self.now (c.requires.stands (c.in_ok-put_learnt.ensures.kept kept)) in
    (λ f known. subst (λ p. passing p f ≡ None) c.requires.passes (went.0 f known), went.1)
