use Rattle.shelves.proofs.Stays.{stays-more, stays-moved, stays-taken, stays-named, stays-texted}
use Rattle.shelves.proofs.laws.nodes_stay.Goals as goal

pub returns-clause-more : goal.returns-clause-more
returns-clause-more c = λ s us n i there. stays-more s i there us n

pub returns-clause-moved : goal.returns-clause-moved
returns-clause-moved c = λ s part p m ks i facts can there. stays-moved s i there facts part p m ks can

pub returns-clause-taken : goal.returns-clause-taken
returns-clause-taken c = λ s k i there. stays-taken s i there k

pub returns-clause-named : goal.returns-clause-named
returns-clause-named c = λ s k i name there. stays-named s i there k name

pub returns-clause-texted : goal.returns-clause-texted
returns-clause-texted c = λ s k i text there. stays-texted s i there k text
