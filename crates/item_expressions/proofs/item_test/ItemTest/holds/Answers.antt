use Rattle.query_meaning.specs.Running.{trees_of}
use Rattle.item_expressions.proofs.Tested.{compared, joined, told}
use Rattle.item_expressions.proofs.item_test.ItemTest.holds.Goals as goal

pub returns-in-Compared-clause-holds : goal.returns-in-Compared-clause-holds
returns-in-Compared-clause-holds c = λ test variable others env is around.
    compared (trees_of c.args.run.now) test variable others c.args.item.now.item.now c.args.run.now c.holds.new.run env around c.args.self.now c.in-Compared.comparison c.holds.result c.in-Compared.is c.holds.ensures.holds is

pub returns-in-Joined-clause-holds : goal.returns-in-Joined-clause-holds
returns-in-Joined-clause-holds c = λ test variable others env is around.
    joined (trees_of c.args.run.now) test variable others c.args.item.now.item.now c.args.run.now c.holds-in-Joined.new.run env around c.args.self.now c.in-Joined.comparison c.in-Joined.other c.holds-in-Joined.result c.in-Joined.is c.holds-in-Joined.ensures.holds is

pub returns-in-Told-clause-holds : goal.returns-in-Told-clause-holds
returns-in-Told-clause-holds c = λ test variable others env is around.
    told (trees_of c.args.run.now) test variable others c.args.item.now.item.now c.args.run.now c.is_true.new.run env around c.args.self.now c.in-Told.function c.is_true.result c.in-Told.is c.is_true.ensures.holds is
