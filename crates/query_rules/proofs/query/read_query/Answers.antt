use Rattle.query_rules.proofs.Top.{query_gives, spelt_of}
use Rattle.query_rules.proofs.query.read_query.Goals as goal

pub returns-clause-reads : goal.returns-clause-reads
returns-clause-reads c = query_gives c.args.level c.args.tokens c.left.result c.in-Some.depth c.query.result c.left.ensures c.in-Some.ensures.1 c.query.ensures

pub returns-clause-spelt : goal.returns-clause-spelt
returns-clause-spelt c =
    spelt_of c.args.level c.args.tokens c.query.result c.reading_is_sound.ensures
    (query_gives c.args.level c.args.tokens c.left.result c.in-Some.depth c.query.result c.left.ensures c.in-Some.ensures.1 c.query.ensures)
