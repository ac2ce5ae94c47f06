use Rattle.readers.proofs.site.SiteOver+R+A+StateCopy+A+J+J+Published.turn.Goals as goal

pub returns-in-Bytes-clause-turned : goal.returns-in-Bytes-clause-turned
returns-in-Bytes-clause-turned g c = rw c.in-Bytes.is c.receive.ensures.turned

pub returns-in-Bytes-clause-failed : goal.returns-in-Bytes-clause-failed
returns-in-Bytes-clause-failed g c = rw c.in-Bytes.is c.receive.ensures.failed

pub returns-in-Tick-clause-turned : goal.returns-in-Tick-clause-turned
returns-in-Tick-clause-turned g c = rw c.in-Tick.is c.tick.ensures.turned
