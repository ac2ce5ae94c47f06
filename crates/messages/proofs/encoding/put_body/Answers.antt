use Rattle.messages.proofs.encoding.put_body.Goals as goal

pub returns-in-Prepare-clause-put : goal.returns-in-Prepare-clause-put
returns-in-Prepare-clause-put c = rw c.in-Prepare.is (rw (c.as_slice.ensures, c.proposal.ensures) at c.put_bytes.ensures.put)

pub returns-in-Reply-clause-put : goal.returns-in-Reply-clause-put
returns-in-Reply-clause-put c = rw c.in-Reply.is (rw (c.as_slice-in-Reply.ensures, c.reply_bytes.ensures.spelt) at c.put_bytes-in-Reply.ensures.put)

pub returns-in-Behind-clause-put : goal.returns-in-Behind-clause-put
returns-in-Behind-clause-put c = rw c.in-Behind.is (rw (c.as_slice-in-Behind.ensures, c.applied_bytes.ensures.spelt) at c.put_bytes-in-Behind.ensures.put)

pub returns-in-Elsewhere-clause-put : goal.returns-in-Elsewhere-clause-put
returns-in-Elsewhere-clause-put c = rw c.in-Elsewhere.is (rw (c.as_slice-in-Elsewhere.ensures, c.elsewhere_bytes.ensures.spelt) at c.put_bytes-in-Elsewhere.ensures.put)
