use Rattle.server_steps.proofs.sending.+send_to_others.Given as goal

abbrev pub decreases-send_to_others : goal.decreases-send_to_others
decreases-send_to_others g l = l.count
