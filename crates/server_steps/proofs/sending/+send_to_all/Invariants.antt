use Rattle.server_steps.proofs.sending.+send_to_all.Given as goal

abbrev pub decreases-send_to_all : goal.decreases-send_to_all
decreases-send_to_all g l = l.count
