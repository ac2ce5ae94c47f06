use Rattle.paxq_run.proofs.run.run_commands.Given as goal

-- the list that was just opened
abbrev pub ghosts-play_over-J-Naming : goal.ghosts-play_over-J-Naming
ghosts-play_over-J-Naming g a = record { book = a.opened }

-- the documents of the node
abbrev pub ghosts-play_over-J-Opening : goal.ghosts-play_over-J-Opening
ghosts-play_over-J-Opening g a = record { names = a.node.setup.names }
