use Rattle.reader_rows.proofs.sites.next_opened.Given as goal

-- the list that was just opened
abbrev pub ghosts-opened_over-J-Naming : goal.ghosts-opened_over-J-Naming
ghosts-opened_over-J-Naming g a = record { book = a.opened }

-- the documents of the node
abbrev pub ghosts-opened_over-J-Opening : goal.ghosts-opened_over-J-Opening
ghosts-opened_over-J-Opening g a = record { names = a.node.setup.names }
