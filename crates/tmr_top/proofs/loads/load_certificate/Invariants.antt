use Rattle.tmr_top.proofs.loads.load_certificate.Given as goal

abbrev pub ghosts-take_certificate : goal.ghosts-take_certificate
ghosts-take_certificate g a = record { original = a.n.now.net; hardened = a.h.now.net }
