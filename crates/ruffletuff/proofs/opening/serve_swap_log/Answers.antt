use Rattle.ruffletuff.proofs.opening.serve_swap_log.Goals as goal

pub serve_log-requires-clause-listed : goal.serve_log-requires-clause-listed
serve_log-requires-clause-listed g c κs within = (_, c.new-log.ensures _ c.requires.listed.1)
