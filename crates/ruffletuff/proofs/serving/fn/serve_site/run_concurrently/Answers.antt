use denote.Param.Send.{param_send}
use Rattle.ruffletuff.proofs.serving.fn.serve_site.run_concurrently.Goals as goal

pub serve_to_the_end-requires-send-K : goal.serve_to_the_end-requires-send-K
serve_to_the_end-requires-send-K g c κs within = param_send _ _ c.requires.1.1.1.1.1.0

pub serve_to_the_end-requires-send-N : goal.serve_to_the_end-requires-send-N
serve_to_the_end-requires-send-N g c κs within = param_send _ _ c.requires.1.1.1.1.1.1

pub serve_to_the_end-requires-send-L : goal.serve_to_the_end-requires-send-L
serve_to_the_end-requires-send-L g c κs within = param_send _ _ c.requires.1.1.1.1.1.2

pub serve_to_the_end-requires-send-S : goal.serve_to_the_end-requires-send-S
serve_to_the_end-requires-send-S g c κs within = param_send _ _ c.requires.1.1.1.1.1.3
