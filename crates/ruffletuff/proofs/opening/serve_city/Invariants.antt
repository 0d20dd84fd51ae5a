use Rattle.ruffletuff.proofs.opening.serve_city.Given as goal

-- the text of the configuration that was given
abbrev pub ghosts-serve_city_as : goal.ghosts-serve_city_as
ghosts-serve_city_as g a = record { text = a.given.text.now }
