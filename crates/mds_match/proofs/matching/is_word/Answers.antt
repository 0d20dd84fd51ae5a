use Rattle.mds_match.proofs.matching.is_word.Goals as goal

pub returns : goal.returns
returns c = c.eq.ensures
