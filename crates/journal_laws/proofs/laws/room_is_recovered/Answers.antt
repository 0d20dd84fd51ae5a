use Rattle.std.proofs.Common.{ap}
use Rattle.mds_machine.specs.Room.{authors_in}
use Rattle.journal_laws.proofs.laws.room_is_recovered.Goals as goal

pub returns : goal.returns
returns c = λ configuration history again drafts drafts_again publications publications_again are are_again is.
    let one = c.room_is_history.ensures configuration history drafts publications are in
    let two = c.room_is_history.ensures configuration again drafts_again publications_again are_again in
    let both = c.replay_leads_there.ensures _ _ _ (authors_in configuration history) (authors_in configuration again) one two is in
    (ap (λ s. s.drafts) both.1, ap (λ s. s.publications) both.1)
