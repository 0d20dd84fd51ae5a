use Rattle.std.proofs.Common.{map, sym, subst, ◌++◌, ◌∙◌, arith}
use Rattle.std.proofs.lemmas.List.{length-map}
use Rattle.journal_file.proofs.Listed.{may_be_more}
use Rattle.journal_file.proofs.journal.JournalLog.append.Goals as goal

pub returns-clause-appended : goal.returns-clause-appended
returns-clause-appended g c = λ list may.
    let j = c.args.self.now in
    let texts = map (λ v. v.items) c.args.texts.now in
    may_be_more j.is_broken j.position j.sum j.count j.synced list texts c.in_ok-group.group.bytes.items c.len.result c.in_ok-group.group.sum _
    may c.if-self.false (sym c.are_taken.ensures ∙ c.if-not-are_taken.false) c.in_ok-group.ensures.bytes (omega (arith, c.len.ensures, c.in_ok-group.group.bytes.ok.0)) c.in_ok-group.ensures.sum (sym (length-map c.args.texts.now _))
    (λ held h. subst (λ b. g.M.Storage.holds c.append.new.self (held ++ b)) c.deref.ensures.value (c.in-Ok.ensures held h))
