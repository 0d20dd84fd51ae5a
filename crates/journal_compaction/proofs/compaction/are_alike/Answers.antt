use Rattle.std.proofs.Common.{map, refl, subst, sym, ◌∙◌}
use Rattle.mds_request.specs.Configuration.{configuration}
use Rattle.journal_entry.specs.Entries.{entry_of}
use Rattle.journal_compaction.specs.Replies.{AreReplies}
use Rattle.journal_compaction.proofs.compaction.are_alike.Goals as goal

pub returns-then-are_same : goal.returns-then-are_same
returns-then-are_same g c =
    let k = configuration c.args.asking.now.config.now in
    let asked = map entry_of c.args.asking.now.questions.now in
    let after = c.in-Ok-replies_of.replies.items in
    let same = sym c.deref-2.ensures.value ∙ c.if-are_same.ensures.0 refl ∙ c.deref-3.ensures.value in
    record {
      head = c.in-Ok-parts.found.0.now;
      back = map entry_of c.in-Ok-parts.found.1.items;
      journal = c.in-Ok-parts.ensures.journal;
      replies = c.in-Ok.replies.items;
      old = c.in-Ok.ensures;
      new = subst (λ rs. AreReplies k (map entry_of c.in-Ok-parts.found.1.items) asked rs) (sym same)
          (subst (λ es. AreReplies k (map entry_of es) asked after) c.deref.ensures.value c.in-Ok-replies_of.ensures);
    }
