use Rattle.std.proofs.Common.{◌+◌, ◌<◌, length, ap, ◌∙◌, arith}
use Rattle.journal_commit.specs.declared.decisions.Usage.{Usage}
use Rattle.journal_commit.specs.declared.client_shares.ClientShare.{ClientShare}
use Rattle.journal_commit.specs.Tables.{usage_of}
use Rattle.journal_commit.proofs.Sharing.{front_shared, rest_shared, texts_fit, bytes_fit, share_read, parts_fit, rest_all, more_shared, nobody}
use Rattle.journal_commit.proofs.client_shares.ClientShares.has_share.Goals as goal

pub usage-own-requires-clause-texts : goal.usage-own-requires-clause-texts
usage-own-requires-clause-texts c =
    let each = c.args.self.now.each.items in
    let i = c.args.client in
    let there : i < length each = omega arith in
    let read = share_read each i c.index.result.now there c.index.ensures in
    omega (arith, ap (λ (s : ClientShare). (usage_of s).texts) read, texts_fit each i nobody there c.args.self.now.shared)

pub usage-own-requires-clause-bytes : goal.usage-own-requires-clause-bytes
usage-own-requires-clause-bytes c =
    let each = c.args.self.now.each.items in
    let i = c.args.client in
    let there : i < length each = omega arith in
    let read = share_read each i c.index.result.now there c.index.ensures in
    omega (arith, ap (λ (s : ClientShare). (usage_of s).bytes) read, bytes_fit each i nobody there c.args.self.now.shared)

pub count_usage-before_without-requires : goal.count_usage-before_without-requires
count_usage-before_without-requires c =
    rw c.deref.ensures.value (front_shared c.args.self.now.each.items c.args.client c.args.self.now.shared)

pub count_usage-after_without-requires : goal.count_usage-after_without-requires
count_usage-after_without-requires c =
    let each = c.args.self.now.each.items in
    rw (c.deref-2.ensures.value, rest_all each (c.args.client + 1)) (rest_shared each (c.args.client + 1) c.args.self.now.shared)

pub overflow_add-all : goal.overflow_add-all
overflow_add-all c =
    let each = c.args.self.now.each.items in
    let i = c.args.client in
    let there : i < length each = omega arith in
    let read = share_read each i c.index.result.now there c.index.ensures in
    let own = ap (λ (u : Usage). u.texts) c.usage-own.ensures ∙ ap (λ (s : ClientShare). (usage_of s).texts) read in
    let before = rw c.deref.ensures.value at c.count_usage-before_without.ensures.texts in
    let after = rw (c.deref-2.ensures.value, rest_all each (i + 1)) at c.count_usage-after_without.ensures.texts in
    let fits = parts_fit each i there c.args.self.now.shared in
    omega (arith, own, before, after, fits.0)

pub overflow_add-all-2 : goal.overflow_add-all-2
overflow_add-all-2 c =
    let each = c.args.self.now.each.items in
    let i = c.args.client in
    let there : i < length each = omega arith in
    let read = share_read each i c.index.result.now there c.index.ensures in
    let own = ap (λ (u : Usage). u.texts) c.usage-own.ensures ∙ ap (λ (s : ClientShare). (usage_of s).texts) read in
    let before = rw c.deref.ensures.value at c.count_usage-before_without.ensures.texts in
    let after = rw (c.deref-2.ensures.value, rest_all each (i + 1)) at c.count_usage-after_without.ensures.texts in
    let fits = parts_fit each i there c.args.self.now.shared in
    omega (arith, own, before, after, fits.0)

pub overflow_add-all-3 : goal.overflow_add-all-3
overflow_add-all-3 c =
    let each = c.args.self.now.each.items in
    let i = c.args.client in
    let there : i < length each = omega arith in
    let read = share_read each i c.index.result.now there c.index.ensures in
    let own = ap (λ (u : Usage). u.bytes) c.usage-own.ensures ∙ ap (λ (s : ClientShare). (usage_of s).bytes) read in
    let before = rw c.deref.ensures.value at c.count_usage-before_without.ensures.bytes in
    let after = rw (c.deref-2.ensures.value, rest_all each (i + 1)) at c.count_usage-after_without.ensures.bytes in
    let fits = parts_fit each i there c.args.self.now.shared in
    omega (arith, own, before, after, fits.1)

pub overflow_add-all-4 : goal.overflow_add-all-4
overflow_add-all-4 c =
    let each = c.args.self.now.each.items in
    let i = c.args.client in
    let there : i < length each = omega arith in
    let read = share_read each i c.index.result.now there c.index.ensures in
    let own = ap (λ (u : Usage). u.bytes) c.usage-own.ensures ∙ ap (λ (s : ClientShare). (usage_of s).bytes) read in
    let before = rw c.deref.ensures.value at c.count_usage-before_without.ensures.bytes in
    let after = rw (c.deref-2.ensures.value, rest_all each (i + 1)) at c.count_usage-after_without.ensures.bytes in
    let fits = parts_fit each i there c.args.self.now.shared in
    omega (arith, own, before, after, fits.1)

pub overflow_add-before_without : goal.overflow_add-before_without
overflow_add-before_without c =
    let each = c.args.self.now.each.items in
    let i = c.args.client in
    let there : i < length each = omega arith in
    let read = share_read each i c.index.result.now there c.index.ensures in
    let own = ap (λ (u : Usage). u.texts) c.usage-own.ensures ∙ ap (λ (s : ClientShare). (usage_of s).texts) read in
    let before = rw c.deref.ensures.value at c.count_usage-before_without.ensures.texts in
    let after = rw (c.deref-2.ensures.value, rest_all each (i + 1)) at c.count_usage-after_without.ensures.texts in
    let fits = parts_fit each i there c.args.self.now.shared in
    omega (arith, own, before, after, fits.0)

pub returns-clause-shared : goal.returns-clause-shared
returns-clause-shared c = λ is.
    let each = c.args.self.now.each.items in
    let i = c.args.client in
    let there : i < length each = omega arith in
    let read = share_read each i c.index.result.now there c.index.ensures in
    let own_texts = ap (λ (u : Usage). u.texts) c.usage-own.ensures ∙ ap (λ (s : ClientShare). (usage_of s).texts) read in
    let before_texts = rw c.deref.ensures.value at c.count_usage-before_without.ensures.texts in
    let after_texts = rw (c.deref-2.ensures.value, rest_all each (i + 1)) at c.count_usage-after_without.ensures.texts in
    let own_bytes = ap (λ (u : Usage). u.bytes) c.usage-own.ensures ∙ ap (λ (s : ClientShare). (usage_of s).bytes) read in
    let before_bytes = rw c.deref.ensures.value at c.count_usage-before_without.ensures.bytes in
    let after_bytes = rw (c.deref-2.ensures.value, rest_all each (i + 1)) at c.count_usage-after_without.ensures.bytes in
    let may = c.may_reserve.ensures.0 is in
    more_shared each i c.args.more there c.args.self.now.shared
    (omega (arith, own_texts, before_texts, after_texts, may.2))
    (omega (arith, own_bytes, before_bytes, after_bytes, may.3))
