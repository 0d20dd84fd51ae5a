use Rattle.std.proofs.Common.{◌<◌, length, ap, ◌∙◌, arith}
use Rattle.std.proofs.lemmas.List.{get_or_default, length-set}
use Rattle.std.proofs.lemmas.List.Edits.{map_over_more}
use Rattle.journal_commit.specs.Tables.{share_of, untaken}
use Rattle.journal_commit.proofs.Sharing.{bytes_in_le, nobody}
use Rattle.journal_commit.proofs.client_shares.ClientShares.take_waiting.Goals as goal

pub overflow_add-bytes : goal.overflow_add-bytes
overflow_add-bytes c = omega (arith, bytes_in_le c.args.self.now.each.items c.args.self.now.shared)

pub loop-client-preserved : goal.loop-client-preserved
loop-client-preserved c =
    let first = c.args.self.now.each.items in
    let each = c.loop-client.self.each.items in
    let i = c.loop-client.client in
    let there : i < length each = omega (arith, c.loop-client.invariant.clients) in
    let is = get_or_default each i nobody (share_of each i) there in
    record {
      bytes = omega (arith, c.take_waiting_of-bytes.ensures.bytes, c.loop-client.invariant.bytes);
      taken =
          c.take_waiting_of-bytes.ensures.taken
          ∙ map_over_more untaken first each i (share_of each i) (omega (arith, c.loop-client.invariant.clients, there)) c.loop-client.invariant.taken is;
      clients = ap length c.take_waiting_of-bytes.ensures.taken ∙ (length-set each i (untaken (share_of each i)) ∙ c.loop-client.invariant.clients);
    }
