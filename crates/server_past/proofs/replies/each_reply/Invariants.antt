use Rattle.std.proofs.Common.{◌≡◌, map, length}
use Rattle.std.specs.List.{range_with_len}
use Rattle.journal_entry.specs.Entries.{entry_of}
use Rattle.mds_request.specs.Configuration.{configuration}
use Rattle.server_routes.specs.declared.app.FleetView.TheVariants.{Compliance}
use Rattle.server_past.specs.Past.{own_reply}
use Rattle.server_past.proofs.replies.each_reply.Given as goal

-- the bodies of the replies of the operators so far
abbrev pub invariant-loop-place : goal.invariant-loop-place
invariant-loop-place l = record {
  all : l.operators ≡ length (configuration l.config).operators;
  bodies : map (λ reply. reply.body) l.replies.items
      ≡ map (λ place. (own_reply (configuration l.config) (map entry_of l.entries) Compliance l.at place).body) (range_with_len 0 l.place);
}
