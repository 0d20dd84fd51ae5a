use Rattle.server_durable.proofs.EndedHalls.{no_entries_are_a_journal, stopped_servers_leave_journals}
use Rattle.server_durable.proofs.laws.stopped_servers_leave_journals.Goals as goal

pub returns-clause-first : goal.returns-clause-first
returns-clause-first c = no_entries_are_a_journal

pub returns-clause-next : goal.returns-clause-next
returns-clause-next c = stopped_servers_leave_journals
