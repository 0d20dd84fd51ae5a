use Rattle.std.proofs.Common.{Bool, not, [], refl, sym, ap}
use Rattle.std.specs.Prelude.{◌==◌}
use Rattle.std.specs.List.{list_all}
use Rattle.mds_machine.specs.Isolation.{HasMemory}
use Rattle.mds_machine.specs.Step.{Exchange}
use Rattle.mds_request.specs.declared.code.Code.TheVariants.{NoMemory}
use Rattle.mds_machine.proofs.Served.{not_unavailable, one_of_all}
use Rattle.tests_examples_core.specs.Computed.{documents}
use Rattle.tests_examples_core.specs.Requests.{configuration}
use Rattle.tests_examples_server.specs.Turns.{whole}
use Rattle.tests_examples_server.proofs.histories.insertion.Goals as goal

-- no reply of the history is 503
abbrev is_available : Exchange → Bool
is_available e = not (e.reply.status == 503)

memory : HasMemory configuration 0 whole
memory before e stands is = λ same.
    not_unavailable e.reply NoMemory refl (one_of_all is_available before e stands.0 (ap (list_all is_available) (sym stands.1))) same

pub returns-clause-part : goal.returns-clause-part
unfolding documents
returns-clause-part c = record { own = refl; memory = memory; seen = ([], refl, refl) }
