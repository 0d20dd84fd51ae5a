-- Why nothing that decides came back from a cluster.
use Rattle.journal_etcd.specs.declared.fault.AnswerError.{AnswerError}
use Rattle.journal_etcd.specs.declared.fault.AnswerError.TheVariants as answers
use Rattle.journal_etcd.specs.declared.fault.RequestFault.{RequestFault}
use Rattle.journal_etcd.specs.declared.fault.RequestFault.TheVariants as requests
use Rattle.journal_gateway.specs.declared.fault.GatewayFault.{GatewayFault}
use Rattle.journal_gateway.specs.declared.fault.GatewayFault.TheVariants as gateway
use Rattle.journal_file.specs.declared.storage.StorageFault.{StorageFault}
use Rattle.journal_file.specs.declared.storage.StorageFault.TheVariants as storage
use Rattle.journal_cluster.specs.declared.fault.ClusterFault.{ClusterFault}
use Rattle.journal_cluster.specs.declared.fault.ClusterFault.TheVariants.{NoMemory, Unanswered, Unread, BadChunk}

abbrev pub fault_of_gateway : GatewayFault → ClusterFault
fault_of_gateway gateway.NoMemory = NoMemory
fault_of_gateway fault = Unanswered fault

abbrev pub fault_of_answer : AnswerError → ClusterFault
fault_of_answer answers.NoMemory = NoMemory
fault_of_answer (answers.Fault fault) = Unread fault

abbrev pub fault_of_request : RequestFault → ClusterFault
fault_of_request requests.NoMemory = NoMemory
fault_of_request requests.BadChunk = BadChunk

abbrev pub storage_fault_of : ClusterFault → StorageFault
storage_fault_of NoMemory = storage.NoMemory
storage_fault_of fault = storage.Failed
