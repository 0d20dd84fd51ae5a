-- How a job ends, and with which exit status (PROTOCOL, ruffletuff).
use Rattle.std.specs.Prelude.{ℕ, ◌==◌, if◌then◌else◌}
use Rattle.cli_transfer.specs.declared.end.TransferEnd.{TransferEnd}
use Rattle.cli_transfer.specs.declared.end.TransferEnd.TheVariants.{Done, SomeRefused, NoServer, BadReply, NotPrinted, BadPlace, NoToken, NoMemory, NotWritten, Barred}
use Rattle.cli_transfer.specs.declared.end.TransferTally.{TransferTally}
use Rattle.cli_client.specs.declared.fault.ResponseFault.{ResponseFault}
use Rattle.cli_client.specs.declared.fault.ResponseFault.TheVariants as Reply

-- all is done where nothing is refused
abbrev pub end_of : TransferTally → TransferEnd
end_of tally = if tally.refused == 0 then Done else SomeRefused

abbrev pub exit_status : TransferEnd → ℕ
exit_status Done = 0
exit_status NoServer = 1
exit_status (BadReply fault) = 1
exit_status NotPrinted = 1
exit_status BadPlace = 2
exit_status (NoToken fault) = 2
exit_status NoMemory = 3
exit_status NotWritten = 4
exit_status SomeRefused = 9
exit_status Barred = 10

-- how a job ends without a response
abbrev pub end_of_fault : ResponseFault → TransferEnd
end_of_fault Reply.NoMemory = NoMemory
end_of_fault Reply.NoConnection = NoServer
end_of_fault fault = BadReply fault
