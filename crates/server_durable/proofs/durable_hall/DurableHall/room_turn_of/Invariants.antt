use Rattle.server_durable.specs.Records.{text_of}
use Rattle.server_durable.proofs.durable_hall.DurableHall.room_turn_of.Given as goal

-- the payload of the reservation, the reservation, and what the author knows of its own records
abbrev pub ghosts-room_turn : goal.ghosts-room_turn
ghosts-room_turn g a = record { text = text_of a.reserved; reserved = a.reserved; own = a.log.records.own }
