use Rattle.std.proofs.Common.{◌+◌, refl, sym}
use Rattle.journal_register.specs.Register.{Message}
use Rattle.journal_remote.specs.declared.memory_register.ChunkWrite.{ChunkWrite}
use Rattle.journal_remote.specs.declared.memory_register.MemoryRegister.{MemoryRegister}
use Rattle.journal_remote.specs.Memory.{register_of}
use Rattle.journal_remote.proofs.Memory.{comes_done, comes_failed}
use Rattle.journal_remote.proofs.memory_register.MemoryRegister.receive.Goals as goal

pub returns-then-not-holds : goal.returns-then-not-holds
returns-then-not-holds c =
    let m : Message = record { transaction = c.args.transaction.now; bytes = c.args.bytes.now } in
    comes_failed m (register_of c.args.self.now) (sym c.if-not-is_lawful.ensures) (sym c.if-not-holds.ensures)

pub returns : goal.returns
returns c =
    let m : Message = record { transaction = c.args.transaction.now; bytes = c.args.bytes.now } in
    let r = c.args.self.now in
    let s : MemoryRegister = record {
      revision = r.revision + 1;
      owner = c.unwrap_or-self.result;
      head = c.unwrap_or-self-2.result;
      writes = c.insert.new.self;
    } in
    let w : ChunkWrite = record {
      put = c.args.transaction.now.chunk;
      deleted = c.args.transaction.now.deleted;
      bytes = c.in-Ok.bytes;
    } in
    comes_done m r s w (sym c.if-not-is_lawful.ensures) (sym c.if-not-holds.ensures) refl c.unwrap_or-self.ensures
    c.unwrap_or-self-2.ensures c.in-Ok-insert.ensures.items refl refl c.in-Ok.ensures.items
