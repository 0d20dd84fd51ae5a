use Rattle.std.proofs.Common.{◌≡◌, drop}
use Rattle.journal_remote.specs.Memory.{chunk_in}
use Rattle.journal_remote.proofs.memory_register.MemoryRegister.chunk.Given as goal

-- what is found in the rest is what is found in all
abbrev pub invariant-loop-write : goal.invariant-loop-write
invariant-loop-write l =
    chunk_in (drop l.write-index l.self.writes.items) l.key.generation l.key.index
    ≡ chunk_in l.self.writes.items l.key.generation l.key.index
