use Rattle.std.proofs.Common.{◌≡◌, ◌-◌, min, length, take, ◌++◌, ap, ◌∙◌, arith}
use Rattle.mds_script.proofs.Gathered.{keeps_front}
use Rattle.mds_script.proofs.gather.append_within_limit.Goals as goal
use Rattle.mds_script.specs.declared.gather.TheConstants.{STORED_LIMIT}

pub returns-clause-items : goal.returns-clause-items
returns-clause-items c =
    let line = c.args.line.now in
    let bytes = c.args.bytes.now in
    let room : c.len-room.result ≡ length line.items = omega (arith, c.len-room.ensures, line.ok.0) in
    let count : c.min-count.result ≡ min (length bytes) (STORED_LIMIT - length line.items) = c.min-count.ensures ∙ ap (λ n. min (length bytes) (STORED_LIMIT - n)) room in
    c.append.ensures.items ∙ (ap (λ n. line.items ++ take n bytes) count ∙ keeps_front STORED_LIMIT line.items bytes (omega (arith, c.requires.short, line.ok.0)))
