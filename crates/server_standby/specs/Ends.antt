-- How a process's time as owner ends.
use Rattle.std.specs.Prelude.{if◌then◌else◌, Option, Some, None}
use Rattle.journal_register.specs.declared.look.Look.{Look}
use Rattle.journal_register.specs.declared.owner.Owner.{Owner}
use Rattle.journal_register.specs.declared.transaction.Transaction.{Transaction}
use Rattle.journal_register.specs.Kinds.{claim_of}
use Rattle.journal_register.specs.Order.{is_owner}
use Rattle.server_standby.specs.declared.handing_over.TenureEnd.{TenureEnd}
use Rattle.server_standby.specs.declared.handing_over.TenureEnd.TheVariants.{Overtaken, Held, Unknown}

-- Who still owns the register hands it over by a claim for nobody.
abbrev pub hand_over_of : Owner → Look → Option Transaction
hand_over_of owner look = if is_owner owner look.owner then claim_of owner 0 else None

abbrev pub end_of : Owner → Option Look → TenureEnd
end_of owner None = Unknown
end_of owner (Some look) = if is_owner owner look.owner then Held else Overtaken
