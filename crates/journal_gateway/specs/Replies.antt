-- What is taken of a response.
use Rattle.std.specs.Prelude.{◌≡◌, ◌⊎◌, ◌<◌, ℕ, List, ◌++◌, length, slice_range}
use Rattle.httparse.specs.declared.spans.ResponseSpans.{ResponseSpans}
use Rattle.http1.specs.declared.conn.Event.{Event}
use Rattle.http1.specs.declared.conn.Event.TheVariants.{NeedMore, Head, Informational, Data, End, Paused, Upgraded, Closed}
use Rattle.journal_gateway.specs.declared.fault.GatewayFault.{GatewayFault}
use Rattle.journal_gateway.specs.declared.fault.GatewayFault.TheVariants.{NoMemory, NotHttp}
use Rattle.journal_gateway.specs.declared.exchange.GatewayReply.{GatewayReply}
use Rattle.journal_gateway.specs.declared.exchange.ReplyProgress.{ReplyProgress}
use Rattle.journal_gateway.specs.declared.exchange.ReplyProgress.TheVariants.{Waiting, Part, Whole}

-- A head gives the status, and data are appended to the body; a response is whole at its end, and not before.
abbrev pub Takes : Event ResponseSpans → List ℕ → GatewayReply → GatewayReply → ReplyProgress → Type 0
Takes NeedMore input old new progress = (progress ≡ Waiting) × (new ≡ old)
Takes (Head head) input old new progress = (progress ≡ Part) × (new ≡ record old { status = head.code })
Takes (Informational head) input old new progress = (progress ≡ Part) × (new ≡ old)
Takes (Data span) input old new progress =
    (progress ≡ Part) × (new.status ≡ old.status)
    × (new.body.items ≡ old.body.items ++ slice_range input span.start span.end)
Takes (End trailers) input old new progress = (progress ≡ Whole) × (new ≡ old)
Takes Paused input old new progress = ⊥
Takes Upgraded input old new progress = ⊥
Takes Closed input old new progress = ⊥

-- Data that lie outside of what was read, and what no answer to a request is; memory may run out for data alone.
abbrev pub Refuses : Event ResponseSpans → List ℕ → GatewayFault → Type 0
Refuses NeedMore input fault = ⊥
Refuses (Head head) input fault = ⊥
Refuses (Informational head) input fault = ⊥
Refuses (Data span) input fault =
    (fault ≡ NoMemory) ⊎ ((fault ≡ NotHttp) × ((span.end < span.start) ⊎ (length input < span.end)))
Refuses (End trailers) input fault = ⊥
Refuses Paused input fault = fault ≡ NotHttp
Refuses Upgraded input fault = fault ≡ NotHttp
Refuses Closed input fault = fault ≡ NotHttp
