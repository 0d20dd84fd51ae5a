use Rattle.journal_gateway.proofs.request.push_head.Goals as goal

pub returns-in_ok-write_request-in-Some-clause-text :
    goal.returns-in_ok-write_request-in-Some-clause-text
returns-in_ok-write_request-in-Some-clause-text c =
    rw c.in-Some.is
    (rw (c.as_bytes-in-Some.ensures.value, c.as_bytes.ensures.value, c.as_bytes-in-Some-2.ensures.value)
    at c.in_ok-write_request-in-Some.ensures.ok)

pub returns-in_ok-write_request-in-Some-clause-next :
    goal.returns-in_ok-write_request-in-Some-clause-next
returns-in_ok-write_request-in-Some-clause-next c =
    rw c.in-Some.is
    (rw (c.as_bytes-in-Some.ensures.value, c.as_bytes.ensures.value) at c.in_ok-write_request-in-Some.ensures.next)
