use Rattle.server_durable.proofs.records.record_text.Goals as goal

pub returns-in-Ok-clause-within : goal.returns-in-Ok-clause-within
returns-in-Ok-clause-within c = record {
  at = c.is_of_an_entry.ensures;
  target = c.in-Ok.ensures.short.target;
  body = c.in-Ok.ensures.short.body;
}
