-- Codes of payloads, by which proofs tell their values apart.
use Rattle.std.specs.Prelude.{ℕ, List}
use Rattle.std.specs.Coded.{Coded, coded_ℕ, coded_list}

abbrev pub coded_text : Coded (List ℕ)
coded_text = coded_list coded_ℕ

abbrev pub coded_texts : Coded (List (List ℕ))
coded_texts = coded_list coded_text
