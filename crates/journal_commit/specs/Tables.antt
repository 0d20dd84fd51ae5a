-- What each client has, in a table.
use Rattle.std.specs.Prelude.{ℕ, ◌+◌, List, slice_set, slice_index_or, sum_by}
use Rattle.journal_commit.specs.declared.decisions.Usage.{Usage}
use Rattle.journal_commit.specs.declared.client_shares.ClientShare.{ClientShare}
use Rattle.journal_commit.specs.Shares.{both}

-- what one client has in all
abbrev pub usage_of : ClientShare → Usage
usage_of share = both share.held share.waiting

-- how many bytes these have
abbrev pub bytes_in : List ClientShare → ℕ
bytes_in = sum_by (λ share. share.held.bytes + share.waiting.bytes)

-- how many payloads of these have a reservation
abbrev pub texts_held : List ClientShare → ℕ
texts_held = sum_by (λ share. share.held.texts)

-- what this client has, nothing where it has no share
abbrev pub share_of : List ClientShare → ℕ → ClientShare
share_of each client =
    let nothing : Usage = record { texts = 0; bytes = 0 } in slice_index_or each client (record { held = nothing; waiting = nothing })

-- what each has once so much more is reserved for this client
abbrev pub holding : List ClientShare → ℕ → Usage → List ClientShare
holding each client more = slice_set each client (record { held = both (share_of each client).held more; waiting = (share_of each client).waiting })

-- what a client has once nothing of it waits
abbrev pub untaken : ClientShare → ClientShare
untaken share = record { held = share.held; waiting = record { texts = 0; bytes = 0 } }
