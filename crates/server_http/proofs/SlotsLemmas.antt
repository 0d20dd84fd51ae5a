-- Lemmas on the idle connections of a table: what is seen of a list of maps, and of one that is rewritten.
use Rattle.std.proofs.Common.{◌≡◌, ℕ, ◌<◌, ◌≤◌, List, [], ◌∷◌, length, map, get_or, set, Option, None, Some, option_map, true, false, IfSome, IsSomeAnd, refl, subst, sym, ap, ◌∙◌, arith}
use Rattle.std.proofs.lemmas.List.{map-set, set_past, get_or-map, get_or_past, length-map, set-get_or}
use Rattle.std.proofs.lemmas.Bool.{false≢true}
use Rattle.std.proofs.lemmas.Option.{none-some, same_Some}
use Rattle.std.specs.Option.{option_map_or}
use Rattle.std.specs.Prelude.{Result, Ok, Err, is_ok, OnOk, OnErr, if◌then◌else◌}
use Rattle.std.specs.BTreeMap.{is_at, insert_entry}
use Rattle.std.specs.Map.{remove_entry}
use Rattle.std.specs.Ordering.{nat_cmp}
use Rattle.slab.specs.Slab.{Slab, Updates, get}
use Rattle.server_http.specs.Slots.{answered, busy, bytes_without, Counts, counts_of, counts_without, uncounted, idle_lists, idle_of, idle_with, idle_without, loads_without, StartsWait, asker, client_at, fits, is_free}
use Rattle.mds_request.specs.declared.config.Actor.{Actor}
use Rattle.mds_request.specs.declared.config.Actor.TheVariants.{Author, Operator, Nobody}
use Rattle.server_http.specs.declared.slots.ConnEntry.{ConnEntry}
use Rattle.server_http.specs.declared.slots.ConnTable.{ConnTable}

module _ {X Y : Type 0} (f : X → Y) where
  -- what is seen of an element
  pub seen_at : (xs : List X) (i : ℕ) (x : X) (none : Y) → i < length xs → x ≡ get_or xs i x → get_or (map f xs) i none ≡ f x
  seen_at xs i x none within read = get_or-map f xs i x none within ∙ ap f (sym read)

  -- past the end nothing is seen
  pub seen_past : (xs : List X) (i : ℕ) (none : Y) → length xs ≤ i → get_or (map f xs) i none ≡ none
  seen_past xs i none past = get_or_past (map f xs) i none (omega (arith, length-map xs f))

  -- a write that changes what is seen of the element
  pub seen_set : (change : Y → Y) (xs : List X) (i : ℕ) (x y : X) (none : Y) → i < length xs → x ≡ get_or xs i x → f y ≡ change (f x) → map f (set xs i y) ≡ set (map f xs) i (change (get_or (map f xs) i none))
  seen_set change xs i x y none within read changed =
      map-set f xs i y ∙ ap (set (map f xs) i) (changed ∙ ap change (sym (seen_at xs i x none within read)))

  -- a write past the end changes nothing
  pub seen_set_past : (xs : List X) (i : ℕ) (y : Y) → length xs ≤ i → map f xs ≡ set (map f xs) i y
  seen_set_past xs i y past = sym (set_past (map f xs) i y (omega (arith, length-map xs f)))

-- of a list that isn't longer than none
pub empty_list : {X : Type 0} (xs : List X) → (0 < length xs → false ≡ true) → xs ≡ []
empty_list [] none = refl
empty_list (x ∷ xs) none = absurd (false≢true (none (omega arith)))

pub idle_without-idle : (table : ConnTable) (key since : ℕ) (conn : ConnEntry) → get table.conns key ≡ Some conn → conn.since ≡ Some since → idle_without key table ≡ set (idle_lists table) conn.client (remove_entry (is_at (nat_cmp since)) (idle_of table conn.client))
idle_without-idle table key since conn found idle = simp (found, idle)

-- of two changes at a key the second counts
pub Updates-again : {T : Type 0} (a b c : Slab T) (key : ℕ) (first second : Option T) → Updates a b key first → Updates b c key second → Updates a c key second
Updates-again a b c key first second p q =
    record { changed = q.changed; others = λ other differs. q.others other differs ∙ p.others other differs }

-- that a connection isn't idle any more changes nothing of what waits
pub loads_of_busy : (old new : ConnTable) (key : ℕ) (conn : Option ConnEntry) → get old.conns key ≡ conn → get new.conns key ≡ option_map busy conn → new.loads ≡ old.loads → loads_without key new ≡ loads_without key old
loads_of_busy old new key None was is same = simp (was, is, same)
loads_of_busy old new key (Some conn) was is same = simp (was, is, same)

pub bytes_of_busy : (old new : ConnTable) (key : ℕ) (conn : Option ConnEntry) → get old.conns key ≡ conn → get new.conns key ≡ option_map busy conn → new.bytes ≡ old.bytes → bytes_without key new ≡ bytes_without key old
bytes_of_busy old new key None was is same = simp (was, is, same)
bytes_of_busy old new key (Some conn) was is same = simp (was, is, same)

-- nor does that its request is answered change how it is counted
pub counts_of_busy : (old new : ConnTable) (key : ℕ) (conn : Option ConnEntry) → get old.conns key ≡ conn → get new.conns key ≡ option_map busy conn → counts_of new ≡ counts_of old → counts_without key new ≡ counts_without key old
counts_of_busy old new key None was is same = simp (was, is) same
counts_of_busy old new key (Some conn) was is same = simp (was, is) (ap (λ (counts : Counts). if conn.is_closing then counts else uncounted conn.client counts) same)

pub counts_of_answered : (old new : ConnTable) (key : ℕ) (conn : Option ConnEntry) → get old.conns key ≡ conn → get new.conns key ≡ option_map answered conn → counts_of new ≡ counts_of old → counts_without key new ≡ counts_without key old
counts_of_answered old new key None was is same = simp (was, is) same
counts_of_answered old new key (Some conn) was is same = simp (was, is) (ap (λ (counts : Counts). if conn.is_closing then counts else uncounted conn.client counts) same)

-- a connection that is free is there
pub free_conn : (found : Option ConnEntry) → option_map_or is_free found false ≡ true → (conn : ConnEntry) × (found ≡ Some conn) × (is_free conn ≡ true)
free_conn None is = absurd (false≢true is)
free_conn (Some conn) is = (conn, refl, is)

pub asker_of_busy : (actor : Actor) (conn : ConnEntry) → asker actor (busy conn) ≡ asker actor conn
asker_of_busy Author conn = refl
asker_of_busy (Operator place) conn = refl
asker_of_busy Nobody conn = refl

-- the request waits as one of the client that has the connection
pub waits_as : (found : Option ConnEntry) (client bytes : ℕ) (old new : ConnTable) → IsSomeAnd found (λ mine. mine.client ≡ client) → IfSome (option_map (λ conn. conn.client) found) (λ owner. StartsWait owner bytes old new) → StartsWait client bytes old new
waits_as None client bytes old new mine waits = absurd mine
waits_as (Some conn) client bytes old new mine waits = subst (λ owner. StartsWait owner bytes old new) mine waits

-- what waits before stays between
pub waits_from : (client bytes : ℕ) (old between new : ConnTable) → between.loads ≡ old.loads → between.bytes ≡ old.bytes → StartsWait client bytes between new → StartsWait client bytes old new
waits_from client bytes old between new loads all waits =
    record {
      within = rw (← loads, ← all) waits.within;
      load = rw (← loads) waits.load;
      all = rw (← all) waits.all;
    }

pub fits_between : (bytes key : ℕ) (old between : ConnTable) (conn : ConnEntry) → between.loads ≡ old.loads → between.bytes ≡ old.bytes → get between.conns key ≡ Some (busy conn) → fits conn.client bytes old ≡ true → option_map_or (λ client. fits client bytes between) (client_at between key) false ≡ true
fits_between bytes key old between conn loads all found room = simp (found, loads, all) room

-- what a clause says of an `Ok` or an `Err`, where the variant is known
pub on_ok : {T E P : Type 0} (result : Result T E) → is_ok result ≡ true → OnOk result P → P
on_ok (Ok value) is holds = holds
on_ok (Err error) is holds = absurd (false≢true is)

pub on_err : {T E P : Type 0} (result : Result T E) → is_ok result ≡ false → OnErr result P → P
on_err (Ok value) is holds = absurd (false≢true (sym is))
on_err (Err error) is holds = holds

-- who isn't idle any more was there before
pub was_there : (before : Option ConnEntry) (now : ConnEntry) → Some now ≡ option_map busy before → (conn : ConnEntry) × (before ≡ Some conn) × (conn.client ≡ now.client) × (now.since ≡ None)
was_there None now same = absurd (none-some now (sym same))
was_there (Some conn) now same =
    let left : now ≡ busy conn = same_Some now (busy conn) same in
    (conn, refl, ap (λ (entry : ConnEntry). entry.client) (sym left), ap (λ (entry : ConnEntry). entry.since) left)

pub idle_noted : (old : ConnTable) (key since client : ℕ) (conn : ConnEntry) (lists : List (List (ℕ × ℕ))) → lists ≡ idle_without key old → get old.conns key ≡ Some conn → conn.client ≡ client → set lists client (insert_entry nat_cmp (get_or lists client []) since key) ≡ idle_with key (Some since) old
idle_noted old key since client conn lists same found owner =
    rw (same, ← owner) (rw found refl)

-- a write that changes nothing of what is seen of the element
pub seen_set_same : {X Y : Type 0} (f : X → Y) (xs : List X) (i : ℕ) (x y : X) (none : Y) → i < length xs → x ≡ get_or xs i x → f y ≡ f x → map f (set xs i y) ≡ map f xs
seen_set_same f xs i x y none within read same =
    seen_set f (λ seen. seen) xs i x y none within read same ∙ set-get_or (map f xs) i none
