-- The reply to a call of the operator, and the entries that it depends on.
use Rattle.std.proofs.Common.{◌≡◌, ◌⊎◌, ℕ, Bool, true, false, cond, List, [], ◌∷◌, Option, Some, None, Result, Ok, Err, inl, inr, refl, sym, ap, subst, ◌∙◌}
use Rattle.std.specs.List.{filter, slice_get}
use Rattle.mds_catalog.specs.Publication.{Publication}
use Rattle.mds_drafts.specs.Drafts.{Drafts}
use Rattle.mds_fleet.specs.Books.{Rows}
use Rattle.mds_request.specs.Call.{call_of}
use Rattle.mds_request.specs.Configuration.{Configuration, Operator}
use Rattle.mds_request.specs.Reply.{Reply, refused}
use Rattle.mds_request.specs.Request.{Request}
use Rattle.mds_request.specs.declared.call.Call.{Call}
use Rattle.mds_request.specs.declared.call.Call.TheVariants as call
use Rattle.mds_request.specs.declared.call.OperatorCall.{OperatorCall}
use Rattle.mds_request.specs.declared.code.Code.{Code}
use Rattle.mds_request.specs.declared.code.Code.TheVariants.{NoMemory, Token}
use Rattle.mds_machine.specs.Answer.{Gives, or_code, settled, ◌>>=◌}
use Rattle.mds_machine.specs.Author.{author_does}
use Rattle.mds_machine.specs.Operator.{operator_does}
use Rattle.mds_machine.specs.Step.{State}
use Rattle.mds_machine.proofs.Steps.{call_step, lifted, operator_step}
use Rattle.journal_entry.specs.Entries.{Entry}
use Rattle.journal_entry.specs.Requests.{actor_by, request_by}
use Rattle.journal_samples.specs.Replies.{IsReplyAt, OthersCountForNothing, RepliesAsServed, is_own}
use Rattle.journal_samples.specs.Servers.{seen}
use Rattle.journal_samples.specs.Standing.{Standing, after_asked, after_entries, after_entry, call_does, counts, operator_of}
use Rattle.journal_samples.specs.Standing.{standing_at, with_documents, with_rows}

-- the reply that is given over what stood then
pub replied : (s past new : Standing) (entries : List Entry) (own : OperatorCall) (request : Request) (reply : Reply)
    → past ≡ standing_at s entries request.at → Gives (Unit {0}) past (call_does past (call.Operator past.place own) request) reply new
    → IsReplyAt s entries own request reply
replied s past new entries own request reply stood gives = elim gives [
  | inl a ↦ inl (a.0 ∙ ap (λ x. (settled x (call_does x (call.Operator x.place own) request)).0) stood)
  | inr a ↦ inr a.1
]

module _ (w : State) (place : ℕ) (rows : Rows) where
  abbrev s : Standing
  s = seen w place rows

  -- a call's reply is the same, whatever state its rows are part of
  own_reply : (own : Result (Reply × Rows) Code) → (settled s (own >>= λ after. Ok (after.0, with_rows s after.1))).0 ≡ (lifted w place own).0
  own_reply (Err code) = refl
  own_reply (Ok after) = refl

  by_operator : (operator : Option Operator) (found : Option Rows) (called : OperatorCall) (request : Request) → found ≡ Some rows
      → (settled s
      (or_code Token operator >>= λ o. operator_does w.configuration.zone o w.publications rows called request
      >>= λ after. Ok (after.0, with_rows s after.1))).0
      ≡ (operator_step w place operator found called request).0
  by_operator None found called request is = refl
  by_operator (Some o) found called request is =
      let own = operator_does w.configuration.zone o w.publications rows called request in
      subst (λ f. (settled s (own >>= λ after. Ok (after.0, with_rows s after.1))).0 ≡ (operator_step w place (Some o) f called request).0)
      (sym is) (own_reply own)

pub served : RepliesAsServed
served w place rows own request held is =
    by_operator w place rows (slice_get w.configuration.operators place) (slice_get w.fleets place) own request held
    ∙ ap (λ called. (call_step w called request).0) (sym is)

-- the operator and the configuration stay
abbrev pub Stays : Standing → Standing → Type 0
Stays s next = (next.place ≡ s.place) × (next.configuration ≡ s.configuration)

author_stays : (s : Standing) (own : Result (Reply × (Drafts × List Publication)) Code)
    → Stays s (settled s (own >>= λ after. Ok (after.0, with_documents s after.1))).1
author_stays s (Err code) = (refl, refl)
author_stays s (Ok after) = (refl, refl)

rows_stay : (s : Standing) (own : Result (Reply × Rows) Code) → Stays s (settled s (own >>= λ after. Ok (after.0, with_rows s after.1))).1
rows_stay s (Err code) = (refl, refl)
rows_stay s (Ok after) = (refl, refl)

operator_stays : (s : Standing) (operator : Option Operator) (own : OperatorCall) (request : Request)
    → Stays s
    (settled s
    (or_code Token operator >>= λ o. operator_does s.configuration.zone o s.publications s.rows own request
    >>= λ after. Ok (after.0, with_rows s after.1))).1
operator_stays s None own request = (refl, refl)
operator_stays s (Some o) own request = rows_stay s (operator_does s.configuration.zone o s.publications s.rows own request)

call_stays : (s : Standing) (called : Result Call Code) (request : Request) → Stays s (settled s (called >>= λ c. call_does s c request)).1
call_stays s (Err code) request = (refl, refl)
call_stays s (Ok (call.Author own)) request = author_stays s (author_does s.drafts s.publications own request)
call_stays s (Ok (call.Operator place own)) request = operator_stays s (operator_of s) own request

asked_stays : (s : Standing) (asked : Option Request) → Stays s (after_asked s asked)
asked_stays s None = (refl, refl)
asked_stays s (Some request) = call_stays s (call_of s.configuration request) request

entry_stays : (s : Standing) (e : Entry) → Stays s (after_entry s e)
entry_stays s e = by (is_own s e)
  where
    by : (b : Bool) → Stays s (cond b (after_asked s (request_by s.configuration e)) s)
    by true = asked_stays s (request_by s.configuration e)
    by false = (refl, refl)

pub entries_stay : (s : Standing) (entries : List Entry) → Stays s (after_entries s entries)
entries_stay s [] = (refl, refl)
entries_stay s (e ∷ entries) =
    let first = entry_stays s e in
    let rest = entries_stay (after_entry s e) entries in
    (rest.0 ∙ first.0, rest.1 ∙ first.1)

-- so the same entries are its own
same_own : (s next : Standing) (entries : List Entry) → Stays s next → filter (is_own next) entries ≡ filter (is_own s) entries
same_own s next entries stays =
    ap (λ p. filter (λ e. counts p (actor_by next.configuration e.client)) entries) stays.0
    ∙ ap (λ c. filter (λ e. counts s.place (actor_by c e.client)) entries) stays.1

pub others : OthersCountForNothing
others s [] = refl
others s (e ∷ entries) = by (is_own s e) refl (λ next. others next entries)
  where
    by : (b : Bool) → is_own s e ≡ b
        → ((next : Standing) → after_entries next entries ≡ after_entries next (filter (is_own next) entries))
        → after_entries (after_entry s e) entries ≡ after_entries s (cond b (e ∷ filter (is_own s) entries) (filter (is_own s) entries))
    by true is rest = rest (after_entry s e) ∙ ap (after_entries (after_entry s e)) (same_own s (after_entry s e) entries (entry_stays s e))
    by false is rest = ap (λ b. after_entries (cond b (after_asked s (request_by s.configuration e)) s) entries) is ∙ rest s
