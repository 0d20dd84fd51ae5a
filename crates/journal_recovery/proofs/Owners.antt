-- What stands of servers one after another.
use mathlib.Core.List.{IsPrefix}
use Rattle.std.proofs.Common.{◌≡◌, ℕ, Bool, true, false, cond, List, [], ◌∷◌, ◌++◌, Result, Ok, Err, inl, inr, refl, sym, ap, subst, ◌∙◌}
use Rattle.std.specs.FinMap.{empty}
use Rattle.std.proofs.lemmas.List.{map-append}
use Rattle.std.proofs.lemmas.List.Elements.{filter-append}
use Rattle.mds_catalog.specs.Publication.{Publication}
use Rattle.mds_drafts.specs.Drafts.{Drafts}
use Rattle.mds_fleet.specs.Books.{Rows}
use Rattle.mds_request.specs.Call.{call_of}
use Rattle.mds_request.specs.Configuration.{Configuration, Operator}
use Rattle.mds_request.specs.Request.{Request}
use Rattle.mds_request.specs.Reply.{Reply}
use Rattle.mds_request.specs.declared.call.AuthorCall.{AuthorCall}
use Rattle.mds_request.specs.declared.call.AuthorCall.TheVariants as author
use Rattle.mds_request.specs.declared.call.Call.{Call}
use Rattle.mds_request.specs.declared.call.Call.TheVariants as call
use Rattle.mds_request.specs.declared.code.Code.{Code}
use Rattle.mds_request.specs.declared.config.Actor.{Actor}
use Rattle.mds_request.specs.declared.config.Actor.TheVariants.{Author, Operator as OperatorAt}
use Rattle.mds_machine.specs.Answer.{settled, leaving, ◌>>=◌}
use Rattle.mds_machine.specs.Author.{author_does, beside, draft_answer, drop_draft, publication_asked, put_draft}
use Rattle.mds_machine.specs.Desks.{AreTurns, refusal_of}
use Rattle.mds_machine.specs.Fronts.{Turn, requests_in}
use Rattle.mds_machine.specs.Room.{AreRoomTurns, IsRoomTurn, authors_call, authors_in, is_authors}
use Rattle.mds_machine.specs.Step.{Exchange, new_state}
use Rattle.mds_desk.specs.Room.{held_in}
use Rattle.journal_laws.specs.Persisted.{is_kept, kept}
use Rattle.journal_laws.specs.Persisted.{requests_in as room_requests_in}
use Rattle.journal_laws.specs.Servers.{kept_turns}
use Rattle.journal_entry.specs.Entries.{Entry}
use Rattle.journal_recovery.specs.Laws.{IsJournalOf, is_turn_kept, requests_by}
use Rattle.journal_recovery.specs.Owners.{IsOneServersWork, IsReign, NothingIsOneServersWork, OwnersAreOneServer, PrefixesGoOn, PrefixesHavePublished, Reign, Work, work_on}
use Rattle.journal_recovery.proofs.Answered.{prefix_on, prefix_self}
use Rattle.journal_recovery.proofs.Grows.{requests_of_both}

abbrev pub Held : Type 0
Held = Drafts × List Publication

-- ---- what is published stays

abbrev Rises : Held → Result (Reply × Held) Code → Type 0
Rises held does = IsPrefix held.1 (settled held does).1.1

leaving_rises : (held : Held) (answer : Result Reply Code) → Rises held (answer >>= leaving held)
leaving_rises held (Ok reply) = prefix_self held.1
leaving_rises held (Err code) = prefix_self held.1

beside_rises : (held : Held) (does : Result (Reply × Drafts) Code) → Rises held (does >>= beside held.1)
beside_rises held (Ok after) = prefix_self held.1
beside_rises held (Err code) = prefix_self held.1

one_more_rises : (held : Held) (told : Publication → Reply) (left : Publication → Drafts) (asked : Result Publication Code)
    → Rises held (asked >>= λ p. Ok (told p, (left p, held.1 ++ p ∷ [])))
one_more_rises held told left (Ok p) = (p ∷ [], refl)
one_more_rises held told left (Err code) = prefix_self held.1

author_rises : (held : Held) (own : AuthorCall) (request : Request) → Rises held (author_does held.0 held.1 own request)
author_rises held author.Policies request = prefix_self held.1
author_rises held (author.Policy id) request = leaving_rises held _
author_rises held author.Geographies request = prefix_self held.1
author_rises held (author.Geography id) request = leaving_rises held _
author_rises held (author.PutDraft kind id) request = beside_rises held (put_draft held.0 kind id request.body)
author_rises held (author.Draft kind id) request = leaving_rises held (draft_answer held.0 kind id)
author_rises held (author.DropDraft kind id) request = beside_rises held (drop_draft held.0 kind id)
author_rises held author.Publish request = one_more_rises held _ _ (publication_asked held.0 held.1 request)

called_rises : (held : Held) (called : Result Call Code) (request : Request)
    → Rises held (called >>= authors_call >>= λ own. author_does held.0 held.1 own request)
called_rises held (Err code) request = prefix_self held.1
called_rises held (Ok (call.Author own)) request = author_rises held own request
called_rises held (Ok (call.Operator place own)) request = prefix_self held.1

room_rises : (c : Configuration) (own : Bool) (held : Held) (request : Request)
    → Rises held (cond own (call_of c request >>= authors_call >>= λ own. author_does held.0 held.1 own request) (Err (refusal_of (call_of c request))))
room_rises c true held request = called_rises held (call_of c request) request
room_rises c false held request = prefix_self held.1

pub turn_rises : (c : Configuration) (held : Held) (request : Request) (reply : Reply) (after : Held) → IsRoomTurn c held request reply after
    → IsPrefix held.1 after.1
turn_rises c held request reply after turn = elim turn [
  | inl does ↦ subst (λ (h : Held). IsPrefix held.1 h.1) (sym does.1) (room_rises c (is_authors c request) held request)
  | inr out ↦ subst (λ (h : Held). IsPrefix held.1 h.1) (sym out.2) (prefix_self held.1)
]

turns_rise : (c : Configuration) (held after : Held) (history : List Exchange) → AreRoomTurns c held history after → IsPrefix held.1 after.1
turns_rise c held after [] are = subst (λ (h : Held). IsPrefix held.1 h.1) (sym are) (prefix_self held.1)
turns_rise c held after (e ∷ history) are =
    prefix_on held.1 are.0.1 after.1 (turn_rises c held e.request e.reply are.0 are.1) (turns_rise c are.0 after history are.2)

-- ---- the first of what was done

cut_room : (c : Configuration) (held after : Held) (first rest : List Exchange) → AreRoomTurns c held (first ++ rest) after
    → (between : Held) × AreRoomTurns c held first between × AreRoomTurns c between rest after
cut_room c held after [] rest are = (held, refl, are)
cut_room c held after (e ∷ first) rest are =
    let on = cut_room c are.0 after first rest are.2 in
    (on.0, (are.0, are.1, on.1), on.2)

pub prefixes_have_published : PrefixesHavePublished
prefixes_have_published c s first rest publications have =
    let cut = cut_room c (held_in s.room) (have.0, publications) first rest have.1 in
    (cut.0.1, (cut.0.0, cut.1), turns_rise c cut.0 (have.0, publications) rest cut.2)

pub cut_turns : (c : Configuration) (place : ℕ) (operator : Operator) (known : List Publication) (rows after : Rows) (first rest : List Turn)
    → AreTurns c place operator known rows (first ++ rest) after → (between : Rows) × AreTurns c place operator known rows first between
cut_turns c place operator known rows after [] rest are = (rows, refl)
cut_turns c place operator known rows after (turn ∷ first) rest are =
    let on = cut_turns c place operator turn.front are.0 after first rest are.2 in
    (on.0, (are.0, are.1, on.1))

pub go_on : PrefixesGoOn
go_on c s first whole done begins = record {
  drafts = begins.published.0;
  room = begins.published.1;
  desks = λ place operator d is there.
      let own = done.desks place operator d is there in
      let rest = begins.order.turns place in
      let cut = cut_turns c place operator d.known d.rows own.0 (first.turns place) rest.0
      (subst (λ (turns : List Turn). AreTurns c place operator d.known d.rows turns own.0) (sym rest.1) own.1) in
      (cut.0, cut.1, begins.within place operator d is there);
}

-- ---- two journals

pub room_asks : (c : Configuration) (history later : List Exchange)
    → room_requests_in (kept c (authors_in c (history ++ later)))
    ≡ room_requests_in (kept c (authors_in c history)) ++ room_requests_in (kept c (authors_in c later))
room_asks c history later =
    ap (λ (h : List Exchange). room_requests_in (kept c h)) (filter-append (λ (e : Exchange). is_authors c e.request) history later)
    ∙ ap room_requests_in (filter-append (is_kept c) (authors_in c history) (authors_in c later))
    ∙ map-append (λ (e : Exchange). e.request) (kept c (authors_in c history)) (kept c (authors_in c later))

pub desk_asks : (c : Configuration) (turns later : List Turn)
    → requests_in (kept_turns c (turns ++ later)) ≡ requests_in (kept_turns c turns) ++ requests_in (kept_turns c later)
desk_asks c turns later =
    ap requests_in (filter-append (is_turn_kept c) turns later) ∙ map-append (λ (t : Turn). t.request) (kept_turns c turns) (kept_turns c later)

-- what the entries have of a client is what was kept
asks_both : (c : Configuration) (actor : Actor) (entries more : List Entry) (asked later : List Request) → requests_by c actor entries ≡ asked
    → requests_by c actor more ≡ later → requests_by c actor (entries ++ more) ≡ asked ++ later
asks_both c actor entries more asked later is then =
    requests_of_both c actor entries more ∙ ap (λ (rs : List Request). rs ++ requests_by c actor more) is ∙ ap (λ (rs : List Request). asked ++ rs) then

journals_join : (c : Configuration) (entries more : List Entry) (history later : List Exchange) (turns later_turns : ℕ → List Turn)
    → IsJournalOf c entries history turns → IsJournalOf c more later later_turns
    → IsJournalOf c (entries ++ more) (history ++ later) (λ place. turns place ++ later_turns place)
journals_join c entries more history later turns later_turns journal then = record {
  author = asks_both c Author entries more _ _ journal.author then.author ∙ sym (room_asks c history later);
  operators = λ place operator is.
      asks_both c (OperatorAt place) entries more _ _ (journal.operators place operator is) (then.operators place operator is)
      ∙ sym (desk_asks c (turns place) (later_turns place));
}

-- ---- one owner after another

pub none : NothingIsOneServersWork
none c = record {
  served = record { drafts = (new_state c).drafts; room = refl; desks = λ place operator is. (empty, refl, prefix_self []) };
  journal = record { author = refl; operators = λ place operator is. refl };
}

one_owner : (c : Configuration) (found : List Entry) (before : Work) (reign : Reign) → IsOneServersWork c found before → IsReign c found reign
    → IsOneServersWork c (found ++ reign.entries) (work_on before reign.first)
one_owner c found before reign one is = record {
  served = is.started before.exchanges reign.first.exchanges before.publications reign.first.publications before.turns reign.first.turns
      one.served one.journal (go_on c reign.s reign.first reign.work is.done is.stands);
  journal = journals_join c found reign.entries before.exchanges reign.first.exchanges before.turns reign.first.turns one.journal is.journal;
}

pub owners : OwnersAreOneServer
owners c found before [] one are = one
owners c found before (reign ∷ reigns) one are =
    owners c (found ++ reign.entries) (work_on before reign.first) reigns (one_owner c found before reign one are.0) are.1
