-- The replies to questions and to publish requests, put together.
use Rattle.std.proofs.Common.{◌≡◌, ℕ, ◌+◌, List, [], ◌∷◌, ◌++◌, map, length, codes, true, cond, Some, Result, Ok, Err, ap, sym, ◌∙◌}
use Rattle.std.specs.declared.alloc.AllocError.{AllocError}
use Rattle.std.specs.FinMap.{values}
use Rattle.mds_text.specs.Tree.{Json}
use Rattle.mds_match.specs.Row.{Row}
use Rattle.mds_match.specs.Zone.{local_of}
use Rattle.mds_match.specs.declared.local.Local.{Local}
use Rattle.mds_match.specs.declared.zone.Zone.{Zone}
use Rattle.mds_verdict.specs.Verdict.{verdicts, reported}
use Rattle.mds_fleet.specs.Books.{Rows}
use Rattle.mds_policy.specs.Policy.{Policy}
use Rattle.mds_catalog.specs.Publication.{Publication, Published, find_policy, is_in_force, in_force, published_area}
use Rattle.mds_drafts.specs.Drafts.{Drafts, taken_out}
use Rattle.mds_drafts.specs.Named.{Named, read_publish_list}
use Rattle.mds_drafts.specs.Publishing.{batch_of}
use Rattle.mds_request.specs.Configuration.{Operator}
use Rattle.mds_request.specs.Request.{Request}
use Rattle.mds_request.specs.Reply.{Reply}
use Rattle.mds_request.specs.declared.code.Code.TheVariants.{NotFound}
use Rattle.mds_machine.specs.Answer.{told, coded, or_code, if_it, ◌>>=◌}
use Rattle.mds_machine.specs.Author.{publish, publication_asked}
use Rattle.mds_machine.specs.Bodies.{list_json, compliance_json, published_json}
use Rattle.mds_machine.specs.Codes.{fault_code, publish_code}
use Rattle.mds_machine.specs.Operator.{compliance_reply, policy_compliance_answer, policy_report}

-- the local time that was returned is the defined one
pub local_told : (result : Result Local AllocError) (local due : Local) → result ≡ Ok local → result ≡ Ok due → local ≡ due
local_told result local due was is = cc

module _ (zone : Zone) (operator : Operator) (publications : List Publication) (rows : Rows) (t : ℕ) where
  -- the report on a policy over these rows at this local time
  abbrev pub report : List Row → Local → Published Policy → Json
  report rs local p = reported p.document (verdicts p.document (published_area publications) rs local t)

  abbrev reports : List Row → Local → Json
  reports rs local = list_json (map (report rs local) (in_force publications operator.id t))

  abbrev reply_with : List ℕ → Json → ℕ → Reply
  reply_with name value n = told (compliance_json t name value n)

  pub all_told : (rs : List Row) (local : Local) (value : Json) (n : ℕ) (reply : Reply) → rs ≡ values rows → local ≡ local_of zone t → value ≡ reports rs local → n ≡ length publications → reply ≡ told (compliance_json t (codes "policies") value n) → reply ≡ compliance_reply zone operator publications rows t
  all_told rs local value n reply rs_are local_is value_is n_is reply_is =
      let whole : value ≡ reports (values rows) (local_of zone t) = value_is ∙ ap (λ r. reports r local) rs_are ∙ ap (reports (values rows)) local_is in
      reply_is ∙ ap (reply_with (codes "policies") value) n_is ∙ ap (λ v. reply_with (codes "policies") v (length publications)) whole

  pub one_told : (id : List ℕ) (found : Published Policy) (rs : List Row) (local : Local) (value : Json) (n : ℕ) (reply : Reply) → Some found ≡ find_policy publications id → is_in_force publications operator.id t found ≡ true → rs ≡ values rows → local ≡ local_of zone t → value ≡ report rs local found → n ≡ length publications → reply ≡ told (compliance_json t (codes "policy") value n) → policy_compliance_answer zone operator publications rows t id ≡ Ok reply
  one_told id found rs local value n reply found_is binds rs_are local_is value_is n_is reply_is =
      let whole : value ≡ report (values rows) (local_of zone t) found =
      value_is ∙ ap (λ r. report r local found) rs_are ∙ ap (λ l. report (values rows) l found) local_is in
      let answer : Published Policy → Result Reply _ =
      λ p. Ok (told (compliance_json t (codes "policy") (policy_report zone publications rows t p) (length publications))) in
      ap (λ o. or_code NotFound o >>= λ p. if_it NotFound (is_in_force publications operator.id t) p >>= answer) (sym found_is)
      ∙ ap (λ b. cond b (Ok found) (Err NotFound) >>= answer) binds
      ∙ ap Ok (sym (reply_is ∙ ap (reply_with (codes "policy") value) n_is ∙ ap (λ v. reply_with (codes "policy") v (length publications)) whole))

-- the publication of a publish request
pub published : (drafts : Drafts) (publications : List Publication) (request : Request) (named : Named) (p shared : Publication) (n : ℕ) (reply : Reply) → read_publish_list request.body ≡ Ok named → batch_of drafts named publications request.at ≡ Ok p → shared ≡ p → n ≡ length publications → reply ≡ told (published_json request.at (n + 1)) → publish drafts publications request ≡ Ok (reply, (taken_out drafts shared, publications ++ shared ∷ []))
published drafts publications request named p shared n reply read made is n_is reply_is =
    let asked : publication_asked drafts publications request ≡ Ok p =
    ap (λ r. coded fault_code r >>= λ named. coded publish_code (batch_of drafts named publications request.at)) read ∙ ap (coded publish_code) made in
    ap (λ a. a >>= λ p. Ok (told (published_json request.at (length publications + 1)), (taken_out drafts p, publications ++ p ∷ []))) asked
    ∙ ap (λ r. Ok (r, (taken_out drafts p, publications ++ p ∷ []))) (sym (reply_is ∙ ap (λ n. told (published_json request.at (n + 1))) n_is))
    ∙ ap (λ q. Ok (reply, (taken_out drafts q, publications ++ q ∷ []))) (sym is)
