-- The records of many requests.
use Rattle.std.proofs.Common.{◌≡◌, ◌==◌, ℕ, ◌+◌, ◌<◌, Bool, true, false, cond, List, [], ◌∷◌, ◌++◌, length, map, take, get_or, refl, sym, ap, subst, ◌∙◌, add-one, append_assoc}
use Rattle.std.proofs.Math.Seq.{take-suc}
use Rattle.std.specs.List.{AllByRecursion}
use Rattle.journal_commit.specs.Durable.{chosen}
use Rattle.mds_machine.specs.Step.{Exchange}
use Rattle.mds_request.specs.Configuration.{Configuration}
use Rattle.mds_request.specs.Request.{Request}
use Rattle.mds_request.specs.Reply.{Reply}
use Rattle.journal_laws.specs.Persisted.{requests_in}
use Rattle.server_durable.specs.Many.{AreRecordsOf, accepted, exchanges}
use Rattle.server_durable.specs.Records.{HasRecord, IsRecordOf}

pub taken_more : {A : Type 0} (items : List A) (i : ℕ) (item : A) → i < length items → item ≡ get_or items i item → take (i + 1) items ≡ take i items ++ item ∷ []
taken_more items i item within here =
    ap (λ n. take n items) (add-one i) ∙ take-suc items i item within ∙ ap (λ a. take i items ++ a ∷ []) (sym here)

by_flag : (configuration : Configuration) (e : Exchange) (history : List Exchange) (text : List ℕ) (texts : List (List ℕ)) (b : Bool)
    → IsRecordOf configuration e.request text → AreRecordsOf configuration (requests_in history) texts
    → AreRecordsOf configuration (requests_in (cond b (e ∷ history) history)) (cond b (text ∷ texts) texts)
by_flag configuration e history text texts true is are = (is, are)
by_flag configuration e history text texts false is are = are

-- the records of the accepted requests are those that are chosen
pub chosen_are_theirs : (configuration : Configuration) (requests : List Request) (replies : List Reply) (texts : List (List ℕ))
    → AreRecordsOf configuration requests texts
    → AreRecordsOf configuration (requests_in (accepted (exchanges requests replies))) (chosen (map (λ reply. reply.status == 200) replies) texts)
chosen_are_theirs configuration [] [] [] are = tt
chosen_are_theirs configuration [] (reply ∷ replies) [] are = tt
chosen_are_theirs configuration [] replies (text ∷ texts) are = absurd are
chosen_are_theirs configuration (request ∷ requests) replies [] are = absurd are
chosen_are_theirs configuration (request ∷ requests) [] (text ∷ texts) are = tt
chosen_are_theirs configuration (request ∷ requests) (reply ∷ replies) (text ∷ texts) are =
    by_flag configuration (record { request = request; reply = reply }) (accepted (exchanges requests replies)) text
    (chosen (map (λ r. r.status == 200) replies) texts) (reply.status == 200) are.0
    (chosen_are_theirs configuration requests replies texts are.1)

-- each exchange that was accepted has its record among these payloads
abbrev pub Recorded : Configuration → List (List ℕ) → Exchange → Type 0
Recorded configuration texts e = e.reply.status ≡ 200 → HasRecord configuration e.request texts

no_success : (status : ℕ) → (status == 200) ≡ false → status ≡ 200 → ⊥
no_success status is success = let e : (200 == 200) ≡ false = subst (λ (n : ℕ). (n == 200) ≡ false) success is in cc e

next_recorded : (configuration : Configuration) (e : Exchange) (history : List Exchange) (before records : List (List ℕ)) (b : Bool) → (e.reply.status == 200) ≡ b
    → ((earlier texts : List (List ℕ)) → AreRecordsOf configuration (requests_in (accepted history)) texts
    → AllByRecursion (Recorded configuration (earlier ++ texts)) history)
    → AreRecordsOf configuration (requests_in (cond b (e ∷ accepted history) (accepted history))) records
    → AllByRecursion (Recorded configuration (before ++ records)) (e ∷ history)
next_recorded configuration e history before [] true is others are = absurd are
next_recorded configuration e history before (text ∷ texts) true is others are = (
  (λ success. (text, are.0, (before, texts, refl))),
  subst (λ (all : List (List ℕ)). AllByRecursion (Recorded configuration all) history) (append_assoc before (text ∷ []) texts)
      (others (before ++ text ∷ []) texts are.1),
)
next_recorded configuration e history before records false is others are = (
  (λ success. absurd (no_success e.reply.status is success)),
  others before records are,
)

pub all_recorded : (configuration : Configuration) (history : List Exchange) (before records : List (List ℕ))
    → AreRecordsOf configuration (requests_in (accepted history)) records → AllByRecursion (Recorded configuration (before ++ records)) history
all_recorded configuration [] before records are = tt
all_recorded configuration (e ∷ history) before records are =
    next_recorded configuration e history before records (e.reply.status == 200) refl
    (λ earlier texts. all_recorded configuration history earlier texts) are
