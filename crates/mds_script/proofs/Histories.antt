-- The answers to lines are a history of the machine, and the laws of its histories hold of them.
use Rattle.std.proofs.Common.{◌≡◌, ◌≢◌, ℕ, ◌+◌, Bool, true, false, cond, not, List, [], ◌∷◌, ◌++◌, length, map, filter, Option, Some, None, Ok, MatchOption, refl, sym, ap, subst, ◌∙◌, append_assoc}
use Rattle.std.specs.Prelude.{◌==◌, ◌&&◌, slice_get}
use Rattle.std.specs.Option.{option_map, option_map_or}
use Rattle.std.specs.List.{cons_option, flat_map, list_all, onto_first, slice_split, zip}
use Rattle.std.proofs.lemmas.Bool.{and_parts, eqb-true}
use Rattle.std.proofs.lemmas.List.Splits.{slice_split-cons_no}
use Rattle.mds_request.specs.Configuration.{Configuration, read_configuration}
use Rattle.mds_request.specs.Request.{Request}
use Rattle.mds_request.specs.Reply.{Reply, is_line, refused}
use Rattle.mds_request.specs.declared.code.Code.TheVariants.{BadLine}
use Rattle.mds_machine.specs.Isolation.{IsIsolatedThroughout, IsMeantFromNew, StandsAfter, replies_to, served_for}
use Rattle.mds_machine.specs.Laws.{BeginsKeyed}
use Rattle.mds_machine.specs.Step.{State, Exchange, Step, Run as History, new_state}
use Rattle.mds_machine.specs.Views.{is_of}
use Rattle.mds_world.specs.World.{state_of}
use Rattle.mds_world.specs.declared.world.World.{World}
use Rattle.mds_script.specs.Answering.{Replays, AreLines, Run, answer_line, answer_text, request_in}
use Rattle.mds_script.specs.Input.{asked_of, configuration_of, is_feed}
use Rattle.mds_script.specs.LineReading.{IsWithoutFeed}
use Rattle.mds_script.specs.Laws.{GivesHistories, IsolatesOperators, AnswersByViews, AreReplies, answers_to, exchanges_on, is_served_line}
use Rattle.mds_machine.proofs.Served.{served_stands}
use Rattle.mds_script.proofs.Framed.{no_feed_here, no_feed_later}
use Rattle.mds_script.proofs.Whole.{answer_plain, run_length}

abbrev pub begins : {E : Type 0} → Configuration → World E → Type 0
begins configuration world = state_of world ≡ new_state configuration

abbrev pub steps : {E : Type 0} → World E → Request → Reply → World E → Type 0
steps old request reply new = Step (state_of old) request reply (state_of new)

-- one more line at the beginning
in_front : {E : Type 0} (found : Option Request) (old mid : World E) (reply : Reply) (rest : List Exchange) (new : State)
    → MatchOption found ((reply ≡ refused BadLine) × (mid ≡ old)) (λ request. steps old request reply mid) → History (state_of mid) rest new
    → History (state_of old) (cons_option (option_map (λ request. record { request = request; reply = reply }) found) rest) new
in_front None old mid reply rest new answers run = subst (λ w. History (state_of w) rest new) answers.1 run
in_front (Some request) old mid reply rest new answers run = (state_of mid, answers, run)

histories : {E : Type 0} (old new : World E) (lines : List (List ℕ)) (replies : List Reply) → Run steps old lines replies new
    → History (state_of old) (exchanges_on lines replies) (state_of new)
histories old new [] [] run = ap state_of run
histories old new (line ∷ lines) (reply ∷ replies) run =
    in_front (request_in line) old run.0 reply (exchanges_on lines replies) (state_of new) run.1 (histories run.0 new lines replies run.2)
histories old new [] (reply ∷ replies) run = absurd run
histories old new (line ∷ lines) [] run = absurd run

refused_line : {E : Type 0} (found : Option Request) (old mid : World E) (reply : Reply)
    → MatchOption found ((reply ≡ refused BadLine) × (mid ≡ old)) (λ request. steps old request reply mid)
    → MatchOption found (reply ≡ refused BadLine) (λ request. Unit {0})
refused_line None old mid reply answers = answers.0
refused_line (Some request) old mid reply answers = tt

are_replies : {E : Type 0} (old new : World E) (lines : List (List ℕ)) (replies : List Reply) → Run steps old lines replies new → AreReplies lines replies
are_replies old new [] [] run = tt
are_replies old new (line ∷ lines) (reply ∷ replies) run =
    (refused_line (request_in line) old run.0 reply run.1, are_replies run.0 new lines replies run.2)
are_replies old new [] (reply ∷ replies) run = absurd run
are_replies old new (line ∷ lines) [] run = absurd run

pub gives_histories : {E : Type 0} → GivesHistories {E = E} begins steps
gives_histories input output replays =
    let machine = replays.0 in
    let fresh = replays.1 in
    let outputs = replays.2 in
    record {
      configuration = fresh.configuration;
      read = fresh.read;
      replies = outputs.replies;
      each = are_replies machine outputs.last (asked_of input) outputs.replies outputs.run;
      output_is = outputs.output_is;
      last = state_of outputs.last;
      history = subst (λ w. History w (exchanges_on (asked_of input) outputs.replies) (state_of outputs.last)) fresh.begun
          (histories machine outputs.last (asked_of input) outputs.replies outputs.run);
    }

-- the parts of bytes between line feeds
split_line : (line rest : List ℕ) → IsWithoutFeed line → slice_split is_feed (line ++ 10 ∷ rest) ≡ line ∷ slice_split is_feed rest
split_line [] rest plain = refl
split_line (byte ∷ line) rest plain =
    slice_split-cons_no is_feed byte (line ++ 10 ∷ rest) (no_feed_here byte line plain)
    ∙ ap (onto_first byte) (split_line line rest (no_feed_later byte line plain))

-- the parts of an output are the texts of the replies, and nothing after the last line feed
split_output : (replies : List Reply) → AreLines replies → slice_split is_feed (flat_map answer_line replies) ≡ map answer_text replies ++ [] ∷ []
split_output [] one = refl
split_output (reply ∷ replies) one =
    let parts = and_parts (is_line reply.body) (list_all (λ r. is_line r.body) replies) one in
    ap (slice_split is_feed) (append_assoc (answer_text reply) (10 ∷ []) (flat_map answer_line replies))
    ∙ (split_line (answer_text reply) (flat_map answer_line replies) (answer_plain reply parts.0)
    ∙ ap (λ xs. answer_text reply ∷ xs) (split_output replies parts.1))

parts_of : (output : List ℕ) (replies : List Reply) → AreLines replies → output ≡ flat_map answer_line replies → slice_split is_feed output ≡ map answer_text replies ++ [] ∷ []
parts_of output replies one is = ap (slice_split is_feed) is ∙ split_output replies one

module _ (configuration : Configuration) (place : ℕ) where
  abbrev Line : Type 0
  Line = (List ℕ × Reply) × List ℕ

  abbrev asks : Line → Bool
  asks e = is_served_line configuration place e.0.0 e.0.1

  abbrev lines_in : List Line → List (List ℕ)
  lines_in pairs = map (λ p. p.1) (filter asks pairs)

  abbrev texts_to : List Exchange → List (List ℕ)
  texts_to history = map answer_text (replies_to configuration place history)

  abbrev served_history : List Exchange → List Exchange
  served_history history = served_for configuration place history

  abbrev texts_if : Bool → Exchange → List Exchange → List (List ℕ)
  texts_if own e rest =
      map answer_text (map (λ x. x.reply) (cond own (e ∷ filter (λ x. is_of configuration place x.request) rest) (filter (λ x. is_of configuration place x.request) rest)))

  -- of an operator's request, which may have been answered 503, or of another's
  one_asked : (own out : Bool) (line : List ℕ) (e : Exchange) (pairs : List Line) (rest : List Exchange) → is_of configuration place e.request ≡ own → lines_in pairs ≡ texts_to rest
      → map (λ p. p.1) (cond (own && not out) (((line, e.reply), answer_text e.reply) ∷ filter asks pairs) (filter asks pairs)) ≡ texts_to (cond (not (own && out)) (e ∷ rest) rest)
  one_asked true true line e pairs rest is h = h
  one_asked true false line e pairs rest is h = ap (λ xs. answer_text e.reply ∷ xs) h ∙ sym (ap (λ own. texts_if own e rest) is)
  one_asked false out line e pairs rest is h = h ∙ sym (ap (λ own. texts_if own e rest) is)

  one_line : (found : Option Request) (line : List ℕ) (reply : Reply) (pairs : List Line) (rest : List Exchange) → lines_in pairs ≡ texts_to (served_history rest)
      → map (λ p. p.1) (cond (option_map_or (is_of configuration place) found false && not (reply.status == 503)) (((line, reply), answer_text reply) ∷ filter asks pairs) (filter asks pairs))
      ≡ texts_to (served_history (cons_option (option_map (λ request. record { request = request; reply = reply }) found) rest))
  one_line None line reply pairs rest h = h
  one_line (Some request) line reply pairs rest h =
      one_asked (is_of configuration place request) (reply.status == 503) line (record { request = request; reply = reply }) pairs (served_history rest) refl h

  asked_lines : (lines : List (List ℕ)) (replies : List Reply) (more : List (List ℕ)) → length replies ≡ length lines
      → lines_in (zip (zip lines replies) (map answer_text replies ++ more)) ≡ texts_to (served_history (exchanges_on lines replies))
  asked_lines [] replies more e = refl
  asked_lines (line ∷ lines) [] more e = cc
  asked_lines (line ∷ lines) (reply ∷ replies) more e =
      one_line (request_in line) line reply (zip (zip lines replies) (map answer_text replies ++ more)) (exchanges_on lines replies) (asked_lines lines replies more (cc))

module _ {E : Type 0} where
  -- the history of a replay, from the new machine of the configuration on its first line
  from_new : (configuration : Configuration) (input output : List ℕ) → read_configuration (configuration_of input) ≡ Ok configuration
      → (replay : Replays (begins {E = E}) steps input output)
      → History (new_state configuration) (exchanges_on (asked_of input) replay.2.replies) (state_of replay.2.last)
  unfolding gives_histories
  from_new configuration input output read replay =
      let fresh = replay.1 in
      let same : fresh.configuration ≡ configuration = cc (read, fresh.read) in
      subst (λ c. History (new_state c) (exchanges_on (asked_of input) replay.2.replies) (state_of replay.2.last)) same (gives_histories input output replay).history

  -- the lines that answer an operator are the texts of its replies, but for those of 503
  told : (configuration : Configuration) (place : ℕ) (input output : List ℕ) (replay : Replays (begins {E = E}) steps input output)
      → answers_to configuration place input output replay.2.replies ≡ map answer_text (replies_to configuration place (served_for configuration place (exchanges_on (asked_of input) replay.2.replies)))
  told configuration place input output replay =
      let outputs = replay.2 in
      ap (λ parts. map (λ p. p.1) (filter (asks configuration place) (zip (zip (asked_of input) outputs.replies) parts))) (parts_of output outputs.replies outputs.one_line outputs.output_is)
      ∙ asked_lines configuration place (asked_of input) outputs.replies ([] ∷ []) (run_length steps (asked_of input) outputs.replies replay.0 outputs.last outputs.run)

  pub isolates_operators : BeginsKeyed → IsIsolatedThroughout → IsolatesOperators {E = E} begins steps
  isolates_operators keyed isolated configuration place input output other apart read reads one two seen =
      let first = new_state configuration in
      let same = isolated first (state_of one.2.last) (exchanges_on (asked_of input) one.2.replies) (keyed configuration) (from_new configuration input output read one)
      first (state_of two.2.last) (exchanges_on (asked_of other) two.2.replies) place (keyed configuration) (record { configuration = refl; publications = refl; rows = refl })
      (from_new configuration other apart reads two) seen in
      told configuration place input output one ∙ (ap (map answer_text) same.0 ∙ sym (told configuration place other apart two))

-- a line that is a request is in the history, after those before it
abbrev Stands : List (List ℕ) → List Reply → List Exchange → Request → Type 0
Stands before replies history request =
    (reply : Reply) × StandsAfter (exchanges_on before replies) (record { request = request; reply = reply }) history
    × ((more : List (List ℕ)) → slice_get (map answer_text replies ++ more) (length before) ≡ Some (answer_text reply))

behind : (found : Option Exchange) (all xs ys : List Exchange) → all ≡ xs ++ ys → cons_option found all ≡ cons_option found xs ++ ys
behind None all xs ys e = e
behind (Some first) all xs ys e = ap (λ es. first ∷ es) e

stands : (before : List (List ℕ)) (line : List ℕ) (after : List (List ℕ)) (replies : List Reply) (request : Request)
    → length replies ≡ length (before ++ line ∷ after) → request_in line ≡ Some request
    → Stands before replies (exchanges_on (before ++ line ∷ after) replies) request
stands [] line after [] request e is = cc
stands [] line after (reply ∷ replies) request e is = (
  reply,
  (exchanges_on after replies, ap (λ found. cons_option (option_map (λ r. record { request = r; reply = reply }) found) (exchanges_on after replies)) is),
  λ more. refl,
)
stands (other ∷ before) line after [] request e is = cc
stands (other ∷ before) line after (reply ∷ replies) request e is =
    let later = stands before line after replies request (cc) is in
    let found = option_map (λ r. record { request = r; reply = reply }) (request_in other) in (
      later.0,
      (later.1.0, behind found (exchanges_on (before ++ line ∷ after) replies) (exchanges_on before replies) (record { request = request; reply = later.0 } ∷ later.1.0) later.1.1),
      later.2,
    )

-- a reply that isn't 503 isn't one of 503
not_unserved : (own : Bool) (reply : Reply) → reply.status ≢ 503 → (own && (reply.status == 503)) ≡ false
not_unserved false reply served = refl
not_unserved true reply served = eqb-no (reply.status == 503) refl
  where
    eqb-no : (b : Bool) → (reply.status == 503) ≡ b → b ≡ false
    eqb-no false is = refl
    eqb-no true is = absurd (served (eqb-true reply.status 503 is))

pub answers_by_views : {E : Type 0} → IsMeantFromNew → AnswersByViews {E = E} begins steps
answers_by_views meant configuration place operator input output read at replay before after line request whole is own =
    let outputs = replay.2 in
    let each = run_length steps (asked_of input) outputs.replies replay.0 outputs.last outputs.run in
    let s = stands before line after outputs.replies request (each ∙ ap length whole) is in
    let stood = subst (λ lines. StandsAfter (exchanges_on before outputs.replies) (record { request = request; reply = s.0 }) (exchanges_on lines outputs.replies)) (sym whole) s.1 in (
      s.0,
      subst (λ parts. slice_get parts (length before) ≡ Some (answer_text s.0)) (sym (parts_of output outputs.replies outputs.one_line outputs.output_is)) (s.2 ([] ∷ [])),
      λ served. meant configuration (state_of outputs.last) (exchanges_on (asked_of input) outputs.replies) place operator
          (from_new configuration input output read replay) at (served_for configuration place (exchanges_on before outputs.replies)) (record { request = request; reply = s.0 })
          (served_stands configuration place (exchanges_on before outputs.replies) (record { request = request; reply = s.0 }) (exchanges_on (asked_of input) outputs.replies) stood
          (not_unserved (is_of configuration place request) s.0 served))
          own,
    )
