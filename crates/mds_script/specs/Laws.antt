-- Laws of a replay by the server's machine: its output is the replies of one history, in which operators are isolated,
-- and each reply is the one that the operator's view defines.
use Rattle.std.specs.Prelude.{◌≡◌, ◌≢◌, ◌==◌, ℕ, Bool, true, false, ◌&&◌, not, List, [], ◌∷◌, ◌++◌, length, map, filter, Some, Ok, slice_get, MatchOption}
use Rattle.std.specs.List.{filter_map, flat_map, slice_split, zip}
use Rattle.std.specs.Option.{option_map, option_map_or}
use Rattle.mds_request.specs.Configuration.{Configuration, Operator, read_configuration}
use Rattle.mds_request.specs.Request.{Request}
use Rattle.mds_request.specs.Reply.{Reply, refused}
use Rattle.mds_request.specs.declared.code.Code.TheVariants.{BadLine}
use Rattle.mds_machine.specs.Isolation.{served_for}
use Rattle.mds_machine.specs.Meaning.{IsAnswer}
use Rattle.mds_machine.specs.Step.{State, Exchange, Run as History, new_state}
use Rattle.mds_machine.specs.Views.{Seen, is_of, view}
use Rattle.mds_world.specs.declared.world.World.{World}
use Rattle.mds_script.specs.Answering.{Replays, answer_line, answer_text, request_in}
use Rattle.mds_script.specs.Input.{asked_of, configuration_of, is_feed}

-- the requests on these lines with their replies; a line that is no request is left out
abbrev pub exchanges_on : List (List ℕ) → List Reply → List Exchange
exchanges_on lines replies =
    filter_map (λ e. option_map (λ request. record { request = request; reply = e.1 }) (request_in e.0)) (zip lines replies)

-- each of these lines has its reply, and one that is no request is refused
abbrev pub AreReplies : List (List ℕ) → List Reply → Type 0
AreReplies [] [] = Unit {0}
AreReplies (line ∷ lines) (reply ∷ replies) =
    MatchOption (request_in line) (reply ≡ refused BadLine) (λ request. Unit {0}) × AreReplies lines replies
AreReplies lines replies = ⊥

-- the output is the replies to an input's lines, and those to requests are a history of a new machine of the
-- configuration on the first line
pub record IsHistory (input output : List ℕ) : Type 0 where
  pub configuration : Configuration
  pub read : read_configuration (configuration_of input) ≡ Ok configuration
  pub replies : List Reply
  pub each : AreReplies (asked_of input) replies
  pub output_is : output ≡ flat_map answer_line replies
  pub last : State
  pub history : History (new_state configuration) (exchanges_on (asked_of input) replies) last

-- a line that is a request of an operator, with a reply that isn't 503
abbrev pub is_served_line : Configuration → ℕ → List ℕ → Reply → Bool
is_served_line configuration place line reply =
    option_map_or (is_of configuration place) (request_in line) false && not (reply.status == 503)

-- the lines of an output at the positions where the input's lines are requests of an operator, but for those that were
-- answered 503
abbrev pub answers_to : Configuration → ℕ → List ℕ → List ℕ → List Reply → List (List ℕ)
answers_to configuration place input output replies =
    map (λ e. e.1) (filter (λ e. is_served_line configuration place e.0.0 e.0.1) (zip (zip (asked_of input) replies) (slice_split is_feed output)))

-- what an operator sees of the history on these lines, which are the first of an input, but for its requests that were
-- answered 503
abbrev pub seen_on : Configuration → ℕ → List (List ℕ) → List Reply → List Seen
seen_on configuration place lines replies =
    view configuration (new_state configuration).drafts (served_for configuration place (exchanges_on lines replies)) place

module _ {E : Type 0} (begins : Configuration → World E → Type 0) (step : World E → Request → Reply → World E → Type 0) where
  -- the output for an input is such a history
  abbrev pub GivesHistories : Type 0
  GivesHistories = (input output : List ℕ) → Replays begins step input output → IsHistory input output

  -- Isolation. In the outputs for two inputs of one configuration, whose histories look the same to an operator (its
  -- own requests and the publications, at the same moments and in the same order) but for its requests that were
  -- answered 503, the lines that answer its other requests are the same, byte for byte.
  abbrev pub IsolatesOperators : Type 0
  IsolatesOperators =
      (configuration : Configuration) (place : ℕ) (input output other apart : List ℕ)
      → read_configuration (configuration_of input) ≡ Ok configuration
      → read_configuration (configuration_of other) ≡ Ok configuration
      → (one : Replays begins step input output) → (two : Replays begins step other apart)
      → seen_on configuration place (asked_of input) one.2.replies ≡ seen_on configuration place (asked_of other) two.2.replies
      → answers_to configuration place input output one.2.replies ≡ answers_to configuration place other apart two.2.replies

  -- Meaning. The line that answers an operator's request has the reply that its view of the lines before defines, or
  -- one of 503.
  abbrev pub AnswersByViews : Type 0
  AnswersByViews =
      (configuration : Configuration) (place : ℕ) (operator : Operator) (input output : List ℕ)
      → read_configuration (configuration_of input) ≡ Ok configuration → slice_get configuration.operators place ≡ Some operator
      → (replay : Replays begins step input output)
      → (before after : List (List ℕ)) (line : List ℕ) (request : Request)
      → asked_of input ≡ before ++ line ∷ after → request_in line ≡ Some request → is_of configuration place request ≡ true
      → (reply : Reply) × (slice_get (slice_split is_feed output) (length before) ≡ Some (answer_text reply))
      × (reply.status ≢ 503 → IsAnswer configuration operator (seen_on configuration place before replay.2.replies) request reply)
