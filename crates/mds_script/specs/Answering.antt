-- The answers to the lines of an input.
use Rattle.std.specs.Prelude.{◌≡◌, ℕ, ◌+◌, ◌/◌, ◌%◌, ◌<◌, ◌≤◌, true, false, List, [], ◌∷◌, ◌++◌, length, nat_lt, count_by, IfSome, Option, None, MatchOption, Ok, is_ok, ◌⊎◌, if◌then◌else◌}
use Rattle.std.specs.List.{list_all, flat_map}
use Rattle.mds_request.specs.declared.code.Code.TheVariants.{BadLine}
use Rattle.mds_request.specs.Configuration.{Configuration, read_configuration}
use Rattle.mds_request.specs.Request.{Request}
use Rattle.mds_request.specs.Reply.{Reply, is_line, refused}
use Rattle.mds_config_error.specs.declared.detail.Detail.{Detail}
use Rattle.mds_config_error.specs.declared.detail.Detail.TheVariants.{TooLong}
use Rattle.mds_config_error.specs.Wording.{IsFound}
use Rattle.mds_script.specs.Input.{is_feed, configuration_of, asked_of, request_on}
use Rattle.std.specs.Io.KnownBytes.{Appends}
use Rattle.mds_script.specs.declared.gather.TheConstants.{LINE_LIMIT}

-- the three digits of a status (RFC 9112, section 4)
abbrev pub status_text : ℕ → List ℕ
status_text status = (48 + status / 100 % 10) ∷ (48 + status / 10 % 10) ∷ (48 + status % 10) ∷ []

-- the text of a reply: its status, a space and its body
abbrev pub answer_text : Reply → List ℕ
answer_text reply = status_text reply.status ++ 32 ∷ reply.body

-- the line of a reply, with its line feed
abbrev pub answer_line : Reply → List ℕ
answer_line reply = answer_text reply ++ 10 ∷ []

-- the request on a line, or none where the line is over the limit or is no request
abbrev pub request_in : List ℕ → Option Request
request_in line = if nat_lt LINE_LIMIT (length line) then None else request_on line

-- each body is one line
abbrev pub AreLines : List Reply → Type 0
AreLines replies = list_all (λ reply. is_line reply.body) replies ≡ true

module _ {M : Type 0} (step : M → Request → Reply → M → Type 0) where
  -- The reply to a line. A line that is no request is refused, and changes nothing.
  abbrev pub Answers : M → List ℕ → Reply → M → Type 0
  Answers old line reply new = MatchOption (request_in line) ((reply ≡ refused BadLine) × (new ≡ old)) (λ request. step old request reply new)

  -- the replies to lines, in order
  abbrev pub Run : M → List (List ℕ) → List Reply → M → Type 0
  Run old [] [] new = new ≡ old
  Run old (line ∷ lines) (reply ∷ replies) new = (mid : M) × Answers old line reply mid × Run mid lines replies new
  Run old lines replies new = ⊥

  -- the output is one line for each of these lines, in order
  pub record Outputs (first : M) (lines : List (List ℕ)) (output : List ℕ) : Type 0 where
    pub last : M
    pub replies : List Reply
    pub run : Run first lines replies last
    pub one_line : AreLines replies
    pub output_is : output ≡ flat_map answer_line replies

-- the first line is over the limit, or is no configuration
abbrev pub IsUnconfigured : List ℕ → Type 0
IsUnconfigured input =
    let line = configuration_of input in (LINE_LIMIT < length line) ⊎ (is_ok (read_configuration line) ≡ false)

-- what is reported of the first line: it is over the limit, or this is wrong with it, or there was no memory to find
-- out
abbrev pub IsTold : Detail → List ℕ → Type 0
IsTold TooLong input = LINE_LIMIT < length (configuration_of input)
IsTold detail input = IsFound detail (configuration_of input)

module _ {M : Type 0} (begins : Configuration → M → Type 0) where
  -- a new machine of the configuration on a first line, which isn't over the limit
  pub record Configures (line : List ℕ) (machine : M) : Type 0 where
    pub short : length line ≤ LINE_LIMIT
    pub configuration : Configuration
    pub read : read_configuration line ≡ Ok configuration
    pub begun : begins configuration machine

module _ {M : Type 0} (begins : Configuration → M → Type 0) (step : M → Request → Reply → M → Type 0) where
  -- The output is the answers to an input: one line for each line after the first that isn't empty, in order, by one
  -- machine of the configuration on the first line.
  abbrev pub Replays : List ℕ → List ℕ → Type 0
  Replays input output = (machine : M) × Configures begins (configuration_of input) machine × Outputs step machine (asked_of input) output

  -- the answers to the input were written, one line for each line that is answered
  abbrev pub Answered : Option (List ℕ) → Option (List ℕ) → Option (List ℕ) → Type 0
  Answered remaining old new =
      (output : List ℕ) × Appends old new output × IfSome remaining (λ input. Replays input output × (count_by is_feed output ≡ length (asked_of input)))

  -- nothing was written, or a prefix of the answers to the input
  abbrev pub Started : Option (List ℕ) → Option (List ℕ) → Option (List ℕ) → Type 0
  Started remaining old new =
      (written : List ℕ) × Appends old new written × IfSome remaining (λ input. (written ≡ []) ⊎ ((rest : List ℕ) × Replays input (written ++ rest)))
