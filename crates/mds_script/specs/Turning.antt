-- One turn of a replay: a line is found and answered.
use Rattle.std.specs.Prelude.{◌≡◌, ℕ, Bool, true, false, List, [], filter, drop, Option, Some, None, Result, Ok, Err, IfSome, ⊤}
use Rattle.std.specs.Io.KnownBytes.{Appends, IsAtEnd}
use Rattle.mds_request.specs.Configuration.{Configuration}
use Rattle.mds_request.specs.Request.{Request}
use Rattle.mds_request.specs.Reply.{Reply, is_line}
use Rattle.mds_script.specs.declared.fault.ReplayFault.{ReplayFault}
use Rattle.mds_script.specs.declared.fault.ReplayFault.TheVariants.{Read, BadConfig, NoMemory}
use Rattle.mds_script.specs.Input.{lines, is_filled, configuration_of}
use Rattle.mds_script.specs.Answering.{Answers, Configures, answer_line}
use Rattle.mds_script.specs.Ends.{Writes}
use Rattle.mds_script.specs.LineReading.{BeginsWithLine}

-- what is written for a line with a reply, or without one
abbrev pub written_of : Option Reply → List ℕ
written_of None = []
written_of (Some reply) = answer_line reply

-- the lines among these bytes that are answered
abbrev pub filled_lines : List ℕ → List (List ℕ)
filled_lines bytes = filter is_filled (lines bytes)

module _ {M : Type 0} (begins : Configuration → M → Type 0) where
  -- the machine is one of the configuration on the first line, and the other lines are left
  abbrev pub Begins : Option (List ℕ) → Option (List ℕ) → M → Type 0
  Begins None new machine = ⊤
  Begins (Some input) None machine = ⊥
  Begins (Some input) (Some rest) machine = Configures begins (configuration_of input) machine × (lines rest ≡ drop 1 (lines input))

module _ {M : Type 0} (step : M → Request → Reply → M → Type 0) where
  -- an empty line has no reply and changes nothing; any other has one
  abbrev pub Replies : M → List ℕ → Option Reply → M → Type 0
  Replies old line None new = (is_filled line ≡ false) × (new ≡ old)
  Replies old line (Some reply) new = (is_filled line ≡ true) × Answers step old line reply new

  -- the next of the remaining lines has this reply, if any
  pub record Turned (old now : Option (List ℕ)) (machine_old machine_new : M) (reply : Option Reply) : Type 0 where
    pub line : List ℕ
    pub found : BeginsWithLine old now line
    pub replied : Replies machine_old line reply machine_new
    pub one_line : IfSome reply (λ r. is_line r.body ≡ true)

  -- what a turn did to the remaining input, to the machine and to the output
  abbrev pub Turns : Result Bool ReplayFault → Option (List ℕ) → Option (List ℕ) → M → M → Option (List ℕ) → Option (List ℕ) → Type 0
  -- there is no further line
  Turns (Ok false) old now machine_old machine_new written_old written_new =
      IsAtEnd old × (machine_new ≡ machine_old) × Appends written_old written_new []
  -- no line was found
  Turns (Err Read) old now machine_old machine_new written_old written_new = Appends written_old written_new []
  -- there is no other fault than that of writing
  Turns (Err BadConfig) old now machine_old machine_new written_old written_new = ⊥
  Turns (Err NoMemory) old now machine_old machine_new written_old written_new = ⊥
  -- a line was answered, or a prefix of the answer was written
  Turns result old now machine_old machine_new written_old written_new =
      (reply : Option Reply) × Turned old now machine_old machine_new reply × Writes written_old written_new result (written_of reply)
