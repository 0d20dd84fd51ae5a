-- What the first line on standard input is read as.
use Rattle.std.specs.Prelude.{◌≡◌, ℕ, List, Bool, true, false, length, nat_lt, None, Some, Ok, is_ok}
use Rattle.mds_config_error.specs.Wording.{IsFound}
use Rattle.mds_config_error.specs.declared.detail.Detail.{Detail}
use Rattle.mds_config_error.specs.declared.detail.Detail.TheVariants.{TooLong}
use Rattle.mds_request.specs.Configuration.{configuration, read_configuration}
use Rattle.mds_request.specs.declared.config.Config.{Config}
use Rattle.mds_script.specs.declared.gather.TheConstants.{LINE_LIMIT}
use Rattle.mds_serve.specs.declared.failure.StartFailure.{StartFailure}
use Rattle.server_start.specs.declared.fault.ServeFault.TheVariants.{BadConfig, NotOpened, NoListener, Usage}

-- whether a line, without its end, is longer than one may be
abbrev pub is_too_long : List ℕ → Bool
is_too_long text = nat_lt LINE_LIMIT (length text)

-- a line that isn't too long is read as the configuration that it is
pub record IsReadFrom (text : List ℕ) (config : Config) : Type 0 where
  pub short : is_too_long text ≡ false
  pub read : read_configuration text ≡ Ok (configuration config)

-- A line that is too long is told as such, whatever stands in it. Of any other that is no configuration the detail says
-- what is wrong with it.
pub record IsWrong (text : List ℕ) (detail : Detail) : Type 0 where
  pub long : is_too_long text ≡ true → detail ≡ TooLong
  pub short : is_too_long text ≡ false → (is_ok (read_configuration text) ≡ false) × IsFound detail text

-- why no configuration is read: the line is wrong, or memory ran out
abbrev pub IsRefused : List ℕ → StartFailure → Type 0
IsRefused text failure =
    elim failure.fault [
      | BadConfig ↦ (detail : Detail) × (failure.detail ≡ Some detail) × IsWrong text detail
      | NotOpened ↦ failure.detail ≡ None
      | Usage ↦ ⊥
      | NoListener ↦ ⊥
    ]
