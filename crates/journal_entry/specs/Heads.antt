-- The payload of a journal's head: a magic word, the version of the layout, and each operator's share, without its
-- access token.
use Rattle.std.specs.Prelude.{◌≡◌, ◌≢◌, ℕ, ◌<◌, ◌^◌, List, [], ◌∷◌, ◌++◌, map, find, codes, bytes_eq, nat_le, if◌then◌else◌, Option, Some, None}
use Rattle.std.specs.List.{AllByRecursion}
use Rattle.mds_request.specs.Configuration.{Configuration, Operator}
use Rattle.journal_entry.specs.Entries.{id_text, size_text, IsId}
use Rattle.journal_entry.specs.Requests.{has_id}
use Rattle.journal_entry.specs.declared.head.OperatorShare.{OperatorShare as Lent}
use Rattle.journal_entry.specs.declared.head.TheConstants.{LAYOUT}
use Rattle.journal_entry.specs.declared.fitting.Unfit.{Unfit}
use Rattle.journal_entry.specs.declared.fitting.Unfit.TheVariants.{Missing, LowLimit}

-- an operator's share: its identifier, with how many vehicles it may hold, or has held
pub record Share : Type 0 where
  pub id : List ℕ
  pub vehicles : ℕ

abbrev pub share_of : Lent → Share
share_of share = record { id = share.id; vehicles = share.vehicles }

-- the shares of a configuration: each operator's limit
abbrev pub limit_of : Operator → Share
limit_of operator = record { id = operator.id; vehicles = operator.limit }

abbrev pub shares_of : Configuration → List Share
shares_of configuration = map limit_of configuration.operators

abbrev pub IsShare : Share → Type 0
IsShare share = IsId share.id × (share.vehicles < 2 ^ 32)

abbrev pub AreShares : List Share → Type 0
AreShares shares = AllByRecursion IsShare shares

abbrev pub share_text : Share → List ℕ
share_text share = id_text share.id ++ size_text share.vehicles

abbrev pub shares_text : List Share → List ℕ
shares_text [] = []
shares_text (share ∷ shares) = share_text share ++ shares_text shares

abbrev pub head_word : List ℕ
head_word = codes "ruffletuff"

abbrev pub head_text : List Share → List ℕ
head_text shares = head_word ++ (LAYOUT ∷ shares_text shares)

-- why a share doesn't fit a configuration: its operator is missing, or may hold fewer vehicles
abbrev pub unfit_at : Share → Option Operator → Option Unfit
unfit_at share None = Some (Missing share.id)
unfit_at share (Some operator) = if nat_le share.vehicles operator.limit then None else Some (LowLimit share.id)

abbrev pub unfit_by : Configuration → Share → Option Unfit
unfit_by configuration share = unfit_at share (find (has_id share.id) configuration.operators)

abbrev pub either : Option Unfit → Option Unfit → Option Unfit
either None other = other
either (Some one) other = Some one

-- The first reason why a server can't continue with a configuration, where these operators have entries and held so
-- many vehicles. Access tokens, the zone, further operators and higher limits don't matter.
abbrev pub unfit : Configuration → List Share → Option Unfit
unfit configuration [] = None
unfit configuration (share ∷ shares) = either (unfit_by configuration share) (unfit configuration shares)
