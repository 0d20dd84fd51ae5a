-- What a configuration makes of the page.
use Rattle.std.specs.Prelude.{◌≡◌, ℕ, List, Option, Some, None}
use Rattle.server_settings.specs.Policy.{policy_of}
use Rattle.server_settings.specs.Settings.{Given, settings_of, text_of as given_text}
use Rattle.server_page.specs.File.{text_of}
use Rattle.server_page.specs.declared.file.File.{File}
use Rattle.server_page.specs.declared.file.File.TheVariants.{SettingsJson}
use Rattle.server_page.specs.declared.page_settings.PageSettings.{PageSettings}

-- the text of the settings: the file of the page, where nothing is given
abbrev pub text_for : Option Given → List ℕ
text_for None = text_of SettingsJson
text_for (Some given) = given_text given

-- made of a configuration's text
pub record IsMadeOf (configuration : List ℕ) (settings : PageSettings) : Type 0 where
  pub text : settings.text.items ≡ text_for (settings_of configuration)
  pub policy : settings.policy.items ≡ policy_of configuration

-- the bytes of a file
abbrev pub bytes_of : PageSettings → File → List ℕ
bytes_of settings SettingsJson = settings.text.items
bytes_of settings file = text_of file
