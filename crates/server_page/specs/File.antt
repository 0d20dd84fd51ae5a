-- The files of the page: the path, media type and bytes of each.
use Rattle.std.specs.Prelude.{◌≢◌, ℕ, List, [], ◌∷◌, bytes_eq, codes, find, Option}
use Rattle.server_page.specs.declared.file.File.{File}
use Rattle.server_page.specs.declared.file.File.TheVariants.{IndexHtml, PageCss, AuthorJs, CardsJs, DomJs, FleetJs, GeometryJs, LayersJs, MapJs, PageJs, RulesJs, ServerJs, SettingsJson, StateJs, ZoneJs}
use Rattle.server_page.specs.declared.texts.index_html.TheConstants.{INDEX_HTML}
use Rattle.server_page.specs.declared.texts.page_css.TheConstants.{PAGE_CSS}
use Rattle.server_page.specs.declared.texts.author_js.TheConstants.{AUTHOR_JS}
use Rattle.server_page.specs.declared.texts.cards_js.TheConstants.{CARDS_JS}
use Rattle.server_page.specs.declared.texts.dom_js.TheConstants.{DOM_JS}
use Rattle.server_page.specs.declared.texts.fleet_js.TheConstants.{FLEET_JS}
use Rattle.server_page.specs.declared.texts.geometry_js.TheConstants.{GEOMETRY_JS}
use Rattle.server_page.specs.declared.texts.layers_js.TheConstants.{LAYERS_JS}
use Rattle.server_page.specs.declared.texts.map_js.TheConstants.{MAP_JS}
use Rattle.server_page.specs.declared.texts.page_js.TheConstants.{PAGE_JS}
use Rattle.server_page.specs.declared.texts.rules_js.TheConstants.{RULES_JS}
use Rattle.server_page.specs.declared.texts.server_js.TheConstants.{SERVER_JS}
use Rattle.server_page.specs.declared.texts.settings_json.TheConstants.{SETTINGS_JSON}
use Rattle.server_page.specs.declared.texts.state_js.TheConstants.{STATE_JS}
use Rattle.server_page.specs.declared.texts.zone_js.TheConstants.{ZONE_JS}

-- the files, each once
abbrev pub files : List File
files =
    IndexHtml
    ∷ PageCss
    ∷ AuthorJs
    ∷ CardsJs
    ∷ DomJs
    ∷ FleetJs
    ∷ GeometryJs
    ∷ LayersJs
    ∷ MapJs
    ∷ PageJs
    ∷ RulesJs
    ∷ ServerJs
    ∷ SettingsJson
    ∷ StateJs
    ∷ ZoneJs
    ∷ []

-- the path of a file (RFC 3986, section 3.3)
abbrev pub path_of : File → List ℕ
path_of IndexHtml = codes "/"
path_of PageCss = codes "/page.css"
path_of AuthorJs = codes "/author.js"
path_of CardsJs = codes "/cards.js"
path_of DomJs = codes "/dom.js"
path_of FleetJs = codes "/fleet.js"
path_of GeometryJs = codes "/geometry.js"
path_of LayersJs = codes "/layers.js"
path_of MapJs = codes "/map.js"
path_of PageJs = codes "/page.js"
path_of RulesJs = codes "/rules.js"
path_of ServerJs = codes "/server.js"
path_of SettingsJson = codes "/settings.json"
path_of StateJs = codes "/state.js"
path_of ZoneJs = codes "/zone.js"

-- the first file with a path; none, where no file has it
abbrev pub file_at : List ℕ → Option File
file_at path = find (λ file. bytes_eq (path_of file) path) files

-- no file of the page has this path
abbrev pub IsNoFile : List ℕ → Type 0
IsNoFile path = (file : File) → path_of file ≢ path

-- its media type, with the encoding of a text (RFC 9110, section 8.3; RFC 9239, section 6; RFC 8259, section 11)
abbrev pub type_of : File → List ℕ
type_of IndexHtml = codes "text/html; charset=utf-8"
type_of PageCss = codes "text/css; charset=utf-8"
type_of AuthorJs = codes "text/javascript; charset=utf-8"
type_of CardsJs = codes "text/javascript; charset=utf-8"
type_of DomJs = codes "text/javascript; charset=utf-8"
type_of FleetJs = codes "text/javascript; charset=utf-8"
type_of GeometryJs = codes "text/javascript; charset=utf-8"
type_of LayersJs = codes "text/javascript; charset=utf-8"
type_of MapJs = codes "text/javascript; charset=utf-8"
type_of PageJs = codes "text/javascript; charset=utf-8"
type_of RulesJs = codes "text/javascript; charset=utf-8"
type_of ServerJs = codes "text/javascript; charset=utf-8"
type_of SettingsJson = codes "application/json"
type_of StateJs = codes "text/javascript; charset=utf-8"
type_of ZoneJs = codes "text/javascript; charset=utf-8"

-- its bytes
abbrev pub text_of : File → List ℕ
text_of IndexHtml = INDEX_HTML.now
text_of PageCss = PAGE_CSS.now
text_of AuthorJs = AUTHOR_JS.now
text_of CardsJs = CARDS_JS.now
text_of DomJs = DOM_JS.now
text_of FleetJs = FLEET_JS.now
text_of GeometryJs = GEOMETRY_JS.now
text_of LayersJs = LAYERS_JS.now
text_of MapJs = MAP_JS.now
text_of PageJs = PAGE_JS.now
text_of RulesJs = RULES_JS.now
text_of ServerJs = SERVER_JS.now
text_of SettingsJson = SETTINGS_JSON.now
text_of StateJs = STATE_JS.now
text_of ZoneJs = ZONE_JS.now
