-- No two of the tables share a path.
use Rattle.std.proofs.Common.{◌≡◌, ◌++◌, ◌∷◌, [], List, ℕ, Bool, true, false, cond, codes, take, drop, bytes_eq, if◌then◌else◌, ◌&&◌, IsSome, Option, Some, None, option_map, refl, sym, ap, subst, ◌∙◌}
use Rattle.std.specs.Prelude.{find}
use Rattle.std.specs.List.{list_any, slice_split}
use Rattle.std.specs.Option.{option_or}
use Rattle.std.specs.Str.{is_utf8}
use Rattle.std.proofs.lemmas.List.{take-append-drop}
use Rattle.std.proofs.lemmas.Slice.Eq.{bytes_eq-Decides}
use Rattle.server_page.specs.File.{file_at, files, path_of}
use Rattle.server_page.specs.declared.file.File.{File}
use Rattle.server_page.specs.declared.file.File.TheVariants.{IndexHtml, PageCss, AuthorJs, CardsJs, DomJs, FleetJs, GeometryJs, LayersJs, MapJs, PageJs, RulesJs, ServerJs, SettingsJson, StateJs, ZoneJs}
use Rattle.server_routes.specs.Target.{asked_by, geography_at, identifier, list_at, policy_at}
use Rattle.server_routes.specs.declared.public_target.PublicTarget.TheVariants.{Policies, Policy, Geographies, Geography}
use Rattle.mds_request.specs.Call.{behind_slash, is_empty, is_slash, rows_at, segments_in}
use Rattle.server_routes.specs.App.{call_at, compliance_path, drafts_path, events_path, fleet_at, fleet_of, fleet_path, is_segment, fleet_call, segment_in, whoami_path, withdrawals_path}
use Rattle.server_routes.specs.Endpoint.{TablesAreApart}
use Rattle.server_routes.specs.declared.app.AppCall.TheVariants.{Events, Fleet, Told}
use Rattle.server_routes.specs.declared.app.FleetView.{FleetView}
use Rattle.server_routes.specs.declared.app.FleetView.TheVariants.{Compliance, Vehicles}
use Rattle.server_routes.specs.declared.app.Question.TheVariants.{Whoami, Withdrawals, Drafts}

-- the table of calls has no row for this path
abbrev NoRow : List ℕ → Type 0
NoRow path = rows_at (segments_in path) ≡ []

-- there is no call at this path
record IsUncalled (path : List ℕ) : Type 0 where
  app : call_at path ≡ None
  protocol : NoRow path

-- nor is there a public document
record IsUnread (path : List ℕ) : Type 0 where
  public : asked_by path ≡ None
  uncalled : IsUncalled path

-- no row has these segments, and none has no segment
chosen : (is_text : Bool) (segments : List (List ℕ)) → rows_at segments ≡ [] → rows_at (if is_text then segments else []) ≡ []
chosen true segments none = none
chosen false segments none = refl

some : (has_none : Bool) (segments : List (List ℕ)) → rows_at segments ≡ [] → rows_at (if has_none then [] else segments) ≡ []
some true segments none = refl
some false segments none = none

-- a path whose segments are no row's
none_at : (path : List ℕ) → rows_at (behind_slash (slice_split is_slash path)) ≡ [] → NoRow path
none_at path none = chosen (is_utf8 path) (behind_slash (slice_split is_slash path)) none

unread : (path : List ℕ) → asked_by path ≡ None → call_at path ≡ None → rows_at (behind_slash (slice_split is_slash path)) ≡ [] → IsUnread path
unread path public app none = record { public = public; uncalled = record { app = app; protocol = none_at path none } }

-- the files of the page
at_file : (file : File) → IsUnread (path_of file)
at_file IndexHtml = unread (path_of IndexHtml) refl refl refl
at_file PageCss = unread (path_of PageCss) refl refl refl
at_file AuthorJs = unread (path_of AuthorJs) refl refl refl
at_file CardsJs = unread (path_of CardsJs) refl refl refl
at_file DomJs = unread (path_of DomJs) refl refl refl
at_file FleetJs = unread (path_of FleetJs) refl refl refl
at_file GeometryJs = unread (path_of GeometryJs) refl refl refl
at_file LayersJs = unread (path_of LayersJs) refl refl refl
at_file MapJs = unread (path_of MapJs) refl refl refl
at_file PageJs = unread (path_of PageJs) refl refl refl
at_file RulesJs = unread (path_of RulesJs) refl refl refl
at_file ServerJs = unread (path_of ServerJs) refl refl refl
at_file SettingsJson = unread (path_of SettingsJson) refl refl refl
at_file StateJs = unread (path_of StateJs) refl refl refl
at_file ZoneJs = unread (path_of ZoneJs) refl refl refl

-- what is found at a path is at that path
found_at : (path : List ℕ) (b : Bool) (file : File) (others : List File) → bytes_eq (path_of file) path ≡ b
    → (IsSome (find (λ f. bytes_eq (path_of f) path) others) → IsUnread path)
    → IsSome (cond b (Some file) (find (λ f. bytes_eq (path_of f) path) others)) → IsUnread path
found_at path true file others is rest some = subst IsUnread ((bytes_eq-Decides (path_of file) path).0 is) (at_file file)
found_at path false file others is rest some = rest some

among : (path : List ℕ) (those : List File) → IsSome (find (λ f. bytes_eq (path_of f) path) those) → IsUnread path
among path [] some = absurd cc
among path (file ∷ others) some = found_at path (bytes_eq (path_of file) path) file others refl (among path others) some

by_file : (path : List ℕ) → IsSome (file_at path) → IsUnread path
by_file path = among path files

-- where one of two is there, the goal holds if either gives it
either : {A : Type 0} (o others : Option A) (Goal : Type 0) → (IsSome o → Goal) → (IsSome others → Goal) → IsSome (option_or o others) → Goal
either None others Goal here there is = there is
either (Some a) others Goal here there is = here is

-- a test holds, or another one is there
tested : {A : Type 0} (b : Bool) (found : A) (others : Option A) (Goal : Type 0) → (b ≡ true → Goal) → (IsSome others → Goal) → IsSome (cond b (Some found) others) → Goal
tested true found others Goal hit miss is = hit refl
tested false found others Goal hit miss is = miss is

-- at one path
at_path : (P : List ℕ → Type 0) (path here : List ℕ) → P here → bytes_eq path here ≡ true → P path
at_path P path here none is = subst P (sym ((bytes_eq-Decides path here).0 is)) none

-- at the paths with a prefix
behind : (P : List ℕ → Type 0) (n : ℕ) (path front : List ℕ) → ((rest : List ℕ) → P (front ++ rest)) → bytes_eq (take n path) front ≡ true → P path
behind P n path front none is =
    subst P (ap (λ f. f ++ drop n path) (sym ((bytes_eq-Decides (take n path) front).0 is)) ∙ take-append-drop n path) (none (drop n path))

-- no row, and no call outside the protocol's, begins as the paths of public documents do
in_mds : (rest : List ℕ) → IsUncalled (codes "/mds/2.0/" ++ rest)
in_mds rest =
    let path = codes "/mds/2.0/" ++ rest in
    let segments = codes "mds" ∷ codes "2.0" ∷ slice_split is_slash rest in
    record { app = refl; protocol = chosen (is_utf8 path) (behind_slash (slice_split is_slash path)) (some (list_any is_empty segments) segments refl) }

by_list : (path : List ℕ) → IsSome (list_at path) → IsUncalled path
by_list path =
    tested (bytes_eq path (codes "/mds/2.0/policies")) Policies _ (IsUncalled path) (at_path IsUncalled path _ (in_mds (codes "policies")))
    (tested (bytes_eq path (codes "/mds/2.0/geographies")) Geographies None (IsUncalled path) (at_path IsUncalled path _ (in_mds (codes "geographies"))) (λ none. absurd cc))

by_policy : (path : List ℕ) → IsSome (policy_at path) → IsUncalled path
by_policy path =
    tested (bytes_eq (take 18 path) (codes "/mds/2.0/policies/")) (Policy (identifier (drop 18 path))) None (IsUncalled path)
    (behind IsUncalled 18 path _ (λ rest. in_mds (codes "policies/" ++ rest))) (λ none. absurd cc)

by_geography : (path : List ℕ) → IsSome (geography_at path) → IsUncalled path
by_geography path =
    tested (bytes_eq (take 21 path) (codes "/mds/2.0/geographies/")) (Geography (identifier (drop 21 path))) None (IsUncalled path)
    (behind IsUncalled 21 path _ (λ rest. in_mds (codes "geographies/" ++ rest))) (λ none. absurd cc)

by_public : (path : List ℕ) → IsSome (asked_by path) → IsUncalled path
by_public path =
    either (list_at path) _ (IsUncalled path) (by_list path) (either (policy_at path) (geography_at path) (IsUncalled path) (by_policy path) (by_geography path))

-- no row begins as the paths of the calls outside the protocol's do
in_app : (rest : List ℕ) → NoRow (codes "/app/" ++ rest)
in_app rest =
    let path = codes "/app/" ++ rest in
    let segments = codes "app" ∷ slice_split is_slash rest in
    chosen (is_utf8 path) (behind_slash (slice_split is_slash path)) (some (list_any is_empty segments) segments refl)

-- where both of two tests hold the first holds
first_of : (a b : Bool) → a && b ≡ true → a ≡ true
first_of true b is = refl
first_of false b is = absurd cc

-- what is made of something is there only where that is
made_of : {A B : Type 0} (f : A → B) (o : Option A) → IsSome (option_map f o) → IsSome o
made_of f None is = is
made_of f (Some a) is = refl

by_fleet_of : (view : FleetView) (n : ℕ) (path folder : List ℕ) → ((rest : List ℕ) → NoRow (folder ++ rest)) → IsSome (fleet_of view n folder path) → NoRow path
by_fleet_of view n path folder none is =
    tested (bytes_eq (take n path) folder && is_segment (drop n path)) (drop n path) None (NoRow path)
    (λ both. behind NoRow n path folder none (first_of (bytes_eq (take n path) folder) (is_segment (drop n path)) both)) (λ nothing. absurd cc)
    (made_of (λ segment. fleet_call view (identifier segment)) (segment_in n folder path) is)

by_fleet : (path : List ℕ) → IsSome (fleet_at path) → NoRow path
by_fleet path =
    tested (bytes_eq path compliance_path) (Fleet Compliance) _ (NoRow path) (at_path NoRow path compliance_path (in_app (codes "compliance")))
    (tested (bytes_eq path fleet_path) (Fleet Vehicles) _ (NoRow path) (at_path NoRow path fleet_path (in_app (codes "fleet")))
    (either (fleet_of Compliance 16 (codes "/app/compliance/") path) (fleet_of Vehicles 11 (codes "/app/fleet/") path) (NoRow path)
    (by_fleet_of Compliance 16 path (codes "/app/compliance/") (λ rest. in_app (codes "compliance/" ++ rest)))
    (by_fleet_of Vehicles 11 path (codes "/app/fleet/") (λ rest. in_app (codes "fleet/" ++ rest)))))

pub by_app : (path : List ℕ) → IsSome (call_at path) → rows_at (segments_in path) ≡ []
by_app path =
    tested (bytes_eq path events_path) Events _ (NoRow path) (at_path NoRow path events_path (in_app (codes "fleet/events")))
    (tested (bytes_eq path whoami_path) (Told Whoami) _ (NoRow path) (at_path NoRow path whoami_path (in_app (codes "whoami")))
    (tested (bytes_eq path withdrawals_path) (Told Withdrawals) _ (NoRow path) (at_path NoRow path withdrawals_path (in_app (codes "withdrawals")))
    (tested (bytes_eq path drafts_path) (Told Drafts) _ (NoRow path) (at_path NoRow path drafts_path (in_app (codes "drafts"))) (by_fleet path))))

pub are_apart : (path : List ℕ) → TablesAreApart path
are_apart path =
    record {
      file_and_public = λ is. (by_file path is).public;
      file_and_app = λ is. (by_file path is).uncalled.app;
      file_and_protocol = λ is. (by_file path is).uncalled.protocol;
      public_and_app = λ is. (by_public path is).app;
      public_and_protocol = λ is. (by_public path is).protocol;
      app_and_protocol = by_app path;
    }
