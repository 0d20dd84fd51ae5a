-- How each command is called, where a usage line has room for it.
use Rattle.std.specs.Prelude.{ℕ, List, [], ◌∷◌, bytes_eq, codes, if◌then◌else◌}

abbrev pub serve_usage : List ℕ
serve_usage = codes "serve --config FILE --state DIR --listen ADDRESS"

-- that of the command which this word names; else that of `serve`
abbrev pub usage_by : List ℕ → List ℕ
usage_by verb =
    if bytes_eq verb (codes "check") then codes "check DIR, or check --config FILE"
    else (if bytes_eq verb (codes "audit") then codes "audit DIR --config FILE [--until MOMENT] [--operator ID]"
    else (if bytes_eq verb (codes "thin") then codes "thin DIR --config FILE [--archive DIR]"
    else (if bytes_eq verb (codes "report")
    then codes "report FOLDER.. --config FILE --from TIME --to TIME [--every MINUTES] [--operator ID].. --out DIR"
    else (if bytes_eq verb (codes "stop") then codes "stop ADDRESS"
    else (if bytes_eq verb (codes "import")
    then codes "import policies|status FILE.. --to ADDRESS --token-file PATH [--dry-run]"
    else (if bytes_eq verb (codes "export") then codes "export DIR --from ADDRESS --token-file PATH"
    else (if bytes_eq verb (codes "status") then codes "status --log CLUSTER --city NAME [--log-user PATH]"
    else (if bytes_eq verb (codes "fetch") then codes "fetch DIR --log CLUSTER --city NAME [--log-user PATH]"
    else (if bytes_eq verb (codes "seed") then codes "seed DIR --log CLUSTER --city NAME [--log-user PATH]"
    else serve_usage)))))))))

-- that of the command which arguments begin; without any that of `serve`
abbrev pub usage_of : List (List ℕ) → List ℕ
usage_of [] = serve_usage
usage_of (verb ∷ words) = usage_by verb
