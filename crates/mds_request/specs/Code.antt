-- The codes of refusals, with their statuses (RFC 9110, section 15) and bodies.
use Rattle.std.specs.Prelude.{ℕ, List, ◌++◌, codes}
use Rattle.mds_request.specs.declared.code.Code.{Code}
use Rattle.mds_request.specs.declared.code.Code.TheVariants.{BadLine, Clock, BadBody, NoSnapshot, TooLarge, Token, NoRoute, Method, Role, BadId, BadJson, Decimal, BadField, BadNumber, OutOfRange, TooManyRules, TooManyPoints, RingShort, RingOpen, IdMismatch, Future, Stale, FleetFull, DraftsFull, NoDraft, NotFound, Empty, Published, NoGeography, NoPredecessor, NotPublished, CatalogFull, Busy, NoRoom, NoMemory}

-- the status and the code's name in the body
abbrev pub told : Code → ℕ × List ℕ
told BadLine = (400, codes "bad_line")
told Clock = (503, codes "clock")
told BadBody = (400, codes "bad_body")
told NoSnapshot = (503, codes "no_snapshot")
told TooLarge = (413, codes "too_large")
told Token = (401, codes "token")
told NoRoute = (404, codes "no_route")
told Method = (405, codes "method")
told Role = (403, codes "role")
told BadId = (400, codes "bad_id")
told BadJson = (400, codes "bad_json")
told Decimal = (400, codes "decimal")
told BadField = (400, codes "bad_field")
told BadNumber = (400, codes "bad_number")
told OutOfRange = (400, codes "out_of_range")
told TooManyRules = (400, codes "too_many_rules")
told TooManyPoints = (400, codes "too_many_points")
told RingShort = (400, codes "ring_short")
told RingOpen = (400, codes "ring_open")
told IdMismatch = (400, codes "id_mismatch")
told Future = (409, codes "future")
told Stale = (409, codes "stale")
told FleetFull = (409, codes "fleet_full")
told DraftsFull = (409, codes "drafts_full")
told NoDraft = (404, codes "no_draft")
told NotFound = (404, codes "not_found")
told Empty = (400, codes "empty")
told Published = (409, codes "published")
told NoGeography = (409, codes "no_geography")
told NoPredecessor = (409, codes "no_predecessor")
told NotPublished = (409, codes "not_published")
told CatalogFull = (409, codes "catalog_full")
told Busy = (503, codes "busy")
told NoRoom = (503, codes "no_room")
told NoMemory = (503, codes "no_memory")

abbrev pub status_of : Code → ℕ
status_of code = (told code).0

-- the body of a refusal
abbrev pub body_of : Code → List ℕ
body_of code = codes "{\"error\":\"" ++ (told code).1 ++ codes "\"}"
