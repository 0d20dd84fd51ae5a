-- The laws of the public documents.
use Rattle.std.specs.Prelude.{◌≡◌, ◌==◌, List, codes, filter, length, map}
use Rattle.http_header.specs.HeaderMap.{get_all}
use Rattle.http.specs.declared.request.Parts.{Parts}
use Rattle.mds_catalog.specs.Publication.{Publication}
use Rattle.mds_desk.specs.Room.{RoomState}
use Rattle.server_public.specs.Documents.{face_of}
use Rattle.server_routes.specs.declared.public_target.PublicTarget.{PublicTarget}
use Rattle.server_public.specs.CachedDocuments.{answer_to}

-- Two author's rooms with the same publications give the same answer to requests with the same method, target and
-- `accept`: whatever their drafts, their configurations and the other fields are, an access token among them.
abbrev pub EveryoneIsToldThePublications : Type 0
EveryoneIsToldThePublications =
    (one other : RoomState) (asked : PublicTarget) (here there : Parts)
    → one.publications ≡ other.publications → here.method ≡ there.method → here.uri ≡ there.uri
    → get_all here.headers (codes "accept") ≡ get_all there.headers (codes "accept")
    → answer_to one.publications asked here ≡ answer_to other.publications asked there

-- a publication without the policies that are meant for some operators
abbrev pub for_everyone : Publication → Publication
for_everyone p =
    record {
      moment = p.moment;
      geographies = p.geographies;
      policies = filter (λ policy. length policy.providers == 0) p.policies;
      withdrawn = p.withdrawn;
    }

-- Had no policy that is meant for some operators ever been published, the public documents would be the same.
abbrev pub OneOperatorsPoliciesAreNotTold : Type 0
OneOperatorsPoliciesAreNotTold = (publications : List Publication) → face_of (map for_everyone publications) ≡ face_of publications
