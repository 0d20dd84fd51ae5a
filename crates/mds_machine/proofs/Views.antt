-- Fronts and continued views.
use mathlib.Core.List.{IsPrefix}
use Rattle.std.proofs.Common.{◌≡◌, Bool, true, false, List, [], ◌∷◌, ◌++◌, map, length, drop, refl, sym, ap, subst, ◌∙◌}
use Rattle.std.specs.Prelude.{◌&&◌}
use Rattle.std.proofs.lemmas.Bool.{false≢true}
use Rattle.std.proofs.lemmas.List.{append-nil, append_assoc, drop_at}
use Rattle.std.proofs.lemmas.List.Elements.{filter_map-append}
use Rattle.mds_catalog.specs.Publication.{Publication}
use Rattle.mds_machine.specs.Views.{Seen, asked, published, as_publication, as_request, publications_of, requests_of}
use Rattle.mds_machine.specs.Fronts.{Turn, AreRising, last_front, followed, continued, requests_in}
use Rattle.mds_machine.specs.DeskLaws.{ShowsLastFront, ViewsAreJoined}

-- ---- lists

pub prefix_on : {A : Type 0} (xs ys zs : List A) → IsPrefix xs ys → IsPrefix ys zs → IsPrefix xs zs
prefix_on xs ys zs p q = (p.0 ++ q.0, sym (append_assoc xs p.0 q.0) ∙ ap (λ w. w ++ q.0) p.1 ∙ q.1)

pub prefix_self : {A : Type 0} (xs : List A) → IsPrefix xs xs
prefix_self xs = ([], append-nil xs)

pub both_true : (a b : Bool) → (a && b) ≡ true → (a ≡ true) × (b ≡ true)
both_true true b is = (refl, is)
both_true false b is = absurd (false≢true is)

-- ---- fronts

-- fronts that rise from a list rise from its prefixes
pub rise_from : (before known : List Publication) (turns : List Turn) → IsPrefix before known → AreRising known turns → AreRising before turns
rise_from before known [] begins rising = tt
rise_from before known (turn ∷ turns) begins rising = (prefix_on before known turn.front begins rising.0, rising.1)

-- the last front has what was known before as a prefix
pub last_past : (known : List Publication) (turns : List Turn) → AreRising known turns → IsPrefix known (last_front known turns)
last_past known [] rising = prefix_self known
last_past known (turn ∷ turns) rising = prefix_on known turn.front _ rising.0 (last_past turn.front turns rising.1)

pub last_on : (known : List Publication) (turns more : List Turn) → last_front known (turns ++ more) ≡ last_front (last_front known turns) more
last_on known [] more = refl
last_on known (turn ∷ turns) more = last_on turn.front turns more

-- ---- views

-- a view that has some publications, followed by a front that has more
pub followed_is : (seen : List Seen) (had front past : List Publication) → publications_of seen ≡ had → front ≡ had ++ past → followed seen front ≡ seen ++ map published past
followed_is seen had front past shown is =
    ap (λ f. seen ++ map published (drop (length (publications_of seen)) f)) is
    ∙ ap (λ ps. seen ++ map published ps) (drop_at had past (length (publications_of seen)) (ap length (sym shown)))

all_published : (ps : List Publication) → publications_of (map published ps) ≡ ps
all_published [] = refl
all_published (p ∷ ps) = ap (λ ps. p ∷ ps) (all_published ps)

none_asked : (ps : List Publication) → requests_of (map published ps) ≡ []
none_asked [] = refl
none_asked (p ∷ ps) = none_asked ps

-- a view followed by a front has the publications of this front
pub front_shown : (seen : List Seen) (front : List Publication) → IsPrefix (publications_of seen) front → publications_of (followed seen front) ≡ front
front_shown seen front is =
    ap publications_of (followed_is seen (publications_of seen) front is.0 refl (sym is.1))
    ∙ filter_map-append as_publication seen (map published is.0)
    ∙ ap (λ ps. publications_of seen ++ ps) (all_published is.0) ∙ is.1

-- such a view has no other requests
pub requests_left : (seen : List Seen) (front : List Publication) → requests_of (followed seen front) ≡ requests_of seen
requests_left seen front =
    let past = drop (length (publications_of seen)) front in
    filter_map-append as_request seen (map published past)
    ∙ ap (λ rs. requests_of seen ++ rs) (none_asked past) ∙ append-nil (requests_of seen)

-- the view after a turn
abbrev pub then : List Seen → Turn → List Seen
then seen turn = followed seen turn.front ++ asked turn.request ∷ []

pub shown_then : (seen : List Seen) (turn : Turn) → IsPrefix (publications_of seen) turn.front → publications_of (then seen turn) ≡ turn.front
shown_then seen turn is =
    filter_map-append as_publication (followed seen turn.front) (asked turn.request ∷ [])
    ∙ append-nil (publications_of (followed seen turn.front)) ∙ front_shown seen turn.front is

pub requests_then : (seen : List Seen) (turn : Turn) → requests_of (then seen turn) ≡ requests_of seen ++ turn.request ∷ []
requests_then seen turn =
    filter_map-append as_request (followed seen turn.front) (asked turn.request ∷ [])
    ∙ ap (λ rs. rs ++ turn.request ∷ []) (requests_left seen turn.front)

pub rise_then : (seen : List Seen) (turn : Turn) (turns : List Turn) → AreRising (publications_of seen) (turn ∷ turns) → AreRising (publications_of (then seen turn)) turns
rise_then seen turn turns rising = subst (λ ps. AreRising ps turns) (sym (shown_then seen turn rising.0)) rising.1

requests_continued : (seen : List Seen) (turns : List Turn) → requests_of (continued seen turns) ≡ requests_of seen ++ requests_in turns
requests_continued seen [] = sym (append-nil (requests_of seen))
requests_continued seen (turn ∷ turns) =
    requests_continued (then seen turn) turns ∙ ap (λ rs. rs ++ requests_in turns) (requests_then seen turn)
    ∙ append_assoc (requests_of seen) (turn.request ∷ []) (requests_in turns)

last_shown : (seen : List Seen) (turns : List Turn) → AreRising (publications_of seen) turns → publications_of (continued seen turns) ≡ last_front (publications_of seen) turns
last_shown seen [] rising = refl
last_shown seen (turn ∷ turns) rising =
    last_shown (then seen turn) turns (rise_then seen turn turns rising)
    ∙ ap (λ ps. last_front ps turns) (shown_then seen turn rising.0)

pub shows_last_front : ShowsLastFront
shows_last_front seen turns rising = (requests_continued seen turns, last_shown seen turns rising)

pub views_are_joined : ViewsAreJoined
views_are_joined seen [] more = refl
views_are_joined seen (turn ∷ turns) more = views_are_joined (then seen turn) turns more
