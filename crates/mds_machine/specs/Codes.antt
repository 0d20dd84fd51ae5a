-- The codes of faults of the crates below: of documents, reports, drafts and publish requests. Out of memory is
-- reported in place of anything else.
use Rattle.mds_text.specs.Fault.{Fault, bad_json, bad_field, bad_number, out_of_range, decimal, too_many_rules, too_many_points, ring_short, ring_open}
use Rattle.mds_drafts.specs.declared.drafts.PutFault.{PutFault}
use Rattle.mds_drafts.specs.declared.drafts.PutFault.TheVariants as put
use Rattle.mds_drafts.specs.declared.publish.PublishFault.{PublishFault}
use Rattle.mds_drafts.specs.declared.publish.PublishFault.TheVariants as publish
use Rattle.mds_fleet.specs.declared.book.BookFault.{BookFault}
use Rattle.mds_fleet.specs.declared.book.BookFault.TheVariants as book
use Rattle.mds_request.specs.declared.code.Code.{Code}
use Rattle.mds_request.specs.declared.code.Code.TheVariants.{BadJson, BadField, BadNumber, OutOfRange, Decimal, TooManyRules, TooManyPoints, RingShort, RingOpen, Future, Stale, FleetFull, DraftsFull, Empty, NoDraft, Published, NoGeography, NoPredecessor, NotPublished, CatalogFull, NoMemory}

-- A document's first fault. The others are faults of configurations, which no request has.
abbrev pub fault_code : Fault → Code
fault_code bad_json = BadJson
fault_code (bad_field field) = BadField
fault_code bad_number = BadNumber
fault_code out_of_range = OutOfRange
fault_code decimal = Decimal
fault_code too_many_rules = TooManyRules
fault_code too_many_points = TooManyPoints
fault_code ring_short = RingShort
fault_code ring_open = RingOpen
fault_code other = BadField

-- why a book refuses a report
abbrev pub book_code : BookFault → Code
book_code book.Future = Future
book_code book.Stale = Stale
book_code book.FleetFull = FleetFull
book_code book.NoMemory = NoMemory

-- why a draft can't be put
abbrev pub put_code : PutFault → Code
put_code put.DraftsFull = DraftsFull
put_code put.NoMemory = NoMemory

-- why nothing is published
abbrev pub publish_code : PublishFault → Code
publish_code publish.Empty = Empty
publish_code (publish.NoDraft id) = NoDraft
publish_code (publish.Published id) = Published
publish_code (publish.NoGeography id) = NoGeography
publish_code (publish.NoPredecessor id) = NoPredecessor
publish_code (publish.NotPublished id) = NotPublished
publish_code publish.CatalogFull = CatalogFull
publish_code publish.NoMemory = NoMemory
