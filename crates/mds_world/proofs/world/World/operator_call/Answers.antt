use Rattle.std.proofs.Common.{arith, subst, sym}
use Rattle.std.proofs.lemmas.List.Elements.{All-get_or, All-set}
use Rattle.mds_fleet.specs.Fleet.{Fits}
use Rattle.mds_catalog.specs.Catalogue.{publications_of}
use Rattle.mds_drafts.specs.Values.{drafts_of}
use Rattle.mds_request.specs.Configuration.{configuration}
use Rattle.mds_request.specs.Request.{request_of}
use Rattle.mds_world.specs.Lasting.{lasting_in}
use Rattle.mds_world.proofs.Books.{as_many, limit_at, limits_kept, comes}
use Rattle.mds_world.proofs.world.World.operator_call.Goals as goal

pub index_mut-book-requires : goal.index_mut-book-requires
index_mut-book-requires g c =
    let now = c.args.self.now in
    let same = as_many now.books.items (configuration now.config).operators now.limits in
    omega (arith, c.requires, same)

pub indexed_operator_step-requires-clause-limit : goal.indexed_operator_step-requires-clause-limit
indexed_operator_step-requires-clause-limit g c =
    let now = c.args.self.now in
    let same = as_many now.books.items (configuration now.config).operators now.limits in
    let book = c.index_mut-book.result.now in
    limit_at now.books.items (configuration now.config).operators c.args.place book now.limits (omega (arith, c.requires, same)) c.index_mut-book.ensures.value

pub indexed_operator_step-requires-clause-fits : goal.indexed_operator_step-requires-clause-fits
indexed_operator_step-requires-clause-fits g c =
    let now = c.args.self.now in
    let same = as_many now.books.items (configuration now.config).operators now.limits in
    let Fit = Fits (lasting_in (publications_of now.catalogue)) in
    subst Fit (sym c.index_mut-book.ensures.value) (All-get_or Fit now.books.items c.args.place c.index_mut-book.result.now (omega (arith, c.requires, same)) now.fits)

pub invariant_of-self : goal.invariant_of-self
invariant_of-self g c =
    let now = c.args.self.now in
    let book = c.index_mut-book.result.now in
    let next = c.indexed_operator_step.new.book in
    let found = c.index_mut-book.ensures.value in
    let step = c.indexed_operator_step.ensures in
    record {
      limits = limits_kept now.books.items (configuration now.config).operators c.args.place book next now.limits found step.limit;
      fits = All-set (Fits (lasting_in (publications_of now.catalogue))) now.books.items c.args.place next step.fits now.fits;
    }

pub returns : goal.returns
returns g c =
    let now = c.args.self.now in
    let same = as_many now.books.items (configuration now.config).operators now.limits in
    let book = c.index_mut-book.result.now in
    let next = c.indexed_operator_step.new.book in
    let found = c.index_mut-book.ensures.value in
    let answer = c.indexed_operator_step.ensures.answer in
    comes (configuration now.config) (publications_of now.catalogue) (drafts_of now.drafts) now.books.items c.args.place book next
    c.args.call.now (request_of c.args.request.now) c.indexed_operator_step.result (omega (arith, c.requires, same)) found answer now.limits
