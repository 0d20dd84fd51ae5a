use Rattle.std.proofs.Common.{◌≡◌, map, take}
use Rattle.std.specs.FinMap.{values}
use Rattle.mds_text.specs.View.{view}
use Rattle.mds_verdict.specs.Verdict.{verdicts, reported}
use Rattle.mds_fleet.specs.Fleet.{Fits}
use Rattle.mds_catalog.specs.Catalogue.{publications_of, lent_policy}
use Rattle.mds_catalog.specs.Publication.{published_area}
use Rattle.mds_world.specs.Lasting.{lasting_in}
use Rattle.mds_world.proofs.compliance.policy_reports.Given as goal

abbrev pub invariant-loop-policy : goal.invariant-loop-policy
invariant-loop-policy g l = record {
  told : map view l.reports.items
      ≡ map (λ p. reported p.document (verdicts p.document (published_area (publications_of l.catalogue)) (values l.fn.book.rows) l.at.local l.at.moment)) (map lent_policy (take l.policy-index l.policies));
  rows : l.book.rows ≡ l.fn.book.rows;
  limit : l.book.limit ≡ l.fn.book.limit;
  fits : Fits (lasting_in (publications_of l.catalogue)) l.book;
}
