use Rattle.std.proofs.Common.{map}
use Rattle.mds_request.specs.Request.{request_of}
use Rattle.server_durable.specs.Many.{report_of, reports_of}
use Rattle.server_durable.proofs.Cutting.{reported_next}
use Rattle.server_durable.proofs.batch.reports.Goals as goal

pub lines-preserved : goal.lines-preserved
lines-preserved c =
    let request = request_of c.args.request.now in
    reported_next (report_of request) (map request_of c.lines.reports.items) (map request_of c.push_report.new.reports.items) (reports_of request)
    c.first_line.result.0.now c.lines.rest.now c.first_line.result.1.now c.first_line.ensures.lines c.in_ok-push_report.ensures.pushed c.lines.invariant
