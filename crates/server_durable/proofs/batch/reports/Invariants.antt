use Rattle.std.proofs.Common.{◌≡◌, ◌++◌, length, map}
use Rattle.mds_script.specs.Input.{lines}
use Rattle.mds_request.specs.Request.{request_of}
use Rattle.server_durable.specs.Many.{report_of, reports_of}
use Rattle.server_durable.proofs.Cutting.{reported}
use Rattle.server_durable.proofs.batch.reports.Given as goal

-- the reports so far, with those of the lines that are left, are those of the body
abbrev pub invariant-lines : goal.invariant-lines
invariant-lines l =
    map request_of l.reports.items ++ reported (report_of (request_of l.fn.request)) (lines l.rest) ≡ reports_of (request_of l.fn.request)

abbrev pub decreases-lines : goal.decreases-lines
decreases-lines l = length l.rest
