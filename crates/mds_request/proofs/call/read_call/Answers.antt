use Rattle.mds_request.specs.Configuration.{configuration}
use Rattle.mds_request.specs.Request.{request_of}
use Rattle.mds_request.proofs.Calls.{answered}
use Rattle.mds_request.proofs.call.read_call.Goals as goal

pub returns-in_ok-route-in-Author : goal.returns-in_ok-route-in-Author
returns-in_ok-route-in-Author c =
    answered (configuration c.args.config.now) (request_of c.args.request.now) _ _ _ _ c.if-request-gt-MOST_BODY.false c.in-Author.ensures c.in_ok-route-in-Author.ensures c.author_call.ensures

pub returns-in_ok-route-in-Operator : goal.returns-in_ok-route-in-Operator
returns-in_ok-route-in-Operator c =
    answered (configuration c.args.config.now) (request_of c.args.request.now) _ _ _ _ c.if-request-gt-MOST_BODY.false c.in-Operator.ensures c.in_ok-route-in-Operator.ensures c.operator_call.ensures
