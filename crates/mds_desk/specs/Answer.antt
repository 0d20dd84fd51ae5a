-- The reply of an answer: one that was made, or a success with a cached body.
use Rattle.mds_request.specs.Reply.{Reply, success}
use Rattle.mds_desk.specs.declared.answer.ReplySource.{ReplySource}
use Rattle.mds_desk.specs.declared.answer.ReplySource.TheVariants.{Made, Ready}

abbrev pub reply_of : ReplySource → Reply
reply_of (Made reply) = reply
reply_of (Ready body) = success body
