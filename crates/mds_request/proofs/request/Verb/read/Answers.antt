use Rattle.std.proofs.Common.{◌≡◌, List, ℕ, codes, refl, arith}
use Rattle.std.proofs.lemmas.Slice.Eq.{text_from_reads}
use Rattle.mds_request.specs.Request.{verb_of}
use Rattle.mds_request.specs.declared.request.Verb.TheVariants.{Delete}
use Rattle.mds_request.proofs.request.Verb.read.Goals as goal

delete : (name : List ℕ) → name ≡ codes "DELETE" → Delete ≡ verb_of name
delete name e = rw e refl

pub returns-in-DELETE : goal.returns-in-DELETE
returns-in-DELETE c =
    delete c.args.name.now
    (text_from_reads _ (codes "DELETE") (omega arith) (omega arith, (omega arith, (omega arith, (omega arith, (omega arith, (omega arith, tt)))))))
