use Rattle.std.proofs.Common.{refl}
use Rattle.std.proofs.lemmas.Str.Ascii.{trim_ascii_is}
use Rattle.server_page.proofs.tag.trim_space.Goals as goal

pub returns : goal.returns
returns c = trim_ascii_is c.args.bytes.now _ _ refl c.trim_ascii.ensures.value
