-- The names of the members that are read.
use Rattle.std.specs.Prelude.{ℕ, List, [], ◌∷◌, codes}
use Rattle.cli_config.specs.declared.members.KnownMember.{KnownMember}
use Rattle.cli_config.specs.declared.members.KnownMember.TheVariants.{Author, Operators, Oversight, Page, Public, Zone, Id, Limit, Name, Token}
use Rattle.cli_config.specs.declared.located_members.MemberOwner.{MemberOwner}
use Rattle.cli_config.specs.declared.located_members.MemberOwner.TheVariants.{Document, Operator}

abbrev pub name_of : KnownMember → List ℕ
name_of Author = codes "author"
name_of Operators = codes "operators"
name_of Oversight = codes "oversight"
name_of Page = codes "page"
name_of Public = codes "public"
name_of Zone = codes "zone"
name_of Id = codes "id"
name_of Limit = codes "limit"
name_of Name = codes "name"
name_of Token = codes "token"

-- the members of the configuration
abbrev pub of_document : List KnownMember
of_document = Author ∷ Operators ∷ Oversight ∷ Page ∷ Public ∷ Zone ∷ []

-- the members of an operator
abbrev pub of_operator : List KnownMember
of_operator = Id ∷ Limit ∷ Name ∷ Token ∷ []

abbrev pub known_of : MemberOwner → List KnownMember
known_of Document = of_document
known_of (Operator place) = of_operator

-- those of the other object
abbrev pub others_of : MemberOwner → List KnownMember
others_of Document = of_operator
others_of (Operator place) = of_document
