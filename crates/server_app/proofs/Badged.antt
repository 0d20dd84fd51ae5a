-- Each configuration's text can be read for names, those of its operators in their order.
use Rattle.std.proofs.Common.{◌≡◌, ℕ, Bool, true, false, cond, nat_le, List, [], ◌∷◌, length, map, Option, Some, None, option_and_then, Result, Ok, Err, refl, sym, ap, subst, ◌∙◌}
use Rattle.mds_text.specs.Fault.{Fault, ◌>>=◌, alike, too_many_operators}
use Rattle.mds_text.specs.Fields.{document_of, each, id_of, list_of, member_at, object_of, required_at, text_of}
use Rattle.mds_text.specs.Reading.{read_text}
use Rattle.mds_text.specs.Tree.{Json, null, boolean, int, text, degrees, list, object}
use Rattle.mds_text.specs.declared.field.Field.TheVariants.{Author as AuthorName, Operators, Id, Name, Token, Zone as ZoneName}
use Rattle.mds_match.specs.Zone.{zone_of}
use Rattle.mds_request.specs.Configuration.{Configuration, Operator, access_at, configuration_of, has_alike, ids, limit_at, operator_of, operators_at, operators_of, read_configuration, unlike, zone_at}
use Rattle.mds_request.specs.declared.config.TheConstants.{MOST_OPERATORS}
use Rattle.server_app.specs.declared.oversight.Oversight.{Oversight}
use Rattle.server_app.specs.Oversight.{oversight_at}
use Rattle.server_app.specs.OperatorNames.{Badge, Badges, as_name, badge_of, badges_of, name_at, read_badges}
use Rattle.server_app.specs.Laws.{IsBadged}

-- of two readings one after another that succeed, the first does
first_ok : {A B : Type 0} (r : Result A Fault) (f : A → Result B Fault) (b : B) → (r >>= f) ≡ Ok b → (a : A) × (r ≡ Ok a) × (f a ≡ Ok b)
first_ok (Ok a) f b is = (a, refl, is)
first_ok (Err fault) f b is = absurd cc

then_ok : {A B : Type 0} (r : Result A Fault) (f : A → Result B Fault) (a : A) (b : B) → r ≡ Ok a → f a ≡ Ok b → (r >>= f) ≡ Ok b
then_ok r f a b is here = ap (λ x. x >>= f) is ∙ here

same_ok : {A : Type 0} (a b : A) → ◌≡◌ {A = Result A Fault} (Ok a) (Ok b) → a ≡ b
same_ok a b is = cc

-- a value with an identifier is an object, which has a name or has none
named : (entry : Json) (id : List ℕ) → required_at id_of entry Id ≡ Ok id → (name : Option (List ℕ)) × (name_at entry ≡ Ok name)
named null id is = absurd cc
named (boolean b) id is = absurd cc
named (int z) id is = absurd cc
named (text s) id is = absurd cc
named (degrees z) id is = absurd cc
named (list ts) id is = absurd cc
named (object ms) id is = (_, refl)

-- an object says how far the author sees
watched : (document : Json) (entries : List Json) → required_at list_of document Operators ≡ Ok entries → (oversight : Oversight) × (oversight_at document ≡ Ok oversight)
watched null entries is = absurd cc
watched (boolean b) entries is = absurd cc
watched (int z) entries is = absurd cc
watched (text s) entries is = absurd cc
watched (degrees z) entries is = absurd cc
watched (list ts) entries is = absurd cc
watched (object ms) entries is = (_, refl)

one_badged : (value : Json) (operator : Operator) → operator_of value ≡ Ok operator → (badge : Badge) × (badge_of value ≡ Ok badge) × (badge.id ≡ operator.id)
one_badged value operator is =
    let entry = first_ok (object_of Operators value) _ operator is in
    let id = first_ok (required_at id_of entry.0 Id) _ operator entry.2 in
    let limit = first_ok (limit_at entry.0) _ operator id.2 in
    let token = first_ok (access_at entry.0 Token) _ operator limit.2 in
    let name = named entry.0 id.0 id.1 in
    let badge : Badge = record { id = id.0; name = name.0 } in (
      badge,
      then_ok (object_of Operators value) (λ e. required_at id_of e Id >>= λ i. name_at e >>= λ n. Ok (record { id = i; name = n })) entry.0 badge entry.1
          (then_ok (required_at id_of entry.0 Id) (λ i. name_at entry.0 >>= λ n. Ok (record { id = i; name = n })) id.0 badge id.1
          (then_ok (name_at entry.0) (λ n. Ok (record { id = id.0; name = n })) name.0 badge name.1 refl)),
      ap (λ o. o.id) (same_ok (record { id = id.0; limit = limit.0; token = token.0 }) operator token.2),
    )

each_badged : (values : List Json) (operators : List Operator) → each operator_of values ≡ Ok operators
    → (badges : List Badge) × (each badge_of values ≡ Ok badges) × (map (λ b. b.id) badges ≡ ids operators)
each_badged [] operators is = ([], refl, ap ids (same_ok [] operators is))
each_badged (value ∷ values) operators is =
    let one = first_ok (operator_of value) _ operators is in
    let rest = first_ok (each operator_of values) _ operators one.2 in
    let badge = one_badged value one.0 one.1 in
    let badges = each_badged values rest.0 rest.1 in (
      badge.0 ∷ badges.0,
      then_ok (badge_of value) (λ a. each badge_of values >>= λ more. Ok (a ∷ more)) badge.0 (badge.0 ∷ badges.0) badge.1
          (then_ok (each badge_of values) (λ more. Ok (badge.0 ∷ more)) badges.0 (badge.0 ∷ badges.0) badges.1 refl),
      ap (λ id. id ∷ map (λ (b : Badge). b.id) badges.0) badge.2 ∙ ap (λ more. one.0.id ∷ more) badges.2 ∙ ap ids (same_ok (one.0 ∷ rest.0) operators rest.2),
    )

few : (values : List Json) (operators : List Operator) (b : Bool) → cond b (each operator_of values) (Err too_many_operators) ≡ Ok operators → each operator_of values ≡ Ok operators
few values operators true is = is
few values operators false is = absurd cc

unlike_is : (made configuration : Configuration) (b : Bool) → cond b (Err alike) (Ok made) ≡ Ok configuration → made ≡ configuration
unlike_is made configuration true is = absurd cc
unlike_is made configuration false is = same_ok made configuration is

badged : (value : Json) (configuration : Configuration) → configuration_of value ≡ Ok configuration
    → (badges : Badges) × (badges_of value ≡ Ok badges) × (map (λ b. b.id) badges.operators ≡ ids configuration.operators)
badged value configuration is =
    let document = first_ok (document_of value) _ configuration is in
    let author = first_ok (access_at document.0 AuthorName) _ configuration document.2 in
    let operators = first_ok (operators_at document.0) _ configuration author.2 in
    let zone = first_ok (zone_at document.0) _ configuration operators.2 in
    let entries = first_ok (required_at list_of document.0 Operators) operators_of operators.0 operators.1 in
    let written = first_ok (required_at text_of document.0 ZoneName) zone_of zone.0 zone.1 in
    let made : Configuration = record { author = author.0; operators = operators.0; zone = zone.0 } in
    let each_is = each_badged entries.0 operators.0 (few entries.0 operators.0 (nat_le (length entries.0) MOST_OPERATORS) entries.2) in
    let seen = watched document.0 entries.0 entries.1 in
    let badges : Badges = record { operators = each_is.0; oversight = seen.0; zone = written.0 } in (
      badges,
      then_ok (document_of value)
          (λ d. required_at list_of d Operators >>= λ es. each badge_of es >>= λ os. oversight_at d >>= λ o. required_at text_of d ZoneName >>= λ z. Ok (record { operators = os; oversight = o; zone = z }))
          document.0 badges document.1
          (then_ok (required_at list_of document.0 Operators)
          (λ es. each badge_of es >>= λ os. oversight_at document.0 >>= λ o. required_at text_of document.0 ZoneName >>= λ z. Ok (record { operators = os; oversight = o; zone = z }))
          entries.0 badges entries.1
          (then_ok (each badge_of entries.0)
          (λ os. oversight_at document.0 >>= λ o. required_at text_of document.0 ZoneName >>= λ z. Ok (record { operators = os; oversight = o; zone = z }))
          each_is.0 badges each_is.1
          (then_ok (oversight_at document.0)
          (λ o. required_at text_of document.0 ZoneName >>= λ z. Ok (record { operators = each_is.0; oversight = o; zone = z })) seen.0 badges seen.1
          (then_ok (required_at text_of document.0 ZoneName) (λ z. Ok (record { operators = each_is.0; oversight = seen.0; zone = z })) written.0 badges written.1 refl)))),
      each_is.2 ∙ ap (λ c. ids c.operators) (unlike_is made configuration (has_alike made) zone.2),
    )

pub text_badged : (bytes : List ℕ) (configuration : Configuration) → read_configuration bytes ≡ Ok configuration → IsBadged bytes configuration
text_badged bytes configuration is =
    let tree = first_ok (read_text bytes) configuration_of configuration is in
    let badges = badged tree.0 configuration tree.2 in
    record { badges = badges.0; are_its = then_ok (read_text bytes) badges_of tree.0 badges.0 tree.1 badges.1; each = badges.2 }
