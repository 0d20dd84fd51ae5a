-- In a configuration that was read from a text each client can be told by its records.
use Rattle.std.proofs.Common.{◌≡◌, ◌==◌, ◌<◌, ◌≤◌, ◌+◌, ◌*◌, ℕ, zero, suc, Bool, true, false, cond, nat_le, List, [], ◌∷◌, length, take, drop, get_or, slice_get, slice_index, Option, Some, None, option_map, Result, Ok, Err, inl, refl, sym, ap, subst, ◌∙◌, arith}
use Rattle.std.specs.Prelude.{◌&&◌}
use Rattle.std.specs.List.{AllByRecursion, list_all}
use Rattle.std.proofs.lemmas.Bool.Decides.{nat_tests}
use Rattle.uuid.specs.Text.{by_index, byte_of_digits, digits_of, is_hex_digit, lower, parsed, parsed_hyphenated, parsed_simple, value_of}
use Rattle.uuid.proofs.RoundTrips.{parses_hyphenated}
use Rattle.uuid.proofs.TextLemmas.{all_fit, by_index_at, by_index_length}
use Rattle.journal_entry.specs.Entries.{IsClient, IsId}
use Rattle.journal_entry.specs.Requests.{client_at}
use Rattle.journal_entry.specs.declared.entry.EntryClient.{EntryClient}
use Rattle.journal_entry.specs.declared.entry.EntryClient.TheVariants.{Author as TheAuthor, Operator as OperatorBy}
use Rattle.mds_text.specs.Fault.{Fault, ◌>>=◌, too_many_operators}
use Rattle.mds_text.specs.Fields.{document_of, each, id_of, list_of, member_at, object_of, optional, optional_at, or_bad, required_at, text_of}
use Rattle.mds_text.specs.Reading.{read_text}
use Rattle.mds_text.specs.Tree.{Json}
use Rattle.mds_text.specs.declared.field.Field.{Field}
use Rattle.mds_text.specs.declared.field.Field.TheVariants.{Author as AuthorName, Operators, Id}
use Rattle.mds_request.specs.Configuration.{Configuration, Operator, access_at, configuration_of, has_alike, limit_at, operator_of, operators_at, operators_of, read_configuration, zone_at}
use Rattle.mds_request.specs.declared.config.Actor.{Actor}
use Rattle.mds_request.specs.declared.config.Actor.TheVariants.{Author, Nobody, Operator as OperatorAt}
use Rattle.mds_request.specs.declared.config.TheConstants.{MOST_OPERATORS}
use Rattle.server_durable.specs.Journals.{ReadConfigurationsTellClients}
use Rattle.server_durable.proofs.OwnTokens.{alone_in, unlike_in, unlike_is}

-- ---- an identifier that was read is read from its spelling

guarded : {A : Type 0} (b : Bool) (r : Option A) (x : A) → cond b r None ≡ Some x → (b ≡ true) × (r ≡ Some x)
guarded true r x is = (refl, is)
guarded false r x is = absurd cc

both : (a b : Bool) → (a && b) ≡ true → (a ≡ true) × (b ≡ true)
both true b is = (refl, is)
both false b is = absurd cc

the_same : {A : Type 0} (x y : A) → Some x ≡ Some y → x ≡ y
the_same x y is = cc

small_digit : (c : ℕ) → is_hex_digit c ≡ true → value_of c < 16
small_digit c is = grind (arith, nat_tests)

digit_at : (hex : List ℕ) (k : ℕ) → list_all is_hex_digit hex ≡ true → k < length hex → value_of (slice_index hex k) < 16
digit_at [] k digits here = absurd (omega arith)
digit_at (c ∷ hex) zero digits here = small_digit c (both (is_hex_digit c) (list_all is_hex_digit hex) digits).0
digit_at (c ∷ hex) (suc k) digits here = digit_at hex k (both (is_hex_digit c) (list_all is_hex_digit hex) digits).1 (omega arith)

byte_at : (hex : List ℕ) (j : ℕ) → list_all is_hex_digit hex ≡ true → length hex ≡ 32 → j < 16 → byte_of_digits hex j < 256
byte_at hex j digits long here =
    let high : value_of (slice_index hex (2 * j)) < 16 = digit_at hex (2 * j) digits (omega arith) in
    let low : value_of (slice_index hex (2 * j + 1)) < 16 = digit_at hex (2 * j + 1) digits (omega arith) in
    omega arith

of_digits : (hex id : List ℕ) → parsed_simple hex ≡ Some id → IsId id
of_digits hex id is =
    let read = guarded ((length hex == 32) && list_all is_hex_digit hex) (Some (by_index 16 (byte_of_digits hex))) id is in
    let tests = both (length hex == 32) (list_all is_hex_digit hex) read.0 in
    let long : length hex ≡ 32 = grind (arith, nat_tests) in
    let same : by_index 16 (byte_of_digits hex) ≡ id = the_same (by_index 16 (byte_of_digits hex)) id read.1 in
    let sixteen : length id ≡ 16 = sym (ap length same) ∙ by_index_length 16 (byte_of_digits hex) in
    let fits : (k : ℕ) → k < length id → get_or id k 0 < 256 = λ k here.
    let within : k < 16 = omega arith in
    subst (λ (n : ℕ). n < 256) (sym (by_index_at 16 (byte_of_digits hex) k 0 within) ∙ ap (λ (xs : List ℕ). get_or xs k 0) same)
    (byte_at hex k tests.1 long within) in
    sym (parses_hyphenated lower id (inl refl) sixteen (all_fit id fits))

of_hyphens : (text id : List ℕ) → parsed_hyphenated text ≡ Some id → IsId id
of_hyphens text id is = of_digits (digits_of text) id (guarded _ (parsed_simple (digits_of text)) id is).1

one_of : (b : Bool) (p q : Option (List ℕ)) (id : List ℕ) → (p ≡ Some id → IsId id) → (q ≡ Some id → IsId id) → cond b p q ≡ Some id → IsId id
one_of true p q id first second is = first is
one_of false p q id first second is = second is

spelled_back : (text id : List ℕ) → parsed text ≡ Some id → IsId id
spelled_back text id =
    one_of (length text == 32) _ _ id (of_digits text id)
    (one_of (length text == 36) _ _ id (of_hyphens text id)
    (one_of (length text == 38) _ _ id (λ is. of_hyphens (take 36 (drop 1 text)) id (guarded _ _ id is).1)
    (one_of (length text == 45) _ _ id (λ is. of_hyphens (drop 9 text) id (guarded _ _ id is).1) (λ is. absurd cc))))

-- ---- each operator's was read

-- of two readings one after another that succeed, both do
both_ok : {A B : Type 0} (r : Result A Fault) (f : A → Result B Fault) (b : B) → (r >>= f) ≡ Ok b → (a : A) × (r ≡ Ok a) × (f a ≡ Ok b)
both_ok (Ok a) f b is = (a, refl, is)
both_ok (Err fault) f b is = absurd cc

same_ok : {A : Type 0} (a b : A) → ◌≡◌ {A = Result A Fault} (Ok a) (Ok b) → a ≡ b
same_ok a b is = cc

from_some : (field : Field) (o : Option (List ℕ)) (id : List ℕ) → or_bad field o ≡ Ok id → o ≡ Some id
from_some field None id is = absurd cc
from_some field (Some x) id is = cc

of_value : (field : Field) (value : Json) (id : List ℕ) → id_of field value ≡ Ok id → IsId id
of_value field value id is =
    let text = both_ok (text_of field value) (λ s. or_bad field (parsed s)) id is in
    spelled_back text.0 id (from_some field (parsed text.0) id text.2)

of_optional : (field : Field) (value : Option Json) (found : Option (List ℕ)) (id : List ℕ) → optional (id_of field) value ≡ Ok found → found ≡ Some id → IsId id
of_optional field None found id is there = absurd (let none : None ≡ found = same_ok None found is in cc)
of_optional field (Some value) found id is there =
    let read = both_ok (id_of field value) (λ a. Ok (Some a)) found is in
    let same : read.0 ≡ id = the_same read.0 id (same_ok (Some read.0) found read.2 ∙ there) in
    subst IsId same (of_value field value read.0 read.1)

id_read : (document : Json) (field : Field) (id : List ℕ) → required_at id_of document field ≡ Ok id → IsId id
id_read document field id is =
    let found = both_ok (optional_at id_of document field) (or_bad field) id is in
    let member = both_ok (member_at document field) (optional (id_of field)) found.0 found.1 in
    of_optional field member.0 found.0 id member.2 (from_some field found.0 id found.2)

operator_read : (value : Json) (operator : Operator) → operator_of value ≡ Ok operator → IsId operator.id
operator_read value operator is =
    let entry = both_ok (object_of Operators value) _ operator is in
    let id = both_ok (required_at id_of entry.0 Id) _ operator entry.2 in
    let limit = both_ok (limit_at entry.0) _ operator id.2 in
    let token = both_ok (access_at entry.0 _) _ operator limit.2 in
    subst (λ (o : Operator). IsId o.id) (same_ok _ operator token.2) (id_read entry.0 Id id.0 id.1)

AreRead : List Json → List Operator → Type 0
AreRead values operators = AllByRecursion (λ (o : Operator). IsId o.id) operators × (length operators ≡ length values)

each_read : (values : List Json) (operators : List Operator) → each operator_of values ≡ Ok operators → AreRead values operators
unfolding AreRead
each_read [] operators is = subst (AreRead []) (same_ok [] operators is) (tt, refl)
each_read (value ∷ values) operators is =
    let one = both_ok (operator_of value) _ operators is in
    let rest = both_ok (each operator_of values) _ operators one.2 in
    let more = each_read values rest.0 rest.1 in
    subst (AreRead (value ∷ values)) (same_ok (one.0 ∷ rest.0) operators rest.2)
    ((operator_read value one.0 one.1, more.0), omega (arith, more.1))

few : (values : List Json) (operators : List Operator) (b : Bool) → nat_le (length values) MOST_OPERATORS ≡ b
    → cond b (each operator_of values) (Err too_many_operators) ≡ Ok operators → (length values ≤ MOST_OPERATORS) × (each operator_of values ≡ Ok operators)
few values operators true within is = (grind (arith, nat_tests), is)
few values operators false within is = absurd cc

record AreOperators (operators : List Operator) : Type 0 where
  written : AllByRecursion (λ (o : Operator). IsId o.id) operators
  few_are : length operators ≤ MOST_OPERATORS

operators_read : (document : Json) (operators : List Operator) → operators_at document ≡ Ok operators → AreOperators operators
unfolding AreRead
operators_read document operators is =
    let values = both_ok (required_at list_of document Operators) operators_of operators is in
    let within = few values.0 operators (nat_le (length values.0) MOST_OPERATORS) refl values.2 in
    let are = each_read values.0 operators within.1 in
    record { written = are.0; few_are = omega (arith, are.1, within.0) }

configuration_read : (text : List ℕ) (c : Configuration) → read_configuration text ≡ Ok c → AreOperators c.operators
configuration_read text c is =
    let tree = both_ok (read_text text) configuration_of c is in
    let document = both_ok (document_of tree.0) _ c tree.2 in
    let author = both_ok (access_at document.0 AuthorName) _ c document.2 in
    let operators = both_ok (operators_at document.0) _ c author.2 in
    let zone = both_ok (zone_at document.0) _ c operators.2 in
    let made : Configuration = record { author = author.0; operators = operators.0; zone = zone.0 } in
    subst (λ (x : Configuration). AreOperators x.operators) (unlike_is made c (has_alike made) zone.2).1
    (operators_read document.0 operators.0 operators.1)

-- ---- so each client's is

at_place : (operators : List Operator) (place : ℕ) (client : EntryClient) → AllByRecursion (λ (o : Operator). IsId o.id) operators
    → option_map (λ (o : Operator). OperatorBy o.id) (slice_get operators place) ≡ Some client → IsClient client
at_place [] place client written is = absurd cc
at_place (o ∷ operators) zero client written is = subst IsClient (the_same (OperatorBy o.id) client is) written.0
at_place (o ∷ operators) (suc place) client written is = at_place operators place client written.1 is

client_read : (c : Configuration) (who : Actor) (client : EntryClient) → AllByRecursion (λ (o : Operator). IsId o.id) c.operators
    → client_at c who ≡ Some client → IsClient client
client_read c Author client written is = subst IsClient (the_same TheAuthor client is) tt
client_read c (OperatorAt place) client written is = at_place c.operators place client written is
client_read c Nobody client written is = absurd cc

pub read_configurations_tell_clients : ReadConfigurationsTellClients
read_configurations_tell_clients text c is =
    let are = configuration_read text c is in (
      record {
        alone = (alone_in text c is).0;
        written = λ who client known. client_read c who client are.written known;
        few = omega (arith, are.few_are);
      },
      unlike_in text c is,
    )
