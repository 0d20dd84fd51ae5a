-- Encodings are unambiguous: the first bytes say what stands there, and where the rest begins.
use Rattle.std.proofs.Common.{◌≡◌, ℕ, ◌+◌, ◌^◌, ◌<◌, ◌≤◌, List, [], ◌∷◌, ◌++◌, length, take, drop, Some, cond, refl, sym, ap, ◌∙◌, arith}
use Rattle.std.specs.Prelude.{◌==◌}
use Rattle.std.specs.Int.{w32, w64, from_be_bytes, to_be_bytes}
use Rattle.std.proofs.lemmas.List.{take_at, drop_at, length-append}
use Rattle.std.proofs.lemmas.Nat.{from_be_bytes-to_be_bytes_4, from_be_bytes-to_be_bytes_8}
use Rattle.uuid.specs.Text.{parsed, hyphenated_text, lower}
use Rattle.uuid.proofs.TextLemmas.{by_index_length}
use Rattle.mds_text.specs.Fields.{last_moment}
use Rattle.journal_entry.specs.declared.entry.EntryClient.{EntryClient}
use Rattle.journal_entry.specs.declared.entry.EntryClient.TheVariants.{Author, Operator}
use Rattle.journal_entry.specs.declared.entry.TheConstants.{ENTRY, MOST_TARGET}
use Rattle.mds_request.specs.declared.request.Verb.{Verb}
use Rattle.mds_request.specs.declared.request.Verb.TheVariants.{Get, Put, Post, Delete, Other}
use Rattle.journal_entry.specs.Entries.{Entry, IsEntry, IsShort, IsId, IsClient, moment_text, size_text, id_text, verb_code, client_text, fields_text, entry_text}

pub same_front : (a b r s : List ℕ) → length a ≡ length b → a ++ r ≡ b ++ s → (a ≡ b) × (r ≡ s)
same_front a b r s long e =
    (sym (take_at a r (length b) long) ∙ ap (take (length b)) e ∙ take_at b s (length b) refl, sym (drop_at a r (length b) long) ∙ ap (drop (length b)) e ∙ drop_at b s (length b) refl)

pub same_head : (a b : ℕ) (r s : List ℕ) → a ∷ r ≡ b ∷ s → (a ≡ b) × (r ≡ s)
same_head a b r s e = (cc, cc)

pub moment_length : (at : ℕ) → length (moment_text at) ≡ 8
unfolding moment_text
moment_length at = refl

pub size_length : (size : ℕ) → length (size_text size) ≡ 4
unfolding size_text
size_length size = refl

pub id_length : (id : List ℕ) → length (id_text id) ≡ 36
unfolding id_text
id_length id = by_index_length 36 _

pub same_number : (m n : ℕ) (r s : List ℕ) → m < 2 ^ 64 → n < 2 ^ 64 → to_be_bytes w64 m ++ r ≡ to_be_bytes w64 n ++ s → (m ≡ n) × (r ≡ s)
same_number m n r s below under e =
    let p = same_front (to_be_bytes w64 m) (to_be_bytes w64 n) r s refl e in
    (sym (from_be_bytes-to_be_bytes_8 m below) ∙ ap (from_be_bytes w64) p.0 ∙ from_be_bytes-to_be_bytes_8 n under, p.1)

pub moment_fits : (at : ℕ) → at ≤ last_moment → at < 2 ^ 64
moment_fits at h = omega arith

pub same_moment : (m n : ℕ) (r s : List ℕ) → m ≤ last_moment → n ≤ last_moment → moment_text m ++ r ≡ moment_text n ++ s → (m ≡ n) × (r ≡ s)
unfolding moment_text
same_moment m n r s small low e = same_number m n r s (moment_fits m small) (moment_fits n low) e

pub same_size : (m n : ℕ) (r s : List ℕ) → m < 2 ^ 32 → n < 2 ^ 32 → size_text m ++ r ≡ size_text n ++ s → (m ≡ n) × (r ≡ s)
unfolding size_text
same_size m n r s below under e =
    let p = same_front (to_be_bytes w32 m) (to_be_bytes w32 n) r s refl e in
    (sym (from_be_bytes-to_be_bytes_4 m below) ∙ ap (from_be_bytes w32) p.0 ∙ from_be_bytes-to_be_bytes_4 n under, p.1)

some_is : (x y : List ℕ) → Some x ≡ Some y → x ≡ y
some_is x y e = cc

pub same_spelling : (a b : List ℕ) → IsId a → IsId b → id_text a ≡ id_text b → a ≡ b
unfolding id_text
same_spelling a b p q e = some_is a b (sym p ∙ ap parsed e ∙ q)

pub same_id : (a b r s : List ℕ) → IsId a → IsId b → id_text a ++ r ≡ id_text b ++ s → (a ≡ b) × (r ≡ s)
same_id a b r s p q e =
    let f = same_front (id_text a) (id_text b) r s (id_length a ∙ sym (id_length b)) e in
    (same_spelling a b p q f.0, f.1)

pub same_client : (a b : EntryClient) (r s : List ℕ) → IsClient a → IsClient b → client_text a ++ r ≡ client_text b ++ s → (a ≡ b) × (r ≡ s)
same_client Author Author r s p q e = (refl, (same_head 0 0 r s e).1)
same_client Author (Operator b) r s p q e = absurd (omega (arith, (same_head 0 1 r (id_text b ++ s) e).0))
same_client (Operator a) Author r s p q e = absurd (omega (arith, (same_head 1 0 (id_text a ++ r) s e).0))
same_client (Operator a) (Operator b) r s p q e =
    let f = same_id a b r s p q (same_head 1 1 (id_text a ++ r) (id_text b ++ s) e).1 in
    (ap (λ (x : List ℕ). Operator x) f.0, f.1)

verb_at : ℕ → Verb
verb_at code = cond (code == 1) Get (cond (code == 2) Put (cond (code == 3) Post (cond (code == 4) Delete Other)))

verb_back : (verb : Verb) → verb_at (verb_code verb) ≡ verb
unfolding verb_at
verb_back Get = refl
verb_back Put = refl
verb_back Post = refl
verb_back Delete = refl
verb_back Other = refl

pub same_verb : (a b : Verb) → verb_code a ≡ verb_code b → a ≡ b
same_verb a b e = sym (verb_back a) ∙ ap verb_at e ∙ verb_back b

-- a length that fits four bytes
pub size_fits : (target : List ℕ) → length target ≤ MOST_TARGET → length target < 2 ^ 32
size_fits target h = omega arith

pub same_target : (a b r s : List ℕ) → length a ≤ MOST_TARGET → length b ≤ MOST_TARGET
    → size_text (length a) ++ (a ++ r) ≡ size_text (length b) ++ (b ++ s) → (a ≡ b) × (r ≡ s)
same_target a b r s small low e =
    let p = same_size (length a) (length b) (a ++ r) (b ++ s) (size_fits a small) (size_fits b low) e in
    same_front a b r s p.0 p.1

-- the same of whole entries, field after field
pub record Same (a b : Entry) : Type 0 where
  pub at : a.at ≡ b.at
  pub verb : a.verb ≡ b.verb
  pub client : a.client ≡ b.client
  pub target : a.target ≡ b.target
  pub body : a.body ≡ b.body

pub same_fields : (a b : Entry) → IsClient a.client → a.at ≤ last_moment → length a.target ≤ MOST_TARGET → IsEntry b → fields_text a ≡ fields_text b → Same a b
same_fields a b is small within q e =
    let at = same_moment a.at b.at (verb_code a.verb ∷ (client_text a.client ++ (size_text (length a.target) ++ (a.target ++ a.body)))) (verb_code b.verb ∷ (client_text b.client ++ (size_text (length b.target) ++ (b.target ++ b.body)))) small q.at e in
    let verb = same_head (verb_code a.verb) (verb_code b.verb) (client_text a.client ++ (size_text (length a.target) ++ (a.target ++ a.body))) (client_text b.client ++ (size_text (length b.target) ++ (b.target ++ b.body))) at.1 in
    let client = same_client a.client b.client (size_text (length a.target) ++ (a.target ++ a.body)) (size_text (length b.target) ++ (b.target ++ b.body)) is q.client verb.1 in
    let target = same_target a.target b.target a.body b.body within q.short.target client.1 in
    record { at = at.0; verb = same_verb a.verb b.verb verb.0; client = client.0; target = target.0; body = target.1 }

pub same_entry : (a b : Entry) → Same a b → a ≡ b
same_entry a b s =
    rw s.at (rw s.verb (rw s.client (rw s.target (rw s.body refl))))
