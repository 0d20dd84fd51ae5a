-- A whole replay: the answers to an input, and how many lines they have.
use Rattle.std.proofs.Common.{◌≡◌, ℕ, ◌+◌, ◌%◌, ◌/◌, Bool, true, false, not, cond, eqb, List, [], ◌∷◌, ◌++◌, length, filter, suc, Option, Some, None, inr, refl, ap, subst, ◌∙◌, arith}
use Rattle.std.specs.List.{count_by, list_all, list_any, flat_map}
use Rattle.std.specs.Io.KnownBytes.{prepend_known}
use Rattle.std.proofs.lemmas.Bool.{ne_eqb, and_parts, or_from, not-true}
use Rattle.std.proofs.lemmas.List.Sums.{sum_by-append, sum_by-cons}
use Rattle.mds_request.specs.Configuration.{Configuration}
use Rattle.mds_request.specs.Request.{Request}
use Rattle.mds_request.specs.Reply.{Reply, is_line}
use Rattle.mds_script.specs.Input.{is_feed, lines, is_filled, asked_of}
use Rattle.mds_script.specs.LineReading.{IsWithoutFeed}
use Rattle.mds_script.specs.Answering.{Run, Outputs, AreLines, answer_line, answer_text, Answered, Started}
use Rattle.mds_script.specs.Turning.{Begins}
use Rattle.mds_script.proofs.Progress.{AnswersAll, AnswersSome}

pub nothing_ahead : (remaining : Option (List ℕ)) → prepend_known [] remaining ≡ remaining
nothing_ahead None = refl
nothing_ahead (Some xs) = refl

abbrev feeds_in : List ℕ → ℕ
feeds_in bytes = count_by is_feed bytes

feeds_both : (xs ys : List ℕ) → feeds_in (xs ++ ys) ≡ feeds_in xs + feeds_in ys
feeds_both xs ys = sum_by-append (λ b. cond (is_feed b) 1 0) xs ys

other_byte : (byte : ℕ) (bytes : List ℕ) → eqb byte 10 ≡ false → feeds_in (byte ∷ bytes) ≡ feeds_in bytes
other_byte byte bytes e =
    let whole = sum_by-cons (λ b. cond (is_feed b) 1 0) byte bytes in
    let count : Bool → ℕ = λ b. cond b 1 0 in
    omega (arith, whole, ap count e)

-- a body is one line
line_feeds : (body : List ℕ) → is_line body ≡ true → feeds_in body ≡ 0
line_feeds [] h = refl
line_feeds (byte ∷ body) h =
    let parts = and_parts (not (eqb byte 10)) (is_line body) h in
    other_byte byte body (not-true (eqb byte 10) parts.0) ∙ line_feeds body parts.1

digit_is_other : (n : ℕ) → eqb (48 + n) 10 ≡ false
digit_is_other n = ne_eqb (48 + n) 10 (λ e. omega (arith, e))

plain_body : (body : List ℕ) → is_line body ≡ true → IsWithoutFeed body
plain_body [] h = refl
plain_body (byte ∷ body) h =
    let parts = and_parts (not (eqb byte 10)) (is_line body) h in
    or_from (eqb byte 10) (list_any is_feed body) (not-true (eqb byte 10) parts.0) (plain_body body parts.1)

-- the text of an answer is one line
pub answer_plain : (reply : Reply) → is_line reply.body ≡ true → IsWithoutFeed (answer_text reply)
answer_plain reply one =
    let status = reply.status in
    or_from (eqb (48 + status / 100 % 10) 10) (list_any is_feed ((48 + status / 10 % 10) ∷ (48 + status % 10) ∷ 32 ∷ reply.body)) (digit_is_other (status / 100 % 10))
    (or_from (eqb (48 + status / 10 % 10) 10) (list_any is_feed ((48 + status % 10) ∷ 32 ∷ reply.body)) (digit_is_other (status / 10 % 10))
    (or_from (eqb (48 + status % 10) 10) (list_any is_feed (32 ∷ reply.body)) (digit_is_other (status % 10)) (plain_body reply.body one)))

-- an answer line has one line feed
answer_feeds : (reply : Reply) → is_line reply.body ≡ true → feeds_in (answer_line reply) ≡ 1
answer_feeds reply one =
    let status = reply.status in
    let tail = 32 ∷ (reply.body ++ 10 ∷ []) in
    other_byte (48 + status / 100 % 10) ((48 + status / 10 % 10) ∷ (48 + status % 10) ∷ tail) (digit_is_other (status / 100 % 10))
    ∙ (other_byte (48 + status / 10 % 10) ((48 + status % 10) ∷ tail) (digit_is_other (status / 10 % 10))
    ∙ (other_byte (48 + status % 10) tail (digit_is_other (status % 10))
    ∙ (other_byte 32 (reply.body ++ 10 ∷ []) refl
    ∙ (feeds_both reply.body (10 ∷ []) ∙ ap (λ n. n + 1) (line_feeds reply.body one)))))

answers_feeds : (replies : List Reply) → AreLines replies → feeds_in (flat_map answer_line replies) ≡ length replies
answers_feeds [] h = refl
answers_feeds (reply ∷ replies) h =
    let parts = and_parts (is_line reply.body) (list_all (λ r. is_line r.body) replies) h in
    let both = feeds_both (answer_line reply) (flat_map answer_line replies) in
    omega (arith, both, answer_feeds reply parts.0, answers_feeds replies parts.1)

module _ {M : Type 0} (step : M → Request → Reply → M → Type 0) where
  pub run_length : (lines : List (List ℕ)) (replies : List Reply) (first last : M) → Run step first lines replies last → length replies ≡ length lines
  run_length [] [] first last r = refl
  run_length [] (reply ∷ replies) first last r = absurd r
  run_length (line ∷ lines) [] first last r = absurd r
  run_length (line ∷ lines) (reply ∷ replies) first last r = ap suc (run_length lines replies r.0 last r.2)

  -- one answer line for each line
  outputs_lines : (first : M) (lines : List (List ℕ)) (output : List ℕ) → Outputs step first lines output → feeds_in output ≡ length lines
  outputs_lines first lines output o =
      ap feeds_in o.output_is ∙ (answers_feeds o.replies o.one_line ∙ run_length lines o.replies first o.last o.run)

  module _ (begins : Configuration → M → Type 0) where
    pub answered_whole : (remaining mid : Option (List ℕ)) (machine : M) (old new : Option (List ℕ)) → Begins begins remaining mid machine → AnswersAll step machine mid old new → Answered begins step remaining old new
    answered_whole None mid machine old new b a = (a.0, a.1, tt)
    answered_whole (Some input) None machine old new b a = absurd b
    answered_whole (Some input) (Some rest) machine old new b a =
        let outputs = subst (λ ls. Outputs step machine (filter is_filled ls) a.0) b.1 a.2 in
        (a.0, a.1, ((machine, b.0, outputs), outputs_lines machine (asked_of input) a.0 outputs))

    pub started_whole : (remaining mid : Option (List ℕ)) (machine : M) (old new : Option (List ℕ)) → Begins begins remaining mid machine → AnswersSome step machine mid old new → Started begins step remaining old new
    started_whole None mid machine old new b a = (a.0, a.2, tt)
    started_whole (Some input) None machine old new b a = absurd b
    started_whole (Some input) (Some rest) machine old new b a =
        (a.0, a.2, inr (a.1, (machine, b.0, subst (λ ls. Outputs step machine (filter is_filled ls) (a.0 ++ a.1)) b.1 a.3)))
