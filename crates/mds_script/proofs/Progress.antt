-- How the answers to the lines of an input grow, turn by turn.
use Rattle.std.proofs.Common.{◌≡◌, ℕ, Bool, true, false, ltb, List, [], ◌∷◌, ◌++◌, length, filter, Option, Some, None, Result, Ok, Err, IfSome, IfOk, IfErr, MatchOption, IsTrue, refl, sym, ap, subst, ◌∙◌, append_assoc, arith}
use Rattle.std.specs.List.{list_all, flat_map}
use Rattle.std.specs.Io.KnownBytes.{Appends, IsAtEnd}
use Rattle.std.proofs.lemmas.Bool.{lt-ltb, cond-true, cond-false, and_from}
use Rattle.std.proofs.lemmas.List.{append-nil}
use Rattle.std.proofs.lemmas.List.Folds.{list_all-append}
use Rattle.std.proofs.lemmas.List.Concat.{flat_map-append}
use Rattle.mds_request.specs.declared.code.Code.TheVariants.{BadLine}
use Rattle.mds_request.specs.Request.{Request}
use Rattle.mds_request.specs.Reply.{Reply, is_line, refused}
use Rattle.mds_script.specs.declared.fault.ReplayFault.{ReplayFault}
use Rattle.mds_script.specs.declared.fault.ReplayFault.TheVariants.{Read, Write, BadConfig, NoMemory}
use Rattle.mds_script.specs.declared.lines.NextLine.TheVariants.{TooLong}
use Rattle.mds_script.specs.Input.{lines, is_filled, request_on}
use Rattle.mds_script.specs.Ends.{Writes}
use Rattle.mds_script.specs.LineReading.{BeginsWithLine, Finds}
use Rattle.mds_script.specs.Answering.{Answers, Run, Outputs, AreLines, answer_line, request_in}
use Rattle.mds_script.specs.Turning.{Replies, Turned, Turns, written_of, filled_lines}
use Rattle.mds_script.proofs.Written.{appends_more}
use Rattle.mds_script.specs.declared.gather.TheConstants.{LINE_LIMIT}

-- the lines that were answered between these two states of the input
abbrev pub LinesBetween : Option (List ℕ) → Option (List ℕ) → List (List ℕ) → Type 0
LinesBetween None now answered = Unit {0}
LinesBetween (Some xs) None answered = ⊥
LinesBetween (Some xs) (Some ys) answered = filled_lines xs ≡ answered ++ filled_lines ys

no_lines : (old : Option (List ℕ)) → LinesBetween old old []
no_lines None = tt
no_lines (Some xs) = refl

skipped_line : (old mid now : Option (List ℕ)) (answered : List (List ℕ)) (line : List ℕ) → LinesBetween old mid answered → BeginsWithLine mid now line → is_filled line ≡ false → LinesBetween old now answered
skipped_line None mid now answered line l b e = tt
skipped_line (Some xs) None now answered line l b e = absurd l
skipped_line (Some xs) (Some ys) None answered line l b e = b
skipped_line (Some xs) (Some ys) (Some zs) answered line l b e =
    l ∙ ap (λ ls. answered ++ ls) (ap (filter is_filled) b ∙ cond-false (is_filled line) (line ∷ filled_lines zs) (filled_lines zs) e)

answered_line : (old mid now : Option (List ℕ)) (answered : List (List ℕ)) (line : List ℕ) → LinesBetween old mid answered → BeginsWithLine mid now line → is_filled line ≡ true → LinesBetween old now (answered ++ line ∷ [])
answered_line None mid now answered line l b e = tt
answered_line (Some xs) None now answered line l b e = absurd l
answered_line (Some xs) (Some ys) None answered line l b e = b
answered_line (Some xs) (Some ys) (Some zs) answered line l b e =
    l ∙ (ap (λ ls. answered ++ ls) (ap (filter is_filled) b ∙ cond-true (is_filled line) (line ∷ filled_lines zs) (filled_lines zs) e)
    ∙ sym (append_assoc answered (line ∷ []) (filled_lines zs)))

lines_both : (before after : List Reply) → AreLines before → AreLines after → AreLines (before ++ after)
lines_both before after one other =
    list_all-append (λ reply. is_line reply.body) before after
    ∙ and_from (list_all (λ reply. is_line reply.body) before) (list_all (λ reply. is_line reply.body) after) one other

module _ {M : Type 0} (step : M → Request → Reply → M → Type 0) where
  -- the answers to all remaining lines were written
  abbrev pub AnswersAll : M → Option (List ℕ) → Option (List ℕ) → Option (List ℕ) → Type 0
  AnswersAll machine left written_old written_new =
      (output : List ℕ) × Appends written_old written_new output × IfSome left (λ bytes. Outputs step machine (filled_lines bytes) output)

  -- a prefix of them was written
  abbrev pub AnswersSome : M → Option (List ℕ) → Option (List ℕ) → Option (List ℕ) → Type 0
  AnswersSome machine left written_old written_new =
      (front : List ℕ) × (rest : List ℕ) × Appends written_old written_new front × IfSome left (λ bytes. Outputs step machine (filled_lines bytes) (front ++ rest))

  pub turns_from : (result : Result Bool ReplayFault) (reply : Option Reply) (old now : Option (List ℕ)) (machine_old machine_new : M) (written_old written_new : Option (List ℕ)) → Turned step old now machine_old machine_new reply → Writes written_old written_new result (written_of reply) → IfOk result (λ more. more ≡ true) → IfErr result (λ fault. fault ≡ Write) → Turns step result old now machine_old machine_new written_old written_new
  turns_from (Ok true) reply old now machine_old machine_new written_old written_new t w more fault = (reply, t, w)
  turns_from (Ok false) reply old now machine_old machine_new written_old written_new t w more fault = cc
  turns_from (Err Write) reply old now machine_old machine_new written_old written_new t w more fault = (reply, t, w)
  turns_from (Err Read) reply old now machine_old machine_new written_old written_new t w more fault = cc
  turns_from (Err BadConfig) reply old now machine_old machine_new written_old written_new t w more fault = cc
  turns_from (Err NoMemory) reply old now machine_old machine_new written_old written_new t w more fault = cc

  -- a line over the limit is refused
  pub long_turned : (machine : M) (kept : List ℕ) (old now : Option (List ℕ)) → Finds TooLong kept old now → is_line (refused BadLine).body ≡ true → Turned step old now machine machine (Some (refused BadLine))
  long_turned machine kept old now f one = record {
    line = f.0;
    found = f.2;
    replied = (
      lt-ltb 0 (length f.0) (omega (arith, f.1)),
      subst (λ request. MatchOption request ((refused BadLine ≡ refused BadLine) × (machine ≡ machine)) (λ r. step machine r (refused BadLine) machine))
          (sym (cond-true (ltb LINE_LIMIT (length f.0)) None (request_on f.0) (lt-ltb LINE_LIMIT (length f.0) f.1)))
          (refl, refl),
    );
    one_line = one;
  }

  run_push : (lines : List (List ℕ)) (replies : List Reply) (first mid last : M) (line : List ℕ) (reply : Reply) → Run step first lines replies mid → Answers step mid line reply last → Run step first (lines ++ line ∷ []) (replies ++ reply ∷ []) last
  run_push [] [] first mid last line reply r a = (last, subst (λ m. Answers step m line reply last) r a, refl)
  run_push [] (other ∷ replies) first mid last line reply r a = absurd r
  run_push (other ∷ lines) [] first mid last line reply r a = absurd r
  run_push (other ∷ lines) (before ∷ replies) first mid last line reply r a =
      (r.0, r.1, run_push lines replies r.0 mid last line reply r.2 a)

  run_append : (lines : List (List ℕ)) (replies : List Reply) (more_lines : List (List ℕ)) (more : List Reply) (first mid last : M) → Run step first lines replies mid → Run step mid more_lines more last → Run step first (lines ++ more_lines) (replies ++ more) last
  run_append [] [] more_lines more first mid last r s = subst (λ m. Run step m more_lines more last) r s
  run_append [] (reply ∷ replies) more_lines more first mid last r s = absurd r
  run_append (line ∷ lines) [] more_lines more first mid last r s = absurd r
  run_append (line ∷ lines) (reply ∷ replies) more_lines more first mid last r s =
      (r.0, r.1, run_append lines replies more_lines more r.0 mid last r.2 s)

  -- these lines were answered, with this output
  pub record Ran (old now : Option (List ℕ)) (first last : M) (output : List ℕ) : Type 0 where
    pub answered : List (List ℕ)
    pub replies : List Reply
    pub between : LinesBetween old now answered
    pub run : Run step first answered replies last
    pub one_line : AreLines replies
    pub output_is : output ≡ flat_map answer_line replies

  pub ran_none : (old : Option (List ℕ)) (machine : M) → Ran old old machine machine []
  ran_none old machine = record {
    answered = [];
    replies = [];
    between = no_lines old;
    run = refl;
    one_line = refl;
    output_is = refl;
  }

  ran_reply : (old mid now : Option (List ℕ)) (first between last : M) (output : List ℕ) (reply : Option Reply) → Ran old mid first between output → (line : List ℕ) → BeginsWithLine mid now line → Replies step between line reply last → IfSome reply (λ r. is_line r.body ≡ true) → Ran old now first last (output ++ written_of reply)
  ran_reply old mid now first between last output None r line found replied one = record {
    answered = r.answered;
    replies = r.replies;
    between = skipped_line old mid now r.answered line r.between found replied.0;
    run = subst (λ m. Run step first r.answered r.replies m) (sym replied.1) r.run;
    one_line = r.one_line;
    output_is = append-nil output ∙ r.output_is;
  }
  ran_reply old mid now first between last output (Some reply) r line found replied one = record {
    answered = r.answered ++ line ∷ [];
    replies = r.replies ++ reply ∷ [];
    between = answered_line old mid now r.answered line r.between found replied.0;
    run = run_push r.answered r.replies first between last line reply r.run replied.1;
    one_line = lines_both r.replies (reply ∷ []) r.one_line (and_from (is_line reply.body) true one refl);
    output_is = ap (λ xs. xs ++ answer_line reply) r.output_is
        ∙ (ap (λ xs. flat_map answer_line r.replies ++ xs) (sym (append-nil (answer_line reply))) ∙ sym (flat_map-append answer_line r.replies (reply ∷ [])));
  }

  pub ran_turn : (old mid now : Option (List ℕ)) (first between last : M) (output : List ℕ) (reply : Option Reply) → Ran old mid first between output → Turned step mid now between last reply → Ran old now first last (output ++ written_of reply)
  ran_turn old mid now first between last output reply r t =
      ran_reply old mid now first between last output reply r t.line t.found t.replied t.one_line

  -- where nothing is left, all lines are answered
  pub ran_all : (old now : Option (List ℕ)) (first last : M) (output : List ℕ) → Ran old now first last output → IsAtEnd now → IfSome old (λ bytes. Outputs step first (filled_lines bytes) output)
  ran_all None now first last output r over = tt
  ran_all (Some xs) None first last output r over = absurd r.between
  ran_all (Some xs) (Some ys) first last output r over =
      let whole : filled_lines xs ≡ r.answered = r.between ∙ (ap (λ zs. r.answered ++ filled_lines zs) over ∙ append-nil r.answered) in
      record {
        last = last;
        replies = r.replies;
        run = subst (λ ls. Run step first ls r.replies last) (sym whole) r.run;
        one_line = r.one_line;
        output_is = r.output_is;
      }

  pub answers_all : (old now : Option (List ℕ)) (first last : M) (written_old written_now written_new : Option (List ℕ)) (output : List ℕ) → Ran old now first last output → Appends written_old written_now output → IsAtEnd now → Appends written_now written_new [] → AnswersAll first old written_old written_new
  answers_all old now first last written_old written_now written_new output r a over none =
      (output, subst (Appends written_old written_new) (append-nil output) (appends_more written_old written_now written_new output [] a none), ran_all old now first last output r over)

  module _ (total : (old : M) (request : Request) → (reply : Reply) × (new : M) × step old request reply new × IsTrue (is_line reply.body)) where
    option_total : (request : Option Request) (machine : M) → (reply : Reply) × (new : M) × MatchOption request ((reply ≡ refused BadLine) × (new ≡ machine)) (λ r. step machine r reply new) × (is_line reply.body ≡ true)
    option_total None machine = (refused BadLine, machine, (refl, refl), refl)
    option_total (Some request) machine = total machine request

    -- there are answers to any lines
    run_total : (lines : List (List ℕ)) (machine : M) → (replies : List Reply) × (last : M) × Run step machine lines replies last × AreLines replies
    run_total [] machine = ([], machine, refl, refl)
    run_total (line ∷ lines) machine =
        let one = option_total (request_in line) machine in
        let more = run_total lines one.1 in
        (one.0 ∷ more.0, more.1, (one.1, one.2, more.2), and_from (is_line one.0.body) (list_all (λ reply. is_line reply.body) more.0) one.3 more.3)

    -- what was written is a prefix of the answers to all lines
    ran_rest : (old now : Option (List ℕ)) (first last : M) (output : List ℕ) → Ran old now first last output → (rest : List ℕ) × IfSome old (λ bytes. Outputs step first (filled_lines bytes) (output ++ rest))
    ran_rest None now first last output r = ([], tt)
    ran_rest (Some xs) None first last output r = absurd r.between
    ran_rest (Some xs) (Some ys) first last output r =
        let more = run_total (filled_lines ys) last in (
          flat_map answer_line more.0,
          record {
            last = more.1;
            replies = r.replies ++ more.0;
            run = subst (λ ls. Run step first ls (r.replies ++ more.0) more.1) (sym r.between) (run_append r.answered r.replies (filled_lines ys) more.0 first last more.1 r.run more.2);
            one_line = lines_both r.replies more.0 r.one_line more.3;
            output_is = ap (λ zs. zs ++ flat_map answer_line more.0) r.output_is ∙ sym (flat_map-append answer_line r.replies more.0);
          },
        )

    pub answers_some : (fault : ReplayFault) (old mid now : Option (List ℕ)) (first between last : M) (written_old written_now written_new : Option (List ℕ)) (output : List ℕ) → Ran old mid first between output → Appends written_old written_now output → Turns step (Err fault) mid now between last written_now written_new → AnswersSome first old written_old written_new
    answers_some Read old mid now first between last written_old written_now written_new output r a t =
        let more = ran_rest old mid first between output r in
        (output, more.0, subst (Appends written_old written_new) (append-nil output) (appends_more written_old written_now written_new output [] a t), more.1)
    answers_some Write old mid now first between last written_old written_now written_new output r a t =
        let more = ran_rest old now first last (output ++ written_of t.0) (ran_turn old mid now first between last output t.0 r t.1) in
        let regrouped : (output ++ written_of t.0) ++ more.0 ≡ (output ++ t.2.0) ++ (t.2.1 ++ more.0) =
        ap (λ xs. (output ++ xs) ++ more.0) t.2.2 ∙ (ap (λ xs. xs ++ more.0) (sym (append_assoc output t.2.0 t.2.1)) ∙ append_assoc (output ++ t.2.0) t.2.1 more.0) in (
          output ++ t.2.0,
          t.2.1 ++ more.0,
          appends_more written_old written_now written_new output t.2.0 a t.2.3,
          subst (λ xs. IfSome old (λ bytes. Outputs step first (filled_lines bytes) xs)) regrouped more.1,
        )
    answers_some BadConfig old mid now first between last written_old written_now written_new output r a t = absurd t
    answers_some NoMemory old mid now first between last written_old written_now written_new output r a t = absurd t
