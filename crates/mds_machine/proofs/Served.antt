-- An operator's requests that were answered 503 leave no trace in a history.
use Rattle.std.proofs.Common.{◌≡◌, ℕ, Bool, true, false, cond, not, List, [], ◌∷◌, ◌++◌, refl, sym, ap, subst, ◌∙◌}
use Rattle.std.specs.Prelude.{◌==◌, ◌&&◌}
use Rattle.std.specs.List.{filter, list_all}
use Rattle.std.proofs.lemmas.Bool.{false≢true, eqb-true}
use Rattle.std.proofs.lemmas.List.Elements.{filter-append}
use Rattle.mds_request.specs.Configuration.{Configuration}
use Rattle.mds_request.specs.Reply.{Reply, refused}
use Rattle.mds_request.specs.declared.code.Code.{Code}
use Rattle.mds_request.specs.declared.code.Code.TheVariants.{NoMemory}
use Rattle.mds_machine.specs.Isolation.{HasMemory, StandsAfter, is_unserved, served_for}
use Rattle.mds_machine.specs.Step.{State, Exchange, Step, Run}
use Rattle.mds_machine.specs.Views.{is_of}
use Rattle.mds_machine.proofs.Successes.{refused_leaves}
use Rattle.mds_machine.proofs.Views.{both_true}

-- a reply other than 503 isn't a refusal with 503
pub not_unavailable : (reply : Reply) (code : Code) → (refused code).status ≡ 503 → not (reply.status == 503) ≡ true → reply ≡ refused code → ⊥
not_unavailable reply code is other same =
    false≢true (sym (ap (λ status. not (status == 503)) (ap (λ r. r.status) same ∙ is)) ∙ other)

-- what passes a test, passes it
all_pass : {A : Type 0} (test : A → Bool) (xs : List A) → list_all test (filter test xs) ≡ true
all_pass test [] = refl
all_pass test (x ∷ xs) = by (test x) refl (all_pass test xs)
  where
    by : (b : Bool) → test x ≡ b → list_all test (filter test xs) ≡ true → list_all test (cond b (x ∷ filter test xs) (filter test xs)) ≡ true
    by true is rest = ap (λ b. b && list_all test (filter test xs)) is ∙ rest
    by false is rest = rest

pub one_of_all : {A : Type 0} (test : A → Bool) (before : List A) (x : A) (rest : List A) → list_all test (before ++ x ∷ rest) ≡ true → test x ≡ true
one_of_all test [] x rest all = (both_true (test x) (list_all test rest) all).0
one_of_all test (y ∷ before) x rest all = one_of_all test before x rest (both_true (test y) (list_all test (before ++ x ∷ rest)) all).1

module _ (configuration : Configuration) (place : ℕ) where
  abbrev served_history : List Exchange → List Exchange
  served_history history = served_for configuration place history

  -- a request that was answered 503 leaves the state
  left : (w next : State) (e : Exchange) → Step w e.request e.reply next → is_unserved configuration place e ≡ true → next ≡ w
  left w next e step is =
      let out = eqb-true e.reply.status 503 (both_true (is_of configuration place e.request) (e.reply.status == 503) is).1 in
      refused_leaves w e.request e.reply next step (λ ok. false≢true (ap (λ status. status == 200) (sym out ∙ ok)))

  -- so without such requests a history is one
  pub served_run : (history : List Exchange) (w next : State) → Run w history next → Run w (served_history history) next
  served_run [] w next run = run
  served_run (e ∷ history) w next run = by (is_unserved configuration place e) refl (served_run history run.0 next run.2)
    where
      by : (b : Bool) → is_unserved configuration place e ≡ b → Run run.0 (served_history history) next → Run w (cond (not b) (e ∷ served_history history) (served_history history)) next
      by true is rest = subst (λ s. Run s (served_history history) next) (left w run.0 e run.1 is) rest
      by false is rest = (run.0, run.1, rest)

  -- in which memory suffices for the operator
  pub served_memory : (history : List Exchange) → HasMemory configuration place (served_history history)
  served_memory history before e stands own =
      let test : Exchange → Bool = λ x. not (is_unserved configuration place x) in
      let passes = one_of_all test before e stands.0 (ap (list_all test) (sym stands.1) ∙ all_pass test history) in
      not_unavailable e.reply NoMemory refl (subst (λ b. not (b && (e.reply.status == 503)) ≡ true) own passes)

  -- and what was served stands in it after what was served before
  pub served_stands : (before : List Exchange) (e : Exchange) (history : List Exchange) → StandsAfter before e history
      → is_unserved configuration place e ≡ false → StandsAfter (served_history before) e (served_history history)
  served_stands before e history stands is =
      let test : Exchange → Bool = λ x. not (is_unserved configuration place x) in (
        served_history stands.0,
        ap (filter test) stands.1 ∙ filter-append test before (e ∷ stands.0)
            ∙ ap (λ b. filter test before ++ cond (not b) (e ∷ filter test stands.0) (filter test stands.0)) is,
      )
