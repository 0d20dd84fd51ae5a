use Rattle.std.proofs.Common.{◌≡◌, ◌+◌, ◌-◌, ◌<◌, ℕ, suc, List, [], ◌∷◌, length, get_or, take, drop, All, sym, subst, arith}
use Rattle.std.proofs.lemmas.List.Elements.{All-cons}
use Rattle.mds_request.specs.Request.{request_of}
use Rattle.server_durable.specs.Chunks.{may_be_report}
use Rattle.server_durable.proofs.Reports.{rest_is}
use Rattle.server_durable.proofs.batch.chunk_length.Goals as goal

-- what holds of the first item and of so many behind it holds of all of them
first_and_rest : {A : Type 0} (P : A → Type 0) (items : List A) (n m : ℕ) (d : A) → m ≡ suc n → 0 < length items → P (get_or items 0 d)
    → All P (take n (take (length items - 1) (drop 1 items))) → All P (take m items)
first_and_rest P [] n m d more some holds rest = absurd (omega (arith, some))
first_and_rest P (item ∷ items) n m d more some holds rest =
    subst (λ k. All P (take k (item ∷ items))) (sym more)
    (All-cons P item (take n items) holds (subst (λ behind. All P (take n behind)) (rest_is 1 (item ∷ items)) rest))

pub returns-clause-alike : goal.returns-clause-alike
returns-clause-alike c =
    let may_be = c.may_be_report-may_be_reports.result in (
      may_be,
      first_and_rest (λ request. may_be_report (request_of request).body ≡ may_be) c.args.requests.now c.run_length.result (1 + c.run_length.result)
          _ (omega arith) c.requires (sym c.may_be_report-may_be_reports.ensures) c.run_length.ensures.alike,
    )
