-- Words in a text.
use Rattle.std.proofs.Common.{
  ◌≡◌,
  ℕ,
  suc,
  ◌+◌,
  List,
  ◌∷◌,
  ◌<◌,
  length,
  drop,
  get_or,
  drop-cons,
  add-one,
  true,
  false,
  if◌then◌else◌,
  sym,
  ap,
  ◌∙◌,
}
use Rattle.server_settings.specs.Address.{begins_with, times}

module _ (word text : List ℕ) (i : ℕ) (within : i < length text) where
  shown : drop i text ≡ get_or text i 0 ∷ drop (i + 1) text
  shown = drop-cons text i 0 within ∙ ap (λ n. get_or text i 0 ∷ drop n text) (sym (add-one i))

  step : times word (drop i text)
      ≡ (if begins_with word (drop i text) then suc (times word (drop (i + 1) text)) else times word (drop (i + 1) text))
  step = ap (times word) shown
      ∙ ap (λ t. if begins_with word t then suc (times word (drop (i + 1) text)) else times word (drop (i + 1) text))
      (sym shown)

  -- a word that stands at this place, or doesn't
  pub taken : begins_with word (drop i text) ≡ true → times word (drop i text) ≡ suc (times word (drop (i + 1) text))
  taken is = step ∙ ap (λ b. if b then suc (times word (drop (i + 1) text)) else times word (drop (i + 1) text)) is

  pub passed : begins_with word (drop i text) ≡ false → times word (drop i text) ≡ times word (drop (i + 1) text)
  passed is = step ∙ ap (λ b. if b then suc (times word (drop (i + 1) text)) else times word (drop (i + 1) text)) is
