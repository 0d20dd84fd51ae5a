-- The client that an access token belongs to.
use Rattle.std.proofs.Common.{◌≡◌, ℕ, false, cond, bytes_eq, string_bytes, List, map, ap, ◌∙◌, sym, Option, position}
use Rattle.mds_request.specs.declared.config.Operator.{Operator as Named}
use Rattle.mds_request.specs.declared.config.Actor.TheVariants.{Author}
use Rattle.mds_request.specs.declared.config.Config.{Config}
use Rattle.mds_request.specs.Configuration.{configuration, operator, has_token, operator_at, actor_of}
use Rattle.mds_request.proofs.Lists.{position-map}

pub actor_is : (c : Config) (token author t : List ℕ) (operators : List Named) (found : Option ℕ) → author ≡ string_bytes c.author → operators ≡ c.operators.items → t ≡ token → false ≡ bytes_eq author token → found ≡ position (λ o. has_token t (operator o)) operators → operator_at found ≡ actor_of (configuration c) token
actor_is c token author t operators found a os s other e =
    ap operator_at (e ∙ ap (λ u. position (λ o. has_token u (operator o)) operators) s ∙ ap (λ xs. position (λ o. has_token token (operator o)) xs) os ∙ sym (position-map (has_token token) operator c.operators.items))
    ∙ ap (λ b. cond b Author (operator_at (position (has_token token) (map operator c.operators.items)))) (other ∙ ap (λ u. bytes_eq u token) a)
