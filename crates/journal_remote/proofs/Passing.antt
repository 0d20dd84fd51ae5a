-- Registers at several moments.
use Rattle.std.proofs.Common.{◌≡◌, Bool, true, false, cond, List, [], ◌∷◌, ◌++◌, refl, sym, ap, subst, ◌∙◌, inl, inr}
use Rattle.std.specs.Prelude.{◌⊎◌, Option, Some, None}
use Rattle.std.specs.List.{AllByRecursion}
use Rattle.journal_register.specs.declared.owner.Owner.{Owner}
use Rattle.journal_register.specs.declared.outcome.Answer.{Answer}
use Rattle.journal_register.specs.declared.outcome.Answer.TheVariants.{Succeeded, Failed, Missing}
use Rattle.journal_register.specs.Register.{Register, Message, holds, after, after_all}
use Rattle.journal_register.specs.Lawful.{IsLawful}
use Rattle.journal_register.specs.Outcomes.{answer_of}
use Rattle.journal_remote.specs.Passing.{Between, IsOwn, Goes, Exchanges}

-- ---- two moments

pub between_itself : (a : Option Register) (R : Register → Register → Type 0) → ((k : Register) → R k k) → Between a a R
between_itself None R f = tt
between_itself (Some k) R f = f k

pub between_on : (a b c : Option Register) (R S T : Register → Register → Type 0) → Between a b R → Between b c S
    → ((k l m : Register) → R k l → S l m → T k m) → Between a c T
between_on None None None R S T r s f = tt
between_on None None (Some m) R S T r s f = absurd s
between_on None (Some l) c R S T r s f = absurd r
between_on (Some k) None c R S T r s f = absurd r
between_on (Some k) (Some l) None R S T r s f = absurd s
between_on (Some k) (Some l) (Some m) R S T r s f = f k l m r s

pub between_with : (a b : Option Register) (R S : Register → Register → Type 0) → Between a b R
    → ((k l : Register) → a ≡ Some k → b ≡ Some l → R k l → S k l) → Between a b S
between_with None None R S r f = tt
between_with None (Some l) R S r f = absurd r
between_with (Some k) None R S r f = absurd r
between_with (Some k) (Some l) R S r f = f k l refl refl r

pub none_is : (k : Register) → None ≡ Some k → ⊥
none_is k e = cc

some_is : (k l : Register) → Some k ≡ Some l → k ≡ l
some_is k l e = cc

-- what a later register says of one before it
pub known_before : (a b : Option Register) (R : Register → Register → Type 0) (l : Register) → Between a b R
    → b ≡ Some l → (k : Register) × (a ≡ Some k) × R k l
known_before None None R l r e = absurd (none_is l e)
known_before None (Some m) R l r e = absurd r
known_before (Some k) None R l r e = absurd r
known_before (Some k) (Some m) R l r e = (k, refl, subst (λ x. R k x) (some_is m l e) r)

-- and an earlier one of one behind it
pub known_behind : (a b : Option Register) (R : Register → Register → Type 0) (k : Register) → Between a b R
    → a ≡ Some k → (l : Register) × (b ≡ Some l) × R k l
known_behind None None R k r e = absurd (none_is k e)
known_behind None (Some m) R k r e = absurd r
known_behind (Some m) None R k r e = absurd r
known_behind (Some m) (Some l) R k r e = (l, refl, subst (λ x. R x l) (some_is m k e) r)

-- ---- what came in between

all_on : {X : Type 0} (P : X → Type 0) (xs ys : List X) → AllByRecursion P xs → AllByRecursion P ys
    → AllByRecursion P (xs ++ ys)
all_on P [] ys a b = b
all_on P (x ∷ xs) ys a b = (a.0, all_on P xs ys a.1 b)

all_with : {X : Type 0} (P Q : X → Type 0) (xs : List X) → ((x : X) → P x → Q x) → AllByRecursion P xs
    → AllByRecursion Q xs
all_with P Q [] f a = tt
all_with P Q (x ∷ xs) f a = (f x a.0, all_with P Q xs f a.1)

after_on : (k : Register) (ms ns : List Message) → after_all k (ms ++ ns) ≡ after_all (after_all k ms) ns
after_on k [] ns = refl
after_on k (m ∷ ms) ns = after_on (after k m) ms ns

pub goes_nowhere : (is_own : Owner → Bool) (sends : Message → Bool) (k : Register) → Goes is_own sends k k
goes_nowhere is_own sends k = record { came = []; lawful = tt; own = tt; reached = refl }

pub goes_on : (is_own : Owner → Bool) (sends more : Message → Bool) (k l m : Register)
    → ((x : Message) → sends x ≡ true → more x ≡ true) → Goes is_own sends k l → Goes is_own more l m
    → Goes is_own more k m
goes_on is_own sends more k l m keep one two = record {
  came = one.came ++ two.came;
  lawful = all_on (λ (x : Message). IsLawful x.transaction) one.came two.came one.lawful two.lawful;
  own = all_on (λ (x : Message). IsOwn is_own x.transaction → more x ≡ true) one.came two.came
      (all_with (λ (x : Message). IsOwn is_own x.transaction → sends x ≡ true)
      (λ (x : Message). IsOwn is_own x.transaction → more x ≡ true) one.came (λ x f own. keep x (f own)) one.own)
      two.own;
  reached = two.reached ∙ ap (λ n. after_all n two.came) one.reached ∙ sym (after_on k one.came two.came);
}

pub exchanges_on : (is_own : Owner → Bool) (sends more : Message → Bool) (sent : Message) (answer : Answer)
    (k l m : Register)
    → ((x : Message) → sends x ≡ true → more x ≡ true) → Goes is_own sends k l → Exchanges is_own more sent answer l m
    → Exchanges is_own more sent answer k m
exchanges_on is_own sends more sent answer k l m keep one two = record {
  at = two.at;
  goes = goes_on is_own sends more k l two.at keep one two.goes;
  answered = two.answered;
}

answer_is : (b : Bool) (k : Register) → Missing ≡ cond b Succeeded (Failed k.owner k.head) → ⊥
answer_is true k e = cc
answer_is false k e = cc

-- silence: something may have come
pub silence_goes : (is_own : Owner → Bool) (sends : Message → Bool) (sent : Message) (answer : Answer) (k l : Register)
    → answer ≡ Missing → Exchanges is_own sends sent answer k l → Goes is_own sends k l
silence_goes is_own sends sent answer k l silent x = by x.answered
  where
    by : ((answer ≡ Missing) × (l ≡ x.at)) ⊎ ((answer ≡ answer_of x.at sent.transaction) × (l ≡ after x.at sent))
        → Goes is_own sends k l
    by (inl none) = subst (λ n. Goes is_own sends k n) (sym none.1) x.goes
    by (inr some) = absurd (answer_is (holds x.at sent.transaction) x.at (sym silent ∙ some.0))

pub silence : (is_own : Owner → Bool) (sends : Message → Bool) (sent : Message) (k l : Register)
    → Goes is_own sends k l → Exchanges is_own sends sent Missing k l
silence is_own sends sent k l goes = record { at = l; goes = goes; answered = inl (refl, refl) }

-- ---- several calls

pub or_else : {P Q R : Type 0} → P ⊎ Q → (Q → P ⊎ R) → P ⊎ R
or_else (inl p) f = inl p
or_else (inr q) f = f q

pub same_sends : (sends more : Message → Bool) → more ≡ sends → (x : Message) → sends x ≡ true → more x ≡ true
same_sends sends more e x is = subst (λ (f : Message → Bool). f x ≡ true) (sym e) is

pub then_goes : (is_own mine : Owner → Bool) (sends more : Message → Bool) (a b c : Option Register) → mine ≡ is_own
    → ((x : Message) → sends x ≡ true → more x ≡ true) → Between a b (Goes is_own sends)
    → Between b c (Goes mine more) → Between a c (Goes is_own more)
then_goes is_own mine sends more a b c same keep one two =
    between_on a b c (Goes is_own sends) (Goes is_own more) (Goes is_own more) one
    (subst (λ (f : Owner → Bool). Between b c (Goes f more)) same two)
    (λ k l m x y. goes_on is_own sends more k l m keep x y)

pub then_exchanges : (is_own mine : Owner → Bool) (sends more : Message → Bool) (sent : Message) (answer : Answer)
    (a b c : Option Register) → mine ≡ is_own
    → ((x : Message) → sends x ≡ true → more x ≡ true) → Between a b (Goes is_own sends)
    → Between b c (Exchanges mine more sent answer) → Between a c (Exchanges is_own more sent answer)
then_exchanges is_own mine sends more sent answer a b c same keep one two =
    between_on a b c (Goes is_own sends) (Exchanges is_own more sent answer) (Exchanges is_own more sent answer) one
    (subst (λ (f : Owner → Bool). Between b c (Exchanges f more sent answer)) same two)
    (λ k l m x y. exchanges_on is_own sends more sent answer k l m keep x y)

pub then_silence : (is_own mine : Owner → Bool) (sends more : Message → Bool) (sent : Message) (answer : Answer)
    (a b c : Option Register) → mine ≡ is_own
    → ((x : Message) → sends x ≡ true → more x ≡ true) → Between a b (Goes is_own sends) → answer ≡ Missing
    → Between b c (Exchanges mine more sent answer) → Between a c (Goes is_own more)
then_silence is_own mine sends more sent answer a b c same keep one silent two =
    between_on a b c (Goes is_own sends) (Exchanges is_own more sent answer) (Goes is_own more) one
    (subst (λ (f : Owner → Bool). Between b c (Exchanges f more sent answer)) same two)
    (λ k l m x y. goes_on is_own sends more k l m keep x (silence_goes is_own more sent answer l m silent y))

pub in_silence : (is_own : Owner → Bool) (sends : Message → Bool) (sent : Message) (a b : Option Register)
    → Between a b (Goes is_own sends) → Between a b (Exchanges is_own sends sent Missing)
in_silence is_own sends sent a b one =
    between_with a b (Goes is_own sends) (Exchanges is_own sends sent Missing) one
    (λ k l _ _ goes. silence is_own sends sent k l goes)
