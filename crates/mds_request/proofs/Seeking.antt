-- Which paths a router finds whose routes can have a parameter only at their end.
use Rattle.std.proofs.Common.{◌≡◌, ℕ, zero, suc, ◌-◌, Bool, true, false, not, ◌&&◌, ◌==◌, cond, ltb, List, [], ◌∷◌, length, Option, Some, None, refl, ap, sym, ◌∙◌, subst, arith}
use Rattle.std.proofs.lemmas.Bool.{and_parts, and_from, and_right, eqb-true}
use Rattle.matchit.specs.Rows.{RowsOf}
use Rattle.matchit.specs.Seek.{own, step, or_else, longest_from, segment, has_slash, param_step, seek}

abbrev pub nil : List ℕ → Bool
nil [] = true
nil (x ∷ xs) = false

-- a pattern has a parameter only at its end, and no catch-all
abbrev pub ended : List ℕ → Bool
ended [] = true
ended (x ∷ t) = cond (ltb x 256) (ended t) ((x == 256) && nil t)

-- a path agrees with the pattern, where a parameter is the rest of the path, without a slash
abbrev pub agrees : List ℕ → List ℕ → Bool
agrees [] [] = true
agrees [] (b ∷ path) = false
agrees (x ∷ t) [] = false
agrees (x ∷ t) (b ∷ path) =
    cond (ltb x 256) ((x == b) && agrees t path) (nil t && not (has_slash (b ∷ path)))

nil-ended : (t : List ℕ) → nil t ≡ true → ended t ≡ true
nil-ended [] h = refl
nil-ended (x ∷ t) h = cc

tail-ended : (x : ℕ) (t : List ℕ) (byte : Bool) → cond byte (ended t) ((x == 256) && nil t) ≡ true → ended t ≡ true
tail-ended x t true h = h
tail-ended x t false h = nil-ended t (and_parts _ _ h).1

-- a pattern that ends in a parameter agrees where its byte is the parameter's token
end-agrees : (x b : ℕ) (t p : List ℕ) → x ≡ 256 → x ≡ b → nil t ≡ true → agrees t p ≡ true → (nil t && not (has_slash (b ∷ p))) ≡ true
end-agrees x b [] [] wild e n a = subst (λ v. not (cond (v == 47) true false) ≡ true) (sym wild ∙ e) refl
end-agrees x b [] (c ∷ p) wild e n a = cc
end-agrees x b (y ∷ t) p wild e n a = cc

byte-agrees : (x b : ℕ) (t p : List ℕ) (byte : Bool) → ltb x 256 ≡ byte → cond byte (ended t) ((x == 256) && nil t) ≡ true → (x == b) ≡ true → agrees t p ≡ true
    → cond byte ((x == b) && agrees t p) (nil t && not (has_slash (b ∷ p))) ≡ true
byte-agrees x b t p true l h e a = and_from _ _ e a
byte-agrees x b t p false l h e a =
    end-agrees x b t p (eqb-true x 256 (and_parts _ _ h).0) (eqb-true x b e) (and_parts _ _ h).1 a

wild-nil : (x : ℕ) (t : List ℕ) → x ≡ 256 → ended (x ∷ t) ≡ true → nil t ≡ true
wild-nil x t e h = let g : ended (256 ∷ t) ≡ true = subst (λ v. ended (v ∷ t) ≡ true) e h in g

no-catch_all : (x : ℕ) (t : List ℕ) → x ≡ 257 → ended (x ∷ t) ≡ true → ⊥
no-catch_all x t e h = let g : ended (257 ∷ t) ≡ true = subst (λ v. ended (v ∷ t) ≡ true) e h in cc

one_less : (n : ℕ) → suc n - 1 ≡ n
one_less n = omega arith

same-missing : (same rest : Bool) → (same ≡ true → rest ≡ false) → (same && rest) ≡ false
same-missing true rest h = h refl
same-missing false rest h = refl

wild-agrees : (x b : ℕ) (t path : List ℕ) → x ≡ 256 → nil t ≡ true → has_slash (b ∷ path) ≡ false → agrees (x ∷ t) (b ∷ path) ≡ true
wild-agrees x b t path e n s =
    rw (e) (and_from _ _ n (ap not s))

head-missing : (x b : ℕ) (t path : List ℕ) (byte slash : Bool) → cond byte (ended t) ((x == 256) && nil t) ≡ true → ((x == b) ≡ true → agrees t path ≡ false) → ((x == 256) ≡ true → slash ≡ true) → cond byte ((x == b) && agrees t path) (nil t && not slash) ≡ false
head-missing x b t path true slash h a s = same-missing (x == b) (agrees t path) a
head-missing x b t path false slash h a s = and_right _ _ (ap not (s (and_parts _ _ h).0))

module _ {K : Type 0} where
  -- what holds of each row
  abbrev pub Each : (List ℕ → K → Type 0) → RowsOf K → Type 0
  Each P [] = Unit {0}
  Each P ((t, k) ∷ rest) = P t k × Each P rest

  abbrev pub AreEnded : RowsOf K → Type 0
  AreEnded rows = Each (λ t k. ended t ≡ true) rows

  abbrev Nils : RowsOf K → Type 0
  Nils rows = Each (λ t k. nil t ≡ true) rows

  keep : (P : List ℕ → K → Type 0) (t : List ℕ) (k : K) (rest : RowsOf K) (found : Bool) → (found ≡ true → P t k) → Each P rest → Each P (cond found ((t, k) ∷ rest) rest)
  keep P t k rest true h r = (h refl, r)
  keep P t k rest false h r = r

  step-ended : (b : ℕ) (rows : RowsOf K) → AreEnded rows → AreEnded (step b rows)
  step-ended b [] h = tt
  step-ended b (([], k) ∷ rest) h = step-ended b rest h.1
  step-ended b ((x ∷ t, k) ∷ rest) h =
      keep (λ t k. ended t ≡ true) t k (step b rest) (x == b) (λ e. tail-ended x t (ltb x 256) h.0) (step-ended b rest h.1)

  wild-nils : (rows : RowsOf K) → AreEnded rows → Nils (step 256 rows)
  wild-nils [] h = tt
  wild-nils (([], k) ∷ rest) h = wild-nils rest h.1
  wild-nils ((x ∷ t, k) ∷ rest) h =
      keep (λ t k. nil t ≡ true) t k (step 256 rest) (x == 256) (λ e. wild-nil x t (eqb-true x 256 e) h.0) (wild-nils rest h.1)

  skip : (x : ℕ) (t : List ℕ) (k : K) (rest : RowsOf K) (found : Bool) → (x == 257) ≡ found → ended (x ∷ t) ≡ true → cond found ((t, k) ∷ rest) rest ≡ rest
  skip x t k rest true e h = absurd (no-catch_all x t (eqb-true x 257 e) h)
  skip x t k rest false e h = refl

  no-catch_alls : (rows : RowsOf K) → AreEnded rows → step 257 rows ≡ []
  no-catch_alls [] h = refl
  no-catch_alls (([], k) ∷ rest) h = no-catch_alls rest h.1
  no-catch_alls ((x ∷ t, k) ∷ rest) h = skip x t k (step 257 rest) (x == 257) refl h.0 ∙ no-catch_alls rest h.1

  longest-nils : (seg : List ℕ) (rows : RowsOf K) → Nils rows → longest_from seg [] rows ≡ []
  longest-nils seg [] h = refl
  longest-nils seg (([], k) ∷ rest) h = longest-nils seg rest h.1
  longest-nils seg ((x ∷ t, k) ∷ rest) h = let e = h.0 in cc

  param_step-nils : (rows : RowsOf K) (path : List ℕ) → Nils rows → param_step rows path ≡ cond (has_slash path) (0, []) (length path, rows)
  unfolding param_step
  param_step-nils rows path h = rw (longest-nils (segment path) rows h) refl

  second-none : (n : ℕ) (slash : Bool) → (cond {A = ℕ × RowsOf K} slash (0, []) (n, [])).1 ≡ []
  second-none n true = refl
  second-none n false = refl

  seek-none : (n : ℕ) (path : List ℕ) → seek {K = K} n [] path ≡ None
  unfolding seek
  seek-none n [] = refl
  seek-none (suc n) (b ∷ path) = seek-none n path
  seek-none zero (b ∷ path) =
      simp (seek-none 0 path, param_step-nils [] (b ∷ path) tt, second-none (length (b ∷ path)) (has_slash (b ∷ path)))
      (ap (λ o. or_else o None) (seek-none _ path))

  seek-skip : (rows : RowsOf K) (path : List ℕ) → seek (length path) rows path ≡ own rows
  unfolding seek
  seek-skip rows [] = refl
  seek-skip rows (b ∷ path) = seek-skip rows path

  -- a parameter at the end matches the rest, where that has no slash
  after_slash : (rows : RowsOf K) (b : ℕ) (path : List ℕ) (slash : Bool) → seek ((cond {A = ℕ × RowsOf K} slash (0, []) (length (b ∷ path), rows)).0 - 1) (cond {A = ℕ × RowsOf K} slash (0, []) (length (b ∷ path), rows)).1 path ≡ cond slash None (own rows)
  after_slash rows b path true = seek-none _ path
  after_slash rows b path false = rw (one_less (length path)) (seek-skip rows path)

  wild-seek : (rows : RowsOf K) (b : ℕ) (path : List ℕ) → Nils rows
      → seek ((param_step rows (b ∷ path)).0 - 1) (param_step rows (b ∷ path)).1 path ≡ cond (has_slash (b ∷ path)) None (own rows)
  wild-seek rows b path h =
      rw (param_step-nils rows (b ∷ path) h) (after_slash rows b path (has_slash (b ∷ path)))

  -- a step of the search
  seek-byte : (rows : RowsOf K) (b : ℕ) (path : List ℕ) → AreEnded rows
      → seek 0 rows (b ∷ path) ≡ or_else (seek 0 (step b rows) path) (or_else (cond (has_slash (b ∷ path)) None (own (step 256 rows))) None)
  unfolding seek
  seek-byte rows b path h = rw (wild-seek (step 256 rows) b path (wild-nils rows h), no-catch_alls rows h) refl

  or-found : (Q : K → Type 0) (e : K) (a b : Option K) → (a ≡ Some e → Q e) → (b ≡ Some e → Q e) → or_else a (or_else b None) ≡ Some e → Q e
  or-found Q e (Some k) b f g h = f h
  or-found Q e None (Some k) f g h = g h
  or-found Q e None None f g h = cc

  own-found : (Q : K → Type 0) (e : K) (rows : RowsOf K) → Each (λ t k. agrees t [] ≡ true → Q k) rows → own rows ≡ Some e → Q e
  own-found Q e [] g h = cc
  own-found Q e (([], k) ∷ rest) g h = let same : k ≡ e = cc in subst Q same (g.0 refl)
  own-found Q e ((x ∷ t, k) ∷ rest) g h = own-found Q e rest g.1 h

  step-found : (Q : K → Type 0) (b : ℕ) (path : List ℕ) (rows : RowsOf K) → AreEnded rows → Each (λ t k. agrees t (b ∷ path) ≡ true → Q k) rows → Each (λ t k. agrees t path ≡ true → Q k) (step b rows)
  step-found Q b path [] h g = tt
  step-found Q b path (([], k) ∷ rest) h g = step-found Q b path rest h.1 g.1
  step-found Q b path ((x ∷ t, k) ∷ rest) h g =
      keep (λ t k. agrees t path ≡ true → Q k) t k (step b rest) (x == b) (λ e. λ a. g.0 (byte-agrees x b t path (ltb x 256) refl h.0 e a)) (step-found Q b path rest h.1 g.1)

  wild-head : (Q : K → Type 0) (e : K) (x : ℕ) (t : List ℕ) (k : K) (rest : RowsOf K) (found : Bool) → (found ≡ true → nil t ≡ true) → (found ≡ true → nil t ≡ true → Q k) → (own rest ≡ Some e → Q e) → own (cond found ((t, k) ∷ rest) rest) ≡ Some e → Q e
  wild-head Q e x [] k rest true n g f h = let same : k ≡ e = cc in subst Q same (g refl refl)
  wild-head Q e x (y ∷ t) k rest true n g f h = let no = n refl in cc
  wild-head Q e x t k rest false n g f h = f h

  wild-found : (Q : K → Type 0) (e : K) (b : ℕ) (path : List ℕ) (rows : RowsOf K) → has_slash (b ∷ path) ≡ false → AreEnded rows → Each (λ t k. agrees t (b ∷ path) ≡ true → Q k) rows → own (step 256 rows) ≡ Some e → Q e
  wild-found Q e b path [] s h g f = cc
  wild-found Q e b path (([], k) ∷ rest) s h g f = wild-found Q e b path rest s h.1 g.1 f
  wild-found Q e b path ((x ∷ t, k) ∷ rest) s h g f =
      wild-head Q e x t k (step 256 rest) (x == 256) (λ w. wild-nil x t (eqb-true x 256 w) h.0) (λ w. λ n. g.0 (wild-agrees x b t path (eqb-true x 256 w) n s)) (wild-found Q e b path rest s h.1 g.1) f

  slash-found : (Q : K → Type 0) (e : K) (o : Option K) (slash : Bool) → (slash ≡ false → o ≡ Some e → Q e) → cond slash None o ≡ Some e → Q e
  slash-found Q e o true f h = cc
  slash-found Q e o false f h = f refl h

  -- what is found is a row that the path agrees with
  pub found : (Q : K → Type 0) (e : K) (path : List ℕ) (rows : RowsOf K) → AreEnded rows → Each (λ t k. agrees t path ≡ true → Q k) rows → seek 0 rows path ≡ Some e → Q e
  unfolding seek
  found Q e [] rows h g f = own-found Q e rows g f
  found Q e (b ∷ path) rows h g f =
      or-found Q e _ _
      (found Q e path (step b rows) (step-ended b rows h) (step-found Q b path rows h g))
      (slash-found Q e (own (step 256 rows)) (has_slash (b ∷ path)) (λ s. wild-found Q e b path rows s h g))
      (sym (seek-byte rows b path h) ∙ f)

  or-none : (a b : Option K) → or_else a (or_else b None) ≡ None → (a ≡ None) × (b ≡ None)
  or-none (Some k) b h = cc
  or-none None (Some k) h = cc
  or-none None None h = (refl, refl)

  abbrev pub Disagree : List ℕ → RowsOf K → Type 0
  Disagree path rows = Each (λ t k. agrees t path ≡ false) rows

  own-missing : (rows : RowsOf K) → own rows ≡ None → Disagree [] rows
  own-missing [] h = tt
  own-missing (([], k) ∷ rest) h = cc
  own-missing ((x ∷ t, k) ∷ rest) h = (refl, own-missing rest h)

  dropped : (P : List ℕ → K → Type 0) (t : List ℕ) (k : K) (rest : RowsOf K) (kept : Bool) → Each P (cond kept ((t, k) ∷ rest) rest) → (kept ≡ true → P t k) × Each P rest
  dropped P t k rest true h = (λ e. h.0, h.1)
  dropped P t k rest false h = (λ e. cc, h)

  -- a parameter that isn't found
  wild-missing : (t : List ℕ) (k : K) (rest : RowsOf K) (slash wild : Bool) → (wild ≡ true → nil t ≡ true) → cond slash None (own (cond wild ((t, k) ∷ rest) rest)) ≡ None → (wild ≡ true → slash ≡ true) × (cond slash None (own rest) ≡ None)
  wild-missing t k rest true wild n h = (λ e. refl, refl)
  wild-missing t k rest false false n h = (λ e. cc, h)
  wild-missing [] k rest false true n h = cc
  wild-missing (y ∷ t) k rest false true n h = let no = n refl in cc

  step-missing : (b : ℕ) (path : List ℕ) (rows : RowsOf K) → AreEnded rows → Disagree path (step b rows) → cond (has_slash (b ∷ path)) None (own (step 256 rows)) ≡ None → Disagree (b ∷ path) rows
  step-missing b path [] h d w = tt
  step-missing b path (([], k) ∷ rest) h d w = (refl, step-missing b path rest h.1 d w)
  step-missing b path ((x ∷ t, k) ∷ rest) h d w =
      let left = dropped (λ t k. agrees t path ≡ false) t k (step b rest) (x == b) d in
      let wild = wild-missing t k (step 256 rest) (has_slash (b ∷ path)) (x == 256) (λ e. wild-nil x t (eqb-true x 256 e) h.0) w in
      (head-missing x b t path (ltb x 256) (has_slash (b ∷ path)) h.0 left.0 wild.0, step-missing b path rest h.1 left.1 wild.1)

  -- where nothing is found, the path agrees with no row
  pub missing : (path : List ℕ) (rows : RowsOf K) → AreEnded rows → seek 0 rows path ≡ None → Disagree path rows
  unfolding seek
  missing [] rows h f = own-missing rows f
  missing (b ∷ path) rows h f =
      let parts = or-none _ _ (sym (seek-byte rows b path h) ∙ f) in
      step-missing b path rows h (missing path (step b rows) (step-ended b rows h) parts.0) parts.1
