-- Reading a phrase that an operator follows, and `true` in its place: looks at the first token, and steps.
use Rattle.std.proofs.Common.{◌≡◌, ℕ, zero, suc, ◌<◌, Bool, true, false, cond, List, [], ◌∷◌, ◌++◌, length, Option, Some, None, Ok, Err, ◌⊎◌, inl, inr, refl, sym, ap, subst, ◌∙◌, append_assoc, arith}
use Rattle.std.specs.Option.{option_map_or}
use Rattle.spectra_exprs.specs.declared.fault.SyntaxFault.TheVariants as faults
use Rattle.spectra_trees.specs.declared.class.Class.{Class}
use Rattle.spectra_trees.specs.declared.class.Class.TheVariants as classes
use Rattle.spectra_trees.specs.Classes.{place_of}
use Rattle.spectra_trees.specs.Lexemes.{Lexeme}
use Rattle.spectra_exprs.specs.Read.{Read, Reader, ◌>>=◌, grow, all_of}
use Rattle.spectra_exprs.proofs.ClassSets.{among, Within, same_going}
use Rattle.spectra_exprs.proofs.WholeExpressions.{b_expr}
use Rattle.spectra_exprs.proofs.Stopping.{OfHead}
use Rattle.spectra_exprs.proofs.StoppingSteps.{Looked, StableLook, Uses}
use Rattle.spectra_exprs.proofs.Shapes.{within_one}
use Rattle.spectra_exprs.proofs.Comparing.{Fresh, fresh_behind, Pair, said, instead, Compared, Tells, Blocks, blocks_off, number_apart, true_begins}

module _ (p : Pair) where
  -- ---- a look at the first token

  module _ {X A : Type 0} {F : List Class} {before : X → Option Lexeme} {look : List Lexeme → Option (X × List Lexeme)} (l : StableLook before look) {R : X → Reader A} {S : Reader A} (r : (x : X) → Tells p F (R x)) (s : Tells p F S) (one : look (said p) ≡ None) (two : look (instead p) ≡ None) where
    seen : (t : Lexeme) (front : List Lexeme) → Fresh p.operator (t ∷ front) → (x : X) (rest : List Lexeme) → look (t ∷ (front ++ said p)) ≡ Some (x, rest) → Looked before look (t ∷ (front ++ said p)) x rest
        → Compared p F (t ∷ front) (option_map_or (λ o. R o.0 o.1) (look (t ∷ (front ++ said p))) (S (t ∷ (front ++ said p)))) (option_map_or (λ o. R o.0 o.1) (look (t ∷ (front ++ instead p))) (S (t ∷ (front ++ instead p))))
    seen t front fresh x rest is k =
        let same : t ≡ k.token = first_same t k.token (front ++ said p) rest k.front in
        let again : (more : List Lexeme) → look (t ∷ more) ≡ Some (x, more) = λ more. ap (λ (u : Lexeme). look (u ∷ more)) same ∙ k.again more in
        let e = again (front ++ said p) in
        let g = again (front ++ instead p) in
        rw (e, g) (one_more t front (R x (front ++ said p)) (R x (front ++ instead p)) ((r x).tells front fresh.1))
      where
        first_same : (t u : Lexeme) (ts us : List Lexeme) → t ∷ ts ≡ u ∷ us → t ≡ u
        first_same t u ts us e = cc

        one_more : (t : Lexeme) (front : List Lexeme) (one two : Read A) → Compared p F front one two → Compared p F (t ∷ front) one two
        one_more t front one two (Compared.both used left a parts e g) = Compared.both (t ∷ used) left a (ap (λ (m : List Lexeme). t ∷ m) parts) e g
        one_more t front one two (Compared.refuses g) = Compared.refuses g
        one_more t front one two (Compared.elsewhere f e other) = Compared.elsewhere f e other
        one_more t front one two (Compared.waits a g on) = Compared.waits a g on
        one_more t front one two (Compared.behind a u w e on other) = Compared.behind a u w e on other

    by_look : (o : Option (X × List Lexeme)) (t : Lexeme) (front : List Lexeme) → Fresh p.operator (t ∷ front) → look (t ∷ (front ++ said p)) ≡ o
        → Compared p F (t ∷ front) (option_map_or (λ o. R o.0 o.1) (look (t ∷ (front ++ said p))) (S (t ∷ (front ++ said p)))) (option_map_or (λ o. R o.0 o.1) (look (t ∷ (front ++ instead p))) (S (t ∷ (front ++ instead p))))
    by_look (Some x) t front fresh is = seen t front fresh x.0 x.1 is (l.found (t ∷ (front ++ said p)) x.0 x.1 is)
    by_look None t front fresh is =
        let g = l.passes (t ∷ (front ++ said p)) (t ∷ (front ++ instead p)) (front ++ instead p, refl) is in
        rw (is, g) (s.tells (t ∷ front) fresh)

    look_at : (front : List Lexeme) → Fresh p.operator front → Compared p F front (option_map_or (λ o. R o.0 o.1) (look (front ++ said p)) (S (front ++ said p))) (option_map_or (λ o. R o.0 o.1) (look (front ++ instead p)) (S (front ++ instead p)))
    look_at [] fresh = rw (one, two) (s.tells [] tt)
    look_at (t ∷ front) fresh = by_look (look (t ∷ (front ++ said p))) t front fresh refl

    pub tells_look : Tells p F (λ ts. option_map_or (λ o. R o.0 o.1) (look ts) (S ts))
    tells_look = record { tells = look_at }

  -- ---- step after step

  module _ {A : Type 0} {G F : List Class} {test : List Lexeme → Bool} (head : OfHead test) {step : A → Reader A} (eats : (a : A) → Uses (step a)) (each : (a : A) → Tells p G (step a))
      (stands : (n : ℕ) (a : A) → Blocks G F (grow test step (suc n) a)) (nothing : (n m : ℕ) (a : A) → Compared p F [] (grow test step (suc n) a (said p)) (grow test step (suc m) a (instead p))) where
    abbrev Further : ℕ → Type 0
    Further n = (m : ℕ) (front : List Lexeme) (a : A) → Fresh p.operator front → length (front ++ said p) < n → length (front ++ instead p) < m → Compared p F front (grow test step n a (front ++ said p)) (grow test step m a (front ++ instead p))

    more_used : (front used left : List Lexeme) → front ≡ used ++ left → (one two : Read A) → Compared p F left one two → Compared p F front one two
    more_used front used left parts one two (Compared.both used2 left2 b parts2 e g) = Compared.both (used ++ used2) left2 b (parts ∙ ap (λ (m : List Lexeme). used ++ m) parts2 ∙ sym (append_assoc used used2 left2)) e g
    more_used front used left parts one two (Compared.refuses g) = Compared.refuses g
    more_used front used left parts one two (Compared.elsewhere f e other) = Compared.elsewhere f e other
    more_used front used left parts one two (Compared.waits a g on) = Compared.waits a g on
    more_used front used left parts one two (Compared.behind a u w e on other) = Compared.behind a u w e on other

    stands_at : (front : List Lexeme) (one : Read A) (m : ℕ) (a : A) → 0 < m → among G (place_of p.word.class) ≡ true → Compared p F front one (grow test step m a (instead p))
    stands_at front one zero a some on = absurd (omega arith)
    stands_at front one (suc m) a some on = by ((stands m a).blocks p.word p.more on)
      where
        by : (grow test step (suc m) a (instead p) ≡ Err (faults.Unexpected p.word.number)) ⊎ ((b : A) × (grow test step (suc m) a (instead p) ≡ Ok (b, instead p)) × (among F (place_of p.word.class) ≡ true)) → Compared p F front one (grow test step (suc m) a (instead p))
        by (inl e) = Compared.refuses e
        by (inr e) = Compared.waits e.0 e.1 e.2

    stands_behind : (front : List Lexeme) (two : Read A) (n : ℕ) (a : A) (u : Lexeme) (w : List Lexeme) → 0 < n → among G (place_of u.class) ≡ true → (u.number ≡ p.operator.number → ⊥) → Compared p F front (grow test step n a (u ∷ w)) two
    stands_behind front two zero a u w some on other = absurd (omega arith)
    stands_behind front two (suc n) a u w some on other = by ((stands n a).blocks u w on)
      where
        by : (grow test step (suc n) a (u ∷ w) ≡ Err (faults.Unexpected u.number)) ⊎ ((b : A) × (grow test step (suc n) a (u ∷ w) ≡ Ok (b, u ∷ w)) × (among F (place_of u.class) ≡ true)) → Compared p F front (grow test step (suc n) a (u ∷ w)) two
        by (inl e) = Compared.elsewhere (faults.Unexpected u.number) e (number_apart u.number p.operator.number other)
        by (inr e) = Compared.behind e.0 u w e.1 e.2 other

    -- a step, and what is further read
    stepped : (n m : ℕ) (further : Further n) (front : List Lexeme) (a : A) → Fresh p.operator front → length (front ++ said p) < suc n → length (front ++ instead p) < suc m → (one two : Read A) → step a (front ++ said p) ≡ one → step a (front ++ instead p) ≡ two → Compared p G front one two
        → Compared p F front (one >>= λ b rest. grow test step n b rest) (two >>= λ b rest. grow test step m b rest)
    stepped n m further front a fresh room space one two se sg (Compared.both used left b parts e g) =
        let shorter = (eats a).shorter (front ++ said p) b (left ++ said p) (se ∙ e) in
        let smaller = (eats a).shorter (front ++ instead p) b (left ++ instead p) (sg ∙ g) in
        rw (e, g) (more_used front used left parts (grow test step n b (left ++ said p)) (grow test step m b (left ++ instead p))
        (further m left b (fresh_behind p.operator used left (subst (λ (x : List Lexeme). Fresh p.operator x) parts fresh)) (omega (arith, shorter, room)) (omega (arith, smaller, space))))
    stepped n m further front a fresh room space one two se sg (Compared.refuses g) = Compared.refuses (rw g refl)
    stepped n m further front a fresh room space one two se sg (Compared.elsewhere f e other) = Compared.elsewhere f (rw e refl) other
    stepped n m further front a fresh room space one two se sg (Compared.waits b g on) =
        let smaller = (eats a).shorter (front ++ instead p) b (instead p) (sg ∙ g) in
        rw g (stands_at front (one >>= λ b rest. grow test step n b rest) m b (omega (arith, smaller, space)) on)
    stepped n m further front a fresh room space one two se sg (Compared.behind b u w e on other) =
        let shorter = (eats a).shorter (front ++ said p) b (u ∷ w) (se ∙ e) in
        rw e (stands_behind front (two >>= λ b rest. grow test step m b rest) n b u w (omega (arith, shorter, room)) on other)

    turned : (n m : ℕ) (further : Further n) (c : Bool) (t : Lexeme) (front : List Lexeme) (a : A) → Fresh p.operator (t ∷ front) → length (t ∷ (front ++ said p)) < suc n → length (t ∷ (front ++ instead p)) < suc m → test (t ∷ (front ++ said p)) ≡ c → test (t ∷ (front ++ instead p)) ≡ c
        → Compared p F (t ∷ front) (cond (test (t ∷ (front ++ said p))) (step a (t ∷ (front ++ said p)) >>= λ b rest. grow test step n b rest) (Ok (a, t ∷ (front ++ said p))))
        (cond (test (t ∷ (front ++ instead p))) (step a (t ∷ (front ++ instead p)) >>= λ b rest. grow test step m b rest) (Ok (a, t ∷ (front ++ instead p))))
    turned n m further true t front a fresh room space e g =
        rw (e, g) (stepped n m further (t ∷ front) a fresh room space (step a (t ∷ (front ++ said p))) (step a (t ∷ (front ++ instead p))) refl refl ((each a).tells (t ∷ front) fresh))
    turned n m further false t front a fresh room space e g = rw (e, g) (Compared.both [] (t ∷ front) a refl refl refl)

    loops : (n : ℕ) → Further n
    unfolding grow
    loops zero m front a fresh room space = absurd (omega arith)
    loops (suc n) zero front a fresh room space = absurd (omega arith)
    loops (suc n) (suc m) [] a fresh room space = nothing n m a
    loops (suc n) (suc m) (t ∷ front) a fresh room space = turned n m (loops n) (test (t ∷ (front ++ said p))) t front a fresh room space refl (head.same (t ∷ (front ++ instead p)) (t ∷ (front ++ said p)) (front ++ said p, refl))

    pub tells_loop : (a : A) → Tells p F (λ ts. all_of test step a ts)
    tells_loop a = record { tells = λ front fresh. loops (suc (length (front ++ said p))) (suc (length (front ++ instead p))) front a fresh (omega arith) (omega arith) }

  -- the word is refused by the loop, or waits
  pub nothing_by : {A : Type 0} {F : List Class} (test : List Lexeme → Bool) (step : A → Reader A) → ((n : ℕ) (a : A) → Blocks (classes.True ∷ []) F (grow test step (suc n) a)) → (n m : ℕ) (a : A) → Compared p F [] (grow test step (suc n) a (said p)) (grow test step (suc m) a (instead p))
  nothing_by {A = A} {F = F} test step b n m a = by ((b m a).blocks p.word p.more (same_going classes.True p.word [] p.says))
    where
      by : (grow test step (suc m) a (instead p) ≡ Err (faults.Unexpected p.word.number)) ⊎ ((c : A) × (grow test step (suc m) a (instead p) ≡ Ok (c, instead p)) × (among F (place_of p.word.class) ≡ true)) → Compared p F [] (grow test step (suc n) a (said p)) (grow test step (suc m) a (instead p))
      by (inl e) = Compared.refuses e
      by (inr e) = Compared.waits e.0 e.1 e.2

  -- steps that begin with a class with which no phrase begins
  pub tells_steps : {A : Type 0} (F : List Class) (test : List Lexeme → Bool) {step : A → Reader A} → OfHead test → ((t : Lexeme) (ts : List Lexeme) → among F (place_of t.class) ≡ true → test (t ∷ ts) ≡ false) → ((t : Lexeme) (ts : List Lexeme) → among b_expr (place_of t.class) ≡ true → test (t ∷ ts) ≡ false)
      → Within F F → ((a : A) → Uses (step a)) → ((a : A) → Tells p F (step a)) → (a : A) → Tells p F (λ ts. all_of test step a ts)
  unfolding grow
  tells_steps {A = A} F test {step = step} head off none same eats each a = tells_loop head eats each (λ n b. blocks_off test step off same (suc n) b) nothing a
    where
      nothing : (n m : ℕ) (b : A) → Compared p F [] (grow test step (suc n) b (said p)) (grow test step (suc m) b (instead p))
      nothing n m b =
          let one : test (said p) ≡ false = subst (λ (ts : List Lexeme). test (ts ++ p.operator ∷ []) ≡ false) (sym p.parts) (none p.head (p.tail ++ p.operator ∷ []) p.begins) in
          let two : test (instead p) ≡ false = none p.word p.more (within_one (classes.True ∷ []) b_expr (true_begins p) p.word (same_going classes.True p.word [] p.says)) in
          rw (one, two) (Compared.both [] [] b refl refl refl)
