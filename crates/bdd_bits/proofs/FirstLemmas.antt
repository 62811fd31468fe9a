-- The first bits, settled one after the other.
use Rattle.std.proofs.Common.{◌≡◌, ◌≢◌, ◌<◌, ◌≤◌, ◌+◌, ◌⊎◌, inl, inr, ℕ, zero, suc, Bool, true, false, Option, Some, None, List, length, set, get_or-set_same, get_or-set_other, refl, sym, ◌∙◌, ap, subst, arith}
use Rattle.std.proofs.lemmas.Bool.{false≢true}
use Rattle.spec_model.specs.Diagrams.{Bits, Function}
use Rattle.bdd_ops.specs.Paths.{AgreesAt, Agrees, fixed_at, NotAfter, HasNone, IsFirst}
use Rattle.bdd_bits.specs.Settling.{IsSome, IsSettledAt, AreSettled}

bit_is : (b : Bool) → (b ≡ true) ⊎ (b ≡ false)
bit_is true = inl refl
bit_is false = inr refl

order_of : (j k : ℕ) → (j < k) ⊎ ((j ≡ k) ⊎ (k < j))
order_of j k = grind arith

-- ---- what bits come first

-- bits with the same beginning are not after the same ones
pub not_after_same : (count level : ℕ) (u u' v : Bits) → ((j : ℕ) → level ≤ j → j < level + count → u j ≡ u' j) → NotAfter count level u v → NotAfter count level u' v
not_after_same zero level u u' v same before = tt
not_after_same (suc count) level u u' v same (inl apart) = inl (sym (same level (omega arith) (omega arith)) ∙ apart.0, apart.1)
not_after_same (suc count) level u u' v same (inr rest) =
    inr (sym (same level (omega arith) (omega arith)) ∙ rest.0, not_after_same count (suc level) u u' v (λ j from below. same j (omega (arith, from)) (omega (arith, below))) rest.1)

-- one bit more
pub not_after_more : (count level : ℕ) (u v : Bits) → NotAfter count level u v → (((j : ℕ) → level ≤ j → j < level + count → u j ≡ v j) → ((u (level + count) ≡ false) × (v (level + count) ≡ true)) ⊎ (u (level + count) ≡ v (level + count))) → NotAfter (suc count) level u v
not_after_more zero level u v before here =
    let same : level + 0 ≡ level = omega arith in
    by_cases (subst (λ (n : ℕ). ((u n ≡ false) × (v n ≡ true)) ⊎ (u n ≡ v n)) same (here (λ j from below. absurd (omega (arith, from, below)))))
  where
    by_cases : ((u level ≡ false) × (v level ≡ true)) ⊎ (u level ≡ v level) → NotAfter 1 level u v
    by_cases (inl apart) = inl apart
    by_cases (inr equal) = inr (equal, tt)
not_after_more (suc count) level u v (inl apart) here = inl apart
not_after_more (suc count) level u v (inr rest) here =
    let next : level + suc count ≡ suc level + count = omega arith in
    inr (
      rest.0,
      not_after_more count (suc level) u v rest.1 (λ equal.
          subst (λ (n : ℕ). ((u n ≡ false) × (v n ≡ true)) ⊎ (u n ≡ v n)) next (here (λ j from below. from_here j (order_of level j) from below equal))),
    )
  where
    from_here : (j : ℕ) → (level < j) ⊎ ((level ≡ j) ⊎ (j < level)) → level ≤ j → j < level + suc count → ((i : ℕ) → suc level ≤ i → i < suc level + count → u i ≡ v i) → u j ≡ v j
    from_here j (inl later) from below equal = equal j (omega (arith, later)) (omega (arith, below))
    from_here j (inr (inl same)) from below equal = subst (λ (n : ℕ). u n ≡ v n) same rest.0
    from_here j (inr (inr earlier)) from below equal = absurd (omega (arith, earlier, from))

-- ---- a bit that is fixed

pub fixed_there : (fixed : List (Option Bool)) (bit : ℕ) (o : Option Bool) → bit < length fixed → fixed_at (set fixed bit o) bit ≡ o
fixed_there fixed bit o below = get_or-set_same fixed bit o None below

pub fixed_elsewhere : (fixed : List (Option Bool)) (bit j : ℕ) (o : Option Bool) → j ≢ bit → fixed_at (set fixed bit o) j ≡ fixed_at fixed j
fixed_elsewhere fixed bit j o other = get_or-set_other fixed bit j o None other

-- bits that have it agree
pub agrees_with : (fixed : List (Option Bool)) (bit : ℕ) (b : Bool) (t : Bits) → bit < length fixed → Agrees fixed 0 t → t bit ≡ b → Agrees (set fixed bit (Some b)) 0 t
agrees_with fixed bit b t below agrees here j from = by_cases (order_of j bit)
  where
    elsewhere : j ≢ bit → AgreesAt (fixed_at (set fixed bit (Some b)) j) (t j)
    elsewhere other = subst (λ (o : Option Bool). AgreesAt o (t j)) (sym (fixed_elsewhere fixed bit j (Some b) other)) (agrees j from)

    by_cases : (j < bit) ⊎ ((j ≡ bit) ⊎ (bit < j)) → AgreesAt (fixed_at (set fixed bit (Some b)) j) (t j)
    by_cases (inl before) = elsewhere (λ e. absurd (omega (arith, before, e)))
    by_cases (inr (inl same)) = subst (λ (n : ℕ). AgreesAt (fixed_at (set fixed bit (Some b)) n) (t n)) (sym same) (subst (λ (o : Option Bool). AgreesAt o (t bit)) (sym (fixed_there fixed bit (Some b) below)) here)
    by_cases (inr (inr after)) = elsewhere (λ e. absurd (omega (arith, after, e)))

-- an agreeing bit is the fixed one
pub is_fixed : (fixed : List (Option Bool)) (bit : ℕ) (b : Bool) (t : Bits) → Agrees fixed 0 t → fixed_at fixed bit ≡ Some b → t bit ≡ b
is_fixed fixed bit b t agrees is = subst (λ (o : Option Bool). AgreesAt o (t bit)) is (agrees bit (omega arith))

-- ---- one bit is settled

module _ (f : Function) (settled : List (Option Bool)) (bit : ℕ) (u : Bits) (some : IsSome settled f u) where
  -- it was fixed
  pub settled_before : (b : Bool) → fixed_at settled bit ≡ Some b → IsSettledAt f bit settled settled u
  settled_before b is =
      record {
        some = some;
        here = is ∙ ap (λ (c : Bool). Some c) (sym (is_fixed settled bit b u some.agrees is));
        others = λ j other. refl;
        kept = λ c fixed. is_fixed settled bit c u some.agrees fixed;
        least = λ none high. (let no : Some b ≡ None = sym is ∙ none in cc (no));
      }

  -- it is false already
  pub settled_low : bit < length settled → fixed_at settled bit ≡ None → u bit ≡ false → IsSettledAt f bit settled (set settled bit (Some false)) u
  settled_low below none low =
      record {
        some = record { agrees = agrees_with settled bit false u below some.agrees low; true_there = some.true_there };
        here = fixed_there settled bit (Some false) below ∙ ap (λ (c : Bool). Some c) (sym low);
        others = λ j other. fixed_elsewhere settled bit j (Some false) other;
        kept = λ c fixed. (let no : Some c ≡ None = sym fixed ∙ none in cc (no));
        least = λ is high. absurd (false≢true (sym low ∙ high));
      }

  -- others have it false
  pub settled_lower : (v : Bits) → bit < length settled → fixed_at settled bit ≡ None → IsSome (set settled bit (Some false)) f v → IsSettledAt f bit settled (set settled bit (Some false)) v
  settled_lower v below none found =
      let low : v bit ≡ false = is_fixed (set settled bit (Some false)) bit false v found.agrees (fixed_there settled bit (Some false) below) in
      record {
        some = found;
        here = fixed_there settled bit (Some false) below ∙ ap (λ (c : Bool). Some c) (sym low);
        others = λ j other. fixed_elsewhere settled bit j (Some false) other;
        kept = λ c fixed. (let no : Some c ≡ None = sym fixed ∙ none in cc (no));
        least = λ is high. absurd (false≢true (sym low ∙ high));
      }

  -- none have
  pub settled_high : (lower new : List (Option Bool)) → bit < length settled → fixed_at settled bit ≡ None → u bit ≡ true → lower ≡ set settled bit (Some false) → new ≡ set lower bit (Some true) → length lower ≡ length settled → HasNone lower f 0 → IsSettledAt f bit settled new u
  settled_high lower new below none high is_lower is_new long nothing =
      let there : fixed_at new bit ≡ Some true = ap (λ (l : List (Option Bool)). fixed_at l bit) is_new ∙ fixed_there lower bit (Some true) (omega (arith, below, long)) in
      let elsewhere : (j : ℕ) → j ≢ bit → fixed_at new j ≡ fixed_at settled j = λ j other.
      ap (λ (l : List (Option Bool)). fixed_at l j) is_new ∙ (fixed_elsewhere lower bit j (Some true) other ∙ (ap (λ (l : List (Option Bool)). fixed_at l j) is_lower ∙ fixed_elsewhere settled bit j (Some false) other)) in
      record {
        some = record { agrees = λ j from. agrees_new there elsewhere j from (order_of j bit); true_there = some.true_there };
        here = there ∙ ap (λ (c : Bool). Some c) (sym high);
        others = elsewhere;
        kept = λ c fixed. (let no : Some c ≡ None = sym fixed ∙ none in cc (no));
        least = λ is set_high t agrees makes. by_bit t agrees makes (bit_is (t bit));
      }
    where
      agrees_new : fixed_at new bit ≡ Some true → ((j : ℕ) → j ≢ bit → fixed_at new j ≡ fixed_at settled j) → (j : ℕ) → 0 ≤ j → (j < bit) ⊎ ((j ≡ bit) ⊎ (bit < j)) → AgreesAt (fixed_at new j) (u j)
      agrees_new there elsewhere j from (inl before) = subst (λ (o : Option Bool). AgreesAt o (u j)) (sym (elsewhere j (λ e. absurd (omega (arith, before, e))))) (some.agrees j from)
      agrees_new there elsewhere j from (inr (inl same)) = subst (λ (n : ℕ). AgreesAt (fixed_at new n) (u n)) (sym same) (subst (λ (o : Option Bool). AgreesAt o (u bit)) (sym there) high)
      agrees_new there elsewhere j from (inr (inr after)) = subst (λ (o : Option Bool). AgreesAt o (u j)) (sym (elsewhere j (λ e. absurd (omega (arith, after, e))))) (some.agrees j from)

      by_bit : (t : Bits) → Agrees settled 0 t → f t ≡ true → (t bit ≡ true) ⊎ (t bit ≡ false) → t bit ≡ true
      by_bit t agrees makes (inl is) = is
      by_bit t agrees makes (inr low) = absurd (nothing t (subst (λ (l : List (Option Bool)). Agrees l 0 t) (sym is_lower) (agrees_with settled bit false t below agrees low)) makes)

-- ---- one after the other

-- none is settled yet
pub none_settled : (f : Function) (fixed settled : List (Option Bool)) (u : Bits) → settled ≡ fixed → IsSome fixed f u → AreSettled f fixed 0 settled u
none_settled f fixed settled u is some =
    record {
      some = subst (λ (l : List (Option Bool)). IsSome l f u) (sym is) some;
      agrees = some.agrees;
      done = λ j below. absurd (omega (arith, below));
      rest = λ j from. ap (λ (l : List (Option Bool)). fixed_at l j) is;
      first = λ t agrees makes. tt;
    }

module _ (f : Function) (fixed settled new : List (Option Bool)) (bit : ℕ) (u v : Bits) (before : AreSettled f fixed bit settled u) (here : IsSettledAt f bit settled new v) where
  same_before : (j : ℕ) → j < bit → u j ≡ v j
  same_before j below =
      sym (is_fixed new j (u j) v here.some.agrees (here.others j (λ e. absurd (omega (arith, below, e))) ∙ before.done j below))

  -- bits that begin alike, and have it otherwise, come after
  next_bit : (t : Bits) → Agrees fixed 0 t → f t ≡ true → ((j : ℕ) → j < bit → v j ≡ t j) → (o : Option Bool) → fixed_at settled bit ≡ o → ((v bit ≡ false) × (t bit ≡ true)) ⊎ (v bit ≡ t bit)
  next_bit t agrees makes alike (Some b) is = inr (here.kept b is ∙ sym (is_fixed fixed bit b t agrees (sym (before.rest bit (omega arith)) ∙ is)))
  next_bit t agrees makes alike None is = by_bits (bit_is (v bit)) (bit_is (t bit))
    where
      still : Agrees settled 0 t
      still j from = by_cases (order_of j bit)
        where
          rest_of : bit ≤ j → AgreesAt (fixed_at settled j) (t j)
          rest_of later = subst (λ (o : Option Bool). AgreesAt o (t j)) (sym (before.rest j later)) (agrees j from)

          by_cases : (j < bit) ⊎ ((j ≡ bit) ⊎ (bit < j)) → AgreesAt (fixed_at settled j) (t j)
          by_cases (inl below) = subst (λ (o : Option Bool). AgreesAt o (t j)) (sym (before.done j below)) (sym (alike j below) ∙ sym (same_before j below))
          by_cases (inr (inl same)) = rest_of (omega (arith, same))
          by_cases (inr (inr after)) = rest_of (omega (arith, after))

      by_bits : (v bit ≡ true) ⊎ (v bit ≡ false) → (t bit ≡ true) ⊎ (t bit ≡ false) → ((v bit ≡ false) × (t bit ≡ true)) ⊎ (v bit ≡ t bit)
      by_bits (inl high) other = inr (high ∙ sym (here.least is high t still makes))
      by_bits (inr low) (inl high) = inl (low, high)
      by_bits (inr low) (inr both) = inr (low ∙ sym both)

  pub settled_more : AreSettled f fixed (bit + 1) new v
  settled_more =
      record {
        some = here.some;
        agrees = λ j from. agrees_there j (order_of j bit);
        done = λ j below. done_there j (order_of j bit) below;
        rest = λ j from. here.others j (λ e. absurd (omega (arith, from, e))) ∙ before.rest j (omega (arith, from));
        first = λ t agrees makes.
            let less = not_after_same bit 0 u v t (λ j from below. same_before j (omega (arith, below))) (before.first t agrees makes) in
            let next : bit + 1 ≡ suc bit = omega arith in
            let zero_more : 0 + bit ≡ bit = omega arith in
            subst (λ (n : ℕ). NotAfter n 0 v t) (sym next) (not_after_more bit 0 v t less (λ alike.
            subst (λ (n : ℕ). ((v n ≡ false) × (t n ≡ true)) ⊎ (v n ≡ t n)) (sym zero_more)
            (next_bit t agrees makes (λ j below. alike j (omega arith) (omega (arith, below))) (fixed_at settled bit) refl)));
      }
    where
      agrees_here : (o : Option Bool) → fixed_at fixed bit ≡ o → AgreesAt o (v bit)
      agrees_here (Some b) is = here.kept b (before.rest bit (omega arith) ∙ is)
      agrees_here None is = tt

      agrees_there : (j : ℕ) → (j < bit) ⊎ ((j ≡ bit) ⊎ (bit < j)) → AgreesAt (fixed_at fixed j) (v j)
      agrees_there j (inl earlier) = subst (AgreesAt (fixed_at fixed j)) (same_before j earlier) (before.agrees j (omega arith))
      agrees_there j (inr (inl same)) = subst (λ (n : ℕ). AgreesAt (fixed_at fixed n) (v n)) (sym same) (agrees_here (fixed_at fixed bit) refl)
      agrees_there j (inr (inr after)) =
          subst (λ (o : Option Bool). AgreesAt o (v j)) (here.others j (λ e. absurd (omega (arith, after, e))) ∙ before.rest j (omega (arith, after))) (here.some.agrees j (omega arith))

      done_there : (j : ℕ) → (j < bit) ⊎ ((j ≡ bit) ⊎ (bit < j)) → j < bit + 1 → fixed_at new j ≡ Some (v j)
      done_there j (inl earlier) below = here.others j (λ e. absurd (omega (arith, earlier, e))) ∙ (before.done j earlier ∙ ap (λ (c : Bool). Some c) (same_before j earlier))
      done_there j (inr (inl same)) below = subst (λ (n : ℕ). fixed_at new n ≡ Some (v n)) (sym same) here.here
      done_there j (inr (inr after)) below = absurd (omega (arith, after, below))

-- where all are settled they are the first
pub all_settled : (f : Function) (fixed settled : List (Option Bool)) (count : ℕ) (u : Bits) → AreSettled f fixed count settled u → IsFirst fixed f 0 count u
all_settled f fixed settled count u all = record { agrees = all.agrees; true_there = all.some.true_there; first = all.first }
