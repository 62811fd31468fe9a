-- Lists of the levels of next bits, slot by slot.
use Rattle.std.proofs.Common.{◌≡◌, ℕ, zero, suc, ◌+◌, ◌-◌, ◌*◌, ◌==◌, ◌<◌, ◌≤◌, ◌⊎◌, nat_le, nat_lt, Bool, true, false, not, ◌&&◌, ◌||◌, Vec, Result, Ok, Err, IfOk, List, [], ◌∷◌, ◌++◌, length, length-append, take, get_or, refl, sym, ◌∙◌, ap, subst, arith, inl, inr}
use Rattle.std.proofs.lemmas.Bool.{and_parts, or_cases, or_left, or_right, false≢true}
use borrow.Author.Tests.{ltb-true, eqb-true, eq-eqb}
use Rattle.std.specs.declared.alloc.Global.{Global}
use Rattle.std.specs.declared.alloc.AllocError.{AllocError}
use Rattle.spec_model.specs.Values.{DomainData}
use Rattle.spec_model.specs.Moves.{is_env, domains_of}
use Rattle.spec_model.specs.Games.{GameData}
use Rattle.game_values.specs.declared.seen.At.{At}
use Rattle.game_values.specs.declared.seen.At.TheVariants.{Now, Next}
use Rattle.bdd_ops.specs.Functions.{is_among}
use Rattle.bit_compile.specs.Domains.{state_domains, level_count}
use Rattle.bit_compile.specs.Codes.{level_at, width_at}
use Rattle.bit_compile.specs.Laid.{IsOutside}
use Rattle.bit_compile.specs.CompileLaws.{IsBitOf}
use Rattle.bit_compile.specs.Proper.{levels_from}
use Rattle.bit_compile.proofs.SlotLemmas.{slot_before, earlier_before, others_outside}
use Rattle.bit_compile.proofs.CyclesLemmas.{take_all}
use Rattle.bit_compile.proofs.Places.{get-after, get-before}
use Rattle.bdd_sets.specs.MoveBits.{AreNextOf, LeadsToNext, is_any_slot, is_reply_slot}
use Rattle.bdd_sets.specs.Levels.{HasNextBits, LeadsOn, is_elsewhere}

-- ---- levels in a row

pub length-levels : (l n : ℕ) → length (levels_from l n) ≡ n
length-levels l zero = refl
length-levels l (suc n) = ap suc (length-levels (suc l) n)

pub levels-push : (l n : ℕ) → levels_from l n ++ (l + n) ∷ [] ≡ levels_from l (suc n)
levels-push l zero = ap (λ m. m ∷ []) (omega arith)
levels-push l (suc n) =
    let place : l + suc n ≡ suc l + n = omega arith in
    ap (λ ms. l ∷ ms) (ap (λ m. levels_from (suc l) n ++ m ∷ []) place ∙ levels-push (suc l) n)

-- one level more
pub levels_more : (list items new : List ℕ) (first level : ℕ) → first ≤ level → items ≡ list ++ levels_from first (level - first) → new ≡ items ++ level ∷ [] → new ≡ list ++ levels_from first (level + 1 - first)
levels_more list items new first level low is pushed =
    let n = level - first in
    let place : first + n ≡ level = omega (arith, low) in
    let more : suc n ≡ level + 1 - first = omega (arith, low) in
    pushed ∙ (ap (λ ms. ms ++ level ∷ []) is ∙ (append-assoc list (levels_from first n) (level ∷ [])
    ∙ ap (λ ms. list ++ ms) (ap (λ m. levels_from first n ++ m ∷ []) (sym place) ∙ (levels-push first n ∙ ap (levels_from first) more))))
  where
    append-assoc : (xs ys zs : List ℕ) → (xs ++ ys) ++ zs ≡ xs ++ (ys ++ zs)
    append-assoc [] ys zs = refl
    append-assoc (x ∷ xs) ys zs = ap (λ ms. x ∷ ms) (append-assoc xs ys zs)

pub no_level : (list : List ℕ) (first : ℕ) → list ≡ list ++ levels_from first (first - first)
no_level list first = let none : 0 ≡ first - first = omega arith in append-nil list ∙ ap (λ n. list ++ levels_from first n) none
  where
    append-nil : (xs : List ℕ) → xs ≡ xs ++ []
    append-nil [] = refl
    append-nil (x ∷ xs) = ap (λ ms. x ∷ ms) (append-nil xs)

get-level : (l n j d : ℕ) → j < n → get_or (levels_from l n) j d ≡ l + j
get-level l zero j d less = absurd (omega arith)
get-level l (suc n) zero d less = omega arith
get-level l (suc n) (suc j) d less = let rest = get-level (suc l) n j d (omega arith) in omega (arith, rest)

among_levels : (l n m : ℕ) → l ≤ m → m < l + n → is_among m (levels_from l n) ≡ true
among_levels l zero m low high = absurd (omega (arith, low, high))
among_levels l (suc n) m low high =
    let order : (m ≡ l) ⊎ (l < m) = grind arith in
    elim order [
      | inl same ↦ or_left _ _ (eq-eqb m l same)
      | inr more ↦ or_right _ _ (among_levels (suc l) n m (omega arith) (omega (arith, high)))
    ]

levels_among : (l n m : ℕ) → is_among m (levels_from l n) ≡ true → (l ≤ m) × (m < l + n)
levels_among l zero m e = absurd (false≢true e)
levels_among l (suc n) m e =
    elim (or_cases (m == l) (is_among m (levels_from (suc l) n)) e) [
      | inl is ↦ (let same = eqb-true m l is in (omega (arith, same), omega (arith, same)))
      | inr later ↦ (let inside = levels_among (suc l) n m later in (let low = inside.0 in omega (arith, low), let high = inside.1 in omega (arith, high)))
    ]

or_assoc : (a b c : Bool) → (a || (b || c)) ≡ ((a || b) || c)
or_assoc true b c = refl
or_assoc false b c = refl

among-append : (m : ℕ) (xs ys : List ℕ) → is_among m (xs ++ ys) ≡ (is_among m xs || is_among m ys)
among-append m [] ys = refl
among-append m (x ∷ xs) ys = ap (λ b. (m == x) || b) (among-append m xs ys) ∙ or_assoc (m == x) (is_among m xs) (is_among m ys)

-- ---- slot by slot

pub no_slots : (ds : List DomainData) (test : ℕ → Bool) (levels : List ℕ) → levels ≡ [] → HasNextBits ds test 0 levels
no_slots ds test levels none =
    record {
      has = λ k m less pass bit. absurd (omega arith);
      only = λ m among. absurd (false≢true (ap (is_among m) (sym none) ∙ among));
    }

module _ (ds : List DomainData) (test : ℕ → Bool) (n : ℕ) (levels : List ℕ) (so_far : HasNextBits ds test n levels) where
  last_or : (k : ℕ) → k < n + 1 → (k < n) ⊎ (k ≡ n)
  last_or k less = grind arith

  -- the slot's next bits come in
  pub slot_in : (new : List ℕ) → test n ≡ true → new ≡ levels ++ levels_from (level_at ds Next n) (width_at ds n) → HasNextBits ds test (n + 1) new
  slot_in new pass is =
      record {
        has = λ k m less passes bit. split m ∙ (elim (last_or k less) [
          | inl before ↦ or_left _ _ (so_far.has k m before passes bit)
          | inr last ↦ or_right _ _ (here m (subst (λ j. IsBitOf ds Next j m) last bit))
        ]);
        only = λ m among. elim (or_cases _ _ (sym (split m) ∙ among)) [
          | inl before ↦ (let found = so_far.only m before in (found.0, (let less = found.1 in omega (arith, less)), found.2, found.3))
          | inr last ↦ (n, omega arith, pass, levels_among (level_at ds Next n) (width_at ds n) m last)
        ];
      }
    where
      split : (m : ℕ) → is_among m new ≡ (is_among m levels || is_among m (levels_from (level_at ds Next n) (width_at ds n)))
      split m = ap (is_among m) is ∙ among-append m levels (levels_from (level_at ds Next n) (width_at ds n))

      here : (m : ℕ) → IsBitOf ds Next n m → is_among m (levels_from (level_at ds Next n) (width_at ds n)) ≡ true
      here m bit = among_levels (level_at ds Next n) (width_at ds n) m bit.0 bit.1

  -- the same of the list that is made, where the level and the width are known as others
  pub slot_in_made : (l w : ℕ) (r : Result (Vec ℕ Global) AllocError) → test n ≡ true → l ≡ level_at ds Next n → w ≡ width_at ds n → IfOk r (λ new. new.items ≡ levels ++ levels_from l w) → IfOk r (λ new. HasNextBits ds test (n + 1) new.items)
  slot_in_made l w (Ok new) pass level wide is = slot_in new.items pass (is ∙ (ap (λ k. levels ++ levels_from k w) level ∙ ap (λ k. levels ++ levels_from (level_at ds Next n) k) wide))
  slot_in_made l w (Err e) pass level wide is = tt

  -- the slot is left out
  pub slot_out : test n ≡ false → HasNextBits ds test (n + 1) levels
  slot_out fails =
      record {
        has = λ k m less passes bit. elim (last_or k less) [
          | inl before ↦ so_far.has k m before passes bit
          | inr last ↦ absurd (false≢true (sym fails ∙ (ap test (sym last) ∙ passes)))
        ];
        only = λ m among. (let found = so_far.only m among in (found.0, (let less = found.1 in omega (arith, less)), found.2, found.3));
      }

-- ---- the next bits of a game's states

-- a level is a bit of one slot
one_slot : (ds : List DomainData) (at : At) (j k m : ℕ) → j < length ds → k < length ds → IsBitOf ds at j m → IsBitOf ds at k m → j ≡ k
one_slot ds at j k m hj hk bit_j bit_k = by_order (grind arith)
  where
    by_order : (j < k) ⊎ ((j ≡ k) ⊎ (k < j)) → j ≡ k
    by_order (inl before) = let apart = earlier_before ds at j k before hk in let high = bit_j.1 in let low = bit_k.0 in absurd (omega (arith, apart, high, low))
    by_order (inr (inl same)) = same
    by_order (inr (inr after)) = let apart = earlier_before ds at k j after hj in let high = bit_k.1 in let low = bit_j.0 in absurd (omega (arith, apart, high, low))

-- no present bit is a next one
never_both : (ds : List DomainData) (j k m : ℕ) → j < length ds → k < length ds → IsBitOf ds Now j m → IsBitOf ds Next k m → ⊥
never_both ds j k m hj hk now next = from (others_outside ds Next Now j k m (λ e. cc (e)) hj hk now.0 now.1)
  where
    from : IsOutside ds Next k m → ⊥
    from (inl before) = let low = next.0 in absurd (omega (arith, before, low))
    from (inr after) = let high = next.1 in absurd (omega (arith, after, high))

module _ (g : GameData) where
  pub are_next : (test : ℕ → Bool) (levels : List ℕ) → HasNextBits (state_domains g) test (length (state_domains g)) levels → AreNextOf g test levels
  are_next test levels bits =
      record {
        has = λ k m known passes level. bits.has k m known passes level;
        leaves = λ k m known fails level. none m (λ among. (
            let found = bits.only m among in
            let same = one_slot (state_domains g) Next k found.0 m known found.1 level found.3 in
            false≢true (sym fails ∙ (ap test same ∙ found.2))));
        leaves_present = λ k m known level. none m (λ among. (let found = bits.only m among in never_both (state_domains g) k found.0 m known found.1 level found.3));
      }
    where
      none : (m : ℕ) → (is_among m levels ≡ true → ⊥) → is_among m levels ≡ false
      none m never = at (is_among m levels) refl
        where
          at : (b : Bool) → is_among m levels ≡ b → is_among m levels ≡ false
          at true e = absurd (never e)
          at false e = e

  -- where no slot is left out, all next bits are there
  pub are_all_next : (levels : List ℕ) → HasNextBits (state_domains g) (is_elsewhere 0 0) (length (state_domains g)) levels → AreNextOf g is_any_slot levels
  are_all_next levels bits = subst (λ (test : ℕ → Bool). AreNextOf g test levels) (λ i k. always k i) (are_next (is_elsewhere 0 0) levels bits)
    where
      always : (k : ℕ) → is_elsewhere 0 0 k ≡ true
      always k = at (nat_le 0 k && nat_lt k 0) refl
        where
          at : (b : Bool) → (nat_le 0 k && nat_lt k 0) ≡ b → not (nat_le 0 k && nat_lt k 0) ≡ true
          at true e = let less = ltb-true k 0 (and_parts (nat_le 0 k) (nat_lt k 0) e).1 in absurd (omega (arith, less))
          at false e = ap not e

  -- where the inputs are left out, those of replies are
  pub are_replies : (first past : ℕ) (levels : List ℕ) → first ≡ length g.hidden → past ≡ length g.hidden + length (domains_of is_env g.variables) → HasNextBits (state_domains g) (is_elsewhere first past) (length (state_domains g)) levels → AreNextOf g (is_reply_slot g) levels
  are_replies first past levels from_here to_here bits =
      are_next (is_reply_slot g) levels (subst (λ (a : ℕ). HasNextBits (state_domains g) (is_elsewhere a (length g.hidden + length (domains_of is_env g.variables))) (length (state_domains g)) levels) from_here
      (subst (λ (b : ℕ). HasNextBits (state_domains g) (is_elsewhere first b) (length (state_domains g)) levels) to_here bits))

-- ---- where each level leads

count_more : (ds : List DomainData) (n : ℕ) → n < length ds → level_count (take (suc n) ds) ≡ level_count (take n ds) + 2 * width_at ds n
count_more [] n less = absurd (omega arith)
count_more (d ∷ ds) zero less = omega arith
count_more (d ∷ ds) (suc n) less = let rest = count_more ds n (omega arith) in omega (arith, rest)

pub leads_nowhere : (ds : List DomainData) (to : List ℕ) → to ≡ [] → LeadsOn ds 0 to
leads_nowhere ds to none = record { long = ap length none; to_next = λ k m less bit. absurd (omega arith) }

module _ (ds : List DomainData) (n : ℕ) (to : List ℕ) (so_far : LeadsOn ds n to) (known : n < length ds) where
  abbrev row : List ℕ
  row = levels_from (level_at ds Next n) (width_at ds n)

  pub leads_more : (present new : List ℕ) → present ≡ to ++ row → new ≡ present ++ row → LeadsOn ds (n + 1) new
  leads_more present new first second =
      record {
        long = (
            let one = ap length first ∙ length-append to row in
            let two = ap length second ∙ length-append present row in
            let wide = length-levels (level_at ds Next n) (width_at ds n) in
            let so_long = so_far.long in
            let more = count_more ds n known in
            let next : n + 1 ≡ suc n = omega arith in
            rw next (omega (arith, one, two, wide, so_long, more)));
        to_next = λ k m less bit. elim (last_or k less) [
          | inl before ↦ (
              let high = bit.1 in
              let apart = slot_before ds k n before (omega arith) in
              let so_long = so_far.long in
              let inside : m < length to = omega (arith, high, apart, so_long) in
              let longer = ap length first ∙ length-append to row in
              ap (λ (ms : List ℕ). get_or ms m m) second ∙ (get-before present row m m (omega (arith, inside, longer))
              ∙ (ap (λ (ms : List ℕ). get_or ms m m) first ∙ (get-before to row m m inside ∙ so_far.to_next k m before bit))))
          | inr last ↦ here m (subst (λ j. IsBitOf ds Now j m) last bit) ∙ ap (λ j. m + width_at ds j) (sym last)
        ];
      }
    where
      last_or : (k : ℕ) → k < n + 1 → (k < n) ⊎ (k ≡ n)
      last_or k less = grind arith

      here : (m : ℕ) → IsBitOf ds Now n m → get_or new m m ≡ m + width_at ds n
      here m bit =
          let low = bit.0 in
          let high = bit.1 in
          let j = m - level_at ds Now n in
          let so_long = so_far.long in
          let longer = ap length first ∙ length-append to row in
          let wide = length-levels (level_at ds Next n) (width_at ds n) in
          let place : m ≡ length to + j = omega (arith, low, so_long) in
          let inside : m < length present = omega (arith, high, so_long, longer, wide) in
          let level = get-level (level_at ds Next n) (width_at ds n) j m (omega (arith, low, high)) in
          ap (λ (ms : List ℕ). get_or ms m m) second ∙ (get-before present row m m inside
          ∙ (ap (λ (ms : List ℕ). get_or ms m m) first ∙ (get-after to row m j m place ∙ (level ∙ omega (arith, low)))))

pub leads_to_next : (g : GameData) (to : List ℕ) → LeadsOn (state_domains g) (length (state_domains g)) to → LeadsToNext g to
leads_to_next g to leads =
    record {
      long = leads.long ∙ ap level_count (take_all (state_domains g) (length (state_domains g)) (omega arith));
      to_next = λ k m known level. leads.to_next k m known level;
    }
