-- A function that tells states at the present bits tells them at the next ones when its levels are moved there.
use Rattle.std.proofs.Common.{◌≡◌, ℕ, zero, suc, ◌+◌, ◌-◌, ◌^◌, ◌<◌, ◌≤◌, Bool, true, List, length, refl, sym, ◌∙◌, ap, subst, arith, ◌⊎◌, inl, inr, slice_index_or}
use Rattle.spec_model.specs.Diagrams.{Bits, Function, with_bit, shifted}
use Rattle.spec_model.specs.Games.{GameData, State, listed}
use Rattle.spec_model.specs.Sets.{StateSet}
use Rattle.game_values.specs.declared.seen.At.TheVariants.{Now, Next}
use Rattle.bdd_ops.specs.Reading.{Ignores, DependsOn}
use Rattle.bdd_bits.specs.Orders.{BitOrder, level_of}
use Rattle.bdd_bits.specs.Contents.{Contents}
use Rattle.bdd_bits.specs.Keeping.{Keeps}
use Rattle.bdd_bits.specs.Calls.{KeepsRoots, RisesOver}
use Rattle.bdd_ops.proofs.FunctionLemmas.{with_bit-other}
use Rattle.bit_compile.specs.Domains.{state_domains, level_count}
use Rattle.bit_compile.specs.Codes.{has_number, level_at, width_at, code_at}
use Rattle.bit_compile.proofs.NumberLemmas.{has_number-same}
use Rattle.bit_compile.proofs.SlotLemmas.{slot_within, slot_before}
use Rattle.bdd_sets.specs.StateBits.{HasState, TellsStates, Tells}
use Rattle.bdd_sets.specs.MoveBits.{IsLevelOf, LeadsToNext}
use Rattle.bdd_sets.specs.NextOrders.{IsPresent, KeepsNext, FitsNext}
use Rattle.bdd_sets.proofs.SetLemmas.{told_at, tells_by, is_proper}
use Rattle.bdd_sets.proofs.ForceLemmas.{same_truth}

has_number-moved : (level d w n : ℕ) (s t : Bits) → ((m : ℕ) → level ≤ m → m < level + w → s m ≡ t (m + d)) → has_number level w n s ≡ has_number (level + d) w n t
has_number-moved level d zero n s t same = refl
has_number-moved level d (suc w) n s t same =
    let e : suc level + d ≡ suc (level + d) = omega arith in
    let here : s level ≡ t (level + d) = same level (omega arith) (omega arith) in
    let high : has_number (suc level) w (n - 2 ^ w) s ≡ has_number (suc (level + d)) w (n - 2 ^ w) t = has_number-moved (suc level) d w (n - 2 ^ w) s t (λ m low below. same m (omega arith) (omega arith)) ∙ ap (λ l. has_number l w (n - 2 ^ w) t) e in
    let low : has_number (suc level) w n s ≡ has_number (suc (level + d)) w n t = has_number-moved (suc level) d w n s t (λ m low below. same m (omega arith) (omega arith)) ∙ ap (λ l. has_number l w n t) e in
    cc

inside_or : (l w m : ℕ) → ((l ≤ m) × (m < l + w)) ⊎ ((l ≤ m) × (m < l + w) → ⊥)
inside_or l w m = from (grind arith) (grind arith)
  where
    from : (m < l) ⊎ (l ≤ m) → (m < l + w) ⊎ (l + w ≤ m) → ((l ≤ m) × (m < l + w)) ⊎ ((l ≤ m) × (m < l + w) → ⊥)
    from (inl before) high = inr (λ both. (let low = both.0 in absurd (omega (arith, low, before))))
    from (inr low) (inl high) = inl (low, high)
    from (inr low) (inr after) = inr (λ both. (let high = both.1 in absurd (omega (arith, high, after))))

module _ (g : GameData) where
  -- whether a level is a present bit of one of the first slots
  present_below : (m n : ℕ) → n ≤ length (state_domains g) → IsPresent g m ⊎ ((k : ℕ) → k < n → IsLevelOf g Now k m → ⊥)
  present_below m zero small = inr (λ k below level. absurd (omega arith))
  present_below m (suc n) small = from (present_below m n (omega arith)) here
    where
      here : IsLevelOf g Now n m ⊎ (IsLevelOf g Now n m → ⊥)
      here = inside_or (level_at (state_domains g) Now n) (width_at (state_domains g) n) m

      from : IsPresent g m ⊎ ((k : ℕ) → k < n → IsLevelOf g Now k m → ⊥) → IsLevelOf g Now n m ⊎ (IsLevelOf g Now n m → ⊥) → IsPresent g m ⊎ ((k : ℕ) → k < suc n → IsLevelOf g Now k m → ⊥)
      from (inl found) also = inl found
      from (inr none) (inl inside) = inl (n, omega arith, inside)
      from (inr none) (inr outside) = inr (λ k below level. last_or k below level (grind arith))
        where
          last_or : (k : ℕ) → k < suc n → IsLevelOf g Now k m → (k < n) ⊎ (k ≡ n) → ⊥
          last_or k below level (inl less) = none k less level
          last_or k below level (inr same) = outside (subst (λ (j : ℕ). IsLevelOf g Now j m) same level)

  -- the bits of a state without a level that is none of its own
  other_bit : (s : State) (b : Bits) (m : ℕ) (v : Bool) → ((k : ℕ) → k < length (state_domains g) → IsLevelOf g Now k m → ⊥) → HasState g Now s (with_bit b m v) → HasState g Now s b
  other_bit s b m v outside has k known =
      has_number-same (level_at (state_domains g) Now k) (width_at (state_domains g) k) (code_at (state_domains g) (listed s) k) b (with_bit b m v)
      (λ x low high. sym (with_bit-other b m x v (λ same. outside k known (subst (λ (y : ℕ). IsLevelOf g Now k y) same (low, high))))) ∙ has k known

  back_bit : (s : State) (b : Bits) (m : ℕ) (v : Bool) → ((k : ℕ) → k < length (state_domains g) → IsLevelOf g Now k m → ⊥) → HasState g Now s b → HasState g Now s (with_bit b m v)
  back_bit s b m v outside has k known =
      has_number-same (level_at (state_domains g) Now k) (width_at (state_domains g) k) (code_at (state_domains g) (listed s) k) (with_bit b m v) b
      (λ x low high. with_bit-other b m x v (λ same. outside k known (subst (λ (y : ℕ). IsLevelOf g Now k y) same (low, high)))) ∙ has k known

  -- a function that reads present levels alone
  module _ (f : Function) (others : (m : ℕ) → ((k : ℕ) → k < length (state_domains g) → IsLevelOf g Now k m → ⊥) → Ignores m f) where
    is_present : (m : ℕ) → DependsOn m f → IsPresent g m
    is_present m depends = from (present_below m (length (state_domains g)) (omega arith))
      where
        from : IsPresent g m ⊎ ((k : ℕ) → k < length (state_domains g) → IsLevelOf g Now k m → ⊥) → IsPresent g m
        from (inl found) = found
        from (inr none) = absurd (depends (others m none))

    -- the levels of the next bits rise with those of the present ones
    pub rises_over : (levels : ℕ) (o : BitOrder) (to : List ℕ) → levels ≡ level_count (state_domains g) → LeadsToNext g to → KeepsNext g o to → RisesOver levels o to f
    rises_over levels o to many leads keeps =
        record {
          short = (let long = leads.long in omega (arith, long, many));
          known = λ x below depends. (let long = leads.long in omega (arith, long, many, below));
          below = λ x below depends.
              let p = is_present x depends in
              let inside = slot_within (state_domains g) p.0 p.1 in
              let moved = leads.to_next p.0 x p.1 p.2 in
              let low = p.2.0 in
              let high = p.2.1 in
              omega (arith, moved, inside, many, low, high);
          rising = λ x y less below_x below_y dx dy. keeps x y (is_present x dx) (is_present y dy) less;
        }

  module _ (f : Function) (states : TellsStates g Now f) where
    -- no level is read but present ones
    pub ignores_others : (m : ℕ) → ((k : ℕ) → k < length (state_domains g) → IsLevelOf g Now k m → ⊥) → Ignores m f
    ignores_others m outside b v = same_truth (f (with_bit b m v)) (f b) there back
      where
        there : f (with_bit b m v) ≡ true → f b ≡ true
        there e = let s = states.elsewhere (with_bit b m v) e in states.settled s.0 b s.1 (other_bit s.0 b m v outside s.2) ∙ (sym (states.settled s.0 (with_bit b m v) s.1 s.2) ∙ e)

        back : f b ≡ true → f (with_bit b m v) ≡ true
        back e = let s = states.elsewhere b e in states.settled s.0 (with_bit b m v) s.1 (back_bit s.0 b m v outside s.2) ∙ (sym (states.settled s.0 b s.1 s.2) ∙ e)

    pub rises_to_next : (levels : ℕ) (o : BitOrder) (to : List ℕ) → levels ≡ level_count (state_domains g) → LeadsToNext g to → KeepsNext g o to → RisesOver levels o to f
    rises_to_next = rises_over f ignores_others

  module _ (to : List ℕ) (leads : LeadsToNext g to) (b : Bits) where
    abbrev pub moved_bits : Bits
    moved_bits level = b (slice_index_or to level level)

    number_moved : (k n : ℕ) → k < length (state_domains g) → has_number (level_at (state_domains g) Now k) (width_at (state_domains g) k) n moved_bits ≡ has_number (level_at (state_domains g) Next k) (width_at (state_domains g) k) n b
    number_moved k n known = has_number-moved (level_at (state_domains g) Now k) (width_at (state_domains g) k) (width_at (state_domains g) k) n moved_bits b (λ m low high. ap b (leads.to_next k m known (low, high)))

    pub now_from_next : (s : State) → HasState g Next s b → HasState g Now s moved_bits
    now_from_next s has k known = number_moved k (code_at (state_domains g) (listed s) k) known ∙ has k known

    pub next_from_now : (s : State) → HasState g Now s moved_bits → HasState g Next s b
    next_from_now s has k known = sym (number_moved k (code_at (state_domains g) (listed s) k) known) ∙ has k known

  -- the same set, at the next bits
  pub tells_next : (to : List ℕ) → LeadsToNext g to → (f : Function) (t : StateSet) → Tells g Now f t → Tells g Next (shifted to f) t
  tells_next to leads f t tells =
      tells_by g Next (shifted to f) t (is_proper g Now f t tells)
      (λ s b here has. told_at g Now f t tells s (moved_bits to leads b) here (now_from_next to leads b s has))
      (λ b e. (let s = tells.states.elsewhere (moved_bits to leads b) e in (s.0, s.1, next_from_now to leads b s.0 s.2)))

-- ---- orders

-- where each bit stands at the level of its number, the next bits stand as the present ones do
pub declared_keeps : (g : GameData) (o : BitOrder) (to : List ℕ) → ((bit : ℕ) → level_of o bit ≡ bit) → LeadsToNext g to → KeepsNext g o to
declared_keeps g o to places leads x y p q less =
    let moved_x = leads.to_next p.0 x p.1 p.2 in
    let moved_y = leads.to_next q.0 y q.1 q.2 in
    let before : x < y = subst (λ (n : ℕ). x < n) (places y) (subst (λ (n : ℕ). n < level_of o y) (places x) less) in
    subst (λ (n : ℕ). n < level_of o (slice_index_or to y y)) (sym (places (slice_index_or to x x)))
    (subst (λ (n : ℕ). slice_index_or to x x < n) (sym (places (slice_index_or to y y))) (by_slots p.0 q.0 before p.1 q.1 p.2 q.2 moved_x moved_y (grind arith)))
  where
    by_slots : (j k : ℕ) → x < y → j < length (state_domains g) → k < length (state_domains g) → IsLevelOf g Now j x → IsLevelOf g Now k y → slice_index_or to x x ≡ x + width_at (state_domains g) j → slice_index_or to y y ≡ y + width_at (state_domains g) k → (j < k) ⊎ ((j ≡ k) ⊎ (k < j)) → slice_index_or to x x < slice_index_or to y y
    by_slots j k less hj hk lx ly moved_x moved_y (inl before) =
        let apart = slot_before (state_domains g) j k before hj in
        let high = lx.1 in
        let low = ly.0 in
        omega (arith, apart, high, low, moved_x, moved_y)
    by_slots j k less hj hk lx ly moved_x moved_y (inr (inl same)) = (let one = ap (width_at (state_domains g)) same in omega (arith, less, one, moved_x, moved_y))
    by_slots j k less hj hk lx ly moved_x moved_y (inr (inr after)) =
        let apart = slot_before (state_domains g) k j after hk in
        let low = lx.0 in
        let high = ly.1 in
        absurd (omega (arith, apart, high, low, less))

-- an order that keeps the list keeps it of the next bits
pub keeps_next : (g : GameData) (o : BitOrder) (to : List ℕ) → length o.names ≡ level_count (state_domains g) → Keeps o to → LeadsToNext g to → KeepsNext g o to
keeps_next g o to each keeps leads x y p q less =
    let inside = slot_within (state_domains g) q.0 q.1 in
    let high = q.2.1 in
    keeps x y (omega (arith, inside, high, each)) (moved x p) (moved y q) less
  where
    moved : (m : ℕ) → IsPresent g m → slice_index_or to m m ≡ m → ⊥
    moved m p same =
        let there = leads.to_next p.0 m p.1 p.2 in
        let low = p.2.0 in
        let high = p.2.1 in
        absurd (omega (arith, there, same, low, high))

-- a store stays one for the game's bits
pub fits_still : (g : GameData) (to : List ℕ) (a b : Contents) → b.state.table.levels ≡ a.state.table.levels → b.order ≡ a.order → FitsNext g to a → FitsNext g to b
fits_still g to a b levels order fits = record { levels = levels ∙ fits.levels; rising = subst (λ (o : BitOrder). KeepsNext g o to) (sym order) fits.rising }

pub fits_kept : (g : GameData) (to : List ℕ) (a b : Contents) → KeepsRoots a b → FitsNext g to a → FitsNext g to b
fits_kept g to a b keeps fits = fits_still g to a b keeps.levels keeps.order fits
