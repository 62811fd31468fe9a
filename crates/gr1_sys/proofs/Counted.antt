-- K by the last layers alone.
use Rattle.std.proofs.Common.{Result, Ok, Err, IfOk, IfErr, ◌≡◌, ◌↔◌, Bool, true, false, IsTrue, ℕ, suc, ◌+◌, ◌-◌, ◌≤◌, ◌<◌, ◌⊎◌, inl, inr, List, [], ◌∷◌, ◌++◌, length, sum, get_or, slice_index, None, ap, sym, ◌∙◌, refl, subst, arith}
use Rattle.std.proofs.lemmas.List.{get_or_append_left, get_or-append_right}
use Rattle.std.proofs.lemmas.List.Sums.{fold-append}
use Rattle.spec_model.specs.Games.{GameData}
use Rattle.spec_model.specs.Steps.{states_of}
use Rattle.spec_model.specs.Sets.{StateSet, both, pre_sys, system_forces, IsGreatest}
use Rattle.spec_model.proofs.Fixpoints.{IsFalling, falling-last}
use Rattle.spec_model.specs.Counts.{count_in}
use Rattle.regions.specs.declared.types.Halt.{Halt}
use Rattle.regions.specs.Kept.{Kept, Item, Region, Meaning, States, weight, HasRegion, HoldsBesides, HoldsWithout, MakesRegion, Replaces, Spends, IsExact}
use Rattle.regions.proofs.Holding.{held_as, spent, made_is, replaced_is}
use Rattle.gr1_law.specs.Layers.{goal_set, goal_sets}
use Rattle.gr1_sys.specs.Held.{weight_as, HasTogether, HoldsWithoutAll, MakesRegions, SpendsAll}
use Rattle.gr1_sys.specs.Solution.{layer_of, meet, following}
use Rattle.gr1_sys.specs.Moment.{IsGoal, IsNamed, IsValueOfZ, iterated, layer, common}
use Rattle.gr1_sys.specs.Layered.{layers_for}
use Rattle.gr1_sys.specs.Solved.{IsLost}
use Rattle.gr1_sys.specs.Told.{TellsHalt}
use Rattle.gr1_sys.specs.Counted.{last_layer, IsGreatestRank, HaveRanks, AreOfLayer, ClimbsTo, MakesLast, Meets, MeetsGoal, MakesFollowing, TurnsInto, HasCounted}
use Rattle.gr1_sys.specs.Numbers.{IsWonGame}
use Rattle.gr1_sys.proofs.Lists.{weight_as-more, weight_as-one, length_push, set_kept, spent_as}
use Rattle.gr1_sys.proofs.Holdings.{replaces}
use Rattle.gr1_sys.proofs.Told.{past_one}
use Rattle.gr1_sys.proofs.Winning.{layer_of-last, layer_of-more, following-grows, following-inside, is_winning}
use Rattle.gr1_sys.proofs.Won.{winning_one}

module _ {R M : Type 0} where
  -- what two regions weigh that are held together
  pub two_weigh : (k : Kept R M) (a b : R) (w : Item R M → Meaning → ℕ) → weight_as (a ∷ b ∷ []) (k.set a ∷ k.set b ∷ []) w ≡ w (Region a) (States (k.set a)) + w (Region b) (States (k.set b))
  two_weigh k a b w = weight_as-more a (b ∷ []) (k.set a) (k.set b ∷ []) w ∙ ap (λ n. w (Region a) (States (k.set a)) + n) (weight_as-one b (k.set b) w)

  pub first_of_two : (k : Kept R M) (a b : R) → HasTogether k (a ∷ b ∷ []) → HasRegion k a
  first_of_two k a b held w = omega (arith, held (λ i m. w i), two_weigh k a b (λ i m. w i))

  pub second_of_two : (k : Kept R M) (a b : R) → HasTogether k (a ∷ b ∷ []) → HasRegion k b
  second_of_two k a b held w = omega (arith, held (λ i m. w i), two_weigh k a b (λ i m. w i))

  -- both met in the place of the first, and then the second is spent
  pub meets : (k k1 k2 : Kept R M) (a b r : R) → IsExact k1 → HasTogether k (a ∷ b ∷ []) → Replaces k k1 (Region a) (States (k.set a)) (Region r) (States (both (k.set a) (k.set b))) → Spends k1 k2 (Region b) → Meets k k2 a b r
  meets k k1 k2 a b r exact held replaced gone =
      let left = spent k1 k2 b (k.set b) exact gone (λ w. omega (arith, replaced.held w, held w, two_weigh k a b w)) in
      record { held = λ w. omega (arith, left w, replaced.held w); jam = gone.jam ∙ replaced.jam }

  -- while the second is held the first is in the place of another
  pub second_left : (k k1 : Kept R M) (a b r : R) (s : StateSet) → HasTogether k (a ∷ b ∷ []) → Replaces k k1 (Region a) (States (k.set a)) (Region r) (States s) → HasRegion k1 b
  second_left k k1 a b r s held replaced w = omega (arith, replaced.held (λ i m. w i), held (λ i m. w i), two_weigh k a b (λ i m. w i))

  pub second_without : (k k1 : Kept R M) (a b : R) → HasTogether k (a ∷ b ∷ []) → HoldsWithout k k1 (Region a) (States (k.set a)) → HasRegion k1 b
  second_without k k1 a b held left w = omega (arith, left (λ i m. w i), held (λ i m. w i), two_weigh k a b (λ i m. w i))

  -- the first is gone, and then the second is spent
  pub both_gone : (k k1 k2 : Kept R M) (a b : R) → IsExact k1 → HasTogether k (a ∷ b ∷ []) → HoldsWithout k k1 (Region a) (States (k.set a)) → Spends k1 k2 (Region b) → HoldsWithoutAll k k2 (a ∷ b ∷ [])
  both_gone k k1 k2 a b exact held left gone =
      let after = spent k1 k2 b (k.set b) exact gone (λ w. omega (arith, left w, held w, two_weigh k a b w)) in
      λ w. omega (arith, after w, left w, two_weigh k a b w)

  -- what both met in is held
  pub meet_as : (k k1 : Kept R M) (a b r : R) → HasTogether k (a ∷ b ∷ []) → Meets k k1 a b r → (w : Item R M → Meaning → ℕ) → w (Region r) (States (both (k.set a) (k.set b))) ≤ weight k1 w
  meet_as k k1 a b r held met w = omega (arith, met.held w, held w, two_weigh k a b w)

  pub meet_held : (k k1 : Kept R M) (a b r : R) → HasTogether k (a ∷ b ∷ []) → Meets k k1 a b r → HasRegion k1 r
  meet_held k k1 a b r held met w = meet_as k k1 a b r held met (λ i m. w i)

  -- and then it is spent
  pub meet_gone : (k k1 k2 : Kept R M) (a b r : R) → IsExact k1 → HasTogether k (a ∷ b ∷ []) → Meets k k1 a b r → Spends k1 k2 (Region r) → HoldsWithoutAll k k2 (a ∷ b ∷ [])
  meet_gone k k1 k2 a b r exact held met gone =
      let after = spent k1 k2 r (both (k.set a) (k.set b)) exact gone (meet_as k k1 a b r held met) in
      λ w. omega (arith, after w, met.held w, two_weigh k a b w)

  -- ---- one layer after the other

  -- what the next layer is asked of
  pub at_layer : (first k : Kept R M) (reach y : R) (z : StateSet) (j n : ℕ) → IsExact k → k.game ≡ first.game → HasRegion first reach → MakesRegion first k y (layer_of first.game z j n) →
      first.set reach ≡ both (goal_set first.game j) (pre_sys first.game z) → AreOfLayer k.game (k.set reach) (k.set y) z j n
  at_layer first k reach y z j n exact game here made reach_is =
      record {
        reach_is = set_kept first k reach exact (λ w. omega (arith, made.held w)) here ∙ (reach_is ∙ ap (λ h. both (goal_set h j) (pre_sys h z)) (sym game));
        layer_is = (made_is first k y _ exact made).0 ∙ ap (λ h. layer_of h z j n) (sym game);
      }

  -- the next layer is in the place of the last one
  pub climbs_on : (first k new : Kept R M) (y next : R) (z : StateSet) (j n : ℕ) (settled : Bool) → IsExact k → IsExact new → k.game ≡ first.game → MakesRegion first k y (layer_of first.game z j n) → ClimbsTo k new y next z j n settled →
      MakesRegion first new next (layer_of first.game z j (suc n)) × (IsTrue settled ↔ layer_of first.game z j n ≡ layer_of first.game z j (suc n))
  climbs_on first k new y next z j n settled exact exact' game made climbs =
      let is = replaced_is first k new y next (layer_of k.game z j (suc n)) exact' (made_is first k y _ exact made).1 climbs.replaced in (
        subst (λ h. MakesRegion first new next (layer_of h z j (suc n))) game (subst (MakesRegion first new next) is.0 is.1),
        subst (λ h. IsTrue settled ↔ layer_of h z j n ≡ layer_of h z j (suc n)) game climbs.settles,
      )

  -- where it is the same it is the last
  pub climbs_last : (first new : Kept R M) (next : R) (z : StateSet) (j n : ℕ) → MakesRegion first new next (layer_of first.game z j (suc n)) → layer_of first.game z j n ≡ layer_of first.game z j (suc n) →
      ((r : ℕ) → r < n → layer_of first.game z j r ≡ layer_of first.game z j (suc r) → ⊥) → MakesLast first new next z j n
  climbs_last first new next z j n made settled before =
      record {
        made = subst (MakesRegion first new next) (sym settled ∙ layer_of-last first.game z j n settled) made;
        greatest = record { here = settled; none_before = before };
      }

  -- and where it differs fewer states are left outside
  pub layers_fewer : (first k new : Kept R M) (y next : R) (z : StateSet) (j n : ℕ) → IsExact k → IsExact new → MakesRegion first k y (layer_of first.game z j n) → MakesRegion first new next (layer_of first.game z j (suc n)) →
      (layer_of first.game z j n ≡ layer_of first.game z j (suc n) → ⊥) →
      length (states_of first.game) - count_in (new.set next) (states_of first.game) < length (states_of first.game) - count_in (k.set y) (states_of first.game)
  layers_fewer first k new y next z j n exact exact' made on differs =
      subst (λ t. length (states_of first.game) - count_in (new.set next) (states_of first.game) < length (states_of first.game) - count_in t (states_of first.game)) (sym (made_is first k y _ exact made).0)
      (subst (λ t. length (states_of first.game) - count_in t (states_of first.game) < length (states_of first.game) - count_in (layer_of first.game z j n) (states_of first.game)) (sym (made_is first new next _ exact' on).0)
      (layer_of-more first.game z j n differs))

  -- a region that was made is spent
  pub made_gone : (first k new : Kept R M) (r : R) (s : StateSet) → IsExact k → MakesRegion first k r s → Spends k new (Region r) → HoldsBesides first new [] × (new.jam ≡ None)
  made_gone first k new r s exact made gone =
      let left = spent k new r s exact gone (λ w. omega (arith, made.held w)) in
      ((λ w. omega (arith, left w, made.held w)), gone.jam ∙ made.jam)

  -- a region that was made beneath another is still held, and is spent
  pub still_above : (k k1 k2 : Kept R M) (a r : R) (s t : StateSet) → MakesRegion k k1 a s → MakesRegion k1 k2 r t → HasRegion k2 a
  still_above k k1 k2 a r s t made above w = omega (arith, made.held (λ i m. w i), above.held (λ i m. w i))

  pub one_above : (k k1 k2 k3 : Kept R M) (a r : R) (s t : StateSet) → IsExact k2 → MakesRegion k k1 a s → MakesRegion k1 k2 r t → Spends k2 k3 (Region a) → MakesRegion k k3 r t
  one_above k k1 k2 k3 a r s t exact made above gone =
      let left = spent k2 k3 a s exact gone (λ w. omega (arith, made.held w, above.held w)) in
      record { held = λ w. omega (arith, left w, made.held w, above.held w); jam = gone.jam ∙ above.jam }

  pub last_beneath : (k k1 k2 k3 : Kept R M) (a : R) (s : StateSet) (r : R) (z : StateSet) (j n : ℕ) → IsExact k2 → k1.game ≡ k.game → MakesRegion k k1 a s → MakesLast k1 k2 r z j n → Spends k2 k3 (Region a) → MakesLast k k3 r z j n
  last_beneath k k1 k2 k3 a s r z j n exact game made last gone =
      record {
        made = subst (λ h. MakesRegion k k3 r (last_layer h z j)) game (one_above k k1 k2 k3 a r s (last_layer k1.game z j) exact made last.made gone);
        greatest = subst (λ h. IsGreatestRank h z j n) game last.greatest;
      }

  -- ---- a goal beside those before it

  -- both are held once the second is made
  pub two_held : (k k1 : Kept R M) (a b : R) (t : StateSet) → IsExact k1 → HasRegion k a → MakesRegion k k1 b t → HasTogether k1 (a ∷ b ∷ [])
  two_held k k1 a b t exact here made =
      let a_is = set_kept k k1 a exact (λ w. omega (arith, made.held w)) here in
      let b_is = (made_is k k1 b t exact made).0 in
      subst (λ u. (w : Item R M → Meaning → ℕ) → weight_as (a ∷ b ∷ []) (u ∷ k1.set b ∷ []) w ≤ weight k1 w) (sym a_is)
      (subst (λ v. (w : Item R M → Meaning → ℕ) → weight_as (a ∷ b ∷ []) (k.set a ∷ v ∷ []) w ≤ weight k1 w) (sym b_is)
      (λ w. omega (arith, weight_as-more a (b ∷ []) (k.set a) (t ∷ []) w, weight_as-one b t w, made.held w, held_as k (Region a) here w)))

  pub meets_goal : (k k1 k2 : Kept R M) (a b r : R) (z : StateSet) (j n so_far total : ℕ) → IsExact k1 → HasRegion k a → MakesLast k k1 b z j n → Meets k1 k2 a b r → total ≡ so_far + n → MeetsGoal k k2 a r z j so_far total
  meets_goal k k1 k2 a b r z j n so_far total exact here last met counted =
      let a_is = set_kept k k1 a exact (λ w. omega (arith, last.made.held w)) here in
      let b_is = (made_is k k1 b (last_layer k.game z j) exact last.made).0 in
      let held : (w : Item R M → Meaning → ℕ) → weight k2 w + (w (Region a) (States (k.set a)) + w (Region b) (States (last_layer k.game z j))) ≡ w (Region r) (States (both (k.set a) (last_layer k.game z j))) + weight k1 w =
      subst (λ u. (w : Item R M → Meaning → ℕ) → weight k2 w + (w (Region a) (States u) + w (Region b) (States (last_layer k.game z j))) ≡ w (Region r) (States (both u (last_layer k.game z j))) + weight k1 w) a_is
      (subst (λ v. (w : Item R M → Meaning → ℕ) → weight k2 w + (w (Region a) (States (k1.set a)) + w (Region b) (States v)) ≡ w (Region r) (States (both (k1.set a) v)) + weight k1 w) b_is met.held) in
      record {
        replaced = record { held = λ w. omega (arith, held w, last.made.held w); jam = met.jam };
        rank = n;
        greatest = last.greatest;
        counted = counted;
      }

  -- where that halted, the first alone is gone
  pub first_gone : (k k1 k2 : Kept R M) (a b : R) (t : StateSet) → IsExact k1 → HasRegion k a → MakesRegion k k1 b t → HoldsWithoutAll k1 k2 (a ∷ b ∷ []) → HoldsWithout k k2 (Region a) (States (k.set a))
  first_gone k k1 k2 a b t exact here made gone =
      let a_is = set_kept k k1 a exact (λ w. omega (arith, made.held w)) here in
      let b_is = (made_is k k1 b t exact made).0 in
      let left : (w : Item R M → Meaning → ℕ) → weight k2 w + weight_as (a ∷ b ∷ []) (k.set a ∷ t ∷ []) w ≡ weight k1 w =
      subst (λ u. (w : Item R M → Meaning → ℕ) → weight k2 w + weight_as (a ∷ b ∷ []) (u ∷ t ∷ []) w ≡ weight k1 w) a_is
      (subst (λ v. (w : Item R M → Meaning → ℕ) → weight k2 w + weight_as (a ∷ b ∷ []) (k1.set a ∷ v ∷ []) w ≡ weight k1 w) b_is gone) in
      λ w. omega (arith, left w, weight_as-more a (b ∷ []) (k.set a) (t ∷ []) w, weight_as-one b t w, made.held w)

  -- what that tells
  pub meet_told : (k k1 k2 : Kept R M) (a b : R) (z : StateSet) (j n : ℕ) (halt : Halt) → IsExact k1 → k1.game ≡ k.game → HasRegion k a → MakesLast k k1 b z j n → IsGoal k.game j → IsNamed k.game z (k.set a) →
      (IsNamed k1.game z (k1.set a) → IsNamed k1.game z (k1.set b) → TellsHalt k1 k2 z halt) → TellsHalt k k2 z halt
  meet_told k k1 k2 a b z j n halt exact game here last goal_in named tells =
      let a_is = set_kept k k1 a exact (λ w. omega (arith, last.made.held w)) here in
      let b_is = (made_is k k1 b (last_layer k.game z j) exact last.made).0 in
      let b_named : IsNamed k.game z (last_layer k.game z j) = iterated (layer j (length (states_of k.game)) goal_in refl) in
      past_one k k1 k2 k2 z b (last_layer k.game z j) halt game last.made b_named refl
      (tells (subst (λ h. IsNamed h z (k1.set a)) (sym game) (subst (IsNamed k.game z) (sym a_is) named)) (subst (λ h. IsNamed h z (k1.set b)) (sym game) (subst (IsNamed k.game z) (sym b_is) b_named)))

-- two facts of a result together
pub if_ok_both : {T E : Type 0} (r : Result T E) (P Q S : T → Type 0) → ((x : T) → P x → Q x → S x) → IfOk r P → IfOk r Q → IfOk r S
if_ok_both (Ok x) P Q S both p q = both x p q
if_ok_both (Err e) P Q S both p q = tt

-- a refusal that is told of where two things hold
pub if_err_given : {T E : Type 0} (r : Result T E) (A B : Type 0) (P Q : E → Type 0) → ((e : E) → (A → B → P e) → Q e) → (A → B → IfErr r P) → IfErr r Q
if_err_given (Ok x) A B P Q more given = tt
if_err_given (Err e) A B P Q more given = more e given

less_or_last : (i n : ℕ) → i < suc n → (i < n) ⊎ (i ≡ n)
less_or_last i n before = grind (arith, before)

-- one layer more differs from the next
pub unsettled_on : (g : GameData) (z : StateSet) (j n m : ℕ) → m ≡ suc n → ((r : ℕ) → r < n → layer_of g z j r ≡ layer_of g z j (suc r) → ⊥) → (layer_of g z j n ≡ layer_of g z j (suc n) → ⊥) →
    (r : ℕ) → r < m → layer_of g z j r ≡ layer_of g z j (suc r) → ⊥
unsettled_on g z j n m is before differs r below = by_place (less_or_last r n (subst (λ m. r < m) is below))
  where
    by_place : (r < n) ⊎ (r ≡ n) → layer_of g z j r ≡ layer_of g z j (suc r) → ⊥
    by_place (inl earlier) e = before r earlier e
    by_place (inr here) e = differs (subst (λ m. layer_of g z j m ≡ layer_of g z j (suc m)) here e)

-- ---- the ranks of all goals

sum_push : (ns : List ℕ) (n : ℕ) → sum (ns ++ n ∷ []) ≡ sum ns + n
sum_push ns n = fold-append _ 0 ns (n ∷ [])

pub no_ranks : (g : GameData) (z : StateSet) → HaveRanks g z 0 1
no_ranks g z = record { ranks = []; counted = refl; greatest = λ j before. absurd (omega (arith, before)); rounds = omega arith }

pub one_rank_more : (g : GameData) (z : StateSet) (i so_far n total : ℕ) → HaveRanks g z i so_far → IsGreatestRank g z i n → total ≡ so_far + n → HaveRanks g z (suc i) total
one_rank_more g z i so_far n total have greatest counted =
    record {
      ranks = have.ranks ++ n ∷ [];
      counted = omega (arith, length_push have.ranks n, have.counted);
      greatest = λ j before. by_place j (less_or_last j i before);
      rounds = omega (arith, counted, have.rounds, sum_push have.ranks n);
    }
  where
    by_place : (j : ℕ) → (j < i) ⊎ (j ≡ i) → IsGreatestRank g z j (slice_index (have.ranks ++ n ∷ []) j)
    by_place j (inl earlier) = subst (IsGreatestRank g z j) (sym (get_or_append_left have.ranks (n ∷ []) 0 j (omega (arith, earlier, have.counted)))) (have.greatest j earlier)
    by_place j (inr here) =
        let place : j - i ≡ 0 = omega arith in
        subst (IsGreatestRank g z j) (sym (get_or-append_right have.ranks (n ∷ []) i j 0 have.counted (omega arith) ∙ ap (λ m. get_or (n ∷ []) m 0) place)) (subst (λ m. IsGreatestRank g z m n) (sym here) greatest)

module _ {R M : Type 0} where
  -- one goal more
  pub meets_on : (first k new : Kept R M) (a r : R) (z : StateSet) (i so_far total : ℕ) → IsExact k → IsExact new → k.game ≡ first.game → MakesRegion first k a (meet first.game (last_layer first.game z) i) → HaveRanks first.game z i so_far →
      MeetsGoal k new a r z i so_far total → MakesRegion first new r (meet first.game (last_layer first.game z) (suc i)) × HaveRanks first.game z (suc i) total
  meets_on first k new a r z i so_far total exact exact' game made have met =
      let a_is = made_is first k a _ exact made in
      let is = replaced_is first k new a r (both (k.set a) (last_layer k.game z i)) exact' a_is.1 met.replaced in
      let set_is : new.set r ≡ both (meet first.game (last_layer first.game z) i) (last_layer first.game z i) = is.0 ∙ (ap (λ t. both t (last_layer k.game z i)) a_is.0 ∙ ap (λ h. both (meet first.game (last_layer first.game z) i) (last_layer h z i)) game) in (
        subst (MakesRegion first new r) set_is is.1,
        one_rank_more first.game z i so_far met.rank total have (subst (λ h. IsGreatestRank h z i met.rank) game met.greatest) met.counted,
      )

  -- what the states in the last layers of some goals are named
  pub met_named : (first k : Kept R M) (a : R) (z : StateSet) (i : ℕ) → IsExact k → k.game ≡ first.game → i ≤ length (goal_sets first.game) → MakesRegion first k a (meet first.game (last_layer first.game z) i) → IsNamed k.game z (k.set a)
  met_named first k a z i exact game few made = subst (λ h. IsNamed h z (k.set a)) (sym game) (subst (IsNamed first.game z) (sym (made_is first k a _ exact made).0) (common i few refl))

  -- the value that follows was made above a region that is spent
  pub following_beneath : (k k1 k2 k3 : Kept R M) (a : R) (s : StateSet) (r : R) (z : StateSet) (n : ℕ) → IsExact k2 → k1.game ≡ k.game → MakesRegion k k1 a s → MakesFollowing k1 k2 r z n → Spends k2 k3 (Region a) → MakesFollowing k k3 r z n
  following_beneath k k1 k2 k3 a s r z n exact game made follows gone =
      subst (λ h. MakesRegion k k3 r (following h z) → HaveRanks h z (length (goal_sets h)) n → MakesFollowing k k3 r z n) (sym game)
      (λ m ranks. record { made = m; ranks = ranks }) (one_above k k1 k2 k3 a r s (following k1.game z) exact made follows.made gone) follows.ranks

  -- the value that follows is in the place of a value
  pub turns_into : (k k1 k2 : Kept R M) (z next : R) (n : ℕ) (settled : Bool) → IsExact k1 → HasRegion k z → MakesFollowing k k1 next (k.set z) n → (IsTrue settled ↔ k1.set z ≡ k1.set next) → Spends k1 k2 (Region z) → TurnsInto k k2 z next n settled
  turns_into k k1 k2 z next n settled exact here follows compared gone =
      let z_is = set_kept k k1 z exact (λ w. omega (arith, follows.made.held w)) here in
      let next_is = (made_is k k1 next (following k.game (k.set z)) exact follows.made).0 in
      record {
        replaced = replaces k k1 k2 z next (following k.game (k.set z)) exact here follows.made gone;
        ranks = follows.ranks;
        settles = subst (λ t. IsTrue settled ↔ t ≡ following k.game (k.set z)) z_is (subst (λ u. IsTrue settled ↔ k1.set z ≡ u) next_is compared);
      }

  -- where it is the same it is the greatest
  pub has_counted : (first k new : Kept R M) (z next : R) (n : ℕ) (settled : Bool) → IsExact new → k.game ≡ first.game → MakesRegion first k z (k.set z) → IsFalling first.game (following first.game) (k.set z) → IsValueOfZ first.game (k.set z) →
      TurnsInto k new z next n settled → IsTrue settled → HasCounted first new next n
  has_counted first k new z next n settled exact game made falling value turned is_settled =
      let is = replaced_is first k new z next (following k.game (k.set z)) exact made turned.replaced in
      let same : k.set z ≡ following k.game (k.set z) = turned.settles.0 is_settled in
      record {
        set = k.set z;
        made = subst (MakesRegion first new next) (is.0 ∙ sym same) is.1;
        greatest = falling-last first.game (following first.game) (following-grows first.game) (following-inside first.game) (k.set z) falling (same ∙ ap (λ h. following h (k.set z)) game);
        ranks = subst (λ h. HaveRanks h (k.set z) (length (goal_sets h)) n) game turned.ranks;
        value = value;
      }

  -- what was counted, with what was given spent
  pub counted_beneath : (k k1 k2 k3 : Kept R M) (given : List R) (sets : List StateSet) (z : R) (n : ℕ) → IsExact k2 → k1.game ≡ k.game → MakesRegions k k1 given sets → HasCounted k1 k2 z n → SpendsAll k2 k3 given → HasCounted k k3 z n
  counted_beneath k k1 k2 k3 given sets z n exact game made counted gone =
      let left = spent_as k2 k3 given sets exact made.counted (λ w. omega (arith, made.held w, counted.made.held w)) gone in
      record {
        set = counted.set;
        made = record { held = λ w. omega (arith, left w, counted.made.held w, made.held w); jam = gone.jam ∙ counted.made.jam };
        greatest = subst (λ h. IsGreatest (following h) counted.set) game counted.greatest;
        ranks = subst (λ h. HaveRanks h counted.set (length (goal_sets h)) n) game counted.ranks;
        value = subst (λ h. IsValueOfZ h counted.set) game counted.value;
      }

  -- ---- what the solver gives

  pub lost_by_count : (k k3 k4 : Kept R M) (z : R) (n : ℕ) → IsExact k3 → k3.game ≡ k.game → k.jam ≡ None → HasCounted k k3 z n → Spends k3 k4 (Region z) → system_forces k3.game (k3.set z) None ≡ false → IsLost k k4
  lost_by_count k k3 k4 z n exact game free counted gone unforced =
      let z_is = (made_is k k3 z counted.set exact counted.made).0 in
      let nothing = made_gone k k3 k4 z counted.set exact counted.made gone in
      record {
        stays = record { held = nothing.0; jam = nothing.1 ∙ sym free };
        escapes = λ y l winning.
            ap (λ t. system_forces k.game t None) (winning_one k.game y counted.set l (layers_for k.game counted.set) winning (is_winning k.game counted.set counted.greatest) ∙ sym z_is) ∙ (ap (λ h. system_forces h (k3.set z) None) (sym game) ∙ unforced);
      }

  pub won_by_count : (k k3 : Kept R M) (z : R) (n m : ℕ) → IsExact k3 → k3.game ≡ k.game → HasCounted k k3 z n → (system_forces k3.game (k3.set z) None ≡ true) × (m ≡ n) → IsWonGame k.game m
  won_by_count k k3 z n m exact game counted forced =
      let z_is = (made_is k k3 z counted.set exact counted.made).0 in
      let ranks = counted.ranks in
      record {
        winning_states = counted.set;
        layers = layers_for k.game counted.set;
        ranks = ranks.ranks;
        winning = is_winning k.game counted.set counted.greatest;
        greatest = record { counted = ranks.counted; each = λ j before. ranks.greatest j (subst (λ l. j < l) ranks.counted before) };
        forced = ap (λ t. system_forces k.game t None) (sym z_is) ∙ (ap (λ h. system_forces h (k3.set z) None) (sym game) ∙ forced.0);
        rounds = forced.1 ∙ ranks.rounds;
      }
