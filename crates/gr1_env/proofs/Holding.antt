-- The iterates of a hold for each assumption, and the value of its equation.
use Rattle.std.proofs.Common.{◌≡◌, ℕ, suc, ◌<◌, List, [], ◌∷◌, ◌++◌, map, length, get_or, Vec, vec_len, ap, sym, ◌∙◌, refl, subst, arith}
use Rattle.std.proofs.lemmas.Bool.{and_parts}
use Rattle.std.proofs.lemmas.List.{get_or-map}
use Rattle.std.specs.declared.alloc.Global.{Global}
use Rattle.spec_model.specs.Games.{GameData}
use Rattle.spec_model.specs.Steps.{below}
use Rattle.spec_model.specs.Sets.{StateSet, no_states, all_states, pre_env, IsPartOf, IsGreatest}
use Rattle.spec_model.proofs.SetLaws.{pre_env_grows}
use Rattle.spec_model.proofs.Fixpoints.{IsFalling, falling-last, greatest-one}
use Rattle.regions.specs.Kept.{Kept, MakesRegion, IsExact}
use Rattle.gr1_law.specs.Layers.{IsLeastNumber}
use Rattle.gr1_sys.specs.Solution.{meet}
use Rattle.gr1_sys.specs.Held.{MakesRegions}
use Rattle.gr1_sys.proofs.Greatest.{greatest_of-greatest}
use Rattle.gr1_sys.proofs.Lists.{as_held, length_map, length_below, weight_as-more}
use Rattle.gr1_sys.proofs.Turned.{meet-same}
use Rattle.gr1_sys.proofs.Winning.{both_grows, meet_grows, meet_inside}
use Rattle.gr1_env.specs.declared.layers.EnvGoal.{EnvGoal}
use Rattle.gr1_env.specs.declared.holds.Iteration.{Iteration}
use Rattle.gr1_env.specs.Solution.{at, delay_on, last_delay_on, cover_of, hold_value_on, hold_on, delay_sets}
use Rattle.gr1_env.specs.Held.{last_of, list_regions, list_sets, AreLeast, HasDelays, HaveDelays, TurnsTo, last_set, HasHold, Steps}
use Rattle.gr1_env.proofs.Gathered.{gather-at, all_of-push, all_of-at, makes_next, last_of-map, last_of-below}
use Rattle.gr1_env.proofs.Rising.{delay_on-last, last_delay_on-grows}

-- ---- the value of the equation

module _ (g : GameData) (base : StateSet) where
  pub cover_of-inside : (y : StateSet) → IsPartOf (cover_of g base y) (all_states g)
  cover_of-inside y s e = (and_parts _ _ (and_parts (pre_env g y s) (base s) e).0).0

  cover_of-grows : (t u : StateSet) → IsPartOf t u → IsPartOf (cover_of g base t) (cover_of g base u)
  cover_of-grows t u part = both_grows (pre_env g t) base (pre_env g u) base (pre_env_grows g t u part) (λ s e. e)

  module _ (asms : List StateSet) where
    pub hold_value_on-grows : (t u : StateSet) → IsPartOf t u → IsPartOf (hold_value_on g base asms t) (hold_value_on g base asms u)
    hold_value_on-grows t u part = meet_grows g _ _ (λ i. last_delay_on-grows g (at asms i) (cover_of g base t) (cover_of g base u) (cover_of-grows t u part)) (length asms)

    pub hold_value_on-inside : (t : StateSet) → IsPartOf (hold_value_on g base asms t) (all_states g)
    hold_value_on-inside t = meet_inside g _ (length asms)

    pub hold_on-greatest : IsGreatest (hold_value_on g base asms) (hold_on g base asms)
    unfolding hold_on
    hold_on-greatest = greatest_of-greatest g (hold_value_on g base asms) hold_value_on-grows hold_value_on-inside

    -- where a value on the way down equals the one that follows, it is the hold
    pub hold_on-last : (y : StateSet) → IsFalling g (hold_value_on g base asms) y → y ≡ hold_value_on g base asms y → y ≡ hold_on g base asms
    hold_on-last y falling settled = greatest-one (hold_value_on g base asms) y (hold_on g base asms) (falling-last g (hold_value_on g base asms) hold_value_on-grows hold_value_on-inside y falling settled) hold_on-greatest

-- ---- assumption by assumption

module _ {R : Type 0} where
  sets_counted : (g : GameData) (cover : StateSet) (asms : List StateSet) (n : ℕ) (v : Vec R Global) → length v.items ≡ length (delay_sets g cover (at asms n) (vec_len v))
  sets_counted g cover asms n v = let mapped = length_map (λ r. delay_on g cover (at asms n) (suc r)) (below (vec_len v)) in omega (arith, mapped, length_below (vec_len v))

module _ {R M : Type 0} where
  -- a call told of the sets as they stand then
  pub delays_at : (g : GameData) (k new : Kept R M) (cover asm c a : StateSet) (rs : List R) → k.game ≡ g → cover ≡ c → asm ≡ a → HasDelays k.game k new cover asm rs → HasDelays g k new c a rs
  delays_at g k new cover asm c a rs game cover_is asm_is has =
      subst (λ t. HasDelays g k new c t rs) asm_is (subst (λ t. HasDelays g k new t asm rs) cover_is (subst (λ h. HasDelays h k new cover asm rs) game has))

  pub have_at : (g : GameData) (k new : Kept R M) (cover c : StateSet) (asms bs : List StateSet) (xs : List (Vec R Global)) → k.game ≡ g → cover ≡ c → asms ≡ bs → HaveDelays k.game k new cover asms xs → HaveDelays g k new c bs xs
  have_at g k new cover c asms bs xs game cover_is asms_are has =
      subst (λ ts. HaveDelays g k new c ts xs) asms_are (subst (λ t. HaveDelays g k new t asms xs) cover_is (subst (λ h. HaveDelays h k new cover asms xs) game has))

  module _ (g : GameData) (first k new : Kept R M) (cover : StateSet) (asms : List StateSet) (xs : List (Vec R Global)) (v : Vec R Global) where
    counted : length v.items ≡ vec_len v
    counted = omega arith

    pub more_made : MakesRegions first k (list_regions xs) (list_sets g cover asms xs) → HasDelays g k new cover (at asms (length xs)) v.items →
        MakesRegions first new (list_regions (xs ++ v ∷ [])) (list_sets g cover asms (xs ++ v ∷ []))
    more_made made more =
        makes_next first k new (λ i (v : Vec R Global). v.items) (λ i (v : Vec R Global). delay_sets g cover (at asms i) (vec_len v)) xs v made
        (subst (λ n. MakesRegions k new v.items (delay_sets g cover (at asms (length xs)) n)) counted more.made)

    pub more_least : AreLeast g cover asms xs → HasDelays g k new cover (at asms (length xs)) v.items → AreLeast g cover asms (xs ++ v ∷ [])
    more_least least more =
        all_of-push (λ i (u : Vec R Global). IsLeastNumber (λ r. delay_on g cover (at asms i) r ≡ delay_on g cover (at asms i) (suc r)) (vec_len u)) xs v least
        (subst (IsLeastNumber (λ r. delay_on g cover (at asms (length xs)) r ≡ delay_on g cover (at asms (length xs)) (suc r))) counted more.least)

  -- ---- what the last iterates have in common

  module _ (g : GameData) (first k : Kept R M) (none : R) (cover : StateSet) (asms : List StateSet) (exact : IsExact k) (empty : k.set none ≡ no_states) (proper : IsPartOf cover (all_states g)) where
    last_stands : (xs : List (Vec R Global)) → map k.set (list_regions xs) ≡ list_sets g cover asms xs → AreLeast g cover asms xs → (i : ℕ) (v : Vec R Global) → i < length xs → last_set k none xs i ≡ last_delay_on g cover (at asms i)
    last_stands xs are least i v before =
        get_or-map (λ (u : Vec R Global). k.set (last_of none u.items)) xs i v no_states before ∙
        (last_of-map k.set none (get_or xs i v).items ∙
        (ap (λ t. last_of t (map k.set (get_or xs i v).items)) empty ∙
        (ap (last_of no_states) (gather-at k.set (λ n (u : Vec R Global). u.items) (λ n (u : Vec R Global). delay_sets g cover (at asms n) (vec_len u)) (sets_counted g cover asms) xs are i v before) ∙
        (last_of-below (delay_on g cover (at asms i)) (vec_len (get_or xs i v)) ∙
        delay_on-last g cover (at asms i) proper (vec_len (get_or xs i v)) (all_of-at _ xs least i v before).here))))

    pub last_sets_stand : (xs : List (Vec R Global)) → HaveDelays g first k cover asms xs → (i : ℕ) → i < length xs → last_set k none xs i ≡ last_delay_on g cover (at asms i)
    last_sets_stand xs has i before = by_lists xs refl
      where
        by_lists : (vs : List (Vec R Global)) → xs ≡ vs → last_set k none xs i ≡ last_delay_on g cover (at asms i)
        by_lists [] e = absurd (omega (arith, before, ap (λ (vs : List (Vec R Global)). length vs) e))
        by_lists (v ∷ vs) e = last_stands xs (as_held k (list_regions xs) (list_sets g cover asms xs) exact has.made.counted (λ w. omega (arith, has.made.held w))) has.least i v before

  pub turns_to : (g : GameData) (k k1 k2 : Kept R M) (none next : R) (base y : StateSet) (asms : List StateSet) (xs : List (Vec R Global)) → IsExact k1 → k1.game ≡ g → k1.set none ≡ no_states →
      HaveDelays g k k1 (cover_of g base y) asms xs → MakesRegion k1 k2 next (meet k1.game (last_set k1 none xs) (length xs)) → TurnsTo g k k2 base y asms xs next
  turns_to g k k1 k2 none next base y asms xs exact game empty has met =
      let met_is : meet k1.game (last_set k1 none xs) (length xs) ≡ hold_value_on g base asms y =
      ap (λ h. meet h (last_set k1 none xs) (length xs)) game ∙
      (meet-same g (last_set k1 none xs) (λ i. last_delay_on g (cover_of g base y) (at asms i)) (length xs) (last_sets_stand g k k1 none (cover_of g base y) asms exact empty (cover_of-inside g base y) xs has) ∙
      ap (meet g (λ i. last_delay_on g (cover_of g base y) (at asms i))) has.counted) in
      let made : MakesRegion k1 k2 next (hold_value_on g base asms y) = subst (MakesRegion k1 k2 next) met_is met in
      record {
        made = record {
          held = λ w. omega (arith, made.held w, has.made.held w, weight_as-more next (list_regions xs) (hold_value_on g base asms y) (list_sets g (cover_of g base y) asms xs) w);
          counted = (let e = has.made.counted in omega arith);
          jam = made.jam;
        };
        counted = has.counted;
        least = has.least;
      }

-- ---- the hold

module _ {G R M : Type 0} where
  pub hold_made : (g : GameData) (first k new : Kept R M) (base : StateSet) (asms : List StateSet) (y : R) (e : EnvGoal G R M) → MakesRegion first k y (k.set y) → IsFalling g (hold_value_on g base asms) (k.set y) →
      e.y ≡ y → k.set y ≡ hold_value_on g base asms (k.set y) → HaveDelays g k new (cover_of g base (k.set y)) asms e.x.items → HasHold g first new base asms e
  hold_made g first k new base asms y e made falling here settled has =
      let is = hold_on-last g base asms (k.set y) falling settled in
      let y_made : MakesRegion first k y (hold_on g base asms) = subst (MakesRegion first k y) is made in
      let hold_made : MakesRegion first k e.y (hold_on g base asms) = subst (λ r. MakesRegion first k r (hold_on g base asms)) (sym here) y_made in
      let have : HaveDelays g k new (cover_of g base (hold_on g base asms)) asms e.x.items = subst (λ t. HaveDelays g k new (cover_of g base t) asms e.x.items) is has in
      record {
        made = record {
          held = λ w. omega (arith, hold_made.held w, have.made.held w, weight_as-more e.y (list_regions e.x.items) (hold_on g base asms) (list_sets g (cover_of g base (hold_on g base asms)) asms e.x.items) w);
          counted = (let e = have.made.counted in omega arith);
          jam = have.made.jam;
        };
        whole = record { counted = have.counted; least = have.least };
      }

  -- a call told of the sets as they stand then
  pub steps_at : (g : GameData) (k new : Kept R M) (base b : StateSet) (asms bs : List StateSet) (y : R) (set : StateSet) (s : Iteration G R M) → k.game ≡ g → base ≡ b → asms ≡ bs → Steps k.game k new base asms y set s → Steps g k new b bs y set s
  steps_at g k new base b asms bs y set s game base_is asms_are steps =
      subst (λ ts. Steps g k new b ts y set s) asms_are (subst (λ t. Steps g k new t asms y set s) base_is (subst (λ h. Steps h k new base asms y set s) game steps))
