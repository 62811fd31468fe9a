-- Regions and moves that are made one after the other, and what is told where one isn't.
use Rattle.std.proofs.Common.{◌≡◌, ℕ, zero, suc, ◌+◌, ◌≤◌, ◌<◌, List, [], ◌∷◌, ◌++◌, map, length, get_or, take, None, inl, inr, ap, sym, ◌∙◌, refl, subst, arith}
use Rattle.std.proofs.lemmas.List.{take_more}
use Rattle.spec_model.specs.declared.value.Owner.{Owner}
use Rattle.spec_model.specs.declared.value.Owner.TheVariants.{Env, Sys}
use Rattle.spec_model.specs.Sets.{StateSet}
use Rattle.regions.specs.declared.types.Halt.{Halt}
use Rattle.regions.specs.declared.types.Halt.TheVariants.{Budget, Memory}
use Rattle.regions.specs.declared.types.When.{When}
use Rattle.regions.specs.Kept.{Kept, Item, Region, Meaning, States, Each, weigh, weight, HasRegion, HoldsBesides, Makes, Halts, Call, All, Holding, IsExact, meanings}
use Rattle.regions.proofs.Holding.{held_as, set_is, weigh_meanings}
use Rattle.gr1_sys.specs.Held.{HasEach}
use Rattle.strategy_parts.specs.Owned.{Every, weight_as, HasAll, SpendsAll, MakesAll, region_items}
use Rattle.strategy_parts.specs.Told.{IsIn, Tale, IsMade, IsMadeBy, AsksOf, AsksFor, AreTargets, TellsHalt, leadings, moves_meant}
use Rattle.strategy_parts.proofs.Owning.{length_map, length_both, weight_as-append, weight_as-one, weight_as-none, weight_as-more, all_as, spent_as}

-- ---- of each

module _ {X : Type 0} (P : X → Type 0) where
  pub every_append : (xs ys : List X) → Every P (xs ++ ys) → Every P xs × Every P ys
  every_append [] ys all = (tt, all)
  every_append (x ∷ xs) ys all = let rest = every_append xs ys all.1 in ((all.0, rest.0), rest.1)

  pub every_both : (xs ys : List X) → Every P xs → Every P ys → Every P (xs ++ ys)
  every_both [] ys a b = b
  every_both (x ∷ xs) ys a b = (a.0, every_both xs ys a.1 b)

  pub every_take : (i : ℕ) (xs : List X) → Every P xs → Every P (take i xs)
  every_take zero xs all = tt
  every_take (suc i) [] all = tt
  every_take (suc i) (x ∷ xs) all = (all.0, every_take i xs all.1)

  pub every_at : (xs : List X) (i : ℕ) (x : X) → Every P xs → i < length xs → x ≡ get_or xs i x → P x
  every_at [] i x all below is = absurd (omega arith)
  every_at (y ∷ xs) zero x all below is = subst P (sym is) all.0
  every_at (y ∷ xs) (suc i) x all below is = every_at xs i x all.1 (omega arith) is

weigh-append : (w : Meaning → ℕ) (ms ns : List Meaning) → weigh w (ms ++ ns) ≡ weigh w ms + weigh w ns
weigh-append w [] ns = omega arith
weigh-append w (m ∷ ms) ns = let rest = weigh-append w ms ns in omega arith

pub each_append : (P : Meaning → Type 0) (ms ns : List Meaning) → Each P ms → Each P ns → Each P (ms ++ ns)
each_append P [] ns a b = b
each_append P (m ∷ ms) ns a b = (a.0, each_append P ms ns a.1 b)

-- each of a list is one of it
every_more : {X : Type 0} (f : X → StateSet) (s : StateSet) (ss : List StateSet) (xs : List X) → Every (λ x. IsIn (f x) ss) xs → Every (λ x. IsIn (f x) (s ∷ ss)) xs
every_more f s ss [] all = tt
every_more f s ss (x ∷ xs) all = (inr all.0, every_more f s ss xs all.1)

pub every_in : {X : Type 0} (f : X → StateSet) (xs : List X) → Every (λ x. IsIn (f x) (map f xs)) xs
every_in f [] = tt
every_in f (x ∷ xs) = (inl refl, every_more f (f x) (map f xs) xs (every_in f xs))

-- so sets that are among those of the tale are made
pub made_sets : (tale : Tale) (sets : List StateSet) → Every (λ s. IsIn s tale.sets) sets → Each (IsMade tale) (map States sets)
made_sets tale [] all = tt
made_sets tale (s ∷ sets) all = (made_one tale.who all.0, made_sets tale sets all.1)
  where
    made_one : (who : Owner) → IsIn s tale.sets → IsMadeBy who tale.sets tale.targets (States s)
    made_one Env is = is
    made_one Sys is = is

-- so are moves into a target
pub made_move : (tale : Tale) (when : When) (s : StateSet) → IsIn s (tale.targets when) → IsMade tale (moves_meant tale.who when s)
made_move tale when s is = of tale.who
  where
    of : (who : Owner) → IsMadeBy who tale.sets tale.targets (moves_meant who when s)
    of Env = is
    of Sys = is

-- these calls are made without an argument
pub asks_all : (tale : Tale) → AsksOf tale All []
asks_all tale = of tale.who
  where
    of : (who : Owner) → AsksFor who tale.targets All []
    of Env = refl
    of Sys = refl

pub asks_holding : (tale : Tale) → AsksOf tale Holding []
asks_holding tale = of tale.who
  where
    of : (who : Owner) → AsksFor who tale.targets Holding []
    of Env = refl
    of Sys = refl

-- one more of a list is taken
pub take_next : {X : Type 0} (xs : List X) (i : ℕ) (x : X) → i < length xs → x ≡ get_or xs i x → take (i + 1) xs ≡ take i xs ++ x ∷ []
take_next xs i x below is = take_more xs i x below ∙ ap (λ y. take i xs ++ y ∷ []) (sym is)

module _ {R M : Type 0} where
  pub has_every : (k : Kept R M) (rs : List R) → HasEach k rs → Every (HasRegion k) rs
  has_every k [] each = tt
  has_every k (r ∷ rs) each = (each.0, has_every k rs each.1)

  pub has_each : (k : Kept R M) (rs : List R) → Every (HasRegion k) rs → HasEach k rs
  has_each k [] all = tt
  has_each k (r ∷ rs) all = (all.0, has_each k rs all.1)

  -- ---- what stays where more is held

  module _ (old new : Kept R M) (exact : IsExact new) (more : (w : Item R M → Meaning → ℕ) → weight old w ≤ weight new w) where
    pub region_stays : (r : R) → HasRegion old r → HasRegion new r
    region_stays r here w = omega (arith, here w, more (λ i m. w i))

    pub set_stays : (r : R) → HasRegion old r → new.set r ≡ old.set r
    set_stays r here = set_is new r (old.set r) exact (λ w. omega (arith, held_as old (Region r) here w, more w))

    pub each_stays : (rs : List R) → HasEach old rs → HasEach new rs
    each_stays [] each = tt
    each_stays (r ∷ rs) each = (region_stays r each.0, each_stays rs each.1)

    pub targets_stay : (tale : Tale) (when : When) (rs : List R) → HasEach old rs → AreTargets tale when old rs → AreTargets tale when new rs
    targets_stay tale when [] each all = tt
    targets_stay tale when (r ∷ rs) each all = (subst (λ (s : StateSet). IsIn s (tale.targets when)) (sym (set_stays r each.0)) all.0, targets_stay tale when rs each.1 all.1)

    pub leadings_stay : (who : Owner) (when : When) (rs : List R) → HasEach old rs → leadings new who when rs ≡ leadings old who when rs
    leadings_stay who when [] each = refl
    leadings_stay who when (r ∷ rs) each = ap (λ (s : StateSet). moves_meant who when s ∷ leadings new who when rs) (set_stays r each.0) ∙ ap (λ ms. moves_meant who when (old.set r) ∷ ms) (leadings_stay who when rs each.1)

  -- ---- what is made

  pub nothing_made : (k : Kept R M) → k.jam ≡ None → MakesAll k k [] []
  nothing_made k free = record { held = λ w. omega (arith, weight_as-none {R = R} {M = M} w); counted = refl; jam = free }

  pub makes_one : (old new : Kept R M) (i : Item R M) (m : Meaning) → Makes old new i m → MakesAll old new (i ∷ []) (m ∷ [])
  makes_one old new i m made = record { held = λ w. omega (arith, made.held w, weight_as-one i m w); counted = refl; jam = made.jam }

  pub makes_both : (first k new : Kept R M) (is js : List (Item R M)) (ms ns : List Meaning) → MakesAll first k is ms → MakesAll k new js ns → MakesAll first new (is ++ js) (ms ++ ns)
  makes_both first k new is js ms ns made more =
      record {
        held = λ w. omega (arith, made.held w, more.held w, weight_as-append is js ms ns w made.counted);
        counted = (let a = made.counted in let b = more.counted in omega (arith, length_both is js, length_both ms ns));
        jam = more.jam;
      }

  -- one more, in lists that are told apart
  pub makes_next : (first k new : Kept R M) (is js all : List (Item R M)) (ms ns meant : List Meaning) → all ≡ is ++ js → meant ≡ ms ++ ns → MakesAll first k is ms → MakesAll k new js ns → MakesAll first new all meant
  makes_next first k new is js all ms ns meant is_all is_meant made more =
      subst (λ (list : List (Item R M)). MakesAll first new list meant) (sym is_all) (subst (MakesAll first new (is ++ js)) (sym is_meant) (makes_both first k new is js ms ns made more))

  -- the one that was made last stands first
  pub makes_before : (first k new : Kept R M) (i : Item R M) (is : List (Item R M)) (m : Meaning) (ms : List Meaning) → MakesAll first k is ms → Makes k new i m → MakesAll first new (i ∷ is) (m ∷ ms)
  makes_before first k new i is m ms made more =
      record { held = λ w. omega (arith, made.held w, more.held w, weight_as-more i is m ms w); counted = (let e = made.counted in omega arith); jam = more.jam }

  -- what was made is still held where a call gave up
  pub still_all : (first k k1 : Kept R M) (is : List (Item R M)) (ms : List Meaning) → IsExact k1 → MakesAll first k is ms → HoldsBesides k k1 [] → HasAll k1 is
  still_all first k k1 is ms exact made halted = all_as k1 is ms exact made.counted (λ w. omega (arith, made.held w, halted w))

  -- and then it is spent
  pub made_and_spent : (first k k1 k2 : Kept R M) (is : List (Item R M)) (ms : List Meaning) → IsExact k1 → MakesAll first k is ms → HoldsBesides k k1 [] → SpendsAll k1 k2 is → HoldsBesides first k2 []
  made_and_spent first k k1 k2 is ms exact made halted gone =
      let left = spent_as k1 k2 is ms exact made.counted (λ w. omega (arith, made.held w, halted w)) gone in
      λ w. omega (arith, left w, halted w, made.held w)

  -- ---- what is told

  pub made_moves : (k : Kept R M) (tale : Tale) (when : When) (rs : List R) → AreTargets tale when k rs → Each (IsMade tale) (leadings k tale.who when rs)
  made_moves k tale when [] all = tt
  made_moves k tale when (r ∷ rs) all = (made_move tale when (k.set r) all.0, made_moves k tale when rs all.1)

  weigh_named : (is : List (Item R M)) (ms : List Meaning) (w : Meaning → ℕ) → length is ≡ length ms → weight_as is ms (λ i m. w m) ≡ weigh w ms
  unfolding weight_as
  weigh_named [] [] w e = refl
  weigh_named [] (m ∷ ms) w e = absurd (omega arith)
  weigh_named (i ∷ is) [] w e = absurd (omega arith)
  weigh_named (i ∷ is) (m ∷ ms) w e = ap (λ n. w m + n) (weigh_named is ms w (omega arith))

  -- a call halted after some were made
  pub told : (first k new : Kept R M) (tale : Tale) (is : List (Item R M)) (ms : List Meaning) (asked : Call) (arguments : List Meaning) (halt : Halt) → MakesAll first k is ms → Halts k new asked arguments halt →
      Each (IsMade tale) ms → AsksOf tale asked arguments → TellsHalt first new tale halt
  told first k new tale is ms asked arguments Memory made halts are asks = halts.jam
  told first k new tale is ms asked arguments Budget made halts are asks =
      record {
        jam = record { call = asked; arguments = arguments; held = meanings k };
        told = halts.jam;
        besides = ms;
        held = λ w. omega (arith, weigh_meanings k w, made.held (λ i m. w m), weigh_named is ms w made.counted);
        made = are;
        asked = asks;
      }

  -- likewise a call that tells of it
  pub told_after : (first k new : Kept R M) (tale : Tale) (is : List (Item R M)) (ms : List Meaning) (halt : Halt) → MakesAll first k is ms → Each (IsMade tale) ms →
      TellsHalt k new tale halt → TellsHalt first new tale halt
  told_after first k new tale is ms Memory made are tells = tells
  told_after first k new tale is ms Budget made are tells =
      record {
        jam = tells.jam;
        told = tells.told;
        besides = tells.besides ++ ms;
        held = λ w. omega (arith, tells.held w, made.held (λ i m. w m), weigh_named is ms w made.counted, weigh-append w tells.besides ms);
        made = each_append (IsMade tale) tells.besides ms tells.made are;
        asked = tells.asked;
      }

  -- and what is spent then changes nothing of it
  pub told_still : (first k new : Kept R M) (tale : Tale) (halt : Halt) → new.jam ≡ k.jam → TellsHalt first k tale halt → TellsHalt first new tale halt
  told_still first k new tale Memory e tells = e ∙ tells
  told_still first k new tale Budget e tells =
      record { jam = tells.jam; told = e ∙ tells.told; besides = tells.besides; held = tells.held; made = tells.made; asked = tells.asked }

module _ {R : Type 0} (M : Type 0) where
  pub counted_regions : (rs : List R) (sets : List StateSet) → length (region_items {M = M} rs) ≡ length (map States sets) → length rs ≡ length sets
  counted_regions rs sets e =
      let items : length (region_items {M = M} rs) ≡ length rs = length_map {X = R} {Y = Item R M} Region rs in
      let meant : length (map States sets) ≡ length sets = length_map {X = StateSet} {Y = Meaning} States sets in
      omega (arith, e, items, meant)
