-- One step of a list that grows by the moves into regions.
use Rattle.std.proofs.Common.{◌≡◌, ℕ, zero, suc, ◌+◌, ◌≤◌, ◌<◌, List, [], ◌∷◌, ◌++◌, length, get_or, take, Vec, refl, sym, ap, ◌∙◌, subst, arith}
use Rattle.std.proofs.lemmas.List.{append_assoc, map-append}
use Rattle.std.specs.declared.alloc.Global.{Global}
use Rattle.spec_model.specs.declared.value.Owner.{Owner}
use Rattle.spec_model.specs.declared.value.Owner.TheVariants.{Env}
use Rattle.regions.specs.declared.types.Halt.{Halt}
use Rattle.regions.specs.declared.types.When.{When}
use Rattle.regions.specs.Kept.{Kept, Item, Meaning, Each, weight, IsExact}
use Rattle.gr1_sys.specs.Held.{HasEach}
use Rattle.gr1_env.specs.declared.layers.EnvGoal.{EnvGoal}
use Rattle.gr1_env.specs.declared.layers.EnvLayer.{EnvLayer}
use Rattle.gr1_env.specs.Held.{gather, list_regions}
use Rattle.strategy_parts.specs.Owned.{Every}
use Rattle.strategy_parts.specs.Told.{Tale, IsMade, AreTargets, TellsHalt, leadings, moves_meant}
use Rattle.strategy_parts.proofs.Telling.{each_stays, leadings_stay, targets_stay, made_moves, told_after, every_append, every_both, take_next}
use Rattle.counterstrategy.specs.Settled.{tops}
use Rattle.counterstrategy.specs.Owned.{goal_lists, goal_delays, all_lists, all_delays}
use Rattle.counterstrategy.specs.Made.{Adds, AddsSome}
use Rattle.counterstrategy.proofs.Adding.{adds_then, some_then}

module _ {X R M : Type 0} (items : List X → List (Item R M)) (empty : items [] ≡ []) (split : (xs ys : List X) → items (xs ++ ys) ≡ items xs ++ items ys) (first k : Kept R M) (exact : IsExact k) (was mid : List X) (when : When) (done now : List R) (each : HasEach first now) (inv : Adds items first k was mid (leadings first Env when done)) where
  more : (w : Item R M → Meaning → ℕ) → weight first w ≤ weight k w
  more w = let made = inv.made in omega (arith, made.held w)

  pub step_each : HasEach k now
  step_each = each_stays first k exact more now each

  pub step_adds : (k1 : Kept R M) (is : List X) → Adds items k k1 mid is (leadings k Env when now) → Adds items first k1 was is (leadings first Env when (done ++ now))
  step_adds k1 is call =
      subst (Adds items first k1 was is) (sym (map-append (λ r. moves_meant Env when (first.set r)) done now))
      (adds_then items empty split first k k1 was mid is (leadings first Env when done) (leadings first Env when now) inv
      (subst (Adds items k k1 mid is) (leadings_stay first k exact more Env when now each) call))

  pub step_some : (k1 : Kept R M) (is : List X) → AddsSome items k k1 mid is → AddsSome items first k1 was is
  step_some k1 is call = some_then items empty split first k k1 was mid is (leadings first Env when done) inv call

  pub step_told : (k1 : Kept R M) (tale : Tale) (halt : Halt) → tale.who ≡ Env → AreTargets tale when first done → AreTargets tale when first now → (AreTargets tale when k now → TellsHalt k k1 tale halt) → TellsHalt first k1 tale halt
  step_told k1 tale halt who before after call =
      told_after first k k1 tale (items inv.more) (leadings first Env when done) halt inv.made
      (subst (λ (o : Owner). Each (IsMade tale) (leadings first o when done)) who (made_moves first tale when done before))
      (call (targets_stay first k exact more tale when now each after))

-- ---- regions that are gathered from several elements

module _ {X Y : Type 0} (P : Y → Type 0) (f : X → List Y) where
  pub every_gathered : (xs : List X) (i : ℕ) (x : X) → Every P (gather (λ n. f) xs) → i < length xs → x ≡ get_or xs i x → Every P (f x)
  every_gathered [] i x all below is = absurd (omega arith)
  every_gathered (y ∷ xs) zero x all below is = subst (λ (z : X). Every P (f z)) (sym is) (every_append P (f y) (gather (λ n. f) xs) all).0
  every_gathered (y ∷ xs) (suc i) x all below is = every_gathered xs i x (every_append P (f y) (gather (λ n. f) xs) all).1 (omega arith) is

  pub every_gathered_take : (i : ℕ) (xs : List X) → Every P (gather (λ n. f) xs) → Every P (gather (λ n. f) (take i xs))
  every_gathered_take zero xs all = tt
  every_gathered_take (suc i) [] all = tt
  every_gathered_take (suc i) (x ∷ xs) all =
      let parts = every_append P (f x) (gather (λ n. f) xs) all in every_both P (f x) (gather (λ n. f) (take i xs)) parts.0 (every_gathered_take i xs parts.1)

-- ---- the regions in lists of lists

module _ {R : Type 0} where
  pub list_regions-append : (xs ys : List (Vec R Global)) → list_regions (xs ++ ys) ≡ list_regions xs ++ list_regions ys
  list_regions-append [] ys = refl
  list_regions-append (x ∷ xs) ys = ap (λ rs. x.items ++ rs) (list_regions-append xs ys) ∙ sym (append_assoc x.items (list_regions xs) (list_regions ys))

module _ {G R M : Type 0} where
  goal_delays-lists : (goals : List (EnvGoal G R M)) → goal_delays goals ≡ list_regions (goal_lists goals)
  goal_delays-lists [] = refl
  goal_delays-lists (e ∷ goals) = ap (λ rs. list_regions e.x.items ++ rs) (goal_delays-lists goals) ∙ sym (list_regions-append e.x.items (goal_lists goals))

  pub all_delays-lists : (ls : List (EnvLayer G R M)) → all_delays ls ≡ list_regions (all_lists ls)
  all_delays-lists [] = refl
  all_delays-lists (l ∷ ls) =
      ap (λ rs. rs ++ all_delays ls) (goal_delays-lists l.goals.items)
      ∙ (ap (λ rs. list_regions (goal_lists l.goals.items) ++ rs) (all_delays-lists ls) ∙ sym (list_regions-append (goal_lists l.goals.items) (all_lists ls)))

  -- ---- the layers themselves

  pub tops_next : (ls : List (EnvLayer G R M)) (i : ℕ) (l : EnvLayer G R M) → i < length ls → l ≡ get_or ls i l → tops (take (i + 1) ls) ≡ tops (take i ls) ++ l.z ∷ []
  tops_next ls i l below is = ap tops (take_next ls i l below is) ∙ map-append (λ (l : EnvLayer G R M). l.z) (take i ls) (l ∷ [])

  pub every_tops_take : (Q : R → Type 0) (i : ℕ) (ls : List (EnvLayer G R M)) → Every Q (tops ls) → Every Q (tops (take i ls))
  every_tops_take Q zero ls all = tt
  every_tops_take Q (suc i) [] all = tt
  every_tops_take Q (suc i) (l ∷ ls) all = (all.0, every_tops_take Q i ls all.1)
