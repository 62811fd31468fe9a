-- What is told of a moment where a call halts, and what the caller tells of it.
use Rattle.std.proofs.Common.{◌≡◌, ℕ, zero, suc, ◌+◌, ◌<◌, List, [], ◌∷◌, ◌++◌, map, length, Result, Ok, Err, IfErr, IsErrAnd, ap, sym, ◌∙◌, refl, subst, arith}
use Rattle.std.proofs.lemmas.List.{map-append}
use Rattle.spec_model.specs.Games.{GameData}
use Rattle.spec_model.specs.Steps.{below}
use Rattle.spec_model.specs.Sets.{StateSet}
use Rattle.regions.specs.declared.types.Halt.{Halt}
use Rattle.regions.specs.declared.types.Halt.TheVariants.{Budget, Memory}
use Rattle.regions.specs.Kept.{Kept, Meaning, States, weigh, weight, HasRegion, MakesRegion, IsExact, Each, Call, All, NoStates, Halts, meanings, jam_after}
use Rattle.regions.proofs.Holding.{weigh_meanings, set_is}
use Rattle.gr1_sys.specs.Held.{weight_as, MakesRegions}
use Rattle.gr1_sys.specs.Moment.{IsGoal}
use Rattle.gr1_sys.proofs.Lists.{set_kept}
use Rattle.gr1_env.specs.Moment.{Moment, IsNamed, IsValueOfY}
use Rattle.gr1_env.specs.Told.{IsOfMoment, AsksOfIterates, TellsHalt, TellsHold, TellsLayer, TellsLayers, layer_number, moment_at}

-- what the exit of a `?` hands on
pub handed_on : {T : Type 0} (r : Result T Halt) (halt : Halt) (P : Halt → Type 0) → IsErrAnd r (λ y. y ≡ halt) → P halt → IfErr r P
handed_on (Ok x) halt P is told = tt
handed_on (Err y) halt P is told = subst P (sym is) told

-- ---- lists of named sets

-- each of the sets is one of that moment
abbrev pub AreNamed : GameData → Moment → List StateSet → Type 0
AreNamed g m ss = Each (IsOfMoment g m) (map States ss)

weigh-append : (w : Meaning → ℕ) (ms ns : List Meaning) → weigh w (ms ++ ns) ≡ weigh w ms + weigh w ns
weigh-append w [] ns = omega arith
weigh-append w (m ∷ ms) ns = let rest = weigh-append w ms ns in omega arith

each-append : (P : Meaning → Type 0) (ms ns : List Meaning) → Each P ms → Each P ns → Each P (ms ++ ns)
each-append P [] ns first second = second
each-append P (m ∷ ms) ns first second = (first.0, each-append P ms ns first.1 second)

pub named-append : (g : GameData) (m : Moment) (ss ts : List StateSet) → AreNamed g m ss → AreNamed g m ts → AreNamed g m (ss ++ ts)
named-append g m [] ts first second = second
named-append g m (s ∷ ss) ts first second = (first.0, named-append g m ss ts first.1 second)

pub named_below : (g : GameData) (m : Moment) (f : ℕ → StateSet) (n : ℕ) → ((i : ℕ) → i < n → IsNamed g m (f i)) → AreNamed g m (map f (below n))
named_below g m f zero each = tt
named_below g m f (suc n) each =
    subst (AreNamed g m) (sym (map-append f (below n) (n ∷ []))) (named-append g m (map f (below n)) (f n ∷ []) (named_below g m f n (λ i before. each i (omega arith))) (each n (omega arith), tt))

module _ {R M : Type 0} (g : GameData) where
  module _ (m : Moment) where
    -- ---- a call's own word

    pub told : (old new : Kept R M) (asked : Call) (arguments : List Meaning) (halt : Halt) → new.jam ≡ jam_after old asked arguments halt →
        Each (IsOfMoment g m) arguments → AsksOfIterates g m asked arguments → TellsHalt g old new m halt
    told old new asked arguments Memory jam named asks = jam
    told old new asked arguments Budget jam named asks =
        record {
          jam = record { call = asked; arguments = arguments; held = meanings old };
          told = jam;
          adds = record { besides = []; held = λ w. (let e = weigh_meanings old w in omega arith); named = tt; arguments = named };
          asked = asks;
        }

    -- a call without arguments
    pub told_all : {T : Type 0} (old new : Kept R M) (r : Result T Halt) → IfErr r (Halts old new All []) → IfErr r (TellsHalt g old new m)
    told_all old new (Ok x) halts = tt
    told_all old new (Err halt) halts = told old new All [] halt halts.jam tt tt

    pub told_none : {T : Type 0} (old new : Kept R M) (r : Result T Halt) → IfErr r (Halts old new NoStates []) → IfErr r (TellsHalt g old new m)
    told_none old new (Ok x) halts = tt
    told_none old new (Err halt) halts = told old new NoStates [] halt halts.jam tt tt

    -- ---- a caller's word

    -- what was told stays told while more is spent
    pub still_told : (first new last : Kept R M) (halt : Halt) → last.jam ≡ new.jam → TellsHalt g first new m halt → TellsHalt g first last m halt
    still_told first new last Memory same tells = same ∙ tells
    still_told first new last Budget same tells = record { jam = tells.jam; told = same ∙ tells.told; adds = tells.adds; asked = tells.asked }

    -- what had been made before is besides
    told_past : (first k new last : Kept R M) (besides : List Meaning) (halt : Halt) → last.jam ≡ new.jam →
        ((w : Meaning → ℕ) → weight k (λ i m. w m) ≡ weigh w besides + weight first (λ i m. w m)) → Each (IsOfMoment g m) besides → TellsHalt g k new m halt → TellsHalt g first last m halt
    told_past first k new last besides Memory same sums named tells = same ∙ tells
    told_past first k new last besides Budget same sums named tells =
        record {
          jam = tells.jam;
          told = same ∙ tells.told;
          adds = record {
            besides = tells.adds.besides ++ besides;
            held = λ w. omega (arith, tells.adds.held w, sums w, weigh-append w tells.adds.besides besides);
            named = each-append (IsOfMoment g m) tells.adds.besides besides tells.adds.named named;
            arguments = tells.adds.arguments;
          };
          asked = tells.asked;
        }

    pub past_one : (first k new last : Kept R M) (a : R) (s : StateSet) (halt : Halt) → MakesRegion first k a s → IsNamed g m s → last.jam ≡ new.jam → TellsHalt g k new m halt → TellsHalt g first last m halt
    past_one first k new last a s halt made named same tells = told_past first k new last (States s ∷ []) halt same (λ w. made.held (λ i m. w m)) (named, tt) tells

    weigh_regions : (k : Kept R M) (rs : List R) (ss : List StateSet) (w : Meaning → ℕ) → length rs ≡ length ss → weight_as {R = R} {M = M} rs ss (λ i m. w m) ≡ weigh w (map States ss)
    unfolding weight_as
    weigh_regions k [] [] w e = refl
    weigh_regions k [] (s ∷ ss) w e = absurd (omega arith)
    weigh_regions k (r ∷ rs) [] w e = absurd (omega arith)
    weigh_regions k (r ∷ rs) (s ∷ ss) w e = ap (λ n. w (States s) + n) (weigh_regions k rs ss w (omega arith))

    pub past_many : (first k new last : Kept R M) (rs : List R) (ss : List StateSet) (halt : Halt) → MakesRegions first k rs ss → AreNamed g m ss → last.jam ≡ new.jam → TellsHalt g k new m halt → TellsHalt g first last m halt
    past_many first k new last rs ss halt made named same tells =
        told_past first k new last (map States ss) halt same (λ w. omega (arith, made.held (λ i m. w m), weigh_regions k rs ss w made.counted)) named tells

    -- a region that was made was to be joined with another
    pub joined_told : (first k new : Kept R M) (a b : R) (s : StateSet) (asked : Call) (halt : Halt) → IsExact k → HasRegion first b → MakesRegion first k a s →
        IsNamed g m s → IsNamed g m (first.set b) → AsksOfIterates g m asked (States (k.set a) ∷ States (k.set b) ∷ []) →
        new.jam ≡ jam_after k asked (States (k.set a) ∷ States (k.set b) ∷ []) halt → TellsHalt g first new m halt
    joined_told first k new a b s asked halt exact here made a_named b_named asks jam =
        let a_is = set_is k a s exact (λ w. omega (arith, made.held w)) in
        let b_is = set_kept first k b exact (λ w. omega (arith, made.held w)) here in
        past_one first k new new a s halt made a_named refl
        (told k new asked (States (k.set a) ∷ States (k.set b) ∷ []) halt jam (subst (IsNamed g m) (sym a_is) a_named, (subst (IsNamed g m) (sym b_is) b_named, tt)) asks)

  -- ---- for some hold

  module _ (first k new last : Kept R M) where
    pub at_hold : (a j : ℕ) (y : StateSet) (halt : Halt) → IsValueOfY g (layer_number g a) j y → TellsHalt g first new (moment_at g a j y) halt → TellsHold g first new a j halt
    at_hold a j y Memory value tells = tells
    at_hold a j y Budget value tells = (y, (value, tells))

    pub at_layer : (a j : ℕ) (halt : Halt) → IsGoal g j → TellsHold g first new a j halt → TellsLayer g first new a halt
    at_layer a j Memory goal_in tells = tells
    at_layer a j Budget goal_in tells = (j, (goal_in, tells))

    pub at_layers : (a : ℕ) (halt : Halt) → TellsLayer g first new a halt → TellsLayers g first new halt
    at_layers a Memory tells = tells
    at_layers a Budget tells = (a, tells)

    -- likewise, past regions that are named at each value of the hold, or at each hold
    pub hold_past : (a j : ℕ) (rs : List R) (ss : List StateSet) (halt : Halt) → MakesRegions first k rs ss → ((y : StateSet) → AreNamed g (moment_at g a j y) ss) → last.jam ≡ new.jam →
        TellsHold g k new a j halt → TellsHold g first last a j halt
    hold_past a j rs ss Memory made named same tells = same ∙ tells
    hold_past a j rs ss Budget made named same tells = (tells.0, (tells.1.0, past_many (moment_at g a j tells.0) first k new last rs ss Budget made (named tells.0) same tells.1.1))

    pub hold_past_one : (a j : ℕ) (r : R) (s : StateSet) (halt : Halt) → MakesRegion first k r s → ((y : StateSet) → IsNamed g (moment_at g a j y) s) → last.jam ≡ new.jam → TellsHold g k new a j halt → TellsHold g first last a j halt
    hold_past_one a j r s Memory made named same tells = same ∙ tells
    hold_past_one a j r s Budget made named same tells = (tells.0, (tells.1.0, past_one (moment_at g a j tells.0) first k new last r s Budget made (named tells.0) same tells.1.1))

    pub layer_past : (a : ℕ) (rs : List R) (ss : List StateSet) (halt : Halt) → MakesRegions first k rs ss → ((j : ℕ) (y : StateSet) → AreNamed g (moment_at g a j y) ss) → last.jam ≡ new.jam →
        TellsLayer g k new a halt → TellsLayer g first last a halt
    layer_past a rs ss Memory made named same tells = same ∙ tells
    layer_past a rs ss Budget made named same tells = (tells.0, (tells.1.0, hold_past a tells.0 rs ss Budget made (named tells.0) same tells.1.1))

    pub layer_past_one : (a : ℕ) (r : R) (s : StateSet) (halt : Halt) → MakesRegion first k r s → ((j : ℕ) (y : StateSet) → IsNamed g (moment_at g a j y) s) → last.jam ≡ new.jam → TellsLayer g k new a halt → TellsLayer g first last a halt
    layer_past_one a r s Memory made named same tells = same ∙ tells
    layer_past_one a r s Budget made named same tells = (tells.0, (tells.1.0, hold_past_one a tells.0 r s Budget made (named tells.0) same tells.1.1))

    pub layers_past : (rs : List R) (ss : List StateSet) (halt : Halt) → MakesRegions first k rs ss → ((a j : ℕ) (y : StateSet) → AreNamed g (moment_at g a j y) ss) → last.jam ≡ new.jam →
        TellsLayers g k new halt → TellsLayers g first last halt
    layers_past rs ss Memory made named same tells = same ∙ tells
    layers_past rs ss Budget made named same tells = (tells.0, layer_past tells.0 rs ss Budget made (named tells.0) same tells.1)

  pub layer_still : (first new last : Kept R M) (a : ℕ) (halt : Halt) → last.jam ≡ new.jam → TellsLayer g first new a halt → TellsLayer g first last a halt
  layer_still first new last a Memory same tells = same ∙ tells
  layer_still first new last a Budget same tells = (tells.0, (tells.1.0, (tells.1.1.0, (tells.1.1.1.0, still_told (moment_at g a tells.0 tells.1.1.0) first new last Budget same tells.1.1.1.1))))
