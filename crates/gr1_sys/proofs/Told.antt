-- What is told of a moment where a call halts, and what the caller tells of it.
use Rattle.std.proofs.Common.{◌≡◌, ℕ, zero, suc, ◌+◌, ◌<◌, List, [], ◌∷◌, ◌++◌, map, length, Result, Ok, Err, IfErr, IsErrAnd, ap, sym, ◌∙◌, refl, subst, arith}
use Rattle.std.proofs.lemmas.List.{map-append}
use Rattle.spec_model.specs.Games.{GameData}
use Rattle.spec_model.specs.Steps.{below}
use Rattle.spec_model.specs.Sets.{StateSet}
use Rattle.regions.specs.declared.types.Halt.{Halt}
use Rattle.regions.specs.declared.types.Halt.TheVariants.{Budget, Memory}
use Rattle.regions.specs.Kept.{Kept, Meaning, States, weigh, weight, HasRegion, MakesRegion, IsExact, Each, Call, All, NoStates, Halts, JamAdds, meanings, jam_after}
use Rattle.regions.proofs.Holding.{weigh_meanings, set_is}
use Rattle.gr1_sys.specs.Held.{weight_as, MakesRegions}
use Rattle.gr1_sys.specs.Moment.{IsValueOfZ, IsNamed}
use Rattle.gr1_sys.specs.Told.{IsOfMoment, AsksOfIterates, TellsHalt, TellsOneMoment}
use Rattle.gr1_sys.proofs.Lists.{set_kept}

-- what the exit of a `?` hands on
pub handed_on : {T : Type 0} (r : Result T Halt) (halt : Halt) (P : Halt → Type 0) → IsErrAnd r (λ y. y ≡ halt) → P halt → IfErr r P
handed_on (Ok x) halt P is told = tt
handed_on (Err y) halt P is told = subst P (sym is) told

-- ---- lists of named sets

-- each of the sets is one of that moment
abbrev pub AreNamed : GameData → StateSet → List StateSet → Type 0
AreNamed g z ss = Each (IsOfMoment g z) (map States ss)

weigh-append : (w : Meaning → ℕ) (ms ns : List Meaning) → weigh w (ms ++ ns) ≡ weigh w ms + weigh w ns
weigh-append w [] ns = omega arith
weigh-append w (m ∷ ms) ns = let rest = weigh-append w ms ns in omega arith

each-append : (P : Meaning → Type 0) (ms ns : List Meaning) → Each P ms → Each P ns → Each P (ms ++ ns)
each-append P [] ns first second = second
each-append P (m ∷ ms) ns first second = (first.0, each-append P ms ns first.1 second)

pub named-append : (g : GameData) (z : StateSet) (ss ts : List StateSet) → AreNamed g z ss → AreNamed g z ts → AreNamed g z (ss ++ ts)
named-append g z [] ts first second = second
named-append g z (s ∷ ss) ts first second = (first.0, named-append g z ss ts first.1 second)

pub named_below : (g : GameData) (z : StateSet) (f : ℕ → StateSet) (n : ℕ) → ((i : ℕ) → i < n → IsNamed g z (f i)) → AreNamed g z (map f (below n))
named_below g z f zero each = tt
named_below g z f (suc n) each =
    subst (AreNamed g z) (sym (map-append f (below n) (n ∷ []))) (named-append g z (map f (below n)) (f n ∷ []) (named_below g z f n (λ i before. each i (omega arith))) (each n (omega arith), tt))

module _ {R M : Type 0} where
  -- ---- a call's own word

  pub told : (old new : Kept R M) (z : StateSet) (asked : Call) (arguments : List Meaning) (halt : Halt) → new.jam ≡ jam_after old asked arguments halt →
      Each (IsOfMoment old.game z) arguments → AsksOfIterates old.game z asked arguments → TellsHalt old new z halt
  told old new z asked arguments Memory jam named asks = jam
  told old new z asked arguments Budget jam named asks =
      record {
        jam = record { call = asked; arguments = arguments; held = meanings old };
        told = jam;
        adds = record { besides = []; held = λ w. (let e = weigh_meanings old w in omega arith); named = tt; arguments = named };
        asked = asks;
      }

  -- a call without arguments
  pub told_all : {T : Type 0} (old new : Kept R M) (r : Result T Halt) (z : StateSet) → IfErr r (Halts old new All []) → IfErr r (TellsHalt old new z)
  told_all old new (Ok x) z halts = tt
  told_all old new (Err halt) z halts = told old new z All [] halt halts.jam tt tt

  pub told_none : {T : Type 0} (old new : Kept R M) (r : Result T Halt) (z : StateSet) → IfErr r (Halts old new NoStates []) → IfErr r (TellsHalt old new z)
  told_none old new (Ok x) z halts = tt
  told_none old new (Err halt) z halts = told old new z NoStates [] halt halts.jam tt tt

  -- ---- a caller's word

  -- what was told stays told while more is spent
  pub still_told : (first new last : Kept R M) (z : StateSet) (halt : Halt) → last.jam ≡ new.jam → TellsHalt first new z halt → TellsHalt first last z halt
  still_told first new last z Memory same tells = same ∙ tells
  still_told first new last z Budget same tells = record { jam = tells.jam; told = same ∙ tells.told; adds = tells.adds; asked = tells.asked }

  -- what had been made before is besides
  pub told_past : (first k new last : Kept R M) (z : StateSet) (besides : List Meaning) (halt : Halt) → k.game ≡ first.game → last.jam ≡ new.jam →
      ((w : Meaning → ℕ) → weight k (λ i m. w m) ≡ weigh w besides + weight first (λ i m. w m)) → Each (IsOfMoment first.game z) besides → TellsHalt k new z halt → TellsHalt first last z halt
  told_past first k new last z besides Memory game same sums named tells = same ∙ tells
  told_past first k new last z besides Budget game same sums named tells =
      let adds : JamAdds k (IsOfMoment first.game z) tells.jam = subst (λ h. JamAdds k (IsOfMoment h z) tells.jam) game tells.adds in
      record {
        jam = tells.jam;
        told = same ∙ tells.told;
        adds = record {
          besides = adds.besides ++ besides;
          held = λ w. omega (arith, adds.held w, sums w, weigh-append w adds.besides besides);
          named = each-append (IsOfMoment first.game z) adds.besides besides adds.named named;
          arguments = adds.arguments;
        };
        asked = subst (λ h. AsksOfIterates h z tells.jam.call tells.jam.arguments) game tells.asked;
      }

  pub past_one : (first k new last : Kept R M) (z : StateSet) (a : R) (s : StateSet) (halt : Halt) → k.game ≡ first.game → MakesRegion first k a s → IsNamed first.game z s → last.jam ≡ new.jam →
      TellsHalt k new z halt → TellsHalt first last z halt
  past_one first k new last z a s halt game made named same tells = told_past first k new last z (States s ∷ []) halt game same (λ w. made.held (λ i m. w m)) (named, tt) tells

  weigh_regions : (k : Kept R M) (rs : List R) (ss : List StateSet) (w : Meaning → ℕ) → length rs ≡ length ss → weight_as {R = R} {M = M} rs ss (λ i m. w m) ≡ weigh w (map States ss)
  unfolding weight_as
  weigh_regions k [] [] w e = refl
  weigh_regions k [] (s ∷ ss) w e = absurd (omega arith)
  weigh_regions k (r ∷ rs) [] w e = absurd (omega arith)
  weigh_regions k (r ∷ rs) (s ∷ ss) w e = ap (λ n. w (States s) + n) (weigh_regions k rs ss w (omega arith))

  pub past_many : (first k new last : Kept R M) (z : StateSet) (rs : List R) (ss : List StateSet) (halt : Halt) → k.game ≡ first.game → MakesRegions first k rs ss → AreNamed first.game z ss → last.jam ≡ new.jam →
      TellsHalt k new z halt → TellsHalt first last z halt
  past_many first k new last z rs ss halt game made named same tells =
      told_past first k new last z (map States ss) halt game same (λ w. omega (arith, made.held (λ i m. w m), weigh_regions k rs ss w made.counted)) named tells

  -- a region that was made was to be joined with another
  pub joined_told : (first k new : Kept R M) (z : StateSet) (a b : R) (s : StateSet) (asked : Call) (halt : Halt) → IsExact k → k.game ≡ first.game → HasRegion first b → MakesRegion first k a s →
      IsNamed first.game z s → IsNamed first.game z (first.set b) → AsksOfIterates k.game z asked (States (k.set a) ∷ States (k.set b) ∷ []) →
      new.jam ≡ jam_after k asked (States (k.set a) ∷ States (k.set b) ∷ []) halt → TellsHalt first new z halt
  joined_told first k new z a b s asked halt exact game here made a_named b_named asks jam =
      let a_is = set_is k a s exact (λ w. omega (arith, made.held w)) in
      let b_is = set_kept first k b exact (λ w. omega (arith, made.held w)) here in
      past_one first k new new z a s halt game made a_named refl
      (told k new z asked (States (k.set a) ∷ States (k.set b) ∷ []) halt jam
      (subst (λ h. IsNamed h z (k.set a)) (sym game) (subst (IsNamed first.game z) (sym a_is) a_named), (subst (λ h. IsNamed h z (k.set b)) (sym game) (subst (IsNamed first.game z) (sym b_is) b_named), tt)) asks)

  -- ---- for some value of Z

  pub of_value : (first new : Kept R M) (z : StateSet) (halt : Halt) → IsValueOfZ first.game z → TellsHalt first new z halt → TellsOneMoment first new halt
  of_value first new z Memory value tells = tells
  of_value first new z Budget value tells = (z, (value, tells))

  -- likewise, past regions that are named at each moment
  pub moment_past : (first k new last : Kept R M) (rs : List R) (ss : List StateSet) (halt : Halt) → k.game ≡ first.game → MakesRegions first k rs ss → ((z : StateSet) → AreNamed first.game z ss) → last.jam ≡ new.jam →
      TellsOneMoment k new halt → TellsOneMoment first last halt
  moment_past first k new last rs ss Memory game made named same tells = same ∙ tells
  moment_past first k new last rs ss Budget game made named same tells = (
    tells.0,
    (subst (λ h. IsValueOfZ h tells.0) game tells.1.0, past_many first k new last tells.0 rs ss Budget game made (named tells.0) same tells.1.1),
  )
