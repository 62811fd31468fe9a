-- What is held after a few calls, and what regions stand for then.
use Rattle.std.proofs.Common.{[], ◌∷◌, ◌∙◌, Result, Ok, Err, OnErr, IfOk, subst, arith}
use Rattle.spec_model.specs.Sets.{StateSet}
use Rattle.regions.specs.Kept.{Kept, Region, States, HasRegion, HoldsBesides, HoldsWithout, MakesRegion, Spends, Replaces, IsExact, IsSameGame}
use Rattle.regions.proofs.Holding.{held_as, set_is, set_stays, spent}

-- what holds anyway holds on an error
pub on_err : {T E P : Type 0} (r : Result T E) → P → OnErr r P
on_err (Ok x) p = tt
on_err (Err e) p = p

-- and what a result's value has, a part of it has
pub if_ok : {T E : Type 0} (r : Result T E) (P : T → Type 0) → ((x : T) → P x) → IfOk r P
if_ok (Ok x) P all = all x
if_ok (Err e) P all = tt

module _ {R M : Type 0} where
  pub same_then : (a b c : Kept R M) → IsSameGame a b → IsSameGame b c → IsSameGame a c
  same_then a b c first second = record { game = second.game ∙ first.game; bound = second.bound ∙ first.bound }

  -- a region that was made and taken again is gone
  pub dropped : (k k1 k2 : Kept R M) (a : R) (s : StateSet) → IsExact k1 → MakesRegion k k1 a s → HoldsWithout k1 k2 (Region a) (States (k1.set a)) → HoldsBesides k k2 []
  dropped k k1 k2 a s exact made left =
      let is = set_is k1 a s exact (λ w. omega (arith, made.held w)) in
      let gone : HoldsWithout k1 k2 (Region a) (States s) = subst (λ t. HoldsWithout k1 k2 (Region a) (States t)) is left in
      λ w. omega (arith, gone w, made.held w)

  -- a region that was made, with another that is held joined to it in its place
  pub replaced_as : (k k1 k2 : Kept R M) (a r b : R) (s : StateSet) (join : StateSet → StateSet → StateSet) → IsExact k1 → HasRegion k b → MakesRegion k k1 a s →
      Replaces k1 k2 (Region a) (States (k1.set a)) (Region r) (States (join (k1.set a) (k1.set b))) → MakesRegion k k2 r (join s (k.set b))
  replaced_as k k1 k2 a r b s join exact here made replaced =
      let a_is = set_is k1 a s exact (λ w. omega (arith, made.held w)) in
      let b_is = set_stays k k1 b ((Region a, States s) ∷ []) exact here made.held in
      let held : Replaces k1 k2 (Region a) (States s) (Region r) (States (join s (k.set b))) =
      subst (λ t. Replaces k1 k2 (Region a) (States s) (Region r) (States (join s t))) b_is
      (subst (λ t. Replaces k1 k2 (Region a) (States t) (Region r) (States (join t (k1.set b)))) a_is replaced) in
      record { held = λ w. omega (arith, held.held w, made.held w); jam = held.jam }

  -- after a call that made the second, the first is spent
  pub replaces : (k k1 k2 : Kept R M) (a r : R) (s : StateSet) → IsExact k1 → HasRegion k a → MakesRegion k k1 r s → Spends k1 k2 (Region a) → Replaces k k2 (Region a) (States (k.set a)) (Region r) (States s)
  replaces k k1 k2 a r s exact here made gone =
      let left = spent k1 k2 a (k.set a) exact gone (λ w. omega (arith, made.held w, held_as k (Region a) here w)) in
      record { held = λ w. omega (arith, left w, made.held w); jam = gone.jam ∙ made.jam }

  -- after a call that gave up, it is spent
  pub takes : (k k1 k2 : Kept R M) (a : R) → IsExact k1 → HasRegion k a → HoldsBesides k k1 [] → Spends k1 k2 (Region a) → HoldsWithout k k2 (Region a) (States (k.set a))
  takes k k1 k2 a exact here halted gone =
      let left = spent k1 k2 a (k.set a) exact gone (λ w. omega (arith, halted w, held_as k (Region a) here w)) in
      λ w. omega (arith, left w, halted w)
