-- What a caller concludes from what its calls hold.
use Rattle.std.proofs.Common.{◌≡◌, ℕ, ◌+◌, List, [], ◌∷◌, ap, ◌∙◌, arith, refl, map, Some}
use Rattle.regions.specs.declared.types.Halt.{Halt}
use Rattle.regions.specs.declared.types.Halt.TheVariants.{Budget}
use Rattle.spec_model.specs.Sets.{StateSet}
use Rattle.regions.specs.Kept.{Kept, Item, Region, Move, Meaning, States, meaning_of, weigh, weight, IsHeld, IsHeldAs, HasRegion, HasMove, GivesOutputs, GivesInputs, HoldsBesides, HoldsWithout, Makes, Stays, Spends, MakesRegion, Replaces, IsExact, Halts, Each, Call, Jam, JamAdds, meanings, jam_after}

module _ {R M : Type 0} where
  -- what is held is held as what it stands for
  pub held_as : (k : Kept R M) (i : Item R M) → IsHeld k i → IsHeldAs k i (meaning_of k i)
  unfolding weight
  held_as k i here w = here (λ j. w j (meaning_of k j))

  -- a region that is held as a set stands for it
  pub set_is : (k : Kept R M) (r : R) (s : StateSet) → IsExact k → IsHeldAs k (Region r) (States s) → k.set r ≡ s
  set_is k r s exact here = let e : States (k.set r) ≡ States s = exact (Region r) (States s) here in cc

  -- a region that is spent goes as the set that it was held as
  pub spent : (old new : Kept R M) (r : R) (s : StateSet) → IsExact old → Spends old new (Region r) → IsHeldAs old (Region r) (States s) → HoldsWithout old new (Region r) (States s)
  spent old new r s exact gone here w = let e : States (old.set r) ≡ States s = exact (Region r) (States s) here in rw (← e) (gone.held w)

  -- what a list of meanings weighs is what the items weigh by them
  weigh_map : (f : Item R M → Meaning) (w : Meaning → ℕ) (is : List (Item R M)) → weigh w (map f is) ≡ weigh (λ i. w (f i)) is
  weigh_map f w [] = refl
  weigh_map f w (i ∷ is) = ap (λ n. w (f i) + n) (weigh_map f w is)

  pub weigh_meanings : (k : Kept R M) (w : Meaning → ℕ) → weigh w (meanings k) ≡ weight k (λ i m. w m)
  unfolding weight
  weigh_meanings k w = weigh_map (meaning_of k) w k.held

  -- the jam of a call, as its caller tells it: what the caller had made so far is besides
  pub jam_adds : (first old new : Kept R M) (asked : Call) (arguments besides : List Meaning) (IsNamed : Meaning → Type 0) (halt : Halt) →
      Halts old new asked arguments halt → halt ≡ Budget →
      ((w : Meaning → ℕ) → weight old (λ i m. w m) ≡ weigh w besides + weight first (λ i m. w m)) →
      Each IsNamed besides → Each IsNamed arguments →
      (jam : Jam) × (new.jam ≡ Some jam) × JamAdds first IsNamed jam
  jam_adds first old new asked arguments besides IsNamed halt halts is_budget sums named asked_named = (
    record { call = asked; arguments = arguments; held = meanings old },
    halts.jam ∙ ap (jam_after old asked arguments) is_budget,
    record { besides = besides; held = λ w. weigh_meanings old w ∙ sums w; named = named; arguments = asked_named },
  )

  -- a region that was made stands for its set, and was made as what it stands for
  pub made_is : (old new : Kept R M) (r : R) (s : StateSet) → IsExact new → MakesRegion old new r s → (new.set r ≡ s) × MakesRegion old new r (new.set r)
  made_is old new r s exact made = let e = set_is new r s exact (λ w. omega (arith, made.held w)) in (e, rw e made)

  -- so does one that took the place of a region made before
  pub replaced_is : (first old new : Kept R M) (z r : R) (t : StateSet) → IsExact new → MakesRegion first old z (old.set z) →
      Replaces old new (Region z) (States (old.set z)) (Region r) (States t) → (new.set r ≡ t) × MakesRegion first new r (new.set r)
  replaced_is first old new z r t exact made replaced =
      let made_new : MakesRegion first new r t = record { held = λ w. omega (arith, replaced.held w, made.held w); jam = replaced.jam } in
      made_is first new r t exact made_new

  -- ---- what stays while others come and go

  -- moves that are held as what they give, give it
  pub choice_is : (k : Kept R M) (m : M) (c : Meaning) → IsExact k → IsHeldAs k (Move m) c → k.choice m ≡ c
  choice_is k m c exact here = exact (Move m) c here

  -- a region keeps its set where others are made
  pub set_stays : (old new : Kept R M) (r : R) (more : List (Item R M × Meaning)) → IsExact new → HasRegion old r → HoldsBesides old new more → new.set r ≡ old.set r
  set_stays old new r more exact here made = set_is new r (old.set r) exact (λ w. let is = made w in let held = held_as old (Region r) here w in omega (arith, is, held))

  -- moves keep what they give
  pub choice_stays : (old new : Kept R M) (m : M) (more : List (Item R M × Meaning)) → IsExact new → HasMove old m → HoldsBesides old new more → new.choice m ≡ old.choice m
  choice_stays old new m more exact here made = choice_is new m (old.choice m) exact (λ w. let is = made w in let held = held_as old (Move m) here w in omega (arith, is, held))

  -- so they stay moves of their kind
  pub outputs_stay : (old new : Kept R M) (m : M) (more : List (Item R M × Meaning)) → IsExact new → HasMove old m → GivesOutputs old m → HoldsBesides old new more → GivesOutputs new m
  outputs_stay old new m more exact here gives made = (gives.0, gives.1, choice_stays old new m more exact here made ∙ gives.2)

  pub inputs_stay : (old new : Kept R M) (m : M) (more : List (Item R M × Meaning)) → IsExact new → HasMove old m → GivesInputs old m → HoldsBesides old new more → GivesInputs new m
  inputs_stay old new m more exact here gives made = (gives.0, gives.1, choice_stays old new m more exact here made ∙ gives.2)

  -- a region that is spent after calls that only read was spent as it stood before them
  pub spends_later : (old mid new : Kept R M) (r : R) → IsExact mid → HasRegion old r → Stays old mid → Spends mid new (Region r) → Spends old new (Region r)
  spends_later old mid new r exact here stays gone =
      let same = set_stays old mid r [] exact here stays.held in
      let set : HoldsWithout mid new (Region r) (States (old.set r)) = rw (← same) gone.held in
      record { held = λ w. (let left = set w in let is = stays.held w in omega (arith, left, is)); jam = gone.jam ∙ stays.jam }

  -- moves that were made give what they were made for, also when a region that was held is spent
  pub made_gives : (old mid new : Kept R M) (r : R) (m : M) (c : Meaning) → IsExact mid → IsExact new → HasRegion old r → Makes old mid (Move m) c → Spends mid new (Region r) → new.choice m ≡ c
  made_gives old mid new r m c exact_mid exact_new here made gone =
      let same = set_stays old mid r ((Move m, c) ∷ []) exact_mid here made.held in
      let left : HoldsWithout mid new (Region r) (States (old.set r)) = rw (← same) gone.held in
      choice_is new m c exact_new (λ w. let without = left w in let is = made.held w in let held = held_as old (Region r) here w in omega (arith, without, is, held))
