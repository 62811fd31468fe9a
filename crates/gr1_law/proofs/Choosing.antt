-- After each legal input an output is chosen, and what is remembered then tells of the new state.
use Rattle.std.proofs.Common.{◌≡◌, ℕ, ◌<◌, ◌==◌, ◌⊎◌, inl, inr, Bool, true, false, not, ◌&&◌, if◌then◌else◌, List, length, slice_index, Some, None, find, refl, sym, ◌∙◌, subst, arith, IsTrue}
use Rattle.std.proofs.lemmas.Bool.{and_parts, and_from, false≢true}
use borrow.Author.Tests.{eqb-true, eq-eqb}
use Rattle.spec_model.specs.Values.{Assignment}
use Rattle.spec_model.specs.Games.{GameData, State, outputs_of}
use Rattle.spec_model.specs.Steps.{Before, is_input, is_output, legal_input, legal_output, reached}
use Rattle.spec_model.specs.Sets.{StateSet, IsPartOf, rest, system_forces, output_into}
use Rattle.spec_model.proofs.Listed.{outputs_fit}
use Rattle.gr1_law.specs.Layers.{LayerSets, IsWinning, AreGreatestRanks, IsLeastNumber, goal_sets, goal_set, assumption_sets, assumption_set}
use Rattle.gr1_law.specs.Choice.{Memory, Standing, next_goal, goal_aimed, can_lead, waits, target, IsChosen}
use Rattle.gr1_law.specs.Trails.{Lowers}
use Rattle.gr1_law.proofs.Searching.{least_of, some-found, find-passes, find-every, found-some}
use Rattle.gr1_law.proofs.Winning.{in_a_part, z_in_last}
use Rattle.gr1_law.proofs.Standing.{Ready, Progress, progress, forces_z, part_in_rank, aimed_in, rank_some, can_lead-forced, can_lead_grows}

module _ (g : GameData) (z : StateSet) (l : LayerSets) (w : IsWinning g z l) (ranks : List ℕ) (greatest : AreGreatestRanks g l ranks) where
  pub forces_z_next : (b : Before) (m : Memory) → Ready g z l b m → system_forces g z b ≡ true
  forces_z_next None m ready = ready
  forces_z_next (Some s) m ready = forces_z g z l w ranks greatest s m ready

  -- a state of a layer has a least part
  pub least_part : (j n : ℕ) (s : State) → IsTrue (l.y j n s) → (i : ℕ) × IsLeastNumber (λ i. IsTrue (l.x j n i s)) i
  least_part j n s e =
      let some = rank_some g z l w j n s e in
      let part = in_a_part g z l w.layers j some.0 s (subst (λ (r : ℕ). IsTrue (l.y j r s)) some.1 e) in
      least_of (λ i. l.x j n i s) part.0 (subst (λ (r : ℕ). IsTrue (l.x j r part.0 s)) (sym some.1) part.2)

  -- ---- there is a choice

  module _ (b : Before) (m : Memory) (x : Assignment) where
    abbrev Choice : Type 0
    Choice = (y : Assignment) × (m' : Memory) × IsChosen g l b m x y m'

    -- given the least rank: what is wanted while waiting is that some output leads into the part
    choice_of_rank : (r : ℕ) → IsLeastNumber (λ r. IsTrue (can_lead g (l.y (goal_aimed g b m) r) b x)) r → (waits g b m r ≡ true → can_lead g (l.x m.goal m.rank m.index) b x ≡ true) → Choice
    choice_of_rank r least stay = by_waiting (waits g b m r) refl
      where
        by_waiting : (c : Bool) → waits g b m r ≡ c → Choice
        by_waiting true e =
            let found = some-found (output_into g (l.x m.goal m.rank m.index) b x) (outputs_of g) (stay e) in (
              found.0,
              record { goal = goal_aimed g b m; rank = r; index = m.index },
              record {
                goal = refl;
                rank = least;
                output = subst (λ (c : Bool). find (output_into g (if c then l.x m.goal m.rank m.index else l.y (goal_aimed g b m) r) b x) (outputs_of g) ≡ Some found.0) (sym e) found.1;
                kept = λ e'. refl;
                index = λ e'. absurd (false≢true (sym e' ∙ e));
              },
            )
        by_waiting false e =
            let found = some-found (output_into g (l.y (goal_aimed g b m) r) b x) (outputs_of g) least.here in
            let led = (and_parts _ _ (find-passes (output_into g (l.y (goal_aimed g b m) r) b x) (outputs_of g) found.0 found.1)).1 in
            let part = least_part (goal_aimed g b m) r (reached g b x found.0) led in (
              found.0,
              record { goal = goal_aimed g b m; rank = r; index = part.0 },
              record {
                goal = refl;
                rank = least;
                output = subst (λ (c : Bool). find (output_into g (if c then l.x m.goal m.rank m.index else l.y (goal_aimed g b m) r) b x) (outputs_of g) ≡ Some found.0) (sym e) found.1;
                kept = λ e'. absurd (false≢true (sym e ∙ e'));
                index = λ e'. part.1;
              },
            )

  -- while waiting some output leads into the part
  pub stays_in_part : (b : Before) (m : Memory) (x : Assignment) (r : ℕ) → Ready g z l b m → is_input g x ≡ true → legal_input g b x ≡ true →
      IsLeastNumber (λ r. IsTrue (can_lead g (l.y (goal_aimed g b m) r) b x)) r → waits g b m r ≡ true → can_lead g (l.x m.goal m.rank m.index) b x ≡ true
  stays_in_part None m x r ready input legal least e = absurd (false≢true e)
  stays_in_part (Some s) m x r ready input legal least e = at (goal_set g m.goal s) refl least e
    where
      at : (c : Bool) → goal_set g m.goal s ≡ c → IsLeastNumber (λ r. IsTrue (can_lead g (l.y (if c then next_goal g m.goal else m.goal) r) (Some s) x)) r → (not c && (r == m.rank)) ≡ true → can_lead g (l.x m.goal m.rank m.index) (Some s) x ≡ true
      at true holds least e = absurd (false≢true e)
      at false unmet least e = by_progress (progress g z l w ranks greatest s m ready unmet)
        where
          by_progress : Progress g z l w ranks greatest s m ready → can_lead g (l.x m.goal m.rank m.index) (Some s) x ≡ true
          by_progress (Progress.lower k less forced) =
              let same = eqb-true r m.rank e in
              absurd (least.none_before k (omega arith) (can_lead-forced g (l.y m.goal k) (Some s) x input legal forced))
          by_progress (Progress.waiting fails forced in_rank) = can_lead-forced g (l.x m.goal m.rank m.index) (Some s) x input legal forced

  -- some output leads into the last layer of the goal aimed at
  pub last_leads : (b : Before) (m : Memory) (x : Assignment) → Ready g z l b m → is_input g x ≡ true → legal_input g b x ≡ true → can_lead g (l.y (goal_aimed g b m) (slice_index ranks (goal_aimed g b m))) b x ≡ true
  last_leads b m x ready input legal =
      can_lead_grows g z (l.y (goal_aimed g b m) (slice_index ranks (goal_aimed g b m))) b x (z_in_last g z l w ranks greatest (goal_aimed g b m) (aimed_in g z l w b m ready))
      (can_lead-forced g z b x input legal (forces_z_next b m ready))

  pub choice_exists : (b : Before) (m : Memory) (x : Assignment) → Ready g z l b m → is_input g x ≡ true → legal_input g b x ≡ true → (y : Assignment) × (m' : Memory) × IsChosen g l b m x y m'
  choice_exists b m x ready input legal =
      let least = least_of (λ r. can_lead g (l.y (goal_aimed g b m) r) b x) (slice_index ranks (goal_aimed g b m)) (last_leads b m x ready input legal) in
      choice_of_rank b m x least.0 least.1 (stays_in_part b m x least.0 ready input legal least.1)

  -- ---- what a choice gives

  module _ (b : Before) (m : Memory) (x y : Assignment) (m' : Memory) (ready : Ready g z l b m) (c : IsChosen g l b m x y m') where
    passes : output_into g (target g l b m m'.goal m'.rank) b x y ≡ true
    passes = find-passes (output_into g (target g l b m m'.goal m'.rank) b x) (outputs_of g) y c.output

    pub chosen_output : is_output g y ≡ true
    chosen_output = find-every (λ y. is_output g y ≡ true) (output_into g (target g l b m m'.goal m'.rank) b x) (outputs_of g) y (outputs_fit g) c.output

    pub chosen_legal : legal_output g b x y ≡ true
    chosen_legal = (and_parts _ _ passes).0

    abbrev new : State
    new = reached g b x y

    in_target : target g l b m m'.goal m'.rank (reached g b x y) ≡ true
    in_target = (and_parts _ _ passes).1

    -- what waiting leaves as it was
    pub record Waited : Type 0 where
      pub goal : m'.goal ≡ m.goal
      pub rank : m'.rank ≡ m.rank
      pub index : m'.index ≡ m.index
      pub index_in : m.index < length (assumption_sets g)
      pub part_in : IsPartOf (l.x m.goal m.rank m.index) (l.y m.goal m.rank)

    waited : waits g b m m'.rank ≡ true → Waited
    waited e = by_before b refl ready c.goal e (c.kept e)
      where
        by_before : (b' : Before) → b ≡ b' → Ready g z l b' m → m'.goal ≡ goal_aimed g b' m → waits g b' m m'.rank ≡ true → m'.index ≡ m.index → Waited
        by_before None is ready' goal e same = absurd (false≢true e)
        by_before (Some s) is ready' goal e same = at (goal_set g m.goal s) goal e
          where
            at : (d : Bool) → m'.goal ≡ (if d then next_goal g m.goal else m.goal) → (not d && (m'.rank == m.rank)) ≡ true → Waited
            at true goal e = absurd (false≢true e)
            at false goal e = record { goal = goal; rank = eqb-true m'.rank m.rank e; index = same; index_in = ready'.index_in; part_in = part_in_rank g z l w ranks greatest s m ready' }

    abbrev NewPart : Type 0
    NewPart = (m'.index < length (assumption_sets g)) × IsTrue (l.x m'.goal m'.rank m'.index (reached g b x y)) × IsTrue (l.y m'.goal m'.rank (reached g b x y))

    -- the new state is in the part that is remembered
    new_part : NewPart
    new_part = by_waiting (waits g b m m'.rank) refl in_target
      where
        by_waiting : (d : Bool) → waits g b m m'.rank ≡ d → IsTrue ((if d then l.x m.goal m.rank m.index else l.y m'.goal m'.rank) (reached g b x y)) → NewPart
        by_waiting true e led =
            let same = waited e in (
              omega (arith, same.index, same.index_in),
              subst (λ (j : ℕ). IsTrue (l.x j m'.rank m'.index (reached g b x y))) (sym same.goal)
                  (subst (λ (r : ℕ). IsTrue (l.x m.goal r m'.index (reached g b x y))) (sym same.rank)
                  (subst (λ (i : ℕ). IsTrue (l.x m.goal m.rank i (reached g b x y))) (sym same.index) led)),
              subst (λ (j : ℕ). IsTrue (l.y j m'.rank (reached g b x y))) (sym same.goal)
                  (subst (λ (r : ℕ). IsTrue (l.y m.goal r (reached g b x y))) (sym same.rank) (same.part_in (reached g b x y) led)),
            )
        by_waiting false e led =
            let least = c.index e in
            let some = rank_some g z l w m'.goal m'.rank (reached g b x y) led in
            let part = in_a_part g z l w.layers m'.goal some.0 (reached g b x y) (subst (λ (r : ℕ). IsTrue (l.y m'.goal r (reached g b x y))) some.1 led) in
            let no_less : part.0 < m'.index → ⊥ = λ less. least.none_before part.0 less (subst (λ (r : ℕ). IsTrue (l.x m'.goal r part.0 (reached g b x y))) (sym some.1) part.2) in
            (grind (arith, no_less, part.1), least.here, led)

    pub standing_next : Standing g l (reached g b x y) m'
    standing_next =
        record {
          goal_in = subst (λ (j : ℕ). j < length (goal_sets g)) (sym c.goal) (aimed_in g z l w b m ready);
          index_in = new_part.0;
          rank = record {
            here = new_part.2;
            none_before = λ r less has. c.rank.none_before r less (found-some (output_into g (target g l b m m'.goal m'.rank) b x) (output_into g (l.y m'.goal r) b x) (outputs_of g) y c.output (and_from _ _ chosen_legal has));
          };
          part = new_part.1;
        }

  -- ---- how a move lowers

  module _ (s : State) (m : Memory) (x y : Assignment) (m' : Memory) (standing : Standing g l s m) (input : is_input g x ≡ true) (legal : legal_input g (Some s) x ≡ true) (c : IsChosen g l (Some s) m x y m') where
    -- what is forced bounds the rank
    at_most : (j r : ℕ) → m'.goal ≡ j → system_forces g (l.y j r) (Some s) ≡ true → r < m'.rank → ⊥
    at_most j r same forced less = c.rank.none_before r less (subst (λ (k : ℕ). can_lead g (l.y k r) (Some s) x ≡ true) (sym same) (can_lead-forced g (l.y j r) (Some s) x input legal forced))

    pub lowers : Lowers g s m m'
    lowers = at (goal_set g m.goal s) refl c.goal (λ e. c.kept e)
      where
        at : (d : Bool) → goal_set g m.goal s ≡ d → m'.goal ≡ (if d then next_goal g m.goal else m.goal) → ((not d && (m'.rank == m.rank)) ≡ true → m'.index ≡ m.index) → Lowers g s m m'
        at true e goal kept = Lowers.met e goal
        at false e goal kept = by_progress (progress g z l w ranks greatest s m standing e)
          where
            by_progress : Progress g z l w ranks greatest s m standing → Lowers g s m m'
            by_progress (Progress.lower r less forced) = let bound = at_most m.goal r goal forced in Lowers.lower e goal (grind (arith, bound, less))
            by_progress (Progress.waiting fails forced in_rank) = by_rank or_not
              where
                or_not : (m'.rank < m.rank) ⊎ (m'.rank ≡ m.rank)
                or_not = let bound = at_most m.goal m.rank goal in_rank in grind (arith, bound)

                by_rank : (m'.rank < m.rank) ⊎ (m'.rank ≡ m.rank) → Lowers g s m m'
                by_rank (inl less) = Lowers.lower e goal less
                by_rank (inr same) = Lowers.waiting e goal same (kept (eq-eqb m'.rank m.rank same)) fails
