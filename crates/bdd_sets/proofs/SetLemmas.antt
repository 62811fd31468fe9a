-- What the operations make of functions that tell states.
use Rattle.std.proofs.Common.{◌≡◌, Bool, true, false, not, ◌&&◌, ◌||◌, cond, refl, sym, ◌∙◌, ap, inl, inr}
use Rattle.std.proofs.lemmas.Bool.{and_parts, or_cases, false≢true}
use Rattle.spec_model.specs.Diagrams.{Bits, Function, ite}
use Rattle.spec_model.specs.Games.{GameData, State}
use Rattle.spec_model.specs.Steps.{is_state}
use Rattle.spec_model.specs.Sets.{StateSet, all_states, no_states, both, either, rest}
use Rattle.game_values.specs.declared.seen.At.{At}
use Rattle.bdd_ops.specs.Functions.{joined, join_of}
use Rattle.bdd_sets.specs.StateBits.{bits_for, HasState, set_at, TellsStates, Tells}
use Rattle.bdd_sets.proofs.BitLemmas.{has_bits}

module _ (g : GameData) (at : At) where
  -- at the bits of a state the function says whether the set has it
  pub told_at : (f : Function) (t : StateSet) → Tells g at f t → (s : State) (b : Bits) → is_state g s ≡ true → HasState g at s b → f b ≡ t s
  told_at f t tells s b here has =
      tells.states.settled s b here has ∙ (sym (ap (λ c. c && f (bits_for g at s)) here) ∙ ap (λ (u : StateSet). u s) tells.set)

  -- whatever says so at the bits of states, and is false of others, tells the set
  pub tells_by : (f : Function) (t : StateSet) → ((s : State) → t s ≡ true → is_state g s ≡ true) → ((s : State) (b : Bits) → is_state g s ≡ true → HasState g at s b → f b ≡ t s) → ((b : Bits) → f b ≡ true → (s : State) × (is_state g s ≡ true) × HasState g at s b) → Tells g at f t
  tells_by f t proper says elsewhere =
      record {
        states = record { settled = λ s b here has. says s b here has ∙ sym (says s (bits_for g at s) here (has_bits g at s)); elsewhere = elsewhere };
        set = λ i s. at_state s (is_state g s) refl i;
      }
    where
      at_state : (s : State) (c : Bool) → is_state g s ≡ c → set_at g at f s ≡ t s
      at_state s true e = ap (λ c. c && f (bits_for g at s)) e ∙ says s (bits_for g at s) e (has_bits g at s)
      at_state s false e = ap (λ c. c && f (bits_for g at s)) e ∙ none (t s) refl
        where
          none : (c : Bool) → t s ≡ c → false ≡ t s
          none true is = absurd (false≢true (sym e ∙ proper s is))
          none false other = sym other

  pub tells_itself : (f : Function) → TellsStates g at f → Tells g at f (set_at g at f)
  tells_itself f states = record { states = states; set = refl }

  pub is_proper : (f : Function) (t : StateSet) → Tells g at f t → (s : State) → t s ≡ true → is_state g s ≡ true
  is_proper f t tells s is = (and_parts (is_state g s) (f (bits_for g at s)) (ap (λ (u : StateSet). u s) tells.set ∙ is)).0

  -- the same set, the same function
  pub one_function : (f h : Function) (t : StateSet) → Tells g at f t → Tells g at h t → f ≡ h
  one_function f h t first second = λ i b. at_bits b (f b) refl (h b) refl i
    where
      at_bits : (b : Bits) (x : Bool) → f b ≡ x → (y : Bool) → h b ≡ y → f b ≡ h b
      at_bits b true e y e' = let s = first.states.elsewhere b e in told_at f t first s.0 b s.1 s.2 ∙ sym (told_at h t second s.0 b s.1 s.2)
      at_bits b false e true e' = let s = second.states.elsewhere b e' in told_at f t first s.0 b s.1 s.2 ∙ sym (told_at h t second s.0 b s.1 s.2)
      at_bits b false e false e' = e ∙ sym e'

  pub same_set : (f h : Function) (t u : StateSet) → Tells g at f t → Tells g at h u → f ≡ h → t ≡ u
  same_set f h t u first second e = sym first.set ∙ (ap (set_at g at) e ∙ second.set)

  -- ---- the operations

  pub tells_none : Tells g at (λ b. false) no_states
  tells_none = tells_by (λ b. false) no_states (λ s e. absurd (false≢true e)) (λ s b here has. refl) (λ b e. absurd (false≢true e))

  pub tells_both : (f h : Function) (t u : StateSet) → Tells g at f t → Tells g at h u → Tells g at (joined (join_of true) f h) (both t u)
  tells_both f h t u first second =
      tells_by (joined (join_of true) f h) (both t u) (λ s e. is_proper f t first s (and_parts (t s) (u s) e).0)
      (λ s b here has. ap (λ c. c && h b) (told_at f t first s b here has) ∙ ap (λ c. t s && c) (told_at h u second s b here has))
      (λ b e. first.states.elsewhere b (and_parts (f b) (h b) e).0)

  pub tells_either : (f h : Function) (t u : StateSet) → Tells g at f t → Tells g at h u → Tells g at (joined (join_of false) f h) (either t u)
  tells_either f h t u first second =
      tells_by (joined (join_of false) f h) (either t u)
      (λ s e. elim (or_cases (t s) (u s) e) [ inl is ↦ is_proper f t first s is | inr is ↦ is_proper h u second s is ])
      (λ s b here has. ap (λ c. c || h b) (told_at f t first s b here has) ∙ ap (λ c. t s || c) (told_at h u second s b here has))
      (λ b e. elim (or_cases (f b) (h b) e) [ inl is ↦ first.states.elsewhere b is | inr is ↦ second.states.elsewhere b is ])

  -- where the first is false, the proper states
  pub tells_rest : (f p : Function) (t : StateSet) → Tells g at f t → Tells g at p (all_states g) → Tells g at (ite f (λ b. false) p) (rest g t)
  tells_rest f p t first proper =
      tells_by (ite f (λ b. false) p) (rest g t) (λ s e. (and_parts (is_state g s) (not (t s)) e).0)
      (λ s b here has. ap (λ c. cond c false (p b)) (told_at f t first s b here has) ∙ (ap (λ c. cond (t s) false c) (told_at p (all_states g) proper s b here has) ∙ turned (t s) (is_state g s)))
      (λ b e. proper.states.elsewhere b (second (f b) (p b) e))
    where
      turned : (x c : Bool) → cond x false c ≡ (c && not x)
      turned true true = refl
      turned true false = refl
      turned false true = refl
      turned false false = refl

      second : (x c : Bool) → cond x false c ≡ true → c ≡ true
      second true c e = absurd (false≢true e)
      second false c e = e
