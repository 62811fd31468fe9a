-- What fills a budget where a call was refused are named sets of one moment.
use Rattle.std.proofs.Common.{◌≡◌, inl, inr, Bool, true, false, ◌&&◌, List, [], ◌∷◌, length, refl, sym, ◌∙◌, ap, subst, arith}
use Rattle.spec_model.specs.Diagrams.{Function}
use Rattle.spec_model.specs.Games.{GameData}
use Rattle.spec_model.specs.Steps.{is_state}
use Rattle.spec_model.specs.Sets.{StateSet, all_states, both}
use Rattle.game_values.specs.declared.seen.At.{At}
use Rattle.game_values.specs.declared.seen.At.TheVariants.{Now, Next}
use Rattle.regions.specs.Kept.{Meaning, States, Outputs, Inputs, Call, All, NoStates, Copy, And, Or, Not, Holding, PreSys, PreEnv, OutMoves, InMoves, StartSys, StartEnv, Jam}
use Rattle.bdd_sets.specs.StateBits.{Tells, bits_for}
use Rattle.bdd_sets.specs.NamedMoves.{kept_out}
use Rattle.bdd_sets.specs.NamedGame.{IsOfSet, first, into, out_of}
use Rattle.gr1_law.specs.Layers.{goal_sets}
use Rattle.gr1_sys.specs.Moment as sys
use Rattle.gr1_env.specs.Moment as env
use Rattle.region_bdd.specs.Crowding.{StandsFor, IsOneSet, IsOfCall, IsHeldAt}
use Rattle.solve.specs.Crowded.{Moment, of_system, of_environment, IsIterate, IsNamedState, IsNamed, own, states, step}
use Rattle.solve.specs.Told.{IsLike, IsMeant, IfOneSet, AsksOfIterates, IsOfOneMoment}

-- ---- sets of states

same_bit : (a b : Bool) → (a && b) ≡ (a && (a && b))
same_bit true b = refl
same_bit false b = refl

-- a set that is told has only states of the game
pub told_whole : (g : GameData) (at : At) (f : Function) (t : StateSet) → Tells g at f t → t ≡ both (all_states g) t
told_whole g at f t tells =
    let whole : (λ s. is_state g s && f (bits_for g at s)) ≡ both (all_states g) (λ s. is_state g s && f (bits_for g at s)) = λ i s. same_bit (is_state g s) (f (bits_for g at s)) i in
    sym tells.set ∙ (whole ∙ ap (both (all_states g)) tells.set)

-- so has one with formulas
set_whole : (g : GameData) (f : Function) (t : StateSet) → IsOfSet g t f → t ≡ both (all_states g) t
set_whole g f t (first tells) = told_whole g Next f t tells
set_whole g f t (into when levels next are tells is) = told_whole g Next next t tells
set_whole g f t (out_of when levels next are tells is) = told_whole g Next next t tells

module _ (g : GameData) (m : Moment) where
  -- an iterate is named
  pub iterate_named : (t : StateSet) → IsIterate g m t → IsNamedState g m t
  iterate_named = by_side m
    where
      by_side : (m : Moment) (t : StateSet) → IsIterate g m t → IsNamedState g m t
      by_side (of_system z) t (inl is) = sys.iterated is
      by_side (of_system z) t (inr is) = sys.common (length (goal_sets g)) (omega arith) is
      by_side (of_environment e) t is = env.iterated is

  module _ (f : Function) where
    -- a set that is told, with the same states as a named one
    named_set : (t : StateSet) → Tells g Now f t → IsLike g (IsNamedState g m) t → IsNamed g m f
    named_set t tells like = states like.0 like.1 (subst (λ (u : StateSet). Tells g Now f u) (told_whole g Now f t tells ∙ like.2) tells)

    -- what is named by the formulas of one with the same states as an iterate
    named_step : (t : StateSet) → IsOfSet g t f → IsLike g (IsIterate g m) t → IsNamed g m f
    named_step t is like = step like.0 like.1 (subst (λ (u : StateSet). IsOfSet g u f) (set_whole g f t is ∙ like.2) is)

    -- what stands for something that is listed
    listed_named : (meaning : Meaning) → IsMeant g m meaning → StandsFor g meaning f → IsNamed g m f
    listed_named (States t) like tells = named_set t tells like
    listed_named (Outputs when t) like tells = named_step t (first tells) like
    listed_named (Inputs when t) like (inl tells) = named_set t tells (like.0, iterate_named like.0 like.1, like.2)
    listed_named (Inputs when t) like (inr leads) = named_step t (out_of when leads.levels leads.next leads.levels_are leads.tells (inl (kept_out leads.is))) like

    -- what the call's formula names
    one_named : (arguments : List Meaning) → IsOneSet (λ t. IsOfSet g t f) arguments → IfOneSet (IsLike g (IsIterate g m)) arguments → IsNamed g m f
    one_named [] none like = absurd none
    one_named (States t ∷ []) is like = named_step t is like
    one_named (States t ∷ x ∷ more) none like = absurd none
    one_named (Outputs when t ∷ more) none like = absurd none
    one_named (Inputs when t ∷ more) none like = absurd none

    call_named : (asked : Call) (arguments : List Meaning) → IsOfCall g asked arguments f → AsksOfIterates g m asked arguments → IsNamed g m f
    call_named All arguments none like = absurd none
    call_named NoStates arguments none like = absurd none
    call_named Copy arguments none like = absurd none
    call_named And arguments none like = absurd none
    call_named Or arguments none like = absurd none
    call_named Not arguments none like = absurd none
    call_named Holding arguments none like = absurd none
    call_named PreSys arguments is like = one_named arguments is like
    call_named PreEnv arguments is like = one_named arguments is like
    call_named (OutMoves when) arguments is like = one_named arguments is like
    call_named (InMoves when) arguments is like = one_named arguments is like
    call_named StartSys arguments is like = one_named arguments is like
    call_named StartEnv arguments is like = one_named arguments is like

-- what is held where a jam is of one moment
pub held_named : (g : GameData) (jam : Jam) (one : IsOfOneMoment g jam) (f : Function) → IsHeldAt g jam f → IsNamed g one.moment f
held_named g jam one f (inl listed) = listed_named g one.moment f listed.0 (one.held listed.0 listed.1) listed.2
held_named g jam one f (inr (inl is)) = own is
held_named g jam one f (inr (inr is)) = call_named g one.moment f jam.call jam.arguments is one.asked
