-- The two predecessor operators are each other's dual through complement, and the complement is one.
use Rattle.std.proofs.Common.{◌≡◌, Bool, true, false, not, ◌&&◌, ◌||◌, Some, None, refl, sym, ◌∙◌, ap}
use Rattle.std.proofs.lemmas.Bool.{and_parts}
use Rattle.spec_model.specs.Values.{Assignment}
use Rattle.spec_model.specs.Games.{GameData, State, inputs_of, outputs_of}
use Rattle.spec_model.specs.Steps.{Before, is_state, is_input, is_output, reached, legal_input, legal_output, IsClosed}
use Rattle.spec_model.specs.Sets.{StateSet, no_states, all_states, both, either, rest, IsPartOf, system_forces, environment_forces, pre_sys, pre_env}
use Rattle.spec_model.proofs.Listed.{every_weaker, inputs_fit, outputs_fit, list_all-same, list_any-same}
use Rattle.spec_model.proofs.SetLaws.{forces_dual}

-- ---- sets

pub parts_agree : (a b : StateSet) → IsPartOf a b → IsPartOf b a → a ≡ b
parts_agree a b to from = λ i s. agree (a s) (b s) (to s) (from s) i
  where
    agree : (p q : Bool) → (p ≡ true → q ≡ true) → (q ≡ true → p ≡ true) → p ≡ q
    agree true q h k = sym (h refl)
    agree false true h k = k refl
    agree false false h k = refl

pub both-rest : (g : GameData) (a : StateSet) → both a (rest g a) ≡ no_states
both-rest g a = λ i s. apart (a s) (is_state g s) i
  where
    apart : (p c : Bool) → (p && (c && not p)) ≡ false
    apart true true = refl
    apart true false = refl
    apart false c = refl

pub either-rest : (g : GameData) (a : StateSet) → IsPartOf a (all_states g) → either a (rest g a) ≡ all_states g
either-rest g a inside = λ i s. together (a s) (is_state g s) (inside s) i
  where
    together : (p c : Bool) → (p ≡ true → c ≡ true) → (p || (c && not p)) ≡ c
    together true c h = sym (h refl)
    together false true h = refl
    together false false h = refl

pub rest-rest : (g : GameData) (a : StateSet) → IsPartOf a (all_states g) → rest g (rest g a) ≡ a
rest-rest g a inside = λ i s. back (a s) (is_state g s) (inside s) i
  where
    back : (p c : Bool) → (p ≡ true → c ≡ true) → (c && not (c && not p)) ≡ p
    back true true h = refl
    back true false h = h refl
    back false true h = refl
    back false false h = refl

pub rest-inside : (g : GameData) (a : StateSet) → IsPartOf (rest g a) (all_states g)
rest-inside g a s e = (and_parts (is_state g s) (not (a s)) e).0

-- ---- what the players force

-- sets that agree on the states reached are forced alike
pub environment_forces-same : (g : GameData) (t u : StateSet) (b : Before) → ((x y : Assignment) → is_input g x ≡ true → is_output g y ≡ true → t (reached g b x y) ≡ u (reached g b x y)) →
    environment_forces g t b ≡ environment_forces g u b
environment_forces-same g t u b agree =
    list_any-same _ _ (inputs_of g) (every_weaker _ _ (λ x input. ap (λ r. legal_input g b x && r) (list_all-same _ _ (outputs_of g) (every_weaker _ _ (λ y output. ap (λ r. not (legal_output g b x y) || r) (agree x y input output)) (outputs_of g) (outputs_fit g)))) (inputs_of g) (inputs_fit g))

pub system_forces-same : (g : GameData) (t u : StateSet) (b : Before) → ((x y : Assignment) → is_input g x ≡ true → is_output g y ≡ true → t (reached g b x y) ≡ u (reached g b x y)) →
    system_forces g t b ≡ system_forces g u b
system_forces-same g t u b agree =
    list_all-same _ _ (inputs_of g) (every_weaker _ _ (λ x input. ap (λ r. not (legal_input g b x) || r) (list_any-same _ _ (outputs_of g) (every_weaker _ _ (λ y output. ap (λ r. legal_output g b x y && r) (agree x y input output)) (outputs_of g) (outputs_fit g)))) (inputs_of g) (inputs_fit g))

-- at a state the complement among the states is the complement
rest_at : (g : GameData) (t : StateSet) (s : State) → is_state g s ≡ true → not (t s) ≡ rest g t s
rest_at g t s here = sym (ap (λ c. c && not (t s)) here)

pub start_dual : (g : GameData) → IsClosed g → (t : StateSet) → not (system_forces g t None) ≡ environment_forces g (rest g t) None
start_dual g closed t = forces_dual g t None ∙ environment_forces-same g (λ s. not (t s)) (rest g t) None (λ x y input output. rest_at g t _ (closed.first x y input output))

pub rest-pre_sys : (g : GameData) → IsClosed g → (t : StateSet) → rest g (pre_sys g t) ≡ pre_env g (rest g t)
rest-pre_sys g closed t = λ i s. at s i
  where
    of_state : (c p q : Bool) → (c ≡ true → not p ≡ q) → (c && not (c && p)) ≡ (c && q)
    of_state true p q e = e refl
    of_state false p q e = refl

    at : (s : State) → rest g (pre_sys g t) s ≡ pre_env g (rest g t) s
    at s = of_state (is_state g s) (system_forces g t (Some s)) (environment_forces g (rest g t) (Some s)) (λ here. forces_dual g t (Some s) ∙ environment_forces-same g (λ s. not (t s)) (rest g t) (Some s) (λ x y input output. rest_at g t _ (closed.later s x y here input output)))

pub rest-pre_env : (g : GameData) → IsClosed g → (t : StateSet) → IsPartOf t (all_states g) → rest g (pre_env g t) ≡ pre_sys g (rest g t)
rest-pre_env g closed t inside =
    ap (λ u. rest g (pre_env g u)) (sym (rest-rest g t inside))
    ∙ (ap (rest g) (sym (rest-pre_sys g closed (rest g t)))
    ∙ rest-rest g (pre_sys g (rest g t)) (λ s e. (and_parts _ _ e).0))
