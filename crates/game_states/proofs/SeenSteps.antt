-- One step of the loops that read the states, and what they read together.
use Rattle.std.proofs.Common.{◌≡◌, ℕ, zero, suc, ◌+◌, ◌<◌, true, List, [], ◌∷◌, ◌++◌, length, map, flat_map, take, get_or, refl, sym, ◌∙◌, ap, subst, arith, append_assoc}
use Rattle.std.proofs.lemmas.Bool.{and_from}
use borrow.Author.Tests.{lt-ltb}
use Rattle.spec_model.specs.Values.{Assignment}
use Rattle.spec_model.specs.Games.{GameData, HiddenData, State, inputs_of, outputs_of, readout_of}
use Rattle.spec_model.specs.Steps.{below, hidden_values, are_hidden_values, states_of}
use Rattle.spec_model.proofs.AllStates.{Every}
use Rattle.spec_model.proofs.Listed.{every_mapped, every_flat, every_weaker, every_join}
use Rattle.game_values.specs.declared.read.Readout.{Readout}
use Rattle.game_values.specs.Moments.{values_at}
use Rattle.game_values.specs.Readouts.{readout_data}
use Rattle.game_states.specs.Seen.{seen, seen_at, state_with}
use Rattle.game_states.proofs.ChoicePlaces.{map-flat}

-- what holds of each holds of one of them
pub every_at : {V X : Type 0} (P : X → Type 0) (items : V → X) (vs : List V) (k : ℕ) (v : V) → k < length vs → v ≡ get_or vs k v → Every P (map items vs) → P (items v)
every_at P items [] k v h is all = absurd (omega arith)
every_at P items (w ∷ vs) zero v h is all = subst (λ u. P (items u)) (sym is) all.0
every_at P items (w ∷ vs) (suc k) v h is all = every_at P items vs k v (omega arith) is all.1

-- what is read of a state is what is seen of it
pub seen_is : (g : GameData) (s : State) (r : Readout) → r.moment.values.items ≡ values_at g.variables s.position → readout_data r ≡ readout_of g s → seen r ≡ seen_at g s
seen_is g s r e f = ap (λ values. record { moment = record { values = values; entries = (readout_data r).entries }; next = (readout_data r).next }) e ∙ ap (λ q. record { moment = record { values = values_at g.variables s.position; entries = q.entries }; next = q.next }) f

map_at : {V X Y : Type 0} (f : X → Y) (items : V → X) (vs : List V) (k : ℕ) (v : V) → k < length vs → v ≡ get_or vs k v → map f (map items (take (suc k) vs)) ≡ map f (map items (take k vs)) ++ f (items v) ∷ []
map_at f items [] k v h is = absurd (omega arith)
map_at f items (w ∷ vs) zero v h is = ap (λ u. f (items u) ∷ []) (sym is)
map_at f items (w ∷ vs) (suc k) v h is = ap (λ r. f (items w) ∷ r) (map_at f items vs k v (omega arith) is)

pub map_step : {V X Y : Type 0} (f : X → Y) (items : V → X) (vs : List V) (k : ℕ) (v : V) (old now : List Y) (y : Y) → k < length vs → v ≡ get_or vs k v → now ≡ old ++ map f (map items (take k vs)) → y ≡ f (items v) →
    now ++ y ∷ [] ≡ old ++ map f (map items (take (k + 1) vs))
map_step f items vs k v old now y h is e made =
    let next : k + 1 ≡ suc k = omega arith in
    ap (λ r. r ++ y ∷ []) e ∙ (append_assoc old (map f (map items (take k vs))) (y ∷ []) ∙ (ap (λ z. old ++ (map f (map items (take k vs)) ++ z ∷ [])) made ∙ ap (λ r. old ++ r) (sym (map_at f items vs k v h is) ∙ ap (λ n. map f (map items (take n vs))) (sym next))))

flat_at : {V X Y : Type 0} (f : X → List Y) (items : V → X) (vs : List V) (k : ℕ) (v : V) → k < length vs → v ≡ get_or vs k v → flat_map f (map items (take (suc k) vs)) ≡ flat_map f (map items (take k vs)) ++ f (items v)
flat_at f items [] k v h is = absurd (omega arith)
flat_at f items (w ∷ vs) zero v h is = append-nil (f (items w)) ∙ ap (λ u. f (items u)) (sym is)
  where
    append-nil : {A : Type 0} (ys : List A) → ys ++ [] ≡ ys
    append-nil [] = refl
    append-nil (y ∷ ys) = ap (λ zs. y ∷ zs) (append-nil ys)
flat_at f items (w ∷ vs) (suc k) v h is = ap (λ r. f (items w) ++ r) (flat_at f items vs k v (omega arith) is) ∙ sym (append_assoc (f (items w)) (flat_map f (map items (take k vs))) (f (items v)))

pub flat_step : {V X Y : Type 0} (f : X → List Y) (items : V → X) (vs : List V) (k : ℕ) (v : V) (old now : List Y) → k < length vs → v ≡ get_or vs k v → now ≡ old ++ flat_map f (map items (take k vs)) →
    now ++ f (items v) ≡ old ++ flat_map f (map items (take (k + 1) vs))
flat_step f items vs k v old now h is e =
    let next : k + 1 ≡ suc k = omega arith in
    ap (λ r. r ++ f (items v)) e ∙ (append_assoc old (flat_map f (map items (take k vs))) (f (items v)) ∙ ap (λ r. old ++ r) (sym (flat_at f items vs k v h is) ∙ ap (λ n. flat_map f (map items (take n vs))) (sym next)))

-- all states, by what a function makes of each
pub map-states : {Y : Type 0} (f : State → Y) (g : GameData) → flat_map (λ h. flat_map (λ x. map (λ y. f (state_with h x y)) (outputs_of g)) (inputs_of g)) (hidden_values g.hidden) ≡ map f (states_of g)
map-states f g = sym (map-flat f (λ h. flat_map (λ x. map (λ y. state_with h x y) (outputs_of g)) (inputs_of g)) (hidden_values g.hidden) ∙ each_hidden (hidden_values g.hidden))
  where
    map-map : (h : List ℕ) (x : Assignment) (ys : List Assignment) → map f (map (λ y. state_with h x y) ys) ≡ map (λ y. f (state_with h x y)) ys
    map-map h x [] = refl
    map-map h x (y ∷ ys) = ap (λ r. f (state_with h x y) ∷ r) (map-map h x ys)

    each_input : (h : List ℕ) (xs : List Assignment) → flat_map (λ x. map f (map (λ y. state_with h x y) (outputs_of g))) xs ≡ flat_map (λ x. map (λ y. f (state_with h x y)) (outputs_of g)) xs
    each_input h [] = refl
    each_input h (x ∷ xs) = ap (λ r. r ++ flat_map (λ x. map f (map (λ y. state_with h x y) (outputs_of g))) xs) (map-map h x (outputs_of g)) ∙ ap (λ r. map (λ y. f (state_with h x y)) (outputs_of g) ++ r) (each_input h xs)

    at_hidden : (h : List ℕ) → map f (flat_map (λ x. map (λ y. state_with h x y) (outputs_of g)) (inputs_of g)) ≡ flat_map (λ x. map (λ y. f (state_with h x y)) (outputs_of g)) (inputs_of g)
    at_hidden h = map-flat f (λ x. map (λ y. state_with h x y) (outputs_of g)) (inputs_of g) ∙ each_input h (inputs_of g)

    each_hidden : (hs : List (List ℕ)) → flat_map (λ h. map f (flat_map (λ x. map (λ y. state_with h x y) (outputs_of g)) (inputs_of g))) hs ≡ flat_map (λ h. flat_map (λ x. map (λ y. f (state_with h x y)) (outputs_of g)) (inputs_of g)) hs
    each_hidden [] = refl
    each_hidden (h ∷ hs) = ap (λ r. r ++ flat_map (λ h. map f (flat_map (λ x. map (λ y. state_with h x y) (outputs_of g)) (inputs_of g))) hs) (at_hidden h) ∙ ap (λ r. flat_map (λ x. map (λ y. f (state_with h x y)) (outputs_of g)) (inputs_of g) ++ r) (each_hidden hs)

-- ---- the listed hidden values fit

below_fit : (n : ℕ) → Every (λ v. v < n) (below n)
below_fit zero = tt
below_fit (suc n) = every_join (λ v. v < suc n) (below n) (n ∷ []) (every_weaker (λ v. v < n) (λ v. v < suc n) (λ v h. omega arith) (below n) (below_fit n)) (omega arith, tt)

pub hidden_fit : (hs : List HiddenData) → Every (λ vs. are_hidden_values hs vs ≡ true) (hidden_values hs)
hidden_fit [] = (refl, tt)
hidden_fit (h ∷ hs) =
    every_flat (λ vs. are_hidden_values (h ∷ hs) vs ≡ true) (λ v. map (λ vs. v ∷ vs) (hidden_values hs)) (below h.values)
    (every_weaker (λ v. v < h.values) (λ v. Every (λ vs. are_hidden_values (h ∷ hs) vs ≡ true) (map (λ vs. v ∷ vs) (hidden_values hs)))
    (λ v less. every_mapped (λ vs. are_hidden_values (h ∷ hs) vs ≡ true) (λ vs. v ∷ vs) (hidden_values hs) (every_weaker (λ vs. are_hidden_values hs vs ≡ true) (λ vs. are_hidden_values (h ∷ hs) (v ∷ vs) ≡ true) (λ vs e. and_from _ _ (lt-ltb v h.values less) e) (hidden_values hs) (hidden_fit hs)))
    (below h.values) (below_fit h.values))
