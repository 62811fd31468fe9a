-- What the numbers of a row name, and what follows where two things are said to be the same.
use Rattle.std.proofs.Common.{◌≡◌, ℕ, zero, suc, ◌==◌, Bool, true, false, ◌&&◌, cond, List, [], ◌∷◌, Option, Some, None, filter, slice_get, refl, sym, ◌∙◌, ap, subst}
use Rattle.std.proofs.lemmas.Bool.{and_parts, false≢true}
use Rattle.std.specs.List.{list_all}
use borrow.Author.Tests.{eqb-true}
use Rattle.spec_model.specs.declared.value.Value.{Value}
use Rattle.spec_model.specs.Values.{Assignment, same_value}
use Rattle.spec_model.specs.Rules.{Position}
use Rattle.spec_model.specs.Games.{State}
use Rattle.spec_model.proofs.AllStates.{Every, same_value-true}
use Rattle.spec_model.proofs.Listed.{every_weaker}
use Rattle.strategy_tables.specs.Tables.{NodeData, same_values, same_numbers, same_state, some_passes, passes_if_some, names, each_target}

-- ---- the same

pub same_values-true : (vs ws : Assignment) → same_values vs ws ≡ true → vs ≡ ws
same_values-true [] [] e = refl
same_values-true [] (w ∷ ws) e = absurd (false≢true e)
same_values-true (v ∷ vs) [] e = absurd (false≢true e)
same_values-true (v ∷ vs) (w ∷ ws) e =
    let parts = and_parts (same_value v w) (same_values vs ws) e in
    ap (λ (v : Value). v ∷ vs) (same_value-true v w parts.0) ∙ ap (λ (vs : Assignment). w ∷ vs) (same_values-true vs ws parts.1)

same_numbers-true : (xs ys : List ℕ) → same_numbers xs ys ≡ true → xs ≡ ys
same_numbers-true [] [] e = refl
same_numbers-true [] (y ∷ ys) e = absurd (false≢true e)
same_numbers-true (x ∷ xs) [] e = absurd (false≢true e)
same_numbers-true (x ∷ xs) (y ∷ ys) e =
    let parts = and_parts (x == y) (same_numbers xs ys) e in
    ap (λ (x : ℕ). x ∷ xs) (eqb-true x y parts.0) ∙ ap (λ (xs : List ℕ). y ∷ xs) (same_numbers-true xs ys parts.1)

state_of : List ℕ → Assignment → Assignment → State
state_of hidden x y = record { hidden = hidden; position = record { input = x; output = y } }

pub same_state-true : (s t : State) → same_state s t ≡ true → s ≡ t
unfolding state_of
same_state-true s t e =
    let parts = and_parts _ _ e in
    let moves = and_parts _ _ parts.1 in
    ap (λ (hidden : List ℕ). state_of hidden s.position.input s.position.output) (same_numbers-true s.hidden t.hidden parts.0)
    ∙ (ap (λ (x : Assignment). state_of t.hidden x s.position.output) (same_values-true s.position.input t.position.input moves.0)
    ∙ ap (state_of t.hidden t.position.input) (same_values-true s.position.output t.position.output moves.1))

-- ---- what is named

-- a move has a node in the row, one that fits
pub record Found {X : Type 0} (nodes : List NodeData) (fits : X → NodeData → Bool) (row : List ℕ) (x : X) : Type 0 where
  pub place : ℕ
  pub number : ℕ
  pub node : NodeData
  pub in_row : slice_get row place ≡ Some number
  pub in_table : slice_get nodes number ≡ Some node
  pub fits_move : fits x node ≡ true

pub names-found : {X : Type 0} (nodes : List NodeData) (fits : X → NodeData → Bool) (xs : List X) (row : List ℕ) → names nodes fits xs row ≡ true → Every (Found nodes fits row) xs
names-found nodes fits [] [] e = tt
names-found nodes fits [] (t ∷ ts) e = absurd (false≢true e)
names-found nodes fits (x ∷ xs) [] e = absurd (false≢true e)
names-found nodes fits (x ∷ xs) (t ∷ ts) e =
    let parts = and_parts (some_passes (fits x) (slice_get nodes t)) (names nodes fits xs ts) e in
    (here (slice_get nodes t) refl parts.0, every_weaker (Found nodes fits ts) (Found nodes fits (t ∷ ts)) later xs (names-found nodes fits xs ts parts.1))
  where
    here : (o : Option NodeData) → slice_get nodes t ≡ o → some_passes (fits x) o ≡ true → Found nodes fits (t ∷ ts) x
    here None is e = absurd (false≢true e)
    here (Some v) is e = record { place = 0; number = t; node = v; in_row = refl; in_table = is; fits_move = e }

    later : (y : _) → Found nodes fits ts y → Found nodes fits (t ∷ ts) y
    later y found = record { place = suc found.place; number = found.number; node = found.node; in_row = found.in_row; in_table = found.in_table; fits_move = found.fits_move }

-- what holds of each element that passes
pub every_passing : {X : Type 0} (P : X → Type 0) (p : X → Bool) (xs : List X) → Every P (filter p xs) → Every (λ x. p x ≡ true → P x) xs
every_passing P p [] all = tt
every_passing P p (x ∷ xs) all = at (p x) refl all (λ more. every_passing P p xs more)
  where
    at : (b : Bool) → p x ≡ b → Every P (cond b (x ∷ filter p xs) (filter p xs)) → (Every P (filter p xs) → Every (λ x. p x ≡ true → P x) xs) → Every (λ x. p x ≡ true → P x) (x ∷ xs)
    at true is all rest = (λ e. all.0, rest all.1)
    at false is all rest = (λ e. absurd (false≢true (sym is ∙ e)), rest all)

pub all_at : {X : Type 0} (p : X → Bool) (xs : List X) → list_all p xs ≡ true → (i : ℕ) (x : X) → slice_get xs i ≡ Some x → p x ≡ true
all_at p [] e i x is = absurd (cc)
all_at p (y ∷ xs) e zero x is = let same : y ≡ x = cc in subst (λ y. p y ≡ true) same (and_parts (p y) (list_all p xs) e).0
all_at p (y ∷ xs) e (suc i) x is = all_at p xs (and_parts (p y) (list_all p xs) e).1 i x is

pub target_at : (nodes : List NodeData) (v : NodeData) (test : NodeData → Bool) → each_target nodes v test ≡ true → (place number : ℕ) (w : NodeData) → slice_get v.next place ≡ Some number → slice_get nodes number ≡ Some w → test w ≡ true
target_at nodes v test e place number w in_row in_table =
    let here = all_at (λ t. passes_if_some test (slice_get nodes t)) v.next e place number in_row in
    subst (λ (o : Option NodeData). passes_if_some test o ≡ true) in_table here
