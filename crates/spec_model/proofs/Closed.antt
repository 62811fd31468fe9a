-- In a well-made game a step from a state leads to a state.
use Rattle.std.proofs.Common.{◌≡◌, ℕ, zero, suc, Bool, true, nat_lt, List, [], ◌∷◌, ◌++◌, map, slice_index, refl, ◌∙◌, ap, arith, append_assoc}
use Rattle.std.proofs.lemmas.Bool.{and_parts, and_from, false≢true}
use Rattle.std.specs.List.{list_all}
use borrow.Author.Tests.{ltb-true, lt-ltb}
use Rattle.spec_model.specs.Syntax.{VariableData}
use Rattle.spec_model.specs.Rules.{Position}
use Rattle.spec_model.specs.Typing.{Scope}
use Rattle.spec_model.specs.Games.{GameData, HiddenData, Readout, cell_of, read_table, read_tables, nothing_read}
use Rattle.spec_model.specs.Steps.{are_hidden_values, IsClosed}
use Rattle.spec_model.specs.WellMade.{is_table, are_tables, WellMade}

-- what is read of the numbers that pass a test at 0 passes it
index_passes : (p : ℕ → Bool) (xs : List ℕ) (i : ℕ) → p 0 ≡ true → list_all p xs ≡ true → p (slice_index xs i) ≡ true
index_passes p [] i none all = none
index_passes p (x ∷ xs) zero none all = (and_parts (p x) (list_all p xs) all).0
index_passes p (x ∷ xs) (suc i) none all = index_passes p xs i none (and_parts (p x) (list_all p xs) all).1

positive : (a b : ℕ) → nat_lt a b ≡ true → nat_lt 0 b ≡ true
positive a b e = let below = ltb-true a b e in lt-ltb 0 b (omega arith)

pub firsts_fit : (sc : Scope) (hs : List HiddenData) → are_tables sc hs ≡ true → are_hidden_values hs (map (λ h. h.first) hs) ≡ true
firsts_fit sc [] e = refl
firsts_fit sc (h ∷ hs) e =
    let parts = and_parts (is_table sc h) _ e in
    let first = and_parts (nat_lt h.first h.values) _ parts.0 in
    and_from _ _ first.0 (firsts_fit _ hs parts.1)

-- what the tables add to the next values fits them
pub nexts_fit : (vs : List VariableData) (p : Position) (r : Readout) (sc : Scope) (hs : List HiddenData) (values : List ℕ) → are_tables sc hs ≡ true → are_hidden_values hs values ≡ true →
    (more : List ℕ) × ((read_tables vs p r hs values).next ≡ r.next ++ more) × (are_hidden_values hs more ≡ true)
nexts_fit vs p r sc [] [] e f = ([], append-nil r.next, refl)
  where
    append-nil : (xs : List ℕ) → xs ≡ xs ++ []
    append-nil [] = refl
    append-nil (x ∷ xs) = ap (λ ys. x ∷ ys) (append-nil xs)
nexts_fit vs p r sc [] (v ∷ values) e f = absurd (false≢true f)
nexts_fit vs p r sc (h ∷ hs) [] e f = absurd (false≢true f)
nexts_fit vs p r sc (h ∷ hs) (v ∷ values) e f =
    let parts = and_parts (is_table sc h) _ e in
    let first = and_parts (nat_lt h.first h.values) _ parts.0 in
    let next = and_parts (list_all (λ v. nat_lt v h.values) h.next) _ first.1 in
    let fits = and_parts (nat_lt v h.values) (are_hidden_values hs values) f in
    let cell = cell_of vs p r.entries h v in
    let rest = nexts_fit vs p (read_table r h cell) _ hs values parts.1 fits.1 in (
      slice_index h.next cell ∷ rest.0,
      rest.1 ∙ append_assoc r.next (slice_index h.next cell ∷ []) rest.0,
      and_from _ _ (index_passes (λ v. nat_lt v h.values) h.next cell (positive h.first h.values first.0) next.0) rest.2,
    )

pub closed : (g : GameData) → WellMade g → IsClosed g
closed g made =
    record {
      first = λ x y input output. and_from _ _ (firsts_fit _ g.hidden made.hidden) (and_from _ _ input output);
      later = λ s x y state input output.
          let parts = and_parts _ _ state in
          let fit = nexts_fit g.variables s.position nothing_read _ g.hidden s.hidden made.hidden parts.0 in
          and_from _ _ (ap (are_hidden_values g.hidden) fit.1 ∙ fit.2) (and_from _ _ input output);
    }
