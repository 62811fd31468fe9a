-- Row after row: each seat that was met has its row in turn.
use Rattle.std.proofs.Common.{◌≡◌, ◌⊎◌, inl, inr, ℕ, zero, suc, ◌<◌, ◌≤◌, List, [], ◌∷◌, ◌++◌, length, flat_map, slice_get, Some, true, IsTrue, refl, sym, ◌∙◌, ap, subst, arith}
use Rattle.std.proofs.lemmas.List.{append_assoc, append-nil, length-append, length_push}
use Rattle.std.proofs.lemmas.Option.{slice_get_within}
use Rattle.std.specs.List.{AllByRecursion}
use Rattle.spec_model.specs.Values.{Assignment}
use Rattle.spec_model.specs.Games.{GameData, outputs_of}
use Rattle.spec_model.specs.Steps.{is_output}
use Rattle.spec_model.proofs.AllStates.{Every}
use Rattle.spec_model.proofs.Listed.{outputs_fit}
use Rattle.gr1_law.specs.EnvLayers.{EnvLayerSets}
use Rattle.counter_tables.specs.Seats.{SeatData, CountsUp}
use Rattle.counter_tables.specs.Walks.{Ending, IsEnding, IsAtSeat}
use Rattle.counter_tables.specs.Nodes.{IsMore, AddsRow, IsWalked, IsWalkedTo}
use Rattle.counter_tables.proofs.Meeting.{behind_all, still_there, counts_on}
use Rattle.counter_tables.proofs.Walked.{row_still, more_then}

-- the first seats have their rows
pub record AreWalked (g : GameData) (e : EnvLayerSets) (old new : List SeatData) (rows : List (List ℕ)) : Type 0 where
  pub more : IsMore old new
  pub within : length rows ≤ length new
  pub each : (n : ℕ) (v : SeatData) (row : List ℕ) → slice_get new n ≡ Some v → slice_get rows n ≡ Some row → IsWalked g e new v row
  pub counts : CountsUp (length old) (flat_map (λ row. row) rows) (length new)

flat_push : (rows : List (List ℕ)) (row : List ℕ) → flat_map (λ (row : List ℕ). row) (rows ++ row ∷ []) ≡ flat_map (λ (row : List ℕ). row) rows ++ row
flat_push [] row = append-nil row
flat_push (r ∷ rows) row = ap (λ (ns : List ℕ). r ++ ns) (flat_push rows row) ∙ sym (append_assoc r (flat_map (λ (row : List ℕ). row) rows) row)

front_there : (xs ys : List SeatData) (n : ℕ) (v : SeatData) → n < length xs → slice_get (xs ++ ys) n ≡ Some v → slice_get xs n ≡ Some v
front_there [] ys n v below there = absurd (omega arith)
front_there (x ∷ xs) ys zero v below there = there
front_there (x ∷ xs) ys (suc n) v below there = front_there xs ys n v (omega arith) there

some_same : (u v : SeatData) → Some u ≡ Some v → u ≡ v
some_same u v is = cc (is)

module _ (g : GameData) (e : EnvLayerSets) where
  longer : (old new : List SeatData) → IsMore old new → length old ≤ length new
  longer old new more = let long = ap (λ (seats : List SeatData). length seats) more.1 in let both = length-append old more.0 in omega (arith, long, both)

  walked_still : (old new : List SeatData) → IsMore old new → (v : SeatData) (row : List ℕ) → IsWalked g e old v row → IsWalked g e new v row
  walked_still old new more v row walked =
      record { ending = walked.ending; ends = walked.ends; at = walked.at; leads = row_still g e old new more walked.ending _ row walked.leads }

  pub walked_none : (seats : List SeatData) → AreWalked g e seats seats []
  walked_none seats = record { more = ([], sym (append-nil seats)); within = omega arith; each = λ n v row there row_there. absurd (cc (row_there)); counts = refl }

  pub walked_more : (old cur new : List SeatData) (rows : List (List ℕ)) → AreWalked g e old cur rows → (v : SeatData) → slice_get cur (length rows) ≡ Some v →
      (p : Ending) → IsEnding g e p → IsAtSeat p v → (row : List ℕ) → AddsRow g e cur new p (outputs_of g) row → AreWalked g e old new (rows ++ row ∷ [])
  walked_more old cur new rows walked v here p is at row adds =
      record {
        more = more_then g e old cur new walked.more adds.more;
        within = (let one = length_push rows row in let long = longer cur new adds.more in let inside = slice_get_within cur (length rows) v here in omega (arith, one, long, inside));
        each = λ n u r at_u at_r. by_place n u r at_u (behind_all rows row n r at_r);
        counts = subst (λ (ns : List ℕ). CountsUp (length old) ns (length new)) (sym (flat_push rows row)) (counts_on (length old) (flat_map (λ (row : List ℕ). row) rows) (length cur) row (length new) walked.counts adds.counts);
      }
    where
      now_there : (n : ℕ) (u : SeatData) → slice_get cur n ≡ Some u → slice_get new n ≡ Some u
      now_there n u there = subst (λ (seats : List SeatData). slice_get seats n ≡ Some u) (sym adds.more.1) (still_there cur adds.more.0 n u there)

      last_row : IsWalked g e new v row
      last_row = record { ending = p; ends = is; at = at; leads = adds.leads }

      by_place : (n : ℕ) (u : SeatData) (r : List ℕ) → slice_get new n ≡ Some u → (slice_get rows n ≡ Some r) ⊎ ((n ≡ length rows) × (row ≡ r)) → IsWalked g e new u r
      by_place n u r at_u (inl before) =
          let inside = slice_get_within rows n r before in
          let within = walked.within in
          let there = front_there cur adds.more.0 n u (omega (arith, inside, within)) (subst (λ (seats : List SeatData). slice_get seats n ≡ Some u) adds.more.1 at_u) in
          walked_still cur new adds.more u r (walked.each n u r there before)
      by_place n u r at_u (inr last) =
          let same : v ≡ u = some_same v u (sym (now_there (length rows) v here) ∙ (ap (λ k. slice_get new k) (sym last.0) ∙ at_u)) in
          subst (λ (r : List ℕ). IsWalked g e new u r) last.1 (subst (λ (u : SeatData). IsWalked g e new u row) same last_row)

  pub walked_all : (old new : List SeatData) (rows : List (List ℕ)) → AreWalked g e old new rows → length new ≤ length rows → IsWalkedTo g e old new rows
  walked_all old new rows walked all =
      record { more = walked.more; counted = (let within = walked.within in omega (arith, within, all)); each = walked.each; counts = walked.counts }

-- the outputs of a game are outputs
pub outputs_are : (g : GameData) (ys : List Assignment) → ys ≡ outputs_of g → AllByRecursion (λ y. IsTrue (is_output g y)) ys
outputs_are g ys is = subst (AllByRecursion (λ y. IsTrue (is_output g y))) (sym is) (by_each (outputs_of g) (outputs_fit g))
  where
    by_each : (zs : List Assignment) → Every (λ y. is_output g y ≡ true) zs → AllByRecursion (λ y. IsTrue (is_output g y)) zs
    by_each [] every = tt
    by_each (z ∷ zs) every = (every.0, by_each zs every.1)
