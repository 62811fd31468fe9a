-- What a move adds to a walk.
use Rattle.std.proofs.Common.{◌≡◌, inl, inr, ℕ, ◌≤◌, Bool, true, false, cond, List, [], ◌∷◌, ◌++◌, length, filter, slice_get, Option, Some, None, refl, sym, ◌∙◌, ap, subst, arith}
use Rattle.std.proofs.lemmas.List.{append_assoc, append-nil, length-append, length_push}
use Rattle.spec_model.specs.Values.{Assignment}
use Rattle.spec_model.specs.Rules.{Run, after}
use Rattle.spec_model.specs.Games.{GameData, State}
use Rattle.spec_model.specs.Steps.{Before, is_input, legal_input, reached}
use Rattle.gr1_law.specs.Layers.{LayerSets}
use Rattle.gr1_law.specs.Choice.{Memory, ChosenPlay}
use Rattle.controller.specs.Spots.{EndsAt}
use Rattle.strategy_check.specs.Seats.{SeatData, IsAbsent, AllDiffer, IsNumbered, CountsUp}
use Rattle.strategy_check.specs.Walks.{IsFrom, MovesTo, LeadsTo, LeadEach, AreSeats, AreTooMany}
use Rattle.strategy_check.specs.Nodes.{IsMore, with_number, Leads, AddsRow}
use Rattle.strategy_check.proofs.Meeting.{behind_all, still_there, one_differs, counts_on}

-- ---- where a move leads

module _ (g : GameData) (l : LayerSets) where
  from_play : (from : Option SeatData) (h : Run) (b : Before) (m : Memory) → IsFrom g l from h b m → ChosenPlay g l h b m
  from_play None h b m is =
      subst (λ (h : Run). ChosenPlay g l h b m) (sym is.0) (subst (λ (b : Before). ChosenPlay g l [] b m) (sym is.1) (subst (λ (m : Memory). ChosenPlay g l [] None m) (sym is.2) ChosenPlay.nothing))
  from_play (Some v) h b m is = subst (λ (b : Before). ChosenPlay g l h b m) (sym is.1) is.2.play

  -- a play ends where it leads
  pub moves_end : (from : Option SeatData) (h : Run) (b : Before) (m : Memory) → IsFrom g l from h b m → (x : Assignment) → is_input g x ≡ true → (v : SeatData) → MovesTo g l b m x v → (to : Run) × (s : State) × (next : Memory) × EndsAt g l to s next v.values v.spot
  moves_end from h b m is x input v moves = (
    after h x moves.output,
    reached g b x moves.output,
    moves.next,
    record {
      play = ChosenPlay.more h b m x moves.output moves.next (from_play from h b m is) input moves.legal moves.chosen;
      lists = ap (λ (q : SeatData). q.values) moves.is;
      remembered = ap (λ (q : SeatData). q.spot) moves.is;
    },
  )

  -- ---- one seat more

  pub one_seat : (seats : List SeatData) (v : SeatData) → AreSeats g l seats → (h : Run) (s : State) (m : Memory) → EndsAt g l h s m v.values v.spot → AreSeats g l (seats ++ v ∷ [])
  one_seat seats v are h s m ends n u there =
      elim (behind_all seats v n u there) [
        | inl before ↦ are n u before
        | inr last ↦ subst (λ (u : SeatData). (h : Run) × (s : State) × (m : Memory) × EndsAt g l h s m u.values u.spot) last.1 (h, s, m, ends)
      ]

  pub numbered_seats : (old new : List SeatData) (v : SeatData) (n : ℕ) → IsNumbered old new v n → AreSeats g l old → (h : Run) (s : State) (m : Memory) → EndsAt g l h s m v.values v.spot → AreSeats g l new
  numbered_seats old new v n (inl was) are h s m ends = subst (AreSeats g l) (sym was.0) are
  numbered_seats old new v n (inr made) are h s m ends = subst (AreSeats g l) (sym made.0) (one_seat old v are h s m ends)

  pub numbered_differ : (old new : List SeatData) (v : SeatData) (n : ℕ) → IsNumbered old new v n → AllDiffer old → AllDiffer new
  numbered_differ old new v n (inl was) differ = subst AllDiffer (sym was.0) differ
  numbered_differ old new v n (inr made) differ = subst AllDiffer (sym made.0) (one_differs old v differ made.2)

  pub numbered_more : (old new : List SeatData) (v : SeatData) (n : ℕ) → IsNumbered old new v n → IsMore old new
  numbered_more old new v n (inl was) = ([], was.0 ∙ sym (append-nil old))
  numbered_more old new v n (inr made) = (v ∷ [], made.0)

  -- past 1,024 there are too many
  pub too_many : (seats : List SeatData) (v : SeatData) → AreSeats g l seats → AllDiffer seats → length seats ≡ 1024 → IsAbsent seats v → (h : Run) (s : State) (m : Memory) → EndsAt g l h s m v.values v.spot → AreTooMany g l
  too_many seats v are differ full absent h s m ends = (seats ++ v ∷ [], (let one = length_push seats v in omega (arith, one, full)), one_seat seats v are h s m ends, one_differs seats v differ absent)

  -- ---- rows

  leads_still : (old new : List SeatData) → IsMore old new → (b : Before) (m : Memory) (x : Assignment) (n : ℕ) → LeadsTo g l old b m x n → LeadsTo g l new b m x n
  leads_still old new more b m x n to =
      record { seat = to.seat; moves = to.moves; there = subst (λ (seats : List SeatData). slice_get seats n ≡ Some to.seat) (sym more.1) (still_there old more.0 n to.seat to.there) }

  pub row_still : (old new : List SeatData) → IsMore old new → (b : Before) (m : Memory) (xs : List Assignment) (row : List ℕ) → LeadEach g l old b m xs row → LeadEach g l new b m xs row
  row_still old new more b m [] [] all = tt
  row_still old new more b m [] (n ∷ ns) all = absurd all
  row_still old new more b m (x ∷ xs) [] all = absurd all
  row_still old new more b m (x ∷ xs) (n ∷ ns) all = (leads_still old new more b m x n all.0, row_still old new more b m xs ns all.1)

  row_one : (seats : List SeatData) (b : Before) (m : Memory) (xs : List Assignment) (x : Assignment) (row : List ℕ) (n : ℕ) → LeadEach g l seats b m xs row → LeadsTo g l seats b m x n → LeadEach g l seats b m (xs ++ x ∷ []) (row ++ n ∷ [])
  row_one seats b m [] x [] n all one = (one, tt)
  row_one seats b m [] x (k ∷ ks) n all one = absurd all
  row_one seats b m (y ∷ xs) x [] n all one = absurd all
  row_one seats b m (y ∷ xs) x (k ∷ ks) n all one = (all.0, row_one seats b m xs x ks n all.1 one)

  pub more_then : (a b c : List SeatData) → IsMore a b → IsMore b c → IsMore a c
  more_then a b c first then = (first.0 ++ then.0, then.1 ∙ (ap (λ (seats : List SeatData). seats ++ then.0) first.1 ∙ append_assoc a first.0 then.0))

  -- what is left of a list with one more
  filter_one : (p : Assignment → Bool) (xs : List Assignment) (x : Assignment) (d : Bool) → p x ≡ d → filter p (xs ++ x ∷ []) ≡ filter p xs ++ cond d (x ∷ []) []
  filter_one p [] x d is = ap (λ (d : Bool). cond d (x ∷ []) []) is
  filter_one p (y ∷ xs) x d is = at (p y) (filter_one p xs x d is)
    where
      at : (c : Bool) → filter p (xs ++ x ∷ []) ≡ filter p xs ++ cond d (x ∷ []) [] → cond c (y ∷ filter p (xs ++ x ∷ [])) (filter p (xs ++ x ∷ [])) ≡ cond c (y ∷ filter p xs) (filter p xs) ++ cond d (x ∷ []) []
      at true rest = ap (λ (ys : List Assignment). y ∷ ys) rest
      at false rest = rest

  -- no input yet
  pub adds_nothing : (seats : List SeatData) (b : Before) (m : Memory) → AddsRow g l seats seats b m [] []
  adds_nothing seats b m = record { leads = tt; more = ([], sym (append-nil seats)); counts = refl }

  -- one input more
  pub adds_none : (first old new : List SeatData) (b : Before) (m : Memory) (xs : List Assignment) (x : Assignment) (row : List ℕ) → AddsRow g l first old b m xs row → Leads g l old new b m x None → AddsRow g l first new b m (xs ++ x ∷ []) row
  adds_none first old new b m xs x row adds leads =
      let here : filter (legal_input g b) (xs ++ x ∷ []) ≡ filter (legal_input g b) xs = filter_one (legal_input g b) xs x false leads.0 ∙ append-nil (filter (legal_input g b) xs) in
      record {
        leads = subst (λ (ys : List Assignment). LeadEach g l new b m ys row) (sym here) (subst (λ (seats : List SeatData). LeadEach g l seats b m (filter (legal_input g b) xs) row) (sym leads.1) adds.leads);
        more = subst (IsMore first) (sym leads.1) adds.more;
        counts = subst (λ (seats : List SeatData). CountsUp (length first) row (length seats)) (sym leads.1) adds.counts;
      }

  pub adds_some : (first old new : List SeatData) (b : Before) (m : Memory) (xs : List Assignment) (x : Assignment) (row : List ℕ) (n : ℕ) → AddsRow g l first old b m xs row → Leads g l old new b m x (Some n) → AddsRow g l first new b m (xs ++ x ∷ []) (row ++ n ∷ [])
  adds_some first old new b m xs x row n adds leads =
      let here : filter (legal_input g b) (xs ++ x ∷ []) ≡ filter (legal_input g b) xs ++ x ∷ [] = filter_one (legal_input g b) xs x true leads.0.moves.legal in
      record {
        leads = subst (λ (ys : List Assignment). LeadEach g l new b m ys (row ++ n ∷ [])) (sym here) (row_one new b m (filter (legal_input g b) xs) x row n (row_still old new leads.1 b m (filter (legal_input g b) xs) row adds.leads) leads.0);
        more = more_then first old new adds.more leads.1;
        counts = counts_on (length first) row (length old) (n ∷ []) (length new) adds.counts leads.2;
      }

  pub adds_one : (first old new : List SeatData) (b : Before) (m : Memory) (xs : List Assignment) (x : Assignment) (row : List ℕ) (o : Option ℕ) → AddsRow g l first old b m xs row → Leads g l old new b m x o → AddsRow g l first new b m (xs ++ x ∷ []) (with_number row o)
  adds_one first old new b m xs x row None adds leads = adds_none first old new b m xs x row adds leads
  adds_one first old new b m xs x row (Some n) adds leads = adds_some first old new b m xs x row n adds leads

  pub leads_longer : (old new : List SeatData) (b : Before) (m : Memory) (x : Assignment) (o : Option ℕ) → Leads g l old new b m x o → length old ≤ length new
  leads_longer old new b m x None leads = let long = ap (λ (seats : List SeatData). length seats) leads.1 in omega (arith, long)
  leads_longer old new b m x (Some n) leads = let long = ap (λ (seats : List SeatData). length seats) leads.1.1 in let both = length-append old leads.1.0 in omega (arith, long, both)
