-- What a move adds to a walk.
use Rattle.std.proofs.Common.{◌≡◌, inl, inr, ℕ, Bool, true, false, cond, List, [], ◌∷◌, ◌++◌, length, filter, slice_get, Some, None, refl, sym, ◌∙◌, ap, subst, arith}
use Rattle.std.proofs.lemmas.List.{append_assoc, append-nil, length_push}
use Rattle.spec_model.specs.Values.{Assignment}
use Rattle.spec_model.specs.Rules.{after}
use Rattle.spec_model.specs.Games.{GameData}
use Rattle.spec_model.specs.Steps.{is_output, legal_output, reached}
use Rattle.gr1_law.specs.EnvLayers.{EnvLayerSets}
use Rattle.gr1_law.specs.Counter.{note_of, AnsweredPlay}
use Rattle.counter_tables.specs.Seats.{SeatData, IsAbsent, AllDiffer, CountsUp}
use Rattle.counter_tables.specs.Walks.{Ending, IsEnding, IsAtSeat, MovesTo, LeadsTo, LeadEach, AreSeats, AreTooMany}
use Rattle.counter_tables.specs.Nodes.{IsMore, Leads, AddsOne, AddsRow}
use Rattle.counter_tables.proofs.Meeting.{behind_all, still_there, one_differs, IsCounted, counts_on}

-- ---- where a move leads

module _ (g : GameData) (e : EnvLayerSets) where
  abbrev pub EndsIn : SeatData → Type 0
  EndsIn v = (p : Ending) × IsEnding g e p × IsAtSeat p v

  -- the play with one move more
  abbrev pub moved : (p : Ending) (y : Assignment) (v : SeatData) → MovesTo g e p y v → Ending
  moved p y v moves =
      record {
        run = after p.run p.input y;
        notes = p.notes ++ note_of g moves.next ∷ [];
        before = Some (reached g p.before p.input y);
        memory = moves.next;
        rank = moves.rank;
        input = moves.reply;
      }

  pub moved_ends : (p : Ending) → IsEnding g e p → (y : Assignment) → is_output g y ≡ true → (v : SeatData) (moves : MovesTo g e p y v) → IsEnding g e (moved p y v moves)
  moved_ends p is y output v moves =
      record { play = AnsweredPlay.more p.run p.notes p.before p.memory p.rank p.input y moves.next is.play is.given output moves.legal moves.noted; given = moves.given }

  -- ends where the output leads
  pub moves_end : (p : Ending) → IsEnding g e p → (y : Assignment) → is_output g y ≡ true → (v : SeatData) → MovesTo g e p y v → EndsIn v
  moves_end p is y output v moves = (moved p y v moves, moved_ends p is y output v moves, record { state = reached g p.before p.input y; before = refl; is = moves.is })

  -- ---- one seat more

  pub one_seat : (seats : List SeatData) (v : SeatData) → AreSeats g e seats → EndsIn v → AreSeats g e (seats ++ v ∷ [])
  one_seat seats v are ends n u there =
      elim (behind_all seats v n u there) [
        | inl before ↦ are n u before
        | inr last ↦ subst EndsIn last.1 ends
      ]

  pub counted_seats : (old new : List SeatData) (v : SeatData) (n : ℕ) → IsCounted old new v n → AreSeats g e old → EndsIn v → AreSeats g e new
  counted_seats old new v n (inl was) are ends = subst (AreSeats g e) (sym was.0) are
  counted_seats old new v n (inr made) are ends = subst (AreSeats g e) (sym made.0) (one_seat old v are ends)

  pub counted_differ : (old new : List SeatData) (v : SeatData) (n : ℕ) → IsCounted old new v n → AllDiffer old → AllDiffer new
  counted_differ old new v n (inl was) differ = subst AllDiffer (sym was.0) differ
  counted_differ old new v n (inr made) differ = subst AllDiffer (sym made.0) (one_differs old v differ made.2)

  pub counted_more : (old new : List SeatData) (v : SeatData) (n : ℕ) → IsCounted old new v n → IsMore old new
  counted_more old new v n (inl was) = ([], was.0 ∙ sym (append-nil old))
  counted_more old new v n (inr made) = (v ∷ [], made.0)

  -- past 1,024 there are too many
  pub too_many : (seats : List SeatData) (v : SeatData) → AreSeats g e seats → AllDiffer seats → length seats ≡ 1024 → IsAbsent seats v.values v.spot → EndsIn v → AreTooMany g e
  too_many seats v are differ full absent ends = (seats ++ v ∷ [], (let one = length_push seats v in omega (arith, one, full)), one_seat seats v are ends, one_differs seats v differ absent)

  -- ---- rows

  leads_still : (old new : List SeatData) → IsMore old new → (p : Ending) (y : Assignment) (n : ℕ) → LeadsTo g e old p y n → LeadsTo g e new p y n
  leads_still old new more p y n to =
      record { seat = to.seat; moves = to.moves; there = subst (λ (seats : List SeatData). slice_get seats n ≡ Some to.seat) (sym more.1) (still_there old more.0 n to.seat to.there) }

  pub row_still : (old new : List SeatData) → IsMore old new → (p : Ending) (ys : List Assignment) (row : List ℕ) → LeadEach g e old p ys row → LeadEach g e new p ys row
  row_still old new more p [] [] all = tt
  row_still old new more p [] (n ∷ ns) all = absurd all
  row_still old new more p (y ∷ ys) [] all = absurd all
  row_still old new more p (y ∷ ys) (n ∷ ns) all = (leads_still old new more p y n all.0, row_still old new more p ys ns all.1)

  row_one : (seats : List SeatData) (p : Ending) (ys : List Assignment) (y : Assignment) (row : List ℕ) (n : ℕ) → LeadEach g e seats p ys row → LeadsTo g e seats p y n → LeadEach g e seats p (ys ++ y ∷ []) (row ++ n ∷ [])
  row_one seats p [] y [] n all one = (one, tt)
  row_one seats p [] y (k ∷ ks) n all one = absurd all
  row_one seats p (x ∷ ys) y [] n all one = absurd all
  row_one seats p (x ∷ ys) y (k ∷ ks) n all one = (all.0, row_one seats p ys y ks n all.1 one)

  pub more_then : (a b c : List SeatData) → IsMore a b → IsMore b c → IsMore a c
  more_then a b c first then = (first.0 ++ then.0, then.1 ∙ (ap (λ (seats : List SeatData). seats ++ then.0) first.1 ∙ append_assoc a first.0 then.0))

  -- what is left of a list with one more
  filter_one : (p : Assignment → Bool) (ys : List Assignment) (y : Assignment) (d : Bool) → p y ≡ d → filter p (ys ++ y ∷ []) ≡ filter p ys ++ cond d (y ∷ []) []
  filter_one p [] y d is = ap (λ (d : Bool). cond d (y ∷ []) []) is
  filter_one p (x ∷ ys) y d is = at (p x) (filter_one p ys y d is)
    where
      at : (c : Bool) → filter p (ys ++ y ∷ []) ≡ filter p ys ++ cond d (y ∷ []) [] → cond c (x ∷ filter p (ys ++ y ∷ [])) (filter p (ys ++ y ∷ [])) ≡ cond c (x ∷ filter p ys) (filter p ys) ++ cond d (y ∷ []) []
      at true rest = ap (λ (zs : List Assignment). x ∷ zs) rest
      at false rest = rest

  pub adds_nothing : (seats : List SeatData) (p : Ending) → AddsRow g e seats seats p [] []
  adds_nothing seats p = record { leads = tt; more = ([], sym (append-nil seats)); counts = refl }

  -- one output more
  pub adds_none : (first old new : List SeatData) (p : Ending) (ys : List Assignment) (y : Assignment) (row : List ℕ) → AddsRow g e first old p ys row → Leads g e old new p y None → AddsRow g e first new p (ys ++ y ∷ []) row
  adds_none first old new p ys y row adds leads =
      let legal = legal_output g p.before p.input in
      let here : filter legal (ys ++ y ∷ []) ≡ filter legal ys = filter_one legal ys y false leads.0 ∙ append-nil (filter legal ys) in
      record {
        leads = subst (λ (zs : List Assignment). LeadEach g e new p zs row) (sym here) (subst (λ (seats : List SeatData). LeadEach g e seats p (filter legal ys) row) (sym leads.1) adds.leads);
        more = subst (IsMore first) (sym leads.1) adds.more;
        counts = subst (λ (seats : List SeatData). CountsUp (length first) row (length seats)) (sym leads.1) adds.counts;
      }

  pub adds_some : (first old new : List SeatData) (p : Ending) (ys : List Assignment) (y : Assignment) (row : List ℕ) (n : ℕ) → AddsRow g e first old p ys row → Leads g e old new p y (Some n) → AddsRow g e first new p (ys ++ y ∷ []) (row ++ n ∷ [])
  adds_some first old new p ys y row n adds leads =
      let legal = legal_output g p.before p.input in
      let here : filter legal (ys ++ y ∷ []) ≡ filter legal ys ++ y ∷ [] = filter_one legal ys y true leads.0.moves.legal in
      record {
        leads = subst (λ (zs : List Assignment). LeadEach g e new p zs (row ++ n ∷ [])) (sym here) (row_one new p (filter legal ys) y row n (row_still old new leads.1 p (filter legal ys) row adds.leads) leads.0);
        more = more_then first old new adds.more leads.1;
        counts = counts_on (length first) row (length old) (n ∷ []) (length new) adds.counts leads.2;
      }

  pub none_added : (old new : List SeatData) (p : Ending) (y : Assignment) (row : List ℕ) → Leads g e old new p y None → AddsOne g e old new p y row row
  none_added old new p y row leads = record { more = ([], leads.1 ∙ sym (append-nil old)); adds = λ first ys adds. adds_none first old new p ys y row adds leads }

  pub some_added : (old new : List SeatData) (p : Ending) (y : Assignment) (row longer : List ℕ) (n : ℕ) → longer ≡ row ++ n ∷ [] → Leads g e old new p y (Some n) → AddsOne g e old new p y row longer
  some_added old new p y row longer n is leads =
      record { more = leads.1; adds = λ first ys adds. subst (λ (ns : List ℕ). AddsRow g e first new p (ys ++ y ∷ []) ns) (sym is) (adds_some first old new p ys y row n adds leads) }
