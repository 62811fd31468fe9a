-- An expression and the one with its repeats written out match the same stretches.
use Rattle.std.proofs.Common.{◌≡◌, ℕ, zero, suc, ◌+◌, ◌-◌, ◌<◌, ◌≤◌, ◌==◌, inl, inr, Bool, true, false, ◌&&◌, nat_le, Some, None, refl, sym, subst, arith}
use Rattle.std.proofs.lemmas.Bool.{and_parts, and_from, or_cases, or_left, or_right, false≢true, eqb-true, eq-eqb, leb-true, cases_eq}
use Rattle.spec_model.specs.Syntax.{Regular, Atom, Sequence, Choice, Repetition, Regulars}
use Rattle.spec_model.specs.Meaning.{Reading, holds_at}
use Rattle.spec_model.specs.Triggers.{some_from, some_place, splits_into, matches, matches_all, matches_some}
use Rattle.spec_model.specs.TriggerStates.{Written, Bracket, Empty, Then, Either, Star, copies, written, written_in_turn, written_besides}
use Rattle.trigger_dfa.specs.Reads.{InPieces, Reads}
use Rattle.spec_model.specs.WellTyped.{has_some}
use Rattle.trigger_dfa.specs.Laws.{is_readable, are_readable, NoneIsMissed, WrittenOutReads}

-- ---- places

found : (low n : ℕ) (test : ℕ → Bool) → some_from low n test ≡ true → (k : ℕ) × (low ≤ k) × (k < low + n) × (test k ≡ true)
found low zero test e = absurd (false≢true e)
found low (suc n) test e =
    elim (or_cases (test low) (some_from (suc low) n test) e) [
      | inl here ↦ (low, omega arith, omega arith, here)
      | inr later ↦ let f = found (suc low) n test later in (f.0, omega (arith, f.1), omega (arith, f.2), f.3)
    ]

finds : (low n : ℕ) (test : ℕ → Bool) (k : ℕ) → low ≤ k → k < low + n → test k ≡ true → some_from low n test ≡ true
finds low zero test k from_on before e = absurd (omega arith)
finds low (suc n) test k from_on before e =
    elim (cases_eq low k) [
      | inl same ↦ or_left (test low) (some_from (suc low) n test) (subst (λ (j : ℕ). test j ≡ true) (sym same) e)
      | inr other ↦ or_right (test low) (some_from (suc low) n test) (finds (suc low) n test k (grind arith) (omega arith) e)
    ]

place_found : (from to : ℕ) (test : ℕ → Bool) → some_place from to test ≡ true → (k : ℕ) × (from ≤ k) × (k ≤ to) × (test k ≡ true)
place_found from to test e = let f = found from (suc to - from) test e in (f.0, f.1, omega (arith, f.1, f.2), f.3)

place_at : (from to : ℕ) (test : ℕ → Bool) (k : ℕ) → from ≤ k → k ≤ to → test k ≡ true → some_place from to test ≡ true
place_at from to test k from_on up_to e = finds from (suc to - from) test k from_on (omega arith) e

-- ---- pieces

module _ (piece : ℕ → ℕ → Bool) where
  -- a first piece, and the others
  split_more : (n from cut to : ℕ) → from ≤ cut → cut ≤ to → piece from cut ≡ true → splits_into n piece cut to ≡ true → splits_into (suc n) piece from to ≡ true
  split_more n from cut to before after p rest =
      place_at from to (λ cut. piece from cut && splits_into n piece cut to) cut before after (and_from (piece from cut) (splits_into n piece cut to) p rest)

  split_first : (n from to : ℕ) → splits_into (suc n) piece from to ≡ true → (cut : ℕ) × (from ≤ cut) × (cut ≤ to) × (piece from cut ≡ true) × (splits_into n piece cut to ≡ true)
  split_first n from to e =
      let f = place_found from to (λ cut. piece from cut && splits_into n piece cut to) e in
      let p = and_parts (piece from f.0) (splits_into n piece f.0 to) f.3 in
      (f.0, f.1, f.2, p.0, p.1)

  -- a piece that is empty can be left out, so no more pieces are needed than there are positions
  fewer_pieces : (n from to : ℕ) → splits_into n piece from to ≡ true → (m : ℕ) × (m ≤ to - from) × (splits_into m piece from to ≡ true)
  fewer_pieces zero from to e = (zero, omega arith, e)
  fewer_pieces (suc n) from to e =
      let f = split_first n from to e in
      let more = fewer_pieces n f.0 to f.4 in
      elim (cases_eq from f.0) [
        | inl same ↦ let here = subst (λ (j : ℕ). splits_into more.0 piece j to ≡ true) (sym same) more.2 in (more.0, omega (arith, more.1, same), here)
        | inr other ↦ (suc more.0, grind (arith, more.1, f.1, f.2, other), split_more more.0 from f.0 to f.1 f.2 f.3 more.2)
      ]

  enough_pieces : (low n from to : ℕ) → low ≤ n → splits_into n piece from to ≡ true → (m : ℕ) × (low ≤ m) × (m ≤ low + (to - from)) × (splits_into m piece from to ≡ true)
  enough_pieces zero n from to least e = let f = fewer_pieces n from to e in (f.0, omega arith, omega (arith, f.1), f.2)
  enough_pieces (suc low) zero from to least e = absurd (omega arith)
  enough_pieces (suc low) (suc n) from to least e =
      let f = split_first n from to e in
      let more = enough_pieces low n f.0 to (omega arith) f.4 in
      (suc more.0, omega (arith, more.1), omega (arith, more.2, f.1, f.2), split_more more.0 from f.0 to f.1 f.2 f.3 more.3)

pub none_is_missed : NoneIsMissed
none_is_missed r a low n from to least e =
    let f = enough_pieces (matches r a) low n from to least e in
    place_at low (low + (to - from)) (λ n. splits_into n (matches r a) from to) f.0 f.1 f.2 f.3

-- ---- a stretch never ends before it begins

pub in_pieces_rise : (n : ℕ) (Piece : ℕ → ℕ → Type 0) → ((from to : ℕ) → Piece from to → from ≤ to) → (from to : ℕ) → InPieces n Piece from to → from ≤ to
in_pieces_rise zero Piece rise from to e = omega (arith, e)
in_pieces_rise (suc n) Piece rise from to p =
    let a = rise from p.0 p.1 in let b = in_pieces_rise n Piece rise p.0 to p.2 in omega arith

pub reads_rise : (r : Reading) (w : Written) (from to : ℕ) → Reads r w from to → from ≤ to
reads_rise r (Bracket e) from to p = omega (arith, p.0)
reads_rise r Empty from to p = omega (arith, p)
reads_rise r (Then a b) from to p = let x = reads_rise r a from p.0 p.1 in let y = reads_rise r b p.0 to p.2 in omega arith
reads_rise r (Either a b) from to p = elim p [ inl x ↦ reads_rise r a from to x | inr x ↦ reads_rise r b from to x ]
reads_rise r (Star a) from to p = in_pieces_rise p.0 (Reads r a) (reads_rise r a) from to p.1

-- ---- repeats

module _ (r : Reading) (piece : ℕ → ℕ → Bool) (w : Written) (reads : (from to : ℕ) → piece from to ≡ true → Reads r w from to) where
  reads_pieces : (n from to : ℕ) → splits_into n piece from to ≡ true → InPieces n (Reads r w) from to
  reads_pieces zero from to e = eqb-true from to e
  reads_pieces (suc n) from to e = let f = split_first piece n from to e in (f.0, reads from f.0 f.3, reads_pieces n f.0 to f.4)

  reads_star : (low n from to : ℕ) → low ≤ n → splits_into n piece from to ≡ true → Reads r (copies low w (Star w)) from to
  reads_star zero n from to least e = (n, reads_pieces n from to e)
  reads_star (suc low) zero from to least e = absurd (omega arith)
  reads_star (suc low) (suc n) from to least e =
      let f = split_first piece n from to e in (f.0, reads from f.0 f.3, reads_star low n f.0 to (omega arith) f.4)

  reads_optional : (m n from to : ℕ) → n ≤ m → splits_into n piece from to ≡ true → Reads r (copies m (Either w Empty) Empty) from to
  reads_optional zero zero from to most e = eqb-true from to e
  reads_optional zero (suc n) from to most e = absurd (omega arith)
  reads_optional (suc m) zero from to most e = (from, inr refl, reads_optional m zero from to (omega arith) e)
  reads_optional (suc m) (suc n) from to most e =
      let f = split_first piece n from to e in (f.0, inl (reads from f.0 f.3), reads_optional m n f.0 to (omega arith) f.4)

  reads_some : (low m n from to : ℕ) → low ≤ n → n ≤ low + m → splits_into n piece from to ≡ true → Reads r (copies low w (copies m (Either w Empty) Empty)) from to
  reads_some zero m n from to least most e = reads_optional m n from to (omega arith) e
  reads_some (suc low) m zero from to least most e = absurd (omega arith)
  reads_some (suc low) m (suc n) from to least most e =
      let f = split_first piece n from to e in (f.0, reads from f.0 f.3, reads_some low m n f.0 to (omega arith) (omega arith) f.4)

module _ (r : Reading) (piece : ℕ → ℕ → Bool) (w : Written) (matched : (from to : ℕ) → Reads r w from to → piece from to ≡ true) where
  pieces_read : (n from to : ℕ) → InPieces n (Reads r w) from to → splits_into n piece from to ≡ true
  pieces_read zero from to e = eq-eqb from to e
  pieces_read (suc n) from to p =
      split_more piece n from p.0 to (reads_rise r w from p.0 p.1) (in_pieces_rise n (Reads r w) (reads_rise r w) p.0 to p.2) (matched from p.0 p.1) (pieces_read n p.0 to p.2)

  star_read : (low from to : ℕ) → Reads r (copies low w (Star w)) from to → (n : ℕ) × (low ≤ n) × (splits_into n piece from to ≡ true)
  star_read zero from to p = (p.0, omega arith, pieces_read p.0 from to p.1)
  star_read (suc low) from to p =
      let more = star_read low p.0 to p.2 in
      (suc more.0, omega (arith, more.1), split_more piece more.0 from p.0 to (reads_rise r w from p.0 p.1) (reads_rise r (copies low w (Star w)) p.0 to p.2) (matched from p.0 p.1) more.2)

  optional_read : (m from to : ℕ) → Reads r (copies m (Either w Empty) Empty) from to → (n : ℕ) × (n ≤ m) × (splits_into n piece from to ≡ true)
  optional_read zero from to e = (zero, omega arith, eq-eqb from to e)
  optional_read (suc m) from to p =
      let more = optional_read m p.0 to p.2 in
      elim p.1 [
        | inl x ↦ (suc more.0, omega (arith, more.1), split_more piece more.0 from p.0 to (reads_rise r w from p.0 x) (reads_rise r (copies m (Either w Empty) Empty) p.0 to p.2) (matched from p.0 x) more.2)
        | inr same ↦ (more.0, omega (arith, more.1), subst (λ (j : ℕ). splits_into more.0 piece j to ≡ true) (sym same) more.2)
      ]

  some_read : (low m from to : ℕ) → Reads r (copies low w (copies m (Either w Empty) Empty)) from to → (n : ℕ) × (low ≤ n) × (n ≤ low + m) × (splits_into n piece from to ≡ true)
  some_read zero m from to p = let f = optional_read m from to p in (f.0, omega arith, omega (arith, f.1), f.2)
  some_read (suc low) m from to p =
      let more = some_read low m p.0 to p.2 in (
        suc more.0,
        omega (arith, more.1),
        omega (arith, more.2),
        split_more piece more.0 from p.0 to (reads_rise r w from p.0 p.1) (reads_rise r (copies low w (copies m (Either w Empty) Empty)) p.0 to p.2) (matched from p.0 p.1) more.3,
      )

-- ---- both ways

module _ (r : Reading) where
  mutual
    pub reads_match : (a : Regular) → is_readable a ≡ true → (from to : ℕ) → matches r a from to ≡ true → Reads r (written a) from to
    reads_match (Atom e) ok from to m = let p = and_parts (to == suc from) (holds_at r e from) m in (eqb-true to (suc from) p.0, p.1)
    reads_match (Sequence rs) ok from to m = reads_match_all rs ok from to m
    reads_match (Choice rs) ok from to m = reads_match_some rs (and_parts (has_some rs) (are_readable rs) ok).1 from to m
    reads_match (Repetition a low None) ok from to m =
        let f = place_found low (low + (to - from)) (λ n. splits_into n (matches r a) from to) m in
        reads_star r (matches r a) (written a) (reads_match a ok) low f.0 from to f.1 f.3
    reads_match (Repetition a low (Some high)) ok from to m =
        let p = and_parts (nat_le low high) (is_readable a) ok in
        let f = place_found low high (λ n. splits_into n (matches r a) from to) m in
        let order = leb-true low high p.0 in
        reads_some r (matches r a) (written a) (reads_match a p.1) low (high - low) f.0 from to f.1 (omega (arith, f.2, order)) f.3

    reads_match_all : (rs : Regulars) → are_readable rs ≡ true → (from to : ℕ) → matches_all r rs from to ≡ true → Reads r (written_in_turn rs) from to
    reads_match_all Regulars.none ok from to m = eqb-true from to m
    reads_match_all (Regulars.one_more a rs) ok from to m =
        let p = and_parts (is_readable a) (are_readable rs) ok in
        let f = place_found from to (λ cut. matches r a from cut && matches_all r rs cut to) m in
        let q = and_parts (matches r a from f.0) (matches_all r rs f.0 to) f.3 in
        (f.0, reads_match a p.0 from f.0 q.0, reads_match_all rs p.1 f.0 to q.1)

    reads_match_some : (rs : Regulars) → are_readable rs ≡ true → (from to : ℕ) → matches_some r rs from to ≡ true → Reads r (written_besides rs) from to
    reads_match_some Regulars.none ok from to m = absurd (false≢true m)
    reads_match_some (Regulars.one_more a Regulars.none) ok from to m =
        elim (or_cases (matches r a from to) false m) [
          | inl x ↦ reads_match a (and_parts (is_readable a) true ok).0 from to x
          | inr x ↦ absurd (false≢true x)
        ]
    reads_match_some (Regulars.one_more a (Regulars.one_more b rs)) ok from to m =
        let p = and_parts (is_readable a) (is_readable b && are_readable rs) ok in
        elim (or_cases (matches r a from to) (matches_some r (Regulars.one_more b rs) from to) m) [
          | inl x ↦ inl (reads_match a p.0 from to x)
          | inr x ↦ inr (reads_match_some (Regulars.one_more b rs) p.1 from to x)
        ]

  mutual
    pub match_read : (a : Regular) → is_readable a ≡ true → (from to : ℕ) → Reads r (written a) from to → matches r a from to ≡ true
    match_read (Atom e) ok from to p = and_from (to == suc from) (holds_at r e from) (eq-eqb to (suc from) p.0) p.1
    match_read (Sequence rs) ok from to p = match_read_all rs ok from to p
    match_read (Choice rs) ok from to p = let q = and_parts (has_some rs) (are_readable rs) ok in match_read_some rs q.0 q.1 from to p
    match_read (Repetition a low None) ok from to p =
        let f = star_read r (matches r a) (written a) (match_read a ok) low from to p in none_is_missed r a low f.0 from to f.1 f.2
    match_read (Repetition a low (Some high)) ok from to p =
        let q = and_parts (nat_le low high) (is_readable a) ok in
        let order = leb-true low high q.0 in
        let f = some_read r (matches r a) (written a) (match_read a q.1) low (high - low) from to p in
        place_at low high (λ n. splits_into n (matches r a) from to) f.0 f.1 (omega (arith, f.2, order)) f.3

    match_read_all : (rs : Regulars) → are_readable rs ≡ true → (from to : ℕ) → Reads r (written_in_turn rs) from to → matches_all r rs from to ≡ true
    match_read_all Regulars.none ok from to p = eq-eqb from to p
    match_read_all (Regulars.one_more a rs) ok from to p =
        let q = and_parts (is_readable a) (are_readable rs) ok in
        place_at from to (λ cut. matches r a from cut && matches_all r rs cut to) p.0 (reads_rise r (written a) from p.0 p.1) (reads_rise r (written_in_turn rs) p.0 to p.2)
        (and_from (matches r a from p.0) (matches_all r rs p.0 to) (match_read a q.0 from p.0 p.1) (match_read_all rs q.1 p.0 to p.2))

    match_read_some : (rs : Regulars) → has_some rs ≡ true → are_readable rs ≡ true → (from to : ℕ) → Reads r (written_besides rs) from to → matches_some r rs from to ≡ true
    match_read_some Regulars.none some ok from to p = absurd (false≢true some)
    match_read_some (Regulars.one_more a Regulars.none) some ok from to p = or_left (matches r a from to) false (match_read a (and_parts (is_readable a) true ok).0 from to p)
    match_read_some (Regulars.one_more a (Regulars.one_more b rs)) some ok from to p =
        let q = and_parts (is_readable a) (is_readable b && are_readable rs) ok in
        elim p [
          | inl x ↦ or_left (matches r a from to) (matches_some r (Regulars.one_more b rs) from to) (match_read a q.0 from to x)
          | inr x ↦ or_right (matches r a from to) (matches_some r (Regulars.one_more b rs) from to) (match_read_some (Regulars.one_more b rs) refl q.1 from to x)
        ]

pub written_out_reads : WrittenOutReads
written_out_reads r a ok from to = (reads_match r a ok from to, match_read r a ok from to)
