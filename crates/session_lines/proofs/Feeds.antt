-- The lines of what stands in a buffer and of what may still come.
use Rattle.std.proofs.Common.{◌≡◌, ◌≢◌, ℕ, ◌+◌, ◌<◌, ◌≤◌, Bool, true, false, ◌==◌, cond, List, [], ◌∷◌, ◌++◌, length, take, drop, get_or, Option, Some, None, nat_le, refl, sym, ap, ◌∙◌, arith, length-take, length-append, append_assoc, append-nil, slice_index, subst}
use Rattle.std.proofs.lemmas.Bool.Decides.{nat_tests}
use Rattle.std.proofs.lemmas.List.{get_or-take, take-append-drop, drop_more}
use Rattle.std.proofs.lemmas.List.Elements.{All-from_get_or, All-head, All-tail}
use Rattle.std.proofs.lemmas.List.Splits.{slice_split_none, slice_split_at, slice_split-cons_no, length-slice_split}
use Rattle.std.proofs.Math.ListN.{get_or-append}
use Rattle.std.specs.List.{slice_split, onto_first, All}
use Rattle.std.specs.Str.Lines.{strip_carriage_return}
use Rattle.std.specs.Io.KnownBytes.{Consumes}
use Rattle.session_lines.specs.declared.reader.Taken.{Taken}
use Rattle.session_lines.specs.declared.reader.Taken.TheVariants as taken
use Rattle.session_lines.specs.InputLines.{Line, is_feed, ended_line, open_line, lines_of, input_lines}
use Rattle.session_lines.specs.Pieces.{HasNoFeed, HasNoFeedBelow}
use Rattle.session_lines.specs.Taking.{BeginsTooLong, GivesLine}

-- ---- bytes with no line feed

abbrev AllPlain : List ℕ → Type 0
AllPlain bytes = All (λ c. is_feed c ≡ false) bytes

no_feed : (c : ℕ) → c ≢ 10 → is_feed c ≡ false
no_feed c other = grind (arith, nat_tests)

all_plain : (p : List ℕ) → HasNoFeed p → AllPlain p
all_plain p none = All-from_get_or (λ c. is_feed c ≡ false) p 0 (λ k below. no_feed (get_or p k 0) (none k below))

front_plain : (p : List ℕ) (at : ℕ) → HasNoFeedBelow at p → at ≤ length p → AllPlain (take at p)
front_plain p at none within =
    all_plain (take at p) (λ k below. let before : k < at = omega (arith, length-take at p, below) in λ is. none k before (sym (get_or-take at p k 0 before) ∙ is))

-- ---- the first line

lines_more : (at_end : Bool) (piece : List ℕ) (pieces : List (List ℕ)) → 0 < length pieces → lines_of at_end (piece ∷ pieces) ≡ ended_line piece ∷ lines_of at_end pieces
lines_more at_end piece [] some = absurd (omega arith)
lines_more at_end piece (next ∷ more) some = refl

short_line : (piece : List ℕ) → length piece ≤ 65536 → ended_line piece ≡ Some (strip_carriage_return piece)
short_line piece short =
    let test : nat_le (length piece) 65536 ≡ true = grind (arith, nat_tests) in
    ap (λ (b : Bool). cond b (Some (strip_carriage_return piece)) None) test

pub first_line : (at_end : Bool) (p later : List ℕ) (at : ℕ) → HasNoFeedBelow at p → at < length p → slice_index p at ≡ 10 → at ≤ 65536
    → input_lines at_end (p ++ later) ≡ Some (strip_carriage_return (take at p)) ∷ input_lines at_end (drop (at + 1) p ++ later)
first_line at_end p later at none within feed short =
    let rest = drop (at + 1) p ++ later in
    let front : length (take at p) ≤ 65536 = omega (arith, length-take at p) in
    let shape : p ≡ take at p ++ get_or p at 0 ∷ drop (at + 1) p = sym (take-append-drop at p) ∙ ap (λ (l : List ℕ). take at p ++ l) (drop_more p at 0 within) in
    let whole : p ++ later ≡ take at p ++ get_or p at 0 ∷ rest = ap (λ (l : List ℕ). l ++ later) shape ∙ append_assoc (take at p) (get_or p at 0 ∷ drop (at + 1) p) later in
    let is : is_feed (get_or p at 0) ≡ true = ap is_feed feed in
    let many : 0 < length (slice_split is_feed rest) = omega (arith, length-slice_split is_feed rest) in
    ap (input_lines at_end) whole
    ∙ ap (lines_of at_end) (slice_split_at is_feed (take at p) (get_or p at 0) rest (front_plain p at none (omega arith)) is)
    ∙ lines_more at_end (take at p) (slice_split is_feed rest) many
    ∙ ap (λ (l : Line). l ∷ input_lines at_end rest) (short_line (take at p) front)

-- ---- what stands behind the last line feed

pub open_lines : (at_end : Bool) (p : List ℕ) → HasNoFeed p → input_lines at_end p ≡ open_line at_end p
open_lines at_end p none = ap (lines_of at_end) (slice_split_none is_feed p (all_plain p none))

pub last_line : (p : List ℕ) → 0 < length p → length p ≤ 65536 → open_line true p ≡ Some p ∷ []
last_line p some short =
    let full : (length p == 0) ≡ false = grind (arith, nat_tests) in
    let test : nat_le (length p) 65536 ≡ true = grind (arith, nat_tests) in
    ap (λ (b : Bool). cond b [] (cond (nat_le (length p) 65536) (Some p ∷ []) (None ∷ []))) full
    ∙ ap (λ (b : Bool). cond b (Some p ∷ []) (None ∷ [])) test

pub no_line : (p : List ℕ) → length p ≤ 65536 → open_line false p ≡ []
no_line p short =
    let test : nat_le (length p) 65536 ≡ true = grind (arith, nat_tests) in
    ap (λ (b : Bool). cond b [] (None ∷ [])) test

-- ---- a line that is too long

-- the first piece begins with what has no line feed
abbrev BeginsWith : List ℕ → List (List ℕ) → Type 0
BeginsWith p pieces = (q : List ℕ) × (qs : List (List ℕ)) × (pieces ≡ (p ++ q) ∷ qs)

onto_begins : (c : ℕ) (p : List ℕ) (pieces : List (List ℕ)) → BeginsWith p pieces → BeginsWith (c ∷ p) (onto_first c pieces)
onto_begins c p pieces h = (h.0, h.1, ap (onto_first c) h.2)

some_piece : (bytes : List ℕ) → BeginsWith [] (slice_split is_feed bytes)
some_piece bytes = piece (slice_split is_feed bytes) (omega (arith, length-slice_split is_feed bytes))
  where
    piece : (pieces : List (List ℕ)) → 0 < length pieces → BeginsWith [] pieces
    piece [] some = absurd (omega arith)
    piece (q ∷ qs) some = (q, qs, refl)

begins : (p later : List ℕ) → AllPlain p → BeginsWith p (slice_split is_feed (p ++ later))
begins [] later plain = some_piece later
begins (c ∷ p) later plain =
    let rest = begins p later (All-tail (λ c. is_feed c ≡ false) c p plain) in
    let cut = slice_split-cons_no is_feed c (p ++ later) (All-head (λ c. is_feed c ≡ false) c p plain) in
    let here = onto_begins c p (slice_split is_feed (p ++ later)) rest in
    (here.0, here.1, cut ∙ here.2)

long_first : (at_end : Bool) (piece : List ℕ) (pieces : List (List ℕ)) → 65536 < length piece → BeginsTooLong (lines_of at_end (piece ∷ pieces))
long_first at_end piece pieces long = first at_end pieces
  where
    test : nat_le (length piece) 65536 ≡ false
    test = grind (arith, nat_tests)

    full : (length piece == 0) ≡ false
    full = grind (arith, nat_tests)

    first : (at_end : Bool) (pieces : List (List ℕ)) → BeginsTooLong (lines_of at_end (piece ∷ pieces))
    first true [] = rw (full, test) refl
    first false [] = rw test refl
    first at_end (next ∷ more) = rw test refl

pub too_long : (at_end : Bool) (p later : List ℕ) → HasNoFeed p → 65536 < length p → BeginsTooLong (input_lines at_end (p ++ later))
too_long at_end p later none long =
    let h = begins p later (all_plain p none) in
    let more : 65536 < length (p ++ h.0) = omega (arith, length-append p h.0) in
    rw (h.2) (long_first at_end (p ++ h.0) h.1 more)

-- ---- what was taken

pub consumes_more : (a b c : Option (List ℕ)) (g h : List ℕ) → Consumes a b g → Consumes b c h → Consumes a c (g ++ h)
consumes_more None b c g h first second = tt
consumes_more (Some xs) None c g h first second = absurd first
consumes_more (Some xs) (Some ys) None g h first second = absurd second
consumes_more (Some xs) (Some ys) (Some zs) g h first second = first ∙ ap (λ (l : List ℕ). g ++ l) second ∙ sym (append_assoc g h zs)

pub consumes_none : (a b c : Option (List ℕ)) (g h : List ℕ) → Consumes a b g → Consumes b c h → h ≡ [] → Consumes a c g
consumes_none a b c g h first second none = subst (λ (l : List ℕ). Consumes a c l) (ap (λ (l : List ℕ). g ++ l) none ∙ append-nil g) (consumes_more a b c g h first second)

-- a front without line feed stays one where more comes behind it
pub still_none : (p got : List ℕ) → HasNoFeed p → HasNoFeedBelow (length p) (p ++ got)
still_none p got none k below = λ is. none k below (sym (get_or-append p got 0 k below) ∙ is)

-- at the end of the input, what is there is the last line if it isn't empty
pub finished : (what : Taken) (before got line after : List ℕ)
    → (what ≡ taken.Line → (line ≡ before ++ got) × (0 < length (before ++ got))) → ((what ≡ taken.Line → ⊥) → what ≡ taken.Finish)
    → (what ≡ taken.Finish → before ++ got ≡ []) → after ≡ [] → HasNoFeed (before ++ got) → length (before ++ got) ≤ 65536
    → GivesLine what true before got line after
finished taken.Line before got line after last other none rest plain short =
    (open_lines true (before ++ got) plain ∙ last_line (before ++ got) (last refl).1 short ∙ ap (λ (l : List ℕ). Some l ∷ []) (sym (last refl).0), rest)
finished taken.Finish before got line after last other none rest plain short = (refl, none refl, rest)
finished taken.TooLong before got line after last other none rest plain short = absurd (let e = other (λ e. cc) in cc)
finished taken.Failed before got line after last other none rest plain short = absurd (let e = other (λ e. cc) in cc)
