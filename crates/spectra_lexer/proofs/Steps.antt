-- Each step of the program over a piece.
use Rattle.std.proofs.Common.{◌≡◌, ℕ, suc, ◌+◌, ◌<◌, ◌≤◌, ◌&&◌, ◌==◌, Bool, true, false, not, ltb, List, [], ◌∷◌, ◌++◌, length, take, drop, refl, sym, ap, subst, ◌∙◌, append_assoc, arith}
use Rattle.std.specs.Prelude.{codes}
use Rattle.std.specs.List.{list_all}
use Rattle.std.specs.Str.{chars, IsUtf8, IsCharBoundary}
use Rattle.std.proofs.lemmas.Bool.{and_parts, not-true, ltb-true}
use Rattle.std.proofs.lemmas.Str.{len_utf8_ascii, IsCharBoundary-at_seam}
use Rattle.std.proofs.lemmas.List.{take-append-drop, length-take-le}
use Rattle.spectra_lexer.specs.declared.characters.Run.{Run}
use Rattle.spectra_lexer.specs.declared.characters.Run.TheVariants as runs
use Rattle.spectra_lexer.specs.declared.opening.Opening.{Opening}
use Rattle.spectra_lexer.specs.declared.opening.Opening.TheVariants as opens
use Rattle.spectra_lexer.specs.declared.spot.Spot.{Spot}
use Rattle.spectra_lexer.specs.declared.token.Kind.TheVariants as kinds
use Rattle.spectra_lexer.specs.declared.token.Token.{Token}
use Rattle.spectra_lexer.specs.Characters.{IsRun}
use Rattle.spectra_lexer.specs.Words.{BeginsWithSign, BeginsWithLongest}
use Rattle.spectra_lexer.specs.Pieces.{opening_of, IsFirstAndRun, IsPiece}
use Rattle.spectra_lexer.specs.Tokens.{past, behind, token_to, token_if, kind_of_piece, Lexes, piece, finish}
use Rattle.spectra_lexer.specs.Faults.{FailsAt, later}
use Rattle.spectra_lexer.specs.Progress.{further, LeadsOver, Ends, Closes, Leads}
use Rattle.spectra_lexer.proofs.Signs.{each_sign}
use Rattle.spectra_lexer.proofs.Texts.{longest_in_characters, sign_in_bytes}
use Rattle.spectra_lexer.proofs.Unique.{one_first_and_run}
use Rattle.spectra_lexer.proofs.Walks.{past-append}

pub over_first_and_run : (run : Run) (at : Spot) (text : List ℕ) (c : ℕ) (tail front rest : List ℕ) (here next : Spot)
    → text ≡ c ∷ tail → IsRun run tail front rest → here ≡ behind c at → next ≡ past front here → LeadsOver run at text next rest
over_first_and_run run at text c tail front rest here next e r h n =
    record {
      piece = c ∷ front;
      is = record { first = c; behind = tail; front = front; text_is = e; piece_is = refl; goes = r };
      spot = n ∙ ap (past front) h;
    }

pub over_run : (run : Run) (o : Opening) (at : Spot) (text : List ℕ) (next : Spot) (rest : List ℕ) → LeadsOver run at text next rest
    → ((p : List ℕ) → IsFirstAndRun run text p rest → IsPiece o text p rest) → Ends o at text next rest
over_run run o at text next rest l is = record { piece = l.piece; is = is l.piece l.is; spot = l.spot }

pub over_quoted : (at : Spot) (text : List ℕ) (end : Spot) (rest after : List ℕ) (c : ℕ) (next : Spot) → LeadsOver runs.Quoted at text end rest → rest ≡ c ∷ after → c ≡ 34 → next ≡ behind 34 end
    → Ends opens.Quoted at text next after
over_quoted at text end rest after c next l e q n =
    let mark : rest ≡ 34 ∷ after = e ∙ ap (λ (x : ℕ). x ∷ after) q in
    record {
      piece = l.piece ++ 34 ∷ [];
      is = record { front = l.piece; piece_is = refl; begins = subst (λ (x : List ℕ). IsFirstAndRun runs.Quoted text l.piece x) mark l.is };
      spot = n ∙ (ap (behind 34) l.spot ∙ sym (past-append l.piece (34 ∷ []) at));
    }

pub other_first : (c : ℕ) (after rest : List ℕ) → rest ≡ c ∷ after → (c ≡ 34 → ⊥) → (more : List ℕ) → rest ≡ 34 ∷ more → ⊥
other_first c after rest e differ more f = differ (let same : c ≡ 34 = cc in same)

pub no_quoted : (at : Spot) (text : List ℕ) (end : Spot) (rest : List ℕ) → LeadsOver runs.Quoted at text end rest → ((after : List ℕ) → rest ≡ 34 ∷ after → ⊥) → (p r : List ℕ) → IsPiece opens.Quoted text p r → ⊥
no_quoted at text end rest l missing p r i =
    let same = one_first_and_run runs.Quoted text l.piece rest i.front (34 ∷ r) l.is i.begins in
    missing r same.1

pub block_inner : (at : Spot) (text more : List ℕ) (c : ℕ) (rest : List ℕ) (d : ℕ) (inner : List ℕ) → text ≡ codes "/*" ++ more → text ≡ c ∷ rest → rest ≡ d ∷ inner
    → (text ≡ codes "/*" ++ inner) × (behind d (behind c at) ≡ behind 42 (behind 47 at))
block_inner at text more c rest d inner e f g =
    let slash : c ≡ 47 = cc in
    let star : d ≡ 42 = cc in
    let parts : text ≡ codes "/*" ++ inner = cc in
    (parts, ap (λ (x : ℕ). behind x (behind c at)) star ∙ ap (λ (x : ℕ). behind 42 (behind x at)) slash)

pub over_block : (at : Spot) (text inner : List ℕ) (here next : Spot) (rest : List ℕ) → text ≡ codes "/*" ++ inner → here ≡ behind 42 (behind 47 at) → Closes here inner next rest → Ends opens.BlockComment at text next rest
over_block at text inner here next rest e h k =
    record {
      piece = codes "/*" ++ (k.inside ++ codes "*/");
      is = record {
        inside = k.inside;
        piece_is = refl;
        text_is = e ∙ ap (λ (x : List ℕ). codes "/*" ++ x) k.text_is;
        next = λ other more f. let inners : inner ≡ other ++ (codes "*/" ++ more) = cc in k.next_is other more inners;
      };
      spot = k.spot ∙ ap (past (k.inside ++ codes "*/")) h;
    }

abbrev is_plain : List ℕ → Bool
is_plain cs = list_all (λ c. ltb c 128 && not (c == 10)) cs

behind_plain : (c : ℕ) (at : Spot) → c < 128 → (c == 10) ≡ false → behind c at ≡ further 1 at
behind_plain c at small other = rw (len_utf8_ascii c small, other) refl

further-further : (n : ℕ) (at : Spot) → further n (further 1 at) ≡ further (suc n) at
further-further n at =
    let bytes : (at.byte + 1) + n ≡ at.byte + suc n = omega arith in
    let columns : (at.column + 1) + n ≡ at.column + suc n = omega arith in
    rw (bytes, columns) refl

further-zero : (at : Spot) → at ≡ further 0 at
further-zero at =
    let bytes : at.byte + 0 ≡ at.byte = omega arith in
    let columns : at.column + 0 ≡ at.column = omega arith in
    rw (bytes, columns) refl

past_plain : (s : List ℕ) (at : Spot) → is_plain s ≡ true → past s at ≡ further (length s) at
past_plain [] at h = further-zero at
past_plain (c ∷ s) at h =
    let both = and_parts (ltb c 128 && not (c == 10)) (is_plain s) h in
    let first = and_parts (ltb c 128) (not (c == 10)) both.0 in
    ap (past s) (behind_plain c at (ltb-true c 128 first.0) (not-true (c == 10) first.1)) ∙ (past_plain s (further 1 at) both.1 ∙ further-further (length s) at)

module _ (at : Spot) (bs : List ℕ) (n : ℕ) (utf8 : IsUtf8 bs) (fits : n ≤ length bs) (l : BeginsWithLongest bs (take n bs) (drop n bs)) where
  size : length (take n bs) ≡ n
  size = length-take-le n bs fits

  pub sign_boundary : IsCharBoundary bs n
  sign_boundary = subst (λ (k : ℕ). IsCharBoundary bs k) size (IsCharBoundary-at_seam bs (take n bs) (drop n bs) (sym (take-append-drop n bs)) (longest_in_characters bs (take n bs) (drop n bs) utf8 l).0)

  pub over_sign : Ends opens.Sign at (chars bs) (further n at) (chars (drop n bs))
  over_sign =
      record {
        piece = take n bs;
        is = (longest_in_characters bs (take n bs) (drop n bs) utf8 l).1;
        spot = ap (λ (k : ℕ). further k at) (sym size) ∙ sym (past_plain (take n bs) at (each_sign is_plain (take n bs) refl l.begins.is));
      }

pub no_sign_piece : (bs : List ℕ) → IsUtf8 bs → ((s r : List ℕ) → BeginsWithSign bs s r → ⊥) → (p r : List ℕ) → IsPiece opens.Sign (chars bs) p r → ⊥
no_sign_piece bs utf8 none p r i = none p _ (sign_in_bytes bs p r utf8 i.begins)

pub stays : (at : Spot) (text : List ℕ) (old : List Token) → Leads at text old at text old
stays at text old = record { found = λ ts d. (ts, d, refl); fails = λ spot f. f }

pub goes_on_leading : (a : Spot) (x : List ℕ) (old : List Token) (b : Spot) (y : List ℕ) (mid : List Token) (c : Spot) (z : List ℕ) (new : List Token)
    → Leads a x old b y mid → Leads b y mid c z new → Leads a x old c z new
goes_on_leading a x old b y mid c z new p q =
    record {
      found = λ ts d. let m = q.found ts d in let f = p.found m.0 m.1 in (f.0, f.1, f.2 ∙ m.2);
      fails = λ spot f. p.fails spot (q.fails spot f);
    }

pub over_piece : (o : Opening) (at : Spot) (text : List ℕ) (old : List Token) (next : Spot) (rest : List ℕ) (new : List Token) → o ≡ opening_of text → (ends : Ends o at text next rest)
    → new ≡ old ++ token_if (kind_of_piece o ends.piece) at next → Leads at text old next rest new
over_piece o at text old next rest new opened ends pushed =
    let p = ends.piece in
    let is : IsPiece (opening_of text) text p rest = subst (λ (x : Opening). IsPiece x text p rest) opened ends.is in
    let tokens : List Token = token_if (kind_of_piece (opening_of text) p) at (past p at) in
    let all : new ≡ old ++ tokens = pushed ∙ (ap (λ (x : Opening). old ++ token_if (kind_of_piece x p) at next) opened ∙ ap (λ (x : Spot). old ++ token_if (kind_of_piece (opening_of text) p) at x) ends.spot) in
    record {
      found = λ ts d.
          let behind : Lexes (past p at) rest ts = subst (λ (x : Spot). Lexes x rest ts) ends.spot d in
          (tokens ++ ts, piece p rest is behind, sym (ap (λ (x : List Token). x ++ ts) all ∙ append_assoc old tokens ts));
      fails = λ spot f. later p rest is (subst (λ (x : Spot). FailsAt x rest spot) ends.spot f);
    }

-- at the end of the text
pub over_all : (at here : Spot) (text : List ℕ) (tokens : List Token) → Leads at text [] here [] tokens → Lexes at text (tokens ++ token_to here kinds.Finish here ∷ [])
over_all at here text tokens p =
    let f = p.found (token_to here kinds.Finish here ∷ []) finish in
    subst (λ (us : List Token). Lexes at text us) f.2 f.1
