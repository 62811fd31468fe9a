-- Each outcome of the program, and that no other is right.
use Rattle.std.proofs.Common.{◌≡◌, ℕ, List, length, take, Result, Ok, Err, Vec, Global, ◌⊎◌, inl, inr, refl, sym, ap, subst, ◌∙◌, arith}
use Rattle.std.specs.Result.{IsErrAnd, IfOk, IfErr, IsErrOf}
use Rattle.std.specs.Str.{chars, IsUtf8}
use Rattle.std.proofs.lemmas.Str.{utf8_valid_len-IsValidUpTo}
use Rattle.std.proofs.lemmas.List.{take_all}
use Rattle.spectra_lexer.specs.declared.spot.Spot.{Spot}
use Rattle.spectra_lexer.specs.declared.token.Token.{Token}
use Rattle.spectra_lexer.specs.declared.fault.LexFault.{LexFault}
use Rattle.spectra_lexer.specs.declared.fault.LexFault.TheVariants.{NotUtf8, BadCharacter, TooLong, Memory}
use Rattle.spectra_lexer.specs.Tokens.{past, first_spot, without_mark, Lexes, AreTokens}
use Rattle.spectra_lexer.specs.Faults.{FailsAt, IsPlaced, IsNotUtf8At, IsBadAt}
use Rattle.spectra_lexer.specs.Progress.{ComesLater}
use Rattle.spectra_lexer.proofs.Unique.{one_list, reads_or_fails, one_spot}

-- a fault that is handed on
pub handed_on : {T : Type 0} (r : Result T LexFault) (e : LexFault) → IsErrAnd r (λ f. f ≡ e) → r ≡ Err e
handed_on (Ok x) e h = absurd h
handed_on (Err f) e h = ap (λ (x : LexFault). Err x) h

pub bad_fault : {T U : Type 0} (r : Result T LexFault) (e : LexFault) (line column : ℕ) → IsErrAnd r (λ f. f ≡ e) → IsErrOf r (BadCharacter line column)
    → IsErrOf {T = U} (Err e) (BadCharacter line column)
bad_fault (Ok x) e line column h k = absurd h
bad_fault (Err f) e line column h k = let same : f ≡ BadCharacter line column = cc in ap (λ (x : LexFault). Err x) (sym h ∙ same)

-- the place of broken bytes
pub broken_is_no_utf8 : (text : List ℕ) (line column : ℕ) → IsNotUtf8At text line column → IsUtf8 text → ⊥
broken_is_no_utf8 text line column b utf8 = b.broken.longest (length text) b.broken.short (subst IsUtf8 (sym (take_all (length text) text (omega arith))) utf8)

one_place : (spot : Spot) (a b c d : ℕ) → IsPlaced spot a b → IsPlaced spot c d → (a ≡ c) × (b ≡ d)
one_place spot a b c d p q = (sym p.line_is ∙ q.line_is, sym p.column_is ∙ q.column_is)

pub one_broken_place : (text : List ℕ) (a b c d : ℕ) → IsNotUtf8At text a b → IsNotUtf8At text c d → (a ≡ c) × (b ≡ d)
one_broken_place text a b c d p q =
    let valid : p.valid ≡ q.valid = sym (utf8_valid_len-IsValidUpTo text p.valid p.broken) ∙ utf8_valid_len-IsValidUpTo text q.valid q.broken in
    let spot : ℕ → Spot = λ n. past (without_mark (chars (take n text))) (first_spot (chars (take n text))) in
    one_place (spot q.valid) a b c d (subst (λ (n : ℕ). IsPlaced (spot n) a b) valid p.placed) q.placed

pub one_bad_place : (text : List ℕ) (a b c d : ℕ) → IsBadAt text a b → IsBadAt text c d → (a ≡ c) × (b ≡ d)
one_bad_place text a b c d p q = one_place q.spot a b c d (subst (λ (x : Spot). IsPlaced x a b) (one_spot p.fails q.fails) p.placed) q.placed

abbrev pub SaysNotUtf8 : {T : Type 0} → List ℕ → Result T LexFault → Type 0
SaysNotUtf8 text r = (line column : ℕ) → (IsErrOf r (NotUtf8 line column) → IsNotUtf8At text line column) × (IsNotUtf8At text line column → IsErrOf r (NotUtf8 line column))

pub says_broken : {T : Type 0} (text : List ℕ) (r : Result T LexFault) (a b : ℕ) → r ≡ Err (NotUtf8 a b) → IsNotUtf8At text a b → SaysNotUtf8 text r
says_broken text r a b e at =
    λ line column. (
      λ said.
          let lines : a ≡ line = cc in
          let columns : b ≡ column = cc in
          subst (λ (x : ℕ). IsNotUtf8At text x column) lines (subst (λ (x : ℕ). IsNotUtf8At text a x) columns at),
      λ broken.
          let same = one_broken_place text a b line column at broken in
          e ∙ (ap (λ (x : ℕ). Err (NotUtf8 x b)) same.0 ∙ ap (λ (x : ℕ). Err (NotUtf8 line x)) same.1),
    )

later_is_no_utf8_fault : (T : Type 0) (r : Result T LexFault) (line column : ℕ) → IfErr r ComesLater → IsErrOf r (NotUtf8 line column) → ⊥
later_is_no_utf8_fault T r line column faults said = subst (λ (x : Result T LexFault). IfErr x ComesLater) said faults

pub says_whole : {T : Type 0} (text : List ℕ) (r : Result T LexFault) → IsUtf8 text → IfErr r ComesLater → SaysNotUtf8 text r
says_whole {T = T} text r utf8 faults = λ line column. (λ said. absurd (later_is_no_utf8_fault T r line column faults said), λ broken. absurd (broken_is_no_utf8 text line column broken utf8))

-- what the program answers for the characters from a spot on
pub record Reads (at : Spot) (text : List ℕ) (r : Result (Vec Token Global) LexFault) : Type 0 where
  pub tokens : IfOk r (λ found. Lexes at text found.items)
  pub bad : (line column : ℕ) → IsErrOf r (BadCharacter line column) → (spot : Spot) × FailsAt at text spot × IsPlaced spot line column
  pub faults : IfErr r ComesLater

pub reads_only : (at : Spot) (text : List ℕ) (r : Result (Vec Token Global) LexFault) → Reads at text r → IfOk r (λ found. (others : List Token) → Lexes at text others → others ≡ found.items)
reads_only at text (Ok found) said = λ others d. one_list d said.tokens
reads_only at text (Err fault) said = tt

pub reads_all : (at : Spot) (text : List ℕ) (r : Result (Vec Token Global) LexFault) → Reads at text r → (tokens : List Token) → Lexes at text tokens → IfErr r (λ e. e ≡ Memory)
reads_all at text (Ok found) said tokens d = tt
reads_all at text (Err (NotUtf8 line column)) said tokens d = absurd said.faults
reads_all at text (Err (BadCharacter line column)) said tokens d = absurd (reads_or_fails d (said.bad line column refl).1)
reads_all at text (Err TooLong) said tokens d = absurd said.faults
reads_all at text (Err Memory) said tokens d = refl

pub only_whole : (text : List ℕ) (r : Result (Vec Token Global) LexFault) → IfOk r (λ found. (others : List Token) → Lexes (first_spot (chars text)) (without_mark (chars text)) others → others ≡ found.items)
    → IfOk r (λ found. (others : List Token) → AreTokens text others → others ≡ found.items)
only_whole text (Ok found) said = λ others are. said others are.lexed
only_whole text (Err fault) said = tt

pub refuses : (at : Spot) (text : List ℕ) (r : Result (Vec Token Global) LexFault) → Reads at text r → (spot : Spot) (line column : ℕ) → FailsAt at text spot → IsPlaced spot line column
    → IsErrOf r (BadCharacter line column) ⊎ IsErrOf r Memory
refuses at text (Ok found) said spot line column f p = absurd (reads_or_fails said.tokens f)
refuses at text (Err (NotUtf8 a b)) said spot line column f p = absurd said.faults
refuses at text (Err (BadCharacter a b)) said spot line column f p =
    let bad = said.bad a b refl in
    let same = one_place spot a b line column (subst (λ (x : Spot). IsPlaced x a b) (one_spot bad.1 f) bad.2) p in
    inl (ap (λ (x : ℕ). Err (BadCharacter x b)) same.0 ∙ ap (λ (x : ℕ). Err (BadCharacter line x)) same.1)
refuses at text (Err TooLong) said spot line column f p = absurd said.faults
refuses at text (Err Memory) said spot line column f p = inr refl

pub reads_whole : (text bytes : List ℕ) (at : Spot) (rest : List ℕ) (r : Result (Vec Token Global) LexFault) → text ≡ bytes → at ≡ first_spot (chars text) → rest ≡ without_mark (chars text)
    → Reads at rest r → Reads (first_spot (chars bytes)) (without_mark (chars bytes)) r
reads_whole text bytes at rest r same spot rests reads =
    let here : Reads (first_spot (chars text)) rest r = subst (λ (x : Spot). Reads x rest r) spot reads in
    let whole : Reads (first_spot (chars text)) (without_mark (chars text)) r = subst (λ (x : List ℕ). Reads (first_spot (chars text)) x r) rests here in
    subst (λ (x : List ℕ). Reads (first_spot (chars x)) (without_mark (chars x)) r) same whole
