-- The tokens of a text stand at rising places.
use Rattle.std.proofs.Common.{◌≡◌, inl, inr, ℕ, ◌+◌, ◌<◌, Bool, true, false, All, List, [], ◌∷◌, ◌++◌, length, map, Option, Some, None, refl, sym, ap, subst, ◌∙◌, arith, length-append}
use Rattle.std.specs.Prelude.{if◌then◌else◌, ◌==◌}
use Rattle.std.proofs.lemmas.List.Elements.{All-nil, All-cons}
use Rattle.spectra_lexer.specs.declared.spot.Spot.{Spot}
use Rattle.spectra_lexer.specs.declared.token.Kind.{Kind}
use Rattle.spectra_lexer.specs.declared.token.Token.{Token}
use Rattle.spectra_lexer.specs.Pieces.{opening_of, IsPiece}
use Rattle.spectra_lexer.specs.Tokens.{behind, past, kind_of_piece, token_if, Lexes, piece, finish, AreTokens}
use Rattle.spectra_lexer.proofs.Parts.{piece_parts, rest_is_shorter}
use Rattle.spectra_trees.specs.declared.tree.Place.{Place}
use Rattle.spectra_trees.specs.Lexemes.{lexemes_from, lexemes}
use Rattle.spectra_parser.specs.Quantifiers.{IsBefore, AreRising}
use Rattle.spectra_parser.proofs.Kept.{places}

abbrev place_at : Spot → Place
place_at at = record { line = at.line; column = at.column }

before_trans : (p q r : Place) → IsBefore p q → IsBefore q r → IsBefore p r
before_trans p q r (inl a) (inl b) = inl (omega (arith, a, b))
before_trans p q r (inl a) (inr b) = let same = b.0 in inl (omega (arith, a, same))
before_trans p q r (inr a) (inl b) = let same = a.0 in inl (omega (arith, b, same))
before_trans p q r (inr a) (inr b) = let first = a.1 in let second = b.1 in inr (a.0 ∙ b.0, omega (arith, first, second))

-- ---- characters

behind_one : (c : ℕ) (at : Spot) → IsBefore (place_at at) (place_at (behind c at))
behind_one c at = by (c == 10)
  where
    by : (b : Bool) → IsBefore (place_at at) (record { line = if b then at.line + 1 else at.line; column = if b then 1 else at.column + 1 })
    by true = inl (omega arith)
    by false = inr (refl, omega arith)

past_all : (cs : List ℕ) (at : Spot) (p : Place) → IsBefore p (place_at at) → IsBefore p (place_at (past cs at))
past_all [] at p before = before
past_all (c ∷ cs) at p before = past_all cs (behind c at) p (before_trans p (place_at at) (place_at (behind c at)) before (behind_one c at))

past_some : (cs : List ℕ) (at : Spot) → 0 < length cs → IsBefore (place_at at) (place_at (past cs at))
past_some [] at some = absurd (omega (arith, some))
past_some (c ∷ cs) at some = past_all cs (behind c at) (place_at at) (behind_one c at)

-- ---- tokens

abbrev token_place : Token → Place
token_place t = record { line = t.line; column = t.column }

with_token : (P : Place → Type 0) (kind : Option Kind) (at next : Spot) (ts : List Token) → P (place_at at) → All P (map token_place ts) → All P (map token_place (token_if kind at next ++ ts))
with_token P None at next ts here rest = rest
with_token P (Some kind) at next ts here rest = All-cons P (place_at at) (map token_place ts) here rest

-- those of a text stand behind what stands before it
all_behind : (p : Place) {at : Spot} {text : List ℕ} {tokens : List Token} → Lexes at text tokens → IsBefore p (place_at at) → All (IsBefore p) (map token_place tokens)
all_behind p {at = at} {text = text} (piece {tokens = ts} front rest is l) before =
    with_token (IsBefore p) (kind_of_piece (opening_of text) front) at (past front at) ts before (all_behind p l (past_all front at p before))
all_behind p {at = at} finish before = All-cons (IsBefore p) (place_at at) [] before (All-nil (IsBefore p))

rising_token : (kind : Option Kind) (at next : Spot) (ts : List Token) → All (IsBefore (place_at at)) (map token_place ts) → AreRising (map token_place ts) → AreRising (map token_place (token_if kind at next ++ ts))
rising_token None at next ts behind rising = rising
rising_token (Some kind) at next ts behind rising = (behind, rising)

some_piece : (text front rest : List ℕ) → IsPiece (opening_of text) text front rest → 0 < length front
some_piece text front rest is =
    let shorter = rest_is_shorter (opening_of text) text front rest is in
    let parts = ap length (piece_parts (opening_of text) text front rest is) ∙ length-append front rest in omega (arith, shorter, parts)

all_rise : {at : Spot} {text : List ℕ} {tokens : List Token} → Lexes at text tokens → AreRising (map token_place tokens)
all_rise {at = at} {text = text} (piece {tokens = ts} front rest is l) =
    rising_token (kind_of_piece (opening_of text) front) at (past front at) ts (all_behind (place_at at) l (past_some front at (some_piece text front rest is))) (all_rise l)
all_rise {at = at} finish = (All-nil (IsBefore (place_at at)), tt)

places_are : (source : List ℕ) (number : ℕ) (tokens : List Token) → places (lexemes_from source number tokens) ≡ map token_place tokens
places_are source number [] = refl
places_are source number (t ∷ tokens) = ap (λ ps. token_place t ∷ ps) (places_are source (number + 1) tokens)

pub rising_tokens : (text : List ℕ) (tokens : List Token) → AreTokens text tokens → AreRising (places (lexemes text tokens))
rising_tokens text tokens lexed = subst AreRising (sym (places_are text 0 tokens)) (all_rise lexed.lexed)
