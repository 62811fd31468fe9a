-- A text has at most one token more than characters, and no more characters than bytes.
use Rattle.std.proofs.Common.{ℕ, ◌+◌, ◌≤◌, Bool, true, false, List, [], ◌∷◌, ◌++◌, length, drop, ap, arith, length-append}
use Rattle.std.specs.Prelude.{Option, Some, None, if◌then◌else◌}
use Rattle.std.specs.Char.{encode_utf8}
use Rattle.std.specs.Str.{chars, encode_utf8_all}
use Rattle.std.proofs.lemmas.Str.{encodes-chars, length-encode, len_utf8_bounds}
use Rattle.spectra_lexer.specs.declared.spot.Spot.{Spot}
use Rattle.spectra_lexer.specs.declared.token.Kind.{Kind}
use Rattle.spectra_lexer.specs.declared.token.Token.{Token}
use Rattle.spectra_lexer.specs.Pieces.{opening_of, begins_with}
use Rattle.spectra_lexer.specs.Tokens.{past, kind_of_piece, token_if, Lexes, piece, finish, AreTokens}
use Rattle.spectra_lexer.proofs.Parts.{rest_is_shorter}

one_at_most : (kind : Option Kind) (at next : Spot) (ts : List Token) → length (token_if kind at next ++ ts) ≤ length ts + 1
one_at_most None at next ts = omega arith
one_at_most (Some kind) at next ts = omega arith

tokens_of : {at : Spot} {text : List ℕ} {tokens : List Token} → Lexes at text tokens → length tokens ≤ length text + 1
tokens_of {at = at} {text = text} (piece {tokens = ts} p r i l) =
    omega (arith, tokens_of l, rest_is_shorter (opening_of text) text p r i, one_at_most (kind_of_piece (opening_of text) p) at (past p at) ts)
tokens_of finish = omega arith

bytes_of : (cs : List ℕ) → length cs ≤ length (encode_utf8_all cs)
bytes_of [] = omega arith
bytes_of (c ∷ cs) = omega (arith, bytes_of cs, length-encode c, (len_utf8_bounds c).0, length-append (encode_utf8 c) (encode_utf8_all cs))

after_mark : (marked : Bool) (cs : List ℕ) → length (if marked then drop 1 cs else cs) ≤ length cs
after_mark true [] = omega arith
after_mark true (c ∷ cs) = omega arith
after_mark false cs = omega arith

pub count : (text : List ℕ) (tokens : List Token) → AreTokens text tokens → length tokens ≤ length text + 1
count text tokens are =
    let cs = chars text in
    omega (arith, tokens_of are.lexed, after_mark (begins_with 0xFEFF cs) cs, bytes_of cs, ap length (encodes-chars text are.utf8))
