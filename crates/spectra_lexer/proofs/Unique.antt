-- No text begins with two pieces, has two lists of tokens, or fails at two spots.
use Rattle.std.proofs.Common.{◌≡◌, ℕ, ◌≤◌, Bool, true, false, not, List, [], ◌∷◌, ◌++◌, length, refl, sym, ap, subst, ◌∙◌, arith}
use Rattle.std.specs.Prelude.{codes}
use Rattle.std.specs.List.{list_all}
use Rattle.std.proofs.lemmas.Bool.{and_parts}
use Rattle.spectra_lexer.specs.declared.characters.Run.{Run}
use Rattle.spectra_lexer.specs.declared.characters.Run.TheVariants as runs
use Rattle.spectra_lexer.specs.declared.opening.Opening.{Opening}
use Rattle.spectra_lexer.specs.declared.opening.Opening.TheVariants as opens
use Rattle.spectra_lexer.specs.declared.spot.Spot.{Spot}
use Rattle.spectra_lexer.specs.declared.token.Kind.TheVariants as kinds
use Rattle.spectra_lexer.specs.declared.token.Token.{Token}
use Rattle.spectra_lexer.specs.Characters.{goes_on, ends_run, IsRun}
use Rattle.spectra_lexer.specs.Pieces.{opening_of, IsFirstAndRun, IsBlockComment, IsQuoted, IsPiece}
use Rattle.spectra_lexer.specs.Tokens.{past, token_to, token_if, kind_of_piece, Lexes, piece, finish, AreTokens}
use Rattle.spectra_lexer.specs.Faults.{IsStranger, FailsAt, here, later}
use Rattle.spectra_lexer.proofs.Signs.{same_front, one_longest}

apart_from : (b : Bool) → b ≡ true → not b ≡ true → ⊥
apart_from true e f = cc
apart_from false e f = cc

goes_no_further : (run : Run) (c : ℕ) (r w s : List ℕ) → goes_on run c ≡ true → ends_run run r ≡ true → r ≡ c ∷ (w ++ s) → ⊥
goes_no_further run c r w s p a e = apart_from (goes_on run c) p (rw e at a)

longest_front : (run : Run) (v w r s : List ℕ) → list_all (goes_on run) v ≡ true → list_all (goes_on run) w ≡ true → ends_run run r ≡ true → ends_run run s ≡ true
    → v ++ r ≡ w ++ s → (v ≡ w) × (r ≡ s)
longest_front run [] [] r s hv hw ar bs e = (refl, e)
longest_front run [] (c ∷ w) r s hv hw ar bs e = absurd (goes_no_further run c r w s (and_parts (goes_on run c) (list_all (goes_on run) w) hw).0 ar e)
longest_front run (c ∷ v) [] r s hv hw ar bs e = absurd (goes_no_further run c s v r (and_parts (goes_on run c) (list_all (goes_on run) v) hv).0 bs (sym e))
longest_front run (c ∷ v) (d ∷ w) r s hv hw ar bs e =
    let head : c ≡ d = cc in
    let tail : v ++ r ≡ w ++ s = cc in
    let same = longest_front run v w r s (and_parts (goes_on run c) (list_all (goes_on run) v) hv).1 (and_parts (goes_on run d) (list_all (goes_on run) w) hw).1 ar bs tail in
    (let both = same.0 in cc, same.1)

pub one_run : (run : Run) (text v r w s : List ℕ) → IsRun run text v r → IsRun run text w s → (v ≡ w) × (r ≡ s)
one_run run text v r w s a b = longest_front run v w r s a.goes b.goes a.ends b.ends (sym a.parts ∙ b.parts)

pub one_first_and_run : (run : Run) (text p r q s : List ℕ) → IsFirstAndRun run text p r → IsFirstAndRun run text q s → (p ≡ q) × (r ≡ s)
one_first_and_run run text p r q s a b =
    let first : a.first ≡ b.first = (let e = a.text_is in let f = b.text_is in cc) in
    let behind : a.behind ≡ b.behind = (let e = a.text_is in let f = b.text_is in cc) in
    let own : IsRun run a.behind b.front s = subst (λ (x : List ℕ). IsRun run x b.front s) (sym behind) b.goes in
    let same = one_run run a.behind a.front r b.front s a.goes own in
    let fronts : a.front ≡ b.front = same.0 in
    let left = a.piece_is in
    let right = b.piece_is in
    (cc, same.1)

one_block : (text p r q s : List ℕ) → IsBlockComment text p r → IsBlockComment text q s → (p ≡ q) × (r ≡ s)
one_block text p r q s a b =
    let shorter : length a.inside ≤ length b.inside = a.next b.inside s b.text_is in
    let longer : length b.inside ≤ length a.inside = b.next a.inside r a.text_is in
    let size : length a.inside ≡ length b.inside = omega arith in
    let e = a.text_is in
    let f = b.text_is in
    let tails : a.inside ++ (codes "*/" ++ r) ≡ b.inside ++ (codes "*/" ++ s) = cc in
    let same = same_front a.inside b.inside (codes "*/" ++ r) (codes "*/" ++ s) size tails in
    let inner = same.0 in
    let outer = same.1 in
    (a.piece_is ∙ (ap (λ (x : List ℕ). codes "/*" ++ (x ++ codes "*/")) inner ∙ sym b.piece_is), cc)

one_quoted : (text p r q s : List ℕ) → IsQuoted text p r → IsQuoted text q s → (p ≡ q) × (r ≡ s)
one_quoted text p r q s a b =
    let same = one_first_and_run runs.Quoted text a.front (34 ∷ r) b.front (34 ∷ s) a.begins b.begins in
    let rests = same.1 in
    (a.piece_is ∙ (ap (λ (x : List ℕ). x ++ 34 ∷ []) same.0 ∙ sym b.piece_is), cc)

pub one_piece : (o : Opening) (text p r q s : List ℕ) → IsPiece o text p r → IsPiece o text q s → (p ≡ q) × (r ≡ s)
one_piece opens.Nothing text p r q s a b = absurd a
one_piece opens.Blank text p r q s a b = one_first_and_run runs.Blank text p r q s a b
one_piece opens.LineComment text p r q s a b = one_first_and_run runs.Line text p r q s a b
one_piece opens.BlockComment text p r q s a b = one_block text p r q s a b
one_piece opens.Name text p r q s a b = one_first_and_run runs.Name text p r q s a b
one_piece opens.Number text p r q s a b = one_first_and_run runs.Number text p r q s a b
one_piece opens.Quoted text p r q s a b = one_quoted text p r q s a b
one_piece opens.Sign text p r q s a b = one_longest text p q r s a b

-- the tokens begin with that of this piece, and those of the rest follow
abbrev pub Begin : Spot → List ℕ → List Token → List ℕ → List ℕ → Type 0
Begin at text us p r = (ts : List Token) × Lexes (past p at) r ts × (us ≡ token_if (kind_of_piece (opening_of text) p) at (past p at) ++ ts)

pub at_piece : {at : Spot} {text : List ℕ} {us : List Token} (p r : List ℕ) → IsPiece (opening_of text) text p r → Lexes at text us → Begin at text us p r
at_piece {at = at} {text = text} p r i (piece {tokens = ts} q s j d) =
    let same = one_piece (opening_of text) text p r q s i j in
    let rest : Lexes (past q at) r ts = subst (λ (x : List ℕ). Lexes (past q at) x ts) (sym same.1) d in (
      ts,
      subst (λ (x : List ℕ). Lexes (past x at) r ts) (sym same.0) rest,
      ap (λ (x : List ℕ). token_if (kind_of_piece (opening_of text) x) at (past x at) ++ ts) (sym same.0),
    )
at_piece p r i finish = absurd i

pub at_end : {at : Spot} {us : List Token} → Lexes at [] us → us ≡ token_to at kinds.Finish at ∷ []
at_end (piece q s j d) = absurd j
at_end finish = refl

pub one_list : {at : Spot} {text : List ℕ} {ts us : List Token} → Lexes at text ts → Lexes at text us → ts ≡ us
one_list {at = at} {text = text} (piece p r i d) f =
    let b = at_piece p r i f in
    ap (λ (vs : List Token). token_if (kind_of_piece (opening_of text) p) at (past p at) ++ vs) (one_list d b.1) ∙ sym b.2
one_list finish f = sym (at_end f)

fails_behind : {at : Spot} {text : List ℕ} {spot : Spot} (p r : List ℕ) → IsPiece (opening_of text) text p r → FailsAt at text spot → FailsAt (past p at) r spot
fails_behind p r i (here h) = absurd (h.none p r i)
fails_behind {at = at} {text = text} {spot = spot} p r i (later q s j f) =
    let same = one_piece (opening_of text) text p r q s i j in
    let rest : FailsAt (past q at) r spot = subst (λ (x : List ℕ). FailsAt (past q at) x spot) (sym same.1) f in
    subst (λ (x : List ℕ). FailsAt (past x at) r spot) (sym same.0) rest

end_is_no_failure : {at : Spot} {spot : Spot} → FailsAt at [] spot → ⊥
end_is_no_failure (here h) = h.some refl
end_is_no_failure (later q s j f) = j

-- a text with tokens fails nowhere
pub reads_or_fails : {at : Spot} {text : List ℕ} {ts : List Token} {spot : Spot} → Lexes at text ts → FailsAt at text spot → ⊥
reads_or_fails (piece p r i d) f = reads_or_fails d (fails_behind p r i f)
reads_or_fails finish f = end_is_no_failure f

stranger_fails_here : {at : Spot} {text : List ℕ} {spot : Spot} → IsStranger text → FailsAt at text spot → at ≡ spot
stranger_fails_here h (here k) = refl
stranger_fails_here h (later q s j f) = absurd (h.none q s j)

pub one_spot : {at : Spot} {text : List ℕ} {x y : Spot} → FailsAt at text x → FailsAt at text y → x ≡ y
one_spot (here h) f = stranger_fails_here h f
one_spot (later p r i d) f = one_spot d (fails_behind p r i f)

pub one_list_of_tokens : (text : List ℕ) (ts us : List Token) → AreTokens text ts → AreTokens text us → ts ≡ us
one_list_of_tokens text ts us a b = one_list a.lexed b.lexed
