-- Bytes and characters.
use Rattle.std.proofs.Common.{◌≡◌, ℕ, ◌+◌, Bool, true, false, ltb, ◌==◌, List, [], ◌∷◌, ◌++◌, length, refl, sym, ap, subst, ◌∙◌, arith, length-append}
use Rattle.std.specs.List.{list_all, list_any}
use Rattle.std.specs.Char.{len_utf8, encode_utf8}
use Rattle.std.specs.Cmp.Lexicographic.{bytes_decides}
use Rattle.std.specs.Str.{chars, IsUtf8, encode_utf8_all, IsAscii}
use Rattle.std.proofs.lemmas.Bool.{and_parts, ltb-true, both_ways, eq-eqb, eqb-true}
use Rattle.std.proofs.lemmas.Str.{chars_past_char, IsUtf8-past_char, length-encode, encode_ascii, encodes-chars, encodes-append, encodes-IsAscii, encodes_same, chars-nil}
use Rattle.std.proofs.lemmas.List.{nil_from_length}
use Rattle.std.proofs.lemmas.Str.Ascii.{IsAscii-nil, IsAscii-cons}
use Rattle.spectra_lexer.specs.Words.{same_text, is_sign, reserved_words, is_reserved, BeginsWithSign, BeginsWithLongest}
use Rattle.spectra_lexer.proofs.Signs.{each_sign}

pub split_said : (bs rest : List ℕ) (c : ℕ) → IsUtf8 bs → bs ≡ encode_utf8 c ++ rest → (chars bs ≡ c ∷ chars rest) × (length bs ≡ len_utf8 c + length rest) × IsUtf8 rest
split_said bs rest c utf8 e =
    (chars_past_char bs rest c utf8 e, omega (arith, ap length e, length-append (encode_utf8 c) rest, length-encode c), IsUtf8-past_char bs rest c utf8 e)

pub some_characters : (bs : List ℕ) → IsUtf8 bs → false ≡ (length bs == 0) → chars bs ≡ [] → ⊥
some_characters bs utf8 some none =
    let empty : bs ≡ [] = sym (encodes-chars bs utf8) ∙ ap encode_utf8_all none in
    let size : length bs ≡ 0 = ap length empty in
    both_ways (length bs == 0) (sym some) (eq-eqb (length bs) 0 size)

pub no_characters : (bs : List ℕ) → true ≡ (length bs == 0) → chars bs ≡ []
no_characters bs none = ap chars (nil_from_length bs (eqb-true (length bs) 0 (sym none))) ∙ chars-nil

abbrev pub is_ascii : List ℕ → Bool
is_ascii cs = list_all (λ c. ltb c 128) cs

pub ascii : (cs : List ℕ) → is_ascii cs ≡ true → IsAscii cs
ascii [] h = IsAscii-nil
ascii (c ∷ cs) h =
    let p = and_parts (ltb c 128) (is_ascii cs) h in
    IsAscii-cons c cs (ltb-true c 128 p.0) (ascii cs p.1)

-- an ASCII front of the bytes is one of the characters
pub ascii_front : (front more bs : List ℕ) → is_ascii front ≡ true → IsUtf8 bs → bs ≡ front ++ more → IsUtf8 more × (chars bs ≡ front ++ chars more)
ascii_front [] more bs h utf8 e = (subst IsUtf8 e utf8, ap chars e)
ascii_front (c ∷ front) more bs h utf8 e =
    let p = and_parts (ltb c 128) (is_ascii front) h in
    let parts : bs ≡ encode_utf8 c ++ (front ++ more) = e ∙ ap (λ (x : List ℕ). x ++ (front ++ more)) (sym (encode_ascii c (ltb-true c 128 p.0))) in
    let behind = IsUtf8-past_char bs (front ++ more) c utf8 parts in
    let same = ascii_front front more (front ++ more) p.1 behind refl in
    (same.0, chars_past_char bs (front ++ more) c utf8 parts ∙ ap (λ (x : List ℕ). c ∷ x) same.1)

-- an ASCII front of the characters is one of the bytes
pub ascii_bytes : (bs front cs : List ℕ) → is_ascii front ≡ true → IsUtf8 bs → chars bs ≡ front ++ cs → bs ≡ front ++ encode_utf8_all cs
ascii_bytes bs front cs h utf8 e =
    sym (encodes-chars bs utf8) ∙ (ap encode_utf8_all e ∙ (encodes-append front cs ∙ ap (λ (x : List ℕ). x ++ encode_utf8_all cs) (encodes-IsAscii front (ascii front h))))

pub sign_is_ascii : (s : List ℕ) → is_sign s ≡ true → is_ascii s ≡ true
sign_is_ascii s h = each_sign is_ascii s refl h

pub sign_in_bytes : (bs s r : List ℕ) → IsUtf8 bs → BeginsWithSign (chars bs) s r → BeginsWithSign bs s (encode_utf8_all r)
sign_in_bytes bs s r utf8 b = record { is = b.is; parts = ascii_bytes bs s r (sign_is_ascii s b.is) utf8 b.parts }

pub longest_in_characters : (bs s r : List ℕ) → IsUtf8 bs → BeginsWithLongest bs s r → IsUtf8 r × BeginsWithLongest (chars bs) s (chars r)
longest_in_characters bs s r utf8 l =
    let front = ascii_front s r bs (sign_is_ascii s l.begins.is) utf8 l.begins.parts in (
      front.0,
      record {
        begins = record { is = l.begins.is; parts = front.1 };
        longest = λ other more b. l.longest other (encode_utf8_all more) (sign_in_bytes bs other more utf8 b);
      },
    )

pub agree : (a b : Bool) → (a ≡ true → b ≡ true) → (b ≡ true → a ≡ true) → a ≡ b
agree true b f g = sym (f refl)
agree false true f g = g refl
agree false false f g = refl

same_encoded : (r cs : List ℕ) → is_ascii r ≡ true → same_text r (encode_utf8_all cs) ≡ same_text r cs
same_encoded r cs h =
    let own = encodes-IsAscii r (ascii r h) in
    agree (same_text r (encode_utf8_all cs)) (same_text r cs)
    (λ e. (bytes_decides r cs).1 (encodes_same r cs (own ∙ (bytes_decides r (encode_utf8_all cs)).0 e)))
    (λ e. (bytes_decides r (encode_utf8_all cs)).1 (sym own ∙ ap encode_utf8_all ((bytes_decides r cs).0 e)))

among_encoded : (table : List (List ℕ)) (cs : List ℕ) → list_all is_ascii table ≡ true
    → list_any (λ r. same_text r (encode_utf8_all cs)) table ≡ list_any (λ r. same_text r cs) table
among_encoded [] cs h = refl
among_encoded (t ∷ ts) cs h =
    let p = and_parts (is_ascii t) (list_all is_ascii ts) h in
    rw (same_encoded t cs p.0, among_encoded ts cs p.1) refl

-- a word is reserved if its bytes are those of a reserved word
pub is_reserved-encoded : (cs : List ℕ) → is_reserved (encode_utf8_all cs) ≡ is_reserved cs
unfolding is_reserved
is_reserved-encoded cs = among_encoded reserved_words cs refl
