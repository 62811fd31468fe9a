-- Lines with a session's number: the number is that of the first word.
use Rattle.std.proofs.Common.{◌≡◌, ℕ, ℤ, pos, negsuc, ◌+◌, ◌<◌, ◌≤◌, ◌^◌, Bool, true, false, ◌||◌, List, [], ◌∷◌, ◌++◌, length, take, drop, get_or, refl, sym, ap, subst, ◌∙◌, arith}
use Rattle.std.proofs.lemmas.Bool.{false≢true, or_cases}
use Rattle.std.proofs.lemmas.Fmt.{decimal_is_IsNumeral, signed_decimal_injective}
use Rattle.std.proofs.lemmas.List.{drop_more, take-append-drop}
use Rattle.std.proofs.lemmas.List.Folds.{list_any_more}
use Rattle.std.specs.Fmt.{decimal, signed_decimal}
use Rattle.std.specs.List.{list_any}
use lib.Signed.{mag}
use Rattle.session_lines.specs.Reading.{is_blank}
use Rattle.session_lines.specs.Plain.{IsWhole}
use Rattle.session_lines.proofs.ShownIsRead.{number_whole}
use Rattle.many_sessions.specs.Numbered.{Message, BeginsBlank, IsNumbered, IsWordEnd}

-- ---- words

pub whole_more : (line : List ℕ) (at d : ℕ) → at < length line → IsWhole (take at line) → is_blank (get_or line at d) ≡ false → IsWhole (take (at + 1) line)
whole_more line at d below whole plain =
    list_any_more is_blank line at d below ∙ (ap (λ (b : Bool). b || is_blank (get_or line at d)) whole ∙ plain)

pub blank_there : (line : List ℕ) (at d : ℕ) → at < length line → is_blank (get_or line at d) ≡ true → BeginsBlank (drop at line)
blank_there line at d below is = subst BeginsBlank (sym (drop_more line at d below)) is

-- two words with what follows them, of one line
never_both : (c : ℕ) (cs : List ℕ) → IsWhole (c ∷ cs) → is_blank c ≡ true → ⊥
never_both c cs whole blank = false≢true (sym whole ∙ ap (λ (b : Bool). b || list_any is_blank cs) blank)

rest_whole : (c : ℕ) (cs : List ℕ) → IsWhole (c ∷ cs) → IsWhole cs
rest_whole c cs whole = by_test (is_blank c) (list_any is_blank cs) whole
  where
    by_test : (a b : Bool) → (a || b) ≡ false → b ≡ false
    by_test true b e = absurd (false≢true (sym e))
    by_test false b e = e

same_word : (a b c d : List ℕ) → a ++ b ≡ c ++ d → IsWhole a → IsWhole c → BeginsBlank b → BeginsBlank d → a ≡ c
same_word [] b [] d e whole whole' blank blank' = refl
same_word [] b (y ∷ c) d e whole whole' blank blank' = absurd (never_both y c whole' (subst BeginsBlank e blank))
same_word (x ∷ a) b [] d e whole whole' blank blank' = absurd (never_both x a whole (subst BeginsBlank (sym e) blank'))
same_word (x ∷ a) b (y ∷ c) d e whole whole' blank blank' =
    let heads : x ≡ y = cc in
    let tails : a ++ b ≡ c ++ d = cc in
    ap (λ (n : ℕ). n ∷ a) heads ∙ ap (λ (l : List ℕ). y ∷ l) (same_word a b c d tails (rest_whole x a whole) (rest_whole y c whole') blank blank')

-- the first word of a line that has a number is its number
word_is : (line : List ℕ) (n : ℕ) (m : Message) → IsWordEnd line n → IsNumbered line m → take n line ≡ signed_decimal (pos m.session)
word_is line n m word is =
    let small : m.session < 2 ^ 63 = omega (arith, is.session.1) in
    same_word (take n line) (drop n line) (decimal m.session) m.text (take-append-drop n line ∙ is.bytes) word.whole (number_whole (pos m.session) small) word.apart is.apart

-- where the first word is no number, the line has none
pub no_number : (line : List ℕ) (n : ℕ) → IsWordEnd line n → ((z : ℤ) → mag z < 2 ^ 63 → take n line ≡ signed_decimal z → ⊥) → (m : Message) → IsNumbered line m → ⊥
no_number line n word never m is = never (pos m.session) (omega (arith, is.session.1)) (word_is line n m word is)

-- where it is one, that is the line's
pub number_is : (line : List ℕ) (n : ℕ) (z : ℤ) → IsWordEnd line n → mag z < 2 ^ 63 → take n line ≡ signed_decimal z → (m : Message) → IsNumbered line m → z ≡ pos m.session
number_is line n z word small same m is =
    signed_decimal_injective z (pos m.session) small (omega (arith, is.session.1)) (sym same ∙ word_is line n m word is)

pub numbered_by : (line : List ℕ) (n k : ℕ) → IsWordEnd line n → take n line ≡ decimal k → 1 ≤ k → k ≤ 1024 → IsNumbered line (record { session = k; text = drop n line })
numbered_by line n k word same some few =
    record {
      bytes = sym (take-append-drop n line) ∙ ap (λ (l : List ℕ). l ++ drop n line) same;
      session = (some, few);
      apart = word.apart;
    }
