-- What is shown of an assignment reads as it.
use Rattle.std.proofs.Common.{◌≡◌, ◌≢◌, ℕ, suc, ◌<◌, ◌≤◌, ◌^◌, ℤ, pos, negsuc, Bool, true, false, not, ◌&&◌, ◌||◌, ◌==◌, cond, List, [], ◌∷◌, ◌++◌, map, length, filter, Option, Some, None, is_some, inr, refl, sym, ap, ◌∙◌, subst, arith, append_assoc, length-append}
use Rattle.std.proofs.lemmas.Bool.{and_parts, or_right, eqb-true, eq-eqb}
use Rattle.std.proofs.lemmas.Bool.Decides.{nat_tests}
use Rattle.std.proofs.lemmas.Fmt.{decimal_is_IsNumeral}
use Rattle.std.proofs.lemmas.Str.Parse.{digit_from_value}
use Rattle.std.proofs.lemmas.List.Elements.{All-nil, All-cons, filter_map-append}
use Rattle.std.proofs.lemmas.List.Folds.{list_any-append}
use Rattle.std.proofs.lemmas.List.Splits.{slice_split_none, slice_split_at}
use Rattle.std.proofs.lemmas.Slice.Eq.{bytes_eq-Decides}
use Rattle.std.specs.List.{list_any, list_all, slice_split, join_with_byte, All, cons_option}
use Rattle.std.specs.Fmt.{decimal, signed_decimal}
use Rattle.std.specs.Str.{bytes_eq}
use Rattle.std.specs.Str.Parse.{AllDigits}
use lib.Signed.{mag}
use Rattle.spec_model.specs.declared.value.Value.{Value}
use Rattle.spec_model.specs.declared.value.Value.TheVariants as value
use Rattle.spec_model.specs.Values.{Assignment, DomainData, TruthValues, WholeNumbers, Enumeration, values_of, same_value, is_assignment}
use Rattle.spec_model.specs.Syntax.{VariableData}
use Rattle.spec_model.proofs.Domains.{none_in_range, none_named, no_number, no_name, in_range}
use Rattle.session_lines.specs.Shown.{text_of, item_of, items_of, show}
use Rattle.session_lines.specs.Reading.{is_blank, words, after_name, texts_given, names_one, AreGiven, Reads}
use Rattle.session_lines.specs.Room.{domains}
use Rattle.session_lines.specs.Plain.{IsWhole, IsPlain, ArePlain, IsWritable, AreWritable, AreNames}
use Rattle.session_lines.proofs.Values.{mag_between}
use Rattle.session_lines.proofs.OneReading.{among}

-- ---- texts without blanks

or_none : (x y : Bool) → (x || y) ≡ false → (x ≡ false) × (y ≡ false)
or_none true y e = cc
or_none false y e = (refl, e)

plain_head : (c : ℕ) (cs : List ℕ) → IsPlain (c ∷ cs) → (is_blank c ≡ false) × ((c == 61) ≡ false) × IsPlain cs
plain_head c cs plain =
    let parts = or_none (is_blank c || c == 61) (list_any (λ c. is_blank c || c == 61) cs) plain in
    let own = or_none (is_blank c) (c == 61) parts.0 in
    (own.0, own.1, parts.1)

plain_whole : (name : List ℕ) → IsPlain name → IsWhole name
plain_whole [] plain = refl
plain_whole (c ∷ cs) plain =
    let head = plain_head c cs plain in
    ap (λ (b : Bool). b || list_any is_blank cs) head.0 ∙ plain_whole cs head.2

no_blank : (c : ℕ) → 48 ≤ c → is_blank c ≡ false
no_blank c digit =
    let space : (c == 32) ≡ false = grind (arith, nat_tests) in
    let tab : (c == 9) ≡ false = grind (arith, nat_tests) in
    ap (λ (b : Bool). b || c == 9) space ∙ tab

digits_whole : (ds : List ℕ) → AllDigits 10 ds → IsWhole ds
digits_whole [] digits = refl
digits_whole (c ∷ cs) digits =
    let range = digit_from_value c digits.0 in
    ap (λ (b : Bool). b || list_any is_blank cs) (no_blank c range.0) ∙ digits_whole cs digits.1

pub number_whole : (z : ℤ) → mag z < 2 ^ 63 → IsWhole (signed_decimal z)
number_whole (pos n) small = digits_whole (decimal n) (decimal_is_IsNumeral n (omega (arith, small))).0.1
number_whole (negsuc n) small = digits_whole (decimal (suc n)) (decimal_is_IsNumeral (suc n) (omega (arith, small))).0.1

text_whole : (names : List (List ℕ)) → AreNames names → (d : DomainData) → IsWritable names d → (x : Value) → list_any (same_value x) (values_of d) ≡ true → IsWhole (text_of names x)
text_whole names are d writable (value.Bool true) within = refl
text_whole names are d writable (value.Bool false) within = refl
text_whole names are TruthValues writable (value.Int z) within = cc
text_whole names are TruthValues writable (value.Name n) within = cc
text_whole names are (WholeNumbers lo hi) writable (value.Int z) within =
    let between = (in_range z lo hi).0 within in
    number_whole z (mag_between z lo hi (2 ^ 63) between.0 between.1 writable.0 writable.1)
text_whole names are (WholeNumbers lo hi) writable (value.Name n) within = absurd (let never = none_in_range (value.Name n) (no_number (value.Name n) (inr (n, refl))) lo hi in cc)
text_whole names are (Enumeration ns) writable (value.Int z) within = absurd (let never = none_named (value.Int z) (no_name (value.Int z) (inr (z, refl))) ns in cc)
text_whole names are (Enumeration ns) writable (value.Name n) within = are.whole n (among names ns n writable within)

-- ---- the words of what is joined

abbrev AreWords : List (List ℕ) → Type 0
AreWords [] = Unit {0}
AreWords (p ∷ ps) = IsWhole p × (0 < length p) × AreWords ps

all_whole : (p : List ℕ) → IsWhole p → All (λ c. is_blank c ≡ false) p
all_whole [] whole = All-nil (λ c. is_blank c ≡ false)
all_whole (c ∷ cs) whole =
    let parts = or_none (is_blank c) (list_any is_blank cs) whole in
    All-cons (λ c. is_blank c ≡ false) c cs parts.0 (all_whole cs parts.1)

split_joined : (p : List ℕ) (ps : List (List ℕ)) → AreWords (p ∷ ps) → slice_split is_blank (join_with_byte 32 (p ∷ ps)) ≡ p ∷ ps
split_joined p [] are = slice_split_none is_blank p (all_whole p are.0)
split_joined p (q ∷ qs) are =
    slice_split_at is_blank p 32 (join_with_byte 32 (q ∷ qs)) (all_whole p are.0) refl ∙ ap (λ (ps : List (List ℕ)). p ∷ ps) (split_joined q qs are.2)

keep_words : (ps : List (List ℕ)) → AreWords ps → filter (λ w. not (length w == 0)) ps ≡ ps
keep_words [] are = refl
keep_words (p ∷ ps) are =
    let some = are.1 in
    let full : not (length p == 0) ≡ true = grind (arith, nat_tests) in
    ap (λ (b : Bool). cond b (p ∷ filter (λ w. not (length w == 0)) ps) (filter (λ w. not (length w == 0)) ps)) full ∙ ap (λ (qs : List (List ℕ)). p ∷ qs) (keep_words ps are.2)

words_joined : (ps : List (List ℕ)) → AreWords ps → words (join_with_byte 32 ps) ≡ ps
words_joined [] are = refl
words_joined (p ∷ ps) are = ap (filter (λ w. not (length w == 0))) (split_joined p ps are) ∙ keep_words (p ∷ ps) are

item_whole : (name text : List ℕ) → IsPlain name → IsWhole text → IsWhole (name ++ 61 ∷ text)
item_whole name text plain whole =
    list_any-append is_blank name (61 ∷ text) ∙ ap (λ (b : Bool). b || list_any is_blank text) (plain_whole name plain) ∙ whole

items_words : (names : List (List ℕ)) (vs : List VariableData) (xs : Assignment) → AreNames names → AreWritable names vs → ArePlain (map (λ v. v.name) vs) → is_assignment (domains vs) xs ≡ true → AreWords (items_of names vs xs)
items_words names [] [] are writable plain within = tt
items_words names [] (x ∷ xs) are writable plain within = tt
items_words names (v ∷ vs) [] are writable plain within = tt
items_words names (v ∷ vs) (x ∷ xs) are writable plain within =
    let parts = and_parts (list_any (same_value x) (values_of v.domain)) (is_assignment (domains vs) xs) within in (
      item_whole v.name (text_of names x) plain.0 (text_whole names are v.domain writable.0 x parts.0),
      omega (arith, length-append v.name (61 ∷ text_of names x)),
      items_words names vs xs are writable.1 plain.2 parts.1,
    )

-- ---- whose item a word is

own_item : (name text : List ℕ) → after_name name (name ++ 61 ∷ text) ≡ Some text
own_item [] text = refl
own_item (c ∷ cs) text = ap (λ (b : Bool). cond b (after_name cs (cs ++ 61 ∷ text)) None) (eq-eqb c c refl) ∙ own_item cs text

other_item : (name other text : List ℕ) → IsPlain name → IsPlain other → name ≢ other → after_name name (other ++ 61 ∷ text) ≡ None
other_item [] [] text plain its differ = absurd (differ refl)
other_item [] (c ∷ cs) text plain its differ = ap (λ (b : Bool). cond b (Some (cs ++ 61 ∷ text)) None) (plain_head c cs its).1
other_item (n ∷ ns) [] text plain its differ =
    let no : (61 == n) ≡ false = (let e = (plain_head n ns plain).1 in grind (arith, nat_tests)) in
    ap (λ (b : Bool). cond b (after_name ns text) None) no
other_item (n ∷ ns) (c ∷ cs) text plain its differ =
    by_test (c == n) refl (other_item ns cs text (plain_head n ns plain).2 (plain_head c cs its).2)
  where
    by_test : (b : Bool) → (c == n) ≡ b → (ns ≢ cs → after_name ns (cs ++ 61 ∷ text) ≡ None) → cond b (after_name ns (cs ++ 61 ∷ text)) None ≡ None
    by_test true same rest = rest (λ e. differ (let h : c ≡ n = eqb-true c n same in cc))
    by_test false same rest = refl

-- ---- each word is known

weaken_known : (v : VariableData) (vs : List VariableData) (ws : List (List ℕ)) → list_all (names_one vs) ws ≡ true → list_all (names_one (v ∷ vs)) ws ≡ true
weaken_known v vs [] known = refl
weaken_known v vs (w ∷ ws) known =
    let parts = and_parts (names_one vs w) (list_all (names_one vs) ws) known in
    ap (λ (b : Bool). b && list_all (names_one (v ∷ vs)) ws) (or_right (is_some (after_name v.name w)) (names_one vs w) parts.0) ∙ weaken_known v vs ws parts.1

pub items_known : (names : List (List ℕ)) (vs : List VariableData) (xs : Assignment) → list_all (names_one vs) (items_of names vs xs) ≡ true
items_known names [] xs = refl
items_known names (v ∷ vs) [] = refl
items_known names (v ∷ vs) (x ∷ xs) =
    ap (λ (o : Option (List ℕ)). (is_some o || names_one vs (item_of names v x)) && list_all (names_one (v ∷ vs)) (items_of names vs xs)) (own_item v.name (text_of names x))
    ∙ weaken_known v vs (items_of names vs xs) (items_known names vs xs)

-- ---- each variable has its value

abbrev pub GivesNone : List (List ℕ) → List VariableData → Type 0
GivesNone ws [] = Unit {0}
GivesNone ws (v ∷ vs) = (texts_given v ws ≡ []) × GivesNone ws vs

abbrev DiffersFrom : List ℕ → List VariableData → Type 0
DiffersFrom name [] = Unit {0}
DiffersFrom name (v ∷ vs) = (name ≢ v.name) × IsPlain v.name × DiffersFrom name vs

differs : (name : List ℕ) (vs : List VariableData) → list_any (bytes_eq name) (map (λ v. v.name) vs) ≡ false → ArePlain (map (λ v. v.name) vs) → DiffersFrom name vs
differs name [] none plain = tt
differs name (v ∷ vs) none plain =
    let parts = or_none (bytes_eq name v.name) (list_any (bytes_eq name) (map (λ v. v.name) vs)) none in
    (λ same. let yes = (bytes_eq-Decides name v.name).1 same in let no = parts.0 in cc, plain.0, differs name vs parts.1 plain.2)

-- the items of the others give it nothing
items_none : (names : List (List ℕ)) (v : VariableData) (vs : List VariableData) (xs : Assignment) → IsPlain v.name → DiffersFrom v.name vs → texts_given v (items_of names vs xs) ≡ []
items_none names v [] xs plain others = refl
items_none names v (u ∷ vs) [] plain others = refl
items_none names v (u ∷ vs) (x ∷ xs) plain others =
    ap (λ (o : Option (List ℕ)). cons_option o (texts_given v (items_of names vs xs))) (other_item v.name u.name (text_of names x) plain others.1 others.0)
    ∙ items_none names v vs xs plain others.2

-- its item gives the others nothing
item_none : (names ws : List (List ℕ)) (v : VariableData) (x : Value) (vs : List VariableData) → IsPlain v.name → DiffersFrom v.name vs → GivesNone ws vs → GivesNone (ws ++ item_of names v x ∷ []) vs
item_none names ws v x [] plain others none = tt
item_none names ws v x (u ∷ vs) plain others none = (
  filter_map-append (after_name u.name) ws (item_of names v x ∷ [])
      ∙ ap (λ (l : List (List ℕ)). l ++ cons_option (after_name u.name (item_of names v x)) []) none.0
      ∙ ap (λ (o : Option (List ℕ)). cons_option o []) (other_item u.name v.name (text_of names x) others.1 plain (λ e. others.0 (sym e))),
  item_none names ws v x vs plain others.2 none.1,
)

pub none_given : (vs : List VariableData) → GivesNone [] vs
none_given [] = tt
none_given (v ∷ vs) = (refl, none_given vs)

pub items_given : (names before : List (List ℕ)) (vs : List VariableData) (xs : Assignment) → ArePlain (map (λ v. v.name) vs) → GivesNone before vs → is_assignment (domains vs) xs ≡ true
    → AreGiven names (before ++ items_of names vs xs) vs xs
items_given names before [] [] plain none within = tt
items_given names before [] (x ∷ xs) plain none within = cc
items_given names before (v ∷ vs) [] plain none within = cc
items_given names before (v ∷ vs) (x ∷ xs) plain none within =
    let parts = and_parts (list_any (same_value x) (values_of v.domain)) (is_assignment (domains vs) xs) within in
    let others = differs v.name vs plain.1 plain.2 in
    let text = text_of names x in
    let rest = items_of names vs xs in
    let once : texts_given v (before ++ item_of names v x ∷ rest) ≡ text ∷ [] =
    filter_map-append (after_name v.name) before (item_of names v x ∷ rest)
    ∙ ap (λ (l : List (List ℕ)). l ++ cons_option (after_name v.name (item_of names v x)) (texts_given v rest)) none.0
    ∙ ap (λ (o : Option (List ℕ)). cons_option o (texts_given v rest)) (own_item v.name text)
    ∙ ap (λ (l : List (List ℕ)). text ∷ l) (items_none names v vs xs plain.0 others) in
    let later = items_given names (before ++ item_of names v x ∷ []) vs xs plain.2 (item_none names before v x vs plain.0 others none.1) parts.1 in (
      record { text = text; once = once; written = record { text_is = refl; within = parts.0 } },
      subst (λ (ws : List (List ℕ)). AreGiven names ws vs xs) (append_assoc before (item_of names v x ∷ []) rest) later,
    )

pub shown_reads : (names : List (List ℕ)) (vs : List VariableData) (xs : Assignment) → AreNames names → AreWritable names vs → ArePlain (map (λ v. v.name) vs) → is_assignment (domains vs) xs ≡ true → Reads names vs (show names vs xs) xs
shown_reads names vs xs are writable plain within =
    let cut = words_joined (items_of names vs xs) (items_words names vs xs are writable plain within) in
    record {
      known = ap (list_all (names_one vs)) cut ∙ items_known names vs xs;
      given = subst (λ (ws : List (List ℕ)). AreGiven names ws vs xs) (sym cut) (items_given names [] vs xs plain (none_given vs) within);
    }
