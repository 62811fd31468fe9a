-- Which sets are named: the sets of one step among those of the call that takes it.
use Rattle.std.proofs.Common.{◌≡◌, ℕ, zero, suc, ◌+◌, ◌-◌, ◌/◌, ◌%◌, ◌^◌, ◌<◌, ◌==◌, nat_le, Bool, true, false, ◌&&◌, ◌||◌, cond, List, [], ◌∷◌, ◌++◌, map, take, drop, length, get_or, refl, sym, ◌∙◌, ap, subst, arith, inl, inr}
use Rattle.std.specs.List.{list_any, Contains, AllByRecursion}
use Rattle.std.specs.Bool.{beq}
use Rattle.std.proofs.lemmas.List.{length-map, take-append-drop}
use Rattle.std.proofs.lemmas.List.Elements.{Contains-append_left}
use Rattle.std.proofs.lemmas.List.Folds.{list_any-append}
use Rattle.spec_model.specs.declared.value.Value.{Value}
use Rattle.spec_model.specs.declared.value.Value.TheVariants as value
use Rattle.spec_model.specs.Values.{truth_of}
use Rattle.spec_model.specs.Diagrams.{Bits, Function}
use Rattle.bdd_ops.specs.Functions.{joined, join_of}
use Rattle.bdd_bits.specs.Contents.{Contents}
use Rattle.bit_compile.specs.declared.folds.Fold.{Fold}
use Rattle.bit_compile.specs.declared.folds.Fold.TheVariants as fold
use Rattle.bit_compile.specs.Codes.{has_number}
use Rattle.bit_compile.specs.Making.{digit}
use Rattle.bit_compile.specs.Compiled.{Case, some_pair, is_not, never, some_of, both_truths}
use Rattle.bit_compile.specs.CaseRoots.{case_at, cases_at, folded, is_all, truth_had}
use Rattle.bit_compile.specs.declared.cases.CaseRoot.{CaseRoot}
use Rattle.bit_compile.specs.NamedCodes.{IsDigit, IsOfNumber}
use Rattle.bit_compile.specs.Named.{IsFirstOf, IsBoth, IsOfRow, IsOfPairs, IsOfLetter, IsOfEach, IsTruth, case_in, row_with, begins_letter}
use Rattle.bit_compile.proofs.Folding.{or_false, all_of-push}
use Rattle.bit_compile.proofs.CyclesLemmas.{take_next, take_all, got}
use Rattle.bit_compile.proofs.EntryLemmas.{get-mapped}

-- ---- codes

pub number_whole : (level width n : ℕ) → IsOfNumber level width n (has_number level width n)
number_whole level zero n = refl
number_whole level (suc w) n = inl refl

pub is_digit : (level : ℕ) (high : Bool) → IsDigit level (digit level high)
is_digit level true = inl refl
is_digit level false = inr refl

pub number_digit : (level width n : ℕ) (f : Function) → 0 < width → IsDigit level f → IsOfNumber level width n f
number_digit level zero n f some is = absurd (omega arith)
number_digit level (suc w) n f some is = inr (inl is)

pub number_rest : (level width n rest : ℕ) (high : Bool) (f : Function) → 0 < width → high ≡ nat_le (2 ^ (width - 1)) n → rest ≡ cond high (n - 2 ^ (width - 1)) n → IsOfNumber (level + 1) (width - 1) rest f → IsOfNumber level width n f
number_rest level zero n rest high f some is left named = absurd (omega arith)
number_rest level (suc w) n rest high f some is left named =
    let next : level + 1 ≡ suc level = omega arith in
    let less : suc w - 1 ≡ w = omega arith in
    let here : rest ≡ cond (nat_le (2 ^ w) n) (n - 2 ^ w) n =
    left ∙ (ap (λ (b : Bool). cond b (n - 2 ^ (suc w - 1)) n) is ∙ ap (λ (k : ℕ). cond (nat_le (2 ^ k) n) (n - 2 ^ k) n) less) in
    let one = subst (λ (l : ℕ). IsOfNumber l (suc w - 1) rest f) next named in
    let two = subst (λ (k : ℕ). IsOfNumber (suc level) k rest f) less one in
    inr (inr (subst (λ (m : ℕ). IsOfNumber (suc level) w m f) here two))

-- ---- several members

pub take_mapped : {X Y : Type 0} (f : X → Y) (xs : List X) (i : ℕ) (x : X) → i < length xs → x ≡ get_or xs i x → take (i + 1) (map f xs) ≡ take i (map f xs) ++ f x ∷ []
take_mapped f xs i x less is =
    let long = length-map xs f in
    take_next (map f xs) i (f x) (omega (arith, long, less)) (ap f is ∙ sym (get-mapped f xs i x))

pub mapped_there : {X Y : Type 0} (f : X → Y) (xs : List X) (i : ℕ) → i < length xs → i < length (map f xs)
mapped_there f xs i less = let long = length-map xs f in omega (arith, long, less)

pub mapped_is : {X Y : Type 0} (f : X → Y) (xs : List X) (i : ℕ) (x : X) → x ≡ get_or xs i x → f x ≡ get_or (map f xs) i (f x)
mapped_is f xs i x is = ap f is ∙ sym (get-mapped f xs i x)

pub first_all : (how : Fold) (fs : List Function) → IsFirstOf how fs (folded how fs)
first_all how fs = (length fs, ap (folded how) (sym (take_all fs (length fs) (omega arith))))

pub folded-none : (how : Fold) → (λ s. is_all how) ≡ folded how []
folded-none fold.All = refl
folded-none fold.Some = refl

or_assoc : (a b c : Bool) → ((a || b) || c) ≡ (a || (b || c))
or_assoc true b c = refl
or_assoc false b c = refl

some_of-push : (fs : List Function) (f : Function) → some_of (fs ++ f ∷ []) ≡ (λ s. some_of fs s || f s)
some_of-push [] f = λ i s. or_false (f s) i
some_of-push (g ∷ fs) f = ap (λ (h : Function). (λ (s : Bits). g s || h s)) (some_of-push fs f) ∙ sym (λ i s. or_assoc (g s) (some_of fs s) (f s) i)

folded-push : (how : Fold) (fs : List Function) (f : Function) → folded how (fs ++ f ∷ []) ≡ joined (join_of (is_all how)) (folded how fs) f
folded-push fold.All fs f = all_of-push fs f
folded-push fold.Some fs f = some_of-push fs f

-- one member more
pub first_more : (how : Fold) (fs : List Function) (i : ℕ) (whole more f : Function) → whole ≡ folded how (take i fs) → more ≡ joined (join_of (is_all how)) whole f → take (i + 1) fs ≡ take i fs ++ f ∷ [] → more ≡ folded how (take (i + 1) fs)
first_more how fs i whole more f so_far is longer =
    is ∙ (ap (λ (g : Function). joined (join_of (is_all how)) g f) so_far ∙ (sym (folded-push how (take i fs) f) ∙ ap (folded how) (sym longer)))

-- ---- pairs

pub case_there : (c : Contents) (xs : List CaseRoot) (i : ℕ) (x : CaseRoot) → i < length xs → x ≡ get_or xs i x → case_in (cases_at c xs) i ≡ case_at c x
case_there c xs i x less is =
    let long = length-map xs (case_at c) in
    got (cases_at c xs) i (record { value = value.Bool false; holds = never }) (case_at c x) (omega (arith, long, less)) ∙ (get-mapped (case_at c) xs i x ∙ ap (case_at c) (sym is))

-- one pair of the row, as it stands now
pub row_pair : (test : Value → Value → Bool) (sum g h : Function) (x y : Case) (ys : List Case) (j : ℕ) (f : Function) → g ≡ x.holds → h ≡ y.holds → case_in ys j ≡ y → IsBoth g h f → IsOfRow test sum x ys f
row_pair test sum g h x y ys j f same_x same_y there is =
    inl (j, is ∙ (ap (λ (k : Function). (λ (s : Bits). k s && h s)) same_x ∙ ap (λ (k : Function). (λ (s : Bits). x.holds s && k s)) (same_y ∙ sym (ap (λ (z : Case). z.holds) there))))

pub row_begun : (test : Value → Value → Bool) (sum f : Function) (x : Case) (ys : List Case) → f ≡ sum → f ≡ (λ s. sum s || row_with test x (take 0 ys) s)
row_begun test sum f x ys is = is ∙ sym (λ i s. or_false (sum s) i)

row_with-push : (test : Value → Value → Bool) (x y : Case) (ys : List Case) (s : Bits) → row_with test x (ys ++ y ∷ []) s ≡ (row_with test x ys s || (test x.value y.value && (x.holds s && y.holds s)))
row_with-push test x y ys s =
    let p : Case → Bool = λ z. test x.value z.value && (x.holds s && z.holds s) in
    list_any-append p ys (y ∷ []) ∙ ap (λ b. list_any p ys || b) (or_false (p y))

-- one pair more
pub row_more : (test : Value → Value → Bool) (sum row more : Function) (x y : Case) (ys : List Case) (j : ℕ) → row ≡ (λ s. sum s || row_with test x (take j ys) s) → more ≡ (λ s. row s || test x.value y.value && (x.holds s && y.holds s)) → take (j + 1) ys ≡ take j ys ++ y ∷ [] → more ≡ (λ s. sum s || row_with test x (take (j + 1) ys) s)
row_more test sum row more x y ys j so_far is longer =
    is ∙ (ap (λ (g : Function). (λ (s : Bits). g s || test x.value y.value && (x.holds s && y.holds s))) so_far
    ∙ ((λ i s. or_assoc (sum s) (row_with test x (take j ys) s) (test x.value y.value && (x.holds s && y.holds s)) i)
    ∙ (sym (λ i s. sum s || row_with-push test x y (take j ys) s i) ∙ ap (λ (zs : List Case). (λ (s : Bits). sum s || row_with test x zs s)) (sym longer))))

some_pair-push : (test : Value → Value → Bool) (xs : List Case) (x : Case) (ys : List Case) (s : Bits) → some_pair test (xs ++ x ∷ []) ys s ≡ (some_pair test xs ys s || row_with test x ys s)
some_pair-push test xs x ys s =
    let p : Case → Bool = λ z. list_any (λ y. test z.value y.value && (z.holds s && y.holds s)) ys in
    list_any-append p xs (x ∷ []) ∙ ap (λ b. list_any p xs || b) (or_false (p x))

-- one row more
pub pairs_more : (test : Value → Value → Bool) (sum more : Function) (xs : List Case) (x : Case) (ys : List Case) (i : ℕ) → sum ≡ some_pair test (take i xs) ys → more ≡ (λ s. sum s || row_with test x ys s) → take (i + 1) xs ≡ take i xs ++ x ∷ [] → more ≡ some_pair test (take (i + 1) xs) ys
pairs_more test sum more xs x ys i so_far is longer =
    is ∙ (ap (λ (g : Function). (λ (s : Bits). g s || row_with test x ys s)) so_far
    ∙ (sym (λ j s. some_pair-push test (take i xs) x ys s j) ∙ ap (λ (zs : List Case). some_pair test zs ys) (sym longer)))

-- the rows so far
pub pairs_begun : (test : Value → Value → Bool) (f : Function) (xs ys : List Case) (i : ℕ) → f ≡ some_pair test (take i xs) ys → IsOfPairs test xs ys f
pairs_begun test f xs ys i is = (i, inr (0, row_begun test (some_pair test (take i xs) ys) f (case_in xs i) ys is))

pub pairs_whole : (test : Value → Value → Bool) (xs ys : List Case) → IsOfPairs test xs ys (some_pair test xs ys)
pairs_whole test xs ys = pairs_begun test (some_pair test xs ys) xs ys (length xs) (ap (λ (zs : List Case). some_pair test zs ys) (sym (take_all xs (length xs) (omega arith))))

-- a row, as it stands now
pub pairs_row : (test : Value → Value → Bool) (sum : Function) (x : Case) (xs ys zs : List Case) (i : ℕ) (f : Function) → sum ≡ some_pair test (take i xs) ys → x ≡ case_in xs i → zs ≡ ys → IsOfRow test sum x zs f → IsOfPairs test xs ys f
pairs_row test sum x xs ys zs i f so_far here same is =
    let one = subst (λ (g : Function). IsOfRow test g x zs f) so_far is in
    let two = subst (λ (z : Case). IsOfRow test (some_pair test (take i xs) ys) z zs f) here one in
    (i, subst (λ (ws : List Case). IsOfRow test (some_pair test (take i xs) ys) (case_in xs i) ws f) same two)

-- ---- letters

-- what is left of a number after so many halves
abbrev pub halved : ℕ → ℕ → ℕ
halved zero n = n
halved (suc k) n = halved k (n / 2)

halved-suc : (k n : ℕ) → halved (suc k) n ≡ halved k n / 2
halved-suc zero n = refl
halved-suc (suc k) n = halved-suc k (n / 2)

pub halved_more : (k n left : ℕ) → left ≡ halved k n → left / 2 ≡ halved (k + 1) n
halved_more k n left is = let next : k + 1 ≡ suc k = omega arith in rw next (ap (λ m. m / 2) is ∙ sym (halved-suc k n))

and_assoc : (a b c : Bool) → ((a && b) && c) ≡ (a && (b && c))
and_assoc true b c = refl
and_assoc false b c = refl

and_true : (a : Bool) → (a && true) ≡ a
and_true true = refl
and_true false = refl

begins-push : (k : ℕ) (fs : List Function) (n : ℕ) (f : Function) → k < length fs → f ≡ get_or fs k f → begins_letter (suc k) fs n ≡ (λ s. begins_letter k fs n s && beq (f s) (halved k n % 2 == 1))
begins-push k [] n f less is = absurd (omega arith)
begins-push zero (g ∷ fs) n f less is =
    (λ i s. and_true (beq (g s) (n % 2 == 1)) i) ∙ ap (λ (h : Function). (λ (s : Bits). beq (h s) (n % 2 == 1))) (sym is)
begins-push (suc k) (g ∷ fs) n f less is =
    ap (λ (h : Function). (λ (s : Bits). beq (g s) (n % 2 == 1) && h s)) (begins-push k fs (n / 2) f (omega arith) is)
    ∙ sym (λ i s. and_assoc (beq (g s) (n % 2 == 1)) (begins_letter k fs (n / 2) s) (beq (f s) (halved k (n / 2) % 2 == 1)) i)

-- one atom more
pub letter_more : (fs : List Function) (k n left : ℕ) (product more f : Function) → k < length fs → f ≡ get_or fs k f → left ≡ halved k n → product ≡ begins_letter k fs n → more ≡ (λ s. product s && beq (f s) (left % 2 == 1)) → more ≡ begins_letter (k + 1) fs n
letter_more fs k n left product more f less is here so_far more_is =
    let next : suc k ≡ k + 1 = omega arith in
    more_is
    ∙ (ap (λ (g : Function). (λ (s : Bits). g s && beq (f s) (left % 2 == 1))) so_far
    ∙ (ap (λ (m : ℕ). (λ (s : Bits). begins_letter k fs n s && beq (f s) (m % 2 == 1))) here
    ∙ (sym (begins-push k fs n f less is) ∙ ap (λ (m : ℕ). begins_letter m fs n) next)))

pub letter_other : (fs : List Function) (k n : ℕ) (g h f : Function) → k < length fs → h ≡ get_or fs k h → g ≡ h → f ≡ is_not g → IsOfLetter fs n f
letter_other fs k n g h f less is same other = inr (k, other ∙ ap is_not (same ∙ (is ∙ got fs k h never less)))

-- ---- values

pub each_named : (vs : List Value) (had : Value → Function) (IsOn : Value → Function → Type 0) (ws : List Value) → ((v : Value) → Contains ws v → Contains vs v) → AllByRecursion (λ (x : Case). IsOfEach vs had IsOn x.holds) (map (λ v. record { value = v; holds = had v }) ws)
each_named vs had IsOn [] within = tt
each_named vs had IsOn (w ∷ ws) within = ((w, within w (0, omega arith, refl), inl refl), each_named vs had IsOn ws (λ v is. within v (suc is.0, (let less = is.1 in omega (arith, less)), is.2)))

pub all_named : (vs : List Value) (had : Value → Function) (IsOn : Value → Function → Type 0) → AllByRecursion (λ (x : Case). IsOfEach vs had IsOn x.holds) (map (λ v. record { value = v; holds = had v }) vs)
all_named vs had IsOn = each_named vs had IsOn vs (λ v is. is)

pub first_named : (vs : List Value) (had : Value → Function) (IsOn : Value → Function → Type 0) (i : ℕ) → AllByRecursion (λ (x : Case). IsOfEach vs had IsOn x.holds) (map (λ v. record { value = v; holds = had v }) (take i vs))
first_named vs had IsOn i = each_named vs had IsOn (take i vs) (λ v is. subst (λ (ws : List Value). Contains ws v) (take-append-drop i vs) (Contains-append_left (take i vs) (drop i vs) v is))

pub truth_named : (g f : Function) (v : Value) → f ≡ truth_had g v → IsTruth g f
truth_named g f v is = at (truth_of v) is
  where
    at : (b : Bool) → f ≡ cond b g (is_not g) → IsTruth g f
    at true is = inl is
    at false is = inr is

pub truths_named : (g : Function) (N : Function → Type 0) → ((f : Function) → IsTruth g f → N f) → AllByRecursion (λ (x : Case). N x.holds) (both_truths g)
truths_named g N named = (named (is_not g) (inr refl), (named g (inl refl), tt))
