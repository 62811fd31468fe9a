-- The states of a trigger: which positions of an expression may just have been read (Glushkov 1961; McNaughton and Yamada
-- 1960, positions of regular expressions).
use Rattle.std.specs.Prelude.{ℕ, zero, suc, ◌+◌, ◌-◌, ◌^◌, Bool, true, false, not, ◌&&◌, ◌||◌, ◌==◌, if◌then◌else◌, List, [], ◌∷◌, ◌++◌, Option, Some, None, length, map, flat_map, filter}
use Rattle.std.specs.List.{list_any}
use Rattle.std.specs.Bool.{beq}
use Rattle.std.specs.Cmp.Lexicographic.{pointwise}
use Rattle.spec_model.specs.Syntax.{Formula, Regular, Atom, Sequence, Choice, Repetition, Regulars, TriggerData}
use Rattle.spec_model.specs.Sizes.{atoms_of, distinct, same_formula}

-- ---- expressions with their repeats written out

-- brackets, sequences, alternatives and stars; each bracket is a position
pub data Written : Type 0 where
  Bracket : Formula → Written
  Empty : Written
  Then : Written → Written → Written
  Either : Written → Written → Written
  Star : Written → Written

-- so many copies, one after the other, before the rest
abbrev pub copies : ℕ → Written → Written → Written
copies zero a rest = rest
copies (suc n) a rest = Then a (copies n a rest)

-- a repeat without an upper number ends in a star, one with an upper number in copies that may be left out
abbrev pub repeated : Written → (low : ℕ) → Option ℕ → Written
repeated a low None = copies low a (Star a)
repeated a low (Some high) = copies low a (copies (high - low) (Either a Empty) Empty)

abbrev mutual
  pub written : Regular → Written
  written (Atom e) = Bracket e
  written (Sequence rs) = written_in_turn rs
  written (Choice rs) = written_besides rs
  written (Repetition r low high) = repeated (written r) low high

  pub written_in_turn : Regulars → Written
  written_in_turn Regulars.none = Empty
  written_in_turn (Regulars.one_more r rs) = Then (written r) (written_in_turn rs)

  pub written_besides : Regulars → Written
  written_besides Regulars.none = Empty
  written_besides (Regulars.one_more r Regulars.none) = written r
  written_besides (Regulars.one_more r (Regulars.one_more q rs)) = Either (written r) (written_besides (Regulars.one_more q rs))

-- ---- positions, numbered from the left

-- the formula of each
abbrev pub brackets : Written → List Formula
brackets (Bracket e) = e ∷ []
brackets Empty = []
brackets (Then a b) = brackets a ++ brackets b
brackets (Either a b) = brackets a ++ brackets b
brackets (Star a) = brackets a

-- whether it matches nothing at all
abbrev pub is_skipped : Written → Bool
is_skipped (Bracket e) = false
is_skipped Empty = true
is_skipped (Then a b) = is_skipped a && is_skipped b
is_skipped (Either a b) = is_skipped a || is_skipped b
is_skipped (Star a) = true

-- the positions that may be read first and last, where the first of all has this number
abbrev pub firsts : ℕ → Written → List ℕ
firsts n (Bracket e) = n ∷ []
firsts n Empty = []
firsts n (Then a b) = firsts n a ++ (if is_skipped a then firsts (n + length (brackets a)) b else [])
firsts n (Either a b) = firsts n a ++ firsts (n + length (brackets a)) b
firsts n (Star a) = firsts n a

abbrev pub lasts : ℕ → Written → List ℕ
lasts n (Bracket e) = n ∷ []
lasts n Empty = []
lasts n (Then a b) = (if is_skipped b then lasts n a else []) ++ lasts (n + length (brackets a)) b
lasts n (Either a b) = lasts n a ++ lasts (n + length (brackets a)) b
lasts n (Star a) = lasts n a

abbrev pub has : List ℕ → ℕ → Bool
has ns n = list_any (λ m. m == n) ns

-- the positions that may be read right after this one
abbrev pub followers : ℕ → Written → ℕ → List ℕ
followers n (Bracket e) p = []
followers n Empty p = []
followers n (Then a b) p = followers n a p ++ (followers (n + length (brackets a)) b p ++ (if has (lasts n a) p then firsts (n + length (brackets a)) b else []))
followers n (Either a b) p = followers n a p ++ followers (n + length (brackets a)) b p
followers n (Star a) p = followers n a p ++ (if has (lasts n a) p then firsts n a else [])

-- ---- sets of positions

-- a truth value for each position: whether it may just have been read
abbrev pub Positions : Type 0
Positions = List Bool

-- the positions of a set, where the first of all has this number
abbrev pub members : ℕ → Positions → List ℕ
members n [] = []
members n (b ∷ bs) = if b then n ∷ members (suc n) bs else members (suc n) bs

-- of these positions, those whose formula passes the test
abbrev pub read_of : (Formula → Bool) → List ℕ → ℕ → List Formula → Positions
read_of test ps n [] = []
read_of test ps n (e ∷ es) = (has ps n && test e) ∷ read_of test ps (suc n) es

-- every list of so many truth values
abbrev pub letters : ℕ → List (List Bool)
letters zero = [] ∷ []
letters (suc n) = flat_map (λ bs. (false ∷ bs) ∷ (true ∷ bs) ∷ []) (letters n)

-- what a letter, which tells each of the atoms, says of a formula that is one of them
abbrev pub said_by : List Formula → List Bool → Formula → Bool
said_by (a ∷ more) (b ∷ bs) e = if same_formula a e then b else said_by more bs e
said_by _ _ e = false

-- the sets that are read from these positions, one for each letter
abbrev pub sets_from : List Formula → Written → List ℕ → List Positions
sets_from atoms w ps = map (λ letter. read_of (said_by atoms letter) ps 0 (brackets w)) (letters (length atoms))

-- whether a last position may have been read: then the side has matched, and ends
abbrev pub has_last : Written → Positions → Bool
has_last w set = list_any (has (lasts 0 w)) (members 0 set)

-- the sets that follow one that hasn't ended the side
abbrev pub sets_after : List Formula → Written → Positions → List Positions
sets_after atoms w set = if has_last w set then [] else sets_from atoms w (flat_map (followers 0 w) (members 0 set))

-- the list without a set that equals an earlier one
abbrev pub different : List Positions → List Positions
different [] = []
different (a ∷ more) = a ∷ filter (λ b. not (pointwise beq a b)) (different more)

-- the sets that up to so many further letters reach
abbrev pub reached_sets : List Formula → Written → ℕ → List Positions
reached_sets atoms w zero = different (sets_from atoms w (firsts 0 w))
reached_sets atoms w (suc n) = different (reached_sets atoms w n ++ flat_map (sets_after atoms w) (reached_sets atoms w n))

-- ---- triggers

-- the start of a side, and every set that is reached: no more letters are needed than there are sets
abbrev pub side_states : List Formula → Written → ℕ
side_states atoms w = 1 + length (reached_sets atoms w (2 ^ length (brackets w)))

-- the different brackets of both sides
abbrev pub trigger_atoms : TriggerData → List Formula
trigger_atoms t = distinct (atoms_of t.cause ++ atoms_of t.effect)

abbrev pub trigger_states : TriggerData → ℕ
trigger_states t = side_states (trigger_atoms t) (written t.cause) + side_states (trigger_atoms t) (written t.effect)
