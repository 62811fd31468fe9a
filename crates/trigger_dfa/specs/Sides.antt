-- The positions of a side, as the code keeps them.
use Rattle.std.specs.Prelude.{◌≡◌, ℕ, ◌+◌, ◌-◌, ◌*◌, ◌<◌, max, Bool, ◌&&◌, ◌||◌, ◌==◌, List, length, vec_len, slice_index, Option, Some, None}
use Rattle.spec_model.specs.Syntax.{Formula, Regular, Atom, Sequence, Choice, Repetition, Regulars}
use Rattle.spec_model.specs.Sizes.{same_formula}
use Rattle.spec_model.specs.TriggerStates.{Written, Empty, Either, Star, copies, brackets, is_skipped, firsts, lasts, followers, has}
use Rattle.trigger_dfa.specs.declared.side.Side.{Side}
use Rattle.trigger_dfa.specs.declared.side.Part.{Part}
use Rattle.trigger_dfa.specs.Words.{in_word, tells}
use Rattle.trigger_dfa.specs.Standings.{first_place}

-- whether the formula is the atom of this number
abbrev pub is_atom : List Formula → ℕ → Formula → Bool
is_atom atoms k e = first_place (λ a. same_formula a e) atoms == k

-- the part is what the expression tells, where its first position has this number
pub record IsPart (w : Written) (n : ℕ) (p : Part) : Type 0 where
  pub size : p.size ≡ length (brackets w)
  pub skipped : p.skipped ≡ is_skipped w
  pub firsts : (q : ℕ) → in_word p.firsts q ≡ has (firsts n w) q
  pub lasts : (q : ℕ) → in_word p.lasts q ≡ has (lasts n w) q

-- the side has the positions of one expression more
pub record AddsPart (atoms : List Formula) (w : Written) (n : ℕ) (old new : Side) : Type 0 where
  pub follow : (q p : ℕ) → in_word (slice_index new.follow.items q) p ≡ (in_word (slice_index old.follow.items q) p || has (followers n w q) p)
  pub meant : (k p : ℕ) → k < vec_len old.meant →
      in_word (slice_index new.meant.items k) p ≡ (in_word (slice_index old.meant.items k) p || tells (is_atom atoms k) n (brackets w) p)
  pub same_positions : vec_len new.follow ≡ vec_len old.follow
  pub same_atoms : vec_len new.meant ≡ vec_len old.meant

-- both, where the expression's last position is the one before this place
pub record Lays (atoms : List Formula) (w : Written) (end : ℕ) (old new : Side) (p : Part) : Type 0 where
  pub part : IsPart w (end - length (brackets w)) p
  pub side : AddsPart atoms w (end - length (brackets w)) old new

-- so many copies more, before an expression that was laid
abbrev pub LaysCopies : List Formula → (a : Written) → (count : ℕ) → (tail : Part) → (end : ℕ) → (old new : Side) → (p : Part) → Type 0
LaysCopies atoms a count tail end old new p =
    (w : Written) (start : Side) → Lays atoms w end start old tail → Lays atoms (copies count a w) end start new p

-- each position of the one set is followed by each of the other one
pub record Links (from to : ℕ) (old new : Side) : Type 0 where
  pub follow : (q p : ℕ) → in_word (slice_index new.follow.items q) p ≡ (in_word (slice_index old.follow.items q) p || (in_word from q && in_word to p))
  pub meant : new.meant ≡ old.meant
  pub positions : vec_len new.follow ≡ vec_len old.follow

-- the position is one of the atom of this number
pub record Means (atom p : ℕ) (old new : Side) : Type 0 where
  pub follow : new.follow ≡ old.follow
  pub meant : (k q : ℕ) → k < vec_len old.meant → in_word (slice_index new.meant.items k) q ≡ (in_word (slice_index old.meant.items k) q || (atom == k && p == q))
  pub atoms : vec_len new.meant ≡ vec_len old.meant

-- what stands after the copies of a repeat: a starred one, or so many that may be left out
abbrev pub tail_of : Written → (low : ℕ) → Option ℕ → Written
tail_of w low None = Star w
tail_of w low (Some high) = copies (high - low) (Either w Empty) Empty

-- ---- how many positions

-- how often the piece of a repeat is written
abbrev pub copies_in : (low : ℕ) → Option ℕ → ℕ
copies_in low None = low + 1
copies_in low (Some high) = max low high

abbrev mutual
  pub size_in : Regular → ℕ
  size_in (Atom e) = 1
  size_in (Sequence rs) = size_in_each rs
  size_in (Choice rs) = size_in_each rs
  size_in (Repetition a low high) = copies_in low high * size_in a

  pub size_in_each : Regulars → ℕ
  size_in_each Regulars.none = 0
  size_in_each (Regulars.one_more a rs) = size_in a + size_in_each rs

-- ---- how deep an expression is, for the recursions that go down in it

abbrev mutual
  pub size_of : Regular → ℕ
  size_of (Atom e) = 1
  size_of (Sequence rs) = 1 + size_of_all rs
  size_of (Choice rs) = 1 + size_of_all rs
  size_of (Repetition a low high) = 1 + size_of a

  pub size_of_all : Regulars → ℕ
  size_of_all Regulars.none = 0
  size_of_all (Regulars.one_more a rs) = size_of a + size_of_all rs
