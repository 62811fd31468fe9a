-- Functions of levels as functions of bits: how renaming goes through the operations.
use Rattle.std.proofs.Common.{◌≡◌, ◌≢◌, ◌==◌, ◌<◌, ◌⊎◌, inl, inr, ℕ, Bool, true, false, List, [], ◌∷◌, map, length, if◌then◌else◌, slice_index_or, refl, sym, ◌∙◌, ap, subst, arith}
use Rattle.std.proofs.lemmas.Bool.Decides.{eqb_tells}
use Rattle.spec_model.specs.Diagrams.{Bits, Function, with_bit, ite, shifted, exists_over}
use Rattle.spec_model.specs.DiagramReads.{forall_over}
use Rattle.bdd_ops.specs.Functions.{Join, joined, joined_at, joined_over, join_of}
use Rattle.bdd_ops.specs.Reading.{Ignores, DependsOn}
use Rattle.bdd_ops.proofs.FunctionLemmas.{exists_over-joined, forall_over-joined}
use Rattle.bdd_bits.specs.Orders.{BitOrder, IsOrder, at, level_of, bit_of, levels_of}
use Rattle.bdd_bits.proofs.OrderLemmas.{bit_back, level_back}

-- the function of bits that a function of levels stands for
abbrev pub over_bits : BitOrder → Function → Function
over_bits o f = shifted o.names f

-- the bits as they stand at the levels
abbrev pub by_level : BitOrder → Bits → Bits
by_level o s level = s (bit_of o level)

-- the bits whose levels these are
abbrev pub by_bit : BitOrder → Bits → Bits
by_bit o t bit = t (level_of o bit)

module _ (levels : ℕ) (o : BitOrder) (is : IsOrder levels o) where
  same_test : (bit level : ℕ) → ((bit_of o level == bit) ≡ true × (bit_of o level ≡ bit)) ⊎ ((bit_of o level == bit) ≡ false × (bit_of o level ≢ bit)) →
      ((level == level_of o bit) ≡ true × (level ≡ level_of o bit)) ⊎ ((level == level_of o bit) ≡ false × (level ≢ level_of o bit)) → (bit_of o level == bit) ≡ (level == level_of o bit)
  same_test bit level (inl here) (inl there) = here.0 ∙ sym there.0
  same_test bit level (inl here) (inr other) = absurd (other.1 (sym (level_back levels o is level) ∙ ap (level_of o) here.1))
  same_test bit level (inr other) (inl there) = absurd (other.1 (ap (bit_of o) there.1 ∙ bit_back levels o is bit))
  same_test bit level (inr other) (inr none) = other.0 ∙ sym none.0

  -- to set a bit is to set its level
  pub with_bit_by_level : (s : Bits) (bit : ℕ) (b : Bool) → by_level o (with_bit s bit b) ≡ with_bit (by_level o s) (level_of o bit) b
  with_bit_by_level s bit b = λ i level. if same_test bit level (eqb_tells (bit_of o level) bit) (eqb_tells level (level_of o bit)) i then b else s (bit_of o level)

  pub by_level_by_bit : (t : Bits) → by_level o (by_bit o t) ≡ t
  by_level_by_bit t = λ i level. ap t (level_back levels o is level) i

  -- one function of bits stands for one of levels
  pub over_bits_one : (f g : Function) → over_bits o f ≡ over_bits o g → f ≡ g
  over_bits_one f g same = λ i t. (ap f (sym (by_level_by_bit t)) ∙ (ap (λ (h : Function). h (by_bit o t)) same ∙ ap g (by_level_by_bit t))) i

  -- a bit's level is that bit
  pub bit_over_bits : (bit : ℕ) → over_bits o (λ s. s (level_of o bit)) ≡ (λ s. s bit)
  bit_over_bits bit = λ i s. ap s (bit_back levels o is bit) i

  joined_at_over_bits : (join : Join) (bit : ℕ) (f : Function) → over_bits o (joined_at join (level_of o bit) f) ≡ joined_at join bit (over_bits o f)
  joined_at_over_bits join bit f = λ i s. join (f (sym (with_bit_by_level s bit false) i)) (f (sym (with_bit_by_level s bit true) i))

  pub joined_over_over_bits : (join : Join) (bits : List ℕ) (f : Function) → over_bits o (joined_over join (levels_of o bits) f) ≡ joined_over join bits (over_bits o f)
  joined_over_over_bits join [] f = refl
  joined_over_over_bits join (bit ∷ bits) f =
      joined_at_over_bits join bit (joined_over join (levels_of o bits) f) ∙ ap (joined_at join bit) (joined_over_over_bits join bits f)

  pub exists_over_bits : (bits : List ℕ) (f : Function) → over_bits o (exists_over (levels_of o bits) f) ≡ exists_over bits (over_bits o f)
  exists_over_bits bits f =
      ap (over_bits o) (exists_over-joined (levels_of o bits) f) ∙ (joined_over_over_bits (join_of false) bits f ∙ sym (exists_over-joined bits (over_bits o f)))

  pub forall_over_bits : (bits : List ℕ) (f : Function) → over_bits o (forall_over (levels_of o bits) f) ≡ forall_over bits (over_bits o f)
  forall_over_bits bits f =
      ap (over_bits o) (forall_over-joined (levels_of o bits) f) ∙ (joined_over_over_bits (join_of true) bits f ∙ sym (forall_over-joined bits (over_bits o f)))

  -- a level is ignored where its bit is
  pub ignores_level : (bit : ℕ) (f : Function) → Ignores bit (over_bits o f) → Ignores (level_of o bit) f
  ignores_level bit f ignores t b =
      ap (λ (u : Bits). f (with_bit u (level_of o bit) b)) (sym (by_level_by_bit t)) ∙ (ap f (sym (with_bit_by_level (by_bit o t) bit b)) ∙ (ignores (by_bit o t) b ∙ ap f (by_level_by_bit t)))

  pub depends_on_bit : (level : ℕ) (f : Function) → DependsOn level f → DependsOn (bit_of o level) (over_bits o f)
  depends_on_bit level f depends ignores = depends (subst (λ (l : ℕ). Ignores l f) (level_back levels o is level) (ignores_level (bit_of o level) f ignores))
