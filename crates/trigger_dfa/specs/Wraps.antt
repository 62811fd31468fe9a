-- Repeats that write what they repeat once.
use Rattle.std.specs.Prelude.{◌≡◌, ℕ, Bool, ◌&&◌, ◌||◌}
use Rattle.spec_model.specs.TriggerStates.{Written, brackets, is_skipped, firsts, lasts, followers, has}

-- the second is the first with such repeats around it: whether one is a star, and whether one lets it be left out
pub record Wraps (starred optional : Bool) (a w : Written) : Type 0 where
  pub same_brackets : brackets w ≡ brackets a
  pub skipped : is_skipped w ≡ (is_skipped a || optional)
  pub same_firsts : (n q : ℕ) → has (firsts n w) q ≡ has (firsts n a) q
  pub same_lasts : (n q : ℕ) → has (lasts n w) q ≡ has (lasts n a) q
  pub followed : (n q p : ℕ) → has (followers n w q) p ≡ (has (followers n a q) p || (starred && (has (lasts n a) q && has (firsts n a) p)))
