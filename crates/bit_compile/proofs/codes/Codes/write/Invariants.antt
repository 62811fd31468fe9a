use Rattle.std.proofs.Common.{◌≡◌, ℕ, ◌<◌, length, true, false, get_or}
use Rattle.spec_model.specs.DiagramReads.{bits_of}
use Rattle.bit_compile.specs.Domains.{level_count}
use Rattle.bit_compile.specs.Codes.{has_number, level_at, width_at, code_at}
use Rattle.bit_compile.specs.Laid.{IsOutside}
use Rattle.bit_compile.proofs.codes.Codes.write.Given as goal

abbrev pub invariant-loop-k : goal.invariant-loop-k
invariant-loop-k l = record {
  room : length l.bits ≡ level_count l.self;
  written : (j : ℕ) → j < l.k → has_number (level_at l.self l.at j) (width_at l.self j) (code_at l.self l.state j) (bits_of l.bits) ≡ true;
  others : (m : ℕ) → ((j : ℕ) → j < length l.self → IsOutside l.self l.at j m) → get_or l.bits m false ≡ get_or l.initial.bits m false;
}
