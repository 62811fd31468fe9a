-- What the variants of a regular expression stand for.
use Rattle.std.proofs.Common.{◌≡◌, ◌<◌, ℕ, Option, Box, Vec, Global, map, rules, arith}
use Rattle.spec_model.specs.declared.expr.Expr.{Expr}
use Rattle.spec_model.specs.declared.expr.Regex as regex
use Rattle.spec_model.specs.declared.expr.Regex.{Regex, size-Regex, the_lemmas as regex_lemmas}
use Rattle.spec_model.specs.Syntax.{Atom, Sequence, Choice, Repetition, regulars}
use Rattle.spec_model.specs.Views.{formula, regular}

pub data_atom : (e : Expr) → regular (regex.Atom e) ≡ Atom (formula e)
data_atom e = search (rules, regex_lemmas)

pub data_cat : (rs : Vec Regex Global) → regular (regex.Cat rs) ≡ Sequence (regulars (map regular rs.items))
data_cat rs = search (rules, regex_lemmas)

pub data_alt : (rs : Vec Regex Global) → regular (regex.Alt rs) ≡ Choice (regulars (map regular rs.items))
data_alt rs = search (rules, regex_lemmas)

pub data_repeat : (a : Box Regex Global) (low : ℕ) (high : Option ℕ) → regular (regex.Repeat a low high) ≡ Repetition (regular a.value) low high
data_repeat a low high = search (rules, regex_lemmas)

pub piece_smaller : (a : Box Regex Global) (low : ℕ) (high : Option ℕ) → size-Regex a.value < size-Regex (regex.Repeat a low high)
piece_smaller a low high = search (rules, arith, regex_lemmas)
