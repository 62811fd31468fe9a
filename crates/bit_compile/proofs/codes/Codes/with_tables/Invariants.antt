use Rattle.std.proofs.Common.{◌≡◌, ◌++◌, drop, map, true, nat_lt}
use Rattle.std.specs.List.{list_all}
use Rattle.spec_model.specs.GameViews.{hidden_data}
use Rattle.bit_compile.specs.Domains.{table_domain}
use Rattle.bit_compile.proofs.codes.Codes.with_tables.Given as goal

abbrev pub invariant-loop-h : goal.invariant-loop-h
invariant-loop-h l = record {
  filled : list_all (λ h. nat_lt 0 h.values) (map hidden_data (drop l.h-index l.hidden)) ≡ true;
  same : l.codes ++ map table_domain (map hidden_data (drop l.h-index l.hidden)) ≡ l.initial.codes ++ map table_domain (map hidden_data l.hidden);
}
