use Rattle.std.proofs.Common.{◌≡◌, ◌++◌, map, drop, is_some, unwrap_or}
use Rattle.std.specs.List.{list_all}
use Rattle.pattern_rows.proofs.found.add_found.Given as goal

-- what is left decides
abbrev pub invariant-loop-f : goal.invariant-loop-f
invariant-loop-f l =
    record {
      added : l.next.items ++ map (λ f. unwrap_or f 0) (drop l.f-index l.found) ≡ l.fn.next.items ++ map (λ f. unwrap_or f 0) l.found;
      told : list_all is_some (drop l.f-index l.found) ≡ list_all is_some l.found;
    }
