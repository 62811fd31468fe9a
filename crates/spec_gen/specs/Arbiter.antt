-- The text of an arbiter of some clients, which are numbered from 0. Each line ends in a line feed.
use Rattle.std.specs.Prelude.{◌+◌, ◌-◌, ℕ, List, ◌++◌, codes}
use Rattle.std.specs.List.{flat_map, range_with_len}
use Rattle.std.specs.Fmt.{decimal}

-- all clients
abbrev pub clients : ℕ → List ℕ
clients n = range_with_len 0 n

-- the clients after one
abbrev pub clients_after : ℕ → ℕ → List ℕ
clients_after i n = range_with_len (i + 1) (n - (i + 1))

-- a client may ask
abbrev pub request_line : ℕ → List ℕ
request_line i = codes "env boolean r" ++ (decimal i ++ codes ";\n")

-- a client may be given the resource
abbrev pub grant_line : ℕ → List ℕ
grant_line i = codes "sys boolean g" ++ (decimal i ++ codes ";\n")

-- two clients never have it together
abbrev pub exclusion_line : ℕ → ℕ → List ℕ
exclusion_line i k = codes "gar alw !(g" ++ (decimal i ++ (codes " & g" ++ (decimal k ++ codes ");\n")))

-- again and again a client has it if it asks
abbrev pub answer_line : ℕ → List ℕ
answer_line i = codes "gar alwEv r" ++ (decimal i ++ (codes " -> g" ++ (decimal i ++ codes ";\n")))

-- the requests, the grants, each two grants once, and the goals
abbrev pub arbiter_text : ℕ → List ℕ
arbiter_text n = codes "spec Arbiter\n" ++ (flat_map request_line (clients n) ++ (flat_map grant_line (clients n)
    ++ (flat_map (λ i. flat_map (exclusion_line i) (clients_after i n)) (clients n) ++ flat_map answer_line (clients n))))
