use Rattle.std.proofs.Common.{◌≡◌, ℕ, ◌+◌, ◌/◌, ◌%◌, ◌<◌, ◌≤◌, ◌^◌, ◌++◌, ◌∷◌, [], List, length, ap, sym, ◌∙◌, arith, length-take, length-set}
use Rattle.std.proofs.lemmas.List.{take_more_set, length_push}
use Rattle.std.proofs.lemmas.Fmt.{decimal_digit, decimal_step, decimal_nonempty}
use Rattle.std.specs.Fmt.{decimal}
use Rattle.session_lines.proofs.number.+put_digits.Goals as goal

-- the last digit stands behind the others
longer : (n : ℕ) → 10 ≤ n → n < 2 ^ 64 → length (decimal n) ≡ length (decimal (n / 10)) + 1
longer n many fits = ap length (decimal_step n many fits) ∙ length_push (decimal (n / 10)) (48 + n % 10)

pub bounds-buffer-0 : goal.bounds-buffer-0
bounds-buffer-0 t c = omega (arith, c.requires, decimal_nonempty c.args.n c.ranges.n.fits)

pub returns-then-n-lt10-clause-within : goal.returns-then-n-lt10-clause-within
returns-then-n-lt10-clause-within t c = omega (arith, length-set c.args.buffer.now 0 (48 + c.args.n), c.requires, decimal_nonempty c.args.n c.ranges.n.fits)

pub returns-then-n-lt10-clause-text : goal.returns-then-n-lt10-clause-text
returns-then-n-lt10-clause-text t c =
    let some : 0 < length c.args.buffer.now = omega (arith, c.requires, decimal_nonempty c.args.n c.ranges.n.fits) in
    take_more_set c.args.buffer.now 0 (48 + c.args.n) some ∙ sym (decimal_digit c.args.n c.if-n-lt10.true)

pub put_digits-count-requires : goal.put_digits-count-requires
put_digits-count-requires t c =
    (omega arith, omega (arith, c.requires, longer c.args.n c.if-n-lt10.false c.ranges.n.fits))

pub bounds-buffer-count : goal.bounds-buffer-count
bounds-buffer-count t c =
    omega (arith, c.requires, longer c.args.n c.if-n-lt10.false c.ranges.n.fits, c.put_digits-count.auto.buffer, c.put_digits-count.ensures.within, ap length c.put_digits-count.ensures.text, length-take c.put_digits-count.result c.put_digits-count.new.buffer)

pub returns-clause-within : goal.returns-clause-within
returns-clause-within t c =
    omega (arith, length-set c.put_digits-count.new.buffer c.put_digits-count.result (48 + c.args.n % 10), c.requires, longer c.args.n c.if-n-lt10.false c.ranges.n.fits, c.put_digits-count.auto.buffer, c.put_digits-count.ensures.within, ap length c.put_digits-count.ensures.text, length-take c.put_digits-count.result c.put_digits-count.new.buffer)

pub returns-clause-text : goal.returns-clause-text
returns-clause-text t c =
    let count = c.put_digits-count.result in
    let new = c.put_digits-count.new.buffer in
    let here : count < length new =
    omega (arith, c.requires, longer c.args.n c.if-n-lt10.false c.ranges.n.fits, c.put_digits-count.auto.buffer, c.put_digits-count.ensures.within, ap length c.put_digits-count.ensures.text, length-take count new) in
    take_more_set new count (48 + c.args.n % 10) here
    ∙ ap (λ (l : List ℕ). l ++ (48 + c.args.n % 10) ∷ []) c.put_digits-count.ensures.text
    ∙ sym (decimal_step c.args.n c.if-n-lt10.false c.ranges.n.fits)
