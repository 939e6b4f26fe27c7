-- Marks on the levels of their own numbers are made so, and past the array they are read so. Assumes nothing.
use Rattle.std.proofs.Common.{arith, rules}
use Rattle.layouts.proofs.Laying.{read_anywhere}
use Rattle.layouts.proofs.layout.calls.plain_places.Goals as goal

pub returns : goal.returns
returns c =
    let made = c.from_fn.ensures.items in
    read_anywhere (λ i. i) c.from_fn.result (λ l h. let called = (made.at l l (omega (arith, made.long))).2 in search rules)
