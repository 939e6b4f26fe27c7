-- A word has no mark past 31. Assumes nothing.
use Rattle.std.proofs.Common.{ℕ, ◌%◌, ◌^◌, ◌<◌, eqb, sym, ap, ◌∙◌, arith, pow_mono}
use native.Mathlib.Nat.{div-eq_of_lt}
use Rattle.std.proofs.lemmas.Bool.{le-ltb}
use Rattle.layouts.proofs.fruit.has_mark.Goals as goal

pub returns-else-mark-lt32 : goal.returns-else-mark-lt32
returns-else-mark-lt32 c =
    let below : c.args.fruit < 2 ^ c.args.mark = omega (arith, pow_mono {i = 32} c.if-mark-lt32.false) in
    le-ltb c.args.mark 32 c.if-mark-lt32.false ∙ sym (ap (λ (q : ℕ). eqb (q % 2) 1) (div-eq_of_lt below))
