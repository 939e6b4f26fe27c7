-- Capacities as the code has them. Assumes nothing.
use Rattle.std.specs.Prelude.{ℕ, cond, ◌&&◌, Ok, Err, Result, nat_le}
use Rattle.refusals.specs.declared.refusal.Refusal.{Refusal}
use Rattle.layouts.specs.declared.capacity.Capacity.{Capacity}

-- The places of the capacity that is given, or the refusal.
abbrev pub counted : Result Capacity Refusal → Result ℕ Refusal
counted (Ok c) = Ok c.places
counted (Err e) = Err e

-- A number of places, refused unless it lies in 2 to 4,096.
abbrev pub checked : ℕ → Result ℕ Refusal
checked n = cond (nat_le 2 n && nat_le n 4096) (Ok n) (Err Refusal.Capacity)
