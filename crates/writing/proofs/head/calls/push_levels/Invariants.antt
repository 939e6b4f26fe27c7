use Rattle.std.proofs.Common.{◌≡◌, ℕ, ◌+◌, ◌++◌, length}
use Rattle.diagrams.specs.Sheets.{by_level}
use Rattle.writing.specs.Heads.{head_bytes}
use Rattle.writing.proofs.head.calls.push_levels.Given as goal

abbrev pub invariant-loop-level : goal.invariant-loop-level
invariant-loop-level g l =
    ((f : ℕ → ℕ) → ((level x : ℕ) → goal.F-post g l.byte level x → x ≡ f level) → head_bytes l.head ≡ head_bytes l.initial.head ++ by_level l.level 0 f)
    × (length (head_bytes l.head) ≡ length (head_bytes l.initial.head) + l.level)
