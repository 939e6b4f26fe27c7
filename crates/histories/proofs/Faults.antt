-- What it means that a fault is not there, and that it is the first. Assumes nothing.
use Rattle.std.proofs.Common.{ℕ, ◌<◌, ◌≤◌, Bool, true, false, T, List, [], ◌∷◌, refl, inl, inr, arith}
use native.Mathlib.Decide.{dec_lt}
use Rattle.std.specs.List.{AllByRecursion}
use Rattle.diagrams.specs.Kinds.{Kind}
use Rattle.diagrams.specs.Layouts.{Layout}
use Rattle.histories.specs.Builds.{Build, constant, mark, combine, restrict}
use Rattle.histories.specs.Tables.{Model, Live}
use Rattle.histories.specs.Requests.{size, write, grade, Call, build, read, hold, let_go, sweep, look, release, reopen, Asked}
use Rattle.histories.specs.Steps.{due, Faultless, First, faults}

-- A fault that is due where P holds is not there just where P does not hold; where P holds it is there.
module _ {number : ℕ} {P : Type 0} where
  pub not_due : ((f p : ℕ) → ¬ due number P f p) → ¬ P
  not_due fl h = fl number 0 (refl, refl, h)

  pub passes : ¬ P → (f p : ℕ) → ¬ due number P f p
  passes n f p q = n q.2

  pub is_due : P → due number P number 0
  is_due h = (refl, refl, h)

-- Where there is none, none is the first.
pub none_first : (Qs : List (ℕ → ℕ → Type 0)) (f p : ℕ) → Faultless Qs → ¬ First Qs f p
none_first [] f p fl none = none
none_first (Q ∷ Qs) f p fl (inl q) = fl.0 f p q
none_first (Q ∷ Qs) f p fl (inr q) = none_first Qs f p fl.1 q.1

stable : (b : Bool) → ¬ (¬ T b) → T b
stable true n = tt
stable false n = n (λ t. t)

below : (a b : ℕ) → ¬ (b ≤ a) → a < b
below a b n = elim (dec_lt a b) [ yes l ↦ l | no u ↦ absurd (n (omega arith)) ]

-- The handles that a call names.
abbrev pub handles_of : Call → List ℕ
handles_of (build (constant v)) = []
handles_of (build (mark i)) = []
handles_of (build (combine o x y)) = x ∷ y ∷ []
handles_of (build (restrict x i v)) = x ∷ []
handles_of (read s) = []
handles_of (hold h) = h ∷ []
handles_of (let_go h) = h ∷ []
handles_of sweep = []
handles_of (look (size h)) = h ∷ []
handles_of (look (write h)) = h ∷ []
handles_of (look (grade h fruit)) = h ∷ []
handles_of release = []
handles_of reopen = []

-- The word, the mark and the constant of a building call are in range.
abbrev pub InRange : Kind → Layout → Build → Type 0
InRange K L (constant v) = T (K.value v)
InRange K L (mark i) = i < L.size
InRange K L (combine o x y) = Unit {0}
InRange K L (restrict x i v) = (i < L.size) × (v < 2)

-- What an accepted call tells of what it was given.
module _ (K : Kind) (L : Layout) (m : Model) (q : Asked) where
  pub accepted_value : (v : ℕ) → Faultless (faults K L m q (build (constant v))) → T (K.value v)
  accepted_value v fl = stable (K.value v) (not_due fl.0)

  pub accepted_mark : (i : ℕ) → Faultless (faults K L m q (build (mark i))) → i < L.size
  accepted_mark i fl = below i L.size (not_due fl.0)

  pub restricted_mark : (x i v : ℕ) → Faultless (faults K L m q (build (restrict x i v))) → i < L.size
  restricted_mark x i v fl = below i L.size (not_due fl.0)

  pub restricted_constant : (x i v : ℕ) → Faultless (faults K L m q (build (restrict x i v))) → v < 2
  restricted_constant x i v fl = below v 2 (not_due fl.1.1.0)

  pub accepted_range : (b : Build) → Faultless (faults K L m q (build b)) → InRange K L b
  accepted_range (constant v) fl = accepted_value v fl
  accepted_range (mark i) fl = accepted_mark i fl
  accepted_range (combine o x y) fl = tt
  accepted_range (restrict x i v) fl = (restricted_mark x i v fl, restricted_constant x i v fl)

  -- The handles that it names are live.
  pub accepted_live : (c : Call) → Faultless (faults K L m q c) → AllByRecursion (Live m) (handles_of c)
  accepted_live (build (constant v)) fl = tt
  accepted_live (build (mark i)) fl = tt
  accepted_live (build (combine o x y)) fl = (not_due fl.0, (not_due fl.1.0, tt))
  accepted_live (build (restrict x i v)) fl = (not_due fl.1.0, tt)
  accepted_live (read s) fl = tt
  accepted_live (hold h) fl = (not_due fl.0, tt)
  accepted_live (let_go h) fl = (not_due fl.0, tt)
  accepted_live sweep fl = tt
  accepted_live (look (size h)) fl = (not_due fl.0, tt)
  accepted_live (look (write h)) fl = (not_due fl.0, tt)
  accepted_live (look (grade h fruit)) fl = (not_due fl.0, tt)
  accepted_live release fl = tt
  accepted_live reopen fl = tt
