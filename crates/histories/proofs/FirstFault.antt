-- A call has one first fault. Assumes nothing.
use Rattle.std.proofs.Common.{◌≡◌, ℕ, List, [], ◌∷◌, sym, ◌∙◌, subst, inl, inr}
use Rattle.diagrams.specs.Kinds.{Kind}
use Rattle.diagrams.specs.Layouts.{Layout}
use Rattle.diagrams.specs.Diagrams.{Lawful, Diagram}
use Rattle.diagrams.specs.Reading.{fault, Faulty}
use Rattle.histories.specs.Builds.{constant, mark, combine, restrict}
use Rattle.histories.specs.Tables.{Model, capacity}
use Rattle.histories.specs.Requests.{size, write, grade, Call, build, read, hold, let_go, sweep, look, release, reopen, Asked}
use Rattle.histories.specs.Steps.{due, First, Sheet, Fills, faults}
use Rattle.histories.proofs.Sound.{Sound}
use Rattle.histories.proofs.SheetsAccepted.{fault_told, one_sheet}
use Rattle.histories.proofs.FirstFull.{first_full}

-- A fault that has one number and one byte place, wherever it is there.
abbrev One : (ℕ → ℕ → Type 0) → Type 0
One Q = (f p g q : ℕ) → Q f p → Q g q → (f ≡ g) × (p ≡ q)

abbrev AllOne : List (ℕ → ℕ → Type 0) → Type 0
AllOne [] = Unit {0}
AllOne (Q ∷ Qs) = One Q × AllOne Qs

first_one : (Qs : List (ℕ → ℕ → Type 0)) → AllOne Qs → (f p g q : ℕ) → First Qs f p → First Qs g q → (f ≡ g) × (p ≡ q)
first_one [] one f p g q no-first _ = absurd no-first
first_one (Q ∷ Qs) one f p g q (inl s) (inl t) = one.0 f p g q s t
first_one (Q ∷ Qs) one f p g q (inl s) (inr t) = absurd (t.0 f p s)
first_one (Q ∷ Qs) one f p g q (inr s) (inl t) = absurd (s.0 g q t)
first_one (Q ∷ Qs) one f p g q (inr s) (inr t) = first_one Qs one.1 f p g q s.1 t.1

due_one : {number : ℕ} {P : Type 0} → One (due number P)
due_one f p g q s t = (s.0 ∙ sym t.0, s.1 ∙ sym t.1)

fault_same : {f p g q : ℕ} → fault f p ≡ fault g q → (f ≡ g) × (p ≡ q)
fault_same e = (cc, cc)

module _ (K : Kind) (L : Layout) (ok : Lawful K L) (m : Model) (sound : Sound K L m) (q : Asked) where
  faulty_one : (s : List ℕ) → One (Faulty K L (capacity m) s)
  faulty_one s f p g r u v = fault_same (sym (fault_told K L ok m sound s f p u) ∙ fault_told K L ok m sound s g r v)

  full_one : (s : List ℕ) → One (λ f p. (f ≡ 25) × ((d : Diagram) × Sheet K L m s d × Fills K L m d p))
  full_one s f p g r u v =
      let same = one_sheet K L ok m sound s u.1.0 v.1.0 u.1.1 v.1.1 in
      (u.0 ∙ sym v.0, first_full K L m v.1.0 p r (subst (λ d. Fills K L m d p) same u.1.2) v.1.2)

  all_one : (c : Call) → AllOne (faults K L m q c)
  all_one (build (constant v)) = (due_one, (due_one, tt))
  all_one (build (mark i)) = (due_one, (due_one, tt))
  all_one (build (combine o x y)) = (due_one, (due_one, (due_one, tt)))
  all_one (build (restrict x i v)) = (due_one, (due_one, (due_one, (due_one, tt))))
  all_one (read s) = (due_one, (faulty_one s, (full_one s, tt)))
  all_one (hold h) = (due_one, (due_one, tt))
  all_one (let_go h) = (due_one, (due_one, tt))
  all_one sweep = (due_one, tt)
  all_one (look (size h)) = (due_one, (due_one, tt))
  all_one (look (write h)) = (due_one, (due_one, (due_one, tt)))
  all_one (look (grade h fruit)) = (due_one, (due_one, tt))
  all_one release = tt
  all_one reopen = tt

  pub one_first : (f p g r : ℕ) → First (faults K L m q q.call) f p → First (faults K L m q q.call) g r → (f ≡ g) × (p ≡ r)
  one_first f p g r s t = first_one (faults K L m q q.call) (all_one q.call) f p g r s t
