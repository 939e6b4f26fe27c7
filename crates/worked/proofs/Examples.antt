-- The worked examples: on diagrams by computing, on tables by computing which diagrams are in use. Assumes nothing.
use mathlib.Core.Path.{◌≡◌, refl, sym, ◌∙◌, subst}
use mathlib.Core.List.Memᴰ
use mathlib.Core.List.{List, [], ◌∷◌, ◌++◌, Memᴰ}
use mathlib.Core.Logic.{inl, inr}
use Prim.Native.Nat.{ℕ, ◌≤◌}
use native.Mathlib.Omega.{arith}
use native.Mathlib.Decide.{ℕ_discrete}
use lib.ListN.{length}
use Rattle.diagrams.specs.TwoKinds.{yes_no, points}
use Rattle.diagrams.specs.Layouts.{Decomposition, shannon, positive, negative, Valid, begun}
use Rattle.diagrams.specs.Diagrams.{Lawful, Diagram, leaf, node, same}
use Rattle.diagrams.specs.Tasks
use Rattle.diagrams.specs.Tasks.{sum, product, Task, result}
use Rattle.diagrams.specs.Sizes.{different}
use Rattle.diagrams.proofs.Layouts.{begun_valid, retyped_valid}
use Rattle.diagrams.proofs.TwoKinds.{yes_no_laws, points_laws}
use Rattle.diagrams.proofs.Places.{stands_used, one_handle, stands_for_one}
use Rattle.histories.specs.Builds.{Build, constant, mark, combine, restrict}
use Rattle.histories.specs.Tables.{Model, content, Live, StandsFor, Exactly, Made}
use Rattle.histories.specs.Requests.{build}
use Rattle.histories.specs.Steps.{Means}
use Rattle.histories.proofs.Faults.{InRange}
use Rattle.histories.proofs.Keeping.{Moves}
use Rattle.worked.specs.Examples.{natural, line, plain, sweeping, Giving, MarkPlusOne, WorkedExamples}
use Rattle.worked.proofs.Needed.{needed}
use Rattle.worked.proofs.Known.{Known, made_known, builds, denies, holds}
use Rattle.worked.proofs.Sweeping.{StandsIn, in_use, kept, without, sweeps, releases, grades}

valid : (t : Decomposition) → Valid (natural 1 t)
valid t = retyped_valid (begun 1) 0 t (begun_valid 1 (omega arith) (omega arith))

yes_no_lawful : (t : Decomposition) → Lawful yes_no (natural 1 t)
yes_no_lawful t = record { laws = yes_no_laws; valid = valid t }

points_lawful : Lawful points line
points_lawful = record { laws = points_laws; valid = valid positive }

-- A mark, mark plus one, and its square.
abbrev one_mark : Diagram
one_mark = node 0 (leaf 0) (leaf 1)

abbrev more : Diagram
more = node 0 (leaf 1) (leaf 1)

abbrev square : Diagram
square = node 0 (leaf 1) (leaf 3)

-- The calls whose operands are diagrams; the last sum comes round to 0.
abbrev summing : Task
summing = Tasks.combine sum one_mark (leaf 1)

abbrev squaring : Task
squaring = Tasks.combine product more more

abbrev restricting : ℕ → Task
restricting v = Tasks.restrict more 0 v

abbrev wrapping : Task
wrapping = Tasks.combine sum (leaf 4_294_967_295) (leaf 1)

-- What is in use on a made table, and what after further calls.
abbrev first : List Diagram
first = leaf 0 ∷ leaf 1 ∷ []

abbrev and_needed : List Diagram → Task → List Diagram
and_needed ds task = ds ++ needed points line task

abbrev with_mark : List Diagram
with_mark = and_needed first (Tasks.mark 0)

abbrev with_one : List Diagram
with_one = and_needed with_mark (Tasks.constant 1)

abbrev with_sum : List Diagram
with_sum = and_needed with_one summing

abbrev with_square : List Diagram
with_square = and_needed with_sum squaring

abbrev with_top : List Diagram
with_top = and_needed first (Tasks.constant 4_294_967_295)

abbrev with_two : List Diagram
with_two = and_needed with_top (Tasks.constant 1)

-- What is held when the sweep comes.
abbrev both : List Diagram
both = square ∷ more ∷ []

-- The answers, and how many different diagrams there are.
record Facts : Type 0 where
  is_mark : result points line (Tasks.mark 0) ≡ one_mark
  is_one : result points line (Tasks.constant 1) ≡ leaf 1
  is_sum : result points line summing ≡ more
  is_square : result points line squaring ≡ square
  is_top : result points line (Tasks.constant 4_294_967_295) ≡ leaf 4_294_967_295
  is_round : result points line wrapping ≡ leaf 0
  is_high : result points line (restricting 1) ≡ leaf 2
  is_low : result points line (restricting 0) ≡ leaf 1
  many_mark : different with_mark ≡ 3
  many_one : different with_one ≡ 3
  many_sum : different with_sum ≡ 4
  many_square : different with_square ≡ 7
  many_top : different with_top ≡ 3
  many_two : different with_two ≡ 3
  many_round : different (and_needed with_two wrapping) ≡ 3
  many_high : different (and_needed with_sum (restricting 1)) ≡ 5
  many_low : different (and_needed with_sum (restricting 0)) ≡ 4
  many_freed : different (without (kept points both) with_square) ≡ 2
  many_left : different (kept points both) ≡ 5

computed : Facts
unfolding same ℕ_discrete
computed = record {
  is_mark = refl;
  is_one = refl;
  is_sum = refl;
  is_square = refl;
  is_top = refl;
  is_round = refl;
  is_high = refl;
  is_low = refl;
  many_mark = refl;
  many_one = refl;
  many_sum = refl;
  many_square = refl;
  many_top = refl;
  many_two = refl;
  many_round = refl;
  many_high = refl;
  many_low = refl;
  many_freed = refl;
  many_left = refl;
}

many_marked : (t : Decomposition) → different (first ++ needed yes_no (natural 1 t) (Tasks.mark 0)) ≡ 3
unfolding same ℕ_discrete
many_marked shannon = refl
many_marked positive = refl
many_marked negative = refl

open computed use {is_mark, is_one, is_sum, is_square, is_top, is_round, is_high, is_low, many_mark, many_one, many_sum, many_square, many_top, many_two, many_round, many_high, many_low, many_freed, many_left}

-- On a table of points of one mark: a building call that has room gives a handle of its answer d, and P where P holds of every such handle.
building : (c : ℕ) (ds : List Diagram) (m : Model) → Known points line c ds [] m → (b : Build) (task : Task) (d : Diagram) → Means m b task
    → InRange points line b → result points line task ≡ d → different (and_needed ds task) ≤ c → (P : ℕ → Model → Type 0)
    → ((h : ℕ) (n : Model) → StandsFor n d h → Known points line c (and_needed ds task) [] n → Moves m n → P h n)
    → Giving points line m (plain (build b)) P
building c ds m known b task d means range is few P then a n step =
    let r = builds points_lawful c ds [] m known refl b task means range a n step few in
    (r.0, r.1, then r.0 n (subst (λ x. StandsFor n x r.0) is r.2) r.3 r.4)

-- With 4 places there is room for mark plus one.
mark_plus_one : (c : ℕ) → 4 ≤ c → (m : Model) → Made points line c m → (P : ℕ → Model → Type 0)
    → ((a : ℕ) (n : Model) → StandsFor n more a → Known points line c with_sum [] n → P a n) → MarkPlusOne m P
mark_plus_one c enough m made P then =
    building c first m (made_known points_lawful c m made) (mark 0) (Tasks.mark 0) one_mark refl (omega arith) is_mark (omega (arith, many_mark)) _
    (λ x k x-stands k-known _.
    building c with_mark k k-known (constant 1) (Tasks.constant 1) (leaf 1) refl tt is_one (omega (arith, many_one)) _
    (λ y l y-stands l-known move.
    building c with_one l l-known (combine sum x y) summing more (one_mark, leaf 1, move one_mark x x-stands, y-stands, refl) tt is_sum
    (omega (arith, many_sum)) P (λ a n a-stands n-known _. then a n a-stands n-known)))

-- With 7 places there is room for its square.
squared : (a : ℕ) (m : Model) → StandsFor m more a → Known points line 7 with_sum [] m → (P : ℕ → Model → Type 0)
    → ((s : ℕ) (n : Model) → StandsFor n more a → StandsFor n square s → Known points line 7 with_square [] n → P s n)
    → Giving points line m (plain (build (combine product a a))) P
squared a m stands known P then =
    building 7 with_sum m known (combine product a a) squaring square (more, more, stands, stands, refl) tt is_square (omega (arith, many_square)) P
    (λ s n s-stands n-known move. then s n (move more a stands) s-stands n-known)

-- With both held, a sweep frees 2 places and leaves 5.
swept : (s a : ℕ) (m : Model) → StandsFor m square s → StandsFor m more a → Known points line 7 with_square (s ∷ a ∷ []) m
    → (walk : List ℕ) → 7 ≤ length walk → Giving points line m (sweeping walk) (λ freed n. (freed ≡ 2) × Exactly 5 (Live n))
swept s a m p q known walk long b n step =
    let r = sweeps 7 with_square (s ∷ a ∷ []) m known both named all walk long b n step in
    (r.0, r.1, (r.2 ∙ many_freed, subst (λ x. Exactly x (Live n)) many_left r.3))
  where
    named : (h : ℕ) → Memᴰ h (s ∷ a ∷ []) → StandsIn m both h
    named h t =
        elim (Memᴰ.cases_cons t) [
          | inl e ↦ (square, subst (StandsFor m square) (sym e) p, Memᴰ.head refl)
          | inr u ↦ (more, subst (StandsFor m more) (sym (Memᴰ.eq_of_singleton u)) q, Memᴰ.tail (Memᴰ.head refl))
        ]

    all : (d : Diagram) → Memᴰ d both → (h : ℕ) × StandsFor m d h × Memᴰ h (s ∷ a ∷ [])
    all d t =
        elim (Memᴰ.cases_cons t) [
          | inl e ↦ (s, subst (λ x. StandsFor m x s) (sym e) p, Memᴰ.head refl)
          | inr u ↦ (a, subst (λ x. StandsFor m x a) (sym (Memᴰ.eq_of_singleton u)) q, Memᴰ.tail (Memᴰ.head refl))
        ]

-- Mark plus one and its square are two handles.
two_handles : (s a : ℕ) (m : Model) → StandsFor m square s → StandsFor m more a → ¬ (s ≡ a)
two_handles s a m p q e =
    let one : square ≡ more = stands_for_one (content m) square more a (subst (StandsFor m square) e p) q in
    let z : ◌≡◌ {A = ℕ} 3 1 = cc in
    omega arith

pub worked_examples : WorkedExamples
unfolding same ℕ_discrete
worked_examples = record {
  product_sheet = refl;
  sum_sizes = (refl, refl);
  either_sizes = (refl, refl);
  negative_mark = refl;
  square_given = λ m made. mark_plus_one 7 (omega arith) m made _ (λ a k a-stands k-known. squared a k a-stands k-known _
      (λ s l _ s-stands _ b n step.
      let r = releases l b n step in
      let stands = r.1 square s s-stands in
      (r.0, (λ e o graded. grades n e o square s 0 stands (omega arith) graded, λ e o graded. grades n e o square s 1 stands (omega arith) graded))));
  square_refused = λ m made. mark_plus_one 6 (omega arith) m made _ (λ a k stands known b n step.
      let r = denies points_lawful 6 with_sum [] k known refl (combine product a a) squaring (more, more, stands, stands, refl) tt b n step
      (omega (arith, many_square)) in
      (r.0, subst (λ x. Exactly x (Live n)) many_sum (in_use 6 with_sum [] n r.1)));
  square_swept = λ m walk made long. mark_plus_one 7 (omega arith) m made _ (λ a k a-stands k-known. squared a k a-stands k-known _
      (λ s l a_in s-in l-known b i first-hold.
      let u = holds points_lawful 7 with_square [] l l-known a (stands_used (content l) more a a_in) Memᴰ.not-nil b i first-hold in
      let a-on = u.2 more a a_in in
      let s-on = u.2 square s s-in in (
        1,
        u.0,
        λ d j second-hold.
            let v = holds points_lawful 7 with_square (a ∷ []) i u.1 s (stands_used (content i) square s s-on)
            (λ q. two_handles s a i s-on a-on (Memᴰ.eq_of_singleton q)) d j second-hold in
            (1, v.0, swept s a j (v.2 square s s-on) (v.2 more a a-on) v.1 walk long),
      )));
  mark_refused = λ t m made a n step.
      let r = denies (yes_no_lawful t) 2 first [] m (made_known (yes_no_lawful t) 2 m made) refl (mark 0) (Tasks.mark 0) refl (omega arith) a n step
      (omega (arith, many_marked t)) in
      (r.0, in_use 2 first [] n r.1);
  mark_given = λ t m made a n step.
      let r = builds (yes_no_lawful t) 3 first [] m (made_known (yes_no_lawful t) 3 m made) refl (mark 0) (Tasks.mark 0) refl (omega arith) a n step
      (omega (arith, many_marked t)) in
      (r.0, r.1, subst (λ x. Exactly x (Live n)) (many_marked t) (in_use 3 _ [] n r.3));
  sum_wraps = λ c m room made.
      building c first m (made_known points_lawful c m made) (constant 4_294_967_295) (Tasks.constant 4_294_967_295) (leaf 4_294_967_295) refl tt is_top
      (omega (arith, many_top)) _
      (λ x k x-stands k-known _.
      building c with_top k k-known (constant 1) (Tasks.constant 1) (leaf 1) refl tt is_one (omega (arith, many_two)) _
      (λ y l y-stands l-known move.
      building c with_two l l-known (combine sum x y) wrapping (leaf 0)
      (leaf 4_294_967_295, leaf 1, move (leaf 4_294_967_295) x x-stands, y-stands, refl) tt is_round (omega (arith, many_round)) _
      (λ h n stands known _. one_handle (content n) known.sound.unshared (leaf 0) h 0 stands known.sound.zero)));
  restricted = λ m made. mark_plus_one 7 (omega arith) m made _ (λ a k stands known. (
    building 7 with_sum k known (restrict a 0 1) (restricting 1) (leaf 2) (more, stands, refl) (omega arith, omega arith) is_high
        (omega (arith, many_high)) _ (λ h n p _ _. p),
    building 7 with_sum k known (restrict a 0 0) (restricting 0) (leaf 1) (more, stands, refl) (omega arith, omega arith) is_low
        (omega (arith, many_low)) _ (λ h n p after _. one_handle (content n) after.sound.unshared (leaf 1) h 1 p after.sound.one),
  ));
}
