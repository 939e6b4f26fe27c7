-- Tables of which it is known which diagrams are in use and which handles are held, and how calls change both. Assumes nothing.
use mathlib.Core.Path.{◌≡◌, refl, sym, ap, ap₂, ◌∙◌, subst}
use mathlib.Core.List.Memᴰ
use mathlib.Core.List.{List, [], ◌∷◌, ◌++◌, Memᴰ}
use mathlib.Core.Logic.{inl, inr, ◌↔◌}
use Prim.Native.Nat.{ℕ, zero, suc, ◌≤◌, ◌<◌}
use native.Mathlib.Omega.{arith}
use native.Mathlib.Decide.{ℕ_discrete}
use lib.ListN.{length}
use Rattle.diagrams.specs.Kinds.{Kind}
use Rattle.diagrams.specs.Layouts.{Layout}
use Rattle.diagrams.specs.Diagrams.{Lawful, Diagram, leaf}
use Rattle.diagrams.specs.Tasks.{Task, Fit, meaning, result}
use Rattle.diagrams.specs.Building.{Needs}
use Rattle.diagrams.specs.Sizes.{once, different}
use Rattle.diagrams.specs.Places.{Place}
use Rattle.diagrams.proofs.Counting.{once_within, once_distinct, at_most}
use Rattle.diagrams.proofs.Places.{stands_for_one, stands_used}
use Rattle.diagrams.proofs.Results
use Rattle.histories.specs.Builds.{Build, constant, mark, combine, restrict}
use Rattle.histories.specs.Tables.{Model, capacity, content, count, Live, StandsFor, InUse, Outnumber, Made}
use Rattle.histories.specs.Requests.{build, hold, in_table, gives, refused, Answer}
use Rattle.histories.specs.Steps.{Means, layer, First, Gains, Needed, faults, Full, Step}
use Rattle.histories.proofs.Sound.{Sound}
use Rattle.histories.proofs.Standing.{free?, same_count, stay_place, stands_good}
use Rattle.histories.proofs.Faults.{InRange}
use Rattle.histories.proofs.Pigeons.{gains_fit}
use Rattle.histories.proofs.Made.{made_sound, made_counts}
use Rattle.histories.proofs.Meanings.{one_meaning, means_fit}
use Rattle.histories.proofs.Keeping.{Moves, same_moves, stay_moves, counted_content, gains_moves}
use Rattle.histories.proofs.StepSound.{step_sound}
use Rattle.worked.specs.Examples.{plain}
use Rattle.worked.proofs.Needed.{needed, all_needed}

-- A sound table of capacity c: the diagrams in use are those of ds, and the handles held are those of hs.
pub record Known (K : Kind) (L : Layout) (c : ℕ) (ds : List Diagram) (hs : List ℕ) (m : Model) : Type 0 where
  pub sound : Sound K L m
  pub room : capacity m ≡ c
  pub used : (d : Diagram) → InUse m d ↔ Memᴰ d ds
  pub held : (h : ℕ) → (0 < count m h) ↔ Memᴰ h hs

module _ {K : Kind} {L : Layout} (ok : Lawful K L) where
  -- As it is made, zero and one are in use, and nothing is held.
  pub made_known : (c : ℕ) (m : Model) → Made K L c m → Known K L c (leaf K.zero ∷ leaf K.one ∷ []) [] m
  made_known c m made = record {
    sound = sound;
    room = made.room;
    used = λ d. (λ u. listed d u.0 u.1, back d);
    held = λ h. (λ p. absurd (omega (arith, p, made_counts m c made h)), λ q. absurd (Memᴰ.not-nil q));
  }
    where
      sound : Sound K L m
      sound = made_sound m c made ok

      listed : (d : Diagram) (h : ℕ) → StandsFor m d h → Memᴰ d (leaf K.zero ∷ leaf K.one ∷ [])
      listed d zero p = Memᴰ.head (stands_for_one (content m) d (leaf K.zero) 0 p sound.zero)
      listed d (suc zero) p = Memᴰ.tail (Memᴰ.head (stands_for_one (content m) d (leaf K.one) 1 p sound.one))
      listed d (suc (suc h)) p =
          absurd (stands_used (content m) d (suc (suc h)) p (ap (λ (x : Place). x.content) (made.rest (suc (suc h)) (omega arith))))

      back : (d : Diagram) → Memᴰ d (leaf K.zero ∷ leaf K.one ∷ []) → InUse m d
      back d q =
          elim (Memᴰ.cases_cons q) [
            | inl e ↦ (0, subst (λ x. StandsFor m x 0) (sym e) sound.zero)
            | inr r ↦ (1, subst (λ x. StandsFor m x 1) (sym (Memᴰ.eq_of_singleton r)) sound.one)
          ]

  module _ (c : ℕ) (ds : List Diagram) (hs : List ℕ) (m : Model) (known : Known K L c ds hs m) where
    -- What is known goes on where all places stay.
    pub stays_known : (n : Model) → Sound K L n → n.places ≡ m.places → Known K L c ds hs n
    stays_known n sound stay = record {
      sound = sound;
      room = ap length stay ∙ known.room;
      used = λ d. (
        λ u. (known.used d).0 (u.0, stay_moves n m (sym stay) d u.0 u.1),
        λ q. let u = (known.used d).1 q in (u.0, stay_moves m n stay d u.0 u.1),
      );
      held = λ h. let same = same_count m n h (stay_place m n stay h) in (
        λ p. (known.held h).0 (omega (arith, p, same)),
        λ q. let p = (known.held h).1 q in omega (arith, p, same),
      );
    }

    module _ (P : Diagram → Type 0) (ns : List Diagram) (listed : (d : Diagram) → P d ↔ Memᴰ d ns) where
      -- Whether more diagrams outnumber the places is a matter of counting.
      pub too_many : c < different (ds ++ ns) → Outnumber m P
      too_many more = (
        once (ds ++ ns),
        once_distinct (ds ++ ns),
        λ d q. elim (Memᴰ.append_cases ds (once_within (ds ++ ns) d q)) [ inl u ↦ inl ((known.used d).1 u) | inr u ↦ inr ((listed d).1 u) ],
        omega (arith, known.room, more),
      )

      pub enough : different (ds ++ ns) ≤ c → ¬ Outnumber m P
      enough few o =
          let most = at_most (ds ++ ns) o.0 o.1 (λ d q. elim (o.2 d q) [
            | inl u ↦ Memᴰ.append_left ns ((known.used d).0 u)
            | inr u ↦ Memᴰ.append_right ds ((listed d).0 u)
          ]) in
          omega (arith, known.room, few, most, o.3)

      -- Diagrams that came into use.
      pub gains_known : (n : Model) → Sound K L n → Gains m n P → Known K L c (ds ++ ns) hs n
      gains_known n sound g = record { sound = sound; room = g.room ∙ known.room; used = used; held = held }
        where
          used : (d : Diagram) → InUse n d ↔ Memᴰ d (ds ++ ns)
          used d = (
            λ u.
                let r = g.only u.0 (stands_used (content n) d u.0 u.1) in
                let same : d ≡ r.0 = stands_for_one (content n) d r.0 u.0 u.1 r.1 in
                subst (λ x. Memᴰ x (ds ++ ns)) (sym same)
                (elim r.2 [ inl v ↦ Memᴰ.append_left ns ((known.used r.0).0 v) | inr v ↦ Memᴰ.append_right ds ((listed r.0).0 v) ]),
            λ q. elim (Memᴰ.append_cases ds q) [
              | inl v ↦ let u = (known.used d).1 v in (u.0, gains_moves m n P g d u.0 u.1)
              | inr v ↦ g.gained d ((listed d).1 v)
            ],
          )

          same_held : (h : ℕ) → count n h ≡ count m h
          same_held h =
              elim (free? (content m h)) [
                | yes e ↦ g.started h (λ live. live e) ∙ sym (known.sound.unheld h e)
                | no e ↦ same_count m n h (g.kept h e)
              ]

          held : (h : ℕ) → (0 < count n h) ↔ Memᴰ h hs
          held h = (
            λ p. (known.held h).0 (omega (arith, p, same_held h)),
            λ q. let p = (known.held h).1 q in omega (arith, p, same_held h),
          )

    -- A building call in range, whose operands are live, has no other fault than a full table.
    first_full : (b : Build) (task : Task) → Means m b task → InRange K L b → (f p : ℕ) → First (faults K L m (plain (build b)) (build b)) f p
        → Full K L m (plain (build b)) b f p
    first_full (constant v) task means range f p (inl s) = absurd (s.2 range)
    first_full (constant v) task means range f p (inr (_, inl s)) = s
    first_full (constant v) task means range f p (inr (_, inr (_, none))) = absurd none
    first_full (mark i) task means range f p (inl s) = absurd (omega (arith, s.2, range))
    first_full (mark i) task means range f p (inr (_, inl s)) = s
    first_full (mark i) task means range f p (inr (_, inr (_, none))) = absurd none
    first_full (combine o x y) task means range f p (inl s) = absurd (stands_used (content m) means.0 x means.2 s.2)
    first_full (combine o x y) task means range f p (inr (_, inl s)) = absurd (stands_used (content m) means.1 y means.3 s.2)
    first_full (combine o x y) task means range f p (inr (_, inr (_, inl s))) = s
    first_full (combine o x y) task means range f p (inr (_, inr (_, inr (_, none)))) = absurd none
    first_full (restrict x i v) task means range f p (inl s) = absurd (omega (arith, s.2, range.0))
    first_full (restrict x i v) task means range f p (inr (_, inl s)) = absurd (stands_used (content m) means.0 x means.1 s.2)
    first_full (restrict x i v) task means range f p (inr (_, inr (_, inl s))) = absurd (omega (arith, s.2, range.1))
    first_full (restrict x i v) task means range f p (inr (_, inr (_, inr (_, inl s)))) = s
    first_full (restrict x i v) task means range f p (inr (_, inr (_, inr (_, inr (_, none))))) = absurd none

    module _ (single : L.size ≡ 1) (b : Build) (task : Task) (means : Means m b task) (range : InRange K L b)
        (a : Answer) (n : Model) (step : Step K L m (plain (build b)) a n) where
      fit : Fit K L 0 task
      fit = means_fit m known.sound b task means range

      after : Sound K L n
      after = step_sound m n known.sound ok (plain (build b)) a step

      listed : (t : Task) → t ≡ task → (d : Diagram) → Needed K L (t ∷ []) d ↔ Memᴰ d (needed K L task)
      listed t e d = (
        λ q. (all_needed K L ok single task fit d).0 (subst (λ u. Needs K L u d) (Memᴰ.eq_of_singleton q.1 ∙ e) q.2),
        λ q. (t, Memᴰ.head refl, subst (λ u. Needs K L u d) (sym e) ((all_needed K L ok single task fit d).1 q)),
      )

      -- With room for all that it needs, a building call gives a handle of its answer.
      pub builds : different (ds ++ needed K L task) ≤ c
          → (h : ℕ) × (a.reply ≡ gives h) × StandsFor n (result K L task) h × Known K L c (ds ++ needed K L task) hs n × Moves m n
      builds few =
          elim step.outcome [
            | inl r ↦
                let built = r.does.2 in
                let same : built.task ≡ task = one_meaning m b built.task task built.means means in
                let gains = built.worked.gains in
                let d = built.answers.0 in
                let is : d ≡ result K L task = Results.only K L ok task fit d (stands_good n after d r.does.0 built.answers.1)
                (λ w k. built.answers.2 w k ∙ ap (λ t. meaning K L t w) same) in (
                  r.does.0,
                  r.does.1.0,
                  subst (λ x. StandsFor n x r.does.0) is built.answers.1,
                  gains_known (Needed K L (built.task ∷ [])) (needed K L task) (listed built.task same) n after gains,
                  gains_moves m n (Needed K L (built.task ∷ [])) gains,
                )
            | inr r ↦
                let full = first_full b task means range r.number r.byte_place r.first in
                absurd (enough (Needed K L (full.2.0 ∷ [])) (needed K L task)
                (listed full.2.0 (one_meaning m b full.2.0 task full.2.1 means)) few full.2.2)
          ]

      -- Without, it is refused with 25, and all places stay.
      pub denies : c < different (ds ++ needed K L task) → (a.reply ≡ refused 25 in_table 0) × Known K L c ds hs n
      denies more =
          elim step.outcome [
            | inl r ↦
                let built = r.does.2 in
                let same : built.task ≡ task = one_meaning m b built.task task built.means means in
                absurd (gains_fit after built.worked.gains
                (too_many (Needed K L (built.task ∷ [])) (needed K L task) (listed built.task same) more))
            | inr r ↦
                let full = first_full b task means range r.number r.byte_place r.first in (
                  r.told ∙ ap₂ (λ f p. refused f (layer f) p) full.0 full.1,
                  stays_known n after r.places,
                )
          ]

    -- A live handle that is not held is held once.
    pub holds : (x : ℕ) → Live m x → ¬ Memᴰ x hs → (a : Answer) (n : Model) → Step K L m (plain (hold x)) a n
        → (a.reply ≡ gives 1) × Known K L c ds (x ∷ hs) n × Moves m n
    holds x live new a n step =
        elim step.outcome [
          | inl r ↦
              let s = r.does.2 in
              let same = counted_content m n x r.does.0 s in
              let move = same_moves m n same in
              let back = same_moves n m (λ h. sym (same h)) in
              let one : r.does.0 ≡ 1 = omega (arith, r.does.3, unheld) in (
                r.does.1.0 ∙ ap gives one,
                record {
                  sound = step_sound m n known.sound ok (plain (hold x)) a step;
                  room = s.room ∙ known.room;
                  used = λ d. (
                    λ u. (known.used d).0 (u.0, back d u.0 u.1),
                    λ q. let u = (known.used d).1 q in (u.0, move d u.0 u.1),
                  );
                  held = λ h. elim (ℕ_discrete h x) [
                    | yes e ↦
                        let here : count n h ≡ r.does.0 = ap (count n) e ∙ ap (λ (p : Place). p.count) s.here in
                        (λ _. Memᴰ.head e, λ _. omega (arith, here, one))
                    | no e ↦
                        let there = same_count m n h (s.elsewhere h e) in (
                          λ p. Memᴰ.tail ((known.held h).0 (omega (arith, p, there))),
                          λ q. elim (Memᴰ.cases_cons q) [ inl f ↦ absurd (e f) | inr t ↦ let p = (known.held h).1 t in omega (arith, p, there) ],
                        )
                  ];
                },
                move,
              )
          | inr r ↦ absurd (no_fault r.number r.byte_place r.first)
        ]
      where
        unheld : count m x ≡ 0
        unheld = elim (ℕ_discrete (count m x) 0) [ yes e ↦ e | no e ↦ absurd (new ((known.held x).0 (omega arith))) ]

        no_fault : (f p : ℕ) → ¬ First (faults K L m (plain (hold x)) (hold x)) f p
        no_fault f p (inl s) = live s.2
        no_fault f p (inr (_, inl s)) = omega (arith, s.2, unheld)
        no_fault f p (inr (_, inr (_, none))) = none
