-- A step from a sound table leaves a sound table. Assumes nothing.
use Rattle.std.proofs.Common.{◌≡◌, ℕ, List, [], ◌∷◌, length, sym, refl, ap, ◌∙◌, subst, inl, inr, arith}
use mathlib.Core.List.Memᴰ
use mathlib.Core.List.{Memᴰ}
use native.Mathlib.Decide.{ℕ_discrete}
use Rattle.diagrams.specs.Kinds.{Kind}
use Rattle.diagrams.specs.Layouts.{Layout}
use Rattle.diagrams.specs.Diagrams.{Lawful, Diagram, Good}
use Rattle.diagrams.specs.Tasks.{Task, Fit}
use Rattle.diagrams.specs.Places.{free, Place, vacant, Unshared}
use Rattle.diagrams.proofs.Places.{leaf_used}
use Rattle.histories.specs.Tables.{Model, capacity, place, content, count, Live, StandsFor}
use Rattle.histories.specs.Requests.{Call, build, read, hold, let_go, sweep, look, release, reopen, Asked, Answer}
use Rattle.histories.specs.Steps.{Faultless, PlacesStay, EntriesStay, Gains, Counted, Swept, Needed, Worked, faults, Does, Step, from_zero, from_one}
use Rattle.histories.proofs.Sound.{Sound}
use Rattle.histories.proofs.Standing.{free?, same_content, same_count, stay_place, stands_good}
use Rattle.histories.proofs.Faults.{accepted_range, accepted_live}
use Rattle.histories.proofs.Meanings.{means_fit}
use Rattle.histories.proofs.Inner.{inside_needs, inside_fit, needs_good, part_good}
use Rattle.histories.proofs.Keeping.{same_moves, stay_moves, counted_content, gains_moves, swept_place, swept_stands}
use Rattle.histories.proofs.Rightness.{AllRight, right_moves, entries_right, none_right}

module _ {K : Kind} {L : Layout} (m n : Model) (sound : Sound K L m) where
  -- Places that hold what they held, with other counts or entries.
  same_sound : capacity n ≡ capacity m → ((h : ℕ) → content n h ≡ content m h) → ((h : ℕ) → content m h ≡ free → count n h ≡ 0)
      → AllRight K L n → Sound K L n
  same_sound room same unheld right = record {
    least = omega (arith, room, sound.least);
    most = omega (arith, room, sound.most);
    zero = same 0 ∙ sound.zero;
    one = same 1 ∙ sound.one;
    good = λ h l. let g = sound.good h (λ e. l (same h ∙ e)) in (g.0, g.1, same_moves m n same g.0 h g.2);
    unshared = λ g h e. elim (sound.unshared g h (sym (same g) ∙ e ∙ same h)) [ inl f ↦ inl (same g ∙ f) | inr f ↦ inr f ];
    unheld = λ h e. unheld h (sym (same h) ∙ e);
    right = right;
  }

  stays_sound : PlacesStay m n → AllRight K L n → Sound K L n
  stays_sound stay right =
      same_sound (ap length stay) (λ h. same_content m n h (stay_place m n stay h))
      (λ h e. same_count m n h (stay_place m n stay h) ∙ sound.unheld h e) right

  untouched_sound : PlacesStay m n → EntriesStay m n → Sound K L n
  untouched_sound stay same = stays_sound stay (entries_right K L m n sound (stay_moves m n stay) same)

  counted_sound : (h x : ℕ) → Live m h → Counted m h x n → Sound K L n
  counted_sound h x live s =
      let same = counted_content m n h x s in
      same_sound s.room same
      (λ g e. elim (ℕ_discrete g h) [
        | yes q ↦ absurd (live (ap (content m) (sym q) ∙ e))
        | no q ↦ same_count m n g (s.elsewhere g q) ∙ sound.unheld g e
      ])
      (entries_right K L m n sound (same_moves m n same) s.entries)

  -- Good diagrams came into use, and the entries are right.
  pub gains_sound : (P : Diagram → Type 0) → Gains m n P → ((d : Diagram) → P d → Good K L 0 d) → AllRight K L n → Sound K L n
  gains_sound P g goods right = record {
    least = omega (arith, g.room, sound.least);
    most = omega (arith, g.room, sound.most);
    zero = same_content m n 0 (g.kept 0 (leaf_used _ _ sound.zero)) ∙ sound.zero;
    one = same_content m n 1 (g.kept 1 (leaf_used _ _ sound.one)) ∙ sound.one;
    good = λ h l.
        let r = g.only h l in
        (r.0, elim r.2 [ inl u ↦ stands_good m sound r.0 u.0 u.1 | inr u ↦ goods r.0 u ], r.1);
    unshared = g.unshared;
    unheld = λ h e.
        elim (free? (content m h)) [
          | yes f ↦ g.started h (λ live. live f)
          | no f ↦ absurd (f (sym (same_content m n h (g.kept h f)) ∙ e))
        ];
    right = right;
  }

  swept_sound : (x : ℕ) → Swept m x n → Sound K L n
  swept_sound x s = record {
    least = omega (arith, s.room, sound.least);
    most = omega (arith, s.room, sound.most);
    zero = same_content m n 0 (swept_place m n x s 0 (from_zero refl)) ∙ sound.zero;
    one = same_content m n 1 (swept_place m n x s 1 (from_one refl)) ∙ sound.one;
    good = good;
    unshared = unshared;
    unheld = λ h e. elim (s.each h) [
      | inl q ↦ same_count m n h q.1 ∙ sound.unheld h (sym (same_content m n h q.1) ∙ e)
      | inr q ↦ ap (λ (p : Place). p.count) q.1
    ];
    right = none_right K L m n s.entries;
  }
    where
      good : (h : ℕ) → Live n h → (d : Diagram) × Good K L 0 d × StandsFor n d h
      good h l =
          elim (s.each h) [
            | inl q ↦
                let g = sound.good h (λ e. l (same_content m n h q.1 ∙ e)) in
                (g.0, g.1, swept_stands m n x s g.0 h q.0 g.2)
            | inr q ↦ absurd (l (ap (λ (p : Place). p.content) q.1))
          ]

      freed : (h : ℕ) → place n h ≡ vacant → content n h ≡ free
      freed h e = ap (λ (p : Place). p.content) e

      unshared : Unshared (content n)
      unshared g h e =
          elim (s.each g) [
            | inl q ↦ elim (s.each h) [
              | inl r ↦
                  let here = same_content m n g q.1 in
                  elim (sound.unshared g h (sym here ∙ e ∙ same_content m n h r.1)) [ inl f ↦ inl (here ∙ f) | inr f ↦ inr f ]
              | inr r ↦ inl (e ∙ freed h r.1)
            ]
            | inr q ↦ inl (freed g q.1)
          ]

  module _ (ok : Lawful K L) where
    -- Fit calls over diagrams were worked.
    pub worked_sound : (tasks : List Task) → ((t : Task) → Memᴰ t tasks → Fit K L 0 t) → Worked K L m tasks n → Sound K L n
    worked_sound tasks fits s =
        gains_sound (Needed K L tasks) s.gains (λ d q. needs_good ok q.2 (fits q.0 q.1))
        (λ k g e. elim (s.made k g e) [
          | inl old ↦ right_moves K L m n (gains_moves m n (Needed K L tasks) s.gains) k g (sound.right k g old)
          | inr o ↦ record {
            task = o.part;
            fit = inside_fit ok o.inside (fits o.whole o.asked);
            keyed = o.keyed;
            long = o.long;
            answers = o.answers;
            needed = λ d q. s.gains.gained d (o.whole, o.asked, inside_needs o.inside d q);
          }
        ])

    -- A fit call was.
    pub one_worked_sound : (task : Task) → Fit K L 0 task → Worked K L m (task ∷ []) n → Sound K L n
    one_worked_sound task fit = worked_sound (task ∷ []) (λ t q. subst (Fit K L 0) (sym (Memᴰ.eq_of_singleton q)) fit)

    module _ (q : Asked) where
      does_sound : (c : Call) (a : Answer) → Faultless (faults K L m q c) → Does K L m q c a n → Sound K L n
      does_sound (build b) a fl s =
          let built = s.2 in
          one_worked_sound built.task (means_fit m sound b built.task built.means (accepted_range K L m q b fl)) built.worked
      does_sound (read bs) a fl s =
          let t = s.2 in
          gains_sound _ t.gains (λ e. part_good ok e t.diagram t.written.good)
          (entries_right K L m n sound (gains_moves m n _ t.gains) t.entries)
      does_sound (hold h) a fl s = counted_sound h _ (accepted_live K L m q (hold h) fl).0 s.2
      does_sound (let_go h) a fl s = counted_sound h _ (accepted_live K L m q (let_go h) fl).0 s.2
      does_sound sweep a fl s = swept_sound s.0 s.2
      does_sound (look l) a fl s = untouched_sound s.2 s.3
      does_sound release a fl s = untouched_sound s.2 s.3
      does_sound reopen a fl s = untouched_sound s.2 s.3

      pub step_sound : (a : Answer) → Step K L m q a n → Sound K L n
      step_sound a s =
          elim s.outcome [
            | inl r ↦ does_sound q.call a r.faultless r.does
            | inr r ↦ elim (ℕ_discrete r.number 25) [
              | yes e ↦ stays_sound r.places (none_right K L m n (r.emptied e))
              | no e ↦ untouched_sound r.places (r.entries e)
            ]
          ]
