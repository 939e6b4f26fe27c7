-- Work composed of smaller work. Assumes nothing.
use Rattle.std.proofs.Common.{◌≡◌, ℕ, true, ◌⊎◌, List, [], ◌∷◌, sym, refl, ◌∙◌, subst, inl, inr, arith}
use mathlib.Core.List.Memᴰ
use mathlib.Core.List.{Memᴰ}
use Rattle.diagrams.specs.Kinds.{Kind}
use Rattle.diagrams.specs.Layouts.{Layout}
use Rattle.diagrams.specs.Diagrams.{Diagram}
use Rattle.diagrams.specs.Tasks.{Task, result}
use Rattle.diagrams.specs.Building.{shortcut, Inside, itself}
use Rattle.diagrams.proofs.Places.{stands_for_one, stands_used}
use Rattle.histories.specs.Stores.{Key}
use Rattle.histories.specs.Tables.{Model, content, InUse, Outnumber}
use Rattle.histories.specs.Steps.{Gains, Needed, Offering, Worked}
use Rattle.histories.proofs.Sound.{Sound}
use Rattle.histories.proofs.Standing.{free?, same_content, same_count}
use Rattle.histories.proofs.Keeping.{Moves, gains_moves}
use Rattle.histories.proofs.Rightness.{keyed_moves}
use Rattle.histories.proofs.Inner.{inside_inside, inside_needs}

-- What came into use in two turns.
module _ {m k : Model} {P R : Diagram → Type 0} (one : Gains m k P) (to : (d : Diagram) → P d → R d) where
  -- What was in use between them was in use before, or came with the first.
  earlier : (d : Diagram) → InUse k d → InUse m d ⊎ R d
  earlier d u =
      let o = one.only u.0 (stands_used (content k) d u.0 u.1) in
      let e : o.0 ≡ d = stands_for_one (content k) o.0 d u.0 o.1 u.1 in
      elim o.2 [
        | inl old ↦ inl (subst (InUse m) e old)
        | inr new ↦ inr (subst R e (to o.0 new))
      ]

  pub gains_then : {n : Model} {Q : Diagram → Type 0} → Gains k n Q → ((d : Diagram) → Q d → R d) → ((d : Diagram) → R d → InUse n d) → Gains m n R
  gains_then {n} two more all = record {
    room = two.room ∙ one.room;
    kept = λ h l. two.kept h (λ e. l (sym (same_content m k h (one.kept h l)) ∙ e)) ∙ one.kept h l;
    started = λ h l. elim (free? (content k h)) [
      | yes e ↦ two.started h (λ live. live e)
      | no live ↦ same_count k n h (two.kept h live) ∙ one.started h l
    ];
    gained = all;
    only = λ h l.
        let o = two.only h l in
        (o.0, o.1, elim o.2 [ inl old ↦ earlier o.0 old | inr new ↦ inr (more o.0 new) ]);
    unshared = two.unshared;
  }

  pub outnumber_then : {Q : Diagram → Type 0} → Outnumber k Q → ((d : Diagram) → Q d → R d) → Outnumber m R
  outnumber_then o more = (
    o.0,
    o.1,
    λ d q. elim (o.2 d q) [ inl old ↦ earlier d old | inr new ↦ inr (more d new) ],
    omega (arith, o.3, one.room),
  )

module _ (K : Kind) (L : Layout) where
  -- A call needs its answer.
  pub own_needed : (task : Task) → Needed K L (task ∷ []) (result K L task)
  own_needed task = (task, Memᴰ.head refl, record { part = task; inside = itself refl; is = refl })

  -- Every call of a list is inside one of another.
  abbrev pub Within : List Task → List Task → Type 0
  Within tasks whole = (t : Task) → Memᴰ t tasks → (s : Task) × Memᴰ s whole × Inside K L s t

  -- Every call of a list is inside one call.
  abbrev pub UnderTask : Task → List Task → Type 0
  UnderTask task tasks = (t : Task) → Memᴰ t tasks → Inside K L task t

module _ {K : Kind} {L : Layout} where
  pub within_needed : {A C : List Task} → Within K L A C → (d : Diagram) → Needed K L A d → Needed K L C d
  within_needed w d n = let s = w n.0 n.1 in (s.0, s.1, inside_needs s.2 d n.2)

  within_offering : {A C : List Task} (k n : Model) → Within K L A C → Moves k n → (key : Key) (h : ℕ) → Offering K L k A key h → Offering K L n C key h
  within_offering k n w move key h o =
      let s = w o.whole o.asked in record {
        whole = s.0;
        asked = s.1;
        part = o.part;
        inside = inside_inside s.2 o.inside;
        long = o.long;
        keyed = keyed_moves k n move o.part key o.keyed;
        answers = move (result K L o.part) h o.answers;
      }

  within_itself : (task : Task) {A : List Task} → UnderTask K L task A → Within K L A (task ∷ [])
  within_itself task under t q = (task, Memᴰ.head refl, under t q)

  within_same : {A C : List Task} → ((t : Task) → Memᴰ t A → Memᴰ t C) → Within K L A C
  within_same has t q = (t, has t q, itself refl)

  -- Nothing is done where all that calls need is in use.
  pub worked_idle : (m : Model) (A : List Task) → Sound K L m → ((d : Diagram) → Needed K L A d → InUse m d) → Worked K L m A m
  worked_idle m A sound all = record {
    gains = record {
      room = refl;
      kept = λ h l. refl;
      started = λ h l. elim (free? (content m h)) [ yes e ↦ sound.unheld h e | no live ↦ absurd (l live) ];
      gained = all;
      only = λ h l. let g = sound.good h l in (g.0, g.2, inl (h, g.2));
      unshared = sound.unshared;
    };
    still = λ _ k. refl;
    made = λ k g e. inl e;
    newest = inl (λ k. refl);
  }

  -- No calls are worked by doing nothing.
  pub worked_none : (m : Model) → Sound K L m → Worked K L m [] m
  worked_none m sound = worked_idle m [] sound (λ d n. absurd (Memᴰ.not-nil n.1))

  -- Work on A and then on B is work on C, where A and B are inside C and all that C needs is in use at the end.
  worked_both : {A B C : List Task} (m k n : Model) → Within K L A C → Within K L B C → ((d : Diagram) → Needed K L C d → InUse n d)
      → Worked K L m A k → Worked K L k B n → Worked K L m C n
  worked_both {A} {B} {C} m k n a b all one two = record {
    gains = gains_then one.gains (within_needed a) two.gains (within_needed b) all;
    still = λ short key. two.still (shorter B b short) key ∙ one.still (shorter A a short) key;
    made = λ key h e. elim (two.made key h e) [
      | inl old ↦ elim (one.made key h old) [ inl first ↦ inl first | inr o ↦ inr (within_offering k n a moves key h o) ]
      | inr o ↦ inr (within_offering n n b (λ d g s. s) key h o)
    ];
    newest = elim two.newest [
      | inl same ↦ elim one.newest [
        | inl first ↦ inl (λ key. same key ∙ first key)
        | inr o ↦ inr (o.0, o.1, same o.0 ∙ o.2, within_offering k n a moves o.0 o.1 o.3)
      ]
      | inr o ↦ inr (o.0, o.1, o.2, within_offering n n b (λ d g s. s) o.0 o.1 o.3)
    ];
  }
    where
      moves : Moves k n
      moves = gains_moves k n (Needed K L B) two.gains

      shorter : (X : List Task) → Within K L X C → ((t part : Task) → Memᴰ t C → Inside K L t part → shortcut K L part ≡ true)
          → (t part : Task) → Memᴰ t X → Inside K L t part → shortcut K L part ≡ true
      shorter X w short t part q i = let s = w t q in short s.0 part s.1 (inside_inside s.2 i)

  -- One more call.
  pub worked_then : {A : List Task} (part : Task) (m k n : Model) → Worked K L m A k → Worked K L k (part ∷ []) n → Worked K L m (part ∷ A) n
  worked_then {A} part m k n one two = worked_both m k n (within_same (λ t q. Memᴰ.tail q))
      (within_same (λ t q. Memᴰ.head (Memᴰ.eq_of_singleton q))) all one two
    where
      all : (d : Diagram) → Needed K L (part ∷ A) d → InUse n d
      all d need =
          elim (Memᴰ.cases_cons need.1) [
            | inl e ↦ two.gains.gained d (need.0, Memᴰ.head e, need.2)
            | inr q ↦ let u = one.gains.gained d (need.0, q, need.2) in (u.0, gains_moves k n _ two.gains d u.0 u.1)
          ]

  -- Calls inside a call, and then the call itself, are work on that call.
  pub worked_within : {A : List Task} (task : Task) (m k n : Model) → UnderTask K L task A → Worked K L m A k → Worked K L k (task ∷ []) n → Worked K L m (task ∷ []) n
  worked_within task m k n under one two =
      worked_both m k n (within_itself task under) (within_same (λ t q. q)) two.gains.gained one two

  -- There was no room for a call inside a call, after others inside it.
  pub outnumber_within : {A : List Task} (task part : Task) (m k : Model) → UnderTask K L task A → Inside K L task part → Worked K L m A k
      → Outnumber k (Needed K L (part ∷ [])) → Outnumber m (Needed K L (task ∷ []))
  outnumber_within task part m k under inside one o =
      outnumber_then one.gains (within_needed (within_itself task under)) o
      (within_needed (within_itself task (λ t q. subst (Inside K L task) (sym (Memᴰ.eq_of_singleton q)) inside)))
