-- How many places are in use, which of them a sweep frees, and what a released table grades. Assumes nothing.
use mathlib.Core.Path.{◌≡◌, refl, sym, ap, ◌∙◌, subst}
use mathlib.Core.List.Memᴰ
use mathlib.Core.List.{List, [], ◌∷◌, ◌++◌, Memᴰ}
use mathlib.Core.Logic.{inl, inr, ◌↔◌}
use Prim.Native.Nat.{ℕ, suc, ◌≤◌}
use native.Mathlib.Omega.{arith}
use lib.ListN.{length}
use Rattle.diagrams.specs.Kinds.{Kind}
use Rattle.diagrams.specs.Layouts.{Layout, Fruit}
use Rattle.diagrams.specs.Diagrams.{Diagram, leaf, node, rule}
use Rattle.diagrams.specs.Sizes.{among, Distinct, once, different, Within, itself, in_low, in_high}
use Rattle.diagrams.specs.Sheets.{visited}
use Rattle.diagrams.specs.Places.{Place}
use Rattle.diagrams.proofs.Counting.{once_within, within_once, once_distinct}
use Rattle.diagrams.proofs.Places.{stands_for_one, stands_used, one_handle}
use Rattle.diagrams.proofs.Leading.{child_stands}
use Rattle.diagrams.proofs.Measures.{part_part}
use Rattle.diagrams.proofs.Measures.{reached}
use Rattle.histories.specs.Tables.{Model, content, Live, StandsFor, InUse, Exactly}
use Rattle.histories.specs.Requests.{grade, sweep, look, release, gives, done, Answer}
use Rattle.histories.specs.Steps.{First, Reached, from_zero, from_one, from_held, to_low, to_high, faults, Step}
use Rattle.histories.proofs.Sound.{Sound}
use Rattle.histories.proofs.Standing.{same_content}
use Rattle.histories.proofs.Different.{exactly_one}
use Rattle.histories.proofs.Keeping.{Moves, stay_moves}
use Rattle.worked.specs.Examples.{plain, sweeping}
use Rattle.worked.proofs.Known.{Known}

-- As many handles have the one property as have the other.
exactly_same : (x : ℕ) (P Q : ℕ → Type 0) → ((h : ℕ) → P h ↔ Q h) → Exactly x P → Exactly x Q
exactly_same x P Q same e = (e.0, e.1, λ h. (λ q. (same h).0 ((e.2 h).0 q), λ q. (e.2 h).1 ((same h).1 q)), e.3)

-- The diagrams of a list that do not stand in another.
abbrev pub without : List Diagram → List Diagram → List Diagram
without rs [] = []
without rs (d ∷ ds) = elim (among d rs) [ yes _ ↦ without rs ds | no _ ↦ d ∷ without rs ds ]

without_mem : (rs ds : List Diagram) (d : Diagram) → Memᴰ d (without rs ds) ↔ (Memᴰ d ds × (¬ Memᴰ d rs))
without_mem rs [] d = (λ q. absurd (Memᴰ.not-nil q), λ q. q.0)
without_mem rs (e ∷ ds) d = both (among e rs) (without_mem rs ds d)
  where
    both : (w : Dec (Memᴰ e rs)) → Memᴰ d (without rs ds) ↔ (Memᴰ d ds × (¬ Memᴰ d rs))
        → Memᴰ d (elim w [ yes _ ↦ without rs ds | no _ ↦ e ∷ without rs ds ]) ↔ (Memᴰ d (e ∷ ds) × (¬ Memᴰ d rs))
    both (yes w) rest = (
      λ q. (Memᴰ.tail (rest.0 q).0, (rest.0 q).1),
      λ q. elim (Memᴰ.cases_cons q.0) [
        | inl f ↦ absurd (q.1 (subst (λ x. Memᴰ x rs) (sym f) w))
        | inr t ↦ rest.1 (t, q.1)
      ],
    )
    both (no w) rest = (
      λ q. elim (Memᴰ.cases_cons q) [
        | inl f ↦ (Memᴰ.head f, λ r. w (subst (λ x. Memᴰ x rs) f r))
        | inr t ↦ (Memᴰ.tail (rest.0 t).0, (rest.0 t).1)
      ],
      λ q. elim (Memᴰ.cases_cons q.0) [ inl f ↦ Memᴰ.head f | inr t ↦ Memᴰ.tail (rest.1 (t, q.1)) ],
    )

part_leaf : (x : Diagram) (v : ℕ) → Within x (leaf v) → x ≡ leaf v
part_leaf x v (itself r) = r

module _ (K : Kind) where
  -- What is reached from zero, one and some diagrams.
  abbrev pub kept : List Diagram → List Diagram
  kept [] = leaf K.zero ∷ leaf K.one ∷ []
  kept (e ∷ es) = visited e [] ++ kept es

  kept_parts : (es : List Diagram) (x d : Diagram) → Within x d → Memᴰ d (kept es) → Memᴰ x (kept es)
  kept_parts [] x d p q =
      elim (Memᴰ.cases_cons q) [
        | inl e ↦ Memᴰ.head (part_leaf x K.zero (subst (Within x) e p))
        | inr t ↦ Memᴰ.tail (Memᴰ.head (part_leaf x K.one (subst (Within x) (Memᴰ.eq_of_singleton t) p)))
      ]
  kept_parts (e ∷ es) x d p q =
      elim (Memᴰ.append_cases (visited e []) q) [
        | inl r ↦ Memᴰ.append_left (kept es) ((reached e x).1 (part_part p ((reached e d).0 r)))
        | inr r ↦ Memᴰ.append_right (visited e []) (kept_parts es x d p r)
      ]

  kept_own : (es : List Diagram) (d : Diagram) → Memᴰ d es → Memᴰ d (kept es)
  kept_own [] d q = absurd (Memᴰ.not-nil q)
  kept_own (e ∷ es) d q =
      elim (Memᴰ.cases_cons q) [
        | inl f ↦ Memᴰ.append_left (kept es) ((reached e d).1 (itself f))
        | inr t ↦ Memᴰ.append_right (visited e []) (kept_own es d t)
      ]

  kept_zero : (es : List Diagram) → Memᴰ (leaf K.zero) (kept es)
  kept_zero [] = Memᴰ.head refl
  kept_zero (e ∷ es) = Memᴰ.append_right (visited e []) (kept_zero es)

  kept_one : (es : List Diagram) → Memᴰ (leaf K.one) (kept es)
  kept_one [] = Memᴰ.tail (Memᴰ.head refl)
  kept_one (e ∷ es) = Memᴰ.append_right (visited e []) (kept_one es)

-- The handle h stands for a diagram of the list.
abbrev pub StandsIn : Model → List Diagram → ℕ → Type 0
StandsIn m es h = (d : Diagram) × StandsFor m d h × Memᴰ d es

-- The handles of some diagrams in use: one for each.
module _ {K : Kind} {L : Layout} (m : Model) (sound : Sound K L m) where
  handles : (es : List Diagram) → Distinct es → ((d : Diagram) → Memᴰ d es → InUse m d) → Exactly (length es) (StandsIn m es)
  handles [] apart used = ([], tt, λ h. (λ q. absurd (Memᴰ.not-nil q), λ s. absurd (Memᴰ.not-nil s.2)), refl)
  handles (e ∷ es) apart used =
      let r = handles es apart.1 (λ d q. used d (Memᴰ.tail q)) in
      let u = used e (Memᴰ.head refl) in (
        u.0 ∷ r.0,
        (
          λ q. let s = (r.2 u.0).0 q in apart.0 (subst (λ x. Memᴰ x es) (stands_for_one (content m) s.0 e u.0 s.1 u.1) s.2),
          r.1,
        ),
        λ h. (
          λ q. elim (Memᴰ.cases_cons q) [
            | inl f ↦ (e, subst (StandsFor m e) (sym f) u.1, Memᴰ.head refl)
            | inr t ↦ let s = (r.2 h).0 t in (s.0, s.1, Memᴰ.tail s.2)
          ],
          λ s. elim (Memᴰ.cases_cons s.2) [
            | inl f ↦ Memᴰ.head (one_handle (content m) sound.unshared e h u.0 (subst (λ x. StandsFor m x h) f s.1) u.1)
            | inr t ↦ Memᴰ.tail ((r.2 h).1 (s.0, s.1, t))
          ],
        ),
        ap suc r.3,
      )

  -- As many as there are different diagrams.
  handles_of : (es : List Diagram) → ((d : Diagram) → Memᴰ d es → InUse m d) → Exactly (different es) (StandsIn m es)
  handles_of es used =
      exactly_same (different es) (StandsIn m (once es)) (StandsIn m es)
      (λ h. (λ s. (s.0, s.1, once_within es s.0 s.2), λ s. (s.0, s.1, within_once es s.0 s.2)))
      (handles (once es) (once_distinct es) (λ d q. used d (once_within es d q)))

  -- The parts of a diagram whose handle is reached are reached.
  reached_parts : (x d : Diagram) (h : ℕ) → Within x d → StandsFor m d h → Reached m h → (g : ℕ) × StandsFor m x g × Reached m g
  reached_parts x d h (itself r) p reach = (h, subst (λ y. StandsFor m y h) (sym r) p, reach)
  reached_parts x (node l a b) h (in_low q) p reach = reached_parts x a p.0 q p.3 (to_low reach p.2)
  reached_parts x (node l a b) h (in_high q) p reach = reached_parts x b p.1 q p.4 (to_high reach p.2)

module _ {K : Kind} {L : Layout} (c : ℕ) (ds : List Diagram) (hs : List ℕ) (m : Model) (known : Known K L c ds hs m) where
  -- As many places are in use as there are different diagrams.
  pub in_use : Exactly (different ds) (Live m)
  in_use =
      exactly_same (different ds) (StandsIn m ds) (Live m)
      (λ h. (
        λ s. stands_used (content m) s.0 h s.1,
        λ live. let g = known.sound.good h live in (g.0, g.2, (known.used g.0).0 (h, g.2)),
      ))
      (handles_of m known.sound ds (λ d q. (known.used d).1 q))

  -- Where the handles held stand for es, just what is kept of them is reached.
  module _ (es : List Diagram) (named : (h : ℕ) → Memᴰ h hs → StandsIn m es h) (all : (d : Diagram) → Memᴰ d es → (h : ℕ) × StandsFor m d h × Memᴰ h hs) where
    reached_kept : (h : ℕ) → Reached m h → StandsIn m (kept K es) h
    reached_kept h (from_zero e) = (leaf K.zero, subst (StandsFor m (leaf K.zero)) (sym e) known.sound.zero, kept_zero K es)
    reached_kept h (from_one e) = (leaf K.one, subst (StandsFor m (leaf K.one)) (sym e) known.sound.one, kept_one K es)
    reached_kept h (from_held p) = let s = named h ((known.held h).0 p) in (s.0, s.1, kept_own K es s.0 s.2)
    reached_kept h (to_low {g = g} {l = l} {y = y} r e) =
        let s = reached_kept g r in
        let t = (child_stands (content m) s.0 g l h y s.1 e).0 in
        (t.0, t.1, kept_parts K es t.0 s.0 t.2 s.2)
    reached_kept h (to_high {g = g} {l = l} {x = x} r e) =
        let s = reached_kept g r in
        let t = (child_stands (content m) s.0 g l x h s.1 e).1 in
        (t.0, t.1, kept_parts K es t.0 s.0 t.2 s.2)

    -- A diagram that is kept has a handle that is reached.
    kept_has : (fs : List Diagram) → ((d : Diagram) → Memᴰ d fs → (h : ℕ) × StandsFor m d h × Memᴰ h hs)
        → (d : Diagram) → Memᴰ d (kept K fs) → (h : ℕ) × StandsFor m d h × Reached m h
    kept_has [] has d q =
        elim (Memᴰ.cases_cons q) [
          | inl e ↦ (0, subst (λ x. StandsFor m x 0) (sym e) known.sound.zero, from_zero refl)
          | inr t ↦ (1, subst (λ x. StandsFor m x 1) (sym (Memᴰ.eq_of_singleton t)) known.sound.one, from_one refl)
        ]
    kept_has (e ∷ fs) has d q =
        elim (Memᴰ.append_cases (visited e []) q) [
          | inl r ↦
              let u = has e (Memᴰ.head refl) in
              reached_parts m known.sound d e u.0 ((reached e d).0 r) u.1 (from_held ((known.held u.0).1 u.2))
          | inr r ↦ kept_has fs (λ x t. has x (Memᴰ.tail t)) d r
        ]

    kept_reached : (h : ℕ) → StandsIn m (kept K es) h → Reached m h
    kept_reached h s =
        let u = kept_has es all s.0 s.2 in
        subst (Reached m) (one_handle (content m) known.sound.unshared s.0 u.0 h u.1 s.1) u.2

    -- A sweep frees the places of the other diagrams in use, and leaves those of what is kept.
    pub sweeps : (walk : List ℕ) → c ≤ length walk → (a : Answer) (n : Model) → Step K L m (sweeping walk) a n
        → (x : ℕ) × (a.reply ≡ gives x) × (x ≡ different (without (kept K es) ds)) × Exactly (different (kept K es)) (Live n)
    sweeps walk long a n step =
        elim step.outcome [
          | inl r ↦
              let s = r.does.2 in (
                r.does.0,
                r.does.1.0,
                exactly_one (λ h. Live m h × (¬ Reached m h)) _ _ s.freed
                    (exactly_same _ (StandsIn m (without (kept K es) ds)) (λ h. Live m h × (¬ Reached m h)) unreached
                    (handles_of m known.sound _ (λ d q. (known.used d).1 ((without_mem (kept K es) ds d).0 q).0))),
                exactly_same _ (StandsIn m (kept K es)) (Live n)
                    (λ h. (
                      λ t. elim (s.each h) [
                        | inl q ↦ λ e. stands_used (content m) t.0 h t.1 (sym (same_content m n h q.1) ∙ e)
                        | inr q ↦ absurd (q.0 (kept_reached h t))
                      ],
                      λ live. elim (s.each h) [
                        | inl q ↦ reached_kept h q.0
                        | inr q ↦ absurd (live (ap (λ (p : Place). p.content) q.1))
                      ],
                    ))
                    (handles_of m known.sound (kept K es) (λ d q. let u = kept_has es all d q in (u.0, u.1))),
              )
          | inr r ↦ absurd (no_fault r.number r.byte_place r.first)
        ]
      where
        no_fault : (f p : ℕ) → ¬ First (faults K L m (sweeping walk) sweep) f p
        no_fault f p (inl s) = omega (arith, s.2, long, known.room)
        no_fault f p (inr (_, none)) = none

        unreached : (h : ℕ) → StandsIn m (without (kept K es) ds) h ↔ (Live m h × (¬ Reached m h))
        unreached h = (
          λ s. (
            stands_used (content m) s.0 h s.1,
            λ r.
                let t = reached_kept h r in
                ((without_mem (kept K es) ds s.0).0 s.2).1
                (subst (λ x. Memᴰ x (kept K es)) (stands_for_one (content m) t.0 s.0 h t.1 s.1) t.2),
          ),
          λ s.
              let g = known.sound.good h s.0 in
              (g.0, g.2, (without_mem (kept K es) ds g.0).1 ((known.used g.0).0 (h, g.2), λ q. s.1 (kept_reached h (g.0, g.2, q)))),
        )

module _ {K : Kind} {L : Layout} (m : Model) (a : Answer) (n : Model) where
  -- A release is done, and every handle stands for what it stood for.
  pub releases : Step K L m (plain release) a n → (a.reply ≡ done) × Moves m n
  releases step = elim step.outcome [ inl r ↦ (r.does.0, stay_moves m n r.does.2) | inr r ↦ absurd r.first ]

  -- A handle of d grades a fruit as d does.
  pub grades : (d : Diagram) (h fruit : ℕ) → StandsFor m d h → Fruit L fruit → Step K L m (plain (look (grade h fruit))) a n
      → (x : ℕ) × (a.reply ≡ gives x) × (x ≡ rule K L d fruit)
  grades d h fruit p ripe step =
      elim step.outcome [
        | inl r ↦
            let e = r.does.0 in
            let s = r.does.1 in
            (rule K L e fruit, s.1.0, ap (λ x. rule K L x fruit) (stands_for_one (content m) e d h s.0 p))
        | inr r ↦ absurd (no_fault r.number r.byte_place r.first)
      ]
    where
      no_fault : (f q : ℕ) → ¬ First (faults K L m (plain (look (grade h fruit))) (look (grade h fruit))) f q
      no_fault f q (inl s) = stands_used (content m) d h p s.2
      no_fault f q (inr (_, inl s)) = s.2 ripe
      no_fault f q (inr (_, inr (_, none))) = none
