-- What is reached is computed, and so is how many places a sweep frees. Assumes nothing.
use Rattle.std.proofs.Common.{◌≡◌, ℕ, zero, suc, ◌+◌, ◌<◌, ◌≤◌, Bool, true, false, not, ◌&&◌, ltb, leb, ◌↔◌, sym, refl, ap, ◌∙◌, inl, inr, arith}
use Rattle.std.proofs.lemmas.Bool.{false≢true, and_parts, and_from, or_cases, or_left, or_right, leb-true, le-leb, ltb-true, lt-ltb}
use Rattle.std.proofs.lemmas.Bool.Decides.{same_from_decides, Decides-and, Decides-not}
use Rattle.diagrams.specs.Kinds.{Kind}
use Rattle.diagrams.specs.Layouts.{Layout}
use Rattle.diagrams.specs.Sizes.{tally}
use Rattle.diagrams.specs.Places
use Rattle.diagrams.specs.Places.{Content, free, leaf_word, node_at}
use Rattle.diagrams.proofs.Tallies.{tally_same, passing, tally_some}
use Rattle.diagrams.proofs.Leading.{Root, root_reached, reached_root, leads_reached, leads_parts}
use Rattle.histories.specs.Tables.{Model, capacity, content, count, Live, Exactly}
use Rattle.histories.specs.Steps.{Reached, from_zero, from_one, from_held, to_low, to_high, is_live, is_root, is_reached, unreached_count}
use Rattle.histories.specs.Histories.{CountsRight, ReachComputed}
use Rattle.histories.proofs.Sound.{Sound}
use Rattle.histories.proofs.Standing.{live_within}
use Rattle.histories.proofs.Reachability.{reachable_layout, reachable_sound}

-- A content is in use, or free.
in_use : (c : Content) → (elim c [ free ↦ false | leaf_word v ↦ true | node_at l x y ↦ true ] ≡ true) ↔ (¬ (c ≡ free))
in_use free = (λ t. absurd (false≢true t), λ n. absurd (n refl))
in_use (leaf_word v) = (λ t e. let z : ◌≡◌ {A = ℕ} 0 1 = cc in omega arith, λ n. refl)
in_use (node_at l x y) = (λ t e. let z : ◌≡◌ {A = ℕ} 0 1 = cc in omega arith, λ n. refl)

leaf_free : {v : ℕ} → leaf_word v ≡ free → ⊥
leaf_free e = let z : ◌≡◌ {A = ℕ} 0 1 = cc in omega arith

module _ (m : Model) where
  -- What is reached on a table is what is reached over the contents and counts of its places, and the other way round.
  pub over_places : (h : ℕ) → Reached m h → Places.Reached (content m) (count m) h
  over_places h (from_zero e) = Places.from_zero e
  over_places h (from_one e) = Places.from_one e
  over_places h (from_held l) = Places.from_held l
  over_places h (to_low {g = g} r e) = Places.to_low (over_places g r) e
  over_places h (to_high {g = g} r e) = Places.to_high (over_places g r) e

  pub on_table : (h : ℕ) → Places.Reached (content m) (count m) h → Reached m h
  on_table h (Places.from_zero e) = from_zero e
  on_table h (Places.from_one e) = from_one e
  on_table h (Places.from_held l) = from_held l
  on_table h (Places.to_low {g = g} r e) = to_low (on_table g r) e
  on_table h (Places.to_high {g = g} r e) = to_high (on_table g r) e

  -- The checks tell what they say.
  pub live_told : (h : ℕ) → (is_live m h ≡ true) ↔ Live m h
  live_told h = in_use (content m h)

  pub root_told : (h : ℕ) → (is_root m h ≡ true) ↔ Root (content m) (count m) h
  root_told h = (
    λ t. elim (or_cases (leb h 1) (ltb 0 (count m h)) t) [ inl u ↦ inl (leb-true h 1 u) | inr u ↦ inr (ltb-true 0 (count m h) u) ],
    λ r. elim r [ inl l ↦ or_left (leb h 1) _ (le-leb h 1 l) | inr l ↦ or_right (leb h 1) _ (lt-ltb 0 (count m h) l) ],
  )

  module _ {K : Kind} {L : Layout} (sound : Sound K L m) (layout : m.layout ≡ L) where
    -- A place from which others are reached is live.
    root_live : (r : ℕ) → Root (content m) (count m) r → Live m r
    root_live zero (inl l) e = leaf_free (sym sound.zero ∙ e)
    root_live (suc zero) (inl l) e = leaf_free (sym sound.one ∙ e)
    root_live (suc (suc r)) (inl l) e = omega arith
    root_live r (inr l) e = omega (arith, sound.unheld r e)

    pub reached_told : (h : ℕ) → (is_reached m h ≡ true) ↔ Reached m h
    reached_told h = (
      λ t.
          let u = (tally_some (capacity m) _).0 t in
          let v = and_parts (is_root m u.0) _ u.2 in
          on_table h
          (leads_reached (content m) (count m) m.layout.size h u.0 v.1
          (root_reached (content m) (count m) u.0 ((root_told u.0).0 v.0))),
      λ reach.
          let u = reached_root (content m) (count m) h (over_places h reach) in
          let live = root_live u.0 u.1 in
          let g = sound.good u.0 live in
          let x = u.2 g.0 g.2 in
          let enough : L.size ≤ m.layout.size + 0 = omega (arith, ap (λ (l : Layout). l.size) layout) in
          (tally_some (capacity m) _).1 (
            u.0,
            live_within m u.0 live,
            and_from (is_root m u.0) _ ((root_told u.0).1 u.1)
                (leads_parts (content m) K L sound.unshared x.0 g.0 u.0 h 0 m.layout.size g.1 g.2 x.2 x.1 enough),
          ),
    )

    -- A place is counted exactly where it is live and not reached.
    pub unreached_told : (h : ℕ) → ((is_live m h && not (is_reached m h)) ≡ true) ↔ (Live m h × (¬ Reached m h))
    unreached_told h =
        Decides-and (is_live m h) (not (is_reached m h)) (live_told h) (Decides-not (is_reached m h) (reached_told h))

    -- A count by another check that tells the same is that count.
    pub count_told : (p : ℕ → Bool) → ((h : ℕ) → h < capacity m → (p h ≡ true) ↔ (Live m h × (¬ Reached m h))) → tally (capacity m) p ≡ unreached_count m
    count_told p told =
        tally_same (capacity m) p _ (λ h l. same_from_decides (p h) (is_live m h && not (is_reached m h)) (told h l) (unreached_told h))

    unreached : Exactly (unreached_count m) (λ h. Live m h × (¬ Reached m h))
    unreached =
        let r = passing (capacity m) (λ h. is_live m h && not (is_reached m h)) in (
          r.all,
          r.apart,
          λ h. (λ q. (unreached_told h).0 ((r.mem h).0 q).1, λ u. (r.mem h).1 (live_within m h u.0, (unreached_told h).1 u)),
          r.many,
        )

    pub counts_right : CountsRight m
    counts_right = record { reached = reached_told; unreached = unreached }

pub reach_computed : ReachComputed
reach_computed K L ok m r = counts_right m (reachable_sound ok r) (reachable_layout r)
