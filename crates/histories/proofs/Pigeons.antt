-- No more diagrams are in use than there are places, and a full table has as many. Assumes nothing.
use Rattle.std.proofs.Common.{◌≡◌, ℕ, zero, suc, ◌<◌, ◌≤◌, ◌⊎◌, List, [], ◌∷◌, length, sym, refl, ap, subst, inl, inr, arith}
use mathlib.Core.List.Memᴰ
use mathlib.Core.List.{Memᴰ}
use native.Mathlib.Decide.{ℕ_discrete}
use Rattle.diagrams.specs.Kinds.{Kind}
use Rattle.diagrams.specs.Layouts.{Layout}
use Rattle.diagrams.specs.Diagrams.{Diagram}
use Rattle.diagrams.specs.Sizes.{Distinct}
use Rattle.diagrams.specs.Sheets.{visited}
use Rattle.diagrams.specs.Places.{Content, Stands, Unshared}
use Rattle.diagrams.proofs.Places.{stands_for_one, stands_used, stands_kept, one_handle}
use Rattle.diagrams.proofs.Visits.{follow_distinct}
use Rattle.diagrams.proofs.Measures.{ordered}
use Rattle.histories.specs.Tables.{Model, capacity, content, Live, StandsFor, InUse, Outnumber}
use Rattle.histories.specs.Steps.{Gains}
use Rattle.histories.proofs.Sound.{Sound}
use Rattle.histories.proofs.Different.{distinct_within}
use Rattle.histories.proofs.Standing.{free?, same_content, live_within, part_stands, stands_good}

-- The diagrams for which the first k places stand.
record Listed (m : Model) (k : ℕ) : Type 0 where
  all : List Diagram
  few : length all ≤ k
  has : (h : ℕ) (d : Diagram) → h < k → StandsFor m d h → Memᴰ d all

module _ {K : Kind} {L : Layout} where
  listed : (m : Model) → Sound K L m → (k : ℕ) → Listed m k
  listed m s zero = record { all = []; few = omega arith; has = λ h d l p. absurd (omega arith) }
  listed m s (suc k) =
      let r = listed m s k in
      elim (free? (content m k)) [
        | yes e ↦ record {
          all = r.all;
          few = omega (arith, r.few);
          has = λ h d l p. elim (ℕ_discrete h k) [
            | yes q ↦ absurd (stands_used (content m) d k (subst (StandsFor m d) q p) e)
            | no q ↦ r.has h d (omega arith) p
          ];
        }
        | no e ↦
            let g = s.good k e in record {
              all = g.0 ∷ r.all;
              few = omega (arith, r.few);
              has = λ h d l p. elim (ℕ_discrete h k) [
                | yes q ↦ Memᴰ.head (stands_for_one (content m) d g.0 k (subst (StandsFor m d) q p) g.2)
                | no q ↦ Memᴰ.tail (r.has h d (omega arith) p)
              ];
            }
      ]

  -- Different diagrams in use are no more than the places.
  pub pigeons : (m : Model) → Sound K L m → (ds : List Diagram) → Distinct ds → ((d : Diagram) → Memᴰ d ds → InUse m d) → length ds ≤ capacity m
  pigeons m s ds apart used =
      let r = listed m s (capacity m) in
      let within = distinct_within ds r.all apart
      (λ d q. let u = used d q in r.has u.0 d (live_within m u.0 (stands_used (content m) d u.0 u.1)) u.1) in
      omega (arith, within, r.few)

  -- A diagram in use has no more parts than the largest capacity.
  pub parts_fit : (m : Model) → Sound K L m → (d : Diagram) (h : ℕ) → StandsFor m d h → length (visited d []) ≤ 4096
  parts_fit m s d h p =
      let written = ordered K L d (stands_good m s d h p) in
      let few = pigeons m s (visited d []) (follow_distinct K L [] (visited d []) tt written.0)
      (λ e q. part_stands (content m) e d h p ((written.1 e).0 q)) in
      omega (arith, few, s.most)

  -- What has come into use did not outnumber the places.
  pub gains_fit : {m n : Model} {P : Diagram → Type 0} → Sound K L n → Gains m n P → ¬ Outnumber m P
  gains_fit {m} {n} {P} sound g o =
      let few : length o.0 ≤ capacity n = pigeons n sound o.0 o.1 (λ d q. elim (o.2 d q) [
        | inl u ↦ (u.0, stands_kept (content m) (content n) (λ h live. same_content m n h (g.kept h live)) d u.0 u.1)
        | inr u ↦ g.gained d u
      ]) in
      omega (arith, few, g.room, o.3)

module _ (at : ℕ → Content) (Q : Diagram → Type 0) where
  -- The diagrams of the first k places, each with Q and each once.
  record Filled (k : ℕ) : Type 0 where
    all : List Diagram
    apart : Distinct all
    many : length all ≡ k
    from : (d : Diagram) → Memᴰ d all → (h : ℕ) × (h < k) × Stands at d h × Q d

  filled : Unshared at → (k : ℕ) → ((h : ℕ) → h < k → (d : Diagram) × Stands at d h × Q d) → Filled k
  filled unshared zero all = record { all = []; apart = tt; many = refl; from = λ d q. absurd (Memᴰ.not-nil q) }
  filled unshared (suc k) all =
      let r = filled unshared k (λ h l. all h (omega arith)) in
      let g = all k (omega arith) in record {
        all = g.0 ∷ r.all;
        apart = (
          λ q. let u = r.from g.0 q in let e = one_handle at unshared g.0 u.0 k u.2 g.1 in omega (arith, e, u.1),
          r.apart,
        );
        many = ap suc r.many;
        from = λ d q. elim (Memᴰ.cases_cons q) [
          | inl e ↦ (k, omega arith, subst (λ x. Stands at x k) (sym e) g.1, subst Q (sym e) g.2)
          | inr t ↦ let u = r.from d t in (u.0, omega (arith, u.1), u.2, u.3)
        ];
      }

-- Where as many places as the table m has are all in use, each for a diagram in use in m or with P, and one more diagram with P has none of them,
-- there are too many.
pub places_outnumber : (m : Model) (at : ℕ → Content) (P : Diagram → Type 0) → Unshared at
    → ((h : ℕ) → h < capacity m → (e : Diagram) × Stands at e h × (InUse m e ⊎ P e))
    → (d : Diagram) → ¬ ((h : ℕ) × Stands at d h) → P d → Outnumber m P
places_outnumber m at P unshared each d new p =
    let r = filled at (λ e. InUse m e ⊎ P e) unshared (capacity m) each in (
      d ∷ r.all,
      (λ q. let u = r.from d q in new (u.0, u.2), r.apart),
      λ e q. elim (Memᴰ.cases_cons q) [ inl t ↦ inr (subst P (sym t) p) | inr t ↦ (r.from e t).3 ],
      omega (arith, r.many),
    )

-- A table k in the middle of work on m, all of whose places are in use.
pub filled_outnumbers : (m k : Model) (P : Diagram → Type 0) → capacity k ≡ capacity m → Unshared (content k)
    → ((h : ℕ) → h < capacity k → (e : Diagram) × StandsFor k e h × (InUse m e ⊎ P e))
    → (d : Diagram) → ¬ InUse k d → P d → Outnumber m P
filled_outnumbers m k P room unshared each d new p = places_outnumber m (content k) P unshared (λ h l. each h (omega arith)) d new p

-- A full table, to which one more diagram with P is to come.
pub full_outnumbers : {K : Kind} {L : Layout} (m : Model) → Sound K L m → ((h : ℕ) → h < capacity m → Live m h)
    → (d : Diagram) → ¬ InUse m d → (P : Diagram → Type 0) → P d → Outnumber m P
full_outnumbers m s full d new P p =
    places_outnumber m (content m) P s.unshared (λ h l. let g = s.good h (full h l) in (g.0, g.2, inl (h, g.2))) d new p
