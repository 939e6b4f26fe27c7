-- Reading accepts the sheets that the table can hold, and no other bytes. Assumes nothing.
use Rattle.std.proofs.Common.{◌≡◌, ℕ, ◌<◌, ◌≤◌, ◌⊎◌, List, [], ◌∷◌, ◌++◌, length, sym, refl, ap, ◌∙◌, subst, inl, inr, arith}
use mathlib.Core.List.Memᴰ
use mathlib.Core.List.{Memᴰ}
use native.Mathlib.Decide.{dec_lt}
use Rattle.diagrams.specs.Kinds.{Kind}
use Rattle.diagrams.specs.Layouts.{Layout}
use Rattle.diagrams.specs.Diagrams.{Lawful, Diagram, rule, Good}
use Rattle.diagrams.specs.Sizes.{Within}
use Rattle.diagrams.specs.Sheets.{visited, sheet}
use Rattle.diagrams.specs.Reading.{read_sheet, drawn, fault, Faulty}
use Rattle.diagrams.proofs.Visits.{follow_distinct}
use Rattle.diagrams.proofs.Measures.{ordered}
use Rattle.diagrams.proofs.Whole
use Rattle.histories.specs.Tables.{Model, capacity, Outnumber, HasRule}
use Rattle.histories.specs.Requests.{read, Layer, gives, refused, Asked, Answer}
use Rattle.histories.specs.Steps.{Sheet, Fills, First, faults, Does, Step}
use Rattle.histories.specs.Histories.{Reads}
use Rattle.histories.proofs.Sound.{Sound}
use Rattle.histories.proofs.Pigeons.{gains_fit}

-- A number given is no refusal, and one number.
pub gives_refuses : {x y z : ℕ} {l : Layer} → gives x ≡ refused y l z → ⊥
gives_refuses e = let z : ◌≡◌ {A = ℕ} 0 1 = cc in omega arith

pub gives_same : {x y : ℕ} → gives x ≡ gives y → x ≡ y
gives_same e = cc

-- What is drawn is no fault, and one diagram.
pub drawn_faults : {d : Diagram} {f p : ℕ} → drawn d ≡ fault f p → ⊥
drawn_faults e = let z : ◌≡◌ {A = ℕ} 0 1 = cc in omega arith

pub drawn_same : {d e : Diagram} → drawn d ≡ drawn e → d ≡ e
drawn_same e = cc

-- More diagrams outnumber the places the more.
pub outnumber_more : (m : Model) (P Q : Diagram → Type 0) → ((d : Diagram) → P d → Q d) → Outnumber m P → Outnumber m Q
outnumber_more m P Q more o = (o.0, o.1, λ d q. elim (o.2 d q) [ inl u ↦ inl u | inr u ↦ inr (more d u) ], o.3)

module _ (K : Kind) (L : Layout) (ok : Lawful K L) (m : Model) where
  -- Where a record finds the table full, the whole sheet outnumbers its places.
  fills_full : (d : Diagram) (p : ℕ) → Good K L 0 d → Fills K L m d p → Outnumber m (λ x. Within x d)
  fills_full d p g f =
      outnumber_more m (λ x. Memᴰ x (f.before ++ (f.here ∷ []))) (λ x. Within x d)
      (λ e q. ((ordered K L d g).1 e).0 (subst (Memᴰ e) (sym f.all) (longer e (Memᴰ.append_cases f.before q)))) f.full
    where
      longer : (e : Diagram) → Memᴰ e f.before ⊎ Memᴰ e (f.here ∷ []) → Memᴰ e (f.before ++ (f.here ∷ f.after))
      longer e (inl q) = Memᴰ.append_left (f.here ∷ f.after) q
      longer e (inr q) = Memᴰ.append_right f.before (Memᴰ.head (Memᴰ.eq_of_singleton q))

  -- A sheet that fits has no more records than the table has places.
  fits_few : (d : Diagram) → Good K L 0 d → ¬ Outnumber m (λ x. Within x d) → length (visited d []) ≤ capacity m
  fits_few d g fits =
      elim (dec_lt (capacity m) (length (visited d []))) [
        | yes l ↦ absurd (fits (visited d [], follow_distinct K L [] (visited d []) tt (ordered K L d g).0, λ e q. inr (((ordered K L d g).1 e).0 q), l))
        | no l ↦ omega arith
      ]

  module _ (sound : Sound K L m) where
    pub read_back : (s : List ℕ) (d : Diagram) → Sheet K L m s d → read_sheet K L (capacity m) s ≡ drawn d
    read_back s d w =
        ap (read_sheet K L (capacity m)) w.bytes ∙ Whole.writes_back K L (capacity m) ok (omega (arith, sound.most)) d w.good w.few

    pub fault_told : (s : List ℕ) (f p : ℕ) → Faulty K L (capacity m) s f p → read_sheet K L (capacity m) s ≡ fault f p
    fault_told s f p = Whole.faults K L ok (capacity m) (omega (arith, sound.most)) s f p

    -- Bytes are the sheet of one diagram.
    pub one_sheet : (s : List ℕ) (d e : Diagram) → Sheet K L m s d → Sheet K L m s e → d ≡ e
    one_sheet s d e w v = drawn_same (sym (read_back s d w) ∙ read_back s e v)

    -- A sheet that the table can hold breaks no rule of reading, and does not find the table full.
    pub sheet_not_faulty : (s : List ℕ) (d : Diagram) → Sheet K L m s d → (f p : ℕ) → ¬ Faulty K L (capacity m) s f p
    sheet_not_faulty s d w f p faulty = drawn_faults (sym (read_back s d w) ∙ fault_told s f p faulty)

    pub sheet_not_full : (s : List ℕ) (d : Diagram) → Sheet K L m s d → ¬ Outnumber m (λ x. Within x d)
        → (f p : ℕ) → ¬ ((f ≡ 25) × ((e : Diagram) × Sheet K L m s e × Fills K L m e p))
    sheet_not_full s d w fits f p full =
        let e = full.1.0 in
        let same = one_sheet s e d full.1.1 w in
        fits (subst (λ x. Outnumber m (λ y. Within y x)) same (fills_full e p full.1.1.good full.1.2))

    module _ (n : Model) (q : Asked) (a : Answer) (s : List ℕ) (after : Sound K L n) (asks : q.call ≡ read s) where
      -- A sheet that fits is not refused.
      not_refused : capacity m ≤ length q.walk → (d : Diagram) → Sheet K L m s d → ¬ Outnumber m (λ x. Within x d)
          → (f p : ℕ) → First (faults K L m q q.call) f p → ⊥
      not_refused long d w fits f p first = by_cases (subst (λ c. First (faults K L m q c) f p) asks first)
        where
          short : length q.walk < capacity m → ⊥
          short l = omega arith

          by_cases : First (faults K L m q (read s)) f p → ⊥
          by_cases (inl walk) = short (rw asks at walk.2)
          by_cases (inr (_, inl faulty)) = sheet_not_faulty s d w f p faulty
          by_cases (inr (_, inr (_, inl full))) = sheet_not_full s d w fits f p full
          by_cases (inr (_, inr (_, inr (_, none)))) = none

      module _ (step : Step K L m q a n) where
        taken : Does K L m q q.call a n → Does K L m q (read s) a n
        taken x = subst (λ c. Does K L m q c a n) asks x

        answers : (h : ℕ) → a.reply ≡ gives h → (d : Diagram) × (s ≡ sheet K L d) × HasRule K L n h (rule K L d)
        answers h e =
            elim step.outcome [
              | inl r ↦
                  let t = taken r.does in
                  let same : t.0 ≡ h = gives_same (sym t.1.0 ∙ e) in
                  let d = t.2.diagram in
                  (d, t.2.written.bytes, subst (λ x. HasRule K L n x (rule K L d)) same (d, t.2.answers, λ w _. refl))
              | inr r ↦ absurd (gives_refuses (sym e ∙ r.told))
            ]

        only_sheets : ((h : ℕ) × (a.reply ≡ gives h)) → (d : Diagram) × Good K L 0 d × (s ≡ sheet K L d) × (¬ Outnumber m (λ x. Within x d))
        only_sheets g =
            elim step.outcome [
              | inl r ↦ let t = (taken r.does).2 in (t.diagram, t.written.good, t.written.bytes, gains_fit after t.gains)
              | inr r ↦ absurd (gives_refuses (sym g.1 ∙ r.told))
            ]

        all_sheets : capacity m ≤ length q.walk → ((d : Diagram) × Good K L 0 d × (s ≡ sheet K L d) × (¬ Outnumber m (λ x. Within x d)))
            → (h : ℕ) × (a.reply ≡ gives h)
        all_sheets long g =
            elim step.outcome [
              | inl r ↦ let t = taken r.does in (t.0, t.1.0)
              | inr r ↦
                  let w : Sheet K L m s g.0 = record { good = g.1; bytes = g.2; few = fits_few g.0 g.1 g.3 } in
                  absurd (not_refused long g.0 w g.3 r.number r.byte_place r.first)
            ]

        pub reads_step : capacity m ≤ length q.walk → Reads K L m s a n
        reads_step long = record { exactly = (only_sheets, all_sheets long); answers = answers }
