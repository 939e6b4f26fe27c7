-- A combination that splits, from its parts. Assumes nothing.
use Rattle.std.proofs.Common.{◌≡◌, ℕ, ◌+◌, ◌<◌, ◌≤◌, min, Bool, true, false, List, [], ◌∷◌, Some, None, Option, sym, refl, ap, ◌∙◌, subst, arith}
use mathlib.Core.List.{Memᴰ}
use mathlib.Core.Option.{none}
use Rattle.std.proofs.lemmas.Bool.{false≢true}
use Rattle.std.specs.List.{AllByRecursion}
use Rattle.diagrams.specs.Kinds.{Kind}
use Rattle.diagrams.specs.Layouts.{Decomposition, shannon, positive, negative, Layout}
use Rattle.diagrams.specs.Diagrams.{Lawful, Diagram, leaf, node, Good, top, low, high, make}
use Rattle.diagrams.specs.Tasks.{Operation, sum, difference, product, Task, combine, Fit, result}
use Rattle.diagrams.specs.Building.{quick, smaller_of, is_short, composed_of, crossed, high_call, on_the_way, low_part, high_part, smaller, shortcut}
use Rattle.diagrams.specs.Places.{Stands}
use Rattle.diagrams.proofs.Nodes.{good_up}
use Rattle.diagrams.proofs.Results.{answer_good}
use Rattle.diagrams.proofs.Composing.{way_to_combine, Right, right, top_good, builds}
use Rattle.diagrams.proofs.Listed.{all_mem}
use Rattle.histories.specs.Stores.{Key, Entries}
use Rattle.histories.specs.Tables.{Phase, Model}
use Rattle.histories.proofs.Sound.{Sound}
use Rattle.places.specs.declared.places.Places.{Places}
use Rattle.places.specs.Contents.{depth}
use Rattle.places.specs.Tables.{holds, Under, Extends}
use Rattle.places.proofs.Standing.{stands_used}
use Rattle.places.proofs.Extending.{stays, then, stands_still, under_higher, under_still}
use Rattle.building.specs.Work.{model}
use Rattle.building.specs.Operations.{combine_key}
use Rattle.building.specs.Parts.{crossing, NoHigher, Parted, Joined}
use Rattle.building.specs.Shortcuts.{floor, Quickly}
use Rattle.building.specs.Calls.{Finished, Combined, Unknown, Closed}
use Rattle.building.proofs.Seeing.{stands_seen}
use Rattle.building.proofs.Finishing.{Way, way_start, way_step, way_stop, way_end, put_joined, found_stands, sound_zero}
use Rattle.building.proofs.Beginning.{rooted, good_of, combine_keyed}

module _ (K : Kind) (L : Layout) where
  -- Where an operand stands on a level, the places tell the level on which a combination splits.
  level_is : Lawful K L → (t : Places) (a b : ℕ) (d e : Diagram) → Stands (holds t) d a → Stands (holds t) e b → min (top L d) (top L e) < L.size
      → floor t a b ≡ min (top L d) (top L e)
  level_is ok t a b (leaf u) (leaf v) p q h = absurd (omega arith)
  level_is ok t a b (leaf u) (node m x y) p q h = omega (arith, ap depth p, ap depth q.2, ok.valid.most)
  level_is ok t a b (node l x y) (leaf v) p q h = omega (arith, ap depth p.2, ap depth q, ok.valid.most)
  level_is ok t a b (node l x y) (node m x' y') p q h = omega (arith, ap depth p.2, ap depth q.2)

  -- A handle of a diagram that is good from level l on stands there or deeper.
  pub under_good : (t : Places) (l : ℕ) → l ≤ 32 → (d : Diagram) (h : ℕ) → Good K L l d → Stands (holds t) d h → Under t l h
  under_good t l b (leaf v) h g p = record { used = stands_used (holds t) (leaf v) h p; level = omega (arith, ap depth p) }
  under_good t l b (node m x y) h g p = record { used = stands_used (holds t) (node m x y) h p; level = omega (arith, ap depth p.2, g.0) }

  -- Part by part, or crosswise.
  crossed_not : (la ha lb hb : Diagram) (s : Decomposition) (o : Operation) → crossing s o ≡ false
      → (high_call K L la ha lb hb s o ≡ combine o ha hb) × (on_the_way K L la ha lb hb s o ≡ [])
  crossed_not la ha lb hb s sum e = (refl, refl)
  crossed_not la ha lb hb s difference e = (refl, refl)
  crossed_not la ha lb hb shannon product e = (refl, refl)
  crossed_not la ha lb hb positive product e = absurd (false≢true (sym e))
  crossed_not la ha lb hb negative product e = absurd (false≢true (sym e))

  crossed_so : (la ha lb hb : Diagram) (s : Decomposition) (o : Operation) → crossing s o ≡ true
      → (high_call K L la ha lb hb s o ≡ combine sum (result K L (crossed K L la ha lb hb)) (result K L (combine product ha hb)))
      × (on_the_way K L la ha lb hb s o ≡ combine product la hb ∷ combine product ha lb ∷ crossed K L la ha lb hb ∷ combine product ha hb ∷ [])
  crossed_so la ha lb hb s sum e = absurd (false≢true e)
  crossed_so la ha lb hb s difference e = absurd (false≢true e)
  crossed_so la ha lb hb shannon product e = absurd (false≢true e)
  crossed_so la ha lb hb positive product e = (refl, refl)
  crossed_so la ha lb hb negative product e = (refl, refl)

  -- The calls into which a combination splits at level l.
  abbrev pieces : ℕ → Operation → Diagram → Diagram → List Task
  pieces l o d e = low_part K L l o d e ∷ high_part K L l o d e ∷ on_the_way K L (low K L l d) (high K L l d) (low K L l e) (high K L l e) (L.type l) o

-- A combination of a and b that splits at level l into the parts (la, ha) and (lb, hb): it is no shortcut, and the store has no answer to trust.
pub record Basis (K : Kind) (L : Layout) (o : Operation) (a b : ℕ) (t : Places) (f : Entries) (l la ha lb hb : ℕ) : Type 0 where
  pub small : l < 32
  pub level : l ≡ floor t a b
  pub first : Parted L t l a la ha
  pub second : Parted L t l b lb hb
  pub split : Quickly K t o a b None
  pub missed : (x : ℕ) → f (combine_key o a b) ≡ Some x → Under t l x → ⊥

pub basis : {K : Kind} {L : Layout} {o : Operation} {a b : ℕ} {t : Places} {f : Entries} {l la ha lb hb : ℕ} → l ≡ floor t a b → Unknown K o a b t f
    → Parted L t l a la ha → Parted L t l b lb hb → Basis K L o a b t f l la ha lb hb
basis {t = t} level unknown first second = record {
  small = omega (arith, level, unknown.split.safe);
  level = level;
  first = first;
  second = second;
  split = unknown.split;
  missed = λ x e under. unknown.missed x e (subst (λ n. Under t n x) level under);
}

-- What the handles a and b stand for, on a sound table.
record Case (K : Kind) (L : Layout) (a b : ℕ) (t : Places) (f : Entries) : Type 0 where
  ok : Lawful K L
  d : Diagram
  e : Diagram
  sd : Stands (holds t) d a
  se : Stands (holds t) e b
  phase : Phase
  sound : Sound K L (model L f phase t)

module _ {K : Kind} {L : Layout} {o : Operation} {a b : ℕ} {t : Places} {f : Entries} {l la ha lb hb : ℕ} (B : Basis K L o a b t f l la ha lb hb) where
  module _ (C : Case K L a b t f) where
    open C use {ok, d, e, sd, se, phase, sound}

    abbrev task : Task
    task = combine o d e

    abbrev before : Model
    before = model L f phase t

    abbrev m : ℕ
    m = min (top L d) (top L e)

    split : quick K o d e ≡ none
    split = B.split.short (rooted f phase t sound) d e sd se

    fit : Fit K L 0 task
    fit = (good_of f phase t sound d a sd, good_of f phase t sound e b se)

    within : m < L.size
    within = subst (Right ok o d e) split (right ok o d e fit.0 fit.1)

    level : l ≡ m
    level = B.level ∙ level_is K L ok t a b d e sd se within

    fit_here : Fit K L l task
    fit_here = (
      good_up ok l (top L d) d (omega (arith, level)) (top_good ok d fit.0),
      good_up ok l (top L e) e (omega (arith, level)) (top_good ok e fit.1),
    )

    long : shortcut K L task ≡ false
    long = ap (λ s. is_short (way_to_combine K L o d e s)) split

    pieces_are : smaller K L task ≡ pieces K L l o d e
    pieces_are = ap (λ s. smaller_of (way_to_combine K L o d e s)) split ∙ ap (λ n. pieces K L n o d e) (sym level)

    made_is : make K L l (result K L (low_part K L l o d e)) (result K L (high_part K L l o d e)) ≡ result K L task
    made_is =
        ap (λ n. make K L n (result K L (low_part K L n o d e)) (result K L (high_part K L n o d e))) level
        ∙ sym (ap (λ s. composed_of K L (way_to_combine K L o d e s)) split) ∙ builds K L ok task fit

    -- The store has no answer: one would stand deep enough to be trusted.
    absent : (x : ℕ) → f (combine_key o a b) ≡ Some x → ⊥
    absent x found =
        let here = found_stands before task (combine_key o a b) x sound fit (combine_keyed L f phase t o d e a b sd se) found in
        B.missed x found
        (under_good K L t l (omega (arith, B.small)) (result K L task) x (answer_good ok l task fit_here (omega (arith, level, within)))
        (stands_seen L f phase t (result K L task) x here))

    mem_low : Memᴰ (low_part K L l o d e) (smaller K L task)
    mem_low = subst (Memᴰ (low_part K L l o d e)) (sym pieces_are) (Memᴰ.head refl)

    mem_high : Memᴰ (high_part K L l o d e) (smaller K L task)
    mem_high = subst (Memᴰ (high_part K L l o d e)) (sym pieces_are) (Memᴰ.tail (Memᴰ.head refl))

    mem_way : (part : Task) → Memᴰ part (on_the_way K L (low K L l d) (high K L l d) (low K L l e) (high K L l e) (L.type l) o) → Memᴰ part (smaller K L task)
    mem_way part i = subst (Memᴰ part) (sym pieces_are) (Memᴰ.tail (Memᴰ.tail i))

    at_a : Stands (holds t) (low K L l d) la × Stands (holds t) (high K L l d) ha
    at_a = B.first.stand K (sound_zero f phase t sound) d sd

    at_b : Stands (holds t) (low K L l e) lb × Stands (holds t) (high K L l e) hb
    at_b = B.second.stand K (sound_zero f phase t sound) e se

  abbrev On : Type 0
  On = Case K L a b t f

  -- The work so far: in each case the calls A were worked.
  record Stage (A : On → List Task) (u : Places) (g : Entries) : Type 0 where
    kept : Extends t u
    way : (C : On) → Way K L (task C) (A C) (before C) (model L g C.phase u)

  -- The handles x and y stand for the operands of a smaller call.
  record Piece (p : Operation) (x y : ℕ) (u : Places) (dx dy : On → Diagram) : Type 0 where
    left : (C : On) → Stands (holds u) (dx C) x
    right : (C : On) → Stands (holds u) (dy C) y
    part : (C : On) → Memᴰ (combine p (dx C) (dy C)) (smaller K L (task C))

  started : Stage (λ C. []) t f
  started = record { kept = stays t; way = λ C. way_start (task C) (before C) C.sound }

  -- A smaller call comes next.
  module _ {A : On → List Task} {u v : Places} {g h : Entries} {p : Operation} {x y : ℕ} {dx dy : On → Diagram} (s : Stage A u g) (q : Piece p x y u dx dy) where
    came : {r : Option ℕ} → Combined K L p x y u v g h r → (C : On)
        → Finished K L (combine p (dx C) (dy C)) (combine_key p x y) (model L g C.phase u) (model L h C.phase v) r
    came w C = w.done C.ok (dx C) (dy C) (q.left C) (q.right C) C.phase (s.way C).sound

    stepped : {n : ℕ} → Combined K L p x y u v g h (Some n) → Stage (λ C. combine p (dx C) (dy C) ∷ A C) v h
    stepped w = record {
      kept = then s.kept w.kept;
      way = λ C. way_step (task C) (s.way C) (combine p (dx C) (dy C)) (q.part C) C.ok (fit C) (model L h C.phase v) (came w C).worked;
    }

    -- What it answers stands for its result.
    made : {n : ℕ} → Combined K L p x y u v g h (Some n) → (C : On) → Stands (holds v) (result K L (combine p (dx C) (dy C))) n
    made {n} w C = stands_seen L h C.phase v (result K L (combine p (dx C) (dy C))) n (came w C).stands

    stopped : Combined K L p x y u v g h None → Combined K L o a b t v f h None
    stopped w = record {
      kept = then s.kept w.kept;
      inside = tt;
      done = λ ok d e sd se phase sound.
          let C : On = record { ok = ok; d = d; e = e; sd = sd; se = se; phase = phase; sound = sound } in
          way_stop (task C) (s.way C) (combine p (dx C) (dy C)) (q.part C) (came w C);
    }

  -- All smaller calls were worked, and the node of their answers was asked for.
  ended : {A : On → List Task} {u v : Places} {g h : Entries} {x y : ℕ} {r : Option ℕ} → Stage A u g
      → ((C : On) → AllByRecursion (λ part. Memᴰ part (A C)) (pieces K L l o C.d C.e))
      → ((C : On) → Stands (holds u) (result K L (low_part K L l o C.d C.e)) x)
      → ((C : On) → Stands (holds u) (result K L (high_part K L l o C.d C.e)) y)
      → Joined L u v l x y r → (k : Key) → k ≡ combine_key o a b → Closed g h k r → Combined K L o a b t v f h r
  ended {A} {u} {v} {g} {h} {x} {y} {r} s has low_here high_here j k keyed close = record {
    kept = then s.kept j.kept;
    inside = subst (λ n. NoHigher v n r) B.level j.inside;
    done = λ ok d e sd se phase sound.
        let C : On = record { ok = ok; d = d; e = e; sd = sd; se = se; phase = phase; sound = sound } in
        way_end (task C) g h phase u v (combine_key o a b) (s.way C)
        (λ part q. all_mem (λ part. Memᴰ part (A C)) (smaller K L (task C)) (subst (AllByRecursion (λ part. Memᴰ part (A C))) (sym (pieces_are C)) (has C)) q)
        (long C) (combine_keyed L f phase t o d e a b sd se) (absent C) r
        (put_joined K L (task C) g phase u (s.way C).sound v l x y _ _ (low_here C) (high_here C) (made_is C) (answer_good ok 0 (task C) (fit C) (omega arith)) r j)
        (subst (λ i. Closed g h i r) keyed close);
  }

  -- The parts that a smaller call takes, on the places that it finds.
  module _ {u : Places} (x : Extends t u) where
    la_still : (C : On) → Stands (holds u) (low K L l C.d) la
    la_still C = stands_still x _ la (at_a C).0

    ha_still : (C : On) → Stands (holds u) (high K L l C.d) ha
    ha_still C = stands_still x _ ha (at_a C).1

    lb_still : (C : On) → Stands (holds u) (low K L l C.e) lb
    lb_still C = stands_still x _ lb (at_b C).0

    hb_still : (C : On) → Stands (holds u) (high K L l C.e) hb
    hb_still C = stands_still x _ hb (at_b C).1

  piece1 : Piece o la lb t (λ C. low K L l C.d) (λ C. low K L l C.e)
  piece1 = record { left = la_still (stays t); right = lb_still (stays t); part = mem_low }

  pub stop1 : {t1 : Places} {f1 : Entries} → Combined K L o la lb t t1 f f1 None → Combined K L o a b t t1 f f1 None
  stop1 = stopped started piece1

  module _ {t1 : Places} {f1 : Entries} {x1 : ℕ} (w1 : Combined K L o la lb t t1 f f1 (Some x1)) where
    abbrev calls1 : On → List Task
    calls1 C = low_part K L l o C.d C.e ∷ []

    stage1 : Stage calls1 t1 f1
    stage1 = stepped started piece1 w1

    -- Part by part.
    module _ (n : crossing (L.type l) o ≡ false) where
      plain : (C : On) → (high_part K L l o C.d C.e ≡ combine o (high K L l C.d) (high K L l C.e))
          × (on_the_way K L (low K L l C.d) (high K L l C.d) (low K L l C.e) (high K L l C.e) (L.type l) o ≡ [])
      plain C = crossed_not K L _ _ _ _ (L.type l) o n

      piece : Piece o ha hb t1 (λ C. high K L l C.d) (λ C. high K L l C.e)
      piece = record {
        left = ha_still w1.kept;
        right = hb_still w1.kept;
        part = λ C. subst (λ p. Memᴰ p (smaller K L (task C))) (plain C).0 (mem_high C);
      }

      pub high_stop : {t2 : Places} {f2 : Entries} → Combined K L o ha hb t1 t2 f1 f2 None → Combined K L o a b t t2 f f2 None
      high_stop = stopped stage1 piece

      pub both : {t2 u : Places} {f2 g : Entries} {x2 : ℕ} {r : Option ℕ} → Combined K L o ha hb t1 t2 f1 f2 (Some x2)
          → Joined L t2 u l x1 x2 r → (k : Key) → k ≡ combine_key o a b → Closed f2 g k r → Combined K L o a b t u f g r
      both {t2} {u} {f2} {g} {x2} {r} w2 = ended (stepped stage1 piece w2) (λ C.
          let P : Task → Type 0 = λ part. Memᴰ part (combine o (high K L l C.d) (high K L l C.e) ∷ low_part K L l o C.d C.e ∷ []) in
          (Memᴰ.tail (Memᴰ.head refl), (Memᴰ.head (plain C).0, subst (AllByRecursion P) (sym (plain C).1) tt)))
          (λ C. stands_still w2.kept _ x1 (made started piece1 w1 C))
          (λ C. subst (λ p. Stands (holds t2) (result K L p) x2) (sym (plain C).0) (made stage1 piece w2 C))

    -- Crosswise.
    module _ (n : crossing (L.type l) o ≡ true) where
      abbrev la·hb : On → Task
      la·hb C = combine product (low K L l C.d) (high K L l C.e)

      abbrev ha·lb : On → Task
      ha·lb C = combine product (high K L l C.d) (low K L l C.e)

      abbrev ha·hb : On → Task
      ha·hb C = combine product (high K L l C.d) (high K L l C.e)

      abbrev mixed : On → Task
      mixed C = combine sum (result K L (la·hb C)) (result K L (ha·lb C))

      abbrev last : On → Task
      last C = combine sum (result K L (mixed C)) (result K L (ha·hb C))

      cross : (C : On) → (high_part K L l o C.d C.e ≡ last C)
          × (on_the_way K L (low K L l C.d) (high K L l C.d) (low K L l C.e) (high K L l C.e) (L.type l) o ≡ la·hb C ∷ ha·lb C ∷ mixed C ∷ ha·hb C ∷ [])
      cross C = crossed_so K L _ _ _ _ (L.type l) o n

      on_way : (C : On) (part : Task) → Memᴰ part (la·hb C ∷ ha·lb C ∷ mixed C ∷ ha·hb C ∷ []) → Memᴰ part (smaller K L (task C))
      on_way C part i = mem_way C part (subst (Memᴰ part) (sym (cross C).1) i)

      piece2 : Piece product la hb t1 (λ C. low K L l C.d) (λ C. high K L l C.e)
      piece2 = record { left = la_still w1.kept; right = hb_still w1.kept; part = λ C. on_way C _ (Memᴰ.head refl) }

      pub stop2 : {t2 : Places} {f2 : Entries} → Combined K L product la hb t1 t2 f1 f2 None → Combined K L o a b t t2 f f2 None
      stop2 = stopped stage1 piece2

      module _ {t2 : Places} {f2 : Entries} {x2 : ℕ} (w2 : Combined K L product la hb t1 t2 f1 f2 (Some x2)) where
        abbrev calls2 : On → List Task
        calls2 C = la·hb C ∷ calls1 C

        stage2 : Stage calls2 t2 f2
        stage2 = stepped stage1 piece2 w2

        piece3 : Piece product ha lb t2 (λ C. high K L l C.d) (λ C. low K L l C.e)
        piece3 = record { left = ha_still stage2.kept; right = lb_still stage2.kept; part = λ C. on_way C _ (Memᴰ.tail (Memᴰ.head refl)) }

        pub stop3 : {t3 : Places} {f3 : Entries} → Combined K L product ha lb t2 t3 f2 f3 None → Combined K L o a b t t3 f f3 None
        stop3 = stopped stage2 piece3

        module _ {t3 : Places} {f3 : Entries} {x3 : ℕ} (w3 : Combined K L product ha lb t2 t3 f2 f3 (Some x3)) where
          abbrev calls3 : On → List Task
          calls3 C = ha·lb C ∷ calls2 C

          stage3 : Stage calls3 t3 f3
          stage3 = stepped stage2 piece3 w3

          piece4 : Piece sum x2 x3 t3 (λ C. result K L (la·hb C)) (λ C. result K L (ha·lb C))
          piece4 = record {
            left = λ C. stands_still w3.kept _ x2 (made stage1 piece2 w2 C);
            right = made stage2 piece3 w3;
            part = λ C. on_way C _ (Memᴰ.tail (Memᴰ.tail (Memᴰ.head refl)));
          }

          pub stop4 : {t4 : Places} {f4 : Entries} → Combined K L sum x2 x3 t3 t4 f3 f4 None → Combined K L o a b t t4 f f4 None
          stop4 = stopped stage3 piece4

          module _ {t4 : Places} {f4 : Entries} {x4 : ℕ} (w4 : Combined K L sum x2 x3 t3 t4 f3 f4 (Some x4)) where
            abbrev calls4 : On → List Task
            calls4 C = mixed C ∷ calls3 C

            stage4 : Stage calls4 t4 f4
            stage4 = stepped stage3 piece4 w4

            piece5 : Piece product ha hb t4 (λ C. high K L l C.d) (λ C. high K L l C.e)
            piece5 = record {
              left = ha_still stage4.kept;
              right = hb_still stage4.kept;
              part = λ C. on_way C _ (Memᴰ.tail (Memᴰ.tail (Memᴰ.tail (Memᴰ.head refl))));
            }

            pub stop5 : {t5 : Places} {f5 : Entries} → Combined K L product ha hb t4 t5 f4 f5 None → Combined K L o a b t t5 f f5 None
            stop5 = stopped stage4 piece5

            module _ {t5 : Places} {f5 : Entries} {x5 : ℕ} (w5 : Combined K L product ha hb t4 t5 f4 f5 (Some x5)) where
              abbrev calls5 : On → List Task
              calls5 C = ha·hb C ∷ calls4 C

              stage5 : Stage calls5 t5 f5
              stage5 = stepped stage4 piece5 w5

              piece6 : Piece sum x4 x5 t5 (λ C. result K L (mixed C)) (λ C. result K L (ha·hb C))
              piece6 = record {
                left = λ C. stands_still w5.kept _ x4 (made stage3 piece4 w4 C);
                right = made stage4 piece5 w5;
                part = λ C. subst (λ p. Memᴰ p (smaller K L (task C))) (cross C).0 (mem_high C);
              }

              pub stop6 : {t6 : Places} {f6 : Entries} → Combined K L sum x4 x5 t5 t6 f5 f6 None → Combined K L o a b t t6 f f6 None
              stop6 = stopped stage5 piece6

              pub all_six : {t6 u : Places} {f6 g : Entries} {x6 : ℕ} {r : Option ℕ} → Combined K L sum x4 x5 t5 t6 f5 f6 (Some x6)
                  → Joined L t6 u l x1 x6 r → (k : Key) → k ≡ combine_key o a b → Closed f6 g k r → Combined K L o a b t u f g r
              all_six {t6} {u} {f6} {g} {x6} {r} w6 = ended (stepped stage5 piece6 w6) has
                  (λ C. stands_still (then w2.kept (then w3.kept (then w4.kept (then w5.kept w6.kept)))) _ x1 (made started piece1 w1 C))
                  (λ C. subst (λ p. Stands (holds t6) (result K L p) x6) (sym (cross C).0) (made stage5 piece6 w6 C))
                where
                  has : (C : On) → AllByRecursion (λ part. Memᴰ part (last C ∷ calls5 C)) (pieces K L l o C.d C.e)
                  has C =
                      let P : Task → Type 0 = λ part. Memᴰ part (last C ∷ calls5 C) in
                      let at1 : P (ha·hb C) = Memᴰ.tail (Memᴰ.head refl) in
                      let at2 : P (mixed C) = Memᴰ.tail (Memᴰ.tail (Memᴰ.head refl)) in
                      let at3 : P (ha·lb C) = Memᴰ.tail (Memᴰ.tail (Memᴰ.tail (Memᴰ.head refl))) in
                      let at4 : P (la·hb C) = Memᴰ.tail (Memᴰ.tail (Memᴰ.tail (Memᴰ.tail (Memᴰ.head refl)))) in
                      let at5 : P (low_part K L l o C.d C.e) = Memᴰ.tail (Memᴰ.tail (Memᴰ.tail (Memᴰ.tail (Memᴰ.tail (Memᴰ.head refl))))) in
                      (at5, (Memᴰ.head (cross C).0, subst (AllByRecursion P) (sym (cross C).1) (at4, (at3, (at2, (at1, tt))))))

-- Whether the parts are taken crosswise, by the type of the level.
pub crosses_by : (o : Operation) {s r : Decomposition} {yes : Bool} → yes ≡ crossing s o → s ≡ r → crossing r o ≡ yes
crosses_by o e q = sym (e ∙ ap (λ s. crossing s o) q)

-- Both handles stand deeper than a level.
abbrev pub BothBelow : Places → ℕ → ℕ → ℕ → Type 0
BothBelow t l x y = Under t (l + 1) x × Under t (l + 1) y

-- What a smaller call answers stands deeper too.
pub below : {K : Kind} {L : Layout} {p : Operation} (l : ℕ) {x y n : ℕ} {t u : Places} {f g : Entries} → BothBelow t l x y
    → Combined K L p x y t u f g (Some n) → Under u (l + 1) n
below l q w = under_higher (omega (arith, q.0.level, q.1.level)) w.inside

-- So do the operands of each smaller call, on the places that it finds.
module _ {K : Kind} {L : Layout} {o : Operation} {a b : ℕ} {t : Places} {f : Entries} {l la ha lb hb : ℕ} (B : Basis K L o a b t f l la ha lb hb) where
  low_below : BothBelow t l la lb
  low_below = (B.first.below_low, B.second.below_low)

  pub high_below : {u : Places} → Extends t u → BothBelow u l ha hb
  high_below x = (under_still x _ ha B.first.below_high, under_still x _ hb B.second.below_high)

  module _ {t1 : Places} {f1 : Entries} {x1 : ℕ} (w1 : Combined K L o la lb t t1 f f1 (Some x1)) where
    pub below2 : BothBelow t1 l la hb
    below2 = (under_still w1.kept _ la B.first.below_low, under_still w1.kept _ hb B.second.below_high)

    pub plain_below : {t2 : Places} {f2 : Entries} {x2 : ℕ} → Combined K L o ha hb t1 t2 f1 f2 (Some x2) → BothBelow t2 l x1 x2
    plain_below w2 = (under_still w2.kept _ x1 (below l low_below w1), below l (high_below w1.kept) w2)

    module _ {t2 : Places} {f2 : Entries} {x2 : ℕ} (w2 : Combined K L product la hb t1 t2 f1 f2 (Some x2)) where
      to2 : Extends t t2
      to2 = then w1.kept w2.kept

      pub below3 : BothBelow t2 l ha lb
      below3 = (under_still to2 _ ha B.first.below_high, under_still to2 _ lb B.second.below_low)

      module _ {t3 : Places} {f3 : Entries} {x3 : ℕ} (w3 : Combined K L product ha lb t2 t3 f2 f3 (Some x3)) where
        pub below4 : BothBelow t3 l x2 x3
        below4 = (
          under_still w3.kept _ x2 (below l below2 w2),
          below l below3 w3,
        )

        module _ {t4 : Places} {f4 : Entries} {x4 : ℕ} (w4 : Combined K L sum x2 x3 t3 t4 f3 f4 (Some x4)) where
          pub below5 : BothBelow t4 l ha hb
          below5 = high_below (then to2 (then w3.kept w4.kept))

          module _ {t5 : Places} {f5 : Entries} {x5 : ℕ} (w5 : Combined K L product ha hb t4 t5 f4 f5 (Some x5)) where
            pub below6 : BothBelow t5 l x4 x5
            below6 = (under_still w5.kept _ x4 (below l below4 w4), below l below5 w5)

            pub crossed_below : {t6 : Places} {f6 : Entries} {x6 : ℕ} → Combined K L sum x4 x5 t5 t6 f5 f6 (Some x6) → BothBelow t6 l x1 x6
            crossed_below w6 = (
              under_still (then w2.kept (then w3.kept (then w4.kept (then w5.kept w6.kept)))) _ x1 (below l low_below w1),
              below l below6 w6,
            )
