-- The ledger has the counts of the table, and its book nothing but live handles with their rules. Assumes nothing.
use Rattle.std.proofs.Common.{◌≡◌, ℕ, zero, suc, ◌+◌, ◌-◌, ◌≤◌, Bool, true, false, cond, ◌||◌, eqb, ltb, leb, ◌⊎◌, [], Some, None, Option, sym, refl, ap, ◌∙◌, subst, ap₂, inl, inr, arith}
use native.Mathlib.Decide.{dec_lt}
use Rattle.std.proofs.lemmas.Bool.{cond_both, or_cases, eqb-true, eqb-false, leb-true, ltb-true}
use Rattle.diagrams.specs.Kinds.{Kind}
use Rattle.diagrams.specs.Layouts.{Layout, put}
use Rattle.diagrams.specs.Diagrams.{Lawful, Diagram, leaf, rule}
use Rattle.diagrams.specs.Tasks.{Task, act, meaning}
use Rattle.diagrams.specs.Places.{Place}
use Rattle.diagrams.specs.Reading.{read_sheet, drawn}
use Rattle.diagrams.proofs.Bits.{put_below}
use Rattle.diagrams.proofs.Whole.{writes_back}
use Rattle.histories.specs.Builds.{Build, constant, mark, combine, restrict}
use Rattle.histories.specs.Tables.{Model, content, count, StandsFor, Agree, HasRule, Made}
use Rattle.histories.specs.Requests.{Call, build, read, hold, let_go, sweep, look, release, reopen, Asked, Reply, gives, refused, accepts, Answer}
use Rattle.histories.specs.Steps.{Means, Faultless, Reached, from_zero, from_one, from_held, PlacesStay, Gains, Counted, Swept, faults, Does, Step}
use Rattle.histories.specs.Books.{Book, Ledger, changed, entered, struck, with_one, with_two, built_rule, sheet_rule, noted, first_book, ledger}
use Rattle.histories.proofs.Sound.{Sound}
use Rattle.histories.proofs.Standing.{free?, same_count, stay_place, rule_stands, rule_moves}
use Rattle.histories.proofs.Pigeons.{parts_fit}
use Rattle.histories.proofs.Faults.{restricted_mark, restricted_constant}
use Rattle.histories.proofs.Made.{none_some, made_counts}
use Rattle.histories.proofs.Keeping.{Moves, same_moves, stay_moves, counted_content, gains_moves, swept_stands}

inj : {A : Type 0} {x y : A} → ◌≡◌ {A = Option A} (Some x) (Some y) → x ≡ y
inj e = cc

-- What a book has after a change, after a strike, and from one or two others.
in_changed : (h : ℕ) (u : ℕ → ℕ) (B : Book) (g : ℕ) (f : ℕ → ℕ) → changed h (Some u) B g ≡ Some f → ((g ≡ h) × (u ≡ f)) ⊎ (B g ≡ Some f)
in_changed h u B g f =
    cond_both (eqb g h) (Some u) (B g) (λ o. o ≡ Some f → ((g ≡ h) × (u ≡ f)) ⊎ (B g ≡ Some f))
    (λ t e. inl (eqb-true g h t, inj e)) (λ t e. inr e)

in_struck : (times : ℕ → ℕ) (B : Book) (h : ℕ) (f : ℕ → ℕ) → struck times B h ≡ Some f → ((leb h 1 || ltb 0 (times h)) ≡ true) × (B h ≡ Some f)
in_struck times B h f =
    cond_both (leb h 1 || ltb 0 (times h)) (B h) None (λ o. o ≡ Some f → ((leb h 1 || ltb 0 (times h)) ≡ true) × (B h ≡ Some f))
    (λ t e. (t, e)) (λ t e. absurd (none_some e))

one_part : (op : (ℕ → ℕ) → ℕ → ℕ) (u : Option (ℕ → ℕ)) (f : ℕ → ℕ) → with_one op u ≡ Some f → (p : ℕ → ℕ) × (u ≡ Some p) × (op p ≡ f)
one_part op None f e = absurd (none_some e)
one_part op (Some p) f e = (p, refl, inj e)

two_parts : (op : (ℕ → ℕ) → (ℕ → ℕ) → ℕ → ℕ) (u v : Option (ℕ → ℕ)) (f : ℕ → ℕ) → with_two op u v ≡ Some f
    → (p : ℕ → ℕ) × (q : ℕ → ℕ) × (u ≡ Some p) × (v ≡ Some q) × (op p q ≡ f)
two_parts op None v f e = absurd (none_some e)
two_parts op (Some p) None f e = absurd (none_some e)
two_parts op (Some p) (Some q) f e = (p, q, refl, refl, inj e)

low_reached : (m : Model) (h : ℕ) → h ≤ 1 → Reached m h
low_reached m zero l = from_zero refl
low_reached m (suc zero) l = from_one refl
low_reached m (suc (suc h)) l = absurd (omega arith)

module _ (K : Kind) (L : Layout) where
  -- What a ledger says is true of a table.
  pub record Fits (m : Model) (G : Ledger) : Type 0 where
    pub counts : (h : ℕ) → count m h ≡ G.times h
    pub rules : (h : ℕ) (f : ℕ → ℕ) → G.book h ≡ Some f → HasRule K L m h f

  pub made_fits : (m : Model) (c : ℕ) → Made K L c m → Fits m (ledger K L [])
  made_fits m c made = record { counts = made_counts m c made; rules = first }
    where
      first : (h : ℕ) (f : ℕ → ℕ) → first_book K L h ≡ Some f → HasRule K L m h f
      first zero f e = (leaf K.zero, ap (λ (p : Place). p.content) made.zero, λ w _. ap (λ g. g w) (inj e))
      first (suc zero) f e = (leaf K.one, ap (λ (p : Place). p.content) made.one, λ w _. ap (λ g. g w) (inj e))
      first (suc (suc h)) f e = absurd (none_some e)

  module _ (m : Model) (q : Asked) (B : Book) (known : (h : ℕ) (f : ℕ → ℕ) → B h ≡ Some f → HasRule K L m h f) where
    operand : (x : ℕ) (p : ℕ → ℕ) → B x ≡ Some p → (d : Diagram) → StandsFor m d x → Agree L (rule K L d) p
    operand x p e d st = rule_stands K L m d x p st (known x p e)

    -- The book's rule of a building call is what the call means.
    built_meets : (b : Build) (task : Task) → Means m b task → Faultless (faults K L m q (build b)) → (f : ℕ → ℕ) → built_rule K L b B ≡ Some f
        → Agree L (meaning K L task) f
    built_meets (constant v) task s fl f e w k = ap (λ t. meaning K L t w) s ∙ ap (λ g. g w) (inj e)
    built_meets (mark i) task s fl f e w k = ap (λ t. meaning K L t w) s ∙ ap (λ g. g w) (inj e)
    built_meets (combine o x y) task s fl f e w k =
        let t = two_parts (λ f g fruit. act K o (f fruit) (g fruit)) (B x) (B y) f e in
        ap (λ t. meaning K L t w) s.4
        ∙ ap₂ (act K o) (operand x t.0 t.2 s.0 s.2 w k) (operand y t.1 t.3 s.1 s.3 w k)
        ∙ ap (λ g. g w) t.4
    built_meets (restrict x i v) task s fl f e w k =
        let t = one_part (λ f fruit. f (put i v fruit)) (B x) f e in
        ap (λ t. meaning K L t w) s.2
        ∙ operand x t.0 t.1 s.0 s.1 (put i v w)
        (put_below L.size i v w (restricted_constant K L m q x i v fl) (restricted_mark K L m q x i v fl) k)
        ∙ ap (λ g. g w) t.2

  module _ (m n : Model) (G : Ledger) (was : Fits m G) where
    moved : Moves m n → (h : ℕ) (f : ℕ → ℕ) → G.book h ≡ Some f → HasRule K L n h f
    moved move h f e = rule_moves K L m n h f (λ d. move d h) (was.rules h f e)

    stays_fits : PlacesStay m n → Fits n G
    stays_fits stay = record {
      counts = λ h. same_count m n h (stay_place m n stay h) ∙ was.counts h;
      rules = moved (stay_moves m n stay);
    }

    counted_fits : (g x : ℕ) → Counted m g x n → Fits n (record { book = G.book; times = changed g x G.times })
    counted_fits g x s = record {
      counts = λ h. cond_both (eqb h g) x (G.times h) (λ z. count n h ≡ z)
          (λ t. ap (count n) (eqb-true h g t) ∙ ap (λ (p : Place). p.count) s.here)
          (λ t. same_count m n h (s.elsewhere h (eqb-false h g t)) ∙ was.counts h);
      rules = moved (same_moves m n (counted_content m n g x s));
    }

    -- A handle was answered, and entered with its rule if there is one.
    enters : Sound K L m → (g : ℕ) (r : Option (ℕ → ℕ)) (P : Diagram → Type 0) → Gains m n P → ((f : ℕ → ℕ) → r ≡ Some f → HasRule K L n g f)
        → Fits n (record { book = entered (gives g) r G.book; times = G.times })
    enters sound g r P gains here = record { counts = counts; rules = rules r here }
      where
        counts : (h : ℕ) → count n h ≡ G.times h
        counts h =
            elim (free? (content m h)) [
              | yes e ↦ gains.started h (λ live. live e) ∙ sym (sound.unheld h e) ∙ was.counts h
              | no e ↦ same_count m n h (gains.kept h e) ∙ was.counts h
            ]

        rules : (r : Option (ℕ → ℕ)) → ((f : ℕ → ℕ) → r ≡ Some f → HasRule K L n g f)
            → (h : ℕ) (f : ℕ → ℕ) → entered (gives g) r G.book h ≡ Some f → HasRule K L n h f
        rules None here h f e = moved (gains_moves m n P gains) h f e
        rules (Some u) here h f e =
            elim (in_changed g u G.book h f e) [
              | inl t ↦ subst (λ x. HasRule K L n x f) (sym t.0) (here f (ap Some t.1))
              | inr t ↦ moved (gains_moves m n P gains) h f t
            ]

    swept_fits : (x : ℕ) → Swept m x n → Fits n (record { book = struck G.times G.book; times = G.times })
    swept_fits x s = record { counts = counts; rules = rules }
      where
        counts : (h : ℕ) → count n h ≡ G.times h
        counts h =
            elim (s.each h) [
              | inl q ↦ same_count m n h q.1 ∙ was.counts h
              | inr q ↦ elim (dec_lt 0 (count m h)) [
                | yes l ↦ absurd (q.0 (from_held l))
                | no l ↦ let gone : count n h ≡ 0 = ap (λ (p : Place). p.count) q.1 in omega (arith, gone, was.counts h)
              ]
            ]

        left : (h : ℕ) → (leb h 1 || ltb 0 (G.times h)) ≡ true → Reached m h
        left h t =
            elim (or_cases (leb h 1) (ltb 0 (G.times h)) t) [
              | inl l ↦ low_reached m h (leb-true h 1 l)
              | inr l ↦ from_held (omega (arith, ltb-true 0 (G.times h) l, was.counts h))
            ]

        rules : (h : ℕ) (f : ℕ → ℕ) → struck G.times G.book h ≡ Some f → HasRule K L n h f
        rules h f e =
            let t = in_struck G.times G.book h f e in
            rule_moves K L m n h f (λ d. swept_stands m n x s d h (left h t.0)) (was.rules h f t.1)

    module _ (ok : Lawful K L) (before : Sound K L m) (after : Sound K L n) (q : Asked) (a : Answer) where
      -- The ledger after a call with the reply r.
      abbrev written : Call → Reply → Ledger
      written c r = cond (accepts r) (noted K L c r G) G

      given : (c : Call) (r : Reply) → a.reply ≡ r → Fits n (written c r) → Fits n (written c a.reply)
      given c r e fits = subst (λ u. Fits n (written c u)) (sym e) fits

      either : (b : Bool) → Fits n G → Fits n (cond b G G)
      either true fits = fits
      either false fits = fits

      does_fits : (c : Call) → Faultless (faults K L m q c) → Does K L m q c a n → Fits n (written c a.reply)
      does_fits (build b) fl s =
          let built = s.2 in
          given (build b) (gives s.0) s.1.0
          (enters before s.0 (built_rule K L b G.book) _ built.worked.gains (λ g t. (
            built.answers.0,
            built.answers.1,
            λ w k. built.answers.2 w k ∙ built_meets m q G.book was.rules b built.task built.means fl g t w k,
          )))
      does_fits (read bs) fl s =
          let taken = s.2 in
          let d = taken.diagram in
          let same : read_sheet K L 4096 bs ≡ drawn d =
          ap (read_sheet K L 4096) taken.written.bytes ∙ writes_back K L 4096 ok (omega arith) d taken.written.good (parts_fit n after d s.0 taken.answers) in
          given (read bs) (gives s.0) s.1.0
          (enters before s.0 (sheet_rule K L (read_sheet K L 4096 bs)) _ taken.gains
          (λ g t. (d, taken.answers, λ v _. ap (λ u. u v) (inj (ap (sheet_rule K L) (sym same) ∙ t)))))
      does_fits (hold g) fl s =
          let more : s.0 ≡ G.times g + 1 = omega (arith, s.3, was.counts g) in
          given (hold g) (gives s.0) s.1.0
          (subst (λ x. Fits n (record { book = G.book; times = changed g x G.times })) more (counted_fits g s.0 s.2))
      does_fits (let_go g) fl s =
          let less : s.0 ≡ G.times g - 1 = omega (arith, s.3, was.counts g) in
          given (let_go g) (gives s.0) s.1.0
          (subst (λ x. Fits n (record { book = G.book; times = changed g x G.times })) less (counted_fits g s.0 s.2))
      does_fits sweep fl s = given sweep (gives s.0) s.1.0 (swept_fits s.0 s.2)
      does_fits (look l) fl s = either (accepts a.reply) (stays_fits s.2)
      does_fits release fl s = either (accepts a.reply) (stays_fits s.2)
      does_fits reopen fl s = either (accepts a.reply) (stays_fits s.2)

      pub step_fits : Step K L m q a n → Fits n (written q.call a.reply)
      step_fits s = elim s.outcome [
        | inl r ↦ does_fits q.call r.faultless r.does
        | inr r ↦ given q.call (refused r.number _ r.byte_place) r.told (stays_fits r.places)
      ]
