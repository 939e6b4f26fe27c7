-- Restrictions: answered at once, by a sum, or from the children. Assumes nothing.
use Rattle.std.proofs.Common.{◌≡◌, ℕ, ◌<◌, ◌≤◌, Bool, true, false, List, [], ◌∷◌, Some, None, Option, sym, refl, ap, ◌∙◌, subst, arith}
use mathlib.Core.List.{Memᴰ}
use Prim.Native.Nat.{compare, Ordering}
use Rattle.std.proofs.lemmas.Bool.{false≢true}
use Rattle.std.specs.Int.{from_bool}
use Rattle.std.specs.List.{AllByRecursion}
use Rattle.diagrams.specs.Kinds.{Kind}
use Rattle.diagrams.specs.Layouts.{Decomposition, shannon, positive, negative, Layout}
use Rattle.diagrams.specs.Diagrams.{Lawful, Diagram, leaf, node, Good, make}
use Rattle.diagrams.specs.Tasks.{Task, combine, sum, restrict, Fit, result}
use Rattle.diagrams.specs.Building.{smaller_of, is_short, composed_of, chosen, choosing, smaller, shortcut}
use Rattle.diagrams.specs.Places.{leaf_word, node_at, Stands}
use Rattle.diagrams.proofs.Results.{answer_good}
use Rattle.diagrams.proofs.Composing.{way_to_restrict, top_good, builds}
use Rattle.diagrams.proofs.Listed.{all_mem}
use Rattle.histories.specs.Stores.{Key, Entries}
use Rattle.histories.specs.Tables.{Phase, Model}
use Rattle.histories.specs.Steps.{Keyed}
use Rattle.histories.proofs.Sound.{Sound}
use Rattle.layouts.specs.declared.turn.Turn.{Turn}
use Rattle.layouts.specs.Turns.{children, chosen as taken}
use Rattle.places.specs.declared.places.Places.{Places}
use Rattle.places.specs.Contents.{depth, in_use}
use Rattle.places.specs.Tables.{holds, Used, Under, Extends, Trusted}
use Rattle.places.proofs.Extending.{stays, then, stands_still, under_higher, node_under}
use Rattle.building.specs.Work.{model}
use Rattle.building.specs.Operations.{restrict_key}
use Rattle.building.specs.Parts.{NoHigher, Joined}
use Rattle.building.specs.Shortcuts.{floor}
use Rattle.building.specs.Calls.{BroughtBack, Finished, Combined, Closed}
use Rattle.building.specs.Restricting.{Restricted}
use Rattle.building.proofs.Seeing.{seen_stands, stands_seen}
use Rattle.building.proofs.Working.{worked_within}
use Rattle.building.proofs.Finishing.{none_held, PartsHeld, put_there, put_joined, worked_plain, finished_short, found_stands, found_answered, Way, way_start, way_step, way_stop, way_end}
use Rattle.building.proofs.Beginning.{good_of}
use Rattle.building.proofs.Splitting.{under_good}

-- The handle is a node of the mark, and the sum of its children x and y answers.
pub record Summed (L : Layout) (i : ℕ) (b : Bool) (h : ℕ) (t : Places) (x y : ℕ) : Type 0 where
  pub node : holds t h ≡ node_at (L.level i) x y
  pub both : taken (L.type (L.level i)) b x y ≡ x ∷ y ∷ []

-- At a node of the mark: the only child that is left answers, or the sum of the two.
abbrev pub AtNode : Kind → Layout → ℕ → Bool → ℕ → Places → Entries → List ℕ → Type 0
AtNode K L i b h t f [] = Unit {0}
AtNode K L i b h t f (n ∷ []) = Restricted K L i (from_bool b) h t t f f (Some n)
AtNode K L i b h t f (x ∷ y ∷ ns) = Summed L i b h t x y

module _ (K : Kind) (L : Layout) (i c h : ℕ) where
  -- The handle is a node at level l, above the mark, with children x and y, and the store has no answer to trust.
  pub record Above (t : Places) (f : Entries) (l x y : ℕ) : Type 0 where
    pub node : holds t h ≡ node_at l x y
    pub higher : l < L.level i
    pub missed : (n : ℕ) → f (restrict_key h i c) ≡ Some n → Under t l n → ⊥

-- A node's diagram, by its children.
parts_of : (t : Places) (d : Diagram) (h l x y : ℕ) → Stands (holds t) d h → holds t h ≡ node_at l x y
    → (a : Diagram) × (b : Diagram) × (d ≡ node l a b) × Stands (holds t) a x × Stands (holds t) b y
parts_of t (leaf v) h l x y p e = let q : leaf_word v ≡ node_at l x y = sym p ∙ e in cc
parts_of t (node m a b) h l x y p e =
    let q : node_at m p.0 p.1 ≡ node_at l x y = sym p.2 ∙ e in
    let level : m ≡ l = cc in
    let low : p.0 ≡ x = cc in
    let high : p.1 ≡ y = cc in
    (a, b, ap (λ n. node n a b) level, subst (Stands (holds t) a) low p.3, subst (Stands (holds t) b) high p.4)

no_higher_up : (u : Places) (l m : ℕ) (r : Option ℕ) → l ≤ m → NoHigher u m r → NoHigher u l r
no_higher_up u l m None le p = tt
no_higher_up u l m (Some n) le p = under_higher le p

-- The key of a restricted handle is that of its diagram.
restrict_keyed : (L : Layout) (f : Entries) (p : Phase) (t : Places) (d : Diagram) (i c h : ℕ) → Stands (holds t) d h
    → Keyed (model L f p t) (restrict d i c) (restrict_key h i c)
restrict_keyed L f p t d i c h sd = (h, seen_stands L f p t d h sd, refl)

pub itself_under : (t : Places) (h : ℕ) → Used t h → Under t (depth (holds t h)) h
itself_under t h u = record { used = u; level = omega arith }

-- How a node is restricted, by how its level and the mark's compare.
module _ (K : Kind) (L : Layout) (i c l : ℕ) (a b : Diagram) (s : Ordering) (e : compare l (L.level i) ≡ s) where
  way_smaller : smaller K L (restrict (node l a b) i c) ≡ smaller_of (way_to_restrict K L l a b i c s)
  way_smaller = ap (λ s. smaller_of (way_to_restrict K L l a b i c s)) e

  way_short : shortcut K L (restrict (node l a b) i c) ≡ is_short (way_to_restrict K L l a b i c s)
  way_short = ap (λ s. is_short (way_to_restrict K L l a b i c s)) e

  way_result : Lawful K L → Fit K L 0 (restrict (node l a b) i c)
      → composed_of K L (way_to_restrict K L l a b i c s) ≡ result K L (restrict (node l a b) i c)
  way_result ok fit = sym (ap (λ s. composed_of K L (way_to_restrict K L l a b i c s)) e) ∙ builds K L ok (restrict (node l a b) i c) fit

-- What is true of a node's diagram, by its children, is true of what its handle stands for.
by_children : (K : Kind) (L : Layout) (t : Places) (P : Diagram → Type 0) (h l x y : ℕ) → holds t h ≡ node_at l x y
    → ((a b : Diagram) → Good K L 0 (node l a b) → Stands (holds t) (node l a b) h → Stands (holds t) a x → Stands (holds t) b y → P (node l a b))
    → (d : Diagram) → Good K L 0 d → Stands (holds t) d h → P d
by_children K L t P h l x y e all d g sd =
    let p = parts_of t d h l x y sd e in
    subst P (sym p.2) (all p.0 p.1 (subst (Good K L 0) p.2 g) (subst (λ z. Stands (holds t) z h) p.2 sd) p.3 p.4)

-- The restriction of d is a shortcut with no smaller calls, for whose answer n stands.
record Easy (K : Kind) (L : Layout) (i c : ℕ) (t : Places) (n : ℕ) (d : Diagram) : Type 0 where
  answer : Stands (holds t) (result K L (restrict d i c)) n
  calls : smaller K L (restrict d i c) ≡ []
  short : shortcut K L (restrict d i c) ≡ true

-- At the mark's level of type s: d has children for which x and y stand, and is restricted to what they leave.
record AtMark (K : Kind) (L : Layout) (i c : ℕ) (t : Places) (s : Decomposition) (x y : ℕ) (d : Diagram) : Type 0 where
  low : Diagram
  high : Diagram
  left : Stands (holds t) low x
  right : Stands (holds t) high y
  answer : chosen K L s c low high ≡ result K L (restrict d i c)
  calls : smaller K L (restrict d i c) ≡ choosing K L s c low high
  short : shortcut K L (restrict d i c) ≡ true

module _ (K : Kind) (L : Layout) (i c h : ℕ) (t : Places) (f : Entries) (inside : i < L.size) (small : c < 2) where
  easy : {n : ℕ} → Under t (depth (holds t h)) n → (Lawful K L → (d : Diagram) → Good K L 0 d → Stands (holds t) d h → Easy K L i c t n d)
      → Restricted K L i c h t t f f (Some n)
  easy {n} under facts = record {
    kept = stays t;
    inside = under;
    done = λ ok d sd p sound.
        let w = facts ok d (good_of f p t sound d h sd) sd in
        finished_short K L (restrict d i c) f p t sound t (restrict_key h i c) w.short (none_held K L (restrict d i c) w.calls t) (Some n)
        (put_there K L (restrict d i c) f p t sound n w.answer);
  }

  pub leaf_restricted : Used t h → ((l x y : ℕ) → holds t h ≡ node_at l x y → ⊥) → Restricted K L i c h t t f f (Some h)
  leaf_restricted u none = easy (itself_under t h u) go
    where
      go : Lawful K L → (d : Diagram) → Good K L 0 d → Stands (holds t) d h → Easy K L i c t h d
      go ok (leaf v) g sd = record {
        answer = subst (λ x. Stands (holds t) x h) (builds K L ok (restrict (leaf v) i c) (g, inside, small)) sd;
        calls = refl;
        short = refl;
      }
      go ok (node m a b) g sd = absurd (none m sd.0 sd.1 sd.2)

  pub deeper_restricted : (l x y : ℕ) → node_at l x y ≡ holds t h → L.level i < l → Restricted K L i c h t t f f (Some h)
  deeper_restricted l x y here lt =
      let e : holds t h ≡ node_at l x y = sym here in
      let gt : compare l (L.level i) ≡ Ordering.gt = grind arith in
      easy (itself_under t h (ap in_use e)) (λ ok. by_children K L t (Easy K L i c t h) h l x y e (λ a b g sd sa sb. record {
        answer = subst (λ z. Stands (holds t) z h) (way_result K L i c l a b Ordering.gt gt ok (g, inside, small)) sd;
        calls = way_smaller K L i c l a b Ordering.gt gt;
        short = way_short K L i c l a b Ordering.gt gt;
      }))

  at_mark : (x y : ℕ) → holds t h ≡ node_at (L.level i) x y → Lawful K L → (d : Diagram) → Good K L 0 d → Stands (holds t) d h
      → AtMark K L i c t (L.type (L.level i)) x y d
  at_mark x y e ok =
      let here : compare (L.level i) (L.level i) ≡ Ordering.eq = grind arith in
      by_children K L t (AtMark K L i c t (L.type (L.level i)) x y) h (L.level i) x y e (λ a b g sd sa sb. record {
        low = a;
        high = b;
        left = sa;
        right = sb;
        answer = way_result K L i c (L.level i) a b Ordering.eq here ok (g, inside, small);
        calls = way_smaller K L i c (L.level i) a b Ordering.eq here;
        short = way_short K L i c (L.level i) a b Ordering.eq here;
      })

  -- One child is left.
  one_left : {s : Decomposition} {x y n : ℕ} → Under t (depth (holds t h)) n
      → (Lawful K L → (d : Diagram) → Good K L 0 d → Stands (holds t) d h → AtMark K L i c t s x y d)
      → ((a b : Diagram) → Stands (holds t) a x → Stands (holds t) b y → Stands (holds t) (chosen K L s c a b) n × (choosing K L s c a b ≡ []))
      → Restricted K L i c h t t f f (Some n)
  one_left {n = n} u facts left = easy u (λ ok d g sd.
      let w = facts ok d g sd in
      let q = left w.low w.high w.left w.right in
      record { answer = subst (λ z. Stands (holds t) z n) w.answer q.0; calls = w.calls ∙ q.1; short = w.short })

  -- What the store is asked under the key and answers, if its answer is trusted.
  pub hit_restricted : {l x y n : ℕ} {k : Key} {r : Option ℕ} → node_at l x y ≡ holds t h → k ≡ restrict_key h i c → r ≡ f k → Trusted t l r (Some n)
      → Restricted K L i c h t t f f (Some n)
  hit_restricted {n = n} e keyed asked found = record {
    kept = stays t;
    inside = subst (λ l. Under t l n) (ap depth e) found.1;
    done = λ ok d sd p sound.
        found_answered (model L f p t) (restrict d i c) (restrict_key h i c) n sound (good_of f p t sound d h sd, inside, small)
        (restrict_keyed L f p t d i c h sd) (ap f (sym keyed) ∙ sym asked ∙ found.0);
  }

-- A node stands on its level.
pub node_depth : (t : Places) (h l x y : ℕ) → node_at l x y ≡ holds t h → l ≡ depth (holds t h)
node_depth t h l x y e = ap depth e

-- A constant is 0 or 1.
pub constant_small : (c : Bool) → from_bool c < 2
constant_small false = omega arith
constant_small true = omega arith

-- The children of a node stand no higher than it.
children_under : (t : Places) (h l x y : ℕ) → holds t h ≡ node_at l x y → Under t (depth (holds t h)) x × Under t (depth (holds t h)) y
children_under t h l x y e =
    let n = node_under t h l x y e in
    (under_higher (omega (arith, ap depth e)) n.1, under_higher (omega (arith, ap depth e)) n.2)

module _ (K : Kind) (L : Layout) (i h : ℕ) (t : Places) (f : Entries) (inside : i < L.size) where
  choice : (x y : ℕ) → holds t h ≡ node_at (L.level i) x y → (s : Decomposition) (b : Bool) → L.type (L.level i) ≡ s
      → (Lawful K L → (d : Diagram) → Good K L 0 d → Stands (holds t) d h → AtMark K L i (from_bool b) t s x y d) → AtNode K L i b h t f (taken s b x y)
  choice x y e shannon false q facts = one_left K L i 0 h t f inside (constant_small false) (children_under t h _ x y e).0 facts (λ a b sa sb. (sa, refl))
  choice x y e shannon true q facts = one_left K L i 1 h t f inside (constant_small true) (children_under t h _ x y e).1 facts (λ a b sa sb. (sb, refl))
  choice x y e positive false q facts = one_left K L i 0 h t f inside (constant_small false) (children_under t h _ x y e).0 facts (λ a b sa sb. (sa, refl))
  choice x y e positive true q facts = record { node = e; both = ap (λ s. taken s true x y) q }
  choice x y e negative false q facts = record { node = e; both = ap (λ s. taken s false x y) q }
  choice x y e negative true q facts = one_left K L i 1 h t f inside (constant_small true) (children_under t h _ x y e).0 facts (λ a b sa sb. (sa, refl))

  -- What the code's turn leaves at the mark's level.
  pub at_node : (b : Bool) (l x y : ℕ) → node_at l x y ≡ holds t h → l ≡ L.level i → (turn : Turn) (s : Decomposition)
      → ((x y : ℕ) → children turn x y ≡ taken s b x y) → s ≡ L.type l → AtNode K L i b h t f (children turn x y)
  at_node b l x y e at turn s told typed =
      let here : holds t h ≡ node_at (L.level i) x y = sym e ∙ ap (λ n. node_at n x y) at in
      let same : s ≡ L.type (L.level i) = typed ∙ ap L.type at in
      subst (AtNode K L i b h t f) (sym (told x y ∙ ap (λ s. taken s b x y) same))
      (choice x y here (L.type (L.level i)) b refl (at_mark K L i (from_bool b) h t f inside (constant_small b) x y here))

-- Where both children are left, their sum is the one smaller call and its result the answer.
sum_left : (K : Kind) (L : Layout) (s : Decomposition) (c : Bool) (x y : ℕ) → taken s c x y ≡ x ∷ y ∷ [] → (a b : Diagram)
    → (chosen K L s (from_bool c) a b ≡ result K L (combine sum a b)) × (choosing K L s (from_bool c) a b ≡ combine sum a b ∷ [])
sum_left K L shannon false x y e a b = cc
sum_left K L shannon true x y e a b = cc
sum_left K L positive false x y e a b = cc
sum_left K L positive true x y e a b = (refl, refl)
sum_left K L negative false x y e a b = (refl, refl)
sum_left K L negative true x y e a b = cc

-- A shortcut with one smaller call, whose answer is its own.
module _ {K : Kind} {L : Layout} (ok : Lawful K L) (task part : Task) (fit : Fit K L 0 task) (same : result K L part ≡ result K L task)
    (one : smaller K L task ≡ part ∷ []) (short : shortcut K L task ≡ true) where
  mem_part : Memᴰ part (smaller K L task)
  mem_part = subst (Memᴰ part) (sym one) (Memᴰ.head refl)

  passed : (f g : Entries) (p : Phase) (t u : Places) (key other : Key) → Sound K L (model L f p t) → (r : Option ℕ)
      → Finished K L part other (model L f p t) (model L g p u) r → Finished K L task key (model L f p t) (model L g p u) r
  passed f g p t u key other sound None n = way_stop task (way_start task (model L f p t) sound) part mem_part n
  passed f g p t u key other sound (Some n) done = record {
    stands = seen_stands L g p u (result K L task) n here;
    worked = worked_within task (model L f p t) (model L g p u) (model L g p u) way.under way.worked
        (worked_plain K L task g p u way.sound u n held (put_there K L task g p u way.sound n here));
    stored = λ long. absurd (false≢true (sym long ∙ short));
    hit = λ x long. absurd (false≢true (sym long ∙ short));
  }
    where
      way : Way K L task (part ∷ []) (model L f p t) (model L g p u)
      way = way_step task (way_start task (model L f p t) sound) part mem_part ok fit (model L g p u) done.worked

      here : Stands (holds u) (result K L task) n
      here = subst (λ z. Stands (holds u) z n) same (stands_seen L g p u (result K L part) n done.stands)

      held : PartsHeld K L task u
      held next q d need =
          let r = way.worked.gains.gained d (next, subst (Memᴰ next) one q, need) in
          (r.0, stands_seen L g p u d r.0 r.1)

-- The sum of the children answers.
pub sum_restricted : {K : Kind} {L : Layout} {i h x y : ℕ} {b : Bool} {t u : Places} {f g : Entries} {r : Option ℕ} → i < L.size → Summed L i b h t x y
    → Combined K L sum x y t u f g r → Restricted K L i (from_bool b) h t u f g r
sum_restricted {K} {L} {i} {h} {x} {y} {b} {t} {u} {f} {g} {r} inside s w = record {
  kept = w.kept;
  inside = no_higher_up u (depth (holds t h)) (floor t x y) r
      (let q = children_under t h (L.level i) x y s.node in omega (arith, q.0.level, q.1.level)) w.inside;
  done = λ ok d sd p sound.
      let good = good_of f p t sound d h sd in
      let c : ℕ = from_bool b in
      let small = constant_small b in
      let q = at_mark K L i c h t f inside small x y s.node ok d good sd in
      let told = sum_left K L (L.type (L.level i)) b x y s.both q.low q.high in
      passed ok (restrict d i c) (combine sum q.low q.high) (good, inside, small) (sym told.0 ∙ q.answer) (q.calls ∙ told.1) q.short
      f g p t u (restrict_key h i c) _ sound r (w.done ok q.low q.high q.left q.right p sound);
}

-- The code found a node above the mark, and asked the store in vain.
pub above : {K : Kind} {L : Layout} {i c h l x y m : ℕ} {t : Places} {f : Entries} {k : Key} {r : Option ℕ} → node_at l x y ≡ holds t h → m ≡ L.level i
    → l ≤ m → ¬ (l ≡ m) → k ≡ restrict_key h i c → r ≡ f k → Trusted t l r None → Above K L i c h t f l x y
above {f = f} e at reached apart keyed asked missed = record {
  node = sym e;
  higher = omega arith;
  missed = λ n q. missed n (asked ∙ ap f keyed ∙ q);
}

-- The children are restricted.
module _ {K : Kind} {L : Layout} {i c h l x y : ℕ} {t : Places} {f : Entries} (inside : i < L.size) (small : c < 2) (A : Above K L i c h t f l x y) where
  -- What the handle and its children stand for, on a sound table.
  record Case : Type 0 where
    ok : Lawful K L
    a : Diagram
    b : Diagram
    sd : Stands (holds t) (node l a b) h
    sa : Stands (holds t) a x
    sb : Stands (holds t) b y
    phase : Phase
    sound : Sound K L (model L f phase t)

  less : compare l (L.level i) ≡ Ordering.lt
  less = let lt = A.higher in grind arith

  module _ (C : Case) where
    open C use {ok, a, b, sd, sa, sb, phase, sound}

    abbrev task : Task
    task = restrict (node l a b) i c

    abbrev before : Model
    before = model L f phase t

    fit : Fit K L 0 task
    fit = (good_of f phase t sound (node l a b) h sd, inside, small)

    long : shortcut K L task ≡ false
    long = way_short K L i c l a b Ordering.lt less

    smaller_is : smaller K L task ≡ restrict a i c ∷ restrict b i c ∷ []
    smaller_is = way_smaller K L i c l a b Ordering.lt less

    made_is : make K L l (result K L (restrict a i c)) (result K L (restrict b i c)) ≡ result K L task
    made_is = way_result K L i c l a b Ordering.lt less ok fit

    mem_low : Memᴰ (restrict a i c) (smaller K L task)
    mem_low = subst (Memᴰ (restrict a i c)) (sym smaller_is) (Memᴰ.head refl)

    mem_high : Memᴰ (restrict b i c) (smaller K L task)
    mem_high = subst (Memᴰ (restrict b i c)) (sym smaller_is) (Memᴰ.tail (Memᴰ.head refl))

    -- The store has no answer: one would stand deep enough to be trusted.
    absent : (n : ℕ) → f (restrict_key h i c) ≡ Some n → ⊥
    absent n found =
        let g = fit.0 in
        let there = found_stands before task (restrict_key h i c) n sound fit (restrict_keyed L f phase t (node l a b) i c h sd) found in
        A.missed n found
        (under_good K L t l (omega (arith, g.1, ok.valid.most)) (result K L task) n
        (answer_good ok l task (top_good ok (node l a b) g, inside, small) (omega (arith, g.1)))
        (stands_seen L f phase t (result K L task) n there))

    start : Way K L task [] before before
    start = way_start task before sound

  -- What the call did is known in each case.
  restricted : {u : Places} {g : Entries} {r : Option ℕ} → Extends t u → NoHigher u l r
      → ((C : Case) → Finished K L (task C) (restrict_key h i c) (before C) (model L g C.phase u) r) → Restricted K L i c h t u f g r
  restricted {u} {g} {r} kept deep done = record {
    kept = kept;
    inside = no_higher_up u (depth (holds t h)) l r (omega (arith, ap depth A.node)) deep;
    done = λ ok d sd p sound.
        by_children K L t (λ z. Finished K L (restrict z i c) (restrict_key h i c) (model L f p t) (model L g p u) r) h l x y A.node
        (λ a b good here sa sb. done (record { ok = ok; a = a; b = b; sd = here; sa = sa; sb = sb; phase = p; sound = sound }))
        d (good_of f p t sound d h sd) sd;
  }

  pub low_stops : {t1 : Places} {f1 : Entries} → Restricted K L i c x t t1 f f1 None → Restricted K L i c h t t1 f f1 None
  low_stops w = restricted w.kept tt (λ C. way_stop (task C) (start C) (restrict C.a i c) (mem_low C) (w.done C.ok C.a C.sa C.phase C.sound))

  module _ {t1 : Places} {f1 : Entries} {n1 : ℕ} (w1 : Restricted K L i c x t t1 f f1 (Some n1)) where
    low_done : (C : Case) → BroughtBack K L (restrict C.a i c) (restrict_key x i c) (before C) (model L f1 C.phase t1) n1
    low_done C = w1.done C.ok C.a C.sa C.phase C.sound

    way1 : (C : Case) → Way K L (task C) (restrict C.a i c ∷ []) (before C) (model L f1 C.phase t1)
    way1 C = way_step (task C) (start C) (restrict C.a i c) (mem_low C) C.ok (fit C) _ (low_done C).worked

    high_done : {t2 : Places} {f2 : Entries} {r : Option ℕ} → Restricted K L i c y t1 t2 f1 f2 r → (C : Case)
        → Finished K L (restrict C.b i c) (restrict_key y i c) (model L f1 C.phase t1) (model L f2 C.phase t2) r
    high_done w C = w.done C.ok C.b (stands_still w1.kept C.b y C.sb) C.phase (way1 C).sound

    pub high_stops : {t2 : Places} {f2 : Entries} → Restricted K L i c y t1 t2 f1 f2 None → Restricted K L i c h t t2 f f2 None
    high_stops w = restricted (then w1.kept w.kept) tt (λ C. way_stop (task C) (way1 C) (restrict C.b i c) (mem_high C) (high_done w C))

    pub both_restricted : {t2 u : Places} {f2 g : Entries} {n2 : ℕ} {r : Option ℕ} → Restricted K L i c y t1 t2 f1 f2 (Some n2) → Joined L t2 u l n1 n2 r
        → (k : Key) → k ≡ restrict_key h i c → Closed f2 g k r → Restricted K L i c h t u f g r
    both_restricted {t2} {u} {f2} {g} {n2} {r} w2 j k keyed close =
        restricted (then (then w1.kept w2.kept) j.kept) j.inside (λ C.
        let calls : List Task = restrict C.b i c ∷ restrict C.a i c ∷ [] in
        let way2 = way_step (task C) (way1 C) (restrict C.b i c) (mem_high C) C.ok (fit C) (model L f2 C.phase t2) (high_done w2 C).worked in
        let has : AllByRecursion (λ part. Memᴰ part calls) (smaller K L (task C))
        = subst (AllByRecursion (λ part. Memᴰ part calls)) (sym (smaller_is C)) (Memᴰ.tail (Memᴰ.head refl), (Memᴰ.head refl, tt)) in
        way_end (task C) f2 g C.phase t2 u (restrict_key h i c) way2 (λ part q. all_mem (λ part. Memᴰ part calls) (smaller K L (task C)) has q)
        (long C) (restrict_keyed L f C.phase t (node l C.a C.b) i c h C.sd) (absent C) r
        (put_joined K L (task C) f2 C.phase t2 way2.sound u l n1 n2 _ _
        (stands_still w2.kept _ n1 (stands_seen L f1 C.phase t1 _ n1 (low_done C).stands))
        (stands_seen L f2 C.phase t2 _ n2 (high_done w2 C).stands)
        (made_is C) (answer_good C.ok 0 (task C) (fit C) (omega arith)) r j)
        (subst (λ q. Closed f2 g q r) keyed close))
