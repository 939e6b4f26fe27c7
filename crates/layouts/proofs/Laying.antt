-- Every layout is valid and every capacity in its range, and what the calls leave is what the definitions say. Assumes nothing.
use Rattle.std.proofs.Common.{◌≡◌, ℕ, zero, suc, ◌<◌, ◌≤◌, Bool, true, false, cond, ◌&&◌, eqb, ◌≢◌, List, length, get_or, set, Ok, sym, ap, ◌∙◌, ⊎_elim, arith, lit<, get_or-set_other, get_or-set_same}
use Rattle.std.specs.List.{SwappedAt}
use Rattle.std.proofs.lemmas.List.{get_or_default, get_or_past}
use Rattle.std.proofs.lemmas.Bool.{cases_eq, cases_lt, lt-ltb, le-leb, eq-eqb, ne_eqb}
use Rattle.diagrams.specs.Layouts.{Capacious, Decomposition, Valid, begun, swapped, exchanged, retyped, type_of, laid, begin, exchange, set_type, Layout as Plan}
use Rattle.diagrams.proofs.Layouts.{swapped_within, swapped_twice}
use Rattle.layouts.specs.Forms.{decomposition, formed}
use Rattle.layouts.specs.Levels.{plain, mark_on, form_on, level_of}
use Rattle.layouts.specs.View.{arranged, view}
use Rattle.layouts.specs.declared.capacity.Capacity.{Capacity}
use Rattle.layouts.specs.declared.form.Form.{Form}
use Rattle.layouts.specs.declared.form.Form.TheVariants.{Shannon, PositiveDavio, NegativeDavio}
use Rattle.layouts.specs.declared.layout.Layout.{Layout}
use Rattle.layouts.specs.declared.level.Level.{Level}

pub layout_valid : (y : Layout) → Valid (view y)
layout_valid y = record {
  some = y.some;
  most = y.most;
  mark_within = y.marked;
  level_within = y.levelled;
  level_mark = λ l p. y.onto l;
  mark_level = λ i p. y.back i;
}

pub capacity_within : (c : Capacity) → Capacious c.places
capacity_within c = (c.least, c.most)

-- Beginning.
pub read_anywhere : {X : Type 0} (f : ℕ → X) (xs : List X) → ((l : ℕ) → l < length xs → get_or xs l (f l) ≡ f l) → (l : ℕ) → get_or xs l (f l) ≡ f l
read_anywhere f xs e l = ⊎_elim (e l) (get_or_past xs l (f l)) (cases_lt l (length xs))

pub begun_plan : (n : ℕ) (levels : List Level) (places : List ℕ) → ((l : ℕ) → get_or levels l (plain l) ≡ plain l) → ((i : ℕ) → level_of places i ≡ i)
    → arranged n levels places ≡ begun n
begun_plan n levels places p q = λ i. record { size = n; mark = λ l. (p l i).mark; level = λ k. q k i; type = λ l. decomposition (p l i).form }

-- What the definitions answer where nothing is refused.
both_true : {A : Type 0} (s t : Bool) (x y : A) → s ≡ true → t ≡ true → cond (s && t) x y ≡ x
both_true s t x y p q = rw (p, q)

pub begin_laid : (n : ℕ) → 1 ≤ n → n ≤ 32 → begin n ≡ laid (begun n)
begin_laid n p q = both_true _ _ _ _ (le-leb 1 n p) (le-leb n 32 q)

pub exchange_laid : (a b : ℕ) (L : Plan) → a < L.size → b < L.size → exchange a b L ≡ laid (exchanged a b L)
exchange_laid a b L p q = both_true _ _ _ _ (lt-ltb a L.size p) (lt-ltb b L.size q)

pub set_type_laid : (i n : ℕ) (L : Plan) → i < L.size → n ≤ 2 → set_type i n L ≡ laid (retyped i (type_of n) L)
set_type_laid i n L p q = rw (lt-ltb i L.size p, le-leb n 2 q)

-- Exchange.
swapped_first : (a b : ℕ) → swapped a b a ≡ b
swapped_first a b = grind arith

swapped_second : (a b : ℕ) → swapped a b b ≡ a
swapped_second a b = grind arith

swapped_other : (a b k : ℕ) → k ≢ a → k ≢ b → swapped a b k ≡ k
swapped_other a b k p q = grind arith

-- Elements exchanged, read at a default that goes by the place.
read_swapped : {X : Type 0} (f : ℕ → X) (xs ys : List X) (a b : ℕ) → a < length xs → b < length xs → SwappedAt xs ys a b
    → (k : ℕ) → get_or ys k (f k) ≡ get_or xs (swapped a b k) (f (swapped a b k))
read_swapped {X} f xs ys a b p q e k =
    let before : ℕ → X = λ k. get_or xs k (f k) in
    let after : ℕ → X = λ k. get_or ys k (f k) in
    ⊎_elim (λ h. ap after h ∙ e.0 (f a) ∙ get_or_default xs b (f a) (f b) q ∙ sym (ap before (ap (swapped a b) h ∙ swapped_first a b)))
    (λ h. ⊎_elim (λ j. ap after j ∙ e.1 (f b) ∙ get_or_default xs a (f b) (f a) p ∙ sym (ap before (ap (swapped a b) j ∙ swapped_second a b)))
    (λ j. e.2 k (f k) h j ∙ sym (ap before (swapped_other a b k h j)))
    (cases_eq k b))
    (cases_eq k a)

-- Marks exchanged before their levels are read, or the levels after.
level_swapped : (y : Layout) (a b i : ℕ) → (view y).level (swapped ((view y).mark a) ((view y).mark b) i) ≡ swapped a b ((view y).level i)
level_swapped y a b i =
    let mark : ℕ → ℕ = (view y).mark in
    let level : ℕ → ℕ = (view y).level in
    let moved : ℕ → ℕ = λ i. level (swapped (mark a) (mark b) i) in
    ⊎_elim
    (λ h. ap moved h ∙ ap level (swapped_first (mark a) (mark b)) ∙ y.onto b ∙ sym (ap (swapped a b) (ap level h ∙ y.onto a) ∙ swapped_first a b))
    (λ h. ⊎_elim
    (λ j. ap moved j ∙ ap level (swapped_second (mark a) (mark b)) ∙ y.onto a ∙ sym (ap (swapped a b) (ap level j ∙ y.onto b) ∙ swapped_second a b))
    (λ j. ap level (swapped_other (mark a) (mark b) i h j)
    ∙ sym (swapped_other a b (level i) (λ e. h (sym (y.back i) ∙ ap mark e)) (λ e. j (sym (y.back i) ∙ ap mark e))))
    (cases_eq i (mark b)))
    (cases_eq i (mark a))

-- A mark that is read in the list is its level's, whatever would be read past it.
pub mark_read : (y : Layout) (l : ℕ) (d : Level) → l < length y.levels → (get_or y.levels l d).mark ≡ (view y).mark l
mark_read y l d h = ap (λ (here : Level). here.mark) (get_or_default y.levels l d (plain l) h)

pub mark_below : (y : Layout) (l : ℕ) → l < y.size → length y.places ≡ 32 → (view y).mark l < length y.places
mark_below y l h w = omega (arith, y.most, y.marked l h)

-- What the exchange of levels a and b leaves.
pub record Exchanged (y : Layout) (a b : ℕ) (levels : List Level) (places : List ℕ) : Type 0 where
  pub first : a < y.size
  pub second : b < y.size
  pub wide_levels : length y.levels ≡ 32
  pub wide_places : length y.places ≡ 32
  pub levels_are : SwappedAt y.levels levels a b
  pub places_are : SwappedAt y.places places ((view y).mark a) ((view y).mark b)

module _ (y : Layout) (a b : ℕ) (levels : List Level) (places : List ℕ) (x : Exchanged y a b levels places) where
  stands : (k : ℕ) → get_or levels k (plain k) ≡ get_or y.levels (swapped a b k) (plain (swapped a b k))
  stands k =
      read_swapped plain y.levels levels a b (omega (arith, x.first, x.wide_levels, y.most)) (omega (arith, x.second, x.wide_levels, y.most)) x.levels_are k

  pub mark_is : (k : ℕ) → mark_on levels k ≡ (view y).mark (swapped a b k)
  mark_is k = ap (λ (here : Level). here.mark) (stands k)

  form_is : (k : ℕ) → form_on levels k ≡ form_on y.levels (swapped a b k)
  form_is k = ap (λ (here : Level). here.form) (stands k)

  pub level_is : (i : ℕ) → level_of places i ≡ swapped a b ((view y).level i)
  level_is i =
      read_swapped (λ k. k) y.places places _ _ (mark_below y a x.first x.wide_places) (mark_below y b x.second x.wide_places) x.places_are i
      ∙ level_swapped y a b i

  pub still_marked : (l : ℕ) → l < y.size → mark_on levels l < y.size
  still_marked l h = rw (mark_is l) (y.marked _ (swapped_within _ a b l x.first x.second h))

  pub still_levelled : (i : ℕ) → i < y.size → level_of places i < y.size
  still_levelled i h = rw (level_is i) (swapped_within _ a b _ x.first x.second (y.levelled i h))

  pub still_onto : (l : ℕ) → level_of places (mark_on levels l) ≡ l
  still_onto l =
      level_is (mark_on levels l) ∙ ap (λ (k : ℕ). swapped a b ((view y).level k)) (mark_is l) ∙ ap (swapped a b) (y.onto (swapped a b l)) ∙ swapped_twice a b l

  pub still_back : (i : ℕ) → mark_on levels (level_of places i) ≡ i
  still_back i =
      mark_is (level_of places i) ∙ ap (λ (k : ℕ). (view y).mark (swapped a b k)) (level_is i) ∙ ap (view y).mark (swapped_twice a b ((view y).level i)) ∙ y.back i

  pub exchanged_plan : arranged y.size levels places ≡ exchanged a b (view y)
  exchanged_plan = λ i. record { size = y.size; mark = λ k. mark_is k i; level = λ k. level_is k i; type = λ k. decomposition (form_is k i) }

-- Setting a type.
pub formed_is : (n : ℕ) (f : Form) → Ok f ≡ formed n → (n ≤ 2) × (decomposition f ≡ type_of n)
formed_is zero f e = let h : f ≡ Shannon = cc in (omega arith, ap decomposition h)
formed_is (suc zero) f e = let h : f ≡ PositiveDavio = cc in (omega arith, ap decomposition h)
formed_is (suc (suc zero)) f e = let h : f ≡ NegativeDavio = cc in (omega arith, ap decomposition h)
formed_is (suc (suc (suc n))) f e =
    let none : (m : ℕ) → m < 3 → eqb (suc (suc (suc n))) m ≡ false = λ m h. ne_eqb _ m (λ k. omega (arith, k)) in
    let z : ◌≡◌ {A = ℕ} 0 1 = cc (none 0 (lit< tt), none 1 (lit< tt), none 2 (lit< tt)) in
    absurd (omega (arith, z))

module _ (y : Layout) (i : ℕ) (p : i < y.size) (wide_levels : length y.levels ≡ 32) (wide_places : length y.places ≡ 32) where
  level_read : get_or y.places i 0 ≡ (view y).level i
  level_read = get_or_default y.places i 0 i (omega (arith, y.most))

  pub level_below : get_or y.places i 0 < 32
  level_below = rw level_read (omega (arith, y.most, y.levelled i p))

  -- What stands on each level once mark i has the type f.
  abbrev pub given : Form → List Level
  given f = set y.levels (get_or y.places i 0) (record { mark = (get_or y.levels (get_or y.places i 0) (record { mark = 0; form = Shannon })).mark; form = f })

  within : get_or y.places i 0 < length y.levels
  within = rw wide_levels level_below

  on_level : (f : Form) (l : ℕ) → l ≡ get_or y.places i 0 → get_or (given f) l (plain l) ≡ record { mark = (view y).mark l; form = f }
  on_level f l h = rw h (get_or-set_same y.levels _ _ _ within ∙ λ j. record { mark = mark_read y _ (record { mark = 0; form = Shannon }) within j; form = f })

  off_level : (f : Form) (l : ℕ) → l ≢ get_or y.places i 0 → get_or (given f) l (plain l) ≡ get_or y.levels l (plain l)
  off_level f l h = get_or-set_other y.levels _ l _ _ h

  pub same_mark : (f : Form) (l : ℕ) → mark_on (given f) l ≡ mark_on y.levels l
  same_mark f l =
      let mark : Level → ℕ = λ (here : Level). here.mark in
      ⊎_elim (λ h. ap mark (on_level f l h)) (λ h. ap mark (off_level f l h)) (cases_eq l (get_or y.places i 0))

  type_is : (f : Form) (t : Decomposition) → decomposition f ≡ t → (l : ℕ) → decomposition (form_on (given f) l) ≡ (retyped i t (view y)).type l
  type_is f t e l =
      let type : Level → Decomposition = λ (here : Level). decomposition here.form in
      ⊎_elim (λ h. ap type (on_level f l h) ∙ e ∙ sym (ap (λ (c : Bool). cond c t ((view y).type l)) (eq-eqb l ((view y).level i) (h ∙ level_read))))
      (λ h. ap type (off_level f l h)
      ∙ sym (ap (λ (c : Bool). cond c t ((view y).type l)) (ne_eqb l ((view y).level i) (λ k. h (k ∙ sym level_read)))))
      (cases_eq l (get_or y.places i 0))

  pub retyped_plan : (f : Form) (t : Decomposition) → decomposition f ≡ t → arranged y.size (given f) y.places ≡ retyped i t (view y)
  retyped_plan f t e = λ j. record { size = y.size; mark = λ l. same_mark f l j; level = (view y).level; type = λ l. type_is f t e l j }
