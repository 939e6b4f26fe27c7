-- The worked examples: a few calls with the sheets, sizes, replies and places that they come to. Assumes nothing.
use Rattle.std.specs.Prelude.{◌≡◌, List, [], ◌∷◌, ℕ, zero, suc, ◌≤◌, length}
use Rattle.diagrams.specs.Kinds.{Kind}
use Rattle.diagrams.specs.TwoKinds.{yes_no, points}
use Rattle.diagrams.specs.Layouts.{Decomposition, shannon, positive, negative, Layout, begun, retyped}
use Rattle.diagrams.specs.Diagrams.{Diagram, leaf, node}
use Rattle.diagrams.specs.Tasks
use Rattle.diagrams.specs.Tasks.{sum, product, result}
use Rattle.diagrams.specs.Sizes.{extent}
use Rattle.diagrams.specs.Sheets.{sheet}
use Rattle.diagrams.specs.Places.{leaf_word}
use Rattle.histories.specs.Builds.{constant, mark, combine, restrict}
use Rattle.histories.specs.Tables.{Model, content, Live, Exactly, Made}
use Rattle.histories.specs.Requests.{grade, Call, build, hold, sweep, look, release, Asked, in_table, gives, done, refused, Answer}
use Rattle.histories.specs.Steps.{Step}

-- L with its marks below k given the type t.
abbrev pub typed : ℕ → Decomposition → Layout → Layout
typed zero t L = L
typed (suc k) t L = retyped k t (typed k t L)

-- The natural layout of n marks, mark i on level i, with every level of type t.
abbrev pub natural : ℕ → Decomposition → Layout
natural n t = typed n t (begun n)

module _ (K : Kind) (L : Layout) where
  -- The diagram of mark i.
  abbrev pub marked : ℕ → Diagram
  marked i = result K L (Tasks.mark i)

  -- The sum of two diagrams.
  abbrev pub plus : Diagram → Diagram → Diagram
  plus a b = result K L (Tasks.combine sum a b)

  -- The product of two diagrams.
  abbrev pub times : Diagram → Diagram → Diagram
  times a b = result K L (Tasks.combine product a b)

  -- Of two diagrams, one or the other or both: their sum and their product summed.
  abbrev pub either : Diagram → Diagram → Diagram
  either a b = plus (plus a b) (times a b)

  -- Whatever step the table m takes for what is asked, it gives a number, and P holds of that number and of the table after it. That every call
  -- takes a step is what the calls of a table ensure.
  abbrev pub Giving : Model → Asked → (ℕ → Model → Type 0) → Type 0
  Giving m q P = (a : Answer) (n : Model) → Step K L m q a n → (x : ℕ) × (a.reply ≡ gives x) × P x n

  -- Whatever step it takes, it is done, and P holds of the table after it.
  abbrev pub Doing : Model → Asked → (Model → Type 0) → Type 0
  Doing m q P = (a : Answer) (n : Model) → Step K L m q a n → (a.reply ≡ done) × P n

  -- Whatever step it takes, it refuses with number f in the table's layer, and P holds of the table after it.
  abbrev pub Refusing : Model → Asked → ℕ → (Model → Type 0) → Type 0
  Refusing m q f P = (a : Answer) (n : Model) → Step K L m q a n → (a.reply ≡ refused f in_table 0) × P n

-- A call that is lent no list.
abbrev pub plain : Call → Asked
plain c = record { call = c; walk = []; output = [] }

-- A sweep that is lent a walk list.
abbrev pub sweeping : List ℕ → Asked
sweeping walk = record { call = sweep; walk = walk; output = [] }

-- One mark of positive Davio.
abbrev pub line : Layout
line = natural 1 positive

-- Of a table of points with that layout mark 0, the constant 1 and then their sum are asked for: each is given, and P holds of the handle of
-- the sum and of the table after it.
abbrev pub MarkPlusOne : Model → (ℕ → Model → Type 0) → Type 0
MarkPlusOne m P =
    Giving points line m (plain (build (mark 0))) (λ x k. Giving points line k (plain (build (constant 1)))
    (λ y l. Giving points line l (plain (build (combine sum x y))) P))

-- What the examples come to.
pub record WorkedExamples : Type 0 where
  -- The sheet of the product of marks 0 and 1, for yes and no, both levels Shannon.
  pub product_sheet :
      let L = natural 2 shannon in
      sheet yes_no L (times yes_no L (marked yes_no L 0) (marked yes_no L 1))
      ≡ 0x06 ∷ 0x00 ∷ 0x01 ∷ 0x00 ∷ 0x01 ∷ 0x02 ∷ 0x00 ∷ 0x01 ∷ 0x00 ∷ 0x00
      ∷ 0x04 ∷ 0x00 ∷ 0x02 ∷ 0x00 ∷ 0x00 ∷ 0x00 ∷ 0x00 ∷ 0x00
      ∷ 0x04 ∷ 0x00 ∷ 0x02 ∷ 0x00 ∷ 0x01 ∷ 0x00 ∷ 0x00 ∷ 0x00
      ∷ 0x05 ∷ 0x00 ∷ 0x03 ∷ 0x00 ∷ 0x01 ∷ 0x00 ∷ 0x00 ∷ 0x01 ∷ 0x00
      ∷ 0x05 ∷ 0x00 ∷ 0x03 ∷ 0x00 ∷ 0x00 ∷ 0x00 ∷ 0x00 ∷ 0x02 ∷ 0x00
      ∷ 0x02 ∷ 0x00 ∷ 0x04 ∷ 0x00 ∷ 0x04 ∷ 0x00 ∷ []
  -- The sum of two marks, for yes and no, has size 3 in Shannon and 2 in positive Davio.
  pub sum_sizes :
      let S = natural 2 shannon in
      let D = natural 2 positive in
      (extent (plus yes_no S (marked yes_no S 0) (marked yes_no S 1)) ≡ 3) × (extent (plus yes_no D (marked yes_no D 0) (marked yes_no D 1)) ≡ 2)
  -- One mark or the other or both has size 2 in Shannon and 3 in positive Davio.
  pub either_sizes :
      let S = natural 2 shannon in
      let D = natural 2 positive in
      (extent (either yes_no S (marked yes_no S 0) (marked yes_no S 1)) ≡ 2) × (extent (either yes_no D (marked yes_no D 0) (marked yes_no D 1)) ≡ 3)
  -- A mark of points in negative Davio has the leaves 1 and 4,294,967,295.
  pub negative_mark : marked points (natural 1 negative) 0 ≡ node 0 (leaf 1) (leaf 4_294_967_295)
  -- On a table of 7 places, mark plus one is multiplied by itself; after the release that grades fruit 0 as 1 and fruit 1 as 4.
  pub square_given : (m : Model) → Made points line 7 m
      → MarkPlusOne m (λ a k. Giving points line k (plain (build (combine product a a))) (λ s l. Doing points line l (plain release)
      (λ n. Giving points line n (plain (look (grade s 0))) (λ v _. v ≡ 1) × Giving points line n (plain (look (grade s 1))) (λ v _. v ≡ 4))))
  -- On a table of 6 places that product is refused with 25, and 4 places are in use after it.
  pub square_refused : (m : Model) → Made points line 6 m
      → MarkPlusOne m (λ a k. Refusing points line k (plain (build (combine product a a))) 25 (λ n. Exactly 4 (Live n)))
  -- On a table of 7 places, mark plus one and its square are held: a sweep with a walk list long enough then frees 2 places and leaves 5 in use.
  pub square_swept : (m : Model) (walk : List ℕ) → Made points line 7 m → 7 ≤ length walk
      → MarkPlusOne m (λ a k. Giving points line k (plain (build (combine product a a))) (λ s l. Giving points line l (plain (hold a))
      (λ x i. Giving points line i (plain (hold s)) (λ y j. Giving points line j (sweeping walk) (λ freed n. (freed ≡ 2) × Exactly 5 (Live n))))))
  -- A mark of yes and no, whatever the type of its level, is refused with 25 on a table of 2 places: both stay in use.
  pub mark_refused : (t : Decomposition) (m : Model) → Made yes_no (natural 1 t) 2 m
      → Refusing yes_no (natural 1 t) m (plain (build (mark 0))) 25 (λ n. Exactly 2 (Live n))
  -- On a table of 3 places it is given, and all 3 are in use.
  pub mark_given : (t : Decomposition) (m : Model) → Made yes_no (natural 1 t) 3 m
      → Giving yes_no (natural 1 t) m (plain (build (mark 0))) (λ h n. Exactly 3 (Live n))
  -- On a table of 3 places or more the sum of the points 4,294,967,295 and 1 is handle 0.
  pub sum_wraps : (c : ℕ) (m : Model) → 3 ≤ c → Made points line c m
      → Giving points line m (plain (build (constant 4_294_967_295))) (λ x k. Giving points line k (plain (build (constant 1)))
      (λ y l. Giving points line l (plain (build (combine sum x y))) (λ h n. h ≡ 0)))
  -- Mark plus one with its mark put to 1 is a leaf of 2, and with it put to 0 handle 1.
  pub restricted : (m : Model) → Made points line 7 m
      → MarkPlusOne m (λ a k. Giving points line k (plain (build (restrict a 0 1))) (λ h n. content n h ≡ leaf_word 2)
      × Giving points line k (plain (build (restrict a 0 0))) (λ h n. h ≡ 1))
