-- When each call is refused, and what it does: one step of a table. Assumes nothing.
use Rattle.std.specs.Prelude.{◌≡◌, ℕ, ◌+◌, ◌*◌, ◌<◌, ◌≤◌, Bool, true, false, cond, not, ◌&&◌, ◌||◌, T, ◌⊎◌, List, [], ◌∷◌, ◌++◌, length, drop, replicate, Some, ◌==◌, nat_le, nat_lt}
use mathlib.Core.List.{Memᴰ}
use Rattle.diagrams.specs.Kinds.{Kind}
use Rattle.diagrams.specs.Layouts.{Layout, Fruit}
use Rattle.diagrams.specs.Diagrams.{Diagram, rule, Good}
use Rattle.diagrams.specs.Tasks
use Rattle.diagrams.specs.Tasks.{Operation, sum, difference, product, Task, meaning, result}
use Rattle.diagrams.specs.Building.{shortcut, Inside, Needs}
use Rattle.diagrams.specs.Sizes.{extent, Within, tally}
use Rattle.diagrams.specs.Sheets.{visited, records, header, sheet}
use Rattle.diagrams.specs.Reading.{Faulty}
use Rattle.diagrams.specs.Places.{free, leaf_word, node_at, vacant, Unshared, leads}
use Rattle.histories.specs.Stores.{Key, Forgotten}
use Rattle.histories.specs.Builds.{Build, constant, mark, combine, restrict}
use Rattle.histories.specs.Tables.{Model, capacity, place, content, count, Live, StandsFor, InUse, Outnumber, Exactly, HasRule}
use Rattle.histories.specs.Requests.{Look, size, write, grade, Call, build, read, hold, let_go, sweep, look, release, reopen, Asked, Lent, Takes, phase_after, Layer, in_bytes, in_sheet, in_table, gives, done, refused, Answer}

-- The call over diagrams that a building call means, its operands being live.
abbrev pub Means : Model → Build → Task → Type 0
Means m (constant v) t = t ≡ Tasks.constant v
Means m (mark i) t = t ≡ Tasks.mark i
Means m (combine o x y) t =
    (a : Diagram) × (b : Diagram) × StandsFor m a x × StandsFor m b y × (t ≡ Tasks.combine o a b)
Means m (restrict x i v) t = (d : Diagram) × StandsFor m d x × (t ≡ Tasks.restrict d i v)

-- The number of an operation in a key; a restriction's is 3.
abbrev pub operation_code : Operation → ℕ
operation_code sum = 0
operation_code difference = 1
operation_code product = 2

-- The key of a call over diagrams that are in use; a constant and a mark have none.
abbrev pub Keyed : Model → Task → Key → Type 0
Keyed m (Tasks.constant v) k = ⊥
Keyed m (Tasks.mark i) k = ⊥
Keyed m (Tasks.combine o a b) k =
    (x : ℕ) × (y : ℕ) × StandsFor m a x × StandsFor m b y × (k ≡ record { operation = operation_code o; left = x; right = y })
Keyed m (Tasks.restrict d i v) k = (x : ℕ) × StandsFor m d x × (k ≡ record { operation = 3; left = x; right = 2 * i + v })

-- How many entries of its walk list a call uses; none where it takes no list.
abbrev pub walk_room : Model → Call → ℕ
walk_room m (build b) = 0
walk_room m (read s) = capacity m
walk_room m (hold h) = 0
walk_room m (let_go h) = 0
walk_room m sweep = capacity m
walk_room m (look (size h)) = capacity m
walk_room m (look (write h)) = capacity m
walk_room m (look (grade h fruit)) = 0
walk_room m release = 0
walk_room m reopen = 0

-- A walk list on every way out: where it is long enough its first entries are zero, and all else stays.
abbrev pub wiped : ℕ → List ℕ → List ℕ
wiped used walk = cond (nat_le used (length walk)) (replicate used 0 ++ drop used walk) walk

-- The layer of a fault.
abbrev pub layer : ℕ → Layer
layer f = cond (f == 13) in_bytes (cond (nat_le 14 f && nat_le f 24) in_sheet in_table)

-- A fault says whether it is there, with its number and its byte place: here that number, with place 0, where P holds.
abbrev pub due : ℕ → Type 0 → ℕ → ℕ → Type 0
due number P f p = (f ≡ number) × (p ≡ 0) × P

-- No fault of a list is there.
abbrev pub Faultless : List (ℕ → ℕ → Type 0) → Type 0
Faultless [] = Unit {0}
Faultless (Q ∷ Qs) = ((f p : ℕ) → ¬ Q f p) × Faultless Qs

-- Number f at place p is the first fault of a list that is there.
abbrev pub First : List (ℕ → ℕ → Type 0) → ℕ → ℕ → Type 0
First [] f p = ⊥
First (Q ∷ Qs) f p = Q f p ⊎ (((g q : ℕ) → ¬ Q g q) × First Qs f p)

-- The places reached from 0, from 1 and from those that are held.
pub data Reached (m : Model) : ℕ → Type 0 where
  from_zero : {h : ℕ} → h ≡ 0 → Reached m h
  from_one : {h : ℕ} → h ≡ 1 → Reached m h
  from_held : {h : ℕ} → 0 < count m h → Reached m h
  to_low : {g l x y : ℕ} → Reached m g → content m g ≡ node_at l x y → Reached m x
  to_high : {g l x y : ℕ} → Reached m g → content m g ≡ node_at l x y → Reached m y

-- Whether a place is in use.
abbrev pub is_live : Model → ℕ → Bool
is_live m h = elim (content m h) [ free ↦ false | leaf_word v ↦ true | node_at l x y ↦ true ]

-- Whether a place is 0, is 1 or is held.
abbrev pub is_root : Model → ℕ → Bool
is_root m h = nat_le h 1 || nat_lt 0 (count m h)

-- Whether a place is reached: some place that is 0, is 1 or is held leads to it, by no more steps than the layout has levels.
abbrev pub is_reached : Model → ℕ → Bool
is_reached m h = nat_lt 0 (tally (capacity m) (λ r. is_root m r && leads (content m) m.layout.size h r))

-- How many places are in use and not reached.
abbrev pub unreached_count : Model → ℕ
unreached_count m = tally (capacity m) (λ h. is_live m h && not (is_reached m h))

-- Every place stays as it was, with its count.
abbrev pub PlacesStay : Model → Model → Type 0
PlacesStay m n = n.places ≡ m.places

-- The store answers every key as before.
abbrev pub EntriesStay : Model → Model → Type 0
EntriesStay m n = (k : Key) → n.entries k ≡ m.entries k

-- The diagrams with P came into use, and no others. Left open: which free places they took.
pub record Gains (m n : Model) (P : Diagram → Type 0) : Type 0 where
  pub room : capacity n ≡ capacity m
  pub kept : (h : ℕ) → Live m h → place n h ≡ place m h
  pub started : (h : ℕ) → ¬ Live m h → count n h ≡ 0
  pub gained : (d : Diagram) → P d → InUse n d
  pub only : (h : ℕ) → Live n h → (d : Diagram) × StandsFor n d h × (InUse m d ⊎ P d)
  pub unshared : Unshared (content n)

-- The count of h becomes x, and nothing else changes.
pub record Counted (m : Model) (h x : ℕ) (n : Model) : Type 0 where
  pub room : capacity n ≡ capacity m
  pub here : place n h ≡ record { content = content m h; count = x }
  pub elsewhere : (g : ℕ) → ¬ (g ≡ h) → place n g ≡ place m g
  pub entries : EntriesStay m n

-- A sweep freed the x places that were in use and not reached.
pub record Swept (m : Model) (x : ℕ) (n : Model) : Type 0 where
  pub room : capacity n ≡ capacity m
  pub each : (h : ℕ) → (Reached m h × (place n h ≡ place m h)) ⊎ ((¬ Reached m h) × (place n h ≡ vacant))
  pub freed : Exactly x (λ h. Live m h × (¬ Reached m h))
  pub entries : Forgotten n.entries

module _ (K : Kind) (L : Layout) where
  -- What a list of calls over diagrams needs.
  abbrev pub Needed : List Task → Diagram → Type 0
  Needed tasks d = (t : Task) × Memᴰ t tasks × Needs K L t d

  -- An entry that the calls may have made: of a call inside one of them that is no shortcut, with its answer. Left open: which were offered.
  pub record Offering (n : Model) (tasks : List Task) (k : Key) (h : ℕ) : Type 0 where
    pub whole : Task
    pub asked : Memᴰ whole tasks
    pub part : Task
    pub inside : Inside K L whole part
    pub long : shortcut K L part ≡ false
    pub keyed : Keyed n part k
    pub answers : StandsFor n (result K L part) h

  -- What calls over diagrams did. Left open: which entries the store dropped.
  pub record Worked (m : Model) (tasks : List Task) (n : Model) : Type 0 where
    pub gains : Gains m n (Needed tasks)
    -- Where no call inside is long, every entry stays.
    pub still : ((t part : Task) → Memᴰ t tasks → Inside K L t part → shortcut K L part ≡ true) → EntriesStay m n
    -- Every entry was there before, or is one that the calls may have made.
    pub made : (k : Key) (g : ℕ) → n.entries k ≡ Some g → (m.entries k ≡ Some g) ⊎ Offering n tasks k g
    -- The store is as it was, or its newest entry is one that the calls may have made.
    pub newest : EntriesStay m n ⊎ ((k : Key) × (g : ℕ) × (n.entries k ≡ Some g) × Offering n tasks k g)

  -- A building call answered h, which has the rule that the call means.
  pub record Built (m : Model) (b : Build) (h : ℕ) (n : Model) : Type 0 where
    pub task : Task
    pub means : Means m b task
    pub answers : HasRule K L n h (meaning K L task)
    pub worked : Worked m (task ∷ []) n
    -- After a call that is no shortcut the store answers its key.
    pub stored : shortcut K L task ≡ false → (k : Key) → Keyed n task k → n.entries k ≡ Some h
    -- If it did so before, table and store are untouched.
    pub hit : (k : Key) (g : ℕ) → Keyed m task k → m.entries k ≡ Some g → (h ≡ g) × PlacesStay m n × EntriesStay m n

  -- The bytes s are the sheet of d, with no more leaves and nodes than the table has places.
  pub record Sheet (m : Model) (s : List ℕ) (d : Diagram) : Type 0 where
    pub good : Good K L 0 d
    pub bytes : s ≡ sheet K L d
    pub few : length (visited d []) ≤ capacity m

  -- A sheet was read, and h stands for the diagram that it was written from. Reading needs every record's rule.
  pub record Taken (m : Model) (s : List ℕ) (h : ℕ) (n : Model) : Type 0 where
    pub diagram : Diagram
    pub written : Sheet m s diagram
    pub answers : StandsFor n diagram h
    pub gains : Gains m n (λ d. Within d diagram)
    pub entries : EntriesStay m n

  -- p is the byte place of the first record in the sheet of d that finds the table full. `visited` lists the diagrams that its records stand for (`Ordered`).
  pub record Fills (m : Model) (d : Diagram) (p : ℕ) : Type 0 where
    pub before : List Diagram
    pub here : Diagram
    pub after : List Diagram
    pub all : visited d [] ≡ before ++ (here ∷ after)
    pub fits : ¬ Outnumber m (λ x. Memᴰ x before)
    pub full : Outnumber m (λ x. Memᴰ x (before ++ (here ∷ [])))
    pub place : p ≡ length (header K L ++ records (visited d []) before)

  module _ (m : Model) (q : Asked) where
    -- Refusal 6: a handle names no place in use.
    abbrev pub Unused : ℕ → ℕ → ℕ → Type 0
    Unused h = due 6 (content m h ≡ free)

    -- Refusal 11: the walk list is shorter than the capacity.
    abbrev pub Short : ℕ → ℕ → Type 0
    Short = due 11 (length q.walk < walk_room m q.call)

    -- Refusal 25 of a building call: the rules in use and the needed ones outnumber the capacity.
    abbrev pub Full : Build → ℕ → ℕ → Type 0
    Full b = due 25 ((t : Task) × Means m b t × Outnumber m (Needed (t ∷ [])))

    -- The faults of a call, in the order in which they are looked for.
    abbrev pub faults : Call → List (ℕ → ℕ → Type 0)
    faults (build (constant v)) = due 5 (¬ T (K.value v)) ∷ Full (constant v) ∷ []
    faults (build (mark i)) = due 2 (L.size ≤ i) ∷ Full (mark i) ∷ []
    faults (build (combine o x y)) = Unused x ∷ Unused y ∷ Full (combine o x y) ∷ []
    faults (build (restrict x i v)) = due 2 (L.size ≤ i) ∷ Unused x ∷ due 7 (2 ≤ v) ∷ Full (restrict x i v) ∷ []
    faults (read s) =
        Short ∷ Faulty K L (capacity m) s
        ∷ (λ f p. (f ≡ 25) × ((d : Diagram) × Sheet m s d × Fills m d p)) ∷ []
    faults (hold h) = Unused h ∷ due 9 (count m h ≡ 65535) ∷ []
    faults (let_go h) = Unused h ∷ due 10 (count m h ≡ 0) ∷ []
    faults sweep = Short ∷ []
    faults (look (size h)) = Unused h ∷ Short ∷ []
    faults (look (write h)) =
        Unused h ∷ Short ∷ due 12 ((d : Diagram) × StandsFor m d h × (length q.output < length (sheet K L d))) ∷ []
    faults (look (grade h fruit)) = Unused h ∷ due 8 (¬ Fruit L fruit) ∷ []
    faults release = []
    faults reopen = []

    -- The answer is x, and the output stays.
    abbrev pub Gives : Answer → ℕ → Type 0
    Gives a x = (a.reply ≡ gives x) × (a.output ≡ q.output)

    -- What an accepted look answers of the handle that stands for d.
    abbrev pub Shows : Look → Diagram → Answer → Type 0
    Shows (size h) d a = StandsFor m d h × Gives a (extent d)
    Shows (write h) d a =
        StandsFor m d h × (a.reply ≡ gives (length (sheet K L d)))
        × (a.output ≡ sheet K L d ++ drop (length (sheet K L d)) q.output)
    Shows (grade h fruit) d a = StandsFor m d h × Gives a (rule K L d fruit)

    -- What an accepted call does.
    abbrev pub Does : Call → Answer → Model → Type 0
    Does (build b) a n = (h : ℕ) × Gives a h × Built m b h n
    Does (read s) a n = (h : ℕ) × Gives a h × Taken m s h n
    Does (hold h) a n = (x : ℕ) × Gives a x × Counted m h x n × (x ≡ count m h + 1)
    Does (let_go h) a n = (x : ℕ) × Gives a x × Counted m h x n × (x + 1 ≡ count m h)
    Does sweep a n = (x : ℕ) × Gives a x × Swept m x n
    Does (look l) a n = (d : Diagram) × Shows l d a × PlacesStay m n × EntriesStay m n
    Does release a n = (a.reply ≡ done) × (a.output ≡ q.output) × PlacesStay m n × EntriesStay m n
    Does reopen a n = (a.reply ≡ done) × (a.output ≡ q.output) × PlacesStay m n × EntriesStay m n

    -- Accepted: no fault is there, and the call did what it does.
    pub record Accepted (a : Answer) (n : Model) : Type 0 where
      pub faultless : Faultless (faults q.call)
      pub phase : n.phase ≡ phase_after q.call m.phase
      pub does : Does q.call a n

    -- Refused with the first fault, and all is as before, but that table full empties the store.
    pub record Refused (a : Answer) (n : Model) : Type 0 where
      pub number : ℕ
      pub byte_place : ℕ
      pub first : First (faults q.call) number byte_place
      pub told : a.reply ≡ refused number (layer number) byte_place
      pub output : a.output ≡ q.output
      pub phase : n.phase ≡ m.phase
      pub places : PlacesStay m n
      pub emptied : number ≡ 25 → Forgotten n.entries
      pub entries : ¬ (number ≡ 25) → EntriesStay m n

    -- One call on the table m, its answer, and the table n after it.
    pub record Step (a : Answer) (n : Model) : Type 0 where
      pub takes : Takes q.call m.phase
      pub lent : Lent q.call q.walk q.output
      pub layout : n.layout ≡ m.layout
      pub walk : a.walk ≡ wiped (walk_room m q.call) q.walk
      pub outcome : Accepted a n ⊎ Refused a n
