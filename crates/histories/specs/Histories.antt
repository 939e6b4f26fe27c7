-- Histories of tables, and what is true of all of them. Assumes nothing.
use Rattle.std.specs.Prelude.{◌≡◌, ℕ, ◌≤◌, true, ◌↔◌, List, [], ◌∷◌, length, take, Some}
use Rattle.diagrams.specs.Kinds.{Kind}
use Rattle.diagrams.specs.Layouts.{Layout}
use Rattle.diagrams.specs.Diagrams.{Lawful, Diagram, rule, Good}
use Rattle.diagrams.specs.Sizes.{Within}
use Rattle.diagrams.specs.Sheets.{sheet}
use Rattle.diagrams.specs.Places.{free}
use Rattle.histories.specs.Stores.{Key}
use Rattle.histories.specs.Tables.{Model, capacity, place, content, Live, Outnumber, Exactly, Agree, HasRule, Made}
use Rattle.histories.specs.Requests.{Call, build, read, hold, let_go, sweep, look, write, release, reopen, Asked, Layer, gives, refused, Answer}
use Rattle.histories.specs.Steps.{Reached, is_reached, unreached_count, Step}
use Rattle.histories.specs.Books.{Log, book}

-- A sweep frees the place of h.
abbrev pub Frees : ℕ → Model → Asked → Model → Type 0
Frees h m q n = (q.call ≡ sweep) × Live m h × (content n h ≡ free)

-- A table of layout L to which steps lead from its making.
pub data Reachable (K : Kind) (L : Layout) : Model → Type 0 where
  fresh : {m : Model} (c : ℕ) → Made K L c m → Reachable K L m
  further : {m n : Model} {q : Asked} {a : Answer} → Reachable K L m → Step K L m q a n → Reachable K L n

-- With a walk list long enough, reading accepts bytes exactly when they are the sheet of some rule of that layout and kind and the table can
-- hold it; its answer has that rule.
pub record Reads (K : Kind) (L : Layout) (m : Model) (s : List ℕ) (a : Answer) (n : Model) : Type 0 where
  pub exactly : ((h : ℕ) × (a.reply ≡ gives h)) ↔ ((d : Diagram) × Good K L 0 d × (s ≡ sheet K L d) × (¬ Outnumber m (λ x. Within x d)))
  pub answers : (h : ℕ) → a.reply ≡ gives h → (d : Diagram) × (s ≡ sheet K L d) × HasRule K L n h (rule K L d)

-- What is true of a call that was answered by a step: the step, and for a read what it accepts.
pub record Told (K : Kind) (L : Layout) (m : Model) (q : Asked) (a : Answer) (n : Model) : Type 0 where
  pub step : Step K L m q a n
  pub reads : (s : List ℕ) → q.call ≡ read s → capacity m ≤ length q.walk → Reads K L m s a n

module _ (K : Kind) where
  -- The promise of a call: on a table to which steps lead from its making, it takes a step.
  abbrev pub Kept : Model → Asked → Answer → Model → Type 0
  Kept m q a n = Reachable K m.layout m → Step K m.layout m q a n

  -- Calls that keep their promise, each on what the one before left.
  pub data Since (m : Model) : Log → Model → Type 0 where
    none_yet : Since m [] m
    next : {log : Log} {k n : Model} {q : Asked} {a : Answer} → Since m log k → Kept k q a n → Since m ((q, a) ∷ log) n

  -- The calls and answers since the making of a table of layout L.
  pub record History (L : Layout) (log : Log) (m : Model) : Type 0 where
    pub first : Model
    pub places : ℕ
    pub made : Made K L places first
    pub since : Since first log m

  -- Each call was answered as its step says.
  abbrev pub AllTold : {m n : Model} {log : Log} → Layout → Since m log n → Type 0
  AllTold L none_yet = Unit {0}
  AllTold L (next {k = k} {n = n} {q = q} {a = a} s kept) = AllTold L s × Told K L k q a n

  -- No sweep among the calls frees the place of h.
  abbrev pub Unfreed : {m n : Model} {log : Log} → ℕ → Since m log n → Type 0
  Unfreed h none_yet = Unit {0}
  Unfreed h (next {k = k} {n = n} {q = q} s kept) = Unfreed h s × (¬ Frees h k q n)

  -- These bytes are a sheet that was written from h.
  pub record Wrote (m : Model) (h : ℕ) (bytes : List ℕ) : Type 0 where
    pub asked : Asked
    pub answer : Answer
    pub after : Model
    pub kept : Kept m asked answer after
    pub writes : asked.call ≡ look (write h)
    pub many : ℕ
    pub accepted : answer.reply ≡ gives many
    pub written : bytes ≡ take many answer.output

  -- What is true of one table.
  pub record Lasting (L : Layout) (log : Log) (m : Model) (p : History L log m) : Type 0 where
    pub told : AllTold L p.since
    -- Every live handle has a rule.
    pub ruled : (h : ℕ) → Live m h → (f : ℕ → ℕ) × HasRule K L m h f
    -- Two live handles are equal exactly when their rules agree on every fruit.
    pub same_handle : (g h : ℕ) (f f' : ℕ → ℕ) → HasRule K L m g f → HasRule K L m h f' → (g ≡ h) ↔ Agree L f f'
    -- A handle keeps its rule, and stays live, until a sweep frees its place.
    pub one_rule : (later : Log) (n : Model) (s : Since m later n) (h : ℕ) (f : ℕ → ℕ) → HasRule K L m h f → Unfreed h s → HasRule K L n h f
    -- A handle that the book has is live, and its rule and the book's agree on every fruit.
    pub booked : (h : ℕ) (f : ℕ → ℕ) → book K L log h ≡ Some f → HasRule K L m h f

-- Of any two tables of one layout and one kind, whatever their capacities and stores: what is true of each, and that sheets
-- written from a live handle of each have equal bytes exactly when both rules agree on every fruit.
abbrev pub Sameness : Type 0
Sameness = (K : Kind) (L : Layout) → Lawful K L
    → (log log' : Log) (m m' : Model) (p : History K L log m) (p' : History K L log' m')
    → Lasting K L log m p × Lasting K L log' m' p'
    × ((g h : ℕ) (f f' : ℕ → ℕ) (s s' : List ℕ) → HasRule K L m g f → HasRule K L m' h f'
    → Wrote K m g s → Wrote K m' h s' → (s ≡ s') ↔ Agree L f f')

-- The calls whose whole reply is fixed: all but those that answer a handle.
abbrev pub Fixed : Call → Type 0
Fixed (build b) = ⊥
Fixed (read s) = ⊥
Fixed (hold h) = Unit {0}
Fixed (let_go h) = Unit {0}
Fixed sweep = Unit {0}
Fixed (look l) = Unit {0}
Fixed release = Unit {0}
Fixed reopen = Unit {0}

-- Two tables have the same places, and their stores answer alike.
pub record SameState (n n' : Model) : Type 0 where
  -- Each place holds the same, and is held as often.
  pub places : (h : ℕ) → place n' h ≡ place n h
  -- The stores answer every key alike.
  pub entries : (k : Key) → n'.entries k ≡ n.entries k

-- Two steps from one table and one request agree on acceptance, on a refusal's number, layer and byte place, and on the whole reply where no
-- handle is chosen.
pub record Alike (q : Asked) (a b : Answer) : Type 0 where
  pub accepted : (x : ℕ) → a.reply ≡ gives x → (y : ℕ) × (b.reply ≡ gives y)
  pub refusals : (f : ℕ) (l : Layer) (p : ℕ) → a.reply ≡ refused f l p → b.reply ≡ a.reply
  pub replies : Fixed q.call → b.reply ≡ a.reply

-- So every table and every request have one outcome.
abbrev pub OneOutcome : Type 0
OneOutcome = (K : Kind) (L : Layout) → Lawful K L → (m n n' : Model) (q : Asked) (a b : Answer) → Reachable K L m
    → Step K L m q a n → Step K L m q b n' → Alike q a b

-- What two steps from one table and one request agree on beside their replies, with the answers a and b and the tables n and n' after them.
pub record AlikeAfter (q : Asked) (a b : Answer) (n n' : Model) : Type 0 where
  -- The walk lists after are equal.
  pub walk : b.walk ≡ a.walk
  -- The outputs after are equal.
  pub output : b.output ≡ a.output
  -- The tables after have one layout.
  pub layout : n'.layout ≡ n.layout
  -- They are in one phase.
  pub phase : n'.phase ≡ n.phase
  -- They have equally many places.
  pub room : capacity n' ≡ capacity n
  -- Their places and the answers of their stores are the same where no handle is chosen.
  pub settled : Fixed q.call → SameState n n'
  -- So they are wherever the call is refused.
  pub kept : (f : ℕ) (l : Layer) (p : ℕ) → a.reply ≡ refused f l p → SameState n n'

-- So every table and every request leave one table and one pair of lists, but for the places and the store after an accepted call that answers a handle.
abbrev pub OneOutcomeAfter : Type 0
OneOutcomeAfter = (K : Kind) (L : Layout) → Lawful K L → (m n n' : Model) (q : Asked) (a b : Answer) → Reachable K L m
    → Step K L m q a n → Step K L m q b n' → AlikeAfter q a b n n'

-- On the table m the check tells exactly what is reached, and exactly as many places as are counted are in use and not reached.
pub record CountsRight (m : Model) : Type 0 where
  pub reached : (h : ℕ) → (is_reached m h ≡ true) ↔ Reached m h
  pub unreached : Exactly (unreached_count m) (λ h. Live m h × (¬ Reached m h))

-- So it is on every table to which steps lead from its making: what a sweep answers is that count, since there is one such number.
abbrev pub ReachComputed : Type 0
ReachComputed = (K : Kind) (L : Layout) → Lawful K L → (m : Model) → Reachable K L m → CountsRight m
