-- Layouts: the mark and the type of each level; the calls that set a layout up; fruits, each mark a bit. Assumes nothing.
use Rattle.std.specs.Prelude.{◌≡◌, ℕ, zero, suc, ◌+◌, ◌*◌, ◌/◌, ◌%◌, ◌^◌, ◌<◌, ◌≤◌, cond, ◌&&◌, ◌==◌, nat_le, nat_lt}

-- How a node's rule comes from the rules below it.
pub data Decomposition : Type 0 where
  shannon positive negative : Decomposition

-- The number of marks and levels, the mark of a level, the level of a mark, and the type of a level.
pub record Layout : Type 0 where
  pub size : ℕ
  pub mark : ℕ → ℕ
  pub level : ℕ → ℕ
  pub type : ℕ → Decomposition

-- Each of the size levels has a mark of its own, and each of the size marks a level.
pub record Valid (L : Layout) : Type 0 where
  pub some : 0 < L.size
  pub most : L.size < 33
  pub mark_within : (l : ℕ) → l < L.size → L.mark l < L.size
  pub level_within : (i : ℕ) → i < L.size → L.level i < L.size
  pub level_mark : (l : ℕ) → l < L.size → L.level (L.mark l) ≡ l
  pub mark_level : (i : ℕ) → i < L.size → L.mark (L.level i) ≡ i

-- Mark i of a fruit, 0 or 1.
abbrev pub bit : ℕ → ℕ → ℕ
bit i fruit = fruit / 2 ^ i % 2

-- The fruit with mark i put to c.
abbrev pub put : ℕ → ℕ → ℕ → ℕ
put zero c fruit = fruit / 2 * 2 + c
put (suc i) c fruit = put i c (fruit / 2) * 2 + fruit % 2

-- The layout that one begins with.
abbrev pub begun : ℕ → Layout
begun n = record { size = n; mark = λ l. l; level = λ i. i; type = λ _. shannon }

-- l for m and m for l.
abbrev pub swapped : ℕ → ℕ → ℕ → ℕ
swapped l m k = cond (k == l) m (cond (k == m) l k)

-- The marks of levels l and m exchanged, each with its type.
abbrev pub exchanged : ℕ → ℕ → Layout → Layout
exchanged l m L = record {
  size = L.size;
  mark = λ k. L.mark (swapped l m k);
  level = λ i. swapped l m (L.level i);
  type = λ k. L.type (swapped l m k);
}

-- Mark i given the type t.
abbrev pub retyped : ℕ → Decomposition → Layout → Layout
retyped i t L = record { size = L.size; mark = L.mark; level = L.level; type = λ l. cond (l == L.level i) t (L.type l) }

-- The numbers of the types: 0 Shannon, 1 positive Davio, 2 negative Davio.
abbrev pub type_code : Decomposition → ℕ
type_code shannon = 0
type_code positive = 1
type_code negative = 2

-- The type of a number from 0 to 2.
abbrev pub type_of : ℕ → Decomposition
type_of zero = shannon
type_of (suc zero) = positive
type_of (suc (suc n)) = negative

-- What a call that sets up a layout comes to: a layout, or the number of a refusal, which leaves what was there.
pub data Setting : Type 0 where
  laid : Layout → Setting
  denied : ℕ → Setting

-- Beginning a layout of n marks: refused with 1 unless n lies in 1 to 32.
abbrev pub begin : ℕ → Setting
begin n = cond (nat_le 1 n && nat_le n 32) (laid (begun n)) (denied 1)

-- Exchanging the marks of two levels: refused with 2 where one is no level.
abbrev pub exchange : ℕ → ℕ → Layout → Setting
exchange l m L = cond (nat_lt l L.size && nat_lt m L.size) (laid (exchanged l m L)) (denied 2)

-- Setting the type of mark i by its number: refused with 2 where i is no mark, else with 3 where t is no type.
abbrev pub set_type : ℕ → ℕ → Layout → Setting
set_type i t L = cond (nat_lt i L.size) (cond (nat_le t 2) (laid (retyped i (type_of t) L)) (denied 3)) (denied 2)

-- A capacity lies in 2 to 4,096; another is refused with 4.
abbrev pub Capacious : ℕ → Type 0
Capacious c = (2 ≤ c) × (c ≤ 4096)

-- A fruit of a layout has no bit at the layout's size or above; another is refused with 8.
abbrev pub Fruit : Layout → ℕ → Type 0
Fruit L fruit = fruit < 2 ^ L.size
