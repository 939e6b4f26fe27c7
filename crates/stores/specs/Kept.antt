-- What each of the three stores answers, and what it keeps after an offer: an equation for every key. Assumes nothing.
use Rattle.std.specs.Prelude.{◌≡◌, ℕ, ◌+◌, ◌*◌, ◌%◌, cond, List, length, Some, None, Option, ◌==◌, slice_index_or}
use Rattle.histories.specs.Stores.{Key, Entries, same_key}
use Rattle.stores.specs.declared.Entry.{Entry}
use Rattle.stores.specs.declared.Key.{Key as Asked}
use Rattle.stores.specs.declared.last.Last.{Last}
use Rattle.stores.specs.declared.lent.Lent.{Lent}
use Rattle.stores.specs.declared.own.Own.{Own}
use Rattle.stores.specs.Keys.{key_of}

-- Two sets of entries are alike where every key is answered alike.
abbrev pub SameAnswers : Entries → Entries → Type 0
SameAnswers left right = (k : Key) → left k ≡ right k

-- No entries.
abbrev pub nothing : Entries
nothing k = None

-- An entry over others: its key is answered by it, every other key by the others.
abbrev pub over : Key → ℕ → Entries → Entries
over key answer others k = cond (same_key k key) (Some answer) (others k)

-- One entry and no others: what a store of the last offer keeps.
abbrev pub only : Key → ℕ → Entries
only key answer = over key answer nothing

-- An entry, if there is one, over others.
abbrev pub on_top : Option Entry → Entries → Entries
on_top None others = others
on_top (Some e) others = over (key_of e.key) e.answer others

-- The number of a key that spreads keys over slots.
abbrev pub hash : Key → ℕ
hash k = k.operation + 31 * k.left + 7 * k.right

-- The slot of a key among n slots.
abbrev pub slot_of : ℕ → Key → ℕ
slot_of n k = hash k % n

-- What a list of records answers: for every key, what the record in its slot answers.
abbrev pub in_slots : List (Option Entry) → Entries
in_slots list k = on_top (slice_index_or list (slot_of (length list) k) None) nothing k

-- Entries in n slots, less what is in the slot of a key.
abbrev pub cleared : ℕ → Key → Entries → Entries
cleared n key before k = cond (slot_of n k == slot_of n key) None (before k)

-- Entries in n slots after an entry is written over the slot of its key.
abbrev pub written : ℕ → Key → ℕ → Entries → Entries
written n key answer before = over key answer (cleared n key before)

-- Entries in n slots after an entry, if there is one, is written over the slot of its key; no slots keep nothing.
abbrev pub spilled : ℕ → Option Entry → Entries → Entries
spilled n None before k = before k
spilled n (Some e) before k = cond (n == 0) None (written n (key_of e.key) e.answer before k)

-- What the store of the last offer answers.
abbrev pub last_entries : Last → Entries
last_entries s = on_top s.newest nothing

-- What the store with slots of its own answers.
abbrev pub own_entries : Own → Entries
own_entries s = in_slots s.list

-- What the list of a lent store answers.
abbrev pub listed : Lent → Entries
listed s = in_slots s.list.now

-- How many slots the list of a lent store has.
abbrev pub size : Lent → ℕ
size s = length s.list.now

-- What the store over a lent list answers: its newest offer, over what the list answers.
abbrev pub lent_entries : Lent → Entries
lent_entries s = on_top s.newest (listed s)

-- A lent store after an offer. The offer stands over what the list answers, and is the newest; the former newest offer is spilled to its slot of the list.
pub record Renewed (before after : Lent) (key : Asked) (answer : ℕ) : Type 0 where
  pub kept : SameAnswers (lent_entries after) (over (key_of key) answer (spilled (size before) before.newest (listed before)))
  pub newest : after.newest ≡ Some (record { key = key; answer = answer })
  pub list : SameAnswers (listed after) (spilled (size before) before.newest (listed before))
  pub slots : size after ≡ size before
