-- The head of a sheet: its rules, as the code checks them. Assumes nothing.
use Rattle.std.proofs.Common.{◌≡◌, ℕ, ◌+◌, ◌*◌, true, false, List, ◌++◌, length, take, drop, ltb, Option, Some, None, arith, sym, refl, inl, inr}
use Rattle.std.proofs.lemmas.Bool.{eq-eqb, ne_eqb, cases_Bool, both_ways, or_parts, ltb-false}
use Rattle.std.proofs.lemmas.List.{length-drop, length-take-le}
use Rattle.diagrams.specs.Kinds.{Kind}
use Rattle.diagrams.specs.Layouts.{Layout}
use Rattle.diagrams.specs.Sheets.{header}
use Rattle.diagrams.specs.Reading.{bad, fine, unless, begins, cut, kind_of, stated, in_turn, frame_rules, head_rules}
use Rattle.diagrams.proofs.Whole.{begins_split}
use Rattle.sheets.specs.declared.kind.RecordKind.TheVariants.{Head, Leaf, Node, End}
use Rattle.sheets.specs.declared.kind.RecordKind.{RecordKind}
use Rattle.sheets.specs.Codes.{Coded}

-- A number that stands for no kind is not in turn.
pub none_in_turn : (count n : ℕ) → Coded n None → in_turn count n ≡ false
none_in_turn count n h =
    rw (ne_eqb n 2 (λ e. h Leaf (sym e)), ne_eqb n 3 (λ e. h Node (sym e)), ne_eqb n 4 (λ e. h End (sym e))) refl

-- The number of what is no head is not a head's.
pub other_kind : (n : ℕ) (kind : Option RecordKind) → Coded n kind → ¬ (kind ≡ Some Head) → ¬ (n ≡ 1)
other_kind n (Some Head) h not_head e = not_head refl
other_kind n (Some Leaf) h not_head e = omega (arith, h)
other_kind n (Some Node) h not_head e = omega (arith, h)
other_kind n (Some End) h not_head e = omega (arith, h)
other_kind n None h not_head e = h Head (sym e)

-- A record that is out of turn.
pub out_of_turn : (count : ℕ) (bytes : List ℕ) → cut bytes ≡ false → in_turn count (kind_of bytes) ≡ false → unless bad (frame_rules count bytes) fine ≡ bad 14
out_of_turn count bytes whole turn = rw (whole, turn) refl

-- As long as a body that is whole.
pub body_long : (bytes : List ℕ) → cut bytes ≡ false → length (take (stated bytes) (drop 4 bytes)) ≡ stated bytes
body_long bytes whole =
    let parts = or_parts (ltb (length bytes) 4) (ltb (length bytes) (4 + stated bytes)) whole in
    length-take-le (stated bytes) (drop 4 bytes) (omega (arith, ltb-false _ _ parts.1, length-drop 4 bytes))

-- Bytes that are not said to begin with a list do not.
pub begins_not : (xs bytes : List ℕ) → ((rest : List ℕ) → bytes ≡ xs ++ rest → false ≡ true) → begins xs bytes ≡ false
begins_not xs bytes n =
    elim (cases_Bool (begins xs bytes)) [ inl p ↦ absurd (both_ways false refl (n _ (begins_split xs bytes p))) | inr p ↦ p ]

pub not_head : (K : Kind) (L : Layout) (limit : ℕ) (bytes : List ℕ) → cut bytes ≡ false → ¬ (kind_of bytes ≡ 1) → unless bad (head_rules K L limit bytes) fine ≡ bad 14
not_head K L limit bytes whole other = rw (whole, ne_eqb (kind_of bytes) 1 other) refl

module _ (K : Kind) (L : Layout) (limit : ℕ) (bytes : List ℕ) (whole : cut bytes ≡ false) (kind : kind_of bytes ≡ 1) where
  pub wrong_length : ¬ (stated bytes ≡ 2 + 2 * L.size) → unless bad (head_rules K L limit bytes) fine ≡ bad 15
  wrong_length n = rw (whole, eq-eqb (kind_of bytes) 1 kind, ne_eqb (stated bytes) (2 + 2 * L.size) n) refl

  pub wrong_head : stated bytes ≡ 2 + 2 * L.size → begins (header K L) bytes ≡ false → unless bad (head_rules K L limit bytes) fine ≡ bad 16
  wrong_head e n = rw (whole, eq-eqb (kind_of bytes) 1 kind, eq-eqb (stated bytes) (2 + 2 * L.size) e, n) refl
