-- Bytes as pairs of hex digits. Assumes nothing.
use Rattle.std.specs.Prelude.{◌≡◌, ℕ, ◌+◌, ◌-◌, ◌*◌, ◌/◌, ◌%◌, cond, ◌&&◌, List, [], ◌∷◌, Some, None, Ok, Err, vec_items, Option, Result, Vec, nat_le}
use Rattle.journal_text.specs.declared.hex.Unread.{Unread}
use Rattle.journal_text.specs.declared.hex.Unread.TheVariants as unread
use Rattle.journal_text.specs.declared.mistake.Mistake.{Mistake}
use Rattle.journal_text.specs.declared.mistake.Mistake.TheVariants.{OddHex, BadHex}
use Rattle.std.specs.Option.{ok_or}
use Rattle.std.specs.Str.{bytes_eq}

-- the digit, in small letters, of the low four bits
abbrev pub hex_digit : ℕ → ℕ
hex_digit n = cond (nat_le (n % 16) 9) (48 + n % 16) (87 + n % 16)

-- the value of a digit of either case
abbrev pub hex_value : ℕ → Option ℕ
hex_value d =
    cond (nat_le 48 d && nat_le d 57) (Some (d - 48))
    (cond (nat_le 97 d && nat_le d 102) (Some (d - 87))
    (cond (nat_le 65 d && nat_le d 70) (Some (d - 55)) None))

-- the byte of two digits, the high one first
abbrev pub pair_of : Option ℕ → Option ℕ → Option ℕ
pair_of None low = None
pair_of (Some high) None = None
pair_of (Some high) (Some low) = Some (high * 16 + low)

-- the byte of a pair of digits, or the mistake in it
abbrev pub byte_of : List ℕ → Result ℕ Mistake
byte_of (h ∷ l ∷ []) = ok_or (pair_of (hex_value h) (hex_value l)) BadHex
byte_of _ = Err OddHex

-- a byte before the bytes that follow
abbrev pub before : Option ℕ → Result (List ℕ) Mistake → Result (List ℕ) Mistake
before None more = Err BadHex
before (Some b) (Ok bs) = Ok (b ∷ bs)
before (Some b) (Err e) = Err e

-- the bytes of pairs of digits, or the first mistake in them
abbrev pub bytes_of : List ℕ → Result (List ℕ) Mistake
bytes_of [] = Ok []
bytes_of (h ∷ []) = Err OddHex
bytes_of (h ∷ l ∷ ds) = before (pair_of (hex_value h) (hex_value l)) (bytes_of ds)

-- the digits of a hex text, of which `-` has none
abbrev pub digits_of : List ℕ → List ℕ
digits_of w = cond (bytes_eq w (45 ∷ [])) [] w

-- the bytes of a hex text, or the first mistake in it
abbrev pub hex_of : List ℕ → Result (List ℕ) Mistake
hex_of w = bytes_of (digits_of w)

-- r is the bytes of the digits ds, or the mistake in them, or there was no memory for the bytes
abbrev pub Decoded : {Z : Type 0} → List ℕ → Result (Vec ℕ Z) Unread → Type 0
Decoded ds (Ok v) = bytes_of ds ≡ Ok (vec_items v)
Decoded ds (Err (unread.Mistake e)) = bytes_of ds ≡ Err e
Decoded ds (Err unread.NoMemory) = Unit {0}

-- the digits of bytes, two for each
abbrev pub digits : List ℕ → List ℕ
digits [] = []
digits (b ∷ bs) = hex_digit (b / 16) ∷ hex_digit b ∷ digits bs

-- the hex text of bytes, which is `-` where there are none
abbrev pub hex_text : List ℕ → List ℕ
hex_text [] = 45 ∷ []
hex_text (b ∷ bs) = digits (b ∷ bs)
