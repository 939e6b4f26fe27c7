-- Hex, read a pair at a time. Assumes nothing.
use Rattle.std.proofs.Common.{◌≡◌, ℕ, zero, suc, ◌+◌, ◌/◌, ◌%◌, ◌<◌, min, Bool, true, false, cond, nat_le, List, [], ◌∷◌, ◌++◌, length, get_or, take, Some, None, Ok, Err, Option, Result, sym, refl, ap, ◌∙◌, append_assoc, add-one, arith, inl, inr, Bor}
use Rattle.std.specs.Str.{IsAscii}
use Rattle.std.proofs.lemmas.Str.{IsUtf8-from_ascii}
use Rattle.std.proofs.lemmas.Str.Ascii.{IsAscii-nil, IsAscii-cons}
use Rattle.std.specs.Option.{ok_or}
use Rattle.std.specs.declared.slice.Chunks.{Chunks}
use Rattle.std.specs.Slice.Iter.{chunks_rest, chunks_size, chunks_steps}
use Rattle.journal_text.specs.declared.mistake.Mistake.TheVariants.{BadHex}
use Rattle.journal_text.specs.declared.mistake.Mistake.{Mistake}
use Rattle.journal_text.specs.Hex.{hex_digit, hex_value, pair_of, byte_of, before, bytes_of, digits}
use Rattle.journal_text.specs.Scans.{Shows}

-- bytes before the bytes that follow
abbrev pub follows : List ℕ → Result (List ℕ) Mistake → Result (List ℕ) Mistake
follows bs (Ok more) = Ok (bs ++ more)
follows bs (Err e) = Err e

-- a byte more
pub follows_more : (bs : List ℕ) (b : ℕ) (more : Result (List ℕ) Mistake) → follows bs (before (Some b) more) ≡ follows (bs ++ (b ∷ [])) more
follows_more bs b (Ok more) = ap Ok (sym (append_assoc bs (b ∷ []) more))
follows_more bs b (Err e) = refl

-- no bytes before
pub follows_none : (r : Result (List ℕ) Mistake) → follows [] r ≡ r
follows_none (Ok bs) = refl
follows_none (Err e) = refl

-- a pair before the bytes that follow it
abbrev pub paired : Result ℕ Mistake → Result (List ℕ) Mistake → Result (List ℕ) Mistake
paired (Ok b) more = before (Some b) more
paired (Err e) more = Err e

-- the first pair of digits, and those after it
first_pair : (ds pair rest : List ℕ) → ds ≡ pair ++ rest → length pair ≡ min 2 (length ds) → 0 < length ds → bytes_of ds ≡ paired (byte_of pair) (bytes_of rest)
first_pair ds [] rest e n some = absurd (omega arith)
first_pair ds (h ∷ []) [] e n some = ap bytes_of e
first_pair ds (h ∷ []) (d ∷ rest) e n some = absurd (omega (arith, ap length e))
first_pair ds (h ∷ l ∷ []) rest e n some = ap bytes_of e ∙ by (pair_of (hex_value h) (hex_value l))
  where
    by : (o : Option ℕ) → before o (bytes_of rest) ≡ paired (ok_or o BadHex) (bytes_of rest)
    by None = refl
    by (Some b) = refl
first_pair ds (h ∷ l ∷ m ∷ pair) rest e n some = absurd (omega arith)

module _ (ds : List ℕ) (s t : Chunks ℕ) (pair : Bor (List ℕ)) (step : chunks_steps s (Some pair) t) (size : chunks_size s ≡ 2) (bs : List ℕ) (so_far : bytes_of ds ≡ follows bs (bytes_of (chunks_rest s))) where
  -- the pair comes next
  next : bytes_of ds ≡ follows bs (paired (byte_of pair.now) (bytes_of (chunks_rest t)))
  next = so_far ∙ ap (follows bs) (first_pair (chunks_rest s) pair.now (chunks_rest t) step.1.0 (omega (arith, step.1.1)) step.1.2)

  -- a pair of two digits is a byte more
  pub byte_more : (b : ℕ) → byte_of pair.now ≡ Ok b → bytes_of ds ≡ follows (bs ++ (b ∷ [])) (bytes_of (chunks_rest t))
  byte_more b is = next ∙ ap (λ r. follows bs (paired r (bytes_of (chunks_rest t)))) is ∙ follows_more bs b (bytes_of (chunks_rest t))

  -- any other pair is a mistake
  pub no_byte : (e : Mistake) → byte_of pair.now ≡ Err e → bytes_of ds ≡ Err e
  no_byte e is = next ∙ ap (λ r. follows bs (paired r (bytes_of (chunks_rest t)))) is

-- the digits of the next byte come last
pub digits_push : (bs : List ℕ) (i : ℕ) → i < length bs → digits (take (i + 1) bs) ≡ digits (take i bs) ++ (hex_digit (get_or bs i 0 / 16) ∷ hex_digit (get_or bs i 0) ∷ [])
digits_push [] i lt = absurd (omega arith)
digits_push (b ∷ bs) zero lt = refl
digits_push (b ∷ bs) (suc i) lt =
    let more = rw add-one at (digits_push bs i (omega arith)) in rw add-one (ap (λ l. hex_digit (b / 16) ∷ hex_digit b ∷ l) more)

-- the digits of bytes and of those after them
digits_append : (bs more : List ℕ) → digits (bs ++ more) ≡ digits bs ++ digits more
digits_append [] more = refl
digits_append (b ∷ bs) more = ap (λ l. hex_digit (b / 16) ∷ hex_digit b ∷ l) (digits_append bs more)

-- a digit is one byte of text
hex_digit_ascii : (n : ℕ) → hex_digit n < 128
hex_digit_ascii n = by (nat_le (n % 16) 9)
  where
    by : (small : Bool) → cond small (48 + n % 16) (87 + n % 16) < 128
    by true = omega arith
    by false = omega arith

-- digits are ASCII
digits_ascii : (bs : List ℕ) → IsAscii (digits bs)
digits_ascii [] = IsAscii-nil
digits_ascii (b ∷ bs) = IsAscii-cons _ (hex_digit b ∷ digits bs) (hex_digit_ascii (b / 16)) (IsAscii-cons _ (digits bs) (hex_digit_ascii b) (digits_ascii bs))

-- digits are text
digits_shown : (bs text : List ℕ) → Shows (digits bs) text → text ≡ digits bs
digits_shown bs text (inl e) = e
digits_shown bs text (inr (e, bad)) = absurd (bad (IsUtf8-from_ascii (digits bs) (digits_ascii bs)))

-- the digits of the next chunk come after those that are out
pub chunk_written : (bs out chunk rest text : List ℕ) → Shows (digits chunk) text → out ++ digits (chunk ++ rest) ≡ bs → (out ++ text) ++ digits rest ≡ bs
chunk_written bs out chunk rest text shows so_far = rw (digits_shown chunk text shows, append_assoc, ← digits_append chunk rest) so_far
