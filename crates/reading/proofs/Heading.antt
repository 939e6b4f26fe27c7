-- The head that a table expects of a sheet. Assumes nothing.
use Rattle.std.proofs.Common.{◌≡◌, ℕ, zero, suc, ◌+◌, ◌-◌, ◌*◌, ◌<◌, ◌≤◌, List, ◌∷◌, length, get_or, take, drop, replicate, sym, refl, ap, ◌∙◌, subst, ap₂, zero-add, arith}
use lib.ListN.{length-replicate}
use lib.Seq.{sets}
use Rattle.std.proofs.lemmas.List.{length-append, take_at, take_rest, drop_at}
use Rattle.diagrams.specs.Kinds.{Kind}
use Rattle.diagrams.specs.Layouts.{Layout, type_code}
use Rattle.diagrams.specs.Diagrams.{Lawful}
use Rattle.diagrams.specs.Sheets.{record_of, by_level}
use Rattle.diagrams.proofs.Whole.{length_by_level}
use Rattle.writing.specs.Heads.{head_body}
use Rattle.writing.proofs.Measuring.{sets_front}
use Rattle.sheets.specs.Judged.{Types}
use Rattle.sheets.specs.Scanned.{Suits}

by_level_at : (k l i : ℕ) (f : ℕ → ℕ) → i < k → get_or (by_level k l f) i 0 ≡ f (l + i)
by_level_at zero l i f inside = absurd (omega arith)
by_level_at (suc k) l zero f inside = ap f (omega arith)
by_level_at (suc k) l (suc i) f inside = by_level_at k (suc l) i f (omega arith) ∙ ap f (omega arith)

-- A run that is put at the front stands there.
put_first : (out xs : List ℕ) → length xs ≤ length out → take (length xs) (sets out 0 xs) ≡ xs
put_first out xs room = ap (take (length xs)) (sets_front out xs room) ∙ take_at xs (drop (length xs) out) (length xs) refl

module _ (K : Kind) (L : Layout) where
  abbrev marks : List ℕ
  marks = by_level L.size 0 L.mark

  abbrev forms : List ℕ
  forms = by_level L.size 0 (λ l. type_code (L.type l))

  pub body_length : length (head_body K L) ≡ 2 + 2 * L.size
  body_length =
      omega (arith, length-append marks forms, length_by_level L.size 0 L.mark, length_by_level L.size 0 (λ l. type_code (L.type l)))

  -- The types come last.
  types_last : drop (2 + L.size) (head_body K L) ≡ forms
  types_last =
      drop_at (K.code ∷ L.size ∷ marks) forms (2 + L.size) (omega (arith, length_by_level L.size 0 L.mark))

  types_told : Types L forms
  types_told = record {
    size = length_by_level L.size 0 (λ l. type_code (L.type l));
    type_at = λ l inside. by_level_at L.size 0 l (λ i. type_code (L.type i)) inside ∙ ap (λ i. type_code (L.type i)) (omega arith);
  }

  -- The record of a head that was made for the kind and the layout, put into 70 bytes, and the types at the end of the same head.
  pub suits : Lawful K L → (limit : ℕ) → limit ≤ 4096 → (body again out : List ℕ) (n end : ℕ) → body ≡ head_body K L → again ≡ head_body K L → n ≡ L.size
      → out ≡ sets (replicate 70 0) 0 (record_of 1 body) → end ≡ 0 + length (record_of 1 body)
      → Suits K L (take end out) (take (length again - (2 + n)) (drop (2 + n) again)) limit
  suits ok limit few body again out n end made same sized put after = record {
    lawful = ok;
    head_is =
        ap₂ take (after ∙ zero-add (length (record_of 1 body))) put
        ∙ put_first (replicate 70 0) (record_of 1 body) (omega (arith, ap length made, body_length, ok.valid.most, length-replicate {A = ℕ} 70 0)) ∙ ap (record_of 1) made;
    types_are = subst (Types L) (sym (take_rest again (2 + n) ∙ ap₂ (λ m bytes. drop (2 + m) bytes) sized same ∙ types_last)) types_told;
    small = omega arith;
  }
