-- Words that stand in no table. Assumes nothing.
use Rattle.std.proofs.Common.{◌≡◌, ℕ, Bool, true, false, cond, ◌&&◌, ltb, List, [], ◌∷◌, length, Some, None, IsUtf8, sym, refl, ap, ◌∙◌, subst, inl, inr, arith}
use Rattle.std.specs.List.{list_all}
use Rattle.std.proofs.lemmas.Bool.{and_parts, ltb-true}
use Rattle.std.specs.Str.{bytes_eq}
use Rattle.std.proofs.lemmas.Slice.Eq.{bytes_eq-Decides}
use Rattle.journal_text.proofs.Ascii.{is_text}
use Rattle.journal_text.specs.Scans.{Shows}
use Rattle.journal_words.specs.Verbs.{beside}

-- w is none of the words of a table
abbrev pub Unlike : {A : Type 0} → List (List ℕ × A) → List ℕ → Type 0
Unlike [] w = Unit {0}
Unlike (row ∷ rows) w = (w ≡ row.0 → ⊥) × Unlike rows w

-- a word that is none of a table's has nothing beside it
pub unlisted : {A : Type 0} (rows : List (List ℕ × A)) (w : List ℕ) → Unlike rows w → beside rows w ≡ None
unlisted [] w u = refl
unlisted (row ∷ rows) w u = by (bytes_eq w row.0) refl (unlisted rows w u.1)
  where
    by : (t : Bool) → bytes_eq w row.0 ≡ t → beside rows w ≡ None → cond t (Some row.1) (beside rows w) ≡ None
    by true e more = absurd (u.0 ((bytes_eq-Decides w row.0).0 e))
    by false e more = more

-- each word of a table has a byte, and all its bytes are ASCII
abbrev pub plain : {A : Type 0} → List (List ℕ × A) → Bool
plain [] = true
plain (row ∷ rows) = (ltb 0 (length row.0) && list_all (λ b. ltb b 128) row.0) && plain rows

-- what is shown of a word finds what the word does
pub same_row : {A : Type 0} (rows : List (List ℕ × A)) (w text : List ℕ) → plain rows ≡ true → Shows w text → beside rows text ≡ beside rows w
same_row rows w text p (inl e) = ap (beside rows) e
same_row rows w text p (inr (e, bad)) = ap (beside rows) e ∙ unlisted rows [] (no_row rows p) ∙ sym (unlisted rows w (not_row rows p))
  where
    no_row : {A : Type 0} (rows : List (List ℕ × A)) → plain rows ≡ true → Unlike rows []
    no_row [] p = tt
    no_row (row ∷ rows) p =
        let q = and_parts (ltb 0 (length row.0) && list_all (λ b. ltb b 128) row.0) (plain rows) p in
        (λ e. omega (arith, ap length e, ltb-true 0 (length row.0) (and_parts (ltb 0 (length row.0)) (list_all (λ b. ltb b 128) row.0) q.0).0), no_row rows q.1)

    not_row : {A : Type 0} (rows : List (List ℕ × A)) → plain rows ≡ true → Unlike rows w
    not_row [] p = tt
    not_row (row ∷ rows) p =
        let q = and_parts (ltb 0 (length row.0) && list_all (λ b. ltb b 128) row.0) (plain rows) p in
        (λ e. bad (subst IsUtf8 (sym e) (is_text (λ b. ltb b 128) (λ b. ltb-true b 128) row.0 (and_parts (ltb 0 (length row.0)) (list_all (λ b. ltb b 128) row.0) q.0).1)), not_row rows q.1)
