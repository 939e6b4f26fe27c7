-- What an operand takes of a line's words. Assumes nothing.
use Rattle.std.proofs.Common.{◌≡◌, ℕ, true, List, ◌∷◌, is_ok, Ok, Err, Result, sym, refl, ap, ◌∙◌, arith}
use Rattle.std.specs.Option.{ok_or}
use Rattle.journal_text.specs.declared.mistake.Mistake.{Mistake}
use Rattle.journal_words.specs.declared.words.Words.{Words}
use Rattle.journal_words.specs.Requests.{Slot, Part, answered, part, first}
use Rattle.journal_words.specs.Words.{left}
use Rattle.journal_words.specs.Takes.{Takes}
use Rattle.journal_text.specs.Scans.{Shows}
use Rattle.journal_words.specs.Verbs.{beside}
use Rattle.journal_words.proofs.Tables.{plain, same_row}

-- what is left of an answer that is not looked at
pub unlooked : {A B : Type 0} (r : Result A Mistake) (x : B) → is_ok r ≡ true → answered (λ _. x) r ≡ Ok x
unlooked (Ok a) x h = refl
unlooked (Err e) x h = let z : ◌≡◌ {A = ℕ} 0 1 = cc in absurd (omega arith)

as_part : {A : Type 0} (f : A → Part) (s : Slot) (before later : Words) (r : Result A Mistake) → first s (left before) ≡ answered (λ x. (f x, left later)) r → Takes f s before r later
as_part f s before later (Ok x) e = e
as_part f s before later (Err m) e = e

-- an operand that stands in a table of words
pub table_part : {A : Type 0} (rows : List (List ℕ × A)) (m : Mistake) (f : A → Part) (s : Slot) (before later : Words) (w text : List ℕ) (r : Result A Mistake) → ((w : List ℕ) (ws : List (List ℕ)) → part s w ws ≡ answered (λ x. (f x, ws)) (ok_or (beside rows w) m)) → plain rows ≡ true → left before ≡ w ∷ left later → Shows w text → r ≡ ok_or (beside rows text) m → Takes f s before r later
table_part rows m f s before later w text r is p e h found =
    as_part f s before later r
    (ap (first s) e ∙ is w (left later) ∙ ap (λ o. answered (λ x. (f x, left later)) (ok_or o m)) (sym (same_row rows w text p h)) ∙ ap (answered (λ x. (f x, left later))) (sym found))
