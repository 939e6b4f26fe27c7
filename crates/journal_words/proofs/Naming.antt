-- A name is text. Assumes nothing.
use Rattle.std.proofs.Common.{◌≡◌, ℕ, true, cond, ◌<◌, List, [], ◌∷◌, Some, None, Ok, Err, IsUtf8, Result, sym, ap, ◌∙◌, arith, Bor, MatchResult}
use Rattle.std.specs.Option.{option_map}
use Rattle.std.specs.Result.{result_ok}
use Rattle.std.specs.List.{list_all}
use Rattle.std.proofs.lemmas.Bool.Decides.{nat_tests}
use Rattle.std.proofs.lemmas.Bool.{and_parts}
use Rattle.journal_text.specs.declared.scan.Class.TheVariants.{NameByte}
use Rattle.journal_text.specs.Scans.{letter, within}
use Rattle.journal_words.specs.Requests.{is_name, name_of}
use Rattle.journal_text.proofs.Ascii.{is_text}

-- the bytes of names are ASCII
below : (b : ℕ) → within NameByte b ≡ true → b < 128
below b h = grind (arith, nat_tests)

name_text : (w : List ℕ) → is_name w ≡ true → IsUtf8 w
name_text [] h = cc
name_text (b ∷ w) h = is_text (within NameByte) below (b ∷ w) (and_parts (letter b) (list_all (within NameByte) (b ∷ w)) h).1

-- the text of a name is that name
pub named : {E : Type 0} (Q : E → Type 0) (w : List ℕ) (r : Result (Bor (List ℕ)) E) → is_name w ≡ true → MatchResult r (λ s. (s.now ≡ w) × IsUtf8 w) (λ e. (IsUtf8 w → ⊥) × Q e) → option_map (λ x. x.now) (result_ok r) ≡ name_of w
named Q w (Ok s) h c = ap Some c.0 ∙ sym (ap (λ t. cond t (Some w) None) h)
named Q w (Err e) h c = absurd (c.0 (name_text w h))
