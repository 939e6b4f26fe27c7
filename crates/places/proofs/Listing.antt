-- The places of a table as a list. Assumes nothing.
use Rattle.std.proofs.Common.{◌≡◌, ℕ, List, length, get_or, sym, ap, ◌∙◌, arith}
use Rattle.std.proofs.lemmas.Grind.{common_steps}
use Rattle.diagrams.specs.Places.{Place, vacant}
use Rattle.places.specs.declared.places.Places.{Places}
use Rattle.places.specs.Tables.{place, holds, list_of}
use Rattle.places.proofs.Extending.{past_vacant}

pub list_length : (t : Places) → length (list_of t) ≡ t.capacity
list_length t = grind (arith, common_steps, t.few, t.whole)

-- Each place is the list's, also past its end, where the list has the free one.
pub list_place : (t : Places) (h : ℕ) → get_or (list_of t) h vacant ≡ place t h
list_place t h = grind (arith, common_steps, list_length t, past_vacant t h)

pub list_holds : (t : Places) (h : ℕ) → (get_or (list_of t) h vacant).content ≡ holds t h
list_holds t h = ap (λ (p : Place). p.content) (list_place t h)

-- Tables of one list have the same places.
pub list_tells : (t u : Places) → list_of t ≡ list_of u → (t.capacity ≡ u.capacity) × ((h : ℕ) → place t h ≡ place u h)
list_tells t u e = (
  sym (list_length t) ∙ ap (λ (ps : List Place). length ps) e ∙ list_length u,
  λ h. sym (list_place t h) ∙ ap (λ (ps : List Place). get_or ps h vacant) e ∙ list_place u h,
)
