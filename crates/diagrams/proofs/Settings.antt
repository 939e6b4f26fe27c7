-- Whatever a call that sets up a layout lays is a valid layout. Assumes nothing.
use Rattle.std.proofs.Common.{◌≡◌, ℕ, Bool, true, false, cond, ◌&&◌, ltb, leb, refl, subst, arith}
use Rattle.std.proofs.lemmas.Bool.{leb-true, ltb-true, and_parts}
use Rattle.diagrams.specs.Layouts.{Decomposition, shannon, positive, negative, Layout, Valid, begun, exchanged, retyped, type_code, type_of, laid, denied, begin, exchange, set_type}
use Rattle.diagrams.specs.Theorems.{LayoutsStayValid}
use Rattle.diagrams.proofs.Layouts.{begun_valid, exchanged_valid, retyped_valid}

-- A check that lays a layout or denies it: what was laid is that layout, and the check held.
laid_where : (check : Bool) (L M : Layout) (k : ℕ) → cond check (laid L) (denied k) ≡ laid M → (check ≡ true) × (L ≡ M)
laid_where true L M k e = let same : L ≡ M = cc in (refl, same)
laid_where false L M k e = let z : ◌≡◌ {A = ℕ} 0 1 = cc in absurd (omega arith)

begins_valid : (n : ℕ) (M : Layout) → begin n ≡ laid M → Valid M
begins_valid n M e =
    let r = laid_where (leb 1 n && leb n 32) (begun n) M 1 e in
    let p = and_parts (leb 1 n) (leb n 32) r.0 in
    subst Valid r.1 (begun_valid n (omega (arith, leb-true _ _ p.0)) (omega (arith, leb-true _ _ p.1)))

exchanges_valid : (L : Layout) (l m : ℕ) (M : Layout) → Valid L → exchange l m L ≡ laid M → Valid M
exchanges_valid L l m M valid e =
    let r = laid_where (ltb l L.size && ltb m L.size) (exchanged l m L) M 2 e in
    let p = and_parts (ltb l L.size) (ltb m L.size) r.0 in
    subst Valid r.1 (exchanged_valid L l m (ltb-true _ _ p.0) (ltb-true _ _ p.1) valid)

retypes_valid : (L : Layout) (i t : ℕ) (M : Layout) → Valid L → set_type i t L ≡ laid M → Valid M
retypes_valid L i t M valid e = go (ltb i L.size) e
  where
    go : (check : Bool) → cond check (cond (leb t 2) (laid (retyped i (type_of t) L)) (denied 3)) (denied 2) ≡ laid M → Valid M
    go true q = subst Valid (laid_where (leb t 2) (retyped i (type_of t) L) M 3 q).1 (retyped_valid L i (type_of t) valid)
    go false q = let z : ◌≡◌ {A = ℕ} 0 1 = cc in absurd (omega arith)

told : (t : Decomposition) → type_of (type_code t) ≡ t
told shannon = refl
told positive = refl
told negative = refl

pub stay_valid : LayoutsStayValid
stay_valid = record { begun_valid = begins_valid; exchanged_valid = exchanges_valid; retyped_valid = retypes_valid; type_told = told }
