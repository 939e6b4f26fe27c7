-- What a call needs is a list of diagrams. Assumes nothing.
use Rattle.std.proofs.Common.{◌≡◌, ℕ, zero, suc, ◌+◌, ◌⊎◌, List, [], ◌∷◌, sym, refl, ap, subst, inl, inr, arith}
use mathlib.Core.List.Memᴰ
use mathlib.Core.List.{flat_map, Memᴰ}
use Rattle.std.specs.List.{AllByRecursion}
use Rattle.diagrams.specs.Kinds.{Kind}
use Rattle.diagrams.specs.Layouts.{Layout}
use Rattle.diagrams.specs.Diagrams.{Lawful, Diagram}
use Rattle.diagrams.specs.Tasks.{Task, Fit, result}
use Rattle.diagrams.specs.Building.{smaller, Inside, itself, deeper, Needs}
use Rattle.diagrams.specs.Theorems.{Listed}
use Rattle.diagrams.proofs.Deeper.{deepens}

pub all_mem : {A : Type 0} (P : A → Type 0) {x : A} (xs : List A) → AllByRecursion P xs → Memᴰ x xs → P x
all_mem P [] all m = absurd (Memᴰ.not-nil m)
all_mem P (y ∷ ys) all (Memᴰ.head e) = rw e all.0
all_mem P (y ∷ ys) all (Memᴰ.tail m) = all_mem P ys all.1 m

module _ {A B : Type 0} where
  mem_flat : (f : A → List B) {x : A} {y : B} (xs : List A) → Memᴰ x xs → Memᴰ y (f x) → Memᴰ y (flat_map f xs)
  unfolding flat_map
  mem_flat f [] m n = absurd (Memᴰ.not-nil m)
  mem_flat f {x} {y} (z ∷ zs) (Memᴰ.head e) n = Memᴰ.append_left (flat_map f zs) (subst (λ u. Memᴰ y (f u)) e n)
  mem_flat f (z ∷ zs) (Memᴰ.tail m) n = Memᴰ.append_right (f z) (mem_flat f zs m n)

  flat_mem : (f : A → List B) {y : B} (xs : List A) → Memᴰ y (flat_map f xs) → (x : A) × Memᴰ x xs × Memᴰ y (f x)
  unfolding flat_map
  flat_mem f [] m = absurd (Memᴰ.not-nil m)
  flat_mem f {y} (z ∷ zs) m = go (Memᴰ.append_cases (f z) m) (λ n. flat_mem f zs n)
    where
      go : Memᴰ y (f z) ⊎ Memᴰ y (flat_map f zs) → (Memᴰ y (flat_map f zs) → (x : A) × Memᴰ x zs × Memᴰ y (f x))
          → (x : A) × Memᴰ x (z ∷ zs) × Memᴰ y (f x)
      go (inl n) rest = (z, Memᴰ.head refl, n)
      go (inr n) rest = let r = rest n in (r.0, Memᴰ.tail r.1, r.2)

module _ (K : Kind) (L : Layout) where
  -- The answers of a call and of the calls inside it, down to k calls inside one another.
  abbrev pub needs : ℕ → Task → List Diagram
  needs zero task = result K L task ∷ []
  needs (suc k) task = result K L task ∷ flat_map (needs k) (smaller K L task)

  unlisted : (k : ℕ) (task : Task) (d : Diagram) → Memᴰ d (needs k task) → Needs K L task d
  unlisted zero task d (Memᴰ.head e) = record { part = task; inside = itself refl; is = e }
  unlisted zero task d (Memᴰ.tail m) = absurd (Memᴰ.not-nil m)
  unlisted (suc k) task d (Memᴰ.head e) = record { part = task; inside = itself refl; is = e }
  unlisted (suc k) task d (Memᴰ.tail m) =
      let r = flat_mem (needs k) (smaller K L task) m in
      let n = unlisted k r.0 d r.2 in
      record { part = n.part; inside = deeper r.1 n.inside; is = n.is }

  listed : Lawful K L → (k l : ℕ) → l + k ≡ L.size → (task part : Task) → Fit K L l task → Inside K L task part
      → Memᴰ (result K L part) (needs k task)
  listed ok zero l h task part fit (itself e) = Memᴰ.head (ap (result K L) e)
  listed ok (suc k) l h task part fit (itself e) = Memᴰ.head (ap (result K L) e)
  listed ok zero l h task part fit (deeper m n) =
      let none = all_mem _ (smaller K L task) (deepens K L ok l (omega arith) task fit) m in absurd (omega arith)
  listed ok (suc k) l h task part fit (deeper {next = next} m n) =
      let fits = all_mem _ (smaller K L task) (deepens K L ok l (omega arith) task fit) m in
      Memᴰ.tail (mem_flat (needs k) (smaller K L task) m (listed ok k (suc l) (omega arith) next part fits.1 n))

pub lists : Listed
lists K L ok task fit = (
  needs K L L.size task,
  λ d. (
    λ n. subst (λ x. Memᴰ x (needs K L L.size task)) (sym n.is) (listed K L ok L.size 0 (omega arith) task n.part fit n.inside),
    unlisted K L L.size task d,
  ),
)
