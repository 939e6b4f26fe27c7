-- What a content tells of its place. Assumes nothing.
use Rattle.std.proofs.Common.{◌≡◌, ℕ, ◌<◌, Bool, true, false, ◌&&◌, ltb, refl, arith}
use Rattle.std.proofs.lemmas.Bool.{lt-ltb}
use Rattle.std.proofs.lemmas.Bool.Decides.{nat_tests}
use Rattle.diagrams.specs.Places.{Content, free, leaf_word, node_at, Place, vacant}
use Rattle.places.specs.declared.place.Content.{Content as Stored}
use Rattle.places.specs.Contents.{seen_content, in_use, leafy, depth, below, deep, quiet}

-- Contents that mean the same are the same, so the meaning of an answer pins it.
pub seen_one : (a b : Stored) → seen_content a ≡ seen_content b → a ≡ b
seen_one a b e = grind arith

pub unused_free : (c : Content) → in_use c ≡ false → c ≡ free
unused_free c e = grind arith

pub free_unused : (c : Content) → c ≡ free → in_use c ≡ true → ⊥
free_unused c e u = grind arith

pub used_not_free : (c : Content) → (c ≡ free → ⊥) → in_use c ≡ true
used_not_free c n = grind arith

pub leafy_used : (c : Content) → leafy c ≡ true → in_use c ≡ true
leafy_used c e = grind arith

pub leafy_deep : (c : Content) → leafy c ≡ true → depth c ≡ 32
leafy_deep c e = grind arith

-- A place that is not in use is the free one.
pub quiet_vacant : (p : Place) → quiet p ≡ true → in_use p.content ≡ false → p ≡ vacant
quiet_vacant p q n = grind (arith, nat_tests)

pub below_parts : (held : ℕ → Content) (l h : ℕ) → below held l h ≡ true → (in_use (held h) ≡ true) × (l < depth (held h))
below_parts held l h t = (grind (arith, nat_tests), grind (arith, nat_tests))

pub deep_parts : (held : ℕ → Content) (l x y : ℕ) → deep held (node_at l x y) ≡ true → (l < 32) × (below held l x ≡ true) × (below held l y ≡ true)
deep_parts held l x y t = (grind (arith, nat_tests), grind (arith, nat_tests), grind (arith, nat_tests))

all_three : (a b c : Bool) → a ≡ true → b ≡ true → c ≡ true → (a && b && c) ≡ true
all_three a b c p q r = grind arith

pub deep_from : (held : ℕ → Content) (l x y : ℕ) → l < 32 → below held l x ≡ true → below held l y ≡ true → deep held (node_at l x y) ≡ true
deep_from held l x y lt p q = all_three (ltb l 32) (below held l x) (below held l y) (lt-ltb l 32 lt) p q

-- What is deep stays deep where places in use keep what they hold.
pub deep_kept : (held after : ℕ → Content) → ((g : ℕ) → in_use (held g) ≡ true → after g ≡ held g)
    → (c : Content) → deep held c ≡ true → deep after c ≡ true
deep_kept held after k free t = refl
deep_kept held after k (leaf_word v) t = refl
deep_kept held after k (node_at l x y) t = grind (arith, nat_tests, k x, k y)
