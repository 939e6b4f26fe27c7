-- The shortcuts by handle are those by diagram. Assumes nothing.
use Rattle.std.proofs.Common.{◌≡◌, ℕ, ◌≤◌, true, Some, None, Option, refl, ◌∙◌, subst, arith}
use mathlib.Core.Option.{Option as Maybe, some}
use Rattle.diagrams.specs.Kinds.{Kind}
use Rattle.diagrams.specs.Diagrams.{Diagram, leaf, same}
use Rattle.diagrams.specs.Tasks.{Operation, sum, difference, product}
use Rattle.diagrams.specs.Building.{where_same, leaves, quick}
use Rattle.diagrams.specs.Places.{Content, free, leaf_word, node_at, Stands}
use Rattle.diagrams.proofs.Places.{stands_for_one, one_handle}
use Rattle.places.specs.declared.places.Places.{Places}
use Rattle.places.specs.Contents.{depth, deep}
use Rattle.places.specs.Tables.{holds, Used, Under}
use Rattle.places.proofs.Holding.{deep_parts}
use Rattle.places.proofs.Extending.{unshared, zero_under, under_higher}
use Rattle.building.specs.declared.quick.Answer.{Answer}
use Rattle.building.specs.declared.quick.Answer.TheVariants.{Handle, Value}
use Rattle.building.specs.Shortcuts.{floor, Rooted, Short, Leafy, Quickly, Last}

same_yes : (a b d : Diagram) (rest : Maybe Diagram) → a ≡ b → where_same a b d rest ≡ some d
same_yes a b d rest e = elim (same a b) as (λ s. elim s [ yes _ ↦ some d | no _ ↦ rest ] ≡ some d) [ yes _ ↦ refl | no n ↦ absurd (n e) ]

same_no : (a b d : Diagram) (rest : Maybe Diagram) → ¬ (a ≡ b) → where_same a b d rest ≡ rest
same_no a b d rest n = elim (same a b) as (λ s. elim s [ yes _ ↦ some d | no _ ↦ rest ] ≡ rest) [ yes e ↦ absurd (n e) | no _ ↦ refl ]

content_most : (t : Places) (c : Content) → deep (holds t) c ≡ true → depth c ≤ 32
content_most t free p = omega arith
content_most t (leaf_word v) p = omega arith
content_most t (node_at l x y) p = omega (arith, (deep_parts (holds t) l x y p).0)

-- No place stands deeper than a leaf.
pub depth_most : (t : Places) (h : ℕ) → depth (holds t h) ≤ 32
depth_most t h = content_most t (holds t h) (t.deeper h)

module _ (K : Kind) (t : Places) (a b : ℕ) where
  left : Used t a → Under t (floor t a b) a
  left u = record { used = u; level = omega arith }

  right : Used t b → Under t (floor t a b) b
  right u = record { used = u; level = omega arith }

  zeroth : Under t (floor t a b) 0
  zeroth = under_higher (omega (arith, depth_most t a)) (zero_under t)

  one_diagram : {x y : ℕ} → x ≡ y → (d e : Diagram) → Stands (holds t) d x → Stands (holds t) e y → d ≡ e
  one_diagram {x} {y} q d e p r = stands_for_one (holds t) d e y (subst (Stands (holds t) d) q p) r

  apart : {x y : ℕ} → (x ≡ y → ⊥) → (d e : Diagram) → Stands (holds t) d x → Stands (holds t) e y → ¬ (d ≡ e)
  apart {x} {y} n d e p r q = n (one_handle (holds t) (unshared t) e x y (subst (λ (z : Diagram). Stands (holds t) z x) q p) r)

  module _ (o : Operation) where
    pass : (r : Option Answer) (d e : Diagram) → quick K o d e ≡ leaves K o d e → Leafy K t o a b r d e → Short K t o a b r d e
    pass (Some (Handle h)) d e q p = absurd p
    pass (Some (Value v)) d e q p = q ∙ p
    pass None d e q p = q ∙ p

    through : (r : Option Answer) → (Rooted K t → (d e : Diagram) → Stands (holds t) d a → Stands (holds t) e b → quick K o d e ≡ leaves K o d e) → Last K t o a b r → Quickly K t o a b r
    through r q p = record { safe = p.safe; short = λ k d e x y. pass r d e (q k d e x y) (p.short d e x y) }

  pub sum_left : Used t b → a ≡ 0 → Quickly K t sum a b (Some (Handle b))
  sum_left u q = record { safe = right u; short = λ k d e x y. (e, same_yes _ _ _ _ (one_diagram q d _ x k.zero), y) }

  pub sum_right : Used t a → (a ≡ 0 → ⊥) → b ≡ 0 → Quickly K t sum a b (Some (Handle a))
  sum_right u n q = record { safe = left u; short = λ k d e x y. (d, same_no _ _ _ _ (apart n d _ x k.zero) ∙ same_yes _ _ _ _ (one_diagram q e _ y k.zero), x) }

  pub sum_rest : (r : Option Answer) → (a ≡ 0 → ⊥) → (b ≡ 0 → ⊥) → Last K t sum a b r → Quickly K t sum a b r
  sum_rest r m n = through sum r (λ k d e x y. same_no _ _ _ _ (apart m d _ x k.zero) ∙ same_no _ _ _ _ (apart n e _ y k.zero))

  pub difference_right : Used t a → b ≡ 0 → Quickly K t difference a b (Some (Handle a))
  difference_right u q = record { safe = left u; short = λ k d e x y. (d, same_yes _ _ _ _ (one_diagram q e _ y k.zero), x) }

  pub difference_same : (b ≡ 0 → ⊥) → a ≡ b → Quickly K t difference a b (Some (Handle 0))
  difference_same n q = record {
    safe = zeroth;
    short = λ k d e x y. (leaf K.zero, same_no _ _ _ _ (apart n e _ y k.zero) ∙ same_yes _ _ _ _ (one_diagram q d e x y), k.zero);
  }

  pub difference_rest : (r : Option Answer) → (b ≡ 0 → ⊥) → (a ≡ b → ⊥) → Last K t difference a b r → Quickly K t difference a b r
  difference_rest r m n = through difference r (λ k d e x y. same_no _ _ _ _ (apart m e _ y k.zero) ∙ same_no _ _ _ _ (apart n d e x y))

  pub product_left : a ≡ 0 → Quickly K t product a b (Some (Handle 0))
  product_left q = record { safe = zeroth; short = λ k d e x y. (leaf K.zero, same_yes _ _ _ _ (one_diagram q d _ x k.zero), k.zero) }

  pub product_right : (a ≡ 0 → ⊥) → b ≡ 0 → Quickly K t product a b (Some (Handle 0))
  product_right n q = record {
    safe = zeroth;
    short = λ k d e x y. (leaf K.zero, same_no _ _ _ _ (apart n d _ x k.zero) ∙ same_yes _ _ _ _ (one_diagram q e _ y k.zero), k.zero);
  }

  pub one_left : Used t b → (a ≡ 0 → ⊥) → (b ≡ 0 → ⊥) → a ≡ 1 → Quickly K t product a b (Some (Handle b))
  one_left u m n q = record {
    safe = right u;
    short = λ k d e x y.
        (e, same_no _ _ _ _ (apart m d _ x k.zero) ∙ same_no _ _ _ _ (apart n e _ y k.zero) ∙ same_yes _ _ _ _ (one_diagram q d _ x k.one), y);
  }

  pub one_right : Used t a → (a ≡ 0 → ⊥) → (b ≡ 0 → ⊥) → (a ≡ 1 → ⊥) → b ≡ 1 → Quickly K t product a b (Some (Handle a))
  one_right u m n i q = record {
    safe = left u;
    short = λ k d e x y. (
      d,
      same_no _ _ _ _ (apart m d _ x k.zero) ∙ same_no _ _ _ _ (apart n e _ y k.zero) ∙ same_no _ _ _ _ (apart i d _ x k.one)
          ∙ same_yes _ _ _ _ (one_diagram q e _ y k.one),
      x,
    );
  }

  pub product_rest : (r : Option Answer) → (a ≡ 0 → ⊥) → (b ≡ 0 → ⊥) → (a ≡ 1 → ⊥) → (b ≡ 1 → ⊥) → Last K t product a b r → Quickly K t product a b r
  product_rest r m n i j = through product r (λ k d e x y.
      same_no _ _ _ _ (apart m d _ x k.zero) ∙ same_no _ _ _ _ (apart n e _ y k.zero) ∙ same_no _ _ _ _ (apart i d _ x k.one)
      ∙ same_no _ _ _ _ (apart j e _ y k.one))
