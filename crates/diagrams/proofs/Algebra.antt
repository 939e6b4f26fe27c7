-- What the laws of a kind give of values, and of nodes. Assumes nothing.
use Rattle.std.proofs.Common.{◌≡◌, ℕ, zero, suc, T, sym, refl, ap, ◌∙◌}
use Rattle.diagrams.specs.Kinds.{Kind, Laws}
use Rattle.diagrams.specs.Layouts.{Decomposition, shannon, positive, negative}
use Rattle.diagrams.specs.Diagrams.{join}
use Rattle.diagrams.specs.Tasks.{Operation, sum, difference, product, act}

-- The value of the high part of a combination of the parts (a, b) and (c, d).
abbrev pub above : Kind → Decomposition → Operation → ℕ → ℕ → ℕ → ℕ → ℕ
above K t sum a b c d = K.sum b d
above K t difference a b c d = K.difference b d
above K shannon product a b c d = K.product b d
above K positive product a b c d = K.sum (K.sum (K.product a d) (K.product b c)) (K.product b d)
above K negative product a b c d = K.sum (K.sum (K.product a d) (K.product b c)) (K.product b d)

module _ {K : Kind} (laws : Laws K) where
  open K use {value, sum as ◌⊕◌, difference as ◌⊖◌, product as ◌⊗◌}
  open laws.arithmetic use {sum_value, difference_value, product_value, sum_assoc, sum_comm, sum_difference, difference_sum, product_sum, sum_product}

  infixl 60 ◌⊕◌
  infixl 60 ◌⊖◌
  infixl 70 ◌⊗◌
  pub restore : (a b : ℕ) → T (value a) → T (value b) → a ⊕ (b ⊖ a) ≡ b
  restore a b p q = sum_comm a _ p (difference_value b a q p) ∙ difference_sum b a q p

  left_comm : (a b c : ℕ) → T (value a) → T (value b) → T (value c) → a ⊕ (b ⊕ c) ≡ b ⊕ (a ⊕ c)
  left_comm a b c p q r = sym (sum_assoc a b c p q r) ∙ ap (λ x. x ⊕ c) (sum_comm a b p q) ∙ sum_assoc b a c q p r

  medial : (a b c d : ℕ) → T (value a) → T (value b) → T (value c) → T (value d) → (a ⊕ b) ⊕ (c ⊕ d) ≡ (a ⊕ c) ⊕ (b ⊕ d)
  medial a b c d p q r s = simp (sum_assoc, left_comm, sum_value)

  pub differences : (a b c d : ℕ) → T (value a) → T (value b) → T (value c) → T (value d) → (a ⊕ b) ⊖ (c ⊕ d) ≡ (a ⊖ c) ⊕ (b ⊖ d)
  differences a b c d p q r s =
      let x : ℕ = (a ⊖ c) ⊕ (b ⊖ d) in
      let back : x ⊕ (c ⊕ d) ≡ a ⊕ b = simp (medial, difference_sum, difference_value) in
      ap (λ y. y ⊖ (c ⊕ d)) (sym back) ∙ simp (sum_difference, sum_value, difference_value)

  pub products : (a b c d : ℕ) → T (value a) → T (value b) → T (value c) → T (value d)
      → (a ⊕ b) ⊗ (c ⊕ d) ≡ a ⊗ c ⊕ (a ⊗ d ⊕ b ⊗ c ⊕ b ⊗ d)
  products a b c d p q r s = simp (product_sum, sum_product, sum_assoc, left_comm, sum_value, product_value)

  pub act_value : (o : Operation) (a b : ℕ) → T (value a) → T (value b) → T (value (act K o a b))
  act_value sum = sum_value
  act_value difference = difference_value
  act_value product = product_value

  pub join_act : (t : Decomposition) (n : ℕ) (o : Operation) (a b c d : ℕ) → T (value a) → T (value b) → T (value c) → T (value d)
      → join K t n (act K o a c) (above K t o a b c d) ≡ act K o (join K t n a b) (join K t n c d)
  join_act shannon zero o a b c d p q r s = refl
  join_act shannon (suc n) sum a b c d p q r s = refl
  join_act shannon (suc n) difference a b c d p q r s = refl
  join_act shannon (suc n) product a b c d p q r s = refl
  join_act positive zero o a b c d p q r s = refl
  join_act positive (suc n) sum a b c d p q r s = medial a c b d p r q s
  join_act positive (suc n) difference a b c d p q r s = sym (differences a b c d p q r s)
  join_act positive (suc n) product a b c d p q r s = sym (products a b c d p q r s)
  join_act negative zero sum a b c d p q r s = medial a c b d p r q s
  join_act negative zero difference a b c d p q r s = sym (differences a b c d p q r s)
  join_act negative zero product a b c d p q r s = sym (products a b c d p q r s)
  join_act negative (suc n) o a b c d p q r s = refl
