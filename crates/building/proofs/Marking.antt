-- Building a constant and a mark: each place that is given stands for a diagram that the call needs. Assumes nothing.
use Rattle.std.proofs.Common.{◌≡◌, ℕ, ◌<◌, T, [], ◌∷◌, Some, None, Option, sym, refl, ap, ◌∙◌, subst, ap₂, arith}
use mathlib.Core.List.Memᴰ
use mathlib.Core.List.{Memᴰ}
use Rattle.diagrams.specs.Kinds.{Kind}
use Rattle.diagrams.specs.Layouts.{Decomposition, Layout}
use Rattle.diagrams.specs.Diagrams.{Lawful, Diagram, leaf, node, Good}
use Rattle.diagrams.specs.Tasks.{Task, constant, mark, result}
use Rattle.diagrams.specs.Building.{mark_low, mark_high, smaller, Inside, itself, deeper, Needs}
use Rattle.diagrams.specs.Places.{leaf_word, node_at, Stands}
use Rattle.diagrams.proofs.Places.{one_handle}
use Rattle.diagrams.proofs.Composing.{builds, mark_value}
use Rattle.diagrams.proofs.Results.{answer_good}
use Rattle.histories.specs.Stores.{Entries}
use Rattle.histories.specs.Tables.{Phase, StandsFor, Outnumber}
use Rattle.histories.specs.Steps.{Needed}
use Rattle.histories.proofs.Sound.{Sound}
use Rattle.places.specs.declared.places.Places.{Places}
use Rattle.places.specs.Tables.{holds, Held, Given, Refused, Filling}
use Rattle.places.proofs.Extending.{unshared, stands_still}
use Rattle.building.specs.Work.{model, Works, Went}
use Rattle.building.proofs.Seeing.{seen_stands}
use Rattle.building.proofs.Working.{own_needed}
use Rattle.building.proofs.Toward.{Toward, toward_start, toward_given, toward_gains, toward_full}

module _ (K : Kind) (L : Layout) (ok : Lawful K L) where
  -- What a smaller call answers is needed.
  part_needed : (task part : Task) → Memᴰ part (smaller K L task) → Needed K L (task ∷ []) (result K L part)
  part_needed task part m = (task, Memᴰ.head refl, record { part = part; inside = deeper m (itself refl); is = refl })

  -- Nothing else is needed by a call whose smaller calls are constants.
  constant_needs : (v : ℕ) (d : Diagram) → Needs K L (constant v) d → d ≡ result K L (constant v)
  constant_needs v d n = go n.inside n.is
    where
      go : {part : Task} → Inside K L (constant v) part → d ≡ result K L part → d ≡ result K L (constant v)
      go (itself e) is = is ∙ ap (result K L) e
      go (deeper m i) is = absurd (Memᴰ.not-nil m)

  leaf_result : (v : ℕ) → T (K.value v) → leaf v ≡ result K L (constant v)
  leaf_result v fit = builds K L ok (constant v) fit

  constant_all : (v : ℕ) → T (K.value v) → (u : Places) → Held u (leaf v) → (d : Diagram) → Needed K L (constant v ∷ []) d → Held u d
  constant_all v fit u held d n =
      let is : d ≡ result K L (constant v) = constant_needs v d (subst (λ t. Needs K L t d) (Memᴰ.eq_of_singleton n.1) n.2) in
      subst (Held u) (leaf_result v fit ∙ sym is) held

  pub constant_works : (v : ℕ) (t u : Places) (r : Option ℕ) → Filling t u (leaf_word v) r → Works K L (constant v) t u r
  constant_works v t u None n lawful fit f p sound =
      toward_full K L (Needed K L (constant v ∷ [])) f p (toward_start K L _ f p t sound) n (leaf v) (λ h s. s)
      (subst (Needed K L (constant v ∷ [])) (sym (leaf_result v fit)) (own_needed K L (constant v)))
  constant_works v t u (Some h) n lawful fit f p sound =
      let has = subst (Needed K L (constant v ∷ [])) (sym (leaf_result v fit)) (own_needed K L (constant v)) in
      let way = toward_given K L (Needed K L (constant v ∷ [])) (toward_start K L _ f p t sound) n (leaf v) n.here fit has in
      record {
        stands = subst (λ d. StandsFor (model L f p u) d h) (leaf_result v fit) (seen_stands L f p u (leaf v) h n.here);
        gains = toward_gains K L _ f f p p way (constant_all v fit u (h, n.here));
      }

  module _ (i : ℕ) (fit : i < L.size) where
    abbrev level : ℕ
    level = L.level i

    abbrev low_word : ℕ
    low_word = mark_low K (L.type level)

    abbrev high_word : ℕ
    high_word = mark_high K (L.type level)

    abbrev whole : Diagram
    whole = node level (leaf low_word) (leaf high_word)

    -- The diagrams that a mark needs: its two leaves and itself.
    abbrev P : Diagram → Type 0
    P = Needed K L (mark i ∷ [])

    low_value : T (K.value low_word)
    low_value = (mark_value ok (L.type level)).0

    high_value : T (K.value high_word)
    high_value = (mark_value ok (L.type level)).1

    low_needed : P (leaf low_word)
    low_needed = subst P (sym (leaf_result low_word low_value)) (part_needed (mark i) (constant low_word) (Memᴰ.head refl))

    high_needed : P (leaf high_word)
    high_needed = subst P (sym (leaf_result high_word high_value)) (part_needed (mark i) (constant high_word) (Memᴰ.tail (Memᴰ.head refl)))

    whole_result : whole ≡ result K L (mark i)
    whole_result = builds K L ok (mark i) (omega arith, fit)

    whole_needed : P whole
    whole_needed = subst P (sym whole_result) (own_needed K L (mark i))

    whole_good : Good K L 0 whole
    whole_good = subst (Good K L 0) (sym whole_result) (answer_good ok 0 (mark i) (omega arith, fit) (omega arith))

    mark_needs : (u : Places) → Held u (leaf low_word) → Held u (leaf high_word) → Held u whole → (d : Diagram) → P d → Held u d
    mark_needs u low high all d n = go needs.inside needs.is
      where
        needs : Needs K L (mark i) d
        needs = subst (λ t. Needs K L t d) (Memᴰ.eq_of_singleton n.1) n.2

        leaf_held : (v : ℕ) → T (K.value v) → Held u (leaf v) → {part : Task} → Inside K L (constant v) part → d ≡ result K L part → Held u d
        leaf_held v value held {part} j is =
            subst (Held u) (leaf_result v value ∙ sym (constant_needs v d (record { part = part; inside = j; is = is }))) held

        go : {part : Task} → Inside K L (mark i) part → d ≡ result K L part → Held u d
        go (itself e) is = subst (Held u) (whole_result ∙ sym (is ∙ ap (result K L) e)) all
        go {part} (deeper (Memᴰ.head e) j) is = leaf_held low_word low_value low (subst (λ t. Inside K L t part) e j) is
        go {part} (deeper (Memᴰ.tail (Memᴰ.head e)) j) is = leaf_held high_word high_value high (subst (λ t. Inside K L t part) e j) is
        go (deeper (Memᴰ.tail (Memᴰ.tail m)) j) is = absurd (Memᴰ.not-nil m)

    module _ (f : Entries) (p : Phase) {t : Places} (sound : Sound K L (model L f p t)) where
      pub no_low : {u : Places} → Refused t u (leaf_word low_word) → Outnumber (model L f p t) P
      no_low n = toward_full K L P f p (toward_start K L P f p t sound) n (leaf low_word) (λ h s. s) low_needed

      module _ {u : Places} {x : ℕ} (low : Given t u (leaf_word low_word) x) where
        first : Toward K L P t u
        first = toward_given K L P (toward_start K L P f p t sound) low (leaf low_word) low.here low_value low_needed

        pub no_high : {v : Places} → Refused u v (leaf_word high_word) → Outnumber (model L f p t) P
        no_high n = toward_full K L P f p first n (leaf high_word) (λ h s. s) high_needed

        module _ {v : Places} {y : ℕ} (high : Given u v (leaf_word high_word) y) where
          second : Toward K L P t v
          second = toward_given K L P first high (leaf high_word) high.here high_value high_needed

          low_stands : Stands (holds v) (leaf low_word) x
          low_stands = stands_still high.extends (leaf low_word) x low.here

          -- Only the node of these two children stands for the mark.
          told : (h : ℕ) → Stands (holds v) whole h → holds v h ≡ node_at level x y
          told h s =
              let left : s.0 ≡ x = one_handle (holds v) (unshared v) (leaf low_word) s.0 x s.3 low_stands in
              let right : s.1 ≡ y = one_handle (holds v) (unshared v) (leaf high_word) s.1 y s.4 high.here in
              s.2 ∙ ap₂ (node_at level) left right

          pub mark_went : (w : Places) (r : Option ℕ) → Filling v w (node_at level x y) r → Went K L (mark i) (model L f p t) (model L f p w) r
          mark_went w None n = toward_full K L P f p second n whole told whole_needed
          mark_went w (Some h) n =
              let here : Stands (holds w) whole h =
              (x, y, n.here, stands_still n.extends (leaf low_word) x low_stands, stands_still n.extends (leaf high_word) y high.here) in
              let third = toward_given K L P second n whole here whole_good whole_needed in
              record {
                stands = subst (λ d. StandsFor (model L f p w) d h) whole_result (seen_stands L f p w whole h here);
                gains = toward_gains K L P f f p p third (mark_needs w (x, here.3) (y, here.4) (h, here));
              }

-- What the code reads of a mark: its level and the words of its leaves.
pub record Reading (K : Kind) (L : Layout) (i level low high : ℕ) : Type 0 where
  pub level_is : level ≡ L.level i
  pub low_is : low ≡ mark_low K (L.type (L.level i))
  pub high_is : high ≡ mark_high K (L.type (L.level i))

-- It is read off the layout, by the type of the mark's level.
pub reading : (K : Kind) (L : Layout) (i level low high : ℕ) (t : Decomposition) → level ≡ L.level i → t ≡ L.type level → low ≡ mark_low K t
    → high ≡ mark_high K t → Reading K L i level low high
reading K L i l low high t here typed is_low is_high =
    let at : t ≡ L.type (L.level i) = typed ∙ ap L.type here in
    record { level_is = here; low_is = is_low ∙ ap (mark_low K) at; high_is = is_high ∙ ap (mark_high K) at }

-- The three ends of building a mark, by what the code reads: no room for low; none for high; and what filling the node comes to.
module _ (K : Kind) (L : Layout) (i level low high : ℕ) (read : Reading K L i level low high) {t : Places} where
  pub works_no_low : {u : Places} → Refused t u (leaf_word low) → Works K L (mark i) t u None
  works_no_low {u} n ok fit f p sound = no_low K L ok i fit.1 f p sound (subst (λ w. Refused t u (leaf_word w)) read.low_is n)

  module _ {u : Places} {x : ℕ} (given-low : Given t u (leaf_word low) x) where
    pub works_no_high : {v : Places} → Refused u v (leaf_word high) → Works K L (mark i) t v None
    works_no_high {v} n ok fit f p sound =
        no_high K L ok i fit.1 f p sound (subst (λ w. Given t u (leaf_word w) x) read.low_is given-low)
        (subst (λ w. Refused u v (leaf_word w)) read.high_is n)

    pub works_node : {v : Places} {y : ℕ} → Given u v (leaf_word high) y → (w : Places) (r : Option ℕ) → Filling v w (node_at level x y) r → Works K L (mark i) t w r
    works_node {v} {y} given-high w r n ok fit f p sound =
        mark_went K L ok i fit.1 f p sound (subst (λ z. Given t u (leaf_word z) x) read.low_is given-low)
        (subst (λ z. Given u v (leaf_word z) y) read.high_is given-high) w r (subst (λ l. Filling v w (node_at l x y) r) read.level_is n)
