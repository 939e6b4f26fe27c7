-- The steps of a walk: a place come to before, a leaf, and a node after its children. Assumes nothing.
use Rattle.std.proofs.Common.{◌≡◌, ℕ, suc, ◌+◌, ◌<◌, ◌≢◌, List, [], ◌∷◌, ◌++◌, length, get_or, set, sym, refl, ap, ◌∙◌, subst, inl, inr, arith, get_or-set_other, get_or-set_same, drop-set-lt}
use mathlib.Core.List.Memᴰ
use Rattle.std.proofs.lemmas.List.{length-append}
use Rattle.diagrams.specs.Diagrams.{Diagram, leaf, node}
use Rattle.diagrams.specs.Sheets.{visited, number}
use Rattle.diagrams.specs.Places.{leaf_word, node_at, Stands}
use Rattle.diagrams.proofs.Places.{stands_for_one, one_handle}
use Rattle.diagrams.proofs.Visits.{Mem, by_leaf, by_visited, node_new, mem_last, distinct_push, number_here, number_there, number_more}
use Rattle.places.specs.declared.places.Places.{Places}
use Rattle.places.specs.Tables.{holds, Used}
use Rattle.places.proofs.Standing.{stands_used}
use Rattle.places.proofs.Extending.{unshared, used_below}
use Rattle.walks.specs.Walks.{Collected, Walked}
use Rattle.places.proofs.Drawing.{used_stands}
use Rattle.walks.proofs.Standing.{stand_push, stand_length, stand_few}

number_last : (ds : List Diagram) (d : Diagram) → ¬ Mem d ds → number d (ds ++ (d ∷ [])) ≡ length ds
number_last [] d n = number_here d []
number_last (e ∷ es) d n =
    number_there d e (es ++ (d ∷ [])) (λ p. n (Memᴰ.head p)) ∙ ap suc (number_last es d (λ m. n (Memᴰ.tail m)))

module _ (t : Places) where
  -- A walk is ready to leave a place: all that it has come to, and the diagram of the place, which is not among that.
  pub record Ready (h : ℕ) (marks order : List ℕ) (d : Diagram) (seen : List Diagram) : Type 0 where
    pub stands : Stands (holds t) d h
    pub fresh : ¬ Mem d seen
    pub begun : Collected t marks order seen

  -- There is room for one place more.
  pub ready_room : {h : ℕ} {marks order : List ℕ} {d : Diagram} {seen : List Diagram} → Ready h marks order d seen → length order < 4096
  ready_room {h} {marks} {order} {d} {seen} r =
      let few = stand_few t (order ++ (h ∷ [])) (seen ++ (d ∷ [])) (stand_push (holds t) order seen h d r.begun.stand r.stands)
      (distinct_push seen d r.begun.distinct r.fresh) in
      omega (arith, few, length-append order (h ∷ []), t.few)

  -- It leaves the place: the place comes last in the order, and its mark is its number and one.
  pub leave : {h : ℕ} {marks order : List ℕ} {d : Diagram} {seen : List Diagram} → Ready h marks order d seen → h < length marks
      → Collected t (set marks h (length order + 1)) (order ++ (h ∷ [])) (seen ++ (d ∷ []))
  leave {h} {marks} {order} {d} {seen} r inside = record {
    distinct = distinct_push seen d r.begun.distinct r.fresh;
    stand = stand_push (holds t) order seen h d r.begun.stand r.stands;
    marked = λ e g p m. elim (Memᴰ.append_cases seen m) [
      | inl q ↦ get_or-set_other marks h g (length order + 1) 0 (other e g p (λ same. r.fresh (Memᴰ.cast (sym same) q)))
          ∙ r.begun.marked e g p q
          ∙ ap (λ n. n + 1) (sym (number_more e seen (d ∷ []) q))
      | inr q ↦ here e g p (Memᴰ.eq_of_singleton q)
    ];
    unmarked = λ e g p n. get_or-set_other marks h g (length order + 1) 0 (other e g p (λ same. n (Memᴰ.cast same (mem_last d seen))))
        ∙ r.begun.unmarked e g p (λ m. n (Memᴰ.append_left (d ∷ []) m));
  }
    where
      other : (e : Diagram) (g : ℕ) → Stands (holds t) e g → ¬ (e ≡ d) → g ≢ h
      other e g p n same = n (stands_for_one (holds t) e d h (subst (Stands (holds t) e) same p) r.stands)

      here : (e : Diagram) (g : ℕ) → Stands (holds t) e g → e ≡ d → get_or (set marks h (length order + 1)) g 0 ≡ number e (seen ++ (d ∷ [])) + 1
      here e g p same =
          let q : g ≡ h = one_handle (holds t) (unshared t) d g h (subst (λ x. Stands (holds t) x g) same p) r.stands in
          ap (λ i. get_or (set marks h (length order + 1)) i 0) q
          ∙ get_or-set_same marks h (length order + 1) 0 inside
          ∙ ap (λ n. n + 1)
          (stand_length (holds t) order seen r.begun.stand ∙ sym (number_last seen d r.fresh) ∙ ap (λ x. number x (seen ++ (d ∷ []))) (sym same))

  -- The diagram of a place without a mark is not among what the walk has come to.
  unseen : {marks order : List ℕ} {seen : List Diagram} → Collected t marks order seen → (d : Diagram) (h : ℕ) → Stands (holds t) d h
      → get_or marks h 0 ≡ 0 → ¬ Mem d seen
  unseen b d h p zero m = omega (arith, b.marked d h p m, zero)

  -- From a place with a mark nothing new is reached.
  already : {marks order : List ℕ} {seen : List Diagram} → Collected t marks order seen → (d : Diagram) (h : ℕ) → Stands (holds t) d h
      → 0 < get_or marks h 0 → Collected t marks order (visited d seen)
  already {marks} {order} {seen} b (leaf v) h p some =
      by_leaf (Collected t marks order) v seen (λ _. b) (λ n. absurd (omega (arith, b.unmarked (leaf v) h p n)))
  already {marks} {order} {seen} b (node l x y) h p some =
      by_visited (Collected t marks order) l x y seen (λ _. b) (λ n. absurd (omega (arith, b.unmarked (node l x y) h p n)))

  pub walked_already : (h : ℕ) (marks order : List ℕ) → 0 < get_or marks h 0 → Walked t h marks order marks order
  walked_already h marks order some = record { visits = λ d seen p b. already b d h p some; past = refl }

  module _ (h : ℕ) (marks order : List ℕ) (zero : get_or marks h 0 ≡ 0) where
    -- What is no node is left at once.
    module _ (plain : (l x y : ℕ) → holds t h ≡ node_at l x y → ⊥) where
      pub plain_ready : (d : Diagram) (seen : List Diagram) → Stands (holds t) d h → Collected t marks order seen → Ready h marks order d seen
      plain_ready d seen p b = record { stands = p; fresh = unseen b d h p zero; begun = b }

      plain_visits : h < length marks → (d : Diagram) (seen : List Diagram) → Stands (holds t) d h → Collected t marks order seen
          → Collected t (set marks h (length order + 1)) (order ++ (h ∷ [])) (visited d seen)
      plain_visits inside (leaf v) seen p b =
          by_leaf (Collected t (set marks h (length order + 1)) (order ++ (h ∷ []))) v seen
          (λ m. absurd (unseen b (leaf v) h p zero m)) (λ _. leave (plain_ready (leaf v) seen p b) inside)
      plain_visits inside (node l x y) seen p b = absurd (plain l p.0 p.1 p.2)

      pub walked_plain : h < length marks → h < t.capacity → Walked t h marks order (set marks h (length order + 1)) (order ++ (h ∷ []))
      walked_plain inside below = record { visits = plain_visits inside; past = drop-set-lt t.capacity marks h (length order + 1) below }

    -- A node is left after its children.
    module _ (l x y : ℕ) (is : holds t h ≡ node_at l x y) (m₁ o₁ m₂ o₂ : List ℕ) (low : Walked t x marks order m₁ o₁)
        (high : Walked t y m₁ o₁ m₂ o₂) where
      ready : (k : ℕ) (a b : Diagram) (seen : List Diagram) → Stands (holds t) (node k a b) h → Collected t marks order seen
          → Ready h m₂ o₂ (node k a b) (visited b (visited a seen))
      ready k a b seen p begun =
          let e : node_at k p.0 p.1 ≡ node_at l x y = sym p.2 ∙ is in
          let left : p.0 ≡ x = cc in
          let right : p.1 ≡ y = cc in
          let first = low.visits a seen (subst (Stands (holds t) a) left p.3) begun in
          record {
            stands = p;
            fresh = node_new k a b seen (unseen begun (node k a b) h p zero);
            begun = high.visits b (visited a seen) (subst (Stands (holds t) b) right p.4) first;
          }

      pub node_ready : (d : Diagram) (seen : List Diagram) → Stands (holds t) d h → Collected t marks order seen
          → (e : Diagram) × (after : List Diagram) × Ready h m₂ o₂ e after
      node_ready (leaf v) seen p b = let e : leaf_word v ≡ node_at l x y = sym p ∙ is in let z : ◌≡◌ {A = ℕ} 0 1 = cc in absurd (omega arith)
      node_ready (node k a c) seen p b = (node k a c, visited c (visited a seen), ready k a c seen p b)

      node_visits : h < length m₂ → (d : Diagram) (seen : List Diagram) → Stands (holds t) d h → Collected t marks order seen
          → Collected t (set m₂ h (length o₂ + 1)) (o₂ ++ (h ∷ [])) (visited d seen)
      node_visits inside (leaf v) seen p b = let e : leaf_word v ≡ node_at l x y = sym p ∙ is in let z : ◌≡◌ {A = ℕ} 0 1 = cc in absurd (omega arith)
      node_visits inside (node k a c) seen p b =
          by_visited (Collected t (set m₂ h (length o₂ + 1)) (o₂ ++ (h ∷ []))) k a c seen
          (λ m. absurd (unseen b (node k a c) h p zero m)) (λ _. leave (ready k a c seen p b) inside)

      pub walked_node : h < length m₂ → h < t.capacity → Walked t h marks order (set m₂ h (length o₂ + 1)) (o₂ ++ (h ∷ []))
      walked_node inside below = record {
        visits = node_visits inside;
        past = drop-set-lt t.capacity m₂ h (length o₂ + 1) below ∙ high.past ∙ low.past;
      }

  -- The walk's marks and order, as the code has them.
  pub left : {h n : ℕ} {marks order m₂ o₂ m₃ o₃ o₄ : List ℕ} → Walked t h marks order (set m₂ h (length o₂ + 1)) (o₂ ++ (h ∷ []))
      → m₃ ≡ m₂ → o₃ ≡ o₂ → o₄ ≡ o₃ ++ (h ∷ []) → n ≡ length o₄ → Walked t h marks order (set m₃ h n) o₄
  left {h} {n} {marks} {order} {m₂} {o₂} {m₃} {o₃} {o₄} w p q e k =
      let all : o₄ ≡ o₂ ++ (h ∷ []) = e ∙ ap (λ o. o ++ (h ∷ [])) q in
      let many : n ≡ length o₂ + 1 = k ∙ ap length all ∙ length-append o₂ (h ∷ []) in
      rw (p, many, all) w

  -- From a place in use on, a walk that was begun is begun still.
  pub still_begun : (h : ℕ) (marks order marks' order' : List ℕ) → Used t h → (seen : List Diagram) × Collected t marks order seen
      → Walked t h marks order marks' order' → (after : List Diagram) × Collected t marks' order' after
  still_begun h marks order marks' order' used b w = let d = used_stands t h used in (visited d.0 b.0, w.visits d.0 b.0 d.1 b.1)

  -- Where the marks of all places are zero, a walk has come to nothing.
  pub begin : (marks : List ℕ) → ((h : ℕ) → h < t.capacity → get_or marks h 0 ≡ 0) → Collected t marks [] []
  begin marks zero = record {
    distinct = tt;
    stand = tt;
    marked = λ d h p m. absurd (Memᴰ.not-nil m);
    unmarked = λ d h p n. zero h (used_below t h (stands_used (holds t) d h p));
  }
