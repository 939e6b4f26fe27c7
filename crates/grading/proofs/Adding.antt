-- What the open places still add, and that their turns come to the rule's value. Assumes nothing.
use Rattle.std.proofs.Common.{◌≡◌, ℕ, zero, suc, ◌<◌, T, eqb, List, [], ◌∷◌, ◌++◌, sym, refl, ap, ◌∙◌, subst, arith}
use Rattle.diagrams.specs.Kinds.{Kind}
use Rattle.diagrams.specs.Layouts.{Decomposition, shannon, positive, negative, Layout, bit}
use Rattle.diagrams.specs.Diagrams.{Lawful, Diagram, leaf, node, join, rule, Good}
use Rattle.diagrams.specs.Places.{Content, Stands}
use Rattle.diagrams.proofs.Nodes.{rule_value, good_up}
use Rattle.diagrams.proofs.Composing.{zero_sum}
use Rattle.places.specs.declared.places.Places.{Places}
use Rattle.places.specs.Tables.{holds}
use Rattle.layouts.specs.Turns.{chosen}
use Rattle.grading.specs.Turns.{opened, worth}
use Rattle.grading.proofs.Stacking.{Stacked, opened_stacked}

module _ (K : Kind) (L : Layout) (t : Places) (fruit : ℕ) where
  -- The open places stand for good diagrams, whose rules add up to v.
  abbrev pub Sums : List ℕ → ℕ → Type 0
  Sums [] v = v ≡ K.zero
  Sums (h ∷ hs) v = (d : Diagram) × (w : ℕ) × Stands (holds t) d h × Good K L 0 d × Sums hs w × (v ≡ K.sum (rule K L d fruit) w)

  -- The total and what the open places add come to v.
  pub record Left (hs : List ℕ) (total v : ℕ) : Type 0 where
    pub rest : ℕ
    pub sums : Sums hs rest
    pub whole : v ≡ K.sum total rest
    pub value : T (K.value total)

  -- The open places are few enough, and come with the total to the value of the handle's rule.
  pub record Adding (handle : ℕ) (hs : List ℕ) (total : ℕ) : Type 0 where
    pub stacked : Stacked t hs
    pub left : (d : Diagram) → Stands (holds t) d handle → Good K L 0 d → Left hs total (rule K L d fruit)

module _ (K : Kind) (L : Layout) (ok : Lawful K L) (t : Places) (fruit : ℕ) where
  open ok use {laws}

  sums_value : (hs : List ℕ) (v : ℕ) → Sums K L t fruit hs v → T (K.value v)
  sums_value [] v s = rw s laws.arithmetic.zero_value
  sums_value (h ∷ hs) v s = rw s.5 (laws.arithmetic.sum_value _ _ (rule_value ok 0 s.0 s.3 fruit) (sums_value hs s.1 s.4))

  -- The children that are chosen add what the node comes to.
  chosen_sums : (k : Decomposition) (c : ℕ) → c < 2 → (a b : Diagram) (x y : ℕ) → Stands (holds t) a x → Stands (holds t) b y
      → Good K L 0 a → Good K L 0 b → (hs : List ℕ) (w : ℕ) → Sums K L t fruit hs w
      → Sums K L t fruit (chosen k (eqb c 1) x y ++ hs) (K.sum (join K k c (rule K L a fruit) (rule K L b fruit)) w)
  chosen_sums k c lt a b x y p q ga gb hs w s = go k c lt
    where
      both : Sums K L t fruit (x ∷ y ∷ hs) (K.sum (K.sum (rule K L a fruit) (rule K L b fruit)) w)
      both = (
        a,
        K.sum (rule K L b fruit) w,
        p,
        ga,
        (b, w, q, gb, s, refl),
        laws.arithmetic.sum_assoc _ _ _ (rule_value ok 0 a ga fruit) (rule_value ok 0 b gb fruit) (sums_value hs w s),
      )

      go : (k : Decomposition) (c : ℕ) → c < 2
          → Sums K L t fruit (chosen k (eqb c 1) x y ++ hs) (K.sum (join K k c (rule K L a fruit) (rule K L b fruit)) w)
      go shannon zero lt = (a, w, p, ga, s, refl)
      go shannon (suc zero) lt = (b, w, q, gb, s, refl)
      go positive zero lt = (a, w, p, ga, s, refl)
      go positive (suc zero) lt = both
      go negative zero lt = both
      go negative (suc zero) lt = (a, w, p, ga, s, refl)
      go k (suc (suc c)) lt = absurd (omega arith)

  -- What a place adds, once it is visited: its worth at once, and the rest later.
  record Stepped (hs : List ℕ) (v : ℕ) (c : Content) : Type 0 where
    rest : ℕ
    sums : Sums K L t fruit (opened L fruit c ++ hs) rest
    whole : v ≡ K.sum (worth K c) rest
    value : T (K.value (worth K c))

  stepped : (h : ℕ) (hs : List ℕ) (v : ℕ) → Sums K L t fruit (h ∷ hs) v → Stepped hs v (holds t h)
  stepped h hs v s = go s.0 s.2 s.3 s.5
    where
      go : (d : Diagram) → Stands (holds t) d h → Good K L 0 d → v ≡ K.sum (rule K L d fruit) s.1 → Stepped hs v (holds t h)
      go (leaf u) p g e = subst (Stepped hs v) (sym p) (record { rest = s.1; sums = s.4; whole = e; value = g })
      go (node l a b) p g e =
          let added : ℕ = K.sum (rule K L (node l a b) fruit) s.1 in
          let valued : T (K.value added) = laws.arithmetic.sum_value _ _ (rule_value ok 0 (node l a b) g fruit) (sums_value hs s.1 s.4) in
          subst (Stepped hs v) (sym p.2) (
          record {
            rest = added;
            sums =
                chosen_sums (L.type l) (bit (L.mark l) fruit) (omega arith) a b p.0 p.1 p.3 p.4 (good_up ok 0 (suc l) a (omega arith) g.2)
                (good_up ok 0 (suc l) b (omega arith) g.3) hs s.1 s.4;
            whole = e ∙ sym (zero_sum ok added valued);
            value = laws.arithmetic.zero_value;
          }
          )

  pub began : (h : ℕ) → Adding K L t fruit h (h ∷ []) K.zero
  began h = record { stacked = (omega arith, tt); left = alone }
    where
      alone : (d : Diagram) → Stands (holds t) d h → Good K L 0 d → Left K L t fruit (h ∷ []) K.zero (rule K L d fruit)
      alone d p g =
          let a : ℕ = rule K L d fruit in
          let v : T (K.value a) = rule_value ok 0 d g fruit in
          record {
            rest = K.sum a K.zero;
            sums = (d, K.zero, p, g, refl, refl);
            whole = sym (ap (K.sum K.zero) (laws.arithmetic.sum_zero a v) ∙ zero_sum ok a v);
            value = laws.arithmetic.zero_value;
          }

  pub went : (handle h : ℕ) (hs : List ℕ) (total : ℕ) → Adding K L t fruit handle (h ∷ hs) total
      → Adding K L t fruit handle (opened L fruit (holds t h) ++ hs) (K.sum total (worth K (holds t h)))
  went handle h hs total x = record { stacked = opened_stacked t L fruit h hs x.stacked; left = λ d p g. on (x.left d p g) }
    where
      on : {v : ℕ} → Left K L t fruit (h ∷ hs) total v → Left K L t fruit (opened L fruit (holds t h) ++ hs) (K.sum total (worth K (holds t h))) v
      on b =
          let s = stepped h hs b.rest b.sums in
          record {
            rest = s.rest;
            sums = s.sums;
            whole =
                b.whole ∙ ap (K.sum total) s.whole ∙ sym (laws.arithmetic.sum_assoc _ _ _ b.value s.value (sums_value _ s.rest s.sums));
            value = laws.arithmetic.sum_value _ _ b.value s.value;
          }
